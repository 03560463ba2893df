-- Laws of terms in rows: where they end, and how to go past them.
use mathlib.Core.Path.{◌≡◌, sym}
use mathlib.Core.List.{List}
use Prim.Native.Nat.{ℕ, ◌+◌, ◌-◌, ◌≤◌, ◌<◌}
use native.Mathlib.Omega.{arith}
use lib.ListN.{length}
use borrow.Author.Tests.{eq-eqb, ne_eqb}
use Rattle.term_parser.specs.Source.{Arity, one, many}
use Rattle.term_parser.specs.Rows.{application_kind}
use Rattle.term_parser.specs.Standing as parsed
use Rattle.term_parser.specs.Standing.{Written, number, meta, called, applied, nil as none, cons as more, size}
use Rattle.names.specs.Symbols.{Rows, column, row_at}
use Rattle.flattening.specs.Promises.{arity_of}

-- Terms end within the rows, and no earlier than they start; each takes a row at least.
pub stands_within : {n : Arity} (text : List ℕ) (rows : Rows) (t : Written n) (p q : ℕ) → parsed.Stands text rows p t q → p ≤ length rows → (p ≤ q) × (q ≤ length rows)
unfolding parsed.Stands
stands_within text rows (number v) p q h l = let a = h.0 in let b = h.3 in (omega arith, omega arith)
stands_within text rows (meta w) p q h l = let a = h.0.within in let b = h.1 in (omega arith, omega arith)
stands_within text rows (called w) p q h l = let a = h.0.within in let b = h.1 in (omega arith, omega arith)
stands_within text rows (applied w ts) p q h l = let a = h.0.within in let k = stands_within text rows ts (p + 1) q h.1 (omega arith) in (omega arith, k.1)
stands_within text rows none p q h l = let e : q ≡ p = h in (omega arith, omega arith)
stands_within text rows (more t ts) p q h l =
    let a = stands_within text rows t p h.0 h.1 l in
    let b = stands_within text rows ts h.0 q h.2 a.1 in
    (omega arith, b.1)

one_row : (text : List ℕ) (rows : Rows) (t : Written one) (p q : ℕ) → parsed.Stands text rows p t q → p < q
unfolding parsed.Stands
one_row text rows (number v) p q h = let b = h.3 in omega arith
one_row text rows (meta w) p q h = let b = h.1 in omega arith
one_row text rows (called w) p q h = let b = h.1 in omega arith
one_row text rows (applied w ts) p q h = let a = h.0.within in let k = stands_within text rows ts (p + 1) q h.1 (omega arith) in omega arith

pub stands_size : (text : List ℕ) (rows : Rows) (ts : Written many) (p q : ℕ) → parsed.Stands text rows p ts q → size ts + p ≤ q
unfolding parsed.Stands size
stands_size text rows none p q h = let e : q ≡ p = h in omega arith
stands_size text rows (more t ts) p q h = let a = one_row text rows t p h.0 h.1 in let b = stands_size text rows ts h.0 q h.2 in omega arith

-- Some terms in front of others.
unfoldable join : Written many → Written many → Written many
join none us = us
join (more t ts) us = more t (join ts us)

size_join : (ts us : Written many) → size (join ts us) ≡ size ts + size us
unfolding join size
size_join none us = omega arith
size_join (more t ts) us = let h = size_join ts us in omega arith

stands_join : (text : List ℕ) (rows : Rows) (ts us : Written many) (p m q : ℕ) → parsed.Stands text rows p ts m → parsed.Stands text rows m us q → parsed.Stands text rows p (join ts us) q
unfolding join parsed.Stands
stands_join text rows none us p m q h k = let e : m ≡ p = h in rw (sym e) k
stands_join text rows (more t ts) us p m q h k = (h.0, h.1, stands_join text rows ts us h.0 m q h.2 k)

-- What is left to go past: so many terms from the row p on.
abbrev pub Left : Rows → ℕ → ℕ → ℕ → ℕ → Type 0
Left rows at n p left = (text : List ℕ) (ts : Written many) (q : ℕ) → parsed.Stands text rows at ts q → size ts ≡ n → (us : Written many) × parsed.Stands text rows p us q × (size us ≡ left)

-- The row at p is taken: its arguments are left with the others.
pub left_turn : (rows : Rows) (at n p left : ℕ) → Left rows at n p left → 0 < left → Left rows at n (p + 1) (left - 1 + arity_of (column (row_at rows p) 0) (column (row_at rows p) 3))
unfolding parsed.Stands size
left_turn rows at n p left L some text ts q st sz = let x = L text ts q st sz in go x.0 x.1 x.2
  where
    leaf : (us : Written many) (m : ℕ) → m ≡ p + 1 → parsed.Stands text rows m us q → size us ≡ left - 1 → (column (row_at rows p) 0 ≡ application_kind → ⊥)
        → (vs : Written many) × parsed.Stands text rows (p + 1) vs q × (size vs ≡ left - 1 + arity_of (column (row_at rows p) 0) (column (row_at rows p) 3))
    leaf us m e h s other = (us, rw (sym e) h, (let z : left - 1 + 0 ≡ left - 1 = omega arith in rw (ne_eqb (column (row_at rows p) 0) 24 other, z) s))

    go : (us : Written many) → parsed.Stands text rows p us q → size us ≡ left
        → (vs : Written many) × parsed.Stands text rows (p + 1) vs q × (size vs ≡ left - 1 + arity_of (column (row_at rows p) 0) (column (row_at rows p) 3))
    go none h s = absurd (omega arith)
    go (more (number v) us) h s = leaf us h.0 h.1.3 h.2 (omega arith) (λ e. let k = h.1.1 in omega arith)
    go (more (meta w) us) h s = leaf us h.0 h.1.1 h.2 (omega arith) (λ e. let k = h.1.0.kinded in omega arith)
    go (more (called w) us) h s = leaf us h.0 h.1.1 h.2 (omega arith) (λ e. let k = h.1.0.kinded in omega arith)
    go (more (applied w ts) us) h s =
        let k : column (row_at rows p) 0 ≡ 24 = h.1.0.kinded in
        let c : column (row_at rows p) 3 ≡ size ts = h.1.0.counts in
        let j = size_join ts us in
        (join ts us, stands_join text rows ts us (p + 1) h.0 q h.1.1 h.2, rw (eq-eqb (column (row_at rows p) 0) 24 k) (omega arith))

pub left_start : (rows : Rows) (at n : ℕ) → Left rows at n at n
left_start rows at n text ts q st sz = (ts, st, sz)

-- None is left,
pub left_end : (rows : Rows) (at n p left : ℕ) → Left rows at n p left → left ≤ 0 → (text : List ℕ) (ts : Written many) (q : ℕ) → parsed.Stands text rows at ts q → size ts ≡ n → p ≡ q
unfolding parsed.Stands size
left_end rows at n p left L z text ts q st sz = let x = L text ts q st sz in go x.0 x.1 x.2
  where
    go : (us : Written many) → parsed.Stands text rows p us q → size us ≡ left → p ≡ q
    go none h s = sym h
    go (more t us) h s = absurd (omega arith)

-- and past the last row none can be left.
pub left_past : (rows : Rows) (at n p left : ℕ) → Left rows at n p left → 0 < left → length rows ≤ p → (text : List ℕ) (ts : Written many) (q : ℕ) → parsed.Stands text rows at ts q → size ts ≡ n → p ≡ q
unfolding parsed.Stands size
left_past rows at n p left L some past text ts q st sz = let x = L text ts q st sz in go x.0 x.1 x.2
  where
    go : (us : Written many) → parsed.Stands text rows p us q → size us ≡ left → p ≡ q
    go none h s = absurd (omega arith)
    go (more (number v) us) h s = absurd (let a = h.1.0 in omega arith)
    go (more (meta w) us) h s = absurd (let a = h.1.0.within in omega arith)
    go (more (called w) us) h s = absurd (let a = h.1.0.within in omega arith)
    go (more (applied w ts) us) h s = absurd (let a = h.1.0.within in omega arith)
