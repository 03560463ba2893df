-- The terms that are still to be seen, from a row on.
use Prim.Native.Nat.{ℕ, ◌+◌, ◌-◌, ◌≤◌, ◌<◌}
use native.Mathlib.Omega.{arith}
use mathlib.Core.Path.{◌≡◌, refl, sym, ap, ◌∙◌, subst}
use mathlib.Core.Bool.{Bool, true, false, cond, ◌&&◌}
use mathlib.Core.List.{List, []}
use lib.Dec.{eqb}
use borrow.Author.Tests.{eqb-true, eqb-false}
use lib.ListN.{length, get_or, take, drop}
use Rattle.std.proofs.lemmas.List.{get_or-drop, take_rest}
use Rattle.term_parser.specs.Source.{Arity, one, many}
use Rattle.term_parser.specs.Rows.{Rows}
use Rattle.term_parser.specs.Standing.{Written, number, meta, called, applied, nil, cons, size, Stands}
use Rattle.evaluation.specs.Expressions.{is_ground}
use Rattle.flattening.specs.Promises.{arity_of}
use Rattle.forward_calls.specs.Ground.{GroundAsked, GroundAnswered}

abbrev append : Written many → Written many → Written many
append nil us = us
append (cons t ts) us = cons t (append ts us)

size_append : (ts us : Written many) → size (append ts us) ≡ size ts + size us
unfolding size
size_append nil us = omega arith
size_append (cons t ts) us = let h = size_append ts us in omega arith

and_assoc : (a b c : Bool) → ((a && b) && c) ≡ (a && (b && c))
and_assoc true b c = refl
and_assoc false b c = refl

ground_append : (ts us : Written many) → is_ground (append ts us) ≡ (is_ground ts && is_ground us)
unfolding is_ground
ground_append nil us = refl
ground_append (cons t ts) us = ap (λ (b : Bool). is_ground t && b) (ground_append ts us) ∙ sym (and_assoc (is_ground t) (is_ground ts) (is_ground us))

stands_append : (text : List ℕ) (rows : Rows) (p m q : ℕ) (ts us : Written many) → Stands text rows p ts m → Stands text rows m us q → Stands text rows p (append ts us) q
unfolding Stands
stands_append text rows p m q nil us a b = subst (λ (x : ℕ). Stands text rows x us q) a b
stands_append text rows p m q (cons t ts) us a b = (a.0, a.1, stands_append text rows a.0 m q ts us a.2 b)

-- Each term has a row at least.
rows_enough : {n : Arity} (text : List ℕ) (rows : Rows) (p q : ℕ) (t : Written n) → Stands text rows p t q → p ≤ q
unfolding Stands
rows_enough text rows p q (number v) h = let e = h.3 in omega arith
rows_enough text rows p q (meta w) h = let e = h.1 in omega arith
rows_enough text rows p q (called w) h = let e = h.1 in omega arith
rows_enough text rows p q (applied w ts) h = let e = rows_enough text rows (p + 1) q ts h.1 in omega arith
rows_enough text rows p q nil h = let e : q ≡ p = h in omega arith
rows_enough text rows p q (cons t ts) h = let a = rows_enough text rows p h.0 t h.1 in let b = rows_enough text rows h.0 q ts h.2 in omega arith

-- What is left at the row i of a term that started at p.
pub record Left (text : List ℕ) (rows : Rows) (whole : Written one) (q i left : ℕ) : Type 0 where
  pub terms : Written many
  pub counted : size terms ≡ left
  pub stands : Stands text rows i terms q
  pub comes : is_ground terms ≡ is_ground whole

and_true : (b : Bool) → (b && true) ≡ b
and_true true = refl
and_true false = refl

pub left_start : (text : List ℕ) (rows : Rows) (p q : ℕ) (t : Written one) → Stands text rows p t q → Left text rows t q p 1
unfolding size Stands is_ground
left_start text rows p q t h = record { terms = cons t nil; counted = refl; stands = (q, h, refl); comes = and_true (is_ground t) }

-- The rows lie in the slice, and there are as many as terms.
ends_within : {n : Arity} (text : List ℕ) (rows : Rows) (p q : ℕ) (t : Written n) → p ≤ length rows → Stands text rows p t q → q ≤ length rows
unfolding Stands
ends_within text rows p q (number v) l h = let e = h.3 in let w = h.0 in omega arith
ends_within text rows p q (meta w) l h = let e = h.1 in let w = h.0.within in omega arith
ends_within text rows p q (called w) l h = let e = h.1 in let w = h.0.within in omega arith
ends_within text rows p q (applied w ts) l h = let w = h.0.within in ends_within text rows (p + 1) q ts (omega arith) h.1
ends_within text rows p q nil l h = let e : q ≡ p = h in omega arith
ends_within text rows p q (cons t ts) l h = ends_within text rows h.0 q ts (ends_within text rows p h.0 t l h.1) h.2

one_row : (text : List ℕ) (rows : Rows) (p q : ℕ) (t : Written one) → Stands text rows p t q → (p < length rows) × (p + 1 ≤ q)
unfolding Stands
one_row text rows p q (number v) h = let e = h.3 in (h.0, omega arith)
one_row text rows p q (meta w) h = let e = h.1 in (h.0.within, omega arith)
one_row text rows p q (called w) h = let e = h.1 in (h.0.within, omega arith)
one_row text rows p q (applied w ts) h = let e = rows_enough text rows (p + 1) q ts h.1 in (h.0.within, omega arith)

few_rows : (text : List ℕ) (rows : Rows) (p q : ℕ) (ts : Written many) → Stands text rows p ts q → p + size ts ≤ q
unfolding Stands size
few_rows text rows p q nil h = let e : q ≡ p = h in omega arith
few_rows text rows p q (cons t ts) h = let a = (one_row text rows p h.0 t h.1).1 in let b = few_rows text rows h.0 q ts h.2 in omega arith

abbrev kind_at : Rows → ℕ → ℕ
kind_at rows i = get_or (get_or rows i []) 0 0

abbrev count_at : Rows → ℕ → ℕ
count_at rows i = get_or (get_or rows i []) 3 0

module _ (text : List ℕ) (rows : Rows) (whole : Written one) (q i : ℕ) where
  -- A metavariable.
  meta_first : (ts : Written many) → 0 < size ts → Stands text rows i ts q → kind_at rows i ≡ 13 → is_ground ts ≡ false
  unfolding Stands size is_ground
  meta_first nil l h k = absurd (let z : ⊥ = omega arith in z)
  meta_first (cons (number v) ts) l h k = absurd (let e = h.1.1 in let z : ⊥ = omega arith in z)
  meta_first (cons (meta w) ts) l h k = refl
  meta_first (cons (called w) ts) l h k = absurd (let e = h.1.0.kinded in let z : ⊥ = omega arith in z)
  meta_first (cons (applied w us) ts) l h k = absurd (let e = h.1.0.kinded in let z : ⊥ = omega arith in z)

  -- What is left behind the row i.
  pub record Behind (ts : Written many) (left : ℕ) : Type 0 where
    pub terms : Written many
    pub counted : size terms ≡ left
    pub stands : Stands text rows (i + 1) terms q
    pub comes : is_ground terms ≡ is_ground ts

  -- A name or a numeral: the others are left.
  leaf_first : (ts : Written many) → 0 < size ts → Stands text rows i ts q → (kind_at rows i ≡ 13 → ⊥) → (kind_at rows i ≡ 24 → ⊥) → Behind ts (size ts - 1)
  unfolding Stands size is_ground
  leaf_first nil l h m a = absurd (let z : ⊥ = omega arith in z)
  leaf_first (cons (number v) ts) l h m a = record { terms = ts; counted = omega arith; stands = subst (λ (x : ℕ). Stands text rows x ts q) h.1.3 h.2; comes = refl }
  leaf_first (cons (meta w) ts) l h m a = absurd (m h.1.0.kinded)
  leaf_first (cons (called w) ts) l h m a = record { terms = ts; counted = omega arith; stands = subst (λ (x : ℕ). Stands text rows x ts q) h.1.1 h.2; comes = refl }
  leaf_first (cons (applied w us) ts) l h m a = absurd (a h.1.0.kinded)

  -- An application: its arguments are left, and then the others.
  application_first : (ts : Written many) → 0 < size ts → Stands text rows i ts q → kind_at rows i ≡ 24 → Behind ts (size ts - 1 + count_at rows i)
  unfolding Stands size is_ground
  application_first nil l h k = absurd (let z : ⊥ = omega arith in z)
  application_first (cons (number v) ts) l h k = absurd (let e = h.1.1 in let z : ⊥ = omega arith in z)
  application_first (cons (meta w) ts) l h k = absurd (let e = h.1.0.kinded in let z : ⊥ = omega arith in z)
  application_first (cons (called w) ts) l h k = absurd (let e = h.1.0.kinded in let z : ⊥ = omega arith in z)
  application_first (cons (applied w us) ts) l h k = record {
    terms = append us ts;
    counted = (let e = size_append us ts in let c = h.1.0.counts in omega arith);
    stands = stands_append text rows (i + 1) h.0 q us ts h.1.1 h.2;
    comes = ground_append us ts;
  }

-- The row i of the rows from a place on.
pub row_behind : (rows : Rows) (at i k : ℕ) → get_or (get_or (take (length rows - at) (drop at rows)) i []) k 0 ≡ get_or (get_or rows (at + i) []) k 0
row_behind rows at i k = rw (take_rest rows at, get_or-drop at rows i []) refl

none_left : (ts : Written many) → size ts ≡ 0 → true ≡ is_ground ts
unfolding size is_ground
none_left nil e = refl
none_left (cons t ts) e = absurd (let x : ⊥ = omega arith in x)

-- What holds at each row.
pub record Turn (text : List ℕ) (rows : Rows) (at left i : ℕ) : Type 0 where
  pub asked : GroundAsked text rows at
  pub all : (t : Written one) (q : ℕ) → Stands text rows at t q → Left text rows t q i left

pub turn_start : {text : List ℕ} {rows : Rows} {at : ℕ} → GroundAsked text rows at → Turn text rows at 1 at
turn_start {text} {rows} {at} h = record { asked = h; all = λ t q s. left_start text rows at q t s }

module _ {text : List ℕ} {rows : Rows} {at left i : ℕ} (h : Turn text rows at left i) where
  abbrev mine : Left text rows h.asked.term h.asked.next i left
  mine = h.all h.asked.term h.asked.next h.asked.stands

  ends : h.asked.next ≤ length rows
  ends =
      let a = (one_row text rows at h.asked.next h.asked.term h.asked.stands).0 in
      ends_within text rows at h.asked.next h.asked.term (omega arith) h.asked.stands

  pub bounded : i + left ≤ length rows
  bounded = let a = few_rows text rows i h.asked.next mine.terms mine.stands in let b = mine.counted in let c = ends in omega arith

  pub turn_done : left ≡ 0 → GroundAnswered text rows at true
  turn_done z = record { says = λ t q s. let m = h.all t q s in none_left m.terms (m.counted ∙ z) ∙ m.comes }

  module _ (l : 0 < left) where
    pub turn_meta : kind_at rows i ≡ 13 → GroundAnswered text rows at false
    turn_meta k = record { says = λ t q s. let m = h.all t q s in let c = m.counted in sym (meta_first text rows t q i m.terms (omega arith) m.stands k) ∙ m.comes }

    pub application_bounded : kind_at rows i ≡ 24 → left - 1 + count_at rows i ≤ length rows
    application_bounded k =
        let m = mine in let c = m.counted in
        let b = application_first text rows h.asked.term h.asked.next i m.terms (omega arith) m.stands k in
        let d = few_rows text rows (i + 1) h.asked.next b.terms b.stands in let e = b.counted in let f = ends in omega arith

    pub turn_application : kind_at rows i ≡ 24 → Turn text rows at (left - 1 + count_at rows i) (i + 1)
    turn_application k = record {
      asked = h.asked;
      all = λ t q s. let m = h.all t q s in let c = m.counted in let b = application_first text rows t q i m.terms (omega arith) m.stands k in
          record { terms = b.terms; counted = (let e = b.counted in omega arith); stands = b.stands; comes = b.comes ∙ m.comes };
    }

    pub turn_leaf : (kind_at rows i ≡ 13 → ⊥) → (kind_at rows i ≡ 24 → ⊥) → Turn text rows at (left - 1) (i + 1)
    turn_leaf a d = record {
      asked = h.asked;
      all = λ t q s. let m = h.all t q s in let c = m.counted in let b = leaf_first text rows t q i m.terms (omega arith) m.stands a d in
          record { terms = b.terms; counted = (let e = b.counted in omega arith); stands = b.stands; comes = b.comes ∙ m.comes };
    }

-- The column k of the row i of the rows from a place on.
abbrev behind : Rows → ℕ → ℕ → ℕ → ℕ
behind rows at i k = get_or (get_or (take (length rows - at) (drop at rows)) i []) k 0

-- The same at such a row.
module _ {text : List ℕ} {rows : Rows} {at left left' : ℕ} (i : ℕ) (h : Turn text rows at left (at + i)) (l : 0 < left) where
  pub turn_application_behind : behind rows at i 0 ≡ 24 → left' ≡ left - 1 + behind rows at i 3 → Turn text rows at left' (at + i + 1)
  turn_application_behind k e =
      subst (λ (n : ℕ). Turn text rows at n (at + i + 1)) (ap (λ (n : ℕ). left - 1 + n) (sym (row_behind rows at i 3)) ∙ sym e)
      (turn_application h l (sym (row_behind rows at i 0) ∙ k))

  pub turn_leaf_behind : (behind rows at i 0 ≡ 13 → ⊥) → (behind rows at i 0 ≡ 24 → ⊥) → left' ≡ left - 1 → Turn text rows at left' (at + i + 1)
  turn_leaf_behind m a e =
      subst (λ (n : ℕ). Turn text rows at n (at + i + 1)) (sym e)
      (turn_leaf h l (λ k. m (row_behind rows at i 0 ∙ k)) (λ k. a (row_behind rows at i 0 ∙ k)))

  -- Behind a row that is no metavariable stand as many terms more as the row has arguments.
  pub turn_behind : (behind rows at i 0 ≡ 13 → ⊥) → left' ≡ left - 1 + arity_of (behind rows at i 0) (behind rows at i 3) → Turn text rows at left' (at + i + 1)
  turn_behind m e = go (eqb (behind rows at i 0) 24) refl e
    where
      go : (b : Bool) → eqb (behind rows at i 0) 24 ≡ b → left' ≡ left - 1 + cond b (behind rows at i 3) 0 → Turn text rows at left' (at + i + 1)
      go true p e = turn_application_behind (eqb-true (behind rows at i 0) 24 p) e
      go false p e = turn_leaf_behind m (eqb-false (behind rows at i 0) 24 p) (omega arith)
