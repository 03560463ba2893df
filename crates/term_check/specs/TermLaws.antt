-- What checked rows are worth: they stand for a term, and for one term only, which ends at one place.
use Rattle.std.specs.Prelude.{ℕ, ◌+◌, ◌≤◌, ◌<◌, min, ◌≡◌, refl, List, ◌∷◌, ◌++◌, length, take, drop}
use Rattle.std.proofs.Common.{arith, ap, ap₂, ◌∙◌, subst, append_assoc, take-append-drop, length-append, length-drop, length-take-le}
use Rattle.std.proofs.Math.Path.{sym}
use Rattle.source_text.specs.Numerals.{numeral_of}
use Rattle.source_text.specs.Parts.{part_of}
use Rattle.std.specs.Prelude.{Some}
use Rattle.term_parser.specs.Source.{place, Arity, one, many, Source, numeral, metavariable, name, application, none, more, count}
use Rattle.term_parser.specs.Rows.{Rows, rows_of}
use Rattle.term_parser.specs.Standing.{Written, number, meta, called, applied, nil, cons, size, spelled, Stands, stands}
use Rattle.term_check.specs.TermRows.{Worded, Lies, TermAt}
use Rattle.term_check.specs.LyingLaws.{split, top_inside}

-- They stand for a term

pub lies_stands : (text : List ℕ) {rows : Rows} {p q : ℕ} (t : Source one) → p ≤ length rows → Lies rows p t q → Stands text rows p (spelled text t) q
lies_stands text {rows} {p} {q} t b l =
    let a : length (take p rows) ≡ p = length-take-le p rows b in
    let e : take p rows ++ (rows_of t ++ drop q rows) ≡ rows = ap (λ (r : Rows). take p rows ++ r) (sym l.are) ∙ take-append-drop p rows in
    let f : length (take p rows) + length (rows_of t) ≡ q = (let z = l.ends in omega arith) in
    let h = stands text (take p rows) (drop q rows) t in
    subst (λ (r : Rows). Stands text r p (spelled text t) q) e
    (subst (λ (i : ℕ). Stands text (take p rows ++ (rows_of t ++ drop q rows)) i (spelled text t) q) a
    (subst (λ (i : ℕ). Stands text (take p rows ++ (rows_of t ++ drop q rows)) (length (take p rows)) (spelled text t) i) f h))

pub term_inside : {text : List ℕ} {rows : Rows} {p q : ℕ} → TermAt text rows p q → p < length rows
term_inside {text} g = let x = split text g.term g.worded in top_inside g.term x.row x.terms x.rows g.lies

-- It has a row, and ends inside the rows.
pub term_ends : {text : List ℕ} {rows : Rows} {p q : ℕ} → TermAt text rows p q → (p < q) × (q ≤ length rows)
term_ends {text} {rows} {p} {q} g =
    let x = split text g.term g.worded in
    let a = ap length x.rows in
    let b = g.lies.ends in
    let c = term_inside g in
    let d = ap length g.lies.are in
    let e = length-drop p rows in
    let f = length-drop q rows in
    let h = length-append (rows_of g.term) (drop q rows) in
    (omega arith, omega arith)

pub term_stands : {text : List ℕ} {rows : Rows} {p q : ℕ} (g : TermAt text rows p q) → Stands text rows p (spelled text g.term) q
term_stands {text} g = let b = term_inside g in lies_stands text g.term (omega arith) g.lies

-- and for one term only

other : {A : Type 0} {a b : ℕ} {x y : List ℕ} {r s : Rows} → (a ≡ b → ⊥) → ◌≡◌ {A = Rows} ((a ∷ x) ∷ r) ((b ∷ y) ∷ s) → A
other n e = absurd (n (cc))

-- How many terms there are; one is not counted.
unfoldable width : {n : Arity} → Source n → ℕ
width (numeral p v) = 0
width (metavariable p) = 0
width (name p) = 0
width (application p ts) = 0
width none = 0
width (more t ts) = 1 + width ts

alone : (t u : Source one) → width t ≡ width u
unfolding width
alone t u = sym (zero t) ∙ zero u
  where
    zero : (t : Source one) → 0 ≡ width t
    zero (numeral p v) = refl
    zero (metavariable p) = refl
    zero (name p) = refl
    zero (application p ts) = refl

width_count : (ts : Source many) → width ts ≡ count ts
unfolding width count
width_count none = refl
width_count (more t ts) = ap (λ (i : ℕ). 1 + i) (width_count ts)

rows_one : {n : Arity} (text : List ℕ) (t u : Source n) (r s : Rows) → Worded text t → Worded text u → width t ≡ width u → rows_of t ++ r ≡ rows_of u ++ s
    → (t ≡ u) × (r ≡ s)
unfolding rows_of width
rows_one text (numeral (place a m) v) (numeral (place b k) w) r s x y i e =
    let f : a ≡ b = cc in
    let g : m ≡ k = cc in
    let h : Some v ≡ Some w = sym x.1 ∙ ap₂ (λ (j l : ℕ). numeral_of (part_of text j l)) f g ∙ y.1 in
    let z : v ≡ w = cc in
    (ap₂ numeral (ap₂ place f g) z, cc)
rows_one text (metavariable (place a m)) (metavariable (place b k)) r s x y i e =
    let f : a ≡ b = cc in
    let g : m ≡ k = cc in
    (ap metavariable (ap₂ place f g), cc)
rows_one text (name (place a m)) (name (place b k)) r s x y i e =
    let f : a ≡ b = cc in
    let g : m ≡ k = cc in
    (ap name (ap₂ place f g), cc)
rows_one text (application (place a m) ts) (application (place b k) us) r s x y i e =
    let f : a ≡ b = cc in
    let g : m ≡ k = cc in
    let c : count ts ≡ count us = cc in
    let d : rows_of ts ++ r ≡ rows_of us ++ s = cc in
    let h = rows_one text ts us r s x.2 y.2 (width_count ts ∙ c ∙ sym (width_count us)) d in
    (ap₂ application (ap₂ place f g) h.0, h.1)
rows_one text none none r s x y i e = (refl, e)
rows_one text (more t ts) (more u us) r s x y i e =
    let d : rows_of t ++ (rows_of ts ++ r) ≡ rows_of u ++ (rows_of us ++ s) = sym (append_assoc (rows_of t) (rows_of ts) r) ∙ e ∙ append_assoc (rows_of u) (rows_of us) s in
    let h = rows_one text t u (rows_of ts ++ r) (rows_of us ++ s) x.0 y.0 (alone t u) d in
    let g = rows_one text ts us r s x.1 y.1 (omega arith) h.1 in
    (ap₂ more h.0 g.0, g.1)
rows_one text (numeral (place a m) v) (metavariable (place b k)) r s x y i e = other (λ z. omega arith) e
rows_one text (numeral (place a m) v) (name (place b k)) r s x y i e = other (λ z. omega arith) e
rows_one text (numeral (place a m) v) (application (place b k) us) r s x y i e = other (λ z. omega arith) e
rows_one text (metavariable (place a m)) (numeral (place b k) w) r s x y i e = other (λ z. omega arith) e
rows_one text (metavariable (place a m)) (name (place b k)) r s x y i e = other (λ z. omega arith) e
rows_one text (metavariable (place a m)) (application (place b k) us) r s x y i e = other (λ z. omega arith) e
rows_one text (name (place a m)) (numeral (place b k) w) r s x y i e = other (λ z. omega arith) e
rows_one text (name (place a m)) (metavariable (place b k)) r s x y i e = other (λ z. omega arith) e
rows_one text (name (place a m)) (application (place b k) us) r s x y i e = other (λ z. omega arith) e
rows_one text (application (place a m) ts) (numeral (place b k) w) r s x y i e = other (λ z. omega arith) e
rows_one text (application (place a m) ts) (metavariable (place b k)) r s x y i e = other (λ z. omega arith) e
rows_one text (application (place a m) ts) (name (place b k)) r s x y i e = other (λ z. omega arith) e
rows_one text none (more u us) r s x y i e = absurd (omega arith)
rows_one text (more t ts) none r s x y i e = absurd (omega arith)

pub term_one : {text : List ℕ} {rows : Rows} {p q m : ℕ} (g : TermAt text rows p q) (h : TermAt text rows p m) → (g.term ≡ h.term) × (q ≡ m)
term_one {text} {rows} {p} {q} {m} g h =
    let e : g.term ≡ h.term = (rows_one text g.term h.term (drop q rows) (drop m rows) g.worded h.worded (alone g.term h.term) (sym g.lies.are ∙ h.lies.are)).0 in
    (e, g.lies.ends ∙ ap (λ (t : Source one). p + length (rows_of t)) e ∙ sym h.lies.ends)

-- So whatever term they stand for is that term; but a row holds no numeral above 2^32 - 1.

-- The term with each numeral cut to what a row holds.
abbrev pub cut : {n : Arity} → Written n → Written n
cut (number v) = number (min v 4294967295)
cut (meta w) = meta w
cut (called w) = called w
cut (applied w ts) = applied w (cut ts)
cut nil = nil
cut (cons t ts) = cons (cut t) (cut ts)

-- How many terms there are; one is not counted.
unfoldable breadth : {n : Arity} → Written n → ℕ
breadth (number v) = 0
breadth (meta w) = 0
breadth (called w) = 0
breadth (applied w ts) = 0
breadth nil = 0
breadth (cons t ts) = 1 + breadth ts

single : (t : Written one) → 0 ≡ breadth t
unfolding breadth
single (number v) = refl
single (meta w) = refl
single (called w) = refl
single (applied w ts) = refl

breadth_size : (ts : Written many) → breadth ts ≡ size ts
unfolding breadth size
breadth_size nil = refl
breadth_size (cons t ts) = ap (λ (i : ℕ). 1 + i) (breadth_size ts)

module _ (text : List ℕ) (rows : Rows) where
  -- Terms that stand at one place are the same, and end at the same place.
  stands_same : {n : Arity} (t u : Written n) (p q m : ℕ) → breadth t ≡ breadth u → Stands text rows p t q → Stands text rows p u m → (cut t ≡ cut u) × (q ≡ m)
  unfolding Stands breadth
  stands_same (number v) (number w) p q m i h g = (ap number (sym h.2 ∙ g.2), h.3 ∙ sym g.3)
  stands_same (meta v) (meta w) p q m i h g = (ap meta (sym h.0.spells ∙ g.0.spells), h.1 ∙ sym g.1)
  stands_same (called v) (called w) p q m i h g = (ap called (sym h.0.spells ∙ g.0.spells), h.1 ∙ sym g.1)
  stands_same (applied v ts) (applied w us) p q m i h g =
      let e : size ts ≡ size us = sym h.0.counts ∙ g.0.counts in
      let r = stands_same ts us (p + 1) q m (breadth_size ts ∙ e ∙ sym (breadth_size us)) h.1 g.1 in
      (ap₂ applied (sym h.0.spells ∙ g.0.spells) r.0, r.1)
  stands_same nil nil p q m i h g = (refl, h ∙ sym g)
  stands_same (cons t ts) (cons u us) p q m i h g =
      let r = stands_same t u p h.0 g.0 (sym (single t) ∙ single u) h.1 g.1 in
      let s = stands_same ts us h.0 q m (omega arith) h.2 (subst (λ (k : ℕ). Stands text rows k us m) (sym r.1) g.2) in
      (ap₂ cons r.0 s.0, s.1)
  stands_same (number v) (meta w) p q m i h g = absurd (let a = h.1 in let b = g.0.kinded in omega arith)
  stands_same (number v) (called w) p q m i h g = absurd (let a = h.1 in let b = g.0.kinded in omega arith)
  stands_same (number v) (applied w us) p q m i h g = absurd (let a = h.1 in let b = g.0.kinded in omega arith)
  stands_same (meta v) (number w) p q m i h g = absurd (let a = h.0.kinded in let b = g.1 in omega arith)
  stands_same (meta v) (called w) p q m i h g = absurd (let a = h.0.kinded in let b = g.0.kinded in omega arith)
  stands_same (meta v) (applied w us) p q m i h g = absurd (let a = h.0.kinded in let b = g.0.kinded in omega arith)
  stands_same (called v) (number w) p q m i h g = absurd (let a = h.0.kinded in let b = g.1 in omega arith)
  stands_same (called v) (meta w) p q m i h g = absurd (let a = h.0.kinded in let b = g.0.kinded in omega arith)
  stands_same (called v) (applied w us) p q m i h g = absurd (let a = h.0.kinded in let b = g.0.kinded in omega arith)
  stands_same (applied v ts) (number w) p q m i h g = absurd (let a = h.0.kinded in let b = g.1 in omega arith)
  stands_same (applied v ts) (meta w) p q m i h g = absurd (let a = h.0.kinded in let b = g.0.kinded in omega arith)
  stands_same (applied v ts) (called w) p q m i h g = absurd (let a = h.0.kinded in let b = g.0.kinded in omega arith)
  stands_same nil (cons u us) p q m i h g = absurd (omega arith)
  stands_same (cons t ts) nil p q m i h g = absurd (omega arith)

  pub stands_one : {p q m : ℕ} (g : TermAt text rows p q) (w : Written one) → Stands text rows p w m → (cut w ≡ cut (spelled text g.term)) × (m ≡ q)
  stands_one {p} {q} {m} g w h = stands_same w (spelled text g.term) p m q (sym (single w) ∙ single (spelled text g.term)) h (term_stands g)
