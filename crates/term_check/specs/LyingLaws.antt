-- Laws of rows that are those of terms: several terms one after the other, and a term's first row with those of its arguments.
use Rattle.std.specs.Prelude.{ℕ, ◌+◌, ◌<◌, min, ◌≡◌, true, false, cond, ◌&&◌, ◌||◌, eqb, leb, ltb, length, get_or}
use Rattle.std.proofs.Common.{add-one, sym, ap₂, ◌∙◌, length-drop, drop-cons, drop-drop, get_or-drop}
use native.Mathlib.Omega.{arith}
use Rattle.std.proofs.Math.Path.{refl, ap}
use mathlib.Core.List.{List, [], ◌∷◌, ◌++◌, append_assoc}
use Rattle.std.proofs.Math.ListN.{drop, length-append}
use Rattle.std.proofs.Math.Seq.{drop-append_seam}
use borrow.Author.Tests.{ltb-true, lt-ltb, leb-true, le-leb, eqb-true, eq-eqb, eqb-false}
use Rattle.terms.specs.Numbers.{by_bool}
use Rattle.source_text.specs.ByteLaws.{and_left, and_right}
use Rattle.source_text.specs.Numerals.{numeral_of}
use Rattle.std.specs.Prelude.{Option, Some, None}
use Rattle.term_parser.specs.Source.{place, one, many, Source, numeral, metavariable, name, application, none, more, count}
use Rattle.term_parser.specs.Rows.{Rows, rows_of}
use Rattle.term_parser.specs.Depth.{depth}
use Rattle.names.specs.NamePlaces.{NamePlace, is_word_place}
use Rattle.term_check.specs.TermRows.{Worded, Lies}
use Rattle.names.specs.Symbols.{column}
use Rattle.term_check.specs.Walk.{is_held, takes, word_in, top_of}

-- Rows one after the other

past : (rows a r : Rows) (p : ℕ) → drop p rows ≡ a ++ r → drop (p + length a) rows ≡ r
past rows a r p e = sym (drop-drop (length a) p rows) ∙ ap (drop (length a)) e ∙ drop-append_seam a r

pub lies_none : (rows : Rows) (p : ℕ) → Lies rows p none p
unfolding rows_of
lies_none rows p = record { are = refl; ends = omega arith }

pub none_ends : (rows : Rows) (p q : ℕ) → Lies rows p none q → q ≡ p
unfolding rows_of
none_ends rows p q l = let e : q ≡ p + 0 = l.ends in omega arith

-- Several terms are the first and the others.
pub lies_join : {rows : Rows} {p m q : ℕ} (t : Source one) (ts : Source many) → Lies rows p t m → Lies rows m ts q → Lies rows p (more t ts) q
unfolding rows_of
lies_join {rows} {p} {m} {q} t ts a b =
    let n = length-append (rows_of t) (rows_of ts) in
    let c = a.ends in
    let d = b.ends in
    record {
      are = a.are ∙ ap (λ (r : Rows). rows_of t ++ r) b.are ∙ sym (append_assoc (rows_of t) (rows_of ts) (drop q rows));
      ends = omega arith;
    }

module _ {rows : Rows} {p q : ℕ} (t : Source one) (ts : Source many) (l : Lies rows p (more t ts) q) where
  rest_are : drop p rows ≡ rows_of t ++ (rows_of ts ++ drop q rows)
  unfolding rows_of
  rest_are = l.are ∙ append_assoc (rows_of t) (rows_of ts) (drop q rows)

  abbrev pub middle : ℕ
  middle = p + length (rows_of t)

  pub lies_first : Lies rows p t middle
  lies_first = record { are = rest_are ∙ ap (λ (r : Rows). rows_of t ++ r) (sym (past rows (rows_of t) (rows_of ts ++ drop q rows) p rest_are)); ends = refl }

  pub lies_rest : Lies rows middle ts q
  unfolding rows_of
  lies_rest = record { are = past rows (rows_of t) (rows_of ts ++ drop q rows) p rest_are; ends = (let a = l.ends in let n = length-append (rows_of t) (rows_of ts) in omega arith) }

-- A term whose first row this is, and whose arguments are ts.
module _ {rows : Rows} {p m : ℕ} (t : Source one) (row : List ℕ) (ts : Source many) (e : rows_of t ≡ row ∷ rows_of ts) where
  pub lies_under : p < length rows → get_or rows p [] ≡ row → Lies rows (p + 1) ts m → Lies rows p t m
  lies_under b r l =
      let c = ap length e in
      let d = l.ends in
      record {
        are = drop-cons rows p [] b ∙ ap₂ (λ (x : List ℕ) (i : ℕ). x ∷ drop i rows) r (sym (add-one p)) ∙ ap (λ (x : Rows). row ∷ x) l.are ∙ ap (λ (x : Rows). x ++ drop m rows) (sym e);
        ends = omega arith;
      }

  module _ (l : Lies rows p t m) where
    top_are : drop p rows ≡ row ∷ (rows_of ts ++ drop m rows)
    top_are = l.are ∙ ap (λ (x : Rows). x ++ drop m rows) e

    pub top_inside : p < length rows
    top_inside = let a = ap length top_are in let b = length-drop p rows in omega arith

    pub top_row : get_or rows p [] ≡ row
    top_row = (let z : p ≡ p + 0 = omega arith in ap (λ (i : ℕ). get_or rows i []) z) ∙ sym (get_or-drop p rows 0 []) ∙ ap (λ (r : Rows). get_or r 0 []) top_are

    pub lies_over : Lies rows (p + 1) ts m
    lies_over =
        let a = l.ends in
        let b = ap length e in
        record { are = past rows (row ∷ []) (rows_of ts ++ drop m rows) p top_are; ends = omega arith }

-- One row

pub word_is : (text : List ℕ) (s n : ℕ) → is_word_place text s n ≡ true → NamePlace text s n
word_is text s n e =
    let f = and_right (ltb 0 n) (leb n 64 && leb (s + n) (length text)) e in
    record {
      inside = leb-true _ _ (and_right (leb n 64) (leb (s + n) (length text)) f);
      some = ltb-true _ _ (and_left (ltb 0 n) (leb n 64 && leb (s + n) (length text)) e);
      short = leb-true _ _ (and_left (leb n 64) (leb (s + n) (length text)) f);
    }

pub is_word : (text : List ℕ) (s n : ℕ) → NamePlace text s n → is_word_place text s n ≡ true
is_word text s n w = rw (lt-ltb 0 n w.some, le-leb n 64 w.short, le-leb (s + n) (length text) w.inside) refl

four_is : (row : List ℕ) → length row ≡ 4 → row ≡ column row 0 ∷ column row 1 ∷ column row 2 ∷ column row 3 ∷ []
four_is [] e = absurd (omega arith)
four_is (a ∷ []) e = absurd (omega arith)
four_is (a ∷ b ∷ []) e = absurd (omega arith)
four_is (a ∷ b ∷ c ∷ []) e = absurd (omega arith)
four_is (a ∷ b ∷ c ∷ d ∷ []) e = refl
four_is (a ∷ b ∷ c ∷ d ∷ f ∷ l) e = absurd (omega arith)

row_is : (row : List ℕ) (kind n : ℕ) → length row ≡ 4 → column row 0 ≡ kind → column row 3 ≡ n → row ≡ kind ∷ column row 1 ∷ column row 2 ∷ n ∷ []
row_is row kind n l a b = four_is row l ∙ ap₂ (λ (x y : ℕ). x ∷ column row 1 ∷ column row 2 ∷ y ∷ []) a b

pub none_is : (ts : Source many) → count ts ≡ 0 → ts ≡ none
unfolding count
none_is none e = refl
none_is (more t ts) e = absurd (omega arith)

no_term : {A : Type 0} {k : ℕ} → None ≡ Some k → A
no_term e = absurd (let z : ◌≡◌ {A = ℕ} 0 1 = cc in omega arith)

-- A term whose first row this is, and whose arguments are ts.
pub record Topmost (text row : List ℕ) (ts : Source many) : Type 0 where
  pub term : Source one
  pub rows : rows_of term ≡ row ∷ rows_of ts
  pub worded : Worded text term
  pub deep : depth term ≡ 1 + depth ts

module _ (text row : List ℕ) (long : length row ≡ 4) (ts : Source many) (fine : Worded text ts) where
  leaf : (t : Source one) → count ts ≡ 0 → rows_of t ≡ row ∷ [] → Worded text t → depth t ≡ 1 → Topmost text row ts
  unfolding rows_of depth
  leaf t z r w d =
      let o : ts ≡ none = none_is ts z in
      record {
        term = t;
        rows = r ∙ ap (λ (x : Source many). row ∷ rows_of x) (sym o);
        worded = w;
        deep = d ∙ ap (λ (x : Source many). 1 + depth x) (sym o);
      }

  module _ (w : NamePlace text (column row 1) (column row 2)) where
    of_numeral : (v : Option ℕ) → numeral_of (word_in text row) ≡ v → column row 0 ≡ 14 → cond (is_held v (column row 3)) (Some 0) None ≡ Some (count ts) → Topmost text row ts
    unfolding rows_of depth
    of_numeral (Some v) f a e =
        by_bool (eqb (column row 3) (min v 4294967295))
        (λ h. let g : Some 0 ≡ Some (count ts) = rw h at e in
        let z : count ts ≡ 0 = cc in
        leaf (numeral (place (column row 1) (column row 2)) v) z
        (ap (λ (r : List ℕ). r ∷ []) (sym (row_is row 14 (min v 4294967295) long a (eqb-true _ _ h)))) (w, f) refl)
        (λ h. no_term (rw h at e))
    of_numeral None f a e = no_term e

    of_application : column row 0 ≡ 24 → cond (eqb (column row 3) 0) None (Some (column row 3)) ≡ Some (count ts) → Topmost text row ts
    unfolding rows_of depth
    of_application a e =
        by_bool (eqb (column row 3) 0) (λ h. no_term (rw h at e))
        (λ h. let g : Some (column row 3) ≡ Some (count ts) = rw h at e in
        let n : column row 3 ≡ count ts = cc in
        let o = eqb-false (column row 3) 0 h in
        let some : 0 < count ts = omega arith in
        record {
          term = application (place (column row 1) (column row 2)) ts;
          rows = ap (λ (r : List ℕ). r ∷ rows_of ts) (sym (row_is row 24 (count ts) long a n));
          worded = (w, some, fine);
          deep = refl;
        })

    of_word : cond (eqb (column row 3) 0) (cond (eqb (column row 0) 13 || eqb (column row 0) 12) (Some 0) None) None ≡ Some (count ts) → Topmost text row ts
    unfolding rows_of depth
    of_word e =
        by_bool (eqb (column row 3) 0)
        (λ h. by_bool (eqb (column row 0) 13)
        (λ a. let g : Some 0 ≡ Some (count ts) = rw (h, a) at e in
        let z : count ts ≡ 0 = cc in
        leaf (metavariable (place (column row 1) (column row 2))) z (ap (λ (r : List ℕ). r ∷ []) (sym (row_is row 13 0 long (eqb-true _ _ a) (eqb-true _ _ h)))) w refl)
        (λ a. by_bool (eqb (column row 0) 12)
        (λ b. let g : Some 0 ≡ Some (count ts) = rw (h, a, b) at e in
        let z : count ts ≡ 0 = cc in
        leaf (name (place (column row 1) (column row 2))) z (ap (λ (r : List ℕ). r ∷ []) (sym (row_is row 12 0 long (eqb-true _ _ b) (eqb-true _ _ h)))) w refl)
        (λ b. no_term (rw (h, a, b) at e))))
        (λ h. no_term (rw h at e))

  -- The row and the arguments that it takes make a term.
  pub made : top_of text row ≡ Some (count ts) → Topmost text row ts
  unfolding top_of
  made e =
      by_bool (is_word_place text (column row 1) (column row 2))
      (λ w. let place_is = word_is text (column row 1) (column row 2) w in
      let f : takes (column row 0) (column row 3) (is_held (numeral_of (word_in text row)) (column row 3)) ≡ Some (count ts) = rw w at e in
      by_bool (eqb (column row 0) 14)
      (λ a. of_numeral place_is (numeral_of (word_in text row)) refl (eqb-true _ _ a) (rw a at f))
      (λ a. by_bool (eqb (column row 0) 24)
      (λ b. of_application place_is (eqb-true _ _ b) (rw (a, b) at f))
      (λ b. of_word place_is (rw (a, b) at f))))
      (λ w. no_term (rw w at e))

-- Each term has a first row, and arguments.
pub record Split (text : List ℕ) (t : Source one) : Type 0 where
  pub row : List ℕ
  pub terms : Source many
  pub takes : top_of text row ≡ Some (count terms)
  pub worded : Worded text terms
  pub rows : rows_of t ≡ row ∷ rows_of terms
  pub deep : depth t ≡ 1 + depth terms

pub split : (text : List ℕ) (t : Source one) → Worded text t → Split text t
unfolding rows_of depth count top_of
split text (numeral (place s n) v) w =
    record {
      row = 14 ∷ s ∷ n ∷ min v 4294967295 ∷ [];
      terms = none;
      takes = rw (is_word text s n w.0, w.1, eq-eqb (min v 4294967295) (min v 4294967295) refl) refl;
      worded = tt;
      rows = refl;
      deep = refl;
    }
split text (metavariable (place s n)) w =
    record { row = 13 ∷ s ∷ n ∷ 0 ∷ []; terms = none; takes = rw (is_word text s n w) refl; worded = tt; rows = refl; deep = refl }
split text (name (place s n)) w =
    record { row = 12 ∷ s ∷ n ∷ 0 ∷ []; terms = none; takes = rw (is_word text s n w) refl; worded = tt; rows = refl; deep = refl }
split text (application (place s n) ts) w =
    record {
      row = 24 ∷ s ∷ n ∷ count ts ∷ [];
      terms = ts;
      takes = (let o : eqb (count ts) 0 ≡ false = by_bool (eqb (count ts) 0) (λ e. absurd (let z = eqb-true (count ts) 0 e in let l = w.1 in omega arith)) (λ e. e) in
          rw (is_word text s n w.0, o) refl);
      worded = w.2;
      rows = refl;
      deep = refl;
    }
