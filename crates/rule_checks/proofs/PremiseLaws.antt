-- Laws of walks through a row's premises: from the first on, where their words are counted; and what their references are.
use mathlib.Core.Path.{◌≡◌, refl, sym, ap, ◌∙◌}
use mathlib.Core.Bool.{Bool, true, false}
use Rattle.terms.specs.Numbers.{by_bool, true_false}
use mathlib.Core.List.{List, [], ◌∷◌}
use lib.ListN.{length, get_or}
use Prim.Native.Nat.{ℕ, suc, ◌+◌, ◌-◌, ◌≤◌, ◌<◌}
use native.Mathlib.Omega.{arith}
use Rattle.terms.specs.Term.{Kind, Syn, Term}
use Rattle.arena.specs.Cells.{terms_of}
use Rattle.meeting.specs.Places.{Records}
use Rattle.resolution.specs.Fresh.{met}
use Rattle.resolution.specs.Search.{words}
use Rattle.names.specs.Symbols.{column, columns}
use Rattle.names.specs.SearchLaws.{columns_length, columns_at}
use Rattle.rule_checks.specs.Steps.{Walked}
use Rattle.rules.specs.StoredRows.{heads_in}
use Rattle.std.specs.Prelude.{Option, eqb}
use Rattle.std.proofs.lemmas.Bool.{eqb-true, eq-eqb}

-- Answers

-- A term of other words than it is to take.
pub walked_differs : {k : Kind} (t : Syn k) {size : ℕ} {table : List (Option ℕ)} {count : ℕ} {table' : List (Option ℕ)} {count' : ℕ} → (words t ≡ size → ⊥)
    → Walked t size table count false table' count'
walked_differs t d = record { other = λ q. d; fits = λ q. true_false q refl; records = λ q. true_false q refl }

-- A term of the words that it is to take.
walked_fits : {k : Kind} (t : Syn k) {size : ℕ} {table : List (Option ℕ)} {count : ℕ} {table' : List (Option ℕ)} {count' : ℕ} → words t ≡ size
    → ((e : List ℕ) → Records e table count → Records (met t e) table' count') → Walked t size table count true table' count'
walked_fits t d h = record { other = λ q. true_false refl q; fits = λ q. d; records = λ q. h }

-- Whether it takes so many words is told by comparing them.
pub walked_tells : {k : Kind} (t : Syn k) {size spent : ℕ} {r : Bool} {table : List (Option ℕ)} {count : ℕ} {table' : List (Option ℕ)} {count' : ℕ} → r ≡ eqb spent size → words t ≡ spent
    → ((e : List ℕ) → Records e table count → Records (met t e) table' count') → Walked t size table count r table' count'
walked_tells t {size} {spent} e w h = by_bool (eqb spent size)
    (λ q. rw (e, q) (walked_fits t (w ∙ eqb-true spent size q) h))
    (λ q. rw (e, q) (walked_differs t (λ d. true_false (eq-eqb spent size (sym w ∙ d)) q)))

-- References

-- The references of a row's premises are its columns.
pub heads_length : (row : List ℕ) → length (heads_in row) ≡ column row 4
heads_length row = columns_length row 10 (column row 4)

pub heads_index : (row : List ℕ) (k : ℕ) → k < column row 4 → get_or (heads_in row) k 0 ≡ column row (10 + k)
heads_index row k l = columns_at row 10 (column row 4) k l

-- Those of n premises from number k on.
abbrev pub rest : List ℕ → ℕ → ℕ → List ℕ
rest row n k = columns row (10 + k) (n - k)

pub rest_all : (row : List ℕ) (n : ℕ) → rest row n 0 ≡ columns row 10 n
rest_all row n = let e : n - 0 ≡ n = omega arith in ap (columns row 10) e

pub rest_none : (row : List ℕ) (n k : ℕ) → n ≤ k → rest row n k ≡ []
unfolding columns
rest_none row n k l = let e : n - k ≡ 0 = omega arith in rw e

pub rest_cons : (row : List ℕ) (n k : ℕ) → k < n → rest row n k ≡ column row (10 + k) ∷ rest row n (k + 1)
unfolding columns
rest_cons row n k l =
    let e : n - k ≡ suc (n - (k + 1)) = omega arith in
    let d : 10 + (k + 1) ≡ suc (10 + k) = omega arith in
    rw (e, d)

module _ (g : ℕ → Term) (row : List ℕ) (n : ℕ) where
  -- From the first on

  -- The premises before number k are met and take `spent` words.
  pub record Going (k : ℕ) (table₀ : List (Option ℕ)) (count₀ : ℕ) (table : List (Option ℕ)) (count spent : ℕ) : Type 0 where
    pub recorded : (e : List ℕ) → Records e table₀ count₀
        → (e' : List ℕ) × Records e' table count × (met (terms_of g (rest row n k)) e' ≡ met (terms_of g (columns row 10 n)) e)
    pub spends : spent + words (terms_of g (rest row n k)) ≡ words (terms_of g (columns row 10 n))

  pub going_start : (table : List (Option ℕ)) (count : ℕ) → Going 0 table count table count 0
  going_start table count = let r = rest_all row n in record { recorded = λ e h. (e, h, rw r); spends = let s = ap (λ (l : List ℕ). words (terms_of g l)) r in omega arith }

  module _ {k : ℕ} {table₀ : List (Option ℕ)} {count₀ : ℕ} {table : List (Option ℕ)} {count spent : ℕ} (h : Going k table₀ count₀ table count spent) where
    -- One more, which takes `taken` words.
    pub going_on : k < n → {table' : List (Option ℕ)} {given taken : ℕ} → taken ≡ words (g (column row (10 + k)))
        → ((e : List ℕ) → Records e table count → Records (met (g (column row (10 + k))) e) table' given) → Going (k + 1) table₀ count₀ table' given (spent + taken)
    going_on l {table'} {given} {taken} t f =
        let r = rest_cons row n k l in
        let s : spent + words (terms_of g (column row (10 + k) ∷ rest row n (k + 1))) ≡ words (terms_of g (columns row 10 n)) = rw r at h.spends in
        record {
          recorded = λ e b. let (e', b', m) = h.recorded e b in (met (g (column row (10 + k))) e', f e' b', rw r at m);
          spends = omega arith;
        }

    -- One more takes too many words.
    pub going_over : k < n → (size : ℕ) → spent ≤ size → size - spent < words (g (column row (10 + k))) → words (terms_of g (columns row 10 n)) ≡ size → ⊥
    going_over l size a b e =
        let r = rest_cons row n k l in
        let s : spent + words (terms_of g (column row (10 + k) ∷ rest row n (k + 1))) ≡ words (terms_of g (columns row 10 n)) = rw r at h.spends in
        omega arith

    -- None is left.
    pub going_words : n ≤ k → words (terms_of g (columns row 10 n)) ≡ spent
    going_words l = let r = rest_none row n k l in
        let s : spent + words (terms_of g []) ≡ words (terms_of g (columns row 10 n)) = rw r at h.spends in
        omega arith

    pub going_records : n ≤ k → (e : List ℕ) → Records e table₀ count₀ → Records (met (terms_of g (columns row 10 n)) e) table count
    going_records l e b =
        let (e', b', m) = h.recorded e b in
        let m' : e' ≡ met (terms_of g (columns row 10 n)) e = rw (rest_none row n k l) at m in
        rw m' at b'
