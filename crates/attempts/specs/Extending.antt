-- A state in form stays in form where words are written behind the used ones and variables are added: the bindings that it holds are the same.
use Rattle.std.specs.Prelude.{ℕ, zero, suc, ◌-◌, ◌≤◌, ◌<◌, ◌≡◌, refl, List, length}
use Rattle.std.proofs.Common.{arith, le_refl, sym, ap, ap₂}
use Rattle.terms.specs.Term.{Term}
use Rattle.terms.specs.Bindings.{Bindings, bind}
use Rattle.arena.specs.Cells.{headers, Cells, denote, Same, frame_denote, cells}
use Rattle.arena.specs.NodeLaws.{formed_same, formed_up}
use Rattle.arena.specs.Rows.{Rows, column}
use Rattle.acyclicity.specs.Contract.{binding_of}
use Rattle.bindings.specs.Tables.{Empty}
use Rattle.bindings.specs.Stored.{bindings, held, Form}
use Rattle.unifier.specs.Promises.{Scratch}
use Rattle.bindings.specs.Holding.{form_holds, bindings_low}
use Rattle.bindings.specs.Growth.{form_grows}

-- Bindings to references that denote the same in both words.
bindings_kept : (N : ℕ) (w w' values trail : Cells) (variables k : ℕ) → ((v r : ℕ) → v < variables → values v ≡ suc r → denote N w' r ≡ denote N w r)
    → ((i : ℕ) → i < k → trail i < variables) → ((i : ℕ) → i < k → values (trail i) ≡ 0 → ⊥) → bindings N w' values trail k ≡ bindings N w values trail k
bindings_kept N w w' values trail variables zero d b f = refl
bindings_kept N w w' values trail variables (suc k) d b f =
    ap₂ (λ (t : Term) (β : Bindings). bind (trail k) t β) (value (values (trail k)) refl)
    (bindings_kept N w w' values trail variables k d (λ i l. b i (omega arith)) (λ i l. f i (omega arith)))
  where
    value : (z : ℕ) → values (trail k) ≡ z → denote N w' (values (trail k) - 1) ≡ denote N w (values (trail k) - 1)
    value zero e = absurd (f k (omega arith) e)
    value (suc r) e = let q : values (trail k) - 1 ≡ r = omega arith in rw q (d (trail k) r (b k (omega arith)) e)

module _ {N : ℕ} {w : List ℕ} {b : Rows} {variables used k : ℕ} (form : Form N w b variables used k) (w' : List ℕ) (same : Same N (cells w) (cells w') used) where
  value_kept : (v r : ℕ) → v < variables → column 0 b v ≡ suc r → denote N (cells w') r ≡ denote N (cells w) r
  value_kept v r l e = sym (frame_denote N (cells w) variables used form.words (cells w') same r (form.references v r l e))

  -- The bindings are the same, up to any mark.
  pub held_older : (j : ℕ) → j ≤ k → held N w' b j ≡ held N w b j
  held_older j l =
      bindings_kept N (cells w) (cells w') (column 0 b) (column 1 b) variables j value_kept
      (λ i m. bindings_low N (cells w) (column 0 b) (column 1 b) variables k form.below i (omega arith)) (λ i m. (form_holds form).filled i (omega arith))

  pub held_kept : held N w' b k ≡ held N w b k
  held_kept = held_older k (le_refl k)

  -- As many words are in use, and the variables are more.
  pub form_back : (variables' : ℕ) → variables ≤ variables' → variables' ≤ N → variables' ≤ length b → length w' ≡ length w → Form N w' b variables' used k
  form_back variables' more few lent long =
      let l = form.lent_words in
      form_grows form w' same more (le_refl used) (formed_up N more (formed_same N same form.words)) few form.low (omega arith) lent

-- Scratch for so many words serves fewer.
pub scratch_less : {N limit : ℕ} {links marks stack : Rows} (used : ℕ) → used ≤ limit → Scratch N limit links marks stack → Scratch N used links marks stack
scratch_less used l h =
    let a = h.links_free.lent in let b = h.marks_free.lent in let d = h.stack_lent in
    record {
      links_free = record { lent = omega arith; empty = h.links_free.empty };
      marks_free = record { lent = omega arith; empty = h.marks_free.empty };
      stack_lent = omega arith;
      stack_empty = h.stack_empty;
    }

-- Rows with nothing in them, and no words in use: a state in form with no bindings.
pub start_form : (N : ℕ) (w : List ℕ) (b : Rows) (variables : ℕ) → Empty b → variables ≤ N → N ≤ headers → variables ≤ length b → Form N w b variables 0 0
start_form N w b variables empty few low lent = record {
  words = record { fits = λ a l. let z : ⊥ = omega arith in absurd z; arguments = λ a i l. let z : ⊥ = omega arith in absurd z };
  few = few;
  low = omega arith;
  lent_words = omega arith;
  lent_rows = lent;
  references = λ v r l e. let q = empty 0 v in let z : ⊥ = omega arith in absurd z;
  lookups = λ v l. ap (binding_of N (cells w)) (sym (empty 0 v));
  acyclic = tt;
  below = tt;
  unbound = λ v l. empty 0 v;
  rest = λ i l. empty 1 i;
}
