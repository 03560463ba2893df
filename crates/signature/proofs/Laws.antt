-- Laws of decisions, one for each way in which a test answers; of a chain that asks each row; and of a loop that writes a list.
use Prim.Native.Nat.{ℕ, ◌+◌, ◌≤◌, ◌<◌}
use native.Mathlib.Omega.{arith}
use mathlib.Core.Path.{◌≡◌, refl, ◌∙◌}
use mathlib.Core.Bool.{Bool, true, false, not}
use mathlib.Core.List.{List}
use denote.Param.Members.{Mut}
use lib.ListN.{length, get_or, set}
use lib.Seq.{get_or-set_same, get_or-set_other}
use lib.Dec.{leb, ltb, eqb}
use borrow.Author.Count.{below_more}
use borrow.Author.Tests.{not-false, leb-true, le-leb, ltb-true, lt-ltb, eqb-true, eq-eqb}
use Rattle.std.specs.Bool.{MatchBool}
use Rattle.std.specs.Fn.{Called}
use Rattle.std.specs.Iterator.{YieldsThen}
use Rattle.std.specs.List.{AllWithin, HoldsAt, FoldsTo}
use Rattle.std.specs.Option.{MatchOption}
use Rattle.std.specs.declared.option.Option.{Option}
use Rattle.std.proofs.lemmas.Iterator.{YieldsList, cases_from_all}
use Rattle.terms.specs.Numbers.{true_false}
use Rattle.unifier.specs.Promises.{Tells}

-- What a test tells of holds where its denial is false.
pub holds : {P : Type 0} {r : Bool} → Tells r P → not r ≡ false → P
holds {r = r} d e = d.yes (not-false r e)

-- The last test tells, if what was tested before holds.
pub same : {P Q : Type 0} {r : Bool} → (P → Q) → (Q → P) → Tells r P → Tells r Q
same f g d = record { yes = λ e. f (d.yes e); back = λ q. d.back (g q) }

pub by_le : {P : Type 0} (a b : ℕ) → (a ≤ b → P) → (P → a ≤ b) → Tells (leb a b) P
by_le a b f g = record { yes = λ e. f (leb-true a b e); back = λ p. le-leb a b (g p) }

pub by_lt : {P : Type 0} (a b : ℕ) → (a < b → P) → (P → a < b) → Tells (ltb a b) P
by_lt a b f g = record { yes = λ e. f (ltb-true a b e); back = λ p. lt-ltb a b (g p) }

pub by_eq : {P : Type 0} (a b : ℕ) → (a ≡ b → P) → (P → a ≡ b) → Tells (eqb a b) P
by_eq a b f g = record { yes = λ e. f (eqb-true a b e); back = λ p. eq-eqb a b (g p) }

-- A chain that asks each element whether it has P tells whether all have it.
module _ {B : Type 0} (P : B → Type 0) (xs : List B) (d : B) where
  all_so : (r : Bool) → MatchBool r (AllWithin P xs 0 (length xs)) ((k : ℕ) × (k < length xs) × HoldsAt (λ x. P x → ⊥) xs k) → Tells r ((i : ℕ) → i < length xs → P (get_or xs i d))
  all_so true h = record { yes = λ _ i l. h i d (omega arith) l; back = λ _. refl }
  all_so false h = record { yes = λ e. true_false e refl; back = λ a. absurd (h.2 d (a h.0 h.1)) }

pub all_tell : {S A B F : Type 0} {steps : S → Option A → S → Type 0} {v : A → B} {g : Mut F (A × Unit {0}) Bool} {s : S} {all : List B} (P : B → Type 0) (d : B) (u : S) (f : F) (r : Bool)
    → (xs : List A) × (o : Option A) × (j : F) × YieldsThen steps s xs o u × FoldsTo (λ p x q. Called g p (x, tt) true q) f xs j × MatchOption o (r ≡ true) (λ x. (r ≡ false) × ((h : F) × Called g j (x, tt) false h))
    → YieldsList steps v s all → ((x : A) (b : Bool) (q : F) → Called g f (x, tt) b q → (q ≡ f) × Tells b (P (v x))) → Tells r ((i : ℕ) → i < length all → P (get_or all i d))
all_tell {v = v} {all = all} P d u f r ran e k =
    all_so P all d r (cases_from_all u f r P (λ x. P x → ⊥) ran e
    (λ x q c. let t = k x true q c in (t.0, t.1.yes refl))
    (λ x q c p. true_false ((k x false q c).1.back p) refl))

-- One entry more is written.
pub written_next : {A : Type 0} (d : A) (l : List A) (i : ℕ) (f : ℕ → A) → i < length l → ((j : ℕ) → j < i → get_or l j d ≡ f j) → (j : ℕ) → j < i + 1 → get_or (set l i (f i)) j d ≡ f j
written_next d l i f b h =
    below_more (λ j. get_or (set l i (f i)) j d ≡ f j) i (λ j m. get_or-set_other l i j (f i) d (λ e. omega arith) ∙ h j m) (get_or-set_same l i (f i) d b)
