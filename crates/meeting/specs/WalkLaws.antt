-- Laws of the walk's answer: what each answer says.
use Rattle.std.specs.Prelude.{ℕ, ◌≤◌, ◌<◌, ◌≡◌, Option, Some, None, List}
use Rattle.std.proofs.Common.{arith}
use Rattle.terms.specs.Numbers.{by_less}
use Rattle.resolution.specs.Fresh.{met}
use Rattle.resolution.specs.Search.{words}
use Rattle.meeting.specs.Places.{Records}
use Rattle.meeting.specs.Contract.{term_of, Walked}

-- What words counted say, and the places given then.
pub record Counted (pattern : List ℕ) (reference : ℕ) (e : List ℕ) (most spent : ℕ) (table' : List (Option ℕ)) (count' : ℕ) : Type 0 where
  pub allowed : spent ≤ most
  pub spends : spent ≡ words (term_of pattern reference)
  pub records : Records (met (term_of pattern reference) e) table' count'

module _ {pattern : List ℕ} {reference : ℕ} {table : List (Option ℕ)} {count most : ℕ} {answer : Option ℕ} {table' : List (Option ℕ)} {count' : ℕ}
    (h : Walked pattern reference table count most answer table' count') where
  pub walked_over : answer ≡ None → most < words (term_of pattern reference)
  walked_over q = by_less most (words (term_of pattern reference)) (λ l r. l)
      (λ l r. let a = h.answered l in let z : ◌≡◌ {A = ℕ} 0 1 = cc in absurd (let bad : ⊥ = omega arith in bad))

  pub walked_words : (spent : ℕ) → answer ≡ Some spent → (spent ≡ words (term_of pattern reference)) × (spent ≤ most)
  walked_words spent q = by_less most (words (term_of pattern reference))
      (λ l r. let a = h.exceeded l in let z : ◌≡◌ {A = ℕ} 0 1 = cc in absurd (let bad : ⊥ = omega arith in bad))
      (λ l r. let a = h.answered l in let w : spent ≡ words (term_of pattern reference) = cc in (w, omega arith))

  pub walked_places : {e : List ℕ} → Records e table count → (spent : ℕ) → answer ≡ Some spent → Counted pattern reference e most spent table' count'
  walked_places {e} k spent q =
      let (w, l) = walked_words spent q in
      record { allowed = l; spends = w; records = h.recorded (let few : words (term_of pattern reference) ≤ most = omega arith in few) e k }
