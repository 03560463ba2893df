-- What building in storage asks and answers (document 01, "Evaluated terms"; `instantiate_of` of `evaluation`).
use Rattle.std.specs.Prelude.{ℕ, zero, suc, ◌+◌, ◌≤◌, ◌<◌, ◌≡◌, ◌≢◌, List, length, Result, Ok, Err}
use Rattle.terms.specs.Term.{Term, Terms}
use Rattle.terms.specs.Term.Kind.{one as single, many as several}
use Rattle.terms.specs.Bindings.{Bindings}
use Rattle.arena.specs.Cells.{headers, cells, args, denote, Same}
use Rattle.arena.specs.Copies.{pattern_room}
use Rattle.arena.specs.Rows.{Rows}
use Rattle.evaluation.specs.Matching.{Built, barred, built, instantiate_of}
use Rattle.clause_matching.specs.Stored.{Value, Values, PatternIn, Holds, Headed, Formed, value_at, pattern_at}
use Rattle.refusals.specs.declared.Refusal.{Refusal}
use Rattle.refusals.specs.declared.Refusal.TheVariants.{Unbound}
use Rattle.refusals.specs.Refused.{Refuses}
use Rattle.clause_matching.specs.declared.building.Built.{Built as Answer}

-- What an environment's number stands for: 0 for no value, else 1 + the reference of a value.
unfoldable pub held : ℕ → Result ℕ Refusal
held zero = Err Unbound
held (suc r) = Ok r

-- It is a value, with the words then used.
abbrev pub built_at : ℕ → ℕ → Result Answer Refusal
built_at value used = Ok (record { value = value; used = used })

-- The most words that a rule's terms take (document 01, refusal 28: 1,024 nodes).
abbrev pub rule_words : ℕ
rule_words = 2048

-- A node written at `used` with the arguments that stood from `from` on, and its address in the first one's place.
pub record Pushed (words : List ℕ) (used header from count : ℕ) (words' : List ℕ) : Type 0 where
  pub head : cells words' used ≡ header
  pub arguments : (i : ℕ) → i < count → cells words' (used + suc i) ≡ cells words (from + i)
  pub answer : cells words' from ≡ used
  pub below : (k : ℕ) → k < used → cells words' k ≡ cells words k
  pub others : (k : ℕ) → used + suc count ≤ k → k ≢ from → cells words' k ≡ cells words k
  pub kept : length words' ≡ length words

-- What `instantiate` asks: a pattern, values for its variables, and scratch behind the limit.
pub record InstantiateAsked (pattern : List ℕ) (reference : ℕ) (environment values : List ℕ) (used limit : ℕ) (stack : Rows) : Type 0 where
  pub size : ℕ
  pub patterned : PatternIn pattern size reference rule_words
  pub stored : Values values used
  pub long : pattern_room ≤ length environment
  pub known : (β : Bindings) × Holds environment values used β
  pub fits : used ≤ limit
  pub low : limit ≤ headers
  pub scratch : limit + rule_words < length values
  pub rows : rule_words < length stack

-- The values once t is built.
pub record Stands (values : List ℕ) (used limit : ℕ) (values' : List ℕ) (t : Term) (value used' : ℕ) : Type 0 where
  pub stored : Values values' used'
  pub root : Value values' used' value
  pub is : value_at values' value ≡ t
  pub same : Same 0 (cells values) (cells values') used
  pub grows : used ≤ used'
  pub within : used' ≤ limit

-- An answer says what building comes to.
abbrev pub Tells : Built single → Result Answer Refusal → List ℕ → List ℕ → ℕ → ℕ → Type 0
Tells (barred e) r values values' used limit = Refuses r e
Tells (built t u) r values values' used limit = (value : ℕ) × (r ≡ built_at value u) × Stands values used limit values' t value u

-- Words in form over a pattern's symbols stay so, where something is built from the pattern.
abbrev pub BuiltFormed : List ℕ → Result Answer Refusal → List ℕ → List ℕ → ℕ → Type 0
BuiltFormed pattern r values values' used =
    (arities : List ℕ) → Headed arities pattern → Formed arities values used → (value u : ℕ) → r ≡ built_at value u → Formed arities values' u

pub record Instantiated (pattern : List ℕ) (reference : ℕ) (environment values : List ℕ) (used limit : ℕ) (r : Result Answer Refusal) (values' : List ℕ) : Type 0 where
  pub tells : (β : Bindings) → Holds environment values used β → Tells (instantiate_of limit β (pattern_at pattern reference) used) r values values' used limit
  pub forms : BuiltFormed pattern r values values' used
  pub kept : length values' ≡ length values

-- What `instantiate_arguments` asks: references into the pattern, and a place for each.
pub record ArgumentsAsked (pattern : List ℕ) (first count : ℕ) (environment values : List ℕ) (used limit : ℕ) (stack : Rows) (slots : List ℕ) : Type 0 where
  pub size : ℕ
  pub patterned : (i : ℕ) → i < count → PatternIn pattern size (cells pattern (first + i)) rule_words
  pub inside : first + count ≤ length pattern
  pub places : count ≤ length slots
  pub stored : Values values used
  pub long : pattern_room ≤ length environment
  pub known : (β : Bindings) × Holds environment values used β
  pub fits : used ≤ limit
  pub low : limit ≤ headers
  pub scratch : limit + rule_words < length values
  pub rows : rule_words < length stack

-- The values once the terms ts are built; their references stand in `slots`.
pub record StandAll (values : List ℕ) (used limit : ℕ) (values' slots : List ℕ) (count : ℕ) (ts : Terms) (used' : ℕ) : Type 0 where
  pub stored : Values values' used'
  pub roots : (i : ℕ) → i < count → Value values' used' (cells slots i)
  pub are : args (denote 0 (cells values')) (cells slots) 0 count ≡ ts
  pub same : Same 0 (cells values) (cells values') used
  pub grows : used ≤ used'
  pub within : used' ≤ limit

abbrev pub TellsAll : Built several → Result ℕ Refusal → List ℕ → List ℕ → List ℕ → ℕ → ℕ → ℕ → Type 0
TellsAll (barred e) r values values' slots count used limit = Refuses r e
TellsAll (built ts u) r values values' slots count used limit = (r ≡ Ok u) × StandAll values used limit values' slots count ts u

-- Words in form over a pattern's symbols stay so, where all are built.
abbrev pub ArgumentsFormed : List ℕ → Result ℕ Refusal → List ℕ → List ℕ → ℕ → Type 0
ArgumentsFormed pattern r values values' used =
    (arities : List ℕ) → Headed arities pattern → Formed arities values used → (u : ℕ) → r ≡ Ok u → Formed arities values' u

pub record ArgumentsBuilt (pattern : List ℕ) (first count : ℕ) (environment values : List ℕ) (used limit : ℕ) (r : Result ℕ Refusal) (values' slots : List ℕ) : Type 0 where
  pub tells : (β : Bindings) → Holds environment values used β
      → TellsAll (instantiate_of limit β (args (denote pattern_room (cells pattern)) (cells pattern) first count) used) r values values' slots count used limit
  pub forms : ArgumentsFormed pattern r values values' used
  pub kept : length values' ≡ length values
