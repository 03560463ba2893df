-- A node on values in storage (`build_node` of `evaluation`).
use Rattle.std.specs.Prelude.{ℕ, ◌≤◌, ◌<◌, ◌≡◌, List, length, get_or, Result, Ok, Err}
use Rattle.arena.specs.Cells.{headers, cells}
use Rattle.evaluation.specs.Matching.{build_node}
use Rattle.clause_matching.specs.Stored.{Value, Values, Formed}
use Rattle.clause_matching.specs.Building.{Tells, built_at}
use Rattle.clause_matching.specs.Choice.{values_of}
use Rattle.clause_matching.specs.declared.building.Built.{Built as Answer}
use Rattle.refusals.specs.declared.Refusal.{Refusal}
use Rattle.refusals.specs.Refusals.{number_of}

-- What is found wrong, by the number of its refusal; 0: nothing.
abbrev pub Finds : {A : Type 0} → Result A Refusal → ℕ → Type 0
Finds (Ok a) e = e ≡ 0
Finds (Err refusal) e = (number_of refusal ≡ e) × (0 < e)

pub record BuildAsked (words : List ℕ) (used limit symbol : ℕ) (values : List ℕ) : Type 0 where
  pub stored : Values words used
  pub roots : (k : ℕ) → k < length values → Value words used (cells values k)
  pub few : length values ≤ 16
  pub known : symbol < 1024
  pub fits : used ≤ limit
  pub low : limit ≤ headers
  pub room : limit ≤ length words

pub record BuildAnswered (words : List ℕ) (used limit symbol : ℕ) (values : List ℕ) (r : Result Answer Refusal) (words' : List ℕ) : Type 0 where
  pub tells : Tells (build_node limit symbol (values_of words values) used) r words words' used limit
  -- words in form stay so, where the symbol has as many inputs;
  pub forms : (arities : List ℕ) → symbol < length arities → get_or arities symbol 0 ≡ length values → Formed arities words used
      → (value u : ℕ) → r ≡ built_at value u → Formed arities words' u
  pub kept : length words' ≡ length words
