-- What matching in storage asks and answers (document 01, "Evaluated terms"; `bind_of` of `evaluation`).
use Rattle.std.specs.Prelude.{ℕ, ◌≤◌, ◌≡◌, Bool, true, false, List, length}
use Rattle.terms.specs.Term.{Term}
use Rattle.terms.specs.Bindings.{Bindings}
use Rattle.arena.specs.Copies.{pattern_room}
use Rattle.arena.specs.Rows.{Rows}
use Rattle.evaluation.specs.Matching.{Fitted, misfit, fitted, bind_of}
use Rattle.clause_matching.specs.Stored.{Value, Values, PatternIn, Holds, Links, value_at}

-- An answer with the environment at exit says what matching comes to.
abbrev pub Says : Fitted → Bool → List ℕ → List ℕ → ℕ → Type 0
Says misfit r environment values used = r ≡ false
Says (fitted γ) r environment values used = (r ≡ true) × Holds environment values used γ

-- What is asked of values, environment and links.
pub record Lent (values : List ℕ) (used value : ℕ) (environment links : List ℕ) : Type 0 where
  pub stored : Values values used
  pub root : Value values used value
  pub long : pattern_room ≤ length environment
  pub known : (β : Bindings) × Holds environment values used β
  pub linked : Links links used

-- What matching of a term with the value ensures.
pub record Matched (term : Term) (values : List ℕ) (used value : ℕ) (environment links : List ℕ) (r : Bool) (environment' links' : List ℕ) : Type 0 where
  pub says : (β : Bindings) → Holds environment values used β → Says (bind_of term (value_at values value) β) r environment' values used
  pub kept : length environment' ≡ length environment
  pub restored : links' ≡ links

-- What `bind` asks: besides, the pattern, and a row of the stack for each of its nodes.
pub record BindAsked (pattern : List ℕ) (reference : ℕ) (values : List ℕ) (used value : ℕ) (environment links : List ℕ) (stack : Rows) : Type 0 where
  pub size : ℕ
  pub patterned : PatternIn pattern size reference (length stack)
  pub lent : Lent values used value environment links
