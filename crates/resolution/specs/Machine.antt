-- The search as a machine runs it: its equations without the bound on recursion; one cut flag; and its recursion as a stack of branch records, whose
-- invariant is that what the whole search comes to stays the same at every step.
-- Here are the definitions; the theorems about them are in proofs/Machine.
use Rattle.std.specs.Prelude.{ℕ, Bool, ◌||◌, List, [], ◌∷◌}
use Rattle.terms.specs.Term.{many, Term}
use Rattle.terms.specs.Bindings.{Bindings}
use Rattle.resolution.specs.Rules.{Rule, Tree}
use Rattle.resolution.specs.Search.{Limits, Work, Result, refused, found, failed, after, Search, tries, solve}

-- The search without its bound.
unfoldable pub search : Limits → List Rule → Search
search l rules b c m β w st = solve l rules b b c m β w st

-- The cut flag put in.
abbrev pub or_cut : Bool → Result → Result
or_cut x refused = refused
or_cut x (found β st b c m) = found β st b c m
or_cut x (failed b cut c) = failed b (x || cut) c

-- A branch record, or choice point: what is tried next if the current branch fails. The bindings, words and proofs are those before the rule was entered.
pub record Branch : Type 0 where
  pub saved : Bindings
  pub term : Term
  pub depth : ℕ
  pub rest : List Work
  pub stack : Tree many
  pub words : ℕ
  pub rule : ℕ
  pub others : List Rule

-- The goal of a branch record with the rules that are left.
abbrev pub retry : Limits → List Rule → Branch → ℕ → Bool → ℕ → Result
retry l rules f b cut c = tries l (search l rules) f.saved f.term f.depth f.rest f.stack f.words f.rule f.others b cut c

-- What the whole search comes to, the current branch having come to o.
abbrev pub resume : Limits → List Rule → List Branch → Result → Result
resume l rules [] o = o
resume l rules (f ∷ fs) o = resume l rules fs (after o (retry l rules f))
