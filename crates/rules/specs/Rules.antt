-- Judgments become a rule (document 01, "Rules"; the Rust's `Sig::rule`): the premises in order and then the conclusion, whose variables are numbered
-- together; then the sort of each variable has to be known.
use Rattle.std.specs.Prelude.{ℕ, Bool, true, cond, ◌&&◌, List, [], ◌∷◌, map, ltb}
use Rattle.terms.specs.Term.{Terms}
use Rattle.term_parser.specs.Source.{one, many}
use Rattle.term_parser.specs.Standing.{Written, size}
use Rattle.names.specs.Names.{Name}
use Rattle.names.specs.Symbols.{Symbol, Variable}
use Rattle.patterns.specs.Patterns.{Out, bad, good, when, pattern_of}
use Rattle.resolution.specs.Rules.{Rule}

-- A rule, with the room for nodes then left; or the first refusal.
pub data Ruled : Type 0 where
  barred : ℕ → Ruled
  ruled : Rule → ℕ → Ruled

-- Is the sort of each variable known?
unfoldable pub all_known : List Variable → Bool
all_known [] = true
all_known (v ∷ vs) = ltb 0 v.sort && all_known vs

abbrev pub closed : Name → Terms → Out one → Ruled
closed name ps (bad e) = barred e
closed name ps (good c vs room) =
    cond (all_known vs) (ruled (record { name = name; sorts = map (λ v. v.sort) vs; premises = ps; conclusion = c }) room) (barred 25)

abbrev pub concluded : List Symbol → Name → Written one → Out many → Ruled
concluded symbols name c (bad e) = barred e
concluded symbols name c (good ps vs room) = closed name ps (pattern_of symbols c (0 ∷ []) vs room)

-- `Sig::rule`, with room for so many nodes. Over 16 premises are refused before any pattern is compiled.
unfoldable pub rule_of : List Symbol → Name → Written many → Written one → ℕ → Ruled
rule_of symbols name ps c room = when (ltb 16 (size ps)) (λ _. barred 28) (λ _. concluded symbols name c (pattern_of symbols ps [] [] room))

-- The 1,025th rule is refused, when everything else is done.
abbrev pub entering : ℕ → Ruled → Ruled
entering number (barred e) = barred e
entering number (ruled R room) = cond (ltb number 1024) (ruled R room) (barred 28)
