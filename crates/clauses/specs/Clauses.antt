-- A clause becomes a rule (document 01, "Rules"; the Rust's `Sig::clause`): the calls in its right side become premises, and the conclusion is the function
-- applied to the patterns and what is left of the right side.
use Rattle.std.specs.Prelude.{ℕ, List}
use Rattle.term_parser.specs.Source.{one, many}
use Rattle.term_parser.specs.Standing.{Written, applied, nil as none}
use Rattle.names.specs.Names.{Name, clause_name}
use Rattle.names.specs.Symbols.{Symbol}
use Rattle.flattening.specs.Flattening.{Flat, flat, snoc, flatten_of}
use Rattle.rules.specs.Rules.{Ruled, rule_of}

abbrev pub flat_rule : List Symbol → Name → ℕ → Written many → Flat one → ℕ → Ruled
flat_rule symbols f n patterns (flat r ps) room = rule_of symbols (clause_name f n) ps (applied f (snoc patterns r)) room

-- `Sig::clause`, for the clause with number n of the function f.
unfoldable pub clause_of : List Symbol → Name → ℕ → Written many → Written one → ℕ → Ruled
clause_of symbols f n patterns right room = flat_rule symbols f n patterns (flatten_of symbols right none) room
