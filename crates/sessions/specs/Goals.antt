-- A goal (document 01, "Search": "each goal is compiled as a rule without premises"; the Rust's `Sig::rule`): the term that its rows stand
-- for, and how it compiles against a session's names.
use Rattle.std.specs.Prelude.{ℕ, cond, List, [], ◌∷◌, map, length, drop}
use Rattle.term_parser.specs.Source.{one}
use Rattle.term_parser.specs.Standing.{Written, spelled}
use Rattle.term_check.specs.TermRows.{TermAt}
use Rattle.resolution.specs.Session.{Name, Named, Compiled, refuses, compiles}
use Rattle.names.specs.Symbols.{Rows, Symbol, Variable}
use Rattle.patterns.specs.Patterns.{Out, bad, good, pattern_of}
use Rattle.rules.specs.Rules.{all_known}

-- A term as it is written, its names as bytes.
abbrev pub WrittenTerm : Type 0
WrittenTerm = Written one

-- The goal whose rows start at the row `at`.
abbrev pub goal_in : {text : List ℕ} {rows : Rows} {at next : ℕ} → TermAt text rows at next → WrittenTerm
goal_in {text} g = spelled text g.term

-- A session's names are the variables that are known, each with its sort.
abbrev pub variable_for : Named → Variable
variable_for n = record { name = n.name.text; sort = n.name.sort }

abbrev pub name_for : Variable → Name
name_for v = record { text = v.name; sort = v.sort }

-- 25 where a sort is not known; else the variables past the first n are the new names.
abbrev pub closing : ℕ → Out one → Compiled
closing n (bad e) = refuses e
closing n (good p vs left) = cond (all_known vs) (compiles (map name_for (drop n vs)) p) (refuses 25)

-- A judgment, with room for 1,024 nodes of its own; its variables and the session's names are at most 64 together.
unfoldable pub goal_compiled : List Symbol → WrittenTerm → List Named → Compiled
goal_compiled symbols t ns = closing (length ns) (pattern_of symbols t (0 ∷ []) (map variable_for ns) 1024)
