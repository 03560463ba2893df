-- The lines of a listing, as the code is given their parts: a verdict, a value's reference, a node's row.
use Rattle.std.specs.Prelude.{ℕ, ◌≤◌, ◌<◌, List, [], ◌++◌, map, get_or, length, Result, Ok, Err}
use Rattle.arena.specs.Rows.{Rows}
use Rattle.terms.specs.Term.{Term}
use Rattle.names.specs.Names.{Name}
use Rattle.names.specs.Symbols.{Symbol, column}
use Rattle.rules.specs.StoredRows.{titled}
use Rattle.resolution.specs.Preorder.{Entry, entry}
use Rattle.refusals.specs.Refusals.{number_of}
use Rattle.refusals.specs.declared.Refusal.{Refusal}
use Rattle.byte_output.specs.Output.{numeral}
use Rattle.listing.specs.Listing.{refused_word, line_end}
use Rattle.sessions.specs.declared.Verdict.{Verdict}
use Rattle.sessions.specs.declared.Verdict.TheVariants.{Proved, Nothing, Undecided}
use Rattle.printing.specs.Terms.{term_bytes}
use Rattle.printing.specs.Listing.{value_word, proved_word, none_word, undecided_word, line_start}

-- The names of the rules.
abbrev pub rule_name : List ℕ → List ℕ → Name
rule_name text row = titled text (column row 0) (column row 1) (column row 2)

abbrev pub rule_names : List ℕ → Rows → List Name
rule_names text rows = map (rule_name text) rows

-- A verdict without a term.
abbrev pub verdict_word : Result Verdict Refusal → List ℕ
verdict_word (Ok (Proved steps nodes counts)) = proved_word
verdict_word (Ok (Nothing steps counts)) = none_word
verdict_word (Ok (Undecided steps counts)) = undecided_word
verdict_word (Err e) = refused_word ++ numeral (number_of e)

abbrev pub verdict_line : ℕ → Result Verdict Refusal → List ℕ
verdict_line line v = line_start line ++ (verdict_word v ++ line_end)

-- The line of a value.
abbrev pub value_line : List Symbol → ℕ → Term → List ℕ
value_line symbols line t = line_start line ++ (value_word ++ (term_bytes symbols t ++ line_end))

-- The entry of a tree's row.
abbrev pub entry_in : (ℕ → Term) → List ℕ → Entry
entry_in g row = entry (get_or row 0 0) (get_or row 2 0) (g (get_or row 3 0))

abbrev pub entries_in : (ℕ → Term) → Rows → List Entry
entries_in g rows = map (entry_in g) rows

-- A rule's row that there is, with a clause number of few digits.
pub record RuleAsked (rules : Rows) (rule : ℕ) : Type 0 where
  pub known : rule < length rules
  pub short : column (get_or rules rule []) 2 ≤ 99999999
