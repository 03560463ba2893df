-- A rule as words and as a row (docs/STORAGE.md, "A signature's storage"): both are functions of the rule, of the place of its name and
-- of the address of its first word. Each node stands behind its arguments, from left to right, each once.
use Rattle.std.specs.Prelude.{ℕ, ◌+◌, List, [], ◌∷◌, ◌++◌, map, length, get_or}
use Rattle.terms.specs.Term.{Kind, Syn, var, app, nil, cons, count}
use Rattle.arena.specs.Copies.{pattern_room}
use Rattle.resolution.specs.Rules.{Rule}
use Rattle.resolution.specs.Fresh.{place, head_vars, all_vars}
use Rattle.resolution.specs.Search.{words}
use Rattle.meeting.specs.Places.{numbers_below}
use Rattle.patterns.specs.Laying.{header}
use Rattle.rules.specs.StoredRows.{rule_row}
use Rattle.rules.specs.declared.Title.{Title}

-- The references of a term, or of several, whose words start at the address u: a variable is itself, a node the address of its header.
unfoldable pub references : {k : Kind} → Syn k → ℕ → List ℕ
references (var i) u = i ∷ []
references (app f ts) u = (pattern_room + (u + words ts)) ∷ []
references nil u = []
references (cons t ts) u = references t u ++ references ts (u + words t)

-- Its words: those of its arguments, and then its header and their references.
unfoldable pub laid_words : {k : Kind} → Syn k → ℕ → List ℕ
laid_words (var i) u = []
laid_words (app f ts) u = laid_words ts u ++ (header f (count ts) ∷ references ts u)
laid_words nil u = []
laid_words (cons t ts) u = laid_words t u ++ laid_words ts (u + words t)

-- The words of a rule: those of its premises in order, and then those of its conclusion.
unfoldable pub rule_words : ℕ → Rule → List ℕ
rule_words u R = laid_words R.premises u ++ laid_words R.conclusion (u + words R.premises)

-- The ten numbers of a rule, in the order of the columns.
abbrev pub rule_numbers : Title → ℕ → Rule → List ℕ
rule_numbers title u R =
    title.word.start ∷ title.word.size ∷ title.clause ∷ length R.sorts ∷ count R.premises
    ∷ get_or (references R.conclusion (u + words R.premises)) 0 0
    ∷ u ∷ words R.premises ∷ words R.conclusion ∷ length (head_vars R) ∷ []

-- The row of a rule with this title, whose words start at the address u.
unfoldable pub row_of : Title → ℕ → Rule → List ℕ
row_of title u R =
    rule_row (rule_numbers title u R) (references R.premises u) R.sorts
    (map (place (all_vars R)) (numbers_below (length R.sorts)))
