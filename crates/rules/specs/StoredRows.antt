-- A rule's row (docs/STORAGE.md, "A signature's storage"): start and length of its name, clause number + 1 (0: a written rule), number of variables, number of
-- premises, reference of the conclusion, first word, words of the premises, words of the conclusion, variables met in the conclusion; from column 10 on the
-- references of the premises, from column 26 on the sorts of the variables, and from column 90 on their places in meeting order.
use Rattle.std.specs.Prelude.{ℕ, ◌+◌, ◌-◌, ◌≤◌, ◌<◌, ◌≡◌, true, cond, List, eqb, length, get_or, replicate}
use Rattle.std.proofs.lemmas.List.Edits.{sets}
use Rattle.source_text.specs.Parts.{part_of}
use Rattle.names.specs.Names.{Name, clause_name}
use Rattle.names.specs.Symbols.{column, columns}
use Rattle.resolution.specs.Rules.{Rule}
use Rattle.resolution.specs.Fresh.{elem, place, head_vars, all_vars}
use Rattle.attempts.specs.declared.Stored.{Stored}
use Rattle.rules.specs.LayingLaws.{RuleLying}

-- The name of a rule whose name stands at a place, or of the clause with a number of the function there.
abbrev pub titled : List ℕ → ℕ → ℕ → ℕ → Name
titled text start size clause = cond (eqb clause 0) (part_of text start size) (clause_name (part_of text start size) (clause - 1))

-- A row: ten numbers, and then references, sorts and places.
abbrev pub rule_row : List ℕ → List ℕ → List ℕ → List ℕ → List ℕ
rule_row numbers heads sorts places = sets (sets (sets (sets (replicate 154 0) 0 numbers) 10 heads) 26 sorts) 90 places

abbrev pub heads_in : List ℕ → List ℕ
heads_in row = columns row 10 (column row 4)

abbrev pub places_in : List ℕ → List ℕ
places_in row = columns row 90 (column row 3)

abbrev pub stored_in : List ℕ → Stored
stored_in row = record { from = column row 6; head = column row 8; body = column row 7; conclusion = column row 5; met = column row 9; variables = column row 3 }

-- The row and the words from u up to u' are the rule's.
pub record Kept (text arities words row : List ℕ) (R : Rule) (u u' : ℕ) : Type 0 where
  pub named : titled text (column row 0) (column row 1) (column row 2) ≡ R.name
  pub sorted : columns row 26 (column row 3) ≡ R.sorts
  -- its terms lie in the words, the premises first;
  pub lying : RuleLying arities R words u (heads_in row) (u + column row 7) (column row 5) u'
  pub from : column row 6 ≡ u
  pub to : u + column row 7 + column row 8 ≡ u'
  -- its variables are counted, and each has its place in meeting order;
  pub meets : column row 9 ≡ length (head_vars R)
  pub variables : column row 3 ≡ length (all_vars R)
  pub few : column row 3 ≤ 64
  pub placed : (x : ℕ) → elem x (all_vars R) ≡ true → get_or (places_in row) x 0 ≡ place (all_vars R) x
  -- it has at most 16 premises, and zero past premises, sorts and places.
  pub premises : column row 4 ≤ 16
  pub heads_clear : (j : ℕ) → column row 4 ≤ j → j < 16 → column row (10 + j) ≡ 0
  pub sorts_clear_lem : (j : ℕ) → column row 3 ≤ j → j < 64 → column row (26 + j) ≡ 0
  pub places_clear : (j : ℕ) → column row 3 ≤ j → j < 64 → column row (90 + j) ≡ 0
