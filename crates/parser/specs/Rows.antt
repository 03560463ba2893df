-- Source declarations as rows of four numbers, in preorder, over the rows of terms and names that `term_parser` defines. A declaration's row: the keyword's
-- number, the line, and how many parts of two kinds follow.
use Rattle.std.specs.Prelude.{ℕ, List, [], ◌∷◌, ◌++◌, length, get_or}
use Rattle.words.specs.Names.{name_kind}
use Rattle.term_parser.specs.Rows.{Rows, row, rows_of, rows_of_all, name_rows}
use Rattle.parser.specs.Source.{Clause, Binders, Tactic, auto, induction, Titled, Declaration, sort, ctor, pred, rule, def, theorem, eval, check}
use Rattle.parser.specs.Declarations.{Declared}

-- The kinds of rows beside those of tokens and terms.
abbrev pub clause_kind : ℕ
clause_kind = 25

abbrev pub binders_kind : ℕ
binders_kind = 26

-- A clause: the number of its patterns, the patterns, the right side.
abbrev pub clause_rows : Clause → Rows
clause_rows c = (clause_kind ∷ 0 ∷ 0 ∷ length c.patterns ∷ []) ∷ (rows_of_all rows_of c.patterns ++ rows_of c.body)

-- Binders: the place of their sort and the number of their names, the names.
abbrev pub binders_rows : Binders → Rows
binders_rows b = row binders_kind b.sort (length b.names) ∷ rows_of_all name_rows b.names

-- A tactic: nothing for `auto`, the name for `induction`.
abbrev pub tactic_rows : Tactic → Rows
tactic_rows auto = []
tactic_rows (induction p) = name_rows p

-- An item under a keyword's number.
abbrev pub single_rows : {A : Type 0} → (A → Rows) → ℕ → ℕ → A → Rows
single_rows rows kind line a = (kind ∷ line ∷ 0 ∷ 0 ∷ []) ∷ rows a

-- A title and a list behind it, under a keyword's number: the number of items, the title, the items.
abbrev pub titled_rows : {A : Type 0} → (A → Rows) → ℕ → ℕ → Titled A → Rows
titled_rows rows kind line t = (kind ∷ line ∷ length t.items ∷ 0 ∷ []) ∷ (name_rows t.title ++ rows_of_all rows t.items)

-- The number in the row of a theorem's name counts its tactic's rows.
abbrev pub declaration_rows : ℕ → Declaration → Rows
declaration_rows line (sort n) = (1 ∷ line ∷ 0 ∷ 0 ∷ []) ∷ name_rows n
declaration_rows line (ctor n ss) = (2 ∷ line ∷ length ss ∷ 0 ∷ []) ∷ (name_rows n ++ rows_of_all name_rows ss)
declaration_rows line (pred n ss) = (3 ∷ line ∷ length ss ∷ 0 ∷ []) ∷ (name_rows n ++ rows_of_all name_rows ss)
declaration_rows line (rule n js) = (4 ∷ line ∷ length js ∷ 0 ∷ []) ∷ (name_rows n ++ rows_of_all rows_of js)
declaration_rows line (def n ss cs) = (5 ∷ line ∷ length ss ∷ length cs ∷ []) ∷ (name_rows n ++ (rows_of_all name_rows ss ++ rows_of_all clause_rows cs))
declaration_rows line (theorem n bs js t) =
    (6 ∷ line ∷ length bs ∷ length js ∷ []) ∷ (row name_kind n (length (tactic_rows t)) ∷ (rows_of_all binders_rows bs ++ (rows_of_all rows_of js ++ tactic_rows t)))
declaration_rows line (eval t) = (10 ∷ line ∷ 0 ∷ 0 ∷ []) ∷ rows_of t
declaration_rows line (check t) = (11 ∷ line ∷ 0 ∷ 0 ∷ []) ∷ rows_of t

abbrev pub declared_rows : Declared → Rows
declared_rows d = declaration_rows d.line d.declaration

-- A row with another number at its end.
abbrev pub numbered : List ℕ → ℕ → List ℕ
numbered line n = get_or line 0 0 ∷ get_or line 1 0 ∷ get_or line 2 0 ∷ n ∷ []
