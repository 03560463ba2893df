-- The stored signature of a text (docs/STORAGE.md, "A signature's storage"): where each name stands, and from there every row and word.
-- A name is kept at the place of its own declaration's word, and rows and words follow in entry order.
use Rattle.std.specs.Prelude.{ℕ, ◌+◌, ◌-◌, List, [], ◌∷◌, ◌++◌, map, length, replicate}
use Rattle.term_parser.specs.Source.{Place, place}
use Rattle.parser.specs.Source.{Clause, Declaration, sort, ctor, pred, rule, def, theorem, eval, check}
use Rattle.parser.specs.Declarations.{Declared}
use Rattle.names.specs.Symbols.{Rows, Symbol}
use Rattle.resolution.specs.Rules.{Rule}
use Rattle.rules.specs.Layout.{rule_words, row_of}
use Rattle.rules.specs.declared.Title.{Title}
use Rattle.loader.specs.Rows.{symbol_row}

-- Where the names of sorts and symbols stand, and the title of each rule, in entry order.
pub record Titles : Type 0 where
  pub sorts : List Place
  pub symbols : List Place
  pub rules : List Title

abbrev pub untitled : Titles
untitled = record { sorts = []; symbols = []; rules = [] }

-- The title of a rule whose name stands there (0), or of the clause n of the function whose name stands there (n + 1).
abbrev pub title_at : Place → ℕ → Title
title_at (place start size) clause = record { word = record { start = start; size = size }; clause = clause }

-- With one sort more, and with one symbol more.
abbrev pub sort_titled : Titles → Place → Titles
sort_titled t p = record { sorts = t.sorts ++ (p ∷ []); symbols = t.symbols; rules = t.rules }

abbrev pub symbol_titled : Titles → Place → Titles
symbol_titled t p = record { sorts = t.sorts; symbols = t.symbols ++ (p ∷ []); rules = t.rules }

-- With the clauses from number n on of the function whose name stands there.
unfoldable pub with_clauses : List Title → Place → ℕ → List Clause → List Title
with_clauses ts p n [] = ts
with_clauses ts p n (c ∷ cs) = with_clauses (ts ++ (title_at p (n + 1) ∷ [])) p (n + 1) cs

-- With those of one declaration.
abbrev pub entitled : Titles → Declaration → Titles
entitled t (sort p) = sort_titled t p
entitled t (ctor p ss) = symbol_titled t p
entitled t (pred p ss) = symbol_titled t p
entitled t (rule p js) = record { sorts = t.sorts; symbols = t.symbols; rules = t.rules ++ (title_at p 0 ∷ []) }
entitled t (def p ss cs) = record { sorts = t.sorts; symbols = t.symbols ++ (p ∷ []); rules = with_clauses t.rules p 0 cs }
entitled t (theorem p bs js x) = t
entitled t (eval x) = t
entitled t (check x) = t

-- With those of the declarations from here on.
unfoldable pub titles_from : Titles → List Declared → Titles
titles_from t [] = t
titles_from t (d ∷ ds) = titles_from (entitled t d.declaration) ds

-- The titles of a text.
abbrev pub titles_of : List Declared → Titles
titles_of ds = titles_from untitled ds

-- A row for each sort,
abbrev pub sort_row : Place → List ℕ
sort_row (place start size) = start ∷ size ∷ []

abbrev pub sort_rows : List Place → Rows
sort_rows ps = map sort_row ps

-- for each symbol,
abbrev pub symbol_row_of : Place → Symbol → List ℕ
symbol_row_of (place start size) f = symbol_row start size f.output f.function f.first f.clauses (length f.inputs) f.inputs

unfoldable pub symbol_rows : List Place → List Symbol → Rows
symbol_rows [] fs = []
symbol_rows (p ∷ ps) [] = []
symbol_rows (p ∷ ps) (f ∷ fs) = symbol_row_of p f ∷ symbol_rows ps fs

-- and for each rule, where the first has its words from the address u on and each other behind the rule before.
unfoldable pub rule_rows : List Title → List Rule → ℕ → Rows
rule_rows [] Rs u = []
rule_rows (t ∷ ts) [] u = []
rule_rows (t ∷ ts) (R ∷ Rs) u = row_of t u R ∷ rule_rows ts Rs (u + length (rule_words u R))

-- The words of all rules, from the address u on.
unfoldable pub words_from : List Rule → ℕ → List ℕ
words_from [] u = []
words_from (R ∷ Rs) u = rule_words u R ++ words_from Rs (u + length (rule_words u R))

-- The first n items of storage: the list, and z past it.
abbrev pub padded : {A : Type 0} → A → ℕ → List A → List A
padded z n l = l ++ replicate (n - length l) z
