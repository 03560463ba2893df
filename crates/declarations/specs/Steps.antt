-- What the functions that declare ask and owe.
use Rattle.std.specs.Prelude.{ℕ, ◌+◌, ◌-◌, ◌≤◌, ◌<◌, ◌≡◌, Bool, Result, Ok, Err, List, [], ◌∷◌, ◌++◌, length}
use Rattle.source_text.specs.Parts.{part_of}
use Rattle.term_parser.specs.Source.{Place, place, Source, one}
use Rattle.parser.specs.Source.{Clause, def}
use Rattle.parser.specs.Declarations.{Declared}
use Rattle.parser.specs.Rows.{declared_rows}
use Rattle.names.specs.Names.{Name}
use Rattle.names.specs.NamePlaces.{NamePlace}
use Rattle.names.specs.Symbols.{Rows, column, row_at, symbols_of}
pub use Rattle.names.specs.RowNames.{name_at}
use Rattle.rules.specs.PatternLaws.{InputsUpto}
use Rattle.rules.specs.declared.Title.{Title}
use Rattle.refusals.specs.declared.Refusal.{Refusal}
use Rattle.refusals.specs.declared.Refusal.TheVariants.{NoDeclaration}
use Rattle.refusals.specs.Refusals.{number_of}
use Rattle.refusals.specs.Refused.{Refuses}
use Rattle.clauses.specs.declared.EnteredRule.{EnteredRule}
use Rattle.loader.specs.Signature.{Signature, Step, no, on, and_then, with_sorts, with_some, numbers_of, first_of, enter_symbol, enter_judgments, enter_clause, enter_clauses, declare}
use Rattle.loader.specs.Legal.{Legal}
use Rattle.loader.specs.Stored.{Titles, title_at, with_clauses, entitled}
use Rattle.loader.specs.LegalLaws.{Stepping}
use Rattle.loader.specs.Arrows.{names_at}
use Rattle.loader.specs.SymbolEntry.{SymbolEntered}
use Rattle.loader.specs.TermRows.{JudgmentsStand, ClauseStands}
use Rattle.loader.specs.TokenPlaceLaws.{Named}
use Rattle.loader.specs.PlaceLaws.{Titled}
use Rattle.declarations.specs.Held.{RulesHeld, Held}
use Rattle.declarations.specs.declared.State.{State}
use Rattle.declarations.specs.declared.Progress.{Progress}

-- The place of the name in a row.
abbrev pub place_at : Rows → ℕ → Place
place_at rows p = place (column (row_at rows p) 1) (column (row_at rows p) 2)

-- The name in a row has a place in the text.
abbrev pub NameInside : List ℕ → Rows → ℕ → Type 0
NameInside text rows p = NamePlace text (column (row_at rows p) 1) (column (row_at rows p) 2)

-- Names

-- The row behind the declaration, and one sort more.
abbrev pub sort_progress : ℕ → State → Progress
sort_progress p st = record { next = p + 2; state = record { sorts = st.sorts + 1; symbols = st.symbols; rules = st.rules; used = st.used; left = st.left } }

-- The same of a symbol, behind the declaration with k sorts.
abbrev pub symbol_progress : ℕ → ℕ → State → Progress
symbol_progress p k st = record { next = p + 2 + k; state = record { sorts = st.sorts; symbols = st.symbols + 1; rules = st.rules; used = st.used; left = st.left } }

-- The refusal with a number; or, without one (0), so far.
abbrev pub GoesTo : ℕ → Progress → Result Progress Refusal → Type 0
GoesTo n x (Ok y) = (0 ≡ n) × (y ≡ x)
GoesTo n x (Err e) = (number_of e ≡ n) × (0 < number_of e)

-- A number that is not 0, or no declaration.
abbrev pub SomeOf : ℕ → Result ℕ Refusal → Type 0
SomeOf n (Ok k) = (k ≡ n) × (0 < n)
SomeOf n (Err e) = (e ≡ NoDeclaration) × (n ≡ 0)

-- What `declare_symbol` asks: k sorts behind the row of the name.
pub record SymbolAsked (rows : Rows) (p : ℕ) (sorts symbols : Rows) (st : State) : Type 0 where
  pub there : p + 2 + column (row_at rows p) 2 ≤ length rows
  pub short : length rows ≤ 65536
  pub sorts_lent : 256 ≤ length sorts
  pub symbols_lent : 1024 ≤ length symbols
  pub few_sorts : st.sorts ≤ 256
  pub few_symbols : st.symbols ≤ 1024

-- What it owes.
pub record SymbolDeclared (text : List ℕ) (rows : Rows) (p : ℕ) (constructor : Bool) (function first clauses : ℕ) (sorts symbols : Rows) (st : State) (r : Result Progress Refusal) (symbols' : Rows) : Type 0 where
  pub refusal : ℕ
  pub is : GoesTo refusal (symbol_progress p (column (row_at rows p) 2) st) r
  pub entered : SymbolEntered text rows (p + 2) (column (row_at rows p) 2) (column (row_at rows (p + 1)) 1) (column (row_at rows (p + 1)) 2) constructor function first clauses sorts st.sorts symbols st.symbols refusal symbols'

-- Rules

-- The symbols are those of the signature, and the rules are held.
pub record Ready (text : List ℕ) (limit : ℕ) (ts : List Title) (s : Signature) (symbols rules : Rows) (words : List ℕ) (st : State) : Type 0 where
  pub lent : 1024 ≤ length symbols
  pub few : st.symbols ≤ 1024
  pub symbols_are : symbols_of text symbols st.symbols ≡ s.symbols
  pub inputs : (i : ℕ) → i < st.symbols → column (row_at symbols i) 6 ≤ 16
  pub upto : InputsUpto 256 s.symbols
  pub kept : RulesHeld text limit ts s rules words st

-- Rules were entered up to the row q, with these titles in all, and the names are as they were; or the refusal.
pub record Filled (text : List ℕ) (limit : ℕ) (ts : List Title) (t : Signature) (rules : Rows) (words : List ℕ) (st st' : State) : Type 0 where
  pub kept : RulesHeld text limit ts t rules words st'
  pub sorts : st'.sorts ≡ st.sorts
  pub symbols : st'.symbols ≡ st.symbols

abbrev pub Advanced : List ℕ → ℕ → List Title → Step → ℕ → Rows → List ℕ → State → Result Progress Refusal → Type 0
Advanced text limit ts (no e) q rules words st r = Refuses r e
Advanced text limit ts (on t) q rules words st r = (st' : State) × (r ≡ Ok (record { next = q; state = st' })) × Filled text limit ts t rules words st st'

-- How an outcome is told, where so many nodes were allowed.
abbrev pub progress_of : State → ℕ → Result EnteredRule Refusal → Result Progress Refusal
progress_of st m (Err e) = Err e
progress_of st m (Ok r) =
    Ok (record { next = r.next; state = record { sorts = st.sorts; symbols = st.symbols; rules = st.rules + 1; used = r.space.used; left = st.left - (m - r.space.room) } })

-- What `declare_rule` asks: as many judgments as the declaration's row says, behind the row of the name.
pub record RuleAsked (text : List ℕ) (rows : Rows) (p : ℕ) (symbols rules : Rows) (words : List ℕ) (st : State) : Type 0 where
  pub here : p + 2 ≤ length rows
  pub short : length rows ≤ 65536
  pub ready : (limit : ℕ) × (ts : List Title) × (s : Signature) × Ready text limit ts s symbols rules words st
  pub stand : 0 < column (row_at rows p) 2 → (j : Source one) × (js : List (Source one)) × (q : ℕ) × JudgmentsStand text rows (p + 2) j js q × (column (row_at rows p) 2 ≡ length (j ∷ js))

-- What it owes.
pub record RuleDeclared (text : List ℕ) (rows : Rows) (p : ℕ) (symbols rules : Rows) (words : List ℕ) (st : State) (r : Result Progress Refusal) (rules' : Rows) (words' : List ℕ) : Type 0 where
  pub none : column (row_at rows p) 2 ≡ 0 → r ≡ Err NoDeclaration
  pub same : (limit : ℕ) (ts : List Title) (s : Signature) → Ready text limit ts s symbols rules words st → NameInside text rows (p + 1)
      → (j : Source one) (js : List (Source one)) (q : ℕ) → JudgmentsStand text rows (p + 2) j js q → column (row_at rows p) 2 ≡ length (j ∷ js)
      → Advanced text limit (ts ++ (title_at (place_at rows (p + 1)) 0 ∷ [])) (enter_judgments limit text s (name_at text rows (p + 1)) (j ∷ js)) q rules' words' st r

-- What `declare_clause` asks: a clause at the row p, and rows for flattening.
pub record ClauseAsked (text : List ℕ) (rows : Rows) (p number : ℕ) (symbols rules : Rows) (words : List ℕ) (out calls : Rows) (st : State) : Type 0 where
  pub short : length rows ≤ 65536
  pub few : number ≤ 65536
  pub out_lent : length rows ≤ length out
  pub calls_lent : length rows + 32 ≤ length calls
  pub ready : (limit : ℕ) × (ts : List Title) × (s : Signature) × Ready text limit ts s symbols rules words st
  pub stand : (c : Clause) × (q : ℕ) × ClauseStands text rows p c q

-- What it owes, where there are as many rules as clauses before it.
pub record ClauseDeclared (text : List ℕ) (rows : Rows) (p number start size : ℕ) (symbols rules : Rows) (words : List ℕ) (st : State) (r : Result Progress Refusal) (rules' : Rows) (words' : List ℕ) : Type 0 where
  pub same : (limit : ℕ) (ts : List Title) (s : Signature) → Ready text limit ts s symbols rules words st → NamePlace text start size → number ≤ st.rules
      → (c : Clause) (q : ℕ) → ClauseStands text rows p c q
      → Advanced text limit (ts ++ (title_at (place start size) (number + 1) ∷ [])) (enter_clause limit text s (part_of text start size) number c) q rules' words' st r

-- Clauses one behind the other.
unfoldable pub ClausesStand : List ℕ → Rows → ℕ → List Clause → ℕ → Type 0
ClausesStand text rows p [] q = p ≡ q
ClausesStand text rows p (c ∷ cs) q = (m : ℕ) × ClauseStands text rows p c m × ClausesStand text rows m cs q

-- What `declare_clauses` asks: n clauses from the row p on.
pub record ClausesAsked (text : List ℕ) (rows : Rows) (p n start size : ℕ) (symbols rules : Rows) (words : List ℕ) (out calls : Rows) (st : State) : Type 0 where
  pub short : length rows ≤ 65536
  pub few : n ≤ 65536
  pub out_lent : length rows ≤ length out
  pub calls_lent : length rows + 32 ≤ length calls
  pub inside : NamePlace text start size
  pub ready : (limit : ℕ) × (ts : List Title) × (s : Signature) × Ready text limit ts s symbols rules words st
  pub stand : (cs : List Clause) × (q : ℕ) × ClausesStand text rows p cs q × (n ≡ length cs)

-- What it owes.
pub record ClausesDeclared (text : List ℕ) (rows : Rows) (p n start size : ℕ) (symbols rules : Rows) (words : List ℕ) (st : State) (r : Result Progress Refusal) (rules' : Rows) (words' : List ℕ) : Type 0 where
  pub same : (limit : ℕ) (ts : List Title) (s : Signature) → Ready text limit ts s symbols rules words st
      → (cs : List Clause) (q : ℕ) → ClausesStand text rows p cs q → n ≡ length cs
      → Advanced text limit (with_clauses ts (place start size) 0 cs) (enter_clauses limit text s (part_of text start size) 0 cs) q rules' words' st r

-- Declarations

-- One declaration was entered up to the row q, with these titles in all, or refused.
abbrev pub Stepped : List ℕ → ℕ → Titles → Step → ℕ → Rows → Rows → Rows → List ℕ → Result Progress Refusal → Type 0
Stepped text limit ts (no e) q sorts symbols rules words r = Refuses r e
Stepped text limit ts (on t) q sorts symbols rules words r = (st : State) × (r ≡ Ok (record { next = q; state = st })) × Held text limit ts t sorts symbols rules words st

-- `def` of a name by its sorts' names and its clauses.
abbrev pub def_of : ℕ → List ℕ → Signature → Name → List Name → List Clause → Step
def_of limit text s w ws cs = with_sorts (numbers_of s.sorts ws) (λ ns. with_some ns (and_then
    (enter_symbol s (record { name = w; inputs = ns; output = 0; function = 1; first = first_of s cs; clauses = length cs }))
    (λ t. enter_clauses limit text t w 0 cs)))

-- What `declare_def` asks: behind the row of the name as many sorts and clauses as the declaration's row says.
pub record DefAsked (text : List ℕ) (rows : Rows) (p : ℕ) (sorts symbols rules : Rows) (words : List ℕ) (out calls : Rows) (st : State) : Type 0 where
  pub there : p + 2 + column (row_at rows p) 2 ≤ length rows
  pub few : column (row_at rows p) 3 ≤ 65536
  pub short : length rows ≤ 65536
  pub out_lent : length rows ≤ length out
  pub calls_lent : length rows + 32 ≤ length calls
  pub ready : (limit : ℕ) × (ts : Titles) × (s : Signature) × Held text limit ts s sorts symbols rules words st
  pub inside : NameInside text rows (p + 1)
  pub stand : (cs : List Clause) × (q : ℕ) × ClausesStand text rows (p + 2 + column (row_at rows p) 2) cs q × (column (row_at rows p) 3 ≡ length cs)

-- What it owes.
pub record DefDeclared (text : List ℕ) (rows : Rows) (p : ℕ) (sorts symbols rules : Rows) (words : List ℕ) (st : State) (r : Result Progress Refusal) (symbols' rules' : Rows) (words' : List ℕ) : Type 0 where
  pub same : (limit : ℕ) (ts : Titles) (s : Signature) → Held text limit ts s sorts symbols rules words st
      → (cs : List Clause) (q : ℕ) → ClausesStand text rows (p + 2 + column (row_at rows p) 2) cs q → column (row_at rows p) 3 ≡ length cs
      → Stepping Legal (def_of limit text s (name_at text rows (p + 1)) (names_at text rows (p + 2) (column (row_at rows p) 2)) cs)
      → Stepped text limit (entitled ts (def (place_at rows (p + 1)) [] cs)) (def_of limit text s (name_at text rows (p + 1)) (names_at text rows (p + 2) (column (row_at rows p) 2)) cs) q sorts symbols' rules' words' r

-- A declaration in the rows from p on and before q, whose name has a place in the text.
pub record DeclarationAt (text : List ℕ) (rows : Rows) (p : ℕ) (d : Declared) (q : ℕ) : Type 0 where
  pub before : Rows
  pub after : Rows
  pub split : rows ≡ before ++ (declared_rows d ++ after)
  pub from : length before ≡ p
  pub to : q ≡ p + length (declared_rows d)
  pub inside : Titled (Named text) d.declaration

-- What `declare` asks.
pub record DeclareAsked (text : List ℕ) (rows : Rows) (p : ℕ) (sorts symbols rules : Rows) (words : List ℕ) (out calls : Rows) (st : State) : Type 0 where
  pub short : length rows ≤ 65536
  pub out_lent : length rows ≤ length out
  pub calls_lent : length rows + 32 ≤ length calls
  pub ready : (limit : ℕ) × (ts : Titles) × (s : Signature) × Held text limit ts s sorts symbols rules words st
  pub stand : (d : Declared) × (q : ℕ) × DeclarationAt text rows p d q

-- What it owes.
pub record DeclareDone (text : List ℕ) (rows : Rows) (p : ℕ) (sorts symbols rules : Rows) (words : List ℕ) (st : State) (r : Result Progress Refusal) (sorts' symbols' rules' : Rows) (words' : List ℕ) : Type 0 where
  pub same : (limit : ℕ) (ts : Titles) (s : Signature) → Held text limit ts s sorts symbols rules words st
      → (d : Declared) (q : ℕ) → DeclarationAt text rows p d q → Stepped text limit (entitled ts d.declaration) (declare limit text s d.declaration) q sorts' symbols' rules' words' r
