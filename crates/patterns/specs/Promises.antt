-- What the functions of `patterns` ask of and owe to each other.
use Rattle.std.specs.Prelude.{ℕ, zero, suc, ◌+◌, ◌*◌, ◌≤◌, ◌<◌, ◌≡◌, true, false, cond, ◌&&◌, Option, Some, None, Result, Ok, Err, List, [], ◌∷◌, length, take}
use Rattle.terms.specs.Term.{Term, app, nil, cons}
use Rattle.words.specs.Names.{numeral_kind}
use Rattle.term_parser.specs.Source.{Arity, one, many}
use Rattle.term_parser.specs.Rows.{application_kind}
use Rattle.term_parser.specs.Standing.{Written, number, size}
use Rattle.names.specs.Symbols.{Rows, Symbol, Variable, column, row_at, variables_of, symbol_number, symbol_at}
use Rattle.patterns.specs.Patterns.{Entry, refused, entered, Out, bad, good, bind, misfit, spent, unless, first, is_ctor, zero_name, succ_name, pattern_of}
use Rattle.names.specs.Names.{Name}
use Rattle.names.specs.Standing.{Stands}
use Rattle.patterns.specs.Laying.{Laid, laid, after, lay}
use Rattle.refusals.specs.declared.Refusal.{Refusal}
use Rattle.refusals.specs.Refusals.{number_of}
use Rattle.patterns.specs.declared.EnteredVariable.{EnteredVariable}
use Rattle.patterns.specs.declared.CompiledTerm.{CompiledTerm}
use Rattle.patterns.specs.declared.numeral_symbols.NumeralSymbols.{NumeralSymbols}
use Rattle.patterns.specs.declared.Place.{Place}

-- What the code hands back: a refusal, or references, words, variables and the room left.
pub data Answer : Type 0 where
  no : ℕ → Answer
  yes : Laid → List Variable → ℕ → Answer

-- A pattern laid into the words w from the place u on, behind the references acc.
abbrev pub stored : {n : Arity} → List ℕ → Out n → List ℕ → ℕ → Answer
stored acc (bad e) w u = no e
stored acc (good t vs room) w u = yes (after acc (lay t w u)) vs room

-- An answer of `enter`, with the variables' rows at exit.
abbrev pub entry_of : List ℕ → Result EnteredVariable Refusal → Rows → Entry
entry_of text (Ok v) rows = entered v.index (variables_of text rows v.count)
entry_of text (Err e) rows = refused (number_of e)

abbrev pub Grew : ℕ → Result EnteredVariable Refusal → Type 0
Grew m (Ok v) = (v.index < v.count) × (m ≤ v.count) × (v.count ≤ 64)
Grew m (Err e) = 0 < number_of e

-- An answer of the compiler, with the variables' rows and the words at exit.
abbrev pub answer : List ℕ → Result CompiledTerm Refusal → Rows → List ℕ → Answer
answer text (Ok p) vx wx = yes (laid (p.node ∷ []) wx p.place.used) (variables_of text vx p.place.variables) p.place.room
answer text (Err e) vx wx = no (number_of e)

-- What callers count with: a node takes no more than 2 words.
abbrev pub Small : ℕ → ℕ → ℕ → ℕ → Result CompiledTerm Refusal → Type 0
Small p n u room (Ok r) = (p ≤ r.place.next) × (n ≤ r.place.variables) × (r.place.variables ≤ 64) × (u ≤ r.place.used) × (r.place.used + 2 * r.place.room + 1 ≤ u + 2 * room)
Small p n u room (Err e) = Unit {0}

abbrev pub NextIs : ℕ → Result CompiledTerm Refusal → Type 0
NextIs q (Ok r) = r.place.next ≡ q
NextIs q (Err e) = Unit {0}

-- Where a row's name lies: kind, start and length.
abbrev pub place_of : List ℕ → List ℕ
place_of row = column row 0 ∷ column row 1 ∷ column row 2 ∷ []

-- The rows of variables after a term: those that there were keep their names' places, and P holds of those that are new.
pub record Placed (P : List ℕ → Type 0) (vs : Rows) (nv : ℕ) (vx : Rows) (nx : ℕ) : Type 0 where
  pub old : (i : ℕ) → i < nv → place_of (row_at vx i) ≡ place_of (row_at vs i)
  pub new : (i : ℕ) → nv ≤ i → i < nx → P (row_at vx i)

-- A new row lies at this place.
abbrev pub LiesAt : ℕ → ℕ → ℕ → List ℕ → Type 0
LiesAt kind start n row = place_of row ≡ kind ∷ start ∷ n ∷ []

-- A new row lies where a row of the term from p on and before q does, which is neither a numeral's nor an application's.
pub record LiesIn (rows : Rows) (p q : ℕ) (row : List ℕ) : Type 0 where
  pub at : ℕ
  pub from : p ≤ at
  pub before : at < q
  pub no_numeral : column (row_at rows at) 0 ≡ numeral_kind → ⊥
  pub no_application : column (row_at rows at) 0 ≡ application_kind → ⊥
  pub same : place_of row ≡ place_of (row_at rows at)

-- The same of an answer of `enter`, and of one of the compiler, where P may speak of the row behind the term.
abbrev pub EntryPlaced : (List ℕ → Type 0) → Rows → ℕ → Result EnteredVariable Refusal → Rows → Type 0
EntryPlaced P vs nv (Ok v) vx = Placed P vs nv vx v.count
EntryPlaced P vs nv (Err e) vx = Unit {0}

abbrev pub MadePlaced : (ℕ → List ℕ → Type 0) → Rows → ℕ → Result CompiledTerm Refusal → Rows → Type 0
MadePlaced P vs nv (Ok r) vx = Placed (P r.place.next) vs nv vx r.place.variables
MadePlaced P vs nv (Err e) vx = Unit {0}

-- No variable is new.
abbrev pub NoneNew : ℕ → Result CompiledTerm Refusal → Type 0
NoneNew nv (Ok r) = r.place.variables ≡ nv
NoneNew nv (Err e) = Unit {0}

-- What the compiler asks of the storage: n symbols with at most 16 inputs, nv variables, u words, and 2 words for each of `room` nodes.
pub record Ready (symbols : Rows) (n : ℕ) (vs : Rows) (nv : ℕ) (w : List ℕ) (u room : ℕ) : Type 0 where
  pub lent : n ≤ length symbols
  pub few : n ≤ 1024
  pub inputs : (i : ℕ) → i < n → column (row_at symbols i) 6 ≤ 16
  pub variables : 64 ≤ length vs
  pub entered : nv ≤ 64
  pub words : u + 2 * room ≤ length w
  pub low : u + 2 * room ≤ 65536

-- A node of the symbol i over these arguments.
unfoldable pub node_of : List Symbol → ℕ → Written many → ℕ → List Variable → ℕ → Out one
node_of symbols i ts s vs room =
    unless (misfit (symbol_at symbols i) s (size ts)) (λ _. spent room (λ r. bind (pattern_of symbols ts (symbol_at symbols i).inputs vs r) (λ us ws q. good (app i us) ws q)))

-- `pattern` at the row p: whatever term stands there is compiled, and `next` is the row behind it.
pub record Compiled (text : List ℕ) (rows : Rows) (p : ℕ) (symbols : List Symbol) (s : ℕ) (vs : Rows) (nv : ℕ) (w : List ℕ) (u room : ℕ) (r : Result CompiledTerm Refusal) (vx : Rows) (wx : List ℕ) : Type 0 where
  pub small : Small (p + 1) nv u room r
  pub same : (t : Written one) (q : ℕ) → Stands text rows p t q → NextIs q r × (answer text r vx wx ≡ stored [] (pattern_of symbols t (s ∷ []) (variables_of text vs nv) room) w u)
  -- the name of a new variable lies where the term has it
  pub placed : MadePlaced (LiesIn rows p) vs nv r vx

-- `node` of the symbol i, its k arguments from the row p on.
pub record NodeMade (text : List ℕ) (rows : Rows) (p k : ℕ) (symbols : List Symbol) (i s : ℕ) (vs : Rows) (nv : ℕ) (w : List ℕ) (u room : ℕ) (r : Result CompiledTerm Refusal) (vx : Rows) (wx : List ℕ) : Type 0 where
  pub small : Small p nv u room r
  pub same : (ts : Written many) (q : ℕ) → Stands text rows p ts q → size ts ≡ k → NextIs q r × (answer text r vx wx ≡ stored [] (node_of symbols i ts s (variables_of text vs nv) room) w u)
  pub placed : MadePlaced (LiesIn rows p) vs nv r vx

-- n times y on z.
unfoldable pub tower : ℕ → ℕ → ℕ → Term
tower y z zero = app z nil
tower y z (suc n) = app y (cons (tower y z n) nil)

-- The answer is the refusal with a number; 0: nothing is refused.
abbrev pub RefusedFor : ℕ → Result (Unit {0}) Refusal → Type 0
RefusedFor n (Ok _) = 0 ≡ n
RefusedFor n (Err e) = (number_of e ≡ n) × (0 < number_of e)

-- The number of the constructor with a name.
abbrev pub constructor_of : List Symbol → Name → Option ℕ
constructor_of symbols w = cond (is_ctor symbols w) (Some (symbol_number symbols w)) None

-- The constructor with a name has a number.
abbrev pub ConstructorAt : List Symbol → Name → ℕ → Type 0
ConstructorAt symbols w i = (i ≡ symbol_number symbols w) × (is_ctor symbols w ≡ true) × (i < length symbols)

-- The constructors of numerals are found; or one of their names has none, which is refused.
abbrev pub NumeralsFound : List Symbol → Result NumeralSymbols Refusal → Type 0
NumeralsFound symbols (Ok found) = ConstructorAt symbols zero_name found.zero × ConstructorAt symbols succ_name found.succ
NumeralsFound symbols (Err e) = (number_of e ≡ 26) × (is_ctor symbols zero_name && is_ctor symbols succ_name ≡ false)

-- What n times f on g is refused for, at a place of the sort s with room for so many nodes; 0: nothing.
abbrev pub or_full : ℕ → ℕ → (ℕ → ℕ) → ℕ
or_full (suc e) room k = suc e
or_full zero zero k = 28
or_full zero (suc room) k = k room

unfoldable pub refusal : Symbol → Symbol → ℕ → ℕ → ℕ → ℕ
refusal f g zero s room = or_full (misfit g s 0) room (λ r. 0)
refusal f g (suc n) s room = or_full (misfit f s 1) room (λ r. refusal f g n (first f.inputs) r)

pub record Numbered (text : List ℕ) (symbols : List Symbol) (n s nv next : ℕ) (w : List ℕ) (u room : ℕ) (r : Result CompiledTerm Refusal) (wx : List ℕ) : Type 0 where
  pub small : Small next nv u room r
  pub going : NextIs next r
  pub none_new : NoneNew nv r
  pub same : (vx : Rows) → answer text r vx wx ≡ stored [] (pattern_of symbols (number n) (s ∷ []) (variables_of text vx nv) room) w u

-- An answer about several terms: their references stand first in the list l.
abbrev pub answers : List ℕ → Result Place Refusal → ℕ → List ℕ → Rows → List ℕ → Answer
answers text (Ok r) k l vx wx = yes (laid (take k l) wx r.used) (variables_of text vx r.variables) r.room
answers text (Err e) k l vx wx = no (number_of e)

abbrev pub EndsAt : ℕ → Result Place Refusal → Type 0
EndsAt q (Ok r) = r.next ≡ q
EndsAt q (Err e) = Unit {0}

-- What callers count with there.
abbrev pub Judging : ℕ → ℕ → ℕ → ℕ → Result Place Refusal → Type 0
Judging p n u room (Ok r) = (p ≤ r.next) × (n ≤ r.variables) × (r.variables ≤ 64) × (u ≤ r.used) × (r.used + 2 * r.room ≤ u + 2 * room)
Judging p n u room (Err e) = Unit {0}

-- `judgments`: k judgments from the row p on.
pub record Judged (text : List ℕ) (rows : Rows) (p k : ℕ) (symbols : List Symbol) (vs : Rows) (nv : ℕ) (w : List ℕ) (u room : ℕ) (r : Result Place Refusal) (vx : Rows) (wx lx : List ℕ) : Type 0 where
  pub small : Judging p nv u room r
  pub same : (ts : Written many) (q : ℕ) → Stands text rows p ts q → size ts ≡ k → EndsAt q r × (answers text r k lx vx wx ≡ stored [] (pattern_of symbols ts [] (variables_of text vs nv) room) w u)
