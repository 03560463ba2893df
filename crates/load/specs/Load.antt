-- `load` on all inputs (document 01, "Terms and declarations" and the table by place): the order of the refusals, and what lent storage holds afterwards.
use Rattle.std.specs.Prelude.{ℕ, ◌+◌, ◌*◌, ◌≤◌, ◌≡◌, cond, Result, Ok, Err, List, [], ◌∷◌, ◌++◌, eqb, length, take, set}
use Rattle.words.specs.Lexer.{capped_of}
use Rattle.words.specs.declared.Limits.{Limits}
use Rattle.term_parser.specs.Parsing.{Parsed, parsed, absent, refused as barred}
use Rattle.term_parser.specs.Rows.{rows_of_all}
use Rattle.parser.specs.Source.{Declaration, sort, ctor, pred, rule, def, theorem, eval, check}
use Rattle.parser.specs.Declarations.{Declared}
use Rattle.parser.specs.Rows.{declared_rows}
use Rattle.parser.specs.Parser.{text_of}
use Rattle.names.specs.Symbols.{Rows}
use Rattle.loader.specs.PlaceLaws.{TitlesInside}
use Rattle.loader.specs.Stored.{Titles, titles_of}
use Rattle.loader.specs.Signature.{Signature, Loaded, refused, loaded, load_of}
use Rattle.declarations.specs.Held.{Held}
use Rattle.declarations.specs.declared.State.{State}
use Rattle.refusals.specs.Refusals.{number_of}
use Rattle.refusals.specs.declared.Rejection.{Rejection}
use Rattle.load.specs.declared.Entered.{Entered}
use Rattle.load.specs.declared.Loaded.{Loaded as AllLoaded}

-- What `enter_all` and `load` answer.
abbrev pub Walk : Type 0
Walk = Result Entered Rejection

abbrev pub Loading : Type 0
Loading = Result AllLoaded Rejection

-- The answer is a refusal by a number and a line.
abbrev pub RejectedBy : {A : Type 0} → ℕ → ℕ → Result A Rejection → Type 0
RejectedBy e line (Ok x) = ⊥
RejectedBy e line (Err j) = (number_of j.refusal ≡ e) × (j.line ≡ line)

-- The declarations of a parsed text.
abbrev pub declared_in : Parsed (List Declared) → List Declared
declared_in (parsed ds n) = ds
declared_in absent = []
declared_in (barred r line) = []

-- A text that was parsed, loaded; or its refusal.
abbrev pub of_parsed : List ℕ → ℕ → Parsed (List Declared) → Loaded
of_parsed text limit (parsed ds n) = load_of limit text ds
of_parsed text limit absent = load_of limit text []
of_parsed text limit (barred r line) = refused (number_of r) line

-- A whole text: it is read to its end before it is parsed, and parsed before it is loaded.
abbrev pub load_text : List ℕ → Limits → Loaded
load_text text limits = of_parsed text (capped_of limits).nodes (text_of text limits)

-- The line of each `#eval` and the row of its term, for declarations from the row p on.
abbrev pub eval_of : ℕ → ℕ → Declaration → Rows
eval_of p line (sort n) = []
eval_of p line (ctor n ss) = []
eval_of p line (pred n ss) = []
eval_of p line (rule n js) = []
eval_of p line (def n ss cs) = []
eval_of p line (theorem n bs js t) = []
eval_of p line (eval t) = (line ∷ (p + 1) ∷ []) ∷ []
eval_of p line (check t) = []

unfoldable pub evals_from : ℕ → List Declared → Rows
evals_from p [] = []
evals_from p (d ∷ ds) = eval_of p d.line d.declaration ++ evals_from (p + length (declared_rows d)) ds

-- What `note` writes.
abbrev pub noted : Rows → ℕ → ℕ → ℕ → ℕ → Rows
noted evals count kind line p = cond (eqb kind 10) (set evals count (line ∷ (p + 1) ∷ [])) evals

-- What `enter_all` asks: the rows of declarations whose names lie in the text, and storage of the listed sizes.
pub record WalkAsked (text : List ℕ) (limit : ℕ) (rows : Rows) (n : ℕ) (sorts symbols rules : Rows) (words : List ℕ) (evals out calls : Rows) : Type 0 where
  pub declared : (ds : List Declared) × (rows ≡ rows_of_all declared_rows ds) × (n ≡ length ds) × TitlesInside text ds
  pub limited : limit ≤ 32768
  pub short : length rows ≤ 65536
  pub sorts_lent : 256 ≤ length sorts
  pub symbols_lent : 1024 ≤ length symbols
  pub rules_lent : 1024 ≤ length rules
  pub words_lent : 2 * limit ≤ length words
  pub evals_lent : length rows ≤ 2 * length evals + 1
  pub out_lent : length rows ≤ length out
  pub calls_lent : length rows + 32 ≤ length calls

-- What it owes: the refusal; or storage that holds the signature, and the `#eval` that wait.
pub record Filled (text : List ℕ) (limit : ℕ) (ts : Titles) (waiting : Rows) (s : Signature) (r : Walk) (sorts symbols rules : Rows) (words : List ℕ) (evals : Rows) : Type 0 where
  pub state : State
  pub is : r ≡ Ok (record { state = state; evals = length waiting })
  pub held : Held text limit ts s sorts symbols rules words state
  pub lent : length waiting ≤ length evals
  pub waits : take (length waiting) evals ≡ waiting

abbrev pub Came : List ℕ → ℕ → Titles → Rows → Loaded → Walk → Rows → Rows → Rows → List ℕ → Rows → Type 0
Came text limit ts waiting (refused e line) r sorts symbols rules words evals = RejectedBy e line r
Came text limit ts waiting (loaded s) r sorts symbols rules words evals = Filled text limit ts waiting s r sorts symbols rules words evals

pub record Walked (text : List ℕ) (limit : ℕ) (rows : Rows) (n : ℕ) (r : Walk) (sorts symbols rules : Rows) (words : List ℕ) (evals : Rows) : Type 0 where
  pub same : (ds : List Declared) → rows ≡ rows_of_all declared_rows ds → n ≡ length ds → TitlesInside text ds
      → Came text limit (titles_of ds) (evals_from 0 ds) (load_of limit text ds) r sorts symbols rules words evals
