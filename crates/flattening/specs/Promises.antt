-- What flattening asks of its caller, and what it leaves in the rows that it writes. Source terms stand in the parser's rows; flattened terms and premises
-- stand in rows that may name variables of flattening.
use Rattle.std.specs.Prelude.{ℕ, suc, ◌+◌, ◌-◌, ◌*◌, ◌≤◌, ◌<◌, ◌≡◌, Bool, false, cond, Option, Some, None, List, eqb, length}
use Rattle.words.specs.Names.{metavariable_kind, numeral_kind}
use Rattle.source_text.specs.Parts.{part_of}
use Rattle.term_parser.specs.Source.{Arity, one, many}
use Rattle.term_parser.specs.Rows.{application_kind}
use Rattle.term_parser.specs.Standing as parsed
use Rattle.term_parser.specs.Standing.{Written, called, applied, size}
use Rattle.names.specs.Names.{Name, result_name}
use Rattle.names.specs.Symbols.{Rows, row_at, Symbol, symbol_number}
use Rattle.names.specs.Standing.{Stands}
use Rattle.flattening.specs.Flattening.{Flat, flat, snoc, is_function, flatten_of}
use Rattle.flattening.specs.declared.Place.{Place}

-- The most premises of a rule, and so the most calls (document 01, 28).
abbrev pub call_limit : ℕ
call_limit = 16

-- How many arguments follow a row: only an application has any.
abbrev pub arity_of : ℕ → ℕ → ℕ
arity_of kind n = cond (eqb kind application_kind) n 0

-- Does a row of this kind and name stand for a call? Metavariables and numerals do not.
abbrev pub is_call : List Symbol → ℕ → Name → Bool
is_call symbols kind w = cond (eqb kind metavariable_kind) false (cond (eqb kind numeral_kind) false (is_function symbols w))

-- The number of the function that a row of this kind and name calls, if it stands for a call.
abbrev pub callee_of : List Symbol → ℕ → Name → Option ℕ
callee_of symbols kind w = cond (is_call symbols kind w) (Some (symbol_number symbols w)) None

-- How many premises there are in all.
abbrev pub premise_count : {n : Arity} → Flat n → ℕ
premise_count (flat t ps) = size ps

-- n rows of `source` from `first` on stand in `after` from `at` on; the rows below `at` are those of `before`.
pub record Copied (source before after : Rows) (first n at : ℕ) : Type 0 where
  pub kept : length after ≡ length before
  pub below : (i : ℕ) → i < at → row_at after i ≡ row_at before i
  pub here : (i : ℕ) → i < n → row_at after (at + i) ≡ row_at source (first + i)

-- The call's arguments stand in `out` from `top + 1` on and before `last`. The call becomes a premise, and its result variable takes its place in `out`.
pub record Replaced (out : Rows) (top last : ℕ) (calls : Rows) (end number start n args next : ℕ) (out' calls' : Rows) (next' top' end' number' : ℕ) : Type 0 where
  pub next_same : next' ≡ next
  pub one_row : top' ≡ top + 1
  pub appended : end' ≡ end + (last - top) + 1
  pub one_more : number' ≡ number + 1
  pub allowed : number < call_limit
  pub below : (i : ℕ) → i < top → row_at out' i ≡ row_at out i
  pub stand : (text : List ℕ) (ps us : Written many) → Stands text calls 0 ps end → size ps ≡ number → Stands text out (top + 1) us last → size us ≡ args
      → Stands text out' top (called (result_name (suc number))) (top + 1)
      × Stands text calls' 0 (snoc ps (applied (part_of text start n) (snoc us (called (result_name (suc number)))))) end'

-- What `finish` owes: a 17th call is refused.
abbrev pub Finishes : Rows → ℕ → ℕ → Rows → ℕ → ℕ → ℕ → ℕ → ℕ → ℕ → Rows → Rows → Option Place → Type 0
Finishes out top last calls end number start n args next out' calls' None = number ≡ call_limit
Finishes out top last calls end number start n args next out' calls' (Some place) =
    Replaced out top last calls end number start n args next out' calls' place.next place.top place.end place.number

-- What `flatten` asks: a row of `out` for each row that is left; of `calls` a row for each of these and of those in `out`, and two for each call that may come.
pub record Room (rows : Rows) (at : ℕ) (symbols : Rows) (count : ℕ) (out : Rows) (top : ℕ) (calls : Rows) (end number : ℕ) : Type 0 where
  pub counted : count ≤ length symbols
  pub few : number ≤ call_limit
  pub small : length rows ≤ 65536
  pub term_fits : top + (length rows - at) ≤ length out
  pub premises_fit : end + top + (length rows - at) + 2 * (call_limit - number) ≤ length calls

-- The flattened term stands in `out`, and all premises in `calls`.
pub record FlatAs (text : List ℕ) (f : Flat one) (out : Rows) (top top' : ℕ) (calls : Rows) (end number : ℕ) : Type 0 where
  pub term : Written one
  pub premises : Written many
  pub is : f ≡ flat term premises
  pub stands : Stands text out top term top'
  pub stand : Stands text calls 0 premises end
  pub numbered : size premises ≡ number

-- The rows from `at` on and before `next` are flattened. `out` has no more rows of it than there were, and `calls` two more at most for each call.
pub record FlatRows (text : List ℕ) (rows : Rows) (at : ℕ) (symbols : List Symbol) (out : Rows) (top : ℕ) (calls : Rows) (end number : ℕ) (out' calls' : Rows) (next top' end' number' : ℕ) : Type 0 where
  pub onward : at < next
  pub within : next ≤ length rows
  pub written : top < top'
  pub term_size : top' ≤ top + (next - at)
  pub premises_size : end' + top' ≤ end + top + (next - at) + 2 * (number' - number)
  pub rising : number ≤ number'
  pub allowed : number' ≤ call_limit
  pub out_kept : length out' ≡ length out
  pub calls_kept : length calls' ≡ length calls
  pub below : (i : ℕ) → i < top → row_at out' i ≡ row_at out i
  pub flattens : (t : Written one) (q : ℕ) (ps : Written many) → parsed.Stands text rows at t q → Stands text calls 0 ps end → size ps ≡ number
      → (next ≡ q) × FlatAs text (flatten_of symbols t ps) out' top top' calls' end' number'

-- The term needs a 17th call.
abbrev pub TooMany : List ℕ → Rows → ℕ → List Symbol → Rows → ℕ → ℕ → Type 0
TooMany text rows at symbols calls end number =
    (t : Written one) (q : ℕ) (ps : Written many) → parsed.Stands text rows at t q → Stands text calls 0 ps end → size ps ≡ number → call_limit < premise_count (flatten_of symbols t ps)

-- What `flatten` owes.
abbrev pub Flattens : List ℕ → Rows → ℕ → List Symbol → Rows → ℕ → Rows → ℕ → ℕ → Rows → Rows → Option Place → Type 0
Flattens text rows at symbols out top calls end number out' calls' None = TooMany text rows at symbols calls end number
Flattens text rows at symbols out top calls end number out' calls' (Some place) =
    FlatRows text rows at symbols out top calls end number out' calls' place.next place.top place.end place.number
