-- What the functions that read tokens ask of and owe to each other: they write rows from a place on.
use Rattle.std.specs.Prelude.{Result, Ok, Err, ℕ, ◌+◌, ◌≤◌, ◌<◌, ◌≡◌, List, [], ◌∷◌, ◌++◌, length, take, drop, get_or, set}
use Rattle.term_parser.specs.Source.{Source, one}
use Rattle.term_parser.specs.Parsing.{Tokens, token_of, kind_of, line_of, last_line, Parsed, parsed, absent, refused}
use Rattle.term_parser.specs.Grammar.{parenthesis}
use Rattle.term_parser.specs.Rows.{Rows, application_kind, rows_of_all}
use Rattle.words.specs.Names.{name_kind}
use Rattle.refusals.specs.declared.Refusal.{Refusal}
use Rattle.refusals.specs.declared.Refusal.TheVariants.{NameExpected, OnlyNames, LeftOfEquals}
use Rattle.term_parser.specs.declared.Input.{Input}
use Rattle.term_parser.specs.declared.Position.{Position}
use Rattle.refusals.specs.declared.Rejection.{Rejection}
use Rattle.term_parser.specs.declared.Token.{Token}
use Rattle.term_parser.specs.Steps.{Step, rejection_at}
use Rattle.term_parser.specs.Steps.Step.{At, Absent, Refused}

-- What a step and the rows then at hand come to: the place of the next token and the rows up to now, or nothing, or a refusal.
pub data Shown : Type 0 where
  on : ℕ → Rows → Shown
  nothing : Shown
  no : Refusal → ℕ → Shown

abbrev pub shown : Step → Rows → Shown
shown (At next used n) rows = on next (take used rows)
shown Absent rows = nothing
shown (Refused r line) rows = no r line

-- The same of a reader that started at place p with the rows `before`.
abbrev pub told : {A : Type 0} → (A → Rows) → ℕ → Rows → Parsed A → Shown
told rows p before (parsed a n) = on (p + n) (before ++ rows a)
told rows p before absent = nothing
told rows p before (refused r line) = no r line

-- A step from place p and u rows takes d tokens at least, and no more rows than tokens.
abbrev pub Within : ℕ → Tokens → ℕ → ℕ → Step → Type 0
Within d ts p u (At next used n) = (p + d ≤ next) × (next ≤ length ts) × (u ≤ used) × (used + p ≤ u + next)
Within d ts p u Absent = Unit {0}
Within d ts p u (Refused r line) = Unit {0}

-- What a step owes.
pub record Answers {A : Type 0} (d : ℕ) (rows : A → Rows) (reader : Parsed A) (ts : Tokens) (p u : ℕ) (before : Rows) (r : Step) (after : Rows) : Type 0 where
  pub is : shown r after ≡ told rows p (take u before) reader
  pub within : Within d ts p u r
  -- where there is no such item, nothing is written
  pub still : r ≡ Absent → after ≡ before

-- What a step owes whose count is that of its item.
pub record Counted {A : Type 0} (count : A → ℕ) (d : ℕ) (rows : A → Rows) (reader : Parsed A) (ts : Tokens) (p u : ℕ) (before : Rows) (r : Step) (after : Rows) : Type 0 where
  pub answers : Answers d rows reader ts p u before r after
  pub counted : (next used n : ℕ) → r ≡ At next used n → (item : A) (taken : ℕ) → reader ≡ parsed item taken → n ≡ count item

-- The same of a list of items.
abbrev pub Lists : {A : Type 0} → ℕ → (A → Rows) → Parsed (List A) → Tokens → ℕ → ℕ → Rows → Step → Rows → Type 0
Lists d rows reader ts p u before r after = Counted length d (rows_of_all rows) reader ts p u before r after

-- The same of what reads an input from a position on, by its grammar in the text and in the line of the last token.
abbrev pub Reads : {A : Type 0} → ℕ → (A → Rows) → (List ℕ → ℕ → Tokens → Parsed A) → Input → Position → Rows → Step → Rows → Type 0
Reads d rows grammar input from before r after =
    Answers d rows (grammar input.text.now (last_line input.tokens.now) (drop from.at input.tokens.now)) input.tokens.now from.at from.used before r after

abbrev pub ReadsList : {A : Type 0} → ℕ → (A → Rows) → (List ℕ → ℕ → Tokens → Parsed (List A)) → Input → Position → Rows → Step → Rows → Type 0
ReadsList d rows grammar input from before r after =
    Lists d rows (grammar input.text.now (last_line input.tokens.now) (drop from.at input.tokens.now)) input.tokens.now from.at from.used before r after

-- What it asks: a row for each token, and no more rows in use than tokens taken.
pub record Room (ts : Tokens) (p u : ℕ) (out : Rows) : Type 0 where
  pub here : p ≤ length ts
  pub below : u ≤ p
  pub lent : length ts ≤ length out
  pub small : length ts ≤ 65536

-- The reader of what stands from a parenthesis on, of which `left` more may be open.
abbrev pub inside : List ℕ → Tokens → ℕ → Tokens → Parsed (Source one)
inside text ts left = parenthesis text (last_line ts) left

-- A name is at a place, or the token there is refused.
abbrev pub NameRead : Tokens → ℕ → Result Token Rejection → Type 0
NameRead ts p (Ok t) = (t ≡ token_of (drop p ts)) × (t.kind ≡ name_kind)
NameRead ts p (Err e) = (kind_of (drop p ts) ≡ name_kind → ⊥) × (e ≡ rejection_at NameExpected ts p)

-- A sign was taken, and no row.
abbrev pub signed : ℕ → ℕ → Parsed (Unit {0}) → Step
signed p u (parsed a n) = At (p + n) u 1
signed p u absent = Absent
signed p u (refused r line) = Refused r line

pub record Signed (reader : Parsed (Unit {0})) (ts : Tokens) (p u : ℕ) (r : Step) : Type 0 where
  pub is : r ≡ signed p u reader
  pub within : Within 1 ts p u r

-- The first number of the row at a place, and the row that makes it an application to n terms.
abbrev pub kind_at : Rows → ℕ → ℕ
kind_at out root = get_or (get_or out root []) 0 0

abbrev pub grown : Rows → ℕ → ℕ → Rows
grown out root n = set out root (application_kind ∷ get_or (get_or out root []) 1 0 ∷ get_or (get_or out root []) 2 0 ∷ n ∷ [])

-- What `apply` owes: without arguments nothing changes; a name becomes an application; anything else is refused.
pub record Applying (ts : Tokens) (p : ℕ) (out : Rows) (root u n : ℕ) (r : Step) (out' : Rows) : Type 0 where
  pub none : n ≡ 0 → (r ≡ At p u 1) × (out' ≡ out)
  pub name : 0 < n → kind_at out root ≡ name_kind → (r ≡ At p u 1) × (out' ≡ grown out root n)
  pub other : 0 < n → (kind_at out root ≡ name_kind → ⊥) → r ≡ Refused OnlyNames (line_of (last_line ts) (drop p ts))

-- What `equate` owes: a name and an application get one argument more; anything else is refused.
pub record Equating (ts : Tokens) (p : ℕ) (out : Rows) (root u : ℕ) (r : Step) (out' : Rows) : Type 0 where
  pub name : kind_at out root ≡ name_kind → (r ≡ At p u 1) × (out' ≡ grown out root 1)
  pub more : kind_at out root ≡ application_kind → (r ≡ At p u 1) × (out' ≡ grown out root (get_or (get_or out root []) 3 0 + 1))
  pub other : (kind_at out root ≡ name_kind → ⊥) → (kind_at out root ≡ application_kind → ⊥) → r ≡ Refused LeftOfEquals (line_of (last_line ts) (drop p ts))
