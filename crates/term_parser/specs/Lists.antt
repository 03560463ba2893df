-- The Rust's `Parser`: lists of names, of judgments and of patterns.
use Rattle.std.specs.Prelude.{ℕ, List, [], ◌∷◌, eqb}
use Rattle.term_parser.specs.Source.{Place, Source, one}
use Rattle.term_parser.specs.Parsing.{Tokens, kind_of, when, Parsed, parsed, absent, follow, sign_of, behind, repeat}
use Rattle.term_parser.specs.Grammar.{name_of, app_of, term_of, parenthesis}

-- Items with a sign between them.
abbrev pub separated : {A : Type 0} → ℕ → (Tokens → Parsed A) → Tokens → Parsed (List A)
separated kind item ts = follow (item ts) ts (λ a us. repeat (behind kind item) us 0 0 (a ∷ []))

-- An item, unless a sign stands there.
abbrev pub unless : {A : Type 0} → ℕ → (Tokens → Parsed A) → Tokens → Parsed A
unless kind item ts = when (eqb (kind_of ts) kind) (λ _. absent) (λ _. item ts)

-- What needs no text; the last token of all is in line `last`.
module _ (last : ℕ) where
  abbrev pub name : Tokens → Parsed Place
  name = name_of last

  -- `n :`
  abbrev pub title_of : Tokens → Parsed Place
  title_of ts = follow (name ts) ts (λ n us. follow (sign_of last 20 us) us (λ _ vs. parsed n 0))

  -- `A → B → C`
  abbrev pub arrows_of : Tokens → Parsed (List Place)
  arrows_of = separated 15 name

  -- `x y z`, up to a colon
  abbrev pub names_of : Tokens → Parsed (List Place)
  names_of ts = follow (name ts) ts (λ x us. repeat (unless 20 name) us 0 0 (x ∷ []))

module _ (text : List ℕ) (last : ℕ) where
  -- 64 parentheses may be open together.
  abbrev pub term : Tokens → Parsed (Source one)
  term = term_of text last (parenthesis text last 64)

  abbrev pub app : Tokens → Parsed (Source one)
  app = app_of text last (parenthesis text last 64)

  -- `J → J → J`
  abbrev pub judgments_of : Tokens → Parsed (List (Source one))
  judgments_of = separated 15 term

  -- `p, p, p`, or nothing before `=>`
  abbrev pub patterns_of : Tokens → Parsed (List (Source one))
  patterns_of ts = when (eqb (kind_of ts) 16) (λ _. parsed [] 0) (λ _. separated 21 app ts)
