-- The Rust's `Parser`: terms. Parentheses may be open 64 deep.
use Rattle.std.specs.Prelude.{ℕ, zero, suc, ◌^◌, min, List, [], ◌∷◌, eqb, drop}
use Rattle.words.specs.Names.{name_kind, metavariable_kind, numeral_kind}
use Rattle.source_text.specs.Numerals.{numeral_of}
use Rattle.source_text.specs.Parts.{part_of}
use Rattle.std.specs.Prelude.{Option, Some, None}
use Rattle.term_parser.specs.Source.{Place, Source, one, numeral, metavariable, name, application, none, more, all_of, extend}
use Rattle.term_parser.specs.Parsing.{Tokens, token_of, kind_of, place_of, line_of, when, Parsed, parsed, absent, refused, plus, follow, required, sign_of, repeat}
use Rattle.refusals.specs.declared.Refusal.TheVariants.{ParenthesisLimit, NameExpected, TermExpected, OnlyNames, LeftOfEquals}

-- The value of a numeral. A word that is none counts as 2^64.
abbrev pub value : Option ℕ → ℕ
value (Some v) = v
value None = 2 ^ 64

-- The value that a row holds of a numeral.
abbrev pub held_of : Option ℕ → Option ℕ
held_of (Some v) = Some (min v 4294967295)
held_of None = None

abbrev pub value_at : List ℕ → Tokens → ℕ
value_at text ts = value (numeral_of (part_of text (token_of ts).start (token_of ts).length))

-- A term applied to terms: with none it is itself, and only a name takes some.
abbrev pub applied : ℕ → Source one → List (Source one) → Parsed (Source one)
applied line t [] = parsed t 0
applied line (name f) (a ∷ rest) = parsed (application f (all_of (a ∷ rest))) 0
applied line (numeral p v) (a ∷ rest) = refused OnlyNames line
applied line (metavariable p) (a ∷ rest) = refused OnlyNames line
applied line (application f ts) (a ∷ rest) = refused OnlyNames line

-- `t = r`: r is the last argument of t.
abbrev pub equated : ℕ → Source one → Source one → Parsed (Source one)
equated line (application f ts) r = parsed (application f (extend ts r)) 0
equated line (name f) r = parsed (application f (more r none)) 0
equated line (numeral p v) r = refused LeftOfEquals line
equated line (metavariable p) r = refused LeftOfEquals line

-- A name that must be there; the last token of all is in line `last`.
abbrev pub name_of : ℕ → Tokens → Parsed Place
name_of last ts = when (eqb (kind_of ts) name_kind) (λ _. parsed (place_of ts) 1) (λ _. refused NameExpected (line_of last ts))

-- Readers of the tokens of a text.
module _ (text : List ℕ) (last : ℕ) where
  -- `inner` reads from a parenthesis on.
  module _ (inner : Tokens → Parsed (Source one)) where
    unfoldable pub atom_of : Tokens → Parsed (Source one)
    atom_of ts =
        when (eqb (kind_of ts) name_kind) (λ _. parsed (name (place_of ts)) 1)
        (λ _. when (eqb (kind_of ts) metavariable_kind) (λ _. parsed (metavariable (place_of ts)) 1)
        (λ _. when (eqb (kind_of ts) numeral_kind) (λ _. parsed (numeral (place_of ts) (value_at text ts)) 1)
        (λ _. when (eqb (kind_of ts) 18) (λ _. inner ts) (λ _. absent))))

    unfoldable pub app_of : Tokens → Parsed (Source one)
    app_of ts =
        follow (required TermExpected (line_of last ts) (atom_of ts)) ts
        (λ t us. follow (repeat atom_of us 0 0 []) us (λ args vs. applied (line_of last vs) t args))

    unfoldable pub term_of : Tokens → Parsed (Source one)
    term_of ts =
        follow (app_of ts) ts
        (λ t us. when (eqb (kind_of us) 23) (λ _. plus 1 (follow (app_of (drop 1 us)) (drop 1 us) (λ r vs. equated (line_of last vs) t r))) (λ _. parsed t 0))

  -- From a parenthesis on, where `left` more may be open.
  unfoldable pub parenthesis : ℕ → Tokens → Parsed (Source one)
  parenthesis zero = λ ts. refused ParenthesisLimit (line_of last ts)
  parenthesis (suc left) =
      λ ts. plus 1 (follow (term_of (parenthesis left) (drop 1 ts)) (drop 1 ts) (λ t us. follow (sign_of last 19 us) us (λ _ vs. parsed t 0)))
