-- The name of every declaration that is parsed is one of the tokens; so it lies inside the text and has 1 to 64 bytes.
use Rattle.std.specs.Prelude.{ℕ, ◌<◌, ◌≡◌, eqb, length}
use mathlib.Core.List.{List, [], ◌∷◌}
use Rattle.std.proofs.Math.ListN.{get_or}
use Rattle.words.specs.Tokens.Reading.{tokens}
use Rattle.words.specs.Lexer.{lex_of}
use Rattle.words.specs.Names.{name_kind}
use Rattle.term_parser.specs.Source.{Place}
use Rattle.term_parser.specs.Parsing.{Tokens, kind_of, last_line, Parsed, parsed, follow, sign_of, repeat}
use Rattle.term_parser.specs.Lists.{name, title_of, arrows_of, term, judgments_of}
use Rattle.term_parser.specs.ReaderLaws.{Each, Comes, plus_comes, follow_comes, past_comes, when_comes, repeat_each}
use Rattle.term_parser.specs.ListLaws.{each_at}
use Rattle.parser.specs.Source.{Declaration, sort, ctor, pred, rule, def, theorem, eval, check}
use Rattle.parser.specs.Declarations.{ends_in_prop, Declared, binders_of, tactic_of, sort_of, ctor_of, clause_of, pred_of, rule_of, def_of, theorem_of, eval_of, check_of, body_of, declaration_of, parse_of}
use Rattle.loader.specs.TokenPlaceLaws.{row_place, Named, tokens_inside}

-- P holds of the place of a declaration's name; an evaluation and a check have none.
abbrev pub Titled : (Place → Type 0) → Declaration → Type 0
Titled P (sort p) = P p
Titled P (ctor p ss) = P p
Titled P (pred p ss) = P p
Titled P (rule p js) = P p
Titled P (def p ss cs) = P p
Titled P (theorem p bs js t) = P p
Titled P (eval t) = Unit {0}
Titled P (check t) = Unit {0}

-- The names of declarations lie inside the text, and have 1 to 64 bytes.
abbrev pub TitlesInside : List ℕ → List Declared → Type 0
TitlesInside text ds = Each (λ d. Titled (Named text) d.declaration) ds

-- Titles, where P holds of the place of each token

module _ (P : Place → Type 0) where
  abbrev Placed : Tokens → Type 0
  Placed ts = Each (λ t. P (row_place t)) ts

  name_comes : (last : ℕ) (ts : Tokens) → Placed ts → Comes P (name last ts)
  name_comes last [] h = tt
  name_comes last (t ∷ ts) h = when_comes P (eqb (kind_of (t ∷ ts)) name_kind) _ _ h.0 tt

  title_comes : (last : ℕ) (ts : Tokens) → Placed ts → Comes P (title_of last ts)
  title_comes last ts h = follow_comes P P (name last ts) ts _ (name_comes last ts h) (λ n us p. past_comes P (sign_of last 20 us) us _ (λ _ vs. p))

  module _ (text : List ℕ) (last : ℕ) (ts : Tokens) (h : Placed ts) where
    sort_comes : Comes (Titled P) (sort_of last ts)
    sort_comes = follow_comes P (Titled P) (name last ts) ts _ (name_comes last ts h) (λ n us p. p)

    ctor_comes : Comes (Titled P) (ctor_of last ts)
    ctor_comes = follow_comes P (Titled P) (title_of last ts) ts _ (title_comes last ts h) (λ n us p. past_comes (Titled P) (arrows_of last us) us _ (λ ss vs. p))

    pred_comes : Comes (Titled P) (pred_of text last ts)
    pred_comes =
        follow_comes P (Titled P) (title_of last ts) ts _ (title_comes last ts h)
        (λ n us p. past_comes (Titled P) (arrows_of last us) us _ (λ ss vs. when_comes (Titled P) (ends_in_prop text ss) _ _ p tt))

    rule_comes : Comes (Titled P) (rule_of text last ts)
    rule_comes = follow_comes P (Titled P) (title_of last ts) ts _ (title_comes last ts h) (λ n us p. past_comes (Titled P) (judgments_of text last us) us _ (λ js vs. p))

    def_comes : Comes (Titled P) (def_of text last ts)
    def_comes =
        follow_comes P (Titled P) (title_of last ts) ts _ (title_comes last ts h)
        (λ n us p. past_comes (Titled P) (arrows_of last us) us _ (λ ss vs. past_comes (Titled P) (repeat (clause_of text last) vs 0 0 []) vs _ (λ cs ws. p)))

    theorem_comes : Comes (Titled P) (theorem_of text last ts)
    theorem_comes =
        follow_comes P (Titled P) (name last ts) ts _ (name_comes last ts h)
        (λ n us p. past_comes (Titled P) (repeat (binders_of last) us 0 0 []) us _
        (λ bs vs. past_comes (Titled P) (sign_of last 20 vs) vs _
        (λ _ ws. past_comes (Titled P) (judgments_of text last ws) ws _
        (λ js xs. past_comes (Titled P) (tactic_of last xs) xs _ (λ t ys. p)))))

    eval_comes : Comes (Titled P) (eval_of text last ts)
    eval_comes = past_comes (Titled P) (term text last ts) ts _ (λ t us. tt)

    check_comes : Comes (Titled P) (check_of text last ts)
    check_comes = past_comes (Titled P) (term text last ts) ts _ (λ t us. tt)

    body_comes : (k : ℕ) (all : Tokens) → Comes (Titled P) (body_of text last k all ts)
    unfolding body_of
    body_comes k all =
        when_comes (Titled P) (eqb k 1) _ _ sort_comes
        (when_comes (Titled P) (eqb k 2) _ _ ctor_comes
        (when_comes (Titled P) (eqb k 3) _ _ pred_comes
        (when_comes (Titled P) (eqb k 4) _ _ rule_comes
        (when_comes (Titled P) (eqb k 5) _ _ def_comes
        (when_comes (Titled P) (eqb k 6) _ _ theorem_comes
        (when_comes (Titled P) (eqb k 7) _ _ tt
        (when_comes (Titled P) (eqb k 8) _ _ tt
        (when_comes (Titled P) (eqb k 9) _ _ tt
        (when_comes (Titled P) (eqb k 10) _ _ eval_comes
        (when_comes (Titled P) (eqb k 11) _ _ check_comes tt))))))))))

  abbrev Entitled : Declared → Type 0
  Entitled d = Titled P d.declaration

  declared_comes : (text : List ℕ) (last : ℕ) (ts : Tokens) → Placed ts → Comes Entitled (declaration_of text last ts)
  unfolding declaration_of
  declared_comes text last [] h = tt
  declared_comes text last (t ∷ ts) h =
      let body : Parsed Declaration = body_of text last (get_or t 0 0) (t ∷ ts) ts in
      let next : Declaration → Tokens → Parsed Declared = λ d us. parsed (record { line = get_or t 3 0; declaration = d }) 0 in
      plus_comes Entitled 1 (follow body ts next)
      (follow_comes (Titled P) Entitled body ts next (body_comes text last ts h.1 (get_or t 0 0) (t ∷ ts)) (λ d us p. p))

  -- What holds of the place of each token holds of that of each name declared.
  pub titles_placed : (text : List ℕ) (ts : Tokens) (ds : List Declared) (n : ℕ) → Each (λ t. P (row_place t)) ts → parse_of text ts ≡ parsed ds n
      → Each (λ d. Titled P d.declaration) ds
  unfolding parse_of
  titles_placed text ts ds n h e =
      let g : Comes (Each Entitled) (repeat (declaration_of text (last_line ts)) ts 0 0 [])
      = repeat_each (λ t. P (row_place t)) Entitled (declaration_of text (last_line ts)) (declared_comes text (last_line ts)) ts 0 0 [] h tt in
      rw e at g

-- The names of the declarations of a text lie inside it, and have 1 to 64 bytes.
pub titles_inside : (limit : ℕ) (text : List ℕ) (ts : Tokens) (ds : List Declared) (n : ℕ) → lex_of limit text ≡ tokens ts → parse_of text ts ≡ parsed ds n → TitlesInside text ds
titles_inside limit text ts ds n l e = titles_placed (Named text) text ts ds n (tokens_inside limit text ts l) e

-- So does the name of the declaration with number i.
pub title_inside : (text : List ℕ) (ds : List Declared) (d : Declared) → TitlesInside text ds → (i : ℕ) → i < length ds → Titled (Named text) (get_or ds i d).declaration
title_inside text ds d h i m = each_at (λ (d : Declared). Titled (Named text) d.declaration) ds d h i m
