-- The Rust's `Parser`: declarations, and its `parse`.
use Rattle.std.specs.Prelude.{ℕ, ◌-◌, Bool, false, cond, ◌&&◌, List, [], ◌∷◌, eqb, length, take, drop, get_or}
use Rattle.source_text.specs.Bytes.{same_bytes}
use Rattle.source_text.specs.Parts.{part_of}
use Rattle.term_parser.specs.Source.{Place, place, Source, one}
use Rattle.term_parser.specs.Parsing.{Tokens, kind_of, line_of, last_line, when, Parsed, parsed, absent, refused, plus, follow, sign_of, behind, repeat}
use Rattle.term_parser.specs.Lists.{name, title_of, arrows_of, names_of, term, app, judgments_of, patterns_of}
use Rattle.refusals.specs.declared.Refusal.TheVariants.{DeclarationExpected, NoProp, ByForm, OtherKeyword}
use Rattle.parser.specs.Source.{Clause, Binders, Tactic, auto, induction, Titled, Declaration, sort, ctor, pred, rule, def, theorem, eval, check}

abbrev pub prop_name : List ℕ
prop_name = 80 ∷ 114 ∷ 111 ∷ 112 ∷ []

-- Does a list of names end in `Prop`?
unfoldable pub ends_in_prop : List ℕ → List Place → Bool
ends_in_prop text [] = false
ends_in_prop text (place start n ∷ []) = same_bytes (part_of text start n) prop_name
ends_in_prop text (p ∷ q ∷ ps) = ends_in_prop text (q ∷ ps)

-- A declaration with the line on which it starts.
pub record Declared : Type 0 where
  pub line : ℕ
  pub declaration : Declaration

-- What needs no text; the last token of all is in line `last`.
module _ (last : ℕ) where
  -- `(x y z : S)`
  abbrev pub behind_open : Tokens → Parsed Binders
  behind_open ts =
      follow (names_of last ts) ts
      (λ xs us. follow (sign_of last 20 us) us
      (λ _ vs. follow (name last vs) vs
      (λ s ws. follow (sign_of last 19 ws) ws
      (λ _ ys. parsed (record { names = xs; sort = s }) 0))))

  abbrev pub binders_of : Tokens → Parsed Binders
  binders_of = behind 18 behind_open

  -- `by auto`, `by induction x`: the keywords 7, 8 and 9
  abbrev pub by_of : Tokens → Parsed Tactic
  by_of ts =
      when (eqb (kind_of ts) 7 && eqb (kind_of (drop 1 ts)) 8) (λ _. parsed auto 2)
      (λ _. when (eqb (kind_of ts) 7 && eqb (kind_of (drop 1 ts)) 9) (λ _. plus 2 (follow (name last (drop 2 ts)) (drop 2 ts) (λ x us. parsed (induction x) 0)))
      (λ _. refused ByForm (line_of last ts)))

  -- `:= by …`; without it the tactic is `auto`
  abbrev pub tactic_of : Tokens → Parsed Tactic
  tactic_of ts = when (eqb (kind_of ts) 17) (λ _. plus 1 (by_of (drop 1 ts))) (λ _. parsed auto 0)

  -- `n : A → B`
  abbrev pub titled_of : {A : Type 0} → (Tokens → Parsed (List A)) → Tokens → Parsed (Titled A)
  titled_of list ts = follow (title_of last ts) ts (λ n us. follow (list us) us (λ l vs. parsed (record { title = n; items = l }) 0))

  abbrev pub sort_of : Tokens → Parsed Declaration
  sort_of ts = follow (name last ts) ts (λ n us. parsed (sort n) 0)

  abbrev pub ctor_of : Tokens → Parsed Declaration
  ctor_of ts = follow (title_of last ts) ts (λ n us. follow (arrows_of last us) us (λ ss vs. parsed (ctor n ss) 0))

abbrev pub asked : ℕ → Source one → Declaration
asked kind t = cond (eqb kind 10) (eval t) (check t)

module _ (text : List ℕ) (last : ℕ) where
  -- `| p, p => t`
  abbrev pub behind_bar : Tokens → Parsed Clause
  behind_bar ts =
      follow (patterns_of text last ts) ts
      (λ ps us. follow (sign_of last 16 us) us
      (λ _ vs. follow (app text last vs) vs
      (λ t ws. parsed (record { patterns = ps; body = t }) 0)))

  abbrev pub clause_of : Tokens → Parsed Clause
  clause_of = behind 22 behind_bar

  abbrev pub pred_of : Tokens → Parsed Declaration
  pred_of ts = follow (title_of last ts) ts (λ n us. follow (arrows_of last us) us
      (λ ss vs. when (ends_in_prop text ss) (λ _. parsed (pred n (take (length ss - 1) ss)) 0) (λ _. refused NoProp (line_of last vs))))

  abbrev pub rule_of : Tokens → Parsed Declaration
  rule_of ts = follow (title_of last ts) ts (λ n us. follow (judgments_of text last us) us (λ js vs. parsed (rule n js) 0))

  abbrev pub def_of : Tokens → Parsed Declaration
  def_of ts = follow (title_of last ts) ts (λ n us. follow (arrows_of last us) us (λ ss vs. follow (repeat clause_of vs 0 0 []) vs (λ cs ws. parsed (def n ss cs) 0)))

  abbrev pub theorem_of : Tokens → Parsed Declaration
  theorem_of ts =
      follow (name last ts) ts
      (λ n us. follow (repeat (binders_of last) us 0 0 []) us
      (λ bs vs. follow (sign_of last 20 vs) vs
      (λ _ ws. follow (judgments_of text last ws) ws
      (λ js xs. follow (tactic_of last xs) xs
      (λ t ys. parsed (theorem n bs js t) 0)))))

  -- `#eval t` or `#check t`, by the keyword's number
  abbrev pub asked_of : ℕ → Tokens → Parsed Declaration
  asked_of kind ts = follow (term text last ts) ts (λ t us. parsed (asked kind t) 0)

  abbrev pub eval_of : Tokens → Parsed Declaration
  eval_of ts = follow (term text last ts) ts (λ t us. parsed (eval t) 0)

  abbrev pub check_of : Tokens → Parsed Declaration
  check_of ts = follow (term text last ts) ts (λ t us. parsed (check t) 0)

  -- What the keyword of a number starts, of which ts are the tokens from it on and us those behind it; `by`, `auto` and `induction` start nothing.
  unfoldable pub body_of : ℕ → Tokens → Tokens → Parsed Declaration
  body_of k ts us =
      when (eqb k 1) (λ _. sort_of last us)
      (λ _. when (eqb k 2) (λ _. ctor_of last us)
      (λ _. when (eqb k 3) (λ _. pred_of us)
      (λ _. when (eqb k 4) (λ _. rule_of us)
      (λ _. when (eqb k 5) (λ _. def_of us)
      (λ _. when (eqb k 6) (λ _. theorem_of us)
      (λ _. when (eqb k 7) (λ _. refused OtherKeyword (line_of last us))
      (λ _. when (eqb k 8) (λ _. refused OtherKeyword (line_of last us))
      (λ _. when (eqb k 9) (λ _. refused OtherKeyword (line_of last us))
      (λ _. when (eqb k 10) (λ _. eval_of us)
      (λ _. when (eqb k 11) (λ _. check_of us)
      (λ _. refused DeclarationExpected (line_of last ts))))))))))))

  unfoldable pub declaration_of : Tokens → Parsed Declared
  declaration_of [] = absent
  declaration_of (t ∷ ts) = plus 1 (follow (body_of (get_or t 0 0) (t ∷ ts) ts) ts (λ d us. parsed (record { line = get_or t 3 0; declaration = d }) 0))

-- The Rust's `parse`, on tokens.
unfoldable pub parse_of : List ℕ → Tokens → Parsed (List Declared)
parse_of text ts = repeat (declaration_of text (last_line ts)) ts 0 0 []
