-- Every word of every declaration that is parsed is taken whole.
use Prim.Native.Nat.{ℕ, zero, suc, ◌-◌, ◌≤◌}
use Rattle.std.proofs.Common.{arith, eqb-true}
use Rattle.std.specs.Prelude.{Some, ◌≡◌, refl, ◌&&◌, eqb, length, drop}
use mathlib.Core.List.{List, [], ◌∷◌}
use Rattle.std.proofs.Math.ListN.{get_or}
use Rattle.terms.specs.Numbers.{by_bool}
use Rattle.words.specs.Names.{name_kind, metavariable_kind, numeral_kind}
use Rattle.source_text.specs.Numerals.{numeral_of}
use Rattle.words.specs.Tokens.Reading.{tokens}
use Rattle.source_text.specs.Parts.{part_of}
use Rattle.words.specs.Lexer.{lex_of}
use Rattle.term_parser.specs.Source.{Place, Source, one, many, numeral, metavariable, name as called, application, none, more, all_of, extend}
use Rattle.term_parser.specs.Parsing.{Tokens, kind_of, line_of, last_line, Parsed, parsed, absent, refused, plus, follow, required, sign_of, behind, repeat}
use Rattle.term_parser.specs.Grammar.{value, applied, equated, atom_of, app_of, term_of, parenthesis}
use Rattle.term_parser.specs.Lists.{separated, unless, name, title_of, arrows_of, names_of, term, app, judgments_of, patterns_of}
use Rattle.term_parser.specs.ReaderLaws.{Each, Comes, Any, any_comes, plus_comes, required_comes, when_comes, repeat_each}
use Rattle.term_parser.specs.ListLaws.{each_drop}
use Rattle.refusals.specs.declared.Refusal.TheVariants.{TermExpected}
use Rattle.parser.specs.Source.{Tactic, induction, Declaration}
use Rattle.parser.specs.Declarations.{ends_in_prop, Declared, behind_open, binders_of, by_of, tactic_of, sort_of, ctor_of, behind_bar, clause_of, pred_of, rule_of, def_of, theorem_of, eval_of, check_of, body_of, declaration_of, parse_of}
use Rattle.whole_words.specs.Words.{ReadAs, TokenWhole, WordAt}
use Rattle.whole_names.specs.Uses.{WholeName, TermWhole, ClauseWhole, BindersWhole, TacticWhole, DeclarationWhole, DeclaredWhole}
use Rattle.whole_words.proofs.TokensWhole.{tokens_whole}
use Rattle.whole_names.specs.ListLaws.{each_take}

-- Terms made of terms

module _ (text : List ℕ) where
  all_whole : (l : List (Source one)) → Each (TermWhole text) l → TermWhole text (all_of l)
  unfolding TermWhole all_of
  all_whole [] h = tt
  all_whole (t ∷ l) h = (h.0, all_whole l h.1)

  extend_whole : (ts : Source many) (t : Source one) → TermWhole text ts → TermWhole text t → TermWhole text (extend ts t)
  unfolding TermWhole extend
  extend_whole none t h g = (g, tt)
  extend_whole (more u us) t h g = (h.0, extend_whole us t h.1 g)

  applied_whole : (line : ℕ) (t : Source one) (l : List (Source one)) → TermWhole text t → Each (TermWhole text) l
      → Comes (TermWhole text) (applied line t l)
  unfolding TermWhole
  applied_whole line t [] h g = h
  applied_whole line (called f) (a ∷ l) h g = (h, all_whole (a ∷ l) g)
  applied_whole line (numeral p v) (a ∷ l) h g = tt
  applied_whole line (metavariable p) (a ∷ l) h g = tt
  applied_whole line (application f ts) (a ∷ l) h g = tt

  equated_whole : (line : ℕ) (t r : Source one) → TermWhole text t → TermWhole text r → Comes (TermWhole text) (equated line t r)
  unfolding TermWhole
  equated_whole line (application f ts) r h g = (h.0, extend_whole ts r h.1 g)
  equated_whole line (called f) r h g = (h, (g, tt))
  equated_whole line (numeral p v) r h g = tt
  equated_whole line (metavariable p) r h g = tt

-- Tokens that are words

token_word : (text t : List ℕ) (kind : ℕ) → kind ≤ 14 → TokenWhole text t → get_or t 0 0 ≡ kind → WordAt text kind (get_or t 1 0) (get_or t 2 0)
token_word text t kind l h e =
    let r : ReadAs (get_or t 0 0) (part_of text (get_or t 1 0) (get_or t 2 0)) = h.reads in
    record { whole = h.word (omega arith); read = rw e at r }

-- Readers of whole tokens

module _ (text : List ℕ) where
  abbrev Tokened : Tokens → Type 0
  Tokened ts = Each (TokenWhole text) ts

  -- P holds of what a reader reads, if the tokens are whole.
  abbrev Reads : {A : Type 0} → (A → Type 0) → (Tokens → Parsed A) → Type 0
  Reads P item = (ts : Tokens) → Tokened ts → Comes P (item ts)

  follow_each : {A B : Type 0} (P : A → Type 0) (Q : B → Type 0) (o : Parsed A) (ts : Tokens) (next : A → Tokens → Parsed B) → Tokened ts
      → Comes P o
      → ((a : A) (us : Tokens) → Tokened us → P a → Comes Q (next a us)) → Comes Q (follow o ts next)
  follow_each P Q (parsed a n) ts next w h f = plus_comes Q n (next a (drop n ts)) (f a (drop n ts) (each_drop (TokenWhole text) n ts w) h)
  follow_each P Q absent ts next w h f = tt
  follow_each P Q (refused r l) ts next w h f = tt

  -- What is read on the way does not matter.
  past_each : {A B : Type 0} (Q : B → Type 0) (o : Parsed A) (ts : Tokens) (next : A → Tokens → Parsed B) → Tokened ts
      → ((a : A) (us : Tokens) → Tokened us → Comes Q (next a us)) → Comes Q (follow o ts next)
  past_each Q o ts next w f = follow_each Any Q o ts next w (any_comes o) (λ a us v _. f a us v)

  behind_each : {A : Type 0} (P : A → Type 0) (item : Tokens → Parsed A) (kind : ℕ) → Reads P item → Reads P (behind kind item)
  behind_each P item kind f ts w =
      when_comes P (eqb (kind_of ts) kind) _ _ (plus_comes P 1 (item (drop 1 ts)) (f (drop 1 ts) (each_drop (TokenWhole text) 1 ts w))) tt

  all_each : {A : Type 0} (P : A → Type 0) (item : Tokens → Parsed A) → Reads P item → (ts : Tokens) (done : List A) → Tokened ts
      → Each P done → Comes (Each P) (repeat item ts 0 0 done)
  all_each P item f ts done w h = repeat_each (TokenWhole text) P item f ts 0 0 done w h

  separated_each : {A : Type 0} (P : A → Type 0) (item : Tokens → Parsed A) (kind : ℕ) → Reads P item → Reads (Each P) (separated kind item)
  separated_each P item kind f ts w =
      follow_each P (Each P) (item ts) ts _ w (f ts w)
      (λ a us v p. all_each P (behind kind item) (behind_each P item kind f) us (a ∷ []) v (p, tt))

  -- Names

  module _ (last : ℕ) where
    name_reads : Reads (WholeName text) (name last)
    name_reads [] w = tt
    name_reads (t ∷ ts) w =
        by_bool (eqb (get_or t 0 0) name_kind) (λ e. rw e (token_word text t 12 (omega arith) w.0 (eqb-true _ _ e))) (λ e. rw e tt)

    title_reads : Reads (WholeName text) (title_of last)
    title_reads ts w =
        follow_each (WholeName text) (WholeName text) (name last ts) ts _ w (name_reads ts w)
        (λ n us v p. past_each (WholeName text) (sign_of last 20 us) us _ v (λ _ vs _. p))

    arrows_read : Reads (Each (WholeName text)) (arrows_of last)
    arrows_read = separated_each (WholeName text) (name last) 15 name_reads

    names_read : Reads (Each (WholeName text)) (names_of last)
    names_read ts w =
        follow_each (WholeName text) (Each (WholeName text)) (name last ts) ts _ w (name_reads ts w)
        (λ x us v p. all_each (WholeName text) (unless 20 (name last)) (λ vs u. when_comes (WholeName text) (eqb (kind_of vs) 20) _ _ tt (name_reads vs u)) us (x ∷ []) v (p, tt))

    binders_read : Reads (BindersWhole text) (binders_of last)
    binders_read = behind_each (BindersWhole text) (behind_open last) 18 (λ ts w.
        follow_each (Each (WholeName text)) (BindersWhole text) (names_of last ts) ts _ w (names_read ts w)
        (λ xs us u h. past_each (BindersWhole text) (sign_of last 20 us) us _ u
        (λ _ vs v. follow_each (WholeName text) (BindersWhole text) (name last vs) vs _ v (name_reads vs v)
        (λ s ws x g. past_each (BindersWhole text) (sign_of last 19 ws) ws _ x
        (λ _ ys _. record { names = h; sort = g })))))

    by_reads : Reads (TacticWhole text) (by_of last)
    by_reads ts w =
        when_comes (TacticWhole text) (eqb (kind_of ts) 7 && eqb (kind_of (drop 1 ts)) 8) _ _ tt
        (when_comes (TacticWhole text) (eqb (kind_of ts) 7 && eqb (kind_of (drop 1 ts)) 9) _ _
        (let next : Place → Tokens → Parsed Tactic = λ x us. parsed (induction x) 0 in
        plus_comes (TacticWhole text) 2 (follow (name last (drop 2 ts)) (drop 2 ts) next)
        (follow_each (WholeName text) (TacticWhole text) (name last (drop 2 ts)) (drop 2 ts) next (each_drop (TokenWhole text) 2 ts w) (name_reads (drop 2 ts) (each_drop (TokenWhole text) 2 ts w)) (λ x us _ p. p)))
        tt)

    tactic_reads : Reads (TacticWhole text) (tactic_of last)
    tactic_reads ts w =
        when_comes (TacticWhole text) (eqb (kind_of ts) 17) _ _
        (plus_comes (TacticWhole text) 1 (by_of last (drop 1 ts)) (by_reads (drop 1 ts) (each_drop (TokenWhole text) 1 ts w))) tt

  -- Terms

  -- A numeral's token has the value that the parser takes.
  token_value : (t : List ℕ) → TokenWhole text t → get_or t 0 0 ≡ 14
      → numeral_of (part_of text (get_or t 1 0) (get_or t 2 0)) ≡ Some (value (numeral_of (part_of text (get_or t 1 0) (get_or t 2 0))))
  token_value t h e = let (v, _, q) = h.reads.numeral e in rw q refl

  module _ (last : ℕ) where
    module _ (inner : Tokens → Parsed (Source one)) (reads : Reads (TermWhole text) inner) where
      atom_reads : Reads (TermWhole text) (atom_of text last inner)
      unfolding atom_of TermWhole
      atom_reads [] w = tt
      atom_reads (t ∷ ts) w =
          by_bool (eqb (get_or t 0 0) name_kind) (λ e. rw e (token_word text t 12 (omega arith) w.0 (eqb-true _ _ e)))
          (λ e. rw e (by_bool (eqb (get_or t 0 0) metavariable_kind) (λ f. rw f (token_word text t 13 (omega arith) w.0 (eqb-true _ _ f)))
          (λ f. rw f (by_bool (eqb (get_or t 0 0) numeral_kind) (λ g. rw g (token_word text t 14 (omega arith) w.0 (eqb-true _ _ g), token_value t w.0 (eqb-true _ _ g)))
          (λ g. rw g (when_comes (TermWhole text) (eqb (get_or t 0 0) 18) (λ _. inner (t ∷ ts)) (λ _. absent) (reads (t ∷ ts) w) tt))))))

      app_reads : Reads (TermWhole text) (app_of text last inner)
      unfolding app_of
      app_reads ts w =
          follow_each (TermWhole text) (TermWhole text) (required TermExpected (line_of last ts) (atom_of text last inner ts)) ts _ w
          (required_comes (TermWhole text) TermExpected (line_of last ts) (atom_of text last inner ts) (atom_reads ts w))
          (λ t us v h. follow_each (Each (TermWhole text)) (TermWhole text) (repeat (atom_of text last inner) us 0 0 []) us _ v
          (all_each (TermWhole text) (atom_of text last inner) atom_reads us [] v tt)
          (λ args vs _ g. applied_whole text (line_of last vs) t args h g))

      equals_reads : (t : Source one) → TermWhole text t → (us : Tokens) → Tokened us
          → Comes (TermWhole text) (plus 1 (follow (app_of text last inner (drop 1 us)) (drop 1 us) (λ r vs. equated (line_of last vs) t r)))
      equals_reads t h us w =
          let next : Source one → Tokens → Parsed (Source one) = λ r vs. equated (line_of last vs) t r in
          let w₁ = each_drop (TokenWhole text) 1 us w in
          plus_comes (TermWhole text) 1 (follow (app_of text last inner (drop 1 us)) (drop 1 us) next)
          (follow_each (TermWhole text) (TermWhole text) (app_of text last inner (drop 1 us)) (drop 1 us) next w₁ (app_reads (drop 1 us) w₁) (λ r vs _ g. equated_whole text (line_of last vs) t r h g))

      term_reads : Reads (TermWhole text) (term_of text last inner)
      unfolding term_of
      term_reads ts w =
          follow_each (TermWhole text) (TermWhole text) (app_of text last inner ts) ts _ w (app_reads ts w)
          (λ t us v h. when_comes (TermWhole text) (eqb (kind_of us) 23) _ _ (equals_reads t h us v) h)

    parenthesis_reads : (left : ℕ) → Reads (TermWhole text) (parenthesis text last left)
    unfolding parenthesis
    parenthesis_reads zero ts w = tt
    parenthesis_reads (suc left) ts w =
        let inside : Parsed (Source one) = term_of text last (parenthesis text last left) (drop 1 ts) in
        let closing : Source one → Tokens → Parsed (Source one) = λ t us. follow (sign_of last 19 us) us (λ _ vs. parsed t 0) in
        let w₁ = each_drop (TokenWhole text) 1 ts w in
        plus_comes (TermWhole text) 1 (follow inside (drop 1 ts) closing)
        (follow_each (TermWhole text) (TermWhole text) inside (drop 1 ts) closing w₁ (term_reads (parenthesis text last left) (parenthesis_reads left) (drop 1 ts) w₁)
        (λ t us v h. past_each (TermWhole text) (sign_of last 19 us) us (λ _ vs. parsed t 0) v (λ _ vs _. h)))

    a_term : Reads (TermWhole text) (term text last)
    a_term = term_reads (parenthesis text last 64) (parenthesis_reads 64)

    an_app : Reads (TermWhole text) (app text last)
    an_app = app_reads (parenthesis text last 64) (parenthesis_reads 64)

    judgments_read : Reads (Each (TermWhole text)) (judgments_of text last)
    judgments_read = separated_each (TermWhole text) (term text last) 15 a_term

    patterns_read : Reads (Each (TermWhole text)) (patterns_of text last)
    patterns_read ts w =
        when_comes (Each (TermWhole text)) (eqb (kind_of ts) 16) _ _ tt (separated_each (TermWhole text) (app text last) 21 an_app ts w)

    clause_reads : Reads (ClauseWhole text) (clause_of text last)
    clause_reads = behind_each (ClauseWhole text) (behind_bar text last) 22 (λ ts w.
        follow_each (Each (TermWhole text)) (ClauseWhole text) (patterns_of text last ts) ts _ w (patterns_read ts w)
        (λ ps us u h. past_each (ClauseWhole text) (sign_of last 16 us) us _ u
        (λ _ vs v. follow_each (TermWhole text) (ClauseWhole text) (app text last vs) vs _ v (an_app vs v)
        (λ t ws _ g. record { patterns = h; body = g }))))

    -- Declarations

    abbrev D : Declaration → Type 0
    D d = DeclarationWhole text d

    sort_reads : Reads D (sort_of last)
    sort_reads ts w = follow_each (WholeName text) D (name last ts) ts _ w (name_reads last ts w) (λ n us _ p. p)

    ctor_reads : Reads D (ctor_of last)
    ctor_reads ts w =
        follow_each (WholeName text) D (title_of last ts) ts _ w (title_reads last ts w)
        (λ n us u p. follow_each (Each (WholeName text)) D (arrows_of last us) us _ u (arrows_read last us u) (λ ss vs _ h. (p, h)))

    pred_reads : Reads D (pred_of text last)
    pred_reads ts w =
        follow_each (WholeName text) D (title_of last ts) ts _ w (title_reads last ts w)
        (λ n us u p. follow_each (Each (WholeName text)) D (arrows_of last us) us _ u (arrows_read last us u)
        (λ ss vs _ h. when_comes D (ends_in_prop text ss) _ _ (p, each_take (WholeName text) (length ss - 1) ss h) tt))

    rule_reads : Reads D (rule_of text last)
    rule_reads ts w =
        follow_each (WholeName text) D (title_of last ts) ts _ w (title_reads last ts w)
        (λ n us u p. follow_each (Each (TermWhole text)) D (judgments_of text last us) us _ u (judgments_read us u) (λ js vs _ h. (p, h)))

    def_reads : Reads D (def_of text last)
    def_reads ts w =
        follow_each (WholeName text) D (title_of last ts) ts _ w (title_reads last ts w)
        (λ n us u p. follow_each (Each (WholeName text)) D (arrows_of last us) us _ u (arrows_read last us u)
        (λ ss vs v h. follow_each (Each (ClauseWhole text)) D (repeat (clause_of text last) vs 0 0 []) vs _ v (all_each (ClauseWhole text) (clause_of text last) clause_reads vs [] v tt)
        (λ cs ws _ g. (p, h, g))))

    theorem_reads : Reads D (theorem_of text last)
    theorem_reads ts w =
        follow_each (WholeName text) D (name last ts) ts _ w (name_reads last ts w)
        (λ n us u p. follow_each (Each (BindersWhole text)) D (repeat (binders_of last) us 0 0 []) us _ u (all_each (BindersWhole text) (binders_of last) (binders_read last) us [] u tt)
        (λ bs vs v h. past_each D (sign_of last 20 vs) vs _ v
        (λ _ ws x. follow_each (Each (TermWhole text)) D (judgments_of text last ws) ws _ x (judgments_read ws x)
        (λ js xs y g. follow_each (TacticWhole text) D (tactic_of last xs) xs _ y (tactic_reads last xs y)
        (λ t ys _ k. (p, h, g, k))))))

    eval_reads : Reads D (eval_of text last)
    eval_reads ts w = follow_each (TermWhole text) D (term text last ts) ts _ w (a_term ts w) (λ t us _ h. h)

    check_reads : Reads D (check_of text last)
    check_reads ts w = follow_each (TermWhole text) D (term text last ts) ts _ w (a_term ts w) (λ t us _ h. h)

    body_reads : (k : ℕ) (all ts : Tokens) → Tokened ts → Comes D (body_of text last k all ts)
    unfolding body_of
    body_reads k all ts w =
        when_comes D (eqb k 1) _ _ (sort_reads ts w)
        (when_comes D (eqb k 2) _ _ (ctor_reads ts w)
        (when_comes D (eqb k 3) _ _ (pred_reads ts w)
        (when_comes D (eqb k 4) _ _ (rule_reads ts w)
        (when_comes D (eqb k 5) _ _ (def_reads ts w)
        (when_comes D (eqb k 6) _ _ (theorem_reads ts w)
        (when_comes D (eqb k 7) _ _ tt
        (when_comes D (eqb k 8) _ _ tt
        (when_comes D (eqb k 9) _ _ tt
        (when_comes D (eqb k 10) _ _ (eval_reads ts w)
        (when_comes D (eqb k 11) _ _ (check_reads ts w) tt))))))))))

    declared_reads : Reads (DeclaredWhole text) (declaration_of text last)
    unfolding declaration_of
    declared_reads [] w = tt
    declared_reads (t ∷ ts) w =
        let body : Parsed Declaration = body_of text last (get_or t 0 0) (t ∷ ts) ts in
        let next : Declaration → Tokens → Parsed Declared = λ d us. parsed (record { line = get_or t 3 0; declaration = d }) 0 in
        plus_comes (DeclaredWhole text) 1 (follow body ts next)
        (follow_each D (DeclaredWhole text) body ts next w.1 (body_reads (get_or t 0 0) (t ∷ ts) ts w.1) (λ d us _ p. p))

  parsed_whole : (ts : Tokens) (ds : List Declared) (n : ℕ) → Tokened ts → parse_of text ts ≡ parsed ds n → Each (DeclaredWhole text) ds
  unfolding parse_of
  parsed_whole ts ds n h e =
      let g : Comes (Each (DeclaredWhole text)) (repeat (declaration_of text (last_line ts)) ts 0 0 [])
      = all_each (DeclaredWhole text) (declaration_of text (last_line ts)) (declared_reads (last_line ts)) ts [] h tt in
      rw e at g

-- Every word of every declaration of a text that is read and parsed is taken whole.
pub uses_whole : (limit : ℕ) (text : List ℕ) (ts : Tokens) (ds : List Declared) (n : ℕ) → lex_of limit text ≡ tokens ts
    → parse_of text ts ≡ parsed ds n → Each (DeclaredWhole text) ds
uses_whole limit text ts ds n l e = parsed_whole text ts ds n (tokens_whole limit text ts l).whole e
