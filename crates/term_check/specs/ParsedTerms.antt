-- The term of every `#eval` and `#check` that is parsed passes the test: its rows are those that `check_term` accepts.
use Prim.Native.Nat.{ℕ, zero, suc, ◌+◌, ◌-◌, ◌≤◌, ◌<◌}
use native.Mathlib.Omega.{arith}
use Rattle.std.specs.Prelude.{◌≡◌, refl, eqb, drop}
use Rattle.std.proofs.Common.{sym, ◌∙◌, length-append, drop_at, eqb-true}
use Rattle.std.proofs.Math.Path.{ap}
use mathlib.Core.List.{List, [], ◌∷◌, ◌++◌, append_assoc}
use Rattle.std.proofs.Math.ListN.{length, get_or, replicate}
use Rattle.terms.specs.Numbers.{by_bool}
use Rattle.words.specs.Names.{name_kind, metavariable_kind, numeral_kind}
use Rattle.source_text.specs.Numerals.{numeral_of}
use Rattle.words.specs.Tokens.{Reading}
use Rattle.words.specs.Tokens.Reading.{tokens, refused as unread}
use Rattle.source_text.specs.Parts.{part_of}
use Rattle.words.specs.Lexer.{capped_of, lex_of, zero_row}
use Rattle.words.specs.declared.Limits.{Limits}
use Rattle.std.specs.Prelude.{Some}
use Rattle.term_parser.specs.Source.{Source, one, many, numeral, metavariable, name as called, application, none, more, count, all_of, extend}
use Rattle.term_parser.specs.Parsing.{Tokens, kind_of, line_of, last_line, Parsed, parsed, absent, refused, plus, follow, required, sign_of, repeat}
use Rattle.term_parser.specs.Grammar.{value, applied, equated, atom_of, app_of, term_of, parenthesis}
use Rattle.term_parser.specs.Rows.{Rows, rows_of, rows_of_all}
use Rattle.term_parser.specs.Lists.{name, title_of, arrows_of, term, judgments_of}
use Rattle.term_parser.specs.ReaderLaws.{Each, Comes, plus_comes, past_comes, required_comes, when_comes, repeat_each}
use Rattle.term_parser.specs.ListLaws.{each_drop, each_here, all_append}
use Rattle.refusals.specs.declared.Refusal.TheVariants.{TermExpected}
use Rattle.parser.specs.Source.{Declaration, sort, ctor, pred, rule, def, theorem, eval, check}
use Rattle.parser.specs.Declarations.{ends_in_prop, Declared, binders_of, tactic_of, clause_of, sort_of, ctor_of, pred_of, rule_of, def_of, theorem_of, eval_of, check_of, body_of, declaration_of, parse_of}
use Rattle.parser.specs.Rows.{declared_rows}
use Rattle.parser.specs.Parser.{rows_after, parsed_text, text_of}
use Rattle.term_parser.specs.Depth.{depth}
use Rattle.parser.specs.Depth.{ShallowDeclared, parse_shallow}
use Rattle.whole_words.specs.Words.{TokenWhole}
use Rattle.whole_words.proofs.TokensWhole.{tokens_whole}
use Rattle.names.specs.NamePlaces.{NamePlace}
use Rattle.term_check.specs.TermRows.{Worded, TermAt}

-- The term of an `#eval` or a `#check` is as `check_term` asks; other declarations are not asked.
abbrev pub Evaluable : List ℕ → Declaration → Type 0
Evaluable text (sort p) = Unit {0}
Evaluable text (ctor p ss) = Unit {0}
Evaluable text (pred p ss) = Unit {0}
Evaluable text (rule p js) = Unit {0}
Evaluable text (def p ss cs) = Unit {0}
Evaluable text (theorem p bs js t) = Unit {0}
Evaluable text (eval t) = Worded text t
Evaluable text (check t) = Worded text t

-- Terms made of terms

module _ (text : List ℕ) where
  all_worded : (l : List (Source one)) → Each (Worded text) l → Worded text (all_of l)
  unfolding all_of
  all_worded [] h = tt
  all_worded (t ∷ l) h = (h.0, all_worded l h.1)

  extend_worded : (ts : Source many) (t : Source one) → Worded text ts → Worded text t → Worded text (extend ts t) × (0 < count (extend ts t))
  unfolding extend count
  extend_worded none t h g = ((g, tt), omega arith)
  extend_worded (more u us) t h g = ((h.0, (extend_worded us t h.1 g).0), omega arith)

  applied_worded : (line : ℕ) (t : Source one) (l : List (Source one)) → Worded text t → Each (Worded text) l → Comes (Worded text) (applied line t l)
  unfolding all_of count
  applied_worded line t [] h g = h
  applied_worded line (called f) (a ∷ l) h g = (h, omega arith, all_worded (a ∷ l) g)
  applied_worded line (numeral p v) (a ∷ l) h g = tt
  applied_worded line (metavariable p) (a ∷ l) h g = tt
  applied_worded line (application f ts) (a ∷ l) h g = tt

  equated_worded : (line : ℕ) (t r : Source one) → Worded text t → Worded text r → Comes (Worded text) (equated line t r)
  unfolding count
  equated_worded line (application f ts) r h g = let x = extend_worded ts r h.2 g in (h.0, x.1, x.0)
  equated_worded line (called f) r h g = (h, omega arith, (g, tt))
  equated_worded line (numeral p v) r h g = tt
  equated_worded line (metavariable p) r h g = tt

  -- Readers of such tokens

  abbrev Tokened : Tokens → Type 0
  Tokened ts = Each (TokenWhole text) ts

  -- P holds of what a reader reads from them.
  abbrev Reads : {A : Type 0} → (A → Type 0) → (Tokens → Parsed A) → Type 0
  Reads P item = (ts : Tokens) → Tokened ts → Comes P (item ts)

  follow_each : {A B : Type 0} (P : A → Type 0) (Q : B → Type 0) (o : Parsed A) (ts : Tokens) (next : A → Tokens → Parsed B) → Tokened ts → Comes P o
      → ((a : A) (us : Tokens) → Tokened us → P a → Comes Q (next a us)) → Comes Q (follow o ts next)
  follow_each P Q (parsed a n) ts next w h f = plus_comes Q n (next a (drop n ts)) (f a (drop n ts) (each_drop (TokenWhole text) n ts w) h)
  follow_each P Q absent ts next w h f = tt
  follow_each P Q (refused r l) ts next w h f = tt

  -- A name, a metavariable and a numeral stand at a word's place.
  token_place : (t : List ℕ) (kind : ℕ) → kind ≤ 14 → TokenWhole text t → get_or t 0 0 ≡ kind → NamePlace text (get_or t 1 0) (get_or t 2 0)
  token_place t kind l h e = let w = h.word (omega arith) in record { inside = w.inside; some = w.some; short = w.short }

  -- A numeral's token has the value that the parser takes.
  token_value : (t : List ℕ) → TokenWhole text t → get_or t 0 0 ≡ 14
      → numeral_of (part_of text (get_or t 1 0) (get_or t 2 0)) ≡ Some (value (numeral_of (part_of text (get_or t 1 0) (get_or t 2 0))))
  token_value t h e = let (v, _, q) = h.reads.numeral e in rw q refl

  module _ (last : ℕ) where
    module _ (inner : Tokens → Parsed (Source one)) (reads : Reads (Worded text) inner) where
      atom_reads : Reads (Worded text) (atom_of text last inner)
      unfolding atom_of
      atom_reads [] w = tt
      atom_reads (t ∷ ts) w =
          by_bool (eqb (get_or t 0 0) name_kind) (λ e. rw e (token_place t 12 (omega arith) w.0 (eqb-true _ _ e)))
          (λ e. rw e (by_bool (eqb (get_or t 0 0) metavariable_kind) (λ f. rw f (token_place t 13 (omega arith) w.0 (eqb-true _ _ f)))
          (λ f. rw f (by_bool (eqb (get_or t 0 0) numeral_kind)
          (λ g. rw g (token_place t 14 (omega arith) w.0 (eqb-true _ _ g), token_value t w.0 (eqb-true _ _ g)))
          (λ g. rw g (when_comes (Worded text) (eqb (get_or t 0 0) 18) (λ _. inner (t ∷ ts)) (λ _. absent) (reads (t ∷ ts) w) tt))))))

      app_reads : Reads (Worded text) (app_of text last inner)
      unfolding app_of
      app_reads ts w =
          follow_each (Worded text) (Worded text) (required TermExpected (line_of last ts) (atom_of text last inner ts)) ts _ w
          (required_comes (Worded text) TermExpected (line_of last ts) (atom_of text last inner ts) (atom_reads ts w))
          (λ t us v h. follow_each (Each (Worded text)) (Worded text) (repeat (atom_of text last inner) us 0 0 []) us _ v
          (repeat_each (TokenWhole text) (Worded text) (atom_of text last inner) atom_reads us 0 0 [] v tt)
          (λ args vs _ g. applied_worded (line_of last vs) t args h g))

      equals_reads : (t : Source one) → Worded text t → (us : Tokens) → Tokened us
          → Comes (Worded text) (plus 1 (follow (app_of text last inner (drop 1 us)) (drop 1 us) (λ r vs. equated (line_of last vs) t r)))
      equals_reads t h us w =
          let next : Source one → Tokens → Parsed (Source one) = λ r vs. equated (line_of last vs) t r in
          let v = each_drop (TokenWhole text) 1 us w in
          plus_comes (Worded text) 1 (follow (app_of text last inner (drop 1 us)) (drop 1 us) next)
          (follow_each (Worded text) (Worded text) (app_of text last inner (drop 1 us)) (drop 1 us) next v (app_reads (drop 1 us) v)
          (λ r vs _ g. equated_worded (line_of last vs) t r h g))

      term_reads : Reads (Worded text) (term_of text last inner)
      unfolding term_of
      term_reads ts w =
          follow_each (Worded text) (Worded text) (app_of text last inner ts) ts _ w (app_reads ts w)
          (λ t us v h. when_comes (Worded text) (eqb (kind_of us) 23) _ _ (equals_reads t h us v) h)

    parenthesis_reads : (left : ℕ) → Reads (Worded text) (parenthesis text last left)
    unfolding parenthesis
    parenthesis_reads zero ts w = tt
    parenthesis_reads (suc left) ts w =
        let inside : Parsed (Source one) = term_of text last (parenthesis text last left) (drop 1 ts) in
        let closing : Source one → Tokens → Parsed (Source one) = λ t us. follow (sign_of last 19 us) us (λ _ vs. parsed t 0) in
        let v = each_drop (TokenWhole text) 1 ts w in
        plus_comes (Worded text) 1 (follow inside (drop 1 ts) closing)
        (follow_each (Worded text) (Worded text) inside (drop 1 ts) closing v (term_reads (parenthesis text last left) (parenthesis_reads left) (drop 1 ts) v)
        (λ t us _ h. past_comes (Worded text) (sign_of last 19 us) us (λ _ vs. parsed t 0) (λ _ vs. h)))

    a_term : Reads (Worded text) (term text last)
    a_term = term_reads (parenthesis text last 64) (parenthesis_reads 64)

    -- Declarations

    abbrev D : Declaration → Type 0
    D d = Evaluable text d

    module _ (ts : Tokens) where
      sort_reads : Comes D (sort_of last ts)
      sort_reads = past_comes D (name last ts) ts _ (λ n us. tt)

      ctor_reads : Comes D (ctor_of last ts)
      ctor_reads = past_comes D (title_of last ts) ts _ (λ n us. past_comes D (arrows_of last us) us _ (λ ss vs. tt))

      pred_reads : Comes D (pred_of text last ts)
      pred_reads = past_comes D (title_of last ts) ts _ (λ n us. past_comes D (arrows_of last us) us _ (λ ss vs. when_comes D (ends_in_prop text ss) _ _ tt tt))

      rule_reads : Comes D (rule_of text last ts)
      rule_reads = past_comes D (title_of last ts) ts _ (λ n us. past_comes D (judgments_of text last us) us _ (λ js vs. tt))

      def_reads : Comes D (def_of text last ts)
      def_reads =
          past_comes D (title_of last ts) ts _
          (λ n us. past_comes D (arrows_of last us) us _ (λ ss vs. past_comes D (repeat (clause_of text last) vs 0 0 []) vs _ (λ cs ws. tt)))

      theorem_reads : Comes D (theorem_of text last ts)
      theorem_reads =
          past_comes D (name last ts) ts _
          (λ n us. past_comes D (repeat (binders_of last) us 0 0 []) us _
          (λ bs vs. past_comes D (sign_of last 20 vs) vs _
          (λ _ ws. past_comes D (judgments_of text last ws) ws _ (λ js xs. past_comes D (tactic_of last xs) xs _ (λ t ys. tt)))))

      eval_reads : Tokened ts → Comes D (eval_of text last ts)
      eval_reads w = follow_each (Worded text) D (term text last ts) ts _ w (a_term ts w) (λ t us _ h. h)

      check_reads : Tokened ts → Comes D (check_of text last ts)
      check_reads w = follow_each (Worded text) D (term text last ts) ts _ w (a_term ts w) (λ t us _ h. h)

      body_reads : (k : ℕ) (all : Tokens) → Tokened ts → Comes D (body_of text last k all ts)
      unfolding body_of
      body_reads k all w =
          when_comes D (eqb k 1) _ _ sort_reads
          (when_comes D (eqb k 2) _ _ ctor_reads
          (when_comes D (eqb k 3) _ _ pred_reads
          (when_comes D (eqb k 4) _ _ rule_reads
          (when_comes D (eqb k 5) _ _ def_reads
          (when_comes D (eqb k 6) _ _ theorem_reads
          (when_comes D (eqb k 7) _ _ tt
          (when_comes D (eqb k 8) _ _ tt
          (when_comes D (eqb k 9) _ _ tt
          (when_comes D (eqb k 10) _ _ (eval_reads w)
          (when_comes D (eqb k 11) _ _ (check_reads w) tt))))))))))

    abbrev Declares : Declared → Type 0
    Declares d = Evaluable text d.declaration

    declared_reads : Reads Declares (declaration_of text last)
    unfolding declaration_of
    declared_reads [] w = tt
    declared_reads (t ∷ ts) w =
        let body : Parsed Declaration = body_of text last (get_or t 0 0) (t ∷ ts) ts in
        let next : Declaration → Tokens → Parsed Declared = λ d us. parsed (record { line = get_or t 3 0; declaration = d }) 0 in
        plus_comes Declares 1 (follow body ts next)
        (follow_each D Declares body ts next w.1 (body_reads ts (get_or t 0 0) (t ∷ ts) w.1) (λ d us _ p. p))

  -- The terms of all declarations that are parsed from such tokens.
  pub parsed_evaluable : (ts : Tokens) (ds : List Declared) (n : ℕ) → Tokened ts → parse_of text ts ≡ parsed ds n → Each (λ d. Evaluable text d.declaration) ds
  unfolding parse_of
  parsed_evaluable ts ds n w e =
      let g : Comes (Each (Declares (last_line ts))) (repeat (declaration_of text (last_line ts)) ts 0 0 [])
      = repeat_each (TokenWhole text) (Declares (last_line ts)) (declaration_of text (last_line ts)) (declared_reads (last_line ts)) ts 0 0 [] w tt in
      rw e at g

-- Where the rows stand

-- The rows of a term, behind other rows.
pub term_at_lem : (text : List ℕ) (before after : Rows) (t : Source one) {p : ℕ} → length before ≡ p → Worded text t → depth t ≤ 131
    → TermAt text (before ++ (rows_of t ++ after)) p (p + length (rows_of t))
term_at_lem text before after t {p} e w d =
    let l = length-append before (rows_of t) in
    record {
      term = t;
      lies = record {
        are = drop_at before (rows_of t ++ after) p e
            ∙ ap (λ (r : Rows). rows_of t ++ r) (sym (ap (drop (p + length (rows_of t))) (sym (append_assoc before (rows_of t) after)) ∙ drop_at (before ++ rows_of t) after (p + length (rows_of t)) (omega arith)));
        ends = refl;
      };
      worded = w;
      shallow = d;
    }

-- The declarations `before` take the first rows, then comes the row of the `#eval`, and then its term.
module _ (text : List ℕ) (before after : List Declared) (line : ℕ) (t : Source one) (n m : ℕ) where
  abbrev evaluation : Declared
  evaluation = record { line = line; declaration = eval t }

  abbrev first : Rows
  first = rows_of_all declared_rows before

  eval_rows : (ts : Tokens) → Each (TokenWhole text) ts → (o : Parsed (List Declared)) → parse_of text ts ≡ o → o ≡ parsed (before ++ (evaluation ∷ after)) n
      → TermAt text (rows_after m o) (length first + 1) (length first + 1 + length (rows_of t))
  unfolding rows_of_all
  eval_rows ts w o e f =
      let ds : List Declared = before ++ (evaluation ∷ after) in
      let good : Worded text t = each_here (λ d. Evaluable text d.declaration) before evaluation after (parsed_evaluable text ts ds n w (e ∙ f)) in
      let flat : depth t ≤ 131 = each_here ShallowDeclared before evaluation after (parse_shallow text ts ds n (e ∙ f)) in
      let top : Rows = (10 ∷ line ∷ 0 ∷ 0 ∷ []) ∷ [] in
      let rest : Rows = rows_of_all declared_rows after ++ replicate (m - length (rows_of_all declared_rows ds)) zero_row in
      let a : rows_of_all declared_rows ds ≡ first ++ (top ++ (rows_of t ++ rows_of_all declared_rows after)) = all_append declared_rows before (evaluation ∷ after) in
      let b : rows_after m o ≡ (first ++ top) ++ (rows_of t ++ rest) =
      ap (rows_after m) f ∙ ap (λ (r : Rows). r ++ replicate (m - length (rows_of_all declared_rows ds)) zero_row) a ∙ simp append_assoc in
      rw b (term_at_lem text (first ++ top) rest t (length-append first top) good flat)

  -- In the m rows that `parse_text` and `load` leave, the term of every `#eval` passes.
  pub eval_passes : (limits : Limits) → text_of text limits ≡ parsed (before ++ (evaluation ∷ after)) n
      → TermAt text (rows_after m (text_of text limits)) (length first + 1) (length first + 1 + length (rows_of t))
  eval_passes limits e = go (lex_of (capped_of limits).text text) refl e
    where
      go : (x : Reading) → lex_of (capped_of limits).text text ≡ x → parsed_text text x ≡ parsed (before ++ (evaluation ∷ after)) n
          → TermAt text (rows_after m (parsed_text text x)) (length first + 1) (length first + 1 + length (rows_of t))
      go (tokens ts) l f = eval_rows ts (tokens_whole (capped_of limits).text text ts l).whole (parse_of text ts) refl f
      go (unread r k) l f = absurd (let z : ◌≡◌ {A = ℕ} 0 1 = cc in omega arith)
