-- Every text that is refused is refused by a number of the table (document 01, the table by place), 1 to 28; never by 0, which `declare` gives only for what
-- is not parsed, and by none of the numbers above 28, which no reader gives.
use Rattle.std.specs.Prelude.{ℕ, zero, suc, ◌+◌, ◌-◌, ◌≤◌, ◌<◌, ◌≡◌, refl, Bool, true, false, ◌&&◌, Option, Some, None, Err, cond, List, [], ◌∷◌, ◌++◌, eqb, ltb, length, drop, get_or}
use Rattle.std.proofs.Common.{arith, sym, subst, ◌∙◌}
use Rattle.terms.specs.Numbers.{by_bool}
use Rattle.source_text.specs.Bytes.{starts_with}
use Rattle.source_text.specs.Characters.{blank, sign, character_of}
use Rattle.source_text.specs.Lines.{lines, code_of}
use Rattle.source_text.specs.Numerals.{all_digits, numeral_of}
use Rattle.source_text.specs.Utf8.{is_utf8}
use Rattle.refusals.specs.declared.Refusal.{Refusal}
use Rattle.refusals.specs.declared.Refusal.TheVariants.{Storage, TermExpected}
use Rattle.refusals.specs.declared.Rejection.{Rejection}
use Rattle.refusals.specs.Refusals.{number_of}
use Rattle.words.specs.Names.{name_kind, metavariable_kind, numeral_kind, if_fits, word_item}
use Rattle.words.specs.Signs.{Sign, signs, sign_among, sign_item}
use Rattle.words.specs.Items.{Item}
use Rattle.words.specs.Items.Item.{Blank, Token, Refused}
use Rattle.words.specs.Tokens.{Reading, is_word, word_of, item_of, and_then, read_item, item_length, read_after, read_lines, outside_line}
use Rattle.words.specs.Tokens.Reading.{tokens, refused as unread}
use Rattle.words.specs.Lexer.{capped_of, in_domain, lex_of, lex_answer, answer_of as lexed_as}
use Rattle.words.specs.declared.Limits.{Limits}
use Rattle.term_parser.specs.Source.{Source, one, numeral, metavariable, name as named, application}
use Rattle.term_parser.specs.Parsing.{Tokens, kind_of, line_of, last_line, when, Parsed, parsed, absent, refused as barred, plus, follow, required, sign_of, behind, continued, repeat}
use Rattle.term_parser.specs.Grammar.{applied, equated, name_of, atom_of, app_of, term_of, parenthesis}
use Rattle.term_parser.specs.Lists.{separated, unless, title_of, arrows_of, names_of, term, app, judgments_of, patterns_of}
use Rattle.parser.specs.Source.{Declaration}
use Rattle.parser.specs.Declarations.{ends_in_prop, Declared, behind_open, binders_of, by_of, tactic_of, sort_of, ctor_of, behind_bar, clause_of, pred_of, rule_of, def_of, theorem_of, eval_of, check_of, body_of, declaration_of, parse_of}
use Rattle.parser.specs.Parser.{Answer, rejected, answer_of as parsed_as, parsed_text, short_for, text_of, ParsingText}
use Rattle.loader.specs.Signature.{refused}
use Rattle.loader.specs.NonemptyLaws.{Numbered, parsed_nonempty, loaded_numbered}
use Rattle.load.specs.Load.{of_parsed, load_text}

-- From 1 to a last number.
abbrev pub UpTo : ℕ → ℕ → Type 0
UpTo last e = (0 < e) × (e ≤ last)

numbered : {last e : ℕ} → last ≤ 28 → UpTo last e → Numbered e
numbered l h = (h.0, omega (arith, l, h.1))

-- The laws of words and of readers hold for any last number `top`; those of refusals that are made there ask that it is great enough: words are refused by 6
-- at most, and what is read by 16. At 28 the laws speak of the numbers of the table, `Numbered`.

-- Words

module _ (top : ℕ) where
  -- What is refused has a number from 1 to `top`.
  abbrev ItemNumbered : Item → Type 0
  ItemNumbered Blank = Unit {0}
  ItemNumbered (Token kind m) = Unit {0}
  ItemNumbered (Refused r) = UpTo top (number_of r)

  abbrev ReadingNumbered : Reading → Type 0
  ReadingNumbered (tokens ts) = Unit {0}
  ReadingNumbered (unread r n) = UpTo top (number_of r)

  then_numbered : (a b : Reading) → ReadingNumbered a → ReadingNumbered b → ReadingNumbered (and_then a b)
  unfolding and_then
  then_numbered (unread r n) b h g = h
  then_numbered (tokens ts) (unread r n) h g = g
  then_numbered (tokens ts) (tokens us) h g = tt

  read_item_numbered : (i : Item) (p n : ℕ) → ItemNumbered i → ReadingNumbered (read_item i p n)
  read_item_numbered Blank p n h = tt
  read_item_numbered (Token kind m) p n h = tt
  read_item_numbered (Refused r) p n h = h

  module _ (enough : 6 ≤ top) where
    fits_numbered : (v : Option ℕ) (kind m : ℕ) → ItemNumbered (if_fits v (Token kind m))
    fits_numbered (Some v) kind m = tt
    fits_numbered None kind m = (omega arith, omega arith)

    word_numbered : (w : List ℕ) → ItemNumbered (word_item w)
    unfolding word_item
    word_numbered w =
        by_bool (ltb 64 (length w)) (λ e. rw e (omega arith, omega arith))
        (λ e. rw e (by_bool (eqb (get_or w 0 0) 63) (λ f. rw f tt)
        (λ f. rw f (by_bool (all_digits w) (λ g. rw g (fits_numbered (numeral_of w) numeral_kind (length w))) (λ g. rw g tt)))))

    among_numbered : (xs : List Sign) (s : List ℕ) → ItemNumbered (sign_among xs s)
    unfolding sign_among
    among_numbered [] s = (omega arith, omega arith)
    among_numbered (x ∷ xs) s = by_bool (starts_with x.written s) (λ e. rw e tt) (λ e. rw e (among_numbered xs s))

    item_numbered : (s : List ℕ) → ItemNumbered (item_of s)
    unfolding item_of sign_item
    item_numbered s =
        by_bool (eqb (character_of s).class blank) (λ e. rw e tt)
        (λ e. rw e (by_bool (is_word (character_of s).class) (λ f. rw f (word_numbered (word_of s)))
        (λ f. rw f (by_bool (eqb (character_of s).class sign) (λ g. rw g (among_numbered signs s)) (λ g. rw g (omega arith, omega arith))))))

    after_numbered : (s : List ℕ) (k p n : ℕ) → ReadingNumbered (read_after s k p n)
    unfolding read_after
    after_numbered [] k p n = tt
    after_numbered (c ∷ s) (suc k) p n = after_numbered s k (suc p) n
    after_numbered (c ∷ s) zero p n =
        then_numbered (read_item (item_of (c ∷ s)) p n) (read_after s (item_length (item_of (c ∷ s)) - 1) (suc p) n)
        (read_item_numbered (item_of (c ∷ s)) p n (item_numbered (c ∷ s)))
        (after_numbered s (item_length (item_of (c ∷ s)) - 1) (suc p) n)

    lines_numbered : (ls : List (List ℕ)) (p n : ℕ) → ReadingNumbered (read_lines ls p n)
    unfolding read_lines
    lines_numbered [] p n = tt
    lines_numbered (l ∷ ls) p n = then_numbered (read_after (code_of l) 0 p n) (read_lines ls (p + length l + 1) (n + 1)) (after_numbered (code_of l) 0 p n) (lines_numbered ls (p + length l + 1) (n + 1))

    domain_numbered : (k : ℕ) (r : Reading) → ReadingNumbered r → ReadingNumbered (in_domain k r)
    domain_numbered zero r h = h
    domain_numbered (suc n) r h = (omega arith, omega arith)

    lex_numbered : (limit : ℕ) (text : List ℕ) → ReadingNumbered (lex_of limit text)
    unfolding lex_of
    lex_numbered limit text =
        by_bool (ltb limit (length text)) (λ e. rw e (omega arith, omega arith))
        (λ e. rw e (by_bool (is_utf8 text) (λ f. rw f (domain_numbered (outside_line (lines text) 1) (read_lines (lines text) 0 1) (lines_numbered (lines text) 0 1)))
        (λ f. rw f (omega arith, omega arith))))

-- Readers

module _ (top : ℕ) where
  -- What a reader refuses has a number from 1 to `top`.
  abbrev ReadNumbered : {A : Type 0} → Parsed A → Type 0
  ReadNumbered (parsed a n) = Unit {0}
  ReadNumbered absent = Unit {0}
  ReadNumbered (barred r l) = UpTo top (number_of r)

  plus_numbered : {A : Type 0} (n : ℕ) (o : Parsed A) → ReadNumbered o → ReadNumbered (plus n o)
  plus_numbered n (parsed a m) h = tt
  plus_numbered n absent h = tt
  plus_numbered n (barred r l) h = h

  follow_numbered : {A B : Type 0} (o : Parsed A) (ts : Tokens) (next : A → Tokens → Parsed B) → ReadNumbered o → ((a : A) (us : Tokens) → ReadNumbered (next a us)) → ReadNumbered (follow o ts next)
  follow_numbered (parsed a n) ts next h f = plus_numbered n (next a (drop n ts)) (f a (drop n ts))
  follow_numbered absent ts next h f = tt
  follow_numbered (barred r l) ts next h f = h

  required_numbered : {A : Type 0} (r : Refusal) (l : ℕ) (o : Parsed A) → UpTo top (number_of r) → ReadNumbered o → ReadNumbered (required r l o)
  required_numbered r l (parsed a n) g h = tt
  required_numbered r l absent g h = g
  required_numbered r l (barred q m) g h = h

  when_numbered : {A : Type 0} (b : Bool) (f g : Unit {0} → Parsed A) → ReadNumbered (f tt) → ReadNumbered (g tt) → ReadNumbered (when b f g)
  when_numbered true f g h k = h
  when_numbered false f g h k = k

  continued_numbered : {A B : Type 0} (o : Parsed A) (next : A → ℕ → Parsed B) (end : Parsed B) → ReadNumbered o → ((a : A) (n : ℕ) → ReadNumbered (next a n)) → ReadNumbered end → ReadNumbered (continued o next end)
  continued_numbered (parsed a n) next end h f g = f a n
  continued_numbered absent next end h f g = g
  continued_numbered (barred r l) next end h f g = h

  module _ {A : Type 0} (item : Tokens → Parsed A) (each : (ts : Tokens) → ReadNumbered (item ts)) where
    repeat_numbered : (ts : Tokens) (k n : ℕ) (done : List A) → ReadNumbered (repeat item ts k n done)
    unfolding repeat
    repeat_numbered [] k n done = continued_numbered (item []) (λ a m. parsed done n) (parsed done n) (each []) (λ a m. tt) tt
    repeat_numbered (t ∷ ts) (suc k) n done = repeat_numbered ts k n done
    repeat_numbered (t ∷ ts) zero n done =
        continued_numbered (item (t ∷ ts)) (λ a m. repeat item ts (m - 1) (n + m) (done ++ (a ∷ []))) (parsed done n) (each (t ∷ ts)) (λ a m. repeat_numbered ts (m - 1) (n + m) (done ++ (a ∷ []))) tt

    behind_numbered : (kind : ℕ) (ts : Tokens) → ReadNumbered (behind kind item ts)
    behind_numbered kind ts = when_numbered (eqb (kind_of ts) kind) _ _ (plus_numbered 1 (item (drop 1 ts)) (each (drop 1 ts))) tt

    unless_numbered : (kind : ℕ) (ts : Tokens) → ReadNumbered (unless kind item ts)
    unless_numbered kind ts = when_numbered (eqb (kind_of ts) kind) _ _ tt (each ts)

  separated_numbered : {A : Type 0} (kind : ℕ) (item : Tokens → Parsed A) → ((ts : Tokens) → ReadNumbered (item ts)) → (ts : Tokens) → ReadNumbered (separated kind item ts)
  separated_numbered kind item each ts = follow_numbered (item ts) ts _ (each ts) (λ a us. repeat_numbered (behind kind item) (behind_numbered item each kind) us 0 0 (a ∷ []))

  module _ (enough : 16 ≤ top) where
    -- Lists

    module _ (last : ℕ) where
      sign_numbered : (kind : ℕ) (ts : Tokens) → ReadNumbered (sign_of last kind ts)
      sign_numbered kind ts = when_numbered (eqb (kind_of ts) kind) _ _ tt (omega arith, omega arith)

      name_numbered : (ts : Tokens) → ReadNumbered (name_of last ts)
      name_numbered ts = when_numbered (eqb (kind_of ts) name_kind) _ _ tt (omega arith, omega arith)

      title_numbered : (ts : Tokens) → ReadNumbered (title_of last ts)
      title_numbered ts = follow_numbered (name_of last ts) ts _ (name_numbered ts) (λ n us. follow_numbered (sign_of last 20 us) us _ (sign_numbered 20 us) (λ _ vs. tt))

      arrows_numbered : (ts : Tokens) → ReadNumbered (arrows_of last ts)
      arrows_numbered = separated_numbered 15 (name_of last) name_numbered

      names_numbered : (ts : Tokens) → ReadNumbered (names_of last ts)
      names_numbered ts = follow_numbered (name_of last ts) ts _ (name_numbered ts) (λ x us. repeat_numbered (unless 20 (name_of last)) (unless_numbered (name_of last) name_numbered 20) us 0 0 (x ∷ []))

      binders_numbered : (ts : Tokens) → ReadNumbered (binders_of last ts)
      binders_numbered = behind_numbered (behind_open last) inside 18
        where
          inside : (ts : Tokens) → ReadNumbered (behind_open last ts)
          inside ts =
              follow_numbered (names_of last ts) ts _ (names_numbered ts)
              (λ xs us. follow_numbered (sign_of last 20 us) us _ (sign_numbered 20 us)
              (λ _ vs. follow_numbered (name_of last vs) vs _ (name_numbered vs)
              (λ s ws. follow_numbered (sign_of last 19 ws) ws _ (sign_numbered 19 ws) (λ _ ys. tt))))

      by_numbered : (ts : Tokens) → ReadNumbered (by_of last ts)
      by_numbered ts =
          when_numbered (eqb (kind_of ts) 7 && eqb (kind_of (drop 1 ts)) 8) _ _ tt
          (when_numbered (eqb (kind_of ts) 7 && eqb (kind_of (drop 1 ts)) 9) _ _
          (plus_numbered 2 (follow (name_of last (drop 2 ts)) (drop 2 ts) _) (follow_numbered (name_of last (drop 2 ts)) (drop 2 ts) _ (name_numbered (drop 2 ts)) (λ x us. tt)))
          (omega arith, omega arith))

      tactic_numbered : (ts : Tokens) → ReadNumbered (tactic_of last ts)
      tactic_numbered ts = when_numbered (eqb (kind_of ts) 17) _ _ (plus_numbered 1 (by_of last (drop 1 ts)) (by_numbered (drop 1 ts))) tt

    -- Terms

    applied_numbered : (line : ℕ) (t : Source one) (l : List (Source one)) → ReadNumbered (applied line t l)
    applied_numbered line t [] = tt
    applied_numbered line (named f) (a ∷ l) = tt
    applied_numbered line (numeral p v) (a ∷ l) = (omega arith, omega arith)
    applied_numbered line (metavariable p) (a ∷ l) = (omega arith, omega arith)
    applied_numbered line (application f ts) (a ∷ l) = (omega arith, omega arith)

    equated_numbered : (line : ℕ) (t r : Source one) → ReadNumbered (equated line t r)
    equated_numbered line (application f ts) r = tt
    equated_numbered line (named f) r = tt
    equated_numbered line (numeral p v) r = (omega arith, omega arith)
    equated_numbered line (metavariable p) r = (omega arith, omega arith)

    module _ (text : List ℕ) (last : ℕ) where
      module _ (inner : Tokens → Parsed (Source one)) (each : (ts : Tokens) → ReadNumbered (inner ts)) where
        atom_numbered : (ts : Tokens) → ReadNumbered (atom_of text last inner ts)
        unfolding atom_of
        atom_numbered ts =
            when_numbered (eqb (kind_of ts) name_kind) _ _ tt
            (when_numbered (eqb (kind_of ts) metavariable_kind) _ _ tt
            (when_numbered (eqb (kind_of ts) numeral_kind) _ _ tt
            (when_numbered (eqb (kind_of ts) 18) _ _ (each ts) tt)))

        app_numbered : (ts : Tokens) → ReadNumbered (app_of text last inner ts)
        unfolding app_of
        app_numbered ts =
            follow_numbered (required TermExpected (line_of last ts) (atom_of text last inner ts)) ts _
            (required_numbered TermExpected (line_of last ts) (atom_of text last inner ts) (omega arith, omega arith) (atom_numbered ts))
            (λ t us. follow_numbered (repeat (atom_of text last inner) us 0 0 []) us _ (repeat_numbered (atom_of text last inner) atom_numbered us 0 0 [])
            (λ args vs. applied_numbered (line_of last vs) t args))

        term_numbered : (ts : Tokens) → ReadNumbered (term_of text last inner ts)
        unfolding term_of
        term_numbered ts =
            follow_numbered (app_of text last inner ts) ts _ (app_numbered ts)
            (λ t us. when_numbered (eqb (kind_of us) 23) _ _
            (plus_numbered 1 (follow (app_of text last inner (drop 1 us)) (drop 1 us) (λ r vs. equated (line_of last vs) t r))
            (follow_numbered (app_of text last inner (drop 1 us)) (drop 1 us) (λ r vs. equated (line_of last vs) t r) (app_numbered (drop 1 us)) (λ r vs. equated_numbered (line_of last vs) t r)))
            tt)

      parenthesis_numbered : (left : ℕ) (ts : Tokens) → ReadNumbered (parenthesis text last left ts)
      unfolding parenthesis
      parenthesis_numbered zero ts = (omega arith, omega arith)
      parenthesis_numbered (suc left) ts =
          let inside : Parsed (Source one) = term_of text last (parenthesis text last left) (drop 1 ts) in
          let closing : Source one → Tokens → Parsed (Source one) = λ t us. follow (sign_of last 19 us) us (λ _ vs. parsed t 0) in
          plus_numbered 1 (follow inside (drop 1 ts) closing)
          (follow_numbered inside (drop 1 ts) closing (term_numbered (parenthesis text last left) (parenthesis_numbered left) (drop 1 ts))
          (λ t us. follow_numbered (sign_of last 19 us) us (λ _ vs. parsed t 0) (sign_numbered last 19 us) (λ _ vs. tt)))

      terms_numbered : (ts : Tokens) → ReadNumbered (term text last ts)
      terms_numbered = term_numbered (parenthesis text last 64) (parenthesis_numbered 64)

      apps_numbered : (ts : Tokens) → ReadNumbered (app text last ts)
      apps_numbered = app_numbered (parenthesis text last 64) (parenthesis_numbered 64)

      judgments_numbered : (ts : Tokens) → ReadNumbered (judgments_of text last ts)
      judgments_numbered = separated_numbered 15 (term text last) terms_numbered

      patterns_numbered : (ts : Tokens) → ReadNumbered (patterns_of text last ts)
      patterns_numbered ts = when_numbered (eqb (kind_of ts) 16) _ _ tt (separated_numbered 21 (app text last) apps_numbered ts)

      -- Declarations

      clause_numbered : (ts : Tokens) → ReadNumbered (clause_of text last ts)
      clause_numbered = behind_numbered (behind_bar text last) inside 22
        where
          inside : (ts : Tokens) → ReadNumbered (behind_bar text last ts)
          inside ts =
              follow_numbered (patterns_of text last ts) ts _ (patterns_numbered ts)
              (λ ps us. follow_numbered (sign_of last 16 us) us _ (sign_numbered last 16 us)
              (λ _ vs. follow_numbered (app text last vs) vs _ (apps_numbered vs) (λ t ws. tt)))

      module _ (ts : Tokens) where
        sort_numbered : ReadNumbered (sort_of last ts)
        sort_numbered = follow_numbered (name_of last ts) ts _ (name_numbered last ts) (λ n us. tt)

        ctor_numbered : ReadNumbered (ctor_of last ts)
        ctor_numbered = follow_numbered (title_of last ts) ts _ (title_numbered last ts) (λ n us. follow_numbered (arrows_of last us) us _ (arrows_numbered last us) (λ ss vs. tt))

        pred_numbered : ReadNumbered (pred_of text last ts)
        pred_numbered =
            follow_numbered (title_of last ts) ts _ (title_numbered last ts)
            (λ n us. follow_numbered (arrows_of last us) us _ (arrows_numbered last us) (λ ss vs. when_numbered (ends_in_prop text ss) _ _ tt (omega arith, omega arith)))

        rule_numbered : ReadNumbered (rule_of text last ts)
        rule_numbered = follow_numbered (title_of last ts) ts _ (title_numbered last ts) (λ n us. follow_numbered (judgments_of text last us) us _ (judgments_numbered us) (λ js vs. tt))

        def_numbered : ReadNumbered (def_of text last ts)
        def_numbered =
            follow_numbered (title_of last ts) ts _ (title_numbered last ts)
            (λ n us. follow_numbered (arrows_of last us) us _ (arrows_numbered last us)
            (λ ss vs. follow_numbered (repeat (clause_of text last) vs 0 0 []) vs _ (repeat_numbered (clause_of text last) clause_numbered vs 0 0 []) (λ cs ws. tt)))

        theorem_numbered : ReadNumbered (theorem_of text last ts)
        theorem_numbered =
            follow_numbered (name_of last ts) ts _ (name_numbered last ts)
            (λ n us. follow_numbered (repeat (binders_of last) us 0 0 []) us _ (repeat_numbered (binders_of last) (binders_numbered last) us 0 0 [])
            (λ bs vs. follow_numbered (sign_of last 20 vs) vs _ (sign_numbered last 20 vs)
            (λ _ ws. follow_numbered (judgments_of text last ws) ws _ (judgments_numbered ws)
            (λ js xs. follow_numbered (tactic_of last xs) xs _ (tactic_numbered last xs) (λ t ys. tt)))))

        eval_numbered : ReadNumbered (eval_of text last ts)
        eval_numbered = follow_numbered (term text last ts) ts _ (terms_numbered ts) (λ t us. tt)

        check_numbered : ReadNumbered (check_of text last ts)
        check_numbered = follow_numbered (term text last ts) ts _ (terms_numbered ts) (λ t us. tt)

        body_numbered : (k : ℕ) (all : Tokens) → ReadNumbered (body_of text last k all ts)
        unfolding body_of
        body_numbered k all =
            let table : UpTo top 16 = (omega arith, omega arith) in
            when_numbered (eqb k 1) _ _ sort_numbered
            (when_numbered (eqb k 2) _ _ ctor_numbered
            (when_numbered (eqb k 3) _ _ pred_numbered
            (when_numbered (eqb k 4) _ _ rule_numbered
            (when_numbered (eqb k 5) _ _ def_numbered
            (when_numbered (eqb k 6) _ _ theorem_numbered
            (when_numbered (eqb k 7) _ _ table
            (when_numbered (eqb k 8) _ _ table
            (when_numbered (eqb k 9) _ _ table
            (when_numbered (eqb k 10) _ _ eval_numbered
            (when_numbered (eqb k 11) _ _ check_numbered (omega arith, omega arith)))))))))))

      declaration_numbered : (ts : Tokens) → ReadNumbered (declaration_of text last ts)
      unfolding declaration_of
      declaration_numbered [] = tt
      declaration_numbered (t ∷ ts) =
          let body : Parsed Declaration = body_of text last (get_or t 0 0) (t ∷ ts) ts in
          let next : Declaration → Tokens → Parsed Declared = λ d us. parsed (record { line = get_or t 3 0; declaration = d }) 0 in
          plus_numbered 1 (follow body ts next) (follow_numbered body ts next (body_numbered ts (get_or t 0 0) (t ∷ ts)) (λ d us. tt))

    parse_numbered : (text : List ℕ) (ts : Tokens) → ReadNumbered (parse_of text ts)
    unfolding parse_of
    parse_numbered text ts = repeat_numbered (declaration_of text (last_line ts)) (declaration_numbered text (last_line ts)) ts 0 0 []

-- Texts

module _ (text : List ℕ) (limit e line : ℕ) where
  refusal_numbered : (r : Refusal) (n : ℕ) → Numbered (number_of r) → of_parsed text limit (barred r n) ≡ refused e line → Numbered e
  refusal_numbered r n h p = let w : number_of r ≡ e = cc in rw w at h

  parsed_numbered : (ts : Tokens) (o : Parsed (List Declared)) → parse_of text ts ≡ o → of_parsed text limit o ≡ refused e line → Numbered e
  parsed_numbered ts (parsed ds n) q p = loaded_numbered limit text ds e line (parsed_nonempty text ts ds n q) p
  parsed_numbered ts absent q p = loaded_numbered limit text [] e line tt p
  parsed_numbered ts (barred r n) q p = refusal_numbered r n (numbered (omega arith) (rw q at (parse_numbered 16 (omega arith) text ts))) p

  read_numbered : (o : Reading) → ReadingNumbered 28 o → of_parsed text limit (parsed_text text o) ≡ refused e line → Numbered e
  read_numbered (tokens ts) h p = parsed_numbered ts (parse_of text ts) refl p
  read_numbered (unread r n) h p = refusal_numbered r n h p

-- No text is refused by 0.
pub refused_by_number : (text : List ℕ) (limits : Limits) (e line : ℕ) → load_text text limits ≡ refused e line → (0 < e) × (e ≤ 28)
refused_by_number text limits e line p =
    read_numbered text (capped_of limits).nodes e line (lex_of (capped_of limits).text text) (lex_numbered 28 (omega arith) (capped_of limits).text text) p

-- What `lex` answers, and `parse_text`

answer_numbered : (o : Reading) (e : Rejection) → ReadingNumbered 6 o → lexed_as o ≡ Err e → UpTo 6 (number_of e.refusal)
answer_numbered (tokens ts) e h p = absurd (let z : ◌≡◌ {A = ℕ} 0 1 = cc in omega arith)
answer_numbered (unread r n) e h p = let w : number_of r ≡ number_of e.refusal = cc in rw w at h

-- A text that `lex` refuses is refused by 1 to 6.
pub lexed_by_number : (text : List ℕ) (limits : Limits) (rows : List (List ℕ)) (e : Rejection) → lex_answer text limits rows ≡ Err e → UpTo 6 (number_of e.refusal)
lexed_by_number text limits rows e p =
    by_bool (ltb (length rows) (capped_of limits).text)
    (λ s. let q = rw s at p in let w : 1 ≡ number_of e.refusal = cc in let one : UpTo 6 1 = (omega arith, omega arith) in subst (λ (k : ℕ). UpTo 6 k) w one)
    (λ s. answer_numbered (lex_of (capped_of limits).text text) e (lex_numbered 6 (omega arith) (capped_of limits).text text) (rw s at p))

text_numbered : (text : List ℕ) (o : Reading) → ReadingNumbered 6 o → ReadNumbered 16 (parsed_text text o)
text_numbered text (tokens ts) h = parse_numbered 16 (omega arith) text ts
text_numbered text (unread r n) h = (h.0, omega (arith, h.1))

parsed_answer_numbered : (o : Parsed (List Declared)) (e : Rejection) → ReadNumbered 16 o → parsed_as o ≡ Err e → UpTo 16 (number_of e.refusal)
parsed_answer_numbered (parsed ds n) e h p = absurd (let z : ◌≡◌ {A = ℕ} 0 1 = cc in omega arith)
parsed_answer_numbered absent e h p = absurd (let z : ◌≡◌ {A = ℕ} 0 1 = cc in omega arith)
parsed_answer_numbered (barred r n) e h p = let w : number_of r ≡ number_of e.refusal = cc in rw w at h

-- A text that `parse_text` refuses is refused by 1 to 16.
pub parsed_by_number : (text : List ℕ) (limits : Limits) (tokens' rows rows' : List (List ℕ)) (r : Answer) (ts : List (List ℕ)) (e : Rejection)
    → ParsingText text limits ts rows r tokens' rows' → r ≡ Err e → UpTo 16 (number_of e.refusal)
parsed_by_number text limits tokens' rows rows' r ts e h p =
    let a : cond (short_for limits ts rows) (rejected Storage 0) (parsed_as (text_of text limits)) ≡ Err e = sym h.answer ∙ p in
    by_bool (short_for limits ts rows)
    (λ s. let q = rw s at a in let w : 1 ≡ number_of e.refusal = cc in let one : UpTo 16 1 = (omega arith, omega arith) in subst (λ (k : ℕ). UpTo 16 k) w one)
    (λ s. parsed_answer_numbered (text_of text limits) e (text_numbered text (lex_of (capped_of limits).text text) (lex_numbered 6 (omega arith) (capped_of limits).text text)) (rw s at a))
