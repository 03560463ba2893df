-- The ways out of `parse` and `parse_text`.
use mathlib.Core.Path.{◌≡◌, refl, sym, ap, ap₂, ◌∙◌, subst}
use mathlib.Core.Bool.{Bool, true, false, cond}
use mathlib.Core.List.{List, [], ◌++◌}
use Prim.Native.Nat.{ℕ, ◌-◌, ◌≤◌, ◌<◌}
use native.Mathlib.Omega.{arith}
use borrow.Author.Tests.{lt-ltb, le-ltb}
use Rattle.std.proofs.lemmas.Bool.{or_left, or_right, or_from}
use lib.Dec.{ltb}
use lib.ListN.{length, take, replicate}
use lib.Seq.{length-take-le, take_at}
use Rattle.words.specs.Lexer.{count_of, capped_of, lex_of, zero_row, Lexing, answer_of as lexedOf, rows_of as lexedRows}
use Rattle.source_text.specs.Answers.{refuses}
use Rattle.words.specs.Tokens.{Reading}
use Rattle.words.specs.Tokens.Reading.{tokens, refused as unread}
use Rattle.words.specs.declared.Limits.{Limits}
use Rattle.std.specs.Prelude.{Result, Ok, Err}
use Rattle.std.specs.Result.{is_err}
use Rattle.refusals.specs.declared.Rejection.{Rejection}
use Rattle.term_parser.specs.Parsing.{Tokens, Parsed, parsed, absent, refused}
use Rattle.parser.specs.Declarations.{Declared, parse_of}
use Rattle.term_parser.specs.Rows.{Rows, rows_of_all}
use Rattle.parser.specs.Rows.{declared_rows}
use Rattle.term_parser.specs.Promises.{Lists}
use Rattle.parser.specs.Parser.{Answer, counted, rejected, answer_of, answer_told, parsed_told, rows_after, used_of, too_short, Parsing, parsed_text, tokens_after, tokens_of, short_for, text_of, ParsingText}
use Rattle.refusals.specs.declared.Refusal.{Refusal}
use Rattle.refusals.specs.declared.Refusal.TheVariants.{Storage}
use Rattle.term_parser.specs.Steps.{Step}
use Rattle.term_parser.specs.Steps.Step.{At, Refused}
use Rattle.term_parser.proofs.Readers.{no_path, got, moved, is_refused_lem}

-- What reading comes to that is answered so.
abbrev read_in : Result ℕ Rejection → Reading
read_in (Ok n) = tokens []
read_in (Err e) = unread e.refusal e.line

-- The answer by the paper's numbers, from the answer itself.
told_by : (short : Bool) (x : Parsed (List Declared)) {r : Answer} → r ≡ cond short (rejected Storage 0) (answer_of x)
    → answer_told r ≡ cond short (refuses 1 0) (parsed_told x)
told_by true x e = ap answer_told e
told_by false (parsed ds n) e = ap answer_told e
told_by false absent e = ap answer_told e
told_by false (refused v line) e = ap answer_told e

module _ (text : List ℕ) (ts : Tokens) (before : Rows) where
  -- The promise of `parse`, from its answer and its rows.
  as_parsing : {r : Answer} {after : Rows} → r ≡ cond (too_short ts before) (rejected Storage 0) (answer_of (parse_of text ts))
      → after ≡ cond (too_short ts before) before (rows_after (length before) (parse_of text ts)) → used_of r ≤ length ts → Parsing text ts before r after
  as_parsing a r f = record { answer = a; told = told_by (too_short ts before) (parse_of text ts) a; rows = r; fits = f }

  pub over : 65536 < length ts → too_short ts before ≡ true
  over h = or_left (ltb 65536 (length ts)) (ltb (length before) (length ts)) (lt-ltb _ _ h)

  pub few : length before < length ts → too_short ts before ≡ true
  few h = or_right (ltb 65536 (length ts)) (ltb (length before) (length ts)) (lt-ltb _ _ h)

  enough : length ts ≤ 65536 → length ts ≤ length before → too_short ts before ≡ false
  enough h k = or_from (ltb 65536 (length ts)) (ltb (length before) (length ts)) (le-ltb _ _ h) (le-ltb _ _ k)

  pub parse_short : too_short ts before ≡ true → Parsing text ts before (rejected Storage 0) before
  parse_short e =
      as_parsing (sym (ap (λ b. cond b (rejected Storage 0) (answer_of (parse_of text ts))) e))
      (sym (ap (λ b. cond b before (rows_after (length before) (parse_of text ts))) e)) (omega arith)

  module _ (h : length ts ≤ 65536) (k : length ts ≤ length before) where
    parsing : (x : Parsed (List Declared)) → parse_of text ts ≡ x → {r : Answer} {after : Rows} → r ≡ answer_of x → after ≡ rows_after (length before) x → used_of r ≤ length ts → Parsing text ts before r after
    parsing x e f g i =
        as_parsing (f ∙ sym (ap (λ b. cond b (rejected Storage 0) (answer_of (parse_of text ts))) (enough h k) ∙ ap answer_of e))
        (g ∙ sym (ap (λ b. cond b before (rows_after (length before) (parse_of text ts))) (enough h k) ∙ ap (rows_after (length before)) e)) i

    module _ {r : Step} {out : Rows} (l : Lists 0 declared_rows (parse_of text ts) ts 0 0 before r out) (long : length out ≡ length before) where
      pub parse_end : {next used n : ℕ} → r ≡ At next used n → {after : Rows} → after ≡ take used out ++ replicate (length out - used) zero_row → Parsing text ts before (counted n used) after
      parse_end {next} {used} {n} e w =
          let g = got l.answers e in
          let m = moved l.answers e in
          let c : n ≡ length g.item = l.counted next used n e g.item g.taken g.is in
          let t : take used out ≡ rows_of_all declared_rows g.item = g.written in
          let u : used ≡ length (rows_of_all declared_rows g.item) = sym (length-take-le used out (omega (arith, m))) ∙ ap length t in
          parsing (parsed g.item g.taken) g.is (ap₂ counted c u)
          (w ∙ ap₂ (λ z i. z ++ replicate i zero_row) t (ap₂ ◌-◌ long u)) (omega (arith, m))

      pub parse_refused : {v : Refusal} {line : ℕ} → r ≡ Refused v line → {after : Rows} → after ≡ take 0 out ++ replicate (length out - 0) zero_row → Parsing text ts before (rejected v line) after
      parse_refused {v} {line} e w = parsing (refused v line) (is_refused_lem l.answers e) refl (w ∙ (let z : length out - 0 ≡ length before = omega arith in ap (λ i. replicate i zero_row) z)) (omega arith)

-- Whole texts.
module _ (text : List ℕ) (limits : Limits) (toks rows : Rows) where
  abbrev limit : ℕ
  limit = (capped_of limits).text

  pub text_short : short_for limits toks rows ≡ true → ParsingText text limits toks rows (rejected Storage 0) toks rows
  text_short e = record {
    answer = sym (ap (λ b. cond b (rejected Storage 0) (answer_of (text_of text limits))) e);
    told = sym (ap (λ b. cond b (refuses 1 0) (parsed_told (text_of text limits))) e);
    tokens = sym (ap (λ b. cond b toks (tokens_after (length toks) (tokens_of (lex_of limit text)) (text_of text limits))) e);
    rows = sym (ap (λ b. cond b rows (rows_after (length rows) (text_of text limits))) e);
    fits = omega arith;
  }

  pub short_tokens : length toks < limit → short_for limits toks rows ≡ true
  short_tokens h = or_left (ltb (length toks) limit) (ltb (length rows) limit) (lt-ltb _ _ h)

  pub short_rows : length rows < limit → short_for limits toks rows ≡ true
  short_rows h = or_right (ltb (length toks) limit) (ltb (length rows) limit) (lt-ltb _ _ h)

  module _ (h : limit ≤ length toks) (k : limit ≤ length rows) where
    long_enough : short_for limits toks rows ≡ false
    long_enough = or_from (ltb (length toks) limit) (ltb (length rows) limit) (le-ltb _ _ h) (le-ltb _ _ k)

    whole : (x : Reading) (y : Parsed (List Declared)) → lex_of limit text ≡ x → parsed_text text x ≡ y → {r : Answer} {toks' rows' : Rows}
        → r ≡ answer_of y → toks' ≡ tokens_after (length toks) (tokens_of x) y → rows' ≡ rows_after (length rows) y → used_of r ≤ limit → ParsingText text limits toks rows r toks' rows'
    whole x y e f a b c d =
        let z : text_of text limits ≡ y = ap (parsed_text text) e ∙ f in
        let i : _ ≡ cond (short_for limits toks rows) (rejected Storage 0) (answer_of (text_of text limits)) =
        a ∙ sym (ap (λ b. cond b (rejected Storage 0) (answer_of (text_of text limits))) long_enough ∙ ap answer_of z) in
        record {
          answer = i;
          told = told_by (short_for limits toks rows) (text_of text limits) i;
          tokens = b ∙ sym (ap (λ b. cond b toks (tokens_after (length toks) (tokens_of (lex_of limit text)) (text_of text limits))) long_enough ∙ ap₂ (λ v w. tokens_after (length toks) (tokens_of v) w) e z);
          rows = c ∙ sym (ap (λ b. cond b rows (rows_after (length rows) (text_of text limits))) long_enough ∙ ap (rows_after (length rows)) z);
          fits = d;
        }

    module _ {r : Result ℕ Rejection} {toks' : Rows} (l : Lexing text limits toks r toks') where
      lexed_answer : r ≡ lexedOf (lex_of limit text)
      lexed_answer = l.answer ∙ ap (λ b. cond b (rejected Storage 0) (lexedOf (lex_of limit text))) (le-ltb _ _ h)

      lexed_rows : toks' ≡ lexedRows (length toks) (lex_of limit text)
      lexed_rows = l.rows ∙ ap (λ b. cond b toks (lexedRows (length toks) (lex_of limit text))) (le-ltb _ _ h)

      -- the text cannot be read
      reading_is : {q : Refusal} {line : ℕ} → r ≡ rejected q line → lex_of limit text ≡ unread q line
      reading_is {q} {line} e = go (lex_of limit text) (sym e ∙ lexed_answer)
        where
          go : (x : Reading) → rejected q line ≡ lexedOf x → x ≡ unread q line
          go (tokens ts) f = no_path cc
          go (unread v m) f = sym (ap read_in f)

      pub text_unread : {q : Refusal} {line : ℕ} → r ≡ rejected q line → {rows' : Rows} → rows' ≡ take 0 rows ++ replicate (length rows - 0) zero_row
          → ParsingText text limits toks rows (rejected q line) toks' rows'
      text_unread {q} {line} e w =
          let x = reading_is e in
          whole (unread q line) (refused q line) x refl refl (lexed_rows ∙ ap (lexedRows (length toks)) x) (w ∙ (let z : length rows - 0 ≡ length rows = omega arith in ap (λ i. replicate i zero_row) z)) (omega arith)

      -- or it is read
      module _ {n : ℕ} (e : r ≡ Ok n) where
        found : (ts : Tokens) × (lex_of limit text ≡ tokens ts) × (n ≡ length ts) × (toks' ≡ ts ++ replicate (length toks - length ts) zero_row)
        found = go (lex_of limit text) refl (sym e ∙ lexed_answer) lexed_rows
          where
            go : (x : Reading) → lex_of limit text ≡ x → Ok n ≡ lexedOf x → toks' ≡ lexedRows (length toks) x
                → (ts : Tokens) × (lex_of limit text ≡ tokens ts) × (n ≡ length ts) × (toks' ≡ ts ++ replicate (length toks - length ts) zero_row)
            go (tokens ts) i f g = (ts, i, cc, g)
            go (unread v m) i f g = no_path cc

        pub tokens_in : n ≤ limit
        tokens_in = subst (λ (x : Result ℕ Rejection). count_of x ≤ limit) e l.fits

        read_part : take n toks' ≡ found.0
        read_part = ap (λ z. take n z) found.3 ∙ take_at found.0 _ n (let c = found.2 in omega arith)

        module _ {part : Tokens} (pe : part ≡ take n toks') {a : Answer} {rows' : Rows} (p : Parsing text part rows a rows') where
          same_part : part ≡ found.0
          same_part = pe ∙ read_part

          not_short : too_short found.0 rows ≡ false
          not_short = let c = found.2 in let i = tokens_in in or_from (ltb 65536 (length found.0)) (ltb (length rows) (length found.0)) (le-ltb 65536 (length found.0) (omega arith)) (le-ltb (length rows) (length found.0) (omega arith))

          parsing_answer : a ≡ answer_of (parse_of text found.0)
          parsing_answer = subst (λ (z : Tokens). a ≡ cond (too_short z rows) (rejected Storage 0) (answer_of (parse_of text z))) same_part p.answer ∙ ap (λ b. cond b (rejected Storage 0) (answer_of (parse_of text found.0))) not_short

          parsing_rows : rows' ≡ rows_after (length rows) (parse_of text found.0)
          parsing_rows = subst (λ (z : Tokens). rows' ≡ cond (too_short z rows) rows (rows_after (length rows) (parse_of text z))) same_part p.rows ∙ ap (λ b. cond b rows (rows_after (length rows) (parse_of text found.0))) not_short

          parsing_fits : used_of a ≤ limit
          parsing_fits = let b = p.fits in let l : length part ≡ length found.0 = ap length same_part in let c = found.2 in let i = tokens_in in omega arith

          -- and parsed,
          pub text_parsed : is_err a ≡ false → ParsingText text limits toks rows a toks' rows'
          text_parsed f = go (parse_of text found.0) refl (ap is_err (sym parsing_answer) ∙ f) parsing_answer parsing_rows
            where
              go : (y : Parsed (List Declared)) → parse_of text found.0 ≡ y → is_err (answer_of y) ≡ false → a ≡ answer_of y → rows' ≡ rows_after (length rows) y → ParsingText text limits toks rows a toks' rows'
              go (parsed ds o) d z b c = whole (tokens found.0) (parsed ds o) found.1 d b found.3 c parsing_fits
              go absent d z b c = whole (tokens found.0) absent found.1 d b found.3 c parsing_fits
              go (refused v o) d z b c = no_path cc

          -- or not
          pub text_refused : is_err a ≡ true → {toks'' : Rows} → length toks' ≡ length toks → toks'' ≡ take 0 toks' ++ replicate (length toks' - 0) zero_row
              → ParsingText text limits toks rows a toks'' rows'
          text_refused f {toks''} len w = go (parse_of text found.0) refl (ap is_err (sym parsing_answer) ∙ f) parsing_answer parsing_rows
            where
              go : (y : Parsed (List Declared)) → parse_of text found.0 ≡ y → is_err (answer_of y) ≡ true → a ≡ answer_of y → rows' ≡ rows_after (length rows) y → ParsingText text limits toks rows a toks'' rows'
              go (parsed ds o) d z b c = no_path cc
              go absent d z b c = no_path cc
              go (refused u o) d z b c = whole (tokens found.0) (refused u o) found.1 d b (w ∙ (let y : length toks' - 0 ≡ length toks = omega arith in ap (λ i. replicate i zero_row) y)) c parsing_fits
