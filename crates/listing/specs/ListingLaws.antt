-- Laws of the listing: line behind line, and what `lex` answers is what is listed.
use Prim.Native.Nat.{ℕ, zero, suc, ◌+◌, ◌-◌, ◌≤◌, ◌<◌}
use native.Mathlib.Omega.{arith}
use Rattle.std.proofs.Common.{add-one, ◌∙◌, take-suc, take_at, lt-ltb, le-ltb, ne_eqb}
use Rattle.std.specs.Prelude.{◌≡◌, ltb, get_or, length, take, replicate}
use Rattle.std.proofs.Math.Path.{refl, sym, ap}
use mathlib.Core.List.{List, [], ◌∷◌, ◌++◌, append_assoc, append-nil}
use Rattle.std.proofs.Math.ListN.{length-append}
use Rattle.terms.specs.Numbers.{by_bool}
use Rattle.words.specs.Names.{name_kind, metavariable_kind, numeral_kind}
use Rattle.words.specs.Tokens.{Reading}
use Rattle.words.specs.Tokens.Reading.{tokens, refused}
use Rattle.refusals.specs.Refusals.{number_of}
use Rattle.source_text.specs.Parts.{part_of}
use Rattle.words.specs.Lexer.{capped_of, zero_row, lex_of, answer_of, rows_of, count_of, lex_answer, lex_rows}
use Rattle.words.specs.declared.Limits.{Limits}
use Rattle.std.specs.Prelude.{Some, None, Result, Ok, Err}
use Rattle.refusals.specs.declared.Rejection.{Rejection}
use Rattle.byte_output.specs.Output.{numeral, Written}
use Rattle.listing.specs.Listing.{keyword_word, sign_word, kind_word, line_word, line_end, token_line, token_lines, refused_line, reading_lines, listing_of, listing_size, ListingWritten}

-- How long a token's line is.
pub line_length : (text row : List ℕ)
    → length (token_line text row) ≡ length (numeral (get_or row 3 0)) + (length (kind_word (get_or row 0 0)) + (length (part_of text (get_or row 1 0) (get_or row 2 0)) + 1))
line_length text row =
    let a = length-append (numeral (get_or row 3 0)) (kind_word (get_or row 0 0) ++ (part_of text (get_or row 1 0) (get_or row 2 0) ++ (10 ∷ []))) in
    let b = length-append (kind_word (get_or row 0 0)) (part_of text (get_or row 1 0) (get_or row 2 0) ++ (10 ∷ [])) in
    let c = length-append (part_of text (get_or row 1 0) (get_or row 2 0)) (10 ∷ []) in
    omega arith

-- How long a refusal's line is.
pub refused_length : (number line : ℕ) → length (refused_line number line) ≡ 8 + (length (numeral number) + (6 + (length (numeral line) + 1)))
refused_length number line =
    let a = length-append (numeral number) (line_word ++ (numeral line ++ line_end)) in
    let b = length-append (numeral line) line_end in
    omega arith

-- The words of kinds.
pub kind_keyword : (kind : ℕ) → kind < name_kind → kind_word kind ≡ keyword_word
kind_keyword kind h = rw (lt-ltb kind name_kind h)

pub kind_sign : (kind : ℕ) → name_kind ≤ kind → (kind ≡ name_kind → ⊥) → (kind ≡ metavariable_kind → ⊥) → (kind ≡ numeral_kind → ⊥) → kind_word kind ≡ sign_word
kind_sign kind h a b c = rw (le-ltb kind name_kind h, ne_eqb kind name_kind a, ne_eqb kind metavariable_kind b, ne_eqb kind numeral_kind c)

module _ (text : List ℕ) where
  lines_append : (xs ys : List (List ℕ)) → token_lines text (xs ++ ys) ≡ token_lines text xs ++ token_lines text ys
  unfolding token_lines
  lines_append [] ys = refl
  lines_append (x ∷ xs) ys = ap (λ (l : List ℕ). token_line text x ++ l) (lines_append xs ys) ∙ sym (append_assoc (token_line text x) (token_lines text xs) (token_lines text ys))

  line_alone : (row : List ℕ) → token_lines text (row ∷ []) ≡ token_line text row
  unfolding token_lines
  line_alone row = append-nil (token_line text row)

  -- One more row, one more line.
  pub lines_next : (rows : List (List ℕ)) (i : ℕ) → i < length rows
      → token_lines text (take (i + 1) rows) ≡ token_lines text (take i rows) ++ token_line text (get_or rows i [])
  lines_next rows i h =
      ap (λ (k : ℕ). token_lines text (take k rows)) (add-one i)
      ∙ ap (token_lines text) (take-suc rows i [] h)
      ∙ lines_append (take i rows) (get_or rows i [] ∷ [])
      ∙ ap (λ (l : List ℕ). token_lines text (take i rows) ++ l) (line_alone (get_or rows i []))

  -- Fewer rows have no more bytes.
  pub lines_fewer : (rows : List (List ℕ)) (i n : ℕ) → i ≤ n → length (token_lines text (take i rows)) ≤ length (token_lines text (take n rows))
  unfolding token_lines
  lines_fewer rows zero n h = omega arith
  lines_fewer rows (suc i) zero h = absurd (omega arith)
  lines_fewer [] (suc i) (suc n) h = omega arith
  lines_fewer (x ∷ rows) (suc i) (suc n) h =
      let g = lines_fewer rows i n (omega arith) in
      let a = length-append (token_line text x) (token_lines text (take i rows)) in
      let b = length-append (token_line text x) (token_lines text (take n rows)) in
      omega arith

  -- The line of the row at i, behind those before it, is within those of the first n.
  pub line_room : (rows : List (List ℕ)) (i n : ℕ) → i < n → n ≤ length rows
      → length (token_lines text (take i rows)) + length (token_line text (get_or rows i [])) ≤ length (token_lines text (take n rows))
  line_room rows i n h l =
      let e = ap length (lines_next rows i (omega arith)) in
      let a = length-append (token_lines text (take i rows)) (token_line text (get_or rows i [])) in
      let f = lines_fewer rows (i + 1) n (omega arith) in
      omega arith

-- The lines of an answer of `lex` with the rows that it left.
abbrev answer_lines : List ℕ → Result ℕ Rejection → List (List ℕ) → List ℕ
answer_lines text (Ok n) rows = token_lines text (take n rows)
answer_lines text (Err e) rows = refused_line (number_of e.refusal) e.line

module _ (text : List ℕ) (limits : Limits) (rows : List (List ℕ)) where
  reading_lines_lem : (m : ℕ) (r : Reading) → answer_lines text (answer_of r) (rows_of m r) ≡ reading_lines text r
  reading_lines_lem m (tokens ts) = ap (token_lines text) (take_at ts (replicate (m - length ts) zero_row) (length ts) refl)
  reading_lines_lem m (refused r line) = refl

  reading_count : (m : ℕ) (r : Reading) → count_of (answer_of r) ≤ length (rows_of m r)
  reading_count m (tokens ts) = let e = length-append ts (replicate (m - length ts) zero_row) in omega arith
  reading_count m (refused r line) = omega arith

  answer_lines_lem : answer_lines text (lex_answer text limits rows) (lex_rows text limits rows) ≡ listing_of text limits (length rows)
  answer_lines_lem =
      by_bool (ltb (length rows) (capped_of limits).text) (λ e. rw e)
      (λ e. rw e (reading_lines_lem (length rows) (lex_of (capped_of limits).text text)))

  answer_count : count_of (lex_answer text limits rows) ≤ length (lex_rows text limits rows)
  answer_count =
      by_bool (ltb (length rows) (capped_of limits).text) (λ e. rw e (omega arith))
      (λ e. rw e (reading_count (length rows) (lex_of (capped_of limits).text text)))

  module _ {rows' : List (List ℕ)} (left : rows' ≡ lex_rows text limits rows) where
    -- The tokens that `lex` counts are the listed ones.
    pub tokens_listed : {n : ℕ} → Ok n ≡ lex_answer text limits rows → token_lines text (take n rows') ≡ listing_of text limits (length rows)
    tokens_listed e = ap (λ (a : Result ℕ Rejection). answer_lines text a rows') e ∙ ap (answer_lines text (lex_answer text limits rows)) left ∙ answer_lines_lem

    pub tokens_counted : {n : ℕ} → Ok n ≡ lex_answer text limits rows → n ≤ length rows'
    tokens_counted e = let a = ap count_of e in let b = ap length left in let c = answer_count in omega arith

    pub refusal_listed : {e : Rejection} → Err e ≡ lex_answer text limits rows → refused_line (number_of e.refusal) e.line ≡ listing_of text limits (length rows)
    refusal_listed e = ap (λ (a : Result ℕ Rejection). answer_lines text a rows') e ∙ ap (answer_lines text (lex_answer text limits rows)) left ∙ answer_lines_lem

-- The two ways out of `write_listing`.
module _ (text : List ℕ) (limits : Limits) (rows : List (List ℕ)) (out : List ℕ) where
  pub listing_refused : length out < listing_size limits → ListingWritten text limits rows rows out out None
  listing_refused h = record {
    answer = rw (lt-ltb (length out) (listing_size limits) h);
    buffer = rw (lt-ltb (length out) (listing_size limits) h);
    tokens = rw (lt-ltb (length out) (listing_size limits) h);
  }

  pub listing_done : {rows' : List (List ℕ)} {next : ℕ} {out' : List ℕ} → listing_size limits ≤ length out
      → Written out 0 (listing_of text limits (length rows)) next out' → rows' ≡ lex_rows text limits rows
      → ListingWritten text limits rows rows' out out' (Some next)
  listing_done {next = next} h w e =
      let p = w.place in
      let n : next ≡ length (listing_of text limits (length rows)) = omega arith in
      record {
        answer = rw (le-ltb (length out) (listing_size limits) h) (ap Some n);
        buffer = rw (le-ltb (length out) (listing_size limits) h) w.buffer;
        tokens = rw (le-ltb (length out) (listing_size limits) h) e;
      }
