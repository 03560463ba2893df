-- A listing has at most 26 bytes for each byte of the text, or 35: the tokens are parts of the text, and each has at least a byte.
use Prim.Native.Nat.{ℕ, zero, suc, ◌+◌, ◌*◌, ◌-◌, ◌≤◌}
use native.Mathlib.Omega.{arith}
use Rattle.std.specs.Prelude.{◌≡◌, Bool, false, eqb, ltb, leb, get_or, drop}
use mathlib.Core.List.{List, [], ◌∷◌, ◌++◌}
use Rattle.std.proofs.Math.ListN.{length, length-append}
use Rattle.std.proofs.Common.{length-take}
use borrow.Author.Tests.{ltb-false}
use Rattle.terms.specs.Numbers.{by_bool}
use Rattle.source_text.specs.Bytes.{starts_with, up_to}
use Rattle.source_text.specs.ScanLaws.{upto_short, starts_short}
use Rattle.source_text.specs.Characters.{character_of, blank, sign}
use Rattle.source_text.specs.Lines.{prepend, lines, code_of}
use Rattle.source_text.specs.Numerals.{all_digits, numeral_of}
use Rattle.words.specs.Names.{name_kind, metavariable_kind, numeral_kind, if_fits, word_item}
use Rattle.words.specs.Signs.{Sign, signs, sign_among, sign_item}
use Rattle.words.specs.Tokens.{Reading, is_word, word_of, item_of, and_then, read_item, item_length, read_after, read_lines, outside_line}
use Rattle.words.specs.Tokens.Reading.{tokens, refused}
use Rattle.source_text.specs.Utf8.{is_utf8}
use Rattle.refusals.specs.Refusals.{number_of}
use Rattle.source_text.specs.Parts.{part_of}
use Rattle.words.specs.Lexer.{capped_of, in_domain, lex_of}
use Rattle.words.specs.declared.Limits.{Limits}
use Rattle.std.specs.Prelude.{Option, Some as Read, None}
use Rattle.words.specs.Items.{Item}
use Rattle.words.specs.Items.Item.{Blank, Token, Refused}
use Rattle.byte_output.specs.NumeralLaws.{numeral_short}
use Rattle.listing.specs.Listing.{kind_word, token_line, token_lines, refused_line, reading_lines, listing_of, listing_size}
use Rattle.listing.specs.ListingLaws.{line_length, refused_length}

-- Lines

kind_short : (kind : ℕ) → length (kind_word kind) ≤ 14
kind_short kind =
    by_bool (ltb kind name_kind) (λ e. rw e (omega arith))
    (λ e. rw e (by_bool (eqb kind name_kind) (λ f. rw f (omega arith))
    (λ f. rw f (by_bool (eqb kind metavariable_kind) (λ g. rw g (omega arith))
    (λ g. rw g (by_bool (eqb kind numeral_kind) (λ h. rw h (omega arith)) (λ h. rw h (omega arith))))))))

part_short : (text : List ℕ) (start n : ℕ) → length (part_of text start n) ≤ n
part_short text start n =
    by_bool (leb (start + n) (length text)) (λ e. rw e (let h = length-take n (drop start text) in omega arith)) (λ e. rw e (omega arith))

line_short : (text row : List ℕ) → length (token_line text row) ≤ 25 + get_or row 2 0
line_short text row =
    let e = line_length text row in
    let a = numeral_short (get_or row 3 0) in
    let b = kind_short (get_or row 0 0) in
    let c = part_short text (get_or row 1 0) (get_or row 2 0) in
    omega arith

pub refused_short : (number line : ℕ) → length (refused_line number line) ≤ 35
refused_short number line =
    let e = refused_length number line in
    let a = numeral_short number in
    let b = numeral_short line in
    omega arith

-- Items

-- A token has a byte at least, and at most n.
abbrev Sized : ℕ → Item → Type 0
Sized n Blank = Unit {0}
Sized n (Token kind m) = (1 ≤ m) × (m ≤ n)
Sized n (Refused r) = Unit {0}

upto_some : (p : List ℕ → Bool) (c : ℕ) (s : List ℕ) → p (c ∷ s) ≡ false → 1 ≤ length (up_to p (c ∷ s))
unfolding up_to
upto_some p c s e = rw e (omega arith)

word_sized : (w : List ℕ) (n : ℕ) → 1 ≤ length w → length w ≤ n → Sized n (word_item w)
unfolding word_item
word_sized w n l h =
    by_bool (ltb 64 (length w)) (λ e. rw e tt)
    (λ e. rw e (by_bool (eqb (get_or w 0 0) 63) (λ f. rw f (l, h))
    (λ f. rw f (by_bool (all_digits w) (λ g. rw g (go (numeral_of w))) (λ g. rw g (l, h))))))
  where
    go : (v : Option ℕ) → Sized n (if_fits v (Token numeral_kind (length w)))
    go (Read v) = (l, h)
    go None = tt

-- Each sign has a byte at least.
abbrev Some : List Sign → Type 0
Some [] = Unit {0}
Some (x ∷ xs) = (1 ≤ length x.written) × Some xs

signs_some : Some signs
unfolding signs
signs_some =
    (omega arith, (omega arith, (omega arith, (omega arith, (omega arith, (omega arith, (omega arith, (omega arith, (omega arith, (omega arith, tt))))))))))

sign_sized : (xs : List Sign) (s : List ℕ) → Some xs → Sized (length s) (sign_among xs s)
unfolding sign_among
sign_sized [] s h = tt
sign_sized (x ∷ xs) s h = by_bool (starts_with x.written s) (λ e. rw e (h.0, starts_short x.written s e)) (λ e. rw e (sign_sized xs s h.1))

item_sized : (c : ℕ) (s : List ℕ) → Sized (suc (length s)) (item_of (c ∷ s))
unfolding item_of word_of sign_item
item_sized c s =
    by_bool (eqb (character_of (c ∷ s)).class blank) (λ e. rw e tt)
    (λ e. rw e (by_bool (is_word (character_of (c ∷ s)).class)
    (λ f. rw f (word_sized (word_of (c ∷ s)) (suc (length s)) (upto_some _ c s (rw f)) (upto_short _ (c ∷ s))))
    (λ f. rw f (by_bool (eqb (character_of (c ∷ s)).class sign) (λ g. rw g (sign_sized signs (c ∷ s) signs_some)) (λ g. rw g tt)))))

item_within : (o : Item) (n : ℕ) → Sized (suc n) o → item_length o - 1 ≤ n
item_within Blank n h = omega arith
item_within (Token kind m) n h = omega arith
item_within (Refused r) n h = omega arith

-- Readings

module _ (text : List ℕ) where
  -- How many bytes the lines of a reading's tokens have.
  abbrev size : Reading → ℕ
  size (tokens rows) = length (token_lines text rows)
  size (refused r line) = 0

  lines_size : (xs ys : List (List ℕ)) → length (token_lines text (xs ++ ys)) ≡ length (token_lines text xs) + length (token_lines text ys)
  unfolding token_lines
  lines_size [] ys = omega arith
  lines_size (x ∷ xs) ys =
      let h = lines_size xs ys in
      let a = length-append (token_line text x) (token_lines text (xs ++ ys)) in
      let b = length-append (token_line text x) (token_lines text xs) in
      omega arith

  then_size : (a b : Reading) → size (and_then a b) ≤ size a + size b
  unfolding and_then
  then_size (refused r line) b = omega arith
  then_size (tokens ts) (refused r line) = omega arith
  then_size (tokens ts) (tokens us) = let e = lines_size ts us in omega arith

  alone_size : (row : List ℕ) → length (token_lines text (row ∷ [])) ≤ 25 + get_or row 2 0
  unfolding token_lines
  alone_size row = let h = line_short text row in let a = length-append (token_line text row) [] in omega arith

  item_size : (o : Item) (n left : ℕ) (p line : ℕ) → Sized (suc n) o → left + 26 * (item_length o - 1) ≤ 26 * n → size (read_item o p line) + left ≤ 26 * suc n
  unfolding token_lines
  item_size Blank n left p line h l = omega arith
  item_size (Token kind m) n left p line h l = let a = alone_size (kind ∷ p ∷ m ∷ line ∷ []) in omega arith
  item_size (Refused r) n left p line h l = omega arith

  after_size : (s : List ℕ) (k p n : ℕ) → k ≤ length s → size (read_after s k p n) + 26 * k ≤ 26 * length s
  unfolding read_after token_lines
  after_size [] k p n l = omega arith
  after_size (c ∷ s) (suc k) p n l = let h = after_size s k (suc p) n (omega arith) in omega arith
  after_size (c ∷ s) zero p n l =
      let o = item_of (c ∷ s) in
      let rest = read_after s (item_length (item_of (c ∷ s)) - 1) (suc p) n in
      let h = after_size s (item_length (item_of (c ∷ s)) - 1) (suc p) n (item_within (item_of (c ∷ s)) (length s) (item_sized c s)) in
      let i = item_size (item_of (c ∷ s)) (length s) (size (read_after s (item_length (item_of (c ∷ s)) - 1) (suc p) n)) p n (item_sized c s) h in
      let t = then_size (read_item (item_of (c ∷ s)) p n) (read_after s (item_length (item_of (c ∷ s)) - 1) (suc p) n) in
      omega arith

  -- How many bytes lines have, without line feeds.
  abbrev span : List (List ℕ) → ℕ
  span [] = 0
  span (l ∷ ls) = length l + span ls

  lines_span : (s : List ℕ) → span (lines s) ≤ length s
  unfolding lines
  lines_span [] = omega arith
  lines_span (c ∷ s) = by_bool (eqb c 10) (λ e. rw e (let h = lines_span s in omega arith)) (λ e. rw e (go (lines s) (lines_span s)))
    where
      go : (ls : List (List ℕ)) → span ls ≤ length s → span (prepend c ls) ≤ suc (length s)
      go [] h = omega arith
      go (l ∷ ls) h = omega arith

  all_size : (ls : List (List ℕ)) (p n : ℕ) → size (read_lines ls p n) ≤ 26 * span ls
  unfolding read_lines code_of token_lines
  all_size [] p n = omega arith
  all_size (x ∷ ls) p n =
      let a = upto_short (starts_with (45 ∷ 45 ∷ [])) x in
      let b = after_size (code_of x) 0 p n (omega arith) in
      let c = all_size ls (p + length x + 1) (n + 1) in
      let t = then_size (read_after (code_of x) 0 p n) (read_lines ls (p + length x + 1) (n + 1)) in
      omega arith

  lex_size : (limit : ℕ) → size (lex_of limit text) ≤ 26 * limit
  unfolding lex_of
  lex_size limit =
      by_bool (ltb limit (length text)) (λ e. rw e (omega arith))
      (λ e. rw e (by_bool (is_utf8 text)
      (λ f. rw f (go (outside_line (lines text) 1) (let a = all_size (lines text) 0 1 in let b = lines_span text in let c = ltb-false limit (length text) e in omega arith)))
      (λ f. rw f (omega arith))))
    where
      go : (n : ℕ) → size (read_lines (lines text) 0 1) ≤ 26 * limit → size (in_domain n (read_lines (lines text) 0 1)) ≤ 26 * limit
      go zero h = h
      go (suc n) h = omega arith

  reading_fits : (r : Reading) → length (reading_lines text r) ≤ 35 + size r
  reading_fits (tokens rows) = omega arith
  reading_fits (refused r line) = refused_short (number_of r) line

  -- The size that is lent is always enough.
  pub listing_fits : (limits : Limits) (lent : ℕ) → length (listing_of text limits lent) ≤ listing_size limits
  listing_fits limits lent =
      by_bool (ltb lent (capped_of limits).text) (λ e. rw e (let h = refused_short 1 0 in omega arith))
      (λ e. rw e (let h = reading_fits (lex_of (capped_of limits).text text) in let l = lex_size (capped_of limits).text in omega arith))
