-- Every token that reading gives lies inside the text and has 1 to 64 bytes: a longer word is refused, and signs have at most 3.
use Rattle.std.specs.Prelude.{ℕ, zero, suc, ◌+◌, ◌-◌, ◌≤◌, ◌<◌, ◌≡◌, true, Option, Some, None, List, [], ◌∷◌, eqb, ltb, length, get_or}
use Rattle.std.proofs.Common.{arith, ltb-false}
use Rattle.terms.specs.Numbers.{by_bool}
use Rattle.source_text.specs.Bytes.{starts_with, up_to}
use Rattle.source_text.specs.ScanLaws.{upto_short, starts_short}
use Rattle.source_text.specs.Characters.{character_of, blank, sign}
use Rattle.source_text.specs.Lines.{prepend, lines, code_of}
use Rattle.source_text.specs.Numerals.{all_digits, numeral_of}
use Rattle.words.specs.Names.{numeral_kind, if_fits, word_item}
use Rattle.words.specs.Signs.{Sign, signs, sign_among, sign_item}
use Rattle.words.specs.Tokens.{Reading, is_word, word_of, item_of, and_then, read_item, item_length, read_after, read_lines, outside_line}
use Rattle.words.specs.Tokens.Reading.{tokens, refused}
use Rattle.source_text.specs.Utf8.{is_utf8}
use Rattle.words.specs.Lexer.{in_domain, lex_of}
use Rattle.words.specs.Items.{Item}
use Rattle.words.specs.Items.Item.{Blank, Token, Refused}
use Rattle.term_parser.specs.Source.{Place, place}
use Rattle.names.specs.NamePlaces.{NamePlace}
use Rattle.term_parser.specs.ReaderLaws.{Each, each_append}

-- The place of a token's row.
abbrev pub row_place : List ℕ → Place
row_place row = place (get_or row 1 0) (get_or row 2 0)

-- A place that a name may have.
abbrev pub Named : List ℕ → Place → Type 0
Named text (place start n) = NamePlace text start n

-- Items

-- The item has 1 to 64 bytes, and at most n.
abbrev Sized : ℕ → Item → Type 0
Sized n Blank = Unit {0}
Sized n (Token kind m) = (0 < m) × (m ≤ 64) × (m ≤ n)
Sized n (Refused r) = Unit {0}

word_sized : (w : List ℕ) → 0 < length w → Sized (length w) (word_item w)
unfolding word_item
word_sized w some =
    by_bool (ltb 64 (length w)) (λ e. rw e tt)
    (λ e. let l : length w ≤ 64 = ltb-false 64 (length w) e in
    let here : (0 < length w) × (length w ≤ 64) × (length w ≤ length w) = (some, l, omega arith) in
    rw e (by_bool (eqb (get_or w 0 0) 63) (λ f. rw f here)
    (λ f. rw f (by_bool (all_digits w) (λ g. rw g (numeral (numeral_of w) here)) (λ g. rw g here)))))
  where
    numeral : (v : Option ℕ) → (0 < length w) × (length w ≤ 64) × (length w ≤ length w) → Sized (length w) (if_fits v (Token numeral_kind (length w)))
    numeral (Some v) h = h
    numeral None h = tt

-- A word has a byte at least, the one with which it starts.
word_some : (c : ℕ) (s : List ℕ) → is_word (character_of (c ∷ s)).class ≡ true → 0 < length (word_of (c ∷ s))
unfolding word_of up_to
word_some c s e = rw e (omega arith)

-- Signs have 1 to 3 bytes.
abbrev SignSized : Sign → Type 0
SignSized x = (0 < length x.written) × (length x.written ≤ 64)

signs_sized : Each SignSized signs
unfolding signs
signs_sized =
    let one : (0 < 1) × (1 ≤ 64) = (omega arith, omega arith) in
    let two : (0 < 2) × (2 ≤ 64) = (omega arith, omega arith) in
    let three : (0 < 3) × (3 ≤ 64) = (omega arith, omega arith) in
    (two, (two, (two, (three, (one, (one, (one, (one, (one, (one, tt))))))))))

sign_sized : (xs : List Sign) (s : List ℕ) → Each SignSized xs → Sized (length s) (sign_among xs s)
unfolding sign_among
sign_sized [] s h = tt
sign_sized (x ∷ xs) s h =
    by_bool (starts_with x.written s) (λ e. rw e (h.0.0, h.0.1, starts_short x.written s e)) (λ e. rw e (sign_sized xs s h.1))

sized_more : (m n : ℕ) (o : Item) → m ≤ n → Sized m o → Sized n o
sized_more m n Blank l h = tt
sized_more m n (Token kind k) l h = let b = h.2 in (h.0, h.1, omega arith)
sized_more m n (Refused r) l h = tt

item_sized : (c : ℕ) (s : List ℕ) → Sized (length (c ∷ s)) (item_of (c ∷ s))
unfolding item_of word_of sign_item
item_sized c s =
    by_bool (eqb (character_of (c ∷ s)).class blank) (λ e. rw e tt)
    (λ e. rw e (by_bool (is_word (character_of (c ∷ s)).class)
    (λ f. rw f (sized_more (length (word_of (c ∷ s))) (length (c ∷ s)) (word_item (word_of (c ∷ s))) (upto_short _ (c ∷ s)) (word_sized (word_of (c ∷ s)) (word_some c s f))))
    (λ f. rw f (by_bool (eqb (character_of (c ∷ s)).class sign) (λ g. rw g (sign_sized signs (c ∷ s) signs_sized)) (λ g. rw g tt)))))

-- Readings

-- P holds of each token's place, if there are tokens.
abbrev Read : (Place → Type 0) → Reading → Type 0
Read P (tokens ts) = Each (λ t. P (row_place t)) ts
Read P (refused r n) = Unit {0}

then_read : (P : Place → Type 0) (a b : Reading) → Read P a → Read P b → Read P (and_then a b)
unfolding and_then
then_read P (refused r n) b h g = tt
then_read P (tokens ts) (refused r n) h g = tt
then_read P (tokens ts) (tokens us) h g = each_append (λ t. P (row_place t)) ts us h g

item_read : (text : List ℕ) (m : ℕ) (o : Item) (p n : ℕ) → p + m ≤ length text → Sized m o → Read (Named text) (read_item o p n)
item_read text m Blank p n l h = tt
item_read text m (Token kind k) p n l h = let b = h.2 in (record { inside = omega arith; some = h.0; short = h.1 }, tt)
item_read text m (Refused r) p n l h = tt

-- What stands from place p on.
after_read : (text : List ℕ) (s : List ℕ) (k p n : ℕ) → p + length s ≤ length text → Read (Named text) (read_after s k p n)
unfolding read_after
after_read text [] k p n l = tt
after_read text (c ∷ s) (suc k) p n l = after_read text s k (suc p) n (omega arith)
after_read text (c ∷ s) zero p n l =
    then_read (Named text) (read_item (item_of (c ∷ s)) p n) (read_after s (item_length (item_of (c ∷ s)) - 1) (suc p) n)
    (item_read text (length (c ∷ s)) (item_of (c ∷ s)) p n l (item_sized c s))
    (after_read text s (item_length (item_of (c ∷ s)) - 1) (suc p) n (omega arith))

-- Lines

-- How many bytes lines have, with a line feed each.
abbrev span : List (List ℕ) → ℕ
span [] = 0
span (l ∷ ls) = length l + 1 + span ls

-- The last line may do without.
lines_span : (s : List ℕ) → span (lines s) ≤ length s + 1
unfolding lines
lines_span [] = omega arith
lines_span (c ∷ s) = by_bool (eqb c 10) (λ e. rw e (let h = lines_span s in omega arith)) (λ e. rw e (go (lines s) (lines_span s)))
  where
    go : (ls : List (List ℕ)) → span ls ≤ length s + 1 → span (prepend c ls) ≤ length (c ∷ s) + 1
    go [] h = omega arith
    go (l ∷ ls) h = omega arith

lines_read : (text : List ℕ) (ls : List (List ℕ)) (p n : ℕ) → p + span ls ≤ length text + 1 → Read (Named text) (read_lines ls p n)
unfolding read_lines code_of
lines_read text [] p n l = tt
lines_read text (x ∷ ls) p n l =
    let h : length (code_of x) ≤ length x = upto_short _ x in
    then_read (Named text) (read_after (code_of x) 0 p n) (read_lines ls (p + length x + 1) (n + 1))
    (after_read text (code_of x) 0 p n (omega arith))
    (lines_read text ls (p + length x + 1) (n + 1) (omega arith))

-- The whole text.
lex_read : (limit : ℕ) (text : List ℕ) → Read (Named text) (lex_of limit text)
unfolding lex_of
lex_read limit text =
    by_bool (ltb limit (length text)) (λ e. rw e tt)
    (λ e. rw e (by_bool (is_utf8 text)
    (λ f. rw f (go (outside_line (lines text) 1) (let h = lines_span text in lines_read text (lines text) 0 1 (omega arith))))
    (λ f. rw f tt)))
  where
    go : (n : ℕ) → Read (Named text) (read_lines (lines text) 0 1) → Read (Named text) (in_domain n (read_lines (lines text) 0 1))
    go zero h = h
    go (suc n) h = tt

-- Each token lies inside the text, and has 1 to 64 bytes.
pub tokens_inside : (limit : ℕ) (text : List ℕ) (ts : List (List ℕ)) → lex_of limit text ≡ tokens ts → Each (λ t. Named text (row_place t)) ts
tokens_inside limit text ts e = let h = lex_read limit text in rw e at h
