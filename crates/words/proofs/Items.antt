-- Laws of signs, keywords and items, at a place of a line.
use mathlib.Core.Path.{◌≡◌, refl, sym, ap, ◌∙◌}
use mathlib.Core.Bool.{Bool, true, false, cond, not, ◌&&◌}
use mathlib.Core.List.{List, [], ◌∷◌}
use Prim.Native.Nat.{ℕ, zero, suc, ◌+◌, ◌≤◌, ◌<◌}
use native.Mathlib.Numerals.{add-one}
use native.Mathlib.Omega.{arith}
use lib.ListN.{length, get_or, take, drop}
use lib.Dec.{eqb}
use borrow.Author.Tests.{ne_eqb, eqb-true}
use Rattle.std.proofs.Common.{◌⊎◌, inl, inr, ⊎_elim}
use Rattle.std.proofs.lemmas.List.{get_or_past}
use Rattle.source_text.specs.Bytes.{starts_with, same_bytes}
use Rattle.source_text.specs.Characters.{class_number, arrow, character_of}
use Rattle.words.specs.Names.{if_fits, word_item, keywords, keyword_of, number_among, name_kind}
use Rattle.words.specs.Signs.{signs, sign_among, sign_item}
use Rattle.words.specs.Tokens.{is_word, word_of, item_of}
use Rattle.refusals.specs.declared.Refusal.TheVariants.{UnexpectedCharacter, NumeralTooLarge}
use Rattle.std.specs.Prelude.{◌≢◌, Option, Some, None}
use Rattle.std.specs.Option.{is_some}
use Rattle.source_text.specs.declared.characters.Class.{Class}
use Rattle.source_text.specs.declared.characters.Class.TheVariants.{Stray, Blank as BlankClass, Letter, Digit, Sign, Outside}
use Rattle.words.specs.Items.{Item}
use Rattle.words.specs.Items.Item.{Blank, Token, Refused}
use Rattle.source_text.specs.ByteLaws.{by_bool, and_left, and_right}
use Rattle.source_text.specs.ScanLaws.{upto_short}
use Rattle.source_text.proofs.Scans.{one_at, two_at, scan_next, scan_take}

-- The sign whose first bytes are a and b; t: stands there.
abbrev pub sign_by : ℕ → ℕ → Bool → Item
sign_by a b t =
    cond (eqb a 45 && eqb b 62) (Token 15 2)
    (cond (eqb a 61 && eqb b 62) (Token 16 2)
    (cond (eqb a 58 && eqb b 61) (Token 17 2)
    (cond t (Token 15 3)
    (cond (eqb a 40) (Token 18 1)
    (cond (eqb a 41) (Token 19 1)
    (cond (eqb a 58) (Token 20 1)
    (cond (eqb a 44) (Token 21 1)
    (cond (eqb a 124) (Token 22 1)
    (cond (eqb a 61) (Token 23 1) (Refused UnexpectedCharacter))))))))))

pub sign_at : (s : List ℕ) (i : ℕ) → sign_item (drop i s) ≡ sign_by (get_or s i 0) (get_or s (i + 1) 0) (starts_with arrow (drop i s))
unfolding sign_item signs sign_among
sign_at s i =
    simp
    (two_at 45 62 refl refl s i, two_at 61 62 refl refl s i, two_at 58 61 refl refl s i, one_at 40 refl s i, one_at 41 refl s i, one_at 58 refl s i, one_at 44 refl s i, one_at 124 refl s i, one_at 61 refl s i, add-one)

-- Where the first byte is not that of →, → does not stand.
pub no_arrow : (s : List ℕ) (i : ℕ) (a : ℕ) → get_or s i 0 ≡ a → eqb a 0xE2 ≡ false → starts_with arrow (drop i s) ≡ false
unfolding starts_with
no_arrow [] zero a e f = refl
no_arrow [] (suc i) a e f = refl
no_arrow (c ∷ s) zero a e f = simp (e, f)
no_arrow (c ∷ s) (suc i) a e f = no_arrow s i a e f

-- A sign whose first byte is not that of →, by its first two bytes.
sign_first : {k : Item} (s : List ℕ) (a : ℕ) → get_or s 0 0 ≡ a → eqb a 0xE2 ≡ false → k ≡ sign_by a (get_or s 1 0) false → k ≡ sign_item s
sign_first s a e f k = k ∙ sym (sign_at s 0 ∙ simp (no_arrow s 0 a e f, e))

module _ (s : List ℕ) where
  pub sign_minus : get_or s 0 0 ≡ 45 → get_or s 1 0 ≡ 62 → Token 15 2 ≡ sign_item s
  sign_minus a b = sign_first s 45 a refl (simp b)

  pub sign_double : get_or s 0 0 ≡ 61 → get_or s 1 0 ≡ 62 → Token 16 2 ≡ sign_item s
  sign_double a b = sign_first s 61 a refl (simp b)

  pub sign_defines : get_or s 0 0 ≡ 58 → get_or s 1 0 ≡ 61 → Token 17 2 ≡ sign_item s
  sign_defines a b = sign_first s 58 a refl (simp b)

  pub sign_open : get_or s 0 0 ≡ 40 → Token 18 1 ≡ sign_item s
  sign_open a = sign_first s 40 a refl refl

  pub sign_close : get_or s 0 0 ≡ 41 → Token 19 1 ≡ sign_item s
  sign_close a = sign_first s 41 a refl refl

  pub sign_colon : get_or s 0 0 ≡ 58 → get_or s 1 0 ≢ 61 → Token 20 1 ≡ sign_item s
  sign_colon a b = sign_first s 58 a refl (simp (ne_eqb _ _ b))

  pub sign_comma : get_or s 0 0 ≡ 44 → Token 21 1 ≡ sign_item s
  sign_comma a = sign_first s 44 a refl refl

  pub sign_bar : get_or s 0 0 ≡ 124 → Token 22 1 ≡ sign_item s
  sign_bar a = sign_first s 124 a refl refl

  pub sign_equals : get_or s 0 0 ≡ 61 → get_or s 1 0 ≢ 62 → Token 23 1 ≡ sign_item s
  sign_equals a b = sign_first s 61 a refl (simp (ne_eqb _ _ b))

-- Where the first bytes start no sign, → alone stands.
pub sign_else : (a b : ℕ) (t : Bool) → (a ≡ 45 → b ≡ 62 → ⊥) → (a ≡ 61 → ⊥) → (a ≡ 58 → ⊥) → (a ≡ 40 → ⊥) → (a ≡ 41 → ⊥) → (a ≡ 44 → ⊥) → (a ≡ 124 → ⊥) → sign_by a b t ≡ cond t (Token 15 3) (Refused UnexpectedCharacter)
sign_else a b t n0 n1 n2 n3 n4 n5 n6 =
    by_bool (eqb a 45 && eqb b 62)
    (λ e. absurd (n0 (eqb-true a 45 (and_left (eqb a 45) (eqb b 62) e)) (eqb-true b 62 (and_right (eqb a 45) (eqb b 62) e))))
    (λ e. simp (e, ne_eqb _ _ n1, ne_eqb _ _ n2, ne_eqb _ _ n3, ne_eqb _ _ n4, ne_eqb _ _ n5, ne_eqb _ _ n6))

-- The three bytes of →.
arrow_at : (s : List ℕ) → starts_with arrow s ≡ (eqb (get_or s 0 0) 0xE2 && (eqb (get_or s 1 0) 0x86 && eqb (get_or s 2 0) 0x92))
unfolding starts_with
arrow_at [] = refl
arrow_at (c ∷ s) = ap (λ t. eqb c 0xE2 && t) (two_at 0x86 0x92 refl refl s 0)

pub sign_arrow : (s : List ℕ) → get_or s 0 0 ≡ 0xE2 → get_or s 1 0 ≡ 0x86 → get_or s 2 0 ≡ 0x92 → Token 15 3 ≡ sign_item s
sign_arrow s a b c = sym (sign_at s 0 ∙ simp (arrow_at s, a, b, c))

-- Where no sign starts.
pub sign_none : (s : List ℕ) → (get_or s 0 0 ≡ 45 → get_or s 1 0 ≡ 62 → ⊥) → (get_or s 0 0 ≡ 61 → ⊥) → (get_or s 0 0 ≡ 58 → ⊥) → (get_or s 0 0 ≡ 40 → ⊥) → (get_or s 0 0 ≡ 41 → ⊥) → (get_or s 0 0 ≡ 44 → ⊥) → (get_or s 0 0 ≡ 124 → ⊥)
    → (get_or s 0 0 ≡ 0xE2 → get_or s 1 0 ≡ 0x86 → get_or s 2 0 ≡ 0x92 → ⊥) → Refused UnexpectedCharacter ≡ sign_item s
sign_none s n0 n1 n2 n3 n4 n5 n6 n7 =
    let t : starts_with arrow s ≡ false = by_bool (starts_with arrow s)
    (λ e. let x = arrow_at s in let y : (eqb (get_or s 0 0) 0xE2 && (eqb (get_or s 1 0) 0x86 && eqb (get_or s 2 0) 0x92)) ≡ true = sym x ∙ e in
    let z = and_right (eqb (get_or s 0 0) 0xE2) _ y in
    absurd (n7 (eqb-true _ _ (and_left _ _ y)) (eqb-true _ _ (and_left (eqb (get_or s 1 0) 0x86) _ z)) (eqb-true _ _ (and_right (eqb (get_or s 1 0) 0x86) _ z))))
    (λ e. e) in
    sym (sign_at s 0 ∙ sign_else (get_or s 0 0) (get_or s 1 0) (starts_with arrow s) n0 n1 n2 n3 n4 n5 n6 ∙ simp t)

-- What the first bytes of a rest of a line tell of its sign.
pub ruleset sign_told = (get_or_past, sign_minus, sign_double, sign_defines, sign_open, sign_close, sign_colon, sign_comma, sign_bar, sign_equals, sign_arrow, sign_none)

-- The item of a character's class.
pub item_blank : (s : List ℕ) → (character_of s).class ≡ 1 → item_of s ≡ Blank
unfolding item_of
item_blank s e = simp e

pub item_word : (s : List ℕ) → is_word (character_of s).class ≡ true → ((character_of s).class ≡ 1 → ⊥) → item_of s ≡ word_item (word_of s)
unfolding item_of
item_word s e n = simp (ne_eqb _ _ n, e)

pub item_sign : (s : List ℕ) → (character_of s).class ≡ 4 → item_of s ≡ sign_item s
unfolding item_of
item_sign s e = simp e

pub item_none : (s : List ℕ) → ((character_of s).class ≡ 0) ⊎ ((character_of s).class ≡ 5) → item_of s ≡ Refused UnexpectedCharacter
unfolding item_of
item_none s e =
    ⊎_elim
    (λ f. let g : (character_of s).class ≡ 0 = f in simp g)
    (λ f. let g : (character_of s).class ≡ 5 = f in simp g)
    e

-- Letters and digits make words, and are no blanks.
pub lettered : (k : Class) → (k ≡ Letter) ⊎ (k ≡ Digit) → (is_word (class_number k) ≡ true) × (class_number k ≡ 1 → ⊥)
lettered k e =
    ⊎_elim
    (λ f. let g : k ≡ Letter = f in rw g (refl, λ z. omega arith))
    (λ f. let g : k ≡ Digit = f in rw g (refl, λ z. omega arith))
    e

-- What is no blank has no blank's number; and what is neither a blank, nor makes words, nor starts a sign, starts nothing.
pub no_blank : (k : Class) → (k ≡ BlankClass → ⊥) → class_number k ≡ 1 → ⊥
no_blank Stray n e = omega arith
no_blank BlankClass n e = n refl
no_blank Letter n e = omega arith
no_blank Digit n e = omega arith
no_blank Sign n e = omega arith
no_blank Outside n e = omega arith

pub nothing_starts : (k : Class) → (k ≡ BlankClass → ⊥) → is_word (class_number k) ≡ false → (k ≡ Sign → ⊥) → (class_number k ≡ 0) ⊎ (class_number k ≡ 5)
nothing_starts Stray n w s = inl refl
nothing_starts BlankClass n w s = absurd (n refl)
nothing_starts Letter n w s = absurd (let z : ◌≡◌ {A = ℕ} 0 1 = cc in omega arith)
nothing_starts Digit n w s = absurd (let z : ◌≡◌ {A = ℕ} 0 1 = cc in omega arith)
nothing_starts Sign n w s = absurd (s refl)
nothing_starts Outside n w s = inr refl

-- The item of a numeral.
pub fits_some : (v : Option ℕ) (i : Item) → is_some v ≡ true → if_fits v i ≡ i
fits_some (Some v) i e = refl
fits_some None i e = absurd (let z : ◌≡◌ {A = ℕ} 0 1 = cc in omega arith)

pub fits_none : (v : Option ℕ) (i : Item) → is_some v ≡ false → if_fits v i ≡ Refused NumeralTooLarge
fits_none (Some v) i e = absurd (let z : ◌≡◌ {A = ℕ} 0 1 = cc in omega arith)
fits_none None i e = refl

-- A word whose first byte is a, compared with the keywords that start so.
pub keyword_by : (w : List ℕ) (a : ℕ) (f : List ℕ → ℕ) → 0 < length w → get_or w 0 0 ≡ a → ((t : List ℕ) → keyword_of (a ∷ t) ≡ f (a ∷ t)) → f w ≡ keyword_of w
keyword_by [] a f h e k = absurd (omega arith)
keyword_by (c ∷ w) a f h e k = sym (rw e (k w))

-- A first byte that starts no keyword.
pub keyword_none : (w : List ℕ) → 0 < length w → (get_or w 0 0 ≡ 115 → ⊥) → (get_or w 0 0 ≡ 99 → ⊥) → (get_or w 0 0 ≡ 112 → ⊥) → (get_or w 0 0 ≡ 114 → ⊥) → (get_or w 0 0 ≡ 100 → ⊥) → (get_or w 0 0 ≡ 116 → ⊥) → (get_or w 0 0 ≡ 98 → ⊥) → (get_or w 0 0 ≡ 97 → ⊥) → (get_or w 0 0 ≡ 105 → ⊥) → (get_or w 0 0 ≡ 35 → ⊥) → name_kind ≡ keyword_of w
unfolding keywords keyword_of number_among same_bytes
keyword_none [] h n0 n1 n2 n3 n4 n5 n6 n7 n8 n9 = absurd (omega arith)
keyword_none (c ∷ w) h n0 n1 n2 n3 n4 n5 n6 n7 n8 n9 =
    simp (ne_eqb _ _ n0, ne_eqb _ _ n1, ne_eqb _ _ n2, ne_eqb _ _ n3, ne_eqb _ _ n4, ne_eqb _ _ n5, ne_eqb _ _ n6, ne_eqb _ _ n7, ne_eqb _ _ n8, ne_eqb _ _ n9)

-- The word with which s starts.
module _ (s : List ℕ) where
  pub word_fits : length (word_of s) ≤ length s
  unfolding word_of
  word_fits = upto_short (λ l. not (is_word (character_of l).class)) s

  -- Its bytes are the first of s.
  pub word_part : (n : ℕ) → n ≡ length (word_of s) → take n s ≡ word_of s
  unfolding word_of
  word_part n e = rw e (sym (scan_take (λ l. not (is_word (character_of l).class)) s))

  -- It is not empty where the first character is one of words.
  pub word_starts : 0 < length s → is_word (character_of s).class ≡ true → 0 < length (word_of s)
  unfolding word_of
  word_starts h e = let n : length (word_of s) ≡ suc (length (word_of (drop 1 s))) = scan_next (λ l. not (is_word (character_of l).class)) s 0 h (simp e) in omega arith
