-- A text that is read to its end has no character outside the domain, so `lex` looks for one only where reading is refused.
use mathlib.Core.Path.{◌≡◌, refl, ◌∙◌}
use mathlib.Core.Bool.{Bool, true, false, cond, ◌&&◌, ◌||◌}
use mathlib.Core.List.{List, [], ◌∷◌}
use Prim.Native.Nat.{ℕ, zero, suc, ◌+◌, ◌-◌, ◌<◌}
use native.Mathlib.Omega.{arith}
use lib.ListN.{length, get_or}
use lib.Dec.{eqb, ltb}
use borrow.Author.Tests.{ne_eqb, eqb-true, ltb-true}
use Rattle.source_text.specs.Bytes.{within, starts_with, up_to, one_of}
use Rattle.source_text.specs.Characters.{arrow, character_of, class_of, has_outside, outside_after}
use Rattle.source_text.specs.Lines.{code_of}
use Rattle.words.specs.Names.{word_item, if_fits}
use Rattle.source_text.specs.Numerals.{all_digits, numeral_of}
use Rattle.words.specs.Signs.{sign_item}
use Rattle.words.specs.Tokens.{Reading, and_then, is_word, word_of, item_of, item_length, read_item, read_after, read_lines, outside_line}
use Rattle.words.specs.Tokens.Reading.{tokens, refused}
use Rattle.std.specs.Prelude.{Option, Some, None}
use Rattle.words.specs.Lexer.{in_domain}
use Rattle.refusals.specs.declared.Refusal.TheVariants.{UnexpectedCharacter, OutsideDomain}
use Rattle.words.specs.Items.Item.{Token, Refused}
use Rattle.source_text.specs.ByteLaws.{by_bool, and_left, and_right}
use Rattle.words.proofs.Items.{sign_at, sign_by, no_arrow}

-- Is a reading no refusal?
abbrev pub accepted : Reading → Bool
accepted (tokens ts) = true
accepted (refused r n) = false

then_accepted : (a b : Reading) → accepted (and_then a b) ≡ true → (accepted a ≡ true) × (accepted b ≡ true)
unfolding and_then
then_accepted (refused r n) b e = absurd (let z : ◌≡◌ {A = ℕ} 0 1 = cc in omega arith)
then_accepted (tokens ts) (refused r n) e = absurd (let z : ◌≡◌ {A = ℕ} 0 1 = cc in omega arith)
then_accepted (tokens ts) (tokens us) e = (refl, refl)

true_false : {P : Type 0} {b : Bool} → b ≡ true → b ≡ false → P
true_false p q = absurd (let z : ◌≡◌ {A = ℕ} 0 1 = cc in omega arith)

-- A character of a class below 4 is ASCII, and no ASCII code is outside the domain.
low_class : (c : ℕ) (s : List ℕ) → (character_of (c ∷ s)).class < 4 → ltb c 128 ≡ true
unfolding character_of
low_class c s h =
    by_bool (ltb c 128) (λ e. e)
    (λ e. by_bool (starts_with arrow (c ∷ s)) (λ f. absurd (let z : 4 < 4 = simp (e, f) at h in omega arith)) (λ f. absurd (let z : 5 < 4 = simp (e, f) at h in omega arith)))

ascii_class : (c : ℕ) → eqb (class_of c) 5 ≡ false
unfolding class_of
ascii_class c = go (within 9 13 c || eqb c 32) (within 48 57 c) (within 65 90 c || (within 97 122 c || one_of (95 ∷ 46 ∷ 39 ∷ 35 ∷ 63 ∷ []) c)) (one_of (40 ∷ 41 ∷ 58 ∷ 44 ∷ 124 ∷ 61 ∷ 45 ∷ []) c)
  where
    go : (p q r t : Bool) → eqb (cond p 1 (cond q 3 (cond r 2 (cond t 4 0)))) 5 ≡ false
    go true q r t = refl
    go false true r t = refl
    go false false true t = refl
    go false false false true = refl
    go false false false false = refl

-- An ASCII code is passed over.
step : (c : ℕ) (s : List ℕ) → ltb c 128 ≡ true → outside_after (c ∷ s) 0 ≡ outside_after s 0
unfolding outside_after character_of
step c s h = simp (h, ascii_class c)

next : (c : ℕ) (s : List ℕ) (k : ℕ) → outside_after s k ≡ outside_after (c ∷ s) (suc k)
unfolding outside_after
next c s k = refl

word_class : (k : ℕ) → is_word k ≡ true → k < 4
word_class k e = by_bool (eqb k 2) (λ f. omega (arith, eqb-true k 2 f)) (λ f. let g : k ≡ 3 = eqb-true k 3 (simp f at e) in omega arith)

-- So is a word.
words : (s : List ℕ) → outside_after s 0 ≡ outside_after s (length (word_of s))
unfolding word_of up_to
words [] = refl
words (c ∷ s) =
    by_bool (is_word (character_of (c ∷ s)).class)
    (λ e. step c s (low_class c s (word_class _ e)) ∙ words s ∙ next c s (length (word_of s)) ∙ simp e)
    (λ e. simp e)

-- So is the second byte of a sign.
one : (d : ℕ) → ltb d 128 ≡ true → (s : List ℕ) → get_or s 0 0 ≡ d → outside_after s 0 ≡ outside_after s 1
unfolding outside_after
one d h [] e = refl
one d h (c ∷ s) e = step c s (rw e h)

-- So is a sign whose first byte is ASCII.
singles : (p q r t u v : Bool) → item_length (cond p (Token 18 1) (cond q (Token 19 1) (cond r (Token 20 1) (cond t (Token 21 1) (cond u (Token 22 1) (cond v (Token 23 1) (Refused UnexpectedCharacter))))))) ≡ 1
singles true q r t u v = refl
singles false true r t u v = refl
singles false false true t u v = refl
singles false false false true u v = refl
singles false false false false true v = refl
singles false false false false false true = refl
singles false false false false false false = refl

ascii_sign : (c : ℕ) (s : List ℕ) → ltb c 128 ≡ true → outside_after s 0 ≡ outside_after s (item_length (sign_item (c ∷ s)) - 1)
ascii_sign c s e =
    let n : c ≡ 0xE2 → ⊥ = λ q. omega (arith, ltb-true c 128 e) in
    let f : sign_item (c ∷ s) ≡ sign_by c (get_or s 0 0) false = sign_at (c ∷ s) 0 ∙ simp (no_arrow (c ∷ s) 0 c refl (ne_eqb c 0xE2 n)) in
    rw f
    (by_bool (eqb c 45 && eqb (get_or s 0 0) 62) (λ g. simp g (one 62 refl s (eqb-true _ _ (and_right (eqb c 45) _ g))))
    (λ g. by_bool (eqb c 61 && eqb (get_or s 0 0) 62) (λ k. simp (g, k) (one 62 refl s (eqb-true _ _ (and_right (eqb c 61) _ k))))
    (λ k. by_bool (eqb c 58 && eqb (get_or s 0 0) 61) (λ m. simp (g, k, m) (one 61 refl s (eqb-true _ _ (and_right (eqb c 58) _ m))))
    (λ m. simp (g, k, m, singles (eqb c 40) (eqb c 41) (eqb c 58) (eqb c 44) (eqb c 124) (eqb c 61))))))

-- → is passed over as one character and as one sign.
arrow_head : (c : ℕ) (s : List ℕ) → starts_with arrow (c ∷ s) ≡ true → c ≡ 0xE2
unfolding starts_with
arrow_head c s f = eqb-true c 0xE2 (and_left (eqb c 0xE2) _ f)

wide_sign : (c : ℕ) (s : List ℕ) → starts_with arrow (c ∷ s) ≡ true → item_length (sign_item (c ∷ s)) ≡ 3
wide_sign c s f =
    let g : sign_item (c ∷ s) ≡ sign_by c (get_or s 0 0) true = sign_at (c ∷ s) 0 ∙ simp f in
    rw (g, arrow_head c s f)

sign_inside : (c : ℕ) (s : List ℕ) → (character_of (c ∷ s)).class ≡ 4 → outside_after s ((character_of (c ∷ s)).length - 1) ≡ outside_after s (item_length (sign_item (c ∷ s)) - 1)
unfolding character_of
sign_inside c s h =
    by_bool (ltb c 128)
    (λ e. simp e (ascii_sign c s e))
    (λ e. by_bool (starts_with arrow (c ∷ s)) (λ f. simp (e, f, wide_sign c s f)) (λ f. absurd (let z : ◌≡◌ {A = ℕ} 5 4 = simp (e, f) at h in omega arith)))

-- What is read has no character outside the domain.
token_length : (w : List ℕ) (p n : ℕ) → accepted (read_item (word_item w) p n) ≡ true → item_length (word_item w) ≡ length w
unfolding word_item
token_length w p n a =
    by_bool (ltb 64 (length w)) (λ e. true_false a (simp e))
    (λ e. by_bool (eqb (get_or w 0 0) 63) (λ f. simp (e, f))
    (λ f. by_bool (all_digits w) (λ g. simp (e, f, g) (fitted (numeral_of w) (simp (e, f, g) at a)))
    (λ g. simp (e, f, g))))
  where
    fitted : (v : Option ℕ) → accepted (read_item (if_fits v (Token 14 (length w))) p n) ≡ true → item_length (if_fits v (Token 14 (length w))) ≡ length w
    fitted (Some v) a = refl
    fitted None a = absurd (let z : ◌≡◌ {A = ℕ} 0 1 = cc in omega arith)

word_cons : (c : ℕ) (s : List ℕ) → is_word (character_of (c ∷ s)).class ≡ true → length (word_of (c ∷ s)) ≡ suc (length (word_of s))
unfolding word_of up_to
word_cons c s e = simp e

sign_step : (c : ℕ) (s : List ℕ) → (character_of (c ∷ s)).class ≡ 4 → outside_after (c ∷ s) 0 ≡ outside_after s ((character_of (c ∷ s)).length - 1)
unfolding outside_after
sign_step c s e = simp e

item_inside : (c : ℕ) (s : List ℕ) (p n : ℕ) → accepted (read_item (item_of (c ∷ s)) p n) ≡ true → outside_after s (item_length (item_of (c ∷ s)) - 1) ≡ false → outside_after (c ∷ s) 0 ≡ false
unfolding item_of
item_inside c s p n a o =
    by_bool (eqb (character_of (c ∷ s)).class 1)
    (λ e. let k : (character_of (c ∷ s)).class < 4 = omega (arith, eqb-true (character_of (c ∷ s)).class 1 e) in step c s (low_class c s k) ∙ simp e at o)
    (λ e. by_bool (is_word (character_of (c ∷ s)).class)
    (λ f. let m : item_length (word_item (word_of (c ∷ s))) ≡ suc (length (word_of s)) = token_length (word_of (c ∷ s)) p n (simp (e, f) at a) ∙ word_cons c s f in let k : item_length (word_item (word_of (c ∷ s))) - 1 ≡ length (word_of s) = omega arith in step c s (low_class c s (word_class _ f)) ∙ words s ∙ simp (e, f, k) at o)
    (λ f. by_bool (eqb (character_of (c ∷ s)).class 4)
    (λ g. let q : (character_of (c ∷ s)).class ≡ 4 = eqb-true _ _ g in sign_step c s q ∙ sign_inside c s q ∙ simp (e, f, g) at o)
    (λ g. true_false a (simp (e, f, g)))))

pub read_inside : (s : List ℕ) (k p n : ℕ) → accepted (read_after s k p n) ≡ true → outside_after s k ≡ false
unfolding read_after outside_after
read_inside [] k p n a = refl
read_inside (c ∷ s) (suc k) p n a = read_inside s k (suc p) n a
read_inside (c ∷ s) zero p n a =
    let w : (accepted (read_item (item_of (c ∷ s)) p n) ≡ true) × (accepted (read_after s (item_length (item_of (c ∷ s)) - 1) (suc p) n) ≡ true) = then_accepted (read_item (item_of (c ∷ s)) p n) (read_after s (item_length (item_of (c ∷ s)) - 1) (suc p) n) a in
    item_inside c s p n w.0 (read_inside s (item_length (item_of (c ∷ s)) - 1) (suc p) n w.1)

pub lines_inside : (ls : List (List ℕ)) (p n k : ℕ) → accepted (read_lines ls p n) ≡ true → outside_line ls k ≡ 0
unfolding read_lines outside_line has_outside
lines_inside [] p n k a = refl
lines_inside (l ∷ ls) p n k a =
    let w : (accepted (read_after (code_of l) 0 p n) ≡ true) × (accepted (read_lines ls (p + length l + 1) (n + 1)) ≡ true) = then_accepted (read_after (code_of l) 0 p n) (read_lines ls (p + length l + 1) (n + 1)) a in
    simp (read_inside (code_of l) 0 p n w.0, lines_inside ls (p + length l + 1) (n + 1) (k + 1) w.1)

pub in_domain_lem : (n : ℕ) (r : Reading) → n ≡ 0 → in_domain n r ≡ r
in_domain_lem n r e = rw e

pub out_of_domain : (n : ℕ) (r : Reading) → (n ≡ 0 → ⊥) → in_domain n r ≡ refused OutsideDomain n
out_of_domain zero r e = absurd (e refl)
out_of_domain (suc n) r e = refl
