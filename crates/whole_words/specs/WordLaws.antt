-- Laws of words, keywords and signs: what stands at the start of a list of bytes.
use Rattle.std.specs.Prelude.{ℕ, zero, suc, ◌+◌, ◌-◌, ◌≤◌, ◌<◌, ◌≡◌, refl, Bool, true, false, not, ◌&&◌, List, [], ◌∷◌, ◌++◌, eqb, leb, ltb, length, get_or, take}
use Rattle.std.proofs.Common.{arith, sym, ap, ◌∙◌, get_or-take, ltb-true, ltb-false, leb-true, eqb-true, ne_eqb}
use Rattle.std.proofs.Math.Bool.{and-false}
use Rattle.std.proofs.lemmas.Bool.{lt-leb, eqb-false, not-true}
use Rattle.terms.specs.Numbers.{by_bool, by_less, true_false}
use Rattle.source_text.specs.Bytes.{one_of, starts_with, same_bytes, up_to}
use Rattle.source_text.specs.ByteLaws.{and_left, and_right, same_is, same_itself}
use Rattle.source_text.specs.ScanLaws.{starts_short}
use Rattle.source_text.specs.Characters.{arrow, class_of, character_of, blank, sign}
use Rattle.words.specs.Names.{numeral_kind, keywords, number_among, keyword_of, if_fits, word_item}
use Rattle.source_text.specs.Numerals.{all_digits, numeral_of}
use Rattle.words.specs.Signs.{Sign, entry, signs, sign_among, sign_item}
use Rattle.words.specs.Tokens.{is_word, word_of, item_of}
use Rattle.std.specs.Prelude.{Option, Some, None}
use Rattle.refusals.specs.declared.Refusal.{Refusal}
use Rattle.refusals.specs.declared.Refusal.TheVariants.{WordTooLong}
use Rattle.words.specs.Items.{Item}
use Rattle.words.specs.Items.Item.{Blank, Token, Refused}
use Rattle.whole_words.specs.Words.{is_word_byte, ReadAs}

-- The bytes of words are those of the lexer's table.

abbrev alike : Bool → Bool → Bool
alike true b = b
alike false b = not b

alike_is : (a b : Bool) → alike a b ≡ true → a ≡ b
alike_is true true e = refl
alike_is true false e = true_false e refl
alike_is false true e = true_false e refl
alike_is false false e = refl

unfoldable all_alike : ℕ → Bool
all_alike zero = true
all_alike (suc c) = alike (is_word (class_of c)) (is_word_byte c) && all_alike c

table : all_alike 128 ≡ true
unfolding all_alike class_of is_word_byte one_of
table = refl

in_table : (n : ℕ) → all_alike n ≡ true → (c : ℕ) → c < n → is_word (class_of c) ≡ is_word_byte c
unfolding all_alike
in_table zero e c l = absurd (omega arith)
in_table (suc n) e c l = by_less c n
    (λ k _. in_table n (and_right (alike (is_word (class_of n)) (is_word_byte n)) (all_alike n) e) c k)
    (λ k _. let q : c ≡ n = omega arith in rw q (alike_is _ _ (and_left (alike (is_word (class_of n)) (is_word_byte n)) (all_alike n) e)))

past_table : (c : ℕ) → 128 ≤ c → is_word_byte c ≡ false
unfolding is_word_byte one_of
past_table c h =
    simp (
      lt-leb c 90 (omega arith),
      lt-leb c 122 (omega arith),
      lt-leb c 57 (omega arith),
      and-false,
      ne_eqb c 95 (λ q. omega arith),
      ne_eqb c 46 (λ q. omega arith),
      ne_eqb c 39 (λ q. omega arith),
      ne_eqb c 35 (λ q. omega arith),
      ne_eqb c 63 (λ q. omega arith),
    )

pub zero_byte : is_word_byte 0 ≡ false
unfolding is_word_byte one_of
zero_byte = refl

pub feed_byte : is_word_byte 10 ≡ false
unfolding is_word_byte one_of
feed_byte = refl

pub dash_byte : is_word_byte 45 ≡ false
unfolding is_word_byte one_of
dash_byte = refl

word_class : (c : ℕ) (s : List ℕ) → is_word (character_of (c ∷ s)).class ≡ is_word_byte c
unfolding character_of
word_class c s =
    by_bool (ltb c 128)
    (λ e. rw e (in_table 128 table c (ltb-true c 128 e)))
    (λ e. rw (e, past_table c (ltb-false c 128 e)) (by_bool (starts_with arrow (c ∷ s)) (λ f. rw f) (λ f. rw f)))

-- The word at the start of a list

word_end : word_of [] ≡ []
unfolding word_of up_to
word_end = refl

word_more : (c : ℕ) (s : List ℕ) → is_word_byte c ≡ true → word_of (c ∷ s) ≡ c ∷ word_of s
unfolding word_of up_to
word_more c s e = let f : is_word (character_of (c ∷ s)).class ≡ true = word_class c s ∙ e in rw f

word_none : (c : ℕ) (s : List ℕ) → is_word_byte c ≡ false → word_of (c ∷ s) ≡ []
unfolding word_of up_to
word_none c s e = let f : is_word (character_of (c ∷ s)).class ≡ false = word_class c s ∙ e in rw f

-- Each of its bytes makes words;
word_inner : (s : List ℕ) (i : ℕ) → i < length (word_of s) → is_word_byte (get_or s i 0) ≡ true
word_inner [] i l = absurd (let z : i < 0 = rw word_end at l in omega arith)
word_inner (c ∷ s) zero l = by_bool (is_word_byte c) (λ e. e) (λ e. absurd (let z : 0 < 0 = rw (word_none c s e) at l in omega arith))
word_inner (c ∷ s) (suc i) l = by_bool (is_word_byte c)
    (λ e. let z : suc i < suc (length (word_of s)) = rw (word_more c s e) at l in word_inner s i (omega arith))
    (λ e. absurd (let z : suc i < 0 = rw (word_none c s e) at l in omega arith))

-- the byte behind it does not, if what stands behind the list does not begin with one that does.
word_stops : (s post : List ℕ) → is_word_byte (get_or post 0 0) ≡ false → is_word_byte (get_or (s ++ post) (length (word_of s)) 0) ≡ false
word_stops [] post h = rw word_end h
word_stops (c ∷ s) post h = by_bool (is_word_byte c) (λ e. rw (word_more c s e) (word_stops s post h)) (λ e. rw (word_none c s e) e)

word_take : (s : List ℕ) → take (length (word_of s)) s ≡ word_of s
word_take [] = rw word_end
word_take (c ∷ s) = by_bool (is_word_byte c) (λ e. rw (word_more c s e) (ap (λ l. c ∷ l) (word_take s))) (λ e. rw (word_none c s e))

word_fits : (s : List ℕ) → length (word_of s) ≤ length s
word_fits [] = rw word_end (omega arith)
word_fits (c ∷ s) =
    by_bool (is_word_byte c) (λ e. rw (word_more c s e) (let h = word_fits s in omega arith)) (λ e. rw (word_none c s e) (omega arith))

word_some : (c : ℕ) (s : List ℕ) → is_word_byte c ≡ true → 1 ≤ length (word_of (c ∷ s))
word_some c s e = rw (word_more c s e) (omega arith)

-- Keywords

-- A number from k on is that of one of the words; the kind of a name is that of none.
number_range : (vs : List (List ℕ)) (k : ℕ) (w : List ℕ) → k + length vs ≤ 12 → (k ≤ number_among vs k w) × (number_among vs k w ≤ 12)
unfolding number_among
number_range [] k w l = (omega arith, omega arith)
number_range (v ∷ vs) k w l = by_bool (same_bytes w v)
    (λ e. rw e (omega arith, omega arith))
    (λ e. rw e (let h = number_range vs (suc k) w (omega arith) in (omega arith, h.1)))

number_word : (vs : List (List ℕ)) (k : ℕ) (w : List ℕ) → k + length vs ≤ 12 → number_among vs k w ≤ 11
    → w ≡ get_or vs (number_among vs k w - k) []
unfolding number_among
number_word [] k w l m = absurd (omega arith)
number_word (v ∷ vs) k w l m = by_bool (same_bytes w v)
    (λ e. let z : k - k ≡ 0 = omega arith in rw (e, z) (same_is w v e))
    (λ e. let m₁ : number_among vs (suc k) w ≤ 11 = rw e at m in
    let h = number_range vs (suc k) w (omega arith) in
    let z : number_among vs (suc k) w - k ≡ suc (number_among vs (suc k) w - suc k) = omega arith in
    rw (e, z) (number_word vs (suc k) w (omega arith) m₁))

number_none : (vs : List (List ℕ)) (k : ℕ) (w : List ℕ) → k + length vs ≤ 12 → number_among vs k w ≡ 12 → (i : ℕ) → i < length vs
    → get_or vs i [] ≡ w → ⊥
unfolding number_among
number_none [] k w l m i b q = omega arith
number_none (v ∷ vs) k w l m zero b q =
    let t : same_bytes w v ≡ true = rw (← q) (same_itself v) in
    let m₁ : k ≡ 12 = rw t at m in
    omega arith
number_none (v ∷ vs) k w l m (suc i) b q = by_bool (same_bytes w v)
    (λ e. let m₁ : k ≡ 12 = rw e at m in omega arith)
    (λ e. number_none vs (suc k) w (omega arith) (rw e at m) i (omega arith) q)

-- What a word is read as

-- P holds of the kind and the length of a token, if the item is one.
abbrev pub Holds : (ℕ → ℕ → Type 0) → Item → Type 0
Holds P Blank = Unit {0}
Holds P (Token kind m) = P kind m
Holds P (Refused r) = Unit {0}

-- What holds of a word's token.
record WordRead (w : List ℕ) (kind m : ℕ) : Type 0 where
  pub whole : m ≡ length w
  pub short : m ≤ 64
  pub low : kind ≤ 14
  pub reads : ReadAs kind w

metavariable_read : (w : List ℕ) → get_or w 0 0 ≡ 63 → ReadAs 13 w
metavariable_read w e =
    record {
      lowest = omega arith;
      highest = omega arith;
      keyword = λ h. absurd (omega arith);
      name = λ h. absurd (omega arith);
      metavariable = λ h. e;
      numeral = λ h. absurd (omega arith);
      sign = λ h. absurd (omega arith);
    }

numeral_read : (w : List ℕ) (v : ℕ) → all_digits w ≡ true → numeral_of w ≡ Some v → ReadAs 14 w
numeral_read w v d e =
    record {
      lowest = omega arith;
      highest = omega arith;
      keyword = λ h. absurd (omega arith);
      name = λ h. absurd (omega arith);
      metavariable = λ h. absurd (omega arith);
      numeral = λ h. (v, d, e);
      sign = λ h. absurd (omega arith);
    }

-- There are eleven keywords.
eleven : 1 + length keywords ≤ 12
unfolding keywords
eleven = omega arith

name_read : (w : List ℕ) → (get_or w 0 0 ≡ 63 → ⊥) → all_digits w ≡ false → (keyword_of w ≤ 14) × ReadAs (keyword_of w) w
unfolding keyword_of
name_read w n d =
    let h = number_range keywords 1 w eleven in (
      omega arith,
      record {
        lowest = h.0;
        highest = omega arith;
        keyword = λ l. number_word keywords 1 w eleven l;
        name = λ e. (number_none keywords 1 w eleven e, n, d);
        metavariable = λ e. absurd (omega arith);
        numeral = λ e. absurd (omega arith);
        sign = λ l. absurd (omega arith);
      },
    )

word_read : (w : List ℕ) → Holds (WordRead w) (word_item w)
unfolding word_item
word_read w =
    by_bool (ltb 64 (length w)) (λ e. rw e tt)
    (λ e. rw e (by_bool (eqb (get_or w 0 0) 63) (λ f. rw f (made 13 e (omega arith) (metavariable_read w (eqb-true (get_or w 0 0) 63 f))))
    (λ f. rw f (by_bool (all_digits w)
    (λ g. rw g (fitted (numeral_of w) e g refl))
    (λ g. rw g (let h = name_read w (eqb-false (get_or w 0 0) 63 f) g in made (keyword_of w) e h.0 h.1))))))
  where
    made : (kind : ℕ) → ltb 64 (length w) ≡ false → kind ≤ 14 → ReadAs kind w → WordRead w kind (length w)
    made kind e l r = record { whole = refl; short = ltb-false 64 (length w) e; low = l; reads = r }

    fitted : (v : Option ℕ) → ltb 64 (length w) ≡ false → all_digits w ≡ true → numeral_of w ≡ v
        → Holds (WordRead w) (if_fits v (Token numeral_kind (length w)))
    fitted (Some v) e g q = made 14 e (omega arith) (numeral_read w v g q)
    fitted None e g q = tt

-- Signs

starts_take : (w s : List ℕ) → starts_with w s ≡ true → take (length w) s ≡ w
unfolding starts_with
starts_take [] s e = refl
starts_take (a ∷ w) [] e = true_false e refl
starts_take (a ∷ w) (c ∷ s) e =
    let p : c ≡ a = eqb-true c a (and_left (eqb c a) (starts_with w s) e) in
    let q : take (length w) s ≡ w = starts_take w s (and_right (eqb c a) (starts_with w s) e) in
    cc

-- A sign has at least one byte, none of its bytes makes words, and its kind is from 15 to 23.
unfoldable none_word : List ℕ → Bool
none_word [] = true
none_word (c ∷ w) = not (is_word_byte c) && none_word w

none_at : (w : List ℕ) → none_word w ≡ true → (i : ℕ) → is_word_byte (get_or w i 0) ≡ false
unfolding none_word
none_at [] e i = zero_byte
none_at (c ∷ w) e zero = not-true (is_word_byte c) (and_left (not (is_word_byte c)) (none_word w) e)
none_at (c ∷ w) e (suc i) = none_at w (and_right (not (is_word_byte c)) (none_word w) e) i

abbrev plain : Sign → Bool
plain x = leb 1 (length x.written) && (none_word x.written && (leb 15 x.kind && leb x.kind 23))

unfoldable all_plain : List Sign → Bool
all_plain [] = true
all_plain (x ∷ xs) = plain x && all_plain xs

plain_signs : all_plain signs ≡ true
unfolding all_plain none_word signs is_word_byte one_of
plain_signs = refl

-- One of these signs is of this kind and written w.
record Among (xs : List Sign) (kind : ℕ) (w : List ℕ) : Type 0 where
  pub number : ℕ
  pub listed : number < length xs
  pub kinded : (get_or xs number (entry 0 [])).kind ≡ kind
  pub written : (get_or xs number (entry 0 [])).written ≡ w

-- What holds of a sign's token, where s starts with the sign.
record SignRead (xs : List Sign) (s : List ℕ) (kind m : ℕ) : Type 0 where
  pub some : 1 ≤ m
  pub inside : m ≤ length s
  pub low : 15 ≤ kind
  pub high : kind ≤ 23
  pub outer : (i : ℕ) → is_word_byte (get_or (take m s) i 0) ≡ false
  pub among : Among xs kind (take m s)

sign_more : (x : Sign) (xs : List Sign) (s : List ℕ) (o : Item) → Holds (SignRead xs s) o → Holds (SignRead (x ∷ xs) s) o
sign_more x xs s Blank h = tt
sign_more x xs s (Token kind m) h =
    record {
      some = h.some;
      inside = h.inside;
      low = h.low;
      high = h.high;
      outer = h.outer;
      among = record { number = suc h.among.number; listed = (let l = h.among.listed in omega arith); kinded = h.among.kinded; written = h.among.written };
    }
sign_more x xs s (Refused r) h = tt

sign_first : (x : Sign) (xs : List Sign) (s : List ℕ) → plain x ≡ true → starts_with x.written s ≡ true
    → SignRead (x ∷ xs) s x.kind (length x.written)
sign_first x xs s p e =
    let a : leb 1 (length x.written) ≡ true = and_left _ _ p in
    let b : (none_word x.written && (leb 15 x.kind && leb x.kind 23)) ≡ true = and_right (leb 1 (length x.written)) _ p in
    let c : (leb 15 x.kind && leb x.kind 23) ≡ true = and_right (none_word x.written) _ b in
    let t : take (length x.written) s ≡ x.written = starts_take x.written s e in
    record {
      some = leb-true 1 (length x.written) a;
      inside = starts_short x.written s e;
      low = leb-true 15 x.kind (and_left _ _ c);
      high = leb-true x.kind 23 (and_right (leb 15 x.kind) _ c);
      outer = λ i. rw t (none_at x.written (and_left _ _ b) i);
      among = record { number = 0; listed = omega arith; kinded = refl; written = sym t };
    }

sign_among_lem : (xs : List Sign) (s : List ℕ) → all_plain xs ≡ true → Holds (SignRead xs s) (sign_among xs s)
unfolding sign_among all_plain
sign_among_lem [] s p = tt
sign_among_lem (x ∷ xs) s p = by_bool (starts_with x.written s)
    (λ e. rw e (sign_first x xs s (and_left (plain x) (all_plain xs) p) e))
    (λ e. rw e (sign_more x xs s (sign_among xs s) (sign_among_lem xs s (and_right (plain x) (all_plain xs) p))))

-- Items

-- What holds of a token of this kind and with m bytes at the start of s, where `post` stands behind s.
pub record Fit (s post : List ℕ) (kind m : ℕ) : Type 0 where
  pub some : 1 ≤ m
  pub inside : m ≤ length s
  pub reads : ReadAs kind (take m s)
  -- A word has at most 64 bytes, all of which make words, and the byte behind it does not.
  pub short : kind ≤ 14 → m ≤ 64
  pub inner : kind ≤ 14 → (i : ℕ) → i < m → is_word_byte (get_or s i 0) ≡ true
  pub stops : kind ≤ 14 → is_word_byte (get_or (s ++ post) m 0) ≡ false
  -- No byte of a sign does.
  pub outer : 15 ≤ kind → (i : ℕ) → i < m → is_word_byte (get_or s i 0) ≡ false

abbrev pub Good : List ℕ → List ℕ → Item → Type 0
Good s post Blank = is_word_byte (get_or s 0 0) ≡ false
Good s post (Token kind m) = Fit s post kind m
Good s post (Refused r) = Unit {0}

good_word : (c : ℕ) (s post : List ℕ) → is_word_byte c ≡ true → is_word_byte (get_or post 0 0) ≡ false → (o : Item) → (o ≡ Blank → ⊥)
    → Holds (WordRead (word_of (c ∷ s))) o → Good (c ∷ s) post o
good_word c s post e p Blank n h = absurd (n refl)
good_word c s post e p (Token kind m) n h =
    let q : m ≡ length (word_of (c ∷ s)) = h.whole in
    let t : take m (c ∷ s) ≡ word_of (c ∷ s) = ap (λ j. take j (c ∷ s)) q ∙ word_take (c ∷ s) in
    let f = word_fits (c ∷ s) in
    let g = word_some c s e in
    let l = h.low in
    record {
      some = omega arith;
      inside = omega arith;
      reads = rw t h.reads;
      short = λ k. h.short;
      inner = λ k i b. word_inner (c ∷ s) i (omega arith);
      stops = λ k. ap (λ j. is_word_byte (get_or ((c ∷ s) ++ post) j 0)) q ∙ word_stops (c ∷ s) post p;
      outer = λ k. absurd (omega arith);
    }
good_word c s post e p (Refused r) n h = tt

sign_read : (kind : ℕ) (w : List ℕ) → 15 ≤ kind → kind ≤ 23 → Among signs kind w → ReadAs kind w
sign_read kind w l u a =
    record {
      lowest = omega arith;
      highest = u;
      keyword = λ h. absurd (omega arith);
      name = λ h. absurd (omega arith);
      metavariable = λ h. absurd (omega arith);
      numeral = λ h. absurd (omega arith);
      sign = λ h. record { number = a.number; listed = a.listed; kinded = a.kinded; written = a.written };
    }

good_sign : (s post : List ℕ) (o : Item) → (o ≡ Blank → ⊥) → Holds (SignRead signs s) o → Good s post o
good_sign s post Blank n h = absurd (n refl)
good_sign s post (Token kind m) n h =
    let l = h.low in
    let k = h.some in
    record {
      some = k;
      inside = h.inside;
      reads = sign_read kind (take m s) l h.high h.among;
      short = λ b. absurd (omega arith);
      inner = λ b. absurd (omega arith);
      stops = λ b. absurd (omega arith);
      outer = λ b i c. ap is_word_byte (sym (get_or-take m s i 0 c)) ∙ h.outer i;
    }
good_sign s post (Refused r) n h = tt

-- No word and no sign is blank.
word_token : (w : List ℕ) → word_item w ≡ Blank → ⊥
unfolding word_item
word_token w q =
    by_bool (ltb 64 (length w)) (λ e. let z : Refused WordTooLong ≡ Blank = rw e at q in never z)
    (λ e. by_bool (eqb (get_or w 0 0) 63) (λ f. let z : Token 13 (length w) ≡ Blank = rw (e, f) at q in never_token z)
    (λ f. by_bool (all_digits w) (λ g. fitted (numeral_of w) (rw (e, f, g) at q)) (λ g. let z : Token (keyword_of w) (length w) ≡ Blank = rw (e, f, g) at q in never_token z)))
  where
    never : {r : Refusal} → Refused r ≡ Blank → ⊥
    never z = let y : ◌≡◌ {A = ℕ} 0 1 = cc in omega arith

    never_token : {k m : ℕ} → Token k m ≡ Blank → ⊥
    never_token z = let y : ◌≡◌ {A = ℕ} 0 1 = cc in omega arith

    fitted : (v : Option ℕ) → if_fits v (Token numeral_kind (length w)) ≡ Blank → ⊥
    fitted (Some v) z = never_token z
    fitted None z = never z

sign_token : (xs : List Sign) (s : List ℕ) → sign_among xs s ≡ Blank → ⊥
unfolding sign_among
sign_token [] s q = let y : ◌≡◌ {A = ℕ} 0 1 = cc in omega arith
sign_token (x ∷ xs) s q = by_bool (starts_with x.written s)
    (λ e. let z : Token x.kind (length x.written) ≡ Blank = rw e at q in let y : ◌≡◌ {A = ℕ} 0 1 = cc in omega arith)
    (λ e. sign_token xs s (rw e at q))

-- What stands at the start of a list that is not empty.
pub item_good : (c : ℕ) (s post : List ℕ) → is_word_byte (get_or post 0 0) ≡ false → Good (c ∷ s) post (item_of (c ∷ s))
unfolding item_of sign_item
item_good c s post p =
    by_bool (eqb (character_of (c ∷ s)).class blank)
    (λ e. rw e (sym (word_class c s) ∙ blank_class (character_of (c ∷ s)).class (eqb-true _ _ e)))
    (λ e. rw e (by_bool (is_word (character_of (c ∷ s)).class)
    (λ f. rw f (good_word c s post (sym (word_class c s) ∙ f) p (word_item (word_of (c ∷ s))) (word_token (word_of (c ∷ s))) (word_read (word_of (c ∷ s)))))
    (λ f. rw f (by_bool (eqb (character_of (c ∷ s)).class sign)
    (λ g. rw g (good_sign (c ∷ s) post (sign_among signs (c ∷ s)) (sign_token signs (c ∷ s)) (sign_among_lem signs (c ∷ s) plain_signs)))
    (λ g. rw g tt)))))
  where
    blank_class : (k : ℕ) → k ≡ 1 → is_word k ≡ false
    blank_class k q = rw q
