-- Laws of UTF-8 and of characters, at a place of a text.
use mathlib.Core.Path.{◌≡◌, refl, sym, ap, ◌∙◌}
use mathlib.Core.Bool.{Bool, true, false, cond, ◌&&◌, ◌||◌}
use mathlib.Core.List.{List, [], ◌∷◌}
use Prim.Native.Nat.{ℕ, zero, suc, ◌+◌, ◌-◌, ◌≤◌, ◌<◌}
use native.Mathlib.Numerals.{add-one}
use native.Mathlib.Nat.{add-zero}
use native.Mathlib.Omega.{arith}
use lib.ListN.{length, get_or, take, drop, replicate, length-drop, length-replicate, drop_of_length-le}
use lib.Seq.{drop-cons, drop-drop}
use lib.Dec.{T, eqb, ltb, eqb→eq}
use borrow.Author.Tests.{eq-eqb, ne_eqb, lt-ltb, le-ltb}
use Rattle.source_text.specs.Bytes.{within, starts_with}
use Rattle.source_text.specs.Utf8.{starting, positive, lead_of, asks, tails_of, character_length, utf8_after}
use Rattle.source_text.specs.Characters.{Classed, class_number, class_numbers, arrow, character_of, outside_after, class_of, classes_from, class_table}
use Rattle.source_text.specs.declared.utf8.Lead.{Lead}
use Rattle.source_text.specs.declared.characters.Class.{Class}
use Rattle.source_text.specs.declared.characters.Class.TheVariants.{Stray, Blank, Letter, Digit, Sign, Outside}
use Rattle.std.specs.Prelude.{Some, None, unwrap_or}
use Rattle.std.specs.Bool.{then_some}
use Rattle.std.specs.List.{list_all}
use Rattle.source_text.proofs.Table.{both, both_left, both_right, every, at}
use Rattle.source_text.specs.ByteLaws.{by_bool, and_right}
use Rattle.source_text.specs.ScanLaws.{starts_short}

-- What a byte of the n bytes from lo on asks, by one test over them all.
unfoldable pub same_lead : Lead → Lead → Bool
same_lead l m = both (eqb l.length m.length) (both (eqb l.low m.low) (eqb l.high m.high))

abbrev pub asks_all : ℕ → Lead → ℕ → ℕ → Bool
asks_all lo l k x = same_lead (lead_of (lo + k)) l

lead_eq : (l m : Lead) → T (same_lead l m) → l ≡ m
unfolding same_lead
lead_eq l m t =
    let rest : T (both (eqb l.low m.low) (eqb l.high m.high)) = both_right (eqb l.length m.length) (both (eqb l.low m.low) (eqb l.high m.high)) t in
    let e : l.length ≡ m.length = eqb→eq _ _ (both_left (eqb l.length m.length) (both (eqb l.low m.low) (eqb l.high m.high)) t) in
    let f : l.low ≡ m.low = eqb→eq _ _ (both_left (eqb l.low m.low) (eqb l.high m.high) rest) in
    let g : l.high ≡ m.high = eqb→eq _ _ (both_right (eqb l.low m.low) (eqb l.high m.high) rest) in
    fields e f g
  where
    fields : {a b c x y z : ℕ} → a ≡ x → b ≡ y → c ≡ z → asks a b c ≡ asks x y z
    fields e f g = cc

abbrev pub zeros : ℕ → List ℕ
zeros n = replicate n 0

pub lead_range : (lo n : ℕ) (l : Lead) → T (every (asks_all lo l) 0 (zeros n)) → (a : ℕ) → lo ≤ a → a < lo + n → lead_of a ≡ l
lead_range lo n l t a h k =
    let e : lo + (a - lo) ≡ a = omega arith in
    let b : a - lo < length (zeros n) = simp length-replicate (omega arith) in
    lead_eq (lead_of a) l (rw e at (at (asks_all lo l) (zeros n) t (a - lo) b))

pub starting_none : (l : Lead) → starting l ≡ None → l.length ≡ 0
starting_none l e = by_bool (eqb l.length 0) (λ z. eqb→eq _ _ (rw z tt)) (λ z. absurd (let f : Some l ≡ None = rw z at e in let y : ◌≡◌ {A = ℕ} 0 1 = cc in omega arith))

pub starting_some : (l m : Lead) → starting l ≡ Some m → (m ≡ l) × (0 < m.length)
starting_some l m e =
    by_bool (eqb l.length 0)
    (λ z. absurd (let f : None ≡ Some m = rw z at e in let y : ◌≡◌ {A = ℕ} 0 1 = cc in omega arith))
    (λ z. let f : Some l ≡ Some m = rw z at e in let g : l ≡ m = cc in let k : l.length ≡ 0 → ⊥ = λ q. (let y : ◌≡◌ {A = ℕ} 0 1 = grind (arith, eq-eqb _ _ q) in omega arith) in (sym g, rw (← g) (omega arith)))

-- Tails.
pub tails_none : (s : List ℕ) (n low high : ℕ) → n ≤ 0 → tails_of n low high s ≡ true
unfolding tails_of
tails_none s n low high h = let e : n ≡ 0 = omega arith in rw e

-- Tails lie within the list.
pub tails_fit : (n low high : ℕ) (s : List ℕ) → tails_of n low high s ≡ true → n ≤ length s
unfolding tails_of
tails_fit zero low high s e = omega arith
tails_fit (suc n) low high [] e = absurd (let z : ◌≡◌ {A = ℕ} 0 1 = cc in omega arith)
tails_fit (suc n) low high (c ∷ s) e = let h : n ≤ length s = tails_fit n 0x80 0xBF s (and_right (within low high c) (tails_of n 0x80 0xBF s) e) in omega arith

-- Tails from 0x80 to 0xBF, one by one; and those whose first is from low to high.
tails_each : (n : ℕ) (s : List ℕ) → n ≤ length s → tails_of n 0x80 0xBF s ≡ list_all (within 0x80 0xBF) (take n s)
unfolding tails_of
tails_each zero s h = refl
tails_each (suc n) [] h = absurd (omega arith)
tails_each (suc n) (c ∷ s) h = ap (λ b. within 0x80 0xBF c && b) (tails_each n s (omega arith))

pub tails_by : (n low high : ℕ) (s : List ℕ) (a : ℕ) (t : List ℕ) → n ≤ length s → take n s ≡ a ∷ t → tails_of n low high s ≡ within low high a && list_all (within 0x80 0xBF) t
unfolding tails_of
tails_by zero low high s a t h e = absurd (let z : ◌≡◌ {A = ℕ} 0 1 = cc in omega arith)
tails_by (suc n) low high [] a t h e = absurd (omega arith)
tails_by (suc n) low high (c ∷ s) a t h e =
    let f : c ≡ a = cc in
    let g : take n s ≡ t = cc in
    ap (λ b. within low high c && b) (tails_each n s (omega arith)) ∙ rw (f, g) refl

pub tails_long : (n low high : ℕ) (s : List ℕ) → length s < n → tails_of n low high s ≡ false
tails_long n low high s h = by_bool (tails_of n low high s) (λ e. absurd (let f : n ≤ length s = tails_fit n low high s e in omega arith)) (λ e. e)

-- A length, if there is one.
pub positive_none : (n : ℕ) → positive n ≡ None → n ≡ 0
positive_none zero e = refl
positive_none (suc n) e = absurd (let y : ◌≡◌ {A = ℕ} 0 1 = cc in omega arith)

pub positive_some : (n m : ℕ) → positive n ≡ Some m → (m ≡ n) × (0 < m)
positive_some zero m e = absurd (let y : ◌≡◌ {A = ℕ} 0 1 = cc in omega arith)
positive_some (suc n) m e = let f : suc n ≡ m = cc in (sym f, omega arith)

pub positive_is : (n m : ℕ) → 0 < m → n ≡ m → Some m ≡ positive n
positive_is n zero h e = absurd (omega arith)
positive_is n (suc m) h e = rw e refl

pub positive_or : (n : ℕ) → unwrap_or (positive n) 0 ≡ n
positive_or zero = refl
positive_or (suc n) = refl

pub positive_if : (t : Bool) (n : ℕ) → 0 < n → then_some t n ≡ positive (cond t n 0)
positive_if true zero h = absurd (omega arith)
positive_if true (suc n) h = refl
positive_if false n h = refl

-- A character at place i of s.
module _ (s : List ℕ) (i : ℕ) where
  pub length_past : length s ≤ i → character_length (drop i s) ≡ 0
  unfolding character_length
  length_past h = simp (drop_of_length-le s h)

  module _ (l : Lead) (h : i < length s) (e : l ≡ lead_of (get_or s i 0)) where
    pub length_none : l.length ≡ 0 → character_length (drop i s) ≡ 0
    unfolding character_length tails_of
    length_none z = simp (drop-cons s i 0 h, ← e, z)

    pub length_at : (t : Bool) → t ≡ tails_of (l.length - 1) l.low l.high (drop (i + 1) s) → character_length (drop i s) ≡ cond t l.length 0
    unfolding character_length
    length_at t g = simp (drop-cons s i 0 h, ← e, g, add-one)

pub length_fits : (s : List ℕ) → character_length s ≤ length s
unfolding character_length
length_fits [] = omega arith
length_fits (a ∷ s) =
    by_bool (tails_of ((lead_of a).length - 1) (lead_of a).low (lead_of a).high s)
    (λ e. let h : (lead_of a).length - 1 ≤ length s = tails_fit ((lead_of a).length - 1) (lead_of a).low (lead_of a).high s e in simp e (omega arith))
    (λ e. simp e (omega arith))

pub length_within : (s : List ℕ) (i m : ℕ) → i < length s → m ≡ character_length (drop i s) → i + m ≤ length s
length_within s i m h e = let k : character_length (drop i s) ≤ length s - i = simp length-drop at (length_fits (drop i s)) in omega arith

-- The rest of a character is passed over.
pub utf8_skip : (s : List ℕ) (k : ℕ) → utf8_after s k ≡ utf8_after (drop k s) 0
unfolding utf8_after
utf8_skip [] zero = refl
utf8_skip [] (suc k) = refl
utf8_skip (c ∷ s) zero = refl
utf8_skip (c ∷ s) (suc k) = utf8_skip s k

-- m bytes after place i, by way of the place after it.
pub past : (s : List ℕ) (i m : ℕ) → 0 < m → drop (m - 1) (drop (suc i) s) ≡ drop (i + m) s
past s i m p = let e : suc i + (m - 1) ≡ i + m = omega arith in drop-drop (m - 1) (suc i) s ∙ ap (λ k. drop k s) e

-- The class table at a code.
classes_at : (n c k : ℕ) → k < n → get_or (classes_from n c) k 0 ≡ class_of (c + k)
unfolding classes_from
classes_at zero c k h = absurd (omega arith)
classes_at (suc n) c zero h = simp add-zero
classes_at (suc n) c (suc k) h = let e : suc c + k ≡ c + suc k = omega arith in classes_at n (suc c) k (omega arith) ∙ ap class_of e

number_at : (classes : List Class) (c : ℕ) (d : Class) → c < length classes → class_number (get_or classes c d) ≡ get_or (class_numbers classes) c 0
unfolding class_numbers
number_at [] c d h = absurd (omega arith)
number_at (k ∷ classes) zero d h = refl
number_at (k ∷ classes) (suc c) d h = number_at classes c d (omega arith)

pub class_at : (classes : List Class) (c : ℕ) (d : Class) → c < length classes → class_numbers classes ≡ class_table → c < 128 → class_number (get_or classes c d) ≡ class_of c
unfolding class_table
class_at classes c d k e h = let z : 0 + c ≡ c = omega arith in number_at classes c d k ∙ ap (λ l. get_or l c 0) e ∙ classes_at 128 0 c h ∙ ap class_of z

-- The character test at place i of s.
pub character_past : (s : List ℕ) (i : ℕ) → length s ≤ i → character_of (drop i s) ≡ record { class = 0; length = 0 }
unfolding character_of
character_past s i h = simp (drop_of_length-le s h)

module _ (s : List ℕ) (i : ℕ) (h : i < length s) where
  pub character_ascii : get_or s i 0 < 128 → character_of (drop i s) ≡ record { class = class_of (get_or s i 0); length = 1 }
  unfolding character_of
  character_ascii p = simp (drop-cons s i 0 h, lt-ltb _ _ p)

  pub character_wide : 128 ≤ get_or s i 0 → character_of (drop i s) ≡ cond (starts_with arrow (drop i s)) (record { class = 4; length = 3 }) (record { class = 5; length = character_length (drop i s) })
  unfolding character_of
  character_wide p = wide (drop i s) (drop (suc i) s) (get_or s i 0) (drop-cons s i 0 h) (le-ltb _ _ p)
    where
      wide : (l t : List ℕ) (c : ℕ) → l ≡ c ∷ t → ltb c 128 ≡ false → character_of l ≡ cond (starts_with arrow l) (record { class = 4; length = 3 }) (record { class = 5; length = character_length l })
      wide l t c e f = rw e (simp f)

pub outside_number : (k : Class) → (k ≡ Outside → ⊥) → class_number k ≡ 5 → ⊥
outside_number Stray n e = omega arith
outside_number Blank n e = omega arith
outside_number Letter n e = omega arith
outside_number Digit n e = omega arith
outside_number Sign n e = omega arith
outside_number Outside n e = n refl

pub outside_skip : (s : List ℕ) (k : ℕ) → outside_after s k ≡ outside_after (drop k s) 0
unfolding outside_after
outside_skip [] zero = refl
outside_skip [] (suc k) = refl
outside_skip (c ∷ s) zero = refl
outside_skip (c ∷ s) (suc k) = outside_skip s k

outside_cons : (l t : List ℕ) (c : ℕ) → l ≡ c ∷ t → outside_after l 0 ≡ (eqb (character_of l).class 5 || outside_after t ((character_of l).length - 1))
unfolding outside_after
outside_cons l t c e = rw e

-- In the domain a character has a length, within the list.
pub inside : (l : List ℕ) → 0 < length l → ((character_of l).class ≡ 5 → ⊥) → (0 < (character_of l).length) × ((character_of l).length ≤ length l)
unfolding character_of
inside [] h n = absurd (omega arith)
inside (c ∷ s) h n =
    by_bool (ltb c 128)
    (λ e. simp e (omega arith, omega arith))
    (λ e. by_bool (starts_with arrow (c ∷ s)) (λ f. simp (e, f) (omega arith, omega (arith, starts_short arrow (c ∷ s) f))) (λ f. absurd (n (simp (e, f)))))

module _ (s : List ℕ) (i : ℕ) (c : Classed) (h : i < length s) (e : c ≡ character_of (drop i s)) where
  pub inside_at : (c.class ≡ 5 → ⊥) → (0 < c.length) × (i + c.length ≤ length s)
  inside_at n =
      let p : 0 < length (drop i s) = simp length-drop (omega arith) in
      let m : (character_of (drop i s)).class ≡ 5 → ⊥ = λ q. n (ap (λ x. x.class) e ∙ q) in
      let k : (0 < (character_of (drop i s)).length) × ((character_of (drop i s)).length ≤ length s - i) = simp length-drop at (inside (drop i s) p m) in
      let f : c.length ≡ (character_of (drop i s)).length = ap (λ x. x.length) e in
      (omega arith, omega arith)

  pub outside_next : (c.class ≡ 5 → ⊥) → 0 < c.length → outside_after (drop i s) 0 ≡ outside_after (drop (i + c.length) s) 0
  outside_next n p = outside_cons (drop i s) (drop (suc i) s) (get_or s i 0) (drop-cons s i 0 h) ∙ simp (← e, ne_eqb _ _ n, outside_skip (drop (suc i) s) (c.length - 1), past s i c.length p)

  pub outside_here : c.class ≡ 5 → outside_after (drop i s) 0 ≡ true
  outside_here n = outside_cons (drop i s) (drop (suc i) s) (get_or s i 0) (drop-cons s i 0 h) ∙ simp (← e, eq-eqb _ _ n)

pub outside_end : (s : List ℕ) (i : ℕ) → length s ≤ i → outside_after (drop i s) 0 ≡ false
unfolding outside_after
outside_end s i h = simp (drop_of_length-le s h)
