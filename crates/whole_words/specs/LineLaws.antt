-- Laws of lines: where a line of a text stands, which of its bytes are code, and which are in a comment.
use Prim.Native.Nat.{ℕ, zero, suc, ◌+◌, ◌-◌, ◌≤◌, ◌<◌}
use native.Mathlib.Omega.{arith}
use Rattle.std.specs.Prelude.{◌≡◌, refl, Bool, false, ◌&&◌, eqb}
use Rattle.std.proofs.Math.Path.{sym, ap}
use Rattle.std.proofs.Common.{◌∙◌, get_or-append-add, eqb-true}
use Rattle.std.proofs.Math.Bool.{true}
use mathlib.Core.List.{List, [], ◌∷◌, ◌++◌, append_assoc}
use Rattle.std.proofs.Math.ListN.{length, get_or, drop, length-append, length-drop, get_or-append}
use Rattle.std.proofs.Math.Seq.{get_or-drop}
use Rattle.terms.specs.Numbers.{by_bool, by_less, true_false}
use Rattle.source_text.specs.Bytes.{starts_with, up_to}
use Rattle.source_text.specs.ByteLaws.{and_left, and_right}
use Rattle.source_text.specs.Lines.{lines, line_of, code_of}
use Rattle.whole_words.specs.Words.{is_word_byte, InComment}
use Rattle.whole_words.specs.WordLaws.{zero_byte, feed_byte, dash_byte}

-- Places

-- Not both the byte before the place q and the byte at q make words.
abbrev pub Seam : List ℕ → ℕ → Type 0
Seam text q = (i : ℕ) → i + 1 ≡ q → is_word_byte (get_or text i 0) ≡ true → is_word_byte (get_or text q 0) ≡ false

-- What does not begin with a byte that makes words.
abbrev pub Plain : List ℕ → Type 0
Plain r = is_word_byte (get_or r 0 0) ≡ false

-- A line begins at p: the byte before it, if there is one, is a line feed.
abbrev pub Begins : List ℕ → ℕ → Type 0
Begins text p = (i : ℕ) → i + 1 ≡ p → i < length text → get_or text i 0 ≡ 10

-- No place from `low` on and before `high` is in a comment.
abbrev pub Outside : List ℕ → ℕ → ℕ → Type 0
Outside text low high = (i : ℕ) → low ≤ i → i < high → InComment text i → ⊥

pub byte_at : (text r : List ℕ) (p i : ℕ) → drop p text ≡ r → get_or text (p + i) 0 ≡ get_or r i 0
byte_at text r p i h = sym (get_or-drop p text i 0) ∙ ap (λ l. get_or l i 0) h

-- Where s stands at the place p, and post behind it.
pub byte_in : (text s post : List ℕ) (p : ℕ) → drop p text ≡ s ++ post → (i : ℕ) → i < length s → get_or text (p + i) 0 ≡ get_or s i 0
byte_in text s post p h i l = byte_at text (s ++ post) p i h ∙ get_or-append s post 0 i l

-- Scanning for what q tells

-- A list is what stands before the place that a scan finds, and what stands from there on.
upto_split : (q : List ℕ → Bool) (s : List ℕ) → s ≡ up_to q s ++ drop (length (up_to q s)) s
unfolding up_to
upto_split q [] = refl
upto_split q (c ∷ s) = by_bool (q (c ∷ s)) (λ e. rw e refl) (λ e. rw e (ap (λ l. c ∷ l) (upto_split q s)))

-- Before that place q holds nowhere;
upto_not : (q : List ℕ → Bool) (s : List ℕ) (i : ℕ) → i < length (up_to q s) → q (drop i s) ≡ false
unfolding up_to
upto_not q [] i l = absurd (omega arith)
upto_not q (c ∷ s) zero l = by_bool (q (c ∷ s)) (λ e. absurd (let z : 0 < 0 = rw e at l in omega arith)) (λ e. e)
upto_not q (c ∷ s) (suc i) l = by_bool (q (c ∷ s))
    (λ e. absurd (let z : suc i < 0 = rw e at l in omega arith))
    (λ e. let z : suc i < suc (length (up_to q s)) = rw e at l in upto_not q s i (omega arith))

-- there it holds, unless the list ends.
upto_found : (q : List ℕ → Bool) (s : List ℕ) → length (up_to q s) < length s → q (drop (length (up_to q s)) s) ≡ true
unfolding up_to
upto_found q [] l = absurd (omega arith)
upto_found q (c ∷ s) l = by_bool (q (c ∷ s))
    (λ e. rw e e)
    (λ e. let z : suc (length (up_to q s)) < suc (length s) = rw e at l in rw e (upto_found q s (omega arith)))

-- What begins there begins with a, or is empty.
upto_first : (P : ℕ → Type 0) (a : ℕ) (w : List ℕ) → P 0 → P a → (s : List ℕ) → P (get_or (drop (length (up_to (starts_with (a ∷ w)) s)) s) 0 0)
unfolding up_to starts_with
upto_first P a w z h [] = z
upto_first P a w z h (c ∷ s) = by_bool (eqb c a && starts_with w s)
    (λ e. rw e (rw (eqb-true c a (and_left (eqb c a) (starts_with w s) e)) h))
    (λ e. rw e (upto_first P a w z h s))

-- Line feeds and dashes

feed_starts : (r : List ℕ) → starts_with (10 ∷ []) r ≡ true → get_or r 0 0 ≡ 10
unfolding starts_with
feed_starts [] e = true_false e refl
feed_starts (a ∷ r) e = eqb-true a 10 (and_left (eqb a 10) true e)

starts_feed : (r : List ℕ) → get_or r 0 0 ≡ 10 → starts_with (10 ∷ []) r ≡ true
unfolding starts_with
starts_feed [] e = absurd (omega arith)
starts_feed (a ∷ r) e = rw e

dashes_start : (r : List ℕ) → starts_with (45 ∷ 45 ∷ []) r ≡ true → (2 ≤ length r) × (get_or r 0 0 ≡ 45) × (get_or r 1 0 ≡ 45)
unfolding starts_with
dashes_start [] e = true_false e refl
dashes_start (a ∷ []) e = true_false (and_right (eqb a 45) false e) refl
dashes_start (a ∷ b ∷ r) e =
    let f : (eqb b 45 && true) ≡ true = and_right (eqb a 45) (eqb b 45 && true) e in
    (omega arith, eqb-true a 45 (and_left (eqb a 45) (eqb b 45 && true) e), eqb-true b 45 (and_left (eqb b 45) true f))

starts_dashes : (r : List ℕ) → get_or r 0 0 ≡ 45 → get_or r 1 0 ≡ 45 → starts_with (45 ∷ 45 ∷ []) r ≡ true
unfolding starts_with
starts_dashes [] e f = absurd (omega arith)
starts_dashes (a ∷ []) e f = absurd (omega arith)
starts_dashes (a ∷ b ∷ r) e f = rw (e, f)

-- The lines of a text

lines_step : (c : ℕ) (s : List ℕ) → lines (c ∷ s) ≡ line_of (c ∷ s) ∷ lines (drop (suc (length (line_of (c ∷ s)))) (c ∷ s))
unfolding lines line_of up_to starts_with
lines_step c [] = by_bool (eqb c 10) (λ e. simp e) (λ e. simp e)
lines_step c (d ∷ s) = by_bool (eqb c 10) (λ e. simp e) (λ e. simp (e, lines_step d s))

-- The first line is that of the text, and the others are the lines behind it.
pub lines_first : (d x : List ℕ) (ls : List (List ℕ)) → lines d ≡ x ∷ ls
    → (x ≡ line_of d) × (ls ≡ lines (drop (suc (length x)) d)) × (1 ≤ length d)
unfolding lines
lines_first [] x ls e = absurd (let z : ◌≡◌ {A = ℕ} 0 1 = cc in omega arith)
lines_first (c ∷ d) x ls e =
    let f : line_of (c ∷ d) ∷ lines (drop (suc (length (line_of (c ∷ d)))) (c ∷ d)) ≡ x ∷ ls = sym (lines_step c d) ∙ e in
    let a : x ≡ line_of (c ∷ d) = cc in
    let b : ls ≡ lines (drop (suc (length (line_of (c ∷ d)))) (c ∷ d)) = cc in
    (a, b ∙ ap (λ l. lines (drop (suc (length l)) (c ∷ d))) (sym a), omega arith)

-- A text without lines is empty.
pub lines_none : (d : List ℕ) → lines d ≡ [] → length d ≡ 0
lines_none [] e = refl
lines_none (c ∷ d) e =
    absurd (let f : line_of (c ∷ d) ∷ lines (drop (suc (length (line_of (c ∷ d)))) (c ∷ d)) ≡ [] = sym (lines_step c d) ∙ e in
    let z : ◌≡◌ {A = ℕ} 0 1 = cc in omega arith)

-- A line x at the place p
module _ (text : List ℕ) (p : ℕ) (x : List ℕ) (is : x ≡ line_of (drop p text)) where
  pub line_rest : List ℕ
  line_rest = drop (length (line_of (drop p text))) (drop p text)

  pub comment : List ℕ
  comment = drop (length (code_of x)) x

  line_split : drop p text ≡ x ++ line_rest
  unfolding line_of line_rest
  line_split = rw is (upto_split (starts_with (10 ∷ [])) (drop p text))

  -- Its length, and that of its code.
  pub line_fits : length text - p ≡ length x + length line_rest
  line_fits =
      let a : length (drop p text) ≡ length text - p = length-drop p text in
      let b : length (drop p text) ≡ length (x ++ line_rest) = ap length line_split in
      let c : length (x ++ line_rest) ≡ length x + length line_rest = length-append x line_rest in
      omega arith

  pub code_fits : length (code_of x) ≤ length x
  unfolding code_of
  code_fits =
      let a : length x ≡ length (code_of x ++ drop (length (code_of x)) x) = ap length (upto_split (starts_with (45 ∷ 45 ∷ [])) x) in
      let b = length-append (code_of x) (drop (length (code_of x)) x) in
      omega arith

  in_line : (i : ℕ) → i < length x → get_or text (p + i) 0 ≡ get_or x i 0
  in_line i l = byte_in text x line_rest p line_split i l

  -- The byte behind it.
  behind_line : get_or text (p + length x) 0 ≡ get_or line_rest 0 0
  behind_line =
      let z : p + length x ≡ p + (length x + 0) = omega arith in
      ap (λ j. get_or text j 0) z ∙ byte_at text (x ++ line_rest) p (length x + 0) line_split ∙ get_or-append-add x line_rest 0 0

  rest_first : (P : ℕ → Type 0) → P 0 → P 10 → P (get_or line_rest 0 0)
  unfolding line_of line_rest
  rest_first P z h = upto_first P 10 [] z h (drop p text)

  -- It makes no words,
  pub end_plain : is_word_byte (get_or text (p + length x) 0) ≡ false
  end_plain = rw behind_line (rest_first (λ c. is_word_byte c ≡ false) zero_byte feed_byte)

  -- and the next line begins behind it.
  pub line_begins : Begins text (p + length x + 1)
  unfolding line_of line_rest
  line_begins i q l =
      let f = line_fits in
      let z : i ≡ p + length x = omega arith in
      let n : length (line_of (drop p text)) ≡ length x = ap length (sym is) in
      let d : length (drop p text) ≡ length text - p = length-drop p text in
      let found : starts_with (10 ∷ []) line_rest ≡ true = upto_found (starts_with (10 ∷ [])) (drop p text) (omega arith) in
      ap (λ j. get_or text j 0) z ∙ behind_line ∙ feed_starts line_rest found

  pub line_seam : Seam text (p + length x + 1)
  line_seam i q t = let y : i ≡ p + length x = omega arith in true_false t (rw y end_plain)

  -- The code, and what stands behind it.
  pub code_split : drop p text ≡ code_of x ++ (comment ++ line_rest)
  unfolding code_of comment
  code_split = line_split ∙ ap (λ l. l ++ line_rest) (upto_split (starts_with (45 ∷ 45 ∷ [])) x) ∙ append_assoc (code_of x) comment line_rest

  pub comment_plain : Plain (comment ++ line_rest)
  unfolding code_of comment
  comment_plain = go comment (upto_first (λ c. is_word_byte c ≡ false) 45 (45 ∷ []) zero_byte dash_byte x)
    where
      go : (r : List ℕ) → Plain r → Plain (r ++ line_rest)
      go [] h = rest_first (λ c. is_word_byte c ≡ false) zero_byte feed_byte
      go (c ∷ r) h = h

  -- A line has no line feed.
  no_feed : (i : ℕ) → i < length x → get_or x i 0 ≡ 10 → ⊥
  unfolding line_of
  no_feed i l e =
      let m : i < length (up_to (starts_with (10 ∷ [])) (drop p text)) = rw is at l in
      let z : i + 0 ≡ i = omega arith in
      let f : get_or text (p + i) 0 ≡ 10 = in_line i l ∙ e in
      let g : get_or (drop i (drop p text)) 0 0 ≡ 10 = get_or-drop i (drop p text) 0 0 ∙ ap (λ j. get_or (drop p text) j 0) z ∙ get_or-drop p text i 0 ∙ f in
      true_false (starts_feed (drop i (drop p text)) g) (upto_not (starts_with (10 ∷ [])) (drop p text) i m)

  -- What stands behind its code is in a comment.
  pub comment_place : (i : ℕ) → p + length (code_of x) ≤ i → i < p + length x → InComment text i
  unfolding code_of
  comment_place i l m =
      let n : ℕ = length (code_of x) in
      let found : starts_with (45 ∷ 45 ∷ []) (drop n x) ≡ true = upto_found (starts_with (45 ∷ 45 ∷ [])) x (omega arith) in
      let d = dashes_start (drop n x) found in
      let k : length (drop n x) ≡ length x - n = length-drop n x in
      let a : get_or (drop n x) 0 0 ≡ get_or x (n + 0) 0 = get_or-drop n x 0 0 in
      let b : get_or (drop n x) 1 0 ≡ get_or x (n + 1) 0 = get_or-drop n x 1 0 in
      let u = d.0 in
      let y : p + n + 1 ≡ p + (n + 1) = omega arith in
      let z : p + n ≡ p + (n + 0) = omega arith in
      record {
        from = p + n;
        earlier = l;
        dash = ap (λ j. get_or text j 0) z ∙ in_line (n + 0) (omega arith) ∙ sym a ∙ d.1;
        dash₂ = ap (λ j. get_or text j 0) y ∙ in_line (n + 1) (omega arith) ∙ sym b ∙ d.2;
        line = λ j v w e. (
            let t : j ≡ p + (j - p) = omega arith in
            no_feed (j - p) (omega arith) (sym (in_line (j - p) (omega arith)) ∙ ap (λ q. get_or text q 0) (sym t) ∙ e)
            );
      }

  -- Two dashes do not begin in its code.
  no_dashes : (k : ℕ) → k < length (code_of x) → get_or text (p + k) 0 ≡ 45 → get_or text (p + k + 1) 0 ≡ 45 → ⊥
  unfolding code_of
  no_dashes k l e f =
      let fits = code_fits in
      let z : p + k + 1 ≡ p + (k + 1) = omega arith in
      by_less (k + 1) (length x)
      (λ m _. (let y : k + 0 ≡ k = omega arith in
      let a : get_or (drop k x) 0 0 ≡ 45 = get_or-drop k x 0 0 ∙ ap (λ j. get_or x j 0) y ∙ sym (in_line k (omega arith)) ∙ e in
      let b : get_or (drop k x) 1 0 ≡ 45 = get_or-drop k x 1 0 ∙ sym (in_line (k + 1) m) ∙ ap (λ j. get_or text j 0) (sym z) ∙ f in
      true_false (starts_dashes (drop k x) a b) (upto_not (starts_with (45 ∷ 45 ∷ [])) x k l)))
      (λ m _. (let y : p + length x ≡ p + k + 1 = omega arith in
      rest_first (λ c. c ≡ 45 → ⊥) (λ q. omega arith) (λ q. omega arith) (sym behind_line ∙ ap (λ j. get_or text j 0) y ∙ f)))

  -- So none of its code is in a comment.
  pub code_outside : Begins text p → Outside text p (p + length (code_of x))
  code_outside b i l m h =
      let fits = code_fits in
      let lies = line_fits in
      let early = h.earlier in
      by_less h.from p
      (λ k _. h.line (p - 1) (omega arith) (omega arith) (b (p - 1) (omega arith) (omega arith)))
      (λ k _. (let t : h.from ≡ p + (h.from - p) = omega arith in
      let u : h.from + 1 ≡ p + (h.from - p) + 1 = omega arith in
      no_dashes (h.from - p) (omega arith) (ap (λ j. get_or text j 0) (sym t) ∙ h.dash) (ap (λ j. get_or text j 0) (sym u) ∙ h.dash₂)))
