-- Laws of prefixes, of equality byte by byte, of `up_to` and of `lines`, at a place of a list.
use mathlib.Core.Path.{◌≡◌, refl, sym, ap, ◌∙◌}
use mathlib.Core.Bool.{Bool, true, false, ◌&&◌, and-true}
use mathlib.Core.List.{List, [], ◌∷◌}
use Prim.Native.Nat.{ℕ, zero, suc, ◌+◌, ◌-◌, ◌≤◌, ◌<◌}
use native.Mathlib.Numerals.{add-one}
use native.Mathlib.Omega.{arith}
use lib.ListN.{length, get_or, take, drop, length-drop, drop_of_length-le}
use lib.Seq.{drop-cons, drop-drop}
use lib.Dec.{eqb}
use borrow.Author.Tests.{eq-eqb, ne_eqb, eqb-true}
use Rattle.std.specs.List.{starts_with as begins}
use Rattle.std.specs.Prelude.{Option, Some, None, MatchOption}
use Rattle.std.specs.Option.{unwrap_or}
use Rattle.std.specs.Cmp.Lexicographic.{pointwise}
use Rattle.source_text.specs.Bytes.{starts_with, same_bytes, up_to}
use Rattle.source_text.specs.ByteLaws.{by_bool}
use Rattle.source_text.specs.ScanLaws.{upto_short}
use Rattle.source_text.specs.Lines.{lines, line_of, code_of, ends_code}
use Rattle.source_text.specs.TakenLines.{LineTaken}
use Rattle.source_text.specs.declared.lines.Code.{Code}
use Rattle.source_text.specs.declared.lines.Lines.{Lines}

-- The library's test of equality.
pub pointwise_same : (v w : List ℕ) → pointwise eqb v w ≡ same_bytes v w
unfolding same_bytes
pointwise_same [] [] = refl
pointwise_same [] (b ∷ w) = refl
pointwise_same (a ∷ v) [] = refl
pointwise_same (a ∷ v) (b ∷ w) = ap (λ r. eqb a b && r) (pointwise_same v w)

-- The library's test of a prefix.
pub prefix_is : (w s : List ℕ) → begins eqb s w ≡ starts_with w s
unfolding starts_with
prefix_is [] s = refl
prefix_is (a ∷ w) [] = refl
prefix_is (a ∷ w) (c ∷ s) = by_bool (eqb a c) (λ e. let f : a ≡ c = eqb-true a c e in rw f (simp (prefix_is w s))) (λ e. simp (e, ne_eqb c a (λ f. let g : eqb a c ≡ true = eq-eqb a c (sym f) in absurd (let z : ◌≡◌ {A = ℕ} 0 1 = cc in omega arith))))

-- `up_to` at place i of s.
module _ (p : List ℕ → Bool) where
  pub scan_take : (s : List ℕ) → up_to p s ≡ take (length (up_to p s)) s
  unfolding up_to
  scan_take [] = refl
  scan_take (c ∷ s) = by_bool (p (c ∷ s)) (λ e. simp e) (λ e. simp e (ap (λ l. c ∷ l) (scan_take s)))

  -- What a scan finds is found from any place before it.
  pub scan_from : (s : List ℕ) (k : ℕ) → k ≤ length (up_to p s) → length (up_to p s) ≡ k + length (up_to p (drop k s))
  unfolding up_to
  scan_from [] zero h = refl
  scan_from [] (suc k) h = absurd (omega arith)
  scan_from (c ∷ s) zero h = omega arith
  scan_from (c ∷ s) (suc k) h =
      by_bool (p (c ∷ s))
      (λ e. absurd (let z : suc k ≤ 0 = simp e at h in omega arith))
      (λ e. let z : suc k ≤ suc (length (up_to p s)) = simp e at h in let g : length (up_to p s) ≡ k + length (up_to p (drop k s)) = scan_from s k (omega arith) in simp e (omega arith))

  module _ (s : List ℕ) (i : ℕ) where
    pub scan_next : i < length s → p (drop i s) ≡ false → length (up_to p (drop i s)) ≡ suc (length (up_to p (drop (i + 1) s)))
    unfolding up_to
    scan_next h e = let d : drop i s ≡ get_or s i 0 ∷ drop (suc i) s = drop-cons s i 0 h in let f : p (get_or s i 0 ∷ drop (suc i) s) ≡ false = rw (← d) e in simp (d, f, add-one)

    pub scan_stop : p (drop i s) ≡ true → length (up_to p (drop i s)) ≡ 0
    unfolding up_to
    scan_stop e = go (drop i s) e
      where
        go : (l : List ℕ) → p l ≡ true → length (up_to p l) ≡ 0
        go [] e = refl
        go (c ∷ l) e = simp e

    pub scan_end : length s ≤ i → length (up_to p (drop i s)) ≡ 0
    unfolding up_to
    scan_end h = simp (drop_of_length-le s h)

  -- Where p holds at none of the n places from i on, a scan goes past them.
  scan_over : (s : List ℕ) (n i : ℕ) → ((k : ℕ) → i ≤ k → k < i + n → p (drop k s) ≡ false) → i + n ≤ length s → length (up_to p (drop i s)) ≡ n + length (up_to p (drop (i + n) s))
  scan_over s zero i h l = let e : i + 0 ≡ i = omega arith in rw e (omega arith)
  scan_over s (suc n) i h l =
      let a = scan_next s i (omega arith) (h i (omega arith) (omega arith)) in
      let b = scan_over s n (i + 1) (λ k f g. h k (omega arith) (omega arith)) (omega arith) in
      let e : i + suc n ≡ i + 1 + n = omega arith in
      rw e (omega arith)

  -- A scan from `at` on ends at the first place where p holds, or where the list ends.
  pub scan_found : (s : List ℕ) (at : ℕ) (r : Option ℕ) → at ≤ length s
      → MatchOption r ((k : ℕ) → at ≤ k → k < length s → p (drop k s) ≡ false)
      (λ i. (at ≤ i) × (i < length s) × (p (drop i s) ≡ true) × ((k : ℕ) → at ≤ k → k < i → p (drop k s) ≡ false))
      → unwrap_or r (length s) ≡ at + length (up_to p (drop at s))
  scan_found s at None l h =
      let e : at + (length s - at) ≡ length s = omega arith in
      let a = scan_over s (length s - at) at (λ k f g. h k f (omega arith)) (omega arith) in
      let b = scan_end s (at + (length s - at)) (omega arith) in
      omega arith
  scan_found s at (Some i) l h =
      let f = h.0 in
      let g = h.1 in
      let e : at + (i - at) ≡ i = omega arith in
      let a = scan_over s (i - at) at (λ k m n. h.3 k m (omega arith)) (omega arith) in
      let b = scan_stop s (at + (i - at)) (rw e h.2) in
      omega arith

-- The first line of a text that is not empty, and the lines after it.
pub lines_step : (s : List ℕ) → 0 < length s → lines s ≡ line_of s ∷ lines (drop (suc (length (line_of s))) s)
unfolding lines line_of up_to starts_with
lines_step [] h = absurd (omega arith)
lines_step (c ∷ []) h = by_bool (eqb c 10) (λ e. simp e) (λ e. simp e)
lines_step (c ∷ (d ∷ s)) h = by_bool (eqb c 10) (λ e. simp e) (λ e. simp (e, lines_step (d ∷ s) (omega arith)))

-- The first line ends at the first line feed.
pub line_ends : (c : ℕ) (s : List ℕ) → c ≡ 10 → length (line_of (c ∷ s)) ≡ 0
unfolding line_of up_to starts_with
line_ends c s e = simp (eq-eqb c 10 e)

pub line_goes_on : (c : ℕ) (s : List ℕ) → (c ≡ 10 → ⊥) → length (line_of (c ∷ s)) ≡ length (line_of s) + 1
unfolding line_of up_to starts_with
line_goes_on c s n = simp (ne_eqb c 10 n, add-one)

-- A line ends at the text's end.
pub line_end_lem : (s : List ℕ) (i : ℕ) → length s ≤ i → length (line_of (drop i s)) ≡ 0
unfolding line_of
line_end_lem s i h = scan_end (starts_with (10 ∷ [])) s i h

-- The code of the first line, read off the text itself.
one_prefix : (s : List ℕ) → starts_with (45 ∷ []) (line_of s) ≡ starts_with (45 ∷ []) s
unfolding line_of up_to starts_with
one_prefix [] = refl
one_prefix (c ∷ s) = by_bool (eqb c 10) (λ e. let f : c ≡ 10 = eqb-true c 10 e in rw f) (λ e. simp e)

pub code_scan : (s : List ℕ) → code_of (line_of s) ≡ up_to ends_code s
unfolding line_of code_of up_to starts_with
code_scan [] = refl
code_scan (c ∷ s) =
    by_bool (eqb c 10)
    (λ e. simp e)
    (λ e. by_bool (eqb c 45 && starts_with (45 ∷ []) s) (λ f. simp (e, one_prefix s, f)) (λ f. simp (e, one_prefix s, f, code_scan s)))

-- Prefixes of one and of two bytes, at place i; no byte sought is 0, so that nothing is found past the end.
pub one_at : (a : ℕ) → eqb 0 a ≡ false → (s : List ℕ) (i : ℕ) → starts_with (a ∷ []) (drop i s) ≡ eqb (get_or s i 0) a
unfolding starts_with
one_at a z [] zero = sym z
one_at a z [] (suc i) = sym z
one_at a z (c ∷ s) zero = and-true (eqb c a)
one_at a z (c ∷ s) (suc i) = one_at a z s i

pub two_at : (a b : ℕ) → eqb 0 a ≡ false → eqb 0 b ≡ false → (s : List ℕ) (i : ℕ) → starts_with (a ∷ b ∷ []) (drop i s) ≡ (eqb (get_or s i 0) a && eqb (get_or s (suc i) 0) b)
unfolding starts_with
two_at a b y z [] zero = simp y
two_at a b y z [] (suc i) = simp y
two_at a b y z (c ∷ s) zero = ap (λ t. eqb c a && t) (one_at b z s 0)
two_at a b y z (c ∷ s) (suc i) = two_at a b y z s i

-- The line that starts at place `at` of a text: c is the end of its code, e its own.
module _ (text : List ℕ) (at c e : ℕ) (h : at < length text) (f : c ≡ at + length (code_of (line_of (drop at text)))) (g : e ≡ c + length (line_of (drop c text))) where
  code_in_line : length (code_of (line_of (drop at text))) ≤ length (line_of (drop at text))
  unfolding code_of
  code_in_line = upto_short (starts_with (45 ∷ 45 ∷ [])) (line_of (drop at text))

  pub line_long : e ≡ at + length (line_of (drop at text))
  unfolding line_of
  line_long =
      let k : length (line_of (drop at text)) ≡ length (code_of (line_of (drop at text))) + length (line_of (drop (length (code_of (line_of (drop at text)))) (drop at text))) = scan_from (starts_with (10 ∷ [])) (drop at text) (length (code_of (line_of (drop at text)))) code_in_line in
      let d : drop (length (code_of (line_of (drop at text)))) (drop at text) ≡ drop c text = drop-drop (length (code_of (line_of (drop at text)))) at text ∙ ap (λ j. drop j text) (sym f) in
      let q : length (line_of (drop (length (code_of (line_of (drop at text)))) (drop at text))) ≡ length (line_of (drop c text)) = ap (λ l. length (line_of l)) d in
      omega arith

  pub line_within : e ≤ length text
  unfolding line_of
  line_within = let k : length (line_of (drop at text)) ≤ length text - at = simp length-drop at (upto_short (starts_with (10 ∷ [])) (drop at text)) in omega (arith, line_long)

  pub code_within : (at ≤ c) × (c ≤ e)
  code_within = (omega arith, omega (arith, line_long, code_in_line))

  pub code_part : take (c - at) (drop at text) ≡ code_of (line_of (drop at text))
  code_part =
      let k : c - at ≡ length (code_of (line_of (drop at text))) = omega arith in
      let q : length (code_of (line_of (drop at text))) ≡ length (up_to ends_code (drop at text)) = ap length (code_scan (drop at text)) in
      ap (λ n. take n (drop at text)) (k ∙ q) ∙ sym (scan_take ends_code (drop at text)) ∙ sym (code_scan (drop at text))

  pub lines_at : lines (drop at text) ≡ line_of (drop at text) ∷ lines (drop (e + 1) text)
  lines_at =
      let p : 0 < length (drop at text) = simp length-drop (omega arith) in
      let k : at + suc (length (line_of (drop at text))) ≡ e + 1 = omega (arith, line_long) in
      lines_step (drop at text) p ∙ ap (λ l. line_of (drop at text) ∷ lines l) (drop-drop (suc (length (line_of (drop at text)))) at text ∙ ap (λ j. drop j text) k)

pub code_fits : (text : List ℕ) (at c : ℕ) → at < length text → c ≡ at + length (code_of (line_of (drop at text))) → (at ≤ c) × (c ≤ length text)
code_fits text at c h f =
    let w : (at ≤ c) × (c ≤ c + length (line_of (drop c text))) = code_within text at c (c + length (line_of (drop c text))) h f refl in
    let k : c + length (line_of (drop c text)) ≤ length text = line_within text at c (c + length (line_of (drop c text))) h f refl in
    (omega arith, omega arith)

-- A line is taken: the lines are it and those after it, and it lies in the text.
module _ (text : List ℕ) (at n : ℕ) (code : Code) (after : Lines) (t : LineTaken text at n code after) where
  pub lines_taken : lines (drop at text) ≡ line_of (drop at text) ∷ lines (drop after.at text)
  lines_taken =
      let h : at < length text = t.inside in
      let p : 0 < length (drop at text) = simp length-drop (omega arith) in
      let k : at + suc (length (line_of (drop at text))) ≡ after.at = omega (arith, t.next) in
      lines_step (drop at text) p ∙ ap (λ l. line_of (drop at text) ∷ lines l) (drop-drop (suc (length (line_of (drop at text)))) at text ∙ ap (λ j. drop j text) k)

  pub taken_within : (at + length code.bytes.now < after.at) × (at + length code.bytes.now ≤ length text) × (after.at ≤ length text + 1)
  unfolding line_of code_of
  taken_within =
      let h : at < length text = t.inside in
      let e : length code.bytes.now ≡ length (code_of (line_of (drop at text))) = ap length t.bytes in
      let c : length (code_of (line_of (drop at text))) ≤ length (line_of (drop at text)) = upto_short (starts_with (45 ∷ 45 ∷ [])) (line_of (drop at text)) in
      let l : length (line_of (drop at text)) ≤ length text - at = simp length-drop at (upto_short (starts_with (10 ∷ [])) (drop at text)) in
      (omega (arith, t.next), omega arith, omega (arith, t.next))
