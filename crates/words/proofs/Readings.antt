-- Laws of readings: of one after another, of a line from a place on, and of a text from a line on.
use mathlib.Core.Path.{◌≡◌, refl, sym, ap, subst, ◌∙◌}
use mathlib.Core.Bool.{Bool, true, false, cond, ◌&&◌}
use mathlib.Core.List.{List, [], ◌∷◌, ◌++◌, append_assoc, append-nil}
use Prim.Native.Nat.{ℕ, zero, suc, ◌+◌, ◌-◌, ◌≤◌, ◌<◌}
use native.Mathlib.Numerals.{add-one}
use native.Mathlib.Nat.{add-zero}
use native.Mathlib.Omega.{arith}
use lib.ListN.{length, get_or, take, drop, set, replicate, length-drop, drop_of_length-le}
use lib.Seq.{drop-cons, take-suc-set, length-take-le}
use lib.Dec.{eqb, ltb}
use Rattle.std.proofs.Common.{length-append}
use Rattle.std.proofs.Math.Seq.{take-append-add}
use Rattle.std.proofs.lemmas.List.{take_all}
use borrow.Author.Tests.{ltb-true}
use Rattle.source_text.specs.Bytes.{starts_with}
use Rattle.source_text.specs.Characters.{character_of, has_outside}
use Rattle.source_text.specs.Lines.{lines, line_of, code_of}
use Rattle.source_text.specs.Utf8.{positive}
use Rattle.source_text.specs.TakenLines.{LineTaken, GivesLine}
use Rattle.source_text.specs.declared.lines.Code.{Code}
use Rattle.source_text.specs.declared.lines.Lines.{Lines}
use Rattle.words.specs.Names.{word_item, if_fits}
use Rattle.source_text.specs.Numerals.{all_digits, numeral_of}
use Rattle.words.specs.Signs.{Sign, signs, sign_among, sign_item}
use Rattle.words.specs.Tokens.{Reading, and_then, is_word, word_of, item_of, item_length, read_item, read_after, read_lines, outside_line}
use Rattle.words.specs.Rows.{outcome}
use Rattle.words.specs.Tokens.Reading.{tokens, refused}
use Rattle.words.specs.Lexer.{answer_of, rows_of, zero_row, count_of}
use denote.Ref.{Bor}
use denote.Param.Members.{Mut}
use Rattle.std.specs.Prelude.{Option, Some, None, MatchOption, ⊤}
use Rattle.std.specs.Option.{option_map, IsSomeAnd}
use Rattle.std.specs.Fn.{CalledAt}
use Rattle.std.specs.Iterator.{YieldsThen}
use Rattle.std.specs.List.{FoldsTo}
use Rattle.std.specs.Prelude.{Result, Ok, Err}
use Rattle.std.specs.Result.{result_unwrap_or, IsErrAnd, MatchResult}
use Rattle.refusals.specs.declared.Rejection.{Rejection}
use Rattle.refusals.specs.declared.Refusal.{Refusal}
use Rattle.words.specs.Items.{Item}
use Rattle.words.specs.Items.Item.{Blank, Token, Refused}
use Rattle.source_text.specs.ByteLaws.{by_bool, and_left, and_right}
use Rattle.source_text.specs.ScanLaws.{starts_short}
use Rattle.source_text.proofs.Scans.{lines_at, code_part, lines_taken}
use Rattle.source_text.proofs.Encodings.{past, positive_is}
use Rattle.words.proofs.Items.{word_fits, word_starts}

-- One reading after another.
pub then_nil : (r : Reading) → and_then (tokens []) r ≡ r
unfolding and_then
then_nil (tokens ts) = refl
then_nil (refused x n) = refl

pub then_end : (ts : List (List ℕ)) → and_then (tokens ts) (tokens []) ≡ tokens ts
unfolding and_then
then_end ts = simp append-nil

pub then_assoc : (a b c : Reading) → and_then (and_then a b) c ≡ and_then a (and_then b c)
unfolding and_then
then_assoc (refused x n) b c = refl
then_assoc (tokens ts) (refused x n) c = refl
then_assoc (tokens ts) (tokens us) (refused x n) = refl
then_assoc (tokens ts) (tokens us) (tokens vs) = simp append_assoc

pub then_refused : (ts : List (List ℕ)) (x : Refusal) (n : ℕ) (r : Reading) → and_then (tokens ts) (and_then (refused x n) r) ≡ refused x n
unfolding and_then
then_refused ts x n r = refl

-- The rest of a token is passed over.
pub read_skip : (s : List ℕ) (k p n : ℕ) → read_after s k p n ≡ read_after (drop k s) 0 (p + k) n
unfolding read_after
read_skip [] zero p n = refl
read_skip [] (suc k) p n = refl
read_skip (c ∷ s) zero p n = simp add-zero
read_skip (c ∷ s) (suc k) p n = let e : suc p + k ≡ p + suc k = omega arith in read_skip s k (suc p) n ∙ ap (λ q. read_after (drop k s) 0 q n) e

read_cons : (l t : List ℕ) (c p n : ℕ) → l ≡ c ∷ t → read_after l 0 p n ≡ and_then (read_item (item_of l) p n) (read_after t (item_length (item_of l) - 1) (suc p) n)
unfolding read_after
read_cons l t c p n e = rw e

-- An item has a length, within the list.
word_length : (w : List ℕ) → 0 < length w → (0 < item_length (word_item w)) × (item_length (word_item w) ≤ length w)
unfolding word_item
word_length w h =
    by_bool (ltb 64 (length w)) (λ e. simp e (omega arith, omega arith))
    (λ e. by_bool (eqb (get_or w 0 0) 63) (λ f. simp (e, f) (omega arith, omega arith))
    (λ f. by_bool (all_digits w) (λ g. simp (e, f, g) (fitted (numeral_of w)))
    (λ g. simp (e, f, g) (omega arith, omega arith))))
  where
    fitted : (v : Option ℕ) → (0 < item_length (if_fits v (Token 14 (length w)))) × (item_length (if_fits v (Token 14 (length w))) ≤ length w)
    fitted (Some v) = (omega arith, omega arith)
    fitted None = (omega arith, omega arith)

-- No sign is written with no bytes.
written : List Sign → Bool
written [] = true
written (x ∷ xs) = ltb 0 (length x.written) && written xs

sign_length : (xs : List Sign) (s : List ℕ) → 0 < length s → written xs ≡ true → (0 < item_length (sign_among xs s)) × (item_length (sign_among xs s) ≤ length s)
unfolding sign_among written
sign_length [] s h e = (omega arith, omega arith)
sign_length (x ∷ xs) s h e =
    by_bool (starts_with x.written s)
    (λ f. simp f (ltb-true 0 (length x.written) (and_left _ (written xs) e), starts_short x.written s f))
    (λ f. simp f (sign_length xs s h (and_right (ltb 0 (length x.written)) _ e)))

pub item_length_lem : (l : List ℕ) → 0 < length l → (0 < item_length (item_of l)) × (item_length (item_of l) ≤ length l)
unfolding item_of sign_item signs written
item_length_lem l h =
    by_bool (eqb (character_of l).class 1) (λ e. simp e (omega arith, omega arith))
    (λ e. by_bool (is_word (character_of l).class) (λ f. simp (e, f) (worded f))
    (λ f. by_bool (eqb (character_of l).class 4) (λ g. simp (e, f, g) (sign_length signs l h refl))
    (λ g. simp (e, f, g) (omega arith, omega arith))))
  where
    worded : is_word (character_of l).class ≡ true → (0 < item_length (word_item (word_of l))) × (item_length (word_item (word_of l)) ≤ length l)
    worded f =
        let q : length (word_of l) ≤ length l = word_fits l in
        let m : (0 < item_length (word_item (word_of l))) × (item_length (word_item (word_of l)) ≤ length (word_of l)) = word_length (word_of l) (word_starts l h f) in
        (omega arith, omega arith)

-- The rest of a list is what its slice holds.
pub item_whole : (s : List ℕ) (i : ℕ) → item_of (take (length s - i) (drop i s)) ≡ item_of (drop i s)
item_whole s i = ap item_of (take_all (length s - i) (drop i s) (simp length-drop (omega arith)))

-- A line s that starts at place p, from its place i on, where the item x stands.
module _ (s : List ℕ) (i p n : ℕ) (x : Item) (h : i < length s) (e : x ≡ item_of (drop i s)) where
  pub item_within : (0 < item_length x) × (i + item_length x ≤ length s)
  item_within =
      let q : 0 < length (drop i s) = simp length-drop (omega arith) in
      let m : (0 < item_length (item_of (drop i s))) × (item_length (item_of (drop i s)) ≤ length s - i) = simp length-drop at (item_length_lem (drop i s) q) in
      let f : item_length x ≡ item_length (item_of (drop i s)) = ap item_length e in
      (omega arith, omega arith)

  pub read_next : read_after (drop i s) 0 (p + i) n ≡ and_then (read_item x (p + i) n) (read_after (drop (i + item_length x) s) 0 (p + (i + item_length x)) n)
  read_next =
      let k : suc (p + i) + (item_length x - 1) ≡ p + (i + item_length x) = omega (arith, item_within) in
      read_cons (drop i s) (drop (suc i) s) (get_or s i 0) (p + i) n (drop-cons s i 0 h)
      ∙ simp (← e, read_skip (drop (suc i) s) (item_length x - 1) (suc (p + i)) n, past s i (item_length x) item_within.0, k)

module _ (s : List ℕ) (i p n : ℕ) (ts : List (List ℕ)) where
  pub read_end : length s ≤ i → and_then (tokens ts) (read_after (drop i s) 0 (p + i) n) ≡ tokens ts
  unfolding read_after
  read_end h = simp (drop_of_length-le s h, then_end)

  module _ (h : i < length s) where
    pub read_blank : Blank ≡ item_of (drop i s) → and_then (tokens ts) (read_after (drop i s) 0 (p + i) n) ≡ and_then (tokens ts) (read_after (drop (i + 1) s) 0 (p + (i + 1)) n)
    read_blank e = ap (and_then (tokens ts)) (read_next s i p n Blank h e ∙ then_nil _)

    pub read_token : (k m : ℕ) → Token k m ≡ item_of (drop i s) → and_then (tokens ts) (read_after (drop i s) 0 (p + i) n) ≡ and_then (tokens (ts ++ ((k ∷ (p + i) ∷ m ∷ n ∷ []) ∷ []))) (read_after (drop (i + m) s) 0 (p + (i + m)) n)
    unfolding and_then
    read_token k m e = ap (and_then (tokens ts)) (read_next s i p n (Token k m) h e) ∙ sym (then_assoc (tokens ts) (tokens ((k ∷ (p + i) ∷ m ∷ n ∷ []) ∷ [])) (read_after (drop (i + m) s) 0 (p + (i + m)) n))

    pub read_refused : (r : Refusal) → Refused r ≡ item_of (drop i s) → and_then (tokens ts) (read_after (drop i s) 0 (p + i) n) ≡ refused r n
    read_refused r e = ap (and_then (tokens ts)) (read_next s i p n (Refused r) h e) ∙ then_refused ts r n _

-- The first line outside the domain, from the line at place `at` on: c is the end of that line's code, e its own.
module _ (text : List ℕ) (at c e n : ℕ) (h : at < length text) (f : c ≡ at + length (code_of (line_of (drop at text)))) (g : e ≡ c + length (line_of (drop c text))) where
  pub outside_line_lem : outside_line (lines (drop at text)) n ≡ cond (has_outside (take (c - at) (drop at text))) n (outside_line (lines (drop (e + 1) text)) (n + 1))
  unfolding outside_line
  outside_line_lem = simp (lines_at text at c e h f g, code_part text at c e h f g)

-- The reading of a text from the line at place `at` on, which is taken.
module _ (text : List ℕ) (at n : ℕ) (code : Code) (after : Lines) (t : LineTaken text at n code after) where
  pub read_line : read_lines (lines (drop at text)) at n ≡ and_then (read_after code.bytes.now 0 code.start code.line) (read_lines (lines (drop after.at text)) after.at after.line)
  unfolding read_lines
  read_line = simp (lines_taken text at n code after t, t.bytes, t.start, t.number, t.next, t.counted)

  pub outside_line_taken : outside_line (lines (drop at text)) n ≡ cond (has_outside code.bytes.now) n (outside_line (lines (drop after.at text)) after.line)
  unfolding outside_line
  outside_line_taken = simp (lines_taken text at n code after t, t.bytes, t.counted)

  -- With ts before it, and o what ts and the line's code come to.
  pub line_read : (whole : Reading) (ts : List (List ℕ)) (o : Reading) → whole ≡ and_then (tokens ts) (read_lines (lines (drop at text)) at n) → o ≡ and_then (tokens ts) (read_after code.bytes.now 0 code.start code.line) → whole ≡ and_then o (read_lines (lines (drop after.at text)) after.at after.line)
  line_read whole ts o p q = p ∙ ap (and_then (tokens ts)) read_line ∙ sym (then_assoc (tokens ts) (read_after code.bytes.now 0 code.start code.line) (read_lines (lines (drop after.at text)) after.at after.line)) ∙ ap (λ a. and_then a (read_lines (lines (drop after.at text)) after.at after.line)) (sym q)

pub lines_past : (text : List ℕ) (at : ℕ) → length text ≤ at → lines (drop at text) ≡ []
unfolding lines
lines_past text at h = simp (drop_of_length-le text h)

-- Of the lines that are taken, the first with a character outside the domain is the one that is found.
module _ {F : Type 0} {g : Mut F (Bor Code × Unit {0}) Bool} (f : F) (tells : (x : Code) (b : Bool) (q : F) → CalledAt g f x b q → (q ≡ f) × (b ≡ has_outside x.bytes.now)) (j : F) (u : Lines) where
  pub outside_found : (r : Option Code) (xs : List Code) (s : Lines) → 0 < s.line → YieldsThen GivesLine s xs r u
      → FoldsTo (λ p x q. CalledAt g p x false q) f xs j → MatchOption r ⊤ (λ x. (h : F) × CalledAt g j x true h)
      → option_map (λ x. x.line) r ≡ positive (outside_line (lines (drop s.at s.text.now)) s.line)
  unfolding outside_line
  outside_found None [] s p y c m =
      let h = subst (λ k. GivesLine k None u) (sym y.1) y.2 in
      simp (lines_past s.text.now s.at h.1)
  outside_found (Some x) [] s p y c m =
      let h = subst (λ k. GivesLine k (Some x) u) (sym y.1) y.2 in
      let t = tells x true m.0 (subst (λ k. CalledAt g k x true m.0) (sym c) m.1) in
      let number = h.1.number in
      positive_is _ _ (omega arith) (outside_line_taken s.text.now s.at s.line x u h.1 ∙ simp (← t.1) (sym number))
  outside_found r (x ∷ xs) s p y c m =
      let k = y.1.0 in
      let h = y.1.1 in
      let t = tells x false c.0 c.1 in
      let counted = h.1.counted in
      let q : 0 < k.line = omega arith in
      outside_found r xs k q (y.0, y.1.2, y.2) (subst (λ f. FoldsTo (λ p x q. CalledAt g p x false q) f xs j) t.0 c.2) m
      ∙ ap positive (sym (outside_line_taken s.text.now s.at s.line x k h.1 ∙ simp (← t.1) (ap (λ text. outside_line (lines (drop k.at text)) k.line) (sym h.0))))

-- A row more.
pub push_row : (rows : List (List ℕ)) (n : ℕ) (row : List ℕ) → n < length rows → take (n + 1) (set rows n row) ≡ take n rows ++ (row ∷ [])
push_row rows n row h = rw (add-one n) (take-suc-set rows n row h)

-- A refusal stands, whatever comes after it.
pub stopped : (l : Result ℕ Rejection) (rows : List (List ℕ)) (rest : Reading) (e : Rejection) → l ≡ Err e → and_then (outcome l rows) rest ≡ outcome l rows
unfolding and_then
stopped l rows rest r e = rw e

-- Rows whose part from a place on is written: what is read then comes behind what was read before.
abbrev pub with_part : List (List ℕ) → ℕ → List (List ℕ) → List (List ℕ)
with_part rows count new = take count rows ++ (new ++ drop (length rows - count) (drop count rows))

part_last : (count : ℕ) (rows new : List (List ℕ)) → with_part rows count new ≡ take count rows ++ new
part_last count rows new =
    let d = length-drop count rows in
    ap (λ (rest : List (List ℕ)). take count rows ++ (new ++ rest)) (drop_of_length-le (drop count rows) (omega arith)) ∙ simp append-nil

pub read_on : (count n : ℕ) (rows new : List (List ℕ)) → count ≤ length rows → outcome (Ok (count + n)) (with_part rows count new) ≡ and_then (tokens (take count rows)) (outcome (Ok n) new)
unfolding and_then
read_on count n rows new h =
    let e : length (take count rows) ≡ count = length-take-le count rows h in
    ap tokens (ap (take (count + n)) (part_last count rows new) ∙ ap (λ k. take (k + n) (take count rows ++ new)) (sym e) ∙ take-append-add (take count rows) new n)

pub refused_on : (r : Result ℕ Rejection) (e : Rejection) (ts new after : List (List ℕ)) → r ≡ Err e → outcome r after ≡ and_then (tokens ts) (outcome r new)
unfolding and_then
refused_on r e ts new after h = rw h refl

pub rows_on : (count : ℕ) (rows new : List (List ℕ)) → count ≤ length rows → length new ≡ length (take (length rows - count) (drop count rows)) → length (with_part rows count new) ≡ length rows
rows_on count rows new h e =
    let p : length (with_part rows count new) ≡ length (take count rows ++ new) = ap length (part_last count rows new) in
    let a = length-append (take count rows) new in
    let b = length-take-le count rows h in
    let d = length-drop count rows in
    let t : length (take (length rows - count) (drop count rows)) ≡ length rows - count = length-take-le (length rows - count) (drop count rows) (omega arith) in
    omega arith

-- How many rows an answer counts.
pub counted : (l : Result ℕ Rejection) → result_unwrap_or l 0 ≡ count_of l
counted (Ok n) = refl
counted (Err e) = refl

-- What `lex` answers and leaves, from what reading comes to and the rows past it zeroed.
module _ (m : ℕ) (rows after : List (List ℕ)) (long : length rows ≡ m) where
  pub leaves : (l : Result ℕ Rejection) → count_of l ≤ m → after ≡ take (count_of l) rows ++ replicate (length rows - count_of l) zero_row → (l ≡ answer_of (outcome l rows)) × (after ≡ rows_of m (outcome l rows))
  leaves (Ok n) f e =
      let k : length (take n rows) ≡ n = length-take-le n rows (omega arith) in
      (sym (simp k), e ∙ simp (k, long))
  leaves (Err r) f e = let k : length rows - 0 ≡ m = omega arith in (refl, e ∙ simp k)

-- What `map_err` hands on: a value is that of the result, and an error is what is made of the result's.
pub mapped_ok : {A E D : Type 0} (r : Result A E) (q : Result A D) (P : E → D → Type 0) (x : A) → MatchResult r (λ y. q ≡ Ok y) (λ e. IsErrAnd q (P e)) → q ≡ Ok x → r ≡ Ok x
mapped_ok (Ok y) q P x h k = let f : Ok y ≡ Ok x = sym h ∙ k in let g : y ≡ x = cc in ap Ok g
mapped_ok (Err e) (Ok y) P x h k = absurd h
mapped_ok (Err e) (Err d) P x h k = absurd (cc)

pub mapped_err : {A E D : Type 0} (r : Result A E) (q : Result A D) (P : E → D → Type 0) (d : D) → MatchResult r (λ y. q ≡ Ok y) (λ e. IsErrAnd q (P e)) → q ≡ Err d → (e : E) × (r ≡ Err e) × P e d
mapped_err (Ok y) q P d h k = absurd (let f : Ok y ≡ Err d = sym h ∙ k in cc)
mapped_err (Err e) (Ok y) P d h k = absurd h
mapped_err (Err e) (Err c) P d h k = let g : c ≡ d = cc in (e, refl, subst (P e) g h)

-- What `map` makes of a value.
pub mapped_some : {A B : Type 0} (h : A → B) (r : Option A) (q : Option B) (P : A → B → Type 0) → ((x : A) (y : B) → P x y → y ≡ h x) → MatchOption r (q ≡ None) (λ x. IsSomeAnd q (P x)) → q ≡ option_map h r
mapped_some h None q P k m = m
mapped_some h (Some x) None P k m = absurd m
mapped_some h (Some x) (Some y) P k m = ap Some (k x y m)
