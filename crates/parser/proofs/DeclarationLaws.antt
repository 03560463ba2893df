-- The ways out of `pred`, `theorem` and `declaration`.
use mathlib.Core.Path.{◌≡◌, refl, sym, ap, ap₂, ◌∙◌}
use mathlib.Core.Logic.{◌⊎◌, inl, inr}
use mathlib.Core.List.{List, [], ◌∷◌, ◌++◌, append_assoc}
use Prim.Native.Nat.{ℕ, zero, suc, ◌+◌, ◌-◌, ◌≤◌, ◌<◌}
use native.Mathlib.Omega.{arith}
use borrow.Author.Tests.{ne_eqb}
use native.Mathlib.Decide.{dec_lt}
use lib.ListN.{length, take, drop, set, get_or, length-append, length-set, drop_of_length-le}
use lib.Seq.{drop-cons, take-set-lt, set_at, get_or_at, get_or-take, take_at, take-take, length-take-le}
use Rattle.source_text.specs.Bytes.{same_bytes}
use Rattle.source_text.specs.Parts.{part_of}
use Rattle.words.specs.Names.{name_kind}
use Rattle.refusals.specs.declared.Refusal.{Refusal}
use Rattle.refusals.specs.declared.Refusal.TheVariants.{OtherKeyword, DeclarationExpected}
use Rattle.term_parser.specs.declared.Token.{Token}
use Rattle.term_parser.specs.Steps.{Step}
use Rattle.term_parser.specs.Steps.Step.{Refused}
use Rattle.term_parser.specs.Source.{Place, place, Source, one}
use Rattle.parser.specs.Source.{Binders, Tactic, Declaration, theorem}
use Rattle.term_parser.specs.Parsing.{Tokens, token_of, line_of, last_line, Parsed, parsed, absent, refused, plus, follow, continued, behind, repeat}
use Rattle.term_parser.specs.Lists.{separated}
use Rattle.parser.specs.Declarations.{prop_name, ends_in_prop, sort_of, ctor_of, pred_of, rule_of, def_of, theorem_of, asked, asked_of, body_of, declaration_of}
use Rattle.term_parser.specs.Rows.{Rows, row, rows_of, rows_of_all, name_rows}
use Rattle.parser.specs.Rows.{binders_rows, tactic_rows, declaration_rows, declared_rows, numbered}
use Rattle.term_parser.specs.Promises.{on, no as stop, told, Answers, Room}
use Rattle.term_parser.proofs.Readers.{no_path}
use Rattle.parser.proofs.PartLaws.{Along}

-- Lists of names with a last one.
last_of : Place → List Place → Place
last_of q [] = q
last_of q (r ∷ rs) = last_of r rs

abbrev pub start_of : Place → ℕ
start_of (place s n) = s

abbrev pub size_of : Place → ℕ
size_of (place s n) = n

prop_last : (text : List ℕ) (q : Place) (qs : List Place) → ends_in_prop text (q ∷ qs) ≡ same_bytes (part_of text (start_of (last_of q qs)) (size_of (last_of q qs))) prop_name
unfolding ends_in_prop last_of
prop_last text (place s n) [] = refl
prop_last text q (r ∷ rs) = prop_last text r rs

init_last : (q : Place) (qs : List Place) → rows_of_all name_rows (q ∷ qs) ≡ rows_of_all name_rows (take (length qs) (q ∷ qs)) ++ (row name_kind (last_of q qs) 0 ∷ [])
unfolding rows_of_all last_of
init_last q [] = refl
init_last q (r ∷ rs) = ap (λ z. name_rows q ++ z) (init_last r rs)

-- Repeated items: the list only grows.
continued_grows : {A : Type 0} (x : Parsed A) (next : A → ℕ → Parsed (List A)) (done : List A) (n : ℕ) (l : List A) (m : ℕ)
    → ((a : A) (i : ℕ) → next a i ≡ parsed l m → length done ≤ length l) → continued x next (parsed done n) ≡ parsed l m → length done ≤ length l
continued_grows (parsed a i) next done n l m f e = f a i e
continued_grows absent next done n l m f e = let d : done ≡ l = cc in let g : length done ≡ length l = ap length d in omega arith
continued_grows (refused r k) next done n l m f e = no_path cc

parsed_grows : {A : Type 0} (done : List A) (n : ℕ) (l : List A) (m : ℕ) → parsed done n ≡ parsed l m → length done ≤ length l
parsed_grows done n l m e = let g : done ≡ l = cc in let h : length done ≡ length l = ap length g in omega arith

repeat_grows : {A : Type 0} (item : Tokens → Parsed A) (ts : Tokens) (k n : ℕ) (done l : List A) (m : ℕ) → repeat item ts k n done ≡ parsed l m → length done ≤ length l
unfolding repeat
repeat_grows item [] k n done l m e = continued_grows (item []) (λ a i. parsed done n) done n l m (λ a i f. parsed_grows done n l m f) e
repeat_grows item (t ∷ ts) (suc k) n done l m e = repeat_grows item ts k n done l m e
repeat_grows item (t ∷ ts) zero n done l m e = continued_grows (item (t ∷ ts)) (λ a i. repeat item ts (i - 1) (n + i) (done ++ (a ∷ []))) done n l m
    (λ a i f. let g = repeat_grows item ts (i - 1) (n + i) (done ++ (a ∷ [])) l m f in let h = length-append done (a ∷ []) in omega arith) e

plus_parsed : {A : Type 0} (n : ℕ) (x : Parsed A) {l : A} {m : ℕ} → plus n x ≡ parsed l m → (i : ℕ) × (x ≡ parsed l i)
plus_parsed n (parsed a i) e = (i, cc)
plus_parsed n absent e = no_path cc
plus_parsed n (refused r k) e = no_path cc

pub separated_some : {A : Type 0} (kind : ℕ) (item : Tokens → Parsed A) (ts : Tokens) {l : List A} {m : ℕ} → separated kind item ts ≡ parsed l m → 0 < length l
separated_some kind item ts {l} {m} e = go (item ts) e
  where
    go : (x : Parsed _) → follow x ts (λ a us. repeat (behind kind item) us 0 0 (a ∷ [])) ≡ parsed l m → 0 < length l
    go (parsed a n) f = let (i, g) = plus_parsed n (repeat (behind kind item) (drop n ts) 0 0 (a ∷ [])) f in let h = repeat_grows (behind kind item) (drop n ts) 0 0 (a ∷ []) l i g in omega arith
    go absent f = no_path cc
    go (refused r k) f = no_path cc

module _ {D : Type 0} {rowsD : D → Rows} {reader : Parsed D} {ts : Tokens} {p u : ℕ} {before : Rows} {q k : ℕ} {out : Rows} {rest : Parsed D} {body : Rows} (a : Along rowsD reader ts p u before q k out rest body) where
  -- a refusal at the end
  pub refuse : {v : Refusal} {l l' : ℕ} {out' : Rows} → rest ≡ refused v l → l' ≡ l → Answers 1 rowsD reader ts p u before (Refused v l') out'
  refuse {v} e f = record { is = ap (stop v) f ∙ sym (a.is ∙ ap (told rowsD q (take u before)) e); within = tt; still = λ z. no_path cc }

  lower : Room ts p u before → (k ≤ length out) × (length (take (u + 1) before) ≡ u + 1)
  lower r = let b = r.below in let l = r.lent in let f = a.fits in let g = a.long in let t = a.to in let h = a.ahead in (omega arith, length-take-le (u + 1) before (omega arith))

  -- a list of names without its last one
  module _ (room : Room ts p u before) (first : Rows) (ss : List Place) (e : body ≡ first ++ rows_of_all name_rows ss) (some : 0 < length ss) where
    abbrev init : List Place
    init = take (length ss - 1) ss

    split : (z : Place) × (rows_of_all name_rows ss ≡ rows_of_all name_rows init ++ (row name_kind z 0 ∷ [])) × ((text : List ℕ) → ends_in_prop text ss ≡ same_bytes (part_of text (start_of z) (size_of z)) prop_name)
    split = go ss some
      where
        go : (l : List Place) → 0 < length l → (z : Place) × (rows_of_all name_rows l ≡ rows_of_all name_rows (take (length l - 1) l) ++ (row name_kind z 0 ∷ [])) × ((text : List ℕ) → ends_in_prop text l ≡ same_bytes (part_of text (start_of z) (size_of z)) prop_name)
        go [] h = absurd (omega arith)
        go (x ∷ xs) h = (last_of x xs, init_last x xs ∙ (let d : length xs ≡ suc (length xs) - 1 = omega arith in ap (λ i. rows_of_all name_rows (take i (x ∷ xs)) ++ (row name_kind (last_of x xs) 0 ∷ [])) d), λ text. prop_last text x xs)

    whole : take k out ≡ (take (u + 1) before ++ (first ++ rows_of_all name_rows init)) ++ (row name_kind split.0 0 ∷ [])
    whole = a.wrote ∙ ap (λ z. take (u + 1) before ++ z) (e ∙ ap (λ z. first ++ z) split.1 ∙ sym (append_assoc first _ _)) ∙ sym (append_assoc (take (u + 1) before) _ _)

    ends : k ≡ length (take (u + 1) before ++ (first ++ rows_of_all name_rows init)) + 1
    ends = let (h, _) = lower room in sym (length-take-le k out h) ∙ ap length whole ∙ length-append (take (u + 1) before ++ (first ++ rows_of_all name_rows init)) (row name_kind split.0 0 ∷ [])

    last_row : get_or out (k - 1) [] ≡ row name_kind split.0 0
    last_row = let g = ends in let l : k - 1 < k = omega arith in
        sym (get_or-take k out (k - 1) [] l) ∙ ap (λ z. get_or z (k - 1) []) whole ∙ get_or_at (take (u + 1) before ++ (first ++ rows_of_all name_rows init)) (row name_kind split.0 0) [] [] (k - 1) (omega arith)

    pub prop_is : (text : List ℕ) → ends_in_prop text ss ≡ same_bytes (part_of text (get_or (get_or out (k - 1) []) 1 0) (get_or (get_or out (k - 1) []) 2 0)) prop_name
    prop_is text = split.2 text ∙ go split.0 ∙ ap (λ l. same_bytes (part_of text (get_or l 1 0) (get_or l 2 0)) prop_name) (sym last_row)
      where
        go : (z : Place) → same_bytes (part_of text (start_of z) (size_of z)) prop_name ≡ same_bytes (part_of text (get_or (row name_kind z 0) 1 0) (get_or (row name_kind z 0) 2 0)) prop_name
        go (place s n) = refl

    pub without_last : Along rowsD reader ts p u before q (k - 1) out rest (first ++ rows_of_all name_rows init)
    without_last =
        let g = ends in
        let (h, long) = lower room in
        let m = length-append (take (u + 1) before) (first ++ rows_of_all name_rows init) in
        let f = a.fits in
        record {
          is = a.is;
          wrote = sym (take-take (k - 1) k out (omega arith)) ∙ ap (take (k - 1)) whole ∙ take_at (take (u + 1) before ++ (first ++ rows_of_all name_rows init)) (row name_kind split.0 0 ∷ []) (k - 1) (omega arith);
          ahead = a.ahead;
          to = a.to;
          above = omega arith;
          fits = omega arith;
          long = a.long;
        }

    pub init_long : length init ≡ length ss - 1
    init_long = length-take-le (length ss - 1) ss (omega arith)

  -- another number in the first row behind the free one
  pub marked : Room ts p u before → {line : List ℕ} {more : Rows} → body ≡ line ∷ more → {e : ℕ} {out' : Rows} → out' ≡ set out (u + 1) (numbered (get_or out (u + 1) []) e)
      → Along rowsD reader ts p u before q k out' rest (numbered line e ∷ more)
  marked room {line} {more} b {e} {out'} g =
      let (h, long) = lower room in
      let w : take k out ≡ take (u + 1) before ++ (line ∷ more) = a.wrote ∙ ap (λ z. take (u + 1) before ++ z) b in
      let n : k ≡ u + 1 + suc (length more) = sym (length-take-le k out h) ∙ ap length w ∙ length-append (take (u + 1) before) (line ∷ more) ∙ ap (λ z. z + suc (length more)) long in
      let low : u + 1 < k = omega arith in
      let l : get_or out (u + 1) [] ≡ line = sym (get_or-take k out (u + 1) [] low) ∙ ap (λ z. get_or z (u + 1) []) w ∙ get_or_at (take (u + 1) before) line more [] (u + 1) long in
      let new : List ℕ = numbered (get_or out (u + 1) []) e in
      record {
        is = a.is;
        wrote = ap (take k) g ∙ take-set-lt k out (u + 1) new low ∙ ap (λ z. set z (u + 1) new) w ∙ set_at (take (u + 1) before) line more new (u + 1) long ∙ ap (λ z. take (u + 1) before ++ (numbered z e ∷ more)) l;
        ahead = a.ahead;
        to = a.to;
        above = a.above;
        fits = a.fits;
        long = ap length g ∙ length-set out (u + 1) new ∙ a.long;
      }

-- The rows of the tactic are those written after the judgments.
pub tactic_rows_lem : {D : Type 0} {rowsD : D → Rows} {reader : Parsed D} {ts : Tokens} {p u : ℕ} {before : Rows} {q k : ℕ} {out : Rows} {rest : Parsed D} {body : Rows} {q' k' : ℕ} {out' : Rows} {rest' : Parsed D} {body' : Rows}
    → Along rowsD reader ts p u before q k out rest body → Along rowsD reader ts p u before q' k' out' rest' body' → Room ts p u before → (t : Tactic) → take k out ≡ take k' out' ++ tactic_rows t → k - k' ≡ length (tactic_rows t)
tactic_rows_lem {k = k} {out = out} {k' = k'} {out' = out'} a b room t w =
    let (h, _) = lower a room in let (i, _) = lower b room in
    let e : k ≡ k' + length (tactic_rows t) = sym (length-take-le k out h) ∙ ap length w ∙ length-append (take k' out') (tactic_rows t) ∙ ap (λ z. z + length (tactic_rows t)) (length-take-le k' out' i) in
    omega arith

numbered_row : (n : Place) (e : ℕ) → numbered (row name_kind n 0) e ≡ row name_kind n e
numbered_row (place s l) e = refl

pub theorem_rows : (line : ℕ) (n : Place) (bs : List Binders) (js : List (Source one)) (t : Tactic) {b j e : ℕ} → b ≡ length bs → j ≡ length js → e ≡ length (tactic_rows t)
    → declaration_rows line (theorem n bs js t) ≡ (6 ∷ line ∷ b ∷ j ∷ []) ∷ (numbered (row name_kind n 0) e ∷ ((rows_of_all binders_rows bs ++ rows_of_all rows_of js) ++ tactic_rows t))
theorem_rows line n bs js t {b} {j} {e} x y z =
    ap₂ (λ v w. (6 ∷ line ∷ v ∷ w ∷ []) ∷ (row name_kind n (length (tactic_rows t)) ∷ (rows_of_all binders_rows bs ++ (rows_of_all rows_of js ++ tactic_rows t)))) (sym x) (sym y)
    ∙ ap₂ (λ v w. (6 ∷ line ∷ b ∷ j ∷ []) ∷ (v ∷ w)) (ap (row name_kind n) (sym z) ∙ sym (numbered_row n e)) (sym (append_assoc (rows_of_all binders_rows bs) _ _))

-- A number between others.
either_of : (k i : ℕ) → i ≤ k → k < i + 2 → (k ≡ i) ⊎ (k ≡ i + 1)
either_of k i a b = go (dec_lt k (i + 1))
  where
    go : Dec (k < i + 1) → (k ≡ i) ⊎ (k ≡ i + 1)
    go (yes c) = inl (omega arith)
    go (no c) = inr (omega arith)

-- What a keyword's number starts.
module _ (text : List ℕ) (last : ℕ) (ts us : Tokens) where
  pub starts_sort : (k : ℕ) → k ≡ 1 → body_of text last k ts us ≡ sort_of last us
  unfolding body_of
  starts_sort k e = rw e

  pub starts_ctor : (k : ℕ) → k ≡ 2 → body_of text last k ts us ≡ ctor_of last us
  unfolding body_of
  starts_ctor k e = rw e

  pub starts_pred : (k : ℕ) → k ≡ 3 → body_of text last k ts us ≡ pred_of text last us
  unfolding body_of
  starts_pred k e = rw e

  pub starts_rule : (k : ℕ) → k ≡ 4 → body_of text last k ts us ≡ rule_of text last us
  unfolding body_of
  starts_rule k e = rw e

  pub starts_def : (k : ℕ) → k ≡ 5 → body_of text last k ts us ≡ def_of text last us
  unfolding body_of
  starts_def k e = rw e

  pub starts_theorem : (k : ℕ) → k ≡ 6 → body_of text last k ts us ≡ theorem_of text last us
  unfolding body_of
  starts_theorem k e = rw e

  asks : (k : ℕ) → (k ≡ 10) ⊎ (k ≡ 11) → body_of text last k ts us ≡ asked_of text last k us
  unfolding body_of
  asks k (inl e) = rw e refl
  asks k (inr e) = rw e refl

  pub starts_asked : (k : ℕ) → 9 < k → k < 12 → body_of text last k ts us ≡ asked_of text last k us
  starts_asked k a b = asks k (either_of k 10 a b)

  starts_other : (k : ℕ) → (k ≡ 7) ⊎ ((k ≡ 8) ⊎ (k ≡ 9)) → body_of text last k ts us ≡ refused OtherKeyword (line_of last us)
  unfolding body_of
  starts_other k (inl e) = rw e
  starts_other k (inr (inl e)) = rw e
  starts_other k (inr (inr e)) = rw e

  pub starts_nothing : (k : ℕ) → 6 < k → k < 10 → body_of text last k ts us ≡ refused OtherKeyword (line_of last us)
  starts_nothing k a b = starts_other k (go (dec_lt k 8))
    where
      go : Dec (k < 8) → (k ≡ 7) ⊎ ((k ≡ 8) ⊎ (k ≡ 9))
      go (yes c) = inl (omega arith)
      go (no c) = inr (either_of k 8 (omega arith) b)

  pub no_keyword : (k : ℕ) → (k ≡ 0) ⊎ (11 < k) → body_of text last k ts us ≡ refused DeclarationExpected (line_of last ts)
  unfolding body_of
  no_keyword k (inl e) = rw e
  no_keyword k (inr l) = simp (
    ne_eqb k 1 (λ e. omega arith),
    ne_eqb k 2 (λ e. omega arith),
    ne_eqb k 3 (λ e. omega arith),
    ne_eqb k 4 (λ e. omega arith),
    ne_eqb k 5 (λ e. omega arith),
    ne_eqb k 6 (λ e. omega arith),
    ne_eqb k 7 (λ e. omega arith),
    ne_eqb k 8 (λ e. omega arith),
    ne_eqb k 9 (λ e. omega arith),
    ne_eqb k 10 (λ e. omega arith),
    ne_eqb k 11 (λ e. omega arith),
  )

-- The row of an evaluation or a check.
pub asked_rows : (number k : ℕ) (t : Source one) → (k ≡ 10) ⊎ (k ≡ 11) → declaration_rows number (asked k t) ≡ (k ∷ number ∷ 0 ∷ 0 ∷ []) ∷ rows_of t
asked_rows number k t (inl e) = rw e refl
asked_rows number k t (inr e) = rw e refl

-- A body that is refused.
pub barred : {D : Type 0} (rowsD : D → Rows) {x : Parsed D} {v : Refusal} {l : ℕ} {ts : Tokens} {p u : ℕ} {before out : Rows} → x ≡ refused v l → Answers 1 rowsD (plus 1 x) ts p u before (Refused v l) out
barred rowsD {p = p} {u = u} {before = before} e = record {
  is = sym (ap (λ y. told rowsD p (take u before) (plus 1 y)) e);
  within = tt;
  still = λ z. no_path cc;
}

-- A declaration with its line.
with_line : (line p : ℕ) (before : Rows) (us : Tokens) (x : Parsed Declaration)
    → told (declaration_rows line) p before (plus 1 x) ≡ told declared_rows p before (plus 1 (follow x us (λ d vs. parsed (record { line = line; declaration = d }) 0)))
with_line line p before us (parsed d n) = let e : p + (1 + n) ≡ p + (1 + (n + 0)) = omega arith in ap (λ i. on i (before ++ declaration_rows line d)) e
with_line line p before us absent = refl
with_line line p before us (refused v l) = refl

module _ (text : List ℕ) (ts : Tokens) (p : ℕ) (here : p < length ts) {t : Token} (te : t ≡ token_of (drop p ts)) where
  abbrev body_at : Parsed Declaration
  body_at = body_of text (last_line ts) t.kind (drop p ts) (drop (p + 1) ts)

  declaration_is : declaration_of text (last_line ts) (drop p ts) ≡ plus 1 (follow body_at (drop (p + 1) ts) (λ d vs. parsed (record { line = t.line; declaration = d }) 0))
  unfolding declaration_of
  declaration_is =
      let e : drop p ts ≡ get_or ts p [] ∷ drop (p + 1) ts = drop-cons ts p [] here ∙ (let f : suc p ≡ p + 1 = omega arith in ap (λ i. get_or ts p [] ∷ drop i ts) f) in
      let k : t ≡ token_of (get_or ts p [] ∷ drop (p + 1) ts) = te ∙ ap token_of e in
      ap (declaration_of text (last_line ts)) e
      ∙ ap₂ (λ us z. plus 1 (follow (body_of text (last_line ts) z.kind us (drop (p + 1) ts)) (drop (p + 1) ts) (λ d vs. parsed (record { line = z.line; declaration = d }) 0))) (sym e) (sym k)

  pub declared : (x : Parsed Declaration) → body_at ≡ x → {u : ℕ} {before : Rows} {r : Step} {out : Rows} → Answers 1 (declaration_rows t.line) (plus 1 x) ts p u before r out
      → Answers 1 declared_rows (declaration_of text (last_line ts) (drop p ts)) ts p u before r out
  declared x e {u} {before} h = record {
    is = h.is ∙ with_line t.line p (take u before) (drop (p + 1) ts) x
        ∙ sym (ap (told declared_rows p (take u before)) (declaration_is ∙ ap (λ y. plus 1 (follow y (drop (p + 1) ts) (λ d vs. parsed (record { line = t.line; declaration = d }) 0))) e));
    within = h.within;
    still = h.still;
  }

-- The end of all declarations.
pub no_declaration : (text : List ℕ) (ts : Tokens) (p : ℕ) → length ts ≤ p → declaration_of text (last_line ts) (drop p ts) ≡ absent
unfolding declaration_of
no_declaration text ts p h = ap (declaration_of text (last_line ts)) (drop_of_length-le ts h)
