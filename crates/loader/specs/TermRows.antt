-- Laws of declaration rows: the judgments of a rule and the parts of a clause stand in the parser's rows, wherever these are.
use Rattle.std.specs.Prelude.{ℕ, suc, ◌+◌, ◌-◌, ◌<◌, ◌≡◌, refl, List, [], ◌∷◌, ◌++◌, length, get_or}
use Rattle.std.proofs.Common.{arith, sym, ap, ◌∙◌, subst, append_assoc, append-nil, length-append}
use Rattle.std.proofs.Math.Seq.{get_or-append_seam}
use Rattle.term_parser.specs.Source.{Source, one, all_of}
use Rattle.term_parser.specs.Rows.{Rows, rows_of, rows_of_all}
use Rattle.term_parser.specs.Standing.{size, spelled, Stands, stands}
use Rattle.parser.specs.Source.{Clause}
use Rattle.parser.specs.Rows.{clause_kind, clause_rows}
use Rattle.loader.specs.Signature.{front_of, last_judgment}

-- The rows of several terms are those of their list.
pub all_rows : (ts : List (Source one)) → rows_of_all rows_of ts ≡ rows_of (all_of ts)
unfolding rows_of_all rows_of all_of
all_rows [] = refl
all_rows (t ∷ ts) = ap (λ (r : Rows). rows_of t ++ r) (all_rows ts)

-- As many are spelled as there are.
pub spelled_size : (text : List ℕ) (ts : List (Source one)) → size (spelled text (all_of ts)) ≡ length ts
unfolding size spelled all_of
spelled_size text [] = refl
spelled_size text (t ∷ ts) = let h = spelled_size text ts in omega arith

-- Several terms stand in their rows.
pub terms_stand : (text : List ℕ) (before after : Rows) (ts : List (Source one))
    → Stands text (before ++ (rows_of_all rows_of ts ++ after)) (length before) (spelled text (all_of ts)) (length before + length (rows_of_all rows_of ts))
terms_stand text before after ts =
    subst (λ (r : Rows). Stands text (before ++ (r ++ after)) (length before) (spelled text (all_of ts)) (length before + length r)) (sym (all_rows ts)) (stands text before after (all_of ts))

-- The last of one judgment and more, and those before it.
front_more : (j k : Source one) (js : List (Source one)) → front_of (j ∷ k ∷ js) ≡ j ∷ front_of (k ∷ js)
front_more j k js =
    let a : length (j ∷ k ∷ js) - 1 ≡ suc (length js) = omega arith in
    let b : length (k ∷ js) - 1 ≡ length js = omega arith in
    rw (a, b)

front_rows : (j : Source one) (js : List (Source one)) → rows_of_all rows_of (j ∷ js) ≡ rows_of_all rows_of (front_of (j ∷ js)) ++ rows_of (last_judgment j js)
unfolding rows_of_all
front_rows j [] = append-nil (rows_of j)
front_rows j (k ∷ js) =
    ap (λ (r : Rows). rows_of j ++ r) (front_rows k js) ∙ sym (append_assoc (rows_of j) (rows_of_all rows_of (front_of (k ∷ js))) (rows_of (last_judgment k js)))
    ∙ ap (λ (ts : List (Source one)). rows_of_all rows_of ts ++ rows_of (last_judgment k js)) (sym (front_more j k js))

-- The premises of a rule stand in its rows, and its conclusion behind them.
pub record JudgmentsStand (text : List ℕ) (rows : Rows) (p : ℕ) (j : Source one) (js : List (Source one)) (q : ℕ) : Type 0 where
  pub middle : ℕ
  pub premises : Stands text rows p (spelled text (all_of (front_of (j ∷ js)))) middle
  pub conclusion : Stands text rows middle (spelled text (last_judgment j js)) q

pub judgments_stand : (text : List ℕ) (before after : Rows) (j : Source one) (js : List (Source one))
    → JudgmentsStand text (before ++ (rows_of_all rows_of (j ∷ js) ++ after)) (length before) j js (length before + length (rows_of_all rows_of (j ∷ js)))
judgments_stand text before after j js =
    let front : Rows = rows_of_all rows_of (front_of (j ∷ js)) in
    let last : Rows = rows_of (last_judgment j js) in
    let e : rows_of_all rows_of (j ∷ js) ≡ front ++ last = front_rows j js in
    let l : length (front ++ last) ≡ length front + length last = length-append front last in
    let m : length (before ++ front) ≡ length before + length front = length-append before front in
    let a : before ++ ((front ++ last) ++ after) ≡ before ++ (front ++ (last ++ after)) = ap (λ (r : Rows). before ++ r) (append_assoc front last after) in
    let b : (before ++ front) ++ (last ++ after) ≡ before ++ (front ++ (last ++ after)) = append_assoc before front (last ++ after) in
    let p : Stands text (before ++ (front ++ (last ++ after))) (length before) (spelled text (all_of (front_of (j ∷ js)))) (length before + length front)
    = terms_stand text before (last ++ after) (front_of (j ∷ js)) in
    let c : Stands text ((before ++ front) ++ (last ++ after)) (length (before ++ front)) (spelled text (last_judgment j js)) (length (before ++ front) + length last)
    = stands text (before ++ front) after (last_judgment j js) in
    let c₁ : Stands text (before ++ (front ++ (last ++ after))) (length (before ++ front)) (spelled text (last_judgment j js)) (length (before ++ front) + length last) = rw b at c in
    let c₂ : Stands text (before ++ (front ++ (last ++ after))) (length before + length front) (spelled text (last_judgment j js)) (length before + length front + length last) = rw m at c₁ in
    let n : length before + length (front ++ last) ≡ length before + length front + length last = omega arith in
    rw (e, n, a) (record { middle = length before + length front; premises = p; conclusion = c₂ })

-- A clause: its row, its patterns and its right side.
pub record ClauseStands (text : List ℕ) (rows : Rows) (p : ℕ) (c : Clause) (q : ℕ) : Type 0 where
  pub within : p < length rows
  pub row : get_or rows p [] ≡ clause_kind ∷ 0 ∷ 0 ∷ length c.patterns ∷ []
  pub middle : ℕ
  pub patterns : Stands text rows (p + 1) (spelled text (all_of c.patterns)) middle
  pub right : Stands text rows middle (spelled text c.body) q

pub clause_stands : (text : List ℕ) (before after : Rows) (c : Clause) → ClauseStands text (before ++ (clause_rows c ++ after)) (length before) c (length before + length (clause_rows c))
clause_stands text before after c =
    let first : List ℕ = clause_kind ∷ 0 ∷ 0 ∷ length c.patterns ∷ [] in
    let head : Rows = before ++ (first ∷ []) in
    let ps : Rows = rows_of_all rows_of c.patterns in
    let b : Rows = rows_of c.body in
    let whole : Rows = before ++ (first ∷ ((ps ++ b) ++ after)) in
    let h : length head ≡ length before + 1 = length-append before (first ∷ []) in
    let k : length (ps ++ b) ≡ length ps + length b = length-append ps b in
    let m : length (head ++ ps) ≡ length head + length ps = length-append head ps in
    let w : length whole ≡ length before + suc (length ((ps ++ b) ++ after)) = length-append before (first ∷ ((ps ++ b) ++ after)) in
    let a₁ : head ++ (ps ++ (b ++ after)) ≡ before ++ (first ∷ (ps ++ (b ++ after))) = append_assoc before (first ∷ []) (ps ++ (b ++ after)) in
    let a₂ : (ps ++ b) ++ after ≡ ps ++ (b ++ after) = append_assoc ps b after in
    let e : head ++ (ps ++ (b ++ after)) ≡ whole = a₁ ∙ ap (λ (r : Rows). before ++ (first ∷ r)) (sym a₂) in
    let d : (head ++ ps) ++ (b ++ after) ≡ whole = append_assoc head ps (b ++ after) ∙ e in
    let s : Stands text (head ++ (ps ++ (b ++ after))) (length head) (spelled text (all_of c.patterns)) (length head + length ps) = terms_stand text head (b ++ after) c.patterns in
    let t : Stands text ((head ++ ps) ++ (b ++ after)) (length (head ++ ps)) (spelled text c.body) (length (head ++ ps) + length b) = stands text (head ++ ps) after c.body in
    let s₁ : Stands text whole (length before + 1) (spelled text (all_of c.patterns)) (length before + 1 + length ps) = rw h at (rw e at s) in
    let t₁ : Stands text whole (length before + 1 + length ps) (spelled text c.body) (length before + 1 + length ps + length b) = rw h at (rw m at (rw d at t)) in
    let q : length before + 1 + length ps + length b ≡ length before + suc (length (ps ++ b)) = omega arith in
    record {
      within = omega arith;
      row = get_or-append_seam before first ((ps ++ b) ++ after) [];
      middle = length before + 1 + length ps;
      patterns = s₁;
      right = rw q at t₁;
    }
