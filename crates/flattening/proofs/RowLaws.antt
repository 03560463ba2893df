-- Rows may be moved: what stands in them does not change.
use mathlib.Core.Path.{◌≡◌, refl, ap, ◌∙◌}
use mathlib.Core.List.{List, [], ◌∷◌, ◌++◌}
use Prim.Native.Nat.{ℕ, suc, ◌+◌, ◌*◌, ◌-◌, ◌≤◌, ◌<◌}
use native.Mathlib.Omega.{arith}
use lib.ListN.{length, take, drop}
use borrow.Rule.Slice.PartMut.{put_mid, post_of}
use Rattle.std.proofs.lemmas.List.{length-append, length-take, length-take-le, length-drop, get_or-take, get_or-drop, get_or_append_left, get_or-append_right}
use Rattle.source_text.specs.Parts.{part_of}
use Rattle.term_parser.specs.Source.{Arity, one, many}
use Rattle.term_parser.specs.Rows.{application_kind}
use Rattle.term_parser.specs.Standing.{Written, number, meta, called, applied, nil as none, cons as more, size}
use Rattle.names.specs.Names.{Name, name_in, result_name, result_kind, result_length, result_name_lem}
use Rattle.names.specs.Symbols.{Rows, column, row_at}
use Rattle.names.specs.Standing.{Named, Stands}
use Rattle.flattening.specs.Flattening.{snoc}
use Rattle.flattening.specs.Promises.{Copied}

pub forward : {n : Arity} (text : List ℕ) (rows : Rows) (t : Written n) (p q : ℕ) → Stands text rows p t q → p ≤ q
unfolding Stands
forward text rows (number v) p q h = omega arith
forward text rows (meta w) p q h = omega arith
forward text rows (called w) p q h = omega arith
forward text rows (applied w ts) p q h = let x = forward text rows ts (p + 1) q h.2 in omega arith
forward text rows none p q h = omega arith
forward text rows (more t ts) p q h =
    let x = forward text rows t p h.0 h.1 in
    let y = forward text rows ts h.0 q h.2 in
    omega arith

named_there : {text : List ℕ} {rows rows' : Rows} {p p' k : ℕ} {w : Name} → Named text rows p k w → row_at rows' p' ≡ row_at rows p → p' < length rows' → Named text rows' p' k w
named_there h e l = record { within = l; spells = rw e h.spells; counts = rw e h.counts }

first_row : (rows rows' : Rows) (p p' n : ℕ) → ((i : ℕ) → i < n → row_at rows' (p' + i) ≡ row_at rows (p + i)) → 0 < n → row_at rows' p' ≡ row_at rows p
first_row rows rows' p p' n f l =
    let a : p' + 0 ≡ p' = omega arith in
    let b : p + 0 ≡ p = omega arith in
    rw (a, b) at (f 0 l)

-- The rows from p on and before q stand from p' on too.
pub moved : {n : Arity} (text : List ℕ) (rows rows' : Rows) (t : Written n) (p p' q q' : ℕ) → Stands text rows p t q → ((i : ℕ) → i < q - p → row_at rows' (p' + i) ≡ row_at rows (p + i))
    → q' ≡ p' + (q - p) → q' ≤ length rows' → Stands text rows' p' t q'
unfolding Stands
moved text rows rows' (number v) p p' q q' h f e l =
    let r = first_row rows rows' p p' (q - p) f (omega arith) in
    (omega arith, rw r h.1, rw r h.2, omega arith)
moved text rows rows' (meta w) p p' q q' h f e l =
    let r = first_row rows rows' p p' (q - p) f (omega arith) in
    (named_there h.0 r (omega arith), rw r h.1, omega arith)
moved text rows rows' (called w) p p' q q' h f e l =
    let r = first_row rows rows' p p' (q - p) f (omega arith) in
    (named_there h.0 r (omega arith), rw r h.1, omega arith)
moved text rows rows' (applied w ts) p p' q q' h f e l =
    let x = forward text rows ts (p + 1) q h.2 in
    let r = first_row rows rows' p p' (q - p) f (omega arith) in (
      named_there h.0 r (omega arith),
      rw r h.1,
      moved text rows rows' ts (p + 1) (p' + 1) q q' h.2
          (λ i j. let a : p' + 1 + i ≡ p' + (1 + i) = omega arith in let b : p + 1 + i ≡ p + (1 + i) = omega arith in rw (a, b) (f (1 + i) (omega arith))) (omega arith) l,
    )
moved text rows rows' none p p' q q' h f e l = omega arith
moved text rows rows' (more t ts) p p' q q' h f e l =
    let x = forward text rows t p h.0 h.1 in
    let y = forward text rows ts h.0 q h.2 in (
      p' + (h.0 - p),
      moved text rows rows' t p p' h.0 (p' + (h.0 - p)) h.1 (λ i j. f i (omega arith)) refl (omega arith),
      moved text rows rows' ts h.0 (p' + (h.0 - p)) q q' h.2
          (λ i j. let a : p' + (h.0 - p) + i ≡ p' + (h.0 - p + i) = omega arith in let b : h.0 + i ≡ p + (h.0 - p + i) = omega arith in rw (a, b) (f (h.0 - p + i) (omega arith))) (omega arith) l,
    )

-- One term more at the end.
pub stands_snoc : (text : List ℕ) (rows : Rows) (us : Written many) (t : Written one) (p m q : ℕ) → Stands text rows p us m → Stands text rows m t q → Stands text rows p (snoc us t) q
unfolding Stands
stands_snoc text rows none t p m q a b = (q, rw a at b, refl)
stands_snoc text rows (more u us) t p m q a b = (a.0, a.1, stands_snoc text rows us t a.0 m q a.2 b)

pub size_snoc : (us : Written many) (t : Written one) → size (snoc us t) ≡ 1 + size us
unfolding size
size_snoc none t = refl
size_snoc (more u us) t = ap (λ n. 1 + n) (size_snoc us t)

-- The rows that flattening writes.
pub stands_result : (text : List ℕ) (rows : Rows) (p j n : ℕ) → p < length rows → row_at rows p ≡ result_kind ∷ (16 * j) ∷ n ∷ 0 ∷ [] → n ≡ result_length j → j < 16
    → Stands text rows p (called (result_name (suc j))) (p + 1)
unfolding Stands
stands_result text rows p j n l r e h =
    (record { within = l; spells = rw (r, e) (result_name_lem text j h); counts = ap (λ x. column x 3) r }, rw r refl, refl)

pub stands_applied : (text : List ℕ) (rows : Rows) (p start n k : ℕ) (ts : Written many) (q : ℕ) → p < length rows → row_at rows p ≡ application_kind ∷ start ∷ n ∷ k ∷ [] → k ≡ size ts
    → Stands text rows (p + 1) ts q → Stands text rows p (applied (part_of text start n) ts) q
unfolding Stands name_in
stands_applied text rows p start n k ts q l r e h = (record { within = l; spells = rw r refl; counts = rw r e }, ap (λ x. column x 0) r, h)

-- Rows that are a part of `source` are written over n rows of `before`.
pub copied : (source before part : Rows) (first n at k : ℕ) → k ≡ n → first + n ≤ length source → at + n ≤ length before → part ≡ take n (drop first source)
    → Copied source before (put_mid at k before part) first n at
copied source before part first n at k same within fits is =
    let low = length-take-le at before (omega arith) in
    let long : length part ≡ n = rw is (omega (arith, length-take n (drop first source), length-drop first source)) in
    let rest = post_of at k before in
    record {
      kept = omega (arith, length-append (take at before) (part ++ rest), length-append part rest, length-drop k (drop at before), length-drop at before);
      below = λ i l. get_or_append_left (take at before) (part ++ rest) [] i (omega arith) ∙ get_or-take at before i [] l;
      here = λ i l. let e : at + i - at ≡ i = omega arith in
          get_or-append_right (take at before) (part ++ rest) at (at + i) [] low (omega arith) ∙ ap (λ (j : ℕ). row_at (part ++ rest) j) e
          ∙ get_or_append_left part rest [] i (omega arith) ∙ ap (λ (rows : Rows). row_at rows i) is
          ∙ get_or-take n (drop first source) i [] l ∙ get_or-drop first source i [];
    }
