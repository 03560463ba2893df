-- What rows stand for: terms with their names as bytes. The signature's contracts take their terms in this form.
use Rattle.std.specs.Prelude.{ℕ, ◌+◌, ◌<◌, min, ◌≡◌, refl, List, [], ◌∷◌, ◌++◌, length, get_or}
use Rattle.std.proofs.Common.{arith, sym, ap, ◌∙◌, subst, append_assoc, length-append}
use Rattle.std.proofs.Math.Seq.{get_or-append_seam}
use Rattle.words.specs.Names.{name_kind, metavariable_kind, numeral_kind}
use Rattle.source_text.specs.Parts.{part_of}
use Rattle.term_parser.specs.Source.{Place, place, Arity, one, many, Source, numeral, metavariable, name, application, none, more, count}
use Rattle.term_parser.specs.Rows.{Rows, row, application_kind, rows_of}

-- Terms as they are written: a numeral, a metavariable (its `?` is part of the name), a name, a name applied to terms.
pub data Written : Arity → Type 0 where
  number : ℕ → Written one
  meta : List ℕ → Written one
  called : List ℕ → Written one
  applied : List ℕ → Written many → Written one
  nil : Written many
  cons : Written one → Written many → Written many

unfoldable pub size : Written many → ℕ
size nil = 0
size (cons t ts) = 1 + size ts

-- The bytes at a place of the text.
abbrev pub bytes_at : List ℕ → Place → List ℕ
bytes_at text (place start n) = part_of text start n

-- A source term with its names as bytes of the text.
unfoldable pub spelled : {n : Arity} → List ℕ → Source n → Written n
spelled text (numeral p v) = number v
spelled text (metavariable p) = meta (bytes_at text p)
spelled text (name p) = called (bytes_at text p)
spelled text (application p ts) = applied (bytes_at text p) (spelled text ts)
spelled text none = nil
spelled text (more t ts) = cons (spelled text t) (spelled text ts)

-- The first rows of a kind and a spelling, and their number of arguments.
pub record RowAt (text : List ℕ) (rows : Rows) (p kind k : ℕ) (bytes : List ℕ) : Type 0 where
  pub within : p < length rows
  pub kinded : get_or (get_or rows p []) 0 0 ≡ kind
  pub spells : part_of text (get_or (get_or rows p []) 1 0) (get_or (get_or rows p []) 2 0) ≡ bytes
  pub counts : get_or (get_or rows p []) 3 0 ≡ k

-- The rows from p on and before q stand for a term, or for several terms.
unfoldable pub Stands : {n : Arity} → List ℕ → Rows → ℕ → Written n → ℕ → Type 0
Stands text rows p (number v) q = (p < length rows) × (get_or (get_or rows p []) 0 0 ≡ numeral_kind) × (get_or (get_or rows p []) 3 0 ≡ min v 4294967295) × (q ≡ p + 1)
Stands text rows p (meta w) q = RowAt text rows p metavariable_kind 0 w × (q ≡ p + 1)
Stands text rows p (called w) q = RowAt text rows p name_kind 0 w × (q ≡ p + 1)
Stands text rows p (applied w ts) q = RowAt text rows p application_kind (size ts) w × Stands text rows (p + 1) ts q
Stands text rows p nil q = q ≡ p
Stands text rows p (cons t ts) q = (m : ℕ) × Stands text rows p t m × Stands text rows m ts q

row_at_lem : (text : List ℕ) (before after : Rows) (kind k : ℕ) (p : Place) → RowAt text (before ++ (row kind p k ∷ after)) (length before) kind k (bytes_at text p)
row_at_lem text before after kind k (place s n) =
    let e = get_or-append_seam before (row kind (place s n) k) after [] in
    record {
      within = let l = length-append before (row kind (place s n) k ∷ after) in omega arith;
      kinded = ap (λ r. get_or r 0 0) e;
      spells = ap (λ r. part_of text (get_or r 1 0) (get_or r 2 0)) e;
      counts = ap (λ r. get_or r 3 0) e;
    }

numeral_at : (before after : Rows) (k : ℕ) (p : Place)
    → (length before < length (before ++ (row numeral_kind p k ∷ after))) × (get_or (get_or (before ++ (row numeral_kind p k ∷ after)) (length before) []) 0 0 ≡ numeral_kind)
    × (get_or (get_or (before ++ (row numeral_kind p k ∷ after)) (length before) []) 3 0 ≡ k)
numeral_at before after k (place s n) =
    let e = get_or-append_seam before (row numeral_kind (place s n) k) after [] in
    let l = length-append before (row numeral_kind (place s n) k ∷ after) in
    (omega arith, ap (λ r. get_or r 0 0) e, ap (λ r. get_or r 3 0) e)

size_spelled : (text : List ℕ) (ts : Source many) → size (spelled text ts) ≡ count ts
unfolding size spelled count
size_spelled text none = refl
size_spelled text (more t ts) = ap (λ n. 1 + n) (size_spelled text ts)

elsewhere : {n : Arity} (text : List ℕ) (t : Written n) {rows rows' : Rows} {p p' q q' : ℕ} → rows ≡ rows' → p ≡ p' → q ≡ q' → Stands text rows p t q → Stands text rows' p' t q'
elsewhere text t {rows} {rows'} {p} {p'} {q} {q'} a b c h =
    subst (λ (x : Rows). Stands text x p' t q') a (subst (λ (x : ℕ). Stands text rows x t q') b (subst (λ (x : ℕ). Stands text rows p t x) c h))

-- The rows of a term stand for it, wherever they are.
pub stands : {n : Arity} (text : List ℕ) (before after : Rows) (t : Source n) → Stands text (before ++ (rows_of t ++ after)) (length before) (spelled text t) (length before + length (rows_of t))
unfolding Stands spelled rows_of
stands text before after (numeral p v) = let (a, b, c) = numeral_at before after (min v 4294967295) p in (a, b, c, refl)
stands text before after (metavariable p) = (row_at_lem text before after metavariable_kind 0 p, refl)
stands text before after (name p) = (row_at_lem text before after name_kind 0 p, refl)
stands text before after (application p ts) =
    let r : Rows = row application_kind p (count ts) ∷ [] in
    let h = stands text (before ++ r) after ts in
    let l : length (before ++ r) ≡ length before + 1 = length-append before r in
    let e : (before ++ r) ++ (rows_of ts ++ after) ≡ before ++ (row application_kind p (count ts) ∷ (rows_of ts ++ after)) = append_assoc before r _ in (
      subst (λ (k : ℕ). RowAt text (before ++ (row application_kind p (count ts) ∷ (rows_of ts ++ after))) (length before) application_kind k (bytes_at text p)) (sym (size_spelled text ts)) (row_at_lem text before (rows_of ts ++ after) application_kind (count ts) p),
      elsewhere text (spelled text ts) e l (omega arith) h,
    )
stands text before after none = let e : length before + 0 ≡ length before = omega arith in e
stands text before after (more t ts) =
    let l : length (before ++ rows_of t) ≡ length before + length (rows_of t) = length-append before (rows_of t) in
    let m = length-append (rows_of t) (rows_of ts) in
    let e : before ++ (rows_of t ++ (rows_of ts ++ after)) ≡ before ++ ((rows_of t ++ rows_of ts) ++ after) = ap (λ z. before ++ z) (sym (append_assoc (rows_of t) _ _)) in (
      length before + length (rows_of t),
      elsewhere text (spelled text t) e refl refl (stands text before (rows_of ts ++ after) t),
      elsewhere text (spelled text ts) (append_assoc before (rows_of t) _ ∙ e) l (omega arith) (stands text (before ++ rows_of t) after ts),
    )
