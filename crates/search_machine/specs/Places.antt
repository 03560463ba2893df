-- A place taken apart: the application that it belongs to, what is pending there, and the reference of its next premise.
use Rattle.std.specs.Prelude.{ℕ, suc, ◌+◌, ◌-◌, ◌≤◌, ◌<◌, ◌≡◌, refl, List, [], ◌∷◌, length, get_or}
use Rattle.std.proofs.Common.{arith, ap, sym, ◌∙◌, subst, ⊎_elim}
use Rattle.arena.specs.Cells.{headers, Cells, Reference, cells, low_or_high}
use Rattle.arena.specs.Copies.{pattern_room, term_room, moved, Movable}
use Rattle.arena.specs.CopyLaws.{moved_variable, moved_node}
use Rattle.arena.specs.Rows.{Rows}
use Rattle.names.specs.Symbols.{column, row_at}
use Rattle.names.specs.SearchLaws.{columns_length, columns_at}
use Rattle.resolution.specs.Search.{Work, goal, build, goals}
use Rattle.resolution.specs.Preorder.{builds}
use Rattle.rules.specs.StoredRows.{heads_in, places_in}
use Rattle.attempts.specs.StoredRules.{Part, Root}
use Rattle.search_machine.specs.Storage.{PremiseAsked}
use Rattle.search_machine.specs.State.{term, Refers, span, arity, RulesStored, frame_at, premise_ref, pending, Place, top, inside}
use Rattle.search_machine.specs.declared.frames.Frame.{Frame}

-- A place inside an application that reads x.
pub record Within (D n : ℕ) (R F : Rows) (W : List ℕ) (v u p i : ℕ) (x : Frame) (ws : List Work) : Type 0 where
  pub reads : frame_at F (p - 1) ≡ x
  pub known : x.rule < n
  pub parent : x.parent < p
  pub here : i ≤ arity R x.rule
  pub used : x.used ≤ u
  pub goal : Refers W v u x.goal
  pub premises : (k : ℕ) → k < arity R x.rule → Refers W v u (premise_ref R x k)
  pub rest : List Work
  pub outer : Place D n R F W v u x.parent (suc x.place) rest
  pub level : x.depth + suc (builds rest) ≡ D
  pub works : ws ≡ pending R W x i rest

pub place_within : {D n : ℕ} {R F : Rows} {W : List ℕ} {v u p i : ℕ} {ws : List Work} (y : Frame) → y ≡ frame_at F (p - 1) → 0 < p
    → Place D n R F W v u p i ws → Within D n R F W v u p i y ws
place_within y ry h (top l) = absurd (omega arith)
place_within {D} {n} {R} {F} {W} {v} {u} y ry h (inside {j} {i} {w} {ws} {x} e known parent li used g ps outer level q) =
    let rd : frame_at F (suc j - 1) ≡ x = ap (frame_at F) (let z : suc j - 1 ≡ j = omega arith in z) ∙ e in
    subst (λ (x : Frame). Within D n R F W v u (suc j) i x ws) (sym rd ∙ sym ry)
    (record {
      reads = rd;
      known = known;
      parent = omega arith;
      here = li;
      used = used;
      goal = g;
      premises = ps;
      rest = w;
      outer = outer;
      level = level;
      works = q;
    })

-- A place has at most 16 premises before it.
pub place_small : {D n : ℕ} {P : List ℕ} {R F : Rows} {W : List ℕ} {v u p i : ℕ} {ws : List Work} → RulesStored P R n
    → Place D n R F W v u p i ws → i ≤ 16
unfolding arity
place_small rs (top l) = omega arith
place_small {R = R} rs (inside {x = x} e known parent li used g ps outer level q) = let b = rs.premises x.rule known in omega arith

pub place_top : {D n : ℕ} {R F : Rows} {W : List ℕ} {v u p i : ℕ} {ws : List Work} → p ≡ 0 → Place D n R F W v u p i ws → ws ≡ []
place_top h (top l) = refl
place_top h (inside e known parent li used g ps outer level q) = absurd (omega arith)

-- The same place, one premise on.
pub place_next : {D n : ℕ} {R F : Rows} {W : List ℕ} {v u p i : ℕ} {x : Frame} {ws : List Work} (d : Within D n R F W v u p i x ws) → 0 < p
    → i < arity R x.rule
    → Place D n R F W v u p (suc i) (pending R W x (suc i) d.rest)
place_next {D} {n} {R} {F} {W} {v} {u} {p} {i} {x} d h l =
    let b = d.parent in
    subst (λ (q : ℕ). Place D n R F W v u q (suc i) (pending R W x (suc i) d.rest)) (let z : suc (p - 1) ≡ p = omega arith in z)
    (inside d.reads d.known (omega arith) (omega arith) d.used d.goal d.premises d.outer d.level refl)

pub pending_goal : (R : Rows) (W : List ℕ) (x : Frame) (i : ℕ) (w : List Work) → i < arity R x.rule
    → pending R W x i w ≡ goal (term W (premise_ref R x i)) x.depth ∷ pending R W x (suc i) w
pending_goal R W x i w l =
    ap (λ (n : ℕ). goals (span (λ (k : ℕ). term W (premise_ref R x k)) i n) x.depth
    (build x.rule (term W x.goal) (arity R x.rule) ∷ w))
    (let e : arity R x.rule - i ≡ suc (arity R x.rule - suc i) = omega arith in e)

pub pending_build : (R : Rows) (W : List ℕ) (x : Frame) (i : ℕ) (w : List Work) → i ≡ arity R x.rule
    → pending R W x i w ≡ build x.rule (term W x.goal) (arity R x.rule) ∷ w
pending_build R W x i w l =
    ap (λ (n : ℕ). goals (span (λ (k : ℕ). term W (premise_ref R x k)) i n) x.depth
    (build x.rule (term W x.goal) (arity R x.rule) ∷ w))
    (let e : arity R x.rule - i ≡ 0 = omega arith in e)

-- References are below the headers.
reference_low : (w : Cells) (v u r : ℕ) → term_room + u ≤ headers → Reference term_room w v u r → r < headers
reference_low w v u r l h = ⊎_elim (λ b. omega arith) (λ b. let n = h.node b in omega arith) (low_or_high term_room r term_room)

-- A premise's reference is a moved one, and so no sum was too large.
premise_movable : {pattern places : List ℕ} {from body n r : ℕ} → Part pattern places from body n → Root pattern places from body n r
    → (counter base : ℕ) → moved places counter (pattern_room + from) base r < headers → Movable places counter (pattern_room + from) base r
premise_movable {places = places} {from = from} {r = r} part root counter base low = record {
  listed = root.listed;
  number = λ l. let e = moved_variable places counter (pattern_room + from) base r l in omega arith;
  inside = λ l h. root.from_on l;
  address = λ l h. let e = moved_node places counter (pattern_room + from) base r l h in omega arith;
}

pub premise_asked : {D n : ℕ} {P : List ℕ} {R F : Rows} {W : List ℕ} {v u p i : ℕ} {x : Frame} {ws : List Work} → RulesStored P R n
    → Within D n R F W v u p i x ws
    → term_room + u ≤ headers → i < arity R x.rule → PremiseAsked R x i
unfolding arity premise_ref
premise_asked {R = R} {W = W} {v = v} {u = u} {i = i} {x = x} rs d low l =
    let lent = rs.lent in
    let known = d.known in
    let few = rs.premises x.rule known in
    let vars = rs.variables x.rule known in
    let row = rs.stored x.rule known in
    let used = d.used in
    let bl = row.body_part.low in
    let hl = row.head_part.low in
    let at : get_or (heads_in (row_at R x.rule)) i 0 ≡ column (row_at R x.rule) (10 + i) = columns_at (row_at R x.rule) 10
    (column (row_at R x.rule) 4) i l in
    let long : length (heads_in (row_at R x.rule)) ≡ column (row_at R x.rule) 4 = columns_length (row_at R x.rule) 10
    (column (row_at R x.rule) 4) in
    let root = row.premise i (omega arith) in
    record {
      known = omega arith;
      place = omega arith;
      variables = vars;
      premise = at;
      first = omega arith;
      used = omega arith;
      head = omega arith;
      movable = subst (λ (r : ℕ). Movable (places_in (row_at R x.rule)) x.counter (pattern_room + column (row_at R x.rule) 6)
          (term_room + (x.used + column (row_at R x.rule) 8)) r) at
          (premise_movable row.body_part root x.counter (term_room + (x.used + column (row_at R x.rule) 8))
          (reference_low (cells W) v u _ low (d.premises i l)));
    }
