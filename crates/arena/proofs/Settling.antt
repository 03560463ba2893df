-- Taking up a link, and the pass over all: ways out and the loop's invariant.
use Prim.Native.Nat.{ℕ, suc, ◌+◌, ◌-◌, ◌≤◌, ◌<◌}
use native.Mathlib.Omega.{arith}
use mathlib.Core.Path.{◌≡◌, refl, sym, ap, ◌∙◌}
use mathlib.Core.Bool.{Bool, true, false}
use mathlib.Core.Logic.{◌⊎◌, inl, inr, ⊎_elim}
use mathlib.Core.List.{List}
use Rattle.std.proofs.Common.{max}
use lib.ListN.{length, set, length-set}
use lib.Seq.{ext_get_or}
use Rattle.terms.specs.Numbers.{by_same, by_bool, true_false}
use Rattle.arena.specs.Cells.{headers, cells, arity_of, denote, Reference, low_or_high, reference_up}
use Rattle.arena.specs.Arguments.{arguments_in, arguments_long, argument_in}
use Rattle.arena.specs.Form.{is_argument}
use Rattle.arena.specs.FormLaws.{argument_reference, reference_accepted}
use Rattle.arena.specs.Links.{Descending, Agrees, Each, Joined, Linkable, Arguments, Comparable, Settled}
use Rattle.arena.specs.Equality.{Ready, Compared}
use Rattle.arena.specs.EqualityLaws.{alike_same, alike_not, variable_apart, nodes_equal, equal_headers, equal_arguments}
use Rattle.arena.proofs.Linking.{set_other, set_here, ordered, joined_same}

-- A reference in form, as a test.
abbrev test : ℕ → List ℕ → ℕ → ℕ → ℕ → Bool
test room w nv used r = is_argument (record { words = w; room = room; variables = nv; from = 0 }) used r

reference_test : (room : ℕ) (w : List ℕ) (nv used r : ℕ) → Reference room (cells w) nv used r → test room w nv used r ≡ true
reference_test room w nv used r h = reference_accepted (record { words = w; room = room; variables = nv; from = 0 }) used r h (λ l. omega arith)

test_reference : (room : ℕ) (w : List ℕ) (nv used r : ℕ) → test room w nv used r ≡ true → Reference room (cells w) nv used r
test_reference room w nv used r e = argument_reference (record { words = w; room = room; variables = nv; from = 0 }) used r e

-- The header of the node at the address `at`, read by its reference.
pub header_at : (room : ℕ) (w : List ℕ) (at : ℕ) {x : ℕ} → x ≡ cells w (room + at - room) → x ≡ cells w at
header_at room w at e = let d : room + at - room ≡ at = omega arith in rw d at e

module _ (room : ℕ) (w L : List ℕ) (nv used at : ℕ) (h : Comparable room w L nv used) (in_use : at < used) where
  -- There is no link.
  pub settle_none : (same : Bool) (low : ℕ) → cells L at ≡ 0 → Settled room w L L nv used at same low low same
  settle_none same low z = record {
    long = refl;
    floor = λ k. k;
    kept = h;
    cleared = λ k i l. by_same i at (λ e _. rw e z) (λ n _. k i (omega arith));
    back = λ e. (e, λ u. u);
    forth = λ _ u. u;
    no = λ e. inl e;
  }

  -- The link removed.
  gone : (i z : ℕ) → cells (set L at 0) i ≡ suc z → cells L i ≡ suc z
  gone i z e = by_same i at
      (λ q _. let s = h.scratch in let k = set_here L at 0 (omega arith) in let e' : cells (set L at 0) at ≡ suc z = rw q at e in let x : ⊥ = omega arith in absurd x)
      (λ n _. sym (set_other L at 0 i n) ∙ e)

  pub gone_form : Descending room (cells (set L at 0))
  gone_form = record { node = λ i z e. h.form.node i z (gone i z e); below = λ i z e. h.form.below i z (gone i z e) }

  gone_kept : Comparable room w (set L at 0) nv used
  gone_kept = let n = length-set L at 0 in let s = h.scratch in record
      { formed = h.formed; small = h.small; words_in_lem = h.words_in_lem; scratch = omega arith; form = gone_form; references = λ i z e. h.references i z (gone i z e) }

  gone_cleared : ((i : ℕ) → at < i → cells L i ≡ 0) → (i : ℕ) → at ≤ i → cells (set L at 0) i ≡ 0
  gone_cleared k i l = by_same i at
      (λ e _. let s = h.scratch in rw e (set_here L at 0 (omega arith)))
      (λ n _. set_other L at 0 i n ∙ k i (omega arith))

  gone_floor : (low : ℕ) → ((i : ℕ) → i < low → cells L i ≡ 0) → (i : ℕ) → i < low → cells (set L at 0) i ≡ 0
  gone_floor low k i l = by_same i at
      (λ e _. let s = h.scratch in rw e (set_here L at 0 (omega arith)))
      (λ n _. set_other L at 0 i n ∙ k i l)

  -- The answer was false before.
  pub settle_no : (same : Bool) (low : ℕ) → same ≡ false → Settled room w L (set L at 0) nv used at same low low false
  settle_no same low e = record {
    long = length-set L at 0;
    floor = gone_floor low;
    kept = gone_kept;
    cleared = gone_cleared;
    back = λ f. true_false f refl;
    forth = λ f. true_false f refl;
    no = λ _. inl e;
  }

  -- There is a link, to the node at the address b.
  module _ (z b : ℕ) (linked : cells L at ≡ suc z) (to : b ≡ z - room) where
    pub room_for : room ≤ z
    room_for = h.form.node at z linked

    link_is : cells L at ≡ suc (room + b)
    link_is = let q = room_for in omega arith

    pub lower : b < at
    lower = let q = h.form.below at (room + b) link_is in omega arith

    first : Reference room (cells w) nv used (room + at)
    first = (h.references at (room + b) link_is).0

    second : Reference room (cells w) nv used (room + b)
    second = (h.references at (room + b) link_is).1

    header_first : headers ≤ cells w at
    header_first = let d : room + at - room ≡ at = omega arith in rw d at (first.header (omega arith))

    header_second : headers ≤ cells w b
    header_second = let d : room + b - room ≡ b = omega arith in rw d at (second.header (omega arith))

    -- The headers differ.
    pub settle_clash : (same : Bool) (low : ℕ) → (cells w at ≡ cells w b → ⊥) → Settled room w L (set L at 0) nv used at same low low false
    settle_clash same low d = record {
      long = length-set L at 0;
      floor = gone_floor low;
      kept = gone_kept;
      cleared = gone_cleared;
      back = λ f. true_false f refl;
      forth = λ f. true_false f refl;
      no = λ _. inr (λ g. d (equal_headers room (cells w) nv used h.formed at b first second (g at (room + b) link_is)));
    }

    -- The headers are the same.
    module _ (e : cells w at ≡ cells w b) where
      argument_first : (i : ℕ) → i < arity_of (cells w at) → Reference room (cells w) nv at (cells w (at + suc i))
      argument_first i l = h.formed.arguments at i in_use header_first l

      argument_second : (i : ℕ) → i < arity_of (cells w at) → Reference room (cells w) nv b (cells w (b + suc i))
      argument_second i l = let s = lower in h.formed.arguments b i (omega arith) header_second (rw e at l)

      under : (x c : ℕ) → Reference room (cells w) nv c x → x < room + c ⊎ x < room
      under x c r = ⊎_elim inr (λ l. inl (r.node l)) (low_or_high room x room)

      -- The words of both nodes' arguments.
      abbrev firsts : List ℕ
      firsts = arguments_in w at

      abbrev seconds : List ℕ
      seconds = arguments_in w b

      pub first_in : at + arity_of (cells w at) < length w
      first_in = let p = h.formed.fits at in_use header_first in let k = h.words_in_lem in omega arith

      pub second_in : b + arity_of (cells w b) < length w
      second_in = let s = lower in let q = h.formed.fits b (omega arith) header_second in let k = h.words_in_lem in omega arith

      first_cell : {i : ℕ} → i < arity_of (cells w at) → cells firsts i ≡ cells w (at + suc i)
      first_cell {i} l = let d : suc at + i ≡ at + suc i = omega arith in argument_in w at i l ∙ ap (cells w) d

      second_cell : {i : ℕ} → i < arity_of (cells w at) → cells seconds i ≡ cells w (b + suc i)
      second_cell {i} l = let d : suc b + i ≡ b + suc i = omega arith in argument_in w b i (rw e at l) ∙ ap (cells w) d

      pub arguments_linkable : Arguments room firsts seconds (set L at 0)
      arguments_linkable =
          let s = lower in
          let c = h.scratch in
          let m = length-set L at 0 in
          let n = arguments_long w at first_in in
          record {
            form = gone_form;
            like = n ∙ ap arity_of e ∙ sym (arguments_long w b second_in);
            lefts = λ i l. let k : i < arity_of (cells w at) = omega arith in
                rw (first_cell k) (⊎_elim (λ v. omega arith) (λ v. omega arith) (under (cells w (at + suc i)) at (argument_first i k)));
            rights = λ i l. let k : i < arity_of (cells w at) = omega arith in
                rw (second_cell k) (⊎_elim (λ v. omega arith) (λ v. omega arith) (under (cells w (b + suc i)) b (argument_second i k)));
          }

      module _ (L' : List ℕ) (low low' : ℕ) (r : Bool) (parts : Joined room (set L at 0) L' (length firsts) (cells firsts) (cells seconds) low low' r) where
        j : Joined room (set L at 0) L' (arity_of (cells w at)) (λ i. cells w (at + suc i)) (λ i. cells w (b + suc i)) low low' r
        j = joined_same room (set L at 0) (cells firsts) (cells seconds) (λ i. cells w (at + suc i)) (λ i. cells w (b + suc i)) L' (arity_of (cells w at)) low low' r
            (λ i k. first_cell k)
            (λ i k. second_cell k)
            (rw (arguments_long w at first_in) at parts)

        joined_above : (i : ℕ) → at ≤ i → cells L' i ≡ cells (set L at 0) i
        joined_above i l = j.above (room + at)
            (λ i m. let s = lower in (
              ⊎_elim (λ v. v) (λ v. omega arith) (under (cells w (at + suc i)) at (argument_first i m)),
              ⊎_elim (λ v. omega arith) (λ v. omega arith) (under (cells w (b + suc i)) b (argument_second i m)),
            ))
            i (omega arith)

        joined_references : Each room (test room w nv used) (cells L')
        joined_references = j.good (test room w nv used)
            (λ i z d. let v = h.references i z (gone i z d) in (reference_test room w nv used (room + i) v.0, reference_test room w nv used z v.1))
            (λ i m. let s = lower in (
              reference_test room w nv used (cells w (at + suc i)) (reference_up room (omega arith) (omega arith) (argument_first i m)),
              reference_test room w nv used (cells w (b + suc i)) (reference_up room (omega arith) (omega arith) (argument_second i m)),
            ))

        joined_kept : Comparable room w L' nv used
        joined_kept =
            let n₁ = j.long in let n₂ = length-set L at 0 in let s = h.scratch in
            record {
              formed = h.formed;
              small = h.small;
              words_in_lem = h.words_in_lem;
              scratch = omega arith;
              form = j.form;
              references = λ i z d. let v = joined_references i z d in (test_reference room w nv used (room + i) v.0, test_reference room w nv used z v.1);
            }

        pub settle_linked : (same : Bool) → same ≡ true → Settled room w L L' nv used at same low low' r
        settle_linked same q =
            let g = denote room (cells w) in
            let pairs : denote room (cells w) (room + at) ≡ denote room (cells w) (room + b) → (i : ℕ) → i < arity_of (cells w at) → denote room (cells w) (cells w (at + suc i)) ≡ denote room (cells w) (cells w (b + suc i)) =
            equal_arguments room (cells w) nv used h.formed at b first second in
            record {
              long = j.long ∙ length-set L at 0;
              floor = λ k. j.floor (gone_floor low k);
              kept = joined_kept;
              cleared = λ k i l. joined_above i l ∙ gone_cleared k i l;
              back = λ f. (
                q,
                λ u.
                    let v = j.back f (denote room (cells w)) u in
                    λ i z d. by_same i at
                    (λ c _. let d' : cells L at ≡ suc z = rw c at d in
                    let t : room + b ≡ z = (let x = link_is in omega arith) in
                    rw (c, ← t) (nodes_equal room (cells w) nv used h.formed at b first second e v.1))
                    (λ n _. v.0 i z (set_other L at 0 i n ∙ d)),
              );
              forth = λ f u. j.forth f (denote room (cells w)) (λ i z d. u i z (gone i z d)) (pairs (u at (room + b) link_is));
              no = λ f. inr (λ u. j.no f (denote room (cells w)) (variable_apart room (cells w)) (λ i z d. u i z (gone i z d)) (pairs (u at (room + b) link_is)));
            }

-- The pass: links at addresses from `at` on are taken up.
module _ (room : ℕ) (w : List ℕ) (nv used a b : ℕ) where
  pub record Passing (L : List ℕ) (at low : ℕ) (same : Bool) : Type 0 where
    pub kept : Comparable room w L nv used
    pub within : at ≤ used
    pub cleared : (i : ℕ) → at ≤ i → cells L i ≡ 0
    pub floor : (i : ℕ) → i < low → cells L i ≡ 0
    pub back : same ≡ true → Agrees room (denote room (cells w)) (cells L) → denote room (cells w) a ≡ denote room (cells w) b
    pub forth : same ≡ true → denote room (cells w) a ≡ denote room (cells w) b → Agrees room (denote room (cells w)) (cells L)
    pub no : same ≡ false → denote room (cells w) a ≡ denote room (cells w) b → ⊥

  -- A reference in form has a link, and is below the headers.
  reference_low : (x : ℕ) → Reference room (cells w) nv used x → x < room + used
  reference_low x p = ⊎_elim (λ l. omega arith) (λ l. p.node l) (low_or_high room x room)

  pub ready_linkable : (L : List ℕ) → Ready room w L nv used a b → Linkable room L a b
  ready_linkable L k = let s = k.scratch in let p = reference_low a k.left in let q = reference_low b k.right in record {
    form = record {
      node = λ i z d. let o = k.zero_before i in let x : ⊥ = omega arith in absurd x;
      below = λ i z d. let o = k.zero_before i in let x : ⊥ = omega arith in absurd x;
    };
    left = omega arith;
    right = omega arith;
  }

  pub ready_low : (L : List ℕ) (x : ℕ) → Ready room w L nv used a b → x ≡ max a b → x < headers
  ready_low L x k e = let s = k.small in let p = reference_low a k.left in let q = reference_low b k.right in
      rw e (ordered (λ x y. x < headers) a b (λ l. omega arith) (λ l. omega arith))

  pub pass_start : (L L' : List ℕ) (at low low' : ℕ) (r : Bool) → Ready room w L nv used a b → Joined room L L' 1 (λ _. a) (λ _. b) low low' r → at ≡ suc (max a b) - room
      → Passing L' at low' r
  pass_start L L' at low low' r k j e =
      let top : (a ≤ max a b) × (b ≤ max a b) = ordered (λ x y. (a ≤ x) × (b ≤ x)) a b (λ l. (omega arith, omega arith)) (λ l. (omega arith, l)) in
      let n = j.long in
      let s = k.scratch in
      let p = reference_low a k.left in
      let q = reference_low b k.right in
      let none : Agrees room (denote room (cells w)) (cells L) = (λ i z d. let o = k.zero_before i in let x : ⊥ = omega arith in absurd x) in
      let refs : Each room (test room w nv used) (cells L') = j.good (test room w nv used)
      (λ i z d. let o = k.zero_before i in let x : ⊥ = omega arith in absurd x)
      (λ _ _. (reference_test room w nv used a k.left, reference_test room w nv used b k.right)) in
      record {
        kept = record {
          formed = k.formed;
          small = k.small;
          words_in_lem = k.words_in_lem;
          scratch = omega arith;
          form = j.form;
          references = λ i z d. let v = refs i z d in (test_reference room w nv used (room + i) v.0, test_reference room w nv used z v.1);
        };
        within = rw e (ordered (λ x y. suc x - room ≤ used) a b (λ l. omega arith) (λ l. omega arith));
        cleared = λ i l. j.above (suc (max a b)) (λ _ _. (omega arith, omega arith)) i (omega arith) ∙ k.zero_before i;
        floor = j.floor (λ i l. k.zero_before i);
        back = λ f u. (j.back f (denote room (cells w)) u).1 0 (omega arith);
        forth = λ f u. j.forth f (denote room (cells w)) none (λ _ _. u);
        no = λ f u. j.no f (denote room (cells w)) (variable_apart room (cells w)) none (λ _ _. u);
      }

  pub pass_step : (L L' : List ℕ) (at low low' : ℕ) (same r : Bool) → 0 < at → Passing L at low same → Settled room w L L' nv used (at - 1) same low low' r
      → Passing L' (at - 1) low' r
  pass_step L L' at low low' same r l h k = let v = h.within in record {
    kept = k.kept;
    within = omega arith;
    cleared = k.cleared (λ i m. h.cleared i (omega arith));
    floor = k.floor h.floor;
    back = λ f u. let b = k.back f in h.back b.0 (b.1 u);
    forth = λ f u. k.forth f (h.forth (k.back f).0 u);
    no = λ f u. by_bool same
        (λ e. ⊎_elim (λ d. true_false e d) (λ d. d (h.forth e u)) (k.no f))
        (λ e. h.no e u);
  }

  -- At the end there are no links.
  pass_none : (L : List ℕ) (at low : ℕ) (same : Bool) → at ≤ low → Passing L at low same → (i : ℕ) → cells L i ≡ 0
  pass_none L at low same d h i = ⊎_elim (λ l. h.floor i (omega arith)) (λ l. h.cleared i l) (low_or_high room i at)

  pub pass_end : (L₀ L : List ℕ) (at low : ℕ) (same : Bool) → Ready room w L₀ nv used a b → length L ≡ length L₀ → at ≤ low → Passing L at low same
      → Compared room (cells w) L₀ L a b same
  pass_end L₀ L at low same k n done h = record {
    exact = by_bool same
        (λ e. e ∙ sym (alike_same (denote room (cells w) a) (denote room (cells w) b) (h.back e (λ i z d. let o = pass_none L at low same done h i in let x : ⊥ = omega arith in absurd x))))
        (λ e. e ∙ sym (alike_not (denote room (cells w) a) (denote room (cells w) b) (h.no e)));
    restored = ext_get_or 0 L L₀ n (λ i l. pass_none L at low same done h i ∙ sym (k.zero_before i));
  }
