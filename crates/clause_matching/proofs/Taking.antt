-- A variable against a value: it takes the value where it has none, and is compared where it has one.
use Prim.Native.Nat.{ℕ, suc, ◌+◌, ◌-◌, ◌≤◌, ◌<◌}
use native.Mathlib.Omega.{arith}
use mathlib.Core.Path.{◌≡◌, refl, ap, ◌∙◌}
use mathlib.Core.Logic.{◌≢◌}
use mathlib.Core.Bool.{Bool, true}
use mathlib.Core.Option.{Option, none, some}
use mathlib.Core.List.{List}
use lib.ListN.{get_or, length, set, length-set}
use lib.Seq.{get_or-set_same, get_or-set_other}
use Rattle.terms.specs.Numbers.{by_same, by_bool}
use Rattle.terms.specs.Term.{Term, var}
use Rattle.terms.specs.Bindings.{Bindings, bind, lookup}
use Rattle.arena.specs.Cells.{cells, headers}
use Rattle.arena.specs.Copies.{pattern_room}
use Rattle.arena.specs.Equality.{alike, Ready, Compared}
use Rattle.evaluation.specs.Matching.{takes, bind_of}
use Rattle.clause_matching.specs.Stored.{Value, Valued, Holds, value_at}
use Rattle.clause_matching.specs.Matching.{Says, Lent, Matched}

-- The environment once a variable has its value.
pub holds_more : (environment values : List ℕ) (used : ℕ) (β : Bindings) (x value : ℕ) → x < length environment → Value values used value → Holds environment values used β
    → Holds (set environment x (value + 1)) values used (bind x (value_at values value) β)
holds_more environment values used β x value l v h = record {
  valued = λ y m. by_same y x
      (λ p q. rw (q, p, get_or-set_same environment x (value + 1) 0 l) (
      let e : value + 1 - 1 ≡ value = omega arith in (let a : 0 < value + 1 = omega arith in a, rw e v, rw e refl)
      ))
      (λ p q. rw (q, get_or-set_other environment x y (value + 1) 0 p) (h.valued y m));
}

module _ {values : List ℕ} {used value : ℕ} {environment links : List ℕ} (x : ℕ) (s : x < pattern_room) (h : Lent values used value environment links) where
  pub value_low : value + 1 ≤ headers
  value_low = let a = h.root.node (omega arith) in let b = h.stored.low in omega arith

  new_says : (β : Bindings) (o : Option Term) → get_or environment x 0 ≡ 0 → Holds environment values used β → Valued values used (get_or environment x 0) o
      → Says (takes o x (value_at values value) β) true (set environment x (value + 1)) values used
  new_says β none z k v = (refl, holds_more environment values used β x value (let l = h.long in omega arith) h.root k)
  new_says β (some t) z k v = absurd (let a = v.0 in omega arith)

  pub take_new : get_or environment x 0 ≡ 0 → Matched (var x) values used value environment links true (set environment x (value + 1)) links
  unfolding bind_of
  take_new z = record {
    says = λ β k. new_says β (lookup β x) z k (k.valued x s);
    kept = length-set environment x (value + 1);
    restored = refl;
  }

  -- The value that a variable has.
  old_value : (o : Option Term) → get_or environment x 0 ≢ 0 → Valued values used (get_or environment x 0) o → Value values used (get_or environment x 0 - 1)
  old_value none n v = absurd (n v)
  old_value (some t) n v = v.1

  old_ready : get_or environment x 0 ≢ 0 → Ready 0 values links 0 used (get_or environment x 0 - 1) value
  old_ready n = let (β, k) = h.known in record {
    formed = h.stored.formed;
    small = (let l = h.stored.low in let z : 0 + used ≤ headers = omega arith in z);
    words_in_lem = h.stored.within;
    scratch = h.linked.long;
    zero_before = h.linked.clear;
    left = old_value (lookup β x) n (k.valued x s);
    right = h.root;
  }

  pub compare_ready : (old : ℕ) → get_or environment x 0 ≡ suc old → Ready 0 values links 0 used old value
  compare_ready old e =
      let q : get_or environment x 0 - 1 ≡ old = omega arith in
      rw q at (old_ready (λ z. let b : ⊥ = omega arith in b))

  old_says : (β : Bindings) (o : Option Term) (r : Bool) → get_or environment x 0 ≢ 0 → Holds environment values used β → Valued values used (get_or environment x 0) o
      → r ≡ alike (value_at values (get_or environment x 0 - 1)) (value_at values value) → Says (takes o x (value_at values value) β) r environment values used
  old_says β none r n k v e = absurd (n v)
  old_says β (some t) r n k v e =
      let q : r ≡ alike t (value_at values value) = e ∙ ap (λ u. alike u (value_at values value)) v.2 in
      by_bool (alike t (value_at values value)) (λ p. rw p (q ∙ p, k)) (λ p. rw p (q ∙ p))

  pub take_old : (old : ℕ) → get_or environment x 0 ≡ suc old → (r : Bool) (links' : List ℕ) → Compared 0 (cells values) links links' old value r
      → Matched (var x) values used value environment links r environment links'
  unfolding bind_of
  take_old old e r links' c = record {
    says = λ β k.
        let q : old ≡ get_or environment x 0 - 1 = omega arith in
        old_says β (lookup β x) r (λ z. let b : ⊥ = omega arith in b) k (k.valued x s) (rw q at c.exact);
    kept = refl;
    restored = c.restored;
  }
