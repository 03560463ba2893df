-- Laws of clearing: one element more, and what a list is of which all that was written is cleared.
use Rattle.std.specs.Prelude.{ℕ, ◌+◌, ◌-◌, ◌++◌, ◌≤◌, ◌<◌, ◌≡◌, refl, List, length, get_or, set, take, drop, replicate, min}
use Rattle.std.proofs.Common.{arith, sym, subst, ap, ◌∙◌, length-set, length-drop, get_or-set_same, get_or-set_other, get_or-take, get_or-drop, length-append, length-take-le, ext_get_or}
use Rattle.std.proofs.lemmas.List.{length-replicate, length-take, get_or_append_left, get_or-append_right, get_or-replicate}
use Rattle.terms.specs.Numbers.{by_same, by_less}
use Rattle.deepening.specs.Clearing.{Cleared, ClearFrom}

-- The part before `end` of which what lies from `from` on is cleared, and what follows it.
module _ {A : Type 0} (d z : A) (l : List A) (from end : ℕ) (short : end ≤ length l) where
  abbrev clear_part : List A
  clear_part = take from (take end l) ++ replicate (length (take end l) - from) z

  clear_part_long : length clear_part ≡ end
  clear_part_long = length-append (take from (take end l)) _ ∙ ap (λ n. length (take from (take end l)) + n) (length-replicate _ z) ∙ (let a = length-take-le end l short in let b = length-take from (take end l) in omega arith)

  part_before : (i : ℕ) → i < from → i < end → get_or (clear_part ++ drop end l) i d ≡ get_or l i d
  part_before i p q =
      let a = length-take-le end l short in
      let b = length-take from (take end l) in
      get_or_append_left clear_part _ d i (let n = clear_part_long in omega arith)
      ∙ get_or_append_left (take from (take end l)) _ d i (omega arith)
      ∙ get_or-take from (take end l) i d p ∙ get_or-take end l i d q

  part_between : (i : ℕ) → from ≤ i → i < end → get_or (clear_part ++ drop end l) i d ≡ z
  part_between i p q =
      let a = length-take-le end l short in
      let b = length-take from (take end l) in
      get_or_append_left clear_part _ d i (let n = clear_part_long in omega arith)
      ∙ get_or-append_right (take from (take end l)) _ from i d (omega arith) p
      ∙ get_or-replicate (length (take end l) - from) (i - from) z d (omega arith)

  part_behind : (i : ℕ) → end ≤ i → get_or (clear_part ++ drop end l) i d ≡ get_or l i d
  part_behind i p =
      get_or-append_right clear_part _ end i d clear_part_long p ∙ get_or-drop end l (i - end) d ∙ ap (λ j. get_or l j d) (let e : end + (i - end) ≡ i = omega arith in e)

  -- Up to a place, as far as there are elements.
  pub cleared_part : (to : ℕ) (part : List A) → part ≡ clear_part → end ≡ min (length l) to → Cleared d z l (part ++ drop end l) from to
  cleared_part to part same e = subst (λ p. Cleared d z l (p ++ drop end l) from to) (sym same) (record {
    long = length-append clear_part _ ∙ (let a = clear_part_long in let b = length-drop end l in omega arith);
    before = λ i p. by_less i end (λ x w. part_before i p x) (λ x w. part_behind i x);
    between = λ i p q r. part_between i p (omega (arith, e));
    behind = λ i p. part_behind i (omega (arith, e));
  })

-- Nothing is cleared yet.
pub cleared_none : {A : Type 0} {d z : A} (l : List A) (from : ℕ) → Cleared d z l l from from
cleared_none l from = record {
  long = refl;
  before = λ i p. refl;
  between = λ i p q r. let x : ⊥ = omega arith in absurd x;
  behind = λ i p. refl;
}

-- One more.
pub cleared_next : {A : Type 0} {d z : A} {l l' : List A} {from to : ℕ} → Cleared d z l l' from to → from ≤ to
    → Cleared d z l (set l' to z) from (to + 1)
cleared_next {A} {d} {z} {l} {l'} {from} {to} h le = record {
  long = length-set l' to z ∙ h.long;
  before = λ i p. get_or-set_other l' to i z d (λ e. omega arith) ∙ h.before i p;
  between = λ i p q r.
      by_same i to
      (λ e w. ap (λ (j : ℕ). get_or (set l' to z) j d) e ∙ get_or-set_same l' to z d (let n = h.long in omega arith))
      (λ e w. get_or-set_other l' to i z d e ∙ h.between i p (let x : i < to = omega (arith, e) in x) r);
  behind = λ i p. get_or-set_other l' to i z d (λ e. omega arith) ∙ h.behind i (omega arith);
}

-- Up to the number, or to the end of the list.
pub cleared_stop : {A : Type 0} {d z : A} {l l' : List A} {from at : ℕ} (to : ℕ) → Cleared d z l l' from at → at ≤ from + (to - from)
    → to ≤ at
    → Cleared d z l l' from to
cleared_stop {from = from} to h le lt = record {
  long = h.long;
  before = h.before;
  between = λ i p q r. h.between i p (omega arith) r;
  behind = λ i p. by_less i from (λ x e. h.before i x) (λ x e. h.behind i (omega arith));
}

pub cleared_end : {A : Type 0} {d z : A} {l l' : List A} {from at : ℕ} (to : ℕ) → Cleared d z l l' from at → length l' ≤ at → at ≤ to
    → Cleared d z l l' from to
cleared_end to h le lt =
    let n = h.long in
    record {
      long = h.long;
      before = h.before;
      between = λ i p q r. h.between i p (omega arith) r;
      behind = λ i p. h.behind i (omega arith);
    }

-- A list that is z from a place on, by its elements.
pub clear_at : {A : Type 0} (d z : A) (l : List A) (from : ℕ) → ClearFrom z l from → (i : ℕ) → from ≤ i → i < length l → get_or l i d ≡ z
clear_at {A} d z l from h i p q =
    let e : from + (i - from) ≡ i = omega arith in
    ap (λ (j : ℕ). get_or l j d) (sym e) ∙ sym (get_or-drop from l (i - from) d) ∙ ap (λ (k : List A). get_or k (i - from) d) h
    ∙ get_or-replicate (length l - from) (i - from) z d (omega arith)

pub clear_from : {A : Type 0} (d z : A) (l : List A) (from : ℕ) → ((i : ℕ) → from ≤ i → i < length l → get_or l i d ≡ z) → ClearFrom z l from
clear_from d z l from h =
    let a : length (drop from l) ≡ length l - from = length-drop from l in
    let b : length (replicate (length l - from) z) ≡ length l - from = length-replicate (length l - from) z in
    ext_get_or d (drop from l) (replicate (length l - from) z) (omega arith)
    (λ i p. get_or-drop from l i d ∙ h (from + i) (omega arith) (omega arith) ∙ sym (get_or-replicate (length l - from) i z d (omega arith)))

-- Zero at entry from a place on, written below `to` and cleared again: the very list.
pub cleared_back : {A : Type 0} {d z : A} {l l' l'' : List A} {from to : ℕ} → ClearFrom z l from → length l' ≡ length l
    → ((i : ℕ) → i < from → get_or l' i d ≡ get_or l i d)
    → ((i : ℕ) → to ≤ i → get_or l' i d ≡ get_or l i d) → Cleared d z l' l'' from to → l'' ≡ l
cleared_back {A} {d} {z} {l} {l'} {l''} {from} {to} zs n b p h =
    let m = h.long in
    ext_get_or d l'' l (m ∙ n)
    (λ i q.
    by_less i from
    (λ x e. h.before i x ∙ b i x)
    (λ x e. by_less i to
    (λ y f. h.between i x y (omega arith) ∙ sym (clear_at d z l from zs i x (omega arith)))
    (λ y f. h.behind i y ∙ p i y)))

-- Zero at entry, written below `to` and cleared from another place on: zero from there on.
pub cleared_from_lem : {A : Type 0} {d z : A} (l : List A) {l' l'' : List A} (from : ℕ) {from' to : ℕ} → ClearFrom z l from → from ≤ from'
    → length l' ≡ length l
    → ((i : ℕ) → from' ≤ i → to ≤ i → get_or l' i d ≡ get_or l i d) → Cleared d z l' l'' from' to → ClearFrom z l'' from'
cleared_from_lem {A} {d} {z} l {l'} {l''} from {from'} {to} zs le n p h =
    let m = h.long in
    clear_from d z l'' from'
    (λ i q r.
    by_less i to
    (λ y f. h.between i q y (omega arith))
    (λ y f. h.behind i y ∙ p i q y ∙ clear_at d z l from zs i (omega arith) (omega arith)))

-- The part in use stands.
pub kept_part : {A : Type 0} (d : A) (l l' : List A) (n : ℕ) → n ≤ length l → length l' ≡ length l
    → ((i : ℕ) → i < n → get_or l' i d ≡ get_or l i d) → take n l' ≡ take n l
kept_part d l l' n le e h =
    let a = length-take-le n l le in
    let b = length-take-le n l' (omega arith) in
    ext_get_or d (take n l') (take n l) (omega arith)
    (λ i p. get_or-take n l' i d (omega arith) ∙ h i (omega arith) ∙ sym (get_or-take n l i d (omega arith)))
