-- Laws of recorded lists: a digit by its byte, a number digit by digit, and a text by the three numbers of its line.
use Prim.Native.Nat.{ℕ, zero, suc, ◌+◌, ◌*◌, ◌-◌, ◌≤◌, ◌<◌, min}
use Rattle.std.proofs.Common.{arith, sym, ap₂, ◌∙◌, lt-ltb, le-ltb, le-leb, leb-true, ltb-true, ltb-false}
use Rattle.std.proofs.lemmas.Bool.{lt-leb}
use Rattle.std.proofs.lemmas.List.{get_or_past}
use Rattle.terms.specs.Numbers.{by_bool}
use Rattle.source_text.specs.Bytes.{within}
use Rattle.source_text.specs.ByteLaws.{and_right}
use Rattle.source_text.specs.Numerals.{digit_of}
use Rattle.std.specs.Prelude.{Some, None, IfSome, true, false, leb, ltb, ◌≡◌, List, get_or, length}
use Rattle.std.proofs.Math.Path.{refl, ap}
use Rattle.listing.specs.Recorded.{largest, digit_at, read_digit, decimal_from, decimal_at, recorded_by, recorded_at}
use Rattle.listing.specs.declared.recorded.Decimal.{Decimal}

module _ (list : List ℕ) (at : ℕ) where
  pub digit_none : within 48 57 (get_or list at 0) ≡ false → digit_at list at ≡ 10
  digit_none e = rw e refl

  pub digit_within : within 48 57 (get_or list at 0) ≡ true → digit_at list at ≡ get_or list at 0 - 48
  digit_within e = rw e refl

  pub digit_low : get_or list at 0 < 48 → digit_at list at ≡ 10
  digit_low h = rw (lt-leb 48 (get_or list at 0) h)

  pub digit_high : 57 < get_or list at 0 → digit_at list at ≡ 10
  digit_high h = let l : 48 ≤ get_or list at 0 = omega arith in rw (le-leb 48 (get_or list at 0) l, lt-leb (get_or list at 0) 57 h)

  pub digit_is : 48 ≤ get_or list at 0 → get_or list at 0 ≤ 57 → digit_at list at ≡ get_or list at 0 - 48
  digit_is l h = rw (le-leb 48 (get_or list at 0) l, le-leb (get_or list at 0) 57 h)

pub digit_past : (list : List ℕ) (at : ℕ) → length list ≤ at → digit_at list at ≡ 10
digit_past list at h = let e = get_or_past list at 0 h in rw e refl

-- A digit is read where it is below 10.
pub read_none : (d : ℕ) → read_digit d ≡ None → 9 < d
read_none d e = by_bool (ltb 9 d) (λ f. ltb-true 9 d f) (λ f. let g : Some d ≡ None = rw f at e in absurd (let z : ◌≡◌ {A = ℕ} 0 1 = cc in omega arith))

pub read_some : (d c : ℕ) → read_digit d ≡ Some c → (d ≡ c) × (d ≤ 9)
read_some d c e = by_bool (ltb 9 d) (λ f. let g : None ≡ Some c = rw f at e in absurd (let z : ◌≡◌ {A = ℕ} 0 1 = cc in omega arith)) (λ f. let g : Some d ≡ Some c = rw f at e in (cc, ltb-false 9 d f))

pub read_small : (d : ℕ) → d < 10 → Some d ≡ read_digit d
read_small d h = rw (le-ltb 9 d (omega arith)) refl

-- A byte's digit, if it is one, is the digit at its place.
below_ten : (c : ℕ) → within 48 57 c ≡ true → c - 48 < 10
below_ten c e = let h : c ≤ 57 = leb-true c 57 (and_right (leb 48 c) (leb c 57) e) in omega arith

pub digit_read : (list : List ℕ) (at : ℕ) → digit_of (get_or list at 0) ≡ read_digit (digit_at list at)
digit_read list at =
    by_bool (within 48 57 (get_or list at 0))
    (λ e. rw e (read_small (get_or list at 0 - 48) (below_ten (get_or list at 0) e)))
    (λ e. rw e refl)

pub digit_small : (c : ℕ) → IfSome (digit_of c) (λ d. d < 10)
digit_small c = by_bool (within 48 57 c) (λ e. rw e (below_ten c e)) (λ e. rw e tt)

module _ (list : List ℕ) where
  -- No digit ends a number, and so does the most digits.
  pub decimal_stop : (k at value : ℕ) → 9 < digit_at list at → decimal_from k list at value ≡ record { value = value; next = at + 1 }
  unfolding decimal_from
  decimal_stop zero at value h = refl
  decimal_stop (suc k) at value h = rw (lt-ltb 9 (digit_at list at) h)

  pub decimal_end : (k at value : ℕ) → k ≡ 0 → decimal_from k list at value ≡ record { value = value; next = at + 1 }
  unfolding decimal_from
  decimal_end k at value e = ap (λ (n : ℕ). decimal_from n list at value) e

  decimal_more : (k at value : ℕ) → digit_at list at ≤ 9 → decimal_from (suc k) list at value ≡ decimal_from k list (at + 1) (min (value * 10 + digit_at list at) largest)
  unfolding decimal_from
  decimal_more k at value h = rw (le-ltb 9 (digit_at list at) h)

  -- A digit is read.
  pub decimal_again : (at value i digit next : ℕ) → i < 20 → digit ≡ digit_at list (at + i) → digit ≤ 9 → next ≡ min (value * 10 + digit) largest
      → decimal_from (20 - (i + 1)) list (at + (i + 1)) next ≡ decimal_from (20 - i) list (at + i) value
  decimal_again at value i digit next l d h n =
      let p : at + (i + 1) ≡ at + i + 1 = omega arith in
      let k : 20 - i ≡ suc (20 - (i + 1)) = omega arith in
      ap₂ (λ (q v : ℕ). decimal_from (20 - (i + 1)) list q v) p (n ∙ ap (λ (x : ℕ). min (value * 10 + x) largest) d)
      ∙ sym (decimal_more (20 - (i + 1)) (at + i) value (omega arith))
      ∙ ap (λ (q : ℕ). decimal_from q list (at + i) value) (sym k)

  pub read_as : (at : ℕ) {a b c : Decimal} → a ≡ decimal_at list at → b ≡ decimal_at list a.next → c ≡ decimal_at list b.next
      → recorded_by a b c ≡ recorded_at list at
  read_as at {a} {b} {c} p q r =
      let q' : b ≡ decimal_at list (decimal_at list at).next = q ∙ ap (λ (d : Decimal). decimal_at list d.next) p in
      let r' : c ≡ decimal_at list (decimal_at list (decimal_at list at).next).next = r ∙ ap (λ (d : Decimal). decimal_at list d.next) q' in
      ap (λ (d : Decimal). recorded_by d b c) p
      ∙ ap (λ (d : Decimal). recorded_by (decimal_at list at) d c) q'
      ∙ ap (λ (d : Decimal). recorded_by (decimal_at list at) (decimal_at list (decimal_at list at).next) d) r'
