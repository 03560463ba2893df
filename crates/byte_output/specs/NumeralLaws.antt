-- Laws of numbers in decimal: the last digit stands behind the digits of a tenth.
use Rattle.std.specs.Prelude.{ℕ, zero, suc, ◌+◌, ◌*◌, ◌/◌, ◌%◌, ◌≤◌, ◌<◌, ◌≡◌, List, [], ◌∷◌, ◌++◌, length}
use Rattle.std.proofs.Common.{arith, sym, ap, ◌∙◌, length-append, lt-ltb, le-ltb}
use Rattle.std.specs.Fmt.{decimal}
use Rattle.std.proofs.lemmas.Fmt.{decimal_by_steps}
use Rattle.terms.specs.Numbers.{by_less}
use Rattle.names.specs.Names.{digits}
use Rattle.byte_output.specs.Output.{numeral, Written}
use Rattle.byte_output.specs.OutputLaws.{written_length, and_then, written_as}

-- Numbers of at most k + 1 digits are below this.
abbrev pub power_over : ℕ → ℕ
power_over zero = 10
power_over (suc k) = 10 * power_over k

-- Room for one more digit changes nothing.
pub digits_more : (k n : ℕ) → n < power_over k → digits (suc k) n ≡ digits k n
unfolding digits
digits_more zero n l = rw (lt-ltb n 10 l) (let e : n ≡ n % 10 = omega arith in ap (λ (d : ℕ). (48 + d) ∷ []) e)
digits_more (suc k) n l = by_less n 10
    (λ s _. rw (lt-ltb n 10 s))
    (λ s _. rw (le-ltb n 10 s) (ap (λ (d : List ℕ). d ++ ((48 + n % 10) ∷ [])) (digits_more k (n / 10) (omega arith))))

pub numeral_digit : (n : ℕ) → n < 10 → numeral n ≡ (48 + n) ∷ []
unfolding digits
numeral_digit n l = rw (lt-ltb n 10 l)

pub numeral_more : (n : ℕ) → 10 ≤ n → n < 10000000000 → numeral n ≡ numeral (n / 10) ++ ((48 + n % 10) ∷ [])
unfolding digits
numeral_more n l m = rw (le-ltb n 10 l) (ap (λ (d : List ℕ). d ++ ((48 + n % 10) ∷ [])) (sym (digits_more 8 (n / 10) (let q : n / 10 < 1000000000 = omega arith in q))))

numeral_length : (n : ℕ) → 10 ≤ n → n < 10000000000 → length (numeral n) ≡ length (numeral (n / 10)) + 1
numeral_length n l m = ap length (numeral_more n l m) ∙ length-append (numeral (n / 10)) ((48 + n % 10) ∷ [])

module _ (out : List ℕ) (at n : ℕ) (room : at + length (numeral n) ≤ length out) where
  -- There is room for a number of one digit,
  pub digit_room : n < 10 → at < length out
  digit_room l = let e = ap length (numeral_digit n l) in omega arith

  -- and for the digits of a tenth and one digit more.
  module _ (l : 10 ≤ n) (m : n < 10000000000) where
    pub tenth_room : at + length (numeral (n / 10)) ≤ length out
    tenth_room = let e = numeral_length n l m in omega arith

    pub last_room : {next : ℕ} {out' : List ℕ} → Written out at (numeral (n / 10)) next out' → next < length out'
    last_room w = let e = numeral_length n l m in let p = w.place in let k = written_length w in omega arith

    pub number_written : {next last : ℕ} {out' out'' : List ℕ} → Written out at (numeral (n / 10)) next out' → Written out' next ((48 + n % 10) ∷ []) last out''
        → Written out at (numeral n) last out''
    number_written v w = written_as (and_then v w) (sym (numeral_more n l m))

-- They are the library's digits.
pub numeral_decimal : (n : ℕ) → n < 4294967296 → decimal n ≡ numeral n
numeral_decimal n l = decimal_by_steps (λ m ds. m < 10000000000 → ds ≡ numeral m)
    (λ m s k. sym (numeral_digit m s))
    (λ m ds g h k. ap (λ (d : List ℕ). d ++ ((48 + m % 10) ∷ [])) (h (omega arith)) ∙ sym (numeral_more m g k))
    n (omega arith) (omega arith)

-- At most so many digits; a number has at most ten.
pub digits_short : (k n : ℕ) → length (digits k n) ≤ k + 1
unfolding digits
digits_short zero n = omega arith
digits_short (suc k) n = by_less n 10
    (λ s _. rw (lt-ltb n 10 s) (omega arith))
    (λ s _. rw (le-ltb n 10 s) (let h = digits_short k (n / 10) in let a = length-append (digits k (n / 10)) ((48 + n % 10) ∷ []) in omega arith))

pub numeral_short : (n : ℕ) → length (numeral n) ≤ 10
numeral_short n = digits_short 9 n
