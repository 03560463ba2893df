-- Answers that are a refusal.
use Rattle.std.specs.Prelude.{ℕ, ◌≡◌, Option, Some, None, Result, Ok, Err}
use Rattle.std.specs.Option.{ok_or}
use Rattle.std.specs.Result.{IsErrAnd}
use Rattle.std.proofs.Common.{ap}
use Rattle.refusals.specs.declared.Refusal.{Refusal}
use Rattle.refusals.specs.Refusals.{number_of}

-- The answer is the refusal with a number.
abbrev pub Refuses : {A : Type 0} → Result A Refusal → ℕ → Type 0
Refuses r n = IsErrAnd r (λ refusal. number_of refusal ≡ n)

-- `?` hands on the refusal that it was given.
pub handed_on : {T E : Type 0} (r : Result T E) {e : E} → IsErrAnd r (λ x. x ≡ e) → r ≡ Err e
handed_on (Ok x) h = absurd h
handed_on (Err x) h = ap Err h

-- What is missing is refused as the caller says.
pub none_is : {T E : Type 0} (o : Option T) {e x : E} → o ≡ None → Err e ≡ ok_or o x → e ≡ x
none_is None h q = cc
none_is (Some y) h q = absurd (cc)
