-- What a call's answer says of the form of its words and of what it spent: a refusal nothing, any other that the form is kept, and that
-- its calls have two words each.
use Prim.Native.Nat.{ℕ, ◌+◌, ◌*◌, ◌≤◌}
use native.Mathlib.Omega.{arith}
use mathlib.Core.Path.{◌≡◌, ap, subst}
use mathlib.Core.List.{List}
use Rattle.clause_matching.specs.Stored.{Formed}
use Rattle.clause_matching.proofs.Forming.{FormsKept, ok_is}
use Rattle.function_calls.specs.Calls.{outcome, CallFormed, CallSpent}
use Rattle.std.specs.Prelude.{Err}
use Rattle.refusals.specs.declared.Refusal.{Refusal}
use Rattle.function_calls.specs.declared.calls.Outcome.{Outcome}

pub refused_forms : (pattern : List ℕ) (refusal : Refusal) (words words' : List ℕ) (used : ℕ)
    → CallFormed pattern (Err refusal) words words' used
refused_forms pattern refusal words words' used arities d f value calls u e = absurd (let z : ⊥ = cc in z)

pub answer_forms : (pattern : List ℕ) (value calls spent : ℕ) (words words' : List ℕ) (used : ℕ) → FormsKept pattern words used words' spent
    → CallFormed pattern (outcome value calls spent) words words' used
answer_forms pattern value calls spent words words' used k arities d f v m u e =
    subst (λ (n : ℕ). Formed arities words' n) (ap (λ (o : Outcome). o.spent.used) (ok_is e)) (k arities d f)

pub refused_spent : (refusal : Refusal) (calls used : ℕ) → CallSpent (Err refusal) calls used
refused_spent refusal calls used value made u e = absurd (let z : ⊥ = cc in z)

pub answer_spent : (value made spent calls used : ℕ) → 2 * made + used ≤ 2 * calls + spent → CallSpent (outcome value made spent) calls used
answer_spent value made spent calls used l v m u e =
    let x : made ≡ m = ap (λ (o : Outcome). o.spent.calls) (ok_is e) in
    let y : spent ≡ u = ap (λ (o : Outcome). o.spent.used) (ok_is e) in
    omega arith
