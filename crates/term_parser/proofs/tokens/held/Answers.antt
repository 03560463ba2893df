-- `held` meets its contract: a numeral that fits no word is held as 2^32 - 1.
use mathlib.Core.Path.{◌≡◌, sym, ap, ◌∙◌}
use Prim.Native.Nat.{ℕ, ◌<◌}
use native.Mathlib.Omega.{arith}
use Rattle.std.specs.Prelude.{Result, Ok, Err, Some, min}
use Rattle.std.specs.Result.{OkIff, result_unwrap_or}
use Rattle.term_parser.specs.Grammar.{held_of}
use Rattle.term_parser.proofs.tokens.held.Goals as goal

-- A number, or the largest one of 32 bits for a larger one.
held_is : {E : Type 0} (r : Result ℕ E) (v : ℕ) → OkIff r (v < 4294967296) v → result_unwrap_or r 4294967295 ≡ min v 4294967295
held_is (Ok x) v h = omega (arith, h)
held_is (Err e) v h = omega (arith, h)

pub returns : goal.returns
returns c = ap Some (c.unwrap_or.ensures ∙ held_is c.try_from.result c.in_ok-value.value c.try_from.ensures) ∙ ap held_of (sym c.in_ok-value.was ∙ c.numeral.ensures.answer)
