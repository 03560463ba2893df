-- Which refusal has the number 1, and which answers refuse by it.
use native.Mathlib.Omega.{arith}
use Rattle.std.specs.Prelude.{◌≡◌, ◌==◌, Bool, Option, Some, Result, Ok, Err}
use Rattle.std.specs.Option.{option_eq}
use Rattle.std.specs.Result.{result_err}
use Rattle.std.proofs.Common.{◌∙◌}
use denote.Enum.Bare.{sameb}
use Rattle.refusals.specs.contracts.Refusal.{the_type}
use Rattle.refusals.specs.declared.Refusal.{Refusal}
use Rattle.refusals.specs.declared.Refusal.TheVariants.{Storage}
use Rattle.refusals.specs.Refusals.{number_of}
use Rattle.evaluation_tests_kit.specs.Refusals.{is_refused}

pub storage_alone : (r : Refusal) → sameb the_type r Storage ≡ (number_of r == 1)
storage_alone r = grind arith

pub told_refused : {T : Type 0} {r : Bool} (answer : Result T Refusal) (e : Option Refusal) → e ≡ result_err answer → r ≡ option_eq (sameb the_type) e (Some Storage)
    → r ≡ is_refused answer
told_refused (Ok x) e q h = rw q at h
told_refused (Err x) e q h = (rw q at h) ∙ storage_alone x
