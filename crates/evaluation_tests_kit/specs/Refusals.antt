-- Answers that refuse by 1, as storage that is too short or not in form is refused, and a signature that is not in form.
use Rattle.std.specs.Prelude.{Bool, false, ◌+◌, ◌-◌, ◌^◌, ◌%◌, ◌==◌, Result, Ok, Err}
use Rattle.refusals.specs.declared.Refusal.{Refusal}
use Rattle.refusals.specs.Refusals.{number_of}
use Rattle.signature.specs.Storage.{SignatureStore}

abbrev pub is_refused : {A : Type 0} → Result A Refusal → Bool
is_refused (Ok a) = false
is_refused (Err refusal) = number_of refusal == 1

-- A signature of one word less, or where there is none of the most.
abbrev pub damaged : SignatureStore → SignatureStore
damaged s = record s { counts = record s.counts { words = (s.counts.words + (2 ^ 32 - 1)) % 2 ^ 32 } }
