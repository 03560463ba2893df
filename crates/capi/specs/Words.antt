-- Answers as one number.
use Rattle.std.specs.Prelude.{ℕ, ◌+◌, ◌*◌, ◌^◌, Result, Ok, Err}
use Rattle.words.specs.declared.Limits.{Limits}
use Rattle.refusals.specs.Refusals.{number_of}
use Rattle.refusals.specs.declared.Rejection.{Rejection}

-- A limit on the text's bytes alone.
abbrev pub text_limit : ℕ → Limits
text_limit n = record { text = n; nodes = 0; steps = 0; variables = 0; words = 0 }

-- 2^32 times the refusal's number and its line.
abbrev pub packed_rejection : Rejection → ℕ
packed_rejection r = number_of r.refusal * 2 ^ 32 + r.line

-- The number of tokens, or the refusal.
abbrev pub packed : Result ℕ Rejection → ℕ
packed (Ok n) = n
packed (Err r) = packed_rejection r
