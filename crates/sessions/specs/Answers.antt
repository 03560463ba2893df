-- What `open` and `prove` answer, by the numbers of refusals that document 01 lists.
use Rattle.std.specs.Prelude.{ℕ, Result, Ok, Err}
use Rattle.refusals.specs.Refusals.{number_of}
use Rattle.refusals.specs.declared.Refusal.{Refusal}
use Rattle.sessions.specs.declared.SessionCounts.{SessionCounts}
use Rattle.sessions.specs.declared.Verdict.{Verdict}
use Rattle.sessions.specs.declared.Verdict.TheVariants.{Proved as ProvedCase, Nothing as NothingCase, Undecided as UndecidedCase}

-- An answer to a goal: a refusal, after which the counts are those at entry; or a verdict with the steps used in the last bound and the
-- counts then, and for a proof the number of its nodes.
pub data Answer : Type 0 where
  Refused : ℕ → Answer
  Proved : ℕ → ℕ → SessionCounts → Answer
  Nothing : ℕ → SessionCounts → Answer
  Undecided : ℕ → SessionCounts → Answer

-- That of `prove`.
abbrev pub answer_in : Result Verdict Refusal → Answer
answer_in (Err e) = Refused (number_of e)
answer_in (Ok (ProvedCase u nodes m)) = Proved u nodes m
answer_in (Ok (NothingCase u m)) = Nothing u m
answer_in (Ok (UndecidedCase u m)) = Undecided u m
