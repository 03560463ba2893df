-- `is_scratch_zero` meets its contract: links, marks and stack are zero exactly where each of them was told to be.
use Rattle.checks.specs.ReadyLaws.{zeros_scratch}
use Rattle.checks.proofs.zeros.is_scratch_zero.Goals as goal

pub returns : goal.returns
returns c =
    let links = c.are_zero.ensures.yes c.if-not-are_zero.false in
    let marks = c.are_zero-2.ensures.yes c.if-not-are_zero-2.false in
    record {
      yes = λ e. zeros_scratch {N = c.args.room} links marks (c.are_zero-3.ensures.yes e);
      back = λ s. c.are_zero-3.ensures.back (record { lent = s.stack_lent; empty = s.stack_empty });
    }
