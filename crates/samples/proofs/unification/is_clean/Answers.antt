-- `is_clean` meets its contract.
use Rattle.checks.specs.ReadyLaws.{free_zeros, zeros_scratch}
use Rattle.samples.proofs.unification.is_clean.Goals as goal

pub returns : goal.returns
returns c = record {
  yes = λ e. let s = c.is_scratch_zero.ensures.yes e in record {
    linked = free_zeros s.links_free;
    marked = free_zeros s.marks_free;
    stacked = record { lent = s.stack_lent; empty = s.stack_empty };
  };
  back = λ z. c.is_scratch_zero.ensures.back (zeros_scratch z.linked z.marked z.stacked);
}
