-- `solve` is safe: the test before the call is what `unify` asks.
use Rattle.checks.specs.ReadyLaws.{scratch_kept}
use Rattle.samples.proofs.unification.solve.Goals as goal

pub unify-ended-requires : goal.unify-ended-requires
unify-ended-requires c =
    let r = c.is_ready.ensures.tells.yes (c.if-not-is_ready.false) in
    record { fact_1 = r.form; fact_2 = (r.left_refers, r.right_refers); fact_3 = scratch_kept c.is_ready.ensures.kept r.scratch }
