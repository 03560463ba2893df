use Rattle.std.proofs.Common.{◌≡◌}
use Rattle.sessions.specs.declared.Verdict.TheVariants.{Undecided}
use Rattle.printing.proofs.lines.write_verdict.Goals as goal

pub returns-in-Ok-Undecided : goal.returns-in-Ok-Undecided
returns-in-Ok-Undecided c =
    let e : c.in-Ok-Undecided.field-0 ≡ Undecided c.in-Ok-Undecided.field-0-0 c.in-Ok-Undecided.field-0-1 =
    rw c.in-Ok-Undecided.is at c.in-Ok-Undecided.field-0-is in
    rw (c.in-Ok-Undecided.is, e) c.write-in-Ok-Undecided.ensures
