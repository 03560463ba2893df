-- `leave_nothing` meets its contract: every buffer is filled with 0.
use Rattle.load_storage.proofs.WipeLaws.{buffers}
use Rattle.load_storage.proofs.leave_nothing.Goals as goal

pub returns-clause-wiped : goal.returns-clause-wiped
returns-clause-wiped c =
    let f = c.fill.ensures.filled in
    record { is = buffers f.tokens f.rows f.calls f.sorts f.symbols f.rules f.words f.evals }
