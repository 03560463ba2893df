-- `same` meets its contract: the library compares as the definition does.
use mathlib.Core.Path.{◌∙◌}
use Rattle.source_text.proofs.Scans.{pointwise_same}
use Rattle.source_text.proofs.bytes.same.Goals as goal

pub returns : goal.returns
returns c = c.eq.ensures ∙ pointwise_same c.args.v.now c.args.w.now
