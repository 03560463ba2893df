-- `starts_with` meets its contract: the library's test of a prefix is the definition's.
use mathlib.Core.Path.{◌∙◌}
use Rattle.source_text.proofs.Scans.{prefix_is}
use Rattle.source_text.proofs.bytes.starts_with.Goals as goal

pub returns : goal.returns
returns c = c.starts_with.ensures.value ∙ prefix_is c.args.w.now _
