-- `list_nodes` ends.
use Rattle.std.proofs.Common.{◌-◌}
use Rattle.signature_listing.proofs.NamedSignature.list_nodes.Given as goal

abbrev pub decreases-loop-done : goal.decreases-loop-done
decreases-loop-done l = l.count - l.done
