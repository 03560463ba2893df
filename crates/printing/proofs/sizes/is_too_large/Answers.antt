use Rattle.printing.proofs.Turns.{none_counted}
use Rattle.printing.proofs.sizes.is_too_large.Goals as goal

pub loop-piece-init : goal.loop-piece-init
loop-piece-init c = none_counted c.new-walk.ensures c.requires.rows
