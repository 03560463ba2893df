-- `enter` meets its contract: a number is set in each of two rows, one after the other.
use Rattle.bindings.specs.TableLaws.{put_entered}
use Rattle.bindings.proofs.tables.enter.Goals as goal

pub returns : goal.returns
returns c = put_entered c.args.t.now c.args.n c.args.key c.args.value c.told-t c.requires.0 c.requires.1
