-- `push_node` meets its contract.
use mathlib.Core.Path.{◌∙◌}
use Rattle.std.proofs.Common.{ap}
use Rattle.arena.proofs.Writing.{put_node}
use borrow.Rule.Slice.PartMut.{put_mid}
use Rattle.arena.proofs.push_node.Goals as goal

pub returns : goal.returns
returns c =
    ap (put_mid _ _ _) c.copy_from_slice.ensures.after
    ∙ put_node c.args.words.now c.args.arguments.now c.args.used c.args.header c.requires
