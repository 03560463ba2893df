-- `push_alike` meets its contract: behind the header stand the arguments.
use borrow.Rule.Slice.PartMut.{put_mid}
use Rattle.std.proofs.Common.{rules, arith, ap, ◌∙◌, ◌≡◌, ◌+◌, ◌≤◌, length, replicate}
use lib.ListN.{length-replicate}
use Rattle.arena.proofs.Writing.{put_node}
use Rattle.samples.proofs.build.push_alike.Goals as goal

pub returns : goal.returns
returns c =
    let same : c.fill.new.self ≡ replicate c.args.arity c.args.argument = c.fill.ensures.after (λ y e. e) ∙ ap (λ n. replicate n c.args.argument) (search rules) in
    let long : length (replicate c.args.arity c.args.argument) ≡ c.args.arity = length-replicate _ _ in
    let room : c.args.at + 1 + length (replicate c.args.arity c.args.argument) ≤ length c.args.words.now = omega (arith, long, c.requires) in
    let put = rw long at (put_node c.args.words.now (replicate c.args.arity c.args.argument) c.args.at c.args.header room) in
    ap (put_mid _ _ _) same ∙ put
