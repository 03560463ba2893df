-- `order` meets its contract: the conclusion is met first, and then the premises from the last back.
use mathlib.Core.List.{[]}
use lib.ListN.{length}
use native.Mathlib.Omega.{arith}
use Rattle.rules.proofs.order.Goals as goal

pub meet_back-requires : goal.meet_back-requires
meet_back-requires c = λ i l.
    let rule = c.args.rule in
    let r = rule.asked.body i l in
    (record { used = length rule.words.now; within = rule.asked.within; low = rule.asked.low; formed = rule.asked.formed; root = r.root; room = omega (arith, c.requires) }, r.small)

pub returns : goal.returns
returns c =
    let met = c.meet.ensures.recorded c.args.rule.asked.head.small [] c.new-places.ensures in
    record { counted = met.counted; recorded = c.meet_back.ensures _ met }
