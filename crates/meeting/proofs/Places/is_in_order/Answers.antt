-- `is_in_order` meets its contract: no more variables are met than the table has places.
use native.Mathlib.Omega.{arith}
use Rattle.meeting.specs.PlaceLaws.{known_few}
use Rattle.meeting.proofs.Places.is_in_order.Goals as goal

pub is_in_order-requires : goal.is_in_order-requires
is_in_order-requires c = omega (arith, known_few c.args.self.now.known, c.args.self.now.long)
