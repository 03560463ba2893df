-- `is_forward_call` meets its contract: of what passes the test the name and the rows decide.
use Rattle.evaluator.proofs.TestingLaws.{tested_sound, forward_asked, is_decided}
use Rattle.evaluator.proofs.is_forward_call.Goals as goal

pub is_forward_call-requires : goal.is_forward_call-requires
is_forward_call-requires c = forward_asked _ (tested_sound c.check.ensures c.in_ok-check.was)

pub returns : goal.returns
returns c =
    is_decided (tested_sound c.check.ensures c.in_ok-check.was) (rw c.symbols_in_use-symbols.ensures at c.is_forward_call.ensures)
