-- `clear_written` meets its contract.
use Rattle.std.proofs.Common.{refl, []}
use Rattle.deepening.proofs.clearing.clear_written.Goals as goal

pub returns-clause-cleared : goal.returns-clause-cleared
returns-clause-cleared c = record {
  wiped = record { words = c.clear.ensures 0; frames = c.clear-2.ensures [] };
  bindings = refl;
  links = refl;
  marks = refl;
  stack = refl;
}
