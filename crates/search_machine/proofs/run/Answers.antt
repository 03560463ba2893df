-- `run` meets its contract: by steps, which keep what the state means; the measure falls with each.
use Rattle.search_machine.specs.Groups.{lent_on}
use Rattle.search_machine.specs.Ways.{going_on}
use Rattle.search_machine.proofs.run.Goals as goal

pub loop-program-preserved : goal.loop-program-preserved
loop-program-preserved c =
    let lent = c.step-m.ensures.lent in record {
      going = going_on c.loop-program.invariant.going c.step-m.ensures.stepped lent.words_long lent.rows_long lent.frames_long;
      lent = lent_on c.loop-program.invariant.lent lent;
    }
