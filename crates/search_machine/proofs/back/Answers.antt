-- `back` meets its contract: the newest frame is taken off and its bindings are taken back, or there is none.
use Rattle.std.proofs.Common.{◌≡◌, ◌-◌, refl, arith}
use Rattle.search_machine.specs.Ways.{returned_as, returned_over, returned_goal, known_undoable}
use Rattle.search_machine.proofs.back.Goals as goal

pub returns-in_default-clause-returned : goal.returns-in_default-clause-returned
returns-in_default-clause-returned c = record {
  returned = returned_as c.at_stop.ensures (returned_over c.requires (omega arith));
  words = refl;
  links = refl;
  marks = refl;
  stack = refl;
  frames = refl;
}

pub undo-requires : goal.undo-requires
undo-requires c =
    let l : c.in-Some.last ≡ c.args.m.frames - 1 = omega (arith, c.in-Some.ensures) in
    known_undoable c.requires c.frame-x.result (rw l at c.frame-x.ensures) (omega (arith, c.in-Some.ensures))

pub returns-clause-returned : goal.returns-clause-returned
returns-clause-returned c =
    let l : c.in-Some.last ≡ c.args.m.frames - 1 = omega (arith, c.in-Some.ensures) in
    record {
      returned = returned_as c.at_retry.ensures
          (returned_goal c.requires c.frame-x.result (rw l at c.frame-x.ensures) (omega (arith, c.in-Some.ensures)) c.undo.new.t c.undo.ensures);
      words = refl;
      links = refl;
      marks = refl;
      stack = refl;
      frames = refl;
    }
