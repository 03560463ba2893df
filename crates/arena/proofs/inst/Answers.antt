-- `inst` meets its contract. The loop's invariant: writing the copied words from i on completes the copy.
use mathlib.Core.Path.{sym, ap, ◌∙◌}
use Prim.Native.Nat.{◌+◌, ◌-◌, ◌<◌}
use lib.ListN.{drop, length-take, length-drop}
use Rattle.std.proofs.Common.{get_or-take, get_or-drop}
use Rattle.arena.specs.Copies.{copied, moved, pattern_room}
use Rattle.arena.specs.CopyLaws.{copied_length, copied_at}
use Rattle.arena.proofs.Writing.{write_step}
use native.Mathlib.Omega.{arith}
use Rattle.arena.proofs.inst.Goals as goal

pub loop-i-preserved : goal.loop-i-preserved
loop-i-preserved c =
    let args = c.args in
    let part = args.part in
    let part_asked = c.requires.part in
    let i = c.loop-i.i in
    let copy = copied part.words.now part.from part.count part.places.now args.room args.used args.counter in
    let long = copied_length part.words.now part.from part.count part.places.now args.room args.used args.counter part_asked in
    let lies : i < part.from + part.count - part.from =
    omega (arith, c.loop-i-test.true, length-take (part.from + part.count - part.from) (drop part.from part.words.now), length-drop part.from part.words.now) in
    let read = get_or-take (part.from + part.count - part.from) (drop part.from part.words.now) i 0 lies ∙ get_or-drop part.from part.words.now i 0 in
    let word = c.moved_word.ensures
    ∙ ap (moved part.places.now args.counter (pattern_room + part.from) (args.room + args.used)) read
    ∙ sym (copied_at part.words.now part.from part.count part.places.now args.room args.used args.counter part_asked i (omega (arith, lies))) in
    sym (write_step c.loop-i.words copy args.used i _ (omega (arith, lies, long)) word) ∙ c.loop-i.invariant
