-- The nodes so far, with those that are left, are the whole tower.
use Rattle.std.proofs.Common.{◌+◌, ◌*◌}
use Rattle.samples.specs.Building.{raised_by}
use Rattle.samples.proofs.Towers.{Rising}
use Rattle.samples.proofs.build.try_put_tower.Given as goal

abbrev pub invariant-loop : goal.invariant-loop
invariant-loop l =
    let t = l.fn.tower in
    Rising l.fn.room t.arity t.height l.counter (l.fn.at + t.height * (1 + t.arity)) (record { words = l.words; next = l.next; root = l.root })
    (raised_by t.height l.fn.room t.arity (record { words = l.fn.words; next = l.fn.at; root = t.leaf }))
