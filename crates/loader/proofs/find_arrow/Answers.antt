-- `find_arrow` meets its contract. The loop's invariant: the numbers of the first i names are known, and written as far as there is room.
use mathlib.Core.Path.{refl}
use Prim.Native.Nat.{◌+◌, ◌-◌, ◌<◌}
use mathlib.Core.List.{[]}
use mathlib.Core.Path.{◌∙◌}
use native.Mathlib.Omega.{arith}
use lib.ListN.{drop, length-take, length-drop}
use Rattle.std.proofs.Common.{get_or-take, get_or-drop}
use Rattle.names.specs.RowNames.{name_at}
use Rattle.loader.proofs.ArrowLaws.{some_sort, unknown_sort, sofar_none, sofar_more, one_unknown}
use Rattle.loader.proofs.find_arrow.Goals as goal

pub loop-i-init : goal.loop-i-init
loop-i-init c = let a = c.args.part.source in sofar_none a.text.now a.rows.now a.at c.args.part.k c.args.sorts.now c.args.inputs.now c.requires.3

pub returns-in_err-s : goal.returns-in_err-s
returns-in_err-s c =
    let a = c.args.part.source in
    let i = c.loop-i.i in
    let lies : i < a.at + c.args.part.k - a.at =
    omega (arith, c.loop-i-test.true, length-take (a.at + c.args.part.k - a.at) (drop a.at a.rows.now), length-drop a.at a.rows.now) in
    let read = get_or-take (a.at + c.args.part.k - a.at) (drop a.at a.rows.now) i [] lies ∙ get_or-drop a.at a.rows.now i [] in
    let l = unknown_sort a.text.now c.args.sorts.now (name_at a.text.now a.rows.now (a.at + c.loop-i.i)) (rw (c.part.ensures, c.behind_kind-word.ensures, read) at c.in_err-s.ensures) in
    rw c.from_residual.ensures (one_unknown a.text.now a.rows.now a.at c.args.part.k c.args.sorts.now _ refl l (omega (arith, lies)))

pub loop-i-preserved : goal.loop-i-preserved
loop-i-preserved c =
    let a = c.args.part.source in
    let i = c.loop-i.i in
    let lies : i < a.at + c.args.part.k - a.at =
    omega (arith, c.loop-i-test.true, length-take (a.at + c.args.part.k - a.at) (drop a.at a.rows.now), length-drop a.at a.rows.now) in
    let read = get_or-take (a.at + c.args.part.k - a.at) (drop a.at a.rows.now) i [] lies ∙ get_or-drop a.at a.rows.now i [] in
    let (e, l) = some_sort a.text.now c.args.sorts.now (name_at a.text.now a.rows.now (a.at + c.loop-i.i)) c.in_ok-s.s (rw (c.part.ensures, c.behind_kind-word.ensures, read) at c.in_ok-s.ensures) in
    sofar_more a.text.now a.rows.now a.at c.args.part.k c.args.sorts.now c.loop-i.invariant e l c.put.ensures
