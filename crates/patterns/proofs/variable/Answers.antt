-- `variable` meets its contract: the entry, and then the count of nodes.
use mathlib.Core.Path.{refl}
use native.Mathlib.Omega.{arith}
use Rattle.refusals.specs.Refused.{handed_on, none_is}
use Rattle.patterns.proofs.Variables.{room_left, room_none, variable_refused, variable_full, variable_node}
use Rattle.patterns.proofs.variable.Goals as goal

pub returns-in_err-entered : goal.returns-in_err-entered
returns-in_err-entered c =
    rw (handed_on c.from_residual.result c.from_residual.ensures.1)
    (record { small = tt; by_index = λ w. variable_refused c.args.text.now c.enter.result _ _ c.enter.ensures.variables_after w c.args.from.used c.args.from.room c.in_err-entered.was; next_is = tt; made_placed = tt })

pub returns-in_err-room : goal.returns-in_err-room
returns-in_err-room c =
    rw (handed_on c.from_residual-in_err-room.result c.from_residual-in_err-room.ensures.1, none_is c.checked_sub.result c.in_err-room.ensures.ok_part c.in_err-room.ensures.value)
    (record { small = tt; by_index = λ w. variable_full c.args.text.now c.enter.result _ _ c.enter.ensures.variables_after w c.args.from.used c.args.from.room c.in_ok-entered.was (room_none c.checked_sub.ensures c.in_err-room.ensures.ok_part); next_is = tt; made_placed = tt })

pub returns : goal.returns
returns c =
    let g = c.in_ok-entered.ensures.grew in
    let (l, e) = room_left c.checked_sub.ensures c.in_ok-room.ensures.ok_part in
    record {
      small = (omega arith, g.1, g.2, omega arith, omega arith);
      by_index = λ w. rw e (variable_node c.args.text.now c.enter.result _ _ c.enter.ensures.variables_after w c.args.from.used c.args.from.room c.in_ok-entered.was c.args.from.next l);
      next_is = refl;
      made_placed = c.in_ok-entered.ensures.entry_placed;
    }
