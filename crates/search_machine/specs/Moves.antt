-- The machine's next states, and the number that falls with each.
use Rattle.std.specs.Prelude.{ℕ, zero, suc, ◌+◌, ◌-◌, ◌*◌, Bool, false}
use Rattle.arena.specs.Rows.{Rows}
use Rattle.attempts.specs.declared.SearchLimits.{SearchLimits}
use Rattle.attempts.specs.declared.SearchState.{SearchState}
use Rattle.search_machine.specs.State.{frame_at}
use Rattle.bindings.specs.declared.InUse.{InUse}
use Rattle.search_machine.specs.declared.Machine.{Machine}
use Rattle.search_machine.specs.declared.Mode.{Mode}
use Rattle.search_machine.specs.declared.Mode.TheVariants.{Enter, Try, Fail, Proved, Over, Refused}
use Rattle.search_machine.specs.declared.frames.Frame.{Frame}

-- On at a place.
abbrev pub to_place : Machine → ℕ → ℕ → ℕ → Machine
to_place m parent place steps = record m { mode = Enter; parent = parent; place = place; steps = steps }

-- The place failed.
abbrev pub to_fail : Machine → ℕ → Bool → Machine
to_fail m steps cut = record m { mode = Fail; steps = steps; cut = cut }

-- Stopped.
abbrev pub to_stop : Machine → Mode → ℕ → Machine
to_stop m mode steps = record m { mode = mode; steps = steps }

-- On with a goal, from the first rule on.
abbrev pub to_goal : Machine → ℕ → ℕ → ℕ → Machine
to_goal m goal depth steps = record m { mode = Try; steps = steps; goal = goal; depth = depth; rule = 0 }

-- The same goal with a rule, from a counter on, where words were written below `top`.
abbrev pub to_rule : Machine → ℕ → ℕ → ℕ → Machine
to_rule m rule counter top = record m { mode = Try; counter = counter; rule = rule; top = top }

-- Into an application, where rows were written below `high`.
abbrev pub to_body : Machine → InUse → ℕ → Machine
to_body m i high =
    record m {
      mode = Enter;
      parent = m.frames + 1;
      place = 0;
      frames = m.frames + 1;
      counter = i.variables;
      bound = i.bound;
      used = i.used;
      high = high;
    }

-- Back to the goal of an application, with the rule behind its own.
abbrev pub to_retry : Machine → Frame → Machine
to_retry m x =
    record m {
      mode = Try;
      parent = x.parent;
      place = x.place;
      frames = m.frames - 1;
      bound = x.bound;
      used = x.used;
      goal = x.goal;
      depth = x.depth;
      rule = x.rule + 1;
    }

-- The first state: a goal, the depth that its premises get, the steps, and what is in use.
abbrev pub to_start : ℕ → ℕ → ℕ → InUse → Machine
to_start goal depth steps i =
    record {
      mode = Try;
      parent = 0;
      place = 0;
      frames = 0;
      steps = steps;
      cut = false;
      counter = i.variables;
      bound = i.bound;
      used = i.used;
      goal = goal;
      depth = depth;
      rule = 0;
      top = i.used;
      high = 0;
    }

-- What of a state is in use.
abbrev pub in_use_of : Machine → InUse
in_use_of m = record { variables = m.counter; bound = m.bound; used = m.used }

-- Where an attempt with the next rule starts.
abbrev pub state_for : Machine → SearchLimits → SearchState
state_for m limits = record { limits = limits; in_use = in_use_of m; goal = m.goal }

-- The frame of an application that is entered.
abbrev pub frame_for : Machine → Frame
frame_for m =
    record {
      rule = m.rule;
      goal = m.goal;
      depth = m.depth;
      parent = m.parent;
      place = m.place;
      counter = m.counter;
      bound = m.bound;
      used = m.used;
    }

-- What falls: the steps, and the rules left to the open applications and to the goal.
abbrev pub weights : ℕ → Rows → ℕ → ℕ
weights rules F zero = 0
weights rules F (suc n) = weights rules F n + (3 * (rules - suc (frame_at F n).rule) + 2)

abbrev pub load : ℕ → ℕ → ℕ
load k zero = 0
load k (suc b) = k + load k b

abbrev pub current : ℕ → Mode → ℕ → ℕ
current rules Enter r = 2
current rules Try r = 3 * (rules - r) + 2
current rules Fail r = 1
current rules Proved r = 0
current rules Over r = 0
current rules Refused r = 0

unfoldable pub measure : ℕ → Rows → Machine → ℕ
measure rules F m = load (3 * rules + 1) m.steps + weights rules F m.frames + current rules m.mode m.rule
