-- `meet` meets its contract. The loop's invariant: the words spent and those of what is left are the whole term's, and meeting what is left, from the
-- variables that the table records, comes to meeting the whole. What falls: words left to spend, arguments left on the stack, rows to close.
use mathlib.Core.Path.{refl, sym, ap, ◌∙◌}
use Rattle.std.specs.Option.{is_some}
use Rattle.meeting.specs.PlaceLaws.{known_few}
use Rattle.meeting.proofs.Turns.{turn_start, turn_known, turn_variable, turn_over, less_enter, turn_enter, turn_close, less_next, turn_next}
use native.Mathlib.Omega.{arith}
use Rattle.meeting.proofs.meet.Goals as goal

pub loop-next-preserved-then-next-lt-PATTERN_ROOM : goal.loop-next-preserved-then-next-lt-PATTERN_ROOM
loop-next-preserved-then-next-lt-PATTERN_ROOM c =
    rw c.take.ensures.after (turn_variable (rw (sym c.take.ensures.value ∙ c.in-Some.is) at c.loop-next.invariant) refl c.if-next-lt-PATTERN_ROOM.true _ _ c.give.ensures)

pub give-requires : goal.give-requires
give-requires c =
    let t = c.loop-next.invariant in
    (let l = t.long in omega (arith, c.if-next-lt-PATTERN_ROOM.true), known_few (turn_known t c.requires.known))

pub returns-then-most-spent : goal.returns-then-most-spent
returns-then-most-spent c =
    let t = c.loop-next.invariant in
    let o = turn_over (rw (sym c.take.ensures.value ∙ c.in-Some.is) at t) refl c.if-next-lt-PATTERN_ROOM.false (rw c.arity_of-arity.ensures at c.if-most-spent.true) in
    record {
      walked = record {
        exceeded = λ l. refl;
        answered = λ l. let z : ⊥ = omega arith in absurd z;
        recorded = λ l. let z : ⊥ = omega arith in absurd z;
      };
      known = turn_known t c.requires.known;
      kept = t.sized;
    }

pub loop-next-smaller-else-next-lt-PATTERN_ROOM : goal.loop-next-smaller-else-next-lt-PATTERN_ROOM
loop-next-smaller-else-next-lt-PATTERN_ROOM c =
    rw (sym c.take.ensures.value ∙ c.in-Some.is, c.take.ensures.after, c.arity_of-arity.ensures)
    (less_enter (rw (sym c.take.ensures.value ∙ c.in-Some.is) at c.loop-next.invariant) refl c.if-next-lt-PATTERN_ROOM.false (rw c.arity_of-arity.ensures at c.if-most-spent.false))

pub loop-next-preserved-else-next-lt-PATTERN_ROOM : goal.loop-next-preserved-else-next-lt-PATTERN_ROOM
loop-next-preserved-else-next-lt-PATTERN_ROOM c =
    rw (c.take.ensures.after, c.arity_of-arity.ensures)
    (turn_enter (rw (sym c.take.ensures.value ∙ c.in-Some.is) at c.loop-next.invariant) refl c.if-next-lt-PATTERN_ROOM.false (rw c.arity_of-arity.ensures at c.if-most-spent.false))

pub loop-next-preserved-in-None-checked_sub : goal.loop-next-preserved-in-None-checked_sub
loop-next-preserved-in-None-checked_sub c =
    let (some, is) = c.in-Some-checked_sub.ensures in
    rw (c.take.ensures.after ∙ sym c.in-None.is ∙ c.take.ensures.value, is)
    (turn_close c.loop-next.invariant (ap is_some (sym c.take.ensures.value ∙ c.in-None.is)) some (rw is at c.in-None-checked_sub.ensures))

pub loop-next-smaller : goal.loop-next-smaller
loop-next-smaller c =
    let (some, is) = c.in-Some-checked_sub.ensures in
    let (more, less) = c.in-Some-checked_sub-2.ensures in
    rw (less, is) (less_next c.loop-next.invariant (ap is_some (sym c.take.ensures.value ∙ c.in-None.is)) some (rw is at more))

pub loop-next-preserved : goal.loop-next-preserved
loop-next-preserved c =
    let (some, is) = c.in-Some-checked_sub.ensures in
    let (more, less) = c.in-Some-checked_sub-2.ensures in
    rw (less, is) (turn_next c.loop-next.invariant (ap is_some (sym c.take.ensures.value ∙ c.in-None.is)) some (rw is at more))

pub loop-next-init : goal.loop-next-init
loop-next-init c = turn_start c.requires.long c.requires.ready

pub returns-in_default-clause-known : goal.returns-in_default-clause-known
returns-in_default-clause-known c = turn_known c.loop-next.invariant c.requires.known
