-- The contracts over what travels together: a program, a store, and a goal that is asked.
use Rattle.std.specs.Prelude.{ℕ, ◌≡◌, Result}
use Rattle.refusals.specs.declared.Refusal.{Refusal}
use Rattle.search_machine.specs.declared.Machine.{Machine}
use Rattle.search_machine.specs.Groups.{allowed_in}
use Rattle.search_machine.specs.declared.Program.{Program}
use Rattle.search_machine.specs.declared.Store.{Store}
use Rattle.deepening.specs.Bounds.{Asking, Bounded, Wiped, Left, Deepened}
use Rattle.deepening.specs.declared.Answer.{Answer}
use Rattle.deepening.specs.declared.Question.{Question}
use Rattle.deepening.specs.declared.bound.Came.{Came}

abbrev pub AskingIn : Program → Store → Question → Type 0
AskingIn p s q =
    Asking (allowed_in p) p.pattern.now p.rules.now s.frames.now s.words.now s.bindings.now s.links.now s.marks.now s.stack.now
    q.goal q.steps q.in_use.variables q.in_use.bound q.in_use.used

abbrev pub BoundedIn : Program → Store → Store → Question → ℕ → Result Came Refusal → Type 0
BoundedIn p s s' q depth r =
    Bounded (allowed_in p) p.pattern.now p.rules.now s.frames.now s'.frames.now s.words.now s'.words.now s.bindings.now s'.bindings.now
    s.links.now s'.links.now s.marks.now s'.marks.now s.stack.now s'.stack.now q.goal depth q.steps q.in_use.variables q.in_use.bound q.in_use.used r

-- Of the words those from `used` on that a machine wrote are zero, of the frames those from `frames` on; what else a store lends is as it was.
pub record WrittenCleared (s s' : Store) (used frames : ℕ) (m : Machine) : Type 0 where
  pub wiped : Wiped s.frames.now s'.frames.now s.words.now s'.words.now m used frames
  pub bindings : s'.bindings.now ≡ s.bindings.now
  pub links : s'.links.now ≡ s.links.now
  pub marks : s'.marks.now ≡ s.marks.now
  pub stack : s'.stack.now ≡ s.stack.now

-- What the end of a bound leaves; the scratch is not looked at.
pub record LeftIn (s s' : Store) (m : Machine) (q : Question) (depth : ℕ) (r : Result Came Refusal) : Type 0 where
  pub left : Left s.frames.now s'.frames.now s.words.now s'.words.now s.bindings.now s'.bindings.now m depth q.in_use.bound q.in_use.used r
  pub links : s'.links.now ≡ s.links.now
  pub marks : s'.marks.now ≡ s.marks.now
  pub stack : s'.stack.now ≡ s.stack.now

abbrev pub DeepenedIn : Program → Store → Store → Question → ℕ → Result Answer Refusal → Type 0
DeepenedIn p s s' q largest r =
    Deepened (allowed_in p) p.pattern.now p.rules.now s.frames.now s'.frames.now s.words.now s'.words.now s.bindings.now s'.bindings.now
    s.links.now s'.links.now s.marks.now s'.marks.now s.stack.now s'.stack.now q.goal largest q.steps q.in_use.variables q.in_use.bound q.in_use.used r
