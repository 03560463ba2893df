-- Passing over rules by arithmetic: what the functions ask and leave. The header that a goal leads to is read once; a rule whose conclusion
-- has another one, or clashes with the goal by the heads of arguments, is passed over as its attempt would, and nothing is written.
use Rattle.std.specs.Prelude.{ℕ, ◌-◌, ◌≤◌, ◌<◌, ◌≡◌, ◌≢◌, List, length, Option, Some, IfSome}
use Rattle.arena.specs.Cells.{headers, Reference, cells}
use Rattle.arena.specs.Copies.{pattern_room, term_room}
use Rattle.arena.specs.Rows.{Rows}
use Rattle.bindings.specs.Stored.{Form}
use Rattle.unifier.specs.Promises.{Scratch}
use Rattle.resolution.specs.Search.{Result}
use Rattle.attempts.specs.Clashes.{Comparable, Clashes}
use Rattle.search_machine.specs.State.{Start, Holds}
use Rattle.search_machine.specs.Moves.{to_rule, measure}
use Rattle.search_machine.specs.Promises.{Choice}
use Rattle.search_machine.specs.Allowed.{Allowed}
use Rattle.search_machine.specs.declared.Machine.{Machine}
use Rattle.search_machine.specs.declared.Mode.{Mode}
use Rattle.search_machine.specs.declared.Mode.TheVariants.{Enter, Try, Fail, Proved, Over, Refused}

-- A goal over words and bindings in form.
pub record Goal (W : List ℕ) (T : Rows) (v u t g : ℕ) : Type 0 where
  pub form : Form term_room W T v u t
  pub refers : Reference term_room (cells W) v u g

-- The goal leads to a node with the header h, so that a pattern's node with another header clashes with it; or h is 0, which tells nothing.
pub record Heads (W : List ℕ) (T : Rows) (v u t g h : ℕ) : Type 0 where
  pub clash : (P : List ℕ) (s : ℕ) → Comparable term_room P W T v u t g s → pattern_room ≤ s → h ≢ 0 → cells P (s - pattern_room) ≢ h
      → Clashes term_room P W T t g s

-- The goal leads to a node with the header h, which is not 0.
pub record HeadsNode (W : List ℕ) (T : Rows) (v u t g h : ℕ) : Type 0 where
  pub some : h ≢ 0
  pub heads : Heads W T v u t g h

-- A conclusion's header is there.
pub record Readable (P : List ℕ) (s : ℕ) : Type 0 where
  pub header : pattern_room ≤ s → s - pattern_room < length P
  pub low : pattern_room ≤ s → s ≤ headers

-- A conclusion is a node with another header.
pub record Differs (P : List ℕ) (h : Option ℕ) (s : ℕ) : Type 0 where
  pub header : ℕ
  pub known : h ≡ Some header
  pub node : pattern_room ≤ s
  pub other : cells P (s - pattern_room) ≢ header

-- What is known of a goal, which may lead to the header h, where a conclusion is judged.
pub record Judged (P W : List ℕ) (T : Rows) (v u t g : ℕ) (h : Option ℕ) (s : ℕ) : Type 0 where
  pub readable : Readable P s
  pub heads : IfSome h (HeadsNode W T v u t g)
  pub comparable : Comparable term_room P W T v u t g s

-- The machine is about to try a rule; frames and scratch are not looked at.
pub record Choosing (a : Allowed) (P : List ℕ) (R : Rows) (W : List ℕ) (T : Rows) (m : Machine) : Type 0 where
  pub mode : m.mode ≡ Try
  pub frames : Rows
  pub links : Rows
  pub marks : Rows
  pub stack : Rows
  pub start : Start
  pub result : Result
  pub holds : Holds a P R frames W T start result m
  pub scratch : Scratch term_room a.limits.words links marks stack

-- Rules up to r were passed over, and the counter moved to c.
pub record Passing (a : Allowed) (P : List ℕ) (R : Rows) (W : List ℕ) (T : Rows) (m : Machine) (r c : ℕ) : Type 0 where
  pub known : r ≤ a.rules
  pub further : m.rule ≤ r
  pub keeps : (F : Rows) (z : Start) (o : Result) → Holds a P R F W T z o m → Holds a P R F W T z o (to_rule m r c m.top)

-- Where the machine is then, by its mode: before a rule that has to be tried, with no more to do than before; or with less to do.
abbrev pub Onward : Allowed → Rows → Machine → Machine → Mode → Type 0
Onward a R m m' Try = Choice a R m' × ((F : Rows) → measure a.rules F m' ≤ measure a.rules F m)
Onward a R m m' Enter = (F : Rows) → measure a.rules F m' < measure a.rules F m
Onward a R m m' Fail = (F : Rows) → measure a.rules F m' < measure a.rules F m
Onward a R m m' Proved = (F : Rows) → measure a.rules F m' < measure a.rules F m
Onward a R m m' Over = (F : Rows) → measure a.rules F m' < measure a.rules F m
Onward a R m m' Refused = (F : Rows) → measure a.rules F m' < measure a.rules F m

-- Rules were passed over, and the meaning stays.
pub record Chosen (a : Allowed) (P : List ℕ) (R : Rows) (W : List ℕ) (T : Rows) (m m' : Machine) : Type 0 where
  pub keeps : (F : Rows) (z : Start) (o : Result) → Holds a P R F W T z o m → Holds a P R F W T z o m'
  pub goes : Onward a R m m' m'.mode
