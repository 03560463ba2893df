-- What the machine's functions ask and leave: a step keeps what the state means, and the measure falls.
use Rattle.std.specs.Prelude.{ℕ, ◌+◌, ◌<◌, ◌≤◌, ◌≡◌, List}
use Rattle.arena.specs.Copies.{term_room}
use Rattle.arena.specs.Rows.{Rows}
use Rattle.names.specs.Symbols.{column, row_at}
use Rattle.unifier.specs.Promises.{Scratch}
use Rattle.resolution.specs.Search.{Result}
use Rattle.search_machine.specs.State.{Start, Holds}
use Rattle.search_machine.specs.Moves.{measure}
use Rattle.search_machine.specs.Allowed.{Allowed}
use Rattle.search_machine.specs.declared.Machine.{Machine}
use Rattle.search_machine.specs.declared.Mode.{Mode}
use Rattle.search_machine.specs.declared.Mode.TheVariants.{Enter, Try, Fail, Proved, Over, Refused}

-- What a step asks: the state means something, the scratch is empty, and the frames can be counted.
pub record Ready (a : Allowed) (P : List ℕ) (R F : Rows) (W : List ℕ) (T L M S : Rows) (m : Machine) : Type 0 where
  pub start : Start
  pub result : Result
  pub holds : Holds a P R F W T start result m
  pub scratch : Scratch term_room a.limits.words L M S
  pub small : a.frames < 4294967296

-- A step: the meaning stays, the scratch is as it was, and the measure falls.
pub record Stepped (a : Allowed) (P : List ℕ) (R F F' : Rows) (W W' : List ℕ) (T T' L L' M M' S S' : Rows) (m m' : Machine) : Type 0 where
  pub keeps : (z : Start) (o : Result) → Holds a P R F W T z o m → Holds a P R F' W' T' z o m'
  pub falls : measure a.rules F' m' < measure a.rules F m
  pub links : L' ≡ L
  pub marks : M' ≡ M
  pub stack : S' ≡ S

-- A step that only reads, where the mode is Enter.
pub record Moved (a : Allowed) (R F : Rows) (m m' : Machine) : Type 0 where
  pub keeps : (P W : List ℕ) (T : Rows) (z : Start) (o : Result) → Holds a P R F W T z o m → Holds a P R F W T z o m'
  pub falls : measure a.rules F m' < measure a.rules F m

pub record Seen (a : Allowed) (R F : Rows) (m : Machine) : Type 0 where
  pub mode : m.mode ≡ Enter
  pub pattern : List ℕ
  pub words : List ℕ
  pub rows : Rows
  pub start : Start
  pub result : Result
  pub holds : Holds a pattern R F words rows start result m

-- What an attempt asks beside: there is such a rule, and its words are counted as written.
pub record Choice (a : Allowed) (R : Rows) (m : Machine) : Type 0 where
  pub mode : m.mode ≡ Try
  pub known : m.rule < a.rules
  pub reach : m.used + column (row_at R m.rule) 8 + column (row_at R m.rule) 7 ≤ m.top

-- A step back, which only takes bindings back, where the mode is Fail.
pub record Returned (a : Allowed) (F T T' : Rows) (m m' : Machine) : Type 0 where
  pub keeps : (P : List ℕ) (R : Rows) (W : List ℕ) (z : Start) (o : Result) → Holds a P R F W T z o m → Holds a P R F W T' z o m'
  pub falls : measure a.rules F m' < measure a.rules F m

pub record Known (a : Allowed) (F T : Rows) (m : Machine) : Type 0 where
  pub mode : m.mode ≡ Fail
  pub pattern : List ℕ
  pub rules : Rows
  pub words : List ℕ
  pub start : Start
  pub result : Result
  pub holds : Holds a pattern rules F words T start result m

-- The modes that go on, and those that do not.
abbrev pub Live : Mode → Type 0
Live Enter = Unit {0}
Live Try = Unit {0}
Live Fail = Unit {0}
Live Proved = ⊥
Live Over = ⊥
Live Refused = ⊥

abbrev pub Stopped : Mode → Type 0
Stopped Enter = ⊥
Stopped Try = ⊥
Stopped Fail = ⊥
Stopped Proved = Unit {0}
Stopped Over = Unit {0}
Stopped Refused = Unit {0}

-- The whole search: the machine has stopped, and its state means what the first one meant.
pub record Searched (a : Allowed) (P : List ℕ) (R F F' : Rows) (W W' : List ℕ) (T T' L L' M M' S S' : Rows) (m m' : Machine) : Type 0 where
  pub keeps : (z : Start) (o : Result) → Holds a P R F W T z o m → Holds a P R F' W' T' z o m'
  pub stopped : Stopped m'.mode
  pub links : L' ≡ L
  pub marks : M' ≡ M
  pub stack : S' ≡ S
