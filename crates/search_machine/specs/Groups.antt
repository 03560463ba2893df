-- The contracts over what travels together: a program, which is read, and a store, which is written.
use Rattle.std.specs.Prelude.{◌≡◌, length}
use Rattle.std.proofs.Common.{refl, ◌∙◌}
use Rattle.search_machine.specs.Storage.{RowAsked, RowTried, Attempt}
use Rattle.search_machine.specs.Promises.{Ready, Stepped, Returned, Searched}
use Rattle.search_machine.specs.Allowed.{Allowed}
use Rattle.search_machine.specs.declared.Machine.{Machine}
use Rattle.search_machine.specs.declared.Program.{Program}
use Rattle.search_machine.specs.declared.Store.{Store}

-- What the search with a program may use: all the rules that are lent.
abbrev pub allowed_in : Program → Allowed
allowed_in p = record { limits = p.limits; frames = p.frames; rules = length p.rules.now }

-- The same buffers are lent, and those that the search writes are as long as before; the others are as they were.
pub record IsLent (s s' : Store) : Type 0 where
  pub words : s'.words.ghost_name ≡ s.words.ghost_name
  pub bindings : s'.bindings.ghost_name ≡ s.bindings.ghost_name
  pub links : s'.links.ghost_name ≡ s.links.ghost_name
  pub marks : s'.marks.ghost_name ≡ s.marks.ghost_name
  pub stack : s'.stack.ghost_name ≡ s.stack.ghost_name
  pub frames : s'.frames.ghost_name ≡ s.frames.ghost_name
  pub words_long : length s'.words.now ≡ length s.words.now
  pub rows_long : length s'.bindings.now ≡ length s.bindings.now
  pub frames_long : length s'.frames.now ≡ length s.frames.now

-- What an attempt with the rule of a state asks, and what it leaves.
abbrev pub AskedIn : Program → Store → Machine → Type 0
AskedIn p s m =
    RowAsked p.limits.variables p.limits.words p.pattern.now p.rules.now s.words.now s.bindings.now s.links.now s.marks.now s.stack.now
    m.counter m.used m.bound m.goal m.rule

abbrev pub TriedIn : Program → Store → Store → Machine → Attempt → Type 0
TriedIn p s s' m answer =
    RowTried p.limits.variables p.limits.words p.pattern.now p.rules.now s.words.now s'.words.now s.bindings.now s'.bindings.now
    s.links.now s'.links.now s.marks.now s'.marks.now s.stack.now s'.stack.now m.counter m.used m.bound m.goal m.rule answer

-- What a step asks and leaves, and what the whole search leaves.
abbrev pub ReadyIn : Program → Store → Machine → Type 0
ReadyIn p s m =
    Ready (allowed_in p) p.pattern.now p.rules.now s.frames.now s.words.now s.bindings.now s.links.now s.marks.now s.stack.now m

abbrev pub SteppedIn : Program → Store → Store → Machine → Machine → Type 0
SteppedIn p s s' m m' =
    Stepped (allowed_in p) p.pattern.now p.rules.now s.frames.now s'.frames.now s.words.now s'.words.now s.bindings.now s'.bindings.now
    s.links.now s'.links.now s.marks.now s'.marks.now s.stack.now s'.stack.now m m'

-- A step back writes bindings alone.
pub record ReturnedIn (a : Allowed) (s s' : Store) (m m' : Machine) : Type 0 where
  pub returned : Returned a s.frames.now s.bindings.now s'.bindings.now m m'
  pub words : s'.words.now ≡ s.words.now
  pub links : s'.links.now ≡ s.links.now
  pub marks : s'.marks.now ≡ s.marks.now
  pub stack : s'.stack.now ≡ s.stack.now
  pub frames : s'.frames.now ≡ s.frames.now

abbrev pub SearchedIn : Program → Store → Store → Machine → Machine → Type 0
SearchedIn p s s' m m' =
    Searched (allowed_in p) p.pattern.now p.rules.now s.frames.now s'.frames.now s.words.now s'.words.now s.bindings.now s'.bindings.now
    s.links.now s'.links.now s.marks.now s'.marks.now s.stack.now s'.stack.now m m'

-- Laws

pub lent_start : {s : Store} → IsLent s s
lent_start = record {
  words = refl;
  bindings = refl;
  links = refl;
  marks = refl;
  stack = refl;
  frames = refl;
  words_long = refl;
  rows_long = refl;
  frames_long = refl;
}

pub lent_on : {s s' s'' : Store} → IsLent s s' → IsLent s' s'' → IsLent s s''
lent_on h k = record {
  words = k.words ∙ h.words;
  bindings = k.bindings ∙ h.bindings;
  links = k.links ∙ h.links;
  marks = k.marks ∙ h.marks;
  stack = k.stack ∙ h.stack;
  frames = k.frames ∙ h.frames;
  words_long = k.words_long ∙ h.words_long;
  rows_long = k.rows_long ∙ h.rows_long;
  frames_long = k.frames_long ∙ h.frames_long;
}
