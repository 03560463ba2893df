-- What one depth bound, and the bounds in turn, ask and leave: the answers are the theory's `bounded` and `prove`, for the rules by any
-- names. What is lent comes with zero past what is in use, and goes back so.
use Rattle.std.specs.Prelude.{ℕ, zero, suc, ◌-◌, ◌≤◌, ◌<◌, ◌≡◌, Bool, true, false, List, [], length, take, Result as Outcome, Ok, Err}
use Rattle.terms.specs.Term.{one, many}
use Rattle.arena.specs.Copies.{term_room}
use Rattle.arena.specs.Form.{in_form}
use Rattle.arena.specs.Rows.{Rows}
use Rattle.bindings.specs.Tables.{undone}
use Rattle.bindings.specs.Stored.{held}
use Rattle.bindings.specs.Promises.{Undoable}
use Rattle.unifier.specs.Promises.{Scratch}
use Rattle.refusals.specs.Refusals.{number_of}
use Rattle.refusals.specs.declared.Refusal.{Refusal}
use Rattle.refusals.specs.declared.Refusal.TheVariants.{OverLimit}
use Rattle.resolution.specs.Rules.{Tree, leaf, ◌◂◌}
use Rattle.resolution.specs.Search.{within, Result, refused, found, failed, bounded, Verdict, refusal, proved, nothing, undecided, prove}
use Rattle.resolution.specs.Preorder.{preorder, flat}
use Rattle.attempts.specs.Promises.{Added}
use Rattle.tree_rows.specs.Trees.{Lists, entries_from}
use Rattle.search_machine.specs.State.{term, Refers, rules_from, RulesStored, RulesInForm, Well}
use Rattle.search_machine.specs.Promises.{Stopped}
use Rattle.search_machine.specs.Allowed.{Allowed}
use Rattle.search_machine.specs.Moves.{in_use_of}
use Rattle.search_machine.specs.declared.Machine.{Machine}
use Rattle.search_machine.specs.declared.Mode.{Mode}
use Rattle.search_machine.specs.declared.Mode.TheVariants.{Enter, Try, Fail, Proved as Done, Over, Refused as Exceeding}
use Rattle.deepening.specs.Clearing.{zero_row, Cleared, ClearFrom}
use Rattle.deepening.specs.Trees.{tree_rows, Nodes}
use Rattle.deepening.specs.declared.bound.Came.{Came}
use Rattle.deepening.specs.declared.bound.Came.TheVariants.{Found, Failed}
use Rattle.deepening.specs.declared.Answer.{Answer}
use Rattle.deepening.specs.declared.Answer.TheVariants.{Proved, Nothing, Undecided}

-- The goal g with s steps, in a session with c variables, t bindings and u words: signature and session are in form, there is a frame for
-- each step, and words past those in use, frames and scratch are zero.
pub record Asking (a : Allowed) (P : List ℕ) (R F : Rows) (W : List ℕ) (T L M S : Rows) (g s c t u : ℕ) : Type 0 where
  pub rules : RulesStored P R a.rules
  pub well : Well a W T c t u
  pub refers : Refers W c u g
  pub scratch : Scratch term_room a.limits.words L M S
  pub frames : a.frames ≤ length F
  pub steps : s ≤ a.frames
  pub small : a.frames < 4294967296
  pub words_clear : ClearFrom 0 W u
  pub frames_clear : ClearFrom zero_row F 0

-- One depth bound

-- The theory's search at the depth bound d.
abbrev pub bounded_of : Allowed → List ℕ → List ℕ → Rows → List ℕ → Rows → ℕ → ℕ → ℕ → ℕ → ℕ → ℕ → Result
bounded_of a text P R W T g d s c t u =
    bounded (within a.limits.variables a.limits.words) (rules_from text P R 0 a.rules) s u (held term_room W T t) (term W g) d c

-- Every buffer is as it was.
pub record Unchanged (F F' : Rows) (W W' : List ℕ) (T T' : Rows) : Type 0 where
  pub frames : F' ≡ F
  pub words : W' ≡ W
  pub rows : T' ≡ T

-- A proof was found: the session extended with c' variables, t' bindings and u' words. Words and bindings are only added, zero follows
-- them, and words that are in form over the signature's arities stay so.
pub record Extended (a : Allowed) (P : List ℕ) (R : Rows) (W W' : List ℕ) (T T' : Rows) (c t u c' t' u' : ℕ) : Type 0 where
  pub later : c ≤ c'
  pub longer : u ≤ u'
  pub added : Added T T' t t'
  pub well : Well a W' T' c' t' u'
  pub words_long : length W' ≡ length W
  pub words_kept : take u W' ≡ take u W
  pub words_clear : ClearFrom 0 W' u'
  pub stays_in_form : (arities : List ℕ) → RulesInForm P R a.rules arities → in_form W 0 u term_room c arities ≡ true
      → in_form W' 0 u' term_room c' arities ≡ true

-- Its n applications stand in the rows, and zero follows.
pub record Shown (a : Allowed) (P : List ℕ) (R F F' : Rows) (W W' : List ℕ) (T T' : Rows) (s c t u : ℕ) (o : Result)
    (n b c' t' u' : ℕ) : Type 0 where
  pub trees : Tree many
  pub left : b ≤ s
  pub value : found (held term_room W' T' t') trees b c' u' ≡ o
  pub extended : Extended a P R W W' T T' c t u c' t' u'
  pub room : n ≤ a.frames
  pub order : entries_from term_room W' F' 0 n ≡ flat trees
  pub nodes : Nodes W' c' u' F' n
  pub frames_long : length F' ≡ length F
  pub frames_clear : ClearFrom zero_row F' n

-- None was: only the counter has moved.
pub record Counted (a : Allowed) (W : List ℕ) (T : Rows) (c t u c' : ℕ) : Type 0 where
  pub later : c ≤ c'
  pub well : Well a W T c' t u

-- What an answer says of the theory's result.
abbrev pub Says : Allowed → List ℕ → Rows → Rows → Rows → List ℕ → List ℕ → Rows → Rows → ℕ → ℕ → ℕ → ℕ → Result → Outcome Came Refusal → Type 0
Says a P R F F' W W' T T' s c t u o (Err e) = (number_of e ≡ 37) × (refused ≡ o) × Unchanged F F' W W' T T'
Says a P R F F' W W' T T' s c t u o (Ok (Found n b i)) = Shown a P R F F' W W' T T' s c t u o n b i.variables i.bound i.used
Says a P R F F' W W' T T' s c t u o (Ok (Failed b cut c')) = (failed b cut c' ≡ o) × (b ≤ s) × Counted a W T c t u c' × Unchanged F F' W W' T T'

-- `at_bound` searched at the depth bound d; the scratch is as it was.
pub record Bounded (a : Allowed) (P : List ℕ) (R F F' : Rows) (W W' : List ℕ) (T T' L L' M M' S S' : Rows) (g d s c t u : ℕ)
    (r : Outcome Came Refusal) : Type 0 where
  pub says : (text : List ℕ) → Says a P R F F' W W' T T' s c t u (bounded_of a text P R W T g d s c t u) r
  pub links : L' ≡ L
  pub marks : M' ≡ M
  pub stack : S' ≡ S

-- The end of a bound: words from u on and rows from n on are cleared, as far as the machine wrote.
pub record Wiped (F F' : Rows) (W W' : List ℕ) (m : Machine) (u n : ℕ) : Type 0 where
  pub words : Cleared 0 0 W W' u m.top
  pub frames : Cleared [] zero_row F F' n m.high

-- What `leave` leaves, by the mode in which the machine has stopped; t and u are the bindings and words at the start.
abbrev pub Leaves : Rows → Rows → List ℕ → List ℕ → Rows → Rows → Machine → ℕ → ℕ → ℕ → Outcome Came Refusal → Mode → Type 0
Leaves F F' W W' T T' m d t u r Done =
    (r ≡ Ok (Found m.frames m.steps (in_use_of m))) × (T' ≡ T) × Wiped (tree_rows d F m.frames) F' W W' m m.used
    m.frames
Leaves F F' W W' T T' m d t u r Over = (r ≡ Ok (Failed m.steps m.cut m.counter)) × (T' ≡ T) × Wiped F F' W W' m u 0
Leaves F F' W W' T T' m d t u r Exceeding = (r ≡ Err OverLimit) × (T' ≡ undone T t (m.bound - t)) × Wiped F F' W W' m u 0
Leaves F F' W W' T T' m d t u r Enter = ⊥
Leaves F F' W W' T T' m d t u r Try = ⊥
Leaves F F' W W' T T' m d t u r Fail = ⊥

pub record Left (F F' : Rows) (W W' : List ℕ) (T T' : Rows) (m : Machine) (d t u : ℕ) (r : Outcome Came Refusal) : Type 0 where
  pub is : Leaves F F' W W' T T' m d t u r m.mode

-- The machine has stopped; refused, its bindings can be taken back.
pub record Leaving (T : Rows) (m : Machine) (t : ℕ) : Type 0 where
  pub stopped : Stopped m.mode
  pub undoable : m.mode ≡ Exceeding → Undoable T m.bound t

-- The bounds in turn

-- A failure settles the goal where steps are left and nothing was cut off.
abbrev pub settled : ℕ → Bool → Bool
settled zero cut = false
settled (suc b) true = false
settled (suc b) false = true

-- The theory's answer to the goal.
abbrev pub prove_of : Allowed → List ℕ → List ℕ → Rows → List ℕ → Rows → ℕ → ℕ → ℕ → ℕ → ℕ → ℕ → Verdict
prove_of a text P R W T g largest s c t u =
    prove (within a.limits.variables a.limits.words) (rules_from text P R 0 a.rules) s largest u (held term_room W T t) (term W g) c

-- Proved: the proof is one tree, whose nodes are the first n rows, and zero follows.
pub record Proven (a : Allowed) (P : List ℕ) (R F F' : Rows) (W W' : List ℕ) (T T' : Rows) (c t u : ℕ) (v : Verdict)
    (n k c' t' u' : ℕ) : Type 0 where
  pub tree : Tree one
  pub value : proved (held term_room W' T' t') (tree ◂ leaf) k c' u' ≡ v
  pub extended : Extended a P R W W' T T' c t u c' t' u'
  pub room : n ≤ a.frames
  pub count : n ≡ length (preorder 1 tree)
  pub lists : Lists term_room c' W' u' F' 0 1 tree n
  pub frames_long : length F' ≡ length F
  pub frames_clear : ClearFrom zero_row F' n

-- What an answer says of the theory's verdict.
abbrev pub Answers : Allowed → List ℕ → Rows → Rows → Rows → List ℕ → List ℕ → Rows → Rows → ℕ → ℕ → ℕ → Verdict → Outcome Answer Refusal → Type 0
Answers a P R F F' W W' T T' c t u v (Err e) = (number_of e ≡ 37) × (refusal 37 ≡ v) × Unchanged F F' W W' T T'
Answers a P R F F' W W' T T' c t u v (Ok (Proved n k i)) = Proven a P R F F' W W' T T' c t u v n k i.variables i.bound i.used
Answers a P R F F' W W' T T' c t u v (Ok (Nothing k c')) = (nothing k c' ≡ v) × Counted a W T c t u c' × Unchanged F F' W W' T T'
Answers a P R F F' W W' T T' c t u v (Ok (Undecided k c')) = (undecided k c' ≡ v) × Counted a W T c t u c' × Unchanged F F' W W' T T'

-- `prove` answered the goal; the scratch is as it was.
pub record Deepened (a : Allowed) (P : List ℕ) (R F F' : Rows) (W W' : List ℕ) (T T' L L' M M' S S' : Rows) (g largest s c t u : ℕ)
    (r : Outcome Answer Refusal) : Type 0 where
  pub answers : (text : List ℕ) → Answers a P R F F' W W' T T' c t u (prove_of a text P R W T g largest s c t u) r
  pub links : L' ≡ L
  pub marks : M' ≡ M
  pub stack : S' ≡ S
