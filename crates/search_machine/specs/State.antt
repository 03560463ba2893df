-- What the machine's storage denotes: places as work lists, frames as branch records (crates/resolution, Machine), and the state as what
-- the whole search comes to.
use Rattle.std.specs.Prelude.{ℕ, zero, suc, ◌+◌, ◌-◌, ◌≤◌, ◌<◌, ◌≡◌, true, List, [], ◌∷◌, ◌++◌, length, get_or}
use Rattle.terms.specs.Term.{many, Term, Terms, nil, cons}
use Rattle.arena.specs.Cells.{headers, denote, Reference, Same, cells}
use Rattle.arena.specs.Copies.{term_room}
use Rattle.arena.specs.Form.{in_form}
use Rattle.arena.specs.Rows.{Rows}
use Rattle.names.specs.Symbols.{column, row_at}
use Rattle.bindings.specs.Stored.{held, Form}
use Rattle.resolution.specs.Rules.{Rule, Tree}
use Rattle.resolution.specs.Search.{Limits, within, Work, build, goals, Result, refused, found, failed, tries}
use Rattle.resolution.specs.Machine.{search, or_cut, Branch, resume}
use Rattle.resolution.specs.Preorder.{Entry, entry, builds, flat, made, Fits}
use Rattle.rules.specs.StoredRows.{heads_in, places_in, stored_in}
use Rattle.rule_checks.specs.RuleForm.{rule_in}
use Rattle.attempts.specs.StoredRules.{StoredRule, RuleInForm}
use Rattle.attempts.specs.Promises.{Added, premise_at}
use Rattle.search_machine.specs.Allowed.{Allowed}
use Rattle.search_machine.specs.declared.Machine.{Machine}
use Rattle.search_machine.specs.declared.Mode.{Mode}
use Rattle.search_machine.specs.declared.Mode.TheVariants.{Enter, Try, Fail, Proved, Over, Refused}
use Rattle.search_machine.specs.declared.frames.Frame.{Frame}

-- Terms and references of the session's words.
abbrev pub term : List ℕ → ℕ → Term
term W r = denote term_room (cells W) r

abbrev pub Refers : List ℕ → ℕ → ℕ → ℕ → Type 0
Refers W v u r = Reference term_room (cells W) v u r

-- The n terms of f from number i on.
abbrev pub span : (ℕ → Term) → ℕ → ℕ → Terms
span f i zero = nil
span f i (suc n) = cons (f i) (span f (suc i) n)

-- The rules, by number and from a number on; the text has their names.
abbrev pub rule_at : List ℕ → List ℕ → Rows → ℕ → Rule
rule_at text P R r = rule_in text P (row_at R r)

abbrev pub rules_from : List ℕ → List ℕ → Rows → ℕ → ℕ → List Rule
rules_from text P R r zero = []
rules_from text P R r (suc k) = rule_at text P R r ∷ rules_from text P R (suc r) k

-- How many premises a rule has.
unfoldable pub arity : Rows → ℕ → ℕ
arity R r = column (row_at R r) 4

-- The rules are in form: there are n of them, each stored as `load` stores it.
pub record RulesStored (P : List ℕ) (R : Rows) (n : ℕ) : Type 0 where
  pub lent : n ≤ length R
  pub few : n ≤ 1024
  pub stored : (r : ℕ) → r < n → StoredRule P (heads_in (row_at R r)) (places_in (row_at R r)) (stored_in (row_at R r))
  pub premises : (r : ℕ) → r < n → column (row_at R r) 4 ≤ 16
  pub variables : (r : ℕ) → r < n → column (row_at R r) 3 ≤ 64

-- Their words are in form over a signature's arities.
abbrev pub RulesInForm : List ℕ → Rows → ℕ → List ℕ → Type 0
RulesInForm P R n arities = (r : ℕ) → r < n → RuleInForm P (stored_in (row_at R r)) arities

-- A frame's row.
abbrev pub frame_of : List ℕ → Frame
frame_of x = record {
  rule = get_or x 0 0;
  goal = get_or x 1 0;
  depth = get_or x 2 0;
  parent = get_or x 3 0;
  place = get_or x 4 0;
  counter = get_or x 5 0;
  bound = get_or x 6 0;
  used = get_or x 7 0;
}

abbrev pub row_of : Frame → List ℕ
row_of x = x.rule ∷ x.goal ∷ x.depth ∷ x.parent ∷ x.place ∷ x.counter ∷ x.bound ∷ x.used ∷ []

unfoldable pub frame_at : Rows → ℕ → Frame
frame_at F j = frame_of (get_or F j [])

-- The reference that premise k of an application got when the rule was copied behind the words then in use.
unfoldable pub premise_ref : Rows → Frame → ℕ → ℕ
premise_ref R x k =
    premise_at (places_in (row_at R x.rule)) x.counter (stored_in (row_at R x.rule)) x.used (get_or (heads_in (row_at R x.rule)) k 0)

-- The goals of an application from premise i on, its build, and then other work.
abbrev pub pending : Rows → List ℕ → Frame → ℕ → List Work → List Work
pending R W x i w =
    goals (span (λ (k : ℕ). term W (premise_ref R x k)) i (arity R x.rule - i)) x.depth
    (build x.rule (term W x.goal) (arity R x.rule) ∷ w)

-- A place, premise i of application p (counted from 1; 0 is the top), is a work list. Its references are in form among v variables and u
-- words; D is the depth bound, and there are n rules.
pub data Place (D : ℕ) (n : ℕ) (R F : Rows) (W : List ℕ) (v u : ℕ) : ℕ → ℕ → List Work → Type 0 where
  top : {i : ℕ} → i ≤ 1 → Place D n R F W v u 0 i []
  inside : {j i : ℕ} {w ws : List Work} {x : Frame} → frame_at F j ≡ x
      → x.rule < n → x.parent ≤ j → i ≤ arity R x.rule → x.used ≤ u → Refers W v u x.goal
      → ((k : ℕ) → k < arity R x.rule → Refers W v u (premise_ref R x k))
      → Place D n R F W v u x.parent (suc x.place) w
      → x.depth + suc (builds w) ≡ D
      → ws ≡ pending R W x i w
      → Place D n R F W v u (suc j) i ws

-- The applications in order, each with its height from the top.
abbrev pub entries : ℕ → Rows → List ℕ → ℕ → List Entry
entries D F W zero = []
entries D F W (suc n) = entries D F W n ++ (entry (D - (frame_at F n).depth) (frame_at F n).rule (term W (frame_at F n).goal) ∷ [])

-- Where the search starts: the text of the rules' names, the symbols' arities, the session's words and bindings with their counts, the rows
-- of frames, the steps and the depth bound.
pub record Start : Type 0 where
  pub text : List ℕ
  pub arities : List ℕ
  pub words : List ℕ
  pub rows : Rows
  pub frames : Rows
  pub counter : ℕ
  pub used : ℕ
  pub bound : ℕ
  pub steps : ℕ
  pub depth : ℕ

-- The storage of a state: in form, and there is room for what the limits allow.
pub record Well (a : Allowed) (W : List ℕ) (T : Rows) (c t u : ℕ) : Type 0 where
  pub form : Form term_room W T c u t
  pub lent_words : a.limits.words ≤ length W
  pub lent_rows : a.limits.variables ≤ length T
  pub enough : a.limits.variables ≤ term_room
  pub low : term_room + a.limits.words ≤ headers

-- The session's words and bindings stand below the state's.
pub record Above (W : List ℕ) (T : Rows) (z : Start) (t u : ℕ) : Type 0 where
  pub words : z.used ≤ u
  pub same : Same term_room (cells z.words) (cells W) z.used
  pub added : Added z.rows T z.bound t

module _ (a : Allowed) (P : List ℕ) (R F : Rows) where
  abbrev pub limits : Limits
  limits = within a.limits.variables a.limits.words

  abbrev pub all_rules : Start → List Rule
  all_rules z = rules_from z.text P R 0 a.rules

  abbrev pub rules_on : Start → ℕ → List Rule
  rules_on z r = rules_from z.text P R r (a.rules - r)

  -- Words that were in form over the arities at the start are so now, if the rules' are.
  abbrev pub StaysInForm : Start → List ℕ → ℕ → ℕ → Type 0
  StaysInForm z W c u =
      RulesInForm P R a.rules z.arities → in_form z.words 0 z.used term_room z.counter z.arities ≡ true
      → in_form W 0 u term_room c z.arities ≡ true

  -- Frame n, which reads x, is the branch record f. T, t and u are the bindings and words after it, T₁ the bindings before it, and c is the
  -- counter.
  pub record FrameOk (z : Start) (W : List ℕ) (T T₁ : Rows) (n c t u : ℕ) (x : Frame) (f : Branch) : Type 0 where
    pub reads : frame_at F n ≡ x
    pub saved : held term_room W T₁ x.bound ≡ f.saved
    pub goal : term W x.goal ≡ f.term
    pub depth : x.depth ≡ f.depth
    pub words : x.used ≡ f.words
    pub rule : suc x.rule ≡ f.rule
    pub others : rules_on z (suc x.rule) ≡ f.others
    pub known : x.rule < a.rules
    pub rest : Place z.depth a.rules R F W c x.used x.parent (suc x.place) f.rest
    pub parent : x.parent ≤ n
    pub refers : Refers W c x.used x.goal
    pub below : x.used ≤ u
    pub added : Added T₁ T x.bound t
    pub form : Form term_room W T₁ c x.used x.bound
    pub formed : StaysInForm z W c x.used
    pub level : x.depth + suc (builds f.rest) ≡ z.depth
    pub order : entries z.depth F W n ≡ made 1 f.rest f.stack
    pub fits : Fits 1 f.rest

  -- Below all frames stands the session, its bindings the very rows.
  pub record Bottom (z : Start) (W : List ℕ) (T : Rows) (t u : ℕ) : Type 0 where
    pub bound : t ≡ z.bound
    pub used : u ≡ z.used
    pub rows : T ≡ z.rows
    pub same : Same term_room (cells z.words) (cells W) z.used

  -- The first n frames are the branch records, the newest first.
  abbrev pub Stack : Start → List ℕ → Rows → ℕ → ℕ → ℕ → ℕ → List Branch → Type 0
  Stack z W T zero c t u [] = Bottom z W T t u
  Stack z W T zero c t u (f ∷ fs) = ⊥
  Stack z W T (suc n) c t u [] = ⊥
  Stack z W T (suc n) c t u (f ∷ fs) = (x : Frame) × (T₁ : Rows) × FrameOk z W T T₁ n c t u x f × Stack z W T₁ n c x.bound x.used fs

  module _ (W : List ℕ) (T : Rows) (z : Start) (o : Result) (m : Machine) where
    -- To enter a place.
    pub record Entering : Type 0 where
      pub work : List Work
      pub trees : Tree many
      pub branches : List Branch
      pub place : Place z.depth a.rules R F W m.counter m.used m.parent m.place work
      pub within : m.parent ≤ m.frames
      pub stack : Stack z W T m.frames m.counter m.bound m.used branches
      pub order : entries z.depth F W m.frames ≡ made 0 work trees
      pub fits : Fits 0 work
      pub well : Well a W T m.counter m.bound m.used
      pub formed : StaysInForm z W m.counter m.used
      pub room : m.frames + m.steps ≤ a.frames
      pub value : resume limits (all_rules z) branches (or_cut m.cut
          (search limits (all_rules z) m.steps m.counter m.used (held term_room W T m.bound) work trees)) ≡ o

    -- To try a goal with the rules from a number on.
    pub record Trying : Type 0 where
      pub work : List Work
      pub trees : Tree many
      pub branches : List Branch
      pub place : Place z.depth a.rules R F W m.counter m.used m.parent (suc m.place) work
      pub within : m.parent ≤ m.frames
      pub stack : Stack z W T m.frames m.counter m.bound m.used branches
      pub order : entries z.depth F W m.frames ≡ made 1 work trees
      pub fits : Fits 1 work
      pub well : Well a W T m.counter m.bound m.used
      pub formed : StaysInForm z W m.counter m.used
      pub room : m.frames + m.steps < a.frames
      pub refers : Refers W m.counter m.used m.goal
      pub known : m.rule ≤ a.rules
      pub level : m.depth + suc (builds work) ≡ z.depth
      pub value : resume limits (all_rules z) branches (tries limits (search limits (all_rules z)) (held term_room W T m.bound)
          (term W m.goal) m.depth work trees m.used m.rule (rules_on z m.rule) m.steps m.cut m.counter) ≡ o

    -- To go back.
    pub record Failing : Type 0 where
      pub branches : List Branch
      pub stack : Stack z W T m.frames m.counter m.bound m.used branches
      pub well : Well a W T m.counter m.bound m.used
      pub room : m.frames + m.steps ≤ a.frames
      pub value : resume limits (all_rules z) branches (failed m.steps m.cut m.counter) ≡ o

    -- Stopped with a proof: the frames are its preorder.
    pub record Proving : Type 0 where
      pub trees : Tree many
      pub order : entries z.depth F W m.frames ≡ flat trees
      pub references : (k : ℕ) → k < m.frames → Refers W m.counter m.used (frame_at F k).goal
      pub room : m.frames ≤ a.frames
      pub well : Well a W T m.counter m.bound m.used
      pub formed : StaysInForm z W m.counter m.used
      pub above : Above W T z m.bound m.used
      pub value : found (held term_room W T m.bound) trees m.steps m.counter m.used ≡ o

    -- Stopped with nothing left to try: the bindings are the very rows at the start.
    pub record Ending : Type 0 where
      pub bottom : Bottom z W T m.bound m.used
      pub well : Well a W T m.counter m.bound m.used
      pub value : failed m.steps m.cut m.counter ≡ o

    -- Stopped by the limits.
    pub record Refusing : Type 0 where
      pub well : Well a W T m.counter m.bound m.used
      pub above : Above W T z m.bound m.used
      pub value : refused ≡ o

    abbrev pub Case : Mode → Type 0
    Case Enter = Entering
    Case Try = Trying
    Case Fail = Failing
    Case Proved = Proving
    Case Over = Ending
    Case Refused = Refusing

    -- The state means o: what the whole search from the start comes to.
    pub record Holds : Type 0 where
      pub case : Case m.mode
      pub rules : RulesStored P R a.rules
      pub frames : a.frames ≤ length F
      pub left : m.steps ≤ z.steps
      pub later : z.counter ≤ m.counter
      -- what was not written is as it was at the start
      pub words_past : (i : ℕ) → m.top ≤ i → cells W i ≡ cells z.words i
      pub frames_past : (i : ℕ) → m.high ≤ i → get_or F i [] ≡ get_or z.frames i []
      pub words_long : length W ≡ length z.words
      pub frames_long : length F ≡ length z.frames
