-- Rules that are passed over: each is an attempt whose conclusion clashes with the goal, or that the limits refuse.
use Rattle.std.specs.Prelude.{ℕ, ◌+◌, ◌-◌, ◌*◌, ◌≤◌, ◌<◌, ◌≡◌, refl, true, false, ◌≢◌, List, length, Option, Some, IfSome, Ok, Err}
use Rattle.refusals.specs.declared.Refusal.TheVariants.{OverLimit}
use Rattle.std.proofs.Common.{arith, ap, sym, subst}
use Rattle.arena.specs.Cells.{headers, cells}
use Rattle.arena.specs.Copies.{term_room}
use Rattle.arena.specs.Rows.{Rows}
use Rattle.names.specs.Symbols.{column, row_at}
use Rattle.bindings.specs.Promises.{Walked}
use Rattle.resolution.specs.Search.{Result, within, over}
use Rattle.rules.specs.StoredRows.{heads_in, places_in, stored_in}
use Rattle.attempts.specs.RuleLaws.{variables_le}
use Rattle.attempts.specs.Clashes.{Comparable, Clashes, heads_clash}
use Rattle.attempts.specs.Heads.{head_refused, head_comparable, head_clashes}
use Rattle.attempts.specs.Outcomes.{head_asked, refused_way, missed_way}
use Rattle.attempts.specs.declared.Tried.TheVariants.{Missed}
use Rattle.search_machine.specs.Storage.{RowAsked, RowTried}
use Rattle.search_machine.specs.State.{Start, Holds, Trying}
use Rattle.search_machine.specs.Moves.{to_fail, to_stop, to_rule, current, measure}
use Rattle.search_machine.specs.Promises.{Ready, Stepped, Choice}
use Rattle.search_machine.specs.Choosing.{Goal, Heads, HeadsNode, Readable, Differs, Judged, Choosing, Passing, Onward, Chosen}
use Rattle.search_machine.specs.Falls.{falls_mode, falls_not}
use Rattle.search_machine.specs.Attempts.{row_asked}
use Rattle.search_machine.specs.Tries.{tried_none, tried_refused, tried_missed}
use Rattle.search_machine.specs.Ways.{case_at, holds_on}
use Rattle.search_machine.specs.Allowed.{Allowed}
use Rattle.search_machine.specs.declared.Machine.{Machine}
use Rattle.search_machine.specs.declared.Mode.{Mode}
use Rattle.search_machine.specs.declared.Mode.TheVariants.{Enter, Try, Fail, Proved, Over, Refused}

-- The goal's header

-- The goal leads to a variable.
pub heads_nothing : {W : List ℕ} {T : Rows} {v u t g : ℕ} → Heads W T v u t g 0
heads_nothing = record { clash = λ P s h n z d. absurd (z refl) }

module _ {W : List ℕ} {T : Rows} {v u t g q : ℕ} (walked : Walked term_room W T v u t g q) (node : term_room ≤ q) where
  -- It leads to a node.
  pub heads_node : Heads W T v u t g (cells W (q - term_room))
  heads_node = record { clash = λ P s h n z d. heads_clash h walked node n (λ e. d (sym e)) }

  -- Its header is not 0: headers are above all references.
  pub heads_some : HeadsNode W T v u t g (cells W (q - term_room))
  heads_some = record { some = λ e. let l = walked.in_form.header node in omega arith; heads = heads_node }

  -- The node is there.
  pub node_in : Goal W T v u t g → q - term_room < length W
  node_in h = let n = walked.in_form.node node in let b = h.form.lent_words in omega arith

-- One rule

-- A conclusion with another header than the goal's clashes with it.
pub judged_differs : {P W : List ℕ} {T : Rows} {v u t g s : ℕ} {h : Option ℕ} → Judged P W T v u t g h s → Differs P h s
    → Clashes term_room P W T t g s
judged_differs {W = W} {T = T} {v = v} {u = u} {t = t} {g = g} judged differs =
    let node : IfSome (Some differs.header) (HeadsNode W T v u t g) =
    subst (λ (h : Option ℕ). IfSome h (HeadsNode W T v u t g)) differs.known judged.heads in
    node.heads.clash _ _ judged.comparable differs.node node.some differs.other

module _ {most limit : ℕ} {P : List ℕ} {R : Rows} {W : List ℕ} {T L M S : Rows} {c u t g r : ℕ}
    (asked : RowAsked most limit P R W T L M S c u t g r) where
  row_comparable : Comparable term_room P W T c u t g (column (row_at R r) 5)
  row_comparable = head_comparable (head_asked asked.asked)

  row_readable : Readable P (column (row_at R r) 5)
  row_readable = record {
    low = λ n. let q = row_comparable.pattern_refers.node n in let b = row_comparable.low in omega arith;
    header = λ n. let q = row_comparable.pattern_refers.node n in let b = row_comparable.there in omega arith;
  }

  -- No sum is too large.
  row_small : (u + column (row_at R r) 8 ≤ headers + headers) × (u + column (row_at R r) 8 + column
      (row_at R r) 7 ≤ headers + headers + headers)
      × (c + column (row_at R r) 9 ≤ headers)
  row_small =
      let s = asked.asked.rule in
      let a = asked.asked.state.form.low in
      let b = asked.asked.state.form.few in
      let d = s.head_part.low in
      let e = s.few in
      let f = variables_le P (heads_in (row_at R r)) (places_in (row_at R r)) (stored_in (row_at R r)) s c in
      (omega arith, omega arith, omega arith)

  -- The limits refuse it.
  row_over : over (within most limit) (c + column (row_at R r) 9) (u + column (row_at R r) 8) ≡ true
      → RowTried most limit P R W W T T L L M M S S c u t g r (Err OverLimit)
  row_over e = refused_way asked.asked (head_refused (head_asked asked.asked) e) OverLimit refl

  -- Its conclusion clashes with the goal.
  row_passed : over (within most limit) (c + column (row_at R r) 9) (u + column (row_at R r) 8) ≡ false
      → Clashes term_room P W T t g (column (row_at R r) 5)
      → RowTried most limit P R W W T T L L M M S S c u t g r (Ok (Missed (c + column (row_at R r) 9)))
  row_passed e k = missed_way asked.asked (head_clashes (head_asked asked.asked) e k) refl

-- The loop

module _ {a : Allowed} {P : List ℕ} {R : Rows} {W : List ℕ} {T : Rows} {m : Machine} (choosing : Choosing a P R W T m) where
  at_start : (F : Rows) (z : Start) (o : Result) → Holds a P R F W T z o m → Trying a P R F W T z o m
  at_start F z o h = case_at h choosing.mode

  asked_at : (r : ℕ) → r < a.rules
      → RowAsked a.limits.variables a.limits.words P R W T choosing.links choosing.marks choosing.stack m.counter m.used m.bound
      m.goal r
  asked_at r l =
      let h = at_start choosing.frames choosing.start choosing.result choosing.holds in
      row_asked choosing.holds.rules h.well choosing.scratch h.refers l

  pub choosing_goal : Goal W T m.counter m.used m.bound m.goal
  choosing_goal =
      let h = at_start choosing.frames choosing.start choosing.result choosing.holds in
      record { form = h.well.form; refers = h.refers }

  pub choosing_judged : {h : Option ℕ} → IfSome h (HeadsNode W T m.counter m.used m.bound m.goal) → (r : ℕ) → r < a.rules
      → (r < length R) × Judged P W T m.counter m.used m.bound m.goal h (column (row_at R r) 5)
  choosing_judged heads r l =
      let asked = asked_at r l in
      (asked.known, record { readable = row_readable asked; heads = heads; comparable = row_comparable asked })

  trying_same : (F : Rows) (z : Start) (o : Result) → Trying a P R F W T z o m
      → Trying a P R F W T z o (to_rule m m.rule m.counter m.top)
  trying_same F z o h = record {
    work = h.work;
    trees = h.trees;
    branches = h.branches;
    place = h.place;
    within = h.within;
    stack = h.stack;
    order = h.order;
    fits = h.fits;
    well = h.well;
    formed = h.formed;
    room = h.room;
    refers = h.refers;
    known = h.known;
    level = h.level;
    value = h.value;
  }

  pub passing_start : Passing a P R W T m m.rule m.counter
  passing_start = record {
    known = (at_start choosing.frames choosing.start choosing.result choosing.holds).known;
    further = omega arith;
    keeps = λ F z o h. holds_on h (omega arith) (omega arith) (omega arith) refl refl (λ i l. refl) (trying_same F z o (at_start F z o h));
  }

  module _ {r c : ℕ} (passing : Passing a P R W T m r c) where
    -- What the loop goes on from.
    trying : (F : Rows) (z : Start) (o : Result) → Holds a P R F W T z o m → Trying a P R F W T z o (to_rule m r c m.top)
    trying F z o h = case_at (passing.keeps F z o h) refl

    asked_now : r < a.rules
        → RowAsked a.limits.variables a.limits.words P R W T choosing.links choosing.marks choosing.stack c m.used m.bound
        m.goal r
    asked_now l =
        let h = trying choosing.frames choosing.start choosing.result choosing.holds in
        row_asked choosing.holds.rules h.well choosing.scratch h.refers l

    pub passing_small : r < a.rules → (m.used + column (row_at R r) 8 ≤ headers + headers)
        × (m.used + column (row_at R r) 8 + column (row_at R r) 7 ≤ headers + headers + headers) × (c + column (row_at R r) 9 ≤ headers)
    passing_small l = row_small (asked_now l)

    pub passing_few : r < a.rules → r < 1024
    passing_few l = let f = choosing.holds.rules.few in omega arith

    at_try : current a.rules m.mode m.rule ≡ 3 * (a.rules - m.rule) + 2
    at_try = ap (λ (k : Mode). current a.rules k m.rule) choosing.mode

    -- A rule that clashes is passed over.
    pub passing_next : r < a.rules → Clashes term_room P W T m.bound m.goal (column (row_at R r) 5)
        → over (within a.limits.variables a.limits.words) (c + column (row_at R r) 9) (m.used + column (row_at R r) 8) ≡ false
        → Passing a P R W T m (r + 1) (c + column (row_at R r) 9)
    passing_next l k e =
        let t = row_passed (asked_now l) e k in
        let f = passing.further in
        record {
          known = omega arith;
          further = omega arith;
          keeps = λ F z o h. holds_on (passing.keeps F z o h) (omega arith) (omega arith) (omega arith) refl refl (λ i q. refl)
              (tried_missed a P R F W T z o (to_rule m r c m.top) (trying F z o h) l (asked_now l) (c + column (row_at R r) 9) t);
        }

    -- The limits refuse it.
    pub passing_over : r < a.rules → over (within a.limits.variables a.limits.words) (c + column (row_at R r) 9) (m.used + column (row_at R r) 8)
        ≡ true
        → Chosen a P R W T m (to_stop (to_rule m r c m.top) Refused m.steps)
    passing_over l e = record {
      keeps = λ F z o h. holds_on (passing.keeps F z o h) (omega arith) (omega arith) (omega arith) refl refl (λ i q. refl)
          (tried_refused a P R F W T z o (to_rule m r c m.top) (trying F z o h) l (asked_now l) OverLimit (row_over (asked_now l) e));
      goes = λ F. let q = at_try in falls_mode a.rules F m (to_stop (to_rule m r c m.top) Refused m.steps) refl refl (omega arith);
    }

    -- It has to be tried.
    pub passing_found : (top : ℕ) → r < a.rules → m.top ≤ top → m.used + column (row_at R r) 8 + column (row_at R r) 7 ≤ top
        → Chosen a P R W T m (to_rule m r c top)
    passing_found top l above reach = record {
      keeps = λ F z o h.
          let n = trying F z o h in
          holds_on (passing.keeps F z o h) (omega arith) (omega arith) above refl refl (λ i q. refl)
          (record {
            work = n.work;
            trees = n.trees;
            branches = n.branches;
            place = n.place;
            within = n.within;
            stack = n.stack;
            order = n.order;
            fits = n.fits;
            well = n.well;
            formed = n.formed;
            room = n.room;
            refers = n.refers;
            known = n.known;
            level = n.level;
            value = n.value;
          });
      goes = (
        record { mode = refl; known = l; reach = reach },
        λ F. let q = at_try in let f = passing.further in falls_not a.rules F m (to_rule m r c top) refl refl (omega arith),
      );
    }

    none_left : r ≡ a.rules → Chosen a P R W T m (to_fail (to_rule m r c m.top) m.steps m.cut)
    none_left l = record {
      keeps = λ F z o h. holds_on (passing.keeps F z o h) (omega arith) (omega arith) (omega arith) refl refl (λ i q. refl)
          (tried_none a P R F W T z o (to_rule m r c m.top) (trying F z o h) l);
      goes = λ F. let q = at_try in falls_mode a.rules F m (to_fail (to_rule m r c m.top) m.steps m.cut) refl refl (omega arith);
    }

    -- None is left.
    pub passing_end : a.rules ≤ r → Chosen a P R W T m (to_fail (to_rule m a.rules c m.top) m.steps m.cut)
    passing_end l =
        let e : r ≡ a.rules = let k = passing.known in omega arith in
        subst (λ (k : ℕ). Chosen a P R W T m (to_fail (to_rule m k c m.top) m.steps m.cut)) e (none_left e)

pub chosen_as : {a : Allowed} {P : List ℕ} {R : Rows} {W : List ℕ} {T : Rows} {m r m' : Machine} → r ≡ m' → Chosen a P R W T m m'
    → Chosen a P R W T m r
chosen_as {a} {P} {R} {W} {T} {m} e h = subst (λ (r : Machine). Chosen a P R W T m r) (sym e) h

-- A step after it

-- Where no rule has to be tried, there is less to do.
onward_less : (a : Allowed) (R : Rows) (m m' : Machine) (k : Mode) → k ≢ Try → Onward a R m m' k → (F : Rows)
    → measure a.rules F m' < measure a.rules F m
onward_less a R m m' Try e h F = absurd (e refl)
onward_less a R m m' Enter e h F = h F
onward_less a R m m' Fail e h F = h F
onward_less a R m m' Proved e h F = h F
onward_less a R m m' Over e h F = h F
onward_less a R m m' Refused e h F = h F

module _ {a : Allowed} {P : List ℕ} {R F : Rows} {W : List ℕ} {T L M S : Rows} {m : Machine} (ready : Ready a P R F W T L M S m)
    (e : m.mode ≡ Try) where
  pub ready_choosing : Choosing a P R W T m
  ready_choosing = record {
    mode = e;
    frames = F;
    links = L;
    marks = M;
    stack = S;
    start = ready.start;
    result = ready.result;
    holds = ready.holds;
    scratch = ready.scratch;
  }

  module _ {n : Machine} (chosen : Chosen a P R W T m n) where
    goes_at : (k : Mode) → n.mode ≡ k → Onward a R m n k
    goes_at k q = subst (Onward a R m n) q chosen.goes

    pub chosen_ready : Ready a P R F W T L M S n
    chosen_ready = record {
      start = ready.start;
      result = ready.result;
      holds = chosen.keeps F ready.start ready.result ready.holds;
      scratch = ready.scratch;
      small = ready.small;
    }

    pub chosen_choice : n.mode ≡ Try → Choice a R n
    chosen_choice q = (goes_at Try q).0

    -- The rule was tried.
    pub chosen_tried : n.mode ≡ Try → {F' : Rows} {W' : List ℕ} {T' L' M' S' : Rows} {r : Machine}
        → Stepped a P R F F' W W' T T' L L' M M' S S' n r
        → Stepped a P R F F' W W' T T' L L' M M' S S' m r
    chosen_tried q s = record {
      keeps = λ z o h. s.keeps z o (chosen.keeps F z o h);
      falls = let f = s.falls in let g = (goes_at Try q).1 F in omega arith;
      links = s.links;
      marks = s.marks;
      stack = s.stack;
    }

    -- There is none.
    pub chosen_stops : (k : Mode) → n.mode ≡ k → (Onward a R m n k → measure a.rules F n < measure a.rules F m)
        → Stepped a P R F F W W T T L L M M S S m n
    chosen_stops k q f = record {
      keeps = λ z o h. chosen.keeps F z o h;
      falls = f (goes_at k q);
      links = refl;
      marks = refl;
      stack = refl;
    }

    pub chosen_none : n.mode ≢ Try → Stepped a P R F F W W T T L L M M S S m n
    chosen_none e = chosen_stops n.mode refl (λ o. onward_less a R m n n.mode e o F)
