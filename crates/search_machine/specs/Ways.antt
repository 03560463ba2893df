-- The ways out of the machine's functions, as the contracts have them.
use Prim.Native.Nat.{ℕ, suc, ◌+◌, ◌-◌, ◌*◌, ◌≤◌, ◌<◌}
use Rattle.refusals.specs.declared.Refusal.{Refusal}
use native.Mathlib.Omega.{arith}
use Rattle.std.specs.Prelude.{◌≡◌, Bool, true, false, ◌≢◌, List, [], length, get_or, set, Ok, Err}
use Rattle.std.proofs.Math.Path.{refl, ap}
use Rattle.std.proofs.Common.{sym, ◌∙◌, subst, length-set, get_or-set_other}
use Rattle.terms.specs.Numbers.{true_false}
use Rattle.arena.specs.Cells.{cells}
use Rattle.arena.specs.Copies.{term_room}
use Rattle.arena.specs.Rows.{Rows}
use Rattle.bindings.specs.Tables.{undone}
use Rattle.bindings.specs.Promises.{Undoable}
use Rattle.unifier.specs.Promises.{Scratch}
use Rattle.resolution.specs.Search.{Result}
use Rattle.attempts.specs.declared.Tried.TheVariants.{Missed, Entered}
use Rattle.bindings.specs.declared.InUse.{InUse}
use Rattle.search_machine.specs.Storage.{RowAsked, RowTried, PremiseAsked, Attempt}
use Rattle.names.specs.Symbols.{column, row_at}
use Rattle.search_machine.specs.State.{arity, premise_ref, frame_at, row_of, Start, Holds, Case, Entering, Trying, Failing}
use Rattle.search_machine.specs.Moves.{to_place, to_fail, to_stop, to_goal, to_rule, to_body, to_retry, frame_for, weights, current, measure}
use Rattle.search_machine.specs.Promises.{Ready, Stepped, Moved, Seen, Returned, Known, Choice, Live, Stopped, Searched}
use Rattle.search_machine.specs.Falls.{weights_same, weights_top, falls_step, falls_mode}
use Rattle.search_machine.specs.Entries.{entry_out, entry_proof, entry_small, entry_known, entry_built, entry_cut, entry_asked, entry_goal}
use Rattle.search_machine.specs.Attempts.{row_asked}
use Rattle.search_machine.specs.Tries.{frame_set, frames_set, tried_refused, tried_missed, tried_entered}
use Rattle.search_machine.specs.Returns.{back_over, back_known, back_undoable, back_trying}
use Rattle.search_machine.specs.Allowed.{Allowed}
use Rattle.search_machine.specs.declared.Machine.{Machine}
use Rattle.search_machine.specs.declared.Mode.{Mode}
use Rattle.search_machine.specs.declared.Mode.TheVariants.{Enter, Try, Fail, Proved, Over, Refused}
use Rattle.search_machine.specs.declared.frames.Frame.{Frame}

-- A state by its mode.
pub case_at : {a : Allowed} {P : List ℕ} {R F : Rows} {W : List ℕ} {T : Rows} {z : Start} {o : Result} {m : Machine} {k : Mode}
    → Holds a P R F W T z o m → m.mode ≡ k → Case a P R F W T z o m k
case_at {a} {P} {R} {F} {W} {T} {z} {o} {m} h e = subst (Case a P R F W T z o m) e h.case

-- The same frames, and words written below the top.
pub holds_on : {a : Allowed} {P : List ℕ} {R F : Rows} {W : List ℕ} {T : Rows} {W' : List ℕ} {T' : Rows} {z : Start} {o : Result}
    {m m' : Machine}
    → Holds a P R F W T z o m → m'.steps ≤ m.steps → m.counter ≤ m'.counter → m.top ≤ m'.top → m'.high ≡ m.high
    → length W' ≡ length W → ((i : ℕ) → m'.top ≤ i → cells W' i ≡ cells W i) → Case a P R F W' T' z o m' m'.mode
    → Holds a P R F W' T' z o m'
holds_on h i j v e n w k =
    let l = h.left in let c = h.later in
    record {
      case = k;
      rules = h.rules;
      frames = h.frames;
      left = omega arith;
      later = omega arith;
      words_past = λ x p. w x p ∙ h.words_past x (omega arith);
      frames_past = λ x p. h.frames_past x (omega arith);
      words_long = n ∙ h.words_long;
      frames_long = h.frames_long;
    }

-- Nothing was written.
still : {a : Allowed} {P : List ℕ} {R F : Rows} {W : List ℕ} {T T' : Rows} {z : Start} {o : Result} {m m' : Machine}
    → Holds a P R F W T z o m → m'.steps ≤ m.steps → m'.counter ≡ m.counter → m'.top ≡ m.top → m'.high ≡ m.high
    → Case a P R F W T' z o m' m'.mode → Holds a P R F W T' z o m'
still h i j v e k = holds_on h i (omega arith) (omega arith) e refl (λ x p. refl) k

-- The answer is the state that it equals.
pub moved_as : {a : Allowed} {R F : Rows} {m r m' : Machine} → r ≡ m' → Moved a R F m m' → Moved a R F m r
moved_as {a} {R} {F} {m} e h = subst (λ (r : Machine). Moved a R F m r) (sym e) h

pub returned_as : {a : Allowed} {F T T' : Rows} {m r m' : Machine} → r ≡ m' → Returned a F T T' m m' → Returned a F T T' m r
returned_as {a} {F} {T} {T'} {m} e h = subst (λ (r : Machine). Returned a F T T' m r) (sym e) h

pub stepped_as : {a : Allowed} {P : List ℕ} {R F F' : Rows} {W W' : List ℕ} {T T' L L' M M' S S' : Rows} {m r m' : Machine}
    → r ≡ m' → Stepped a P R F F' W W' T T' L L' M M' S S' m m' → Stepped a P R F F' W W' T T' L L' M M' S S' m r
stepped_as {a} {P} {R} {F} {F'} {W} {W'} {T} {T'} {L} {L'} {M} {M'} {S} {S'} {m} e h =
    subst (λ (r : Machine). Stepped a P R F F' W W' T T' L L' M M' S S' m r) (sym e) h

-- How many premises a rule has is the fifth column of its row.
pub arity_is : (R : Rows) (r : ℕ) → column (row_at R r) 4 ≡ arity R r
unfolding arity
arity_is R r = refl

module _ {a : Allowed} {R F : Rows} {m : Machine} (s : Seen a R F m) where
  e : m.mode ≡ Enter
  e = s.mode

  at_enter : current a.rules m.mode m.rule ≡ 2
  at_enter = ap (λ (k : Mode). current a.rules k m.rule) e

  pub moved_out : m.steps ≡ 0 → Moved a R F m (to_fail m 0 m.cut)
  moved_out es = record {
    keeps = λ P W T z o h. still h (omega arith) refl refl refl (entry_out a P R F W T z o m (case_at h e) es);
    falls = let c = at_enter in falls_mode a.rules F m (to_fail m 0 m.cut) (sym es) refl (omega arith);
  }

  pub moved_proof : 0 < m.steps → m.parent ≡ 0 → Moved a R F m (to_stop m Proved (m.steps - 1))
  moved_proof ls ep = record {
    keeps = λ P W T z o h. still h (omega arith) refl refl refl (entry_proof a P R F W T z o m (case_at h e) ls ep);
    falls = falls_step a.rules F m (to_stop m Proved (m.steps - 1)) e ls refl refl (omega arith);
  }

  module _ (x : Frame) (rd : x ≡ frame_at F (m.parent - 1)) (k : ℕ) (ek : k ≡ arity R x.rule) (ls : 0 < m.steps)
      (lp : 0 < m.parent) where
    pub moved_built : m.place ≡ k → Moved a R F m (to_place m x.parent (x.place + 1) (m.steps - 1))
    moved_built ei = record {
      keeps = λ P W T z o h. still h (omega arith) refl refl refl (entry_built a P R F W T z o m (case_at h e) x rd ls lp (ei ∙ ek));
      falls = falls_step a.rules F m (to_place m x.parent (x.place + 1) (m.steps - 1)) e ls refl refl (omega arith);
    }

    pub moved_cut : m.place ≢ k → x.depth ≡ 0 → Moved a R F m (to_fail m (m.steps - 1) true)
    moved_cut ne ed = record {
      keeps = λ P W T z o h. still h (omega arith) refl refl refl (entry_cut a P R F W T z o m (case_at h e) x rd ls lp
          (λ q. ne (q ∙ sym ek)) ed);
      falls = falls_step a.rules F m (to_fail m (m.steps - 1) true) e ls refl refl (omega arith);
    }

    pub moved_goal : (g : ℕ) → g ≡ premise_ref R x m.place → m.place ≢ k → 0 < x.depth
        → Moved a R F m (to_goal m g (x.depth - 1) (m.steps - 1))
    moved_goal g eg ne ld =
        subst (λ (g : ℕ). Moved a R F m (to_goal m g (x.depth - 1) (m.steps - 1))) (sym eg)
        (record {
          keeps = λ P W T z o h. still h (omega arith) refl refl refl
              (entry_goal a P R F W T z o m (case_at h e) x rd ls lp (λ q. ne (q ∙ sym ek)) ld);
          falls = falls_step a.rules F m (to_goal m (premise_ref R x m.place) (x.depth - 1) (m.steps - 1)) e ls refl refl
              (omega arith);
        })

  -- The frame of the place is there.
  pub seen_frame : 0 < m.parent → m.parent - 1 < length F
  seen_frame lp =
      let c : Entering a s.pattern R F s.words s.rows s.start s.result m = case_at s.holds e in
      let w = c.within in
      let r = c.room in
      let f = s.holds.frames in
      omega arith

  -- What the row of the rule and the sums ask.
  module _ (x : Frame) (rd : x ≡ frame_at F (m.parent - 1)) (ls : 0 < m.steps) (lp : 0 < m.parent) where
    seen_case : Entering a s.pattern R F s.words s.rows s.start s.result m
    seen_case = case_at s.holds e

    pub seen_rule : x.rule < length R
    seen_rule = entry_known a s.pattern R F s.words s.rows s.start s.result m seen_case x rd ls lp s.holds.rules

    pub seen_place : x.place ≤ 16
    seen_place = entry_small a s.pattern R F s.words s.rows s.start s.result m seen_case x rd ls lp s.holds.rules

    pub seen_premise : (k : ℕ) → k ≡ arity R x.rule → m.place ≢ k → PremiseAsked R x m.place
    seen_premise k ek ne = entry_asked a s.pattern R F s.words s.rows s.start s.result m seen_case x rd ls lp
        (λ q. ne (q ∙ sym ek)) s.holds.rules

module _ {a : Allowed} {P : List ℕ} {R F : Rows} {W : List ℕ} {T L M S : Rows} {m : Machine} (ready : Ready a P R F W T L M S m)
    (choice : Choice a R m) where
  trying : m.mode ≡ Try
  trying = choice.mode

  at_try : current a.rules m.mode m.rule ≡ 3 * (a.rules - m.rule) + 2
  at_try = ap (λ (k : Mode). current a.rules k m.rule) trying

  ready_case : Trying a P R F W T ready.start ready.result m
  ready_case = case_at ready.holds trying

  pub ready_rule : m.rule < a.rules
  ready_rule = choice.known

  pub ready_few : m.rule < 1024
  ready_few = let l = ready_rule in let f = ready.holds.rules.few in omega arith

  pub ready_room : m.frames < 4294967295
  ready_room = let l = ready_case.room in let s = ready.small in omega arith

  lent_frames : m.frames < length F
  lent_frames = let l = ready_case.room in let s = ready.holds.frames in omega arith

  pub ready_asked : RowAsked a.limits.variables a.limits.words P R W T L M S m.counter m.used m.bound m.goal m.rule
  ready_asked = row_asked ready.holds.rules ready_case.well ready.scratch ready_case.refers ready_rule

  module _ {W' : List ℕ} {T' L' M' S' : Rows} {answer : Attempt}
      (t : RowTried a.limits.variables a.limits.words P R W W' T T' L L' M M' S S' m.counter m.used m.bound m.goal
      m.rule answer) where
    known : (k : Attempt) → answer ≡ k
        → RowTried a.limits.variables a.limits.words P R W W' T T' L L' M M' S S' m.counter m.used m.bound m.goal m.rule k
    known k q =
        subst (λ (k : Attempt). RowTried a.limits.variables a.limits.words P R W W' T T' L L' M M' S S' m.counter m.used m.bound m.goal
        m.rule k) q t

    -- The words from the top on stand.
    past : (i : ℕ) → m.top ≤ i → cells W' i ≡ cells W i
    past i l = let r = choice.reach in t.past i (omega arith)

    pub step_refused : (e : Refusal) → answer ≡ Err e → Stepped a P R F F W W' T T' L L' M M' S S' m (to_stop m Refused m.steps)
    step_refused e q = record {
      keeps = λ z o h. holds_on h (omega arith) (omega arith) (omega arith) refl t.long past
          (tried_refused a P R F W T z o m (case_at h trying) ready_rule ready_asked e (known (Err e) q));
      falls = let c = at_try in falls_mode a.rules F m (to_stop m Refused m.steps) refl refl (omega arith);
      links = t.links_kept;
      marks = t.marks_kept;
      stack = t.stack_kept;
    }

    pub step_missed : (c' : ℕ) → answer ≡ Ok (Missed c') → Stepped a P R F F W W' T T' L L' M M' S S' m (to_rule m (m.rule + 1) c' m.top)
    step_missed c' q = record {
      keeps = λ z o h. holds_on h (omega arith) (known (Ok (Missed c')) q).left.0 (omega arith) refl t.long past
          (tried_missed a P R F W T z o m (case_at h trying) ready_rule ready_asked c' (known (Ok (Missed c')) q));
      falls = let c = at_try in let l = ready_rule in falls_mode a.rules F m (to_rule m (m.rule + 1) c' m.top) refl refl
          (omega arith);
      links = t.links_kept;
      marks = t.marks_kept;
      stack = t.stack_kept;
    }

    module _ (in_use : InUse) (high : ℕ) (q : answer ≡ Ok (Entered in_use)) (above : m.high ≤ high) (new : m.frames + 1 ≤ high) where
      abbrev F' : Rows
      F' = set F m.frames (row_of (frame_for m))

      -- The rows from `high` on stand.
      rows_past : (i : ℕ) → high ≤ i → get_or (set F m.frames (row_of (frame_for m))) i [] ≡ get_or F i []
      rows_past i l = get_or-set_other F m.frames i (row_of (frame_for m)) [] (λ e. omega arith)

      fell : measure a.rules F' (to_body m in_use high) < measure a.rules F m
      unfolding measure
      fell =
          let one : m.frames + 1 ≡ suc m.frames = omega arith in
          let w = ap (weights a.rules F') one in
          let b = weights_top a.rules F' m.frames (frame_for m) (frame_set F m.frames (frame_for m) lent_frames) in
          let d = weights_same a.rules F F' m.frames (frames_set F m.frames (frame_for m)) in
          let c = at_try in
          let l = ready_rule in
          omega arith

      step_entered : Stepped a P R F F' W W' T T' L L' M M' S S' m (to_body m in_use high)
      step_entered = record {
        keeps = λ z o h. record {
          case = tried_entered a P R F W T z o m (case_at h trying) ready_rule ready_asked in_use high lent_frames
              (known (Ok (Entered in_use)) q);
          rules = h.rules;
          frames = let l = h.frames in let s = length-set F m.frames (row_of (frame_for m)) in omega arith;
          left = h.left;
          later = let c = h.later in let l = (known (Ok (Entered in_use)) q).left.later in omega arith;
          words_past = λ i l. past i l ∙ h.words_past i l;
          frames_past = λ i l. rows_past i l ∙ h.frames_past i (omega arith);
          words_long = t.long ∙ h.words_long;
          frames_long = length-set F m.frames (row_of (frame_for m)) ∙ h.frames_long;
        };
        falls = fell;
        links = t.links_kept;
        marks = t.marks_kept;
        stack = t.stack_kept;
      }

      -- The frame was put.
      pub step_put : {F'' : Rows} {x : Frame} {r : Machine} → x ≡ frame_for m → F'' ≡ set F m.frames (row_of x) → r ≡ to_body m in_use high
          → Stepped a P R F F'' W W' T T' L L' M M' S S' m r
      step_put ex ef er =
          stepped_as er (subst (λ (B : Rows). Stepped a P R F B W W' T T' L L' M M' S S' m (to_body m in_use high))
          (sym (ef ∙ ap (λ (x : Frame). set F m.frames (row_of x)) ex)) step_entered)

module _ {a : Allowed} {F T : Rows} {m : Machine} (k : Known a F T m) where
  at_fail : current a.rules m.mode m.rule ≡ 1
  at_fail = ap (λ (j : Mode). current a.rules j m.rule) k.mode

  pub returned_over : m.frames ≡ 0 → Returned a F T T m (to_stop m Over m.steps)
  returned_over en = record {
    keeps = λ P R W z o h. still h (omega arith) refl refl refl (back_over a P R F z W T o m (case_at h k.mode) en);
    falls = let c = at_fail in falls_mode a.rules F m (to_stop m Over m.steps) refl refl (omega arith);
  }

  known_case : Failing a k.pattern k.rules F k.words T k.start k.result m
  known_case = case_at k.holds k.mode

  -- The newest frame is there.
  pub known_frame : 0 < m.frames → m.frames - 1 < length F
  known_frame ln = let r = known_case.room in let f = k.holds.frames in omega arith

  module _ (x : Frame) (rd : x ≡ frame_at F (m.frames - 1)) (ln : 0 < m.frames) where
    known_rule : x.rule < a.rules
    known_rule = back_known a k.pattern k.rules F k.start k.words T k.result m known_case x rd ln

    pub known_few : x.rule < 1024
    known_few = let l = known_rule in let f = k.holds.rules.few in omega arith

    pub known_undoable : Undoable T m.bound x.bound
    known_undoable = back_undoable a k.pattern k.rules F k.start k.words T k.result m known_case x rd ln

    pub returned_goal : (T' : Rows) → T' ≡ undone T x.bound (m.bound - x.bound) → Returned a F T T' m (to_retry m x)
    unfolding measure
    returned_goal T' u = record {
      keeps = λ P R W z o h. still h (omega arith) refl refl refl (back_trying a P R F z W T o m (case_at h k.mode) x rd ln T' u);
      falls = fell;
    }
      where
        fell : measure a.rules F (to_retry m x) < measure a.rules F m
        fell =
            let one : m.frames ≡ suc (m.frames - 1) = omega arith in
            let w = ap (weights a.rules F) one in
            let b = weights_top a.rules F (m.frames - 1) x (sym rd) in
            let c = at_fail in
            let l = known_rule in
            omega arith

module _ {a : Allowed} {P : List ℕ} {R F : Rows} {W : List ℕ} {T L M S : Rows} {m : Machine} where
  pub moved_stepped : {m' : Machine} → Moved a R F m m' → Stepped a P R F F W W T T L L M M S S m m'
  moved_stepped h = record { keeps = λ z o k. h.keeps P W T z o k; falls = h.falls; links = refl; marks = refl; stack = refl }

  pub returned_stepped : {F' : Rows} {W' : List ℕ} {T' L' M' S' : Rows} {m' : Machine} → Returned a F T T' m m' → W' ≡ W → L' ≡ L
      → M' ≡ M → S' ≡ S → F' ≡ F → Stepped a P R F F' W W' T T' L L' M M' S S' m m'
  returned_stepped {W' = W'} {T' = T'} {L' = L'} {M' = M'} {S' = S'} {m' = m'} h ew el em es ef =
      subst (λ (B : Rows). Stepped a P R F B W W' T T' L L' M M' S S' m m') (sym ef)
      (subst (λ (B : List ℕ). Stepped a P R F F W B T T' L L' M M' S S' m m') (sym ew)
      (record { keeps = λ z o k. h.keeps P R W z o k; falls = h.falls; links = el; marks = em; stack = es }))

  -- The frames are as they were.
  pub framed_stepped : {F' : Rows} {W' : List ℕ} {T' L' M' S' : Rows} {m' : Machine} → F' ≡ F
      → Stepped a P R F F W W' T T' L L' M M' S S' m m' → Stepped a P R F F' W W' T T' L L' M M' S S' m m'
  framed_stepped {W' = W'} {T' = T'} {L' = L'} {M' = M'} {S' = S'} {m' = m'} e h =
      subst (λ (B : Rows). Stepped a P R F B W W' T T' L L' M M' S S' m m') (sym e) h

  pub ready_seen : Ready a P R F W T L M S m → m.mode ≡ Enter → Seen a R F m
  ready_seen r e = record { mode = e; pattern = P; words = W; rows = T; start = r.start; result = r.result; holds = r.holds }

  pub ready_known : Ready a P R F W T L M S m → m.mode ≡ Fail → Known a F T m
  ready_known r e = record { mode = e; pattern = P; rules = R; words = W; start = r.start; result = r.result; holds = r.holds }

-- A mode is live or stopped.
pub live_goes : (k : Mode) → Live k → (◌≡◌ {A = Bool} true true → Live k) × (◌≡◌ {A = Bool} true false → Stopped k)
live_goes k l = (λ _. l, λ q. true_false {b = true} refl q)

pub live_stops : (k : Mode) → Stopped k → (◌≡◌ {A = Bool} false true → Live k) × (◌≡◌ {A = Bool} false false → Stopped k)
live_stops k l = (λ q. true_false {b = false} q refl, λ _. l)

-- The loop's invariant: what the state means is what the first one meant, and the storage has its size.
pub record Going (a : Allowed) (P : List ℕ) (R F₀ F : Rows) (W₀ W : List ℕ) (T₀ T L₀ L M₀ M S₀ S : Rows) (m₀ m : Machine) : Type 0 where
  pub ready : Ready a P R F W T L M S m
  pub keeps : (z : Start) (o : Result) → Holds a P R F₀ W₀ T₀ z o m₀ → Holds a P R F W T z o m
  pub links : L ≡ L₀
  pub marks : M ≡ M₀
  pub stack : S ≡ S₀
  pub words_long : length W ≡ length W₀
  pub rows_long : length T ≡ length T₀
  pub frames_long : length F ≡ length F₀

module _ {a : Allowed} {P : List ℕ} {R F₀ : Rows} {W₀ : List ℕ} {T₀ L₀ M₀ S₀ : Rows} {m₀ : Machine} where
  pub going_start : Ready a P R F₀ W₀ T₀ L₀ M₀ S₀ m₀ → Going a P R F₀ F₀ W₀ W₀ T₀ T₀ L₀ L₀ M₀ M₀ S₀ S₀ m₀ m₀
  going_start r = record {
    ready = r;
    keeps = λ z o h. h;
    links = refl;
    marks = refl;
    stack = refl;
    words_long = refl;
    rows_long = refl;
    frames_long = refl;
  }

  module _ {F : Rows} {W : List ℕ} {T L M S : Rows} {m : Machine} (g : Going a P R F₀ F W₀ W T₀ T L₀ L M₀ M S₀ S m₀ m) where
    pub going_on : {F' : Rows} {W' : List ℕ} {T' L' M' S' : Rows} {m' : Machine} → Stepped a P R F F' W W' T T' L L' M M' S S' m m'
        → length W' ≡ length W → length T' ≡ length T → length F' ≡ length F → Going a P R F₀ F' W₀ W' T₀ T' L₀ L' M₀ M' S₀ S' m₀ m'
    going_on {L' = L'} {M' = M'} {S' = S'} s x y w = record {
      ready = record {
        start = g.ready.start;
        result = g.ready.result;
        holds = s.keeps g.ready.start g.ready.result g.ready.holds;
        scratch = subst (λ (B : Rows). Scratch term_room a.limits.words L' M' B) (sym s.stack)
            (subst (λ (B : Rows). Scratch term_room a.limits.words L' B S) (sym s.marks)
            (subst (λ (B : Rows). Scratch term_room a.limits.words B M S) (sym s.links) g.ready.scratch));
        small = g.ready.small;
      };
      keeps = λ z o h. s.keeps z o (g.keeps z o h);
      links = s.links ∙ g.links;
      marks = s.marks ∙ g.marks;
      stack = s.stack ∙ g.stack;
      words_long = x ∙ g.words_long;
      rows_long = y ∙ g.rows_long;
      frames_long = w ∙ g.frames_long;
    }

    pub going_stops : Stopped m.mode → Searched a P R F₀ F W₀ W T₀ T L₀ L M₀ M S₀ S m₀ m
    going_stops s = record { keeps = g.keeps; stopped = s; links = g.links; marks = g.marks; stack = g.stack }
