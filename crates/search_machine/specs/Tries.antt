-- One rule for a goal: the ways out, each keeping what the state means.
use Rattle.std.specs.Prelude.{ℕ, suc, ◌+◌, ◌-◌, ◌≤◌, ◌<◌, ◌≡◌, refl, List, [], ◌∷◌, ◌++◌, length, set, Ok, Err}
use Rattle.refusals.specs.declared.Refusal.{Refusal}
use Rattle.std.proofs.Common.{arith, le_refl, ap, ap₂, sym, ◌∙◌, subst, get_or-set_same, get_or-set_other}
use Rattle.terms.specs.Term.{Term, Terms, count}
use Rattle.arena.specs.Copies.{term_room}
use Rattle.arena.specs.FormKept.{form_same}
use Rattle.arena.specs.Rows.{Rows}
use Rattle.names.specs.Symbols.{column, row_at}
use Rattle.names.specs.SearchLaws.{columns_length}
use Rattle.bindings.specs.Stored.{held, Form}
use Rattle.resolution.specs.Rules.{Rule}
use Rattle.resolution.specs.Fresh.{body}
use Rattle.resolution.specs.Search.{Work, build, goals, Result, tries}
use Rattle.resolution.specs.Machine.{search, Branch, resume}
use Rattle.resolution.proofs.Machine.{try_exceeded, try_missed, try_entered}
use Rattle.resolution.specs.Preorder.{Entry, entry, builds, made, made_enter, fits_enter}
use Rattle.attempts.specs.Promises.{Added}
use Rattle.attempts.specs.Extending.{held_kept, form_back}
use Rattle.attempts.specs.declared.Tried.TheVariants.{Missed, Entered}
use Rattle.bindings.specs.declared.InUse.{InUse}
use Rattle.search_machine.specs.Storage.{RowAsked, RowTried}
use Rattle.search_machine.specs.State.{term, Refers, span, rule_at, rules_from, arity, frame_of, row_of, frame_at}
use Rattle.search_machine.specs.State.{premise_ref, pending, Place, inside, entries, Start, limits, all_rules}
use Rattle.search_machine.specs.State.{rules_on, FrameOk, Stack, Entering, Trying, Failing, Refusing}
use Rattle.search_machine.specs.Moves.{to_fail, to_stop, to_rule, to_body, frame_for}
use Rattle.search_machine.specs.Carry.{added_length, SameFrames, term_kept, refers_kept, place_kept, entries_kept}
use Rattle.search_machine.specs.Carry.{stack_kept_lem, stack_above}
use Rattle.search_machine.specs.Attempts.{rules_cons, attempt_at, premises_count, body_count, body_span}
use Rattle.search_machine.specs.Allowed.{Allowed}
use Rattle.search_machine.specs.declared.Machine.{Machine}
use Rattle.search_machine.specs.declared.Mode.TheVariants.{Refused}
use Rattle.search_machine.specs.declared.frames.Frame.{Frame}

-- A frame that was put.
pub frame_set : (F : Rows) (n : ℕ) (x : Frame) → n < length F → frame_at (set F n (row_of x)) n ≡ x
unfolding frame_at
frame_set F n x h = ap frame_of (get_or-set_same F n (row_of x) [] h)

pub frames_set : (F : Rows) (n : ℕ) (x : Frame) → SameFrames n F (set F n (row_of x))
unfolding frame_at
frames_set F n x j h = ap frame_of (get_or-set_other F n j (row_of x) [] (λ e. omega arith))

module _ (a : Allowed) (P : List ℕ) (R F : Rows) (W : List ℕ) (T : Rows) (z : Start) (o : Result) (m : Machine)
    (h : Trying a P R F W T z o m) where
  -- The state's meaning, with the rules as they are found.
  value_at_lem : (Rs : List Rule) → rules_on a P R F z m.rule ≡ Rs
      → resume (limits a P R F) (all_rules a P R F z) h.branches (tries (limits a P R F) (search (limits a P R F) (all_rules a P R F z))
      (held term_room W T m.bound) (term W m.goal) m.depth h.work h.trees m.used m.rule Rs m.steps m.cut
      m.counter) ≡ o
  value_at_lem Rs e =
      ap (λ (Rs : List Rule). resume (limits a P R F) (all_rules a P R F z) h.branches
      (tries (limits a P R F) (search (limits a P R F) (all_rules a P R F z)) (held term_room W T m.bound) (term W m.goal)
      m.depth h.work h.trees m.used m.rule Rs m.steps m.cut m.counter)) (sym e)
      ∙ h.value

  pub tried_none : m.rule ≡ a.rules → Failing a P R F W T z o (to_fail m m.steps m.cut)
  tried_none e =
      let r = h.room in
      record {
        branches = h.branches;
        stack = h.stack;
        well = h.well;
        room = omega arith;
        value = value_at_lem [] (ap (rules_from z.text P R m.rule) (let q : a.rules - m.rule ≡ 0 = omega arith in q));
      }

  module _ {L M S : Rows} {W' : List ℕ} {T' L' M' S' : Rows} (lr : m.rule < a.rules)
      (asked : RowAsked a.limits.variables a.limits.words P R W T L M S m.counter m.used m.bound m.goal m.rule) where
    pub tried_refused : (e : Refusal) → RowTried a.limits.variables a.limits.words P R W W' T T' L L' M M' S S' m.counter m.used m.bound m.goal
        m.rule (Err e)
        → Refusing a P R F W' T' z o (to_stop m Refused m.steps)
    tried_refused e t =
        let b = stack_above a P R F z W T m.frames m.counter m.bound m.used h.branches h.stack in
        let l = t.long in
        let lw = h.well.lent_words in
        let bw = b.words in
        let same = t.left.same in
        record {
          well = record {
            form = t.left.form;
            lent_words = omega arith;
            lent_rows = subst (λ (B : Rows). a.limits.variables ≤ length B) (sym same) h.well.lent_rows;
            enough = h.well.enough;
            low = h.well.low;
          };
          above = record {
            words = b.words;
            same = λ i k. b.same i k ∙ t.kept i (omega arith);
            added = subst (λ (B : Rows). Added z.rows B z.bound m.bound) (sym same) b.added;
          };
          value = sym (try_exceeded (limits a P R F) (all_rules a P R F z) h.branches (held term_room W T m.bound) (term W m.goal)
              m.depth h.work h.trees m.used m.rule (rule_at z.text P R m.rule) (rules_on a P R F z (suc m.rule))
              m.steps m.cut m.counter
              (sym (attempt_at z.text P R m.rule (limits a P R F) (held term_room W T m.bound) (term W m.goal) m.used
              m.counter) ∙ sym t.is))
              ∙ value_at_lem _ (rules_cons z.text P R a.rules m.rule lr);
        }

    module _ (c' : ℕ) (t : RowTried a.limits.variables a.limits.words P R W W' T T' L L' M M' S S' m.counter m.used m.bound m.goal
        m.rule (Ok (Missed c'))) where
      missed_form : Form term_room W' T c' m.used m.bound
      missed_form = subst (λ (B : Rows). Form term_room W' B c' m.used m.bound) t.left.1.same t.left.1.form

      missed_same : Trying a P R F W' T z o (to_rule m (m.rule + 1) c' m.top)
      missed_same =
          let one : m.rule + 1 ≡ suc m.rule = omega arith in
          let l = t.long in
          let lw = h.well.lent_words in
          let wf = h.well.form.words in
          let goal_kept : term W' m.goal ≡ term W m.goal = term_kept W W' m.counter m.used wf t.kept m.goal h.refers in
          let held_same : held term_room W' T m.bound ≡ held term_room W T m.bound = held_kept h.well.form W' t.kept in
          record {
            work = h.work;
            trees = h.trees;
            branches = h.branches;
            place = place_kept W W' m.counter m.used wf t.kept z.depth a.rules R F F m.frames c' m.used (λ j i. refl)
                t.left.0 (le_refl m.used) h.within h.place;
            within = h.within;
            stack = stack_kept_lem a P R F F z W W' T m.frames m.counter c' m.bound m.used h.branches (λ j i. refl) t.kept
                t.long t.left.0 missed_form.few missed_form.lent_rows h.stack;
            order = entries_kept a P R F F z W W' T m.frames m.counter m.bound m.used h.branches (λ j i. refl) t.kept
                h.stack ∙ h.order;
            fits = h.fits;
            well = record {
              form = missed_form;
              lent_words = omega arith;
              lent_rows = h.well.lent_rows;
              enough = h.well.enough;
              low = h.well.low;
            };
            formed = λ rs s. t.stays_in_form z.arities (rs m.rule lr) (h.formed rs s);
            room = h.room;
            refers = refers_kept W W' m.counter m.used wf t.kept c' m.used m.goal t.left.0 (le_refl m.used)
                h.refers;
            known = omega arith;
            level = h.level;
            value = ap (resume (limits a P R F) (all_rules a P R F z) h.branches)
                (λ i. tries (limits a P R F) (search (limits a P R F) (all_rules a P R F z)) (held_same i) (goal_kept i) m.depth
                h.work h.trees m.used (one i) (rules_on a P R F z (one i)) m.steps m.cut c')
                ∙ sym (try_missed (limits a P R F) (all_rules a P R F z) h.branches (held term_room W T m.bound) (term W m.goal)
                m.depth h.work h.trees m.used m.rule (rule_at z.text P R m.rule)
                (rules_on a P R F z (suc m.rule)) m.steps m.cut m.counter c'
                (sym (attempt_at z.text P R m.rule (limits a P R F) (held term_room W T m.bound) (term W m.goal) m.used
                m.counter) ∙ sym t.is))
                ∙ value_at_lem _ (rules_cons z.text P R a.rules m.rule lr);
          }

      pub tried_missed : Trying a P R F W' T' z o (to_rule m (m.rule + 1) c' m.top)
      tried_missed = subst (λ (B : Rows). Trying a P R F W' B z o (to_rule m (m.rule + 1) c' m.top)) (sym t.left.1.same) missed_same

    module _ (in_use : InUse) (high : ℕ) (ln : m.frames < length F)
        (t : RowTried a.limits.variables a.limits.words P R W W' T T' L L' M M' S S' m.counter m.used m.bound m.goal m.rule
        (Ok (Entered in_use))) where
      abbrev F' : Rows
      F' = set F m.frames (row_of (frame_for m))

      sf : SameFrames m.frames F F'
      sf = frames_set F m.frames (frame_for m)

      long : length T ≡ length T'
      long = added_length t.left.added

      lent : in_use.variables ≤ length T
      lent = let a = long in let b = t.left.form.lent_rows in omega arith

      goal_kept : term W' m.goal ≡ term W m.goal
      goal_kept = term_kept W W' m.counter m.used h.well.form.words t.kept m.goal h.refers

      goal_refers : (v u : ℕ) → m.counter ≤ v → m.used ≤ u → Refers W' v u m.goal
      goal_refers v u lv lu = refers_kept W W' m.counter m.used h.well.form.words t.kept v u m.goal lv lu h.refers

      es : entries z.depth F' W' m.frames ≡ entries z.depth F W m.frames
      es = entries_kept a P R F F' z W W' T m.frames m.counter m.bound m.used h.branches sf t.kept h.stack

      abbrev f : Branch
      f = record {
        saved = held term_room W T m.bound;
        term = term W m.goal;
        depth = m.depth;
        rest = h.work;
        stack = h.trees;
        words = m.used;
        rule = suc m.rule;
        others = rules_on a P R F z (suc m.rule);
      }

      abbrev w' : List Work
      w' = goals (body m.counter (rule_at z.text P R m.rule)) m.depth
          (build m.rule (term W m.goal) (count (rule_at z.text P R m.rule).premises) ∷ h.work)

      same_work : w' ≡ pending R W' (frame_for m) 0 h.work
      same_work =
          ap₂ (λ (ts : Terms) (k : ℕ). goals ts m.depth (build m.rule (term W m.goal) k ∷ h.work))
          (body_span z.text P R W' (frame_for m) t.left.denoted
          ∙ ap (span (λ (k : ℕ). term W' (premise_ref R (frame_for m) k)) 0)
          (let e : arity R m.rule ≡ arity R m.rule - 0 = omega arith in e))
          (premises_count z.text P R m.rule)
          ∙ ap (λ (g : Term). goals (span (λ (k : ℕ). term W' (premise_ref R (frame_for m) k)) 0 (arity R m.rule - 0)) m.depth
          (build m.rule g (arity R m.rule) ∷ h.work)) (sym goal_kept)

      premise_refers : (k : ℕ) → k < arity R m.rule → Refers W' in_use.variables in_use.used (premise_ref R (frame_for m) k)
      unfolding arity premise_ref
      premise_refers k l = let e = columns_length (row_at R m.rule) 10 (column (row_at R m.rule) 4) in t.left.references k
          (omega arith)

      outer : (u : ℕ) → m.used ≤ u → Place z.depth a.rules R F' W' in_use.variables u m.parent (suc m.place) h.work
      outer u lu = place_kept W W' m.counter m.used h.well.form.words t.kept z.depth a.rules R F F'
          m.frames in_use.variables u sf t.left.later lu h.within h.place

      frame_ok : FrameOk a P R F' z W' T' T m.frames in_use.variables in_use.bound in_use.used (frame_for m) f
      frame_ok = record {
        reads = frame_set F m.frames (frame_for m) ln;
        saved = held_kept h.well.form W' t.kept;
        goal = goal_kept;
        depth = refl;
        words = refl;
        rule = refl;
        others = refl;
        known = lr;
        rest = outer m.used (le_refl m.used);
        parent = h.within;
        refers = goal_refers in_use.variables m.used t.left.later (le_refl m.used);
        below = t.left.longer;
        added = t.left.added;
        form = form_back h.well.form W' t.kept in_use.variables t.left.later t.left.form.few lent t.long;
        formed = λ rs s. form_same W W' 0 m.used term_room m.counter in_use.variables z.arities (omega arith) h.well.form.lent_words
            (let l = h.well.form.lent_words in let k = t.long in omega arith) t.left.later t.kept (h.formed rs s);
        level = h.level;
        order = es ∙ h.order;
        fits = h.fits;
      }

      pub tried_entered : Entering a P R (set F m.frames (row_of (frame_for m))) W' T' z o (to_body m in_use high)
      tried_entered =
          let one : suc m.frames ≡ m.frames + 1 = omega arith in
          let r = h.room in
          let l = t.long in
          let lw = h.well.lent_words in
          let lv = h.level in
          let lr = h.well.lent_rows in
          let lt = long in
          record {
            work = w';
            trees = h.trees;
            branches = f ∷ h.branches;
            place = subst (λ (q : ℕ). Place z.depth a.rules R F' W' in_use.variables in_use.used q 0 w') one
                (inside {x = frame_for m} (frame_set F m.frames (frame_for m) ln) lr₀ h.within (omega arith) t.left.longer
                (goal_refers in_use.variables in_use.used t.left.later t.left.longer) premise_refers
                (outer in_use.used t.left.longer) h.level same_work);
            within = omega arith;
            stack = subst (λ (q : ℕ). Stack a P R F' z W' T' q in_use.variables in_use.bound in_use.used (f ∷ h.branches)) one (
              frame_for m,
              T,
              frame_ok,
              stack_kept_lem a P R F F' z W W' T m.frames m.counter in_use.variables m.bound m.used h.branches sf
                  t.kept t.long t.left.later t.left.form.few lent h.stack,
            );
            order = subst (λ (q : ℕ). entries z.depth F' W' q ≡ made 0 w' h.trees) one
                (ap₂ (λ (es : List Entry) (y : Frame). es ++ (entry (z.depth - y.depth) y.rule (term W' y.goal) ∷ []))
                (es ∙ h.order) (frame_set F m.frames (frame_for m) ln)
                ∙ ap₂ (λ (k : ℕ) (g : Term). made 1 h.work h.trees ++ (entry k m.rule g ∷ []))
                (let e : z.depth - m.depth ≡ suc (builds h.work) = omega arith in e) goal_kept
                ∙ sym (made_enter m.rule (term W m.goal) m.depth (body m.counter (rule_at z.text P R m.rule))
                (count (rule_at z.text P R m.rule).premises) h.work h.trees
                (body_count z.text P R m.rule m.counter)));
            fits = fits_enter m.rule (term W m.goal) m.depth (body m.counter (rule_at z.text P R m.rule))
                (count (rule_at z.text P R m.rule).premises) h.work (body_count z.text P R m.rule m.counter) h.fits;
            well = record {
              form = t.left.form;
              lent_words = omega arith;
              lent_rows = omega arith;
              enough = h.well.enough;
              low = h.well.low;
            };
            formed = λ rs s. t.stays_in_form z.arities (rs m.rule lr₀) (h.formed rs s);
            room = omega arith;
            value = sym (try_entered (limits a P R F) (all_rules a P R F z) h.branches f m.rule (rule_at z.text P R m.rule)
                m.steps m.cut m.counter (held term_room W' T' in_use.bound) in_use.variables in_use.used refl
                (sym (attempt_at z.text P R m.rule (limits a P R F) (held term_room W T m.bound) (term W m.goal) m.used
                m.counter) ∙ sym t.is))
                ∙ value_at_lem _ (rules_cons z.text P R a.rules m.rule lr₀);
          }
        where
          lr₀ : m.rule < a.rules
          lr₀ = lr
