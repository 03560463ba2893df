-- Going back to the newest application: the ways out, each keeping what the state means.
use Rattle.std.specs.Prelude.{ℕ, zero, suc, ◌+◌, ◌-◌, ◌<◌, ◌≡◌, refl, List, [], ◌∷◌}
use Rattle.std.proofs.Common.{arith, ap, sym, ◌∙◌, subst}
use Rattle.arena.specs.Rows.{Rows}
use Rattle.bindings.specs.Tables.{undone}
use Rattle.bindings.specs.Promises.{Undoable}
use Rattle.bindings.specs.Holding.{form_undoable}
use Rattle.resolution.specs.Search.{Result, failed, tries}
use Rattle.resolution.specs.Machine.{search, Branch, resume}
use Rattle.search_machine.specs.State.{frame_at, Start, limits, all_rules, rules_on, FrameOk, Bottom, Stack}
use Rattle.search_machine.specs.State.{Trying, Failing, Ending}
use Rattle.search_machine.specs.Moves.{to_stop, to_retry}
use Rattle.search_machine.specs.Carry.{added_length}
use Rattle.search_machine.specs.Allowed.{Allowed}
use Rattle.search_machine.specs.declared.Machine.{Machine}
use Rattle.search_machine.specs.declared.Mode.TheVariants.{Over}
use Rattle.search_machine.specs.declared.frames.Frame.{Frame}

module _ (a : Allowed) (P : List ℕ) (R F : Rows) (z : Start) (W : List ℕ) where
  -- The frames with the newest taken off.
  pub record Popped (T : Rows) (n c t u : ℕ) (x : Frame) (fs : List Branch) : Type 0 where
    pub branch : Branch
    pub others : List Branch
    pub rows : Rows
    pub both : fs ≡ branch ∷ others
    pub ok : FrameOk a P R F z W T rows (n - 1) c t u x branch
    pub below : Stack a P R F z W rows (n - 1) c x.bound x.used others

  stack_pop : (T : Rows) (n c t u : ℕ) (fs : List Branch) (y : Frame) → y ≡ frame_at F (n - 1) → 0 < n → Stack a P R F z W T n c t u fs
      → Popped T n c t u y fs
  stack_pop T zero c t u fs y e h k = absurd (omega arith)
  stack_pop T (suc n) c t u [] y e h k = absurd k
  stack_pop T (suc n) c t u (f ∷ fs) y e h (x, T₁, ok, k) =
      let s : n ≡ suc n - 1 = omega arith in
      let xy : x ≡ y = sym ok.reads ∙ ap (frame_at F) s ∙ sym e in
      subst (λ (x : Frame). Popped T (suc n) c t u x (f ∷ fs)) xy
      (record {
        branch = f;
        others = fs;
        rows = T₁;
        both = refl;
        ok = subst (λ (n : ℕ). FrameOk a P R F z W T T₁ n c t u x f) s ok;
        below = subst (λ (n : ℕ). Stack a P R F z W T₁ n c x.bound x.used fs) s k;
      })

  -- There are none.
  pub record Emptied (T : Rows) (t u : ℕ) (fs : List Branch) : Type 0 where
    pub none : fs ≡ []
    pub bottom : Bottom a P R F z W T t u

  stack_none : (T : Rows) (n c t u : ℕ) (fs : List Branch) → n ≡ 0 → Stack a P R F z W T n c t u fs → Emptied T t u fs
  stack_none T zero c t u [] e k = record { none = refl; bottom = k }
  stack_none T zero c t u (f ∷ fs) e k = absurd k
  stack_none T (suc n) c t u fs e k = absurd (omega arith)

  module _ (T : Rows) (o : Result) (m : Machine) (h : Failing a P R F W T z o m) where
    pub back_over : m.frames ≡ 0 → Ending a P R F W T z o (to_stop m Over m.steps)
    back_over e =
        let k = stack_none T m.frames m.counter m.bound m.used h.branches e h.stack in
        record {
          bottom = k.bottom;
          well = h.well;
          value = ap (λ (fs : List Branch). resume (limits a P R F) (all_rules a P R F z) fs (failed m.steps m.cut m.counter))
              (sym k.none) ∙ h.value;
        }

    module _ (x : Frame) (rd : x ≡ frame_at F (m.frames - 1)) (ln : 0 < m.frames) where
      popped : Popped T m.frames m.counter m.bound m.used x h.branches
      popped = stack_pop T m.frames m.counter m.bound m.used h.branches x rd ln h.stack

      pub back_known : x.rule < a.rules
      back_known = popped.ok.known

      pub back_undoable : Undoable T m.bound x.bound
      back_undoable = form_undoable h.well.form popped.ok.added.more

      same_trying : Trying a P R F W popped.rows z o (to_retry m x)
      same_trying =
          let r = h.room in
          let kn = popped.ok.known in
          let len = added_length popped.ok.added in
          let lr = h.well.lent_rows in
          let one : x.rule + 1 ≡ suc x.rule = omega arith in
          let rule : x.rule + 1 ≡ popped.branch.rule = one ∙ popped.ok.rule in
          let others : rules_on a P R F z (x.rule + 1) ≡ popped.branch.others = ap (rules_on a P R F z) one ∙ popped.ok.others in
          record {
            work = popped.branch.rest;
            trees = popped.branch.stack;
            branches = popped.others;
            place = popped.ok.rest;
            within = popped.ok.parent;
            stack = popped.below;
            order = popped.ok.order;
            fits = popped.ok.fits;
            well = record {
              form = popped.ok.form;
              lent_words = h.well.lent_words;
              lent_rows = omega arith;
              enough = h.well.enough;
              low = h.well.low;
            };
            formed = popped.ok.formed;
            room = omega arith;
            refers = popped.ok.refers;
            known = omega arith;
            level = popped.ok.level;
            value = ap (resume (limits a P R F) (all_rules a P R F z) popped.others)
                (λ i. tries (limits a P R F) (search (limits a P R F) (all_rules a P R F z)) (popped.ok.saved i) (popped.ok.goal i)
                (popped.ok.depth i) popped.branch.rest popped.branch.stack (popped.ok.words i) (rule i) (others i) m.steps
                m.cut m.counter)
                ∙ ap (λ (fs : List Branch). resume (limits a P R F) (all_rules a P R F z) fs (failed m.steps m.cut m.counter))
                (sym popped.both) ∙ h.value;
          }

      -- The bindings taken back to the frame's mark are the very rows before it.
      pub back_trying : (T' : Rows) → T' ≡ undone T x.bound (m.bound - x.bound) → Trying a P R F W T' z o (to_retry m x)
      back_trying T' e = subst (λ (B : Rows). Trying a P R F W B z o (to_retry m x)) (sym (e ∙ popped.ok.added.back)) same_trying
