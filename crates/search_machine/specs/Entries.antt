-- Entering a place: the ways out, each keeping what the state means.
use Rattle.std.specs.Prelude.{ℕ, suc, ◌+◌, ◌-◌, ◌≤◌, ◌<◌, ◌≡◌, refl, true, ◌≢◌, List, [], ◌∷◌, length}
use Rattle.std.proofs.Common.{arith, ap, ap₂, sym, ◌∙◌, subst}
use Rattle.terms.specs.Term.{Term}
use Rattle.arena.specs.Copies.{term_room}
use Rattle.arena.specs.Rows.{Rows}
use Rattle.bindings.specs.Stored.{held}
use Rattle.resolution.specs.Search.{Work, goal, build, built, Result, tries}
use Rattle.resolution.specs.Machine.{search, or_cut, resume}
use Rattle.resolution.proofs.Machine.{enter_out, enter_done, enter_build, enter_cut, enter_goal}
use Rattle.resolution.specs.Preorder.{builds_goals, made, made_build, Fits, fits_less}
use Rattle.search_machine.specs.Storage.{PremiseAsked}
use Rattle.search_machine.specs.State.{term, span, rules_from, arity, RulesStored, frame_at, premise_ref, pending}
use Rattle.search_machine.specs.State.{Place, Start, limits, all_rules, Entering, Trying, Failing, Proving}
use Rattle.search_machine.specs.Moves.{to_place, to_fail, to_stop, to_goal}
use Rattle.search_machine.specs.Carry.{stack_above, stack_refers}
use Rattle.search_machine.specs.Places.{Within, place_within, place_small, place_top, place_next, pending_goal}
use Rattle.search_machine.specs.Places.{pending_build, premise_asked}
use Rattle.search_machine.specs.Allowed.{Allowed}
use Rattle.search_machine.specs.declared.Machine.{Machine}
use Rattle.search_machine.specs.declared.Mode.TheVariants.{Proved}
use Rattle.search_machine.specs.declared.frames.Frame.{Frame}

module _ (a : Allowed) (P : List ℕ) (R F : Rows) (W : List ℕ) (T : Rows) (z : Start) (o : Result) (m : Machine)
    (h : Entering a P R F W T z o m) where
  -- The state's meaning, with the steps and the work as they are found.
  value_at_lem : (b : ℕ) (w : List Work) → m.steps ≡ b → h.work ≡ w
      → resume (limits a P R F) (all_rules a P R F z) h.branches (or_cut m.cut
      (search (limits a P R F) (all_rules a P R F z) b m.counter m.used (held term_room W T m.bound) w h.trees)) ≡ o
  value_at_lem b w eb ew =
      ap₂ (λ (b : ℕ) (w : List Work). resume (limits a P R F) (all_rules a P R F z) h.branches
      (or_cut m.cut (search (limits a P R F) (all_rules a P R F z) b m.counter m.used (held term_room W T m.bound) w
      h.trees))) (sym eb) (sym ew)
      ∙ h.value

  pub entry_out : m.steps ≡ 0 → Failing a P R F W T z o (to_fail m 0 m.cut)
  entry_out e =
      let r = h.room in
      record {
        branches = h.branches;
        stack = h.stack;
        well = h.well;
        room = omega arith;
        value = sym (enter_out (limits a P R F) (all_rules a P R F z) h.branches m.cut m.counter m.used
            (held term_room W T m.bound) h.work h.trees) ∙ value_at_lem 0 h.work e refl;
      }

  pub entry_proof : 0 < m.steps → m.parent ≡ 0 → Proving a P R F W T z o (to_stop m Proved (m.steps - 1))
  entry_proof ls e =
      let w : h.work ≡ [] = place_top e h.place in
      record {
        trees = h.trees;
        order = h.order ∙ ap (λ (w : List Work). made 0 w h.trees) w;
        references = stack_refers a P R F z W T m.frames m.counter m.bound m.used h.branches h.stack;
        room = let r = h.room in omega arith;
        well = h.well;
        formed = h.formed;
        above = stack_above a P R F z W T m.frames m.counter m.bound m.used h.branches h.stack;
        value = sym (enter_done (limits a P R F) (all_rules a P R F z) h.branches m.cut (m.steps - 1) m.counter m.used
            (held term_room W T m.bound) h.trees) ∙ value_at_lem (suc (m.steps - 1)) [] (omega arith) w;
      }

  module _ (x : Frame) (rd : x ≡ frame_at F (m.parent - 1)) (ls : 0 < m.steps) (lp : 0 < m.parent) where
    at : Within z.depth a.rules R F W m.counter m.used m.parent m.place x h.work
    at = place_within x rd lp h.place

    pub entry_small : RulesStored P R a.rules → x.place ≤ 16
    entry_small rs = let l = place_small rs at.outer in omega arith

    pub entry_known : RulesStored P R a.rules → x.rule < length R
    entry_known rs = let l = at.known in let b = rs.lent in omega arith

    pub entry_built : m.place ≡ arity R x.rule → Entering a P R F W T z o (to_place m x.parent (x.place + 1) (m.steps - 1))
    entry_built e =
        let w : h.work ≡ build x.rule (term W x.goal) (arity R x.rule) ∷ at.rest = at.works
        ∙ pending_build R W x m.place at.rest e in
        let f : Fits 0 (build x.rule (term W x.goal) (arity R x.rule) ∷ at.rest) = subst (Fits 0) w h.fits in
        let one : suc x.place ≡ x.place + 1 = omega arith in
        let r = h.room in
        let p = at.parent in
        let n = h.within in
        record {
          work = at.rest;
          trees = built x.rule (term W x.goal) (arity R x.rule) h.trees;
          branches = h.branches;
          place = subst (λ (i : ℕ). Place z.depth a.rules R F W m.counter m.used x.parent i at.rest) one at.outer;
          within = omega arith;
          stack = h.stack;
          order = h.order ∙ ap (λ (w : List Work). made 0 w h.trees) w
              ∙ made_build x.rule (term W x.goal) (arity R x.rule) at.rest h.trees f;
          fits = fits_less 1 0 at.rest (omega arith) f.1;
          well = h.well;
          formed = h.formed;
          room = omega arith;
          value = sym (enter_build (limits a P R F) (all_rules a P R F z) h.branches m.cut (m.steps - 1) m.counter m.used
              (held term_room W T m.bound) x.rule (term W x.goal) (arity R x.rule) at.rest h.trees)
              ∙ value_at_lem (suc (m.steps - 1)) (build x.rule (term W x.goal) (arity R x.rule) ∷ at.rest) (omega arith) w;
        }

    module _ (ne : m.place ≢ arity R x.rule) where
      more : m.place < arity R x.rule
      more = let l = at.here in omega arith

      first_goal : h.work ≡ goal (term W (premise_ref R x m.place)) x.depth ∷ pending R W x (suc m.place) at.rest
      first_goal = at.works ∙ pending_goal R W x m.place at.rest more

      pub entry_cut : x.depth ≡ 0 → Failing a P R F W T z o (to_fail m (m.steps - 1) true)
      entry_cut ed =
          let w = first_goal ∙ ap (λ (d : ℕ). goal (term W (premise_ref R x m.place)) d ∷ pending R W x (suc m.place) at.rest) ed in
          let r = h.room in
          record {
            branches = h.branches;
            stack = h.stack;
            well = h.well;
            room = omega arith;
            value = sym (enter_cut (limits a P R F) (all_rules a P R F z) h.branches m.cut (m.steps - 1) m.counter m.used
                (held term_room W T m.bound) (term W (premise_ref R x m.place)) (pending R W x (suc m.place) at.rest) h.trees)
                ∙ value_at_lem (suc (m.steps - 1)) (goal (term W (premise_ref R x m.place)) 0 ∷ pending R W x (suc m.place) at.rest)
                (omega arith) w;
          }

      pub entry_asked : RulesStored P R a.rules → PremiseAsked R x m.place
      entry_asked rs = premise_asked rs at h.well.form.low more

      pub entry_goal : 0 < x.depth → Trying a P R F W T z o (to_goal m (premise_ref R x m.place) (x.depth - 1) (m.steps - 1))
      entry_goal ld =
          let g : Term = term W (premise_ref R x m.place) in
          let w₁ : List Work = pending R W x (suc m.place) at.rest in
          let w : h.work ≡ goal g (suc (x.depth - 1)) ∷ w₁ = first_goal
          ∙ ap (λ (d : ℕ). goal g d ∷ w₁) (let e : x.depth ≡ suc (x.depth - 1) = omega arith in e) in
          let r = h.room in
          let lv = at.level in
          let bg = builds_goals (span (λ (k : ℕ). term W (premise_ref R x k)) (suc m.place) (arity R x.rule - suc m.place))
          x.depth (build x.rule (term W x.goal) (arity R x.rule) ∷ at.rest) in
          record {
            work = w₁;
            trees = h.trees;
            branches = h.branches;
            place = place_next at lp more;
            within = h.within;
            stack = h.stack;
            order = h.order ∙ ap (λ (w : List Work). made 0 w h.trees) w;
            fits = subst (Fits 0) w h.fits;
            well = h.well;
            formed = h.formed;
            room = omega arith;
            refers = at.premises m.place more;
            known = omega arith;
            level = omega arith;
            value = ap (λ (k : ℕ). resume (limits a P R F) (all_rules a P R F z) h.branches
                (tries (limits a P R F) (search (limits a P R F) (all_rules a P R F z)) (held term_room W T m.bound) g (x.depth - 1) w₁
                h.trees m.used 0 (rules_from z.text P R 0 k) (m.steps - 1) m.cut m.counter))
                (let e : a.rules - 0 ≡ a.rules = omega arith in e)
                ∙ sym (enter_goal (limits a P R F) (all_rules a P R F z) h.branches m.cut (m.steps - 1) m.counter m.used
                (held term_room W T m.bound) g (x.depth - 1) w₁ h.trees)
                ∙ value_at_lem (suc (m.steps - 1)) (goal g (suc (x.depth - 1)) ∷ w₁) (omega arith) w;
          }
