-- The first state of a depth bound, and what is left of the last.
use Prim.Native.Nat.{ℕ, zero, suc, ◌-◌, ◌≤◌, ◌<◌}
use native.Mathlib.Omega.{arith}
use Rattle.std.proofs.Math.Nat.{le_refl}
use Rattle.std.specs.Prelude.{◌≡◌, true, length, get_or, ◌≢◌, Result, Ok, Err}
use Rattle.std.proofs.Math.Path.{refl, ap, ap₂, sym, subst}
use Rattle.std.proofs.Common.{◌∙◌}
use Rattle.std.proofs.Math.Bool.{false}
use mathlib.Core.List.{List, [], ◌∷◌, ◌++◌}
use Rattle.arena.specs.Cells.{Same, cells}
use Rattle.arena.specs.Copies.{term_room}
use Rattle.arena.specs.FormKept.{form_same}
use Rattle.arena.specs.Rows.{Rows}
use Rattle.bindings.specs.Tables.{undone}
use Rattle.bindings.specs.Holding.{form_undoable}
use Rattle.bindings.specs.Stored.{held}
use Rattle.terms.specs.Bindings.{Bindings}
use Rattle.refusals.specs.declared.Refusal.{Refusal}
use Rattle.refusals.specs.declared.Refusal.TheVariants.{OverLimit}
use Rattle.resolution.specs.Rules.{leaf}
use Rattle.resolution.specs.Search.{goal, failed, found, tries}
use Rattle.resolution.specs.Machine.{search}
use Rattle.resolution.proofs.Machine.{search_cut, search_goal}
use Rattle.resolution.specs.Preorder.{Entry, entry}
use Rattle.attempts.specs.Promises.{Added}
use Rattle.attempts.specs.Extending.{held_kept, form_back}
use Rattle.tree_rows.specs.Trees.{tree_row}
use Rattle.search_machine.specs.State.{term, rules_from, frame_at, entries, top, Start, Well, limits, Holds, Proving, Ending, Refusing}
use Rattle.search_machine.specs.Moves.{to_start, in_use_of}
use Rattle.search_machine.specs.Promises.{Ready, Stopped, Searched}
use Rattle.search_machine.specs.Carry.{term_kept, refers_kept}
use Rattle.search_machine.specs.Ways.{case_at}
use Rattle.search_machine.specs.Allowed.{Allowed}
use Rattle.search_machine.specs.declared.Machine.{Machine}
use Rattle.search_machine.specs.declared.Mode.{Mode}
use Rattle.search_machine.specs.declared.Mode.TheVariants.{Enter, Try, Fail, Proved, Over, Refused}
use Rattle.deepening.specs.Clearing.{zero_row}
use Rattle.deepening.specs.Trees.{tree_rows, Nodes}
use Rattle.deepening.specs.Bounds.{Asking, bounded_of, Extended, Bounded, Wiped, Leaves, Left, Leaving}
use Rattle.deepening.specs.ClearingLaws.{cleared_back, cleared_from_lem, kept_part}
use Rattle.deepening.specs.TreeLaws.{tree_length, tree_behind, tree_row_lem, rows_listed, rows_nodes}
use Rattle.deepening.specs.declared.bound.Came.{Came}
use Rattle.deepening.specs.declared.bound.Came.TheVariants.{Found, Failed}

-- A machine that has stopped neither with a proof nor with nothing left to try was refused.
pub refused_else : (k : Mode) → Stopped k → k ≢ Proved → k ≢ Over → k ≡ Refused
refused_else Enter h p o = absurd h
refused_else Try h p o = absurd h
refused_else Fail h p o = absurd h
refused_else Proved h p o = absurd (p refl)
refused_else Over h p o = absurd (o refl)
refused_else Refused h p o = refl

-- The ways out of `leave`.
module _ {F F' : Rows} {W W' : List ℕ} {T T' : Rows} {m : Machine} {d t u : ℕ} where
  left_at : (r : Result Came Refusal) (k : Mode) → m.mode ≡ k → Leaves F F' W W' T T' m d t u r k → Left F F' W W' T T' m d t u r
  left_at r k e l = record { is = subst (λ (k : Mode). Leaves F F' W W' T T' m d t u r k) (sym e) l }

  pub left_proved : {F₁ : Rows} → m.mode ≡ Proved → F₁ ≡ tree_rows d F m.frames → T' ≡ T → Wiped F₁ F' W W' m m.used m.frames
      → Left F F' W W' T T' m d t u (Ok (Found m.frames m.steps (in_use_of m)))
  left_proved e f b w =
      left_at (Ok (Found m.frames m.steps (in_use_of m))) Proved e
      (refl, b, subst (λ (B : Rows). Wiped B F' W W' m m.used m.frames) f w)

  pub left_over : m.mode ≡ Over → T' ≡ T → Wiped F F' W W' m u 0 → Left F F' W W' T T' m d t u (Ok (Failed m.steps m.cut m.counter))
  left_over e b w = left_at (Ok (Failed m.steps m.cut m.counter)) Over e (refl, b, w)

  pub left_refused : m.mode ≡ Refused → T' ≡ undone T t (m.bound - t) → Wiped F F' W W' m u 0 → Left F F' W W' T T' m d t u (Err OverLimit)
  left_refused e b w = left_at (Err OverLimit) Refused e (refl, b, w)

-- Other words that agree below those in use, and as many.
well_kept : {a : Allowed} {W W' : List ℕ} {T : Rows} {c t u : ℕ} → Well a W T c t u → Same term_room (cells W) (cells W') u
    → length W' ≡ length W → Well a W' T c t u
well_kept {W' = W'} {c = c} w same long =
    let l = w.lent_words in
    record {
      form = form_back w.form W' same c (le_refl c) w.form.few w.form.lent_rows long;
      lent_words = omega arith;
      lent_rows = w.lent_rows;
      enough = w.enough;
      low = w.low;
    }

-- The same applications over other words, if their goals are the same terms.
entries_words : (D : ℕ) (F : Rows) (W W' : List ℕ) (n : ℕ) → ((k : ℕ) → k < n → term W' (frame_at F k).goal ≡ term W (frame_at F k).goal)
    → entries D F W' n ≡ entries D F W n
entries_words D F W W' zero h = refl
entries_words D F W W' (suc n) h =
    ap₂ (λ (es : List Entry) (e : Entry). es ++ (e ∷ [])) (entries_words D F W W' n (λ k l. h k (omega arith)))
    (ap (entry (D - (frame_at F n).depth) (frame_at F n).rule) (h n (omega arith)))

module _ {a : Allowed} {P : List ℕ} {R F : Rows} {W : List ℕ} {T L M S : Rows} {g s c t u : ℕ}
    (asking : Asking a P R F W T L M S g s c t u) (d : ℕ) where
  -- With no step at all, and with a goal that is cut off.
  pub bound_out : s ≡ 0 → Bounded a P R F F W W T T L L M M S S g d s c t u (Ok (Failed 0 false c))
  bound_out e = record {
    says = λ text. (
      subst (λ (s : ℕ). failed 0 false c ≡ bounded_of a text P R W T g d s c t u) (sym e) refl,
      omega arith,
      record { later = le_refl c; well = asking.well },
      record { frames = refl; words = refl; rows = refl },
    );
    links = refl;
    marks = refl;
    stack = refl;
  }

  pub bound_cut : 0 < s → d ≡ 0 → Bounded a P R F F W W T T L L M M S S g d s c t u (Ok (Failed (s - 1) true c))
  unfolding search
  bound_cut ls e = record {
    says = λ text. (
      sym (search_cut (limits a P R F) (rules_from text P R 0 a.rules) (s - 1) c u (held term_room W T t) (term W g) [] leaf)
          ∙ ap₂ (λ (s d : ℕ). search (limits a P R F) (rules_from text P R 0 a.rules) s c u (held term_room W T t)
          (goal (term W g) d ∷ []) leaf)
          (let q : suc (s - 1) ≡ s = omega arith in q) (sym e),
      omega arith,
      record { later = le_refl c; well = asking.well },
      record { frames = refl; words = refl; rows = refl },
    );
    links = refl;
    marks = refl;
    stack = refl;
  }

  module _ (ls : 0 < s) (ld : 0 < d) where
    start : List ℕ → List ℕ → Start
    start text arities =
        record { text = text; arities = arities; words = W; rows = T; frames = F; counter = c; used = u; bound = t; steps = s; depth = d }

    begins : (text arities : List ℕ) → Holds a P R F W T (start text arities) (bounded_of a text P R W T g d s c t u)
        (to_start g (d - 1) (s - 1) (record { variables = c; bound = t; used = u }))
    unfolding start search
    begins text arities =
        let st = asking.steps in
        record {
          case = record {
            work = [];
            trees = leaf;
            branches = [];
            place = top {i = 1} (omega arith);
            within = omega arith;
            stack = record { bound = refl; used = refl; rows = refl; same = λ i l. refl };
            order = refl;
            fits = tt;
            well = asking.well;
            formed = λ rs f. f;
            room = omega arith;
            refers = asking.refers;
            known = omega arith;
            level = omega arith;
            value = ap (λ (k : ℕ). tries (limits a P R F) (search (limits a P R F) (rules_from text P R 0 a.rules))
                (held term_room W T t) (term W g) (d - 1) [] leaf u 0
                (rules_from text P R 0 k) (s - 1) false c) (let e : a.rules - 0 ≡ a.rules = omega arith in e)
                ∙ sym (search_goal (limits a P R F) (rules_from text P R 0 a.rules) (s - 1) c u (held term_room W T t) (term W g) (d - 1)
                [] leaf)
                ∙ ap₂ (λ (s d : ℕ). search (limits a P R F) (rules_from text P R 0 a.rules) s c u (held term_room W T t)
                (goal (term W g) d ∷ []) leaf)
                (let e : suc (s - 1) ≡ s = omega arith in e) (let e : suc (d - 1) ≡ d = omega arith in e);
          };
          rules = asking.rules;
          frames = asking.frames;
          left = omega arith;
          later = le_refl c;
          words_past = λ i l. refl;
          frames_past = λ i l. refl;
          words_long = refl;
          frames_long = refl;
        }

    module _ {m₀ : Machine} (e₀ : m₀ ≡ to_start g (d - 1) (s - 1) (record { variables = c; bound = t; used = u })) where
      begun : (text arities : List ℕ) → Holds a P R F W T (start text arities) (bounded_of a text P R W T g d s c t u) m₀
      begun text arities =
          subst (λ (m : Machine). Holds a P R F W T (start text arities) (bounded_of a text P R W T g d s c t u) m) (sym e₀)
          (begins text arities)

      -- What the loop asks.
      pub bound_ready : Ready a P R F W T L M S m₀
      bound_ready = record {
        start = start [] [];
        result = bounded_of a [] P R W T g d s c t u;
        holds = begun [] [];
        scratch = asking.scratch;
        small = asking.small;
      }

      module _ {F' : Rows} {W' : List ℕ} {T' L' M' S' : Rows} {m : Machine} (done : Searched a P R F F' W W' T T' L L' M M' S S' m₀ m) where
        ended : (text arities : List ℕ) → Holds a P R F' W' T' (start text arities) (bounded_of a text P R W T g d s c t u) m
        ended text arities = done.keeps (start text arities) (bounded_of a text P R W T g d s c t u) (begun text arities)

        -- What was not written is as it was.
        words_past_lem : (i : ℕ) → m.top ≤ i → cells W' i ≡ cells W i
        unfolding start
        words_past_lem i l = (ended [] []).words_past i l

        frames_past_lem : (i : ℕ) → m.high ≤ i → get_or F' i [] ≡ get_or F i []
        unfolding start
        frames_past_lem i l = (ended [] []).frames_past i l

        words_long : length W' ≡ length W
        unfolding start
        words_long = (ended [] []).words_long

        frames_long_lem : length F' ≡ length F
        unfolding start
        frames_long_lem = (ended [] []).frames_long

        refusing : m.mode ≡ Refused → (text : List ℕ) → Refusing a P R F' W' T' (start text []) (bounded_of a text P R W T g d s c t u) m
        refusing e text = case_at (ended text []) e

        -- What the end of a bound asks.
        pub bound_leaving : Leaving T' m t
        unfolding start
        bound_leaving = record {
          stopped = done.stopped;
          undoable = λ e. form_undoable (refusing e []).well.form
              (refusing e []).above.added.more;
        }

        module _ {F'' : Rows} {W'' : List ℕ} where
          -- All that was written is cleared.
          words_back : Same term_room (cells W) (cells W') u → Wiped F' F'' W' W'' m u 0 → W'' ≡ W
          words_back same w =
              cleared_back {d = 0} {z = 0} {l = W} {l' = W'} {l'' = W''} {from = u} {to = m.top} asking.words_clear words_long
              (λ i l. sym (same i l)) words_past_lem w.words

          frames_back : Wiped F' F'' W' W'' m u 0 → F'' ≡ F
          frames_back w =
              cleared_back {d = []} {z = zero_row} {l = F} {l' = F'} {l'' = F''} {from = 0} {to = m.high} asking.frames_clear frames_long_lem
              (λ i l. let x : ⊥ = omega arith in absurd x) frames_past_lem w.frames

        module _ {F'' : Rows} {W'' : List ℕ} {T'' : Rows} where
          bound_refused : m.mode ≡ Refused → T'' ≡ undone T' t (m.bound - t) → Wiped F' F'' W' W'' m u 0
              → Bounded a P R F F'' W W'' T T'' L L' M M' S S' g d s c t u (Err OverLimit)
          unfolding start
          bound_refused e un w = record {
            says = λ text. (
              refl,
              (refusing e text).value,
              record {
                frames = frames_back w;
                words = words_back (refusing e []).above.same w;
                rows = un ∙ (refusing e []).above.added.back;
              },
            );
            links = done.links;
            marks = done.marks;
            stack = done.stack;
          }

          bound_failed : m.mode ≡ Over → T'' ≡ T' → Wiped F' F'' W' W'' m u 0
              → Bounded a P R F F'' W W'' T T'' L L' M M' S S' g d s c t u (Ok (Failed m.steps m.cut m.counter))
          unfolding start
          bound_failed e same w =
              let at : (text : List ℕ) → Ending a P R F' W' T' (start text []) (bounded_of a text P R W T g d s c t u) m = λ text. case_at
              (ended text []) e in
              let n = words_long in
              let ready : Well a W' T m.counter t u =
              subst (λ (B : Rows). Well a W' B m.counter t u) (at []).bottom.rows
              (subst (λ (k : ℕ). Well a W' T' m.counter k u) (at []).bottom.bound
              (subst (λ (k : ℕ). Well a W' T' m.counter m.bound k) (at []).bottom.used (at []).well)) in
              record {
                says = λ text. (
                  (at text).value,
                  (ended text []).left,
                  record { later = (ended text []).later; well = well_kept ready (λ i l. sym ((at []).bottom.same i l)) (sym n) },
                  record { frames = frames_back w; words = words_back (at []).bottom.same w; rows = same ∙ (at []).bottom.rows },
                );
                links = done.links;
                marks = done.marks;
                stack = done.stack;
              }

          module _ (e : m.mode ≡ Proved) (same : T'' ≡ T') (w : Wiped (tree_rows d F' m.frames) F'' W' W'' m m.used m.frames) where
            proving : (text arities : List ℕ) → Proving a P R F' W' T' (start text arities) (bounded_of a text P R W T g d s c t u) m
            proving text arities = case_at (ended text arities) e

            agree : Same term_room (cells W') (cells W'') m.used
            agree i l = sym (w.words.before i l)

            long : length W'' ≡ length W'
            long = w.words.long

            rows_lent_lem : m.frames ≤ length F'
            rows_lent_lem = let r = (proving [] []).room in let f = asking.frames in let k = frames_long_lem in omega arith

            rows_are : (k : ℕ) → k < m.frames → get_or F'' k [] ≡ tree_row (d - (frame_at F' k).depth) (frame_at F' k).rule (frame_at F' k).goal
            rows_are k l = w.frames.before k l ∙ tree_row_lem d F' m.frames k l rows_lent_lem

            held_same : held term_room W'' T'' m.bound ≡ held term_room W' T' m.bound
            held_same = ap (λ (B : Rows). held term_room W'' B m.bound) same ∙ held_kept (proving [] []).well.form W'' agree

            goals_same : (k : ℕ) → k < m.frames → term W'' (frame_at F' k).goal ≡ term W' (frame_at F' k).goal
            goals_same k l =
                term_kept W' W'' m.counter m.used (proving [] []).well.form.words agree (frame_at F' k).goal
                ((proving [] []).references k l)

            nodes : Nodes W'' m.counter m.used F'' m.frames
            nodes =
                rows_nodes d F' F'' W'' m.frames rows_are m.counter m.used
                (λ k l. refers_kept W' W'' m.counter m.used (proving [] []).well.form.words agree m.counter m.used
                (frame_at F' k).goal
                (le_refl m.counter) (le_refl m.used) ((proving [] []).references k l))

            extended : Extended a P R W W'' T T'' c t u m.counter m.bound m.used
            unfolding start
            extended =
                let l = (proving [] []).above.words in
                let lw = (proving [] []).well.form.lent_words in
                let la = asking.well.form.lent_words in
                let n₁ = words_long in
                let n₂ = long in
                record {
                  later = (ended [] []).later;
                  longer = l;
                  added = subst (λ (B : Rows). Added T B t m.bound) (sym same) (proving [] []).above.added;
                  well = subst (λ (B : Rows). Well a W'' B m.counter m.bound m.used) (sym same)
                      (well_kept (proving [] []).well agree long);
                  words_long = long ∙ words_long;
                  words_kept = kept_part 0 W W'' u la (long ∙ words_long)
                      (λ i p. w.words.before i (omega arith) ∙ sym ((proving [] []).above.same i p));
                  words_clear = cleared_from_lem {d = 0} {z = 0} W {l' = W'} {l'' = W''} u {from' = m.used} {to = m.top}
                      asking.words_clear l words_long
                      (λ i p q. words_past_lem i q) w.words;
                  stays_in_form = λ arities rs f.
                      form_same W' W'' 0 m.used term_room m.counter m.counter arities (omega arith) lw (omega arith)
                      (le_refl m.counter) agree
                      ((proving [] arities).formed rs f);
                }

            bound_found : Bounded a P R F F'' W W'' T T'' L L' M M' S S' g d s c t u
                (Ok (Found m.frames m.steps (in_use_of m)))
            unfolding start
            bound_found = record {
              says = λ text. record {
                trees = (proving text []).trees;
                left = (ended text []).left;
                value = ap (λ (β : Bindings). found β (proving text []).trees m.steps m.counter m.used) held_same
                    ∙ (proving text []).value;
                extended = extended;
                room = (proving text []).room;
                order = rows_listed d F' F'' W'' m.frames rows_are ∙ entries_words d F' W' W'' m.frames goals_same
                    ∙ (proving text []).order;
                nodes = nodes;
                frames_long = w.frames.long ∙ tree_length d F' m.frames ∙ frames_long_lem;
                frames_clear = cleared_from_lem {d = []} {z = zero_row} F {l' = tree_rows d F' m.frames} {l'' = F''} 0 {from' = m.frames}
                    {to = m.high}
                    asking.frames_clear (omega arith) (tree_length d F' m.frames ∙ frames_long_lem)
                    (λ i p q. tree_behind d F' m.frames i p ∙ frames_past_lem i q) w.frames;
              };
              links = done.links;
              marks = done.marks;
              stack = done.stack;
            }

          -- What `leave` leaves is what the bound comes to.
          left_by : (r : Result Came Refusal) (k : Mode) → m.mode ≡ k → Leaves F' F'' W' W'' T' T'' m d t u r k
              → Bounded a P R F F'' W W'' T T'' L L' M M' S S' g d s c t u r
          left_by r Proved e l = subst (λ (r : Result Came Refusal). Bounded a P R F F'' W W'' T T'' L L' M M' S S' g d s c t u r) (sym l.0)
              (bound_found e l.1 l.2)
          left_by r Over e l = subst (λ (r : Result Came Refusal). Bounded a P R F F'' W W'' T T'' L L' M M' S S' g d s c t u r) (sym l.0)
              (bound_failed e l.1 l.2)
          left_by r Refused e l = subst (λ (r : Result Came Refusal). Bounded a P R F F'' W W'' T T'' L L' M M' S S' g d s c t u r) (sym l.0)
              (bound_refused e l.1 l.2)
          left_by r Enter e l = absurd l
          left_by r Try e l = absurd l
          left_by r Fail e l = absurd l

          pub bound_left : {r : Result Came Refusal} → Left F' F'' W' W'' T' T'' m d t u r → Bounded a P R F F'' W W'' T T'' L L' M M' S S' g d s c t u r
          bound_left {r} l = left_by r m.mode refl l.is

-- The scratch stands.
pub bounded_on : {a : Allowed} {P : List ℕ} {R F F' : Rows} {W W' : List ℕ} {T T' L L' L'' M M' M'' S S' S'' : Rows} {g d s c t u : ℕ}
    {r : Result Came Refusal} → L'' ≡ L' → M'' ≡ M' → S'' ≡ S' → Bounded a P R F F' W W' T T' L L' M M' S S' g d s c t u r
    → Bounded a P R F F' W W' T T' L L'' M M'' S S'' g d s c t u r
bounded_on l m s h = record { says = h.says; links = l ∙ h.links; marks = m ∙ h.marks; stack = s ∙ h.stack }
