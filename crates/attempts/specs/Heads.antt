-- The goal and the conclusion: what copying and `unify` ask, and what came of them.
use Rattle.std.specs.Prelude.{ℕ, ◌+◌, ◌≤◌, ◌<◌, ◌≡◌, refl, Bool, true, false, ◌||◌, Option, Some, None, Ok, Err, is_some, unwrap_or, List, length}
use Rattle.std.proofs.Common.{arith, sym, ap, ap₂, ◌∙◌, subst}
use Rattle.std.proofs.lemmas.List.Edits.{sets}
use Rattle.terms.specs.Numbers.{less, less_yes, less_no, by_less, or_false, or_left, true_false}
use Rattle.terms.specs.Term.{Term, Below}
use Rattle.terms.specs.TermLaws.{below_le}
use Rattle.terms.specs.Bindings.{Bindings}
use Rattle.terms.specs.BindingLaws.{below_b_le}
use Rattle.terms.specs.Unification.{unify}
use Rattle.arena.specs.Cells.{headers, denote, Reference, Same, reference_up, frame_denote, below_denote, cells}
use Rattle.arena.specs.NodeLaws.{reference_same}
use Rattle.arena.specs.Copies.{term_room, copied, numbered, Copyable, Movable, pattern_room}
use Rattle.arena.specs.Rows.{Rows}
use Rattle.bindings.specs.Stored.{held, Form}
use Rattle.unifier.specs.Promises.{Scratch, Unified, outcome}
use Rattle.resolution.specs.Search.{within, over}
use Rattle.attempts.specs.Promises.{HeadAsked, HeadTried, instance, copied_at}
use Rattle.attempts.specs.Extending.{scratch_less}
use Rattle.attempts.specs.Clashes.{Comparable, Clashes, clash_fails}
use Rattle.attempts.specs.Parts.{copyable, copied_kept, copied_past, copied_long, copied_held, copied_form, copied_grown, copied_reference, copied_denotes, root_movable}
use Rattle.attempts.specs.declared.Stored.{Stored}
use Rattle.refusals.specs.declared.Refusal.TheVariants.{OverLimit}

not_less : (x y : ℕ) → less x y ≡ false → y ≤ x
not_less x y e = by_less x y (λ l q. true_false q e) (λ l q. l)

-- What the limits allow.
pub allowed : (most limit variables words : ℕ) → over (within most limit) variables words ≡ false → (variables ≤ most) × (words ≤ limit)
allowed most limit variables words e =
    let h = or_false (less most variables) (less limit words) e in (not_less most variables h.0, not_less limit words h.1)

-- The two tests of `exceeds`.
pub over_variables : (most limit variables words : ℕ) → most < variables → true ≡ over (within most limit) variables words
over_variables most limit variables words l = sym (or_left (less most variables) (less limit words) (less_yes l))

pub over_words : (most limit variables words : ℕ) → variables ≤ most → less limit words ≡ over (within most limit) variables words
over_words most limit variables words l = sym (ap (λ (b : Bool). b || less limit words) (less_no l))

module _ {most limit : ℕ} {pattern places : List ℕ} {stored : Stored} {words : List ℕ} {rows links marks stack : Rows} {counter used bound goal : ℕ}
    (asked : HeadAsked most limit pattern places stored words rows links marks stack counter used bound goal) where
  -- The limits refuse the conclusion, and nothing was done.
  pub head_refused : over (within most limit) (counter + stored.met) (used + stored.head) ≡ true
      → HeadTried most limit pattern places stored words words rows rows links links marks marks stack stack counter used bound goal (Err OverLimit)
  head_refused e = record { limits = refl; came = (e, refl); kept = λ i l. refl; past = λ i l. refl; long = refl; links_kept = refl; marks_kept = refl; stack_kept = refl }

  -- The goal can be compared with the conclusion as it stands in the pattern.
  pub head_comparable : Comparable term_room pattern words rows counter used bound goal stored.conclusion
  head_comparable =
      let l = asked.part.low in
      record {
        form = asked.state.form;
        refers = asked.refers;
        end = stored.from + stored.body + stored.head;
        there = asked.part.there;
        low = omega arith;
        formed = asked.part.formed;
        pattern_refers = record { variable = λ p. p; node = λ p. let b = asked.root.below p in omega arith; header = asked.root.header };
      }

  module _ (fits : over (within most limit) (counter + stored.met) (used + stored.head) ≡ false) where
    within_most : counter + stored.met ≤ most
    within_most = (allowed most limit (counter + stored.met) (used + stored.head) fits).0

    few : counter + stored.met ≤ term_room
    few = let a = within_most in let b = asked.state.enough in omega arith

    short : used + stored.head ≤ limit
    short = (allowed most limit (counter + stored.met) (used + stored.head) fits).1

    more : counter ≤ counter + stored.met
    more = omega arith

    space : used + stored.head ≤ length words
    space = let a = short in let b = asked.state.lent_words in omega arith

    small : term_room + used + stored.head ≤ headers
    small = let a = short in let b = asked.state.low in omega arith

    pub head_copyable : Copyable pattern (stored.from + stored.body) stored.head places words term_room used counter
    head_copyable = copyable asked.part counter asked.state.form more few space small

    pub head_movable : Movable places counter (pattern_room + (stored.from + stored.body)) (term_room + used) stored.conclusion
    head_movable = root_movable asked.part counter asked.state.form more few space small stored.conclusion asked.root

    pub head_scratch : Scratch term_room (used + stored.head) links marks stack
    head_scratch = scratch_less (used + stored.head) short asked.state.scratch

    module _ (words' : List ℕ) (written : words' ≡ sets words used (copied pattern (stored.from + stored.body) stored.head places term_room used counter)) where
      kept : Same term_room (cells words) (cells words') used
      kept = copied_kept asked.part counter asked.state.form more few space small words' written

      pub head_form : Form term_room words' rows (counter + stored.met) (used + stored.head) bound
      head_form =
          let a = within_most in let b = asked.state.lent_rows in
          copied_form asked.part counter asked.state.form more few space small words' written (omega arith)

      pub head_goal : Reference term_room (cells words') (counter + stored.met) (used + stored.head) goal
      head_goal = reference_up term_room more (omega arith) (reference_same term_room kept asked.refers)

      pub head_conclusion : (t : ℕ) → t ≡ copied_at places counter (stored.from + stored.body) used stored.conclusion → Reference term_room (cells words') (counter + stored.met) (used + stored.head) t
      head_conclusion t e =
          subst (λ (x : ℕ). Reference term_room (cells words') (counter + stored.met) (used + stored.head) x) (sym e)
          (copied_reference asked.part counter asked.state.form more few space small words' written stored.conclusion asked.root)

      -- The same bindings, the same goal and the copied conclusion.
      same : (t : ℕ) → t ≡ copied_at places counter (stored.from + stored.body) used stored.conclusion
          → unify (counter + stored.met) (held term_room words rows bound) (denote term_room (cells words) goal) (instance pattern places stored counter)
          ≡ unify (counter + stored.met) (held term_room words' rows bound) (denote term_room (cells words') goal) (denote term_room (cells words') t)
      same t e =
          ap (λ (β : Bindings). unify (counter + stored.met) β (denote term_room (cells words) goal) (instance pattern places stored counter))
          (sym (copied_held asked.part counter asked.state.form more few space small words' written))
          ∙ ap₂ (λ (g h : Term). unify (counter + stored.met) (held term_room words' rows bound) g h)
          (frame_denote term_room (cells words) counter used asked.state.form.words (cells words') kept goal asked.refers)
          (sym (ap (denote term_room (cells words')) e ∙ copied_denotes asked.part counter asked.state.form more few space small words' written stored.conclusion asked.root))

      instance_below : Below (counter + stored.met) (instance pattern places stored counter)
      instance_below =
          let t : ℕ = copied_at places counter (stored.from + stored.body) used stored.conclusion in
          subst (λ (x : Term). Below (counter + stored.met) x)
          (copied_denotes asked.part counter asked.state.form more few space small words' written stored.conclusion asked.root)
          (below_denote term_room (cells words') (counter + stored.met) (used + stored.head) head_form.words t (head_conclusion t refl))

      module _ {t : ℕ} (found : t ≡ copied_at places counter (stored.from + stored.body) used stored.conclusion) {rows' links' marks' stack' : Rows} {bound' : ℕ} {answer : Bool}
          (h : Unified term_room words' rows rows' links links' marks marks' stack stack' (counter + stored.met) (used + stored.head) bound bound'
          goal t answer) where
        -- They do not unify.
        pub head_apart : answer ≡ false
            → HeadTried most limit pattern places stored words words' rows rows' links links' marks marks' stack stack' counter used bound goal (Ok None)
        head_apart e = record {
          limits = tt;
          came = (fits, same t found ∙ h.is ∙ ap (λ (a : Bool). outcome a (held term_room words' rows' bound')) e, (h.failed e).0);
          kept = kept;
          past = copied_past asked.part counter asked.state.form more few space small words' written;
          long = copied_long asked.part counter asked.state.form more few space small words' written;
          links_kept = h.links;
          marks_kept = h.marks;
          stack_kept = h.stack;
        }

        -- They unify.
        pub head_unifies : answer ≡ true
            → HeadTried most limit pattern places stored words words' rows rows' links links' marks marks' stack stack' counter used bound goal (Ok (Some bound'))
        head_unifies e = record {
          limits = tt;
          came = (
            fits,
            same t found ∙ h.is ∙ ap (λ (a : Bool). outcome a (held term_room words' rows' bound')) e,
            record {
              form = h.form;
              added = record { more = h.more; kept = h.kept; still = h.still; back = h.back };
              grown = copied_grown asked.part counter asked.state.form more few space small words' written;
            },
          );
          kept = kept;
          past = copied_past asked.part counter asked.state.form more few space small words' written;
          long = copied_long asked.part counter asked.state.form more few space small words' written;
          links_kept = h.links;
          marks_kept = h.marks;
          stack_kept = h.stack;
        }

      -- How unification ended.
      pub head_ended : {t : ℕ} (found : t ≡ copied_at places counter (stored.from + stored.body) used stored.conclusion) {rows' links' marks' stack' : Rows} (ended : Option ℕ)
          → Unified term_room words' rows rows' links links' marks marks' stack stack' (counter + stored.met) (used + stored.head) bound (unwrap_or ended bound)
          goal t (is_some ended)
          → HeadTried most limit pattern places stored words words' rows rows' links links' marks marks' stack stack' counter used bound goal (Ok ended)
      head_ended found None h = head_apart found h refl
      head_ended found (Some n) h = head_unifies found h refl

    -- Their heads clash: nothing was copied.
    pub head_clashes : Clashes term_room pattern words rows bound goal stored.conclusion
        → HeadTried most limit pattern places stored words words rows rows links links marks marks stack stack counter used bound goal (Ok None)
    head_clashes k = record {
      limits = tt;
      came = (
        fits,
        clash_fails (counter + stored.met) (held term_room words rows bound) (denote term_room (cells words) goal) (instance pattern places stored counter)
            asked.state.form.acyclic (below_b_le more (held term_room words rows bound) asked.state.form.below)
            (below_le more (denote term_room (cells words) goal) (below_denote term_room (cells words) counter used asked.state.form.words goal asked.refers))
            (instance_below (sets words used (copied pattern (stored.from + stored.body) stored.head places term_room used counter)) refl)
            (k (numbered places counter)),
        refl,
      );
      kept = λ i l. refl;
      past = λ i l. refl;
      long = refl;
      links_kept = refl;
      marks_kept = refl;
      stack_kept = refl;
    }
