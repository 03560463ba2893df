-- What stands through attempts: the terms of the words in use, and the bindings below a mark. Going back over several attempts is going back over each.
use Rattle.std.specs.Prelude.{ℕ, ◌-◌, ◌≤◌, ◌≡◌, refl, Result, Ok, Err, List, length}
use Rattle.std.proofs.Common.{arith, sym, ap, ◌∙◌, subst}
use Rattle.arena.specs.Cells.{denote, Reference, Same, frame_denote, cells}
use Rattle.arena.specs.Copies.{term_room}
use Rattle.arena.specs.Rows.{Rows, column}
use Rattle.bindings.specs.Tables.{undone}
use Rattle.bindings.specs.Stored.{held, Form}
use Rattle.unifier.specs.Promises.{Scratch}
use Rattle.bindings.specs.Holding.{bindings_same, form_holds}
use Rattle.bindings.specs.Growth.{undone_marks}
use Rattle.bindings.specs.TableLaws.{undone_none}
use Rattle.attempts.specs.Promises.{State, Asked, Added, Attempted}
use Rattle.attempts.specs.Extending.{held_older}
use Rattle.attempts.specs.declared.Stored.{Stored}
use Rattle.attempts.specs.declared.Tried.{Tried}
use Rattle.refusals.specs.declared.Refusal.{Refusal}
use Rattle.attempts.specs.declared.Tried.TheVariants.{Missed, Entered}

-- Bindings that were only added, behind words that stand, are the same below the mark.
pub added_held : {N : ℕ} {w : List ℕ} {b b' : Rows} {variables used k k' : ℕ} → Form N w b variables used k → (w' : List ℕ) → Same N (cells w) (cells w') used
    → Added b b' k k' → (j : ℕ) → j ≤ k → held N w' b' j ≡ held N w b j
added_held {N} {w} {b} {b'} form w' same a j l =
    sym (bindings_same N (cells w') (column 0 b) (column 0 b') (column 1 b) (column 1 b') j (λ i m. sym (a.kept i (omega arith)))
    (λ i m. sym (a.still (column 1 b i) (λ z. (form_holds form).filled i (omega arith) z))))
    ∙ held_older form w' same j l

-- Bindings added one after another.
pub added_none : (t : Rows) (a : ℕ) → Added t t a a
added_none t a = record { more = omega arith; kept = λ i l. refl; still = λ v n. refl; back = undone_none t a }

pub added_both : {t t' t'' : Rows} {a b c : ℕ} → Added t t' a b → Added t' t'' b c → Added t t'' a c
added_both {t} {t'} {t''} {a} {b} {c} g h =
    let l = g.more in let m = h.more in
    record {
      more = omega arith;
      kept = λ i k. h.kept i (omega arith) ∙ g.kept i k;
      still = λ v n. let s = g.still v n in h.still v (λ z. n (sym s ∙ z)) ∙ s;
      back = undone_marks t'' a b c l m ∙ ap (λ (s : Rows). undone s a (b - a)) h.back ∙ g.back;
    }

module _ {most limit : ℕ} {pattern premises places : List ℕ} {stored : Stored} {words words' : List ℕ} {rows rows' links links' marks marks' stack stack' : Rows}
    {counter used bound goal : ℕ} (asked : Asked most limit pattern premises places stored words rows links marks stack counter used bound goal) where
  -- An attempt changes no term that stood.
  pub attempted_terms : {answer : Result Tried Refusal}
      → Attempted most limit pattern premises places stored words words' rows rows' links links' marks marks' stack stack' counter used bound goal answer
      → (r : ℕ) → Reference term_room (cells words) counter used r → denote term_room (cells words) r ≡ denote term_room (cells words') r
  attempted_terms h r ref = frame_denote term_room (cells words) counter used asked.state.form.words (cells words') h.kept r ref

  -- And no binding.
  pub attempted_held : (answer : Result Tried Refusal)
      → Attempted most limit pattern premises places stored words words' rows rows' links links' marks marks' stack stack' counter used bound goal answer
      → (j : ℕ) → j ≤ bound → held term_room words' rows' j ≡ held term_room words rows j
  attempted_held (Err e) h j l = ap (λ (b : Rows). held term_room words' b j) h.left.same ∙ held_older asked.state.form words' h.kept j l
  attempted_held (Ok (Missed c)) h j l = ap (λ (b : Rows). held term_room words' b j) h.left.1.same ∙ held_older asked.state.form words' h.kept j l
  attempted_held (Ok (Entered i)) h j l = added_held asked.state.form words' h.kept h.left.added j l

  -- In form, with as many rows, it is again a state of the search.
  pub attempted_state : {answer : Result Tried Refusal} {counter' used' bound' : ℕ}
      → Attempted most limit pattern premises places stored words words' rows rows' links links' marks marks' stack stack' counter used bound goal answer
      → length rows' ≡ length rows → Form term_room words' rows' counter' used' bound' → State most limit words' rows' links' marks' stack' counter' used' bound'
  attempted_state h e form =
      let a = asked.state.lent_words in let b = asked.state.lent_rows in let l = h.long in
      record {
        form = form;
        scratch = subst (λ (x : Rows). Scratch term_room limit links' marks' x) (sym h.stack_kept)
            (subst (λ (x : Rows). Scratch term_room limit links' x stack) (sym h.marks_kept)
            (subst (λ (x : Rows). Scratch term_room limit x marks stack) (sym h.links_kept) asked.state.scratch));
        lent_words = omega arith;
        lent_rows = omega arith;
        enough = asked.state.enough;
        low = asked.state.low;
      }
