-- The premises: what copying and undoing ask, and what came of them.
use Rattle.std.specs.Prelude.{ℕ, ◌+◌, ◌-◌, ◌≤◌, ◌≡◌, refl, true, false, Ok, Err, List, length}
use Rattle.std.proofs.Common.{arith}
use Rattle.std.proofs.lemmas.List.Edits.{sets}
use Rattle.arena.specs.Cells.{headers}
use Rattle.arena.specs.Copies.{term_room, copied, Copyable}
use Rattle.arena.specs.Rows.{Rows}
use Rattle.bindings.specs.Tables.{undone}
use Rattle.bindings.specs.Promises.{Undoable}
use Rattle.bindings.specs.Holding.{form_undoable}
use Rattle.resolution.specs.Search.{within, over}
use Rattle.attempts.specs.Promises.{BodyAsked, BodyTried}
use Rattle.attempts.specs.Parts.{copyable, copied_kept, copied_past, copied_long, copied_held, copied_form, copied_grown, copied_reference, copied_denotes}
use Rattle.attempts.specs.Heads.{allowed}
use Rattle.attempts.specs.declared.Stored.{Stored}
use Rattle.refusals.specs.declared.Refusal.TheVariants.{OverLimit}

module _ {most limit : ℕ} {pattern places : List ℕ} {stored : Stored} {words : List ℕ} {rows : Rows} {counter used mark bound : ℕ}
    (asked : BodyAsked most limit pattern places stored words rows counter used mark bound) where
  pub body_undoable : Undoable rows bound mark
  body_undoable = form_undoable asked.form asked.marked

  -- The limits refuse the premises, and the bindings are undone.
  pub body_refused : {rows' : Rows} → over (within most limit) (counter + stored.variables) (used + stored.head + stored.body) ≡ true
      → rows' ≡ undone rows mark (bound - mark) → BodyTried most limit pattern places stored words words rows rows' counter used mark bound (Err OverLimit)
  body_refused e u = record { limits = refl; done = (e, u); kept = λ i l. refl; past = λ i l. refl; long = refl }

  module _ (fits : over (within most limit) (counter + stored.variables) (used + stored.head + stored.body) ≡ false) where
    within_most : counter + stored.variables ≤ most
    within_most = (allowed most limit (counter + stored.variables) (used + stored.head + stored.body) fits).0

    few : counter + stored.variables ≤ term_room
    few = let a = within_most in let b = asked.enough in omega arith

    short : used + stored.head + stored.body ≤ limit
    short = (allowed most limit (counter + stored.variables) (used + stored.head + stored.body) fits).1

    more : counter + stored.met ≤ counter + stored.variables
    more = let a = asked.grows in omega arith

    space : used + stored.head + stored.body ≤ length words
    space = let a = short in let b = asked.lent_words in omega arith

    small : term_room + (used + stored.head) + stored.body ≤ headers
    small = let a = short in let b = asked.low in omega arith

    pub body_copyable : Copyable pattern stored.from stored.body places words term_room (used + stored.head) counter
    body_copyable = copyable asked.part counter asked.form more few space small

    -- The premises were copied.
    pub body_copied : {words' : List ℕ} → words' ≡ sets words (used + stored.head) (copied pattern stored.from stored.body places term_room (used + stored.head) counter)
        → BodyTried most limit pattern places stored words words' rows rows counter used mark bound (Ok tt)
    body_copied {words'} w = record {
      limits = tt;
      done = (
        fits,
        record {
          same = refl;
          form = let a = within_most in let b = asked.lent_rows in copied_form asked.part counter asked.form more few space small words' w (omega arith);
          bindings = copied_held asked.part counter asked.form more few space small words' w;
          references = λ r h. copied_reference asked.part counter asked.form more few space small words' w r h;
          grown = copied_grown asked.part counter asked.form more few space small words' w;
          denotes = λ r h. copied_denotes asked.part counter asked.form more few space small words' w r h;
        },
      );
      kept = copied_kept asked.part counter asked.form more few space small words' w;
      past = copied_past asked.part counter asked.form more few space small words' w;
      long = copied_long asked.part counter asked.form more few space small words' w;
    }
