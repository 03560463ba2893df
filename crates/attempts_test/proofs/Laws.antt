-- What the tests of a search's storage find together.
use Prim.Native.Nat.{ℕ}
use mathlib.Core.Path.{◌≡◌, sym}
use mathlib.Core.List.{List}
use Rattle.arena.specs.Copies.{term_room}
use Rattle.arena.specs.Rows.{Rows}
use Rattle.bindings.specs.Stored.{Form}
use Rattle.attempts.specs.Promises as contracts
use Rattle.checks.specs.ReadyLaws.{scratch_kept}
use Rattle.attempts_test.specs.Told.{Room}

module _ {most limit : ℕ} {w : List ℕ} {b l m m' s : Rows} {counter used bound : ℕ} (kept : m' ≡ m) where
  -- A form, and room for what the limits allow.
  pub form_room : Form term_room w b counter used bound → Room most limit w b l m' s → contracts.State most limit w b l m s counter used bound
  form_room f r = record { form = f; scratch = scratch_kept (sym kept) r.scratch; lent_words = r.lent_words; lent_rows = r.lent_rows; enough = r.enough; low = r.low }

  -- The marks at exit are those at entry.
  pub state_kept : contracts.State most limit w b l m s counter used bound → contracts.State most limit w b l m' s counter used bound
  state_kept h = record { form = h.form; scratch = scratch_kept kept h.scratch; lent_words = h.lent_words; lent_rows = h.lent_rows; enough = h.enough; low = h.low }
