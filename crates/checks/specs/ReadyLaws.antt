-- What callers need of the tests: zero rows are free scratch, and scratch that is as it was stays so.
use Rattle.std.specs.Prelude.{ℕ, ◌+◌, ◌≡◌}
use Rattle.std.proofs.Common.{sym, subst}
use Rattle.arena.specs.Rows.{Rows}
use Rattle.bindings.specs.Promises.{Free}
use Rattle.unifier.specs.Promises.{Scratch}
use Rattle.checks.specs.Ready.{Zeros}

pub zeros_free : {N used : ℕ} {rows : Rows} → Zeros rows (N + used) → Free N used rows
zeros_free z = record { lent = z.lent; empty = z.empty }

pub free_zeros : {N used : ℕ} {rows : Rows} → Free N used rows → Zeros rows (N + used)
free_zeros f = record { lent = f.lent; empty = f.empty }

pub zeros_scratch : {N used : ℕ} {l m s : Rows} → Zeros l (N + used) → Zeros m (N + used) → Zeros s used → Scratch N used l m s
zeros_scratch x y z = record { links_free = zeros_free x; marks_free = zeros_free y; stack_lent = z.lent; stack_empty = z.empty }

-- The marks at exit are those at entry.
module _ {N used : ℕ} {m m' : Rows} (kept : m' ≡ m) where
  pub free_kept : Free N used m → Free N used m'
  free_kept f = subst (Free N used) (sym kept) f

  pub scratch_kept : {l s : Rows} → Scratch N used l m s → Scratch N used l m' s
  scratch_kept {l} {s} h = subst (λ (z : Rows). Scratch N used l z s) (sym kept) h
