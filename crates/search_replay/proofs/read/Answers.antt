-- `read` is safe, and the next line stands behind this one: a text has so many bytes behind its line, a line end, and at most 65,536 bytes behind that.
use mathlib.Core.Path.{◌≡◌, sym, ap, ◌∙◌}
use Prim.Native.Nat.{ℕ, ◌+◌}
use mathlib.Core.List.{List}
use Rattle.listing.specs.Recorded.{recorded_at}
use Rattle.listing.specs.declared.recorded.Recorded.{Recorded}
use native.Mathlib.Omega.{arith}
use Rattle.search_replay.proofs.read.Goals as goal

behind : (list : List ℕ) (at : ℕ) (r : Recorded) → r ≡ recorded_at list at → r.next ≡ r.start + r.length + 1
behind list at r e = ap (λ (t : Recorded). t.next) e ∙ sym (ap (λ (t : Recorded). t.start + t.length + 1) e)

pub read_decimal-asked-requires : goal.read_decimal-asked-requires
read_decimal-asked-requires c = let h = behind c.args.list.now c.args.at c.read-text.result c.read-text.ensures.is in omega arith

pub overflow_add-result : goal.overflow_add-result
overflow_add-result c = let h = behind c.args.list.now c.args.at c.read-text.result c.read-text.ensures.is in omega arith

pub overflow_add-result-2 : goal.overflow_add-result-2
overflow_add-result-2 c = let h = behind c.args.list.now c.args.at c.read-text.result c.read-text.ensures.is in omega arith

pub overflow_add-result-3 : goal.overflow_add-result-3
overflow_add-result-3 c = let h = behind c.args.list.now c.args.at c.read-text.result c.read-text.ensures.is in omega arith

pub returns : goal.returns
returns c = let h = behind c.args.list.now c.args.at c.read-text.result c.read-text.ensures.is in (omega arith, omega arith)
