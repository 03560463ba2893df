-- `put_numbers` meets its contract: zero throughout, and then the numbers.
use borrow.Author.Rules.{rules}
use native.Mathlib.Omega.{arith}
use Rattle.std.proofs.Common.{◌≡◌, ℕ, length, replicate}
use Rattle.std.proofs.lemmas.List.{length-replicate}
use Rattle.capi.proofs.Laws.{sets_front}
use Rattle.capi.proofs.put_numbers.Goals as goal

pub returns : goal.returns
returns c =
    let n = length c.args.results.now in
    let e : c.fill.new.self ≡ replicate n 0 = search rules in
    let f : c.copy_from_slice.new.self ≡ c.args.numbers.now = search rules in
    let l : length (replicate {A = ℕ} n 0) ≡ n = length-replicate n 0 in
    let r = c.requires in
    rw (e, f) (sets_front (replicate n 0) c.args.numbers.now (omega arith))
