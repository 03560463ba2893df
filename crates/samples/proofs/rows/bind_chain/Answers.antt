-- `bind_chain` meets its contract: each turn binds the loop's own variable to the next one.
use native.Mathlib.Omega.{arith}
use Prim.Native.Nat.{◌+◌, ◌<◌}
use mathlib.Core.Path.{◌≡◌, sym, ap, ◌∙◌}
use lib.ListN.{length}
use mathlib.Core.List.{[], ◌∷◌}
use Rattle.std.proofs.lemmas.Grind.{get_or-set_at}
use Rattle.std.proofs.lemmas.List.{get_or-set_other}
use Rattle.terms.specs.Numbers.{by_less}
use Rattle.samples.proofs.rows.bind_chain.Goals as goal

pub loop-i-preserved : goal.loop-i-preserved
loop-i-preserved c =
    let i = c.loop-i.i in
    let row = (i + 2) ∷ i ∷ [] in
    let inside : i < length c.loop-i.rows = omega (arith, c.loop-i.auto.rows, c.min-i-end.ensures, c.loop-i-test.true) in
    record {
      linked = λ v m. by_less v i
          (λ l _. get_or-set_other c.loop-i.rows i v row [] (λ e. absurd (omega (arith, e))) ∙ c.loop-i.invariant.linked v l)
          (λ l _. let e : v ≡ i = omega (arith, m) in get_or-set_at c.loop-i.rows i v row [] e inside ∙ ap (λ n. (n + 2) ∷ n ∷ []) (sym e));
      kept = λ v m. get_or-set_other c.loop-i.rows i v row [] (λ e. absurd (omega (arith, e))) ∙ c.loop-i.invariant.kept v (omega (arith, m));
    }
