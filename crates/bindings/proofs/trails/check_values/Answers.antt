-- `check_values` meets its contract: past the rows every value is 0.
use Rattle.std.proofs.Common.{ℕ, length, refl, ⊎_elim, arith, rules}
use Rattle.std.proofs.lemmas.Iterator.{YieldsList-from_range, cases_from_all}
use Rattle.bindings.specs.Orders.{low_or_high}
use Rattle.bindings.specs.TableLaws.{column_past}
use Rattle.bindings.specs.Checking.{GoodValue, tells_iff, tells_below}
use Rattle.bindings.proofs.trails.check_values.Goals as goal

pub returns : goal.returns
returns c =
    let t = c.args.terms in
    let n = length c.args.rows.now in
    let Good : ℕ → Type 0 = GoodValue t.room t.words.now c.args.rows.now c.args.marks.now t.variables t.used in
    tells_iff
    (λ f v. ⊎_elim (λ l. f v l) (λ l ne. absurd (ne (column_past c.args.rows.now 0 v l))) (low_or_high v n))
    (λ f v l. f v)
    (tells_below Good n c.all.result
    (cases_from_all _ _ c.all.result Good (λ v. Good v → ⊥) c.all.ensures.ran (YieldsList-from_range 0 n n refl (omega arith)) (λ v q k. (search rules, search rules)) (λ v q k. search rules)))
