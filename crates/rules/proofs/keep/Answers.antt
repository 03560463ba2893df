-- `keep` meets its contract: the walk gives the places, and the row is written.
use mathlib.Core.Path.{◌≡◌, refl, sym, ap, ◌∙◌}
use mathlib.Core.List.{List, [], ◌∷◌}
use Prim.Native.Nat.{ℕ, ◌-◌}
use lib.ListN.{length, length-map}
use lib.Seq.{length-take-le}
use Rattle.meeting.specs.Places.{numbers_below, place_numbers}
use Rattle.rules.proofs.RowLaws.{sorts_in, sorts_column, sorts_length, map_take}
use Rattle.rules.proofs.KeepLaws.{lying_used, order_asked, all_recorded, row_kept, title_at_lem}
use Rattle.rules.specs.LayingLaws.{records_placed}
use Rattle.rules.proofs.ExactLaws.{places_exact, row_exact}
use native.Mathlib.Omega.{arith}
use Rattle.rules.proofs.keep.Goals as goal

pub invariant_of-terms : goal.invariant_of-terms
invariant_of-terms c =
    let lying = c.requires.rule.2 in
    record {
      asked = rw (length-take-le c.args.body.space.used c.args.words.now lying.conclusion.there)
          (order_asked c.args.heads.now (lying_used c.args.words.now c.args.heads.now lying) c.requires.rising.0);
    }

pub returns : goal.returns
returns c =
    let order-sized = c.order_sized-order in
    let args = c.args in
    let pre = c.requires in
    let v = length args.variables.now in
    let table = place_numbers order-sized.result.places.places in
    let long : length table ≡ 64 = rw length-map order-sized.result.places.long in
    let numbers : List ℕ = args.title.word.start ∷ args.title.word.size ∷ args.title.clause ∷ v ∷ length args.heads.now ∷ args.body.conclusion ∷ args.from ∷ (args.body.middle - args.from) ∷ (args.body.space.used - args.body.middle) ∷ order-sized.result.met ∷ [] in
    rw (c.store.ensures [], map_take)
    (record {
      placed = (
        title_at_lem v numbers args.heads.now (sorts_in [] args.variables.now v) table refl pre.few (sorts_length [] args.variables.now v (omega arith)) pre.vars long 0 (omega arith),
        title_at_lem v numbers args.heads.now (sorts_in [] args.variables.now v) table refl pre.few (sorts_length [] args.variables.now v (omega arith)) pre.vars long 1 (omega arith),
        title_at_lem v numbers args.heads.now (sorts_in [] args.variables.now v) table refl pre.few (sorts_length [] args.variables.now v (omega arith)) pre.vars long 2 (omega arith),
      );
      kept = λ text arities R lying named sorted appear. let k = all_recorded args.heads.now (lying_used args.words.now args.heads.now lying) order-sized.ensures in
          row_kept args.heads.now lying text v args.title.word.start args.title.word.size args.title.clause _ table order-sized.result.met pre.rising pre.few pre.vars long (sorts_length [] args.variables.now v (omega arith)) named (sorts_column [] args.variables.now v
          ∙ sym (sorts_column text args.variables.now v)
          ∙ sorted) (appear
          ∙ ap numbers_below (ap length (sym sorted) ∙ sorts_length text args.variables.now v (omega arith))) k.0 (records_placed R _ _ k.1);
      exact = λ text arities R lying sorted appear refs ref. let k = all_recorded args.heads.now (lying_used args.words.now args.heads.now lying) order-sized.ensures in
          let few = pre.vars in
          row_exact args.title R args.from args.body.middle args.body.space.used args.body.conclusion (length args.heads.now) v order-sized.result.met args.heads.now (sorts_in [] args.variables.now v) _ refs ref
          (sorts_column [] args.variables.now v ∙ sym (sorts_column text args.variables.now v) ∙ sorted)
          (sorts_length [] args.variables.now v (omega arith)) refl lying.premises.used lying.conclusion.used k.0
          (places_exact R v (appear ∙ ap numbers_below (ap length (sym sorted) ∙ sorts_length text args.variables.now v (omega arith))) table (records_placed R _ _ k.1) (rw long few));
    })
