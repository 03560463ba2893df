-- `is_in_order` meets its contract: it tells whether the terms take their words and the variables are numbered in writing order.
-- The premises and then the conclusion are met in a new table.
use mathlib.Core.Path.{sym, ap, ◌∙◌}
use mathlib.Core.List.{[]}
use lib.ListN.{length}
use Rattle.meeting.specs.Places.{numbers_below}
use Rattle.meeting.specs.PlaceLaws.{numbers_count, place_is, order_list, list_order}
use Rattle.meeting.specs.WalkLaws.{walked_words}
use Rattle.std.proofs.lemmas.Bool.{not-false}
use Rattle.unifier.specs.Checking.{tells_no, tells_false}
use Rattle.rule_checks.specs.Steps.{premises_of, PlacedWord}
use Rattle.rule_checks.proofs.PartLaws.{part_each, each_part}
use Rattle.rule_checks.proofs.TableLaws.{placed_listed, listed_placed}
use native.Mathlib.Omega.{arith}
use Rattle.rule_checks.proofs.is_in_order.Goals as goal

pub returns-then-not-are_placed : goal.returns-then-not-are_placed
returns-then-not-are_placed c =
    let walk-premises = c.walk_premises in
    let pre = c.args.rule.walkable in
    let args = c.args in
    let rec = walk-premises.ensures.records c.if-not-walk_premises.false [] c.new-places.ensures in
    let m = args.rule.placed.counted.middle in
    let z = args.rule.placed.counted.last in
    tells_no (λ h. tells_false c.are_placed.ensures c.if-not-are_placed.true (each_part args.rule.placed.words.now args.rule.placed.from args.rule.placed.middle (PlacedWord walk-premises.new.places.places) (omega (arith, pre.within)) (listed_placed (premises_of args.rule.placed.words.now args.rule.placed.row.now) rec args.rule.placed.words.now args.rule.placed.from args.rule.placed.middle (λ a l b. h.listed a l (omega arith)))))

pub returns-then-places-row : goal.returns-then-places-row
returns-then-places-row c =
    let rec = c.walk_premises.ensures.records c.if-not-walk_premises.false [] c.new-places.ensures in
    let fits = (walked_words c.meet.ensures _ (place_is _ _ (not-false _ (sym c.ne.ensures ∙ c.if-ne.false)))).0 in
    let both = c.meet.ensures.recorded (omega arith) _ rec in
    tells_no (λ h. c.if-places-row.true (both.counted ∙ ap length h.order ∙ numbers_count _))

pub returns : goal.returns
returns c =
    let walk-premises = c.walk_premises in
    let pre = c.args.rule.walkable in
    let args = c.args in
    let in-order = c.is_in_order.ensures in
    let rec = walk-premises.ensures.records c.if-not-walk_premises.false [] c.new-places.ensures in
    let fits = (walked_words c.meet.ensures _ (place_is _ _ (not-false _ (sym c.ne.ensures ∙ c.if-ne.false)))).0 in
    let both = c.meet.ensures.recorded (omega arith) _ rec in
    let m = args.rule.placed.counted.middle in
    let z = args.rule.placed.counted.last in
    record {
      yes = λ e. record {
        body = walk-premises.ensures.fits c.if-not-walk_premises.false;
        listed = λ a l b. placed_listed (premises_of args.rule.placed.words.now args.rule.placed.row.now) rec args.rule.placed.words.now args.rule.placed.from args.rule.placed.middle (part_each args.rule.placed.words.now args.rule.placed.from args.rule.placed.middle (PlacedWord walk-premises.new.places.places) (omega (arith, pre.within)) (c.are_placed.ensures.yes c.if-not-are_placed.false)) a l (omega arith);
        head = sym fits;
        order = order_list both (sym in-order ∙ e) ∙ ap numbers_below c.if-places-row.false;
      };
      back = λ h. in-order ∙ list_order both (h.order ∙ ap numbers_below (sym c.if-places-row.false));
    }
