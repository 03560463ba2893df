-- `is_in_places` meets its contract: it tells whether the row has the places in meeting order.
-- The conclusion and then the premises, the last first, are met in a new table.
use mathlib.Core.Path.{sym, ap, ◌∙◌, subst}
use Prim.Native.Nat.{ℕ, ◌<◌}
use Rattle.meeting.specs.Contract.{WholeAsked}
use Rattle.names.specs.Symbols.{column}
use Rattle.std.specs.Prelude.{Some}
use Rattle.meeting.specs.PlaceLaws.{some_one}
use mathlib.Core.List.{[]}
use Rattle.unifier.specs.Checking.{tells_no, tells_false}
use Rattle.rule_checks.specs.Steps.{conclusion_of, PlacedWord}
use Rattle.rule_checks.proofs.PremiseLaws.{heads_length, heads_index}
use Rattle.rule_checks.proofs.PartLaws.{part_each, each_part}
use Rattle.rule_checks.proofs.TableLaws.{placed_listed, listed_placed, table_places}
use Rattle.rule_checks.proofs.ListedLaws.{conclusion_asked, premise_asked}
use native.Mathlib.Omega.{arith}
use Rattle.rule_checks.proofs.is_in_places.Goals as goal

pub returns-then-not-are_placed : goal.returns-then-not-are_placed
returns-then-not-are_placed c =
    let pre = c.requires in
    let walkable = c.args.rule.walkable in
    let args = c.args in
    let rec = c.meet.ensures.recorded (conclusion_asked walkable args.rule.placed.counted pre).small [] c.new-places.ensures in
    let m = args.rule.placed.counted.middle in
    let z = args.rule.placed.counted.last in
    tells_no (λ h. tells_false c.are_placed.ensures c.if-not-are_placed.true (each_part args.rule.placed.words.now args.rule.placed.middle args.rule.placed.end (PlacedWord c.meet.new.self.places) walkable.within (listed_placed (conclusion_of args.rule.placed.words.now args.rule.placed.row.now) rec args.rule.placed.words.now args.rule.placed.middle args.rule.placed.end (λ a l b. h.listed a (omega arith) (omega arith)))))

pub meet_back-requires : goal.meet_back-requires
meet_back-requires c = rw c.premises.ensures (λ i l.
    let pre = c.requires in
    let walkable = c.args.rule.walkable in
    let args = c.args in
    let row = args.rule.placed.row.now in
    let n : i < column row 4 = omega (arith, heads_length row, l) in
    let a = premise_asked walkable args.rule.placed.counted pre i n in
    subst (λ (r : ℕ). WholeAsked args.rule.placed.words.now r 2048 c.meet.new.stack) (sym (heads_index row i n))
    (record { used = a.end; within = a.within; low = a.low; formed = a.formed; root = a.root; room = omega arith }, a.small))

pub returns : goal.returns
returns c =
    let pre = c.requires in
    let walkable = c.args.rule.walkable in
    let args = c.args in
    let m = args.rule.placed.counted.middle in
    let z = args.rule.placed.counted.last in
    let rec = c.meet.ensures.recorded (conclusion_asked walkable args.rule.placed.counted pre).small [] c.new-places.ensures in
    let row = args.rule.placed.row.now in
    let all = rw c.premises.ensures at (c.meet_back.ensures _ rec) in
    let placed = table_places pre args.rule.placed.counted.variables all in
    record {
      yes = λ e. record {
        meets = sym c.if-places-row.false ∙ rec.counted;
        listed = λ a l b. placed_listed (conclusion_of args.rule.placed.words.now args.rule.placed.row.now) rec args.rule.placed.words.now args.rule.placed.middle args.rule.placed.end (part_each args.rule.placed.words.now args.rule.placed.middle args.rule.placed.end (PlacedWord c.meet.new.self.places) walkable.within (c.are_placed.ensures.yes c.if-not-are_placed.false)) a (omega arith) (omega arith);
        placed = λ x l. some_one (sym (c.are_places.ensures.yes e x l) ∙ placed x l);
      };
      back = λ h. c.are_places.ensures.back (λ x l. placed x l ∙ ap Some (sym (h.placed x l)));
    }
