-- `are_places` meets its contract: the chain asks each place beside its column.
use Rattle.std.proofs.Common.{ℕ, refl, sym, ap, ◌∙◌, arith}
use Rattle.std.specs.Prelude.{Option, List, Some, length, get_or}
use Rattle.std.proofs.lemmas.Iterator.Search.{all_from_yields_List}
use Rattle.std.proofs.lemmas.Iterator.{YieldsList-from_slice, YieldsList-from_zip}
use Rattle.meeting.specs.Places.{is_place}
use Rattle.names.specs.Symbols.{column}
use Rattle.names.specs.SearchLaws.{columns_length, columns_at}
use Rattle.rule_checks.proofs.TableLaws.{columns_tell}
use Rattle.rule_checks.proofs.are_places.Goals as goal

pub returns : goal.returns
returns c =
    let row = c.args.rule.now in
    let table = c.args.places.now.places in
    let v = column row 3 in
    let few = c.requires in
    let lent = c.args.places.now.long in
    let n = ap length c.places.ensures ∙ columns_length row 90 v in
    let t = columns_tell table _ (omega arith) (all_from_yields_List (λ (p : Option ℕ × ℕ). is_place p.0 p.1) c.all.new.self _ c.all.result c.all.ensures.ran
    (YieldsList-from_zip (YieldsList-from_slice table (cc)) (YieldsList-from_slice _ (cc)))
    (λ x b q e. (refl, search e.met))) in
    record {
      yes = λ e x l. t.yes e x (omega arith) ∙ ap Some (ap (λ (l : List ℕ). get_or l x 0) c.places.ensures ∙ columns_at row 90 v x l);
      back = λ h. t.back (λ x l. h x (omega arith) ∙ ap Some (sym (ap (λ (l : List ℕ). get_or l x 0) c.places.ensures ∙ columns_at row 90 v x (omega arith))));
    }
