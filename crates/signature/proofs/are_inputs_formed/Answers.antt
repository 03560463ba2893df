-- `are_inputs_formed` meets its contract: the inputs are sorts, and the columns past them are zero.
use Rattle.std.proofs.Common.{◌≡◌, ℕ, ◌<◌, ◌≤◌, arith}
use Rattle.names.specs.Symbols.{column}
use Rattle.terms.specs.Numbers.{true_false}
use Rattle.rule_checks.proofs.PartLaws.{columns_each, each_columns}
use Rattle.signature.proofs.are_inputs_formed.Goals as goal

abbrev Zero : ℕ → Type 0
Zero x = x ≡ 0

abbrev Sort : ℕ → ℕ → Type 0
Sort sorts x = (0 < x) × (x ≤ sorts)

pub returns-then-are_sorts : goal.returns-then-are_sorts
returns-then-are_sorts c =
    let row = c.args.row.now in
    let few = c.requires in
    let long = c.told-row in
    let used = columns_each row 8 0 (column row 6) (Sort c.args.sorts) (omega arith) (c.are_sorts.ensures.0 c.if-are_sorts.true) in
    record {
      yes = λ e j l. let clear = columns_each row 8 (column row 6) 16 Zero (omega arith) (c.are_zeros.ensures.0 e) in
          record { used = λ b. used j (omega arith) b; clear = λ b. clear j b l };
      back = λ h. c.are_zeros.ensures.1 (each_columns row 8 (column row 6) 16 Zero (omega arith) (λ j a b. (h j b).clear a));
    }

pub returns-else-are_sorts : goal.returns-else-are_sorts
returns-else-are_sorts c =
    let row = c.args.row.now in
    let few = c.requires in
    let long = c.told-row in
    record {
      yes = λ e. true_false e c.if-are_sorts.false;
      back = λ h. c.are_sorts.ensures.1 (each_columns row 8 0 (column row 6) (Sort c.args.sorts) (omega arith) (λ j _ b. (h j (omega arith)).used b));
    }
