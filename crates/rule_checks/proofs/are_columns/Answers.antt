-- `are_columns` meets its contract: it tells whether the columns are in form.
-- Each way out is one of the tests of the columns, of a part of the row.
use Rattle.std.proofs.Common.{◌≡◌, ℕ, ◌<◌, ◌≤◌, arith}
use Rattle.names.specs.Symbols.{column}
use Rattle.names.specs.SearchLaws.{part_columns}
use mathlib.Core.Path.{sym, ◌∙◌}
use Rattle.terms.specs.Numbers.{true_false}
use Rattle.unifier.specs.Checking.{tells_no}
use Rattle.rule_checks.proofs.PartLaws.{columns_each, each_columns}
use Rattle.rule_checks.proofs.are_columns.Goals as goal

-- A column is zero, or a sort.
abbrev Zero : ℕ → Type 0
Zero x = x ≡ 0

abbrev Sort : ℕ → ℕ → Type 0
Sort sorts x = (0 < x) × (x ≤ sorts)

pub returns-then-not-are_zeros : goal.returns-then-not-are_zeros
returns-then-not-are_zeros c =
    let row = c.args.rule.now in
    tells_no (λ h. true_false (c.are_zeros.ensures.1 (each_columns row 10 (column row 4) 16 Zero (omega (arith, c.told-rule)) h.heads_clear)) c.if-not-are_zeros.true)

pub returns-then-not-are_zeros-2 : goal.returns-then-not-are_zeros-2
returns-then-not-are_zeros-2 c =
    let row = c.args.rule.now in
    tells_no (λ h. true_false (c.are_zeros-2.ensures.1 (each_columns row 26 (column row 3) 64 Zero (omega (arith, c.told-rule)) h.sorts_clear_lem)) c.if-not-are_zeros-2.true)

pub returns-then-not-are_zeros-3 : goal.returns-then-not-are_zeros-3
returns-then-not-are_zeros-3 c =
    let row = c.args.rule.now in
    tells_no (λ h. true_false (c.are_zeros-3.ensures.1 (each_columns row 90 (column row 3) 64 Zero (omega (arith, c.told-rule)) h.places_clear)) c.if-not-are_zeros-3.true)

pub returns : goal.returns
returns c =
    let row = c.args.rule.now in
    let few = c.requires.0 in
    let long = c.told-rule in
    let part = part_columns row 26 (column row 3) (omega arith) ∙ sym c.part_of_row.ensures in
    record {
      yes = λ e. record {
        heads_clear = columns_each row 10 (column row 4) 16 Zero (omega arith) (c.are_zeros.ensures.0 c.if-not-are_zeros.false);
        sorts_clear_lem = columns_each row 26 (column row 3) 64 Zero (omega arith) (c.are_zeros-2.ensures.0 c.if-not-are_zeros-2.false);
        places_clear = columns_each row 90 (column row 3) 64 Zero (omega arith) (c.are_zeros-3.ensures.0 c.if-not-are_zeros-3.false);
        sorted = λ j. columns_each row 26 0 (column row 3) (Sort c.args.sorts) (omega arith) (rw part (c.are_sorts.ensures.0 e)) j (omega arith);
      };
      back = λ h. c.are_sorts.ensures.1 (rw part at (each_columns row 26 0 (column row 3) (Sort c.args.sorts) (omega arith) (λ j _. h.sorted j)));
    }
