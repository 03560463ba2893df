-- `enter` meets its contract: one law for each way out.
use mathlib.Core.Path.{refl}
use Prim.Native.Nat.{◌≤◌}
use native.Mathlib.Omega.{arith}
use lib.ListN.{length}
use Rattle.names.specs.Names.{name_of}
use Rattle.names.specs.Symbols.{column, row_at}
use Rattle.names.specs.SearchLaws.{variable_some, variable_none}
use Rattle.patterns.proofs.Variables.{last_changed, sort_set, sort_none, sort_same, sort_other, var_new, var_full}
use Rattle.patterns.proofs.Places.{placed_sort, placed_new}
use Rattle.patterns.proofs.enter.Goals as goal
use Rattle.patterns.proofs.enter.Goals.{else-old-ne0-via-then-old-ne0+then-sort-ne0+else-old-sort, else-old-ne0-via-then-old-ne0+else-sort-ne0, else-old-ne0-via-else-old-ne0}

pub returns-then-old-eq0 : goal.returns-then-old-eq0
returns-then-old-eq0 c =
    let a = c.args in
    let h : a.count ≤ length a.variables.now = omega arith in
    let (e, l) = variable_some a.text.now a.variables.now a.count h (name_of a.text.now (column a.row 0) (column a.row 1) (column a.row 2)) c.in-Some.index c.in-Some.ensures in
    rw (last_changed (row_at a.variables.now c.in-Some.index) a.sort (c.told-variables c.in-Some.index (omega arith))) (record {
      grew = (l, omega arith, omega arith);
      variables_after = sort_set a.text.now a.variables.now a.count h _ a.sort c.in-Some.index e l refl c.if-old-eq0.true;
      entry_placed = placed_sort _ a.variables.now a.count c.in-Some.index a.sort (omega arith);
    })

pub returns-else-old-eq0-clause-variables_after : goal.returns-else-old-eq0-clause-variables_after
returns-else-old-eq0-clause-variables_after c =
    let a = c.args in
    let h : a.count ≤ length a.variables.now = omega arith in
    let (e, l) = variable_some a.text.now a.variables.now a.count h (name_of a.text.now (column a.row 0) (column a.row 1) (column a.row 2)) c.in-Some.index c.in-Some.ensures in
    elim c.else-old-ne0.branch [
      | else-old-ne0-via-then-old-ne0+then-sort-ne0+else-old-sort w ↦ sort_same a.text.now a.variables.now a.count h _ a.sort c.in-Some.index e l refl c.if-old-eq0.false w.if-sort-ne0.true w.if-old-sort.false
      | else-old-ne0-via-then-old-ne0+else-sort-ne0 w ↦ sort_none a.text.now a.variables.now a.count h _ a.sort c.in-Some.index e l refl c.if-old-eq0.false w.if-sort-ne0.false
      | else-old-ne0-via-else-old-ne0 w ↦ absurd (c.if-old-eq0.false w.if-old-ne0.false)
    ]

pub returns-then-old-sort : goal.returns-then-old-sort
returns-then-old-sort c =
    let a = c.args in
    let h : a.count ≤ length a.variables.now = omega arith in
    let (e, l) = variable_some a.text.now a.variables.now a.count h (name_of a.text.now (column a.row 0) (column a.row 1) (column a.row 2)) c.in-Some.index c.in-Some.ensures in
    record {
      grew = omega arith;
      variables_after = sort_other a.text.now a.variables.now a.count h _ a.sort c.in-Some.index e l refl c.if-old-ne0.true c.if-sort-ne0.true c.if-old-sort.true;
      entry_placed = tt;
    }

pub returns-then-count-lt-VARIABLES : goal.returns-then-count-lt-VARIABLES
returns-then-count-lt-VARIABLES c =
    let a = c.args in
    let h : a.count ≤ length a.variables.now = omega arith in
    let l = variable_none a.text.now a.variables.now a.count h (name_of a.text.now (column a.row 0) (column a.row 1) (column a.row 2)) c.in-None.ensures in
    record {
      grew = (omega arith, omega arith, omega arith);
      variables_after = var_new a.text.now a.variables.now a.count h _ a.sort _ refl l c.if-count-lt-VARIABLES.true (omega arith) (column a.row 0) (column a.row 1) (column a.row 2) refl;
      entry_placed = placed_new a.variables.now a.count (column a.row 0) (column a.row 1) (column a.row 2) a.sort (omega arith);
    }

pub returns-else-count-lt-VARIABLES : goal.returns-else-count-lt-VARIABLES
returns-else-count-lt-VARIABLES c =
    let a = c.args in
    let h : a.count ≤ length a.variables.now = omega arith in
    let l = variable_none a.text.now a.variables.now a.count h (name_of a.text.now (column a.row 0) (column a.row 1) (column a.row 2)) c.in-None.ensures in
    record {
      grew = omega arith;
      variables_after = var_full a.text.now a.variables.now a.count h _ a.sort _ refl l c.if-count-lt-VARIABLES.false;
      entry_placed = tt;
    }
