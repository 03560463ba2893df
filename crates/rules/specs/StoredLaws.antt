-- Laws of kept rules: a row that keeps a rule is a stored rule in form (crates/attempts), and stays one when words are written behind it.
use Rattle.std.specs.Prelude.{ℕ, ◌+◌, ◌-◌, ◌≤◌, ◌≡◌, List, length}
use Rattle.std.proofs.Common.{arith, sym, subst}
use Rattle.terms.specs.Term.{Below}
use Rattle.arena.specs.Cells.{Same, cells}
use Rattle.arena.specs.Copies.{pattern_room}
use Rattle.resolution.specs.Rules.{Rule}
use Rattle.names.specs.Symbols.{column}
use Rattle.names.specs.SearchLaws.{columns_length}
use Rattle.attempts.specs.StoredRules.{StoredRule}
use Rattle.attempts.specs.declared.Stored.{Stored}
use Rattle.rules.specs.LayingLaws.{stored_as, stored_rule, rule_same}
use Rattle.rules.specs.StoredRows.{heads_in, places_in, stored_in, Kept}

module _ {text arities words row : List ℕ} {R : Rule} {u u' : ℕ} (kept : Kept text arities words row R u u') where
  -- The record that the row holds is the one of its terms.
  same_record : stored_as R u (u + column row 7) (column row 5) u' ≡ stored_in row
  same_record =
      let a = kept.from in
      let b = kept.to in
      let h : u' - (u + column row 7) ≡ column row 8 = omega arith in
      let d : u + column row 7 - u ≡ column row 7 = omega arith in
      let m = kept.meets in
      let v = kept.variables in
      let f : u ≡ column row 6 = sym a in
      cc

  -- A row that keeps a rule is a stored rule in form, where the rule's variables are those that it counts.
  pub kept_stored : Below (column row 3) R.premises → Below (column row 3) R.conclusion → StoredRule words (heads_in row) (places_in row) (stored_in row)
  kept_stored b c =
      subst (λ (s : Stored). StoredRule words (heads_in row) (places_in row) s) same_record
      (stored_rule kept.lying (places_in row) (column row 3) (rw (columns_length row 90 (column row 3)) (omega arith)) b c kept.placed)

  -- Words written behind it change nothing.
  pub kept_same : {words' : List ℕ} → Same pattern_room (cells words) (cells words') u' → u' ≤ length words' → Kept text arities words' row R u u'
  kept_same {words'} s l =
      record {
        named = kept.named;
        sorted = kept.sorted;
        lying = rule_same s l kept.lying;
        from = kept.from;
        to = kept.to;
        meets = kept.meets;
        variables = kept.variables;
        few = kept.few;
        placed = kept.placed;
        premises = kept.premises;
        heads_clear = kept.heads_clear;
        sorts_clear_lem = kept.sorts_clear_lem;
        places_clear = kept.places_clear;
      }
