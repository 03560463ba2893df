-- Laws of the whole test: the steps hold exactly where the row and the words are in form.
use mathlib.Core.Path.{◌≡◌, refl, sym, ap, ◌∙◌}
use mathlib.Core.Bool.{true}
use mathlib.Core.List.{List, [], ◌∷◌}
use Prim.Native.Nat.{ℕ, zero, suc, ◌+◌, ◌≤◌, ◌<◌}
use native.Mathlib.Omega.{arith}
use lib.ListN.{length, get_or}
use Rattle.terms.specs.Term.{Term}
use Rattle.arena.specs.Cells.{headers, WellFormed, reference_up, cells, terms_of}
use Rattle.arena.specs.Copies.{pattern_room}
use Rattle.arena.specs.Form.{is_argument}
use Rattle.arena.specs.FormLaws.{argument_reference, reference_accepted}
use Rattle.meeting.specs.Contract.{term_of}
use Rattle.resolution.specs.Search.{words}
use Rattle.names.specs.Symbols.{column, columns}
use Rattle.names.specs.SearchLaws.{columns_length, columns_at}
use Rattle.rules.specs.LayingLaws.{RuleLying, lying_form}
use Rattle.rules.specs.CountLaws.{all_count, all_met, all_below}
use Rattle.rules.specs.StoredRows.{heads_in}
use Rattle.rule_checks.specs.RuleForm.{rule_in, RuleListed, RuleCheckable, RuleChecked}
use Rattle.rule_checks.specs.Steps.{Numbers, Columns, place_from, Roots, Parts, Walkable, TermAsked, OrderAsked, premises_of, conclusion_of, InOrder, InPlaces}
use Rattle.std.specs.Prelude.{Some, None}
use Rattle.rule_checks.proofs.LyingLaws.{part_formed, part_lying}

-- A premise takes no more words than all.
words_one : (g : ℕ → Term) (row : List ℕ) (a n j : ℕ) → j < n → words (g (column row (a + j))) ≤ words (terms_of g (columns row a n))
unfolding columns
words_one g row a zero j l = absurd (omega arith)
words_one g row a (suc n) zero l = let e : a + 0 ≡ a = omega arith in rw e (omega arith)
words_one g row a (suc n) (suc j) l = let e : a + suc j ≡ suc a + j = omega arith in let h = words_one g row (suc a) n j (omega arith) in rw e (omega arith)

-- What the walks ask of each term.
module _ {pattern : List ℕ} {u m end : ℕ} {row : List ℕ} (w : Walkable pattern end row) (a : OrderAsked u m end row) (o : InOrder pattern u row) where
  pub conclusion_asked : TermAsked pattern (column row 5)
  conclusion_asked =
      let h = o.head in
      let s = a.small in
      record { end = end; within = w.within; low = w.low; formed = w.formed; root = w.root; small = omega arith }

  pub premise_asked : (j : ℕ) → j < column row 4 → TermAsked pattern (column row (10 + j))
  premise_asked j l =
      let h = o.body in
      let s = a.small in
      let b = words_one (term_of pattern) row 10 (column row 4) j l in
      record { end = end; within = w.within; low = w.low; formed = w.formed; root = w.roots j l; small = omega arith }

module _ (text arities pattern : List ℕ) (sorts used : ℕ) (row : List ℕ) (u : ℕ) where
  -- Answers

  pub checked_bad : ((next : ℕ) → RuleListed text arities pattern sorts used row u next → ⊥) → RuleChecked text arities pattern sorts used row u None
  checked_bad f = record { sound = λ next q. absurd (let z : ◌≡◌ {A = ℕ} 0 1 = cc in omega arith); complete = λ next l. absurd (f next l) }

  -- A rule that is listed

  module _ {next : ℕ} (h : RuleListed text arities pattern sorts used row u next) where
    pub listed_numbers : Numbers text used u row
    listed_numbers =
        let t = h.kept.to in
        let w = h.within in
        record {
          named = h.formed.named;
          variables = h.kept.few;
          premises = h.kept.premises;
          from = h.kept.from;
          within = omega arith;
          small = h.formed.small;
        }

    pub listed_columns : Columns sorts row
    listed_columns = record { heads_clear = h.kept.heads_clear; sorts_clear_lem = h.kept.sorts_clear_lem; places_clear = h.kept.places_clear; sorted = h.formed.sorted }

    listed_roots : Roots pattern u (u + column row 7) row
    listed_roots j l =
        let p = h.kept.lying.premises in
        let e = columns_at row 10 (column row 4) j l in
        let n = columns_length row 10 (column row 4) in
        let k : j < length (heads_in row) = omega arith in
        let r = p.reference j k in
        let f = p.new j k in
        reference_accepted (place_from pattern u) (u + column row 7) (column row (10 + j)) (rw e at r) (rw e at f)

    pub listed_parts : Parts arities pattern u (u + column row 7) (u + column row 7 + column row 8) row
    listed_parts =
        let p = h.kept.lying.premises in
        let c = h.kept.lying.conclusion in
        rw h.kept.to (record {
          premises = lying_form p pattern_room p.below;
          roots = listed_roots;
          conclusion = lying_form c pattern_room c.below;
          root = reference_accepted (place_from pattern (u + column row 7)) next (column row 5) (c.reference 0 (omega arith)) (c.new 0 (omega arith));
        })

    pub listed_order : InOrder pattern u row
    listed_order =
        let p = h.kept.lying.premises in
        let c = h.kept.lying.conclusion in
        let a = p.used in
        let b = c.used in
        let t = h.kept.to in
        record { body = omega arith; listed = p.variable; head = omega arith; order = h.formed.order }

    pub listed_places : InPlaces pattern u row
    listed_places =
        let c = h.kept.lying.conclusion in
        let t = h.kept.to in
        record {
          meets = h.kept.meets;
          listed = λ a l m v. c.variable a l (omega arith) v;
          placed = λ x l. sym (columns_at row 90 (column row 3) x l) ∙ h.kept.placed x (all_met (rule_in text pattern row) (column row 3) h.formed.order x l);
        }

  -- The steps

  module _ (asked : RuleCheckable pattern used u) (n : Numbers text used u row) where
    middle_low : pattern_room + (u + column row 7) ≤ headers
    middle_low = let w = n.within in let f = asked.few in omega arith

    end_low : pattern_room + (u + column row 7 + column row 8) ≤ headers
    end_low = let w = n.within in let f = asked.few in omega arith

    middle_long : u + column row 7 ≤ length pattern
    middle_long = let w = n.within in let f = asked.lent in omega arith

    end_long : u + column row 7 + column row 8 ≤ length pattern
    end_long = let w = n.within in let f = asked.lent in omega arith

    pub order_asked : OrderAsked u (u + column row 7) (u + column row 7 + column row 8) row
    order_asked = record { middle = refl; last = refl; small = n.small; variables = n.variables }

    module _ (p : Parts arities pattern u (u + column row 7) (u + column row 7 + column row 8) row) where
      formed_middle : WellFormed pattern_room (cells pattern) pattern_room (u + column row 7)
      formed_middle = part_formed arities pattern u (u + column row 7) (omega arith) middle_long middle_low asked.before p.premises

      pub walkable : Walkable pattern (u + column row 7 + column row 8) row
      walkable =
          record {
            within = end_long;
            low = end_low;
            formed = part_formed arities pattern (u + column row 7) (u + column row 7 + column row 8) (omega arith) end_long end_low formed_middle p.conclusion;
            premises = n.premises;
            roots = λ j l. reference_up pattern_room (omega arith) (omega arith) (argument_reference (place_from pattern u) (u + column row 7) (column row (10 + j)) (p.roots j l));
            root = argument_reference (place_from pattern (u + column row 7)) (u + column row 7 + column row 8) (column row 5) p.root;
          }

      -- The terms lie in the words,
      module _ (o : InOrder pattern u row) (q : InPlaces pattern u row) where
        premise_root : (i : ℕ) → i < length (heads_in row) → is_argument (place_from pattern u) (u + column row 7) (get_or (heads_in row) i 0) ≡ true
        premise_root i l =
            let k = columns_length row 10 (column row 4) in
            let b : i < column row 4 = omega arith in
            rw (columns_at row 10 (column row 4) i b) (p.roots i b)

        conclusion_root : (i : ℕ) → i < 1 → is_argument (place_from pattern (u + column row 7)) (u + column row 7 + column row 8) (get_or (column row 5 ∷ []) i 0) ≡ true
        conclusion_root i l = let e : i ≡ 0 = omega arith in rw e p.root

        rule_lying : RuleLying arities (rule_in text pattern row) pattern u (heads_in row) (u + column row 7) (column row 5) (u + column row 7 + column row 8)
        rule_lying =
            let b = o.body in
            let c = o.head in
            record {
              premises = part_lying arities pattern u (u + column row 7) (omega arith) middle_long middle_low asked.before p.premises
                  (premises_of pattern row) (heads_in row) refl premise_root (omega arith) o.listed;
              conclusion = part_lying arities pattern (u + column row 7) (u + column row 7 + column row 8) (omega arith) end_long end_low formed_middle p.conclusion
                  (conclusion_of pattern row) (column row 5 ∷ []) refl conclusion_root (omega arith) q.listed;
            }

        -- and the rule is listed.
        pub rule_listed : Columns sorts row → RuleListed text arities pattern sorts used row u (u + column row 7 + column row 8)
        rule_listed c =
            record {
              kept = record {
                named = refl;
                sorted = refl;
                lying = rule_lying;
                from = n.from;
                to = refl;
                meets = q.meets;
                variables = sym (all_count (rule_in text pattern row) (column row 3) o.order);
                few = n.variables;
                placed = λ x e. let l = all_below (rule_in text pattern row) (column row 3) o.order x e in
                    columns_at row 90 (column row 3) x l ∙ q.placed x l;
                premises = n.premises;
                heads_clear = c.heads_clear;
                sorts_clear_lem = c.sorts_clear_lem;
                places_clear = c.places_clear;
              };
              formed = record { named = n.named; sorted = c.sorted; order = o.order; small = n.small };
              within = n.within;
            }

        pub checked_good : Columns sorts row → RuleChecked text arities pattern sorts used row u (Some (u + column row 7 + column row 8))
        checked_good c =
            record {
              sound = λ next e. let s : u + column row 7 + column row 8 ≡ next = cc in rw s at (rule_listed c);
              complete = λ next l. ap Some l.kept.to;
            }
