-- A symbol on values: one law for each way out.
use Prim.Native.Nat.{ℕ, suc, ◌+◌, ◌-◌, ◌<◌}
use native.Mathlib.Omega.{arith}
use mathlib.Core.Path.{◌≡◌, refl, sym, ap, ◌∙◌, subst}
use mathlib.Core.Bool.{Bool, true, false, cond, ◌&&◌}
use mathlib.Core.List.{List}
use lib.Dec.{eqb}
use lib.ListN.{length, get_or}
use borrow.Author.Tests.{eq-eqb, ne_eqb}
use Rattle.std.proofs.Math.Bool.{and-false}
use Rattle.terms.specs.Term.{Terms}
use Rattle.terms.specs.Term.Kind.{one as single, many as several}
use Rattle.term_parser.specs.Source.{one}
use Rattle.names.specs.Symbols.{Rows, Symbol, column, row_at, symbol_of, symbols_of, symbol_at}
use Rattle.names.specs.SearchLaws.{columns_length}
use Rattle.patterns.specs.Patterns.{when}
use Rattle.resolution.specs.Rules.{Rule, Tree, leaf, ◌◂◌, joined}
use Rattle.rules.specs.PatternLaws.{arities_of}
use Rattle.tree_rows.specs.Trees.{Lists}
use Rattle.tree_rows.proofs.TreeLaws.{lists_one}
use Rattle.evaluation.specs.Matching.{Built, barred, built, build_node}
use Rattle.evaluation.specs.Calls.{Spent, Called, refused, returned, call_of}
use Rattle.evaluation.specs.Expressions.{Evaluated, failed, evaluated, misuse, behind, around, apply_of}
use Rattle.clause_matching.specs.Choice.{values_of}
use Rattle.function_calls.specs.Calls.{outcome, TreesListed, Answers, CallAsked, CallAnswered}
use Rattle.std.specs.Prelude.{Result, Err}
use Rattle.refusals.specs.declared.Refusal.{Refusal}
use Rattle.clause_matching.specs.Building.{built_at}
use Rattle.clause_matching.specs.declared.building.Built.{Built as Made}
use Rattle.function_calls.specs.declared.calls.Outcome.{Outcome}
use Rattle.expressions.specs.Nodes.{BuildAnswered}
use Rattle.expressions.specs.Applying.{Tables, ApplyAsked, Concludes, ApplyAnswered}
use Rattle.forward_calls.proofs.Tables.{symbols_length, function_at, arity_at_lem}
use Rattle.expressions.proofs.Forming.{arity_within, arity_known, denied_worth, made_worth, used_worth}
use Rattle.expressions.proofs.Building.{built_is, built_barred}

-- What a symbol is refused for, by its row.
module _ (text row : List ℕ) (k : ℕ) where
  abbrev mark : ℕ
  mark = column row 3

  abbrev out : ℕ
  out = column row 2

  abbrev wanted : ℕ
  wanted = column row 6 - mark

  in_numbers : misuse (symbol_of text row) k ≡ cond (eqb mark 0 && eqb out 0) 32 (cond (eqb k wanted) 0 21)
  unfolding symbol_of
  in_numbers = rw (columns_length row 8 (column row 6))

  pub misuse_predicate : mark ≡ 0 → out ≡ 0 → misuse (symbol_of text row) k ≡ 32
  misuse_predicate a b = in_numbers ∙ rw (eq-eqb mark 0 a, eq-eqb out 0 b)

  pub no_function : (mark ≡ 0 → ⊥) → (eqb mark 0 && eqb out 0) ≡ false
  no_function a = rw (ne_eqb mark 0 a)

  pub no_predicate : (out ≡ 0 → ⊥) → (eqb mark 0 && eqb out 0) ≡ false
  no_predicate a = rw (ne_eqb out 0 a) (and-false (eqb mark 0))

  module _ (e : (eqb mark 0 && eqb out 0) ≡ false) where
    pub misuse_count : (wanted ≡ k → ⊥) → misuse (symbol_of text row) k ≡ 21
    misuse_count d = in_numbers ∙ rw (e, ne_eqb k wanted (λ q. d (sym q)))

    pub misuse_none : wanted ≡ k → misuse (symbol_of text row) k ≡ 0
    misuse_none d = in_numbers ∙ rw (e, eq-eqb k wanted (sym d))

-- Trees in front of those of a value.
abbrev pub prefixed : Tree several → Evaluated one → Evaluated one
prefixed ps (failed e) = failed e
prefixed ps (evaluated v qs c) = evaluated v (joined ps qs) c

pub joined_nothing : (ps : Tree several) → joined ps leaf ≡ ps
joined_nothing leaf = refl
joined_nothing (p ◂ ps) = ap (λ (x : Tree several). p ◂ x) (joined_nothing ps)

behind_prefixed : (ps : Tree several) (o : Called) → behind ps o ≡ prefixed ps (behind leaf o)
behind_prefixed ps (refused e) = refl
behind_prefixed ps (returned v p c) = refl

around_prefixed : (ps : Tree several) (calls : ℕ) (b : Built single) → around ps calls b ≡ prefixed ps (around leaf calls b)
around_prefixed ps calls (barred e) = refl
around_prefixed ps calls (built t used) = ap (λ (x : Tree several). evaluated t x (record { calls = calls; words = used }))
    (sym (joined_nothing ps))

either_prefixed : (b : Bool) (ps : Tree several) (o : Called) (calls : ℕ) (m : Built single)
    → when b (λ _. behind ps o) (λ _. around ps calls m) ≡ prefixed ps (when b (λ _. behind leaf o) (λ _. around leaf calls m))
either_prefixed true ps o calls m = behind_prefixed ps o
either_prefixed false ps o calls m = around_prefixed ps calls m

-- The trees of the arguments stand in front of that of the symbol's own call.
pub apply_prefixed : (limit : ℕ) (S : List Symbol) (rules : List Rule) (i depth : ℕ) (vs : Terms) (ps : Tree several) (c : Spent)
    → apply_of limit S rules i depth (evaluated vs ps c) ≡ prefixed ps (apply_of limit S rules i depth (evaluated vs leaf c))
apply_prefixed limit S rules i depth vs ps c =
    either_prefixed (eqb (symbol_at S i).function 1) ps (call_of limit S rules (128 - depth) i vs c) c.calls
    (build_node limit i vs c.words)

-- What a call answers, as an expression.
call_concludes : (r : Result Outcome Refusal) (words : List ℕ) (trees : Rows) (words' : List ℕ) (trees' : Rows) (used limit calls : ℕ) (o : Called)
    → Answers o r words trees words' trees' used limit calls 1 → Concludes (behind leaf o) r words trees words' trees' used limit calls
call_concludes r words trees words' trees' used limit calls (refused e) h = h
call_concludes r words trees words' trees' used limit calls (returned v p c) (x, e, s, t) =
    (x, e, s, record { lists = lists_one 0 0 words' c.words trees' calls 1 p c.calls t.lists; before = t.before })

-- No rows for no trees.
pub none_listed : (trees : Rows) (words : List ℕ) (c : Spent) → TreesListed trees c.calls 1 words trees leaf c
unfolding Lists
none_listed trees words c = record { lists = refl; before = λ j l. refl }

module _ {symbol_rows rule_rows : Rows} {pattern : List ℕ} {i : ℕ} {values : List ℕ} {depth calls used limit : ℕ} {words links : List ℕ}
    {trees stack : Rows}
    (h : ApplyAsked symbol_rows rule_rows pattern i values depth calls used limit words links trees stack) where
  pub symbol_inside : i < length symbol_rows
  symbol_inside = let a = h.known in let b = h.tables.lent in omega arith

  -- A function.
  module _ (f : column (row_at symbol_rows i) 3 ≡ 1) where
    inputs : (text : List ℕ) (count size : ℕ) (rules : List Rule) → Tables text symbol_rows count rule_rows pattern size rules → i < count
        → suc (length values) ≡ length (symbol_at (symbols_of text symbol_rows count) i).inputs
    inputs text count size rules T l = let a = arity_at_lem text symbol_rows count T.lent i l in let b = h.arguments in omega arith

    pub call_asked : CallAsked symbol_rows rule_rows pattern i values (depth + 1) 1 calls used limit words links trees stack
    call_asked =
        let d = h.deep in let k = h.known in let s = h.spent in
        let n = symbols_length h.text symbol_rows h.count h.tables.lent in
        record {
          size = h.size;
          symbols = symbols_of h.text symbol_rows h.count;
          rules = h.rules;
          program = h.tables.program;
          known = omega arith;
          inputs = inputs h.text h.count h.size h.rules h.tables h.known;
          working = h.working;
          roots = h.roots;
          deep = omega arith;
          spent = omega arith;
        }

    pub called : {r : Result Outcome Refusal} {words' links' : List ℕ} {trees' : Rows}
        → CallAnswered symbol_rows rule_rows pattern i values (depth + 1) 1 calls used limit words links trees r words' links' trees'
        → ApplyAnswered symbol_rows rule_rows pattern i values depth calls used limit words links trees r words' links' trees'
    called {r} {words'} {links'} {trees'} g = record {
      says = λ text count size rules T l.
          let n = symbols_length text symbol_rows count T.lent in
          let k : i < length (symbols_of text symbol_rows count) = omega arith in
          let S : List Symbol = symbols_of text symbol_rows count in
          let e : 129 - (depth + 1) ≡ 128 - depth = omega arith in
          let o : Called = call_of limit S rules (128 - depth) i (values_of words values) (record { calls = calls; words = used }) in
          let a = g.says size S rules T.program k (inputs text count size rules T l) in
          let z : apply_of limit S rules i depth (evaluated (values_of words values) leaf (record { calls = calls; words = used }))
          ≡ behind leaf o =
          rw (function_at text symbol_rows count T.lent i l, eq-eqb (column (row_at symbol_rows i) 3) 1 f) in
          subst (λ (x : Evaluated one). Concludes x r words trees words' trees' used limit calls) (sym z)
          (call_concludes r words trees words' trees' used limit calls o (rw e at a));
      forms = λ text count size rules T l. g.forms (arities_of (symbols_of text symbol_rows count));
      spends = g.spends;
      kept = g.kept;
      restored = g.restored;
    }

  -- A constructor.
  module _ (f : column (row_at symbol_rows i) 3 ≡ 1 → ⊥) where
    module _ {made : Result Made Refusal} {words' : List ℕ} (g : BuildAnswered words used limit i values made words') where
      abbrev Says : Result Outcome Refusal → Type 0
      Says r = ApplyAnswered symbol_rows rule_rows pattern i values depth calls used limit words links trees r words' links trees

      node_is : (text : List ℕ) (count size : ℕ) (rules : List Rule) → Tables text symbol_rows count rule_rows pattern size rules → i < count
          → apply_of limit (symbols_of text symbol_rows count) rules i depth
          (evaluated (values_of words values) leaf (record { calls = calls; words = used }))
          ≡ around leaf calls (build_node limit i (values_of words values) used)
      node_is text count size rules T l = rw (function_at text symbol_rows count T.lent i l, ne_eqb (column (row_at symbol_rows i) 3) 1 f)

      own : (text : List ℕ) (count size : ℕ) (rules : List Rule) → Tables text symbol_rows count rule_rows pattern size rules → i < count
          → get_or (arities_of (symbols_of text symbol_rows count)) i 0 ≡ length values
      own text count size rules T l =
          let a = arity_known text symbol_rows count T.lent i l in let b = h.arguments in let m = T.marks i l in
          omega (arith, f)

      pub not_built : {x : Refusal} → made ≡ Err x → Says (Err x)
      not_built {x} q = record {
        says = λ text count size rules T l.
            let b = built_barred words words' used limit (build_node limit i (values_of words values) used) g.tells q in
            subst (λ (o : Evaluated one). Concludes o (Err x) words trees words' trees used limit calls)
            (sym (node_is text count size rules T l ∙ ap (around leaf calls) b)) refl;
        forms = λ text count size rules T l d e v c u w. denied_worth w;
        spends = λ v c u w. denied_worth w;
        kept = g.kept;
        restored = refl;
      }

      pub is_built : {value after : ℕ} → made ≡ built_at value after → Says (outcome value calls after)
      is_built {value} {after} q = record {
        says = λ text count size rules T l.
            let (t, b, s) = built_is (build_node limit i (values_of words values) used) g.tells q in
            subst (λ (x : Evaluated one). Concludes x (outcome value calls after) words trees words' trees used limit calls)
            (sym (node_is text count size rules T l ∙ ap (around leaf calls) b))
            (value, refl, s, none_listed trees words' (record { calls = calls; words = after }));
        forms = λ text count size rules T l d e v c u w.
            rw (used_worth w) (g.forms (arities_of (symbols_of text symbol_rows count)) (arity_within text symbol_rows count T.lent i l)
            (own text count size rules T l) e value after q);
        spends = λ v c u w.
            let (t, b, s) = built_is (build_node limit i (values_of words values) used) g.tells q in
            let g = s.grows in let m = made_worth w in let n = used_worth w in omega arith;
        kept = g.kept;
        restored = refl;
      }
