-- The symbols in use, lent alone: what an expression asks and answers over the whole table, it asks and answers over them.
use Prim.Native.Nat.{ℕ, ◌+◌, ◌≤◌, ◌<◌}
use native.Mathlib.Omega.{arith}
use mathlib.Core.Path.{◌≡◌, sym, ap, ◌∙◌, subst}
use mathlib.Core.List.{List, []}
use lib.ListN.{length, take}
use Rattle.std.proofs.Common.{get_or-take, length-take-le}
use Rattle.std.specs.Prelude.{Result}
use Rattle.names.specs.Symbols.{Rows, Symbol, column, row_at, symbols_of}
use Rattle.resolution.specs.Rules.{Rule}
use Rattle.rules.specs.PatternLaws.{arities_of}
use Rattle.signature.proofs.UsedLaws.{symbols_used}
use Rattle.evaluation.specs.Expressions.{expression_of}
use Rattle.clause_matching.specs.Stored.{Headed, Formed}
use Rattle.function_calls.specs.Calls.{Program}
use Rattle.forward_calls.proofs.Tables.{symbols_length}
use Rattle.expressions.specs.Applying.{Tables}
use Rattle.expressions.specs.Terms.{ExpressionAsked, Evaluates, ExpressionAnswered}
use Rattle.expressions.specs.declared.written.Expressed.{Expressed}
use Rattle.refusals.specs.declared.Refusal.{Refusal}

module _ (text : List ℕ) (S : Rows) (n : ℕ) (h : n ≤ length S) where
  abbrev part : Rows
  part = take n S

  part_length : length part ≡ n
  part_length = length-take-le n S h

  part_row : (i : ℕ) → i < n → row_at part i ≡ row_at S i
  part_row i l = get_or-take n S i [] l

  part_symbols : symbols_of text part (length part) ≡ symbols_of text S n
  part_symbols = symbols_used S n h text

  module _ {R : Rows} {P : List ℕ} {size : ℕ} {rules : List Rule} where
    part_program : (F : List Symbol) → length F ≤ n → Program S R P size F rules → Program part R P size F rules
    part_program F few p = record {
      few = (let l = part_length in omega arith);
      limited = p.limited;
      lent = p.lent;
      small = p.small;
      first = λ f l. p.first f l ∙ ap (λ (r : List ℕ). column r 4) (sym (part_row f (omega arith)));
      clauses = λ f l. p.clauses f l ∙ ap (λ (r : List ℕ). column r 5) (sym (part_row f (omega arith)));
      within = λ f l. subst (λ (r : List ℕ). column r 4 + column r 5 ≤ length rules) (sym (part_row f (omega arith))) (p.within f l);
      clause = λ f i m l e a b.
          let r : row_at part f ≡ row_at S f = part_row f (omega arith) in
          p.clause f i m l e (subst (λ (x : List ℕ). column x 4 ≤ i) r a) (subst (λ (x : List ℕ). i < column x 4 + column x 5) r b);
    }

    part_tables : Tables text S n R P size rules → Tables text part (length part) R P size rules
    part_tables t =
        let l = part_length in
        let f = t.few in
        let c : length (symbols_of text S n) ≡ n = symbols_length text S n h in
        record {
          program = subst (λ (F : List Symbol). Program part R P size F rules) (sym part_symbols) (part_program (symbols_of text S n) (omega arith) t.program);
          lent = omega arith;
          few = omega arith;
          inputs = λ i k. subst (λ (r : List ℕ). column r 6 ≤ 16) (sym (part_row i (omega arith))) (t.inputs i (omega arith));
          marks = λ i k. subst (λ (r : List ℕ). column r 3 ≤ 1) (sym (part_row i (omega arith))) (t.marks i (omega arith));
          results = λ i k. subst (λ (r : List ℕ). column r 3 ≤ column r 6) (sym (part_row i (omega arith))) (t.results i (omega arith));
        }

  module _ {rows : Rows} {at : ℕ} {R : Rows} {P : List ℕ} {depth calls used limit : ℕ} {words links : List ℕ} {trees : Rows} where
    pub part_asked : {stack : Rows} → ExpressionAsked text rows at S n R P depth calls used limit words links trees stack
        → ExpressionAsked text rows at part (length part) R P depth calls used limit words links trees stack
    part_asked a = record {
      wide = a.wide;
      rules = a.rules;
      tables = part_tables a.tables;
      term = a.term;
      next = a.next;
      stands = a.stands;
      working = a.working;
      deep = a.deep;
      spent = a.spent;
    }

    pub part_answered : {r : Result Expressed Refusal} {words' links' : List ℕ} {trees' : Rows}
        → ExpressionAnswered text rows at part (length part) R P depth calls used limit words links trees r words' links' trees'
        → ExpressionAnswered text rows at S n R P depth calls used limit words links trees r words' links' trees'
    part_answered {r} {words'} {links'} {trees'} a = record {
      says = λ wide rules T t q s sorts.
          subst (λ (F : List Symbol). Evaluates (expression_of limit F rules t sorts depth (record { calls = calls; words = used }))
          q r words trees words' trees' used limit calls) part_symbols (a.says wide rules (part_tables T) t q s sorts);
      forms = λ d f v m c u e.
          subst (λ (F : List Symbol). Formed (arities_of F) words' u) part_symbols
          (a.forms (subst (λ (F : List Symbol). Headed (arities_of F) P) (sym part_symbols) d)
          (subst (λ (F : List Symbol). Formed (arities_of F) words used) (sym part_symbols) f) v m c u e);
      spends = a.spends;
      kept = a.kept;
      restored = a.restored;
    }
