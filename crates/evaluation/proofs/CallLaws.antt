-- An induction over calls, and one over written terms: what each step keeps holds of every tree that comes back, with what was spent
-- before and after it. Spending is all that a step is known by: building takes words, and a call is counted before its premises.
-- The definitions that it speaks of are in specs/CallLaws.
use Prim.Native.Nat.{ℕ, zero, suc, ◌+◌, ◌-◌, ◌<◌}
use Rattle.std.proofs.Common.{arith, ltb-true, ltb-false}
use Rattle.std.specs.Prelude.{◌&&◌, eqb, ltb, length}
use Rattle.std.proofs.Math.Option.{Option, none, some}
use mathlib.Core.List.{List, []}
use Rattle.terms.specs.Numbers.{by_bool}
use Rattle.terms.specs.Term.{Kind, Syn, var, app, nil, cons, Term, Terms, count}
use Rattle.terms.specs.Term.Kind.{one as single, many as several}
use Rattle.terms.specs.Bindings.{Bindings, start, lookup}
use Rattle.term_parser.specs.Source.{Arity, one, many}
use Rattle.term_parser.specs.Standing.{Written, number, meta, called, applied, nil as nothing, cons as more, size}
use Rattle.names.specs.Names.{Name}
use Rattle.names.specs.Symbols.{Symbol, symbol_number, symbol_at}
use Rattle.patterns.specs.Patterns.{when, is_ctor, zero_name, succ_name, first, rest}
use Rattle.resolution.specs.Rules.{Rule, rule_at_lem, Tree, leaf, ◌◂◌, joined}
use Rattle.evaluation.specs.Matching.{Fitted, misfit, fitted, bind_of, Built, barred, built, if_built, build_node, value_of}
use Rattle.evaluation.specs.Matching.{instantiate_of, front, last}
use Rattle.evaluation.specs.Calls.{Spent, Called, refused, returned, Walked, stopped, walked, if_called, if_result, if_arguments}
use Rattle.evaluation.specs.Calls.{under_first, premises_of, concluded_by, concluded, patterns_of, taken_or, tried, clauses_of}
use Rattle.evaluation.specs.Calls.{max_calls, call_of}
use Rattle.evaluation.specs.Expressions.{max_depth, Evaluated, failed, evaluated, if_evaluated, sort_in, misuse, unless, behind}
use Rattle.evaluation.specs.Expressions.{around, within, tower_of, numeral_misuse, numeral_of, apply_of, with_symbol, expression_of}
use Rattle.evaluation.specs.CallLaws.{Evaluating, Growing, Grown, KeptByCalls, KeptByTerms, Returning, with_call, with_words}

pub grown_none : (limit used : ℕ) → Grown limit used used
grown_none limit used = record { grows = omega arith; fits = λ l. l }

pub grown_on : {limit a b c : ℕ} → Grown limit a b → Grown limit b c → Grown limit a c
grown_on g h = let l = g.grows in let m = h.grows in record { grows = omega arith; fits = λ k. h.fits (g.fits k) }

growing_on : {s : Kind} (limit a b : ℕ) (o : Built s) → Grown limit a b → Growing limit b o → Growing limit a o
growing_on limit a b (barred e) g h = tt
growing_on limit a b (built t u) g h = grown_on g h

then_grows : {s r : Kind} (limit used : ℕ) (o : Built s) (next : Syn s → ℕ → Built r) → Growing limit used o
    → ((t : Syn s) (u : ℕ) → Growing limit u (next t u)) → Growing limit used (if_built o next)
then_grows limit used (barred e) next g h = tt
then_grows limit used (built t u) next g h = growing_on limit used u (next t u) g (h t u)

pub node_grows : (limit f : ℕ) (ts : Terms) (used : ℕ) → Growing limit used (build_node limit f ts used)
node_grows limit f ts used = by_bool (ltb limit (used + suc (count ts)))
    (λ e. rw e tt)
    (λ e. rw e (let l = ltb-false limit (used + suc (count ts)) e in record { grows = omega arith; fits = λ k. l }))

value_grows : (limit used : ℕ) (o : Option Term) → Growing limit used (value_of o used)
value_grows limit used none = tt
value_grows limit used (some t) = grown_none limit used

pub instantiate_grows : {s : Kind} (limit : ℕ) (β : Bindings) (p : Syn s) (used : ℕ) → Growing limit used (instantiate_of limit β p used)
unfolding instantiate_of
instantiate_grows limit β (var x) used = value_grows limit used (lookup β x)
instantiate_grows limit β (app f ps) used =
    then_grows limit used (instantiate_of limit β ps used) (λ ts u. build_node limit f ts u) (instantiate_grows limit β ps used)
    (λ ts u. node_grows limit f ts u)
instantiate_grows limit β nil used = grown_none limit used
instantiate_grows limit β (cons p ps) used =
    then_grows limit used (instantiate_of limit β p used) (λ t u. if_built (instantiate_of limit β ps u) (λ ts v. built (cons t ts) v))
    (instantiate_grows limit β p used)
    (λ t u. then_grows limit u (instantiate_of limit β ps u) (λ ts v. built (cons t ts) v) (instantiate_grows limit β ps u)
    (λ ts v. grown_none limit v))

abbrev Walking : (Spent → Tree several → Spent → Type 0) → Spent → Walked → Type 0
Walking Q c (stopped e) = Unit {0}
Walking Q c (walked β ps d) = Q c ps d

module _ (limit : ℕ) (symbols : List Symbol) (rules : List Rule) (P : ℕ → Spent → Tree single → Spent → Type 0)
    (Q : ℕ → Spent → Tree several → Spent → Type 0)
    (kept : KeptByCalls limit P Q) where
  module _ (n : ℕ) (call : ℕ → Terms → Spent → Called) (keeps : (g : ℕ) (vs : Terms) (c : Spent) → Returning (P n) c (call g vs c)) where
    first_keeps : (c d : Spent) (used : ℕ) (p : Tree single) (o : Walked) → Grown limit c.words used → P n (with_words c used) p d
        → Walking (Q n) d o
        → Walking (Q n) c (under_first p o)
    first_keeps c d used p (stopped e) g h k = tt
    first_keeps c d used p (walked β ps e) g h k = kept.next n c d e used p ps g h k

    result_keeps : (c d : Spent) (used : ℕ) (p : Tree single) (o : Fitted) (next : Bindings → Walked) → Grown limit c.words used
        → P n (with_words c used) p d
        → ((γ : Bindings) → Walking (Q n) d (next γ)) → Walking (Q n) c (if_result o (λ γ. under_first p (next γ)))
    result_keeps c d used p misfit next g h k = tt
    result_keeps c d used p (fitted γ) next g h k = first_keeps c d used p (next γ) g h (k γ)

    premise_keeps : (c : Spent) (used : ℕ) (o : Called) (result : Term → Fitted) (next : Bindings → Spent → Walked)
        → Grown limit c.words used
        → Returning (P n) (with_words c used) o → ((γ : Bindings) (d : Spent) → Walking (Q n) d (next γ d))
        → Walking (Q n) c (if_called o (λ v p d. if_result (result v) (λ γ. under_first p (next γ d))))
    premise_keeps c used (refused e) result next g h k = tt
    premise_keeps c used (returned v p d) result next g h k = result_keeps c d used p (result v) (λ γ. next γ d) g h (λ γ. k γ d)

    arguments_keep : (c : Spent) (g : ℕ) (o : Built several) (result : Term → Fitted) (next : Bindings → Spent → Walked)
        → Growing limit c.words o
        → ((γ : Bindings) (d : Spent) → Walking (Q n) d (next γ d))
        → Walking (Q n) c (if_arguments o
        (λ vs used. if_called (call g vs (with_words c used)) (λ v p d. if_result (result v) (λ γ. under_first p (next γ d)))))
    arguments_keep c g (barred e) result next h k = tt
    arguments_keep c g (built vs used) result next h k =
        premise_keeps c used (call g vs (with_words c used)) result next h (keeps g vs (with_words c used)) k

    premises_keep : (ps : Terms) (β : Bindings) (c : Spent) → Walking (Q n) c (premises_of limit call ps β c)
    unfolding premises_of
    premises_keep nil β c = kept.empty n c
    premises_keep (cons (var x) ps) β c = tt
    premises_keep (cons (app g ts) ps) β c =
        arguments_keep c g (instantiate_of limit β (front ts) c.words) (λ v. bind_of (last ts) v β) (λ γ d. premises_of limit call ps γ d)
        (instantiate_grows limit β (front ts) c.words) (λ γ d. premises_keep ps γ d)

    module _ (c : Spent) (few : c.calls < max_calls) where
      conclusion_keeps : (i : ℕ) (ps : Tree several) (d : Spent) (o : Built single) → Q n (with_call c) ps d → Growing limit d.words o
          → Returning (P (suc n)) c (concluded_by i ps d.calls o)
      conclusion_keeps i ps d (barred e) h g = tt
      conclusion_keeps i ps d (built (var x) used) h g = tt
      conclusion_keeps i ps d (built (app f ts) used) h g = kept.whole n c d i (app f ts) ps used few h g

      walk_keeps : (i : ℕ) (t : Term) (o : Walked) → Walking (Q n) (with_call c) o → Returning (P (suc n)) c (concluded limit i t o)
      walk_keeps i t (stopped e) h = tt
      walk_keeps i t (walked β ps d) h =
          conclusion_keeps i ps d (instantiate_of limit β t d.words) h (instantiate_grows limit β t d.words)

      clause_keeps : (i : ℕ) (R : Rule) (o : Fitted) (next : ℕ → Called) → Returning (P (suc n)) c (next 0)
          → Returning (P (suc n)) c (taken_or limit call i R o (with_call c) next)
      clause_keeps i R misfit next h = h
      clause_keeps i R (fitted β) next h =
          walk_keeps i R.conclusion (premises_of limit call R.premises β (with_call c)) (premises_keep R.premises β (with_call c))

      try_keeps : (i : ℕ) (o : Option Rule) (vs : Terms) (next : ℕ → Called) → Returning (P (suc n)) c (next 0)
          → Returning (P (suc n)) c (tried limit call i o vs (with_call c) next)
      try_keeps i none vs next h = tt
      try_keeps i (some R) vs next h = clause_keeps i R (bind_of (patterns_of R.conclusion) vs start) next h

      clauses_keep : (m i : ℕ) (vs : Terms) → Returning (P (suc n)) c (clauses_of limit symbols rules call m i vs (with_call c))
      unfolding clauses_of
      clauses_keep zero i vs = tt
      clauses_keep (suc m) i vs =
          try_keeps i (rule_at_lem rules i) vs (λ _. clauses_of limit symbols rules call m (suc i) vs (with_call c)) (clauses_keep m (suc i) vs)

  -- P holds of every call.
  pub calls_keep : (levels f : ℕ) (vs : Terms) (c : Spent) → Returning (P levels) c (call_of limit symbols rules levels f vs c)
  unfolding call_of
  calls_keep zero f vs c = tt
  calls_keep (suc levels) f vs c =
      by_bool (ltb c.calls max_calls)
      (λ e. rw e (clauses_keep levels (call_of limit symbols rules levels) (calls_keep levels) c (ltb-true c.calls max_calls e)
      (symbol_at symbols f).clauses (symbol_at symbols f).first vs))
      (λ e. rw e tt)

module _ (limit : ℕ) (symbols : List Symbol) (rules : List Rule) (P : ℕ → Spent → Tree single → Spent → Type 0)
    (E : ℕ → Spent → Tree several → Spent → Type 0)
    (calls : (levels f : ℕ) (vs : Terms) (c : Spent) → Returning (P levels) c (call_of limit symbols rules levels f vs c))
    (kept : KeptByTerms limit P E) where
  around_keeps : (depth : ℕ) (c d : Spent) (ps : Tree several) (o : Built single) → E depth c ps d → Growing limit d.words o
      → Evaluating (E depth) c (around ps d.calls o)
  around_keeps depth c d ps (barred e) h g = tt
  around_keeps depth c d ps (built t used) h g = kept.building depth c d ps used h g

  behind_keeps : (depth : ℕ) (c d : Spent) (ps : Tree several) (o : Called) → E depth c ps d → Returning (P (max_depth - depth)) d o
      → Evaluating (E depth) c (behind ps o)
  behind_keeps depth c d ps (refused e) h k = tt
  behind_keeps depth c d ps (returned v p e) h k = kept.both depth c d e ps (p ◂ leaf) h (kept.call depth d e p k)

  within_keeps : (depth : ℕ) (c : Spent) (next : ℕ → Evaluated one) → Evaluating (E depth) c (next 0)
      → Evaluating (E depth) c (within depth next)
  within_keeps depth c next h = by_bool (ltb max_depth depth) (λ e. rw e tt) (λ e. rw e h)

  unless_keeps : (depth : ℕ) (c : Spent) (e : ℕ) (next : ℕ → Evaluated one) → Evaluating (E depth) c (next 0)
      → Evaluating (E depth) c (unless e next)
  unless_keeps depth c zero next h = h
  unless_keeps depth c (suc e) next h = tt

  symbol_keeps : (depth : ℕ) (c : Spent) (w : Name) (k : ℕ) (next : ℕ → Evaluated one)
      → Evaluating (E depth) c (next (symbol_number symbols w))
      → Evaluating (E depth) c (with_symbol limit symbols rules w k next)
  symbol_keeps depth c w k next h = by_bool (ltb (symbol_number symbols w) (length symbols))
      (λ e. rw e (unless_keeps depth c (misuse (symbol_at symbols (symbol_number symbols w)) k) (λ _. next (symbol_number symbols w)) h))
      (λ e. rw e tt)

  apply_keeps : (i depth : ℕ) (c : Spent) (o : Evaluated many) → Evaluating (E (suc depth)) c o
      → Evaluating (E depth) c (apply_of limit symbols rules i depth o)
  apply_keeps i depth c (failed e) h = tt
  apply_keeps i depth c (evaluated vs ps d) h =
      let k = kept.deeper depth c d ps h in
      by_bool (eqb (symbol_at symbols i).function 1)
      (λ e. rw e (behind_keeps depth c d ps (call_of limit symbols rules (max_depth - depth) i vs d) k (calls (max_depth - depth) i vs d)))
      (λ e. rw e (around_keeps depth c d ps (build_node limit i vs d.words) k (node_grows limit i vs d.words)))

  tower_grows : (y z n used : ℕ) → Growing limit used (tower_of limit symbols rules y z n used)
  unfolding tower_of
  tower_grows y z zero used = node_grows limit z nil used
  tower_grows y z (suc n) used =
      then_grows limit used (tower_of limit symbols rules y z n used)
      (λ t u. when (eqb (sort_in symbols t) (first (symbol_at symbols y).inputs)) (λ _. build_node limit y (cons t nil) u) (λ _. barred 33))
      (tower_grows y z n used)
      (λ t u. by_bool (eqb (sort_in symbols t) (first (symbol_at symbols y).inputs)) (λ e. rw e (node_grows limit y (cons t nil) u))
      (λ e. rw e tt))

  numeral_keeps : (n depth : ℕ) (c : Spent) → Evaluating (E depth) c (numeral_of limit symbols rules n depth c)
  unfolding numeral_of
  numeral_keeps n depth c =
      let y = symbol_number symbols succ_name in
      let z = symbol_number symbols zero_name in
      by_bool (is_ctor symbols zero_name && is_ctor symbols succ_name)
      (λ e. rw e (unless_keeps depth c (numeral_misuse limit symbols rules y z n depth)
      (λ _. around leaf c.calls (tower_of limit symbols rules y z n c.words))
      (around_keeps depth c c leaf (tower_of limit symbols rules y z n c.words) (kept.empty depth c) (tower_grows y z n c.words))))
      (λ e. rw e tt)

  -- A term, and then those behind it.
  behind_first_lem : (depth : ℕ) (c : Spent) (v : Term) (ps : Tree several) (d : Spent) (o : Evaluated many) → E depth c ps d
      → Evaluating (E depth) d o
      → Evaluating {n = many} (E depth) c (if_evaluated o (λ vs qs e. evaluated (cons v vs) (joined ps qs) e))
  behind_first_lem depth c v ps d (failed e) h k = tt
  behind_first_lem depth c v ps d (evaluated vs qs e) h k = kept.both depth c d e ps qs h k

  both_keep : (depth : ℕ) (c : Spent) (o : Evaluated one) (sort : ℕ) (next : Spent → Evaluated many) → Evaluating (E depth) c o
      → ((d : Spent) → Evaluating (E depth) d (next d))
      → Evaluating {n = many} (E depth) c (if_evaluated o (λ v ps d.
      when (eqb (sort_in symbols v) sort) (λ _. if_evaluated (next d) (λ vs qs e. evaluated (cons v vs) (joined ps qs) e)) (λ _. failed 33)))
  both_keep depth c (failed e) sort next h k = tt
  both_keep depth c (evaluated v ps d) sort next h k =
      by_bool (eqb (sort_in symbols v) sort) (λ e. rw e (behind_first_lem depth c v ps d (next d) h (k d))) (λ e. rw e tt)

  -- E holds of every term at every depth.
  pub expressions_keep : {n : Arity} (t : Written n) (sorts : List ℕ) (depth : ℕ) (c : Spent)
      → Evaluating (E depth) c (expression_of limit symbols rules t sorts depth c)
  unfolding expression_of
  expressions_keep (number v) sorts depth c = within_keeps depth c (λ _. numeral_of limit symbols rules v depth c) (numeral_keeps v depth c)
  expressions_keep (meta w) sorts depth c = within_keeps depth c (λ _. failed 31) tt
  expressions_keep (called w) sorts depth c =
      let next : ℕ → Evaluated one = λ i. apply_of limit symbols rules i depth (evaluated nil leaf c) in
      within_keeps depth c (λ _. with_symbol limit symbols rules w 0 next)
      (symbol_keeps depth c w 0 next (apply_keeps (symbol_number symbols w) depth c (evaluated nil leaf c) (kept.empty (suc depth) c)))
  expressions_keep (applied w ts) sorts depth c =
      let next : ℕ → Evaluated one = λ i. apply_of limit symbols rules i depth
      (expression_of limit symbols rules ts (symbol_at symbols i).inputs (suc depth) c) in
      let inputs : List ℕ = (symbol_at symbols (symbol_number symbols w)).inputs in
      within_keeps depth c (λ _. with_symbol limit symbols rules w (size ts) next)
      (symbol_keeps depth c w (size ts) next
      (apply_keeps (symbol_number symbols w) depth c (expression_of limit symbols rules ts inputs (suc depth) c)
      (expressions_keep ts inputs (suc depth) c)))
  expressions_keep nothing sorts depth c = kept.empty depth c
  expressions_keep (more t ts) sorts depth c =
      both_keep depth c (expression_of limit symbols rules t [] depth c) (first sorts)
      (λ d. expression_of limit symbols rules ts (rest sorts) depth d)
      (expressions_keep t [] depth c) (λ d. expressions_keep ts (rest sorts) depth d)
