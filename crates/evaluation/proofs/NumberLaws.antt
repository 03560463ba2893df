-- By which numbers an evaluation is refused (document 01, "Evaluated terms"): where the clauses are in form, only by those that document
-- 01 lists for calls and for written terms, and never by 1, which is for what is not in form.
-- The definitions that it speaks of are in specs/NumberLaws.
use Prim.Native.Nat.{ℕ, zero, suc, ◌+◌, ◌-◌, ◌≤◌, ◌<◌}
use native.Mathlib.Omega.{arith}
use Rattle.std.specs.Prelude.{◌≡◌, ◌&&◌, eqb, ltb}
use Rattle.std.proofs.Math.Path.{refl}
use Rattle.std.proofs.Common.{ap}
use Rattle.std.proofs.Math.Bool.{not}
use Rattle.std.proofs.Math.Option.{Option, none, some}
use mathlib.Core.List.{List, [], ◌∷◌}
use Rattle.std.proofs.Math.ListN.{length, get_or-eq_default}
use Rattle.terms.specs.Numbers.{by_bool, by_less, same, true_false, some_none}
use Rattle.terms.specs.Term.{Kind, Syn, var, app, nil, cons, Term, Terms, count}
use Rattle.terms.specs.Term.Kind.{one as single, many as several}
use Rattle.terms.specs.Bindings.{Bindings, start, lookup}
use Rattle.term_parser.specs.Source.{Arity, one, many}
use Rattle.term_parser.specs.Standing.{Written, number, meta, called, applied, nil as nothing, cons as more, size}
use Rattle.parser.specs.Declarations.{Declared}
use Rattle.names.specs.Names.{Name}
use Rattle.names.specs.Symbols.{Symbol, symbol_number, symbol_at, no_symbol}
use Rattle.patterns.specs.Patterns.{when, is_ctor, zero_name, succ_name, first, rest}
use Rattle.resolution.specs.Rules.{Rule, rule_at_lem, Tree, leaf, joined}
use Rattle.loader.specs.Signature.{Signature, loaded, load_of}
use Rattle.loader.specs.Legal.{Legal}
use Rattle.loader.specs.LegalLaws.{load_legal}
use Rattle.evaluation.specs.Matching.{Fitted, misfit, fitted, bind_of, Built, barred, built, if_built, build_node, value_of}
use Rattle.evaluation.specs.Matching.{instantiate_of, front, last}
use Rattle.evaluation.specs.Calls.{Spent, Called, refused, returned, Walked, stopped, walked, if_called, if_result, if_arguments}
use Rattle.evaluation.specs.Calls.{under_first, premises_of, concluded_by, concluded, patterns_of, taken_or, tried, clauses_of}
use Rattle.evaluation.specs.Calls.{max_calls, call_of}
use Rattle.evaluation.specs.Expressions.{max_depth, Evaluated, failed, evaluated, if_evaluated, sort_in, arguments_of}
use Rattle.evaluation.specs.Expressions.{behind, around, within, tower_of, numeral_of, apply_of, with_symbol, expression_of}
use Rattle.evaluation.specs.Expressions.{nothing_spent, evaluate_of}
use Rattle.evaluation.specs.Derivations.{JudgmentOf, Judgments, ClauseOf, ClausesOf, ClauseForm}
use Rattle.evaluation.proofs.LoadedLaws.{legal_clauses}
use Rattle.evaluation.specs.NumberLaws.{ClausesThere, OneOf, call_refusals, evaluation_refusals}

-- 1 is none of them.
pub never_by_1 : (e : ℕ) → OneOf evaluation_refusals e → e ≡ 1 → ⊥
unfolding same
never_by_1 e h q = let k : OneOf evaluation_refusals 1 = rw q at h in true_false k refl

-- What holds of each number that a call may be refused by,
record OfCalls (P : ℕ → Type 0) : Type 0 where
  pub deep : P 29
  pub many_calls : P 30
  pub no_clause : P 34
  pub other_result : P 35
  pub unbound : P 36
  pub no_words : P 37

-- and of each that a term may be refused by.
record OfTerms (P : ℕ → Type 0) : Type 0 where
  pub calls : OfCalls P
  pub unknown : P 20
  pub miscounted : P 21
  pub no_numerals : P 26
  pub metavariable : P 31
  pub predicate : P 32
  pub other_sort : P 33

calls_numbered : OfCalls (OneOf call_refusals)
unfolding same
calls_numbered = record { deep = refl; many_calls = refl; no_clause = refl; other_result = refl; unbound = refl; no_words = refl }

terms_numbered : OfTerms (OneOf evaluation_refusals)
unfolding same
terms_numbered = record {
  calls = record { deep = refl; many_calls = refl; no_clause = refl; other_result = refl; unbound = refl; no_words = refl };
  unknown = refl;
  miscounted = refl;
  no_numerals = refl;
  metavariable = refl;
  predicate = refl;
  other_sort = refl;
}

-- P of the number, where something is refused: a term, a node, a call, premises, a written term.
module _ (P : ℕ → Type 0) where
  abbrev Barring : {s : Kind} → Built s → Type 0
  Barring (barred e) = P e
  Barring (built t used) = Unit {0}

  -- What is built is no variable.
  abbrev BarringNode : Built single → Type 0
  BarringNode (barred e) = P e
  BarringNode (built (var x) used) = ⊥
  BarringNode (built (app f ts) used) = Unit {0}

  abbrev Refusing : Called → Type 0
  Refusing (refused e) = P e
  Refusing (returned v p c) = Unit {0}

  abbrev Stopping : Walked → Type 0
  Stopping (stopped e) = P e
  Stopping (walked β ps c) = Unit {0}

  abbrev Failing : {n : Arity} → Evaluated n → Type 0
  Failing (failed e) = P e
  Failing (evaluated v ps c) = Unit {0}

  -- Building

  then_barred : {s r : Kind} (o : Built s) (next : Syn s → ℕ → Built r) → Barring o → ((t : Syn s) (u : ℕ) → Barring (next t u))
      → Barring (if_built o next)
  then_barred (barred e) next h k = h
  then_barred (built t u) next h k = k t u

  node_barred : P 37 → (limit f : ℕ) (ts : Terms) (used : ℕ) → Barring (build_node limit f ts used)
  node_barred no_words limit f ts used = by_bool (ltb limit (used + suc (count ts))) (λ e. rw e no_words) (λ e. rw e tt)

  module _ (numbers : OfCalls P) (limit : ℕ) where
    value_barred : (used : ℕ) (o : Option Term) → Barring (value_of o used)
    value_barred used none = numbers.unbound
    value_barred used (some t) = tt

    instantiate_barred : {s : Kind} (β : Bindings) (p : Syn s) (used : ℕ) → Barring (instantiate_of limit β p used)
    unfolding instantiate_of
    instantiate_barred β (var x) used = value_barred used (lookup β x)
    instantiate_barred β (app f ps) used =
        then_barred (instantiate_of limit β ps used) (λ ts u. build_node limit f ts u) (instantiate_barred β ps used)
        (λ ts u. node_barred numbers.no_words limit f ts u)
    instantiate_barred β nil used = tt
    instantiate_barred β (cons p ps) used =
        then_barred (instantiate_of limit β p used) (λ t u. if_built (instantiate_of limit β ps u) (λ ts v. built (cons t ts) v))
        (instantiate_barred β p used)
        (λ t u. then_barred (instantiate_of limit β ps u) (λ ts v. built (cons t ts) v) (instantiate_barred β ps u) (λ ts v. tt))

    -- A node is instantiated to a node.
    over_arguments : (f : ℕ) (o : Built several) → Barring o → BarringNode (if_built o (λ ts u. build_node limit f ts u))
    over_arguments f (barred e) h = h
    over_arguments f (built ts u) h = by_bool (ltb limit (u + suc (count ts))) (λ e. rw e numbers.no_words) (λ e. rw e tt)

    node_instantiated : (β : Bindings) (f : ℕ) (ps : Terms) (used : ℕ) → BarringNode (instantiate_of limit β (app f ps) used)
    unfolding instantiate_of
    node_instantiated β f ps used = over_arguments f (instantiate_of limit β ps used) (instantiate_barred β ps used)

    -- Calls

    first_stopped : (p : Tree single) (o : Walked) → Stopping o → Stopping (under_first p o)
    first_stopped p (stopped e) h = h
    first_stopped p (walked β ps c) h = tt

    result_stopped : (p : Tree single) (o : Fitted) (next : Bindings → Walked) → ((γ : Bindings) → Stopping (next γ))
        → Stopping (if_result o (λ γ. under_first p (next γ)))
    result_stopped p misfit next h = numbers.other_result
    result_stopped p (fitted γ) next h = first_stopped p (next γ) (h γ)

    premise_stopped : (o : Called) (result : Term → Fitted) (next : Bindings → Spent → Walked) → Refusing o
        → ((γ : Bindings) (d : Spent) → Stopping (next γ d))
        → Stopping (if_called o (λ v p d. if_result (result v) (λ γ. under_first p (next γ d))))
    premise_stopped (refused e) result next h k = h
    premise_stopped (returned v p d) result next h k = result_stopped p (result v) (λ γ. next γ d) (λ γ. k γ d)

    module _ (call : ℕ → Terms → Spent → Called) (refusing : (g : ℕ) (vs : Terms) (c : Spent) → Refusing (call g vs c)) where
      arguments_stopped : (calls g : ℕ) (o : Built several) (result : Term → Fitted) (next : Bindings → Spent → Walked) → Barring o
          → ((γ : Bindings) (d : Spent) → Stopping (next γ d))
          → Stopping (if_arguments o (λ vs used.
          if_called (call g vs (record { calls = calls; words = used })) (λ v p d. if_result (result v) (λ γ. under_first p (next γ d)))))
      arguments_stopped calls g (barred e) result next h k = h
      arguments_stopped calls g (built vs used) result next h k =
          let c : Spent = record { calls = calls; words = used } in
          premise_stopped (call g vs c) result next (refusing g vs c) k

      premises_stopped : (ps : Terms) (β : Bindings) (c : Spent) → Judgments ps → Stopping (premises_of limit call ps β c)
      unfolding premises_of
      premises_stopped nil β c j = tt
      premises_stopped (cons (var x) ps) β c j = absurd j
      premises_stopped (cons (app g ts) ps) β c j =
          arguments_stopped c.calls g (instantiate_of limit β (front ts) c.words) (λ v. bind_of (last ts) v β)
          (λ γ d. premises_of limit call ps γ d) (instantiate_barred β (front ts) c.words) (λ γ d. premises_stopped ps γ d j.1)

      conclusion_refused : (i : ℕ) (ps : Tree several) (calls : ℕ) (o : Built single) → BarringNode o → Refusing (concluded_by i ps calls o)
      conclusion_refused i ps calls (barred e) h = h
      conclusion_refused i ps calls (built (var x) used) h = absurd h
      conclusion_refused i ps calls (built (app f ts) used) h = tt

      walk_refused : (f i : ℕ) (t : Term) (o : Walked) → JudgmentOf f t → Stopping o → Refusing (concluded limit i t o)
      walk_refused f i t (stopped e) j h = h
      walk_refused f i (var x) (walked β ps d) j h = absurd j
      walk_refused f i (app g ts) (walked β ps d) j h =
          conclusion_refused i ps d.calls (instantiate_of limit β (app g ts) d.words) (node_instantiated β g ts d.words)

      clause_refused : (f i : ℕ) (R : Rule) (o : Fitted) (c : Spent) (next : ℕ → Called) → ClauseOf f R → Refusing (next 0)
          → Refusing (taken_or limit call i R o c next)
      clause_refused f i R misfit c next k h = h
      clause_refused f i R (fitted β) c next k h =
          walk_refused f i R.conclusion (premises_of limit call R.premises β c) k.concludes
          (premises_stopped R.premises β c k.premised)

      try_refused : (f i : ℕ) (o : Option Rule) (vs : Terms) (c : Spent) (next : ℕ → Called) → (o ≡ none → ⊥)
          → ((R : Rule) → o ≡ some R → ClauseOf f R) → Refusing (next 0) → Refusing (tried limit call i o vs c next)
      try_refused f i none vs c next there k h = absurd (there refl)
      try_refused f i (some R) vs c next there k h =
          clause_refused f i R (bind_of (patterns_of R.conclusion) vs start) c next (k R refl) h

      clauses_refused : (symbols : List Symbol) (rules : List Rule) (f n i : ℕ) (vs : Terms) (c : Spent) → i + n ≤ length rules
          → ClausesOf rules f n i → Refusing (clauses_of limit symbols rules call n i vs c)
      unfolding clauses_of
      clauses_refused symbols rules f zero i vs c l k = numbers.no_clause
      clauses_refused symbols rules f (suc n) i vs c l k =
          try_refused f i (rule_at_lem rules i) vs c (λ _. clauses_of limit symbols rules call n (suc i) vs c)
          (rule_there rules i (omega arith))
          (λ R e. let z : i + 0 ≡ i = omega arith in k 0 R (omega arith) (rw z e))
          (clauses_refused symbols rules f n (suc i) vs c (omega arith)
          (λ j R m e. let z : i + suc j ≡ suc i + j = omega arith in k (suc j) R (omega arith) (rw z e)))
        where
          rule_there : (Rs : List Rule) (j : ℕ) → j < length Rs → rule_at_lem Rs j ≡ none → ⊥
          rule_there [] j m e = absurd (let y : ⊥ = omega arith in y)
          rule_there (R ∷ Rs) zero m e = some_none refl e
          rule_there (R ∷ Rs) (suc j) m e = rule_there Rs j (omega arith) e

    calls_refused : (symbols : List Symbol) (rules : List Rule) → ClauseForm symbols rules → ClausesThere symbols rules
        → (levels f : ℕ) (vs : Terms) (c : Spent) → Refusing (call_of limit symbols rules levels f vs c)
    unfolding call_of
    calls_refused symbols rules form there zero f vs c = numbers.deep
    calls_refused symbols rules form there (suc levels) f vs c =
        by_bool (ltb c.calls max_calls)
        (λ e. rw e (clauses_refused (call_of limit symbols rules levels) (calls_refused symbols rules form there levels) symbols rules f
        (symbol_at symbols f).clauses (symbol_at symbols f).first vs (record { calls = suc c.calls; words = c.words })
        (there f) (form f)))
        (λ e. rw e numbers.many_calls)

  -- Written terms

  module _ (numbers : OfTerms P) (limit : ℕ) (symbols : List Symbol) (rules : List Rule)
      (calls : (levels f : ℕ) (vs : Terms) (c : Spent) → Refusing (call_of limit symbols rules levels f vs c)) where
    behind_failed : (ps : Tree several) (o : Called) → Refusing o → Failing (behind ps o)
    behind_failed ps (refused e) h = h
    behind_failed ps (returned v p c) h = tt

    around_failed : (ps : Tree several) (calls : ℕ) (o : Built single) → Barring o → Failing (around ps calls o)
    around_failed ps calls (barred e) h = h
    around_failed ps calls (built t used) h = tt

    within_failed : (depth : ℕ) (next : ℕ → Evaluated one) → Failing (next 0) → Failing (within depth next)
    within_failed depth next h = by_bool (ltb max_depth depth) (λ e. rw e numbers.calls.deep) (λ e. rw e h)

    symbol_failed : (w : Name) (k : ℕ) (next : ℕ → Evaluated one) → Failing (next (symbol_number symbols w))
        → Failing (with_symbol limit symbols rules w k next)
    symbol_failed w k next h =
        let f : Symbol = symbol_at symbols (symbol_number symbols w) in
        by_bool (ltb (symbol_number symbols w) (length symbols))
        (λ e. rw e
        (by_bool (eqb f.function 0 && eqb f.output 0) (λ a. rw a numbers.predicate)
        (λ a. rw a (by_bool (eqb k (arguments_of f)) (λ b. rw b h) (λ b. rw b numbers.miscounted)))))
        (λ e. rw e numbers.unknown)

    apply_failed : (i depth : ℕ) (o : Evaluated many) → Failing o → Failing (apply_of limit symbols rules i depth o)
    apply_failed i depth (failed e) h = h
    apply_failed i depth (evaluated vs ps d) h =
        by_bool (eqb (symbol_at symbols i).function 1)
        (λ e. rw e (behind_failed ps (call_of limit symbols rules (max_depth - depth) i vs d) (calls (max_depth - depth) i vs d)))
        (λ e. rw e (around_failed ps d.calls (build_node limit i vs d.words)
        (node_barred numbers.calls.no_words limit i vs d.words)))

    tower_barred : (y z n used : ℕ) → Barring (tower_of limit symbols rules y z n used)
    unfolding tower_of
    tower_barred y z zero used = node_barred numbers.calls.no_words limit z nil used
    tower_barred y z (suc n) used =
        then_barred (tower_of limit symbols rules y z n used)
        (λ t u. when (eqb (sort_in symbols t) (first (symbol_at symbols y).inputs)) (λ _. build_node limit y (cons t nil) u) (λ _. barred 33))
        (tower_barred y z n used)
        (λ t u. by_bool (eqb (sort_in symbols t) (first (symbol_at symbols y).inputs))
        (λ e. rw e (node_barred numbers.calls.no_words limit y (cons t nil) u)) (λ e. rw e numbers.other_sort))

    numeral_failed : (n depth : ℕ) (c : Spent) → Failing (numeral_of limit symbols rules n depth c)
    unfolding numeral_of
    numeral_failed n depth c =
        let y : ℕ = symbol_number symbols succ_name in
        let z : ℕ = symbol_number symbols zero_name in
        by_bool (is_ctor symbols zero_name && is_ctor symbols succ_name)
        (λ e. rw e
        (by_bool (ltb 0 n && not (eqb (length (symbol_at symbols y).inputs) 1)) (λ a. rw a numbers.miscounted)
        (λ a. rw a (by_bool (ltb max_depth (depth + n)) (λ b. rw b numbers.calls.deep)
        (λ b. rw b (by_bool (eqb (length (symbol_at symbols z).inputs) 0)
        (λ d. rw d (around_failed leaf c.calls (tower_of limit symbols rules y z n c.words) (tower_barred y z n c.words)))
        (λ d. rw d numbers.miscounted)))))))
        (λ e. rw e numbers.no_numerals)

    both_failed : (o : Evaluated one) (sort : ℕ) (next : Spent → Evaluated many) → Failing o → ((d : Spent) → Failing (next d))
        → Failing {n = many} (if_evaluated o (λ v ps d.
        when (eqb (sort_in symbols v) sort)
        (λ _. if_evaluated (next d) (λ vs qs e. evaluated (cons v vs) (joined ps qs) e)) (λ _. failed 33)))
    both_failed (failed e) sort next h k = h
    both_failed (evaluated v ps d) sort next h k =
        by_bool (eqb (sort_in symbols v) sort) (λ e. rw e (behind_first_lem (next d) (k d))) (λ e. rw e numbers.other_sort)
      where
        behind_first_lem : (o : Evaluated many) → Failing o
            → Failing {n = many} (if_evaluated o (λ vs qs e. evaluated (cons v vs) (joined ps qs) e))
        behind_first_lem (failed e) l = l
        behind_first_lem (evaluated vs qs e) l = tt

    expressions_fail : {n : Arity} (t : Written n) (sorts : List ℕ) (depth : ℕ) (c : Spent)
        → Failing (expression_of limit symbols rules t sorts depth c)
    unfolding expression_of
    expressions_fail (number v) sorts depth c =
        within_failed depth (λ _. numeral_of limit symbols rules v depth c) (numeral_failed v depth c)
    expressions_fail (meta w) sorts depth c = within_failed depth (λ _. failed 31) numbers.metavariable
    expressions_fail (called w) sorts depth c =
        let next : ℕ → Evaluated one = λ i. apply_of limit symbols rules i depth (evaluated nil leaf c) in
        within_failed depth (λ _. with_symbol limit symbols rules w 0 next)
        (symbol_failed w 0 next (apply_failed (symbol_number symbols w) depth (evaluated nil leaf c) tt))
    expressions_fail (applied w ts) sorts depth c =
        let next : ℕ → Evaluated one = λ i. apply_of limit symbols rules i depth
        (expression_of limit symbols rules ts (symbol_at symbols i).inputs (suc depth) c) in
        let inputs : List ℕ = (symbol_at symbols (symbol_number symbols w)).inputs in
        within_failed depth (λ _. with_symbol limit symbols rules w (size ts) next)
        (symbol_failed w (size ts) next
        (apply_failed (symbol_number symbols w) depth (expression_of limit symbols rules ts inputs (suc depth) c)
        (expressions_fail ts inputs (suc depth) c)))
    expressions_fail nothing sorts depth c = tt
    expressions_fail (more t ts) sorts depth c =
        both_failed (expression_of limit symbols rules t [] depth c) (first sorts)
        (λ d. expression_of limit symbols rules ts (rest sorts) depth d)
        (expressions_fail t [] depth c) (λ d. expressions_fail ts (rest sorts) depth d)

module _ (limit : ℕ) (symbols : List Symbol) (rules : List Rule)
    (form : ClauseForm symbols rules) (there : ClausesThere symbols rules) where
  -- A call is refused only by 29, 30, 34, 35, 36 or 37.
  pub call_numbered : (levels f : ℕ) (vs : Terms) (c : Spent) (e : ℕ) → call_of limit symbols rules levels f vs c ≡ refused e
      → OneOf call_refusals e
  call_numbered levels f vs c e q =
      let h = calls_refused (OneOf call_refusals) calls_numbered limit symbols rules form there levels f vs c in
      rw q at h

  -- A written term is refused only by 20, 21, 26 or 29 to 37.
  pub expression_numbered : {n : Arity} (t : Written n) (sorts : List ℕ) (depth : ℕ) (c : Spent) (e : ℕ)
      → expression_of limit symbols rules t sorts depth c ≡ failed e → OneOf evaluation_refusals e
  expression_numbered t sorts depth c e q =
      let P : ℕ → Type 0 = OneOf evaluation_refusals in
      let h = expressions_fail P terms_numbered limit symbols rules
      (calls_refused P terms_numbered.calls limit symbols rules form there) t sorts depth c in
      rw q at h

-- The clauses of a legal signature are among its rules.
pub legal_there : (s : Signature) → Legal s → ClausesThere s.symbols s.rules
legal_there s legal f = by_less f (length s.symbols) (λ l _. (legal.symbols f l).clauses)
    (λ l _. let z : symbol_at s.symbols f ≡ no_symbol = get_or-eq_default s.symbols no_symbol l in
    let j = ap (λ g. g.first) z in
    let k = ap (λ g. g.clauses) z in
    omega arith)

-- An evaluation over a legal signature is refused only by these numbers,
pub evaluation_numbered : (limit : ℕ) (s : Signature) → Legal s → (t : Written one) (e : ℕ) → evaluate_of limit s t ≡ failed e
    → OneOf evaluation_refusals e
evaluation_numbered limit s legal t e q =
    expression_numbered limit s.symbols s.rules (legal_clauses s legal) (legal_there s legal) t [] 0 nothing_spent e q

-- and so is one over a text that was loaded.
pub loaded_numbered : (nodes : ℕ) (text : List ℕ) (ds : List Declared) (S : Signature) → load_of nodes text ds ≡ loaded S
    → (limit : ℕ) (t : Written one) (e : ℕ) → evaluate_of limit S t ≡ failed e → OneOf evaluation_refusals e
loaded_numbered nodes text ds S h limit t e q = evaluation_numbered limit S (load_legal nodes text ds S h) t e q
