-- Evaluation answers with derivations (document 01, "Evaluated terms"): every tree that comes back is one, and the last tree of a forward call is that of its
-- own function, with the value as the last argument of the root.
-- The definitions that it speaks of are in specs/EvaluationLaws.
use Rattle.std.specs.Prelude.{ℕ, zero, suc, ◌-◌, ◌≡◌, Bool, true, ◌&&◌, eqb, ltb, length}
use Rattle.std.proofs.Math.Path.{refl}
use mathlib.Core.List.{List, []}
use Rattle.source_text.specs.ByteLaws.{and_left, and_right}
use Rattle.terms.specs.Numbers.{by_bool, true_false}
use Rattle.terms.specs.Term.{nil, cons, Terms}
use Rattle.terms.specs.Term.Kind.{one as single, many as several}
use Rattle.term_parser.specs.Source.{Arity, one, many}
use Rattle.term_parser.specs.Standing.{Written, number, meta, called, applied, nil as none, cons as more, size}
use Rattle.names.specs.Names.{Name}
use Rattle.names.specs.Symbols.{Symbol, symbol_number, symbol_at}
use Rattle.patterns.specs.Patterns.{when, is_ctor, zero_name, succ_name, first, rest}
use Rattle.resolution.specs.Rules.{Rule, Tree, leaf, ◌◂◌, joined, Derivation}
use Rattle.loader.specs.Signature.{Signature}
use Rattle.evaluation.specs.Matching.{Built, barred, built, build_node}
use Rattle.evaluation.specs.Calls.{Spent, Called, refused, returned, call_of}
use Rattle.evaluation.specs.Expressions.{max_depth, is_forward_call, Evaluated, failed, evaluated, if_evaluated, sort_in, misuse, unless, behind, around, within, tower_of, numeral_misuse, numeral_of, apply_of, with_symbol, expression_of, evaluate_of}
use Rattle.evaluation.specs.Derivations.{ClauseForm, Derives, call_derives, derivations_joined}
use Rattle.evaluation.specs.EvaluationLaws.{Answered, Derived}

unless_derived : (rules : List Rule) (e : ℕ) (next : ℕ → Evaluated one) → Derived rules (next 0) → Derived rules (unless e next)
unless_derived rules zero next h = h
unless_derived rules (suc e) next h = tt

around_derived : (rules : List Rule) (ps : Tree several) (calls : ℕ) (o : Built single) → Derivation rules ps → Derived rules (around ps calls o)
around_derived rules ps calls (barred e) h = tt
around_derived rules ps calls (built t used) h = h

within_derived : (rules : List Rule) (depth : ℕ) (next : ℕ → Evaluated one) → Derived rules (next 0) → Derived rules (within depth next)
within_derived rules depth next h = by_bool (ltb max_depth depth) (λ e. rw e tt) (λ e. rw e h)

module _ (limit : ℕ) (symbols : List Symbol) (rules : List Rule) (form : ClauseForm symbols rules) where
  behind_derived : (f : ℕ) (vs : Terms) (ps : Tree several) (o : Called) → Derives limit symbols rules f vs o → Derivation rules ps → Derived rules (behind ps o)
  behind_derived f vs ps (refused e) h a = tt
  behind_derived f vs ps (returned v p c) h a = derivations_joined rules ps (p ◂ leaf) a (h.1, tt)

  apply_derived : (i depth : ℕ) (o : Evaluated many) → Derived rules o → Derived rules (apply_of limit symbols rules i depth o)
  apply_derived i depth (failed e) h = tt
  apply_derived i depth (evaluated vs ps c) h = by_bool (eqb (symbol_at symbols i).function 1)
      (λ e. rw e (behind_derived i vs ps (call_of limit symbols rules (max_depth - depth) i vs c) (call_derives limit symbols rules form (max_depth - depth) i vs c) h))
      (λ e. rw e (around_derived rules ps c.calls (build_node limit i vs c.words) h))

  symbol_derived : (w : Name) (k : ℕ) (next : ℕ → Evaluated one) → Derived rules (next (symbol_number symbols w)) → Derived rules (with_symbol limit symbols rules w k next)
  symbol_derived w k next h = by_bool (ltb (symbol_number symbols w) (length symbols))
      (λ e. rw e (unless_derived rules (misuse (symbol_at symbols (symbol_number symbols w)) k) (λ _. next (symbol_number symbols w)) h)) (λ e. rw e tt)

  numeral_derived : (n depth : ℕ) (c : Spent) → Derived rules (numeral_of limit symbols rules n depth c)
  unfolding numeral_of
  numeral_derived n depth c = by_bool (is_ctor symbols zero_name && is_ctor symbols succ_name)
      (λ e. rw e (unless_derived rules (numeral_misuse limit symbols rules (symbol_number symbols succ_name) (symbol_number symbols zero_name) n depth)
      (λ _. around leaf c.calls (tower_of limit symbols rules (symbol_number symbols succ_name) (symbol_number symbols zero_name) n c.words))
      (around_derived rules leaf c.calls (tower_of limit symbols rules (symbol_number symbols succ_name) (symbol_number symbols zero_name) n c.words) tt)))
      (λ e. rw e tt)

  both_derived : (o : Evaluated one) (sort : ℕ) (next : Spent → Evaluated many) → Derived rules o → ((d : Spent) → Derived rules (next d))
      → Derived {n = many} rules (if_evaluated o (λ v ps d. when (eqb (sort_in symbols v) sort) (λ _. if_evaluated (next d) (λ vs qs e. evaluated (cons v vs) (joined ps qs) e)) (λ _. failed 33)))
  both_derived (failed e) sort next a b = tt
  both_derived (evaluated v ps d) sort next a b = by_bool (eqb (sort_in symbols v) sort) (λ e. rw e (go (next d) (b d))) (λ e. rw e tt)
    where
      go : (o : Evaluated many) → Derived rules o → Derived {n = many} rules (if_evaluated o (λ vs qs e. evaluated (cons v vs) (joined ps qs) e))
      go (failed e) h = tt
      go (evaluated vs qs e) h = derivations_joined rules ps qs a h

  pub expression_derives : {n : Arity} (t : Written n) (sorts : List ℕ) (depth : ℕ) (c : Spent) → Derived rules (expression_of limit symbols rules t sorts depth c)
  unfolding expression_of
  expression_derives (number v) sorts depth c = within_derived rules depth (λ _. numeral_of limit symbols rules v depth c) (numeral_derived v depth c)
  expression_derives (meta w) sorts depth c = within_derived rules depth (λ _. failed 31) tt
  expression_derives (called w) sorts depth c =
      within_derived rules depth (λ _. with_symbol limit symbols rules w 0 (λ i. apply_of limit symbols rules i depth (evaluated nil leaf c)))
      (symbol_derived w 0 (λ i. apply_of limit symbols rules i depth (evaluated nil leaf c)) (apply_derived (symbol_number symbols w) depth (evaluated nil leaf c) tt))
  expression_derives (applied w ts) sorts depth c =
      within_derived rules depth
      (λ _. with_symbol limit symbols rules w (size ts) (λ i. apply_of limit symbols rules i depth (expression_of limit symbols rules ts (symbol_at symbols i).inputs (suc depth) c)))
      (symbol_derived w (size ts) (λ i. apply_of limit symbols rules i depth (expression_of limit symbols rules ts (symbol_at symbols i).inputs (suc depth) c))
      (apply_derived (symbol_number symbols w) depth (expression_of limit symbols rules ts (symbol_at symbols (symbol_number symbols w)).inputs (suc depth) c)
      (expression_derives ts (symbol_at symbols (symbol_number symbols w)).inputs (suc depth) c)))
  expression_derives none sorts depth c = tt
  expression_derives (more t ts) sorts depth c =
      both_derived (expression_of limit symbols rules t [] depth c) (first sorts) (λ d. expression_of limit symbols rules ts (rest sorts) depth d)
      (expression_derives t [] depth c) (λ d. expression_derives ts (rest sorts) depth d)

  -- The last tree.
  behind_answered : (f : ℕ) (vs : Terms) (ps : Tree several) (o : Called) → Derives limit symbols rules f vs o → Answered (behind ps o)
  behind_answered f vs ps (refused e) h = tt
  behind_answered f vs ps (returned v p c) h = record { others = ps; own = p; function = f; arguments = vs; last = refl; root_is = h.0 }

  apply_answered : (i depth : ℕ) (o : Evaluated many) → eqb (symbol_at symbols i).function 1 ≡ true → Answered (apply_of limit symbols rules i depth o)
  apply_answered i depth (failed e) q = tt
  apply_answered i depth (evaluated vs ps c) q =
      rw q (behind_answered i vs ps (call_of limit symbols rules (max_depth - depth) i vs c) (call_derives limit symbols rules form (max_depth - depth) i vs c))

  unless_answered : (e : ℕ) (next : ℕ → Evaluated one) → Answered (next 0) → Answered (unless e next)
  unless_answered zero next h = h
  unless_answered (suc e) next h = tt

  symbol_answered : (w : Name) (k : ℕ) (next : ℕ → Evaluated one) → Answered (next (symbol_number symbols w)) → Answered (with_symbol limit symbols rules w k next)
  symbol_answered w k next h = by_bool (ltb (symbol_number symbols w) (length symbols))
      (λ e. rw e (unless_answered (misuse (symbol_at symbols (symbol_number symbols w)) k) (λ _. next (symbol_number symbols w)) h)) (λ e. rw e tt)

  abbrev is_function : Name → Bool
  is_function w = eqb (symbol_at symbols (symbol_number symbols w)).function 1

  is_function_lem : (w : Name) (k : ℕ) → (ltb (symbol_number symbols w) (length symbols) && (is_function w && eqb (suc k) (length (symbol_at symbols (symbol_number symbols w)).inputs))) ≡ true
      → is_function w ≡ true
  is_function_lem w k e = and_left (is_function w) _ (and_right (ltb (symbol_number symbols w) (length symbols)) _ e)

  pub forward_answered : (t : Written one) (c : Spent) → is_forward_call symbols t ≡ true → Answered (expression_of limit symbols rules t [] 0 c)
  unfolding is_forward_call expression_of
  forward_answered (number v) c q = true_false q refl
  forward_answered (meta w) c q = true_false q refl
  forward_answered (called w) c q =
      symbol_answered w 0 (λ i. apply_of limit symbols rules i 0 (evaluated nil leaf c)) (apply_answered (symbol_number symbols w) 0 (evaluated nil leaf c) (is_function_lem w 0 q))
  forward_answered (applied w ts) c q =
      symbol_answered w (size ts) (λ i. apply_of limit symbols rules i 0 (expression_of limit symbols rules ts (symbol_at symbols i).inputs 1 c))
      (apply_answered (symbol_number symbols w) 0 (expression_of limit symbols rules ts (symbol_at symbols (symbol_number symbols w)).inputs 1 c) (is_function_lem w (size ts) (and_left _ _ q)))

-- An evaluation answers with derivations, and with a derivation of its own call.
pub evaluates_derives : (limit : ℕ) (S : Signature) → ClauseForm S.symbols S.rules → (t : Written one) → is_forward_call S.symbols t ≡ true
    → Derived S.rules (evaluate_of limit S t) × Answered (evaluate_of limit S t)
evaluates_derives limit S form t q = (
  expression_derives limit S.symbols S.rules form t [] 0 (record { calls = 0; words = 0 }),
  forward_answered limit S.symbols S.rules form t (record { calls = 0; words = 0 }) q,
)
