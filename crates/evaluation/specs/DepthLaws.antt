-- Depth only decides between an answer and 29 (document 01, "Evaluated terms"): with more nested calls allowed, or from a smaller
-- depth, an evaluation comes to the same value or refusal, unless it was refused by 29.
use Prim.Native.Nat.{ℕ, zero, suc, ◌+◌, ◌-◌, ◌≤◌}
use Rattle.std.proofs.Common.{arith, ap, ◌∙◌, ltb-false, le-ltb}
use Rattle.std.specs.Prelude.{◌≡◌, ◌⊎◌, Bool, true, false, cond, ◌&&◌, eqb, ltb, length}
use Rattle.std.proofs.Math.Path.{refl}
use Rattle.std.proofs.Math.Logic.{inl, inr}
use Rattle.std.proofs.Math.Bool.{not}
use Rattle.std.proofs.Math.Option.{Option, none, some}
use mathlib.Core.List.{List, []}
use Rattle.terms.specs.Numbers.{by_bool}
use Rattle.terms.specs.Term.{var, app, nil, cons, Term, Terms}
use Rattle.terms.specs.Term.Kind.{one as single, many as several}
use Rattle.terms.specs.Bindings.{Bindings, start}
use Rattle.term_parser.specs.Source.{Arity, one, many}
use Rattle.term_parser.specs.Standing.{Written, number, meta, called, applied, nil as nothing, cons as more, size}
use Rattle.names.specs.Names.{Name}
use Rattle.names.specs.Symbols.{Symbol, symbol_number, symbol_at}
use Rattle.patterns.specs.Patterns.{when, is_ctor, zero_name, succ_name, first, rest}
use Rattle.resolution.specs.Rules.{Rule, rule_at_lem, Tree, leaf, joined}
use Rattle.loader.specs.Signature.{Signature}
use Rattle.evaluation.specs.Matching.{Fitted, misfit, fitted, bind_of, Built, barred, built, instantiate_of, front, last}
use Rattle.evaluation.specs.Calls.{Spent, Called, refused, returned, Walked, stopped, if_called, if_result, if_arguments}
use Rattle.evaluation.specs.Calls.{under_first, premises_of, concluded, patterns_of, taken_or, tried, clauses_of, max_calls, call_of}
use Rattle.evaluation.specs.Expressions.{max_depth, Evaluated, failed, evaluated, if_evaluated, sort_in, misuse, unless, behind}
use Rattle.evaluation.specs.Expressions.{around, within, tower_of, numeral_of, apply_of, with_symbol, expression_of}
use Rattle.evaluation.specs.Expressions.{evaluate_of, nothing_spent}

-- x is z, or else it is y.
abbrev pub Unless : {A : Type 0} → A → A → A → Type 0
Unless z x y = (x ≡ z) ⊎ (x ≡ y)

unless_map : {A B : Type 0} (z x y : A) (w : B) (f : A → B) → f z ≡ w → Unless z x y → Unless w (f x) (f y)
unless_map z x y w f e (inl h) = inl (ap f h ∙ e)
unless_map z x y w f e (inr h) = inr (ap f h)

-- Calls: one function for the calls of premises beside another that only 29 tells apart.
module _ (limit : ℕ) (symbols : List Symbol) (rules : List Rule) (call deeper : ℕ → Terms → Spent → Called)
    (same : (g : ℕ) (vs : Terms) (c : Spent) → Unless (refused 29) (call g vs c) (deeper g vs c)) where
  -- What follows a premise's call, on either side.
  module _ (result : Term → Fitted) (next after : Bindings → Spent → Walked)
      (later : (γ : Bindings) (d : Spent) → Unless (stopped 29) (next γ d) (after γ d)) where
    abbrev onward : (Bindings → Spent → Walked) → Term → Tree single → Spent → Walked
    onward to v p d = if_result (result v) (λ γ. under_first p (to γ d))

    result_same : (p : Tree single) (d : Spent) (o : Fitted)
        → Unless (stopped 29) (if_result o (λ γ. under_first p (next γ d))) (if_result o (λ γ. under_first p (after γ d)))
    result_same p d misfit = inr refl
    result_same p d (fitted γ) = unless_map (stopped 29) (next γ d) (after γ d) (stopped 29) (under_first p) refl (later γ d)

    answer_same : (x : Called) → Unless (stopped 29) (if_called x (onward next)) (if_called x (onward after))
    answer_same (refused e) = inr refl
    answer_same (returned v p d) = result_same p d (result v)

    premise_same : (x y : Called) → Unless (refused 29) x y → Unless (stopped 29) (if_called x (onward next)) (if_called y (onward after))
    premise_same x y (inl e) = inl (ap (λ o. if_called o (onward next)) e)
    premise_same x y (inr e) = rw (← e) (answer_same x)

    arguments_same : (g : ℕ) (c : Spent) (o : Built several)
        → Unless (stopped 29) (if_arguments o (λ vs used. if_called (call g vs (record { calls = c.calls; words = used })) (onward next)))
        (if_arguments o (λ vs used. if_called (deeper g vs (record { calls = c.calls; words = used })) (onward after)))
    arguments_same g c (barred e) = inr refl
    arguments_same g c (built vs used) =
        let d : Spent = record { calls = c.calls; words = used } in
        premise_same (call g vs d) (deeper g vs d) (same g vs d)

  premises_same : (ps : Terms) (β : Bindings) (c : Spent)
      → Unless (stopped 29) (premises_of limit call ps β c) (premises_of limit deeper ps β c)
  unfolding premises_of
  premises_same nil β c = inr refl
  premises_same (cons (var x) ps) β c = inr refl
  premises_same (cons (app g ts) ps) β c =
      arguments_same (λ v. bind_of (last ts) v β) (λ γ d. premises_of limit call ps γ d) (λ γ d. premises_of limit deeper ps γ d)
      (λ γ d. premises_same ps γ d) g c (instantiate_of limit β (front ts) c.words)

  clause_same : (i : ℕ) (R : Rule) (o : Fitted) (c : Spent) (next after : ℕ → Called) → Unless (refused 29) (next 0) (after 0)
      → Unless (refused 29) (taken_or limit call i R o c next) (taken_or limit deeper i R o c after)
  clause_same i R misfit c next after h = h
  clause_same i R (fitted β) c next after h =
      unless_map (stopped 29) (premises_of limit call R.premises β c) (premises_of limit deeper R.premises β c) (refused 29)
      (λ o. concluded limit i R.conclusion o) refl (premises_same R.premises β c)

  try_same : (i : ℕ) (o : Option Rule) (vs : Terms) (c : Spent) (next after : ℕ → Called) → Unless (refused 29) (next 0) (after 0)
      → Unless (refused 29) (tried limit call i o vs c next) (tried limit deeper i o vs c after)
  try_same i none vs c next after h = inr refl
  try_same i (some R) vs c next after h = clause_same i R (bind_of (patterns_of R.conclusion) vs start) c next after h

  clauses_same : (n i : ℕ) (vs : Terms) (c : Spent)
      → Unless (refused 29) (clauses_of limit symbols rules call n i vs c) (clauses_of limit symbols rules deeper n i vs c)
  unfolding clauses_of
  clauses_same zero i vs c = inr refl
  clauses_same (suc n) i vs c =
      try_same i (rule_at_lem rules i) vs c (λ _. clauses_of limit symbols rules call n (suc i) vs c)
      (λ _. clauses_of limit symbols rules deeper n (suc i) vs c)
      (clauses_same n (suc i) vs c)

module _ (limit : ℕ) (symbols : List Symbol) (rules : List Rule) where
  -- With more nested calls allowed a call comes to the same, unless it was refused by 29.
  pub call_deeper : (levels levels' f : ℕ) (vs : Terms) (c : Spent) → levels ≤ levels'
      → (call_of limit symbols rules levels f vs c ≡ refused 29)
      ⊎ (call_of limit symbols rules levels f vs c ≡ call_of limit symbols rules levels' f vs c)
  unfolding call_of
  call_deeper zero levels' f vs c l = inl refl
  call_deeper (suc n) zero f vs c l = absurd (omega arith)
  call_deeper (suc n) (suc m) f vs c l =
      by_bool (ltb c.calls max_calls)
      (λ e. rw e (clauses_same limit symbols rules (call_of limit symbols rules n) (call_of limit symbols rules m)
      (λ g us d. call_deeper n m g us d (omega arith))
      (symbol_at symbols f).clauses (symbol_at symbols f).first vs (record { calls = suc c.calls; words = c.words })))
      (λ e. rw e (inr refl))

  -- Written terms: the second depth is not greater.
  module _ (depth less : ℕ) (l : less ≤ depth) where
    within_same : (next after : ℕ → Evaluated one) → Unless (failed 29) (next 0) (after 0)
        → Unless (failed 29) (within depth next) (within less after)
    within_same next after h = by_bool (ltb max_depth depth)
        (λ e. rw e (inl refl))
        (λ e. let m = ltb-false max_depth depth e in
        let e' : ltb max_depth less ≡ false = le-ltb max_depth less (omega arith) in
        rw (e, e') h)

    misuse_same : (b : Bool) (k n : ℕ) (next : ℕ → Evaluated one)
        → Unless (failed 29) (unless (cond b 21 (cond (ltb max_depth (depth + n)) 29 k)) next)
        (unless (cond b 21 (cond (ltb max_depth (less + n)) 29 k)) next)
    misuse_same true k n next = inr refl
    misuse_same false k n next = by_bool (ltb max_depth (depth + n))
        (λ e. rw e (inl refl))
        (λ e. let m = ltb-false max_depth (depth + n) e in
        let e' : ltb max_depth (less + n) ≡ false = le-ltb max_depth (less + n) (omega arith) in
        rw (e, e') (inr refl))

    numeral_same : (n : ℕ) (c : Spent)
        → Unless (failed 29) (numeral_of limit symbols rules n depth c) (numeral_of limit symbols rules n less c)
    unfolding numeral_of
    numeral_same n c =
        let y = symbol_number symbols succ_name in
        let z = symbol_number symbols zero_name in
        by_bool (is_ctor symbols zero_name && is_ctor symbols succ_name)
        (λ e. rw e (misuse_same (ltb 0 n && not (eqb (length (symbol_at symbols y).inputs) 1))
        (cond (eqb (length (symbol_at symbols z).inputs) 0) 0 21) n
        (λ _. around leaf c.calls (tower_of limit symbols rules y z n c.words))))
        (λ e. rw e (inr refl))

    unless_same : (e : ℕ) (next after : ℕ → Evaluated one) → Unless (failed 29) (next 0) (after 0)
        → Unless (failed 29) (unless e next) (unless e after)
    unless_same zero next after h = h
    unless_same (suc e) next after h = inr refl

    symbol_same : (w : Name) (k : ℕ) (next after : ℕ → Evaluated one)
        → Unless (failed 29) (next (symbol_number symbols w)) (after (symbol_number symbols w))
        → Unless (failed 29) (with_symbol limit symbols rules w k next) (with_symbol limit symbols rules w k after)
    symbol_same w k next after h =
        let i = symbol_number symbols w in
        by_bool (ltb i (length symbols))
        (λ e. rw e (unless_same (misuse (symbol_at symbols i) k) (λ _. next i) (λ _. after i) h))
        (λ e. rw e (inr refl))

    applied_same : (i : ℕ) (o : Evaluated many)
        → Unless (failed 29) (apply_of limit symbols rules i depth o) (apply_of limit symbols rules i less o)
    applied_same i (failed e) = inr refl
    applied_same i (evaluated vs ps c) = by_bool (eqb (symbol_at symbols i).function 1)
        (λ e. rw e (unless_map (refused 29) (call_of limit symbols rules (max_depth - depth) i vs c)
        (call_of limit symbols rules (max_depth - less) i vs c)
        (failed 29) (behind ps) refl (call_deeper (max_depth - depth) (max_depth - less) i vs c (omega arith))))
        (λ e. rw e (inr refl))

    apply_same : (i : ℕ) (x y : Evaluated many) → Unless (failed 29) x y
        → Unless (failed 29) (apply_of limit symbols rules i depth x) (apply_of limit symbols rules i less y)
    apply_same i x y (inl e) = inl (ap (apply_of limit symbols rules i depth) e)
    apply_same i x y (inr e) = rw (← e) (applied_same i x)

  -- A term, and then those behind it.
  abbrev behind_first : ℕ → (Spent → Evaluated many) → Term → Tree several → Spent → Evaluated many
  behind_first sort next v ps d =
      when (eqb (sort_in symbols v) sort) (λ _. if_evaluated (next d) (λ vs qs e. evaluated (cons v vs) (joined ps qs) e)) (λ _. failed 33)

  module _ (sort : ℕ) (next after : Spent → Evaluated many) (later : (d : Spent) → Unless (failed 29) (next d) (after d)) where
    first_same : (x : Evaluated one) → Unless (failed 29) (if_evaluated x (behind_first sort next)) (if_evaluated x (behind_first sort after))
    first_same (failed e) = inr refl
    first_same (evaluated v ps d) = by_bool (eqb (sort_in symbols v) sort)
        (λ e. rw e (unless_map (failed 29) (next d) (after d) (failed 29)
        (λ o. if_evaluated o (λ vs qs e. evaluated (cons v vs) (joined ps qs) e)) refl (later d)))
        (λ e. rw e (inr refl))

    both_same : (x y : Evaluated one) → Unless (failed 29) x y
        → Unless (failed 29) (if_evaluated x (behind_first sort next)) (if_evaluated y (behind_first sort after))
    both_same x y (inl e) = inl (ap (λ o. if_evaluated o (behind_first sort next)) e)
    both_same x y (inr e) = rw (← e) (first_same x)

  -- From a smaller depth a term comes to the same, unless it was refused by 29.
  pub expression_deeper : {n : Arity} (t : Written n) (sorts : List ℕ) (depth less : ℕ) (c : Spent) → less ≤ depth
      → (expression_of limit symbols rules t sorts depth c ≡ failed 29)
      ⊎ (expression_of limit symbols rules t sorts depth c ≡ expression_of limit symbols rules t sorts less c)
  unfolding expression_of
  expression_deeper (number v) sorts depth less c l =
      within_same depth less l (λ _. numeral_of limit symbols rules v depth c) (λ _. numeral_of limit symbols rules v less c)
      (numeral_same depth less l v c)
  expression_deeper (meta w) sorts depth less c l = within_same depth less l (λ _. failed 31) (λ _. failed 31) (inr refl)
  expression_deeper (called w) sorts depth less c l =
      let next : ℕ → ℕ → Evaluated one = λ k i. apply_of limit symbols rules i k (evaluated nil leaf c) in
      within_same depth less l (λ _. with_symbol limit symbols rules w 0 (next depth)) (λ _. with_symbol limit symbols rules w 0 (next less))
      (symbol_same depth less l w 0 (next depth) (next less) (applied_same depth less l (symbol_number symbols w) (evaluated nil leaf c)))
  expression_deeper (applied w ts) sorts depth less c l =
      let arguments : ℕ → ℕ → Evaluated many = λ k i. expression_of limit symbols rules ts (symbol_at symbols i).inputs (suc k) c in
      let next : ℕ → ℕ → Evaluated one = λ k i. apply_of limit symbols rules i k (arguments k i) in
      let i : ℕ = symbol_number symbols w in
      within_same depth less l (λ _. with_symbol limit symbols rules w (size ts) (next depth))
      (λ _. with_symbol limit symbols rules w (size ts) (next less))
      (symbol_same depth less l w (size ts) (next depth) (next less)
      (apply_same depth less l i (arguments depth i) (arguments less i)
      (expression_deeper ts (symbol_at symbols i).inputs (suc depth) (suc less) c (omega arith))))
  expression_deeper nothing sorts depth less c l = inr refl
  expression_deeper (more t ts) sorts depth less c l =
      both_same (first sorts) (λ d. expression_of limit symbols rules ts (rest sorts) depth d)
      (λ d. expression_of limit symbols rules ts (rest sorts) less d)
      (λ d. expression_deeper ts (rest sorts) depth less d l)
      (expression_of limit symbols rules t [] depth c) (expression_of limit symbols rules t [] less c)
      (expression_deeper t [] depth less c l)

-- A term that has an answer at some depth has the same answer in an evaluation, which is at depth 0.
pub evaluation_deeper : (limit : ℕ) (S : Signature) (t : Written one) (depth : ℕ)
    → (expression_of limit S.symbols S.rules t [] depth nothing_spent ≡ failed 29)
    ⊎ (expression_of limit S.symbols S.rules t [] depth nothing_spent ≡ evaluate_of limit S t)
evaluation_deeper limit S t depth = expression_deeper limit S.symbols S.rules t [] depth 0 nothing_spent (omega arith)
