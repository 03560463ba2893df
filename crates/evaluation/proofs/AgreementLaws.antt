-- Evaluations of one term agree (document 01, "Evaluated terms" and 37): what succeeds with some depth, calls and words behind it and
-- some limit on words succeeds with less behind it and a greater limit too, with the same value, the same trees and as much spent. So
-- any two that succeed have the same answer.
-- The definitions that it speaks of are in specs/AgreementLaws.
use Prim.Native.Nat.{ℕ, zero, suc, ◌+◌, ◌-◌, ◌≤◌, min, max}
use native.Mathlib.Omega.{arith}
use Rattle.std.specs.Prelude.{◌≡◌, Bool, false, cond, ◌&&◌, eqb, length}
use Rattle.std.proofs.Math.Path.{refl}
use Rattle.std.proofs.Common.{ap, ap₂, ◌∙◌}
use Rattle.std.proofs.Math.Bool.{true, not}
use Rattle.std.proofs.Math.Option.{Option, none, some}
use mathlib.Core.List.{List, []}
use Rattle.std.proofs.Math.Dec.{ltb}
use borrow.Author.Tests.{ltb-true, ltb-false, lt-ltb, le-ltb}
use Rattle.terms.specs.Numbers.{by_bool}
use Rattle.terms.specs.Term.{Kind, Syn, var, app, nil, cons, Term, Terms, count}
use Rattle.terms.specs.Term.Kind.{one as single, many as several}
use Rattle.terms.specs.Bindings.{Bindings, start, lookup}
use Rattle.term_parser.specs.Source.{Arity, one, many}
use Rattle.term_parser.specs.Standing.{Written, number, meta, called, applied, nil as nothing, cons as more, size}
use Rattle.names.specs.Names.{Name}
use Rattle.names.specs.Symbols.{Symbol, symbol_number, symbol_at}
use Rattle.patterns.specs.Patterns.{when, kind_of, is_ctor, zero_name, succ_name, first, rest}
use Rattle.resolution.specs.Rules.{Rule, rule_at_lem, Tree, leaf, joined}
use Rattle.loader.specs.Signature.{Signature}
use Rattle.evaluation.specs.Matching.{Fitted, misfit, fitted, bind_of, Built, barred, built, if_built, build_node, value_of}
use Rattle.evaluation.specs.Matching.{instantiate_of, front, last}
use Rattle.evaluation.specs.Calls.{Spent, Called, refused, returned, Walked, stopped, walked, if_called, if_result, if_arguments}
use Rattle.evaluation.specs.Calls.{under_first, premises_of, concluded_by, concluded, patterns_of, taken_or, tried, clauses_of}
use Rattle.evaluation.specs.Calls.{max_calls, call_of}
use Rattle.evaluation.specs.Expressions.{max_depth, Evaluated, failed, evaluated, if_evaluated, sort_in, misuse, unless, behind}
use Rattle.evaluation.specs.Expressions.{around, within, tower_of, numeral_of, apply_of, with_symbol, expression_of}
use Rattle.evaluation.specs.Expressions.{evaluate_of, nothing_spent}
use Rattle.evaluation.specs.CallLaws.{with_call, with_words}
use Rattle.evaluation.specs.AgreementLaws.{AsMuch, NoMore}

nothing_more : (c c' : Spent) → AsMuch c c c' c'
nothing_more c c' = record { calls = omega arith; words = omega arith }

as_much_on : {c d e c' d' e' : Spent} → AsMuch c d c' d' → AsMuch d e d' e' → AsMuch c e c' e'
as_much_on a b = record {
  calls = let h = a.calls in let k = b.calls in omega arith;
  words = let h = a.words in let k = b.words in omega arith;
}

no_more_on : {c d c' d' : Spent} → NoMore c' c → AsMuch c d c' d' → NoMore d' d
no_more_on l a = record {
  calls = let h = a.calls in let k = l.calls in omega arith;
  words = let h = a.words in let k = l.words in omega arith;
}

-- What came out of a step comes out of another too, with as much spent.
abbrev Rebuilds : {s : Kind} → ℕ → ℕ → Built s → Built s → Type 0
Rebuilds used used' (barred e) y = Unit {0}
Rebuilds used used' (built t u) y = (u' : ℕ) × (y ≡ built t u') × (u' + used ≡ u + used')

abbrev Rewalks : Spent → Spent → Walked → Walked → Type 0
Rewalks c c' (stopped e) y = Unit {0}
Rewalks c c' (walked β ps d) y = (d' : Spent) × (y ≡ walked β ps d') × AsMuch c d c' d'

abbrev Returns : Spent → Spent → Called → Called → Type 0
Returns c c' (refused e) y = Unit {0}
Returns c c' (returned v p d) y = (d' : Spent) × (y ≡ returned v p d') × AsMuch c d c' d'

abbrev Reevaluates : {n : Arity} → Spent → Spent → Evaluated n → Evaluated n → Type 0
Reevaluates c c' (failed e) y = Unit {0}
Reevaluates c c' (evaluated v ps d) y = (d' : Spent) × (y ≡ evaluated v ps d') × AsMuch c d c' d'

-- One step behind another.
rebuilds_on : {s : Kind} (a b a' b' : ℕ) (x y : Built s) → b' + a ≡ b + a' → Rebuilds b b' x y → Rebuilds a a' x y
rebuilds_on a b a' b' (barred e) y q h = tt
rebuilds_on a b a' b' (built t u) y q h = let r = h.2 in (h.0, h.1, omega arith)

rewalks_on : (c d c' d' : Spent) (x y : Walked) → AsMuch c d c' d' → Rewalks d d' x y → Rewalks c c' x y
rewalks_on c d c' d' (stopped e) y a h = tt
rewalks_on c d c' d' (walked β ps e) y a h = (h.0, h.1, as_much_on a h.2)

returns_on : (c d c' d' : Spent) (x y : Called) → AsMuch c d c' d' → Returns d d' x y → Returns c c' x y
returns_on c d c' d' (refused e) y a h = tt
returns_on c d c' d' (returned v p e) y a h = (h.0, h.1, as_much_on a h.2)

reevaluates_on : {n : Arity} (c d c' d' : Spent) (x y : Evaluated n) → AsMuch c d c' d' → Reevaluates d d' x y → Reevaluates c c' x y
reevaluates_on c d c' d' (failed e) y a h = tt
reevaluates_on c d c' d' (evaluated v ps e) y a h = (h.0, h.1, as_much_on a h.2)

module _ (limit limit' : ℕ) (greater : limit ≤ limit') where
  -- Building

  node_again : (f : ℕ) (ts : Terms) (u u' : ℕ) → u' ≤ u → Rebuilds u u' (build_node limit f ts u) (build_node limit' f ts u')
  node_again f ts u u' l = by_bool (ltb limit (u + suc (count ts)))
      (λ e. rw e tt)
      (λ e. let m = ltb-false limit (u + suc (count ts)) e in
      let e' : ltb limit' (u' + suc (count ts)) ≡ false = le-ltb limit' (u' + suc (count ts)) (omega arith) in
      rw (e, e') (u' + suc (count ts), refl, omega arith))

  value_again : (o : Option Term) (u u' : ℕ) → Rebuilds u u' (value_of o u) (value_of o u')
  value_again none u u' = tt
  value_again (some t) u u' = (u', refl, omega arith)

  then_again : {s r : Kind} (u u' : ℕ) (x y : Built s) (next after : Syn s → ℕ → Built r) → u' ≤ u → Rebuilds u u' x y
      → ((t : Syn s) (w w' : ℕ) → w' ≤ w → Rebuilds w w' (next t w) (after t w')) → Rebuilds u u' (if_built x next) (if_built y after)
  then_again u u' (barred e) y next after l h k = tt
  then_again u u' (built t w) y next after l h k =
      let q = h.2 in
      rw h.1 (rebuilds_on u w u' h.0 (next t w) (after t h.0) q (k t w h.0 (omega arith)))

  instantiate_again : {s : Kind} (β : Bindings) (p : Syn s) (u u' : ℕ) → u' ≤ u
      → Rebuilds u u' (instantiate_of limit β p u) (instantiate_of limit' β p u')
  unfolding instantiate_of
  instantiate_again β (var x) u u' l = value_again (lookup β x) u u'
  instantiate_again β (app f ps) u u' l =
      then_again u u' (instantiate_of limit β ps u) (instantiate_of limit' β ps u') (λ ts w. build_node limit f ts w)
      (λ ts w. build_node limit' f ts w) l
      (instantiate_again β ps u u' l) (λ ts w w' m. node_again f ts w w' m)
  instantiate_again β nil u u' l = (u', refl, omega arith)
  instantiate_again β (cons p ps) u u' l =
      then_again u u' (instantiate_of limit β p u) (instantiate_of limit' β p u')
      (λ t w. if_built (instantiate_of limit β ps w) (λ ts v. built (cons t ts) v))
      (λ t w. if_built (instantiate_of limit' β ps w) (λ ts v. built (cons t ts) v)) l
      (instantiate_again β p u u' l)
      (λ t w w' m. then_again w w' (instantiate_of limit β ps w) (instantiate_of limit' β ps w') (λ ts v. built (cons t ts) v)
      (λ ts v. built (cons t ts) v) m
      (instantiate_again β ps w w' m) (λ ts v v' n. (v', refl, omega arith)))

  -- Calls

  module _ (symbols : List Symbol) (rules : List Rule) where
    module _ (call call' : ℕ → Terms → Spent → Called)
        (again : (g : ℕ) (vs : Terms) (c c' : Spent) → NoMore c' c → Returns c c' (call g vs c) (call' g vs c')) where
      -- What follows a premise's call, on either side.
      module _ (result : Term → Fitted) (next after : Bindings → Spent → Walked)
          (later : (γ : Bindings) (d d' : Spent) → NoMore d' d → Rewalks d d' (next γ d) (after γ d')) where
        abbrev onward : (Bindings → Spent → Walked) → Term → Tree single → Spent → Walked
        onward to v p d = if_result (result v) (λ γ. under_first p (to γ d))

        first_again : (p : Tree single) (d d' : Spent) (x y : Walked) → Rewalks d d' x y → Rewalks d d' (under_first p x) (under_first p y)
        first_again p d d' (stopped e) y h = tt
        first_again p d d' (walked β ps e) y h = (h.0, ap (under_first p) h.1, h.2)

        result_again : (p : Tree single) (d d' : Spent) (o : Fitted) → NoMore d' d
            → Rewalks d d' (if_result o (λ γ. under_first p (next γ d))) (if_result o (λ γ. under_first p (after γ d')))
        result_again p d d' misfit l = tt
        result_again p d d' (fitted γ) l = first_again p d d' (next γ d) (after γ d') (later γ d d' l)

        premise_again : (c c' : Spent) (x y : Called) → NoMore c' c → Returns c c' x y
            → Rewalks c c' (if_called x (onward next)) (if_called y (onward after))
        premise_again c c' (refused e) y l h = tt
        premise_again c c' (returned v p d) y l h =
            rw h.1 (rewalks_on c d c' h.0 (onward next v p d) (onward after v p h.0) h.2
            (result_again p d h.0 (result v) (no_more_on l h.2)))

        arguments_again : (g : ℕ) (c c' : Spent) (x y : Built several) → NoMore c' c → Rebuilds c.words c'.words x y
            → Rewalks c c' (if_arguments x (λ vs used. if_called (call g vs (with_words c used)) (onward next)))
            (if_arguments y (λ vs used. if_called (call' g vs (with_words c' used)) (onward after)))
        arguments_again g c c' (barred e) y l h = tt
        arguments_again g c c' (built vs used) y l h =
            let d : Spent = with_words c used in
            let d' : Spent = with_words c' h.0 in
            let a : AsMuch c d c' d' = record { calls = omega arith; words = h.2 } in
            let m : NoMore d' d = no_more_on l a in
            rw h.1 (rewalks_on c d c' d' (if_called (call g vs d) (onward next)) (if_called (call' g vs d') (onward after)) a
            (premise_again d d' (call g vs d) (call' g vs d') m (again g vs d d' m)))

      premises_again : (ps : Terms) (β : Bindings) (c c' : Spent) → NoMore c' c
          → Rewalks c c' (premises_of limit call ps β c) (premises_of limit' call' ps β c')
      unfolding premises_of
      premises_again nil β c c' l = (c', refl, nothing_more c c')
      premises_again (cons (var x) ps) β c c' l = tt
      premises_again (cons (app g ts) ps) β c c' l =
          arguments_again (λ v. bind_of (last ts) v β) (λ γ d. premises_of limit call ps γ d) (λ γ d. premises_of limit' call' ps γ d)
          (λ γ d d' m. premises_again ps γ d d' m) g c c'
          (instantiate_of limit β (front ts) c.words) (instantiate_of limit' β (front ts) c'.words) l
          (instantiate_again β (front ts) c.words c'.words l.words)

      conclusion_again : (i : ℕ) (ps : Tree several) (d d' : Spent) (x y : Built single) → Rebuilds d.words d'.words x y
          → Returns d d' (concluded_by i ps d.calls x) (concluded_by i ps d'.calls y)
      conclusion_again i ps d d' (barred e) y h = tt
      conclusion_again i ps d d' (built (var x) used) y h = tt
      conclusion_again i ps d d' (built (app f ts) used) y h =
          (with_words d' h.0, ap (concluded_by i ps d'.calls) h.1, record { calls = omega arith; words = h.2 })

      walk_again : (i : ℕ) (t : Term) (c c' : Spent) (x y : Walked) → NoMore c' c → Rewalks c c' x y
          → Returns c c' (concluded limit i t x) (concluded limit' i t y)
      walk_again i t c c' (stopped e) y l h = tt
      walk_again i t c c' (walked β ps d) y l h =
          let d' : Spent = h.0 in
          let m : NoMore d' d = no_more_on l h.2 in
          rw h.1 (returns_on c d c' d' (concluded limit i t (walked β ps d)) (concluded limit' i t (walked β ps d')) h.2
          (conclusion_again i ps d d' (instantiate_of limit β t d.words) (instantiate_of limit' β t d'.words)
          (instantiate_again β t d.words d'.words m.words)))

      clause_again : (i : ℕ) (R : Rule) (o : Fitted) (c c' : Spent) (next after : ℕ → Called) → NoMore c' c
          → Returns c c' (next 0) (after 0)
          → Returns c c' (taken_or limit call i R o c next) (taken_or limit' call' i R o c' after)
      clause_again i R misfit c c' next after l h = h
      clause_again i R (fitted β) c c' next after l h =
          walk_again i R.conclusion c c' (premises_of limit call R.premises β c) (premises_of limit' call' R.premises β c') l
          (premises_again R.premises β c c' l)

      try_again : (i : ℕ) (o : Option Rule) (vs : Terms) (c c' : Spent) (next after : ℕ → Called) → NoMore c' c
          → Returns c c' (next 0) (after 0)
          → Returns c c' (tried limit call i o vs c next) (tried limit' call' i o vs c' after)
      try_again i none vs c c' next after l h = tt
      try_again i (some R) vs c c' next after l h = clause_again i R (bind_of (patterns_of R.conclusion) vs start) c c' next after l h

      clauses_again : (n i : ℕ) (vs : Terms) (c c' : Spent) → NoMore c' c
          → Returns c c' (clauses_of limit symbols rules call n i vs c) (clauses_of limit' symbols rules call' n i vs c')
      unfolding clauses_of
      clauses_again zero i vs c c' l = tt
      clauses_again (suc n) i vs c c' l =
          try_again i (rule_at_lem rules i) vs c c' (λ _. clauses_of limit symbols rules call n (suc i) vs c)
          (λ _. clauses_of limit' symbols rules call' n (suc i) vs c') l
          (clauses_again n (suc i) vs c c' l)

    calls_again : (levels levels' f : ℕ) (vs : Terms) (c c' : Spent) → levels ≤ levels' → NoMore c' c
        → Returns c c' (call_of limit symbols rules levels f vs c) (call_of limit' symbols rules levels' f vs c')
    unfolding call_of
    calls_again zero levels' f vs c c' l m = tt
    calls_again (suc n) zero f vs c c' l m = absurd (omega arith)
    calls_again (suc n) (suc n') f vs c c' l m = by_bool (ltb c.calls max_calls)
        (λ e. let k = ltb-true c.calls max_calls e in
        let fewer = m.calls in
        let e' : ltb c'.calls max_calls ≡ true = lt-ltb c'.calls max_calls (omega arith) in
        rw (e, e') (returns_on c (with_call c) c' (with_call c')
        (clauses_of limit symbols rules (call_of limit symbols rules n) (symbol_at symbols f).clauses (symbol_at symbols f).first vs
        (with_call c))
        (clauses_of limit' symbols rules (call_of limit' symbols rules n') (symbol_at symbols f).clauses (symbol_at symbols f).first vs
        (with_call c'))
        (record { calls = omega arith; words = omega arith })
        (clauses_again (call_of limit symbols rules n) (call_of limit' symbols rules n')
        (λ g us d d' q. calls_again n n' g us d d' (omega arith) q)
        (symbol_at symbols f).clauses (symbol_at symbols f).first vs (with_call c) (with_call c')
        (record { calls = omega arith; words = m.words }))))
        (λ e. rw e tt)

    -- Written terms

    tower_again : (y z n u u' : ℕ) → u' ≤ u → Rebuilds u u' (tower_of limit symbols rules y z n u) (tower_of limit' symbols rules y z n u')
    unfolding tower_of
    tower_again y z zero u u' l = node_again z nil u u' l
    tower_again y z (suc n) u u' l =
        then_again u u' (tower_of limit symbols rules y z n u) (tower_of limit' symbols rules y z n u')
        (λ t w. when (eqb (sort_in symbols t) (first (symbol_at symbols y).inputs)) (λ _. build_node limit y (cons t nil) w)
        (λ _. barred 33))
        (λ t w. when (eqb (sort_in symbols t) (first (symbol_at symbols y).inputs)) (λ _. build_node limit' y (cons t nil) w)
        (λ _. barred 33)) l
        (tower_again y z n u u' l)
        (λ t w w' m. by_bool (eqb (sort_in symbols t) (first (symbol_at symbols y).inputs))
        (λ e. rw e (node_again y (cons t nil) w w' m)) (λ e. rw e tt))

    around_again : (ps : Tree several) (c c' : Spent) (x y : Built single) → Rebuilds c.words c'.words x y
        → Reevaluates c c' (around ps c.calls x) (around ps c'.calls y)
    around_again ps c c' (barred e) y h = tt
    around_again ps c c' (built t used) y h =
        (with_words c' h.0, ap (around ps c'.calls) h.1, record { calls = omega arith; words = h.2 })

    behind_again : (ps : Tree several) (c c' : Spent) (x y : Called) → Returns c c' x y → Reevaluates c c' (behind ps x) (behind ps y)
    behind_again ps c c' (refused e) y h = tt
    behind_again ps c c' (returned v p d) y h = (h.0, ap (behind ps) h.1, h.2)

    unless_again : (e : ℕ) (c c' : Spent) (next after : ℕ → Evaluated one) → Reevaluates c c' (next 0) (after 0)
        → Reevaluates c c' (unless e next) (unless e after)
    unless_again zero c c' next after h = h
    unless_again (suc e) c c' next after h = tt

    symbol_again : (w : Name) (k : ℕ) (c c' : Spent) (next after : ℕ → Evaluated one)
        → Reevaluates c c' (next (symbol_number symbols w)) (after (symbol_number symbols w))
        → Reevaluates c c' (with_symbol limit symbols rules w k next) (with_symbol limit' symbols rules w k after)
    symbol_again w k c c' next after h =
        let i = symbol_number symbols w in
        by_bool (ltb i (length symbols))
        (λ e. rw e (unless_again (misuse (symbol_at symbols i) k) c c' (λ _. next i) (λ _. after i) h))
        (λ e. rw e tt)

    -- A term, and then those behind it.
    abbrev behind_first : ℕ → (Spent → Evaluated many) → Term → Tree several → Spent → Evaluated many
    behind_first sort next v ps d =
        when (eqb (sort_in symbols v) sort) (λ _. if_evaluated (next d) (λ vs qs e. evaluated (cons v vs) (joined ps qs) e)) (λ _. failed 33)

    rest_again : (v : Term) (ps : Tree several) (d d' : Spent) (x y : Evaluated many) → Reevaluates d d' x y
        → Reevaluates {n = many} d d' (if_evaluated x (λ vs qs e. evaluated (cons v vs) (joined ps qs) e))
        (if_evaluated y (λ vs qs e. evaluated (cons v vs) (joined ps qs) e))
    rest_again v ps d d' (failed e) y h = tt
    rest_again v ps d d' (evaluated vs qs e) y h =
        (h.0, ap (λ o. if_evaluated o (λ us rs a. evaluated (cons v us) (joined ps rs) a)) h.1, h.2)

    both_again : (sort : ℕ) (next after : Spent → Evaluated many) → ((d d' : Spent) → NoMore d' d → Reevaluates d d' (next d) (after d'))
        → (c c' : Spent) (x y : Evaluated one) → NoMore c' c → Reevaluates c c' x y
        → Reevaluates {n = many} c c' (if_evaluated x (behind_first sort next)) (if_evaluated y (behind_first sort after))
    both_again sort next after later c c' (failed e) y l h = tt
    both_again sort next after later c c' (evaluated v ps d) y l h =
        let d' : Spent = h.0 in
        let m : NoMore d' d = no_more_on l h.2 in
        rw h.1 (reevaluates_on c d c' d' (behind_first sort next v ps d) (behind_first sort after v ps d') h.2
        (by_bool (eqb (sort_in symbols v) sort) (λ e. rw e (rest_again v ps d d' (next d) (after d') (later d d' m))) (λ e. rw e tt)))

    -- The second depth is not greater.
    module _ (depth less : ℕ) (l : less ≤ depth) where
      within_again : (c c' : Spent) (next after : ℕ → Evaluated one) → Reevaluates c c' (next 0) (after 0)
          → Reevaluates c c' (within depth next) (within less after)
      within_again c c' next after h = by_bool (ltb max_depth depth)
          (λ e. rw e tt)
          (λ e. let m = ltb-false max_depth depth e in
          let e' : ltb max_depth less ≡ false = le-ltb max_depth less (omega arith) in
          rw (e, e') h)

      misuse_again : (b : Bool) (k n : ℕ) (c c' : Spent) (next after : ℕ → Evaluated one) → Reevaluates c c' (next 0) (after 0)
          → Reevaluates c c' (unless (cond b 21 (cond (ltb max_depth (depth + n)) 29 k)) next)
          (unless (cond b 21 (cond (ltb max_depth (less + n)) 29 k)) after)
      misuse_again true k n c c' next after h = tt
      misuse_again false k n c c' next after h = by_bool (ltb max_depth (depth + n))
          (λ e. rw e tt)
          (λ e. let m = ltb-false max_depth (depth + n) e in
          let e' : ltb max_depth (less + n) ≡ false = le-ltb max_depth (less + n) (omega arith) in
          rw (e, e') (unless_again k c c' next after h))

      numeral_again : (n : ℕ) (c c' : Spent) → NoMore c' c
          → Reevaluates c c' (numeral_of limit symbols rules n depth c) (numeral_of limit' symbols rules n less c')
      unfolding numeral_of
      numeral_again n c c' m =
          let y = symbol_number symbols succ_name in
          let z = symbol_number symbols zero_name in
          by_bool (is_ctor symbols zero_name && is_ctor symbols succ_name)
          (λ e. rw e (misuse_again (ltb 0 n && not (eqb (length (symbol_at symbols y).inputs) 1))
          (cond (eqb (length (symbol_at symbols z).inputs) 0) 0 21) n c c'
          (λ _. around leaf c.calls (tower_of limit symbols rules y z n c.words))
          (λ _. around leaf c'.calls (tower_of limit' symbols rules y z n c'.words))
          (around_again leaf c c' (tower_of limit symbols rules y z n c.words) (tower_of limit' symbols rules y z n c'.words)
          (tower_again y z n c.words c'.words m.words))))
          (λ e. rw e tt)

      apply_again : (i : ℕ) (c c' : Spent) (x y : Evaluated many) → NoMore c' c → Reevaluates c c' x y
          → Reevaluates c c' (apply_of limit symbols rules i depth x) (apply_of limit' symbols rules i less y)
      apply_again i c c' (failed e) y m h = tt
      apply_again i c c' (evaluated vs ps d) y m h =
          let d' : Spent = h.0 in
          let k : NoMore d' d = no_more_on m h.2 in
          rw h.1 (reevaluates_on c d c' d' (apply_of limit symbols rules i depth (evaluated vs ps d))
          (apply_of limit' symbols rules i less (evaluated vs ps d')) h.2
          (by_bool (eqb (symbol_at symbols i).function 1)
          (λ e. rw e (behind_again ps d d' (call_of limit symbols rules (max_depth - depth) i vs d)
          (call_of limit' symbols rules (max_depth - less) i vs d')
          (calls_again (max_depth - depth) (max_depth - less) i vs d d' (omega arith) k)))
          (λ e. rw e (around_again ps d d' (build_node limit i vs d.words) (build_node limit' i vs d'.words)
          (node_again i vs d.words d'.words k.words)))))

    expressions_again : {n : Arity} (t : Written n) (sorts : List ℕ) (depth less : ℕ) (c c' : Spent) → less ≤ depth → NoMore c' c
        → Reevaluates c c' (expression_of limit symbols rules t sorts depth c) (expression_of limit' symbols rules t sorts less c')
    unfolding expression_of
    expressions_again (number v) sorts depth less c c' l m =
        within_again depth less l c c' (λ _. numeral_of limit symbols rules v depth c) (λ _. numeral_of limit' symbols rules v less c')
        (numeral_again depth less l v c c' m)
    expressions_again (meta w) sorts depth less c c' l m = within_again depth less l c c' (λ _. failed 31) (λ _. failed 31) tt
    expressions_again (called w) sorts depth less c c' l m =
        let next : ℕ → Evaluated one = λ i. apply_of limit symbols rules i depth (evaluated nil leaf c) in
        let after : ℕ → Evaluated one = λ i. apply_of limit' symbols rules i less (evaluated nil leaf c') in
        within_again depth less l c c' (λ _. with_symbol limit symbols rules w 0 next) (λ _. with_symbol limit' symbols rules w 0 after)
        (symbol_again w 0 c c' next after
        (apply_again depth less l (symbol_number symbols w) c c' (evaluated nil leaf c) (evaluated nil leaf c') m
        (c', refl, nothing_more c c')))
    expressions_again (applied w ts) sorts depth less c c' l m =
        let arguments : ℕ → Evaluated many = λ i. expression_of limit symbols rules ts (symbol_at symbols i).inputs (suc depth) c in
        let arguments' : ℕ → Evaluated many = λ i. expression_of limit' symbols rules ts (symbol_at symbols i).inputs (suc less) c' in
        let next : ℕ → Evaluated one = λ i. apply_of limit symbols rules i depth (arguments i) in
        let after : ℕ → Evaluated one = λ i. apply_of limit' symbols rules i less (arguments' i) in
        let i : ℕ = symbol_number symbols w in
        within_again depth less l c c' (λ _. with_symbol limit symbols rules w (size ts) next)
        (λ _. with_symbol limit' symbols rules w (size ts) after)
        (symbol_again w (size ts) c c' next after
        (apply_again depth less l i c c' (arguments i) (arguments' i) m
        (expressions_again ts (symbol_at symbols i).inputs (suc depth) (suc less) c c' (omega arith) m)))
    expressions_again nothing sorts depth less c c' l m = (c', refl, nothing_more c c')
    expressions_again (more t ts) sorts depth less c c' l m =
        both_again (first sorts) (λ d. expression_of limit symbols rules ts (rest sorts) depth d)
        (λ d. expression_of limit' symbols rules ts (rest sorts) less d)
        (λ d d' k. expressions_again ts (rest sorts) depth less d d' l k) c c'
        (expression_of limit symbols rules t [] depth c) (expression_of limit' symbols rules t [] less c') m
        (expressions_again t [] depth less c c' l m)

    -- A call that returns also returns with more nested calls allowed, with no more spent before it and with a greater limit on words:
    -- the same value and tree, and as much is spent.
    pub call_again : (levels levels' f : ℕ) (vs : Terms) (c c' : Spent) (v : Term) (p : Tree single) (d : Spent)
        → levels ≤ levels' → NoMore c' c → call_of limit symbols rules levels f vs c ≡ returned v p d
        → (d' : Spent) × (call_of limit' symbols rules levels' f vs c' ≡ returned v p d') × AsMuch c d c' d'
    call_again levels levels' f vs c c' v p d l m e = let h = calls_again levels levels' f vs c c' l m in rw e at h

    -- A term that has a value also has it from a smaller depth, with no more spent before it and with a greater limit on words: the
    -- same value and trees, and as much is spent.
    pub expression_again : {n : Arity} (t : Written n) (sorts : List ℕ) (depth less : ℕ) (c c' : Spent)
        (v : Syn (kind_of n)) (ps : Tree several) (d : Spent)
        → less ≤ depth → NoMore c' c → expression_of limit symbols rules t sorts depth c ≡ evaluated v ps d
        → (d' : Spent) × (expression_of limit' symbols rules t sorts less c' ≡ evaluated v ps d') × AsMuch c d c' d'
    expression_again t sorts depth less c c' v ps d l m e = let h = expressions_again t sorts depth less c c' l m in rw e at h

-- One answer
spent_same : (c d : Spent) → c.calls ≡ d.calls → c.words ≡ d.words → c ≡ d
spent_same c d a b = ap₂ spending a b
  where
    spending : ℕ → ℕ → Spent
    spending x y = record { calls = x; words = y }

-- An evaluation that has a value has the same answer, in all, with a greater limit on words.
pub evaluation_again : (limit limit' : ℕ) (S : Signature) (t : Written one) (v : Term) (ps : Tree several) (d : Spent) → limit ≤ limit'
    → evaluate_of limit S t ≡ evaluated v ps d → evaluate_of limit' S t ≡ evaluated v ps d
evaluation_again limit limit' S t v ps d l e =
    let equal : NoMore nothing_spent nothing_spent = record { calls = omega arith; words = omega arith } in
    let h = expression_again limit limit' l S.symbols S.rules t [] 0 0 nothing_spent nothing_spent v ps d (omega arith) equal e in
    let a = h.2.calls in
    let b = h.2.words in
    h.1 ∙ ap (evaluated v ps) (spent_same h.0 d (omega arith) (omega arith))

-- What is least of both.
abbrev least : Spent → Spent → Spent
least c e = record { calls = min c.calls e.calls; words = min c.words e.words }

least_left : (c e : Spent) → NoMore (least c e) c
least_left c e = record { calls = omega arith; words = omega arith }

least_right : (c e : Spent) → NoMore (least c e) e
least_right c e = record { calls = omega arith; words = omega arith }

same_evaluated : {n : Arity} (o : Evaluated n) (v w : Syn (kind_of n)) (ps qs : Tree several) (c d : Spent)
    → o ≡ evaluated v ps c → o ≡ evaluated w qs d → (v ≡ w) × (ps ≡ qs)
same_evaluated o v w ps qs c d a b = (cc, cc)

same_returned : (o : Called) (v w : Term) (p q : Tree single) (c d : Spent)
    → o ≡ returned v p c → o ≡ returned w q d → (v ≡ w) × (p ≡ q)
same_returned o v w p q c d a b = (cc, cc)

-- Each runs in one signature, with a limit, a depth or levels, and what was spent before, of its own; both also run with what suits both.
module _ (symbols : List Symbol) (rules : List Rule) (limit limit' : ℕ) (c c' d d' : Spent) where
  -- Two evaluations of one term that succeed agree in value and trees, whatever depth, calls, words and limit each began with.
  pub evaluations_agree : {n : Arity} (t : Written n) (sorts : List ℕ) (depth depth' : ℕ) (v v' : Syn (kind_of n)) (ps ps' : Tree several)
      → expression_of limit symbols rules t sorts depth c ≡ evaluated v ps d
      → expression_of limit' symbols rules t sorts depth' c' ≡ evaluated v' ps' d'
      → (v ≡ v') × (ps ≡ ps')
  evaluations_agree t sorts depth depth' v v' ps ps' a b =
      let most = max limit limit' in
      let less = min depth depth' in
      let h = expression_again limit most (omega arith) symbols rules t sorts depth less c (least c c') v ps d
      (omega arith) (least_left c c') a in
      let k = expression_again limit' most (omega arith) symbols rules t sorts depth' less c' (least c c') v' ps' d'
      (omega arith) (least_right c c') b in
      same_evaluated (expression_of most symbols rules t sorts less (least c c')) v v' ps ps' h.0 k.0 h.1 k.1

  -- Two calls of one function on the same values that return agree in value and tree.
  pub calls_agree : (f : ℕ) (vs : Terms) (levels levels' : ℕ) (v v' : Term) (p p' : Tree single)
      → call_of limit symbols rules levels f vs c ≡ returned v p d
      → call_of limit' symbols rules levels' f vs c' ≡ returned v' p' d'
      → (v ≡ v') × (p ≡ p')
  calls_agree f vs levels levels' v v' p p' a b =
      let most = max limit limit' in
      let deep = max levels levels' in
      let h = call_again limit most (omega arith) symbols rules levels deep f vs c (least c c') v p d (omega arith) (least_left c c') a in
      let k = call_again limit' most (omega arith) symbols rules levels' deep f vs c' (least c c') v' p' d'
      (omega arith) (least_right c c') b in
      same_returned (call_of most symbols rules deep f vs (least c c')) v v' p p' h.0 k.0 h.1 k.1
