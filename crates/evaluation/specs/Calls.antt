-- A call of a function on values (document 01, "Evaluated terms"; the Rust's `Evaluator::call`): the first clause that fits is taken for good, its premises
-- are calls in order, and the instantiated conclusion has the value as its last argument.
use Rattle.std.specs.Prelude.{ℕ, zero, suc, List, ltb}
use Rattle.std.proofs.Math.Option.{Option, none, some}
use Rattle.terms.specs.Term.{one, many, var, app, nil, cons, Term, Terms}
use Rattle.terms.specs.Bindings.{Bindings, start}
use Rattle.names.specs.Symbols.{Symbol, symbol_at}
use Rattle.patterns.specs.Patterns.{when}
use Rattle.resolution.specs.Rules.{Rule, rule_at_lem, Tree, node, leaf, ◌◂◌}
use Rattle.evaluation.specs.Matching.{Fitted, misfit, fitted, bind_of, Built, barred, built, instantiate_of, front, last}

-- What is counted in one evaluation: the calls made and the words used.
pub record Spent : Type 0 where
  pub calls : ℕ
  pub words : ℕ

-- The value of a call and its tree, with what is spent then; or a refusal.
pub data Called : Type 0 where
  refused : ℕ → Called
  returned : Term → Tree one → Spent → Called

-- The environment after a clause's premises, and their trees; or a refusal.
pub data Walked : Type 0 where
  stopped : ℕ → Walked
  walked : Bindings → Tree many → Spent → Walked

abbrev pub max_calls : ℕ
max_calls = 10000

abbrev pub if_called : Called → (Term → Tree one → Spent → Walked) → Walked
if_called (refused e) next = stopped e
if_called (returned v p c) next = next v p c

-- The result has to fit the premise's last argument: else 35.
abbrev pub if_result : Fitted → (Bindings → Walked) → Walked
if_result misfit next = stopped 35
if_result (fitted β) next = next β

abbrev pub if_arguments : Built many → (Terms → ℕ → Walked) → Walked
if_arguments (barred e) next = stopped e
if_arguments (built ts used) next = next ts used

abbrev pub under_first : Tree one → Walked → Walked
under_first p (stopped e) = stopped e
under_first p (walked β ps c) = walked β (p ◂ ps) c

-- The conclusion once the premises are done: its last argument is the value, and it is the root of the call's tree.
abbrev pub concluded_by : ℕ → Tree many → ℕ → Built one → Called
concluded_by i ps calls (barred e) = refused e
concluded_by i ps calls (built (var x) used) = refused 1
concluded_by i ps calls (built (app f ts) used) = returned (last ts) (node i (app f ts) ps) (record { calls = calls; words = used })

-- The patterns of a conclusion.
abbrev pub patterns_of : Term → Terms
patterns_of (var x) = nil
patterns_of (app f ps) = front ps

module _ (limit : ℕ) where
  -- The calls of the premises, in order, by the call at the next depth. (Each premise is a node of a function: the listed form asks it.)
  unfoldable pub premises_of : (ℕ → Terms → Spent → Called) → Terms → Bindings → Spent → Walked
  premises_of call nil β c = walked β leaf c
  premises_of call (cons (var x) ps) β c = stopped 1
  premises_of call (cons (app g ts) ps) β c =
      if_arguments (instantiate_of limit β (front ts) c.words) (λ vs used.
      if_called (call g vs (record { calls = c.calls; words = used })) (λ v p d.
      if_result (bind_of (last ts) v β) (λ γ. under_first p (premises_of call ps γ d))))

  abbrev pub concluded : ℕ → Term → Walked → Called
  concluded i conclusion (stopped e) = refused e
  concluded i conclusion (walked β ps c) = concluded_by i ps c.calls (instantiate_of limit β conclusion c.words)

  -- A clause that fits is taken; else the next one is tried.
  abbrev pub taken_or : (ℕ → Terms → Spent → Called) → ℕ → Rule → Fitted → Spent → (ℕ → Called) → Called
  taken_or call i R misfit c next = next 0
  taken_or call i R (fitted β) c next = concluded i R.conclusion (premises_of call R.premises β c)

  abbrev pub tried : (ℕ → Terms → Spent → Called) → ℕ → Option Rule → Terms → Spent → (ℕ → Called) → Called
  tried call i none vs c next = refused 1
  tried call i (some R) vs c next = taken_or call i R (bind_of (patterns_of R.conclusion) vs start) c next

  module _ (symbols : List Symbol) (rules : List Rule) where
    -- n clauses from the rule i on, in order: 34 where none fits.
    unfoldable pub clauses_of : (ℕ → Terms → Spent → Called) → ℕ → ℕ → Terms → Spent → Called
    clauses_of call zero i vs c = refused 34
    clauses_of call (suc n) i vs c = tried call i (rule_at_lem rules i) vs c (λ _. clauses_of call n (suc i) vs c)

    -- `call`, where so many nested calls are still allowed: 129 less the depth. 29 comes before 30, and both before any clause.
    unfoldable pub call_of : ℕ → ℕ → Terms → Spent → Called
    call_of zero f vs c = refused 29
    call_of (suc levels) f vs c =
        when (ltb c.calls max_calls)
        (λ _. clauses_of (call_of levels) (symbol_at symbols f).clauses (symbol_at symbols f).first vs (record { calls = suc c.calls; words = c.words }))
        (λ _. refused 30)
