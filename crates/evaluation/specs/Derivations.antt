-- The tree of a call is a derivation (document 01, "Evaluated terms"): each call is an application of its clause. Asked is the form of clauses: the conclusion
-- is a node of its function, and each premise a node, with a result as the last argument.
use Prim.Native.Nat.{ℕ, zero, suc, ◌+◌, ◌<◌}
use native.Mathlib.Omega.{arith}
use Rattle.std.specs.Prelude.{◌≡◌, List, ltb}
use Rattle.std.proofs.Math.Path.{refl}
use Rattle.std.proofs.Common.{sym, ap, ap₂, ◌∙◌, subst}
use Rattle.std.proofs.Math.Option.{Option, none, some}
use Rattle.terms.specs.Numbers.{by_bool}
use Rattle.terms.specs.Term.{var, app, nil, cons, Term, Terms, append, sub}
use Rattle.terms.specs.Term.Kind.{one as single, many as several}
use Rattle.terms.specs.TermLaws.{app_inj, sub_append}
use Rattle.terms.specs.Bindings.{Bindings, start}
use Rattle.names.specs.Symbols.{Symbol, symbol_at}
use Rattle.resolution.specs.Rules.{Rule, rule_at_lem, Tree, leaf, ◌◂◌, root, roots, joined, Derivation}
use Rattle.evaluation.specs.Matching.{Fitted, misfit, fitted, bind_of, Built, barred, built, instantiate_of, front, last}
use Rattle.evaluation.specs.MatchingLaws.{values_in, Keeps, keeps_all, keeps_on, Fits, bind_fits, Instantiates, instantiates, Some, front_last, front_sub, some_sub}
use Rattle.evaluation.specs.Calls.{Spent, Called, refused, returned, Walked, stopped, walked, if_called, if_result, if_arguments, under_first, premises_of, concluded_by, concluded, patterns_of, taken_or, tried, clauses_of, max_calls, call_of}

-- A node of f with at least one argument, its result.
abbrev pub JudgmentOf : ℕ → Term → Type 0
JudgmentOf f (var x) = ⊥
JudgmentOf f (app g ts) = (g ≡ f) × Some ts

abbrev pub Judgments : Terms → Type 0
Judgments nil = Unit {0}
Judgments (cons (var x) ps) = ⊥
Judgments (cons (app g ts) ps) = Some ts × Judgments ps

pub record ClauseOf (f : ℕ) (R : Rule) : Type 0 where
  pub concludes : JudgmentOf f R.conclusion
  pub premised : Judgments R.premises

-- The rules from i on, n of them, are clauses of f.
abbrev pub ClausesOf : List Rule → ℕ → ℕ → ℕ → Type 0
ClausesOf rules f n i = (j : ℕ) (R : Rule) → j < n → rule_at_lem rules (i + j) ≡ some R → ClauseOf f R

abbrev pub ClauseForm : List Symbol → List Rule → Type 0
ClauseForm symbols rules = (f : ℕ) → ClausesOf rules f (symbol_at symbols f).clauses (symbol_at symbols f).first

-- A judgment of f on these values, with the last argument v.
abbrev pub judgment : ℕ → Terms → Term → Term
judgment f vs v = app f (append vs (cons v nil))

module _ (limit : ℕ) (symbols : List Symbol) (rules : List Rule) where
  -- What a call returns: a derivation of its judgment.
  abbrev pub Derives : ℕ → Terms → Called → Type 0
  Derives f vs (refused e) = Unit {0}
  Derives f vs (returned v p c) = (root p ≡ judgment f vs v) × Derivation rules p

  -- What the premises come to: derivations of what they are under the values then known.
  abbrev pub DerivesAll : Terms → Bindings → Walked → Type 0
  DerivesAll ps β (stopped e) = Unit {0}
  DerivesAll ps β (walked γ ts c) = Keeps β γ × ((δ : Bindings) → Keeps γ δ → sub (values_in δ) ps ≡ roots ts) × Derivation rules ts

  module _ (call : ℕ → Terms → Spent → Called) (sound : (g : ℕ) (vs : Terms) (c : Spent) → Derives g vs (call g vs c)) where
    add_first : (g : ℕ) (ts : Terms) (ps : Terms) (β γ : Bindings) (p : Tree single) (o : Walked) → Keeps β γ
        → ((δ : Bindings) → Keeps γ δ → sub (values_in δ) (app g ts) ≡ root p) → Derivation rules p → DerivesAll ps γ o
        → DerivesAll (cons (app g ts) ps) β (under_first p o)
    add_first g ts ps β γ p (stopped e) k h d a = tt
    add_first g ts ps β γ p (walked δ qs c) k h d a = (keeps_on k a.0, λ ε m. ap₂ cons (h ε (keeps_on a.0 m)) (a.1 ε m), (d, a.2))

    -- A premise whose arguments are vs and whose result v fits is the judgment of its call.
    is_judgment : (g : ℕ) (ts vs : Terms) (v : Term) (δ : Bindings) → Some ts → sub (values_in δ) (front ts) ≡ vs → sub (values_in δ) (last ts) ≡ v
        → sub (values_in δ) (app g ts) ≡ judgment g vs v
    is_judgment g ts vs v δ s a b =
        ap (app g) (ap (sub (values_in δ)) (front_last ts s) ∙ sub_append (values_in δ) (front ts) (cons (last ts) nil) ∙ ap₂ (λ x y. append x (cons y nil)) a b)

    -- The steps of one premise: its arguments, its call, its result, and the premises behind it.
    module _ (g : ℕ) (ts ps : Terms) (β : Bindings) (s : Some ts)
        (later : (γ : Bindings) (d : Spent) → DerivesAll ps γ (premises_of limit call ps γ d)) where
      abbrev after : Spent → Tree single → Bindings → Walked
      after d p γ = under_first p (premises_of limit call ps γ d)

      result_derives : (vs : Terms) (v : Term) (p : Tree single) (d : Spent) (o : Fitted) → ((δ : Bindings) → Keeps β δ → sub (values_in δ) (front ts) ≡ vs)
          → root p ≡ judgment g vs v → Derivation rules p → Fits (last ts) v β o → DerivesAll (cons (app g ts) ps) β (if_result o (after d p))
      result_derives vs v p d misfit a r t f = tt
      result_derives vs v p d (fitted γ) a r t f =
          add_first g ts ps β γ p (premises_of limit call ps γ d) f.0
          (λ δ k. is_judgment g ts vs v δ s (a δ (keeps_on f.0 k)) (f.1 δ k) ∙ sym r) t (later γ d)

      premise_derives : (vs : Terms) (o : Called) → ((δ : Bindings) → Keeps β δ → sub (values_in δ) (front ts) ≡ vs) → Derives g vs o
          → DerivesAll (cons (app g ts) ps) β (if_called o (λ v p d. if_result (bind_of (last ts) v β) (after d p)))
      premise_derives vs (refused e) a h = tt
      premise_derives vs (returned v p d) a h = result_derives vs v p d (bind_of (last ts) v β) a h.0 h.1 (bind_fits (last ts) v β)

      arguments_derive : (calls : ℕ) (o : Built several) → Instantiates β (front ts) o
          → DerivesAll (cons (app g ts) ps) β (if_arguments o (λ vs used.
          if_called (call g vs (record { calls = calls; words = used })) (λ v p d. if_result (bind_of (last ts) v β) (after d p))))
      arguments_derive calls (barred e) a = tt
      arguments_derive calls (built vs used) a =
          premise_derives vs (call g vs (record { calls = calls; words = used })) a (sound g vs (record { calls = calls; words = used }))

    premises_derive : (ps : Terms) (β : Bindings) (c : Spent) → Judgments ps → DerivesAll ps β (premises_of limit call ps β c)
    unfolding premises_of
    premises_derive nil β c j = (keeps_all β, λ δ k. refl, tt)
    premises_derive (cons (var x) ps) β c j = tt
    premises_derive (cons (app g ts) ps) β c j =
        arguments_derive g ts ps β j.0 (λ γ d. premises_derive ps γ d j.1) c.calls (instantiate_of limit β (front ts) c.words) (instantiates limit β (front ts) c.words)

    -- The conclusion of f, instantiated under values that fitted its patterns, is the judgment.
    conclusion_is : (f g h : ℕ) (cs ts vs : Terms) (β : Bindings) → g ≡ f → Some cs → sub (values_in β) (front cs) ≡ vs → sub (values_in β) (app g cs) ≡ app h ts
        → app h ts ≡ judgment f vs (last ts)
    conclusion_is f g h cs ts vs β e s a b =
        let (p, q) = app_inj g h (sub (values_in β) cs) ts b in
        let n : Some ts = subst Some q (some_sub (values_in β) cs s) in
        let v : front ts ≡ vs = ap front (sym q) ∙ sym (front_sub (values_in β) cs) ∙ a in
        ap₂ app (sym p ∙ e) (front_last ts n ∙ ap (λ x. append x (cons (last ts) nil)) v)

    concluded_derives : (f i : ℕ) (R : Rule) (vs : Terms) (β : Bindings) (ps : Tree several) (calls : ℕ) (o : Built single) → rule_at_lem rules i ≡ some R
        → JudgmentOf f R.conclusion → sub (values_in β) (patterns_of R.conclusion) ≡ vs → sub (values_in β) R.premises ≡ roots ps
        → Derivation rules ps → Instantiates β R.conclusion o → Derives f vs (concluded_by i ps calls o)
    concluded_derives f i R vs β ps calls (barred e) r j a b d n = tt
    concluded_derives f i R vs β ps calls (built (var x) used) r j a b d n = tt
    concluded_derives f i R vs β ps calls (built (app h ts) used) r j a b d n = (
      head R.conclusion j a (n β (keeps_all β)),
      (record { rule = R; found = r; θ = values_in β; head = n β (keeps_all β); body = b }, d),
    )
      where
        head : (t : Term) → JudgmentOf f t → sub (values_in β) (patterns_of t) ≡ vs → sub (values_in β) t ≡ app h ts → app h ts ≡ judgment f vs (last ts)
        head (var x) k l m = absurd k
        head (app g cs) k l m = conclusion_is f g h cs ts vs β k.0 k.1 l m

    walked_derives : (f i : ℕ) (R : Rule) (vs : Terms) (β : Bindings) (o : Walked) → rule_at_lem rules i ≡ some R → ClauseOf f R
        → ((δ : Bindings) → Keeps β δ → sub (values_in δ) (patterns_of R.conclusion) ≡ vs) → DerivesAll R.premises β o
        → Derives f vs (concluded limit i R.conclusion o)
    walked_derives f i R vs β (stopped e) r k a h = tt
    walked_derives f i R vs β (walked γ ps c) r k a h =
        concluded_derives f i R vs γ ps c.calls (instantiate_of limit γ R.conclusion c.words) r k.concludes (a γ h.0) (h.1 γ (keeps_all γ)) h.2 (instantiates limit γ R.conclusion c.words)

    taken_derives : (f i : ℕ) (R : Rule) (vs : Terms) (c : Spent) (o : Fitted) (next : ℕ → Called) → rule_at_lem rules i ≡ some R → ClauseOf f R
        → Fits (patterns_of R.conclusion) vs start o → Derives f vs (next 0) → Derives f vs (taken_or limit call i R o c next)
    taken_derives f i R vs c misfit next r k h n = n
    taken_derives f i R vs c (fitted β) next r k h n = walked_derives f i R vs β (premises_of limit call R.premises β c) r k h.1 (premises_derive R.premises β c k.premised)

    tried_derives : (f i : ℕ) (o : Option Rule) (vs : Terms) (c : Spent) (next : ℕ → Called) → rule_at_lem rules i ≡ o → ((R : Rule) → rule_at_lem rules i ≡ some R → ClauseOf f R)
        → Derives f vs (next 0) → Derives f vs (tried limit call i o vs c next)
    tried_derives f i none vs c next r k n = tt
    tried_derives f i (some R) vs c next r k n = taken_derives f i R vs c (bind_of (patterns_of R.conclusion) vs start) next r (k R r) (bind_fits (patterns_of R.conclusion) vs start) n

    clauses_derive : (f n i : ℕ) (vs : Terms) (c : Spent) → ClausesOf rules f n i → Derives f vs (clauses_of limit symbols rules call n i vs c)
    unfolding clauses_of
    clauses_derive f zero i vs c k = tt
    clauses_derive f (suc n) i vs c k =
        tried_derives f i (rule_at_lem rules i) vs c (λ _. clauses_of limit symbols rules call n (suc i) vs c) refl
        (λ R e. let z : i + 0 ≡ i = omega arith in k 0 R (omega arith) (rw z e))
        (clauses_derive f n (suc i) vs c (λ j R l e. let z : i + suc j ≡ suc i + j = omega arith in k (suc j) R (omega arith) (rw z e)))

  -- The tree of a call is a derivation whose root is the function's judgment on the values, with the call's value as the last argument.
  pub call_derives : ClauseForm symbols rules → (levels f : ℕ) (vs : Terms) (c : Spent) → Derives f vs (call_of limit symbols rules levels f vs c)
  unfolding call_of
  call_derives form zero f vs c = tt
  call_derives form (suc levels) f vs c =
      by_bool (ltb c.calls max_calls)
      (λ e. rw e (clauses_derive (call_of limit symbols rules levels) (call_derives form levels) f (symbol_at symbols f).clauses (symbol_at symbols f).first vs (record { calls = suc c.calls; words = c.words }) (form f)))
      (λ e. rw e tt)

  -- The root of a call's tree is the function on the values, with the call's value as the last argument.
  pub call_root : ClauseForm symbols rules → (levels f : ℕ) (vs : Terms) (c : Spent) (v : Term) (p : Tree single) (d : Spent)
      → call_of limit symbols rules levels f vs c ≡ returned v p d → root p ≡ judgment f vs v
  call_root form levels f vs c v p d e =
      let h = call_derives form levels f vs c in
      let k : Derives f vs (returned v p d) = rw e at h in
      k.0

-- One list of derivations in front of another.
pub derivations_joined : (rules : List Rule) (ps qs : Tree several) → Derivation rules ps → Derivation rules qs → Derivation rules (joined ps qs)
derivations_joined rules leaf qs a b = b
derivations_joined rules (p ◂ ps) qs a b = (a.0, derivations_joined rules ps qs a.1 b)
