-- Laws of matching: values that fit a pattern are what the variables' values turn it into, and so is what is instantiated; values once taken stay.
use Rattle.std.specs.Prelude.{ℕ, suc, ◌+◌, ◌≡◌, refl, ltb}
use Rattle.std.proofs.Common.{ap, ap₂, ◌∙◌}
use Rattle.std.proofs.Math.Option.{Option, none, some}
use Rattle.terms.specs.Numbers.{same, same_refl, same_true, by_bool, by_same, some_none}
use Rattle.terms.specs.Term.{Kind, Syn, var, app, nil, cons, Term, Terms, count, append, Subst, sub}
use Rattle.terms.specs.Bindings.{Bindings, lookup}
use Rattle.arena.specs.Equality.{alike}
use Rattle.arena.specs.EqualityLaws.{alike_true}
use Rattle.evaluation.specs.Matching.{Fitted, misfit, fitted, if_fitted, takes, bind_of, Built, barred, built, if_built, build_node, value_of, instantiate_of, front, last}

-- The values as a substitution.
abbrev pub or_variable : ℕ → Option Term → Term
or_variable x none = var x
or_variable x (some t) = t

abbrev pub values_in : Bindings → Subst
values_in β x = or_variable x (lookup β x)

-- Every value stays.
pub record Keeps (β γ : Bindings) : Type 0 where
  pub value : (x : ℕ) (t : Term) → lookup β x ≡ some t → lookup γ x ≡ some t

pub keeps_all : (β : Bindings) → Keeps β β
keeps_all β = record { value = λ x t e. e }

pub keeps_on : {β γ δ : Bindings} → Keeps β γ → Keeps γ δ → Keeps β δ
keeps_on a b = record { value = λ x t e. b.value x t (a.value x t e) }

-- What fits: under these values and all that come later, the pattern is the value.
abbrev pub Fits : {s : Kind} → Syn s → Syn s → Bindings → Fitted → Type 0
Fits p t β misfit = Unit {0}
Fits p t β (fitted γ) = Keeps β γ × ((δ : Bindings) → Keeps γ δ → sub (values_in δ) p ≡ t)

value_known : (x : ℕ) (t : Term) (δ : Bindings) → lookup δ x ≡ some t → values_in δ x ≡ t
value_known x t δ e = ap (or_variable x) e

takes_fits : (x : ℕ) (t : Term) (β : Bindings) (o : Option Term) → lookup β x ≡ o → Fits (var x) t β (takes o x t β)
takes_fits x t β none e = (
  record { value = λ y u k. by_same y x (λ p q. some_none (rw p at k) e) (λ p q. rw q k) },
  λ δ k. value_known x t δ (k.value x t (rw (same_refl x))),
)
takes_fits x t β (some u) e = by_bool (alike u t)
    (λ q. rw q (keeps_all β, λ δ k. value_known x u δ (k.value x u e) ∙ alike_true u t q))
    (λ q. rw q tt)

-- Matching one after another.
both_fit : {s r : Kind} (p t : Syn s) (q u : Syn r) (β : Bindings) (o : Fitted) → Fits p t β o → (next : Bindings → Fitted) → ((γ : Bindings) → Fits q u γ (next γ))
    → {n : Kind} (f : Syn s → Syn r → Syn n) → ((σ : Subst) → sub σ (f p q) ≡ f (sub σ p) (sub σ q)) → Fits (f p q) (f t u) β (if_fitted o next)
both_fit p t q u β misfit h next k f e = tt
both_fit p t q u β (fitted γ) h next k f e = go (next γ) (k γ)
  where
    go : (o : Fitted) → Fits q u γ o → Fits (f p q) (f t u) β o
    go misfit l = tt
    go (fitted δ) l = (keeps_on h.0 l.0, λ ε m. e (values_in ε) ∙ ap₂ f (h.1 ε (keeps_on l.0 m)) (l.1 ε m))

same_head : (f g : ℕ) (ps ts : Terms) (β : Bindings) (o : Fitted) → f ≡ g → Fits ps ts β o → Fits (app f ps) (app g ts) β o
same_head f g ps ts β misfit e h = tt
same_head f g ps ts β (fitted γ) e h = (h.0, λ δ k. ap₂ app e (h.1 δ k))

pub bind_fits : {s : Kind} (p t : Syn s) (β : Bindings) → Fits p t β (bind_of p t β)
unfolding bind_of
bind_fits (var x) t β = takes_fits x t β (lookup β x) refl
bind_fits (app f ps) (var y) β = tt
bind_fits (app f ps) (app g ts) β = by_bool (same f g) (λ e. rw e (same_head f g ps ts β (bind_of ps ts β) (same_true e) (bind_fits ps ts β))) (λ e. rw e tt)
bind_fits nil nil β = (keeps_all β, λ δ k. refl)
bind_fits nil (cons t ts) β = tt
bind_fits (cons p ps) nil β = tt
bind_fits (cons p ps) (cons t ts) β = both_fit p t ps ts β (bind_of p t β) (bind_fits p t β) (λ γ. bind_of ps ts γ) (λ γ. bind_fits ps ts γ) cons (λ σ. refl)

-- What is instantiated.
abbrev pub Instantiates : {s : Kind} → Bindings → Syn s → Built s → Type 0
Instantiates β p (barred e) = Unit {0}
Instantiates β p (built t used) = (δ : Bindings) → Keeps β δ → sub (values_in δ) p ≡ t

value_instantiates : (β : Bindings) (x used : ℕ) (o : Option Term) → lookup β x ≡ o → Instantiates β (var x) (value_of o used)
value_instantiates β x used none e = tt
value_instantiates β x used (some t) e = λ δ k. value_known x t δ (k.value x t e)

node_instantiates : (limit : ℕ) (β : Bindings) (f : ℕ) (ps : Terms) (o : Built _) → Instantiates β ps o
    → Instantiates β (app f ps) (if_built o (λ ts u. build_node limit f ts u))
node_instantiates limit β f ps (barred e) h = tt
node_instantiates limit β f ps (built ts u) h = by_bool (ltb limit (u + suc (count ts))) (λ e. rw e tt) (λ e. rw e (λ δ k. ap (app f) (h δ k)))

more_instantiates : (β : Bindings) (p : Term) (ps : Terms) (o : Built _) → Instantiates β p o → (next : ℕ → Built _) → ((u : ℕ) → Instantiates β ps (next u))
    → Instantiates β (cons p ps) (if_built o (λ t u. if_built (next u) (λ ts v. built (cons t ts) v)))
more_instantiates β p ps (barred e) h next k = tt
more_instantiates β p ps (built t u) h next k = go (next u) (k u)
  where
    go : (o : Built _) → Instantiates β ps o → Instantiates β (cons p ps) (if_built o (λ ts v. built (cons t ts) v))
    go (barred e) l = tt
    go (built ts v) l = λ δ m. ap₂ cons (h δ m) (l δ m)

pub instantiates : {s : Kind} (limit : ℕ) (β : Bindings) (p : Syn s) (used : ℕ) → Instantiates β p (instantiate_of limit β p used)
unfolding instantiate_of
instantiates limit β (var x) used = value_instantiates β x used (lookup β x) refl
instantiates limit β (app f ps) used = node_instantiates limit β f ps (instantiate_of limit β ps used) (instantiates limit β ps used)
instantiates limit β nil used = λ δ k. refl
instantiates limit β (cons p ps) used =
    more_instantiates β p ps (instantiate_of limit β p used) (instantiates limit β p used) (λ u. instantiate_of limit β ps u) (λ u. instantiates limit β ps u)

-- The last of some terms, and those before it.
abbrev pub Some : Terms → Type 0
Some nil = ⊥
Some (cons t ts) = Unit {0}

pub front_last : (ts : Terms) → Some ts → ts ≡ append (front ts) (cons (last ts) nil)
front_last nil s = absurd s
front_last (cons t nil) s = refl
front_last (cons t (cons u us)) s = ap (cons t) (front_last (cons u us) tt)

pub front_sub : (σ : Subst) (ts : Terms) → sub σ (front ts) ≡ front (sub σ ts)
front_sub σ nil = refl
front_sub σ (cons t nil) = refl
front_sub σ (cons t (cons u us)) = ap (cons (sub σ t)) (front_sub σ (cons u us))

pub some_sub : (σ : Subst) (ts : Terms) → Some ts → Some (sub σ ts)
some_sub σ nil s = s
some_sub σ (cons t ts) s = tt
