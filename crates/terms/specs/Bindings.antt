-- Triangular bindings (the Rust's `binding` with its `trail`): the raw terms that unification stores, newest first. To undo is to go back to an
-- older list. `walk`, the bindings put in throughout and acyclicity are by recursion on the list.
use Rattle.std.specs.Prelude.{ℕ, ◌<◌, ◌≡◌, Bool, false, cond}
use Rattle.std.proofs.Math.Option.{Option, none, some}
use Rattle.terms.specs.Numbers.{same}
use Rattle.terms.specs.Term.{Kind, Syn, var, app, Term, Subst, sub, mem, upd, Below}

-- No binding; a variable bound to a term, after older bindings.
pub data Bindings : Type 0 where
  start : Bindings
  bind : ℕ → Term → Bindings → Bindings

-- The term that a variable is bound to.
abbrev pub lookup : Bindings → ℕ → Option Term
lookup start y = none
lookup (bind x t β) y = cond (same y x) (some t) (lookup β y)

-- A variable replaced once; any other term as it is.
abbrev pub into : ℕ → Term → Term → Term
into x u (var y) = cond (same y x) u (var y)
into x u (app f ts) = app f ts

-- The Rust's `walk`: from a bound variable to the term that it is bound to, and on. BindingLaws has the Rust's equations, `walk_bound`,
-- `walk_unbound` and `walk_app`.
abbrev pub walk : Bindings → Term → Term
walk start t = t
walk (bind x u β) t = into x (walk β u) (walk β t)

-- The bindings put in throughout, as a substitution.
abbrev pub full : Bindings → Subst
full start y = var y
full (bind x t β) y = sub (upd x (sub (full β) t) var) (full β y)

-- The term or the list of terms with the bindings put in throughout.
abbrev pub res : {s : Kind} → Bindings → Syn s → Syn s
res β t = sub (full β) t

-- The occurs check, the Rust's `occurs`: is x in t, once the bindings are put in? Loops has the Rust's equations.
abbrev pub occurs : {s : Kind} → Bindings → ℕ → Syn s → Bool
occurs β x t = mem x (res β t)

-- No binding leads back to its own variable: a variable is bound once, and does not occur in its term under the older bindings.
-- Order shows that the order of the list does not matter.
abbrev pub Acyclic : Bindings → Type 0
Acyclic start = Unit {0}
Acyclic (bind x t β) = (lookup β x ≡ none) × (occurs β x t ≡ false) × Acyclic β

-- σ agrees with the bindings.
abbrev pub Solves : Subst → Bindings → Type 0
Solves σ start = Unit {0}
Solves σ (bind x t β) = (σ x ≡ sub σ t) × Solves σ β

-- All variables of the bindings are below c.
abbrev pub BelowB : ℕ → Bindings → Type 0
BelowB c start = Unit {0}
BelowB c (bind x t β) = (x < c) × Below c t × BelowB c β

-- Bindings that only add: the second list is the first with newer bindings in front.
pub data Extends (β : Bindings) : Bindings → Type 0 where
  unchanged : Extends β β
  added : {x : ℕ} {t : Term} {β' : Bindings} → Extends β β' → Extends β (bind x t β')
