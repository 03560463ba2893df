-- Unification does not depend on how variables are numbered: it commutes with every injective renaming.
-- Here are the definitions; the theorems about them are in proofs/Renaming.
use Rattle.std.specs.Prelude.{ℕ, List, [], ◌∷◌}
use Rattle.terms.specs.Term.{Kind, Syn, var, app, nil, cons}
use Rattle.terms.specs.Bindings.{Bindings, start, bind}
use Rattle.terms.specs.Unification.{Eqn, eqn, eqns, Step, stop, keep, join, Outcome, unfinished, fails, unified}

-- The renaming of a term, of bindings, and of everything else that unification goes through.
abbrev pub ren : {s : Kind} → (ℕ → ℕ) → Syn s → Syn s
ren ρ (var x) = var (ρ x)
ren ρ (app f ts) = app f (ren ρ ts)
ren ρ nil = nil
ren ρ (cons t ts) = cons (ren ρ t) (ren ρ ts)

abbrev pub ren_b : (ℕ → ℕ) → Bindings → Bindings
ren_b ρ start = start
ren_b ρ (bind x t β) = bind (ρ x) (ren ρ t) (ren_b ρ β)

abbrev pub ren_eq : (ℕ → ℕ) → Eqn → Eqn
ren_eq ρ (eqn a b) = eqn (ren ρ a) (ren ρ b)
ren_eq ρ (eqns a b) = eqns (ren ρ a) (ren ρ b)

abbrev pub ren_e : (ℕ → ℕ) → List Eqn → List Eqn
ren_e ρ [] = []
ren_e ρ (e ∷ es) = ren_eq ρ e ∷ ren_e ρ es

abbrev pub ren_s : (ℕ → ℕ) → Step → Step
ren_s ρ stop = stop
ren_s ρ (keep es) = keep (ren_e ρ es)
ren_s ρ (join x t es) = join (ρ x) (ren ρ t) (ren_e ρ es)

abbrev pub ren_o : (ℕ → ℕ) → Outcome → Outcome
ren_o ρ unfinished = unfinished
ren_o ρ fails = fails
ren_o ρ (unified β) = unified (ren_b ρ β)
