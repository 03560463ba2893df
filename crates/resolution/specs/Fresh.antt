-- A rule's fresh instance (the Rust's `inst` and `fresh`): its variables get the numbers from the counter on, in the order in which they are met: in
-- the conclusion from left to right, then in the premises from the last to the first.
use Rattle.std.specs.Prelude.{ℕ, suc, ◌+◌, Bool, false, ◌||◌, cond, List, [], ◌∷◌, ◌++◌}
use Rattle.terms.specs.Numbers.{same}
use Rattle.terms.specs.Term.{Kind, Syn, var, app, nil, cons, Term, Terms, Subst, sub}
use Rattle.resolution.specs.Rules.{Rule}

-- Is x in the list?
abbrev pub elem : ℕ → List ℕ → Bool
elem x [] = false
elem x (y ∷ e) = same x y || elem x e

-- The variables met so far, and those of a term from left to right.
abbrev pub met : {s : Kind} → Syn s → List ℕ → List ℕ
met (var x) e = cond (elem x e) e (e ++ (x ∷ []))
met (app f ts) e = met ts e
met nil e = e
met (cons t ts) e = met ts (met t e)

-- The same for a list of terms, the last term first.
abbrev pub met_back : Terms → List ℕ → List ℕ
met_back nil e = e
met_back (cons t ts) e = met t (met_back ts e)

-- A variable's place among those met.
abbrev pub place : List ℕ → ℕ → ℕ
place [] x = 0
place (y ∷ e) x = cond (same x y) 0 (suc (place e x))

-- New numbers from c on, by place.
abbrev pub fresh : ℕ → List ℕ → Subst
fresh c e x = var (c + place e x)

-- The variables of the conclusion, as they are met.
abbrev pub head_vars : Rule → List ℕ
head_vars R = met R.conclusion []

-- And those of the premises behind them.
abbrev pub all_vars : Rule → List ℕ
all_vars R = met_back R.premises (head_vars R)

-- The instance of the conclusion, made from the counter c on.
abbrev pub head : ℕ → Rule → Term
head c R = sub (fresh c (head_vars R)) R.conclusion

-- The instance of the premises.
abbrev pub body : ℕ → Rule → Terms
body c R = sub (fresh c (all_vars R)) R.premises
