-- Laws of fresh instances: numbers given once stay, lie in the range from the counter on, and can be given any terms, whatever older variables stand for.
-- Here are the definitions; the theorems about them are in proofs/FreshLaws.
use Rattle.std.specs.Prelude.{ℕ, ◌+◌, ◌-◌, ◌≡◌, true, cond, List, ◌++◌, get_or}
use Rattle.terms.specs.Numbers.{less}
use Rattle.terms.specs.Term.{Kind, Syn, var, app, nil, cons, Subst}
use Rattle.resolution.specs.Fresh.{elem}

-- Every variable is in e.
abbrev pub Covers : {s : Kind} → List ℕ → Syn s → Type 0
Covers e (var x) = elem x e ≡ true
Covers e (app f ts) = Covers e ts
Covers e nil = Unit {0}
Covers e (cons t ts) = Covers e t × Covers e ts

-- e' is e with more behind it.
abbrev pub Grows : List ℕ → List ℕ → Type 0
Grows e e' = (s : List ℕ) × (e' ≡ e ++ s)

-- σ below c, and from c on θ at the variable that got the number.
abbrev pub lift : ℕ → List ℕ → Subst → Subst → Subst
lift c e σ θ y = cond (less y c) (σ y) (θ (get_or e (y - c) 0))
