-- Steps left only fall, and what was cut off stays so. A search that did not exhaust its steps comes to the same with more of them.
-- The definitions that it speaks of are in specs/Steps.
use Rattle.std.specs.Prelude.{ℕ, zero, suc, ◌+◌, ◌≤◌, ◌<◌, ◌≡◌, refl, Bool, true, false, ◌||◌, List, [], ◌∷◌}
use Rattle.std.proofs.Common.{ap, ◌∙◌, subst, arith, le_refl}
use Rattle.terms.specs.Numbers.{or_false}
use Rattle.terms.specs.Term.{many, Term}
use Rattle.terms.specs.Bindings.{Bindings}
use Rattle.resolution.specs.Rules.{Rule, Tree}
use Rattle.resolution.specs.Search.{Limits, Work, goal, build, built, Result, refused, found, failed, after, Search, tries, solve}
use Rattle.resolution.proofs.Attempts.{tries_missed, tries_entered, tries_cases}
use Rattle.resolution.specs.Steps.{Falls, FallsSearch, MoreSteps, StepsLeft, add_steps}

falls_le : (b b₁ : ℕ) (cut cut₁ : Bool) (o : Result) → b₁ ≤ b → (cut₁ ≡ false → cut ≡ false) → Falls b₁ cut₁ o → Falls b cut o
falls_le b b₁ cut cut₁ refused h i f = tt
falls_le b b₁ cut cut₁ (found β st b' c m) h i f = omega arith
falls_le b b₁ cut cut₁ (failed b' cut' c) h i f = (omega arith, λ e. i (f.1 e))

pub tries_falls : (l : Limits) (rec : Search) → FallsSearch rec → (β : Bindings) (g : Term) (d : ℕ) (w : List Work) (st : Tree many) (m r : ℕ) (Rs : List Rule) (b : ℕ) (cut : Bool) (c : ℕ)
    → Falls b cut (tries l rec β g d w st m r Rs b cut c)
tries_falls l rec ok β g d w st m r [] b cut c = (le_refl b, λ e. e)
tries_falls l rec ok β g d w st m r (R ∷ Rs) b cut c =
    let next : (b' : ℕ) (cut' : Bool) (c' : ℕ) → Falls b' cut' (tries l rec β g d w st m (suc r) Rs b' cut' c') = λ b' cut' c'. tries_falls l rec ok β g d w st m (suc r) Rs b' cut' c' in
    tries_cases l rec β g d w st m (Falls b cut) r R Rs b cut c
    tt
    (λ c' e. next b cut c')
    (λ β' c' m' e β'' st' b'' c'' m'' q. subst (Falls b false) q (ok b c' m' β' _ st))
    (λ β' c' m' e b'' cut'' c'' q. let f : Falls b false (failed b'' cut'' c'') = subst (Falls b false) q (ok b c' m' β' _ st) in
    falls_le b b'' cut (cut || cut'') (tries l rec β g d w st m (suc r) Rs b'' (cut || cut'') c'') f.0 (λ z. (or_false cut cut'' z).0) (next b'' (cut || cut'') c''))

pub solve_falls : (l : Limits) (rules : List Rule) (n : ℕ) → FallsSearch (solve l rules n)
solve_falls l rules zero b c m β w st = (omega arith, λ e. refl)
solve_falls l rules (suc n) zero c m β w st = (omega arith, λ e. refl)
solve_falls l rules (suc n) (suc b) c m β [] st = omega arith
solve_falls l rules (suc n) (suc b) c m β (build r g k ∷ w) st =
    falls_le (suc b) b false false (solve l rules n b c m β w (built r g k st)) (omega arith) (λ e. e) (solve_falls l rules n b c m β w (built r g k st))
solve_falls l rules (suc n) (suc b) c m β (goal g zero ∷ w) st = (omega arith, λ e. refl)
solve_falls l rules (suc n) (suc b) c m β (goal g (suc d) ∷ w) st =
    falls_le (suc b) b false false (tries l (solve l rules n) β g d w st m 0 rules b false c) (omega arith) (λ e. e) (tries_falls l (solve l rules n) (solve_falls l rules n) β g d w st m 0 rules b false c)

steps_left_falls : (b : ℕ) (cut : Bool) (o : Result) → Falls b cut o → StepsLeft o → 0 < b
steps_left_falls b cut refused f v = absurd v
steps_left_falls b cut (found β st b' c m) f v = omega arith
steps_left_falls b cut (failed b' cut' c) f v = omega arith

module _ (l : Limits) (k : ℕ) (rec rec' : Search) (fa : FallsSearch rec) (ok : MoreSteps k rec rec') where
  tries_add_steps : (β : Bindings) (g : Term) (d : ℕ) (w : List Work) (st : Tree many) (m r : ℕ) (Rs : List Rule) (b b' : ℕ) (cut : Bool) (c : ℕ)
      → b' ≡ b + k → StepsLeft (tries l rec β g d w st m r Rs b cut c) → tries l rec' β g d w st m r Rs b' cut c ≡ add_steps k (tries l rec β g d w st m r Rs b cut c)
  tries_add_steps β g d w st m r [] b b' cut c e = λ v. ap (λ n. failed n cut c) e
  tries_add_steps β g d w st m r (R ∷ Rs) b b' cut c e =
      let next : (b b' : ℕ) (cut : Bool) (c : ℕ) → b' ≡ b + k → StepsLeft (tries l rec β g d w st m (suc r) Rs b cut c) → tries l rec' β g d w st m (suc r) Rs b' cut c ≡ add_steps k (tries l rec β g d w st m (suc r) Rs b cut c) =
      λ b b' cut c e v. tries_add_steps β g d w st m (suc r) Rs b b' cut c e v in
      tries_cases l rec β g d w st m (λ o. StepsLeft o → tries l rec' β g d w st m r (R ∷ Rs) b' cut c ≡ add_steps k o) r R Rs b cut c
      (λ v. absurd v)
      (λ c' a v. tries_missed l rec' β g d w st m r R Rs b' cut c c' a ∙ next b b' cut c' e v)
      (λ β' c' m' a β'' st' b₁ c₁ m₁ q v.
      tries_entered l rec' β g d w st m r R Rs b' cut c β' c' m' a
      ∙ ap (λ o. after o (λ b'' cut'' c''. tries l rec' β g d w st m (suc r) Rs b'' (cut || cut'') c'')) (ok b b' c' m' β' _ st e (rw q tt) ∙ ap (add_steps k) q))
      (λ β' c' m' a b₁ cut₁ c₁ q v.
      let z : 0 < b₁ = steps_left_falls b₁ (cut || cut₁) (tries l rec β g d w st m (suc r) Rs b₁ (cut || cut₁) c₁) (tries_falls l rec fa β g d w st m (suc r) Rs b₁ (cut || cut₁) c₁) v in
      tries_entered l rec' β g d w st m r R Rs b' cut c β' c' m' a
      ∙ ap (λ o. after o (λ b'' cut'' c''. tries l rec' β g d w st m (suc r) Rs b'' (cut || cut'') c'')) (ok b b' c' m' β' _ st e (rw q z) ∙ ap (add_steps k) q)
      ∙ next b₁ (b₁ + k) (cut || cut₁) c₁ refl v)

-- The theorem: more steps, and as many more to recurse on, change nothing but the steps left.
pub solve_add_steps : (l : Limits) (rules : List Rule) (k n n' : ℕ) → n ≤ n' → MoreSteps k (solve l rules n) (solve l rules n')
solve_add_steps l rules k zero n' h b b' c m β w st e v = absurd (omega arith)
solve_add_steps l rules k (suc n) zero h b b' c m β w st e v = absurd (omega arith)
solve_add_steps l rules k (suc n) (suc n') h zero b' c m β w st e v = absurd (omega arith)
solve_add_steps l rules k (suc n) (suc n') h (suc b) zero c m β w st e v = absurd (omega arith)
solve_add_steps l rules k (suc n) (suc n') h (suc b) (suc b') c m β [] st e v = ap (λ i. found β st i c m) (omega arith)
solve_add_steps l rules k (suc n) (suc n') h (suc b) (suc b') c m β (build r g j ∷ w) st e v = solve_add_steps l rules k n n' (omega arith) b b' c m β w (built r g j st) (omega arith) v
solve_add_steps l rules k (suc n) (suc n') h (suc b) (suc b') c m β (goal g zero ∷ w) st e v = ap (λ i. failed i true c) (omega arith)
solve_add_steps l rules k (suc n) (suc n') h (suc b) (suc b') c m β (goal g (suc d) ∷ w) st e v =
    tries_add_steps l k (solve l rules n) (solve l rules n') (solve_falls l rules n) (solve_add_steps l rules k n n' (omega arith)) β g d w st m 0 rules b b' false c (omega arith) v
