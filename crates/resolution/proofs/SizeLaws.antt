-- Laws of sizes: a search that starts within limits stays within them (`prove_within`).
use Rattle.std.specs.Prelude.{ℕ, zero, suc, ◌+◌, ◌-◌, ◌≤◌, ◌≡◌, refl, Bool, true, false, ◌||◌, List, [], ◌∷◌}
use Rattle.std.proofs.Common.{ap, ap₂, ◌∙◌, subst, length-append}
use native.Mathlib.Omega.{arith}
use Rattle.std.proofs.Math.ListN.{length}
use Rattle.terms.specs.Numbers.{less, by_bool, by_less, true_false, or_false}
use Rattle.terms.specs.Term.{Kind, many, Term}
use Rattle.terms.specs.Bindings.{Bindings}
use Rattle.terms.specs.Unification.{Outcome, unfinished, fails, unified, unify}
use Rattle.resolution.specs.Rules.{Rule, Tree, node, leaf, ◌◂◌}
use Rattle.resolution.specs.Fresh.{head_vars, all_vars, head, body}
use Rattle.resolution.specs.Search.{words, within, over, Attempt, exceeded, missed, entered, guard, unifying, attempt, Work, goal}
use Rattle.resolution.specs.Search.{build, gather, built, Result, refused, found, failed, Search, tries, solve, bounded}
use Rattle.resolution.specs.Search.{settle, bounds, deepen, prove}
use Rattle.resolution.proofs.Attempts.{tries_cases}
use Rattle.resolution.specs.Steps.{Falls, FallsSearch}
use Rattle.resolution.proofs.Steps.{solve_falls}
use Rattle.resolution.specs.Preorder.{preorder, flat}
use Rattle.resolution.specs.Sizes.{nodes_in, VerdictWithin}

-- Nodes
preorder_nodes : {s : Kind} (h : ℕ) (t : Tree s) → length (preorder h t) ≡ nodes_in t
preorder_nodes h (node r g ps) = ap suc (preorder_nodes (suc h) ps)
preorder_nodes h leaf = refl
preorder_nodes h (p ◂ ps) = length-append (preorder h p) (preorder h ps) ∙ ap₂ ◌+◌ (preorder_nodes h p) (preorder_nodes h ps)

flat_nodes : (st : Tree many) → length (flat st) ≡ nodes_in st
flat_nodes leaf = refl
flat_nodes (p ◂ ps) = let a = length-append (flat ps) (preorder 1 p) in let b = flat_nodes ps in let c = preorder_nodes 1 p in omega arith

gather_nodes : (n : ℕ) (acc st : Tree many) → nodes_in (gather n acc st).0 + nodes_in (gather n acc st).1 ≡ nodes_in acc + nodes_in st
gather_nodes zero acc st = refl
gather_nodes (suc n) acc leaf = refl
gather_nodes (suc n) acc (p ◂ st) = let h = gather_nodes n (p ◂ acc) st in omega arith

built_nodes : (r : ℕ) (g : Term) (n : ℕ) (st : Tree many) → nodes_in (built r g n st) ≡ suc (nodes_in st)
built_nodes r g n st = let h = gather_nodes n leaf st in omega arith

-- The search
-- From so many proofs' nodes n, steps b and words m on, with at most `most` variables and `limit` words: a success has no more nodes than
-- steps were used.
abbrev Within : ℕ → ℕ → ℕ → ℕ → ℕ → Result → Type 0
Within most limit n b m refused = Unit {0}
Within most limit n b m (found β st b' c m') = (nodes_in st + b' ≤ n + b) × (c ≤ most) × (m ≤ m') × (m' ≤ limit)
Within most limit n b m (failed b' cut c) = c ≤ most

module _ (most limit : ℕ) where
  abbrev AttemptWithin : ℕ → Attempt → Type 0
  AttemptWithin m exceeded = Unit {0}
  AttemptWithin m (missed c) = c ≤ most
  AttemptWithin m (entered β c m') = (c ≤ most) × (m ≤ m') × (m' ≤ limit)

  not_over : (c m : ℕ) → over (within most limit) c m ≡ false → (c ≤ most) × (m ≤ limit)
  not_over c m e =
      let h = or_false (less most c) (less limit m) e in
      (by_less most c (λ l q. true_false q h.0) (λ l q. l), by_less limit m (λ l q. true_false q h.1) (λ l q. l))

  attempt_within : (β : Bindings) (g : Term) (m c : ℕ) (R : Rule) → AttemptWithin m (attempt (within most limit) β g m c R)
  unfolding attempt
  attempt_within β g m c R = by_bool (over (within most limit) (c + length (head_vars R)) (m + words (head c R)))
      (λ e. rw e tt)
      (λ e. rw e (unify_within (unify (c + length (head_vars R)) β g (head c R))
      (not_over (c + length (head_vars R)) (m + words (head c R)) e).0))
    where
      unify_within : (o : Outcome) → c + length (head_vars R) ≤ most
          → AttemptWithin m (unifying o (missed (c + length (head_vars R)))
          (λ β'. guard (over (within most limit) (c + length (all_vars R)) (m + words (head c R) + words (body c R))) (λ _.
          entered β' (c + length (all_vars R)) (m + words (head c R) + words (body c R)))))
      unify_within unfinished l = l
      unify_within fails l = l
      unify_within (unified β') l = by_bool (over (within most limit) (c + length (all_vars R)) (m + words (head c R) + words (body c R)))
          (λ e. rw e tt)
          (λ e. rw e (let h = not_over (c + length (all_vars R)) (m + words (head c R) + words (body c R)) e in (h.0, omega arith, h.1)))

  abbrev WithinSearch : Search → Type 0
  WithinSearch rec = (b c m : ℕ) (β : Bindings) (w : List Work) (st : Tree many) → c ≤ most → m ≤ limit
      → Within most limit (nodes_in st) b m (rec b c m β w st)

  within_le : (n n₁ b b₁ m m₁ : ℕ) (o : Result) → n₁ + b₁ ≤ n + b → m ≤ m₁ → Within most limit n₁ b₁ m₁ o → Within most limit n b m o
  within_le n n₁ b b₁ m m₁ refused h i f = tt
  within_le n n₁ b b₁ m m₁ (found β st b' c m') h i f = let x = f.0 in let y = f.2 in (omega arith, f.1, omega arith, f.3)
  within_le n n₁ b b₁ m m₁ (failed b' cut c) h i f = f

  tries_within : (rec : Search) → FallsSearch rec → WithinSearch rec
      → (β : Bindings) (g : Term) (d : ℕ) (w : List Work) (st : Tree many) (m r : ℕ) (Rs : List Rule) (b : ℕ) (cut : Bool) (c : ℕ)
      → c ≤ most → m ≤ limit → Within most limit (nodes_in st) b m (tries (within most limit) rec β g d w st m r Rs b cut c)
  tries_within rec fa ok β g d w st m r [] b cut c h i = h
  tries_within rec fa ok β g d w st m r (R ∷ Rs) b cut c h i =
      let next : (b' : ℕ) (cut' : Bool) (c' : ℕ) → c' ≤ most
      → Within most limit (nodes_in st) b' m (tries (within most limit) rec β g d w st m (suc r) Rs b' cut' c') =
      λ b' cut' c' l. tries_within rec fa ok β g d w st m (suc r) Rs b' cut' c' l i in
      let a = attempt_within β g m c R in
      tries_cases (within most limit) rec β g d w st m (Within most limit (nodes_in st) b m) r R Rs b cut c
      tt
      (λ c' e. next b cut c' (subst (AttemptWithin m) e a))
      (λ β' c' m' e β'' st' b'' c'' m'' q.
      let k : (c' ≤ most) × (m ≤ m') × (m' ≤ limit) = subst (AttemptWithin m) e a in
      within_le (nodes_in st) (nodes_in st) b b m m' (found β'' st' b'' c'' m'') (omega arith) k.1
      (subst (Within most limit (nodes_in st) b m') q (ok b c' m' β' _ st k.0 k.2)))
      (λ β' c' m' e b'' cut'' c'' q.
      let k : (c' ≤ most) × (m ≤ m') × (m' ≤ limit) = subst (AttemptWithin m) e a in
      let f : Falls b false (failed b'' cut'' c'') = subst (Falls b false) q (fa b c' m' β' _ st) in
      let fewer = f.0 in
      let v : Within most limit (nodes_in st) b m' (failed b'' cut'' c'') =
      subst (Within most limit (nodes_in st) b m') q (ok b c' m' β' _ st k.0 k.2) in
      within_le (nodes_in st) (nodes_in st) b b'' m m (tries (within most limit) rec β g d w st m (suc r) Rs b'' (cut || cut'') c'')
      (omega arith) (omega arith) (next b'' (cut || cut'') c'' v))

  solve_within : (rules : List Rule) (n : ℕ) → WithinSearch (solve (within most limit) rules n)
  solve_within rules zero b c m β w st h i = h
  solve_within rules (suc n) zero c m β w st h i = h
  solve_within rules (suc n) (suc b) c m β [] st h i = (omega arith, h, omega arith, i)
  solve_within rules (suc n) (suc b) c m β (build r g k ∷ w) st h i =
      let e = built_nodes r g k st in
      within_le (nodes_in st) (nodes_in (built r g k st)) (suc b) b m m (solve (within most limit) rules n b c m β w (built r g k st))
      (omega arith) (omega arith) (solve_within rules n b c m β w (built r g k st) h i)
  solve_within rules (suc n) (suc b) c m β (goal g zero ∷ w) st h i = h
  solve_within rules (suc n) (suc b) c m β (goal g (suc d) ∷ w) st h i =
      within_le (nodes_in st) (nodes_in st) (suc b) b m m
      (tries (within most limit) (solve (within most limit) rules n) β g d w st m 0 rules b false c) (omega arith) (omega arith)
      (tries_within (solve (within most limit) rules n) (solve_falls (within most limit) rules n)
      (solve_within rules n) β g d w st m 0 rules b false c h i)

  deepen_within : (rules : List Rule) (s m : ℕ) (β : Bindings) (g : Term) (ds : List ℕ) (u c : ℕ) → c ≤ most → m ≤ limit
      → VerdictWithin most limit m (deepen (within most limit) rules s m β g ds u c)
  deepen_within rules s m β g [] u c h i = h
  deepen_within rules s m β g (d ∷ ds) u c h i =
      go (bounded (within most limit) rules s m β g d c) (solve_within rules s s c m β (goal g d ∷ []) leaf h i)
      (λ u' c' l. deepen_within rules s m β g ds u' c' l i)
    where
      go : (o : Result) → Within most limit 0 s m o
          → ((u' c' : ℕ) → c' ≤ most → VerdictWithin most limit m (deepen (within most limit) rules s m β g ds u' c'))
          → VerdictWithin most limit m (settle s o (λ u' c'. deepen (within most limit) rules s m β g ds u' c'))
      go refused k n = tt
      go (found β' st b c' m') k n = let e = flat_nodes st in let l = k.0 in (omega arith, k.1, k.2, k.3)
      go (failed zero cut c') k n = n s c' k
      go (failed (suc b) true c') k n = n (s - suc b) c' k
      go (failed (suc b) false c') k n = k

  -- The verdict of a search that starts within the limits.
  pub prove_within : (rules : List Rule) (s largest m : ℕ) (β : Bindings) (g : Term) (c : ℕ) → c ≤ most → m ≤ limit
      → VerdictWithin most limit m (prove (within most limit) rules s largest m β g c)
  prove_within rules s largest m β g c h i = deepen_within rules s m β g (bounds largest) 0 c h i
