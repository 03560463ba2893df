-- The unlimited search does not depend on how variables are numbered: it commutes with an injective renaming that shifts the numbers from n₀ on by k.
-- So it does not matter where fresh numbers start.
-- The definitions that it speaks of are in specs/Shifting.
use Prim.Native.Nat.{ℕ, zero, suc, ◌+◌, ◌-◌, ◌≤◌, ◌<◌}
use Rattle.std.specs.Prelude.{◌≡◌, refl, Bool, true, false, ◌||◌, List, [], ◌∷◌}
use Rattle.std.proofs.Math.Path.{ap}
use Rattle.std.proofs.Common.{ap₂, sym, ◌∙◌, subst, arith, le_refl}
use Rattle.std.proofs.Math.ListN.{length}
use Rattle.terms.specs.Numbers.{same, same_refl, same_ne, by_same, less_yes, less_no, by_less}
use Rattle.terms.specs.Term.{Kind, many, Syn, var, app, nil, cons, Term, Terms, count, sub, Below}
use Rattle.terms.specs.Bindings.{Bindings, start, bind, Acyclic, BelowB}
use Rattle.terms.specs.Unification.{Outcome, unfinished, fails, unified, unify}
use Rattle.terms.specs.TermLaws.{sub_ext, below_le}
use Rattle.terms.specs.BindingLaws.{below_b_le}
use Rattle.terms.specs.Renaming.{ren, ren_b, ren_o}
use Rattle.terms.proofs.Renaming.{ren_sub, unify_ren}
use Rattle.resolution.specs.Rules.{Rule, Tree, node, leaf, ◌◂◌}
use Rattle.resolution.specs.Fresh.{place, fresh, head_vars, all_vars, head, body}
use Rattle.resolution.proofs.FreshLaws.{head_below}
use Rattle.resolution.specs.Search.{unlimited, words, Attempt, exceeded, missed, entered, attempt, unifying, Work, goal, build, goals, gather, built, Result, refused, found, failed, after, Search, tries, solve, bounded}
use Rattle.resolution.specs.Attempts.{Missed, Entered, Attempted}
use Rattle.resolution.proofs.Attempts.{attempt_ok, tries_missed, tries_entered, tries_exceeded}
use Rattle.resolution.specs.Soundness.{BelowW, Sound, SoundSearch}
use Rattle.resolution.proofs.Soundness.{below_w_le, solve_sound, entered_below}
use Rattle.resolution.specs.Shifting.{ren_a, ren_r, ren_t, ren_w, shift}

goals_ren : (ρ : ℕ → ℕ) (ts : Terms) (d : ℕ) (w : List Work) → goals (ren ρ ts) d (ren_w ρ w) ≡ ren_w ρ (goals ts d w)
goals_ren ρ nil d w = refl
goals_ren ρ (cons t ts) d w = ap (λ v. goal (ren ρ t) d ∷ v) (goals_ren ρ ts d w)

gather_ren : (ρ : ℕ → ℕ) (n : ℕ) (acc st : Tree many) → gather n (ren_t ρ acc) (ren_t ρ st) ≡ (ren_t ρ (gather n acc st).0, ren_t ρ (gather n acc st).1)
gather_ren ρ zero acc st = refl
gather_ren ρ (suc n) acc leaf = refl
gather_ren ρ (suc n) acc (p ◂ st) = gather_ren ρ n (p ◂ acc) st

built_ren : (ρ : ℕ → ℕ) (r : ℕ) (g : Term) (n : ℕ) (st : Tree many) → built r (ren ρ g) n (ren_t ρ st) ≡ ren_t ρ (built r g n st)
built_ren ρ r g n st = ap (λ (q : Tree many × Tree many). node r (ren ρ g) q.0 ◂ q.1) (gather_ren ρ n leaf st)

count_ren : (ρ : ℕ → ℕ) (ts : Terms) → count (ren ρ ts) ≡ count ts
count_ren ρ nil = refl
count_ren ρ (cons t ts) = ap suc (count_ren ρ ts)

words_ren : {s : Kind} (ρ : ℕ → ℕ) (t : Syn s) → words (ren ρ t) ≡ words t
words_ren ρ (var x) = refl
words_ren ρ (app f ts) = ap suc (ap₂ ◌+◌ (count_ren ρ ts) (words_ren ρ ts))
words_ren ρ nil = refl
words_ren ρ (cons t ts) = ap₂ ◌+◌ (words_ren ρ t) (words_ren ρ ts)

module _ (ρ : ℕ → ℕ) (inj : (x y : ℕ) → same (ρ x) (ρ y) ≡ same x y) (n₀ k : ℕ) (high : (y : ℕ) → n₀ ≤ y → ρ y ≡ y + k) where
  fresh_ren : {s : Kind} (c c' : ℕ) → n₀ ≤ c → c' ≡ c + k → (e : List ℕ) (t : Syn s) → sub (fresh c' e) t ≡ ren ρ (sub (fresh c e) t)
  fresh_ren c c' l q e t = sub_ext (fresh c' e) (λ x. ren ρ (fresh c e x)) (λ x. ap var (omega (arith, high (c + place e x) (omega arith)))) t ∙ sym (ren_sub ρ (fresh c e) t)

  attempt_ren : (β : Bindings) (g : Term) (m c c' : ℕ) (R : Rule) → n₀ ≤ c → c' ≡ c + k → Acyclic β → BelowB c β → Below c g
      → attempt unlimited (ren_b ρ β) (ren ρ g) m c' R ≡ ren_a ρ k (attempt unlimited β g m c R)
  unfolding attempt
  attempt_ren β g m c c' R l q ac bb bg = ap pick' un ∙ go (unify c₁ β g (head c R))
    where
      c₁ : ℕ
      c₁ = c + length (head_vars R)

      eh : head c' R ≡ ren ρ (head c R)
      eh = fresh_ren c c' l q (head_vars R) R.conclusion

      wh : words (head c' R) ≡ words (head c R)
      wh = ap words eh ∙ words_ren ρ (head c R)

      wb : words (body c' R) ≡ words (body c R)
      wb = ap words (fresh_ren c c' l q (all_vars R) R.premises) ∙ words_ren ρ (body c R)

      pick : Outcome → Attempt
      pick o = unifying o (missed c₁) (λ β'. entered β' (c + length (all_vars R)) (m + words (head c R) + words (body c R)))

      pick' : Outcome → Attempt
      pick' o = unifying o (missed (c' + length (head_vars R))) (λ β'. entered β' (c' + length (all_vars R)) (m + words (head c' R) + words (body c' R)))

      un : unify (c' + length (head_vars R)) (ren_b ρ β) (ren ρ g) (head c' R) ≡ ren_o ρ (unify c₁ β g (head c R))
      un = ap (unify (c' + length (head_vars R)) (ren_b ρ β) (ren ρ g)) eh
          ∙ unify_ren ρ inj c₁ (c' + length (head_vars R)) β g (head c R) (omega arith) ac (below_b_le (omega arith) β bb) (below_le (omega arith) g bg) (head_below c R)

      go : (o : Outcome) → pick' (ren_o ρ o) ≡ ren_a ρ k (pick o)
      go unfinished = ap missed (omega arith)
      go fails = ap missed (omega arith)
      go (unified β') = ap₂ (entered (ren_b ρ β')) (omega arith) (omega (arith, wh, wb))

  -- A search comes to the same, renamed, from the shifted counter.
  abbrev pub Commutes : Search → Type 0
  Commutes rec = (b c c' m : ℕ) (β : Bindings) (w : List Work) (st : Tree many) → n₀ ≤ c → c' ≡ c + k → Acyclic β → BelowB c β → BelowW c w
      → rec b c' m (ren_b ρ β) (ren_w ρ w) (ren_t ρ st) ≡ ren_r ρ k (rec b c m β w st)

  tries_ren : (rules : List Rule) (rec : Search) → SoundSearch rules rec → Commutes rec → (β : Bindings) (g : Term) (d : ℕ) (w : List Work) (st : Tree many) (m r : ℕ) (Rs : List Rule) (b : ℕ) (cut : Bool) (c c' : ℕ)
      → n₀ ≤ c → c' ≡ c + k → Acyclic β → BelowB c β → Below c g → BelowW c w
      → tries unlimited rec (ren_b ρ β) (ren ρ g) d (ren_w ρ w) (ren_t ρ st) m r Rs b cut c' ≡ ren_r ρ k (tries unlimited rec β g d w st m r Rs b cut c)
  tries_ren rules rec so ok β g d w st m r [] b cut c c' l q ac bb bg bw = ap (failed b cut) q
  tries_ren rules rec so ok β g d w st m r (R ∷ Rs) b cut c c' l q ac bb bg bw =
      go (attempt unlimited β g m c R) refl (attempt_ok unlimited β g m c R ac bb bg)
      (λ b cut c₁ c₁' i q₁. tries_ren rules rec so ok β g d w st m (suc r) Rs b cut c₁ c₁' (omega arith) q₁ ac (below_b_le i β bb) (below_le i g bg) (below_w_le i w bw))
    where
      nw : List Work
      nw = goals (body c R) d (build r g (count R.premises) ∷ w)

      nw' : List Work
      nw' = goals (body c' R) d (build r (ren ρ g) (count R.premises) ∷ ren_w ρ w)

      nw_ren : nw' ≡ ren_w ρ nw
      nw_ren = ap (λ ts. goals ts d (build r (ren ρ g) (count R.premises) ∷ ren_w ρ w)) (fresh_ren c c' l q (all_vars R) R.premises) ∙ goals_ren ρ (body c R) d (build r g (count R.premises) ∷ w)

      same_attempt : attempt unlimited (ren_b ρ β) (ren ρ g) m c' R ≡ ren_a ρ k (attempt unlimited β g m c R)
      same_attempt = attempt_ren β g m c c' R l q ac bb bg

      Next : Type 0
      Next = (b : ℕ) (cut : Bool) (c₁ c₁' : ℕ) → c ≤ c₁ → c₁' ≡ c₁ + k
          → tries unlimited rec (ren_b ρ β) (ren ρ g) d (ren_w ρ w) (ren_t ρ st) m (suc r) Rs b cut c₁' ≡ ren_r ρ k (tries unlimited rec β g d w st m (suc r) Rs b cut c₁)

      on : Result → Result
      on o = after o (λ b'' cut'' c''. tries unlimited rec β g d w st m (suc r) Rs b'' (cut || cut'') c'')

      on' : Result → Result
      on' o = after o (λ b'' cut'' c''. tries unlimited rec (ren_b ρ β) (ren ρ g) d (ren_w ρ w) (ren_t ρ st) m (suc r) Rs b'' (cut || cut'') c'')

      deep : (c₁ : ℕ) (β' : Bindings) (o : Result) → c ≤ c₁ → Sound rules c₁ β' nw st o → Next → on' (ren_r ρ k o) ≡ ren_r ρ k (on o)
      deep c₁ β' refused i s n = refl
      deep c₁ β' (found β'' st' b'' c'' m'') i s n = refl
      deep c₁ β' (failed b'' cut'' c'') i s n = n b'' (cut || cut'') c'' (c'' + k) (omega arith) refl

      go : (a : Attempt) → attempt unlimited β g m c R ≡ a → Attempted c β g R (attempt unlimited β g m c R) → Next
          → tries unlimited rec (ren_b ρ β) (ren ρ g) d (ren_w ρ w) (ren_t ρ st) m r (R ∷ Rs) b cut c' ≡ ren_r ρ k (tries unlimited rec β g d w st m r (R ∷ Rs) b cut c)
      go exceeded e a n =
          tries_exceeded unlimited rec (ren_b ρ β) (ren ρ g) d (ren_w ρ w) (ren_t ρ st) m r R Rs b cut c' (same_attempt ∙ ap (ren_a ρ k) e)
          ∙ ap (ren_r ρ k) (sym (tries_exceeded unlimited rec β g d w st m r R Rs b cut c e))
      go (missed c₁) e a n =
          let z : Missed c β g R c₁ = subst (Attempted c β g R) e a in
          tries_missed unlimited rec (ren_b ρ β) (ren ρ g) d (ren_w ρ w) (ren_t ρ st) m r R Rs b cut c' (c₁ + k) (same_attempt ∙ ap (ren_a ρ k) e)
          ∙ n b cut c₁ (c₁ + k) z.later refl
          ∙ ap (ren_r ρ k) (sym (tries_missed unlimited rec β g d w st m r R Rs b cut c c₁ e))
      go (entered β' c₁ m₁) e a n =
          let z : Entered c β g R β' c₁ = subst (Attempted c β g R) e a in
          let zb : BelowW c₁ nw = entered_below c β g R β' c₁ d r w z bw in
          tries_entered unlimited rec (ren_b ρ β) (ren ρ g) d (ren_w ρ w) (ren_t ρ st) m r R Rs b cut c' (ren_b ρ β') (c₁ + k) m₁ (same_attempt ∙ ap (ren_a ρ k) e)
          ∙ ap on' (ap (λ v. rec b (c₁ + k) m₁ (ren_b ρ β') v (ren_t ρ st)) nw_ren ∙ ok b c₁ (c₁ + k) m₁ β' nw st (omega (arith, z.later)) refl z.acyclic z.below zb)
          ∙ deep c₁ β' (rec b c₁ m₁ β' nw st) z.later (so b c₁ m₁ β' nw st z.acyclic z.below zb) n
          ∙ ap (ren_r ρ k) (sym (tries_entered unlimited rec β g d w st m r R Rs b cut c β' c₁ m₁ e))

  pub solve_ren : (rules : List Rule) (n : ℕ) → Commutes (solve unlimited rules n)
  solve_ren rules zero b c c' m β w st l q ac bb bw = ap (failed 0 false) q
  solve_ren rules (suc n) zero c c' m β w st l q ac bb bw = ap (failed 0 false) q
  solve_ren rules (suc n) (suc b) c c' m β [] st l q ac bb bw = ap (λ v. found (ren_b ρ β) (ren_t ρ st) b v m) q
  solve_ren rules (suc n) (suc b) c c' m β (build r g j ∷ w) st l q ac bb bw = ap (solve unlimited rules n b c' m (ren_b ρ β) (ren_w ρ w)) (built_ren ρ r g j st) ∙ solve_ren rules n b c c' m β w (built r g j st) l q ac bb bw
  solve_ren rules (suc n) (suc b) c c' m β (goal g zero ∷ w) st l q ac bb bw = ap (failed b true) q
  solve_ren rules (suc n) (suc b) c c' m β (goal g (suc d) ∷ w) st l q ac bb bw =
      tries_ren rules (solve unlimited rules n) (solve_sound unlimited rules n) (solve_ren rules n) β g d w st m 0 rules b false c c' l q ac bb bw.0 bw.1

shift_low : (n₀ k x : ℕ) → x < n₀ → shift n₀ k x ≡ x
shift_low n₀ k x h = rw (less_yes h)

shift_high : (n₀ k x : ℕ) → n₀ ≤ x → shift n₀ k x ≡ x + k
shift_high n₀ k x h = rw (less_no h)

shift_inj : (n₀ k x y : ℕ) → same (shift n₀ k x) (shift n₀ k y) ≡ same x y
shift_inj n₀ k x y = by_same x y
    (λ p q. ap (λ z. same (shift n₀ k x) (shift n₀ k z)) (sym p) ∙ same_refl (shift n₀ k x) ∙ sym q)
    (λ p q. same_ne (λ e. p (by_less x n₀
    (λ a _. by_less y n₀ (λ b _. sym (shift_low n₀ k x a) ∙ e ∙ shift_low n₀ k y b) (λ b _. omega (arith, shift_low n₀ k x a, shift_high n₀ k y b)))
    (λ a _. by_less y n₀ (λ b _. omega (arith, shift_high n₀ k x a, shift_low n₀ k y b)) (λ b _. omega (arith, shift_high n₀ k x a, shift_high n₀ k y b))))) ∙ sym q)

ren_low : {s : Kind} (n₀ k : ℕ) (t : Syn s) → Below n₀ t → ren (shift n₀ k) t ≡ t
ren_low n₀ k (var x) b = ap var (shift_low n₀ k x b)
ren_low n₀ k (app f ts) b = ap (app f) (ren_low n₀ k ts b)
ren_low n₀ k nil b = refl
ren_low n₀ k (cons t ts) b = ap₂ cons (ren_low n₀ k t b.0) (ren_low n₀ k ts b.1)

ren_b_low : (n₀ k : ℕ) (β : Bindings) → BelowB n₀ β → ren_b (shift n₀ k) β ≡ β
ren_b_low n₀ k start b = refl
ren_b_low n₀ k (bind x t β) b = λ i. bind (shift_low n₀ k x b.0 i) (ren_low n₀ k t b.1 i) (ren_b_low n₀ k β b.2 i)

-- The theorem: from a later counter, one bound comes to the same, shifted.
pub bounded_shift : (rules : List Rule) (s m : ℕ) (β : Bindings) (g : Term) (d n₀ c : ℕ) → Acyclic β → BelowB n₀ β → Below n₀ g → n₀ ≤ c
    → bounded unlimited rules s m β g d c ≡ ren_r (shift n₀ (c - n₀)) (c - n₀) (bounded unlimited rules s m β g d n₀)
bounded_shift rules s m β g d n₀ c ac bb bg l =
    ap₂ (λ b h. solve unlimited rules s s c m b (goal h d ∷ []) leaf) (sym (ren_b_low n₀ (c - n₀) β bb)) (sym (ren_low n₀ (c - n₀) g bg))
    ∙ solve_ren (shift n₀ (c - n₀)) (shift_inj n₀ (c - n₀)) n₀ (c - n₀) (shift_high n₀ (c - n₀)) rules s s n₀ c m β (goal g d ∷ []) leaf (le_refl n₀) (omega arith) ac bb (bg, tt)
