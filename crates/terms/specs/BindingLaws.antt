-- Laws of triangular bindings: what it means to put them in, how a walk goes, where it ends, and how many variables are unbound.
use Rattle.std.specs.Prelude.{ℕ, zero, suc, ◌+◌, ◌≤◌, ◌<◌, ◌≡◌, refl, true, false, ◌≢◌}
use Rattle.std.proofs.Common.{ap, sym, ◌∙◌, subst, arith}
use Rattle.std.proofs.Math.Option.{Option, none, some}
use Rattle.terms.specs.Numbers.{same_refl, same_ne, by_same, true_false, some_none, none_some}
use Rattle.terms.specs.Term.{Kind, Syn, var, app, Term, Terms, Subst, sub, compose, upd, mem, Below}
use Rattle.terms.specs.Bindings.{Bindings, start, bind, lookup, into, walk, full, res, Acyclic, Solves, BelowB, Extends, unchanged, added}
use Rattle.terms.specs.TermLaws.{sub_sub, sub_ext, sub_single, sub_agree, below_sub, below_le, mem_through, mem_var, var_app}

-- The bindings put in throughout

pub full_unbound : (β : Bindings) (y : ℕ) → lookup β y ≡ none → full β y ≡ var y
full_unbound start y e = refl
full_unbound (bind x t β) y e = by_same y x
    (λ p q. some_none refl (rw q at e))
    (λ p q. rw (full_unbound β y (rw q at e), q))

pub res_bind : {s : Kind} (x : ℕ) (t : Term) (β : Bindings) (a : Syn s) → res (bind x t β) a ≡ sub (upd x (res β t) var) (res β a)
res_bind x t β a = sym (sub_sub (full β) (upd x (res β t) var) a)

-- What agrees with the bindings does not see that they are put in.
solves_each : (σ : Subst) (x : ℕ) (t T : Term) → σ x ≡ sub σ t → sub σ T ≡ sub σ t → (z : ℕ) → sub σ (upd x T var z) ≡ σ z
solves_each σ x t T h e z = by_same z x (λ p q. rw q (e ∙ sym h ∙ ap σ (sym p))) (λ p q. rw q)

pub solves_full : (σ : Subst) (β : Bindings) → Solves σ β → (y : ℕ) → sub σ (full β y) ≡ σ y
solves_full σ start h y = refl
solves_full σ (bind x t β) h y =
    let ih = solves_full σ β h.1 in
    let e : sub σ (res β t) ≡ sub σ t = sub_sub (full β) σ t ∙ sub_ext (compose (full β) σ) σ ih t in
    sub_sub (upd x (res β t) var) σ (full β y) ∙ sub_ext (compose (upd x (res β t) var) σ) σ (solves_each σ x t (res β t) h.0 e) (full β y) ∙ ih y

pub solves_res : {s : Kind} (σ : Subst) (β : Bindings) → Solves σ β → (t : Syn s) → sub σ (res β t) ≡ sub σ t
solves_res σ β h t = sub_sub (full β) σ t ∙ sub_ext (compose (full β) σ) σ (solves_full σ β h) t

pub solves_comp : (σ τ : Subst) (β : Bindings) → Solves σ β → Solves (compose σ τ) β
solves_comp σ τ start h = tt
solves_comp σ τ (bind x t β) h = (ap (sub τ) h.0 ∙ sub_sub σ τ t, solves_comp σ τ β h.1)

-- The bindings put in throughout agree with the bindings.
pub full_solves : (β : Bindings) → Acyclic β → Solves (full β) β
full_solves start h = tt
full_solves (bind x t β) h = (
  ap (sub (upd x (res β t) var)) (full_unbound β x h.0) ∙ rw same_refl (sym (sub_single x (res β t) (res β t) h.1)) ∙ sym (res_bind x t β t),
  solves_comp (full β) (upd x (res β t) var) β (full_solves β h.2),
)

pub solves_lookup : (σ : Subst) (β : Bindings) → Solves σ β → (y : ℕ) (t : Term) → lookup β y ≡ some t → σ y ≡ sub σ t
solves_lookup σ start s y t e = none_some e
solves_lookup σ (bind x u β) s y t e = by_same y x
    (λ p q. let e' : some u ≡ some t = rw q at e in let ut : u ≡ t = cc in ap σ p ∙ s.0 ∙ ap (sub σ) ut)
    (λ p q. solves_lookup σ β s.1 y t (rw q at e))

-- What is left, once the bindings are put in, is unbound.
pub full_open : (β : Bindings) → Acyclic β → (y z : ℕ) → mem z (full β y) ≡ true → lookup β z ≡ none
full_open start h y z e = refl
full_open (bind x t β) h y z e =
    let r = mem_through z (upd x (res β t) var) (full β y) e in
    by_same r.y x
    (λ p q. let m : mem z (res β t) ≡ true = rw q at r.there in
    let s = mem_through z (full β) t m in
    rw (same_ne {x = z} {y = x} (λ zx. true_false m (rw zx h.1))) (full_open β h.2 s.y z s.there))
    (λ p q. let zy : z ≡ r.y = mem_var (rw q at r.there) in
    rw (same_ne {x = z} {y = x} (λ zx. p (sym zy ∙ zx))) (full_open β h.2 y z (rw zy r.here)))

pub res_open : {s : Kind} (β : Bindings) → Acyclic β → (t : Syn s) (z : ℕ) → mem z (res β t) ≡ true → lookup β z ≡ none
res_open β h t z e = let r = mem_through z (full β) t e in full_open β h r.y z r.there

-- Walking

pub walk_app : (β : Bindings) (f : ℕ) (ts : Terms) → walk β (app f ts) ≡ app f ts
walk_app start f ts = refl
walk_app (bind x u β) f ts = rw (walk_app β f ts)

pub walk_unbound : (β : Bindings) (y : ℕ) → lookup β y ≡ none → walk β (var y) ≡ var y
walk_unbound start y e = refl
walk_unbound (bind x t β) y e = by_same y x
    (λ p q. some_none refl (rw q at e))
    (λ p q. rw (walk_unbound β y (rw q at e), q))

res_cong : {s : Kind} (x : ℕ) (u : Term) (β : Bindings) (a b : Syn s) → res β a ≡ res β b → res (bind x u β) a ≡ res (bind x u β) b
res_cong x u β a b e = res_bind x u β a ∙ ap (sub (upd x (res β u) var)) e ∙ sym (res_bind x u β b)

-- A term and its walk are one, once the bindings are put in.
pub res_walk : (β : Bindings) → Acyclic β → (t : Term) → res β (walk β t) ≡ res β t
res_walk start h t = refl
res_walk (bind x u β) h t = go (walk β t) refl (res_walk β h.2 t) (res_walk β h.2 u)
  where
    go : (w : Term) → walk β t ≡ w → res β (walk β t) ≡ res β t → res β (walk β u) ≡ res β u → res (bind x u β) (into x (walk β u) w) ≡ res (bind x u β) t
    go (var y) e et eu = by_same y x
        (λ p q. rw q (res_cong x u β (walk β u) u eu ∙ sym (full_solves (bind x u β) h).0 ∙ ap (full (bind x u β)) (sym p)
        ∙ ap (res (bind x u β)) (sym e) ∙ res_cong x u β (walk β t) t et))
        (λ p q. rw q (ap (res (bind x u β)) (sym e) ∙ res_cong x u β (walk β t) t et))
    go (app f ts) e et eu = ap (res (bind x u β)) (sym e) ∙ res_cong x u β (walk β t) t et

-- A substitution that agrees with the bindings does not tell a term from its walk.
pub solves_walk : (σ : Subst) (β : Bindings) → Acyclic β → Solves σ β → (a : Term) → sub σ (walk β a) ≡ sub σ a
solves_walk σ β ac h a = sym (solves_res σ β h (walk β a)) ∙ ap (sub σ) (res_walk β ac a) ∙ solves_res σ β h a

-- The walk of what x is bound to does not end at x.
pub walk_not_back : (β : Bindings) (x : ℕ) (u : Term) → Acyclic (bind x u β) → walk β u ≢ var x
unfolding mem
walk_not_back β x u h e = true_false (same_refl x)
    (subst (λ t. mem x t ≡ false) (sym (res_walk β h.2 u) ∙ ap (res β) e ∙ full_unbound β x h.0) h.1)

into_idle : (x : ℕ) (u w : Term) → w ≢ var x → into x u w ≡ w
into_idle x u (var y) h = by_same y x (λ p q. absurd (h (ap var p))) (λ p q. rw q)
into_idle x u (app f ts) h = refl

-- A bound variable's walk goes on with the term that it is bound to.
pub walk_bound : (β : Bindings) → Acyclic β → (y : ℕ) (t : Term) → lookup β y ≡ some t → walk β (var y) ≡ walk β t
walk_bound start h y t e = none_some e
walk_bound (bind x u β) h y t e = by_same y x
    (λ p q. let e' : some u ≡ some t = rw q at e in
    let ut : u ≡ t = cc in
    ap (into x (walk β u)) (walk_unbound β y (rw p h.0)) ∙ rw (q, ← ut) (sym (into_idle x (walk β u) (walk β u) (walk_not_back β x u h))))
    (λ p q. ap (into x (walk β u)) (walk_bound β h.2 y t (rw q at e)))

-- A walk ends at no bound variable.
pub walk_ends : (β : Bindings) → Acyclic β → (t : Term) (y : ℕ) → walk β t ≡ var y → lookup β y ≡ none
walk_ends start h t y e = refl
walk_ends (bind x u β) h t y e = go (walk β t) refl e (walk_ends β h.2 t y) (walk_ends β h.2 u y)
  where
    go : (w : Term) → walk β t ≡ w → into x (walk β u) w ≡ var y → (walk β t ≡ var y → lookup β y ≡ none) → (walk β u ≡ var y → lookup β y ≡ none) → lookup (bind x u β) y ≡ none
    go (var z) e k ht hu = by_same z x
        (λ p q. let k' : walk β u ≡ var y = rw q at k in
        by_same y x (λ p' q'. absurd (walk_not_back β x u h (k' ∙ ap var p'))) (λ p' q'. rw q' (hu k')))
        (λ p q. let k' : var z ≡ var y = rw q at k in
        let zy : z ≡ y = cc in rw (← zy, q) (subst (λ n. lookup β n ≡ none) (sym zy) (ht (e ∙ k'))))
    go (app f ts) e k ht hu = var_app k refl

-- Bounds on variables

below_upd : (c x : ℕ) (t : Term) → Below c t → (y : ℕ) → y < c → Below c (upd x t var y)
below_upd c x t b y h = by_same y x (λ p q. rw q b) (λ p q. rw q h)

pub below_full : (c : ℕ) (β : Bindings) → BelowB c β → (y : ℕ) → y < c → Below c (full β y)
below_full c start b y h = h
below_full c (bind x t β) b y h =
    let ih = below_full c β b.2 in
    below_sub c c (upd x (res β t) var) (below_upd c x (res β t) (below_sub c c (full β) ih t b.1)) (full β y) (ih y h)

pub below_res : {s : Kind} (c : ℕ) (β : Bindings) → BelowB c β → (t : Syn s) → Below c t → Below c (res β t)
below_res c β b t h = below_sub c c (full β) (below_full c β b) t h

pub below_walk : (c : ℕ) (β : Bindings) → BelowB c β → (t : Term) → Below c t → Below c (walk β t)
below_walk c start b t h = h
below_walk c (bind x u β) b t h = go (walk β t) (below_walk c β b.2 t h) (below_walk c β b.2 u b.1)
  where
    go : (w : Term) → Below c w → Below c (walk β u) → Below c (into x (walk β u) w)
    go (var y) hw hu = by_same y x (λ p q. rw q hu) (λ p q. rw q hw)
    go (app f ts) hw hu = hw

pub below_b_le : {c d : ℕ} → c ≤ d → (β : Bindings) → BelowB c β → BelowB d β
below_b_le h start b = tt
below_b_le h (bind x t β) b = (omega arith, below_le h t b.1, below_b_le h β b.2)

-- A variable from c on is unbound.
pub lookup_above : (c : ℕ) (β : Bindings) → BelowB c β → (y : ℕ) → c ≤ y → lookup β y ≡ none
lookup_above c start b y h = refl
lookup_above c (bind x t β) b y h = rw (same_ne {x = y} {y = x} (λ e. omega arith)) (lookup_above c β b.2 y h)

-- Agreeing below c is enough.
pub solves_agree : (c : ℕ) (σ τ : Subst) → ((x : ℕ) → x < c → σ x ≡ τ x) → (β : Bindings) → BelowB c β → Solves σ β → Solves τ β
solves_agree c σ τ h start b s = tt
solves_agree c σ τ h (bind x t β) b s = (sym (h x b.0) ∙ s.0 ∙ sub_agree c σ τ h t b.1, solves_agree c σ τ h β b.2 s.1)

-- Bindings that only add

pub extends_trans : {β β' β'' : Bindings} → Extends β β' → Extends β' β'' → Extends β β''
extends_trans h unchanged = h
extends_trans h (added k) = added (extends_trans h k)

pub extends_solves : {β β' : Bindings} → Extends β β' → (σ : Subst) → Solves σ β' → Solves σ β
extends_solves unchanged σ s = s
extends_solves (added k) σ s = extends_solves k σ s.1

pub extends_lookup : {β β' : Bindings} → Acyclic β' → Extends β β' → (y : ℕ) (t : Term) → lookup β y ≡ some t → lookup β' y ≡ some t
extends_lookup ac unchanged y t e = e
extends_lookup ac (added {x} k) y t e = let ih = extends_lookup ac.2 k y t e in
    by_same y x (λ p q. some_none ih (rw p ac.0)) (λ p q. rw q ih)

-- How many variables below c are unbound: the measure of unification.

-- One for a variable that is unbound.
abbrev pub is_none : Option Term → ℕ
is_none none = 1
is_none (some t) = 0

-- The unbound variables below c.
abbrev pub unbound : ℕ → Bindings → ℕ
unbound zero β = 0
unbound (suc n) β = is_none (lookup β n) + unbound n β

unbound_above : (c x : ℕ) (t : Term) (β : Bindings) → c ≤ x → unbound c (bind x t β) ≡ unbound c β
unbound_above zero x t β h = refl
unbound_above (suc c) x t β h = rw (same_ne {x = c} {y = x} (λ e. omega arith), unbound_above c x t β (omega arith))

pub unbound_bind : (c x : ℕ) (t : Term) (β : Bindings) → x < c → lookup β x ≡ none → suc (unbound c (bind x t β)) ≡ unbound c β
unbound_bind zero x t β h e = absurd (omega arith)
unbound_bind (suc c) x t β h e = by_same c x
    (λ p q. rw (q, unbound_above c x t β (omega arith), subst (λ n. lookup β n ≡ none) (sym p) e) (omega arith))
    (λ p q. let ih = unbound_bind c x t β (omega arith) e in rw (q, ← ih) (omega arith))

pub unbound_le : (c : ℕ) (β : Bindings) → unbound c β ≤ c
unbound_le zero β = omega arith
unbound_le (suc c) β = go (lookup β c) (unbound_le c β)
  where
    go : (o : Option Term) → unbound c β ≤ c → is_none o + unbound c β ≤ suc c
    go none h = omega arith
    go (some t) h = omega arith
