-- What each decision about a pair of references comes to: skipping what is equal, binding a variable, opening a pair of nodes, and failing.
use Rattle.std.specs.Prelude.{ℕ, zero, suc, ◌+◌, ◌-◌, ◌/◌, ◌%◌, ◌≤◌, ◌<◌, ◌≡◌, refl, true, false, ◌≢◌, List, ◌∷◌}
use Rattle.std.proofs.Common.{arith, not-suc-le-zero, le_refl, sym, ap, ap₂, ◌∙◌, subst, ⊎_elim}
use Rattle.terms.specs.Numbers.{same, same_refl, same_ne}
use Rattle.terms.specs.Term.{Kind, Syn, var, app, nil, cons, Term, Terms, Subst, sub, mem, size, Below}
use Rattle.terms.specs.Bindings.{Bindings, bind, full, res, walk, Solves}
use Rattle.terms.specs.Unification.{Eqn, eqn, eqns, meet, Outcome, unfinished, fails, unified, unifies, BelowE}
use Rattle.terms.specs.TermLaws.{app_inj}
use Rattle.terms.specs.BindingLaws.{full_solves, unbound_le}
use Rattle.terms.specs.UnificationLaws.{Answers, Over}
use Rattle.terms.proofs.UnificationLaws.{unifies_ok, unifies_over}
pub use Rattle.terms.proofs.UnificationLaws.{unifies_done}
use Rattle.terms.specs.Loops.{Next}
use Rattle.terms.proofs.Loops.{unify_next}
use Rattle.terms.proofs.Skips.{skips}
use Rattle.arena.specs.Cells.{Cells, headers, symbol_of, arity_of, args, denote, Reference, denote_node, denote_variable, below_denote}
use Rattle.bindings.specs.Orders.{by_order, low_or_high}
use Rattle.bindings.specs.Stored.{WalksTo}
use Rattle.unifier.specs.Promises.{LeadsTo, stay, go}
use Rattle.bindings.specs.Holding.{walks, walks_ref, walks_end, bindings_more}
use Rattle.unifier.specs.Pairs.{EqualUnder, arguments_from, pair, State, Pending, Resuming, walked, stack_equal, stack_bind, stack_same}

module _ (N : ℕ) where
  pub leads_eq : (w : Cells) (β : Bindings) {links : Cells} {a q : ℕ} → ((a z : ℕ) → links a ≡ suc z → EqualUnder β (denote N w a) (denote N w z)) → LeadsTo links a q → EqualUnder β (denote N w a) (denote N w q)
  leads_eq w β h (stay e) = λ σ s. refl
  leads_eq w β h (go {r = r} {x = x} e l) = λ σ s. h r x e σ s ∙ leads_eq w β h l σ s

module _ {N : ℕ} where
  pub leads_ref : {w links : Cells} {variables used a q : ℕ} → ((a z : ℕ) → links a ≡ suc z → Reference N w variables used z) → Reference N w variables used a → LeadsTo links a q → Reference N w variables used q
  leads_ref h r (stay e) = r
  leads_ref h r (go {r = a} {x = x} e l) = leads_ref h (h a x e) l

pub leads_root : {links : Cells} {a q : ℕ} → LeadsTo links a q → links q ≡ 0
leads_root (stay e) = e
leads_root (go e l) = leads_root l

-- How many terms stand in a list.
abbrev len : {s : Kind} → Syn s → ℕ
len (var x) = 0
len (app f ts) = 0
len nil = 0
len (cons t ts) = suc (len ts)

length_args : (σ : Subst) (g : ℕ → Term) (w : Cells) (p n : ℕ) → len (sub σ (args g w p n)) ≡ n
length_args σ g w p zero = refl
length_args σ g w p (suc n) = ap suc (length_args σ g w (suc p) n)

-- a header is its symbol and its number of arguments
heads : (a b : ℕ) → headers ≤ a → headers ≤ b → (σ : Subst) (f g : ℕ → Terms) → ((n : ℕ) → len (sub σ (f n)) ≡ n) → ((n : ℕ) → len (sub σ (g n)) ≡ n)
    → sub σ (app (symbol_of a) (f (arity_of a))) ≡ sub σ (app (symbol_of b) (g (arity_of b))) → a ≡ b
heads a b la lb σ f g lf lg e =
    let i = app_inj (symbol_of a) (symbol_of b) (sub σ (f (arity_of a))) (sub σ (g (arity_of b))) e in
    let n : a % 32 ≡ b % 32 = sym (lf (arity_of a)) ∙ ap (λ (t : Terms). len t) i.1 ∙ lg (arity_of b) in
    let m : (a - headers) / 32 ≡ (b - headers) / 32 = i.0 in
    omega (arith, n, m)

module _ {N : ℕ} where
  module _ {w values trail links lefts rights taken : Cells} {variables used k d : ℕ} {β : Bindings} {X Y : Term} {es : List Eqn} (st : State N w values trail links lefts rights taken variables used k d β X Y es) where
    walk_eq : {x p : ℕ} → Reference N w variables used x → WalksTo N values x p → EqualUnder β (denote N w x) (denote N w p)
    walk_eq {x} r v σ s = sym (walked β st.holds.acyclic (denote N w x) σ s) ∙ ap (sub σ) (walks st.words st.holds r v)

  module _ {w values trail links lefts rights taken : Cells} {variables used k d x y : ℕ} {o : Outcome} (h : Pending N w values trail links lefts rights taken variables used k d x y o) where
    bel : BelowE variables (eqn (denote N w x) (denote N w y) ∷ h.es)
    bel = (below_denote N w variables used h.state.words x h.left_in, below_denote N w variables used h.state.words y h.right_in, h.state.below)

    -- a pair that is equal is skipped
    pub skip_equal : EqualUnder h.β (denote N w x) (denote N w y) → Resuming N w values trail links lefts rights taken variables used k d o
    skip_equal e = record {
      β = h.β;
      X = denote N w x;
      Y = denote N w y;
      es = h.es;
      state = h.state;
      equal = e;
      comes = h.comes ∙ skips variables h.β h.state.holds.acyclic h.state.holds.below (size (res h.β (denote N w x))) (eqn (denote N w x) (denote N w y))
          (e (full h.β) (full_solves h.β h.state.holds.acyclic)) (le_refl _) h.es bel;
    }

    module _ {p q : ℕ} (vx : WalksTo N values x p) (vy : WalksTo N values y q) where
      wx : walk h.β (denote N w x) ≡ denote N w p
      wx = walks h.state.words h.state.holds h.left_in vx

      wy : walk h.β (denote N w y) ≡ denote N w q
      wy = walks h.state.words h.state.holds h.right_in vy

      rp : Reference N w variables used p
      rp = walks_ref h.state.words h.state.holds h.left_in vx

      rq : Reference N w variables used q
      rq = walks_ref h.state.words h.state.holds h.right_in vy

      ex : EqualUnder h.β (denote N w x) (denote N w p)
      ex = walk_eq h.state h.left_in vx

      ey : EqualUnder h.β (denote N w y) (denote N w q)
      ey = walk_eq h.state h.right_in vy

      -- two constants with one header are the same term
      pub skip_constants : N ≤ p → N ≤ q → w (p - N) ≡ w (q - N) → arity_of (w (p - N)) ≡ 0 → Resuming N w values trail links lefts rights taken variables used k d o
      skip_constants lp lq e z = skip_equal (λ σ s. ex σ s ∙ ap (sub σ) (lone p rp lp z ∙ ap (λ (a : ℕ). app (symbol_of a) nil) e ∙ sym (lone q rq lq (ap arity_of (sym e) ∙ z))) ∙ sym (ey σ s))
        where
          lone : (r : ℕ) → Reference N w variables used r → N ≤ r → arity_of (w (r - N)) ≡ 0 → denote N w r ≡ app (symbol_of (w (r - N))) nil
          lone r rr l none = denote_node N w variables used h.state.words r rr l ∙ ap (λ (n : ℕ). app (symbol_of (w (r - N))) (args (denote N w) w (suc (r - N)) n)) none

      pub skip_linked : (P : ℕ) → LeadsTo links p P → LeadsTo links q P → Resuming N w values trail links lefts rights taken variables used k d o
      skip_linked P l m = skip_equal (λ σ s. ex σ s ∙ leads_eq N w h.β h.state.equal_links l σ s ∙ sym (leads_eq N w h.β h.state.equal_links m σ s) ∙ sym (ey σ s))

      meets : (a b : Term) → denote N w p ≡ a → denote N w q ≡ b → Next variables h.β (meet h.β a b h.es) (unifies variables h.β (eqn (denote N w x) (denote N w y) ∷ h.es))
      meets a b ea eb =
          subst (λ a'. Next variables h.β (meet h.β a' b h.es) (unifies variables h.β (eqn (denote N w x) (denote N w y) ∷ h.es))) (wx ∙ ea)
          (subst (λ b'. Next variables h.β (meet h.β (walk h.β (denote N w x)) b' h.es) (unifies variables h.β (eqn (denote N w x) (denote N w y) ∷ h.es))) (wy ∙ eb)
          (unify_next variables h.β (eqn (denote N w x) (denote N w y)) h.es h.state.holds.acyclic h.state.holds.below bel))

      left_next : p < N → p ≢ q → mem p (res h.β (denote N w q)) ≡ false → unifies variables h.β (eqn (denote N w x) (denote N w y) ∷ h.es) ≡ unifies variables (bind p (denote N w q) h.β) h.es
      left_next l n m = ⊎_elim
          (λ lq. (let nx = meets (var p) (var q) (denote_variable N w p l) (denote_variable N w q lq) in rw (same_ne n) at nx)
          ∙ ap (λ (t : Term). unifies variables (bind p t h.β) h.es) (sym (denote_variable N w q lq)))
          (λ lq. let e = denote_node N w variables used h.state.words q rq lq in
          let nx = meets (var p) (app (symbol_of (w (q - N))) (args (denote N w) w (suc (q - N)) (arity_of (w (q - N))))) (denote_variable N w p l) e in
          let m' = rw e at m in (rw m' at nx)
          ∙ ap (λ (t : Term). unifies variables (bind p t h.β) h.es) (sym e))
          (low_or_high q N)

      right_next : N ≤ p → q < N → mem q (res h.β (denote N w p)) ≡ false → unifies variables h.β (eqn (denote N w x) (denote N w y) ∷ h.es) ≡ unifies variables (bind q (denote N w p) h.β) h.es
      right_next lp l m =
          let e = denote_node N w variables used h.state.words p rp lp in
          let nx = meets (app (symbol_of (w (p - N))) (args (denote N w) w (suc (p - N)) (arity_of (w (p - N))))) (var q) e (denote_variable N w q l) in
          let m' = rw e at m in (rw m' at nx)
          ∙ ap (λ (t : Term). unifies variables (bind q t h.β) h.es) (sym e)

      -- a binding of v to z is made
      module _ (values' trail' : Cells) (tk : (i : ℕ) → i < k → trail' i ≡ trail i) where
        bound : (v z : ℕ) → trail' k ≡ v → values' v ≡ suc z → ((y : ℕ) → y ≢ v → values' y ≡ values y) → v < variables → values v ≡ 0 → Reference N w variables used z → mem v (res h.β (denote N w z)) ≡ false
            → EqualUnder (bind v (denote N w z) h.β) (denote N w x) (denote N w y)
            → unifies variables h.β (eqn (denote N w x) (denote N w y) ∷ h.es) ≡ unifies variables (bind v (denote N w z) h.β) h.es → Resuming N w values' trail' links lefts rights taken variables used (suc k) d o
        bound v z tv bv bo vn e rz m eq nx = record {
          β = bind v (denote N w z) h.β;
          X = denote N w x;
          Y = denote N w y;
          es = h.es;
          state = record {
            words = h.state.words;
            holds = bindings_more h.state.words h.state.holds values' trail' v z vn e rz m bv bo tv tk;
            stack = stack_bind v (denote N w z) h.state.stack;
            below = h.state.below;
            equal_links = λ a z l σ s. h.state.equal_links a z l σ s.1;
            links_in = h.state.links_in;
            smaller = λ i j a b σ s. h.state.smaller i j a b σ s.1;
            apart = h.state.apart;
          };
          equal = eq;
          comes = h.comes ∙ nx;
        }

        pub bind_first : trail' k ≡ p → values' p ≡ suc q → ((y : ℕ) → y ≢ p → values' y ≡ values y) → p < N → p ≢ q → mem p (res h.β (denote N w q)) ≡ false → Resuming N w values' trail' links lefts rights taken variables used (suc k) d o
        bind_first tv bv bo l n m = bound p q tv bv bo (rp.variable l) (walks_end h.state.words h.state.holds vx l) rq m
            (λ σ s. ex σ s.1 ∙ ap (sub σ) (denote_variable N w p l) ∙ s.0 ∙ sym (ey σ s.1)) (left_next l n m)

        pub bind_second : trail' k ≡ q → values' q ≡ suc p → ((y : ℕ) → y ≢ q → values' y ≡ values y) → N ≤ p → q < N → mem q (res h.β (denote N w p)) ≡ false → Resuming N w values' trail' links lefts rights taken variables used (suc k) d o
        bind_second tv bv bo lp l m = bound q p tv bv bo (rq.variable l) (walks_end h.state.words h.state.holds vy l) rp m
            (λ σ s. ex σ s.1 ∙ sym s.0 ∙ ap (sub σ) (sym (denote_variable N w q l)) ∙ sym (ey σ s.1)) (right_next lp l m)

      arguments_zero : (r : ℕ) → arguments_from N w r 0 ≡ args (denote N w) w (suc (r - N)) (arity_of (w (r - N)))
      arguments_zero r = let e : suc (r - N) + 0 ≡ suc (r - N) = omega arith in let e' : arity_of (w (r - N)) - 0 ≡ arity_of (w (r - N)) = omega arith in
          ap₂ (λ (a n : ℕ). args (denote N w) w a n) e e'

      below_arguments_from : (r : ℕ) → Reference N w variables used r → N ≤ r → Below variables (arguments_from N w r 0)
      below_arguments_from r f l = subst (λ (t : Terms). Below variables t) (sym (arguments_zero r)) (subst (λ (t : Term). Below variables t) (denote_node N w variables used h.state.words r f l) (below_denote N w variables used h.state.words r f))

      open_next : N ≤ p → N ≤ q → w (p - N) ≡ w (q - N) → unifies variables h.β (eqn (denote N w x) (denote N w y) ∷ h.es) ≡ unifies variables h.β (eqns (arguments_from N w p 0) (arguments_from N w q 0) ∷ h.es)
      open_next lp lq e =
          let ep = denote_node N w variables used h.state.words p rp lp in
          let eq = denote_node N w variables used h.state.words q rq lq in
          let nx = meets (app (symbol_of (w (p - N))) (args (denote N w) w (suc (p - N)) (arity_of (w (p - N))))) (app (symbol_of (w (q - N))) (args (denote N w) w (suc (q - N)) (arity_of (w (q - N))))) ep eq in
          let t : same (symbol_of (w (p - N))) (symbol_of (w (q - N))) ≡ true = subst (λ (z : ℕ). same (symbol_of (w (p - N))) (symbol_of z) ≡ true) e (same_refl (symbol_of (w (p - N)))) in
          (rw t at nx) ∙ ap₂ (λ (a b : Terms). unifies variables h.β (eqns a b ∷ h.es)) (sym (arguments_zero p)) (sym (arguments_zero q))

      pub open_pair : (lefts' rights' taken' : Cells) → ((j : ℕ) → j < d → lefts' j ≡ lefts j) → ((j : ℕ) → j < d → rights' j ≡ rights j) → ((j : ℕ) → j < d → taken' j ≡ taken j)
          → lefts' d ≡ p → rights' d ≡ q → taken' d ≡ 0 → N ≤ p → N ≤ q → w (p - N) ≡ w (q - N) → ((P : ℕ) → LeadsTo links p P → LeadsTo links q P → ⊥)
          → Resuming N w values trail links lefts' rights' taken' variables used k (suc d) o
      open_pair lefts' rights' taken' ka kb ki ea eb ei lp lq e ap' = record {
        β = h.β;
        X = denote N w p;
        Y = denote N w p;
        es = eqns (arguments_from N w p 0) (arguments_from N w q 0) ∷ h.es;
        state = record {
          words = h.state.words;
          holds = h.state.holds;
          stack = pair p q 0 ea eb ei (record { left_in = rp; right_in = rq; left_node = lp; right_node = lq; alike = e; within = omega arith })
              (λ σ s e j l. absurd (not-suc-le-zero l)) (stack_equal ex ey (stack_same ka kb ki h.state.stack));
          below = (below_arguments_from p rp lp, below_arguments_from q rq lq, h.state.below);
          equal_links = h.state.equal_links;
          links_in = h.state.links_in;
          smaller = λ i j a b σ s. by_order j d
              (λ jd. let z = h.state.smaller i j a jd σ s in let ei = ka i (omega arith) in let ej = ka j jd in rw (ei, ej) z)
              (λ jd. let jj : j ≡ d = omega arith in let z = h.smallest i (omega arith) σ s in let ei = ka i (omega arith) in let ej : lefts' j ≡ p = ap lefts' jj ∙ ea in
              rw (ei, ej, ← ex σ s) z);
          apart = λ j l P a b. by_order j d
              (λ jd. h.state.apart j jd P (subst (λ (z : ℕ). LeadsTo links z P) (ka j jd) a) (subst (λ (z : ℕ). LeadsTo links z P) (kb j jd) b))
              (λ jd. let jj : j ≡ d = omega arith in ap' P (subst (λ (z : ℕ). LeadsTo links z P) (ap lefts' jj ∙ ea) a) (subst (λ (z : ℕ). LeadsTo links z P) (ap rights' jj ∙ eb) b));
        };
        equal = λ σ s. refl;
        comes = h.comes ∙ open_next lp lq e;
      }

      -- where the outcome is failure
      pub occurs_in_second : p < N → N ≤ q → mem p (res h.β (denote N w q)) ≡ true → o ≡ fails
      occurs_in_second l lq m =
          let e = denote_node N w variables used h.state.words q rq lq in
          let nx = meets (var p) (app (symbol_of (w (q - N))) (args (denote N w) w (suc (q - N)) (arity_of (w (q - N))))) (denote_variable N w p l) e in
          let m' = rw e at m in h.comes ∙ (rw m' at nx)

      pub occurs_in_first : N ≤ p → q < N → mem q (res h.β (denote N w p)) ≡ true → o ≡ fails
      occurs_in_first lp l m =
          let e = denote_node N w variables used h.state.words p rp lp in
          let nx = meets (app (symbol_of (w (p - N))) (args (denote N w) w (suc (p - N)) (arity_of (w (p - N))))) (var q) e (denote_variable N w q l) in
          let m' = rw e at m in h.comes ∙ (rw m' at nx)

      -- no solution: failure
      no_way : ((σ : Subst) → Solves σ h.β → sub σ (denote N w x) ≡ sub σ (denote N w y) → ⊥) → o ≡ fails
      no_way n = h.comes ∙ over (unifies variables h.β (eqn (denote N w x) (denote N w y) ∷ h.es))
          (unifies_ok variables variables h.β (eqn (denote N w x) (denote N w y) ∷ h.es) h.state.holds.acyclic h.state.holds.below bel)
          (unifies_over variables variables h.β (eqn (denote N w x) (denote N w y) ∷ h.es) h.state.holds.acyclic h.state.holds.below bel (unbound_le variables h.β))
        where
          over : (r : Outcome) → Answers variables h.β (eqn (denote N w x) (denote N w y) ∷ h.es) r → Over r → r ≡ fails
          over unfinished a v = absurd v
          over fails a v = refl
          over (unified β') a v = let (s, e) = a.sound (full β') (full_solves β' a.acyclic) in absurd (n (full β') s e.0)

      pub heads_differ : N ≤ p → N ≤ q → w (p - N) ≢ w (q - N) → o ≡ fails
      heads_differ lp lq n = no_way (λ σ s e. n (heads (w (p - N)) (w (q - N)) (rp.header lp) (rq.header lq) σ (args (denote N w) w (suc (p - N))) (args (denote N w) w (suc (q - N)))
          (λ m. length_args σ (denote N w) w (suc (p - N)) m) (λ m. length_args σ (denote N w) w (suc (q - N)) m)
          (ap (sub σ) (sym (denote_node N w variables used h.state.words p rp lp)) ∙ sym (ex σ s) ∙ e ∙ ey σ s ∙ ap (sub σ) (denote_node N w variables used h.state.words q rq lq))))
