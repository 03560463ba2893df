-- What the open pairs come to: the next pair of arguments, and a pair that is closed and linked.
use Rattle.std.specs.Prelude.{ℕ, suc, ◌+◌, ◌-◌, ◌≤◌, ◌<◌, ◌≡◌, refl, ◌⊎◌, ◌≢◌, List, [], ◌∷◌}
use Rattle.std.proofs.Common.{arith, not-suc-le-zero, sym, ap, ap₂, ◌∙◌, subst, inl, inr, ⊎_elim}
use Rattle.terms.specs.Numbers.{by_same}
use Rattle.terms.specs.Term.{nil, cons, Term, Terms, Subst, sub, size, Below}
use Rattle.terms.specs.Bindings.{Bindings, full, Solves}
use Rattle.terms.specs.Unification.{Eqn, eqn, eqns, Outcome, unified, unifies, BelowE}
use Rattle.terms.specs.BindingLaws.{full_solves}
use Rattle.terms.proofs.Loops.{unify_next}
use Rattle.arena.specs.Cells.{Cells, arity_of, denote, Reference, WellFormed, reference_argument}
use Rattle.bindings.specs.Orders.{by_order}
use Rattle.bindings.specs.Stored.{bindings}
use Rattle.unifier.specs.Promises.{LeadsTo, stay, go}
use Rattle.bindings.specs.Holding.{Holds}
use Rattle.unifier.specs.Pairs.{EqualUnder, arguments_from, argument_at, OpenPair, Stack, bottom, pair, Pending, Resuming, stack_same, arguments_cons, arguments_nil, argument_less, all_equal}
use Rattle.unifier.specs.Steps.{leads_eq, unifies_done}

-- the last open pair
pub record Topmost (N : ℕ) (w lefts rights taken : Cells) (β : Bindings) (variables used d : ℕ) (X Y : Term) (es : List Eqn) (a b i : ℕ) : Type 0 where
  pub es' : List Eqn
  pub is : es ≡ eqns (arguments_from N w a i) (arguments_from N w b i) ∷ es'
  pub pair : OpenPair N w variables used a b i
  pub done : (σ : Subst) → Solves σ β → sub σ X ≡ sub σ Y → (j : ℕ) → j < i → sub σ (argument_at N w a j) ≡ sub σ (argument_at N w b j)
  pub up : Stack N w lefts rights taken β variables used d (denote N w a) (denote N w b) es'

module _ {N : ℕ} where
  pub top : {w lefts rights taken : Cells} {β : Bindings} {variables used d : ℕ} {X Y : Term} {es : List Eqn} → Stack N w lefts rights taken β variables used (suc d) X Y es → Topmost N w lefts rights taken β variables used d X Y es (lefts d) (rights d) (taken d)
  top {w} {lefts} {rights} {taken} {β} {variables} {used} {d} {X} {Y} (pair {es = es'} a b i ea eb ei f h fs) =
      let t : Topmost N w lefts rights taken β variables used d X Y (eqns (arguments_from N w a i) (arguments_from N w b i) ∷ es') a b i = record { es' = es'; is = refl; pair = f; done = h; up = fs } in
      subst (λ (z : ℕ). Topmost N w lefts rights taken β variables used d X Y (eqns (arguments_from N w a i) (arguments_from N w b i) ∷ es') z (rights d) (taken d)) (sym ea)
      (subst (λ (z : ℕ). Topmost N w lefts rights taken β variables used d X Y (eqns (arguments_from N w a i) (arguments_from N w b i) ∷ es') a z (taken d)) (sym eb)
      (subst (λ (z : ℕ). Topmost N w lefts rights taken β variables used d X Y (eqns (arguments_from N w a i) (arguments_from N w b i) ∷ es') a b z) (sym ei) t))

  bottom_none : {w lefts rights taken : Cells} {β : Bindings} {variables used : ℕ} {X Y : Term} {es : List Eqn} → Stack N w lefts rights taken β variables used 0 X Y es → es ≡ []
  bottom_none bottom = refl

  -- nothing is left
  pub all_done : {w values trail links lefts rights taken : Cells} {variables used k : ℕ} {o : Outcome} → Resuming N w values trail links lefts rights taken variables used k 0 o → o ≡ unified (bindings N w values trail k)
  all_done {variables = variables} h = h.comes ∙ ap (unifies variables h.β) (bottom_none h.state.stack) ∙ unifies_done variables h.β ∙ ap unified h.state.holds.is

  -- the start
  pub first_state : {w values trail links lefts rights taken : Cells} {variables used k x y : ℕ} {β : Bindings} → WellFormed N w variables used → Holds N w values trail variables used k β → ((a : ℕ) → links a ≡ 0) → Reference N w variables used x → Reference N w variables used y
      → Pending N w values trail links lefts rights taken variables used k 0 x y (unifies variables (bindings N w values trail k) (eqn (denote N w x) (denote N w y) ∷ []))
  first_state {w} {values} {trail} {links} {variables = variables} {k = k} {x = x} {y = y} {β = β} wf h z rx ry = record {
    β = β;
    es = [];
    state = record {
      words = wf;
      holds = h;
      stack = bottom;
      below = tt;
      equal_links = λ a b e. let c : ⊥ = let e₀ = z a in omega arith in absurd c;
      links_in = λ a b e. let c : ⊥ = let e₀ = z a in omega arith in absurd c;
      smaller = λ j m a b. absurd (not-suc-le-zero b);
      apart = λ j l. absurd (not-suc-le-zero l);
    };
    left_in = rx;
    right_in = ry;
    smallest = λ j l. absurd (not-suc-le-zero l);
    comes = ap (λ (γ : Bindings). unifies variables γ (eqn (denote N w x) (denote N w y) ∷ [])) (sym h.is);
  }

  module _ {w values trail links lefts rights taken : Cells} {variables used k d : ℕ} {o : Outcome} (h : Resuming N w values trail links lefts rights taken variables used k (suc d) o) where
    tp : Topmost N w lefts rights taken h.β variables used d h.X h.Y h.es (lefts d) (rights d) (taken d)
    tp = top h.state.stack

    bes : BelowE variables (eqns (arguments_from N w (lefts d) (taken d)) (arguments_from N w (rights d) (taken d)) ∷ tp.es')
    bes = subst (λ (e : List Eqn). BelowE variables e) tp.is h.state.below

    -- the next pair of arguments
    pub next_arguments : (taken' : Cells) → ((j : ℕ) → j < d → taken' j ≡ taken j) → taken' d ≡ suc (taken d) → taken d < arity_of (w (lefts d - N))
        → Pending N w values trail links lefts rights taken' variables used k (suc d) (w (suc (lefts d - N) + taken d)) (w (suc (rights d - N) + taken d)) o
    next_arguments taken' ki ei l =
        let l' : taken d < arity_of (w (rights d - N)) = subst (λ (z : ℕ). taken d < arity_of z) tp.pair.alike l in
        let ca = arguments_cons N w (lefts d) (taken d) l in
        let cb = arguments_cons N w (rights d) (taken d) l' in
        let b₀ : BelowE variables (eqns (cons (argument_at N w (lefts d) (taken d)) (arguments_from N w (lefts d) (suc (taken d)))) (cons (argument_at N w (rights d) (taken d)) (arguments_from N w (rights d) (suc (taken d)))) ∷ tp.es') =
        (subst (λ (t : Terms). Below variables t) ca bes.0, subst (λ (t : Terms). Below variables t) cb bes.1, bes.2) in
        record {
          β = h.β;
          es = eqns (arguments_from N w (lefts d) (suc (taken d))) (arguments_from N w (rights d) (suc (taken d))) ∷ tp.es';
          state = record {
            words = h.state.words;
            holds = h.state.holds;
            stack = pair (lefts d) (rights d) (suc (taken d)) refl refl ei
                (record { left_in = tp.pair.left_in; right_in = tp.pair.right_in; left_node = tp.pair.left_node; right_node = tp.pair.right_node; alike = tp.pair.alike; within = l })
                (λ σ s e j (jl : j < suc (taken d)). by_order j (taken d) (λ b. tp.done σ s (h.equal σ s) j b) (λ b. let q : j ≡ taken d = omega arith in rw q e))
                (stack_same (λ j l. refl) (λ j l. refl) ki tp.up);
            below = (b₀.0.1, b₀.1.1, b₀.2);
            equal_links = h.state.equal_links;
            links_in = h.state.links_in;
            smaller = h.state.smaller;
            apart = h.state.apart;
          };
          left_in = reference_argument N w variables used h.state.words (lefts d) (taken d) tp.pair.left_in tp.pair.left_node l;
          right_in = reference_argument N w variables used h.state.words (rights d) (taken d) tp.pair.right_in tp.pair.right_node l';
          smallest = λ j jl σ s. let z = argument_less h.state.words (lefts d) (taken d) tp.pair.left_in tp.pair.left_node l σ in
              by_order j d (λ jd. let y = h.state.smaller j d jd (omega arith) σ s in omega arith) (λ jd. let jj : j ≡ d = omega arith in rw jj z);
          comes = h.comes ∙ ap (unifies variables h.β) tp.is
              ∙ ap₂ (λ (a b : Terms). unifies variables h.β (eqns a b ∷ tp.es')) ca cb
              ∙ unify_next variables h.β (eqns (cons (argument_at N w (lefts d) (taken d)) (arguments_from N w (lefts d) (suc (taken d)))) (cons (argument_at N w (rights d) (taken d)) (arguments_from N w (rights d) (suc (taken d))))) tp.es'
              h.state.holds.acyclic h.state.holds.below b₀;
        }

    module _ (l : arity_of (w (lefts d - N)) ≤ taken d) where
      -- a pair whose arguments are all taken is equal
      pub equal : EqualUnder h.β (denote N w (lefts d)) (denote N w (rights d))
      equal σ s = all_equal h.state.words (lefts d) (rights d) (taken d) tp.pair l σ (tp.done σ s (h.equal σ s))

      close_next : o ≡ unifies variables h.β tp.es'
      close_next =
          let l' : arity_of (w (rights d - N)) ≤ taken d = subst (λ (z : ℕ). arity_of z ≤ taken d) tp.pair.alike l in
          h.comes ∙ ap (unifies variables h.β) tp.is
          ∙ ap₂ (λ (a b : Terms). unifies variables h.β (eqns a b ∷ tp.es')) (arguments_nil N w (lefts d) (taken d) l) (arguments_nil N w (rights d) (taken d) l')
          ∙ unify_next variables h.β (eqns nil nil) tp.es' h.state.holds.acyclic h.state.holds.below (tt, tt, bes.2)

      -- what is equal to the last open pair is no earlier one
      no_earlier : (j : ℕ) → j < d → EqualUnder h.β (denote N w (lefts j)) (denote N w (lefts d)) → ⊥
      no_earlier j jd e =
          let s = full_solves h.β h.state.holds.acyclic in
          let z = h.state.smaller j d jd (omega arith) (full h.β) s in
          let y = ap (λ (t : Term). size t) (e (full h.β) s) in
          omega arith

      -- the pair is closed: of its two roots one (F) is linked to the other (T)
      module _ (F T : ℕ) (zF : links F ≡ 0) (zT : links T ≡ 0) (ft : F ≢ T) (eF : EqualUnder h.β (denote N w (lefts d)) (denote N w F)) (eT : EqualUnder h.β (denote N w (lefts d)) (denote N w T)) (rT : Reference N w variables used T)
          (links' : Cells) (new : links' F ≡ suc T) (old : (a : ℕ) → a ≢ F → links' a ≡ links a) where
        -- where the links then lead
        after : {a R : ℕ} → LeadsTo links' a R → LeadsTo links a R ⊎ (LeadsTo links a F × (R ≡ T))
        after {a} (stay e) = by_same a F (λ p _. absurd (let z : links' a ≡ suc T = ap links' p ∙ new in omega arith)) (λ p _. inl (stay (sym (old a p) ∙ e)))
        after {a} {R} (go {x = x} e m) = by_same a F
            (λ p _. let z : suc T ≡ suc x = sym new ∙ ap links' (sym p) ∙ e in let z' : x ≡ T = omega arith in
            inr (
              subst (λ (b : ℕ). LeadsTo links b F) (sym p) (stay zF),
              at_t (subst (λ (b : ℕ). LeadsTo links' b R) z' m),
            ))
            (λ p _. ⊎_elim (λ m'. inl (go (sym (old a p) ∙ e) m')) (λ m'. inr (go (sym (old a p) ∙ e) m'.0, m'.1)) (after m))
          where
            at_t : {R : ℕ} → LeadsTo links' T R → R ≡ T
            at_t (stay e) = refl
            at_t (go e m) = absurd (let z : links' T ≡ 0 = old T (λ e. ft (sym e)) ∙ zT in omega arith)

        not_f : (j : ℕ) → j < d → LeadsTo links (lefts j) F → ⊥
        not_f j jd m = no_earlier j jd (λ σ s. leads_eq N w h.β h.state.equal_links m σ s ∙ sym (eF σ s))

        not_t : (j : ℕ) → j < d → LeadsTo links (lefts j) T → ⊥
        not_t j jd m = no_earlier j jd (λ σ s. leads_eq N w h.β h.state.equal_links m σ s ∙ sym (eT σ s))

        pub close_pair : Resuming N w values trail links' lefts rights taken variables used k d o
        close_pair = record {
          β = h.β;
          X = denote N w (lefts d);
          Y = denote N w (rights d);
          es = tp.es';
          state = record {
            words = h.state.words;
            holds = h.state.holds;
            stack = tp.up;
            below = bes.2;
            equal_links = λ a z e. by_same a F
                (λ p _. let z₁ : suc T ≡ suc z = sym new ∙ ap links' (sym p) ∙ e in let z₂ : T ≡ z = omega arith in
                λ σ s. ap (λ (r : ℕ). sub σ (denote N w r)) p ∙ sym (eF σ s) ∙ eT σ s ∙ ap (λ (r : ℕ). sub σ (denote N w r)) z₂)
                (λ p _. h.state.equal_links a z (sym (old a p) ∙ e));
            links_in = λ a z e. by_same a F
                (λ p _. let z₁ : suc T ≡ suc z = sym new ∙ ap links' (sym p) ∙ e in let z₂ : T ≡ z = omega arith in subst (Reference N w variables used) z₂ rT)
                (λ p _. h.state.links_in a z (sym (old a p) ∙ e));
            smaller = λ j m a b. h.state.smaller j m a (omega arith);
            apart = λ j jd R a b. ⊎_elim
                (λ a'. ⊎_elim (λ b'. h.state.apart j (omega arith) R a' b') (λ b'. not_t j jd (subst (λ (z : ℕ). LeadsTo links (lefts j) z) b'.1 a')) (after b))
                (λ a'. not_f j jd a'.0) (after a);
          };
          equal = equal;
          comes = close_next;
        }
