-- The state of unification over stored terms. Links join nodes whose pair was unified completely, and serve only to skip. Open pairs stand on a
-- stack: the walked references of the pair, and how many arguments were taken. Every equality is stated for every solution of the bindings.
use Rattle.std.specs.Prelude.{ℕ, zero, suc, ◌+◌, ◌-◌, ◌≤◌, ◌<◌, ◌≡◌, refl, List, [], ◌∷◌}
use Rattle.std.proofs.Common.{arith, not-suc-le-zero, sym, ap, ap₂, ◌∙◌}
use Rattle.terms.specs.Term.{app, nil, cons, Term, Terms, Subst, sub, size}
use Rattle.terms.specs.Bindings.{Bindings, bind, walk, Acyclic, Solves}
use Rattle.terms.specs.Unification.{Eqn, eqn, eqns, Outcome, unifies, BelowE}
use Rattle.terms.specs.BindingLaws.{solves_walk}
use Rattle.arena.specs.Cells.{Cells, symbol_of, arity_of, args, denote, Reference, WellFormed, denote_node}
use Rattle.unifier.specs.Promises.{LeadsTo}
use Rattle.bindings.specs.Holding.{Holds}

-- Equal for whatever agrees with the bindings.
abbrev pub EqualUnder : Bindings → Term → Term → Type 0
EqualUnder β s t = (σ : Subst) → Solves σ β → sub σ s ≡ sub σ t

-- The arguments of r from the i-th on.
abbrev pub arguments_from : ℕ → Cells → ℕ → ℕ → Terms
arguments_from N w r i = args (denote N w) w (suc (r - N) + i) (arity_of (w (r - N)) - i)

-- Argument j of r.
abbrev pub argument_at : ℕ → Cells → ℕ → ℕ → Term
argument_at N w r j = denote N w (w (suc (r - N) + j))

-- an open pair of nodes with i arguments taken
pub record OpenPair (N : ℕ) (w : Cells) (variables used a b i : ℕ) : Type 0 where
  pub left_in : Reference N w variables used a
  pub right_in : Reference N w variables used b
  pub left_node : N ≤ a
  pub right_node : N ≤ b
  pub alike : w (a - N) ≡ w (b - N)
  pub within : i ≤ arity_of (w (a - N))

-- the first d open pairs, where what is being made equal for the last of them is X and Y: the equations es are left
pub data Stack (N : ℕ) (w lefts rights taken : Cells) (β : Bindings) (variables used : ℕ) : ℕ → Term → Term → List Eqn → Type 0 where
  bottom : {X Y : Term} → Stack N w lefts rights taken β variables used 0 X Y []
  pair : {d : ℕ} {X Y : Term} {es : List Eqn} (a b i : ℕ) → lefts d ≡ a → rights d ≡ b → taken d ≡ i → OpenPair N w variables used a b i
      → ((σ : Subst) → Solves σ β → sub σ X ≡ sub σ Y → (j : ℕ) → j < i → sub σ (argument_at N w a j) ≡ sub σ (argument_at N w b j))
      → Stack N w lefts rights taken β variables used d (denote N w a) (denote N w b) es → Stack N w lefts rights taken β variables used (suc d) X Y (eqns (arguments_from N w a i) (arguments_from N w b i) ∷ es)

-- The bindings held, the open pairs, and the links.
pub record State (N : ℕ) (w values trail links lefts rights taken : Cells) (variables used k d : ℕ) (β : Bindings) (X Y : Term) (es : List Eqn) : Type 0 where
  pub words : WellFormed N w variables used
  pub holds : Holds N w values trail variables used k β
  pub stack : Stack N w lefts rights taken β variables used d X Y es
  pub below : BelowE variables es
  pub equal_links : (a z : ℕ) → links a ≡ suc z → EqualUnder β (denote N w a) (denote N w z)
  pub links_in : (a z : ℕ) → links a ≡ suc z → Reference N w variables used z
  pub smaller : (j m : ℕ) → j < m → m < d → (σ : Subst) → Solves σ β → size (sub σ (denote N w (lefts m))) < size (sub σ (denote N w (lefts j)))
  pub apart : (j : ℕ) → j < d → (P : ℕ) → LeadsTo links (lefts j) P → LeadsTo links (rights j) P → ⊥

-- x and y are to be made equal next; o is what the whole comes to
pub record Pending (N : ℕ) (w values trail links lefts rights taken : Cells) (variables used k d x y : ℕ) (o : Outcome) : Type 0 where
  pub β : Bindings
  pub es : List Eqn
  pub state : State N w values trail links lefts rights taken variables used k d β (denote N w x) (denote N w y) es
  pub left_in : Reference N w variables used x
  pub right_in : Reference N w variables used y
  pub smallest : (j : ℕ) → j < d → (σ : Subst) → Solves σ β → size (sub σ (denote N w x)) < size (sub σ (denote N w (lefts j)))
  pub comes : o ≡ unifies variables β (eqn (denote N w x) (denote N w y) ∷ es)

-- the last open pair goes on
pub record Resuming (N : ℕ) (w values trail links lefts rights taken : Cells) (variables used k d : ℕ) (o : Outcome) : Type 0 where
  pub β : Bindings
  pub X : Term
  pub Y : Term
  pub es : List Eqn
  pub state : State N w values trail links lefts rights taken variables used k d β X Y es
  pub equal : EqualUnder β X Y
  pub comes : o ≡ unifies variables β es

pub walked : (β : Bindings) → Acyclic β → (a : Term) → EqualUnder β (walk β a) a
walked β ac a σ h = solves_walk σ β ac h a

module _ {N : ℕ} where
  pub stack_equal : {w lefts rights taken : Cells} {β : Bindings} {variables used d : ℕ} {X Y X' Y' : Term} {es : List Eqn} → EqualUnder β X X' → EqualUnder β Y Y' → Stack N w lefts rights taken β variables used d X Y es → Stack N w lefts rights taken β variables used d X' Y' es
  stack_equal p q bottom = bottom
  stack_equal p q (pair a b i ea eb ei f h fs) = pair a b i ea eb ei f (λ σ s e. h σ s (p σ s ∙ e ∙ sym (q σ s))) fs

  pub stack_bind : {w lefts rights taken : Cells} {β : Bindings} {variables used d : ℕ} {X Y : Term} {es : List Eqn} (x : ℕ) (t : Term) → Stack N w lefts rights taken β variables used d X Y es → Stack N w lefts rights taken (bind x t β) variables used d X Y es
  stack_bind x t bottom = bottom
  stack_bind x t (pair a b i ea eb ei f h fs) = pair a b i ea eb ei f (λ σ s e. h σ s.1 e) (stack_bind x t fs)

  pub stack_same : {w lefts rights taken lefts' rights' taken' : Cells} {β : Bindings} {variables used d : ℕ} {X Y : Term} {es : List Eqn}
      → ((j : ℕ) → j < d → lefts' j ≡ lefts j) → ((j : ℕ) → j < d → rights' j ≡ rights j) → ((j : ℕ) → j < d → taken' j ≡ taken j)
      → Stack N w lefts rights taken β variables used d X Y es → Stack N w lefts' rights' taken' β variables used d X Y es
  stack_same p q r bottom = bottom
  stack_same p q r (pair {d = d} a b i ea eb ei f h fs) =
      pair a b i (p d (omega arith) ∙ ea) (q d (omega arith) ∙ eb) (r d (omega arith) ∙ ei) f h
      (stack_same (λ j l. p j (omega arith)) (λ j l. q j (omega arith)) (λ j l. r j (omega arith)) fs)

module _ (N : ℕ) where
  -- a node's arguments
  pub arguments_cons : (w : Cells) (r i : ℕ) → i < arity_of (w (r - N)) → arguments_from N w r i ≡ cons (argument_at N w r i) (arguments_from N w r (suc i))
  arguments_cons w r i l = go (arity_of (w (r - N)) - i) (arity_of (w (r - N)) - suc i) (omega arith)
    where
      go : (n m : ℕ) → n ≡ suc m → args (denote N w) w (suc (r - N) + i) n ≡ cons (argument_at N w r i) (args (denote N w) w (suc (r - N) + suc i) m)
      go n m e = let d : suc (r - N) + suc i ≡ suc (suc (r - N) + i) = omega arith in
          ap (args (denote N w) w (suc (r - N) + i)) e ∙ rw d

  pub arguments_nil : (w : Cells) (r i : ℕ) → arity_of (w (r - N)) ≤ i → arguments_from N w r i ≡ nil
  arguments_nil w r i l = let e : arity_of (w (r - N)) - i ≡ 0 = omega arith in ap (args (denote N w) w (suc (r - N) + i)) e

  -- all arguments equal
  sub_args : (σ : Subst) (w : Cells) (p q n : ℕ) → ((j : ℕ) → j < n → sub σ (denote N w (w (p + j))) ≡ sub σ (denote N w (w (q + j)))) → sub σ (args (denote N w) w p n) ≡ sub σ (args (denote N w) w q n)
  sub_args σ w p q zero h = refl
  sub_args σ w p q (suc n) h =
      let e : p + 0 ≡ p = omega arith in let e' : q + 0 ≡ q = omega arith in
      let h₀ : sub σ (denote N w (w (p + 0))) ≡ sub σ (denote N w (w (q + 0))) = h 0 (omega arith) in
      ap₂ cons (rw (e, e') at h₀) (sub_args σ w (suc p) (suc q) n (λ j l. let d : p + suc j ≡ suc p + j = omega arith in let d' : q + suc j ≡ suc q + j = omega arith in
      let h₁ : sub σ (denote N w (w (p + suc j))) ≡ sub σ (denote N w (w (q + suc j))) = h (suc j) (omega arith) in rw (d, d') at h₁))

  size_args : (σ : Subst) (w : Cells) (p n j : ℕ) → j < n → size (sub σ (denote N w (w (p + j)))) < size (sub σ (args (denote N w) w p n))
  size_args σ w p zero j l = absurd (not-suc-le-zero l)
  size_args σ w p (suc n) zero l = let e : p + 0 ≡ p = omega arith in rw e (omega arith)
  size_args σ w p (suc n) (suc j) l =
      let d : p + suc j ≡ suc p + j = omega arith in
      let h = size_args σ w (suc p) n j (omega arith) in rw d (omega arith)

module _ {N : ℕ} where
  module _ {w : Cells} {variables used : ℕ} (wf : WellFormed N w variables used) where
    -- an argument is smaller than its node
    pub argument_less : (r j : ℕ) → Reference N w variables used r → N ≤ r → j < arity_of (w (r - N)) → (σ : Subst) → size (sub σ (argument_at N w r j)) < size (sub σ (denote N w r))
    argument_less r j h l b σ =
        let s = size_args N σ w (suc (r - N)) (arity_of (w (r - N))) j b in
        rw (denote_node N w variables used wf r h l) (omega arith)

    -- a pair all of whose arguments are equal is equal
    pub all_equal : (a b i : ℕ) → OpenPair N w variables used a b i → arity_of (w (a - N)) ≤ i → (σ : Subst) → ((j : ℕ) → j < i → sub σ (argument_at N w a j) ≡ sub σ (argument_at N w b j)) → sub σ (denote N w a) ≡ sub σ (denote N w b)
    all_equal a b i f l σ h =
        ap (sub σ) (denote_node N w variables used wf a f.left_in f.left_node)
        ∙ ap (app (symbol_of (w (a - N)))) (sub_args N σ w (suc (a - N)) (suc (b - N)) (arity_of (w (a - N))) (λ j p. h j (omega arith)))
        ∙ ap (λ (z : ℕ). sub σ (app (symbol_of z) (args (denote N w) w (suc (b - N)) (arity_of z)))) f.alike
        ∙ ap (sub σ) (sym (denote_node N w variables used wf b f.right_in f.right_node))
