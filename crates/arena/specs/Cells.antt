-- Stored terms. Words are read by a function from places to words. With room for N variables a reference below N is that variable, and any other
-- is the node at that address + N. A node is a header, above all references, with its symbol and arity, and then its arguments' references, each
-- below the node's own.
use Prim.Native.Nat.{ℕ, zero, suc, ◌+◌, ◌-◌, ◌/◌, ◌%◌, ◌≤◌, ◌<◌}
use Rattle.std.proofs.Common.{arith, not-suc-le-zero, ap₂, ◌∙◌, subst, inl, inr}
use Rattle.std.specs.Prelude.{◌≡◌, cond, ◌⊎◌, List, [], ◌∷◌, get_or}
use Rattle.std.proofs.Math.Path.{refl, sym, ap}
use Rattle.std.proofs.Math.Logic.{⊎_elim}
use Rattle.terms.specs.Numbers.{less, less_yes, less_no, by_less}
use Rattle.terms.specs.Term.{var, app, nil, cons, Term, Terms, Below}

-- The least header; references are below it.
abbrev pub headers : ℕ
headers = 1048576

abbrev pub Cells : Type 0
Cells = ℕ → ℕ

abbrev pub symbol_of : ℕ → ℕ
symbol_of h = (h - headers) / 32

abbrev pub arity_of : ℕ → ℕ
arity_of h = h % 32

-- n terms, the references to them args place p on
abbrev pub args : (ℕ → Term) → Cells → ℕ → ℕ → Terms
args g w p zero = nil
args g w p (suc n) = cons (g (w p)) (args g w (suc p) n)

module _ (N : ℕ) where
  -- what a reference denotes, by at most k steps down
  unfoldable pub decode : ℕ → Cells → ℕ → Term
  decode zero w r = var r
  decode (suc k) w r = cond (less r N) (var r) (app (symbol_of (w (r - N))) (args (decode k w) w (suc (r - N)) (arity_of (w (r - N)))))

  unfoldable pub denote : Cells → ℕ → Term
  denote w r = decode (suc r) w r

  -- r is a variable below nv, or a node whose address is below u
  pub record Reference (w : Cells) (nv u r : ℕ) : Type 0 where
    pub variable : r < N → r < nv
    pub node : N ≤ r → r < N + u
    pub header : N ≤ r → headers ≤ w (r - N)

  pub record WellFormed (w : Cells) (nv u : ℕ) : Type 0 where
    pub fits : (a : ℕ) → a < u → headers ≤ w a → a + arity_of (w a) < u
    pub arguments : (a i : ℕ) → a < u → headers ≤ w a → i < arity_of (w a) → Reference w nv a (w (a + suc i))

  abbrev pub Same : Cells → Cells → ℕ → Type 0
  Same w w' u = (i : ℕ) → i < u → w i ≡ w' i

  pub args_same : (g g' : ℕ → Term) (w w' : Cells) (p n : ℕ) → ((i : ℕ) → i < n → g (w (p + i)) ≡ g' (w' (p + i))) → args g w p n ≡ args g' w' p n
  args_same g g' w w' p zero h = refl
  args_same g g' w w' p (suc n) h =
      let e : p + 0 ≡ p = omega arith in
      let h₀ : g (w (p + 0)) ≡ g' (w' (p + 0)) = h 0 (omega arith) in
      ap₂ cons (rw e at h₀) (args_same g g' w w' (suc p) n (λ i l. let d : p + suc i ≡ suc p + i = omega arith in
      let h₁ : g (w (p + suc i)) ≡ g' (w' (p + suc i)) = h (suc i) (omega arith) in rw d at h₁))

  pub decode_variable : (k : ℕ) (w : Cells) (r : ℕ) → r < N → decode k w r ≡ var r
  unfolding decode
  decode_variable zero w r p = refl
  decode_variable (suc k) w r p = rw (less_yes p)

  pub decode_node : (k : ℕ) (w : Cells) (r : ℕ) → N ≤ r → decode (suc k) w r ≡ app (symbol_of (w (r - N))) (args (decode k w) w (suc (r - N)) (arity_of (w (r - N))))
  unfolding decode
  decode_node k w r p = rw (less_no p)

  pub low_or_high : (r m : ℕ) → (r < m) ⊎ (m ≤ r)
  low_or_high r m = by_less r m (λ l e. inl l) (λ l e. inr l)

  pub reference_up : {w : Cells} {nv nv' u u' r : ℕ} → nv ≤ nv' → u ≤ u' → Reference w nv u r → Reference w nv' u' r
  reference_up a b h = record { variable = λ p. let q = h.variable p in omega arith; node = λ p. let q = h.node p in omega arith; header = h.header }

  pub reference_below : {w : Cells} {nv r x : ℕ} → N ≤ r → Reference w nv (r - N) x → x < r
  reference_below {w} {nv} {r} {x} p h = ⊎_elim (λ l. omega arith) (λ l. let q = h.node l in omega arith) (low_or_high x N)

  module _ (w : Cells) (nv u : ℕ) (wf : WellFormed w nv u) where
    -- argument i of the node r, its place written as `args` meets it
    argument_at_lem : (r i : ℕ) → Reference w nv u r → N ≤ r → i < arity_of (w (r - N)) → Reference w nv (r - N) (w (suc (r - N) + i))
    argument_at_lem r i h l b =
        let n = h.node l in
        let d : r - N + suc i ≡ suc (r - N) + i = omega arith in
        rw d at (wf.arguments (r - N) i (omega arith) (h.header l) b)

    pub reference_argument : (r i : ℕ) → Reference w nv u r → N ≤ r → i < arity_of (w (r - N)) → Reference w nv u (w (suc (r - N) + i))
    reference_argument r i h l b = let n = h.node l in reference_up (omega arith) (omega arith) (argument_at_lem r i h l b)

    pub enough : (k k' r : ℕ) → Reference w nv u r → r < k → r < k' → decode k w r ≡ decode k' w r
    enough zero k' r h p q = absurd (not-suc-le-zero p)
    enough (suc k) zero r h p q = absurd (not-suc-le-zero q)
    enough (suc k) (suc k') r h p q =
        ⊎_elim (λ l. decode_variable (suc k) w r l ∙ sym (decode_variable (suc k') w r l))
        (λ l. decode_node k w r l ∙ ap (app (symbol_of (w (r - N)))) (args_same (decode k w) (decode k' w) w w (suc (r - N)) (arity_of (w (r - N)))
        (λ i b. let y = reference_below l (argument_at_lem r i h l b) in
        enough k k' (w (suc (r - N) + i)) (reference_argument r i h l b) (omega arith) (omega arith)))
        ∙ sym (decode_node k' w r l))
        (low_or_high r N)

    pub denote_node : (r : ℕ) → Reference w nv u r → N ≤ r → denote w r ≡ app (symbol_of (w (r - N))) (args (denote w) w (suc (r - N)) (arity_of (w (r - N))))
    unfolding denote
    denote_node r h l =
        decode_node r w r l ∙ ap (app (symbol_of (w (r - N)))) (args_same (decode r w) (denote w) w w (suc (r - N)) (arity_of (w (r - N)))
        (λ i b. let y = reference_below l (argument_at_lem r i h l b) in
        enough r (suc (w (suc (r - N) + i))) (w (suc (r - N) + i)) (reference_argument r i h l b) y (omega arith)))

    -- the frame: words past the used part are of no concern
    pub frame : (w' : Cells) → Same w w' u → (k r : ℕ) → Reference w nv u r → decode k w r ≡ decode k w' r
    unfolding decode
    frame w' s zero r h = refl
    frame w' s (suc k) r h =
        ⊎_elim (λ l. decode_variable (suc k) w r l ∙ sym (decode_variable (suc k) w' r l))
        (λ l. let n = h.node l in let b = h.header l in let e = s (r - N) (omega arith) in
        let f = wf.fits (r - N) (omega arith) b in
        decode_node k w r l ∙ ap (app (symbol_of (w (r - N)))) (args_same (decode k w) (decode k w') w w' (suc (r - N)) (arity_of (w (r - N)))
        (λ i j. frame w' s k (w (suc (r - N) + i)) (reference_argument r i h l j) ∙ ap (decode k w') (s (suc (r - N) + i) (omega arith))))
        ∙ ap (λ (h : ℕ). app (symbol_of h) (args (decode k w') w' (suc (r - N)) (arity_of h))) e
        ∙ sym (decode_node k w' r l))
        (low_or_high r N)

    pub frame_denote : (w' : Cells) → Same w w' u → (r : ℕ) → Reference w nv u r → denote w r ≡ denote w' r
    unfolding denote
    frame_denote w' s r h = frame w' s (suc r) r h

    -- a good reference's variables are below nv
    below_args : (g : ℕ → Term) (p n : ℕ) → ((i : ℕ) → i < n → Below nv (g (w (p + i)))) → Below nv (args g w p n)
    below_args g p zero h = tt
    below_args g p (suc n) h =
        let e : p + 0 ≡ p = omega arith in
        let h₀ : Below nv (g (w (p + 0))) = h 0 (omega arith) in (
          rw e at h₀,
          below_args g (suc p) n (λ i l. let d : p + suc i ≡ suc p + i = omega arith in
              let h₁ : Below nv (g (w (p + suc i))) = h (suc i) (omega arith) in rw d at h₁),
        )

    below_decode : (k r : ℕ) → Reference w nv u r → r < k → Below nv (decode k w r)
    below_decode zero r h p = absurd (not-suc-le-zero p)
    below_decode (suc k) r h p =
        ⊎_elim (λ l. subst (Below nv) (sym (decode_variable (suc k) w r l)) (h.variable l))
        (λ l. subst (Below nv) (sym (decode_node k w r l)) (below_args (decode k w) (suc (r - N)) (arity_of (w (r - N)))
        (λ i b. let y = reference_below l (argument_at_lem r i h l b) in below_decode k (w (suc (r - N) + i)) (reference_argument r i h l b) (omega arith))))
        (low_or_high r N)

    pub below_denote : (r : ℕ) → Reference w nv u r → Below nv (denote w r)
    unfolding denote
    below_denote r h = below_decode (suc r) r h (omega arith)

  pub denote_variable : (w : Cells) (r : ℕ) → r < N → denote w r ≡ var r
  unfolding denote
  denote_variable w r p = decode_variable (suc r) w r p

-- The words of a slice; past its end they read as 0.
abbrev pub cells : List ℕ → Cells
cells words i = get_or words i 0

-- The terms that a list of references denotes.
abbrev pub terms_of : (ℕ → Term) → List ℕ → Terms
terms_of g [] = nil
terms_of g (r ∷ rs) = cons (g r) (terms_of g rs)
