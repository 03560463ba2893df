-- Laws of words written behind the used part: earlier words and terms stay, the words stay well formed, and a node that is written denotes its symbol
-- applied to what its arguments denoted. It takes one word and one for each argument.
use Rattle.std.specs.Prelude.{ℕ, zero, suc, ◌+◌, ◌-◌, ◌*◌, ◌≤◌, ◌<◌, ◌≡◌, refl, List, [], ◌∷◌, ◌⊎◌, get_or, length, set}
use Rattle.std.proofs.Common.{arith, not-suc-le-zero, sym, ap, ap₂, ◌∙◌, inl, inr, ⊎_elim, length-set, get_or-set_same, get_or-set_other}
use Rattle.std.proofs.lemmas.List.Edits.{sets}
use Rattle.terms.specs.Term.{Term, app, cons}
use Rattle.arena.specs.Cells.{headers, Cells, symbol_of, arity_of, args, denote, Reference, WellFormed, Same, low_or_high, reference_up, denote_node, frame_denote, cells, terms_of}

-- A list with other words written over it.
pub sets_below : (vs l : List ℕ) (i k : ℕ) → k < i → get_or (sets l i vs) k 0 ≡ get_or l k 0
sets_below [] l i k b = refl
sets_below (a ∷ vs) l i k b = sets_below vs (set l i a) (suc i) k (omega arith) ∙ get_or-set_other l i k a 0 (λ e. omega arith)

pub sets_within : (vs l : List ℕ) (i k : ℕ) → k < length vs → i + length vs ≤ length l → get_or (sets l i vs) (i + k) 0 ≡ get_or vs k 0
sets_within [] l i k b f = absurd (not-suc-le-zero b)
sets_within (a ∷ vs) l i zero b f =
    let e : i + 0 ≡ i = omega arith in
    rw e (sets_below vs (set l i a) (suc i) i (omega arith) ∙ get_or-set_same l i a 0 (omega arith))
sets_within (a ∷ vs) l i (suc k) b f =
    let e : i + suc k ≡ suc i + k = omega arith in
    let n = length-set l i a in
    rw e (sets_within vs (set l i a) (suc i) k (omega arith) (omega arith))

pub sets_past : (vs l : List ℕ) (i k : ℕ) → i + length vs ≤ k → get_or (sets l i vs) k 0 ≡ get_or l k 0
sets_past [] l i k b = refl
sets_past (a ∷ vs) l i k b = sets_past vs (set l i a) (suc i) k (omega arith) ∙ get_or-set_other l i k a 0 (λ e. omega arith)

-- The header of a symbol with its arity.
pub record HeaderOf (f n h : ℕ) : Type 0 where
  pub high : headers ≤ h
  pub symbol : symbol_of h ≡ f
  pub arity : arity_of h ≡ n

pub header_of : (f n : ℕ) → n < 32 → HeaderOf f n (headers + 32 * f + n)
header_of f n l = record { high = omega arith; symbol = omega arith; arity = omega arith }

module _ (N : ℕ) where
  -- What agrees below u is well formed alike.
  pub reference_same : {w w' : Cells} {nv u r : ℕ} → Same N w w' u → Reference N w nv u r → Reference N w' nv u r
  reference_same {w} {w'} {nv} {u} {r} s h = record {
    variable = h.variable;
    node = h.node;
    header = λ l. let n = h.node l in let b = h.header l in let e = s (r - N) (omega arith) in omega arith;
  }

  pub formed_same : {w w' : Cells} {nv u : ℕ} → Same N w w' u → WellFormed N w nv u → WellFormed N w' nv u
  formed_same {w} {w'} {nv} {u} s h = record {
    fits = λ a l b. let e = s a l in
        let b₀ : headers ≤ w a = omega arith in
        let f : a + arity_of (w a) < u = h.fits a l b₀ in rw e at f;
    arguments = λ a i l b j. let e = s a l in
        let b₀ : headers ≤ w a = omega arith in
        let j₀ : i < arity_of (w a) = rw e j in
        let f : a + arity_of (w a) < u = h.fits a l b₀ in
        let e' : w (a + suc i) ≡ w' (a + suc i) = s (a + suc i) (omega arith) in
        let r : Reference N w nv a (w (a + suc i)) = h.arguments a i l b₀ j₀ in
        let r' : Reference N w' nv a (w (a + suc i)) = reference_same (λ k m. s k (omega arith)) r in
        rw e' at r';
  }

  pub formed_up : {w : Cells} {nv nv' u : ℕ} → nv ≤ nv' → WellFormed N w nv u → WellFormed N w nv' u
  formed_up m h = record {
    fits = h.fits;
    arguments = λ a i l b j. reference_up N m (omega arith) (h.arguments a i l b j);
  }

  -- A node behind well formed words, its arguments references to them.
  module _ (w : Cells) (nv u : ℕ) (small : N + u ≤ headers) (wf : WellFormed N w nv u) (header : headers ≤ w u)
      (ok : (i : ℕ) → i < arity_of (w u) → Reference N w nv u (w (u + suc i))) where
    -- The words behind a header are no headers.
    low : (i : ℕ) → i < arity_of (w u) → w (u + suc i) < headers
    low i l = let r = ok i l in
        ⊎_elim (λ p. omega arith) (λ p. let n = r.node p in omega arith) (low_or_high N (w (u + suc i)) N)

    -- A header in the longer part is the new one, or an old one.
    which : (a : ℕ) → a < u + suc (arity_of (w u)) → headers ≤ w a → (a < u) ⊎ (a ≡ u)
    which a l b = ⊎_elim inl
        (λ p. ⊎_elim
        (λ q. let z : ⊥ = (let e : u + suc (a - suc u) ≡ a = omega arith in
        let k : w (u + suc (a - suc u)) < headers = low (a - suc u) (omega arith) in
        let k' : w a < headers = rw e at k in omega arith) in absurd z)
        (λ q. let e : a ≡ u = omega arith in inr e)
        (low_or_high N u a))
        (low_or_high N a u)

    pub formed_node : WellFormed N w nv (u + suc (arity_of (w u)))
    formed_node = record {
      fits = λ a l b. ⊎_elim (λ p. let f = wf.fits a p b in omega arith) (λ e. rw e (omega arith)) (which a l b);
      arguments = λ a i l b j. ⊎_elim (λ p. wf.arguments a i p b j)
          (λ e. let j' : i < arity_of (w u) = rw e at j in rw e (ok i j')) (which a l b);
    }

  -- The terms of references that stand behind one another in the words.
  pub args_list : (g : ℕ → Term) (w : Cells) (p : ℕ) (xs : List ℕ) → ((i : ℕ) → i < length xs → w (p + i) ≡ get_or xs i 0) → args g w p (length xs) ≡ terms_of g xs
  args_list g w p [] h = refl
  args_list g w p (x ∷ xs) h =
      let e : p + 0 ≡ p = omega arith in
      let h₀ : w (p + 0) ≡ x = h 0 (omega arith) in
      ap₂ cons (ap g (rw e at h₀)) (args_list g w (suc p) xs (λ i l. let d : p + suc i ≡ suc p + i = omega arith in
      let h₁ : w (p + suc i) ≡ get_or xs i 0 = h (suc i) (omega arith) in rw d at h₁))

  pub terms_same : (g g' : ℕ → Term) (xs : List ℕ) → ((i : ℕ) → i < length xs → g (get_or xs i 0) ≡ g' (get_or xs i 0)) → terms_of g xs ≡ terms_of g' xs
  terms_same g g' [] h = refl
  terms_same g g' (x ∷ xs) h = ap₂ cons (h 0 (omega arith)) (terms_same g g' xs (λ i l. h (suc i) (omega arith)))

  -- Words w with a node written at u: its header h, its arguments xs.
  module _ (w : List ℕ) (nv u h : ℕ) (xs : List ℕ) (wf : WellFormed N (cells w) nv u) (room : u + 1 + length xs ≤ length w) (small : N + u ≤ headers)
      (header : headers ≤ h) (arity : arity_of h ≡ length xs) (ok : (i : ℕ) → i < length xs → Reference N (cells w) nv u (get_or xs i 0)) where
    pub push_frame : Same N (cells w) (cells (sets w u (h ∷ xs))) u
    push_frame i l = sym (sets_below (h ∷ xs) w u i l)

    push_header : cells (sets w u (h ∷ xs)) u ≡ h
    push_header = let e : u + 0 ≡ u = omega arith in
        let p : get_or (sets w u (h ∷ xs)) (u + 0) 0 ≡ h = sets_within (h ∷ xs) w u 0 (omega arith) (omega arith) in rw e at p

    push_argument : (i : ℕ) → i < length xs → cells (sets w u (h ∷ xs)) (u + suc i) ≡ get_or xs i 0
    push_argument i l = sets_within (h ∷ xs) w u (suc i) (omega arith) (omega arith)

    push_size : arity_of (cells (sets w u (h ∷ xs)) u) ≡ length xs
    push_size = rw push_header arity

    -- The words stay well formed, with one word more and one for each argument.
    pub push_formed : WellFormed N (cells (sets w u (h ∷ xs))) nv (u + suc (length xs))
    push_formed =
        let f = formed_node (cells (sets w u (h ∷ xs))) nv u small (formed_same push_frame wf) (rw push_header header)
        (λ i l. let k : i < length xs = rw push_size at l in rw (push_argument i k) (reference_same push_frame (ok i k))) in
        rw push_size at f

    -- An earlier term stays.
    pub push_old : (r : ℕ) → Reference N (cells w) nv u r → denote N (cells w) r ≡ denote N (cells (sets w u (h ∷ xs))) r
    push_old r k = frame_denote N (cells w) nv u wf (cells (sets w u (h ∷ xs))) push_frame r k

    -- The new reference.
    pub push_reference : Reference N (cells (sets w u (h ∷ xs))) nv (u + suc (length xs)) (N + u)
    push_reference = let e : N + u - N ≡ u = omega arith in record
        { variable = λ l. let z : ⊥ = omega arith in absurd z; node = λ l. omega arith; header = λ l. rw (e, push_header) header }

    pub push_denotes : denote N (cells (sets w u (h ∷ xs))) (N + u) ≡ app (symbol_of h) (terms_of (denote N (cells w)) xs)
    push_denotes =
        let w' : List ℕ = sets w u (h ∷ xs) in
        let e : N + u - N ≡ u = omega arith in
        let t : args (denote N (cells w')) (cells w') (suc u) (length xs) ≡ terms_of (denote N (cells w)) xs =
        args_list (denote N (cells w')) (cells w') (suc u) xs (λ i l. let d : u + suc i ≡ suc u + i = omega arith in rw d at (push_argument i l))
        ∙ sym (terms_same (denote N (cells w)) (denote N (cells w')) xs (λ i l. push_old (get_or xs i 0) (ok i l))) in
        denote_node N (cells w') nv (u + suc (length xs)) push_formed (N + u) push_reference (omega arith)
        ∙ rw (e, push_header, arity) (ap (app (symbol_of h)) t)
