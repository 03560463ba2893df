-- Laws of numerals.
use mathlib.Core.Path.{◌≡◌, refl, sym, ap, ◌∙◌}
use mathlib.Core.List.{List, [], ◌∷◌}
use mathlib.Core.Bool.{Bool, true, false, cond, not, ◌&&◌}
use Rattle.std.specs.Prelude.{Option, Some, None, Ok}
use Rattle.std.specs.Option.{ok_or}
use borrow.Author.Rules.{rules}
use Rattle.refusals.specs.declared.Refusal.TheVariants.{NoNumerals}
use Rattle.std.proofs.Common.{ltb-true}
use Rattle.source_text.specs.ByteLaws.{and_left}
use Prim.Native.Nat.{ℕ, zero, suc, ◌+◌, ◌*◌, ◌-◌, ◌≤◌, ◌<◌}
use native.Mathlib.Numerals.{add-one}
use native.Mathlib.Omega.{arith}
use lib.ListN.{length, set}
use lib.Dec.{eqb}
use borrow.Author.Tests.{lt-ltb, le-ltb, eqb-false}
use Rattle.std.specs.Bool.{then_some}
use Rattle.std.proofs.lemmas.Bool.{eqb-true}
use Rattle.terms.specs.Numbers.{by_bool}
use Rattle.terms.specs.Term.{app, nil, cons}
use Rattle.term_parser.specs.Standing.{number}
use Rattle.names.specs.Names.{Name}
use Rattle.names.specs.Symbols.{Rows, Symbol, Variable, column, row_at, symbol_of, symbols_of, symbol_number, symbol_at}
use Rattle.names.specs.SearchLaws.{columns_at}
use Rattle.patterns.specs.Patterns.{bad, good, bind, misfit, spent, unless, is_ctor, zero_name, succ_name, first, chain, pattern_of}
use Rattle.patterns.specs.Laying.{laid, lay}
use Rattle.patterns.specs.Promises.{no, yes, stored, tower, or_full, refusal, constructor_of, ConstructorAt}
use Rattle.patterns.proofs.Symbols.{misfit_args}
use Rattle.patterns.proofs.Terms.{symbol_at_lem, symbols_length}

module _ (f g : Symbol) (s m : ℕ) where
  pub refuse_step : (n : ℕ) {e : ℕ} → e ≡ misfit f s 1 → 0 < e → 0 < n → e ≡ refusal f g n s m
  unfolding refusal
  refuse_step zero q z l = absurd (omega arith)
  refuse_step (suc n) {e} q z l = rw (← q) (go e z)
    where
      go : (e : ℕ) → 0 < e → e ≡ or_full e m (λ r. refusal f g n (first f.inputs) r)
      go zero z = absurd (omega arith)
      go (suc e) z = refl

  pub full_step : (n : ℕ) → 0 ≡ misfit f s 1 → m ≡ 0 → 0 < n → 28 ≡ refusal f g n s m
  unfolding refusal
  full_step zero q z l = absurd (omega arith)
  full_step (suc n) q z l = rw (← q, z)

  pub next_step : (n : ℕ) → 0 ≡ misfit f s 1 → 0 < m → 0 < n → refusal f g n s m ≡ refusal f g (n - 1) (first f.inputs) (m - 1)
  unfolding refusal
  next_step zero q y l = absurd (omega arith)
  next_step (suc n) q y l = let a : suc n - 1 ≡ n = omega arith in rw (a, ← q) (go m y)
    where
      go : (m : ℕ) → 0 < m → or_full 0 m (λ r. refusal f g n (first f.inputs) r) ≡ refusal f g n (first f.inputs) (m - 1)
      go zero y = absurd (omega arith)
      go (suc m) y = let a : suc m - 1 ≡ m = omega arith in rw a

  pub refuse_end : {e : ℕ} → e ≡ misfit g s 0 → 0 < e → e ≡ refusal f g 0 s m
  unfolding refusal
  refuse_end {e} q z = rw (← q) (go e z)
    where
      go : (e : ℕ) → 0 < e → e ≡ or_full e m (λ r. 0)
      go zero z = absurd (omega arith)
      go (suc e) z = refl

  pub full_end : 0 ≡ misfit g s 0 → m ≡ 0 → 28 ≡ refusal f g 0 s m
  unfolding refusal
  full_end q z = rw (← q, z)

  pub none_end : 0 ≡ misfit g s 0 → 0 < m → 0 ≡ refusal f g 0 s m
  unfolding refusal
  none_end q y = rw (← q) (go m y)
    where
      go : (m : ℕ) → 0 < m → ◌≡◌ {A = ℕ} 0 (or_full 0 m (λ r. 0))
      go zero y = absurd (omega arith)
      go (suc m) y = refl

-- the chain is refused, or it is the tower
module _ (ss : List Symbol) (y z : ℕ) (vs : List Variable) where
  pub chain_bad : (n s m : ℕ) → (refusal (symbol_at ss y) (symbol_at ss z) n s m ≡ 0 → ⊥) → chain ss y z n s vs m ≡ bad (refusal (symbol_at ss y) (symbol_at ss z) n s m)
  unfolding chain refusal
  chain_bad zero s m h = go (misfit (symbol_at ss z) s 0) m h
    where
      go : (e m : ℕ) → (or_full e m (λ r. 0) ≡ 0 → ⊥) → unless e (λ _. spent m (λ r. good (app z nil) vs r)) ≡ bad (or_full e m (λ r. 0))
      go zero zero h = refl
      go zero (suc m) h = absurd (h refl)
      go (suc e) m h = refl
  chain_bad (suc n) s m h = go (misfit (symbol_at ss y) s 1) m h (λ r g. chain_bad n (first (symbol_at ss y).inputs) r g)
    where
      go : (e m : ℕ) → (or_full e m (λ r. refusal (symbol_at ss y) (symbol_at ss z) n (first (symbol_at ss y).inputs) r) ≡ 0 → ⊥)
          → ((r : ℕ) → (refusal (symbol_at ss y) (symbol_at ss z) n (first (symbol_at ss y).inputs) r ≡ 0 → ⊥) → chain ss y z n (first (symbol_at ss y).inputs) vs r ≡ bad (refusal (symbol_at ss y) (symbol_at ss z) n (first (symbol_at ss y).inputs) r))
          → unless e (λ _. spent m (λ r. bind (chain ss y z n (first (symbol_at ss y).inputs) vs r) (λ t us q. good (app y (cons t nil)) us q))) ≡ bad (or_full e m (λ r. refusal (symbol_at ss y) (symbol_at ss z) n (first (symbol_at ss y).inputs) r))
      go zero zero h ih = refl
      go zero (suc m) h ih = rw (ih m h)
      go (suc e) m h ih = refl

  pub chain_good : (n s m : ℕ) → refusal (symbol_at ss y) (symbol_at ss z) n s m ≡ 0 → (n < m) × (chain ss y z n s vs m ≡ good (tower y z n) vs (m - 1 - n))
  unfolding chain refusal tower
  chain_good zero s m h = go (misfit (symbol_at ss z) s 0) m h
    where
      go : (e m : ℕ) → or_full e m (λ r. 0) ≡ 0 → (0 < m) × (unless e (λ _. spent m (λ r. good (app z nil) vs r)) ≡ good (app z nil) vs (m - 1 - 0))
      go zero zero h = absurd (omega arith)
      go zero (suc m) h = (omega arith, let a : suc m - 1 - 0 ≡ m = omega arith in rw a)
      go (suc e) m h = absurd (omega arith)
  chain_good (suc n) s m h = go (misfit (symbol_at ss y) s 1) m h (λ r g. chain_good n (first (symbol_at ss y).inputs) r g)
    where
      go : (e m : ℕ) → or_full e m (λ r. refusal (symbol_at ss y) (symbol_at ss z) n (first (symbol_at ss y).inputs) r) ≡ 0
          → ((r : ℕ) → refusal (symbol_at ss y) (symbol_at ss z) n (first (symbol_at ss y).inputs) r ≡ 0 → (n < r) × (chain ss y z n (first (symbol_at ss y).inputs) vs r ≡ good (tower y z n) vs (r - 1 - n)))
          → (suc n < m) × (unless e (λ _. spent m (λ r. bind (chain ss y z n (first (symbol_at ss y).inputs) vs r) (λ t us q. good (app y (cons t nil)) us q))) ≡ good (app y (cons (tower y z n) nil)) vs (m - 1 - suc n))
      go zero zero h ih = absurd (omega arith)
      go zero (suc m) h ih = let x = ih m h in (let x0 = x.0 in omega arith, let a : suc m - 1 - suc n ≡ m - 1 - n = omega arith in rw (x.1, a))
      go (suc e) m h ih = absurd (omega arith)

-- the tower's words
pub tower_start : (v : List ℕ) (u y z : ℕ) → lay (tower y z 0) v u ≡ laid ((64 + u) ∷ []) (set v u (1048576 + 32 * z)) (u + 1)
unfolding lay tower
tower_start v u y z = let a : 1048576 + 32 * z + 0 ≡ 1048576 + 32 * z = omega arith in let b : u + 1 + 0 ≡ u + 1 = omega arith in rw (a, b)

pub tower_step : (v : List ℕ) (u₀ y z k r : ℕ) (w : List ℕ) (u : ℕ) → lay (tower y z k) v u₀ ≡ laid (r ∷ []) w u
    → lay (tower y z (k + 1)) v u₀ ≡ laid ((64 + u) ∷ []) (set (set w u (1048577 + 32 * y)) (u + 1) r) (u + 2)
unfolding lay tower
tower_step v u₀ y z k r w u e =
    let a : 1048577 + 32 * y ≡ 1048576 + 32 * y + 1 = omega arith in
    let b : u + 2 ≡ u + 1 + 1 = omega arith in
    let d : u + 1 ≡ suc u = omega arith in
    rw (add-one, e, a, b, d)

pub one_input : (text r : List ℕ) (s : ℕ) → 0 ≡ misfit (symbol_of text r) s 1 → first (symbol_of text r).inputs ≡ column r 8
unfolding symbol_of
one_input text r s e = let x : 1 ≡ column r 6 = misfit_args text r s 1 e in columns_at r 8 (column r 6) 0 (omega arith)

-- `constructor`
module _ (text : List ℕ) (sr : Rows) (n : ℕ) (hs : n ≤ length sr) (w : Name) where
  module _ (i : ℕ) (e : i ≡ symbol_number (symbols_of text sr n) w) (l : i < n) where
    is_predicate : column (row_at sr i) 2 ≡ 0 → None ≡ constructor_of (symbols_of text sr n) w
    unfolding symbol_of
    is_predicate o = let b : column (row_at sr i) 2 ≤ 0 = omega arith in simp (← e, symbols_length text sr n hs, lt-ltb i n l, symbol_at_lem text sr n hs i l, le-ltb 0 (column (row_at sr i) 2) b)

    is_constructor : (column (row_at sr i) 2 ≡ 0 → ⊥) → Some i ≡ constructor_of (symbols_of text sr n) w
    unfolding symbol_of
    is_constructor o = let b : 0 < column (row_at sr i) 2 = omega arith in simp (← e, symbols_length text sr n hs, lt-ltb i n l, symbol_at_lem text sr n hs i l, lt-ltb 0 (column (row_at sr i) 2) b)

    -- The answer that is made of the row's output.
    pub is_told : then_some (not (eqb (column (row_at sr i) 2) 0)) i ≡ constructor_of (symbols_of text sr n) w
    is_told = by_bool (eqb (column (row_at sr i) 2) 0)
        (λ p. rw p (is_predicate (eqb-true (column (row_at sr i) 2) 0 p)))
        (λ p. rw p (is_constructor (eqb-false (column (row_at sr i) 2) 0 p)))

  pub is_nothing : n ≤ symbol_number (symbols_of text sr n) w → None ≡ constructor_of (symbols_of text sr n) w
  is_nothing l = simp (symbols_length text sr n hs, le-ltb (symbol_number (symbols_of text sr n) w) n l)

module _ (ss : List Symbol) (w : Name) where
  pub constructor_some : (i : ℕ) → Some i ≡ constructor_of ss w → (i ≡ symbol_number ss w) × (is_ctor ss w ≡ true) × (i < length ss)
  constructor_some i e = go (is_ctor ss w) refl e
    where
      go : (b : Bool) → is_ctor ss w ≡ b → Some i ≡ cond b (Some (symbol_number ss w)) None → (i ≡ symbol_number ss w) × (is_ctor ss w ≡ true) × (i < length ss)
      go true h e =
          let f : i ≡ symbol_number ss w = cc in
          let l = ltb-true (symbol_number ss w) (length ss) (and_left _ _ h) in
          (f, h, omega arith)
      go false h e = absurd (let z : Some i ≡ None = e in cc)

  pub constructor_none : None ≡ constructor_of ss w → is_ctor ss w ≡ false
  constructor_none e = go (is_ctor ss w) refl e
    where
      go : (b : Bool) → is_ctor ss w ≡ b → None ≡ cond b (Some (symbol_number ss w)) None → is_ctor ss w ≡ false
      go true h e = absurd (let z : None ≡ Some (symbol_number ss w) = e in cc)
      go false h e = h

-- `numeral`
module _ (text : List ℕ) (sr : Rows) (n : ℕ) (hs : n ≤ length sr) (v s : ℕ) (vs : List Variable) (m : ℕ) (w : List ℕ) (u : ℕ) where
  pub no_numerals : is_ctor (symbols_of text sr n) zero_name && is_ctor (symbols_of text sr n) succ_name ≡ false
      → no 26 ≡ stored [] (pattern_of (symbols_of text sr n) (number v) (s ∷ []) vs m) w u
  unfolding pattern_of
  no_numerals h = simp h

  module _ {z : ℕ} (ez : z ≡ symbol_number (symbols_of text sr n) zero_name) (cz : is_ctor (symbols_of text sr n) zero_name ≡ true) (lz : z < length (symbols_of text sr n)) where
    module _ {y : ℕ} (ey : y ≡ symbol_number (symbols_of text sr n) succ_name) (cy : is_ctor (symbols_of text sr n) succ_name ≡ true) (ly : y < length (symbols_of text sr n)) where
      it_is : pattern_of (symbols_of text sr n) (number v) (s ∷ []) vs m ≡ chain (symbols_of text sr n) y z v s vs m
      unfolding pattern_of
      it_is = simp (cz, cy, ← ez, ← ey)

      pub inside : (y < n) × (z < n)
      inside = let e = symbols_length text sr n hs in (omega arith, omega arith)

      same_refusal : refusal (symbol_at (symbols_of text sr n) y) (symbol_at (symbols_of text sr n) z) v s m ≡ refusal (symbol_of text (row_at sr y)) (symbol_of text (row_at sr z)) v s m
      same_refusal = rw (symbol_at_lem text sr n hs y inside.0, symbol_at_lem text sr n hs z inside.1)

      pub number_refused : {e : ℕ} → e ≡ refusal (symbol_of text (row_at sr y)) (symbol_of text (row_at sr z)) v s m → 0 < e
          → no e ≡ stored [] (pattern_of (symbols_of text sr n) (number v) (s ∷ []) vs m) w u
      number_refused {e} q l =
          let a : refusal (symbol_at (symbols_of text sr n) y) (symbol_at (symbols_of text sr n) z) v s m ≡ e = same_refusal ∙ sym q in
          let b = chain_bad (symbols_of text sr n) y z vs v s m (λ x. omega arith) in
          rw (it_is, b, a)

      module _ (q : 0 ≡ refusal (symbol_of text (row_at sr y)) (symbol_of text (row_at sr z)) v s m) where
        fine : (v < m) × (chain (symbols_of text sr n) y z v s vs m ≡ good (tower y z v) vs (m - 1 - v))
        fine = chain_good (symbols_of text sr n) y z vs v s m (same_refusal ∙ sym q)

        pub number_room : v < m
        number_room = fine.0

        pub number_done : (r : ℕ) (wx : List ℕ) → lay (tower y z v) w u ≡ laid (r ∷ []) wx (u + 1 + 2 * v)
            → yes (laid (r ∷ []) wx (u + 1 + 2 * v)) vs (m - 1 - v) ≡ stored [] (pattern_of (symbols_of text sr n) (number v) (s ∷ []) vs m) w u
        number_done r wx l = rw (it_is, fine.1, l)

-- A number that is found where no constructor is refused is that of the constructor with the name.
pub constructor_at : (ss : List Symbol) (w : Name) (i : ℕ) (o : Option ℕ) → o ≡ constructor_of ss w → Ok i ≡ ok_or o NoNumerals → ConstructorAt ss w i
constructor_at ss w i None h f = absurd (search rules)
constructor_at ss w i (Some j) h f = constructor_some ss w i (let e : i ≡ j = search rules in ap Some e ∙ h)
