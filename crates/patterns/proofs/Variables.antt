-- Laws of `enter`, one for each way out, and of a variable as a pattern.
use mathlib.Core.Path.{◌≡◌, refl, sym, ap, ◌∙◌}
use mathlib.Core.List.{List, [], ◌∷◌, ◌++◌}
use Prim.Native.Nat.{ℕ, zero, suc, ◌+◌, ◌-◌, ◌≤◌, ◌<◌}
use native.Mathlib.Omega.{arith}
use lib.ListN.{length, get_or, set}
use borrow.Author.Tests.{eq-eqb, ne_eqb, lt-ltb, le-ltb}
use Rattle.names.specs.Names.{Name, name_of, name_in}
use Rattle.names.specs.Symbols.{Rows, column, row_at, variable_of, variables_of, variable_number}
use Rattle.names.specs.SearchLaws.{table_length, table_at, table_set, table_more, get_d_any}
use Rattle.patterns.specs.Patterns.{no_variable, Entry, refused, entered, known, enter, counted}
use Rattle.patterns.specs.Laying.{laid, lay}
use Rattle.patterns.specs.Promises.{yes, stored, entry_of, answer}
use Rattle.std.specs.Prelude.{Result, Ok, Err, Option, Some, None, SomeIff}
use Rattle.refusals.specs.declared.Refusal.{Refusal}
use Rattle.refusals.specs.declared.Refusal.TheVariants.{Full}
use Rattle.patterns.specs.declared.EnteredVariable.{EnteredVariable}

-- A room from which 1 is taken: what is left of it, or none was there.
pub room_left : {n m : ℕ} {o : Option ℕ} → SomeIff o (1 ≤ n) (n - 1) → o ≡ Some m → (0 < n) × (m ≡ n - 1)
room_left {n} s e = let (l, q) = rw e at s in (omega arith, q)

pub room_none : {n : ℕ} {o : Option ℕ} → SomeIff o (1 ≤ n) (n - 1) → o ≡ None → n ≡ 0
room_none {n} s e = let w = rw e at s in omega arith

-- A row whose last number is changed.
pub last_changed : (row : List ℕ) (s : ℕ) → length row ≡ 4 → set row 3 s ≡ column row 0 ∷ column row 1 ∷ column row 2 ∷ s ∷ []
last_changed [] s e = absurd (omega arith)
last_changed (a ∷ []) s e = absurd (omega arith)
last_changed (a ∷ b ∷ []) s e = absurd (omega arith)
last_changed (a ∷ b ∷ c ∷ []) s e = absurd (omega arith)
last_changed (a ∷ b ∷ c ∷ d ∷ []) s e = refl
last_changed (a ∷ b ∷ c ∷ d ∷ x ∷ l) s e = absurd (omega arith)

module _ (text : List ℕ) (rs : Rows) (n : ℕ) (h : n ≤ length rs) (w : Name) (s : ℕ) (i : ℕ) (e : i ≡ variable_number (variables_of text rs n) w) where
  pub many_vars : length (variables_of text rs n) ≡ n
  unfolding variables_of
  many_vars = table_length (variable_of text) rs n h

  var_at : i < n → get_or (variables_of text rs n) i no_variable ≡ variable_of text (row_at rs i)
  unfolding variables_of
  var_at l = get_d_any (variables_of text rs n) i no_variable (variable_of text []) (rw (table_length (variable_of text) rs n h) l) ∙ table_at (variable_of text) rs n h i l

  opened : i < n → enter (variables_of text rs n) w s ≡ known (variables_of text rs n) i (variable_of text (row_at rs i)) s
  unfolding enter
  opened l = simp (← e, many_vars, lt-ltb i n l, var_at l)

  module _ (l : i < n) {old : ℕ} (o : old ≡ column (row_at rs i) 3) where
    pub sort_set : old ≡ 0 → entered i (variables_of text (set rs i (column (row_at rs i) 0 ∷ column (row_at rs i) 1 ∷ column (row_at rs i) 2 ∷ s ∷ [])) n) ≡ enter (variables_of text rs n) w s
    unfolding variables_of variable_of name_in
    sort_set z =
        let y : column (row_at rs i) 3 ≡ 0 = cc in
        ap (entered i) (table_set (variable_of text) rs n i (column (row_at rs i) 0 ∷ column (row_at rs i) 1 ∷ column (row_at rs i) 2 ∷ s ∷ []) l) ∙ sym (opened l ∙ simp (eq-eqb _ _ y))

    module _ (z : old ≡ 0 → ⊥) where
      pub sort_none : s ≡ 0 → entered i (variables_of text rs n) ≡ enter (variables_of text rs n) w s
      unfolding variable_of
      sort_none y = sym (opened l ∙ simp (ne_eqb (column (row_at rs i) 3) 0 (λ q. z (o ∙ q)), eq-eqb _ _ y))

      module _ (y : s ≡ 0 → ⊥) where
        pub sort_same : old ≡ s → entered i (variables_of text rs n) ≡ enter (variables_of text rs n) w s
        unfolding variable_of
        sort_same x = let x₂ : column (row_at rs i) 3 ≡ s = cc in sym (opened l ∙ simp (ne_eqb (column (row_at rs i) 3) 0 (λ q. z (o ∙ q)), ne_eqb s 0 y, eq-eqb _ _ x₂))

        pub sort_other : (old ≡ s → ⊥) → refused 24 ≡ enter (variables_of text rs n) w s
        unfolding variable_of
        sort_other x = sym (opened l ∙ simp (ne_eqb (column (row_at rs i) 3) 0 (λ q. z (o ∙ q)), ne_eqb s 0 y, ne_eqb (column (row_at rs i) 3) s (λ q. x (o ∙ q))))

  pub var_new : n ≤ i → n < 64 → n < length rs → (k a b : ℕ) → name_of text k a b ≡ w → entered n (variables_of text (set rs n (k ∷ a ∷ b ∷ s ∷ [])) (n + 1)) ≡ enter (variables_of text rs n) w s
  unfolding enter variables_of variable_of name_in
  var_new l g m k a b q =
      ap (entered n) (table_more (variable_of text) rs n (k ∷ a ∷ b ∷ s ∷ []) m)
      ∙ ap (λ (v : Name). entered n (variables_of text rs n ++ (record { name = v; sort = s } ∷ []))) q ∙ sym (simp (← e, many_vars, le-ltb i n l, lt-ltb n 64 g))

  pub var_full : n ≤ i → 64 ≤ n → refused 28 ≡ enter (variables_of text rs n) w s
  unfolding enter
  var_full l k = sym (simp (← e, many_vars, le-ltb i n l, le-ltb n 64 k))

-- a variable's answer
module _ (text : List ℕ) (g : Result EnteredVariable Refusal) (vx : Rows) (x : Entry) (eq : entry_of text g vx ≡ x) (w : List ℕ) (u m : ℕ) where
  pub variable_refused : {e : Refusal} → g ≡ Err e → answer text (Err e) vx w ≡ stored [] (counted x m) w u
  variable_refused h = simp (← eq, h)

  pub variable_full : {v : EnteredVariable} → g ≡ Ok v → m ≡ 0 → answer text (Err Full) vx w ≡ stored [] (counted x m) w u
  variable_full h z = simp (← eq, h, z)

  pub variable_node : {v : EnteredVariable} → g ≡ Ok v → (next : ℕ) → 0 < m
      → answer text (Ok (record { node = v.index; place = record { next = next; variables = v.count; used = u; room = m - 1 } })) vx w ≡ stored [] (counted x m) w u
  unfolding lay
  variable_node {v} h next l = simp (← eq, h) (go m l)
    where
      go : (k : ℕ) → 0 < k → yes (laid (v.index ∷ []) w u) (variables_of text vx v.count) (k - 1) ≡ stored [] (counted (entered v.index (variables_of text vx v.count)) k) w u
      go zero b = absurd (omega arith)
      go (suc k) b = let y : suc k - 1 ≡ k = omega arith in rw y
