-- The edges of stored bindings, one by one: they are numbered without gaps, they lead from references to references, and their words are in range.
use Prim.Native.Nat.{ℕ, suc, ◌+◌, ◌-◌, ◌≤◌, ◌<◌}
use native.Mathlib.Omega.{arith}
use mathlib.Core.Path.{◌≡◌, sym, ap, ◌∙◌, subst}
use mathlib.Core.Logic.{⊎_elim, ◌≢◌}
use mathlib.Core.List.{List}
use lib.ListN.{length}
use denote.Ref.{Bor}
use Rattle.std.specs.Prelude.{Option, Some, None}
use Rattle.std.specs.Slice.{IsItemAt}
use Rattle.std.specs.Option.{option_copied, SomeIff}
use Rattle.terms.specs.Numbers.{less_yes, less_no, same_refl, same_ne, by_same, by_less}
use Rattle.arena.specs.Cells.{headers, Cells, cells, arity_of, Reference, low_or_high, reference_up}
use Rattle.arena.specs.Arguments.{arguments_in, arguments_long, argument_in}
use Rattle.arena.specs.Rows.{Rows, column}
use Rattle.acyclicity.specs.Contract.{Stored}
use Rattle.acyclicity.specs.Edges.{number, edge, Outside}

-- The place that a number in a row stands for.
pub held_place : (o : Option ℕ) (n : ℕ) → SomeIff o (1 ≤ n) (n - 1) → number o ≡ n
held_place None n h = omega arith
held_place (Some r) n h = omega arith

module _ (N : ℕ) (w bound : Cells) (r : ℕ) where
  pub edge_variable : (i : ℕ) → r < N → i ≡ 0 → edge N w bound r i ≡ bound r
  unfolding edge
  edge_variable i l q = rw (q, less_yes l, same_refl 0)

  pub edge_second : (i : ℕ) → r < N → i ≢ 0 → edge N w bound r i ≡ 0
  unfolding edge
  edge_second i l n = rw (less_yes l, same_ne n)

  pub edge_argument : (i : ℕ) → N ≤ r → i < arity_of (w (r - N)) → edge N w bound r i ≡ suc (w (r - N + suc i))
  unfolding edge
  edge_argument i l b = rw (less_no l, less_yes b)

  pub edge_past : (i : ℕ) → N ≤ r → arity_of (w (r - N)) ≤ i → edge N w bound r i ≡ 0
  unfolding edge
  edge_past i l b = rw (less_no l, less_no b)

  -- An edge is a binding or an argument.
  pub by_edge : {P : Type 0} (i y : ℕ) → edge N w bound r i ≡ suc y → (r < N → i ≡ 0 → bound r ≡ suc y → P)
      → (N ≤ r → i < arity_of (w (r - N)) → y ≡ w (r - N + suc i) → P) → P
  by_edge {P} i y e f g = by_less r N
      (λ l q. by_same i 0
      (λ z s. f l z (sym (edge_variable i l z) ∙ e))
      (λ n s. let k = edge_second i l n in let no : ⊥ = omega arith in absurd no))
      (λ l q. by_less i (arity_of (w (r - N)))
      (λ b s. g l b (let k = edge_argument i l b in omega arith))
      (λ b s. let k = edge_past i l b in let no : ⊥ = omega arith in absurd no))

  -- No reference has more than 31 edges.
  pub edge_few : (i y : ℕ) → edge N w bound r i ≡ suc y → i < 31
  edge_few i y e = by_edge i y e (λ l z b. omega arith) (λ l b q. omega arith)

  -- The edges are numbered without gaps.
  pub edge_first : (i j y : ℕ) → edge N w bound r i ≡ 0 → edge N w bound r j ≡ suc y → j < i
  edge_first i j y z e = by_less j i (λ l q. l) (λ l q. by_edge j y e
      (λ k n b. let i₀ : i ≡ 0 = omega arith in let d = edge_variable i k i₀ in let no : ⊥ = omega arith in absurd no)
      (λ k n b. let d = edge_argument i k (omega arith) in let no : ⊥ = omega arith in absurd no))

module _ {words : List ℕ} {bindings : Rows} {N variables used : ℕ} (s : Stored words bindings N variables used) where
  -- A reference is a variable in use or below the end of the words in use.
  pub reference_within : {r : ℕ} → Reference N (cells words) variables used r → r < N + used
  reference_within {r} h = let f = s.few in ⊎_elim (λ l. omega arith) (λ l. h.node l) (low_or_high N r N)

  pub reference_inside : {r a : ℕ} → Reference N (cells words) variables used r → Outside N variables used a → a ≢ r
  reference_inside {r} {a} h (o, q) e =
      ⊎_elim (λ l. let k = h.variable l in let no : ⊥ = omega arith in no)
      (λ l. let k = h.node l in ⊎_elim (λ p. let no : ⊥ = omega arith in no) (λ p. let no : ⊥ = omega arith in no) q) (low_or_high N r N)

  -- A variable in use is a reference.
  pub variable_reference : (v : ℕ) → v < variables → Reference N (cells words) variables used v
  variable_reference v l = let f = s.few in record {
    variable = λ p. l;
    node = λ p. let no : ⊥ = omega arith in absurd no;
    header = λ p. let no : ⊥ = omega arith in absurd no;
  }

  -- Edges lead to references.
  pub edge_reference : {r : ℕ} (i y : ℕ) → Reference N (cells words) variables used r → edge N (cells words) (column 0 bindings) r i ≡ suc y → Reference N (cells words) variables used y
  edge_reference {r} i y h e = by_edge N (cells words) (column 0 bindings) r i y e
      (λ l z b. s.bound r y (h.variable l) b)
      (λ l b q. let n = h.node l in
      let k : Reference N (cells words) variables (r - N) (cells words (r - N + suc i)) = s.formed.arguments (r - N) i (omega arith) (h.header l) b in
      subst (Reference N (cells words) variables used) (sym q) (reference_up N (omega arith) (omega arith) k))

  -- The words that an edge is read from are within the slices, and its place is a small number.
  pub variable_row : {r : ℕ} → Reference N (cells words) variables used r → r < N → r < length bindings
  variable_row h l = let k = h.variable l in let n = s.rows in omega arith

  pub node_words : {r : ℕ} → Reference N (cells words) variables used r → N ≤ r → r - N + arity_of (cells words (r - N)) < length words
  node_words {r} h l = let n = h.node l in let f = s.formed.fits (r - N) (omega arith) (h.header l) in let k = s.within in omega arith

  pub argument_small : {r : ℕ} (i : ℕ) → Reference N (cells words) variables used r → N ≤ r → i < arity_of (cells words (r - N)) → cells words (r - N + suc i) < headers
  argument_small {r} i h l b =
      let k = reference_within (edge_reference i (cells words (r - N + suc i)) h (edge_argument N (cells words) (column 0 bindings) r i l b)) in
      let a = s.low in omega arith

  -- An argument that was looked up is the edge, as none is where there is no such argument.
  pub edge_looked_up : {r : ℕ} (i : ℕ) (found : Option (Bor ℕ)) → Reference N (cells words) variables used r → N ≤ r → IsItemAt (arguments_in words (r - N)) i found
      → number (option_copied found) ≡ edge N (cells words) (column 0 bindings) r i
  edge_looked_up {r} i None h l k =
      let long = arguments_long words (r - N) (node_words h l) in
      let past = k.3 in
      sym (edge_past N (cells words) (column 0 bindings) r i l (omega arith))
  edge_looked_up {r} i (Some x) h l k =
      let long = arguments_long words (r - N) (node_words h l) in
      let below : i < arity_of (cells words (r - N)) = let q = k.3.0 in omega arith in
      let d : suc (r - N) + i ≡ r - N + suc i = omega arith in
      ap suc (k.4 (omega arith) 0 ∙ argument_in words (r - N) i below ∙ ap (cells words) d) ∙ sym (edge_argument N (cells words) (column 0 bindings) r i l below)
