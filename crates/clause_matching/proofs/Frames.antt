-- Building with open nodes: a value is carried into the innermost open node, which goes on with its arguments and is then built itself.
use Prim.Native.Nat.{ℕ, suc, ◌+◌, ◌≤◌, ◌<◌}
use mathlib.Core.Path.{◌≡◌, refl, ap}
use mathlib.Core.List.{List, [], ◌∷◌}
use borrow.Author.Tests.{lt-ltb, le-ltb}
use Rattle.terms.specs.Term.{app, nil, cons, Term, Terms, count, append}
use Rattle.terms.specs.Term.Kind.{one as single, many as several}
use Rattle.terms.specs.Bindings.{Bindings}
use Rattle.terms.specs.TermLists.{append_nothing, append_more}
use Rattle.evaluation.specs.Matching.{Built, barred, built, if_built, build_node, instantiate_of}

-- An open node: its symbol, the arguments that are built, and those that are left.
pub data Frame : Type 0 where
  frame : ℕ → Terms → Terms → Frame

-- A node fits the words, or not.
pub node_fits : (limit f : ℕ) (ts : Terms) (used : ℕ) → used + suc (count ts) ≤ limit → build_node limit f ts used ≡ built (app f ts) (used + suc (count ts))
node_fits limit f ts used l = rw (le-ltb limit (used + suc (count ts)) l)

pub node_over : (limit f : ℕ) (ts : Terms) (used : ℕ) → limit < used + suc (count ts) → build_node limit f ts used ≡ barred 37
node_over limit f ts used l = rw (lt-ltb limit (used + suc (count ts)) l)

module _ (limit : ℕ) (β : Bindings) where
  -- A value, with the words then used, carried into open nodes.
  abbrev pub carry : List Frame → Term → ℕ → Built single
  carry [] t u = built t u
  carry (frame f done rest ∷ fs) t u =
      if_built (instantiate_of limit β rest u) (λ ts v. if_built (build_node limit f (append done (cons t ts)) v) (λ w x. carry fs w x))

  -- The innermost open node goes on.
  abbrev pub resume : ℕ → Terms → Terms → List Frame → ℕ → Built single
  resume f done rest fs u = if_built (instantiate_of limit β rest u) (λ ts v. if_built (build_node limit f (append done ts) v) (λ w x. carry fs w x))

  pub carry_alone : (o : Built single) → if_built o (λ t v. carry [] t v) ≡ o
  carry_alone (barred e) = refl
  carry_alone (built t u) = refl

  pub carry_given : (f : ℕ) (done : Terms) (t : Term) (rest : Terms) (fs : List Frame) (u : ℕ)
      → carry (frame f done rest ∷ fs) t u ≡ resume f (append done (cons t nil)) rest fs u
  carry_given f done t rest fs u = go (instantiate_of limit β rest u)
    where
      go : (o : Built several) → if_built o (λ ts v. if_built (build_node limit f (append done (cons t ts)) v) (λ w x. carry fs w x))
          ≡ if_built o (λ ts v. if_built (build_node limit f (append (append done (cons t nil)) ts) v) (λ w x. carry fs w x))
      go (barred e) = refl
      go (built ts v) = ap (λ (us : Terms). if_built (build_node limit f us v) (λ w x. carry fs w x)) (append_more done t ts)

  pub resume_next : (f : ℕ) (done : Terms) (p : Term) (ps : Terms) (fs : List Frame) (u : ℕ)
      → resume f done (cons p ps) fs u ≡ if_built (instantiate_of limit β p u) (λ t v. carry (frame f done ps ∷ fs) t v)
  unfolding instantiate_of
  resume_next f done p ps fs u = go (instantiate_of limit β p u)
    where
      within : (t : Term) (o : Built several)
          → if_built (if_built o (λ ts w. built (cons t ts) w)) (λ ts v. if_built (build_node limit f (append done ts) v) (λ w x. carry fs w x))
          ≡ if_built o (λ ts v. if_built (build_node limit f (append done (cons t ts)) v) (λ w x. carry fs w x))
      within t (barred e) = refl
      within t (built ts v) = refl

      go : (o : Built single)
          → if_built (if_built o (λ t v. if_built (instantiate_of limit β ps v) (λ ts w. built (cons t ts) w))) (λ ts v. if_built (build_node limit f (append done ts) v) (λ w x. carry fs w x))
          ≡ if_built o (λ t v. carry (frame f done ps ∷ fs) t v)
      go (barred e) = refl
      go (built t v) = within t (instantiate_of limit β ps v)

  pub resume_entered : (f : ℕ) (ps : Terms) (fs : List Frame) (u : ℕ) → if_built (instantiate_of limit β (app f ps) u) (λ t v. carry fs t v) ≡ resume f nil ps fs u
  unfolding instantiate_of
  resume_entered f ps fs u = go (instantiate_of limit β ps u)
    where
      go : (o : Built several) → if_built (if_built o (λ ts v. build_node limit f ts v)) (λ t v. carry fs t v) ≡ if_built o (λ ts v. if_built (build_node limit f (append nil ts) v) (λ w x. carry fs w x))
      go (barred e) = refl
      go (built ts v) = refl

  pub resume_full : (f : ℕ) (done : Terms) (fs : List Frame) (u : ℕ) → resume f done nil fs u ≡ if_built (build_node limit f done u) (λ w x. carry fs w x)
  unfolding instantiate_of
  resume_full f done fs u = ap (λ (ts : Terms). if_built (build_node limit f ts u) (λ w x. carry fs w x)) (append_nothing done)
