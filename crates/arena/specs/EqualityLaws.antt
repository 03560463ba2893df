-- Laws of equal terms: the test says true exactly of the same terms. And of equal stored terms: two nodes denote the same term exactly where their headers are the same and their arguments denote the same terms, and a
-- variable denotes another term than any other reference.
use Rattle.std.specs.Prelude.{ℕ, zero, suc, ◌+◌, ◌-◌, ◌≤◌, ◌<◌, ◌≡◌, refl, true, false}
use Rattle.std.proofs.Common.{arith, not-suc-le-zero, sym, ap, ap₂, ◌∙◌, subst, ⊎_elim}
use Rattle.std.proofs.lemmas.Bool.{and_parts}
use Rattle.terms.specs.Numbers.{same, same_refl, same_true, by_bool, true_false}
use Rattle.terms.specs.Term.{Kind, Syn, Term, var, app, nil, cons, count}
use Rattle.arena.specs.Equality.{alike}
use Rattle.terms.specs.TermLaws.{app_inj, cons_inj, var_inj, var_app}
use Rattle.arena.specs.Cells.{headers, Cells, symbol_of, arity_of, args, denote, Reference, WellFormed, low_or_high, decode_node, denote_node, denote_variable}
use Rattle.arena.specs.ArgumentLaws.{count_args}

-- The test.
alike_refl : {s : Kind} (t : Syn s) → alike t t ≡ true
alike_refl (var x) = same_refl x
alike_refl (app f ts) = rw (same_refl f, alike_refl ts)
alike_refl nil = refl
alike_refl (cons t ts) = rw (alike_refl t, alike_refl ts)

pub alike_same : {s : Kind} (t u : Syn s) → t ≡ u → alike t u ≡ true
alike_same t u e = subst (λ v. alike t v ≡ true) e (alike_refl t)

pub alike_true : {s : Kind} (t u : Syn s) → alike t u ≡ true → t ≡ u
alike_true (var x) (var y) e = ap var (same_true e)
alike_true (var x) (app g us) e = true_false e refl
alike_true (app f ts) (var y) e = true_false e refl
alike_true (app f ts) (app g us) e = let k = and_parts (same f g) (alike ts us) e in ap₂ app (same_true k.0) (alike_true ts us k.1)
alike_true nil nil e = refl
alike_true nil (cons u us) e = true_false e refl
alike_true (cons t ts) nil e = true_false e refl
alike_true (cons t ts) (cons u us) e = let k = and_parts (alike t u) (alike ts us) e in ap₂ cons (alike_true t u k.0) (alike_true ts us k.1)

pub alike_not : {s : Kind} (t u : Syn s) → (t ≡ u → ⊥) → alike t u ≡ false
alike_not t u n = by_bool (alike t u) (λ e. absurd (n (alike_true t u e))) (λ e. e)

-- Stored terms.
args_equal : (g : ℕ → Term) (w : Cells) (p q n : ℕ) → ((i : ℕ) → i < n → g (w (p + i)) ≡ g (w (q + i))) → args g w p n ≡ args g w q n
args_equal g w p q zero h = refl
args_equal g w p q (suc n) h =
    let d : p + 0 ≡ p = omega arith in
    let e : q + 0 ≡ q = omega arith in
    let h₀ : g (w (p + 0)) ≡ g (w (q + 0)) = h 0 (omega arith) in
    ap₂ cons (rw (d, e) at h₀) (args_equal g w (suc p) (suc q) n (λ i l.
    let d' : p + suc i ≡ suc p + i = omega arith in
    let e' : q + suc i ≡ suc q + i = omega arith in
    let h₁ : g (w (p + suc i)) ≡ g (w (q + suc i)) = h (suc i) (omega arith) in rw (d', e') at h₁))

equal_args : (g : ℕ → Term) (w : Cells) (p q n : ℕ) → args g w p n ≡ args g w q n → (i : ℕ) → i < n → g (w (p + i)) ≡ g (w (q + i))
equal_args g w p q zero e i l = absurd (not-suc-le-zero l)
equal_args g w p q (suc n) e zero l =
    let d : p + 0 ≡ p = omega arith in
    let d' : q + 0 ≡ q = omega arith in
    rw (d, d') (cons_inj (g (w p)) (g (w q)) (args g w (suc p) n) (args g w (suc q) n) e).0
equal_args g w p q (suc n) e (suc i) l =
    let d : p + suc i ≡ suc p + i = omega arith in
    let d' : q + suc i ≡ suc q + i = omega arith in
    rw (d, d') (equal_args g w (suc p) (suc q) n (cons_inj (g (w p)) (g (w q)) (args g w (suc p) n) (args g w (suc q) n) e).1 i (omega arith))

pub variable_apart : (N : ℕ) (w : Cells) (p q : ℕ) → q < N → q < p → denote N w p ≡ denote N w q → ⊥
unfolding denote
variable_apart N w p q l m e =
    let v = denote_variable N w q l in
    ⊎_elim
    (λ k. let n : p ≡ q = var_inj (denote_variable N w p k) (e ∙ v) in omega arith)
    (λ k. var_app (e ∙ v) (decode_node N p w p k))
    (low_or_high N p N)

module _ (N : ℕ) (w : Cells) (nv u : ℕ) (wf : WellFormed N w nv u) (a b : ℕ) (first : Reference N w nv u (N + a)) (second : Reference N w nv u (N + b)) where
  node_at : (c : ℕ) → Reference N w nv u (N + c) → denote N w (N + c) ≡ app (symbol_of (w c)) (args (denote N w) w (suc c) (arity_of (w c)))
  node_at c h = let e : N + c - N ≡ c = omega arith in rw e at (denote_node N w nv u wf (N + c) h (omega arith))

  pub nodes_equal : w a ≡ w b → ((i : ℕ) → i < arity_of (w a) → denote N w (w (a + suc i)) ≡ denote N w (w (b + suc i))) → denote N w (N + a) ≡ denote N w (N + b)
  nodes_equal e h =
      let t : args (denote N w) w (suc a) (arity_of (w a)) ≡ args (denote N w) w (suc b) (arity_of (w a)) = args_equal (denote N w) w (suc a) (suc b) (arity_of (w a)) (λ i l.
      let d : a + suc i ≡ suc a + i = omega arith in
      let d' : b + suc i ≡ suc b + i = omega arith in
      let h₁ : denote N w (w (a + suc i)) ≡ denote N w (w (b + suc i)) = h i l in rw (d, d') at h₁) in
      node_at a first ∙ ap (app (symbol_of (w a))) t ∙ ap (λ (x : ℕ). app (symbol_of x) (args (denote N w) w (suc b) (arity_of x))) e ∙ sym (node_at b second)

  pub equal_headers : denote N w (N + a) ≡ denote N w (N + b) → w a ≡ w b
  equal_headers e =
      let k = app_inj (symbol_of (w a)) (symbol_of (w b)) (args (denote N w) w (suc a) (arity_of (w a))) (args (denote N w) w (suc b) (arity_of (w b)))
      (sym (node_at a first) ∙ e ∙ node_at b second) in
      let s = k.0 in
      let n : arity_of (w a) ≡ arity_of (w b) = sym (count_args (denote N w) w (suc a) (arity_of (w a))) ∙ ap count k.1 ∙ count_args (denote N w) w (suc b) (arity_of (w b)) in
      let d : N + a - N ≡ a = omega arith in
      let d' : N + b - N ≡ b = omega arith in
      let p : headers ≤ w a = rw d at (first.header (omega arith)) in
      let q : headers ≤ w b = rw d' at (second.header (omega arith)) in
      omega arith

  pub equal_arguments : denote N w (N + a) ≡ denote N w (N + b) → (i : ℕ) → i < arity_of (w a) → denote N w (w (a + suc i)) ≡ denote N w (w (b + suc i))
  equal_arguments e i l =
      let h = equal_headers e in
      let k = app_inj (symbol_of (w a)) (symbol_of (w b)) (args (denote N w) w (suc a) (arity_of (w a))) (args (denote N w) w (suc b) (arity_of (w b)))
      (sym (node_at a first) ∙ e ∙ node_at b second) in
      let t : args (denote N w) w (suc a) (arity_of (w a)) ≡ args (denote N w) w (suc b) (arity_of (w a)) = rw h (rw h at k.1) in
      let d : a + suc i ≡ suc a + i = omega arith in
      let d' : b + suc i ≡ suc b + i = omega arith in
      rw (d, d') (equal_args (denote N w) w (suc a) (suc b) (arity_of (w a)) t i l)
