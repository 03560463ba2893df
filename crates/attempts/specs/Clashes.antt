-- A clash that shows before anything is copied: the heads of a goal and a conclusion differ, or those of two arguments at the same place. Then they do not
-- unify, whatever the conclusion's variables become.
use Rattle.std.specs.Prelude.{ℕ, zero, suc, ◌+◌, ◌-◌, ◌/◌, ◌%◌, ◌≤◌, ◌<◌, ◌≡◌, refl, ◌≢◌, List, length, Option}
use Rattle.std.specs.Option.{MatchOption}
use Rattle.std.proofs.Common.{arith, ◌∙◌, subst}
use Rattle.std.proofs.Math.Path.{sym, ap}
use Rattle.terms.specs.Term.{app, nil, cons, var, Term, Terms, Subst, sub, count, Below}
use Rattle.terms.specs.TermLaws.{app_inj, count_sub}
use Rattle.terms.specs.Bindings.{Bindings, full, Acyclic, BelowB, Solves}
use Rattle.terms.specs.BindingLaws.{full_solves, solves_walk}
use Rattle.terms.specs.Unification.{Outcome, unfinished, fails, unified, unify}
use Rattle.terms.specs.Robinson.{Unified}
use Rattle.terms.proofs.Robinson.{unify_ok}
use Rattle.arena.specs.Cells.{headers, Cells, symbol_of, arity_of, args, denote, Reference, WellFormed, denote_node, reference_argument, cells}
use Rattle.arena.specs.ArgumentLaws.{count_args}
use Rattle.arena.specs.Copies.{pattern_room}
use Rattle.arena.specs.Rows.{Rows}
use Rattle.bindings.specs.Stored.{held, Form}
use Rattle.bindings.specs.Promises.{Walked}
use Rattle.attempts.specs.StoredRules.{pattern_of}

-- Nothing that agrees with the bindings makes the terms equal.
abbrev pub Clash : Bindings → Term → Term → Type 0
Clash β g h = (σ : Subst) → Solves σ β → sub σ g ≡ sub σ h → ⊥

-- Then they do not unify.
pub clash_fails : (c : ℕ) (β : Bindings) (g h : Term) → Acyclic β → BelowB c β → Below c g → Below c h → Clash β g h → unify c β g h ≡ fails
clash_fails c β g h ac bb bg bh k = go (unify c β g h) (unify_ok c β g h ac bb bg bh)
  where
    go : (o : Outcome) → Unified c β g h o → o ≡ fails
    go unfinished u = absurd u
    go fails u = refl
    go (unified β') u = let s = u.sound (full β') (full_solves β' u.acyclic) in absurd (k (full β') s.0 s.1.0)

-- The bindings lead from the reference r to the node that is told, and else to a variable.
abbrev pub LeadsTo : ℕ → List ℕ → Rows → ℕ → ℕ → ℕ → ℕ → Option ℕ → Type 0
LeadsTo room words rows variables used bound r node =
    MatchOption node ((q : ℕ) × (q < room) × Walked room words rows variables used bound r q)
    (λ q. (room ≤ q) × Walked room words rows variables used bound r q)

-- The bindings lead from the reference r to the first, a node; the second is the address of the node to which the pattern's reference s refers.
abbrev pub BothNodes : ℕ → List ℕ → Rows → ℕ → ℕ → ℕ → ℕ → ℕ → ℕ × ℕ → Type 0
BothNodes room words rows variables used bound r s nodes =
    (room ≤ nodes.0) × Walked room words rows variables used bound r nodes.0 × (pattern_room ≤ s) × (nodes.1 ≡ s - pattern_room)

-- What comparing a goal's reference with a pattern's asks: a state and a pattern in form.
pub record Comparable (room : ℕ) (pattern words : List ℕ) (rows : Rows) (variables used bound r s : ℕ) : Type 0 where
  pub form : Form room words rows variables used bound
  pub refers : Reference room (cells words) variables used r
  pub end : ℕ
  pub there : end ≤ length pattern
  pub low : pattern_room + end ≤ headers
  pub formed : WellFormed pattern_room (cells pattern) pattern_room end
  pub pattern_refers : Reference pattern_room (cells pattern) pattern_room end s

-- The goal and every instance of the pattern's term clash.
abbrev pub Clashes : ℕ → List ℕ → List ℕ → Rows → ℕ → ℕ → ℕ → Type 0
Clashes room pattern words rows bound r s = (ν : Subst) → Clash (held room words rows bound) (denote room (cells words) r) (sub ν (pattern_of pattern s))

-- A header is its symbol and its number of arguments.
headers_same : (a b : ℕ) → headers ≤ a → headers ≤ b → (ts us : Terms) → count ts ≡ arity_of a → count us ≡ arity_of b → app (symbol_of a) ts ≡ app (symbol_of b) us → a ≡ b
headers_same a b la lb ts us p q e =
    let i = app_inj (symbol_of a) (symbol_of b) ts us e in
    let n : a % 32 ≡ b % 32 = sym p ∙ ap count i.1 ∙ q in
    let m : (a - headers) / 32 ≡ (b - headers) / 32 = i.0 in
    omega (arith, n, m)

-- An argument by its place.
abbrev nth : ℕ → Terms → Term
nth i nil = var 0
nth zero (cons t ts) = t
nth (suc i) (cons t ts) = nth i ts

nth_args : (σ : Subst) (g : ℕ → Term) (w : Cells) (p n i : ℕ) → i < n → nth i (sub σ (args g w p n)) ≡ sub σ (g (w (p + i)))
nth_args σ g w p zero i l = absurd (omega arith)
nth_args σ g w p (suc n) zero l = ap (λ (j : ℕ). sub σ (g (w j))) (let e : p ≡ p + 0 = omega arith in e)
nth_args σ g w p (suc n) (suc i) l = nth_args σ g w (suc p) n i (omega arith) ∙ ap (λ (j : ℕ). sub σ (g (w j))) (let e : suc p + i ≡ p + suc i = omega arith in e)

nth_twice : (σ ν : Subst) (g : ℕ → Term) (w : Cells) (p n i : ℕ) → i < n → nth i (sub σ (sub ν (args g w p n))) ≡ sub σ (sub ν (g (w (p + i))))
nth_twice σ ν g w p zero i l = absurd (omega arith)
nth_twice σ ν g w p (suc n) zero l = ap (λ (j : ℕ). sub σ (sub ν (g (w j)))) (let e : p ≡ p + 0 = omega arith in e)
nth_twice σ ν g w p (suc n) (suc i) l = nth_twice σ ν g w (suc p) n i (omega arith) ∙ ap (λ (j : ℕ). sub σ (sub ν (g (w j)))) (let e : suc p + i ≡ p + suc i = omega arith in e)

module _ {room : ℕ} {pattern words : List ℕ} {rows : Rows} {variables used bound r s : ℕ} (h : Comparable room pattern words rows variables used bound r s)
    {q : ℕ} (walked : Walked room words rows variables used bound r q) (goal-node : room ≤ q) (pattern-node : pattern_room ≤ s) where
  abbrev goal_header : ℕ
  goal_header = cells words (q - room)

  abbrev pattern_header : ℕ
  pattern_header = cells pattern (s - pattern_room)

  goal_args : Terms
  goal_args = args (denote room (cells words)) (cells words) (suc (q - room)) (arity_of (cells words (q - room)))

  pattern_args : Terms
  pattern_args = args (denote pattern_room (cells pattern)) (cells pattern) (suc (s - pattern_room)) (arity_of (cells pattern (s - pattern_room)))

  goal_is : (σ : Subst) → Solves σ (held room words rows bound) → sub σ (denote room (cells words) r) ≡ app (symbol_of goal_header) (sub σ goal_args)
  unfolding goal_args
  goal_is σ k =
      sym (solves_walk σ (held room words rows bound) h.form.acyclic k (denote room (cells words) r))
      ∙ ap (sub σ) (walked.is ∙ denote_node room (cells words) variables used h.form.words q walked.in_form goal-node)

  pattern_is : (σ ν : Subst) → sub σ (sub ν (pattern_of pattern s)) ≡ app (symbol_of pattern_header) (sub σ (sub ν pattern_args))
  unfolding pattern_args
  pattern_is σ ν = ap (λ (t : Term). sub σ (sub ν t)) (denote_node pattern_room (cells pattern) pattern_room h.end h.formed s h.pattern_refers pattern-node)

  both : (σ ν : Subst) → Solves σ (held room words rows bound) → sub σ (denote room (cells words) r) ≡ sub σ (sub ν (pattern_of pattern s))
      → app (symbol_of goal_header) (sub σ goal_args) ≡ app (symbol_of pattern_header) (sub σ (sub ν pattern_args))
  both σ ν k e = sym (goal_is σ k) ∙ e ∙ pattern_is σ ν

  -- The heads differ.
  pub heads_clash : goal_header ≢ pattern_header → Clashes room pattern words rows bound r s
  unfolding goal_args pattern_args
  heads_clash n ν σ k e =
      n (headers_same goal_header pattern_header (walked.in_form.header goal-node) (h.pattern_refers.header pattern-node) (sub σ goal_args) (sub σ (sub ν pattern_args))
      (count_sub σ goal_args ∙ count_args (denote room (cells words)) (cells words) (suc (q - room)) (arity_of goal_header))
      (count_sub σ (sub ν pattern_args) ∙ count_sub ν pattern_args ∙ count_args (denote pattern_room (cells pattern)) (cells pattern) (suc (s - pattern_room)) (arity_of pattern_header))
      (both σ ν k e))

  module _ (same : goal_header ≡ pattern_header) (i : ℕ) (l : i < arity_of goal_header) where
    below : i < arity_of pattern_header
    below = subst (λ (x : ℕ). i < arity_of x) same l

    goal_place : suc (q - room) + i ≡ q - room + 1 + i
    goal_place = omega arith

    pattern_place : suc (s - pattern_room) + i ≡ s - pattern_room + 1 + i
    pattern_place = omega arith

    -- Two arguments can be compared,
    pub arguments_comparable : Comparable room pattern words rows variables used bound (cells words (q - room + 1 + i)) (cells pattern (s - pattern_room + 1 + i))
    arguments_comparable = record {
      form = h.form;
      refers = subst (λ (j : ℕ). Reference room (cells words) variables used (cells words j)) goal_place
          (reference_argument room (cells words) variables used h.form.words q i walked.in_form goal-node l);
      end = h.end;
      there = h.there;
      low = h.low;
      formed = h.formed;
      pattern_refers = subst (λ (j : ℕ). Reference pattern_room (cells pattern) pattern_room h.end (cells pattern j)) pattern_place
          (reference_argument pattern_room (cells pattern) pattern_room h.end h.formed s i h.pattern_refers pattern-node below);
    }

    -- and if they clash, so do the terms.
    pub arguments_clash : Clashes room pattern words rows bound (cells words (q - room + 1 + i)) (cells pattern (s - pattern_room + 1 + i)) → Clashes room pattern words rows bound r s
    unfolding goal_args pattern_args
    arguments_clash c ν σ k e =
        let j = app_inj (symbol_of goal_header) (symbol_of pattern_header) (sub σ goal_args) (sub σ (sub ν pattern_args)) (both σ ν k e) in
        c ν σ k (ap (λ (j : ℕ). sub σ (denote room (cells words) (cells words j))) (sym goal_place)
        ∙ sym (nth_args σ (denote room (cells words)) (cells words) (suc (q - room)) (arity_of goal_header) i l)
        ∙ ap (nth i) j.1
        ∙ nth_twice σ ν (denote pattern_room (cells pattern)) (cells pattern) (suc (s - pattern_room)) (arity_of pattern_header) i below
        ∙ ap (λ (j : ℕ). sub σ (sub ν (denote pattern_room (cells pattern) (cells pattern j)))) pattern_place)

  -- The words that are read are there.
  pub goal_in_lem : q - room + arity_of goal_header < length words
  goal_in_lem =
      let n = walked.in_form.node goal-node in
      let f = h.form.words.fits (q - room) (omega arith) (walked.in_form.header goal-node) in
      let b = h.form.lent_words in omega arith

  pub pattern_in : s - pattern_room + arity_of pattern_header < length pattern
  pattern_in =
      let n = h.pattern_refers.node pattern-node in
      let f = h.formed.fits (s - pattern_room) (omega arith) (h.pattern_refers.header pattern-node) in
      let b = h.there in omega arith
