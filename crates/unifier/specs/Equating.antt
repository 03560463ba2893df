-- The loop of unification: its invariant, what each turn changes, and what is known at its end.
use Rattle.std.specs.Prelude.{ℕ, suc, ◌+◌, ◌-◌, ◌≤◌, ◌<◌, ◌≡◌, refl, Bool, true, false, ◌≢◌, List, [], ◌∷◌, get_or, length, set}
use Rattle.std.proofs.Common.{zero-le, arith, not-suc-le-zero, le_refl, sym, ap, ap₂, ◌∙◌, subst, ⊎_elim, length-set, get_or-set_same, get_or-set_other}
use Rattle.terms.specs.Numbers.{by_same, true_false, same_ne}
use Rattle.terms.specs.Term.{var, mem}
use Rattle.terms.specs.Bindings.{Bindings, lookup, walk, res, occurs, Acyclic, BelowB}
use Rattle.terms.specs.Unification.{Outcome, unify}
use Rattle.terms.proofs.Loops.{occurs_var}
use Rattle.arena.specs.Cells.{Cells, cells, headers, arity_of, denote, Reference, WellFormed, denote_variable}
use Rattle.arena.specs.Rows.{Rows, column}
use Rattle.bindings.specs.Tables.{Empty, undone}
use Rattle.bindings.specs.Stored.{held, Form, free}
use Rattle.unifier.specs.Promises.{LeadsTo, Falling, Ways, Alike, met, constants, linked, Binding, of_first, of_second, Clashing, in_first, in_second, heads, Says, Joined, outcome}
use Rattle.bindings.specs.Promises.{Entered, Free}
use Rattle.unifier.specs.declared.Decision.TheVariants.{Same, Bind, Open, Clash}
use Rattle.bindings.specs.Orders.{by_order, low_or_high, not_zero, put, put_at, put_off}
use Rattle.bindings.specs.TableLaws.{Changed, column_same, column_other, undone_none}
use Rattle.bindings.specs.Entries.{Entries, entries_none, entries_room, entries_more, enter_changed, enter_back}
use Rattle.bindings.specs.Holding.{Holds, form_holds, walks, walks_ref, walks_end, bindings_more, trail_in}
use Rattle.bindings.specs.Search.{reference_low, undone_zero}
use Rattle.unifier.specs.Linking.{lead_is}
use Rattle.unifier.specs.Pairs.{EqualUnder, OpenPair, Pending, Resuming, stack_same}
use Rattle.unifier.specs.Steps.{leads_eq, leads_ref, leads_root, skip_constants, skip_linked, bind_first, bind_second, open_pair, occurs_in_first, occurs_in_second, heads_differ}
use Rattle.unifier.specs.Turns.{top, all_done, first_state, next_arguments, equal, close_pair}
use Rattle.unifier.specs.Bounds.{measure, untaken_same, stack_in, open_falls, next_falls, close_falls}

-- What the whole comes to.
abbrev pub whole : ℕ → List ℕ → Rows → ℕ → ℕ → ℕ → ℕ → Outcome
whole N w b variables k r t = unify variables (held N w b k) (denote N (cells w) r) (denote N (cells w) t)

-- A pair is to be made equal, or the last open pair goes on.
abbrev pub Stage : ℕ → List ℕ → Rows → Rows → Rows → ℕ → ℕ → ℕ → ℕ → ℕ → ℕ → Outcome → Bool → Type 0
Stage N w b l s variables used n d x y o true = Pending N (cells w) (column 0 b) (column 1 b) (column 0 l) (column 0 s) (column 1 s) (column 2 s) variables used n d x y o
Stage N w b l s variables used n d x y o false = Resuming N (cells w) (column 0 b) (column 1 b) (column 0 l) (column 0 s) (column 1 s) (column 2 s) variables used n d o

-- What does not change.
pub record Fixed (N : ℕ) (w : List ℕ) (b l m s : Rows) (variables used : ℕ) : Type 0 where
  pub low : N + used ≤ headers
  pub lent_words : used ≤ length w
  pub lent_rows : variables ≤ length b
  pub lent_links : N + used ≤ length l
  pub lent_stack : used ≤ length s
  pub empty_stack : Empty s
  pub free : Free N used m

-- Bindings were added to the first k.
pub record BoundFrom (b₀ b : Rows) (variables k n : ℕ) : Type 0 where
  pub long : length b ≡ length b₀
  pub unbound : (v : ℕ) → variables ≤ v → column 0 b v ≡ 0
  pub rest : (i : ℕ) → n ≤ i → column 1 b i ≡ 0
  pub more : k ≤ n
  pub kept : (i : ℕ) → i < k → column 1 b i ≡ column 1 b₀ i
  pub still : (v : ℕ) → column 0 b₀ v ≢ 0 → column 0 b v ≡ column 0 b₀ v
  pub back : undone b k (n - k) ≡ b₀

-- Links were added to none.
pub record LinkedFrom (limit : ℕ) (l₀ l : Rows) (c : ℕ) : Type 0 where
  pub long : length l ≡ length l₀
  pub entries : Entries l limit c
  pub back : undone l 0 c ≡ l₀
  pub falls : Falling l

-- The stack is as it was from d on, and was 0 below.
pub record StackedFrom (s₀ s : Rows) (d : ℕ) : Type 0 where
  pub long : length s ≡ length s₀
  pub above : (j : ℕ) → d ≤ j → get_or s j [] ≡ get_or s₀ j []
  pub zero : (j : ℕ) → j < d → get_or s₀ j [] ≡ 0 ∷ 0 ∷ 0 ∷ []

-- The invariant.
pub record Loop (N : ℕ) (w : List ℕ) (b₀ l₀ m₀ s₀ : Rows) (variables used k r t : ℕ) (b l m s : Rows) (x y d n c : ℕ) (pending : Bool) : Type 0 where
  pub fixed : Fixed N w b₀ l₀ m₀ s₀ variables used
  pub binding : BoundFrom b₀ b variables k n
  pub linking : LinkedFrom (N + used) l₀ l c
  pub stacking : StackedFrom s₀ s d
  pub marks : m ≡ m₀
  pub stage : Stage N w b l s variables used n d x y (whole N w b₀ variables k r t) pending

-- With no pair pending, the pair of the last turn is of no concern.
pub loop_idle : {N : ℕ} {w : List ℕ} {b₀ l₀ m₀ s₀ b l m s : Rows} {variables used k r t x y d n c : ℕ} (x' y' : ℕ)
    → Loop N w b₀ l₀ m₀ s₀ variables used k r t b l m s x y d n c false → Loop N w b₀ l₀ m₀ s₀ variables used k r t b l m s x' y' d n c false
loop_idle x' y' h = record { fixed = h.fixed; binding = h.binding; linking = h.linking; stacking = h.stacking; marks = h.marks; stage = h.stage }

-- What is known at the loop's end.
pub record Equated (N : ℕ) (w : List ℕ) (b₀ b l₀ l m₀ m s₀ s : Rows) (variables used k r t : ℕ) (answer : Bool) (n c d : ℕ) : Type 0 where
  pub is : whole N w b₀ variables k r t ≡ outcome answer (held N w b n)
  pub form : Form N w b variables used n
  pub binding : BoundFrom b₀ b variables k n
  pub linking : LinkedFrom (N + used) l₀ l c
  pub stacking : StackedFrom s₀ s d
  pub within : d ≤ length s₀
  pub marks : m ≡ m₀

-- Storage is again in form.
pub form_made : {N : ℕ} {w : List ℕ} {b₀ l₀ m₀ s₀ b : Rows} {variables used k n : ℕ} {β : Bindings} → WellFormed N (cells w) variables used
    → Holds N (cells w) (column 0 b) (column 1 b) variables used n β → Fixed N w b₀ l₀ m₀ s₀ variables used → BoundFrom b₀ b variables k n → Form N w b variables used n
form_made {variables = variables} wf h f g = record {
  words = wf;
  few = h.few;
  low = f.low;
  lent_words = f.lent_words;
  lent_rows = let a = f.lent_rows in let e = g.long in omega arith;
  references = h.references;
  lookups = λ v l. ap (λ (γ : Bindings). lookup γ v) (sym h.is) ∙ h.lookups v l;
  acyclic = subst (λ (γ : Bindings). Acyclic γ) h.is h.acyclic;
  below = subst (λ (γ : Bindings). BelowB variables γ) h.is h.below;
  unbound = g.unbound;
  rest = g.rest;
}

-- A row of three numbers that are 0.
zero_row : (row : List ℕ) → length row ≡ 3 → ((c : ℕ) → get_or row c 0 ≡ 0) → row ≡ 0 ∷ 0 ∷ 0 ∷ []
zero_row [] e h = absurd (omega arith)
zero_row (x ∷ []) e h = absurd (omega arith)
zero_row (x ∷ y ∷ []) e h = absurd (omega arith)
zero_row (x ∷ y ∷ z ∷ []) e h = let p : x ≡ 0 = h 0 in let q : y ≡ 0 = h 1 in let r : z ≡ 0 = h 2 in rw (p, q, r)
zero_row (x ∷ y ∷ z ∷ u ∷ l) e h = absurd (omega arith)

-- The stack: one pair more, another pair on top, one pair less.
module _ {s₀ s : Rows} {d : ℕ} (h : StackedFrom s₀ s d) where
  pub stacked_more : Empty s₀ → (row : List ℕ) → length (get_or s d []) ≡ 3 → StackedFrom s₀ (set s d row) (d + 1)
  stacked_more z row e = record {
    long = length-set s d row ∙ h.long;
    above = λ j l. get_or-set_other s d j row [] (λ q. omega arith) ∙ h.above j (omega arith);
    zero = λ j l. by_order j d (λ p. h.zero j p)
        (λ p. let q : j ≡ d = omega arith in subst (λ (i : ℕ). get_or s₀ i [] ≡ 0 ∷ 0 ∷ 0 ∷ []) (sym q)
        (zero_row (get_or s₀ d []) (ap length (sym (h.above d (le_refl d))) ∙ e) (λ c. z c d)));
  }

  pub stacked_same : (row : List ℕ) → d ≢ 0 → StackedFrom s₀ (set s (d - 1) row) d
  stacked_same row n = let e = not_zero d n in record {
    long = length-set s (d - 1) row ∙ h.long;
    above = λ j l. get_or-set_other s (d - 1) j row [] (λ q. omega arith) ∙ h.above j l;
    zero = h.zero;
  }

  pub stacked_less : d ≢ 0 → d ≤ length s → StackedFrom s₀ (set s (d - 1) (0 ∷ 0 ∷ 0 ∷ [])) (d - 1)
  stacked_less n l = let e = not_zero d n in record {
    long = length-set s (d - 1) _ ∙ h.long;
    above = λ j p. by_same j (d - 1)
        (λ q _. ap (λ (i : ℕ). get_or (set s (d - 1) (0 ∷ 0 ∷ 0 ∷ [])) i []) q ∙ get_or-set_same s (d - 1) _ [] (omega arith) ∙ sym (h.zero (d - 1) (omega arith)) ∙ ap (λ (i : ℕ). get_or s₀ i []) (sym q))
        (λ q _. get_or-set_other s (d - 1) j _ [] q ∙ h.above j (by_order j d (λ a. absurd (q (omega arith))) (λ a. a)));
    zero = λ j p. h.zero j (omega arith);
  }

-- Columns that are the same below d.
module _ {N : ℕ} where
  pending_same : {w values trail links lefts rights taken lefts' rights' : Cells} {variables used n d x y : ℕ} {o : Outcome} → ((j : ℕ) → j < d → lefts' j ≡ lefts j) → ((j : ℕ) → j < d → rights' j ≡ rights j)
      → Pending N w values trail links lefts rights taken variables used n d x y o → Pending N w values trail links lefts' rights' taken variables used n d x y o
  pending_same {links = links} p q h = record {
    β = h.β;
    es = h.es;
    left_in = h.left_in;
    right_in = h.right_in;
    comes = h.comes;
    smallest = λ j jl σ so. let z = h.smallest j jl σ so in rw (p j jl) z;
    state = record {
      words = h.state.words;
      holds = h.state.holds;
      below = h.state.below;
      equal_links = h.state.equal_links;
      links_in = h.state.links_in;
      stack = stack_same p q (λ j _. refl) h.state.stack;
      smaller = λ i j a c σ so. let z = h.state.smaller i j a c σ so in let e = p i (omega arith) in let e' = p j c in rw (e, e') z;
      apart = λ j jl root a c. h.state.apart j jl root (subst (λ (z : ℕ). LeadsTo links z root) (p j jl) a) (subst (λ (z : ℕ). LeadsTo links z root) (q j jl) c);
    };
  }

  resuming_same : {w values trail links lefts rights taken lefts' rights' taken' : Cells} {variables used n d : ℕ} {o : Outcome} → ((j : ℕ) → j < d → lefts' j ≡ lefts j) → ((j : ℕ) → j < d → rights' j ≡ rights j)
      → ((j : ℕ) → j < d → taken' j ≡ taken j) → Resuming N w values trail links lefts rights taken variables used n d o → Resuming N w values trail links lefts' rights' taken' variables used n d o
  resuming_same {links = links} p q r h = record {
    β = h.β;
    X = h.X;
    Y = h.Y;
    es = h.es;
    equal = h.equal;
    comes = h.comes;
    state = record {
      words = h.state.words;
      holds = h.state.holds;
      below = h.state.below;
      equal_links = h.state.equal_links;
      links_in = h.state.links_in;
      stack = stack_same p q r h.state.stack;
      smaller = λ i j a c σ so. let z = h.state.smaller i j a c σ so in let e = p i (omega arith) in let e' = p j c in rw (e, e') z;
      apart = λ j jl root a c. h.state.apart j jl root (subst (λ (z : ℕ). LeadsTo links z root) (p j jl) a) (subst (λ (z : ℕ). LeadsTo links z root) (q j jl) c);
    };
  }

  pending_at : {w values trail links lefts rights taken : Cells} {variables used n d x y x' y' : ℕ} {o : Outcome} → x ≡ x' → y ≡ y' → Pending N w values trail links lefts rights taken variables used n d x y o → Pending N w values trail links lefts rights taken variables used n d x' y' o
  pending_at {w} {values} {trail} {links} {lefts} {rights} {taken} {variables} {used} {n} {d} {x} {y} {x'} {y'} {o} p q h =
      subst (λ (z : ℕ). Pending N w values trail links lefts rights taken variables used n d z y' o) p (subst (λ (z : ℕ). Pending N w values trail links lefts rights taken variables used n d x z o) q h)

-- The measure by the stage.
pub less_stage : (N : ℕ) (links taken : Cells) (used d : ℕ) (pending : Bool) → pending ≡ true → measure N links taken used d false < measure N links taken used d pending
less_stage N links taken used d true e = omega arith
less_stage N links taken used d false e = true_false (sym (sym e)) refl

-- The start.
pub loop_start : {N : ℕ} {w : List ℕ} {b l m s : Rows} {variables used k r t : ℕ} → Form N w b variables used k → Reference N (cells w) variables used r → Reference N (cells w) variables used t
    → Free N used l → Free N used m → used ≤ length s → Empty s → Loop N w b l m s variables used k r t b l m s r t 0 k 0 true
loop_start {N} {w} {b} {l} {m} {s} {variables} {used} {k} f fr ft fl fm ls es = record {
  fixed = record { low = f.low; lent_words = f.lent_words; lent_rows = f.lent_rows; lent_links = fl.lent; lent_stack = ls; empty_stack = es; free = fm };
  binding = record { long = refl; unbound = f.unbound; rest = f.rest; more = le_refl k; kept = λ i l. refl; still = λ v n. refl; back = undone_none b k };
  linking = record { long = refl; entries = entries_none l (N + used) fl.empty; back = undone_zero l 0; falls = λ a z e. absurd (let q = fl.empty 0 a in omega arith) };
  stacking = record { long = refl; above = λ j p. refl; zero = λ j p. absurd (not-suc-le-zero p) };
  marks = refl;
  stage = first_state f.words (form_holds f) (λ a. fl.empty 0 a) fr ft;
}

module _ {N : ℕ} {w : List ℕ} {b₀ l₀ m₀ s₀ : Rows} {variables used k r t : ℕ} {b l m s : Rows} {x y d n c : ℕ} {pending : Bool}
    (h : Loop N w b₀ l₀ m₀ s₀ variables used k r t b l m s x y d n c pending) where
  pub loop_false : pending ≡ false → {b' l' m' s' : Rows} {d' n' c' : ℕ} → Loop N w b₀ l₀ m₀ s₀ variables used k r t b' l' m' s' x y d' n' c' false → Loop N w b₀ l₀ m₀ s₀ variables used k r t b' l' m' s' x y d' n' c' pending
  loop_false e {b'} {l'} {m'} {s'} {d'} {n'} {c'} g = subst (λ (z : Bool). Loop N w b₀ l₀ m₀ s₀ variables used k r t b' l' m' s' x y d' n' c' z) (sym e) g

  pub loop_free : Free N used m
  loop_free = subst (Free N used) (sym h.marks) h.fixed.free

  pub links_long : N + used ≤ length l
  links_long = let a = h.fixed.lent_links in let e = h.linking.long in omega arith

  -- A pair is to be made equal.
  module _ (e : pending ≡ true) where
    now : Pending N (cells w) (column 0 b) (column 1 b) (column 0 l) (column 0 s) (column 1 s) (column 2 s) variables used n d x y (whole N w b₀ variables k r t)
    now = subst (λ (z : Bool). Stage N w b l s variables used n d x y (whole N w b₀ variables k r t) z) e h.stage

    pub pending_form : Form N w b variables used n
    pending_form = form_made now.state.words now.state.holds h.fixed h.binding

    pub pending_references : Reference N (cells w) variables used x × Reference N (cells w) variables used y
    pending_references = (now.left_in, now.right_in)

    first_in : {p q : ℕ} → Ways N b x y p q → Reference N (cells w) variables used p
    first_in v = walks_ref now.state.words now.state.holds now.left_in v.first

    second_in : {p q : ℕ} → Ways N b x y p q → Reference N (cells w) variables used q
    second_in v = walks_ref now.state.words now.state.holds now.right_in v.second

    first_free : {p q : ℕ} → Ways N b x y p q → p < N → column 0 b p ≡ 0
    first_free v p = walks_end now.state.words now.state.holds v.first p

    second_free : {p q : ℕ} → Ways N b x y p q → q < N → column 0 b q ≡ 0
    second_free v p = walks_end now.state.words now.state.holds v.second p

    -- the occurs check is by the bindings held
    checked : (answer : Bool) (v z : ℕ) → occurs (held N w b n) v (denote N (cells w) z) ≡ answer → mem v (res now.β (denote N (cells w) z)) ≡ answer
    checked answer v z o = subst (λ (γ : Bindings). occurs γ v (denote N (cells w) z) ≡ answer) (sym now.state.holds.is) o

    module _ (m' : Rows) (em : m' ≡ m) where
      pub turn_same : Says N w b l n x y Same → Loop N w b₀ l₀ m₀ s₀ variables used k r t b l m' s x y d n c false
      turn_same a = record { fixed = h.fixed; binding = h.binding; linking = h.linking; stacking = h.stacking; marks = em ∙ h.marks; stage = go a }
        where
          go : Alike N w b l x y → Resuming N (cells w) (column 0 b) (column 1 b) (column 0 l) (column 0 s) (column 1 s) (column 2 s) variables used n d (whole N w b₀ variables k r t)
          go (met p v) = let (root, lead) = lead_is (column 0 l) h.linking.falls p p (le_refl p) in skip_linked now v.first v.second root lead lead
          go (constants p q v lp lq e z) = skip_constants now v.first v.second lp lq e z
          go (linked p q root v i j) = skip_linked now v.first v.second root i j

      pub turn_open : (p q : ℕ) → Says N w b l n x y (Open p q) → d < length s → length (get_or s d []) ≡ 3 → Loop N w b₀ l₀ m₀ s₀ variables used k r t b l m' (set s d (p ∷ q ∷ 0 ∷ [])) x y (d + 1) n c false
      turn_open p q a ds wide = record {
        fixed = h.fixed;
        binding = h.binding;
        linking = h.linking;
        marks = em ∙ h.marks;
        stacking = stacked_more h.stacking h.fixed.empty_stack _ wide;
        stage = let e₁ : d + 1 ≡ suc d = omega arith in rw e₁
            (open_pair now a.ways.first a.ways.second (column 0 s') (column 1 s') (column 2 s') (off 0) (off 1) (off 2)
            (column_same 0 s d _ ds) (column_same 1 s d _ ds) (column_same 2 s d _ ds) a.first_node a.second_node a.alike a.apart);
      }
        where
          s' : Rows
          s' = set s d (p ∷ q ∷ 0 ∷ [])

          off : (i j : ℕ) → j < d → column i s' j ≡ column i s j
          off i j jl = column_other i s d j _ (λ z. omega arith)

      pub turn_bind : (v z : ℕ) → Says N w b l n x y (Bind v z) → (b' : Rows) → Changed b b' n v (z + 1) → undone b' k (n + 1 - k) ≡ undone b k (n - k) → v < variables → column 0 b v ≡ 0
          → Loop N w b₀ l₀ m₀ s₀ variables used k r t b' l m' s x y d (n + 1) c false
      turn_bind v z a b' ch back vn vz = record {
        fixed = h.fixed;
        linking = h.linking;
        stacking = h.stacking;
        marks = em ∙ h.marks;
        binding = let g = h.binding in let mo = g.more in record {
          long = ch.long ∙ g.long;
          unbound = λ i l. ch.off i (λ q. omega arith) ∙ g.unbound i l;
          rest = λ i l. ch.others i (λ q. omega arith) ∙ g.rest i (omega arith);
          more = omega arith;
          kept = λ i l. ch.others i (λ q. omega arith) ∙ g.kept i l;
          still = λ i ne. ch.off i (λ q. ne (sym (g.still i ne) ∙ ap (column 0 b) q ∙ vz)) ∙ g.still i ne;
          back = back ∙ g.back;
        };
        stage = let e₁ : n + 1 ≡ suc n = omega arith in rw e₁ (go a ch.list (let e₂ : z + 1 ≡ suc z = omega arith in ch.at ∙ e₂) ch.off);
      }
        where
          low : (i : ℕ) → i < n → column 1 b' i ≡ column 1 b i
          low i il = ch.others i (λ q. omega arith)

          go : {v z : ℕ} → Binding N w b n x y v z → column 1 b' n ≡ v → column 0 b' v ≡ suc z → ((i : ℕ) → i ≢ v → column 0 b' i ≡ column 0 b i)
              → Resuming N (cells w) (column 0 b') (column 1 b') (column 0 l) (column 0 s) (column 1 s) (column 2 s) variables used (suc n) d (whole N w b₀ variables k r t)
          go {v} {z} (of_first ws lp ne o) tv bv bo = bind_first now ws.first ws.second (column 0 b') (column 1 b') low tv bv bo lp ne (checked false v z o)
          go {v} {z} (of_second ws lp lq o) tv bv bo = bind_second now ws.first ws.second (column 0 b') (column 1 b') low tv bv bo lp lq (checked false v z o)

    -- room for one more binding
    pub bind_in : (v z : ℕ) → Says N w b l n x y (Bind v z) → ((v < variables) × (column 0 b v ≡ 0)) × (n < variables) × (z < N + used)
    bind_in v z a = go a
      where
        room : {v z : ℕ} → v < variables → column 0 b v ≡ 0 → Reference N (cells w) variables used z → mem v (res now.β (denote N (cells w) z)) ≡ false → n < variables
        room {v} {z} l e rz o = trail_in (bindings_more now.state.words now.state.holds (put (column 0 b) v (suc z)) (put (column 1 b) n v) v z l e rz o
            (put_at (column 0 b) v (suc z)) (λ y ne. put_off (column 0 b) v (suc z) y ne) (put_at (column 1 b) n v) (λ i il. put_off (column 1 b) n v i (λ q. omega arith)))

        go : {v z : ℕ} → Binding N w b n x y v z → ((v < variables) × (column 0 b v ≡ 0)) × (n < variables) × (z < N + used)
        go {v} {z} (of_first ws lp ne o) = let i = first_in ws in let j = second_in ws in
            ((i.variable lp, first_free ws lp), room (i.variable lp) (first_free ws lp) j (checked false v z o), reference_low j)
        go {v} {z} (of_second ws lp lq o) = let i = first_in ws in let j = second_in ws in
            ((j.variable lq, second_free ws lq), room (j.variable lq) (second_free ws lq) i (checked false v z o), reference_low i)

    pub bind_room : (v z : ℕ) → Says N w b l n x y (Bind v z) → (n < length b) × (v < length b)
    bind_room v z a = let ((vn, vz), nn, zn) = bind_in v z a in let e = h.binding.long in let f = h.fixed.lent_rows in (omega arith, omega arith)

    -- a binding is entered
    pub turn_enter : (m' : Rows) → m' ≡ m → (v z : ℕ) → Says N w b l n x y (Bind v z) → (b' : Rows) → Entered b b' n v (z + 1) → Loop N w b₀ l₀ m₀ s₀ variables used k r t b' l m' s x y d (n + 1) c false
    turn_enter m' em v z a b' en =
        let ((vn, vz), nn, zn) = bind_in v z a in
        let (ln, lv) = bind_room v z a in
        turn_bind m' em v z a b' (enter_changed en ln lv) (enter_back en h.binding.more vz (h.binding.rest n (le_refl n))) vn vz

    -- room for one more open pair
    pub open_in : (p q : ℕ) → Says N w b l n x y (Open p q) → d < used
    open_in p q a = stack_in (open_pair now a.ways.first a.ways.second (put (column 0 s) d p) (put (column 1 s) d q) (put (column 2 s) d 0)
        (λ j jl. put_off (column 0 s) d p j (λ e. omega arith)) (λ j jl. put_off (column 1 s) d q j (λ e. omega arith)) (λ j jl. put_off (column 2 s) d 0 j (λ e. omega arith))
        (put_at (column 0 s) d p) (put_at (column 1 s) d q) (put_at (column 2 s) d 0) a.first_node a.second_node a.alike a.apart).state

    pub open_room : (p q : ℕ) → Says N w b l n x y (Open p q) → d < length s
    open_room p q a = let z = open_in p q a in let g = h.fixed.lent_stack in let f = h.stacking.long in omega arith

    pub less_open : (p q : ℕ) → Says N w b l n x y (Open p q) → measure N (column 0 l) (column 2 (set s d (p ∷ q ∷ 0 ∷ []))) used (d + 1) false < measure N (column 0 l) (column 2 s) used d pending
    less_open p q a = let e₁ : d + 1 ≡ suc d = omega arith in
        rw (e₁, e) (open_falls N (column 0 l) (column 2 s) (column 2 (set s d (p ∷ q ∷ 0 ∷ []))) used d (open_in p q a)
        (λ j jl. column_other 2 s d j _ (λ q. omega arith)) (column_same 2 s d _ (open_room p q a)))

    -- the terms do not unify
    clash : Clashing N w b n x y → whole N w b₀ variables k r t ≡ outcome false (held N w b n)
    clash (in_second p q v lp ne o) =
        ⊎_elim
        (λ lq. let wq : walk now.β (denote N (cells w) q) ≡ var q = walks now.state.words now.state.holds (second_in v) (free lq (second_free v lq)) ∙ denote_variable N (cells w) q lq in
        true_false (checked true p q o) (occurs_var now.β now.state.holds.acyclic p (denote N (cells w) q) q wq ∙ same_ne ne))
        (λ lq. occurs_in_second now v.first v.second lp lq (checked true p q o))
        (low_or_high q N)
    clash (in_first p q v lp lq o) = occurs_in_first now v.first v.second lp lq (checked true q p o)
    clash (heads p q v lp lq ne) = heads_differ now v.first v.second lp lq ne

    -- the stack is no deeper than it is long
    deep : d ≤ length s₀
    deep = let z = stack_in now.state in let g = h.fixed.lent_stack in omega arith

    pub turn_clash : (m' : Rows) → m' ≡ m → Says N w b l n x y Clash → Equated N w b₀ b l₀ l m₀ m' s₀ s variables used k r t false n c d
    turn_clash m' em a = record { is = clash a; form = pending_form; binding = h.binding; linking = h.linking; stacking = h.stacking; within = deep; marks = em ∙ h.marks }

  -- The last open pair goes on.
  module _ (e : pending ≡ false) where
    on : Resuming N (cells w) (column 0 b) (column 1 b) (column 0 l) (column 0 s) (column 1 s) (column 2 s) variables used n d (whole N w b₀ variables k r t)
    on = subst (λ (z : Bool). Stage N w b l s variables used n d x y (whole N w b₀ variables k r t) z) e h.stage

    pub turn_done : d ≡ 0 → Equated N w b₀ b l₀ l m₀ m s₀ s variables used k r t true n c d
    turn_done z = record {
      is = all_done (subst (λ (j : ℕ). Resuming N (cells w) (column 0 b) (column 1 b) (column 0 l) (column 0 s) (column 1 s) (column 2 s) variables used n j (whole N w b₀ variables k r t)) z on);
      form = form_made on.state.words on.state.holds h.fixed h.binding;
      binding = h.binding;
      linking = h.linking;
      stacking = h.stacking;
      within = omega arith;
      marks = h.marks;
    }

    module _ (z : d ≢ 0) where
      d_suc : d ≡ suc (d - 1)
      d_suc = not_zero d z

      on' : Resuming N (cells w) (column 0 b) (column 1 b) (column 0 l) (column 0 s) (column 1 s) (column 2 s) variables used n (suc (d - 1)) (whole N w b₀ variables k r t)
      on' = subst (λ (j : ℕ). Resuming N (cells w) (column 0 b) (column 1 b) (column 0 l) (column 0 s) (column 1 s) (column 2 s) variables used n j (whole N w b₀ variables k r t)) d_suc on

      last : OpenPair N (cells w) variables used (column 0 s (d - 1)) (column 1 s (d - 1)) (column 2 s (d - 1))
      last = (top on'.state.stack).pair

      pub deep_in : d ≤ length s
      deep_in = let q = stack_in on.state in let g = h.fixed.lent_stack in let f = h.stacking.long in omega arith

      module _ (a q i : ℕ) (ea : a ≡ column 0 s (d - 1)) (eq : q ≡ column 1 s (d - 1)) (ei : i ≡ column 2 s (d - 1)) where
        pub last_nodes : ((N ≤ a) × (N ≤ q)) × ((a < N + used) × (q < N + used))
        last_nodes = rw (ea, eq) ((last.left_node, last.right_node), (last.left_in.node last.left_node, last.right_in.node last.right_node))

        -- Both nodes lie with their arguments within the words in use.
        pub last_fits : (a - N + arity_of (cells w (a - N)) < used) × (q - N + arity_of (cells w (a - N)) < used)
        last_fits =
            let p = last_nodes in
            let left : headers ≤ cells w (a - N) = rw ea (last.left_in.header last.left_node) in
            let right : headers ≤ cells w (q - N) = rw eq (last.right_in.header last.right_node) in
            let same : cells w (a - N) ≡ cells w (q - N) = rw (ea, eq) last.alike in
            (on.state.words.fits (a - N) (omega arith) left, rw same (on.state.words.fits (q - N) (omega arith) right))

        pub last_taken : i < 33
        last_taken = let g = last.within in omega arith

        abbrev s⁺ : Rows
        s⁺ = set s (d - 1) (a ∷ q ∷ (i + 1) ∷ [])

        inside : d - 1 < length s
        inside = let g = deep_in in let f = d_suc in omega arith

        row0 : (j : ℕ) → column 0 s⁺ j ≡ column 0 s j
        row0 j = by_same j (d - 1) (λ p _. rw p (column_same 0 s (d - 1) _ inside ∙ ea)) (λ p _. column_other 0 s (d - 1) j _ p)

        row1 : (j : ℕ) → column 1 s⁺ j ≡ column 1 s j
        row1 j = by_same j (d - 1) (λ p _. rw p (column_same 1 s (d - 1) _ inside ∙ eq)) (λ p _. column_other 1 s (d - 1) j _ p)

        row2 : (j : ℕ) → j < d - 1 → column 2 s⁺ j ≡ column 2 s j
        row2 j l = column_other 2 s (d - 1) j _ (λ p. omega arith)

        row2' : column 2 s⁺ (d - 1) ≡ suc (column 2 s (d - 1))
        row2' = column_same 2 s (d - 1) _ inside ∙ (let g : i + 1 ≡ suc (column 2 s (d - 1)) = omega arith in g)

        pub turn_next : i < arity_of (cells w (a - N)) → Loop N w b₀ l₀ m₀ s₀ variables used k r t b l m (set s (d - 1) (a ∷ q ∷ (i + 1) ∷ [])) (cells w (suc (a - N) + i)) (cells w (suc (q - N) + i)) d n c true
        turn_next li = record {
          fixed = h.fixed;
          binding = h.binding;
          linking = h.linking;
          marks = h.marks;
          stacking = stacked_same h.stacking _ z;
          stage = let xe : cells w (suc (column 0 s (d - 1) - N) + column 2 s (d - 1)) ≡ cells w (suc (a - N) + i) = ap₂ (λ (p g : ℕ). cells w (suc (p - N) + g)) (sym ea) (sym ei) in
              let ye : cells w (suc (column 1 s (d - 1) - N) + column 2 s (d - 1)) ≡ cells w (suc (q - N) + i) = ap₂ (λ (p g : ℕ). cells w (suc (p - N) + g)) (sym eq) (sym ei) in
              pending_at xe ye (pending_same (λ j _. row0 j) (λ j _. row1 j) (subst (λ (j : ℕ). Pending N (cells w) (column 0 b) (column 1 b) (column 0 l) (column 0 s) (column 1 s) (column 2 s⁺) variables used n j
              (cells w (suc (column 0 s (d - 1) - N) + column 2 s (d - 1))) (cells w (suc (column 1 s (d - 1) - N) + column 2 s (d - 1))) (whole N w b₀ variables k r t)) (sym d_suc)
              (next_arguments on' (column 2 s⁺) row2 row2' (rw (ea, ei) at li))));
        }

        pub less_next : i < arity_of (cells w (a - N)) → measure N (column 0 l) (column 2 (set s (d - 1) (a ∷ q ∷ (i + 1) ∷ []))) used d true < measure N (column 0 l) (column 2 s) used d pending
        less_next li = rw e (subst (λ (j : ℕ). measure N (column 0 l) (column 2 s⁺) used j true < measure N (column 0 l) (column 2 s) used j false) (sym d_suc)
            (next_falls N (column 0 l) (column 2 s) (column 2 s⁺) used (d - 1) row2 row2' (omega arith)))

        -- room for one more link
        pub link_room : c < length l
        link_room =
            let ra : Reference N (cells w) variables used a = rw ea last.left_in in
            let (root, lead) = lead_is (column 0 l) h.linking.falls a a (le_refl a) in
            let ro = leads_ref on.state.links_in ra lead in
            let z = entries_room h.linking.entries root (reference_low ro) (leads_root lead) in
            let g = links_long in omega arith

        module _ (l' : Rows) (j : Joined l l' c a q) where
          jx : LeadsTo (column 0 l) (column 0 s (d - 1)) j.root_x
          jx = subst (λ (p : ℕ). LeadsTo (column 0 l) p j.root_x) ea j.leads_x

          jy : LeadsTo (column 0 l) (column 1 s (d - 1)) j.root_y
          jy = subst (λ (p : ℕ). LeadsTo (column 0 l) p j.root_y) eq j.leads_y

          differ : j.root_x ≢ j.root_y
          differ p = on.state.apart (d - 1) (let g = d_suc in omega arith) j.root_x jx (subst (λ (x : ℕ). LeadsTo (column 0 l) (column 1 s (d - 1)) x) (sym p) jy)

          root_x_in : Reference N (cells w) variables used j.root_x
          root_x_in = leads_ref on.state.links_in last.left_in jx

          root_y_in : Reference N (cells w) variables used j.root_y
          root_y_in = leads_ref on.state.links_in last.right_in jy

          -- what holds of both roots
          both : (G : ℕ → ℕ → Type 0) → G j.root_x j.root_y → G j.root_y j.root_x → G j.from j.to
          both G p q = ⊎_elim (λ r. subst (λ (x : ℕ). G x j.to) (sym r.0) (subst (λ (x : ℕ). G j.root_x x) (sym r.1) p))
              (λ r. subst (λ (x : ℕ). G x j.to) (sym r.0) (subst (λ (x : ℕ). G j.root_y x) (sym r.1) q)) j.either

          lower : j.to < j.from
          lower = ⊎_elim (λ p. absurd (differ p)) (λ p. p) j.falls

          zero_from : column 0 l j.from ≡ 0
          zero_from = both (λ x y. column 0 l x ≡ 0) (leads_root jx) (leads_root jy)

          from_in : j.from < N + used
          from_in = both (λ x y. x < N + used) (reference_low root_x_in) (reference_low root_y_in)

          changed : Changed l l' c j.from (suc j.to)
          changed = let g : j.to + 1 ≡ suc j.to = omega arith in
              subst (λ (v : ℕ). Changed l l' c j.from v) g (enter_changed j.entered link_room (let f = from_in in let g = links_long in omega arith))

          links_more : LinkedFrom (N + used) l₀ l' (c + 1)
          links_more = record {
            long = changed.long ∙ h.linking.long;
            entries = entries_more h.linking.entries j.from j.to from_in zero_from changed;
            back = let p : c + 1 - 0 ≡ c + 1 = omega arith in let p' : c - 0 ≡ c = omega arith in
                ap (undone l' 0) (sym p) ∙ enter_back {mark = 0} j.entered zero-le zero_from (h.linking.entries.rest c (le_refl c)) ∙ ap (undone l 0) p' ∙ h.linking.back;
            falls = λ p g f. by_same p j.from
                (λ pf _. let z₁ : suc j.to ≡ suc g = sym changed.at ∙ ap (column 0 l') (sym pf) ∙ f in let lo = lower in omega arith)
                (λ pf _. h.linking.falls p g (sym (changed.off p pf) ∙ f));
          }

          abbrev s⁻ : Rows
          s⁻ = set s (d - 1) (0 ∷ 0 ∷ 0 ∷ [])

          same_below : (i j : ℕ) → j < d - 1 → column i s⁻ j ≡ column i s j
          same_below i j p = column_other i s (d - 1) j _ (λ g. omega arith)

          pub turn_close : arity_of (cells w (a - N)) ≤ i → Loop N w b₀ l₀ m₀ s₀ variables used k r t b l' m (set s (d - 1) (0 ∷ 0 ∷ 0 ∷ [])) x y (d - 1) n (c + 1) false
          turn_close li =
              let li' : arity_of (cells w (column 0 s (d - 1) - N)) ≤ column 2 s (d - 1) = rw (ea, ei) at li in
              let eX : EqualUnder on'.β (denote N (cells w) (column 0 s (d - 1))) (denote N (cells w) j.root_x) = leads_eq N (cells w) on'.β on'.state.equal_links jx in
              let eY : EqualUnder on'.β (denote N (cells w) (column 0 s (d - 1))) (denote N (cells w) j.root_y) = λ σ so. equal on' li' σ so ∙ leads_eq N (cells w) on'.β on'.state.equal_links jy σ so in
              record {
                fixed = h.fixed;
                binding = h.binding;
                linking = links_more;
                marks = h.marks;
                stacking = stacked_less h.stacking z deep_in;
                stage = resuming_same (same_below 0) (same_below 1) (same_below 2)
                    (close_pair on' li' j.from j.to zero_from (both (λ x y. column 0 l y ≡ 0) (leads_root jy) (leads_root jx)) (λ p. let lo = lower in omega arith)
                    (both (λ x y. EqualUnder on'.β (denote N (cells w) (column 0 s (d - 1))) (denote N (cells w) x)) eX eY)
                    (both (λ x y. EqualUnder on'.β (denote N (cells w) (column 0 s (d - 1))) (denote N (cells w) y)) eY eX)
                    (both (λ x y. Reference N (cells w) variables used y) root_y_in root_x_in) (column 0 l') changed.at changed.off);
              }

          pub less_close : measure N (column 0 l') (column 2 (set s (d - 1) (0 ∷ 0 ∷ 0 ∷ []))) used (d - 1) pending < measure N (column 0 l) (column 2 s) used d pending
          less_close =
              let u = untaken_same (column 2 s) (column 2 s⁻) (d - 1) (same_below 2) in
              let f : measure N (column 0 l') (column 2 s) used (d - 1) false < measure N (column 0 l) (column 2 s) used (suc (d - 1)) false =
              close_falls N (column 0 l) (column 0 l') (column 2 s) used (d - 1) j.from j.to from_in zero_from changed.at changed.off in
              rw (e, u) (subst (λ (k : ℕ). measure N (column 0 l') (column 2 s) used (d - 1) false < measure N (column 0 l) (column 2 s) used k false) (sym d_suc) f)
