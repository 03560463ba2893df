-- What `unify` does after its loop: the stack cleared, the links undone, and without success the bindings undone.
use Rattle.std.specs.Prelude.{ℕ, zero, suc, ◌+◌, ◌-◌, ◌≤◌, ◌<◌, ◌≡◌, refl, Bool, true, false, List, [], ◌∷◌, ◌++◌, get_or, length, set, drop, replicate}
use Rattle.std.proofs.Common.{arith, not-suc-le-zero, le_refl, sym, ap, ◌∙◌, subst, length-set, length-append, length-drop, get_or-drop, get_or-set_same, get_or-set_other, ext_get_or}
use Rattle.std.proofs.Math.ListN.{get_or-append, length-replicate, get_or-replicate}
use Rattle.std.proofs.lemmas.List.{get_or-append_right}
use Rattle.terms.specs.Numbers.{true_false}
use Rattle.arena.specs.Rows.{Rows, column}
use Rattle.bindings.specs.Tables.{undone}
use Rattle.bindings.specs.Stored.{held, Form}
use Rattle.bindings.specs.Promises.{Undoable}
use Rattle.unifier.specs.Promises.{Unified, cleared}
use Rattle.bindings.specs.Orders.{by_order}
use Rattle.bindings.specs.TableLaws.{undone_none}
use Rattle.bindings.specs.Entries.{entries_undoable}
use Rattle.bindings.specs.Holding.{form_undoable}
use Rattle.unifier.specs.Equating.{StackedFrom, Equated, whole}

cleared_long : (s : Rows) (d : ℕ) → length (cleared s d) ≡ length s
unfolding cleared
cleared_long s zero = refl
cleared_long s (suc d) = cleared_long (set s d (0 ∷ 0 ∷ 0 ∷ [])) d ∙ length-set s d _

cleared_off : (s : Rows) (d j : ℕ) → d ≤ j → get_or (cleared s d) j [] ≡ get_or s j []
unfolding cleared
cleared_off s zero j l = refl
cleared_off s (suc d) j l = cleared_off (set s d (0 ∷ 0 ∷ 0 ∷ [])) d j (omega arith) ∙ get_or-set_other s d j _ [] (λ e. omega arith)

cleared_at : (s : Rows) (d j : ℕ) → d ≤ length s → j < d → get_or (cleared s d) j [] ≡ 0 ∷ 0 ∷ 0 ∷ []
unfolding cleared
cleared_at s zero j b l = absurd (not-suc-le-zero l)
cleared_at s (suc d) j b l = by_order j d
    (λ p. cleared_at (set s d (0 ∷ 0 ∷ 0 ∷ [])) d j (let e = length-set s d (0 ∷ 0 ∷ 0 ∷ []) in omega arith) p)
    (λ p. let e : j ≡ d = omega arith in cleared_off (set s d (0 ∷ 0 ∷ 0 ∷ [])) d j p ∙ ap (λ (i : ℕ). get_or (set s d (0 ∷ 0 ∷ 0 ∷ [])) i []) e ∙ get_or-set_same s d _ [] (omega arith))

-- The stack cleared is the stack at the start.
stack_back : {s₀ s : Rows} {d : ℕ} → StackedFrom s₀ s d → d ≤ length s₀ → cleared s d ≡ s₀
stack_back {s₀} {s} {d} h l = ext_get_or [] (cleared s d) s₀ (cleared_long s d ∙ h.long)
    (λ i _. by_order i d (λ p. cleared_at s d i (let e = h.long in omega arith) p ∙ sym (h.zero i p)) (λ p. cleared_off s d i p ∙ h.above i p))

-- A row of three numbers is those three.
pub triple_is : (row : List ℕ) → length row ≡ 3 → row ≡ get_or row 0 0 ∷ get_or row 1 0 ∷ get_or row 2 0 ∷ []
triple_is [] e = absurd (omega arith)
triple_is (x ∷ []) e = absurd (omega arith)
triple_is (x ∷ y ∷ []) e = absurd (omega arith)
triple_is (x ∷ y ∷ z ∷ []) e = refl
triple_is (x ∷ y ∷ z ∷ u ∷ l) e = absurd (omega arith)

-- Zero rows in place of the first d.
pub cleared_front : (s zeros : Rows) (d k : ℕ) → d ≤ length s → k ≡ d → zeros ≡ replicate k (0 ∷ 0 ∷ 0 ∷ []) → zeros ++ drop d s ≡ cleared s d
cleared_front s zeros d k l q e =
    let n : length zeros ≡ d = ap length e ∙ (length-replicate k _ ∙ q) in
    ext_get_or [] (zeros ++ drop d s) (cleared s d)
    (length-append zeros (drop d s) ∙ (let a = length-drop d s in let b = cleared_long s d in omega arith))
    (λ j _. by_order j d
    (λ p. get_or-append zeros (drop d s) [] j (omega arith) ∙ ap (λ (z : Rows). get_or z j []) e ∙ get_or-replicate k j _ [] (omega arith) ∙ sym (cleared_at s d j l p))
    (λ p. get_or-append_right zeros (drop d s) d j [] n p ∙ get_or-drop d s (j - d) [] ∙ ap (λ (i : ℕ). get_or s i []) (let g : d + (j - d) ≡ j = omega arith in g)
    ∙ sym (cleared_off s d j p)))

-- The first d rows cleared from the last to the first: those up to i are left.
pub record Clearing (s₀ : Rows) (d : ℕ) (s : Rows) (i : ℕ) : Type 0 where
  pub long : length s ≡ length s₀
  pub within : i ≤ length s₀
  pub is : cleared s i ≡ cleared s₀ d

pub clear_step : {s₀ s : Rows} {d i : ℕ} → Clearing s₀ d s i → 0 < i → Clearing s₀ d (set s (i - 1) (0 ∷ 0 ∷ 0 ∷ [])) (i - 1)
unfolding cleared
clear_step {s₀} {s} {d} {i} h l = let e : i ≡ suc (i - 1) = omega arith in let w = h.within in record {
  long = length-set s (i - 1) _ ∙ h.long;
  within = omega arith;
  is = sym (ap (cleared s) e) ∙ h.is;
}

pub clear_end : {s₀ s : Rows} {d i : ℕ} → Clearing s₀ d s i → i ≤ 0 → s ≡ cleared s₀ d
unfolding cleared
clear_end {s₀} {s} {d} {i} h l = let e : i ≡ 0 = omega arith in sym (ap (cleared s) e) ∙ h.is

module _ {N : ℕ} {w : List ℕ} {b₀ b l₀ l m₀ m s₀ s : Rows} {variables used k r t : ℕ} {answer : Bool} {n c d : ℕ} (h : Equated N w b₀ b l₀ l m₀ m s₀ s variables used k r t answer n c d) where
  pub links_undoable : N + used ≤ length l₀ → Undoable l c 0
  links_undoable g = entries_undoable h.linking.entries (let e = h.linking.long in omega arith)

  pub bindings_undoable : Undoable b n k
  bindings_undoable = form_undoable h.form h.binding.more

  pub stack_within : d ≤ length s
  stack_within = let a = h.within in let e = h.stacking.long in omega arith

  module _ (l' s' : Rows) (el : l' ≡ undone l 0 (c - 0)) (es : s' ≡ cleared s d) where
    links_back : l' ≡ l₀
    links_back = let e : c - 0 ≡ c = omega arith in el ∙ ap (undone l 0) e ∙ h.linking.back

    pub ended_yes : answer ≡ true → Unified N w b₀ b l₀ l' m₀ m s₀ s' variables used k n r t true
    ended_yes e = record {
      is = subst (λ (a : Bool). whole N w b₀ variables k r t ≡ Rattle.unifier.specs.Promises.outcome a (held N w b n)) e h.is;
      form = h.form;
      more = h.binding.more;
      kept = h.binding.kept;
      still = h.binding.still;
      back = h.binding.back;
      failed = λ f. true_false refl f;
      links = links_back;
      marks = h.marks;
      stack = es ∙ stack_back h.stacking h.within;
    }

    pub ended_no : answer ≡ false → Form N w b₀ variables used k → (b' : Rows) → b' ≡ undone b k (n - k) → Unified N w b₀ b' l₀ l' m₀ m s₀ s' variables used k k r t false
    ended_no e f b' eb = let g : b' ≡ b₀ = eb ∙ h.binding.back in record {
      is = subst (λ (a : Bool). whole N w b₀ variables k r t ≡ Rattle.unifier.specs.Promises.outcome a (held N w b n)) e h.is;
      form = subst (λ (x : Rows). Form N w x variables used k) (sym g) f;
      more = le_refl k;
      kept = λ i l. ap (λ (x : Rows). column 1 x i) g;
      still = λ v n. ap (λ (x : Rows). column 0 x v) g;
      back = undone_none b' k ∙ g;
      failed = λ _. (g, refl);
      links = links_back;
      marks = h.marks;
      stack = es ∙ stack_back h.stacking h.within;
    }
