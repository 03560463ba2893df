-- Linking two references: the loop's invariant, its step, and its ways out.
use Prim.Native.Nat.{ℕ, suc, ◌+◌, ◌-◌, ◌≤◌, ◌<◌}
use Rattle.std.proofs.Common.{min, max}
use Rattle.std.proofs.Math.Nat.{min-eq_left, min-eq_right, max-eq_left, max-eq_right, min-le_left, min-le_right}
use native.Mathlib.Omega.{arith}
use mathlib.Core.Path.{◌≡◌, refl, sym, ap, ◌∙◌, subst}
use mathlib.Core.Bool.{Bool, true, false}
use mathlib.Core.Logic.{◌≢◌}
use mathlib.Core.List.{List}
use lib.ListN.{length, set, length-set}
use lib.Seq.{get_or-set_same, get_or-set_other}
use borrow.Author.Count.{below_more}
use Rattle.terms.specs.Numbers.{by_less, by_same, true_false}
use Rattle.terms.specs.Term.{Term}
use Rattle.arena.specs.Cells.{cells}
use Rattle.arena.specs.Links.{Descending, Agrees, Each, Joined, Linkable, Arguments}

-- The lesser is one of the two; likewise the greater.
pub least_is : (P : ℕ → Type 0) (a b : ℕ) → (a < b → P a) → (b ≤ a → P b) → P (min a b)
least_is P a b f g = by_less a b (λ l _. let k : a ≤ b = omega arith in rw (min-eq_left k) (f l)) (λ l _. rw (min-eq_right l) (g l))

pub ordered : (P : ℕ → ℕ → Type 0) (a b : ℕ) → (a < b → P b a) → (b ≤ a → P a b) → P (max a b) (min a b)
ordered P a b f g = by_less a b
    (λ l _. let k : a ≤ b = omega arith in rw (max-eq_right k, min-eq_left k) (f l))
    (λ l _. rw (max-eq_left l, min-eq_right l) (g l))

-- A link after one was set.
pub set_other : (L : List ℕ) (h v i : ℕ) → i ≢ h → cells (set L h v) i ≡ cells L i
set_other L h v i n = get_or-set_other L h i v 0 n

pub set_here : (L : List ℕ) (h v : ℕ) → h < length L → cells (set L h v) h ≡ v
set_here L h v l = get_or-set_same L h v 0 l

pub set_link : (L : List ℕ) (h y i z : ℕ) {P : Type 0} → h < length L → cells (set L h (y + 1)) i ≡ suc z → (i ≡ h → y ≡ z → P) → (i ≢ h → cells L i ≡ suc z → P) → P
set_link L h y i z l e f g =
    by_same i h
    (λ q _. let c = set_here L h (y + 1) l in let e' : cells (set L h (y + 1)) h ≡ suc z = rw q at e in f q (omega arith))
    (λ n _. g n (sym (set_other L h (y + 1) i n) ∙ e))

module _ (room : ℕ) (L₀ : List ℕ) (a b : ℕ) where
  -- p and q have to be the same, by the links L, exactly where a and b have to be, by the first links.
  pub record Linking (L : List ℕ) (p q : ℕ) : Type 0 where
    pub long : length L ≡ length L₀
    pub form : Descending room (cells L)
    pub bound : (t : ℕ) → a < t → b < t → (p < t) × (q < t)
    pub above : (t : ℕ) → a < t → b < t → (i : ℕ) → t ≤ room + i → cells L i ≡ cells L₀ i
    pub floor : (l : ℕ) → ((i : ℕ) → i < l → cells L₀ i ≡ 0) → (i : ℕ) → i < l → cells L i ≡ 0
    pub good : (test : ℕ → Bool) → Each room test (cells L₀) → test a ≡ true → test b ≡ true → Each room test (cells L) × (test p ≡ true) × (test q ≡ true)
    pub back : (g : ℕ → Term) → Agrees room g (cells L) → g p ≡ g q → Agrees room g (cells L₀) × (g a ≡ g b)
    pub forth : (g : ℕ → Term) → Agrees room g (cells L₀) → g a ≡ g b → Agrees room g (cells L) × (g p ≡ g q)

  pub link_swap : (L : List ℕ) (p q : ℕ) → Linking L p q → Linking L q p
  link_swap L p q h = record {
    long = h.long;
    form = h.form;
    bound = λ t u v. let k = h.bound t u v in (k.1, k.0);
    above = h.above;
    floor = h.floor;
    good = λ test e u v. let k = h.good test e u v in (k.0, k.2, k.1);
    back = λ g u v. h.back g u (sym v);
    forth = λ g u v. let k = h.forth g u v in (k.0, sym k.1);
  }

  -- The greater and the lesser of the two.
  pub link_order : (L : List ℕ) (p q x y : ℕ) → Linking L p q → (p ≡ q → ⊥) → x ≡ max p q → y ≡ min p q → Linking L x y × (y < x)
  link_order L p q x y h n d e = rw (d, e) (ordered (λ x y. Linking L x y × (y < x)) p q (λ l. (link_swap L p q h, l)) (λ l. (h, (let k : q ≢ p = (λ e. n (sym e)) in omega arith))))

  pub link_in : (L : List ℕ) (p q : ℕ) → Linking L p q → Linkable room L₀ a b → p < room + length L
  link_in L p q h k = let t = h.bound (room + length L₀) k.left k.right in let l = h.long in omega arith

  -- Ways out.
  pub link_same : (L : List ℕ) (p q low : ℕ) → Linking L p q → p ≡ q → Joined room L₀ L 1 (λ _. a) (λ _. b) low low true
  link_same L p q low h e = record {
    long = h.long;
    form = h.form;
    above = λ t k. h.above t (k 0 (omega arith)).0 (k 0 (omega arith)).1;
    floor = h.floor low;
    good = λ test u k. (h.good test u (k 0 (omega arith)).0 (k 0 (omega arith)).1).0;
    back = λ _ g u. let k = h.back g u (ap g e) in (k.0, λ i l. k.1);
    forth = λ _ g u k. (h.forth g u (k 0 (omega arith))).0;
    no = λ f. true_false refl f;
  }

  pub link_clash : (L : List ℕ) (p q low : ℕ) → Linking L p q → q < p → q < room → Joined room L₀ L 1 (λ _. a) (λ _. b) low low false
  link_clash L p q low h l m = record {
    long = h.long;
    form = h.form;
    above = λ t k. h.above t (k 0 (omega arith)).0 (k 0 (omega arith)).1;
    floor = h.floor low;
    good = λ test u k. (h.good test u (k 0 (omega arith)).0 (k 0 (omega arith)).1).0;
    back = λ f. true_false f refl;
    forth = λ f. true_false f refl;
    no = λ _ g s u k. s p q m l (h.forth g u (k 0 (omega arith))).1;
  }

  pub link_new : (L : List ℕ) (p q low low' : ℕ) → Linking L p q → q < p → room ≤ q → p < room + length L → cells L (p - room) ≡ 0 → low' ≡ min low (p - room)
      → Joined room L₀ (set L (p - room) (q + 1)) 1 (λ _. a) (λ _. b) low low' true
  link_new L p q low low' h l m s z small =
      let j : room + (p - room) ≡ p = omega arith in
      let s' : p - room < length L = omega arith in
      record {
        long = length-set L (p - room) (q + 1) ∙ h.long;
        form = record {
          node = λ i y e. set_link L (p - room) q i y s' e (λ u v. omega arith) (λ u v. h.form.node i y v);
          below = λ i y e. set_link L (p - room) q i y s' e (λ u v. omega arith) (λ u v. h.form.below i y v);
        };
        above = λ t k i u. let v = h.bound t (k 0 (omega arith)).0 (k 0 (omega arith)).1 in
            set_other L (p - room) (q + 1) i (λ e. omega arith) ∙ h.above t (k 0 (omega arith)).0 (k 0 (omega arith)).1 i u;
        floor = λ k i u. let d = min-le_left low (p - room) in let e = min-le_right low (p - room) in
            set_other L (p - room) (q + 1) i (λ c. omega arith) ∙ h.floor low k i (omega arith);
        good = λ test u k. let v = h.good test u (k 0 (omega arith)).0 (k 0 (omega arith)).1 in
            λ i y e. set_link L (p - room) q i y s' e (λ c d. (rw (c, j) v.1, rw d at v.2)) (λ c d. v.0 i y d);
        back = λ _ g u. let here : g p ≡ g q = rw j at (u (p - room) q (set_here L (p - room) (q + 1) s' ∙ (let e : q + 1 ≡ suc q = omega arith in e))) in
            let old : Agrees room g (cells L) = (λ i y e. by_same i (p - room)
            (λ c _. let e' : cells L (p - room) ≡ suc y = rw c at e in let x : ⊥ = omega arith in absurd x)
            (λ n _. u i y (set_other L (p - room) (q + 1) i n ∙ e))) in
            let k = h.back g old here in (k.0, λ i l. k.1);
        forth = λ _ g u k. let v = h.forth g u (k 0 (omega arith)) in
            λ i y e. set_link L (p - room) q i y s' e (λ c d. rw (c, j, ← d) v.1) (λ c d. v.0 i y d);
        no = λ f. true_false refl f;
      }

  -- The step: the link of the greater leads on, and is shortened where the lesser is below.
  pub link_next : (L : List ℕ) (p q y : ℕ) → Linking L p q → q < p → room ≤ q → p < room + length L → cells L (p - room) ≡ suc y
      → Linking (set L (p - room) (min q y + 1)) y q
  link_next L p q y h l m s z =
      let j : room + (p - room) ≡ p = omega arith in
      let s' : p - room < length L = omega arith in
      let n₀ = h.form.node (p - room) y z in
      let b₀ = h.form.below (p - room) y z in
      let low : room ≤ min q y = least_is (λ x. room ≤ x) q y (λ _. m) (λ _. n₀) in
      let under : min q y < p = least_is (λ x. x < p) q y (λ _. l) (λ _. omega arith) in
      record {
        long = length-set L (p - room) (min q y + 1) ∙ h.long;
        form = record {
          node = λ i x e. set_link L (p - room) (min q y) i x s' e (λ u v. omega arith) (λ u v. h.form.node i x v);
          below = λ i x e. set_link L (p - room) (min q y) i x s' e (λ u v. omega arith) (λ u v. h.form.below i x v);
        };
        bound = λ t u v. let k = h.bound t u v in (omega arith, k.1);
        above = λ t u v i w. let k = h.bound t u v in set_other L (p - room) (min q y + 1) i (λ e. omega arith) ∙ h.above t u v i w;
        floor = λ t k i u. let c = h.floor t k in set_other L (p - room) (min q y + 1) i (λ e. let x : cells L (p - room) ≡ 0 = rw e at (c i u) in omega arith) ∙ c i u;
        good = λ test e u v. let k = h.good test e u v in
            let ky = k.0 (p - room) y z in
            let kl : test (min q y) ≡ true = least_is (λ x. test x ≡ true) q y (λ _. k.2) (λ _. ky.1) in
            ((λ i x d. set_link L (p - room) (min q y) i x s' d (λ c f. (rw (c, j) k.1, rw f at kl)) (λ c f. k.0 i x f)), ky.1, k.2);
        back = λ g u e.
            let to : g p ≡ g (min q y) = rw j at (u (p - room) (min q y) (set_here L (p - room) (min q y + 1) s' ∙ (let d : min q y + 1 ≡ suc (min q y) = omega arith in d))) in
            let at_y : g (min q y) ≡ g y = least_is (λ x. g x ≡ g y) q y (λ _. sym e) (λ _. refl) in
            let old : Agrees room g (cells L) = (λ i x d. by_same i (p - room)
            (λ c _. let d' : cells L (p - room) ≡ suc x = rw c at d in let f : y ≡ x = omega arith in rw (c, j, ← f) (to ∙ at_y))
            (λ n _. u i x (set_other L (p - room) (min q y + 1) i n ∙ d))) in
            h.back g old (to ∙ at_y ∙ e);
        forth = λ g u e.
            let k = h.forth g u e in
            let at_y : g p ≡ g y = rw j at (k.0 (p - room) y z) in
            let to : g p ≡ g (min q y) = least_is (λ x. g p ≡ g x) q y (λ _. k.1) (λ _. at_y) in
            ((λ i x d. set_link L (p - room) (min q y) i x s' d (λ c f. rw (c, j, ← f) to) (λ c f. k.0 i x f)), sym at_y ∙ k.1);
      }

  pub link_step : (L : List ℕ) (p q y v : ℕ) → Linking L p q → q < p → room ≤ q → p < room + length L → cells L (p - room) ≡ suc y → v ≡ min q y
      → Linking (set L (p - room) (v + 1)) y q
  link_step L p q y v h l m s z e = rw e (link_next L p q y h l m s z)

pub link_start : (room : ℕ) (L : List ℕ) (a b : ℕ) → Descending room (cells L) → Linking room L a b L a b
link_start room L a b f = record
    { long = refl; form = f; bound = λ t u v. (u, v); above = λ t u v i w. refl; floor = λ l k. k; good = λ test e u v. (e, u, v); back = λ g u e. (u, e); forth = λ g u e. (u, e) }

-- Pairs one after another.
module _ (room : ℕ) (L₀ : List ℕ) (x y : ℕ → ℕ) where
  pub joined_none : (low : ℕ) → Descending room (cells L₀) → Joined room L₀ L₀ 0 x y low low true
  joined_none low f = record {
    long = refl;
    form = f;
    above = λ t k i u. refl;
    floor = λ k. k;
    good = λ test e k. e;
    back = λ _ g u. (u, λ i l. let z : ⊥ = omega arith in absurd z);
    forth = λ _ g u k. u;
    no = λ e. true_false refl e;
  }

  pub joined_more : (L L' : List ℕ) (n low low₁ low₂ : ℕ) (r : Bool) → Joined room L₀ L n x y low low₁ true → Joined room L L' 1 (λ _. x n) (λ _. y n) low₁ low₂ r
      → Joined room L₀ L' (n + 1) x y low low₂ r
  joined_more L L' n low low₁ low₂ r h k = record {
    long = k.long ∙ h.long;
    form = k.form;
    above = λ t b i u. k.above t (λ _ _. b n (omega arith)) i u ∙ h.above t (λ i l. b i (omega arith)) i u;
    floor = λ u. k.floor (h.floor u);
    good = λ test e b. k.good test (h.good test e (λ i l. b i (omega arith))) (λ _ _. b n (omega arith));
    back = λ a g u. let v = k.back a g u in let w = h.back refl g v.0 in
        (w.0, below_more (λ i. g (x i) ≡ g (y i)) n w.1 (v.1 0 (omega arith)));
    forth = λ a g u b. k.forth a g (h.forth refl g u (λ i l. b i (omega arith))) (λ _ _. b n (omega arith));
    no = λ a g s u b. k.no a g s (h.forth refl g u (λ i l. b i (omega arith))) (λ _ _. b n (omega arith));
  }

  -- Where some of the pairs cannot hold, all cannot.
  pub joined_stop : (L : List ℕ) (n m low low' : ℕ) → n ≤ m → Joined room L₀ L n x y low low' false → Joined room L₀ L m x y low low' false
  joined_stop L n m low low' l h = record {
    long = h.long;
    form = h.form;
    above = λ t b. h.above t (λ i k. b i (omega arith));
    floor = h.floor;
    good = λ test e b. h.good test e (λ i k. b i (omega arith));
    back = λ a. true_false a refl;
    forth = λ a. true_false a refl;
    no = λ a g s u b. h.no a g s u (λ i k. b i (omega arith));
  }

  -- Pairs of the same references are linked alike.
  pub joined_same : (x' y' : ℕ → ℕ) (L : List ℕ) (n low low' : ℕ) (r : Bool) → ((i : ℕ) → i < n → x i ≡ x' i) → ((i : ℕ) → i < n → y i ≡ y' i)
      → Joined room L₀ L n x y low low' r → Joined room L₀ L n x' y' low low' r
  joined_same x' y' L n low low' r p q h = record {
    long = h.long;
    form = h.form;
    above = λ t b. h.above t (λ i k. rw (p i k, q i k) (b i k));
    floor = h.floor;
    good = λ test e b. h.good test e (λ i k. rw (p i k, q i k) (b i k));
    back = λ a g u. let v = h.back a g u in (v.0, λ i k. rw (p i k, q i k) at (v.1 i k));
    forth = λ a g u b. h.forth a g u (λ i k. rw (p i k, q i k) (b i k));
    no = λ a g s u b. h.no a g s u (λ i k. rw (p i k, q i k) (b i k));
  }

-- The arguments of two nodes, one pair after another.
module _ (room : ℕ) (left right L₀ : List ℕ) (low : ℕ) where
  abbrev pub Pairs : List ℕ → ℕ → ℕ → Bool → Type 0
  Pairs L n low' r = Joined room L₀ L n (cells left) (cells right) low low' r

  pub pair_linkable : (L : List ℕ) (i low' : ℕ) (r : Bool) → Arguments room left right L₀ → Pairs L i low' r → i < length left
      → Linkable room L (cells left i) (cells right i)
  pair_linkable L i low' r k h l =
      let n = h.long in
      let p = k.lefts i l in
      let q = k.rights i l in
      record { form = h.form; left = omega arith; right = omega arith }

  module _ (L L' : List ℕ) (i low₁ low₂ : ℕ) (r : Bool) (h : Pairs L i low₁ true) (k : Joined room L L' 1 (λ _. cells left i) (λ _. cells right i) low₁ low₂ r) where
    pair_next : Pairs L' (i + 1) low₂ r
    pair_next = joined_more room L₀ (cells left) (cells right) L L' i low low₁ low₂ r h k

    pub pair_linked : r ≡ true → Pairs L' (i + 1) low₂ true
    pair_linked e = subst (λ r. Pairs L' (i + 1) low₂ r) e pair_next

    pub pair_stop : i < length left → r ≡ false → Pairs L' (length left) low₂ r
    pair_stop l e =
        subst (λ r. Pairs L' (length left) low₂ r) (sym e)
        (joined_stop room L₀ (cells left) (cells right) L' (i + 1) (length left) low low₂ (omega arith) (subst (λ r. Pairs L' (i + 1) low₂ r) e pair_next))
