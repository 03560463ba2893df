-- Laws of the order of names: no name stands before itself, and the order is transitive; and of comparing two names.
use Prim.Native.Nat.{ℕ, ◌<◌}
use native.Mathlib.Omega.{arith}
use mathlib.Core.Path.{◌≡◌, refl, sym, ◌∙◌}
use mathlib.Core.Bool.{true, false}
use mathlib.Core.List.{[], ◌∷◌}
use borrow.Author.Tests.{lt-ltb, le-ltb, eq-eqb, ne_eqb}
use Rattle.terms.specs.Numbers.{by_less, true_false}
use Rattle.names.specs.Names.{Name}
use Rattle.distinct.specs.Order.{is_before, Ordered}
use Rattle.std.specs.declared.cmp.Ordering.{Ordering}
use Rattle.std.specs.declared.cmp.Ordering.TheVariants.{Less, Equal, Greater}
use Rattle.std.specs.Ordering.{nat_cmp, is_ge}
use Rattle.std.specs.Cmp.Lexicographic.{slice_cmp}

-- The first bytes differ, or are the same.
before_less : (x y : ℕ) (a b : Name) → x < y → is_before (x ∷ a) (y ∷ b) ≡ true
unfolding is_before
before_less x y a b l = rw (lt-ltb x y l)

before_same : (x y : ℕ) (a b : Name) → x ≡ y → is_before (x ∷ a) (y ∷ b) ≡ is_before a b
unfolding is_before
before_same x y a b e = rw (le-ltb x y (omega arith), le-ltb y x (omega arith))

before_not : (x y : ℕ) (a b : Name) → y < x → is_before (x ∷ a) (y ∷ b) ≡ false
unfolding is_before
before_not x y a b l = rw (le-ltb x y (omega arith), lt-ltb y x l)

by_first : {P : Type 0} (x y : ℕ) (a b : Name) → is_before (x ∷ a) (y ∷ b) ≡ true → (x < y → P) → (x ≡ y → is_before a b ≡ true → P) → P
by_first x y a b e f g =
    by_less x y (λ l _. f l)
    (λ m _. by_less y x (λ l _. true_false e (before_not x y a b l)) (λ l _. let q : x ≡ y = omega arith in g q (sym (before_same x y a b q) ∙ e)))

pub before_itself : (a : Name) → is_before a a ≡ false
unfolding is_before
before_itself [] = refl
before_itself (x ∷ a) = before_same x x a a refl ∙ before_itself a

pub before_trans : (a b c : Name) → is_before a b ≡ true → is_before b c ≡ true → is_before a c ≡ true
unfolding is_before
before_trans [] [] c p q = true_false p refl
before_trans [] (y ∷ b) [] p q = true_false q refl
before_trans [] (y ∷ b) (z ∷ c) p q = refl
before_trans (x ∷ a) [] c p q = true_false p refl
before_trans (x ∷ a) (y ∷ b) [] p q = true_false q refl
before_trans (x ∷ a) (y ∷ b) (z ∷ c) p q =
    by_first x y a b p
    (λ l. by_first y z b c q (λ m. before_less x z a c (omega arith)) (λ m _. before_less x z a c (omega arith)))
    (λ l r. by_first y z b c q (λ m. before_less x z a c (omega arith)) (λ m s. before_same x z a c (l ∙ m) ∙ before_trans a b c r s))

-- The three answers.
module _ {a b : Name} where
  pub is_before_lem : is_before a b ≡ true → Ordered Less a b
  is_before_lem h = record {
    before = λ _. h;
    same = λ e. absurd (let z : ◌≡◌ {A = ℕ} 0 1 = cc in omega arith);
    after = λ e. absurd (let z : ◌≡◌ {A = ℕ} 0 1 = cc in omega arith);
  }

  pub is_same : a ≡ b → Ordered Equal a b
  is_same h = record {
    before = λ e. absurd (let z : ◌≡◌ {A = ℕ} 0 1 = cc in omega arith);
    same = λ _. h;
    after = λ e. absurd (let z : ◌≡◌ {A = ℕ} 0 1 = cc in omega arith);
  }

  pub is_after : is_before b a ≡ true → Ordered Greater a b
  is_after h = record {
    before = λ e. absurd (let z : ◌≡◌ {A = ℕ} 0 1 = cc in omega arith);
    same = λ e. absurd (let z : ◌≡◌ {A = ℕ} 0 1 = cc in omega arith);
    after = λ _. h;
  }

ordered_cons : {r : Ordering} (x y : ℕ) (a b : Name) → x ≡ y → Ordered r a b → Ordered r (x ∷ a) (y ∷ b)
ordered_cons x y a b q h = record {
  before = λ e. before_same x y a b q ∙ h.before e;
  same = λ e. let t = h.same e in cc;
  after = λ e. before_same y x b a (sym q) ∙ h.after e;
}

-- How two names stand to each other, as std compares them.
pub compared : (a b : Name) → Ordered (slice_cmp nat_cmp a b) a b
unfolding is_before
compared [] [] = is_same refl
compared [] (y ∷ b) = is_before_lem refl
compared (x ∷ a) [] = is_after refl
compared (x ∷ a) (y ∷ b) =
    by_less x y
    (λ l _. rw (lt-ltb x y l) (is_before_lem (before_less x y a b l)))
    (λ m _. by_less y x
    (λ l _. rw (le-ltb x y m, ne_eqb x y (λ e. omega arith)) (is_after (before_less y x b a l)))
    (λ l _. let q : x ≡ y = omega arith in rw (le-ltb x y m, eq-eqb x y q) (ordered_cons x y a b q (compared a b))))

-- What does not stand at or behind stands before.
pub not_behind : (a b : Name) → is_ge (slice_cmp nat_cmp a b) ≡ false → is_before a b ≡ true
not_behind a b e = told (compared a b) e
  where
    told : {r : Ordering} → Ordered r a b → is_ge r ≡ false → is_before a b ≡ true
    told {r = Less} o e = o.before refl
    told {r = Equal} o e = true_false refl e
    told {r = Greater} o e = true_false refl e
