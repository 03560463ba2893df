-- Laws of tables of places: a table for no variables, one variable met, and which variables were met in the order of their numbers.
use Rattle.std.specs.Prelude.{ℕ, zero, suc, ◌+◌, ◌≤◌, ◌<◌, ◌≡◌, refl, ◌≢◌, Bool, true, false, ◌||◌, cond, Option, Some, None, List, [], ◌∷◌, ◌++◌, get_or, length, replicate, zip}
use Rattle.std.specs.List.{list_all, range_with_len}
use Rattle.std.proofs.Common.{arith, not-suc-le-zero, sym, ap, ◌∙◌, length-set, length-append, get_or-set_same, get_or-set_other, ext_get_or}
use Rattle.std.proofs.lemmas.Bool.{eqb-true, eq-eqb}
use Rattle.std.proofs.Math.ListN.{get_or-append}
use Rattle.std.proofs.Math.Seq.{get_or-append_seam}
use mathlib.Core.Logic.{∥∥₁_elim}
use Rattle.terms.specs.Numbers.{same, by_bool, true_false, same_refl, same_true, same_ne, by_same, by_less, or_false}
use Rattle.terms.specs.Term.{Kind, Syn, var, app, nil, cons, Below}
use Rattle.arena.specs.Copies.{pattern_room}
use Rattle.resolution.specs.Fresh.{elem, met, place}
use Rattle.resolution.specs.FreshLaws.{Grows}
use Rattle.resolution.proofs.FreshLaws.{covers_grows, elem_last, place_append, place_lt, at_place}
use Rattle.meeting.specs.Places.{Variables, Placed, Records, Given, Known, is_place, in_order, place_numbers, numbers_below}

some_none : {p : ℕ} → Some p ≡ None → ⊥
some_none q = let z : ◌≡◌ {A = ℕ} 0 1 = cc in omega arith

pub some_one : {p q : ℕ} → Some p ≡ Some q → p ≡ q
some_one h = cc

-- A table in which no variable has a place.
pub records_none : (table : List (Option ℕ)) → ((x : ℕ) → x < pattern_room → get_or table x None ≡ None) → Records [] table 0
records_none table h = record { variables = tt; placed = h; counted = refl }

none_at : (n x : ℕ) → get_or {A = Option ℕ} (replicate n None) x None ≡ None
none_at zero x = refl
none_at (suc n) zero = refl
none_at (suc n) (suc x) = none_at n x

pub records_new : Records [] (replicate 64 None) 0
records_new = records_none (replicate 64 None) (λ x l. none_at 64 x)

-- Another variable behind a list.
elem_other : (y x : ℕ) (e : List ℕ) → y ≢ x → elem y (e ++ (x ∷ [])) ≡ elem y e
elem_other y x [] n = rw (same_ne n)
elem_other y x (z ∷ e) n = ap (λ (b : Bool). same y z || b) (elem_other y x e n)

place_last : (x : ℕ) (e : List ℕ) → elem x e ≡ false → place (e ++ (x ∷ [])) x ≡ length e
place_last x [] h = rw (same_refl x)
place_last x (y ∷ e) h = let (p, q) = or_false (same x y) (elem x e) h in rw p (ap suc (place_last x e q))

variables_last : (x : ℕ) (e : List ℕ) → x < pattern_room → elem x e ≡ false → Variables e → Variables (e ++ (x ∷ []))
variables_last x [] l h v = (l, refl, tt)
variables_last x (y ∷ e) l h v =
    let (p, q) = or_false (same x y) (elem x e) h in
    (v.0, elem_other y x e (λ d. true_false (rw d (same_refl x)) p) ∙ v.1, variables_last x e l q v.2)

-- Meeting a term makes no variable stand twice.
pub met_variables : {s : Kind} (t : Syn s) (e : List ℕ) → Below pattern_room t → Variables e → Variables (met t e)
met_variables (var x) e b v = by_bool (elem x e) (λ p. rw p v) (λ p. rw p (variables_last x e b p v))
met_variables (app f ts) e b v = met_variables ts e b v
met_variables nil e b v = v
met_variables (cons t ts) e b v = met_variables ts (met t e) b.1 (met_variables t e b.0 v)

-- How many numbers below n are in the list.
among : List ℕ → ℕ → ℕ
among e zero = 0
among e (suc n) = cond (elem n e) 1 0 + among e n

among_most : (e : List ℕ) (n : ℕ) → among e n ≤ n
unfolding among
among_most e zero = omega arith
among_most e (suc n) = let h = among_most e n in by_bool (elem n e) (λ p. rw p (omega arith)) (λ p. rw p (omega arith))

among_none : (n : ℕ) → among [] n ≡ 0
unfolding among
among_none zero = refl
among_none (suc n) = let h = among_none n in omega arith

among_below : (x : ℕ) (e : List ℕ) (n : ℕ) → n ≤ x → among (x ∷ e) n ≡ among e n
unfolding among
among_below x e zero l = refl
among_below x e (suc n) l = let h = among_below x e n (omega arith) in rw (same_ne {x = n} {y = x} (λ q. omega arith)) (omega arith)

among_more : (x : ℕ) (e : List ℕ) (n : ℕ) → x < n → elem x e ≡ false → among (x ∷ e) n ≡ suc (among e n)
unfolding among
among_more x e zero l h = absurd (not-suc-le-zero l)
among_more x e (suc n) l h = by_same n x
    (λ q p. let b = among_below x e n (omega arith) in let h' : elem n e ≡ false = rw q h in rw (p, h') (omega arith))
    (λ q p. let b = among_more x e n (by_less x n (λ k r. k) (λ k r. absurd (q (omega arith)))) h in rw p (omega arith))

among_all : (e : List ℕ) → Variables e → among e pattern_room ≡ length e
among_all [] v = among_none pattern_room
among_all (x ∷ e) v = among_more x e pattern_room v.0 v.1 ∙ ap suc (among_all e v.2)

-- There are no more variables than there is room for.
pub variables_few : (e : List ℕ) → Variables e → length e ≤ pattern_room
variables_few e v = let a = among_all e v in let b = among_most e pattern_room in omega arith

-- So the count of a table is no more than that.
pub known_few : {table : List (Option ℕ)} {count : ℕ} → Known table count → count ≤ pattern_room
known_few {count = count} k = by_less pattern_room count
    (λ l e. absurd (∥∥₁_elim k (λ x y. absurd x) (λ p. let f = variables_few p.0 p.1.variables in let c = p.1.counted in let z : ⊥ = omega arith in z)))
    (λ l e. l)

-- A variable that was met has its place in the table.
pub placed_yes : (e : List ℕ) (table : List (Option ℕ)) (x : ℕ) → Placed e table → x < pattern_room → elem x e ≡ true → get_or table x None ≡ Some (place e x)
placed_yes e table x h l p = h x l ∙ rw p

pub placed_no : (e : List ℕ) (table : List (Option ℕ)) (x : ℕ) → Placed e table → x < pattern_room → elem x e ≡ false → get_or table x None ≡ None
placed_no e table x h l p = h x l ∙ rw p

-- A variable in the list has room.
variables_small : (x : ℕ) (e : List ℕ) → Variables e → elem x e ≡ true → x < pattern_room
variables_small x [] v p = true_false p refl
variables_small x (y ∷ e) v p = by_bool (same x y) (λ q. let d = same_true q in let l = v.0 in omega arith) (λ q. variables_small x e v.2 (rw q at p))

-- Places given once stay: those of the first variables met are below their number.
pub records_earlier : (e : List ℕ) {e' : List ℕ} {table : List (Option ℕ)} {count : ℕ} → Records e' table count → Grows e e' → (x : ℕ) → elem x e ≡ true
    → (get_or table x None ≡ Some (place e x)) × (place e x < length e)
records_earlier e {e'} {table} h g x p =
    let p' : elem x e' ≡ true = covers_grows (var x) e e' g p in
    let at : get_or table x None ≡ Some (place e x) = placed_yes e' table x h.placed (variables_small x e' h.variables p') p'
    ∙ ap Some (ap (λ (l : List ℕ). place l x) g.1 ∙ place_append x e g.0 p) in
    (at, place_lt x e p)

-- Meeting one variable: the table keeps its length,
pub given_kept : {table : List (Option ℕ)} {x count count' : ℕ} {table' : List (Option ℕ)} → Given table x count count' table' → length table' ≡ length table
given_kept {table} {x} {count} {table' = table'} g = go (get_or table x None) refl
  where
    go : (p : Option ℕ) → get_or table x None ≡ p → length table' ≡ length table
    go None e = ap length (g.new e).1 ∙ length-set table x (Some count)
    go (Some q) e = ap length (g.old (λ n. some_none (sym e ∙ n))).1

-- and it is one of the variables met.
pub records_met : (e : List ℕ) (table : List (Option ℕ)) (x count count' : ℕ) (table' : List (Option ℕ)) → x < pattern_room → pattern_room ≤ length table → Records e table count
    → Given table x count count' table' → Records (met (var x) e) table' count'
records_met e table x count count' table' l long h g = by_bool (elem x e)
    (λ p. let at = placed_yes e table x h.placed l p in
    let (c, d) = g.old (λ q. some_none (sym at ∙ q)) in
    rw p (record { variables = h.variables; placed = rw d h.placed; counted = c ∙ h.counted }))
    (λ p. let (c, d) = g.new (placed_no e table x h.placed l p) in
    rw p (record {
      variables = variables_last x e l p h.variables;
      placed = λ y b. rw d (by_same y x
          (λ q r. rw (q, elem_last, place_last x e p) (get_or-set_same table x (Some count) None (omega arith) ∙ ap Some h.counted))
          (λ q r. get_or-set_other table x y (Some count) None q ∙ by_bool (elem y e)
          (λ s. placed_yes e table y h.placed b s ∙ rw (elem_other y x e q, s, place_append y e (x ∷ []) s))
          (λ s. placed_no e table y h.placed b s ∙ rw (elem_other y x e q, s))));
      counted = c ∙ (let a = h.counted in let k = length-append e (x ∷ []) in omega arith);
    }))

-- Places as numbers

pub place_number : (table : List (Option ℕ)) (x : ℕ) {p : ℕ} → get_or table x None ≡ Some p → get_or (place_numbers table) x 0 ≡ p
place_number [] x h = absurd (some_none (sym h))
place_number (None ∷ table) zero h = absurd (some_none (sym h))
place_number (Some q ∷ table) zero h = some_one h
place_number (q ∷ table) (suc x) h = place_number table x h

-- Order

pub place_is : (p : Option ℕ) (x : ℕ) → is_place p x ≡ true → p ≡ Some x
place_is None x h = true_false h refl
place_is (Some p) x h = ap Some (eqb-true p x h)

pub order_each : (table : List (Option ℕ)) (n : ℕ) → in_order table n ≡ true → (x : ℕ) → x < n → get_or table x None ≡ Some x
unfolding in_order
order_each table zero h x l = absurd (not-suc-le-zero l)
order_each table (suc n) h x l = by_bool (is_place (get_or table n None) n)
    (λ p. by_same x n (λ q r. rw q (place_is (get_or table n None) n p)) (λ q r. order_each table n (rw p at h) x (by_less x n (λ k s. k) (λ k s. absurd (q (omega arith))))))
    (λ p. true_false h (rw p))

pub each_order : (table : List (Option ℕ)) (n : ℕ) → ((x : ℕ) → x < n → get_or table x None ≡ Some x) → in_order table n ≡ true
unfolding in_order
each_order table zero h = refl
each_order table (suc n) h = rw (h n (omega arith), eq-eqb n n refl) (each_order table n (λ x l. h x (omega arith)))

pub order_fails : (table : List (Option ℕ)) (n x : ℕ) → x < n → get_or table x None ≢ Some x → in_order table n ≡ false
order_fails table n x l d = by_bool (in_order table n) (λ p. absurd (d (order_each table n p x l))) (λ p. p)

-- The places beside the numbers from one on.
abbrev pub are_places : List (Option ℕ) → ℕ → ℕ → Bool
are_places table a n = list_all (λ (p : Option ℕ × ℕ). is_place p.0 p.1) (zip table (range_with_len a n))

places_each : (table : List (Option ℕ)) (a n : ℕ) → n ≤ length table → are_places table a n ≡ true → (x : ℕ) → x < n → get_or table x None ≡ Some (a + x)
places_each table a zero l h x k = absurd (not-suc-le-zero k)
places_each [] a (suc n) l h x k = absurd (not-suc-le-zero l)
places_each (p ∷ table) a (suc n) l h zero k = by_bool (is_place p a)
    (λ q. let e : a + 0 ≡ a = omega arith in rw e (place_is p a q))
    (λ q. true_false h (rw q))
places_each (p ∷ table) a (suc n) l h (suc x) k = by_bool (is_place p a)
    (λ q. let e : a + suc x ≡ a + 1 + x = omega arith in rw e (places_each table (a + 1) n (omega arith) (rw q at h) x (omega arith)))
    (λ q. true_false h (rw q))

each_places : (table : List (Option ℕ)) (a n : ℕ) → n ≤ length table → ((x : ℕ) → x < n → get_or table x None ≡ Some (a + x)) → are_places table a n ≡ true
each_places [] a zero l h = refl
each_places (p ∷ table) a zero l h = refl
each_places [] a (suc n) l h = absurd (not-suc-le-zero l)
each_places (p ∷ table) a (suc n) l h =
    let e : a + 0 ≡ a = omega arith in
    let q : p ≡ Some a = rw e at (h 0 (omega arith)) in
    rw (q, eq-eqb a a refl) (each_places table (a + 1) n (omega arith) (λ x k. let d : a + suc x ≡ a + 1 + x = omega arith in rw d at (h (suc x) (omega arith))))

-- It is the same to ask by pairs.
pub places_order : (table : List (Option ℕ)) (n : ℕ) → n ≤ length table → are_places table 0 n ≡ in_order table n
places_order table n l = by_bool (in_order table n)
    (λ p. each_places table 0 n l (λ x k. let e : 0 + x ≡ x = omega arith in rw e (order_each table n p x k)) ∙ sym p)
    (λ p. by_bool (are_places table 0 n)
    (λ q. let e = each_order table n (λ x k. let d : 0 + x ≡ x = omega arith in rw d at (places_each table 0 n l q x k)) in true_false e p)
    (λ q. q ∙ sym p))

-- The numbers below n are n.
pub numbers_count : (n : ℕ) → length (numbers_below n) ≡ n
numbers_count zero = refl
numbers_count (suc n) = let h = numbers_count n in let k = length-append (numbers_below n) (n ∷ []) in omega arith

pub number_at : (n i : ℕ) → i < n → get_or (numbers_below n) i 0 ≡ i
number_at zero i l = absurd (not-suc-le-zero l)
number_at (suc n) i l = let k = numbers_count n in by_same i n
    (λ q r. let s = get_or-append_seam (numbers_below n) n [] 0 in let d : i ≡ length (numbers_below n) = omega arith in rw d (s ∙ sym k))
    (λ q r. let m : i < n = by_less i n (λ k s. k) (λ k s. absurd (q (omega arith))) in
    get_or-append (numbers_below n) (n ∷ []) 0 i (omega arith) ∙ number_at n i m)

pub elem_numbers : (n x : ℕ) → n ≤ x → elem x (numbers_below n) ≡ false
elem_numbers zero x l = refl
elem_numbers (suc n) x l = elem_other x n (numbers_below n) (λ q. omega arith) ∙ elem_numbers n x (omega arith)

pub elem_below : (n x : ℕ) → elem x (numbers_below n) ≡ true → x < n
elem_below n x h = by_less x n (λ l e. l) (λ l e. true_false h (elem_numbers n x l))

-- A number below n is in the list, at its own place.
pub numbers_place : (n x : ℕ) → x < n → (elem x (numbers_below n) ≡ true) × (place (numbers_below n) x ≡ x)
numbers_place zero x l = absurd (not-suc-le-zero l)
numbers_place (suc n) x l = by_same x n
    (λ q r. rw q (elem_last n (numbers_below n), place_last n (numbers_below n) (elem_numbers n n (omega arith)) ∙ numbers_count n))
    (λ q r. let (a, b) = numbers_place n x (by_less x n (λ k s. k) (λ k s. absurd (q (omega arith)))) in
    (elem_other x n (numbers_below n) q ∙ a, place_append x (numbers_below n) (n ∷ []) a ∙ b))

module _ {e : List ℕ} {table : List (Option ℕ)} {count : ℕ} (h : Records e table count) where
  -- In order: each variable below the count was met, and its place is its own number.
  pub order_place : in_order table count ≡ true → (x : ℕ) → x < count → (elem x e ≡ true) × (place e x ≡ x)
  order_place o x l =
      let few = variables_few e h.variables in
      let c = h.counted in
      let own = order_each table count o x l in
      let m : x < pattern_room = omega arith in
      by_bool (elem x e)
      (λ p. (p, some_one (sym (placed_yes e table x h.placed m p) ∙ own)))
      (λ p. absurd (some_none (sym own ∙ placed_no e table x h.placed m p)))

  -- Then they are the numbers below the count, in order;
  pub order_list : in_order table count ≡ true → e ≡ numbers_below count
  order_list o = ext_get_or 0 e (numbers_below count) (sym h.counted ∙ sym (numbers_count count))
      (λ i l. let c = h.counted in
      let k : i < count = omega arith in
      let (a, b) = order_place o i k in
      ap (λ (j : ℕ). get_or e j 0) (sym b) ∙ at_place i e a ∙ sym (number_at count i k))

  -- and if they are these, then it is so.
  pub list_order : e ≡ numbers_below count → in_order table count ≡ true
  list_order q = each_order table count
      (λ x l. let few = variables_few e h.variables in
      let c = h.counted in
      let (a, b) = numbers_place count x l in
      placed_yes e table x h.placed (omega arith) (rw q a) ∙ ap Some (rw q b))
