-- Laws of a part of the words: accepted words whose terms take as many words as there are, and use every variable among them, lie there.
use mathlib.Core.Path.{◌≡◌, refl, sym, ap, ◌∙◌}
use mathlib.Core.Bool.{true}
use mathlib.Core.List.{List, [], ◌∷◌}
use Prim.Native.Nat.{ℕ, zero, suc, ◌+◌, ◌-◌, ◌≤◌, ◌<◌}
use native.Mathlib.Omega.{arith}
use lib.ListN.{length, get_or, take}
use lib.Seq.{slice, get_or-take, get_or-drop, length-slice}
use Rattle.terms.specs.Numbers.{same_refl, by_bool, true_false, or_right, or_no}
use Rattle.terms.specs.Term.{Kind, one, many, Syn, var, Term, count, mem, Below}
use Rattle.arena.specs.Cells.{headers, arity_of, denote, Reference, WellFormed, cells, terms_of, below_denote, denote_variable}
use Rattle.arena.specs.Copies.{pattern_room}
use Rattle.arena.specs.Form.{Place, is_header, is_argument, nodes, in_form}
use Rattle.arena.specs.FormLaws.{Header, header_accepted, argument_reference, argument_from, form_formed, form_words}
use Rattle.resolution.specs.Search.{words}
use Rattle.rules.specs.LayingLaws.{each, Nodes, none, next, Lying}
use Rattle.rule_checks.specs.Steps.{place_from, Listed}

-- Words accepted from the address `at` on are nodes, behind the arguments that are to come.
chain_on : (p : Place) (arities rest : List ℕ) (at node left : ℕ) → ((i : ℕ) → i < length rest → get_or rest i 0 ≡ cells p.words (at + i))
    → nodes p arities rest at node left ≡ true → Nodes arities (cells p.words) (at + left) (at + length rest)
chain_on p arities [] at node zero s e = none
chain_on p arities [] at node (suc left) s e = true_false e refl
chain_on p arities (x ∷ rest) at node zero s e = by_bool (is_header arities x)
    (λ y. let d : at + 0 ≡ at = omega arith in
    let d' : at + suc (length rest) ≡ suc at + length rest = omega arith in
    let x₀ : x ≡ cells p.words (at + 0) = s 0 (omega arith) in
    let x₁ : x ≡ cells p.words at = rw d at x₀ in
    let h : Header arities x = header_accepted arities x y in
    let n : Nodes arities (cells p.words) (suc at + arity_of x) (suc at + length rest) =
    chain_on p arities rest (suc at) at (arity_of x) (λ i l. let q : at + suc i ≡ suc at + i = omega arith in
    let s₁ : get_or rest i 0 ≡ cells p.words (at + suc i) = s (suc i) (omega arith) in rw q at s₁) (rw y at e) in
    rw (d, d') (next (rw x₁ at h) (rw x₁ at n)))
    (λ y. true_false e (rw y))
chain_on p arities (x ∷ rest) at node (suc left) s e = by_bool (is_argument p node x)
    (λ y. let d : at + suc left ≡ suc at + left = omega arith in
    let d' : at + suc (length rest) ≡ suc at + length rest = omega arith in
    let n : Nodes arities (cells p.words) (suc at + left) (suc at + length rest) =
    chain_on p arities rest (suc at) node left (λ i l. let q : at + suc i ≡ suc at + i = omega arith in
    let s₁ : get_or rest i 0 ≡ cells p.words (at + suc i) = s (suc i) (omega arith) in rw q at s₁) (rw y at e) in
    rw (d, d') n)
    (λ y. true_false e (rw y))

-- References and their terms

terms_count : (g : ℕ → Term) (rs : List ℕ) → count (terms_of g rs) ≡ length rs
terms_count g [] = refl
terms_count g (r ∷ rs) = ap suc (terms_count g rs)

terms_below : (g : ℕ → Term) (n : ℕ) (rs : List ℕ) → ((i : ℕ) → i < length rs → Below n (g (get_or rs i 0))) → Below n (terms_of g rs)
terms_below g n [] h = tt
terms_below g n (r ∷ rs) h = (h 0 (omega arith), terms_below g n rs (λ i l. h (suc i) (omega arith)))

-- A reference that is a variable is one of the terms'.
terms_mem : (g : ℕ → Term) (rs : List ℕ) (i : ℕ) → i < length rs → g (get_or rs i 0) ≡ var (get_or rs i 0) → mem (get_or rs i 0) (terms_of g rs) ≡ true
unfolding mem
terms_mem g [] i l e = absurd (omega arith)
terms_mem g (r ∷ rs) zero l e = rw (e, same_refl r)
terms_mem g (r ∷ rs) (suc i) l e = or_right (mem (get_or rs i 0) (g r)) (mem (get_or rs i 0) (terms_of g rs)) (terms_mem g rs i (omega arith) e)

-- The one term, or the terms of the list.
each_below : {k : Kind} (n : ℕ) (t : Syn k) → Below n (each t) → Below n t
each_below {k = one} n t b = b.0
each_below {k = many} n t b = b

each_mem : {k : Kind} (x : ℕ) (t : Syn k) → mem x (each t) ≡ mem x t
unfolding mem
each_mem {k = one} x t = or_no (mem x t)
each_mem {k = many} x t = refl

-- Accepted words from the address u up to u'.
module _ (arities w : List ℕ) (u u' : ℕ) (up : u ≤ u') (long : u' ≤ length w) (small : pattern_room + u' ≤ headers) (before : WellFormed pattern_room (cells w) pattern_room u)
    (accept : in_form w u u' pattern_room pattern_room arities ≡ true) where
  -- They are nodes one behind another.
  chain : Nodes arities (cells w) u u'
  unfolding in_form
  chain =
      let n = length-slice u u' w long in
      let z : u + 0 ≡ u = omega arith in
      let e : u + length (slice u u' w) ≡ u' = omega arith in
      let c : Nodes arities (cells w) (u + 0) (u + length (slice u u' w)) = chain_on (place_from w u) arities (slice u u' w) u u 0
      (λ i l. get_or-drop u (take u' w) i 0 ∙ get_or-take u' w (u + i) 0 (omega arith)) accept in
      rw (z, e) at c

  pub part_formed : WellFormed pattern_room (cells w) pattern_room u'
  part_formed = form_formed w u u' pattern_room pattern_room arities up long small accept before

  -- Terms that take as many words, and use every variable among them.
  module _ {k : Kind} (t : Syn k) (rs : List ℕ) (denotes : terms_of (denote pattern_room (cells w)) rs ≡ each t)
      (roots : (i : ℕ) → i < length rs → is_argument (place_from w u) u' (get_or rs i 0) ≡ true) (sized : words t ≡ u' - u) (listed : Listed w u u' t) where
    root_at : (i : ℕ) → i < length rs → Reference pattern_room (cells w) pattern_room u' (get_or rs i 0)
    root_at i l = argument_reference (place_from w u) u' (get_or rs i 0) (roots i l)

    all_below : Below pattern_room t
    all_below =
        let b = terms_below (denote pattern_room (cells w)) pattern_room rs (λ i l. below_denote pattern_room (cells w) pattern_room u' part_formed (get_or rs i 0) (root_at i l)) in
        each_below pattern_room t (rw denotes at b)

    mem_root : (i : ℕ) → i < length rs → get_or rs i 0 < pattern_room → mem (get_or rs i 0) t ≡ true
    mem_root i l v =
        let m = terms_mem (denote pattern_room (cells w)) rs i l (denote_variable pattern_room (cells w) (get_or rs i 0) v) in
        sym (each_mem (get_or rs i 0) t) ∙ (rw denotes at m)

    -- Their words lie there.
    pub part_lying : Lying arities t w u rs u'
    part_lying =
        let Each-word = form_words w u u' pattern_room pattern_room arities up long small accept in
        record {
          below = all_below;
          number = sym (terms_count (denote pattern_room (cells w)) rs) ∙ ap count denotes;
          used = omega arith;
          there = long;
          small = small;
          formed = part_formed;
          reference = root_at;
          occurs = mem_root;
          new = λ i l v. argument_from (place_from w u) u' (get_or rs i 0) (roots i l) v;
          denotes = denotes;
          variable = listed;
          from_on = λ i l m v d. let e : u + (i - u) ≡ i = omega arith in
              let y = (Each-word (i - u) (omega arith)).from_on in (rw e at y) v d;
          earlier = λ i l m v d. let e : u + (i - u) ≡ i = omega arith in
              let y = (Each-word (i - u) (omega arith)).below in (rw e at y) v d;
          chain = chain;
        }
