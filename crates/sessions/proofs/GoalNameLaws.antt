-- The names of a session after a goal: at most 64, each with a sort that there is, and none twice. So a session in form can be left in
-- form.
use Prim.Native.Nat.{ℕ, zero, suc, ◌+◌, ◌≤◌, ◌<◌}
use Rattle.std.proofs.Common.{arith, sym, ap, ap₂, ◌∙◌, subst, length-append, length-drop, take-append-drop, get_or-drop, get_or-take, length-take-le, ext_get_or, ltb-false}
use Rattle.std.specs.Prelude.{◌≡◌, refl, true, ◌&&◌, eqb, ltb, length, get_or, take, drop}
use mathlib.Core.List.{List, [], ◌∷◌, ◌++◌, map}
use Rattle.std.proofs.lemmas.List.{length-map, map-append}
use Rattle.std.proofs.Math.ListN.{get_or-append, get_or-map}
use Rattle.std.proofs.Math.Seq.{map-set_same, get_or-append_seam}
use Rattle.source_text.specs.Bytes.{same_bytes}
use Rattle.source_text.specs.ByteLaws.{same_itself}
use Rattle.terms.specs.Numbers.{by_bool, by_less}
use Rattle.terms.specs.Term.{Syn, Term, app, nil, cons}
use Rattle.terms.specs.Term.Kind.{one as single}
use Rattle.term_parser.specs.Source.{Arity, one, many}
use Rattle.term_parser.specs.Standing.{Written, number, meta, called, applied, nil as none, cons as more, size}
use Rattle.names.specs.Names.{Name, Distinct, find}
use Rattle.names.specs.Symbols.{Symbol, Variable, symbol_number, variable_number, symbol_at}
use Rattle.patterns.specs.Patterns.{no_variable, Entry, refused, entered, known, enter, kind_of, Out, bad, good, bind, counted, misfit, spent}
use Rattle.patterns.specs.Patterns.{unless, is_ctor, zero_name, succ_name, first, rest, chain, pattern_of}
use Rattle.rules.specs.Rules.{all_known}
use Rattle.rules.specs.PatternLaws.{all_known_lem, Made, Fine, InputsUpto, SortsUpto, Grown, pattern_made, made_grown, made_sorts}
use Rattle.resolution.specs.Session.{Named, refuses, compiles}
use Rattle.resolution.specs.Session as theory
use Rattle.sessions.specs.Goals.{WrittenTerm, variable_for, name_for, closing, goal_compiled}
use Rattle.sessions.specs.Leaving.{texts_of, new_texts, no_new, NamesFit}

-- No name twice
abbrev names_of : List Variable → List Name
names_of vs = map (λ v. v.name) vs

-- A search that passes all finds nothing because nothing is there.
find_none : {A : Type 0} (name : A → Name) (l : List A) (w : Name) → length l ≤ find name l w → (i : ℕ) → i < length l
    → get_or (map name l) i [] ≡ w → ⊥
unfolding find
find_none name [] w h i m e = omega arith
find_none name (a ∷ l) w h zero m e =
    let t : same_bytes (name a) w ≡ true = rw (← e) (same_itself (name a)) in
    let k : suc (length l) ≤ 0 = rw t at h in
    omega arith
find_none name (a ∷ l) w h (suc i) m e = by_bool (same_bytes (name a) w)
    (λ t. let k : suc (length l) ≤ 0 = rw t at h in omega arith)
    (λ t. let k : suc (length l) ≤ suc (find name l w) = rw t at h in find_none name l w (omega arith) i (omega arith) e)

distinct_more : (l : List Name) (w : Name) → Distinct l → ((i : ℕ) → i < length l → get_or l i [] ≡ w → ⊥) → Distinct (l ++ (w ∷ []))
distinct_more l w d a i j m k e =
    let n : length (l ++ (w ∷ [])) ≡ length l + 1 = length-append l (w ∷ []) in
    by_less j (length l)
    (λ q _. d i j m q (sym (get_or-append l (w ∷ []) [] i (omega arith)) ∙ e ∙ get_or-append l (w ∷ []) [] j q))
    (λ q _. let s : j ≡ length l = omega arith in
    let f : get_or (l ++ (w ∷ [])) i [] ≡ get_or (l ++ (w ∷ [])) (length l) [] = rw s at e in
    a i (omega arith) (sym (get_or-append l (w ∷ []) [] i (omega arith)) ∙ f ∙ get_or-append_seam l w [] []))

names_more : (vs : List Variable) (v : Variable) → names_of (vs ++ (v ∷ [])) ≡ names_of vs ++ (v.name ∷ [])
names_more [] v = refl
names_more (u ∷ vs) v = ap (λ (l : List Name). u.name ∷ l) (names_more vs v)

-- The variables then known have different names.
abbrev Apart : {n : Arity} → Out n → Type 0
Apart (bad e) = Unit {0}
Apart (good p vs room) = Distinct (names_of vs)

abbrev EntryApart : Entry → Type 0
EntryApart (refused e) = Unit {0}
EntryApart (entered i vs) = Distinct (names_of vs)

bind_apart : {m n : Arity} (o : Out m) (f : Syn (kind_of m) → List Variable → ℕ → Out n) → Apart o
    → ((t : Syn (kind_of m)) (vs : List Variable) (room : ℕ) → Distinct (names_of vs) → Apart (f t vs room)) → Apart (bind o f)
bind_apart (bad e) f h g = tt
bind_apart (good t vs room) f h g = g t vs room h

enter_apart : (vs : List Variable) (w : Name) (s : ℕ) → Distinct (names_of vs) → EntryApart (enter vs w s)
unfolding enter
enter_apart vs w s d = by_bool (ltb (variable_number vs w) (length vs))
    (λ e. rw e (go (variable_number vs w)))
    (λ e. rw e (by_bool (ltb (length vs) 64)
    (λ g. rw g (subst (λ (l : List Name). Distinct l) (sym (names_more vs (record { name = w; sort = s })))
    (distinct_more (names_of vs) w d
    (λ i l q. find_none (λ (v : Variable). v.name) vs w (ltb-false _ _ e) i (let n = length-map vs (λ (v : Variable). v.name) in
    omega arith) q))))
    (λ g. rw g tt)))
  where
    go : (i : ℕ) → EntryApart (known vs i (get_or vs i no_variable) s)
    go i = by_bool (eqb (get_or vs i no_variable).sort 0)
        (λ e. rw e (subst (λ (l : List Name). Distinct l)
        (sym (map-set_same (λ (v : Variable). v.name) vs i
        (record { name = (get_or vs i no_variable).name; sort = s }) no_variable refl)) d))
        (λ e. rw e (by_bool (eqb s 0) (λ g. rw g d)
        (λ g. rw g (by_bool (eqb (get_or vs i no_variable).sort s) (λ h. rw h d) (λ h. rw h tt)))))

counted_apart : (e : Entry) (room : ℕ) → EntryApart e → Apart (counted e room)
counted_apart (refused e) room h = tt
counted_apart (entered i vs) zero h = tt
counted_apart (entered i vs) (suc room) h = h

unless_apart : (m : ℕ) (f : ℕ → Out one) → ((r : ℕ) → Apart (f r)) → Apart (unless m f)
unless_apart zero f g = g 0
unless_apart (suc m) f g = tt

spent_apart : (room : ℕ) (f : ℕ → Out one) → ((r : ℕ) → Apart (f r)) → Apart (spent room f)
spent_apart zero f h = tt
spent_apart (suc room) f h = h room

module _ (symbols : List Symbol) where
  node_apart : (m room : ℕ) (make : ℕ → Out one) → ((r : ℕ) → Apart (make r)) → Apart (unless m (λ _. spent room make))
  node_apart m room make h = unless_apart m (λ _. spent room make) (λ _. spent_apart room make h)

  chain_apart : (y z n s : ℕ) (vs : List Variable) (room : ℕ) → Distinct (names_of vs) → Apart (chain symbols y z n s vs room)
  unfolding chain
  chain_apart y z zero s vs room d = node_apart (misfit (symbol_at symbols z) s 0) room (λ r. good (app z nil) vs r) (λ r. d)
  chain_apart y z (suc n) s vs room d =
      node_apart (misfit (symbol_at symbols y) s 1) room
      (λ r. bind (chain symbols y z n (first (symbol_at symbols y).inputs) vs r) (λ t us q. good (app y (cons t nil)) us q))
      (λ r. bind_apart {m = one} {n = one} (chain symbols y z n (first (symbol_at symbols y).inputs) vs r)
      (λ t us q. good (app y (cons t nil)) us q)
      (chain_apart y z n (first (symbol_at symbols y).inputs) vs r d) (λ t us q h. h))

  pattern_apart : {n : Arity} (t : Written n) (sorts : List ℕ) (vs : List Variable) (room : ℕ) → Distinct (names_of vs)
      → Apart (pattern_of symbols t sorts vs room)
  unfolding pattern_of
  pattern_apart (number n) sorts vs room d = by_bool (is_ctor symbols zero_name && is_ctor symbols succ_name)
      (λ e. rw e (chain_apart (symbol_number symbols succ_name) (symbol_number symbols zero_name) n (first sorts) vs room d)) (λ e. rw e tt)
  pattern_apart (meta w) sorts vs room d = counted_apart (enter vs w (first sorts)) room (enter_apart vs w (first sorts) d)
  pattern_apart (called w) sorts vs room d = by_bool (ltb (symbol_number symbols w) (length symbols))
      (λ e. rw e (node_apart (misfit (symbol_at symbols (symbol_number symbols w)) (first sorts) 0) room
      (λ r. good (app (symbol_number symbols w) nil) vs r) (λ r. d)))
      (λ e. rw e (by_bool (eqb (first sorts) 0) (λ g. rw g tt)
      (λ g. rw g (counted_apart (enter vs w (first sorts)) room (enter_apart vs w (first sorts) d)))))
  pattern_apart (applied w ts) sorts vs room d = by_bool (ltb (symbol_number symbols w) (length symbols))
      (λ e. rw e (node_apart (misfit (symbol_at symbols (symbol_number symbols w)) (first sorts) (size ts)) room
      (λ r. bind (pattern_of symbols ts (symbol_at symbols (symbol_number symbols w)).inputs vs r)
      (λ us ws q. good (app (symbol_number symbols w) us) ws q))
      (λ r. bind_apart {m = many} {n = one} (pattern_of symbols ts (symbol_at symbols (symbol_number symbols w)).inputs vs r)
      (λ us ws q. good (app (symbol_number symbols w) us) ws q)
      (pattern_apart ts (symbol_at symbols (symbol_number symbols w)).inputs vs r d) (λ us ws q h. h))))
      (λ e. rw e tt)
  pattern_apart none sorts vs room d = d
  pattern_apart (more t ts) sorts vs room d =
      bind_apart {m = one} {n = many} (pattern_of symbols t (first sorts ∷ []) vs room)
      (λ u ws q. bind (pattern_of symbols ts (rest sorts) ws q) (λ us xs p. good (cons u us) xs p))
      (pattern_apart t (first sorts ∷ []) vs room d)
      (λ u ws q h. bind_apart {m = many} {n = many} (pattern_of symbols ts (rest sorts) ws q) (λ us xs p. good (cons u us) xs p)
      (pattern_apart ts (rest sorts) ws q h) (λ us xs p k. k))

-- The names after a goal
texts_for : (ns : List Named) → names_of (map variable_for ns) ≡ texts_of ns
texts_for [] = refl
texts_for (n ∷ ns) = ap (λ (l : List Name). n.name.text ∷ l) (texts_for ns)

texts_new : (vs : List Variable) → new_texts (map name_for vs) ≡ names_of vs
texts_new [] = refl
texts_new (v ∷ vs) = ap (λ (l : List Name). v.name ∷ l) (texts_new vs)

-- The first variables keep their names.
names_front : (vs vs' : List Variable) → Grown vs vs' → names_of (take (length vs) vs') ≡ names_of vs
names_front vs vs' g =
    let a = g.longer in
    let b = length-take-le (length vs) vs' a in
    let c = length-map (take (length vs) vs') (λ (v : Variable). v.name) in
    let d = length-map vs (λ (v : Variable). v.name) in
    ext_get_or [] (names_of (take (length vs) vs')) (names_of vs) (omega arith)
    (λ i l. get_or-map (λ (v : Variable). v.name) (take (length vs) vs') i no_variable
    ∙ ap (λ (v : Variable). v.name) (get_or-take (length vs) vs' i no_variable (omega arith)) ∙ g.names i (omega arith)
    ∙ sym (get_or-map (λ (v : Variable). v.name) vs i no_variable))

module _ (symbols : List Symbol) (sorts : ℕ) (inputs : InputsUpto sorts symbols) (t : WrittenTerm) (ns : List Named) where
  -- A goal that compiles leaves the names as a session's form asks.
  pub goal_names : length ns ≤ 64 → Distinct (texts_of ns) → ((i : ℕ) → i < length ns → (get_or (map variable_for ns) i no_variable).sort ≤ sorts)
      → (new : List theory.Name) (p : Term) → goal_compiled symbols t ns ≡ compiles new p → NamesFit sorts ns new
  unfolding goal_compiled
  goal_names few d upto new p = go (pattern_of symbols t (0 ∷ []) (map variable_for ns) 1024)
      (pattern_made symbols t (0 ∷ []) (map variable_for ns) 1024)
      (pattern_apart symbols t (0 ∷ []) (map variable_for ns) 1024 (subst (λ (l : List Name). Distinct l) (sym (texts_for ns)) d))
    where
      vs : List Variable
      vs = map variable_for ns

      count : length vs ≡ length ns
      count = length-map ns variable_for

      good_names : (q : Term) (vs' : List Variable) (left : ℕ) → Made symbols single (0 ∷ []) vs 1024 q vs' left → Distinct (names_of vs')
          → all_known vs' ≡ true → NamesFit sorts ns (map name_for (drop (length ns) vs'))
      good_names q vs' left m a k =
          let g = made_grown m in
          let counted : length vs ≡ length ns = count in
          let longer = g.longer in
          let within : length vs' ≤ 64 = g.few (omega arith) in
          let n₁ = length-map (drop (length ns) vs') name_for in
          let n₂ = length-drop (length ns) vs' in
          let sorted : SortsUpto sorts vs' = made_sorts sorts inputs m (λ j l. one_sort_lem j l) (λ i l. upto i (omega arith)) in
          let front : names_of (take (length ns) vs') ≡ texts_of ns = ap (λ (i : ℕ). names_of (take i vs')) (sym count) ∙ names_front vs vs' g
          ∙ texts_for ns in
          let whole : names_of vs' ≡ texts_of ns ++ new_texts (map name_for (drop (length ns) vs')) =
          ap names_of (sym (take-append-drop (length ns) vs'))
          ∙ map-append (λ (v : Variable). v.name) (take (length ns) vs') (drop (length ns) vs')
          ∙ ap₂ (λ (x y : List Name). x ++ y) front (sym (texts_new (drop (length ns) vs'))) in
          record {
            few = omega arith;
            sorted = λ i l.
                let at : (get_or (map name_for (drop (length ns) vs')) i no_new).sort ≡ (get_or vs' (length ns + i) no_variable).sort =
                ap (λ (n : theory.Name). n.sort) (get_or-map name_for (drop (length ns) vs') i no_variable)
                ∙ ap (λ (v : Variable). v.sort) (get_or-drop (length ns) vs' i no_variable) in
                let x = all_known_lem vs' k (length ns + i) (omega arith) in
                let y = sorted (length ns + i) (omega arith) in
                (omega arith, omega arith);
            distinct = subst (λ (l : List Name). Distinct l) whole a;
          }
        where
          one_sort_lem : (j : ℕ) → j < 1 → get_or (0 ∷ []) j 0 ≤ sorts
          one_sort_lem zero l = omega arith
          one_sort_lem (suc j) l = absurd (omega arith)

      go : (o : Out one) → Fine (λ q vs' room'. Made symbols single (0 ∷ []) vs 1024 q vs' room') o → Apart o
          → closing (length ns) o ≡ compiles new p → NamesFit sorts ns new
      go (bad e) m a q = absurd (let z : ◌≡◌ {A = ℕ} 0 1 = cc in omega arith)
      go (good q' vs' left) m a q = by_bool (all_known vs')
          (λ k. let q'' : compiles (map name_for (drop (length ns) vs')) q' ≡ compiles new p = rw k at q in
          let e : map name_for (drop (length ns) vs') ≡ new = cc in
          subst (NamesFit sorts ns) e (good_names q' vs' left m a k))
          (λ k. absurd (let q'' : refuses 25 ≡ compiles new p = rw k at q in let z : ◌≡◌ {A = ℕ} 0 1 = cc in omega arith))
