-- Laws of goals: a goal's term has no variables but those of the session's names and its own; in a new session it compiles as a rule
-- without premises does; and its refusals are numbers of the signature's place, 19 to 28.
-- The definitions that it speaks of are in specs/GoalLaws.
use Prim.Native.Nat.{ℕ, zero, suc, ◌+◌, ◌-◌, ◌≤◌}
use native.Mathlib.Omega.{arith}
use Rattle.std.specs.Prelude.{◌≡◌, refl, Bool, true, false, cond, ◌&&◌, ◌⊎◌, List, [], ◌∷◌, map, eqb, ltb, length, get_or, drop}
use Rattle.std.proofs.Common.{ap, subst, inl, inr, length-drop}
use Rattle.std.proofs.lemmas.List.{length-map}
use Rattle.terms.specs.Numbers.{by_bool}
use Rattle.terms.specs.Term.{Kind, Syn, app, nil, cons, Below}
use Rattle.term_parser.specs.Source.{Arity, one, many}
use Rattle.term_parser.specs.Standing.{Written, number, meta, called, applied, nil as none, cons as more, size}
use Rattle.names.specs.Names.{Name}
use Rattle.names.specs.Symbols.{Symbol, Variable, symbol_number, variable_number, symbol_at}
use Rattle.patterns.specs.Patterns.{no_variable, Entry, refused, entered, known, enter, kind_of, Out, bad, good, bind, counted, misfit, spent}
use Rattle.patterns.specs.Patterns.{unless, is_ctor, zero_name, succ_name, first, rest, chain, pattern_of}
use Rattle.rules.specs.Rules.{all_known, closed, rule_of}
use Rattle.rules.specs.PatternLaws.{Made, Fine, pattern_made, made_grown, made_below}
use Rattle.resolution.specs.Session.{Named, refuses, compiles, Scoped}
use Rattle.resolution.specs.Session as theory
use Rattle.sessions.specs.Goals.{variable_for, name_for, closing, goal_compiled}
use Rattle.sessions.specs.GoalLaws.{Agrees, Refusing}

-- Its variables
-- A goal's term is over the session's names and its new ones.
pub goal_scoped : (symbols : List Symbol) (t : Written one) (ns : List Named) → Scoped ns (goal_compiled symbols t ns)
unfolding goal_compiled
goal_scoped symbols t ns = go (pattern_of symbols t (0 ∷ []) (map variable_for ns) 1024)
    (pattern_made symbols t (0 ∷ []) (map variable_for ns) 1024)
  where
    go : (o : Out one) → Fine (λ p vs' room'. Made symbols Kind.one (0 ∷ []) (map variable_for ns) 1024 p vs' room') o
        → Scoped ns (closing (length ns) o)
    go (bad e) h = tt
    go (good p vs left) h = by_bool (all_known vs)
        (λ e. rw e (
        let a = (made_grown h).longer in
        let b : length (map variable_for ns) ≡ length ns = length-map ns variable_for in
        let c : length (map name_for (drop (length ns) vs)) ≡ length (drop (length ns) vs) = length-map (drop (length ns) vs) name_for in
        let d : length (drop (length ns) vs) ≡ length vs - length ns = length-drop (length ns) vs in
        let f : length vs ≡ length ns + length (map name_for (drop (length ns) vs)) = omega arith in
        subst (λ (n : ℕ). Below n p) f (made_below h)))
        (λ e. rw e tt)

sorts_for : (vs : List Variable) → map (λ (v : Variable). v.sort) vs ≡ map (λ (n : theory.Name). n.sort) (map name_for vs)
sorts_for [] = refl
sorts_for (v ∷ vs) = ap (λ (l : List ℕ). v.sort ∷ l) (sorts_for vs)

-- A goal compiles as a rule without premises, of any name.
pub goal_agrees : (symbols : List Symbol) (w : Name) (t : Written one) → Agrees (rule_of symbols w none t 1024) (goal_compiled symbols t [])
unfolding rule_of goal_compiled pattern_of size
goal_agrees symbols w t = go (pattern_of symbols t (0 ∷ []) [] 1024)
  where
    go : (o : Out one) → Agrees (closed w nil o) (closing 0 o)
    go (bad e) = refl
    go (good p vs left) = by_bool (all_known vs) (λ e. rw e (refl, refl, sorts_for vs)) (λ e. rw e refl)

abbrev EntryRefusing : Entry → Type 0
EntryRefusing (refused e) = (19 ≤ e) × (e ≤ 28)
EntryRefusing (entered i vs) = Unit {0}

bind_refusing : {m n : Arity} (o : Out m) (f : Syn (kind_of m) → List Variable → ℕ → Out n) → Refusing o
    → ((t : Syn (kind_of m)) (vs : List Variable) (room : ℕ) → Refusing (f t vs room)) → Refusing (bind o f)
bind_refusing (bad e) f h g = h
bind_refusing (good t vs room) f h g = g t vs room

enter_refusing : (vs : List Variable) (w : Name) (s : ℕ) → EntryRefusing (enter vs w s)
unfolding enter
enter_refusing vs w s = by_bool (ltb (variable_number vs w) (length vs))
    (λ e. rw e (go (get_or vs (variable_number vs w) no_variable)))
    (λ e. rw e (by_bool (ltb (length vs) 64) (λ g. rw g tt) (λ g. rw g (omega arith, omega arith))))
  where
    go : (v : Variable) → EntryRefusing (known vs (variable_number vs w) v s)
    go v = by_bool (eqb v.sort 0) (λ e. rw e tt)
        (λ e. rw e (by_bool (eqb s 0) (λ g. rw g tt)
        (λ g. rw g (by_bool (eqb v.sort s) (λ h. rw h tt) (λ h. rw h (omega arith, omega arith))))))

counted_refusing : (e : Entry) (room : ℕ) → EntryRefusing e → Refusing (counted e room)
counted_refusing (refused e) room h = h
counted_refusing (entered i vs) zero h = (omega arith, omega arith)
counted_refusing (entered i vs) (suc room) h = tt

unless_refusing : (m : ℕ) (f : ℕ → Out one) → (m ≡ 0) ⊎ ((19 ≤ m) × (m ≤ 28)) → ((r : ℕ) → Refusing (f r)) → Refusing (unless m f)
unless_refusing zero f h g = g 0
unless_refusing (suc m) f (inl e) g = absurd (omega arith)
unless_refusing (suc m) f (inr h) g = h

misfit_number : (f : Symbol) (s k : ℕ) → (misfit f s k ≡ 0) ⊎ ((19 ≤ misfit f s k) × (misfit f s k ≤ 28))
misfit_number f s k = go (eqb f.function 1 && ltb 0 s) (eqb f.output s) (eqb (length f.inputs) k)
  where
    go : (a b c : Bool) → (◌≡◌ {A = ℕ} (cond a 22 (cond b (cond c 0 21) 23)) 0) ⊎ ((19 ≤ cond a 22 (cond b (cond c 0 21) 23))
        × (cond a 22 (cond b (cond c 0 21) 23) ≤ 28))
    go true b c = inr (omega arith, omega arith)
    go false false c = inr (omega arith, omega arith)
    go false true false = inr (omega arith, omega arith)
    go false true true = inl refl

spent_refusing : (room : ℕ) (f : ℕ → Out one) → ((r : ℕ) → Refusing (f r)) → Refusing (spent room f)
spent_refusing zero f h = (omega arith, omega arith)
spent_refusing (suc room) f h = h room

module _ (symbols : List Symbol) where
  node_refusing : (f s k room : ℕ) (make : ℕ → Out one) → ((r : ℕ) → Refusing (make r))
      → Refusing (unless (misfit (symbol_at symbols f) s k) (λ _. spent room make))
  node_refusing f s k room make h = unless_refusing (misfit (symbol_at symbols f) s k) (λ _. spent room make)
      (misfit_number (symbol_at symbols f) s k) (λ _. spent_refusing room make h)

  chain_refusing : (y z n s : ℕ) (vs : List Variable) (room : ℕ) → Refusing (chain symbols y z n s vs room)
  unfolding chain
  chain_refusing y z zero s vs room = node_refusing z s 0 room (λ r. good (app z nil) vs r) (λ r. tt)
  chain_refusing y z (suc n) s vs room =
      node_refusing y s 1 room
      (λ r. bind (chain symbols y z n (first (symbol_at symbols y).inputs) vs r) (λ t us q. good (app y (cons t nil)) us q))
      (λ r. bind_refusing {m = one} {n = one} (chain symbols y z n (first (symbol_at symbols y).inputs) vs r)
      (λ t us q. good (app y (cons t nil)) us q)
      (chain_refusing y z n (first (symbol_at symbols y).inputs) vs r) (λ t us q. tt))

  pub pattern_refusing : {n : Arity} (t : Written n) (sorts : List ℕ) (vs : List Variable) (room : ℕ)
      → Refusing (pattern_of symbols t sorts vs room)
  unfolding pattern_of
  pattern_refusing (number n) sorts vs room = by_bool (is_ctor symbols zero_name && is_ctor symbols succ_name)
      (λ e. rw e (chain_refusing (symbol_number symbols succ_name) (symbol_number symbols zero_name) n (first sorts) vs room))
      (λ e. rw e (omega arith, omega arith))
  pattern_refusing (meta w) sorts vs room = counted_refusing (enter vs w (first sorts)) room (enter_refusing vs w (first sorts))
  pattern_refusing (called w) sorts vs room = by_bool (ltb (symbol_number symbols w) (length symbols))
      (λ e. rw e (node_refusing (symbol_number symbols w) (first sorts) 0 room (λ r. good (app (symbol_number symbols w) nil) vs r)
      (λ r. tt)))
      (λ e. rw e (by_bool (eqb (first sorts) 0) (λ g. rw g (omega arith, omega arith))
      (λ g. rw g (counted_refusing (enter vs w (first sorts)) room (enter_refusing vs w (first sorts))))))
  pattern_refusing (applied w ts) sorts vs room = by_bool (ltb (symbol_number symbols w) (length symbols))
      (λ e. rw e (node_refusing (symbol_number symbols w) (first sorts) (size ts) room
      (λ r. bind (pattern_of symbols ts (symbol_at symbols (symbol_number symbols w)).inputs vs r)
      (λ us ws q. good (app (symbol_number symbols w) us) ws q))
      (λ r. bind_refusing {m = many} {n = one} (pattern_of symbols ts (symbol_at symbols (symbol_number symbols w)).inputs vs r)
      (λ us ws q. good (app (symbol_number symbols w) us) ws q)
      (pattern_refusing ts (symbol_at symbols (symbol_number symbols w)).inputs vs r) (λ us ws q. tt))))
      (λ e. rw e (omega arith, omega arith))
  pattern_refusing none sorts vs room = tt
  pattern_refusing (more t ts) sorts vs room =
      bind_refusing {m = one} {n = many} (pattern_of symbols t (first sorts ∷ []) vs room)
      (λ u ws q. bind (pattern_of symbols ts (rest sorts) ws q) (λ us xs p. good (cons u us) xs p))
      (pattern_refusing t (first sorts ∷ []) vs room)
      (λ u ws q. bind_refusing {m = many} {n = many} (pattern_of symbols ts (rest sorts) ws q) (λ us xs p. good (cons u us) xs p)
      (pattern_refusing ts (rest sorts) ws q) (λ us xs p. tt))

-- A goal that does not compile is refused by a number from 19 to 28.
pub goal_refusals : (symbols : List Symbol) (t : Written one) (ns : List Named) (e : ℕ) → goal_compiled symbols t ns ≡ refuses e → (19 ≤ e)
    × (e ≤ 28)
unfolding goal_compiled
goal_refusals symbols t ns e = go (pattern_of symbols t (0 ∷ []) (map variable_for ns) 1024)
    (pattern_refusing symbols t (0 ∷ []) (map variable_for ns) 1024)
  where
    go : (o : Out one) → Refusing o → closing (length ns) o ≡ refuses e → (19 ≤ e) × (e ≤ 28)
    go (bad n) h q = let d : n ≡ e = cc in (omega arith, omega arith)
    go (good p vs left) h q = by_bool (all_known vs)
        (λ k. absurd (let q' : compiles (map name_for (drop (length ns) vs)) p ≡ refuses e = rw k at q in let z : ◌≡◌ {A = ℕ} 0 1 = cc in
        omega arith))
        (λ k. let q' : refuses 25 ≡ refuses e = rw k at q in let d : 25 ≡ e = cc in (omega arith, omega arith))
