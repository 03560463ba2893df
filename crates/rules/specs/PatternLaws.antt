-- Laws of `pattern_of` and `rule_of` (document 01, "Rules"): what holds of a pattern that was made, of the variables then known and of the room left; and so
-- of a rule. A pattern that was made has a derivation, `Made`, of one step for each node; the laws are inductions over it.
use Prim.Native.Nat.{ℕ, zero, suc, ◌+◌, ◌*◌, ◌≤◌, ◌<◌}
use Rattle.std.proofs.Common.{arith, ap, ◌∙◌, length-set, length-append, get_or-set_same, get_or-set_other, eqb-true, ltb-true, ltb-false}
use Rattle.std.specs.Prelude.{◌≡◌, refl, Bool, true, false, cond, ◌&&◌, eqb, ltb, length, get_or, set}
use mathlib.Core.List.{List, [], ◌∷◌, ◌++◌, map}
use Rattle.std.proofs.lemmas.List.{length-map}
use Rattle.std.proofs.Math.ListN.{get_or-append, get_or-map}
use Rattle.std.proofs.Math.Seq.{get_or-append_seam}
use Rattle.terms.specs.Numbers.{by_bool, by_same, by_less}
use Rattle.terms.specs.Term.{Kind, Syn, Term, Terms, var, app, nil, cons, count, Below}
use Rattle.terms.specs.Term.Kind.{one as single, many as several}
use Rattle.terms.specs.TermLaws.{below_le}
use Rattle.term_parser.specs.Source.{Arity, one, many}
use Rattle.term_parser.specs.Standing.{Written, number, meta, called, applied, nil as none, cons as more, size}
use Rattle.source_text.specs.ByteLaws.{and_left, and_right}
use Rattle.names.specs.Names.{Name}
use Rattle.names.specs.Symbols.{Symbol, Variable, symbol_number, variable_number, no_symbol, symbol_at}
use Rattle.patterns.specs.Patterns.{no_variable, Entry, refused, entered, known, enter, kind_of, Out, bad, good, bind, counted, misfit, spent, unless, is_ctor, zero_name, succ_name, first, rest, chain, pattern_of}
use Rattle.resolution.specs.Rules.{Rule}
use Rattle.resolution.specs.Fresh.{met}
use Rattle.resolution.specs.Search.{words}
use Rattle.meeting.specs.Places.{numbers_below}
use Rattle.meeting.specs.PlaceLaws.{elem_numbers, numbers_place}
use Rattle.rules.specs.Rules.{Ruled, barred, ruled, all_known, closed, concluded, rule_of}
use Rattle.rules.specs.LayingLaws.{each, Fits}

-- Derivations

-- Entering a variable at a place of the sort s gives it the number i, and the variables are then vs'.
pub data Entered (vs : List Variable) (s : ℕ) : ℕ → List Variable → Type 0 where
  -- It is there, and its sort was not known;
  learnt : {i : ℕ} → i < length vs → (get_or vs i no_variable).sort ≡ 0 → Entered vs s i (set vs i (record { name = (get_or vs i no_variable).name; sort = s }))
  -- it is there, and stays as it is;
  kept : {i : ℕ} → i < length vs → Entered vs s i vs
  -- it is new, and gets the next number.
  new : (w : Name) → length vs < 64 → Entered vs s (length vs) (vs ++ (record { name = w; sort = s } ∷ []))

-- What makes the symbol f fit at a place of the sort s with k arguments.
pub record Suits (symbols : List Symbol) (s f k : ℕ) : Type 0 where
  pub within : f < length symbols
  pub output : (symbol_at symbols f).output ≡ s
  pub inputs : length (symbol_at symbols f).inputs ≡ k

-- The pattern is made at places of these sorts, with these variables and this room; behind it are the variables and the room then left.
-- A numeral is a tower of nodes.
pub data Made (symbols : List Symbol) : (k : Kind) → List ℕ → List Variable → ℕ → Syn k → List Variable → ℕ → Type 0 where
  -- A variable, entered and counted;
  variable : {sorts : List ℕ} {vs vs' : List Variable} {room i : ℕ} → Entered vs (first sorts) i vs' → Made symbols single sorts vs (suc room) (var i) vs' room
  -- a symbol that fits, counted before its arguments are made;
  node : {sorts : List ℕ} {vs vs' : List Variable} {room room' f : ℕ} {ts : Terms} → Suits symbols (first sorts) f (count ts)
      → Made symbols several (symbol_at symbols f).inputs vs room ts vs' room' → Made symbols single sorts vs (suc room) (app f ts) vs' room'
  -- no more terms;
  end : {sorts : List ℕ} {vs : List Variable} {room : ℕ} → Made symbols several sorts vs room nil vs room
  -- a term at a place of the first sort, and then the others.
  next : {sorts : List ℕ} {vs vs₁ vs₂ : List Variable} {room room₁ room₂ : ℕ} {t : Term} {ts : Terms} → Made symbols single (first sorts ∷ []) vs room t vs₁ room₁
      → Made symbols several (rest sorts) vs₁ room₁ ts vs₂ room₂ → Made symbols several sorts vs room (cons t ts) vs₂ room₂

-- P holds of the pattern, the variables and the room left, if there is a pattern.
abbrev pub Fine : {n : Arity} → (Syn (kind_of n) → List Variable → ℕ → Type 0) → Out n → Type 0
Fine P (bad e) = Unit {0}
Fine P (good p vs room) = P p vs room

-- What the laws ask and tell

-- How many inputs each symbol has.
abbrev pub arities_of : List Symbol → List ℕ
arities_of symbols = map (λ f. length f.inputs) symbols

-- Each symbol has at most 16 inputs.
abbrev pub FewInputs : List Symbol → Type 0
FewInputs symbols = (i : ℕ) → i < length symbols → length (symbol_at symbols i).inputs ≤ 16

-- None of these sorts is over ns.
abbrev pub Upto : ℕ → List ℕ → Type 0
Upto ns sorts = (j : ℕ) → j < length sorts → get_or sorts j 0 ≤ ns

-- The sort of no input is over ns.
abbrev pub InputsUpto : ℕ → List Symbol → Type 0
InputsUpto ns symbols = (i : ℕ) → i < length symbols → Upto ns (symbol_at symbols i).inputs

-- The sort of no variable is over ns.
abbrev pub SortsUpto : ℕ → List Variable → Type 0
SortsUpto ns vs = (i : ℕ) → i < length vs → (get_or vs i no_variable).sort ≤ ns

-- Variables are only added, and what is known of one is not forgotten.
pub record Grown (vs vs' : List Variable) : Type 0 where
  pub longer : length vs ≤ length vs'
  pub few : length vs ≤ 64 → length vs' ≤ 64
  pub names : (i : ℕ) → i < length vs → (get_or vs' i no_variable).name ≡ (get_or vs i no_variable).name
  pub sorts : (i : ℕ) → i < length vs → 0 < (get_or vs i no_variable).sort → (get_or vs' i no_variable).sort ≡ (get_or vs i no_variable).sort

-- How many nodes: a variable is one too.
abbrev pub nodes : {k : Kind} → Syn k → ℕ
nodes (var x) = 1
nodes (app f ts) = 1 + nodes ts
nodes nil = 0
nodes (cons t ts) = nodes t + nodes ts

-- Each term is a variable or a predicate applied to terms: a symbol without an output.
abbrev pub Judgment : {k : Kind} → List Symbol → Syn k → Type 0
Judgment symbols (var x) = Unit {0}
Judgment symbols (app f ts) = (symbol_at symbols f).output ≡ 0
Judgment symbols nil = Unit {0}
Judgment symbols (cons t ts) = Judgment symbols t × Judgment symbols ts

-- Every pattern that is made has a derivation

by_zero : {P : Type 0} (n : ℕ) → (n ≡ 0 → P) → ((m : ℕ) → n ≡ suc m → P) → P
by_zero zero f g = f refl
by_zero (suc n) f g = g n refl

-- The entry, if there is one, is as it has to be.
abbrev Entering : List Variable → ℕ → Entry → Type 0
Entering vs s (refused e) = Unit {0}
Entering vs s (entered i vs') = Entered vs s i vs'

enter_entered : (vs : List Variable) (w : Name) (s : ℕ) → Entering vs s (enter vs w s)
unfolding enter
enter_entered vs w s = by_bool (ltb (variable_number vs w) (length vs))
    (λ e. rw e (go (variable_number vs w) (ltb-true _ _ e)))
    (λ e. rw e (by_bool (ltb (length vs) 64) (λ g. rw g (new w (ltb-true _ _ g))) (λ g. rw g tt)))
  where
    go : (i : ℕ) → i < length vs → Entering vs s (known vs i (get_or vs i no_variable) s)
    go i l = by_bool (eqb (get_or vs i no_variable).sort 0) (λ e. rw e (learnt l (eqb-true _ _ e)))
        (λ e. rw e (by_bool (eqb s 0) (λ g. rw g (kept l)) (λ g. rw g (by_bool (eqb (get_or vs i no_variable).sort s) (λ h. rw h (kept l)) (λ h. rw h tt)))))

-- A symbol that is refused for nothing fits.
misfit_suits : (symbols : List Symbol) (f s k : ℕ) → f < length symbols → misfit (symbol_at symbols f) s k ≡ 0 → Suits symbols s f k
misfit_suits symbols f s k l e =
    let h = go (◌&&◌ (eqb (symbol_at symbols f).function 1) (ltb 0 s)) (eqb (symbol_at symbols f).output s) (eqb (length (symbol_at symbols f).inputs) k) e in
    record { within = l; output = eqb-true _ _ h.0; inputs = eqb-true _ _ h.1 }
  where
    go : (a b c : Bool) → ◌≡◌ {A = ℕ} (cond a 22 (cond b (cond c 0 21) 23)) 0 → (b ≡ true) × (c ≡ true)
    go true b c e = absurd (omega arith)
    go false false c e = absurd (omega arith)
    go false true false e = absurd (omega arith)
    go false true true e = (refl, refl)

-- There are as many patterns as terms.
pub pattern_count : (symbols : List Symbol) (ts : Written many) (sorts : List ℕ) (vs : List Variable) (room : ℕ)
    → Fine (λ us vs' room'. count us ≡ size ts) (pattern_of symbols ts sorts vs room)
unfolding pattern_of size
pattern_count symbols none sorts vs room = refl
pattern_count symbols (more t ts) sorts vs room = go (pattern_of symbols t (first sorts ∷ []) vs room) (λ ws q. pattern_count symbols ts (rest sorts) ws q)
  where
    last : (u : Term) (o : Out many) → Fine (λ us vs' room'. count us ≡ size ts) o → Fine {n = many} (λ us vs' room'. count us ≡ 1 + size ts) (bind o (λ us xs p. good (cons u us) xs p))
    last u (bad e) h = tt
    last u (good us xs p) h = omega arith

    go : (o : Out one) → ((ws : List Variable) (q : ℕ) → Fine (λ us vs' room'. count us ≡ size ts) (pattern_of symbols ts (rest sorts) ws q))
        → Fine {n = many} (λ us vs' room'. count us ≡ 1 + size ts) (bind o (λ u ws q. bind (pattern_of symbols ts (rest sorts) ws q) (λ us xs p. good (cons u us) xs p)))
    go (bad e) h = tt
    go (good u ws q) h = last u (pattern_of symbols ts (rest sorts) ws q) (h ws q)

module _ (symbols : List Symbol) where
  -- What comes out at places of these sorts, with these variables and this room, has a derivation.
  abbrev AllMade : {n : Arity} → List ℕ → List Variable → ℕ → Out n → Type 0
  AllMade {n} sorts vs room o = Fine (λ p vs' room'. Made symbols (kind_of n) sorts vs room p vs' room') o

  -- A variable.
  counted_made : (sorts : List ℕ) (vs : List Variable) (e : Entry) (room : ℕ) → Entering vs (first sorts) e → AllMade sorts vs room (counted e room)
  counted_made sorts vs (refused e) room h = tt
  counted_made sorts vs (entered i vs') zero h = tt
  counted_made sorts vs (entered i vs') (suc room) h = variable h

  -- A node of the symbol f with k arguments.
  node_made : (sorts : List ℕ) (vs : List Variable) (f k room : ℕ) (make : ℕ → Out one) → f < length symbols
      → (Suits symbols (first sorts) f k → (r : ℕ) → AllMade sorts vs (suc r) (make r))
      → AllMade sorts vs room (unless (misfit (symbol_at symbols f) (first sorts) k) (λ _. spent room make))
  node_made sorts vs f k room make l h = by_zero (misfit (symbol_at symbols f) (first sorts) k)
      (λ e. rw e (go room (h (misfit_suits symbols f (first sorts) k l e))))
      (λ m e. rw e tt)
    where
      go : (room : ℕ) → ((r : ℕ) → AllMade sorts vs (suc r) (make r)) → AllMade sorts vs room (spent room make)
      go zero h = tt
      go (suc r) h = h r

  -- A numeral.
  chain_made : (y z : ℕ) → y < length symbols → z < length symbols → (n : ℕ) (sorts : List ℕ) (vs : List Variable) (room : ℕ)
      → AllMade sorts vs room (chain symbols y z n (first sorts) vs room)
  unfolding chain
  chain_made y z ly lz zero sorts vs room = node_made sorts vs z 0 room (λ r. good (app z nil) vs r) lz (λ h r. node h end)
  chain_made y z ly lz (suc n) sorts vs room =
      node_made sorts vs y 1 room (λ r. bind (chain symbols y z n (first (symbol_at symbols y).inputs) vs r) (λ t us q. good (app y (cons t nil)) us q)) ly
      (λ h r. go h r (chain symbols y z n (first (symbol_at symbols y).inputs) vs r) (chain_made y z ly lz n (first (symbol_at symbols y).inputs ∷ []) vs r))
    where
      go : Suits symbols (first sorts) y 1 → (r : ℕ) (o : Out one) → AllMade (first (symbol_at symbols y).inputs ∷ []) vs r o
          → AllMade {n = one} sorts vs (suc r) (bind o (λ t us q. good (app y (cons t nil)) us q))
      go h r (bad e) g = tt
      go h r (good t us q) g = node h (next g end)

  -- The derivation of a pattern.
  pub pattern_made : {n : Arity} (t : Written n) (sorts : List ℕ) (vs : List Variable) (room : ℕ)
      → Fine (λ p vs' room'. Made symbols (kind_of n) sorts vs room p vs' room') (pattern_of symbols t sorts vs room)
  unfolding pattern_of
  pattern_made (number n) sorts vs room = by_bool (is_ctor symbols zero_name && is_ctor symbols succ_name)
      (λ e. let z = and_left (ltb (symbol_number symbols zero_name) (length symbols)) _ (and_left (is_ctor symbols zero_name) (is_ctor symbols succ_name) e) in
      let y = and_left (ltb (symbol_number symbols succ_name) (length symbols)) _ (and_right (is_ctor symbols zero_name) (is_ctor symbols succ_name) e) in
      rw e (chain_made (symbol_number symbols succ_name) (symbol_number symbols zero_name) (ltb-true _ _ y) (ltb-true _ _ z) n sorts vs room))
      (λ e. rw e tt)
  pattern_made (meta w) sorts vs room = counted_made sorts vs (enter vs w (first sorts)) room (enter_entered vs w (first sorts))
  pattern_made (called w) sorts vs room = by_bool (ltb (symbol_number symbols w) (length symbols))
      (λ e. rw e (node_made sorts vs (symbol_number symbols w) 0 room (λ r. good (app (symbol_number symbols w) nil) vs r) (ltb-true _ _ e) (λ h r. node h end)))
      (λ e. rw e (by_bool (eqb (first sorts) 0) (λ g. rw g tt) (λ g. rw g (counted_made sorts vs (enter vs w (first sorts)) room (enter_entered vs w (first sorts))))))
  pattern_made (applied w ts) sorts vs room = by_bool (ltb (symbol_number symbols w) (length symbols))
      (λ e. rw e (node_made sorts vs (symbol_number symbols w) (size ts) room
      (λ r. bind (pattern_of symbols ts (symbol_at symbols (symbol_number symbols w)).inputs vs r) (λ us ws q. good (app (symbol_number symbols w) us) ws q)) (ltb-true _ _ e)
      (λ h r. go h r (pattern_of symbols ts (symbol_at symbols (symbol_number symbols w)).inputs vs r)
      (pattern_made ts (symbol_at symbols (symbol_number symbols w)).inputs vs r) (pattern_count symbols ts (symbol_at symbols (symbol_number symbols w)).inputs vs r))))
      (λ e. rw e tt)
    where
      go : Suits symbols (first sorts) (symbol_number symbols w) (size ts) → (r : ℕ) (o : Out many) → AllMade (symbol_at symbols (symbol_number symbols w)).inputs vs r o
          → Fine (λ us vs' room'. count us ≡ size ts) o → AllMade {n = one} sorts vs (suc r) (bind o (λ us ws q. good (app (symbol_number symbols w) us) ws q))
      go h r (bad e) g c = tt
      go h r (good us ws q) g c = node (rw (← c) at h) g
  pattern_made none sorts vs room = end
  pattern_made (more t ts) sorts vs room =
      go (pattern_of symbols t (first sorts ∷ []) vs room) (pattern_made t (first sorts ∷ []) vs room) (λ ws q. pattern_made ts (rest sorts) ws q)
    where
      last : (u : Term) (ws : List Variable) (q : ℕ) → Made symbols single (first sorts ∷ []) vs room u ws q → (o : Out many) → AllMade (rest sorts) ws q o
          → AllMade {n = many} sorts vs room (bind o (λ us xs p. good (cons u us) xs p))
      last u ws q g (bad e) h = tt
      last u ws q g (good us xs p) h = next g h

      go : (o : Out one) → AllMade (first sorts ∷ []) vs room o → ((ws : List Variable) (q : ℕ) → AllMade (rest sorts) ws q (pattern_of symbols ts (rest sorts) ws q))
          → AllMade {n = many} sorts vs room (bind o (λ u ws q. bind (pattern_of symbols ts (rest sorts) ws q) (λ us xs p. good (cons u us) xs p)))
      go (bad e) g h = tt
      go (good u ws q) g h = last u ws q g (pattern_of symbols ts (rest sorts) ws q) (h ws q)

-- Entering one variable

grown_refl : (vs : List Variable) → Grown vs vs
grown_refl vs = record { longer = omega arith; few = λ l. l; names = λ i l. refl; sorts = λ i l h. refl }

grown_trans : {us vs ws : List Variable} → Grown us vs → Grown vs ws → Grown us ws
grown_trans {us} {vs} {ws} g h =
    let a = g.longer in
    let b = h.longer in
    record {
      longer = omega arith;
      few = λ l. h.few (g.few l);
      names = λ i l. h.names i (omega arith) ∙ g.names i l;
      sorts = λ i l k. let e = g.sorts i l k in h.sorts i (omega arith) (omega arith) ∙ e;
    }

-- Variables are only added,
entered_grown : {vs vs' : List Variable} {s i : ℕ} → Entered vs s i vs' → Grown vs vs'
entered_grown {vs} {s} (learnt {i} l e) =
    let v : Variable = record { name = (get_or vs i no_variable).name; sort = s } in
    let n : length (set vs i v) ≡ length vs = length-set vs i v in
    record {
      longer = omega arith;
      few = λ h. omega arith;
      names = λ j m. by_same j i
          (λ q r. rw q (ap (λ (u : Variable). u.name) (get_or-set_same vs i v no_variable l)))
          (λ q r. ap (λ (u : Variable). u.name) (get_or-set_other vs i j v no_variable q));
      sorts = λ j m h. by_same j i
          (λ q r. absurd (let d : (get_or vs j no_variable).sort ≡ 0 = rw q e in omega arith))
          (λ q r. ap (λ (u : Variable). u.sort) (get_or-set_other vs i j v no_variable q));
    }
entered_grown {vs} (kept l) = grown_refl vs
entered_grown {vs} {s} (new w l) =
    let v : Variable = record { name = w; sort = s } in
    let n : length (vs ++ (v ∷ [])) ≡ length vs + 1 = length-append vs (v ∷ []) in
    record {
      longer = omega arith;
      few = λ h. omega arith;
      names = λ j m. ap (λ (u : Variable). u.name) (get_or-append vs (v ∷ []) no_variable j m);
      sorts = λ j m h. ap (λ (u : Variable). u.sort) (get_or-append vs (v ∷ []) no_variable j m);
    }

-- the one entered is among them,
entered_below : {vs vs' : List Variable} {s i : ℕ} → Entered vs s i vs' → i < length vs'
entered_below {vs} {s} (learnt {i} l e) = let n = length-set vs i (record { name = (get_or vs i no_variable).name; sort = s }) in omega arith
entered_below (kept l) = l
entered_below {vs} {s} (new w l) = let n = length-append vs (record { name = w; sort = s } ∷ []) in omega arith

first_upto : (ns : ℕ) (sorts : List ℕ) → Upto ns sorts → first sorts ≤ ns
first_upto ns [] h = omega arith
first_upto ns (s ∷ ss) h = h 0 (omega arith)

rest_upto : (ns : ℕ) (sorts : List ℕ) → Upto ns sorts → Upto ns (rest sorts)
rest_upto ns [] h = h
rest_upto ns (s ∷ ss) h = λ j l. h (suc j) (omega arith)

one_upto : (ns s : ℕ) → s ≤ ns → Upto ns (s ∷ [])
one_upto ns s h zero l = h
one_upto ns s h (suc j) l = absurd (omega arith)

-- their sorts stay within ns,
entered_sorts : (ns : ℕ) {vs vs' : List Variable} {s i : ℕ} → s ≤ ns → SortsUpto ns vs → Entered vs s i vs' → SortsUpto ns vs'
entered_sorts ns {vs} {s} b h (learnt {i} l e) = λ j m.
    let v : Variable = record { name = (get_or vs i no_variable).name; sort = s } in
    let n : length (set vs i v) ≡ length vs = length-set vs i v in
    by_same j i
    (λ q r. let d = ap (λ (u : Variable). u.sort) (get_or-set_same vs i v no_variable l) in rw (q, d) b)
    (λ q r. let d = ap (λ (u : Variable). u.sort) (get_or-set_other vs i j v no_variable q) in rw d (h j (omega arith)))
entered_sorts ns b h (kept l) = h
entered_sorts ns {vs} {s} b h (new w l) = λ j m.
    let v : Variable = record { name = w; sort = s } in
    let n : length (vs ++ (v ∷ [])) ≡ length vs + 1 = length-append vs (v ∷ []) in
    by_less j (length vs)
    (λ k r. let d = ap (λ (u : Variable). u.sort) (get_or-append vs (v ∷ []) no_variable j k) in rw d (h j k))
    (λ k r. let q : j ≡ length vs = omega arith in let d = ap (λ (u : Variable). u.sort) (get_or-append_seam vs v [] no_variable) in rw (q, d) b)

-- The variables entered are met in the order of their numbers: a new one is met next.
entered_met : {vs vs' : List Variable} {s i : ℕ} → Entered vs s i vs' → met (var i) (numbers_below (length vs)) ≡ numbers_below (length vs')
entered_met {vs} {s} (learnt {i} l e) = rw ((numbers_place (length vs) i l).0, length-set vs i (record { name = (get_or vs i no_variable).name; sort = s }))
entered_met {vs} (kept {i} l) = rw (numbers_place (length vs) i l).0
entered_met {vs} {s} (new w l) =
    let n : length (vs ++ (record { name = w; sort = s } ∷ [])) ≡ suc (length vs) = length-append vs (record { name = w; sort = s } ∷ []) ∙ omega arith in
    rw (elem_numbers (length vs) (length vs) (omega arith), n)

-- Nodes and words

-- A node takes at most two words: its own, and one as an argument of another.
pub words_nodes : {k : Kind} (p : Syn k) → words p + count (each p) ≤ 2 * nodes p
words_nodes (var x) = omega arith
words_nodes (app f ts) = let h = words_nodes ts in omega arith
words_nodes nil = omega arith
words_nodes (cons t ts) = let g = words_nodes t in let h = words_nodes ts in omega arith

-- What a derivation tells

module _ {symbols : List Symbol} where
  -- Variables are only added, at most 64, and keep their names and their known sorts.
  pub made_grown : {k : Kind} {sorts : List ℕ} {vs vs' : List Variable} {room room' : ℕ} {p : Syn k} → Made symbols k sorts vs room p vs' room' → Grown vs vs'
  made_grown (variable e) = entered_grown e
  made_grown (node f g) = made_grown g
  made_grown {vs} end = grown_refl vs
  made_grown (next g h) = grown_trans (made_grown g) (made_grown h)

  -- The variables of the pattern are among those then known.
  pub made_below : {k : Kind} {sorts : List ℕ} {vs vs' : List Variable} {room room' : ℕ} {p : Syn k} → Made symbols k sorts vs room p vs' room' → Below (length vs') p
  made_below (variable e) = entered_below e
  made_below (node f g) = made_below g
  made_below end = tt
  made_below (next {t} g h) = (below_le (made_grown h).longer t (made_below g), made_below h)

  -- Each symbol has as many arguments as it has inputs.
  pub made_fits : FewInputs symbols → {k : Kind} {sorts : List ℕ} {vs vs' : List Variable} {room room' : ℕ} {p : Syn k} → Made symbols k sorts vs room p vs' room'
      → Fits (arities_of symbols) p
  made_fits few (variable e) = tt
  made_fits few (node {f} {ts} s g) =
      let a = length-map symbols (λ (f : Symbol). length f.inputs) in
      let b : get_or (arities_of symbols) f 0 ≡ length (symbol_at symbols f).inputs = get_or-map (λ (f : Symbol). length f.inputs) symbols f no_symbol in
      let c = s.inputs in
      let d = s.within in
      let e = few f d in
      (record { known = omega arith; own = b ∙ c; few = omega arith }, made_fits few g)
  made_fits few end = tt
  made_fits few (next g h) = (made_fits few g, made_fits few h)

  -- The room shrinks by the nodes of the pattern.
  pub made_room : {k : Kind} {sorts : List ℕ} {vs vs' : List Variable} {room room' : ℕ} {p : Syn k} → Made symbols k sorts vs room p vs' room' → room ≡ room' + nodes p
  made_room (variable e) = omega arith
  made_room (node f g) = let a = made_room g in omega arith
  made_room end = omega arith
  made_room (next g h) = let a = made_room g in let b = made_room h in omega arith

  -- So its words fit where there are two for each node.
  pub made_words : {k : Kind} {sorts : List ℕ} {vs vs' : List Variable} {room room' : ℕ} {p : Syn k} → Made symbols k sorts vs room p vs' room'
      → words p + 2 * room' ≤ 2 * room
  made_words {p} g = let a = made_room g in let b = words_nodes p in omega arith

  -- Sorts stay within those of the inputs and of the places.
  pub made_sorts : (ns : ℕ) → InputsUpto ns symbols → {k : Kind} {sorts : List ℕ} {vs vs' : List Variable} {room room' : ℕ} {p : Syn k}
      → Made symbols k sorts vs room p vs' room' → Upto ns sorts → SortsUpto ns vs → SortsUpto ns vs'
  made_sorts ns all {sorts} (variable e) b h = entered_sorts ns (first_upto ns sorts b) h e
  made_sorts ns all (node {f} s g) b h = made_sorts ns all g (all f s.within) h
  made_sorts ns all end b h = h
  made_sorts ns all {sorts} (next g k) b h =
      made_sorts ns all k (rest_upto ns sorts b) (made_sorts ns all g (one_upto ns (first sorts) (first_upto ns sorts b)) h)

  -- Variables are numbered in the order in which they are met.
  pub made_met : {k : Kind} {sorts : List ℕ} {vs vs' : List Variable} {room room' : ℕ} {p : Syn k} → Made symbols k sorts vs room p vs' room'
      → met p (numbers_below (length vs)) ≡ numbers_below (length vs')
  made_met (variable e) = entered_met e
  made_met (node f g) = made_met g
  made_met end = refl
  made_met (next {ts} g h) = ap (met ts) (made_met g) ∙ made_met h

  -- At places of judgments stand judgments.
  pub made_judgment : {k : Kind} {sorts : List ℕ} {vs vs' : List Variable} {room room' : ℕ} {p : Syn k} → Made symbols k sorts vs room p vs' room' → Upto 0 sorts → Judgment symbols p
  made_judgment (variable e) b = tt
  made_judgment {sorts} (node s g) b = let a = s.output in let c = first_upto 0 sorts b in omega arith
  made_judgment end b = tt
  made_judgment {sorts} (next g h) b = (made_judgment g (one_upto 0 (first sorts) (first_upto 0 sorts b)), made_judgment h (rest_upto 0 sorts b))

-- A pattern that came out has a derivation, of which all this holds.
pub good_made : {n : Arity} (symbols : List Symbol) (t : Written n) (sorts : List ℕ) (vs : List Variable) (room : ℕ) {p : Syn (kind_of n)} {vs' : List Variable} {room' : ℕ}
    → pattern_of symbols t sorts vs room ≡ good p vs' room' → Made symbols (kind_of n) sorts vs room p vs' room'
good_made symbols t sorts vs room e = let h = pattern_made symbols t sorts vs room in rw e at h

-- Rules

-- P holds of the rule and the room, if there is a rule.
abbrev pub Ruling : (Rule → ℕ → Type 0) → Ruled → Type 0
Ruling P (barred e) = Unit {0}
Ruling P (ruled R room) = P R room

-- What holds of a rule that was made with this room, and of the room then left.
pub record RuleMade (symbols : List Symbol) (ns : ℕ) (name : Name) (room : ℕ) (R : Rule) (room' : ℕ) : Type 0 where
  pub named : R.name ≡ name
  -- Each symbol has as many arguments as it has inputs;
  pub premises_fit : Fits (arities_of symbols) R.premises
  pub conclusion_fits : Fits (arities_of symbols) R.conclusion
  -- the variables are those that have a sort, at most 64, and each sort is known;
  pub premises_below : Below (length R.sorts) R.premises
  pub conclusion_below : Below (length R.sorts) R.conclusion
  pub variables : length R.sorts ≤ 64
  pub sorts_known : (i : ℕ) → i < length R.sorts → 0 < get_or R.sorts i 0
  pub sorts_upto : Upto ns R.sorts
  -- they are numbered in the order in which they are met, premises first;
  pub order : met R.conclusion (met R.premises []) ≡ numbers_below (length R.sorts)
  -- there are at most 16 premises, and all are judgments;
  pub premises_few : count R.premises ≤ 16
  pub premises_judge : Judgment symbols R.premises
  pub conclusion_judges : Judgment symbols R.conclusion
  -- the room shrinks by the nodes, and where there are two words for each node the rule's words fit.
  pub spent_room : room ≡ room' + nodes R.premises + nodes R.conclusion
  pub words_fit : words R.premises + words R.conclusion + 2 * room' ≤ 2 * room

-- If all sorts are known then each is.
pub all_known_lem : (vs : List Variable) → all_known vs ≡ true → (i : ℕ) → i < length vs → 0 < (get_or vs i no_variable).sort
unfolding all_known
all_known_lem [] h i l = absurd (omega arith)
all_known_lem (v ∷ vs) h zero l = ltb-true _ _ (and_left (ltb 0 v.sort) (all_known vs) h)
all_known_lem (v ∷ vs) h (suc i) l = all_known_lem vs (and_right (ltb 0 v.sort) (all_known vs) h) i (omega arith)

module _ (symbols : List Symbol) (ns : ℕ) (few : FewInputs symbols) (inputs : InputsUpto ns symbols) (name : Name) where
  -- A rule of these premises and this conclusion, where each sort is known.
  both_made : (room : ℕ) {ps : Terms} {c : Term} {vs vs' : List Variable} {room₁ room₂ : ℕ} → Made symbols several [] [] room ps vs room₁ → count ps ≤ 16
      → Made symbols single (0 ∷ []) vs room₁ c vs' room₂ → all_known vs' ≡ true
      → RuleMade symbols ns name room (record { name = name; sorts = map (λ v. v.sort) vs'; premises = ps; conclusion = c }) room₂
  both_made room {ps} {c} {vs} {vs'} {room₁} {room₂} g l h known =
      let n : length (map (λ (v : Variable). v.sort) vs') ≡ length vs' = length-map vs' (λ (v : Variable). v.sort) in
      let at : (i : ℕ) → get_or (map (λ (v : Variable). v.sort) vs') i 0 ≡ (get_or vs' i no_variable).sort = λ i. get_or-map (λ (v : Variable). v.sort) vs' i no_variable in
      let a = made_grown g in
      let b = made_grown h in
      let q = made_room g in
      let r = made_room h in
      let sorts = made_sorts ns inputs h (one_upto ns 0 (omega arith)) (made_sorts ns inputs g (λ j m. absurd (omega arith)) (λ j m. absurd (omega arith))) in
      record {
        named = refl;
        premises_fit = made_fits few g;
        conclusion_fits = made_fits few h;
        premises_below = rw n (below_le b.longer ps (made_below g));
        conclusion_below = rw n (made_below h);
        variables = let d = b.few (a.few (omega arith)) in omega arith;
        sorts_known = λ i m. rw (at i) (all_known_lem vs' known i (omega arith));
        sorts_upto = λ i m. rw (at i) (sorts i (omega arith));
        order = rw n (ap (met c) (made_met g) ∙ made_met h);
        premises_few = l;
        premises_judge = made_judgment g (λ j m. absurd (omega arith));
        conclusion_judges = made_judgment h (one_upto 0 0 (omega arith));
        spent_room = omega arith;
        words_fit = let d = made_words g in let e = made_words h in omega arith;
      }

  -- All that holds of a rule that was made.
  pub rule_made_lem : (ps : Written many) (c : Written one) (room : ℕ) → Ruling (λ R room'. RuleMade symbols ns name room R room') (rule_of symbols name ps c room)
  unfolding rule_of
  rule_made_lem ps c room = by_bool (ltb 16 (size ps))
      (λ e. rw e tt)
      (λ e. rw e (premises (ltb-false _ _ e) (pattern_of symbols ps [] [] room) (pattern_made symbols ps [] [] room) (pattern_count symbols ps [] [] room)))
    where
      last : {us : Terms} {vs : List Variable} {room₁ : ℕ} → Made symbols several [] [] room us vs room₁ → count us ≤ 16
          → (o : Out one) → Fine (λ p vs' room'. Made symbols single (0 ∷ []) vs room₁ p vs' room') o → Ruling (λ R room'. RuleMade symbols ns name room R room') (closed name us o)
      last g l (bad e) h = tt
      last g l (good t vs' room₂) h = by_bool (all_known vs') (λ e. rw e (both_made room g l h e)) (λ e. rw e tt)

      premises : size ps ≤ 16 → (o : Out many) → Fine (λ p vs' room'. Made symbols several [] [] room p vs' room') o → Fine (λ us vs' room'. count us ≡ size ps) o
          → Ruling (λ R room'. RuleMade symbols ns name room R room') (concluded symbols name c o)
      premises l (bad e) h k = tt
      premises l (good us vs room₁) h k = last h (omega arith) (pattern_of symbols c (0 ∷ []) vs room₁) (pattern_made symbols c (0 ∷ []) vs room₁)

  -- So of each rule that came out.
  pub ruled_made : (ps : Written many) (c : Written one) (room : ℕ) {R : Rule} {room' : ℕ} → rule_of symbols name ps c room ≡ ruled R room' → RuleMade symbols ns name room R room'
  ruled_made ps c room e = let h = rule_made_lem ps c room in rw e at h
