-- The rules that clauses become are clauses in form: the conclusion is a node of the function whose name the clause has, and only calls become premises. And
-- the name of a symbol is found at its own number, since names serve once.
use Rattle.std.specs.Prelude.{ℕ, zero, suc, ◌+◌, ◌≤◌, ◌<◌, ◌≡◌, Bool, true, false, eqb, ltb, length, get_or}
use Rattle.std.proofs.Common.{arith, sym, ◌∙◌, length-append, get_or-append-add, eqb-true}
use Rattle.std.proofs.Math.Path.{refl}
use mathlib.Core.List.{List, [], ◌∷◌, ◌++◌, map}
use Rattle.std.proofs.lemmas.List.{length-map}
use Rattle.std.proofs.Math.ListN.{get_or-append, get_or-map}
use Rattle.terms.specs.Numbers.{by_bool, by_less}
use Rattle.terms.specs.Term.{Kind, Syn, Term, Terms, var, app, nil, cons}
use Rattle.source_text.specs.Bytes.{same_bytes}
use Rattle.source_text.specs.ByteLaws.{and_right, same_is, same_itself}
use Rattle.term_parser.specs.Source.{Arity, one, many}
use Rattle.term_parser.specs.Standing.{Written, number, meta, called, applied, nil as none, cons as more, size}
use Rattle.names.specs.Names.{Name, Distinct, result_name, clause_name, find}
use Rattle.names.specs.Symbols.{Symbol, Variable, symbol_number, no_symbol, symbol_at}
use Rattle.flattening.specs.Flattening.{snoc, is_function, Flat, flat, resulted, calling, paired, and_flat, flatten_of}
use Rattle.patterns.specs.Patterns.{Out, bad, good, bind, misfit, spent, unless, first, rest, pattern_of}
use Rattle.resolution.specs.Rules.{Rule}
use Rattle.rules.specs.Rules.{all_known, closed, concluded, rule_of}
use Rattle.rules.specs.LayingLaws.{Fits}
use Rattle.rules.specs.PatternLaws.{Fine, Ruling, arities_of}
use Rattle.clauses.specs.Clauses.{flat_rule, clause_of}
use Rattle.loader.specs.Legal.{names_of, Calls, ClauseFormed}

-- Premises

-- Each of these terms is a function applied to terms.
abbrev Applied : {n : Arity} → List Symbol → Written n → Type 0
Applied symbols (number n) = ⊥
Applied symbols (meta w) = ⊥
Applied symbols (called w) = ⊥
Applied symbols (applied w ts) = is_function symbols w ≡ true
Applied symbols none = Unit {0}
Applied symbols (more t ts) = Applied symbols t × Applied symbols ts

-- So are all premises so far.
abbrev Flattened : {n : Arity} → List Symbol → Flat n → Type 0
Flattened symbols (flat t ps) = Applied symbols ps

module _ (symbols : List Symbol) where
  snoc_applied : (ps : Written many) (t : Written one) → Applied symbols ps → Applied symbols t → Applied symbols (snoc ps t)
  snoc_applied none t h g = (g, tt)
  snoc_applied (more p ps) t h g = (h.0, snoc_applied ps t h.1 g)

  resulted_applied : (w : Name) (us ps : Written many) → is_function symbols w ≡ true → Applied symbols ps → Flattened symbols (resulted w us ps)
  resulted_applied w us ps e h = snoc_applied ps (applied w (snoc us (called (result_name (suc (size ps)))))) h e

  calling_applied : (b : Bool) (w : Name) (o : Flat many) → is_function symbols w ≡ b → Flattened symbols o → Flattened symbols (calling b w o)
  calling_applied true w (flat us ps) e h = resulted_applied w us ps e h
  calling_applied false w (flat us ps) e h = h

  paired_applied : (t : Written one) (o : Flat many) → Flattened symbols o → Flattened symbols (paired t o)
  paired_applied t (flat ts ps) h = h

  -- Only calls become premises.
  flatten_applied : {n : Arity} (t : Written n) (ps : Written many) → Applied symbols ps → Flattened symbols (flatten_of symbols t ps)
  unfolding flatten_of
  flatten_applied (number n) ps h = h
  flatten_applied (meta w) ps h = h
  flatten_applied (called w) ps h = by_bool (is_function symbols w) (λ e. rw e (resulted_applied w none ps e h)) (λ e. rw e h)
  flatten_applied (applied w ts) ps h = calling_applied (is_function symbols w) w (flatten_of symbols ts ps) refl (flatten_applied ts ps h)
  flatten_applied none ps h = h
  flatten_applied (more t ts) ps h = go (flatten_of symbols t ps) (flatten_applied t ps h) (λ qs g. flatten_applied ts qs g)
    where
      go : (o : Flat one) → Flattened symbols o → ((qs : Written many) → Applied symbols qs → Flattened symbols (flatten_of symbols ts qs))
          → Flattened symbols (and_flat o (λ u qs. paired u (flatten_of symbols ts qs)))
      go (flat u qs) g f = paired_applied u (flatten_of symbols ts qs) (f qs g)

  -- Patterns

  -- A name applied to terms becomes a node of the symbol so named.
  abbrev NodeOf : Name → Term → Type 0
  NodeOf w t = (ts : Terms) × (t ≡ app (symbol_number symbols w) ts)

  node_of : (w : Name) (ts : Written many) (sorts : List ℕ) (vs : List Variable) (room : ℕ)
      → Fine {n = one} (λ t vs' room'. NodeOf w t) (pattern_of symbols (applied w ts) sorts vs room)
  unfolding pattern_of
  node_of w ts sorts vs room = by_bool (ltb (symbol_number symbols w) (length symbols))
      (λ e. rw e (fitted (misfit (symbol_at symbols (symbol_number symbols w)) (first sorts) (size ts)) room))
      (λ e. rw e tt)
    where
      made : (o : Out many) → Fine {n = one} (λ t vs' room'. NodeOf w t) (bind o (λ us ws q. good (app (symbol_number symbols w) us) ws q))
      made (bad e) = tt
      made (good us ws q) = (us, refl)

      fitted : (e room : ℕ) → Fine {n = one} (λ t vs' room'. NodeOf w t) (unless e (λ _. spent room (λ r.
          bind (pattern_of symbols ts (symbol_at symbols (symbol_number symbols w)).inputs vs r) (λ us ws q. good (app (symbol_number symbols w) us) ws q))))
      fitted (suc e) room = tt
      fitted zero zero = tt
      fitted zero (suc r) = made (pattern_of symbols ts (symbol_at symbols (symbol_number symbols w)).inputs vs r)

  -- Functions applied to terms become calls.
  function_mark : (w : Name) → is_function symbols w ≡ true → (symbol_at symbols (symbol_number symbols w)).function ≡ 1
  function_mark w e = eqb-true _ _ (and_right (ltb (symbol_number symbols w) (length symbols)) (eqb (symbol_at symbols (symbol_number symbols w)).function 1) e)

  one_call : (t : Written one) (sorts : List ℕ) (vs : List Variable) (room : ℕ) → Applied symbols t
      → Fine {n = one} (λ u vs' room'. Calls symbols u) (pattern_of symbols t sorts vs room)
  one_call (number n) sorts vs room h = absurd h
  one_call (meta w) sorts vs room h = absurd h
  one_call (called w) sorts vs room h = absurd h
  one_call (applied w ts) sorts vs room h = go (pattern_of symbols (applied w ts) sorts vs room) (node_of w ts sorts vs room)
    where
      go : (o : Out one) → Fine {n = one} (λ t vs' room'. NodeOf w t) o → Fine {n = one} (λ u vs' room'. Calls symbols u) o
      go (bad e) g = tt
      go (good t ws q) g = rw g.1 (function_mark w h)

  all_calls : (ps : Written many) (sorts : List ℕ) (vs : List Variable) (room : ℕ) → Applied symbols ps
      → Fine {n = many} (λ us vs' room'. Calls symbols us) (pattern_of symbols ps sorts vs room)
  unfolding pattern_of
  all_calls none sorts vs room h = tt
  all_calls (more t ts) sorts vs room h =
      go (pattern_of symbols t (first sorts ∷ []) vs room) (one_call t (first sorts ∷ []) vs room h.0) (λ ws q. all_calls ts (rest sorts) ws q h.1)
    where
      last : (u : Term) → Calls symbols u → (o : Out many) → Fine {n = many} (λ us vs' room'. Calls symbols us) o
          → Fine {n = many} (λ us vs' room'. Calls symbols us) (bind o (λ us xs p. good (cons u us) xs p))
      last u c (bad e) g = tt
      last u c (good us xs p) g = (c, g)

      go : (o : Out one) → Fine {n = one} (λ u vs' room'. Calls symbols u) o
          → ((ws : List Variable) (q : ℕ) → Fine {n = many} (λ us vs' room'. Calls symbols us) (pattern_of symbols ts (rest sorts) ws q))
          → Fine {n = many} (λ us vs' room'. Calls symbols us) (bind o (λ u ws q. bind (pattern_of symbols ts (rest sorts) ws q) (λ us xs p. good (cons u us) xs p)))
      go (bad e) g f = tt
      go (good u ws q) g f = last u g (pattern_of symbols ts (rest sorts) ws q) (f ws q)

  -- Rules

  -- A rule of calls whose conclusion is f applied to terms is a clause of f.
  rule_clause : (name f : Name) (ps us : Written many) (room : ℕ) → Applied symbols ps
      → Ruling (λ R room'. ClauseFormed symbols (symbol_number symbols f) R) (rule_of symbols name ps (applied f us) room)
  unfolding rule_of
  rule_clause name f ps us room h = by_bool (ltb 16 (size ps)) (λ e. rw e tt) (λ e. rw e (premises (pattern_of symbols ps [] [] room) (all_calls ps [] [] room h)))
    where
      last : (qs : Terms) → Calls symbols qs → (o : Out one) → Fine {n = one} (λ t vs' room'. NodeOf f t) o
          → Ruling (λ R room'. ClauseFormed symbols (symbol_number symbols f) R) (closed name qs o)
      last qs c (bad e) g = tt
      last qs c (good t vs room) g = by_bool (all_known vs) (λ e. rw e (record { conclusion = g; premises = c })) (λ e. rw e tt)

      premises : (o : Out many) → Fine {n = many} (λ qs vs' room'. Calls symbols qs) o
          → Ruling (λ R room'. ClauseFormed symbols (symbol_number symbols f) R) (concluded symbols name (applied f us) o)
      premises (bad e) g = tt
      premises (good qs vs room) g = last qs g (pattern_of symbols (applied f us) (0 ∷ []) vs room) (node_of f us (0 ∷ []) vs room)

  -- So is the rule that a clause of f becomes.
  pub clause_formed : (f : Name) (n : ℕ) (patterns : Written many) (right : Written one) (room : ℕ)
      → Ruling (λ R room'. ClauseFormed symbols (symbol_number symbols f) R) (clause_of symbols f n patterns right room)
  unfolding clause_of
  clause_formed f n patterns right room = go (flatten_of symbols right none) (flatten_applied right none tt)
    where
      go : (o : Flat one) → Flattened symbols o → Ruling (λ R room'. ClauseFormed symbols (symbol_number symbols f) R) (flat_rule symbols f n patterns o room)
      go (flat r ps) g = rule_clause (clause_name f n) f ps (snoc patterns r) room g

-- More symbols

calls_more : (symbols others : List Symbol) {k : Kind} (t : Syn k) → Fits (arities_of symbols) t → Calls symbols t → Calls (symbols ++ others) t
calls_more symbols others (var x) f h = h
calls_more symbols others (app g ts) f h =
    let n : length (arities_of symbols) ≡ length symbols = length-map symbols (λ (f : Symbol). length f.inputs) in
    let l = f.0.known in
    rw (get_or-append symbols others no_symbol g (omega arith)) h
calls_more symbols others nil f h = tt
calls_more symbols others (cons t ts) f h = (calls_more symbols others t f.0 h.0, calls_more symbols others ts f.1 h.1)

-- With more symbols a clause is still in form.
pub clause_more : (symbols others : List Symbol) {i : ℕ} {R : Rule} → Fits (arities_of symbols) R.premises → ClauseFormed symbols i R → ClauseFormed (symbols ++ others) i R
clause_more symbols others {i} {R} f h = record { conclusion = h.conclusion; premises = calls_more symbols others R.premises f h.premises }

-- A symbol's own number

-- The first with a name is not behind any with that name, and has it.
find_first : {A : Type 0} (name : A → Name) (l : List A) (d : A) (i : ℕ) → i < length l → (find name l (name (get_or l i d)) ≤ i)
    × (name (get_or l (find name l (name (get_or l i d))) d) ≡ name (get_or l i d))
unfolding find
find_first name [] d i m = absurd (omega arith)
find_first name (a ∷ l) d zero m = let t : same_bytes (name a) (name a) ≡ true = same_itself (name a) in rw t (omega arith, refl)
find_first name (a ∷ l) d (suc i) m = by_bool (same_bytes (name a) (name (get_or l i d)))
    (λ t. rw t (omega arith, same_is _ _ t))
    (λ t. let h = find_first name l d i (omega arith) in rw t (omega arith, h.1))

-- Where names serve once, the name of a symbol is found at its own number.
pub own_number : (sorts : List Name) (symbols : List Symbol) → Distinct (names_of sorts symbols) → (i : ℕ) → i < length symbols
    → symbol_number symbols (symbol_at symbols i).name ≡ i
own_number sorts symbols d i m =
    let h = find_first (λ (f : Symbol). f.name) symbols no_symbol i m in
    let j : ℕ = symbol_number symbols (symbol_at symbols i).name in
    by_less j i (λ k _. absurd (apart j k h.1)) (λ k _. let l = h.0 in omega arith)
  where
    at : (i : ℕ) → get_or (names_of sorts symbols) (length sorts + i) [] ≡ (symbol_at symbols i).name
    at i = get_or-append-add sorts (map (λ f. f.name) symbols) i [] ∙ get_or-map (λ (f : Symbol). f.name) symbols i no_symbol

    apart : (j : ℕ) → j < i → (symbol_at symbols j).name ≡ (symbol_at symbols i).name → ⊥
    apart j k e =
        let a : length (names_of sorts symbols) ≡ length sorts + length (map (λ (f : Symbol). f.name) symbols) = length-append sorts (map (λ f. f.name) symbols) in
        let b : length (map (λ (f : Symbol). f.name) symbols) ≡ length symbols = length-map symbols (λ (f : Symbol). f.name) in
        d (length sorts + j) (length sorts + i) (omega arith) (omega arith) (at j ∙ e ∙ sym (at i))
