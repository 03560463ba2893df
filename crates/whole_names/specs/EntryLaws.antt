-- The names of a signature that is loaded are those that its declarations' titles spell, in text order.
use Prim.Native.Nat.{ℕ, zero, suc, ◌+◌, ◌-◌}
use native.Mathlib.Omega.{arith}
use Rattle.std.specs.Prelude.{◌≡◌, refl, ltb, length}
use Rattle.std.proofs.Common.{sym, ap, ◌∙◌, ne_eqb}
use Rattle.std.proofs.Math.Path.{subst}
use mathlib.Core.List.{List, [], ◌∷◌, ◌++◌, map}
use Rattle.terms.specs.Numbers.{by_bool}
use Rattle.terms.specs.Term.{Terms}
use Rattle.term_parser.specs.Source.{Place, place, Source, one, many, all_of}
use Rattle.term_parser.specs.Standing.{Written, applied, size, spelled, bytes_at, nil as none}
use Rattle.parser.specs.Source.{Clause, Declaration, sort, ctor, pred, rule, def, theorem, eval, check}
use Rattle.parser.specs.Declarations.{Declared}
use Rattle.names.specs.Names.{Name, clause_name}
use Rattle.names.specs.Symbols.{Symbol}
use Rattle.flattening.specs.Flattening.{Flat, flat, snoc, flatten_of}
use Rattle.patterns.specs.Patterns.{Out, bad, good, pattern_of}
use Rattle.resolution.specs.Rules.{Rule}
use Rattle.rules.specs.Rules.{Ruled, barred, ruled, all_known, closed, concluded, rule_of, entering}
use Rattle.rules.specs.PatternLaws.{Ruling}
use Rattle.clauses.specs.Clauses.{flat_rule, clause_of}
use Rattle.loader.specs.Signature.{Signature, empty, Step, no, on, and_then, unless, sort_refusal, enter_sort, symbol_refusal, enter_symbol, Numbers, unknown, numbers, numbers_of, with_sorts, with_some, last_of, front_of, room_in, with_rule, last_judgment, first_of, Loaded, loaded, go_on, enter_rule, enter_clause, enter_clauses, enter_judgments, declare, load_from, load_of}
use Rattle.loader.specs.LegalLaws.{Stepping, Loading}
use Rattle.rules.specs.declared.Title.{Title}
use Rattle.whole_names.specs.ListLaws.{map_more, both_more}
use Rattle.loader.specs.Stored.{Titles, untitled, title_at, sort_titled, symbol_titled, with_clauses, entitled, titles_from, titles_of}
use Rattle.whole_names.specs.Titles.{spelling}

-- The number of a clause stands behind its function's name.
clause_spelling : (text : List ℕ) (p : Place) (n : ℕ) → clause_name (bytes_at text p) n ≡ spelling text (title_at p (n + 1))
clause_spelling text (place a b) n = let z : n + 1 - 1 ≡ n = omega arith in rw (ne_eqb (n + 1) 0 (λ q. omega arith), z)

-- Steps

unless_steps : (P : Signature → Type 0) (e : ℕ) (s : Signature) → P s → Stepping P (unless e s)
unless_steps P zero s h = h
unless_steps P (suc e) s h = tt

sorts_steps : (P : Signature → Type 0) (o : Numbers) (next : List ℕ → Step) → ((ns : List ℕ) → Stepping P (next ns))
    → Stepping P (with_sorts o next)
sorts_steps P unknown next f = tt
sorts_steps P (numbers ns) next f = f ns

some_steps : (P : Signature → Type 0) (ns : List ℕ) (o : Step) → Stepping P o → Stepping P (with_some ns o)
some_steps P [] o h = tt
some_steps P (n ∷ ns) o h = h

-- A rule has the name that it is given.
rule_named : (symbols : List Symbol) (name : Name) (ps : Written many) (c : Written one) (room : ℕ)
    → Ruling (λ R left. R.name ≡ name) (rule_of symbols name ps c room)
unfolding rule_of
rule_named symbols name ps c room = by_bool (ltb 16 (size ps)) (λ e. rw e tt) (λ e. rw e (premises (pattern_of symbols ps [] [] room)))
  where
    last : (us : Terms) (o : Out one) → Ruling (λ R left. R.name ≡ name) (closed name us o)
    last us (bad e) = tt
    last us (good t vs left) = by_bool (all_known vs) (λ e. rw e refl) (λ e. rw e tt)

    premises : (o : Out many) → Ruling (λ R left. R.name ≡ name) (concluded symbols name c o)
    premises (bad e) = tt
    premises (good us vs left) = last us (pattern_of symbols c (0 ∷ []) vs left)

ruling_is : (v w : Name) (r : Ruled) → v ≡ w → Ruling (λ R left. R.name ≡ v) r → Ruling (λ R left. R.name ≡ w) r
ruling_is v w (barred e) q h = tt
ruling_is v w (ruled R left) q h = h ∙ q

then_steps : (P Q : Signature → Type 0) (o : Step) (next : Signature → Step) → Stepping P o
    → ((s : Signature) → P s → Stepping Q (next s)) → Stepping Q (and_then o next)
then_steps P Q (no e) next h f = tt
then_steps P Q (on s) next h f = f s h

then_loads : (P Q : Signature → Type 0) (o : Step) (line : ℕ) (next : Signature → Loaded) → Stepping P o
    → ((s : Signature) → P s → Loading Q (next s)) → Loading Q (go_on o line next)
then_loads P Q (no e) line next h f = tt
then_loads P Q (on s) line next h f = f s h

module _ (text : List ℕ) where
  -- The names of the signature are those that the titles spell.
  record Named (t : Titles) (s : Signature) : Type 0 where
    pub sorts : s.sorts ≡ map (bytes_at text) t.sorts
    pub symbols : map (λ f. f.name) s.symbols ≡ map (bytes_at text) t.symbols
    pub rules : map (λ r. r.name) s.rules ≡ map (spelling text) t.rules

  abbrev with_rules : Titles → List Title → Titles
  with_rules t rs = record { sorts = t.sorts; symbols = t.symbols; rules = rs }

  sort_named : (t : Titles) (s : Signature) (p : Place) → Named t s → Stepping (Named (sort_titled t p)) (enter_sort s (bytes_at text p))
  sort_named t s p h =
      unless_steps (Named (sort_titled t p)) (sort_refusal s.sorts s.symbols (bytes_at text p)) _
      (record { sorts = ap (λ l. l ++ (bytes_at text p ∷ [])) h.sorts ∙ sym (map_more (bytes_at text) t.sorts p); symbols = h.symbols; rules = h.rules })

  symbol_named_lem : (t : Titles) (s : Signature) (p : Place) (f : Symbol) → f.name ≡ bytes_at text p → Named t s
      → Stepping (Named (symbol_titled t p)) (enter_symbol s f)
  symbol_named_lem t s p f e h =
      unless_steps (Named (symbol_titled t p)) (symbol_refusal s.sorts s.symbols f.name (length f.inputs)) _
      (record { sorts = h.sorts; symbols = both_more (λ (f : Symbol). f.name) (bytes_at text) s.symbols t.symbols f p h.symbols e; rules = h.rules })

  with_named : (t : Titles) (s : Signature) (x : Title) (room : ℕ) (r : Ruled) → Ruling (λ R left. R.name ≡ spelling text x) r → Named t s
      → Stepping (Named (with_rules t (t.rules ++ (x ∷ [])))) (with_rule s room (entering (length s.rules) r))
  with_named t s x room (barred e) q h = tt
  with_named t s x room (ruled R left) q h =
      by_bool (ltb (length s.rules) 1024)
      (λ e. rw e (record { sorts = h.sorts; symbols = h.symbols; rules = both_more (λ (R : Rule). R.name) (spelling text) s.rules t.rules R x h.rules q }))
      (λ e. rw e tt)

  -- Rules and clauses

  module _ (limit : ℕ) where
    rule_enters : (t : Titles) (s : Signature) (x : Title) (name : Name) (ps : Written many) (c : Written one) → name ≡ spelling text x
        → Named t s
        → Stepping (Named (with_rules t (t.rules ++ (x ∷ [])))) (enter_rule limit text s name ps c)
    rule_enters t s x name ps c e h =
        let r : Ruled = rule_of s.symbols name ps c (room_in limit s) in
        with_named t s x (room_in limit s) r (ruling_is name (spelling text x) r e (rule_named s.symbols name ps c (room_in limit s))) h

    judgments_named : (t : Titles) (s : Signature) (x : Title) (js : List (Source one)) → Named t s
        → Stepping (Named (with_rules t (t.rules ++ (x ∷ [])))) (enter_judgments limit text s (spelling text x) js)
    judgments_named t s x [] h = tt
    judgments_named t s x (j ∷ js) h =
        rule_enters t s x (spelling text x) (spelled text (all_of (front_of (j ∷ js)))) (spelled text (last_judgment j js)) refl h

    clause_named : (t : Titles) (s : Signature) (p : Place) (n : ℕ) (c : Clause) → Named t s
        → Stepping (Named (with_rules t (t.rules ++ (title_at p (n + 1) ∷ [])))) (enter_clause limit text s (bytes_at text p) n c)
    unfolding clause_of
    clause_named t s p n c h = go (flatten_of s.symbols (spelled text c.body) none)
      where
        go : (o : Flat one) → Stepping (Named (with_rules t (t.rules ++ (title_at p (n + 1) ∷ []))))
            (with_rule s (room_in limit s) (entering (length s.rules) (flat_rule s.symbols (bytes_at text p) n (spelled text (all_of c.patterns)) o (room_in limit s))))
        go (flat r ps) =
            rule_enters t s (title_at p (n + 1)) (clause_name (bytes_at text p) n) ps
            (applied (bytes_at text p) (snoc (spelled text (all_of c.patterns)) r)) (clause_spelling text p n) h

    clauses_named : (cs : List Clause) (t : Titles) (s : Signature) (p : Place) (n : ℕ) → Named t s
        → Stepping (Named (with_rules t (with_clauses t.rules p n cs))) (enter_clauses limit text s (bytes_at text p) n cs)
    unfolding enter_clauses with_clauses
    clauses_named [] t s p n h = h
    clauses_named (c ∷ cs) t s p n h =
        let t₁ : Titles = with_rules t (t.rules ++ (title_at p (n + 1) ∷ [])) in
        let z : n + 1 ≡ suc n = omega arith in
        then_steps (Named t₁) (Named (with_rules t (with_clauses t₁.rules p (n + 1) cs))) (enter_clause limit text s (bytes_at text p) n c)
        (λ u. enter_clauses limit text u (bytes_at text p) (suc n) cs)
        (clause_named t s p n c h)
        (λ u g. subst (λ (k : ℕ). Stepping (Named (with_rules t (with_clauses t₁.rules p k cs))) (enter_clauses limit text u (bytes_at text p) (suc n) cs)) (sym z) (clauses_named cs t₁ u p (suc n) g))

    -- Declarations

    -- A function: its symbol, and then its clauses.
    def_named : (t : Titles) (s : Signature) (p : Place) (ss : List Place) (cs : List Clause) (f : Symbol) → f.name ≡ bytes_at text p
        → Named t s
        → Stepping (Named (entitled t (def p ss cs))) (and_then (enter_symbol s f) (λ u. enter_clauses limit text u (bytes_at text p) 0 cs))
    def_named t s p ss cs f e h =
        then_steps (Named (symbol_titled t p)) (Named (entitled t (def p ss cs))) (enter_symbol s f)
        (λ u. enter_clauses limit text u (bytes_at text p) 0 cs)
        (symbol_named_lem t s p f e h) (λ u g. clauses_named cs (symbol_titled t p) u p 0 g)

    declare_named : (t : Titles) (s : Signature) (d : Declaration) → Named t s → Stepping (Named (entitled t d)) (declare limit text s d)
    declare_named t s (sort p) h = sort_named t s p h
    declare_named t s (ctor p ss) h =
        sorts_steps (Named (symbol_titled t p)) (numbers_of s.sorts (map (bytes_at text) ss)) _
        (λ ns. some_steps (Named (symbol_titled t p)) ns _
        (symbol_named_lem t s p (record { name = bytes_at text p; inputs = front_of ns; output = last_of ns; function = 0; first = 0; clauses = 0 }) refl h))
    declare_named t s (pred p ss) h =
        sorts_steps (Named (symbol_titled t p)) (numbers_of s.sorts (map (bytes_at text) ss)) _
        (λ ns. symbol_named_lem t s p (record { name = bytes_at text p; inputs = ns; output = 0; function = 0; first = 0; clauses = 0 }) refl h)
    declare_named t s (rule (place a b) js) h = judgments_named t s (title_at (place a b) 0) js h
    declare_named t s (def p ss cs) h =
        sorts_steps (Named (entitled t (def p ss cs))) (numbers_of s.sorts (map (bytes_at text) ss)) _
        (λ ns. some_steps (Named (entitled t (def p ss cs))) ns _
        (def_named t s p ss cs (record { name = bytes_at text p; inputs = ns; output = 0; function = 1; first = first_of s cs; clauses = length cs }) refl h))
    declare_named t s (theorem p bs js x) h = tt
    declare_named t s (eval x) h = h
    declare_named t s (check x) h = tt

    from_named : (ds : List Declared) (t : Titles) (s : Signature) → Named t s
        → Loading (Named (titles_from t ds)) (load_from limit text s ds)
    unfolding load_from titles_from
    from_named [] t s h = h
    from_named (d ∷ ds) t s h =
        then_loads (Named (entitled t d.declaration)) (Named (titles_from (entitled t d.declaration) ds))
        (declare limit text s d.declaration) d.line (λ u. load_from limit text u ds)
        (declare_named t s d.declaration h) (λ u g. from_named ds (entitled t d.declaration) u g)

-- The names of a loaded signature are those that its declarations' titles spell.
pub load_names : (limit : ℕ) (text : List ℕ) (ds : List Declared) (s : Signature) → load_of limit text ds ≡ loaded s
    → (s.sorts ≡ map (bytes_at text) (titles_of ds).sorts)
    × (map (λ f. f.name) s.symbols ≡ map (bytes_at text) (titles_of ds).symbols)
    × (map (λ r. r.name) s.rules ≡ map (spelling text) (titles_of ds).rules)
load_names limit text ds s e =
    let h = from_named text limit ds untitled empty (record { sorts = refl; symbols = refl; rules = refl }) in
    let g : Named text (titles_of ds) s = rw e at h in
    (g.sorts, g.symbols, g.rules)
