-- Every loaded signature is legal. One induction over the declarations: each keeps what holds of the signature before it. Inside a function the bound on the
-- numbers of rules counts the clauses still to come, and the clauses of every other function are there.
use Rattle.std.specs.Prelude.{ℕ, zero, suc, ◌+◌, ◌-◌, ◌≤◌, ◌<◌, min, ◌≡◌, refl, false, ltb, length, get_or}
use Rattle.std.proofs.Common.{arith, sym, ◌∙◌, length-append, length-take, get_or-append-add, get_or-take, ltb-true, ltb-false}
use mathlib.Core.List.{List, [], ◌∷◌, ◌++◌, map}
use Rattle.std.proofs.lemmas.List.{length-map}
use Rattle.std.proofs.Math.ListN.{get_or-append, get_or-map}
use Rattle.std.proofs.Math.Seq.{get_or-append_seam}
use Rattle.terms.specs.Numbers.{by_bool, by_less, by_same}
use Rattle.term_parser.specs.Source.{Source, one, many, all_of}
use Rattle.term_parser.specs.Standing.{Written, applied, spelled, bytes_at, nil as none}
use Rattle.parser.specs.Source.{Clause, Declaration, sort, ctor, pred, rule, def, theorem, eval, check}
use Rattle.parser.specs.Declarations.{Declared}
use Rattle.names.specs.Names.{Name, Distinct, clause_name}
use Rattle.names.specs.Symbols.{Symbol, sort_number, symbol_number, no_symbol, symbol_at}
use Rattle.flattening.specs.Flattening.{Flat, flat, snoc, flatten_of}
use Rattle.resolution.specs.Rules.{Rule}
use Rattle.rules.specs.Rules.{Ruled, barred, ruled, rule_of, entering}
use Rattle.rules.specs.PatternLaws.{FewInputs, InputsUpto, Ruling, RuleMade, rule_made_lem}
use Rattle.clauses.specs.Clauses.{flat_rule, clause_of}
use Rattle.loader.specs.Signature.{Signature, empty, Step, no, on, and_then, is_taken, enter_sort, enter_symbol, Numbers, unknown, numbers, prepend, numbers_of, with_sorts, with_some, last_of, front_of, room_in, with_rule, last_judgment, first_of, Loaded, refused, loaded, go_on, enter_rule, enter_clause, enter_clauses, enter_judgments, declare, load_from, load_of}
use Rattle.loader.specs.Legal.{names_of, SymbolLegal, RuleLegal, ClauseFormed, no_rule, Legal}
use Rattle.loader.specs.LegalGrowth.{symbol_more, rule_more, rule_symbols}
use Rattle.loader.specs.DistinctLaws.{distinct_sort, distinct_symbol}
use Rattle.loader.specs.ClauseLaws.{clause_formed, clause_more, own_number}

-- Outcomes

-- P holds of the signature, if there is one.
abbrev pub Stepping : (Signature → Type 0) → Step → Type 0
Stepping P (no e) = Unit {0}
Stepping P (on s) = P s

abbrev pub Loading : (Signature → Type 0) → Loaded → Type 0
Loading P (refused e line) = Unit {0}
Loading P (loaded s) = P s

stepping_map : (P Q : Signature → Type 0) (o : Step) → ((t : Signature) → P t → Q t) → Stepping P o → Stepping Q o
stepping_map P Q (no e) f h = tt
stepping_map P Q (on t) f h = f t h

stepping_then : (P Q : Signature → Type 0) (o : Step) (next : Signature → Step) → ((t : Signature) → P t → Stepping Q (next t)) → Stepping P o → Stepping Q (and_then o next)
stepping_then P Q (no e) next f h = tt
stepping_then P Q (on t) next f h = f t h

-- What holds of each of a list and of one more holds of all.
pub all_more : {A : Type 0} (P : A → Type 0) (l : List A) (a d : A) → ((i : ℕ) → i < length l → P (get_or l i d)) → P a
    → (i : ℕ) → i < length (l ++ (a ∷ [])) → P (get_or (l ++ (a ∷ [])) i d)
all_more P l a d h p i m =
    let n : length (l ++ (a ∷ [])) ≡ length l + 1 = length-append l (a ∷ []) in
    by_less i (length l)
    (λ k _. rw (get_or-append l (a ∷ []) d i k) (h i k))
    (λ k _. let e : i ≡ length l = omega arith in rw (e, get_or-append_seam l a [] d) p)

-- What holds of every rule holds of the one that was made, if there is one.
ruling_all : (P : Rule → Type 0) (r : Ruled) → ((R : Rule) → P R) → Ruling (λ R room. P R) r
ruling_all P (barred e) f = tt
ruling_all P (ruled R room) f = f R

ruling_map : (P Q : Rule → Type 0) (r : Ruled) → ((R : Rule) → P R → Q R) → Ruling (λ R room. P R) r → Ruling (λ R room. Q R) r
ruling_map P Q (barred e) f h = tt
ruling_map P Q (ruled R room) f h = f R h

-- A signature between entries

-- The clauses of the symbol f with number i that are among these rules are in form.
abbrev ClausesOf : List Symbol → List Rule → ℕ → Symbol → Type 0
ClausesOf symbols rules i f = (j : ℕ) → j < f.clauses → f.first + j < length rules → ClauseFormed symbols i (get_or rules (f.first + j) no_rule)

-- Legal, where the rules that symbols name are among the first n, those still to come counted.
record Upto (n : ℕ) (s : Signature) : Type 0 where
  pub few_sorts : length s.sorts ≤ 256
  pub few_symbols : length s.symbols ≤ 1024
  pub few_rules : length s.rules ≤ 1024
  pub distinct : Distinct (names_of s.sorts s.symbols)
  pub symbols : (i : ℕ) → i < length s.symbols → SymbolLegal (length s.sorts) n (symbol_at s.symbols i)
  pub clauses : (i : ℕ) → i < length s.symbols → ClausesOf s.symbols s.rules i (symbol_at s.symbols i)
  pub rules : (i : ℕ) → i < length s.rules → RuleLegal s.symbols (length s.sorts) (get_or s.rules i no_rule)

legal_upto : {n : ℕ} {s : Signature} → length s.rules ≤ n → Legal s → Upto n s
legal_upto l h =
    record {
      few_sorts = h.few_sorts;
      few_symbols = h.few_symbols;
      few_rules = h.few_rules;
      distinct = h.distinct;
      symbols = λ i m. symbol_more (omega arith) l (h.symbols i m);
      clauses = λ i m j b r. h.clauses i m j b;
      rules = h.rules;
    }

upto_legal : {n : ℕ} {s : Signature} → n ≤ length s.rules → Upto n s → Legal s
upto_legal l h =
    record {
      few_sorts = h.few_sorts;
      few_symbols = h.few_symbols;
      few_rules = h.few_rules;
      distinct = h.distinct;
      symbols = λ i m. symbol_more (omega arith) l (h.symbols i m);
      clauses = λ i m j b. let c = (h.symbols i m).clauses in h.clauses i m j b (omega arith);
      rules = h.rules;
    }

-- Sorts

sort_legal : (s : Signature) (w : Name) → Legal s → Stepping Legal (enter_sort s w)
sort_legal s w h = by_bool (is_taken s.sorts s.symbols w)
    (λ e. rw e tt)
    (λ e. rw e (by_bool (ltb (length s.sorts) 256)
    (λ g. rw g (entered e (ltb-true _ _ g)))
    (λ g. rw g tt)))
  where
    entered : is_taken s.sorts s.symbols w ≡ false → length s.sorts < 256
        → Legal (record { sorts = s.sorts ++ (w ∷ []); symbols = s.symbols; rules = s.rules; nodes = s.nodes })
    entered e l =
        let n : length (s.sorts ++ (w ∷ [])) ≡ length s.sorts + 1 = length-append s.sorts (w ∷ []) in
        let m : length s.sorts ≤ length (s.sorts ++ (w ∷ [])) = omega arith in
        record {
          few_sorts = omega arith;
          few_symbols = h.few_symbols;
          few_rules = h.few_rules;
          distinct = distinct_sort s.sorts s.symbols w h.distinct e;
          symbols = λ i q. symbol_more m (omega arith) (h.symbols i q);
          clauses = h.clauses;
          rules = λ i q. rule_more m (h.rules i q);
        }

-- Symbols

-- The clauses of a symbol are still to come.
abbrev Fresh : Signature → Symbol → Type 0
Fresh s f = (j : ℕ) → j < f.clauses → length s.rules ≤ f.first

-- So with it the clauses that are there are in form.
clauses_symbol : (s : Signature) (f : Symbol) → Legal s → Fresh s f → (i : ℕ) → i < length (s.symbols ++ (f ∷ []))
    → ClausesOf (s.symbols ++ (f ∷ [])) s.rules i (symbol_at (s.symbols ++ (f ∷ [])) i)
clauses_symbol s f h fresh i m =
    let n : length (s.symbols ++ (f ∷ [])) ≡ length s.symbols + 1 = length-append s.symbols (f ∷ []) in
    by_less i (length s.symbols)
    (λ k _. rw (get_or-append s.symbols (f ∷ []) no_symbol i k)
    (λ j b r. clause_more s.symbols (f ∷ []) (h.rules ((symbol_at s.symbols i).first + j) r).premises_fit (h.clauses i k j b)))
    (λ k _. let e : i ≡ length s.symbols = omega arith in
    rw (e, get_or-append_seam s.symbols f [] no_symbol) (λ j b r. absurd (let q = fresh j b in omega arith)))

-- What a signature is with one symbol more, where rules are among the first n.
abbrev SymbolMore : ℕ → Signature → Symbol → Signature → Type 0
SymbolMore n s f t = Upto n t × (length t.rules ≡ length s.rules) × (t.symbols ≡ s.symbols ++ (f ∷ []))

-- A symbol that is legal once it has at most 16 inputs, where its rules are among the first n.
symbol_upto : (n : ℕ) (s : Signature) (f : Symbol) → length s.rules ≤ n → (length f.inputs ≤ 16 → SymbolLegal (length s.sorts) n f) → Fresh s f → Legal s
    → Stepping (SymbolMore n s f) (enter_symbol s f)
symbol_upto n s f l p fresh h = by_bool (is_taken s.sorts s.symbols f.name)
    (λ e. rw e tt)
    (λ e. rw e (by_bool (ltb 16 (length f.inputs))
    (λ g. rw g tt)
    (λ g. rw g (by_bool (ltb (length s.symbols) 1024)
    (λ k. rw k (entered e (p (ltb-false _ _ g)) (ltb-true _ _ k), refl, refl))
    (λ k. rw k tt)))))
  where
    entered : is_taken s.sorts s.symbols f.name ≡ false → SymbolLegal (length s.sorts) n f → length s.symbols < 1024
        → Upto n (record { sorts = s.sorts; symbols = s.symbols ++ (f ∷ []); rules = s.rules; nodes = s.nodes })
    entered e p m =
        let u : Upto n s = legal_upto l h in
        let k : length (s.symbols ++ (f ∷ [])) ≡ length s.symbols + 1 = length-append s.symbols (f ∷ []) in
        record {
          few_sorts = h.few_sorts;
          few_symbols = omega arith;
          few_rules = h.few_rules;
          distinct = distinct_symbol s.sorts s.symbols f h.distinct e;
          symbols = all_more (SymbolLegal (length s.sorts) n) s.symbols f no_symbol u.symbols p;
          clauses = clauses_symbol s f h fresh;
          rules = λ i q. rule_symbols s.symbols (f ∷ []) (h.rules i q);
        }

symbol_legal : (s : Signature) (f : Symbol) → (length f.inputs ≤ 16 → SymbolLegal (length s.sorts) (length s.rules) f) → Fresh s f → Legal s
    → Stepping Legal (enter_symbol s f)
symbol_legal s f p fresh h =
    stepping_map (SymbolMore (length s.rules) s f) Legal (enter_symbol s f) (λ t u. let e = u.1 in upto_legal (omega arith) u.0)
    (symbol_upto (length s.rules) s f (omega arith) p fresh h)

-- Rules

-- A rule that was made is legal.
made_legal : {symbols : List Symbol} {ns : ℕ} {name : Name} {room room' : ℕ} {R : Rule} → room ≤ 1024 → RuleMade symbols ns name room R room' → RuleLegal symbols ns R
made_legal l h =
    record {
      premises_fit = h.premises_fit;
      conclusion_fits = h.conclusion_fits;
      premises_judge = h.premises_judge;
      conclusion_judges = h.conclusion_judges;
      few = h.premises_few;
      variables = h.variables;
      sorted = λ i q. (h.sorts_known i q, h.sorts_upto i q);
      order = h.order;
      small = let w = h.words_fit in omega arith;
    }

-- The signature with one rule more, all else as before.
abbrev OneMore : ℕ → Signature → Signature → Type 0
OneMore n s t = Upto n t × (length t.rules ≡ suc (length s.rules)) × (t.symbols ≡ s.symbols)

-- The rule R is a clause in form of each symbol that has a clause of the next number.
abbrev NextClause : Signature → Rule → Type 0
NextClause s R = (i : ℕ) → i < length s.symbols → (j : ℕ) → j < (symbol_at s.symbols i).clauses → (symbol_at s.symbols i).first + j ≡ length s.rules
    → ClauseFormed s.symbols i R

-- With such a rule the clauses that are there are in form.
clauses_rule : (symbols : List Symbol) (rules : List Rule) (R : Rule) (i : ℕ) (f : Symbol) → ClausesOf symbols rules i f
    → ((j : ℕ) → j < f.clauses → f.first + j ≡ length rules → ClauseFormed symbols i R) → ClausesOf symbols (rules ++ (R ∷ [])) i f
clauses_rule symbols rules R i f h g j b r =
    let n : length (rules ++ (R ∷ [])) ≡ length rules + 1 = length-append rules (R ∷ []) in
    by_less (f.first + j) (length rules)
    (λ k _. rw (get_or-append rules (R ∷ []) no_rule (f.first + j) k) (h j b k))
    (λ k _. let e : f.first + j ≡ length rules = omega arith in rw (e, get_or-append_seam rules R [] no_rule) (g j b e))

with_rule_lem : (n room : ℕ) (s : Signature) (name : Name) (r : Ruled) → room ≤ 1024 → Upto n s
    → Ruling (λ R room'. RuleMade s.symbols (length s.sorts) name room R room') r → Ruling (λ R room'. NextClause s R) r
    → Stepping (OneMore n s) (with_rule s room (entering (length s.rules) r))
with_rule_lem n room s name (barred e) l u h new = tt
with_rule_lem n room s name (ruled R room') l u h new =
    let k : length (s.rules ++ (R ∷ [])) ≡ length s.rules + 1 = length-append s.rules (R ∷ []) in
    by_bool (ltb (length s.rules) 1024)
    (λ e. let m : length s.rules < 1024 = ltb-true _ _ e in
    rw e (
      record {
        few_sorts = u.few_sorts;
        few_symbols = u.few_symbols;
        few_rules = omega arith;
        distinct = u.distinct;
        symbols = u.symbols;
        clauses = λ i q. clauses_rule s.symbols s.rules R i (symbol_at s.symbols i) (u.clauses i q) (new i q);
        rules = all_more (RuleLegal s.symbols (length s.sorts)) s.rules R no_rule u.rules (made_legal l h);
      },
      omega arith,
      refl,
    ))
    (λ e. rw e tt)

few_inputs : (n : ℕ) (s : Signature) → Upto n s → FewInputs s.symbols
few_inputs n s u i m = (u.symbols i m).few

inputs_upto : (n : ℕ) (s : Signature) → Upto n s → InputsUpto (length s.sorts) s.symbols
inputs_upto n s u i m j l = ((u.symbols i m).inputs j l).1

-- The clauses of the symbol with number `own`, which is named f, are entered; those of every other symbol are there.
record Clausing (s : Signature) (f : Name) (own : ℕ) : Type 0 where
  pub there : own < length s.symbols
  pub named : (symbol_at s.symbols own).name ≡ f
  pub others : (i : ℕ) → i < length s.symbols → (i ≡ own → ⊥) → (symbol_at s.symbols i).first + (symbol_at s.symbols i).clauses ≤ length s.rules

-- One rule more leaves it so.
clausing_more : (s t : Signature) (f : Name) (own : ℕ) → Clausing s f own → length t.rules ≡ suc (length s.rules) → t.symbols ≡ s.symbols → Clausing t f own
clausing_more s t f own q l e =
    record {
      there = rw e q.there;
      named = rw e q.named;
      others = rw e (λ i m d. let o = q.others i m d in omega arith);
    }

-- A clause of f that was made is a clause in form of every symbol that has a clause of the next number: only f has.
next_clause : (n : ℕ) (s : Signature) (f : Name) (own : ℕ) (R : Rule) → Upto n s → Clausing s f own → ClauseFormed s.symbols (symbol_number s.symbols f) R → NextClause s R
next_clause n s f own R u q h i m j b e =
    let o : symbol_number s.symbols f ≡ own = rw q.named at (own_number s.sorts s.symbols u.distinct own q.there) in
    by_same i own
    (λ p _. rw (p, ← o) h)
    (λ p _. absurd (let l = q.others i m p in omega arith))

module _ (limit : ℕ) (text : List ℕ) where
  rule_upto : (n : ℕ) (s : Signature) (name : Name) (ps : Written many) (c : Written one) → Upto n s
      → Ruling (λ R room. NextClause s R) (rule_of s.symbols name ps c (room_in limit s)) → Stepping (OneMore n s) (enter_rule limit text s name ps c)
  rule_upto n s name ps c u new =
      with_rule_lem n (room_in limit s) s name (rule_of s.symbols name ps c (room_in limit s)) (omega arith) u
      (rule_made_lem s.symbols (length s.sorts) (few_inputs n s u) (inputs_upto n s u) name ps c (room_in limit s)) new

  rule_legal : (s : Signature) (name : Name) (ps : Written many) (c : Written one) → Legal s → Stepping Legal (enter_rule limit text s name ps c)
  rule_legal s name ps c h =
      let n : ℕ = suc (length s.rules) in
      stepping_map (OneMore n s) Legal (enter_rule limit text s name ps c) (λ t u. let e = u.1 in upto_legal (omega arith) u.0) (rule_upto n s name ps c (legal_upto (omega arith) h)
      (ruling_all (NextClause s) (rule_of s.symbols name ps c (room_in limit s)) (λ R i m j b e. absurd (let q = (h.symbols i m).clauses in omega arith))))

  judgments_legal : (s : Signature) (name : Name) (js : List (Source one)) → Legal s → Stepping Legal (enter_judgments limit text s name js)
  judgments_legal s name [] h = tt
  judgments_legal s name (j ∷ js) h = rule_legal s name (spelled text (all_of (front_of (j ∷ js)))) (spelled text (last_judgment j js)) h

  -- A clause is a rule of its flattened parts.
  clause_upto : (n : ℕ) (s : Signature) (f : Name) (k : ℕ) (c : Clause) (own : ℕ) → Upto n s → Clausing s f own → Stepping (OneMore n s) (enter_clause limit text s f k c)
  unfolding clause_of
  clause_upto n s f k c own u q =
      go (flatten_of s.symbols (spelled text c.body) none)
      (ruling_map (ClauseFormed s.symbols (symbol_number s.symbols f)) (NextClause s)
      (clause_of s.symbols f k (spelled text (all_of c.patterns)) (spelled text c.body) (room_in limit s))
      (λ R h. next_clause n s f own R u q h)
      (clause_formed s.symbols f k (spelled text (all_of c.patterns)) (spelled text c.body) (room_in limit s)))
    where
      go : (o : Flat one) → Ruling (λ R room. NextClause s R) (flat_rule s.symbols f k (spelled text (all_of c.patterns)) o (room_in limit s))
          → Stepping (OneMore n s) (with_rule s (room_in limit s) (entering (length s.rules) (flat_rule s.symbols f k (spelled text (all_of c.patterns)) o (room_in limit s))))
      go (flat r ps) new = rule_upto n s (clause_name f k) ps (applied f (snoc (spelled text (all_of c.patterns)) r)) u new

  -- The clauses still to come make up the bound.
  clauses_legal : (n : ℕ) (cs : List Clause) (s : Signature) (f : Name) (k own : ℕ) → length s.rules + length cs ≡ n → Upto n s → Clausing s f own
      → Stepping Legal (enter_clauses limit text s f k cs)
  unfolding enter_clauses
  clauses_legal n [] s f k own e u q = upto_legal (omega arith) u
  clauses_legal n (c ∷ cs) s f k own e u q =
      stepping_then (OneMore n s) Legal (enter_clause limit text s f k c) (λ t. enter_clauses limit text t f (suc k) cs)
      (λ t v. let d = v.1 in clauses_legal n cs t f (suc k) own (omega arith) v.0 (clausing_more s t f own q v.1 v.2))
      (clause_upto n s f k c own u q)

-- The numbers of an arrow's sorts

-- Each is the number of one of n sorts.
abbrev pub Sorted : ℕ → List ℕ → Type 0
Sorted n ns = (j : ℕ) → j < length ns → (0 < get_or ns j 0) × (get_or ns j 0 ≤ n)

abbrev pub Numbering : (List ℕ → Type 0) → Numbers → Type 0
Numbering P unknown = Unit {0}
Numbering P (numbers ns) = P ns

prepend_sorted : (n m : ℕ) (o : Numbers) → 0 < m → m ≤ n → Numbering (Sorted n) o → Numbering (Sorted n) (prepend m o)
prepend_sorted n m unknown p q h = tt
prepend_sorted n m (numbers ns) p q h = go
  where
    go : Sorted n (m ∷ ns)
    go zero l = (p, q)
    go (suc j) l = h j (omega arith)

pub numbers_sorted : (sorts : List Name) (ws : List Name) → Numbering (Sorted (length sorts)) (numbers_of sorts ws)
unfolding numbers_of
numbers_sorted sorts [] = λ j l. absurd (omega arith)
numbers_sorted sorts (w ∷ ws) = by_bool (ltb (sort_number sorts w) (length sorts))
    (λ e. let l : sort_number sorts w < length sorts = ltb-true _ _ e in
    rw e (prepend_sorted (length sorts) (suc (sort_number sorts w)) (numbers_of sorts ws) (omega arith) (omega arith) (numbers_sorted sorts ws)))
    (λ e. rw e tt)

pub front_sorted : (n : ℕ) (ns : List ℕ) → Sorted n ns → Sorted n (front_of ns)
front_sorted n ns h j l =
    let m : length (front_of ns) ≡ min (length ns - 1) (length ns) = length-take (length ns - 1) ns in
    rw (get_or-take (length ns - 1) ns j 0 (omega arith)) (h j (omega arith))

last_sorted : (n : ℕ) (ns : List ℕ) → Sorted n ns → last_of ns ≤ n
last_sorted n [] h = omega arith
last_sorted n (m ∷ []) h = (h 0 (omega arith)).1
last_sorted n (m ∷ k ∷ ns) h = last_sorted n (k ∷ ns) (λ j l. h (suc j) (omega arith))

with_sorts_lem : (P : List ℕ → Type 0) (o : Numbers) (next : List ℕ → Step) → Numbering P o → ((ns : List ℕ) → P ns → Stepping Legal (next ns)) → Stepping Legal (with_sorts o next)
with_sorts_lem P unknown next h f = tt
with_sorts_lem P (numbers ns) next h f = f ns h

with_some_lem : (ns : List ℕ) (o : Step) → (0 < length ns → Stepping Legal o) → Stepping Legal (with_some ns o)
with_some_lem [] o f = tt
with_some_lem (n ∷ ns) o f = f (omega arith)

-- Declarations

-- The symbols of a constructor and of a predicate.
ctor_legal : (s : Signature) (w : Name) (ns : List ℕ) → Legal s → Sorted (length s.sorts) ns
    → Stepping Legal (enter_symbol s (record { name = w; inputs = front_of ns; output = last_of ns; function = 0; first = 0; clauses = 0 }))
ctor_legal s w ns h p =
    symbol_legal s (record { name = w; inputs = front_of ns; output = last_of ns; function = 0; first = 0; clauses = 0 }) (λ l. record {
      output = last_sorted (length s.sorts) ns p;
      few = l;
      inputs = front_sorted (length s.sorts) ns p;
      mark = omega arith;
      predicate = λ e. absurd (omega arith);
      result = λ e. absurd (omega arith);
      clauses = omega arith;
      none = λ e. refl;
      others = λ e. refl;
    }) (λ j l. absurd (omega arith)) h

pred_legal : (s : Signature) (w : Name) (ns : List ℕ) → Legal s → Sorted (length s.sorts) ns
    → Stepping Legal (enter_symbol s (record { name = w; inputs = ns; output = 0; function = 0; first = 0; clauses = 0 }))
pred_legal s w ns h p =
    symbol_legal s (record { name = w; inputs = ns; output = 0; function = 0; first = 0; clauses = 0 }) (λ l. record {
      output = omega arith;
      few = l;
      inputs = p;
      mark = omega arith;
      predicate = λ e. refl;
      result = λ e. absurd (omega arith);
      clauses = omega arith;
      none = λ e. refl;
      others = λ e. refl;
    }) (λ j l. absurd (omega arith)) h

-- The clauses of a function are the next rules.
first_upto : (s : Signature) (cs : List Clause) → first_of s cs + length cs ≤ length s.rules + length cs
first_upto s [] = omega arith
first_upto s (c ∷ cs) = omega arith

first_none : (s : Signature) (cs : List Clause) → length cs ≡ 0 → first_of s cs ≡ 0
first_none s [] e = refl
first_none s (c ∷ cs) e = absurd (omega arith)

first_fresh : (s : Signature) (cs : List Clause) (j : ℕ) → j < length cs → length s.rules ≤ first_of s cs
first_fresh s [] j l = absurd (omega arith)
first_fresh s (c ∷ cs) j l = omega arith

-- The clauses of the symbol that was entered last are to be entered.
clausing_new : (s t : Signature) (f : Symbol) → Legal s → length t.rules ≡ length s.rules → t.symbols ≡ s.symbols ++ (f ∷ []) → Clausing t f.name (length s.symbols)
clausing_new s t f h l e =
    let n : length (s.symbols ++ (f ∷ [])) ≡ length s.symbols + 1 = length-append s.symbols (f ∷ []) in
    record {
      there = rw e (omega arith);
      named = rw (e, get_or-append_seam s.symbols f [] no_symbol) refl;
      others = rw e (λ i m d. let k : i < length s.symbols = by_less i (length s.symbols) (λ y _. y) (λ y _. absurd (d (omega arith))) in
          let o = (h.symbols i k).clauses in rw (get_or-append s.symbols (f ∷ []) no_symbol i k, l) o);
    }

go_on_lem : (o : Step) (line : ℕ) (next : Signature → Loaded) → Stepping Legal o → ((t : Signature) → Legal t → Loading Legal (next t)) → Loading Legal (go_on o line next)
go_on_lem (no e) line next h f = tt
go_on_lem (on t) line next h f = f t h

module _ (limit : ℕ) (text : List ℕ) where
  -- A function, and then its clauses.
  def_legal : (s : Signature) (w : Name) (ns : List ℕ) (cs : List Clause) → Legal s → Sorted (length s.sorts) ns → 0 < length ns
      → Stepping Legal (and_then (enter_symbol s (record { name = w; inputs = ns; output = 0; function = 1; first = first_of s cs; clauses = length cs }))
      (λ t. enter_clauses limit text t w 0 cs))
  def_legal s w ns cs h p some =
      let n : ℕ = length s.rules + length cs in
      let f : Symbol = record { name = w; inputs = ns; output = 0; function = 1; first = first_of s cs; clauses = length cs } in
      stepping_then (SymbolMore n s f) Legal (enter_symbol s f) (λ t. enter_clauses limit text t w 0 cs)
      (λ t u. let e = u.1 in clauses_legal limit text n cs t w 0 (length s.symbols) (omega arith) u.0 (clausing_new s t f h u.1 u.2))
      (symbol_upto n s f (omega arith) (λ l. record {
        output = omega arith;
        few = l;
        inputs = p;
        mark = omega arith;
        predicate = λ e. refl;
        result = λ e. some;
        clauses = first_upto s cs;
        none = first_none s cs;
        others = λ e. absurd (omega arith);
      }) (first_fresh s cs) h)

  -- Each declaration keeps a signature legal.
  pub declare_legal : (s : Signature) (d : Declaration) → Legal s → Stepping Legal (declare limit text s d)
  declare_legal s (sort p) h = sort_legal s (bytes_at text p) h
  declare_legal s (ctor p ss) h =
      with_sorts_lem (Sorted (length s.sorts)) (numbers_of s.sorts (map (bytes_at text) ss)) _ (numbers_sorted s.sorts (map (bytes_at text) ss))
      (λ ns q. with_some_lem ns _ (λ l. ctor_legal s (bytes_at text p) ns h q))
  declare_legal s (pred p ss) h =
      with_sorts_lem (Sorted (length s.sorts)) (numbers_of s.sorts (map (bytes_at text) ss)) _ (numbers_sorted s.sorts (map (bytes_at text) ss))
      (λ ns q. pred_legal s (bytes_at text p) ns h q)
  declare_legal s (rule p js) h = judgments_legal limit text s (bytes_at text p) js h
  declare_legal s (def p ss cs) h =
      with_sorts_lem (Sorted (length s.sorts)) (numbers_of s.sorts (map (bytes_at text) ss)) _ (numbers_sorted s.sorts (map (bytes_at text) ss))
      (λ ns q. with_some_lem ns _ (λ l. def_legal s (bytes_at text p) ns cs h q l))
  declare_legal s (theorem p bs js t) h = tt
  declare_legal s (eval t) h = h
  declare_legal s (check t) h = tt

  -- So do all.
  pub from_legal : (ds : List Declared) (s : Signature) → Legal s → Loading Legal (load_from limit text s ds)
  unfolding load_from
  from_legal [] s h = h
  from_legal (d ∷ ds) s h =
      go_on_lem (declare limit text s d.declaration) d.line (λ t. load_from limit text t ds) (declare_legal s d.declaration h) (λ t g. from_legal ds t g)

pub empty_legal : Legal empty
empty_legal =
    record {
      few_sorts = omega arith;
      few_symbols = omega arith;
      few_rules = omega arith;
      distinct = λ i j l m e. omega arith;
      symbols = λ i l. absurd (omega arith);
      clauses = λ i l. absurd (omega arith);
      rules = λ i l. absurd (omega arith);
    }

-- A loaded signature is legal.
pub load_legal : (limit : ℕ) (text : List ℕ) (ds : List Declared) (s : Signature) → load_of limit text ds ≡ loaded s → Legal s
load_legal limit text ds s e = let h = from_legal limit text ds empty empty_legal in rw e at h

-- Symbols with the same name are the same.
pub symbols_by_name : {s : Signature} → Legal s → (i j : ℕ) → i < length s.symbols → j < length s.symbols → (symbol_at s.symbols i).name ≡ (symbol_at s.symbols j).name → i ≡ j
symbols_by_name {s} h i j l m e =
    by_less i j (λ k _. absurd (apart i j k m e))
    (λ k _. by_less j i (λ q _. absurd (apart j i q l (sym e))) (λ q _. omega arith))
  where
    at : (i : ℕ) → get_or (names_of s.sorts s.symbols) (length s.sorts + i) [] ≡ (symbol_at s.symbols i).name
    at i = get_or-append-add s.sorts (map (λ f. f.name) s.symbols) i [] ∙ get_or-map (λ (f : Symbol). f.name) s.symbols i no_symbol

    apart : (i j : ℕ) → i < j → j < length s.symbols → (symbol_at s.symbols i).name ≡ (symbol_at s.symbols j).name → ⊥
    apart i j k m e =
        let a : length (names_of s.sorts s.symbols) ≡ length s.sorts + length (map (λ (f : Symbol). f.name) s.symbols) = length-append s.sorts (map (λ f. f.name) s.symbols) in
        let b : length (map (λ (f : Symbol). f.name) s.symbols) ≡ length s.symbols = length-map s.symbols (λ (f : Symbol). f.name) in
        h.distinct (length s.sorts + i) (length s.sorts + j) (omega arith) (omega arith) (at i ∙ e ∙ sym (at j))
