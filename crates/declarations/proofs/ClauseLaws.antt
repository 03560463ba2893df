-- Laws of clauses in rows: how many patterns there are, and clauses one behind the other.
use mathlib.Core.Path.{◌≡◌, refl, sym, ap, ◌∙◌, subst}
use mathlib.Core.List.{List, [], ◌∷◌, ◌++◌}
use Prim.Native.Nat.{ℕ, suc, ◌+◌, ◌≤◌, ◌<◌}
use native.Mathlib.Omega.{arith}
use lib.ListN.{length, length-append}
use Rattle.source_text.specs.Parts.{part_of}
use Rattle.term_parser.specs.Source.{place, all_of}
use Rattle.term_parser.specs.Standing.{size, spelled}
use Rattle.parser.specs.Source.{Clause}
use Rattle.names.specs.Names.{Name}
use Rattle.names.specs.NamePlaces.{NamePlace}
use Rattle.names.specs.Symbols.{Rows, Symbol, column, row_at, symbols_of}
use Rattle.rules.specs.PatternLaws.{InputsUpto}
use Rattle.rules.specs.declared.Title.{Title}
use Rattle.clauses.specs.Promises as clauses
use Rattle.rules.specs.Rules.{Ruled, barred, ruled, entering}
use Rattle.clauses.specs.Clauses.{clause_of}
use Rattle.loader.specs.Signature.{Signature, Step, no, on, and_then, room_in, with_rule, enter_clause, enter_clauses}
use Rattle.loader.specs.Stored.{title_at, with_clauses}
use Rattle.loader.specs.Entering.{Storage}
use Rattle.loader.specs.TermRows.{spelled_size, ClauseStands}
use Rattle.declarations.specs.Steps.{Ready, Filled, Advanced, ClauseDeclared, ClausesStand}
use Rattle.declarations.specs.declared.State.{State}
use Rattle.std.specs.Prelude.{Result, Ok, Err}
use Rattle.refusals.specs.declared.Refusal.{Refusal}
use Rattle.refusals.specs.Refusals.{number_of}
use Rattle.declarations.specs.declared.Progress.{Progress}

-- As many patterns as the clause's row says.
pub patterns_number : {text : List ℕ} {rows : Rows} {p : ℕ} {c : Clause} {q : ℕ} → ClauseStands text rows p c q → size (spelled text (all_of c.patterns)) ≡ column (row_at rows p) 3
patterns_number {text} {rows} {p} {c} {q} st = spelled_size text c.patterns ∙ sym (ap (λ (r : List ℕ). column r 3) st.row)

-- What `clauses::clause` asks.
pub clause_asked : {text : List ℕ} {rows : Rows} {p n : ℕ} {c : Clause} {q : ℕ} {symbols : Rows} {count : ℕ} {w : List ℕ} {u room : ℕ} {rules out calls : Rows}
    → ClauseStands text rows p c q → n ≡ column (row_at rows p) 3 → length rows ≤ 65536 → length rows ≤ length out → length rows + 32 ≤ length calls → Storage text symbols count w u room rules
    → clauses.ClauseAsked text rows (p + 1) n symbols count w u room rules out calls
clause_asked {c = c} st e short out_lent calls_lent s =
    let t = st.within in
    record {
      source = record { patterns = _; behind = st.middle; stand = st.patterns; number = patterns_number st ∙ sym e; right = _; end = _; stands = st.right };
      lent = s.lent;
      few = s.few;
      inputs = s.inputs;
      upto = s.upto;
      formed = s.formed;
      words = s.words;
      low = s.low;
      small = s.small;
      rules_lent = s.rules_lent;
      later = omega arith;
      here = omega arith;
      short = short;
      out_lent = out_lent;
      calls_lent = calls_lent;
    }

-- Adding a rule leaves the symbols as they are.
rule_symbols : (s : Signature) (room : ℕ) (x : Ruled) {t : Signature} → with_rule s room x ≡ on t → t.symbols ≡ s.symbols
rule_symbols s room (barred e) q = absurd (let z : ◌≡◌ {A = ℕ} 0 1 = cc in omega arith)
rule_symbols s room (ruled R left) q = cc

clause_symbols : (limit : ℕ) (text : List ℕ) (s : Signature) (f : Name) (i : ℕ) (c : Clause) {t : Signature} → enter_clause limit text s f i c ≡ on t → t.symbols ≡ s.symbols
clause_symbols limit text s f i c e =
    rule_symbols s (room_in limit s) (entering (length s.rules) (clause_of s.symbols f i (spelled text (all_of c.patterns)) (spelled text c.body) (room_in limit s))) e

-- It adds one rule.
rule_more : (s : Signature) (room : ℕ) (x : Ruled) {t : Signature} → with_rule s room x ≡ on t → length t.rules ≡ suc (length s.rules)
rule_more s room (barred e) q = absurd (let z : ◌≡◌ {A = ℕ} 0 1 = cc in omega arith)
rule_more s room (ruled R left) {t} q =
    let e : t.rules ≡ s.rules ++ (R ∷ []) = cc in
    let l = length-append s.rules (R ∷ []) in
    ap length e ∙ omega arith

clause_more : (limit : ℕ) (text : List ℕ) (s : Signature) (f : Name) (i : ℕ) (c : Clause) {t : Signature} → enter_clause limit text s f i c ≡ on t
    → length t.rules ≡ suc (length s.rules)
clause_more limit text s f i c e =
    rule_more s (room_in limit s) (entering (length s.rules) (clause_of s.symbols f i (spelled text (all_of c.patterns)) (spelled text c.body) (room_in limit s))) e

-- The clauses that are left to enter, when those before the number i are entered.
pub record Going (text : List ℕ) (limit : ℕ) (rows : Rows) (n start size : ℕ) (symbols rules : Rows) (words : List ℕ) (st₀ st : State) (p i q : ℕ) (all : List Title) (whole : Step) : Type 0 where
  pub titles : List Title
  pub signature : Signature
  pub rest : List Clause
  pub ready : Ready text limit titles signature symbols rules words st
  pub stand : ClausesStand text rows p rest q
  pub number : i + length rest ≡ n
  pub titled : all ≡ with_clauses titles (place start size) i rest
  pub same : whole ≡ enter_clauses limit text signature (part_of text start size) i rest
  pub sorts : st.sorts ≡ st₀.sorts
  pub symbols_kept : st.symbols ≡ st₀.symbols
  -- each clause before is a rule.
  pub counted : i ≤ st.rules

-- All clauses of a function.
abbrev pub Everywhere : List ℕ → Rows → ℕ → ℕ → ℕ → ℕ → Rows → Rows → List ℕ → State → Rows → List ℕ → State → ℕ → ℕ → Type 0
Everywhere text rows at n start size symbols rules₀ words₀ st₀ rules words st p i =
    (limit : ℕ) (ts : List Title) (s : Signature) → Ready text limit ts s symbols rules₀ words₀ st₀ → (cs : List Clause) (q : ℕ) → ClausesStand text rows at cs q → n ≡ length cs
    → Going text limit rows n start size symbols rules words st₀ st p i q (with_clauses ts (place start size) 0 cs) (enter_clauses limit text s (part_of text start size) 0 cs)

pub going_start : {text : List ℕ} {rows : Rows} {at n start size : ℕ} {symbols rules : Rows} {words : List ℕ} {st : State}
    → Everywhere text rows at n start size symbols rules words st rules words st at 0
going_start limit ts s ready cs q st e =
    record { titles = ts; signature = s; rest = cs; ready = ready; stand = st; number = omega arith; titled = refl; same = refl; sorts = refl; symbols_kept = refl; counted = omega arith }

module _ {text : List ℕ} {limit : ℕ} {rows : Rows} {n start size : ℕ} {symbols rules : Rows} {words : List ℕ} {st₀ st : State} {p i q : ℕ} {all : List Title} {whole : Step} where
  -- The next clause stands at the row p.
  pub going_clause : Going text limit rows n start size symbols rules words st₀ st p i q all whole → i < n → (c : Clause) × (m : ℕ) × ClauseStands text rows p c m
  unfolding ClausesStand
  going_clause g l = go g.rest g.stand g.number
    where
      go : (cs : List Clause) → ClausesStand text rows p cs q → i + length cs ≡ n → (c : Clause) × (m : ℕ) × ClauseStands text rows p c m
      go [] s e = absurd (omega arith)
      go (c ∷ cs) s e = (c, s.0, s.1)

  module _ {rules' : Rows} {words' : List ℕ} {r : Result Progress Refusal} (inside : NamePlace text start size)
      (declared : ClauseDeclared text rows p i start size symbols rules words st r rules' words') where
    -- It is refused, and so are all.
    pub going_refused : {e : Refusal} → Going text limit rows n start size symbols rules words st₀ st p i q all whole → i < n → r ≡ Err e → whole ≡ no (number_of e)
    unfolding ClausesStand enter_clauses
    going_refused {e} g l z = go g.rest g.stand g.number g.same
      where
        step : (ts : List Title) (x : Step) (m : ℕ) → Advanced text limit ts x m rules' words' st r → x ≡ no (number_of e)
        step ts (no f) m h = let g : number_of e ≡ f = rw z at h in ap no (sym g)
        step ts (on t) m h = absurd (let d = h.1 in let w : ◌≡◌ {A = ℕ} 0 1 = cc in omega arith)

        go : (cs : List Clause) → ClausesStand text rows p cs q → i + length cs ≡ n → whole ≡ enter_clauses limit text g.signature (part_of text start size) i cs → whole ≡ no (number_of e)
        go [] s d w = absurd (omega arith)
        go (c ∷ cs) s d w =
            let h = step _ (enter_clause limit text g.signature (part_of text start size) i c) s.0 (declared.same limit g.titles g.signature g.ready inside g.counted c s.0 s.1) in
            w ∙ rw h refl

    -- It is entered, and the others are left.
    pub going_on : {next : ℕ} {st' : State} → Going text limit rows n start size symbols rules words st₀ st p i q all whole → i < n → r ≡ Ok (record { next = next; state = st' })
        → Going text limit rows n start size symbols rules' words' st₀ st' next (i + 1) q all whole
    unfolding ClausesStand enter_clauses with_clauses
    going_on {next} {st'} g l z = go g.rest g.stand g.number g.titled g.same
      where
        step : (ts : List Title) (x : Step) (m : ℕ) → Advanced text limit ts x m rules' words' st r → (t : Signature) × (x ≡ on t) × (next ≡ m) × Filled text limit ts t rules' words' st st'
        step ts (no f) m h = absurd (rw z at h)
        step ts (on t) m h =
            let d : ◌≡◌ {A = Result Progress Refusal} (Ok (record { next = m; state = h.0 })) (Ok (record { next = next; state = st' })) = sym h.1 ∙ z in
            let y : ◌≡◌ {A = Progress} (record { next = m; state = h.0 }) (record { next = next; state = st' }) = cc in
            let a : h.0 ≡ st' = ap (λ (x : Progress). x.state) y in
            let b : next ≡ m = sym (ap (λ (x : Progress). x.next) y) in
            (t, refl, b, rw (← a) h.2)

        more : List Title
        more = g.titles ++ (title_at (place start size) (i + 1) ∷ [])

        turn : (c : Clause) (cs : List Clause) (m : ℕ) → ClausesStand text rows m cs q → i + suc (length cs) ≡ n → all ≡ with_clauses more (place start size) (i + 1) cs
            → whole ≡ and_then (enter_clause limit text g.signature (part_of text start size) i c) (λ t. enter_clauses limit text t (part_of text start size) (suc i) cs)
            → (t : Signature) → enter_clause limit text g.signature (part_of text start size) i c ≡ on t → next ≡ m → Filled text limit more t rules' words' st st'
            → Going text limit rows n start size symbols rules' words' st₀ st' next (i + 1) q all whole
        turn c cs m s d ti w t e x f =
            let sy : t.symbols ≡ g.signature.symbols = clause_symbols limit text g.signature (part_of text start size) i c e in
            let o : i + 1 ≡ suc i = omega arith in
            let k : st'.symbols ≡ st.symbols = f.symbols in
            let rd = g.ready in
            record {
              titles = more;
              signature = t;
              rest = cs;
              ready = record {
                lent = rd.lent;
                few = (let a = rd.few in omega arith);
                symbols_are = ap (symbols_of text symbols) k ∙ rd.symbols_are ∙ sym sy;
                inputs = λ j l. rd.inputs j (omega arith);
                upto = subst (λ (fs : List Symbol). InputsUpto 256 fs) (sym sy) rd.upto;
                kept = f.kept;
              };
              stand = rw x s;
              number = omega arith;
              titled = ti;
              same = w ∙ ap (λ (y : Step). and_then y (λ (u : Signature). enter_clauses limit text u (part_of text start size) (suc i) cs)) e
                  ∙ ap (λ (j : ℕ). enter_clauses limit text t (part_of text start size) j cs) (sym o);
              sorts = f.sorts ∙ g.sorts;
              symbols_kept = k ∙ g.symbols_kept;
              counted = (let a = f.kept.number in let b = rd.kept.number in let m = clause_more limit text g.signature (part_of text start size) i c e in let n = g.counted in omega arith);
            }

        go : (cs : List Clause) → ClausesStand text rows p cs q → i + length cs ≡ n → all ≡ with_clauses g.titles (place start size) i cs
            → whole ≡ enter_clauses limit text g.signature (part_of text start size) i cs → Going text limit rows n start size symbols rules' words' st₀ st' next (i + 1) q all whole
        go [] s d ti w = absurd (omega arith)
        go (c ∷ cs) s d ti w =
            let h = step more (enter_clause limit text g.signature (part_of text start size) i c) s.0 (declared.same limit g.titles g.signature g.ready inside g.counted c s.0 s.1) in
            turn c cs s.0 s.2 d ti w h.0 h.1 h.2 h.3

  -- No clause is left.
  pub going_end : Going text limit rows n start size symbols rules words st₀ st p i q all whole → n ≤ i → Advanced text limit all whole q rules words st₀ (Ok (record { next = p; state = st }))
  unfolding ClausesStand enter_clauses with_clauses
  going_end g l = go g.rest g.stand g.number g.titled g.same
    where
      go : (cs : List Clause) → ClausesStand text rows p cs q → i + length cs ≡ n → all ≡ with_clauses g.titles (place start size) i cs → whole ≡ enter_clauses limit text g.signature (part_of text start size) i cs → Advanced text limit all whole q rules words st₀ (Ok (record { next = p; state = st }))
      go [] s d ti w = rw (w, ti) (st, ap (λ (x : ℕ). Ok (record { next = x; state = st })) s, record { kept = g.ready.kept; sorts = g.sorts; symbols = g.symbols_kept })
      go (c ∷ cs) s d ti w = absurd (omega arith)

-- Entering clauses leaves sorts and symbols as they are.
rule_names : (s : Signature) (room : ℕ) (x : Ruled) → (next : Signature → Step) (u : Signature) → and_then (with_rule s room x) next ≡ on u
    → ((t : Signature) → t.sorts ≡ s.sorts → t.symbols ≡ s.symbols → next t ≡ on u → (u.sorts ≡ s.sorts) × (u.symbols ≡ s.symbols)) → (u.sorts ≡ s.sorts) × (u.symbols ≡ s.symbols)
rule_names s room (barred e) next u q f = absurd (let z : ◌≡◌ {A = ℕ} 0 1 = cc in omega arith)
rule_names s room (ruled R left) next u q f = f _ refl refl q

pub clause_names : (limit : ℕ) (text : List ℕ) (f : Name) (cs : List Clause) (s : Signature) (i : ℕ) (u : Signature) → enter_clauses limit text s f i cs ≡ on u → (u.sorts ≡ s.sorts) × (u.symbols ≡ s.symbols)
unfolding enter_clauses
clause_names limit text f [] s i u e = (let a : s ≡ u = cc in (ap (λ (x : Signature). x.sorts) (sym a), ap (λ (x : Signature). x.symbols) (sym a)))
clause_names limit text f (c ∷ cs) s i u e =
    rule_names s (room_in limit s) (entering (length s.rules) (clause_of s.symbols f i (spelled text (all_of c.patterns)) (spelled text c.body) (room_in limit s))) (λ t. enter_clauses limit text t f (suc i) cs) u e
    (λ t a b q. let h = clause_names limit text f cs t (suc i) u q in (h.0 ∙ a, h.1 ∙ b))
