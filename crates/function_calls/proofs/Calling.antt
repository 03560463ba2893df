-- A call in storage: the limits, the clause that fits, and following it come to `call_of`.
use Prim.Native.Nat.{ℕ, zero, suc, ◌+◌, ◌-◌, ◌≤◌, ◌<◌}
use native.Mathlib.Omega.{arith}
use mathlib.Core.Path.{◌≡◌, refl, sym, ap, ap₂, ◌∙◌, subst}
use mathlib.Core.Option.{Option, some}
use mathlib.Core.List.{List}
use lib.ListN.{length, take, drop, length-drop}
use lib.Seq.{get_or-take, get_or-drop, length-take-le}
use borrow.Author.Tests.{lt-ltb, le-ltb}
use Rattle.terms.specs.Numbers.{by_same, by_less}
use Rattle.terms.specs.Term.{Terms, app}
use Rattle.terms.specs.Bindings.{Bindings, start}
use Rattle.arena.specs.Cells.{cells, symbol_of, args, denote, denote_node}
use Rattle.arena.specs.Copies.{pattern_room}
use Rattle.names.specs.Symbols.{Rows, Symbol, column, row_at, symbol_at}
use Rattle.resolution.specs.Rules.{Rule, rule_at_lem}
use Rattle.evaluation.specs.Matching.{Fitted, misfit, fitted, bind_of}
use Rattle.evaluation.specs.Calls.{Spent, Called, refused, premises_of, concluded, patterns_of, taken_or, tried, clauses_of, call_of}
use Rattle.clause_matching.specs.Choice.{values_of, patterns_from, fit_of, ConclusionIn, ClauseAsked, Chosen, Chooses}
use Rattle.function_calls.specs.Calls.{ClauseIn, Program, Answers, CallAsked, CallAnswered, FollowAsked, Followed}
use Rattle.function_calls.specs.declared.calls.Outcome.{Outcome}
use Rattle.std.specs.Prelude.{Result, Err, Option as Optional, None, Some}
use Rattle.refusals.specs.declared.Refusal.{Refusal}
use Rattle.refusals.specs.declared.Refusal.TheVariants.{TooDeep, TooManyCalls, NoClause}
use Rattle.function_calls.proofs.Forming.{refused_forms, refused_spent}
use Rattle.function_calls.proofs.Premising.{front_args}

-- The patterns of a stored conclusion.
patterns_are : {symbols : List Symbol} {pattern row : List ℕ} {size n : ℕ} {R : Rule} → ClauseIn symbols pattern size row n R
    → patterns_of R.conclusion ≡ args (denote pattern_room (cells pattern)) (cells pattern) (suc (column row 5 - pattern_room)) n
patterns_are {pattern = pattern} {row = row} {size = size} {n = n} cl =
    let c = cl.conclusion in let q = c.patterned in
    let a : ℕ = column row 5 - pattern_room in
    ap patterns_of (sym cl.concludes ∙ denote_node pattern_room (cells pattern) pattern_room size q.formed (column row 5) q.root c.node
    ∙ ap (λ (k : ℕ). app (symbol_of (cells pattern a)) (args (denote pattern_room (cells pattern)) (cells pattern) (suc a) k)) c.inputs)
    ∙ front_args (denote pattern_room (cells pattern)) (cells pattern) (suc a) n

-- A clause that misfits is passed; one that fits is taken.
module _ (limit : ℕ) (symbols : List Symbol) (rules : List Rule) (call : ℕ → Terms → Spent → Called) (vs : Terms) (c : Spent) where
  abbrev Missing : ℕ → Type 0
  Missing j = (R : Rule) × (rule_at_lem rules j ≡ some R) × (bind_of (patterns_of R.conclusion) vs start ≡ misfit)

  passed : (n i : ℕ) → Missing i → clauses_of limit symbols rules call (suc n) i vs c ≡ clauses_of limit symbols rules call n (suc i) vs c
  unfolding clauses_of
  passed n i (R, e, m) =
      ap (λ (o : Option Rule). tried limit call i o vs c (λ _. clauses_of limit symbols rules call n (suc i) vs c)) e
      ∙ ap (λ (f : Fitted). taken_or limit call i R f c (λ _. clauses_of limit symbols rules call n (suc i) vs c)) m

  none_left : (n i : ℕ) → ((j : ℕ) → i ≤ j → j < i + n → Missing j) → clauses_of limit symbols rules call n i vs c ≡ refused 34
  unfolding clauses_of
  none_left zero i h = refl
  none_left (suc n) i h = passed n i (h i (omega arith) (omega arith)) ∙ none_left n (suc i) (λ j a b. h j (omega arith) (omega arith))

  taken_at : (n i k : ℕ) (R : Rule) (β : Bindings) → i ≤ k → k < i + n → ((j : ℕ) → i ≤ j → j < k → Missing j) → rule_at_lem rules k ≡ some R
      → bind_of (patterns_of R.conclusion) vs start ≡ fitted β
      → clauses_of limit symbols rules call n i vs c ≡ concluded limit k R.conclusion (premises_of limit call R.premises β c)
  unfolding clauses_of
  taken_at zero i k R β a b h e f = absurd (let z : ⊥ = omega arith in z)
  taken_at (suc n) i k R β a b h e f = by_same i k
      (λ p q. subst (λ (x : ℕ). clauses_of limit symbols rules call (suc n) x vs c ≡ concluded limit k R.conclusion (premises_of limit call R.premises β c)) (sym p)
      (ap (λ (o : Option Rule). tried limit call k o vs c (λ _. clauses_of limit symbols rules call n (suc k) vs c)) e
      ∙ ap (λ (o : Fitted). taken_or limit call k R o c (λ _. clauses_of limit symbols rules call n (suc k) vs c)) f))
      (λ p q. let l : i < k = by_less i k (λ x y. x) (λ x y. absurd (p (omega arith))) in
      passed n i (h i (omega arith) l) ∙ taken_at n (suc i) k R β (omega arith) (omega arith) (λ j x y. h j (omega arith) y) e f)

module _ {symbol_rows rule_rows : Rows} {pattern : List ℕ} {symbol : ℕ} {values : List ℕ} {depth height calls used limit : ℕ}
    {words links : List ℕ} {trees stack : Rows}
    (h : CallAsked symbol_rows rule_rows pattern symbol values depth height calls used limit words links trees stack) where
  abbrev row : List ℕ
  row = row_at symbol_rows symbol

  abbrev from : ℕ
  from = column row 4

  abbrev end : ℕ
  end = column row 4 + column row 5

  -- One call more.
  abbrev counted : Spent
  counted = record { calls = suc calls; words = used }

  pub too_deep : 128 < depth
      → CallAnswered symbol_rows rule_rows pattern symbol values depth height calls used limit words links trees
      (Err TooDeep) words links trees
  unfolding call_of
  too_deep l = record {
    says = λ size symbols rules P k i.
        let z : 129 - depth ≡ 0 = omega arith in
        subst (λ (n : ℕ). Answers (call_of limit symbols rules n symbol (values_of words values) (record { calls = calls; words = used }))
        (Err TooDeep) words trees words trees used limit calls height)
        (sym z) refl;
    forms = refused_forms pattern TooDeep words words used;
    spends = refused_spent TooDeep calls used;
    kept = refl;
    restored = refl;
  }

  module _ (l : depth ≤ 128) where
    is_suc : 129 - depth ≡ suc (128 - depth)
    is_suc = omega arith

    pub too_many : 10000 ≤ calls
        → CallAnswered symbol_rows rule_rows pattern symbol values depth height calls used limit words links trees
        (Err TooManyCalls) words links trees
    unfolding call_of
    too_many m = record {
      says = λ size symbols rules P k i.
          subst (λ (n : ℕ). Answers (call_of limit symbols rules n symbol (values_of words values) (record { calls = calls; words = used }))
          (Err TooManyCalls) words trees words trees used limit calls height)
          (sym is_suc) (rw (le-ltb calls 10000 m) refl);
      forms = refused_forms pattern TooManyCalls words words used;
      spends = refused_spent TooManyCalls calls used;
      kept = refl;
      restored = refl;
    }

    -- The clauses are a part of the rules.
    abbrev part : Rows
    part = take (end - from) (drop from rule_rows)

    part_inside : end ≤ length rule_rows
    part_inside = let a = h.program.within symbol h.known in let b = h.program.lent in omega arith

    part_long : length part ≡ end - from
    part_long = let d = length-drop from rule_rows in let i = part_inside in length-take-le (end - from) (drop from rule_rows) (omega arith)

    part_row : (i : ℕ) → i < length part → row_at part i ≡ row_at rule_rows (from + i)
    part_row i a = let n = part_long in get_or-take (end - from) (drop from rule_rows) i _ (omega arith) ∙ get_or-drop from rule_rows i _

    fit_at : (i : ℕ) → i < length part → fit_of part pattern values words i ≡ fit_of rule_rows pattern values words (from + i)
    fit_at i a = ap (λ (r : List ℕ). bind_of (patterns_from pattern (suc (column r 5 - pattern_room)) (length values)) (values_of words values) start) (part_row i a)

    missed_at : (n : ℕ) → n ≤ length part → ((i : ℕ) → 0 ≤ i → i < n → fit_of part pattern values words i ≡ misfit)
        → (j : ℕ) → from ≤ j → j < from + n → fit_of rule_rows pattern values words j ≡ misfit
    missed_at n e f j a b =
        let k : from + (j - from) ≡ j = omega arith in
        let g : fit_of rule_rows pattern values words (from + (j - from)) ≡ misfit = sym (fit_at (j - from) (omega arith)) ∙ f (j - from) (omega arith) (omega arith) in
        rw k at g

    -- What is chosen among them, said of all rules.
    whole_none : (environment : List ℕ) → Chooses part pattern 0 (length part) values words used None environment
        → Chooses rule_rows pattern from end values words used None environment
    whole_none environment f j a b = let n = part_long in missed_at (length part) (omega arith) f j a (omega arith)

    whole_some : {environment : List ℕ} (place : ℕ) → Chooses part pattern 0 (length part) values words used (Some place) environment
        → Chooses rule_rows pattern from end values words used (Some (from + place)) environment
    whole_some place (a, b, d, f) =
        let n = part_long in
        (omega arith, omega arith, missed_at place (omega arith) d, record { β = f.β; fits = sym (fit_at place b) ∙ f.fits; holds = f.holds })

    module _ (m : calls < 10000) where
      abbrev calling : List Symbol → List Rule → ℕ → Terms → Spent → Called
      calling symbols rules = call_of limit symbols rules (128 - depth)

      -- The clauses are tried.
      tries : (size : ℕ) (symbols : List Symbol) (rules : List Rule) → Program symbol_rows rule_rows pattern size symbols rules → symbol < length symbols
          → call_of limit symbols rules (129 - depth) symbol (values_of words values) (record { calls = calls; words = used })
          ≡ clauses_of limit symbols rules (calling symbols rules) (column row 5) from (values_of words values) counted
      unfolding call_of
      tries size symbols rules P k =
          ap (λ (n : ℕ). call_of limit symbols rules n symbol (values_of words values) (record { calls = calls; words = used })) is_suc
          ∙ rw (lt-ltb calls 10000 m) (ap₂ (λ (n i : ℕ). clauses_of limit symbols rules (calling symbols rules) n i (values_of words values) counted) (P.clauses symbol k) (P.first symbol k))

      pub clause_asked : (environment : List ℕ) → 64 ≤ length environment → ClauseAsked part pattern 0 (length part) values words used environment links stack
      clause_asked environment e = record {
        size = h.size;
        conclusions = λ i a b. let n = part_long in
            subst (λ (r : List ℕ). ConclusionIn pattern h.size (column r 5) (length values)) (sym (part_row i b))
            (h.program.clause symbol (from + i) (length values) h.known h.inputs (omega arith) (omega arith)).2.conclusion;
        lent = omega arith;
        stored = h.working.stored;
        roots = h.roots;
        long = e;
        linked = record { long = (let a = h.working.linked.long in let b = h.working.fits in omega arith); clear = h.working.linked.clear };
        rows = let a = h.working.rows in omega arith;
      }

      missing : (size : ℕ) (symbols : List Symbol) (rules : List Rule) → Program symbol_rows rule_rows pattern size symbols rules → symbol < length symbols
          → suc (length values) ≡ length (symbol_at symbols symbol).inputs → (j : ℕ) → from ≤ j → j < end → fit_of rule_rows pattern values words j ≡ misfit
          → Missing limit symbols rules (calling symbols rules) (values_of words values) counted j
      missing size symbols rules P k i j a b f =
          let (R, e, cl) = P.clause symbol j (length values) k i a b in
          (R, e, ap (λ (ps : Terms). bind_of ps (values_of words values) start) (patterns_are cl) ∙ f)

      module _ {environment : List ℕ} {clause : Optional ℕ} {environment' links' : List ℕ}
          (c : Chosen part pattern 0 (length part) values words used environment links clause environment' links') where
        pub no_clause : clause ≡ None
            → CallAnswered symbol_rows rule_rows pattern symbol values depth height calls used limit words links trees
            (Err NoClause) words links' trees
        no_clause q =
            let ch : Chooses rule_rows pattern from end values words used None environment' =
            whole_none environment' (subst (λ (x : Optional ℕ). Chooses part pattern 0 (length part) values words used x environment') q c.chooses) in
            record {
              says = λ size symbols rules P k i.
                  subst (λ (y : Called). Answers y (Err NoClause) words trees words trees used limit calls height)
                  (sym (tries size symbols rules P k
                  ∙ none_left limit symbols rules (calling symbols rules) (values_of words values) counted (column row 5) from (λ j a b. missing size symbols rules P k i j a b (ch j a b)))) refl;
              forms = refused_forms pattern NoClause words words used;
              spends = refused_spent NoClause calls used;
              kept = refl;
              restored = c.restored;
            }

        module _ (place : ℕ) (q : clause ≡ Some place) where
          abbrev rule : ℕ
          rule = from + place

          abbrev chosen : Chooses rule_rows pattern from end values words used (Some rule) environment'
          chosen = whole_some place (subst (λ (x : Optional ℕ). Chooses part pattern 0 (length part) values words used x environment') q c.chooses)

          pub follow_asked : 64 ≤ length environment → (stack' : Rows) → length stack' ≡ length stack
              → FollowAsked symbol_rows rule_rows pattern rule depth height calls used limit environment' words links' trees stack'
          follow_asked e stack' n =
              let (a, b, d, f) = chosen in
              let (R, x, cl) = h.program.clause symbol rule (length values) h.known h.inputs a b in
              record {
                size = h.size;
                symbols = h.symbols;
                rules = h.rules;
                program = h.program;
                patterns = length values;
                R = R;
                clause = cl;
                numbered = let w = h.program.within symbol h.known in omega arith;
                long = let k = c.kept in omega arith;
                known = (f.β, f.holds);
                working = record {
                  stored = h.working.stored;
                  fits = h.working.fits;
                  low = h.working.low;
                  scratch = h.working.scratch;
                  linked = rw c.restored h.working.linked;
                  rows = let w = h.working.rows in omega arith;
                  listed = h.working.listed;
                };
                deep = l;
                many = m;
                spent = h.spent;
              }

          pub followed : {r : Result Outcome Refusal} {words'' links'' : List ℕ} {trees'' : Rows}
              → Followed symbol_rows rule_rows pattern rule depth height calls used limit environment' words links' trees
              r words'' links'' trees''
              → CallAnswered symbol_rows rule_rows pattern symbol values depth height calls used limit words links trees
              r words'' links'' trees''
          followed {r} {words''} {trees'' = trees''} g = record {
            says = λ size symbols rules P k i. (
                let (a, b, d, f) = chosen in
                let (R, x, cl) = P.clause symbol rule (length values) k i a b in
                subst (λ (y : Called). Answers y r words trees words'' trees'' used limit calls height)
                (sym (tries size symbols rules P k
                ∙ taken_at limit symbols rules (calling symbols rules) (values_of words values) counted (column row 5) from rule R f.β a b
                (λ j v w. missing size symbols rules P k i j v (omega arith) (d j v w)) x
                (ap (λ (ps : Terms). bind_of ps (values_of words values) start) (patterns_are cl) ∙ f.fits)))
                (g.says size symbols rules P (length values) R cl f.β f.holds));
            forms = g.forms;
            spends = g.spends;
            kept = g.kept;
            restored = g.restored ∙ c.restored;
          }
