-- A clause that was taken: its premises one after another come to `premises_of`, and its conclusion to `concluded`.
use Prim.Native.Nat.{ℕ, suc, ◌+◌, ◌-◌, ◌*◌, ◌%◌, ◌≤◌, ◌<◌}
use native.Mathlib.Omega.{arith}
use native.Mathlib.Numerals.{add-one}
use mathlib.Core.Path.{◌≡◌, refl, sym, ap, ap₂, ◌∙◌, subst}
use mathlib.Core.List.{List}
use lib.Dec.{ltb}
use lib.ListN.{length, set, get_or}
use Rattle.terms.specs.Numbers.{by_bool, less_no}
use Rattle.terms.specs.Term.{Term, Terms, var, app, nil, cons, count}
use Rattle.terms.specs.Term.Kind.{one as single, many as several}
use Rattle.terms.specs.TermLaws.{app_inj}
use Rattle.terms.specs.Bindings.{Bindings}
use Rattle.arena.specs.Cells.{headers, cells, symbol_of, arity_of, args, denote, Same, denote_node, reference_argument}
use Rattle.arena.specs.ArgumentLaws.{count_args}
use Rattle.arena.specs.Copies.{pattern_room}
use Rattle.names.specs.Symbols.{Rows, Symbol, column, row_at}
use Rattle.names.specs.SearchLaws.{columns_length, columns_at}
use Rattle.rules.specs.StoredRows.{heads_in}
use Rattle.resolution.specs.Rules.{Rule, Tree, node, leaf, ◌◂◌, joined}
use Rattle.resolution.specs.Refutations.{joined_joined}
use Rattle.tree_rows.specs.Trees.{tree_row}
use Rattle.evaluation.specs.Matching.{Fitted, misfit, fitted, bind_of, Built, barred, built, if_built, build_node, instantiate_of, front, last}
use Rattle.evaluation.specs.Calls.{Spent, Called, refused, returned, Walked, stopped, walked, if_arguments, if_called, if_result, under_first, premises_of, concluded_by, concluded, call_of}
use Rattle.evaluation.specs.CallLaws.{Growing}
use Rattle.evaluation.proofs.CallLaws.{instantiate_grows}
use Rattle.clause_matching.specs.Stored.{Value, Values, Holds, pattern_at, value_at}
use Rattle.clause_matching.specs.Building.{built_at, InstantiateAsked, Tells, Instantiated}
use Rattle.clause_matching.specs.Choice.{Referable, pattern_from, ConclusionIn}
use Rattle.function_calls.specs.Calls.{outcome, PremiseIn, ClauseIn, Program, Working, TreesListed, Answers, FollowAsked, Followed, Steps, PremiseAsked, PremiseAnswered}
use Rattle.std.specs.Prelude.{Result, Err}
use Rattle.refusals.specs.declared.Refusal.{Refusal}
use Rattle.refusals.specs.Refusals.{number_of}
use Rattle.clause_matching.specs.declared.building.Built.{Built as Reply}
use Rattle.clause_matching.specs.declared.references.Pattern.{Pattern}
use Rattle.clause_matching.specs.declared.references.Pattern.TheVariants.{Variable, Node}
use Rattle.function_calls.specs.declared.calls.Outcome.{Outcome}
use Rattle.clause_matching.proofs.Forming.{FormsKept, ok_is}
use Rattle.function_calls.proofs.Forming.{refused_forms, answer_forms, refused_spent, answer_spent}
use Rattle.clause_matching.proofs.Arguments.{refused_is, Found, found}
use Rattle.function_calls.proofs.Listing.{listed_none, listed_more, listed_node}
use Rattle.function_calls.proofs.Premising.{last_args, spent_of}

-- Trees in front of those of what is walked.
abbrev pub prefixed : Tree several → Walked → Walked
prefixed ts (stopped e) = stopped e
prefixed ts (walked γ ps c) = walked γ (joined ts ps) c

abbrev pub then_premises : Walked → (Bindings → Spent → Walked) → Walked
then_premises (stopped e) next = stopped e
then_premises (walked γ ps c) next = prefixed ps (next γ c)

prefixed_nothing : (o : Walked) → prefixed leaf o ≡ o
prefixed_nothing (stopped e) = refl
prefixed_nothing (walked γ ps c) = refl

prefixed_twice : (ts qs : Tree several) (o : Walked) → prefixed ts (prefixed qs o) ≡ prefixed (joined ts qs) o
prefixed_twice ts qs (stopped e) = refl
prefixed_twice ts qs (walked γ ps c) = ap (λ (x : Tree several). walked γ x c) (joined_joined ts qs ps)

-- One premise, and then the others.
premises_first : (limit : ℕ) (call : ℕ → Terms → Spent → Called) (t : Term) (ps : Terms) (β : Bindings) (c : Spent)
    → premises_of limit call (cons t ps) β c ≡ then_premises (premises_of limit call (cons t nil) β c) (λ γ d. premises_of limit call ps γ d)
unfolding premises_of
premises_first limit call (var x) ps β c = refl
premises_first limit call (app g ts) ps β c = arguments (instantiate_of limit β (front ts) c.words)
  where
    after : (p : Tree single) (o : Walked) → under_first p o ≡ prefixed (p ◂ leaf) o
    after p (stopped e) = refl
    after p (walked γ qs d) = refl

    result : (p : Tree single) (d : Spent) (o : Fitted)
        → if_result o (λ γ. under_first p (premises_of limit call ps γ d)) ≡ then_premises (if_result o (λ γ. under_first p (walked γ leaf d))) (λ γ e. premises_of limit call ps γ e)
    result p d misfit = refl
    result p d (fitted γ) = after p (premises_of limit call ps γ d)

    made : (o : Called) → if_called o (λ v p d. if_result (bind_of (last ts) v β) (λ γ. under_first p (premises_of limit call ps γ d)))
        ≡ then_premises (if_called o (λ v p d. if_result (bind_of (last ts) v β) (λ γ. under_first p (walked γ leaf d)))) (λ γ e. premises_of limit call ps γ e)
    made (refused e) = refl
    made (returned v p d) = result p d (bind_of (last ts) v β)

    arguments : (o : Built several)
        → if_arguments o (λ vs u. if_called (call g vs (record { calls = c.calls; words = u })) (λ v p d. if_result (bind_of (last ts) v β) (λ γ. under_first p (premises_of limit call ps γ d))))
        ≡ then_premises (if_arguments o (λ vs u. if_called (call g vs (record { calls = c.calls; words = u })) (λ v p d. if_result (bind_of (last ts) v β) (λ γ. under_first p (walked γ leaf d)))))
        (λ γ e. premises_of limit call ps γ e)
    arguments (barred e) = refl
    arguments (built vs u) = made (call g vs (record { calls = c.calls; words = u }))

-- What is instantiated has as many arguments.
abbrev Counts : Terms → Built several → Type 0
Counts ps (barred e) = Unit {0}
Counts ps (built ts u) = count ts ≡ count ps

counts_more : (p : Term) (ps : Terms) (o : Built single) (next : ℕ → Built several) → ((u : ℕ) → Counts ps (next u))
    → Counts (cons p ps) (if_built o (λ t u. if_built (next u) (λ ts v. built (cons t ts) v)))
counts_more p ps (barred e) next h = tt
counts_more p ps (built t u) next h = go (next u) (h u)
  where
    go : (o : Built several) → Counts ps o → Counts (cons p ps) (if_built o (λ ts v. built (cons t ts) v))
    go (barred e) k = tt
    go (built ts v) k = ap suc k

counts : (limit : ℕ) (β : Bindings) (ps : Terms) (used : ℕ) → Counts ps (instantiate_of limit β ps used)
unfolding instantiate_of
counts limit β nil used = refl
counts limit β (cons p ps) used = counts_more p ps (instantiate_of limit β p used) (λ u. instantiate_of limit β ps u) (λ u. counts limit β ps u)

-- A built node has the symbol and as many arguments, and a word for itself and for each of them.
abbrev IsNode : ℕ → ℕ → ℕ → Built single → Type 0
IsNode used f n (barred e) = Unit {0}
IsNode used f n (built t u) = (ts : Terms) × (t ≡ app f ts) × (count ts ≡ n) × (used + suc n ≤ u)

is_node : (limit : ℕ) (β : Bindings) (f : ℕ) (ps : Terms) (used : ℕ) → IsNode used f (count ps) (instantiate_of limit β (app f ps) used)
unfolding instantiate_of
is_node limit β f ps used = go (instantiate_of limit β ps used) (counts limit β ps used) (instantiate_grows limit β ps used)
  where
    go : (o : Built several) → Counts ps o → Growing limit used o → IsNode used f (count ps) (if_built o (λ ts u. build_node limit f ts u))
    go (barred e) k g = tt
    go (built ts u) k g =
        let l = g.grows in
        by_bool (ltb limit (u + suc (count ts))) (λ q. rw q tt) (λ q. rw q (ts, refl, k, omega arith))

-- What the premises come to for one reading of the storage; their calls follow those before, at the height below.
pub record Reached (limit : ℕ) (call : ℕ → Terms → Spent → Called) (left : Terms) (trees₀ : Rows) (before height made spent : ℕ)
    (environment words : List ℕ) (trees : Rows) (whole : Walked) : Type 0 where
  pub branches : Tree several
  pub γ : Bindings
  pub holds : Holds environment words spent γ
  pub comes : prefixed branches (premises_of limit call left γ (record { calls = made; words = spent })) ≡ whole
  pub listed : TreesListed trees₀ (suc before) (suc height) words trees branches (record { calls = made; words = spent })

abbrev pub left_of : List ℕ → List ℕ → ℕ → Terms
left_of pattern row j = args (denote pattern_room (cells pattern)) (column row) (10 + j) (column row 4 - j)

-- What holds at each premise.
pub record Turn (symbol_rows rule_rows : Rows) (pattern : List ℕ) (rule depth height calls used limit : ℕ)
    (environment₀ words₀ links₀ : List ℕ) (trees₀ stack₀ : Rows) (environment words links : List ℕ) (trees stack : Rows)
    (made spent j : ℕ) : Type 0 where
  pub asked : FollowAsked symbol_rows rule_rows pattern rule depth height calls used limit environment₀ words₀ links₀ trees₀ stack₀
  pub kept : length words ≡ length words₀
  pub holds : length environment ≡ length environment₀
  pub keeps : length stack ≡ length stack₀
  pub lists : length trees ≡ length trees₀
  pub restored : links ≡ links₀
  pub few : j ≤ column (row_at rule_rows rule) 4
  pub stored : Values words spent
  pub same : Same 0 (cells words₀) (cells words) used
  pub grows : used ≤ spent
  pub within : spent ≤ limit
  pub forms : FormsKept pattern words₀ used words spent
  pub spends : 2 * made + used ≤ 2 * suc calls + spent
  pub reached : (size : ℕ) (symbols : List Symbol) (rules : List Rule) → Program symbol_rows rule_rows pattern size symbols rules
      → (n : ℕ) (R : Rule) → ClauseIn symbols pattern size (row_at rule_rows rule) n R → (β : Bindings) → Holds environment₀ words₀ used β
      → Reached limit (call_of limit symbols rules (128 - depth)) (left_of pattern (row_at rule_rows rule) j) trees₀ calls height made spent
      environment words trees
      (premises_of limit (call_of limit symbols rules (128 - depth)) R.premises β (record { calls = suc calls; words = used }))

pub turn_start : {symbol_rows rule_rows : Rows} {pattern : List ℕ} {rule depth height calls used limit : ℕ} {environment words links : List ℕ}
    {trees stack : Rows}
    → FollowAsked symbol_rows rule_rows pattern rule depth height calls used limit environment words links trees stack
    → Turn symbol_rows rule_rows pattern rule depth height calls used limit environment words links trees stack
    environment words links trees stack (calls + 1) used 0
turn_start {rule_rows = rule_rows} {pattern = pattern} {rule = rule} {depth = depth} {height = height} {calls = calls} {used = used}
    {limit = limit} {words = words} {trees = trees} h = record {
      asked = h;
      kept = refl;
      holds = refl;
      keeps = refl;
      lists = refl;
      restored = refl;
      few = omega arith;
      stored = h.working.stored;
      same = λ i l. refl;
      grows = omega arith;
      within = h.working.fits;
      forms = λ arities d f. f;
      spends = omega arith;
      reached = λ size symbols rules P n R cl β b. (
          let call : ℕ → Terms → Spent → Called = call_of limit symbols rules (128 - depth) in
          let row : List ℕ = row_at rule_rows rule in
          let z : column row 4 - 0 ≡ column row 4 = omega arith in
          record {
            branches = leaf;
            γ = β;
            holds = b;
            comes = prefixed_nothing (premises_of limit call (left_of pattern row 0) β (record { calls = calls + 1; words = used }))
                ∙ ap₂ (λ (ts : Terms) (k : ℕ). premises_of limit call ts β (record { calls = k; words = used }))
                (ap (λ (k : ℕ). args (denote pattern_room (cells pattern)) (column row) 10 k) z ∙ cl.premised) (add-one calls);
            listed = listed_none trees calls (suc height) words used;
          });
    }

module _ {symbol_rows rule_rows : Rows} {pattern : List ℕ} {rule depth height calls used limit : ℕ}
    {environment₀ words₀ links₀ : List ℕ} {trees₀ stack₀ : Rows} {environment words links : List ℕ} {trees stack : Rows} {made spent j : ℕ}
    (h : Turn symbol_rows rule_rows pattern rule depth height calls used limit environment₀ words₀ links₀ trees₀ stack₀
    environment words links trees stack made spent j) where
  abbrev row : List ℕ
  row = row_at rule_rows rule

  pub rule_inside : (rule < length rule_rows) × (column row 4 ≤ 16) × (rule < 1024)
  rule_inside = let a = h.asked.numbered in let b = h.asked.program.lent in let c = h.asked.program.small in (omega arith, h.asked.clause.few, omega arith)

  working : Working words spent limit links trees stack
  working = record {
    stored = h.stored;
    fits = h.within;
    low = h.asked.working.low;
    scratch = let s = h.asked.working.scratch in let k = h.kept in omega arith;
    linked = rw h.restored h.asked.working.linked;
    rows = let s = h.asked.working.rows in let k = h.keeps in omega arith;
    listed = let s = h.asked.working.listed in let k = h.lists in omega arith;
  }

  -- The call's row is lent: of the calls before it fewer than its depth are open, and each other one has two words at least.
  row_lent : calls < length trees
  row_lent =
      let a = h.asked.spent in let b = h.asked.deep in let c = h.asked.working.fits in let d = h.asked.many in
      let e = working.listed in omega arith

  -- A reading of the storage by the caller.
  abbrev mine : Reached limit (call_of limit h.asked.symbols h.asked.rules (128 - depth)) (left_of pattern row j)
      trees₀ calls height made spent environment words trees
      (premises_of limit (call_of limit h.asked.symbols h.asked.rules (128 - depth)) h.asked.R.premises h.asked.known.0 (record { calls = suc calls; words = used }))
  mine = h.reached h.asked.size h.asked.symbols h.asked.rules h.asked.program h.asked.patterns h.asked.R h.asked.clause h.asked.known.0 h.asked.known.1

  -- The references of the premises, as they are lent.
  pub part_long : length (heads_in row) ≡ column row 4
  part_long = columns_length row 10 (column row 4)

  pub part_cell : j < column row 4 → get_or (heads_in row) j 0 ≡ column row (10 + j)
  part_cell l = columns_at row 10 (column row 4) j l

  -- A premise is left.
  module _ (l : j < column row 4) where
    abbrev reference : ℕ
    reference = column row (10 + j)

    abbrev premise : PremiseIn h.asked.symbols pattern h.asked.size reference
    premise = h.asked.clause.premises j l

    pub referable : Referable pattern reference
    referable =
        let q = premise.patterned in let n = q.root.node premise.node in let w = q.within in let b = q.low in
        (λ x. omega arith, omega arith)

    reads_node : pattern_from pattern reference ≡ Node (cells pattern (reference - pattern_room)) (reference - pattern_room + 1)
    reads_node = rw (less_no premise.node)

    pub no_variable_lem : (r : Pattern) (x : ℕ) → r ≡ pattern_from pattern reference → r ≡ Variable x → ⊥
    no_variable_lem r x e q = let e' = e ∙ reads_node in let w : ◌≡◌ {A = ℕ} 0 1 = cc in let z : ⊥ = omega arith in z

    module _ (r : Pattern) (header first : ℕ) (e : r ≡ pattern_from pattern reference) (q : r ≡ Node header first) where
      header_is : header ≡ cells pattern (reference - pattern_room)
      header_is = let e' = e ∙ reads_node in cc

      first_is : first ≡ suc (reference - pattern_room)
      first_is = let e' = e ∙ reads_node in let z : first ≡ reference - pattern_room + 1 = cc in omega arith

      pub premise_asked : PremiseAsked symbol_rows rule_rows pattern header first depth height made spent limit
          environment words links trees stack
      premise_asked = record {
        size = h.asked.size;
        symbols = h.asked.symbols;
        rules = h.asked.rules;
        program = h.asked.program;
        reference = reference;
        premise = premise;
        header_is = header_is;
        first_is = first_is;
        long = let a = h.asked.long in let b = h.holds in omega arith;
        known = (mine.γ, mine.holds);
        working = working;
        deep = h.asked.deep;
        spent = let a = h.asked.spent in let b = h.spends in omega arith;
      }

      -- The premise is done.
      module _ {answer : Result Outcome Refusal} {environment' words' links' : List ℕ} {trees' : Rows}
          (p : PremiseAnswered symbol_rows rule_rows pattern header first depth height made spent limit environment words links trees
          answer environment' words' links' trees') where
        abbrev later : Terms
        later = left_of pattern row (suc j)

        -- What is left is this premise, and then the others.
        split : (limit : ℕ) (call : ℕ → Terms → Spent → Called) (γ : Bindings) (c : Spent)
            → premises_of limit call (left_of pattern row j) γ c ≡ then_premises (premises_of limit call (cons (pattern_at pattern reference) nil) γ c) (λ δ d. premises_of limit call later δ d)
        split limit call γ c =
            let m : column row 4 - j ≡ suc (column row 4 - suc j) = omega arith in
            let n : suc (10 + j) ≡ 10 + suc j = omega arith in
            ap (λ (k : ℕ). premises_of limit call (args (denote pattern_room (cells pattern)) (column row) (10 + j) k) γ c) m
            ∙ ap (λ (k : ℕ). premises_of limit call (cons (pattern_at pattern reference) (args (denote pattern_room (cells pattern)) (column row) k (column row 4 - suc j))) γ c) n
            ∙ premises_first limit call (pattern_at pattern reference) later γ c

        -- What this premise comes to by `premises_of`, and what the answer says of that.
        abbrev step : List Symbol → List Rule → Bindings → Walked
        step symbols rules γ =
            premises_of limit (call_of limit symbols rules (128 - depth)) (cons (pattern_at pattern reference) nil) γ
            (record { calls = made; words = spent })

        abbrev Said : Walked → Result Outcome Refusal → Type 0
        Said o r = Steps o r words trees words' environment' trees' spent limit made height

        stops : (o : Walked) (refusal : Refusal) → Said o (Err refusal) → o ≡ stopped (number_of refusal)
        stops (stopped e) refusal s = ap stopped (sym s)
        stops (walked γ ps c) refusal s = let x = s.is in absurd (let z : ⊥ = cc in z)

        pub premise_refused : (refusal : Refusal) → answer ≡ Err refusal
            → Followed symbol_rows rule_rows pattern rule depth height calls used limit environment₀ words₀ links₀ trees₀
            (Err refusal) words' links' trees'
        premise_refused refusal a = record {
          says = λ size symbols rules P n R cl β b. (
              let call : ℕ → Terms → Spent → Called = call_of limit symbols rules (128 - depth) in
              let x = h.reached size symbols rules P n R cl β b in
              let one : Walked = step symbols rules x.γ in
              let s : Said one (Err refusal) =
              subst (λ (y : Result Outcome Refusal). Said one y) a
              (p.says size symbols rules P reference (cl.premises j l) header_is first_is x.γ x.holds) in
              let o = stops one refusal s in
              let w : stopped (number_of refusal) ≡ premises_of limit call R.premises β (record { calls = suc calls; words = used }) =
              ap (λ (y : Walked). prefixed x.branches (then_premises y (λ δ d. premises_of limit call later δ d))) (sym o)
              ∙ ap (prefixed x.branches) (sym (split limit call x.γ (record { calls = made; words = spent }))) ∙ x.comes in
              subst (λ (y : Walked). Answers (concluded limit rule R.conclusion y) (Err refusal) words₀ trees₀ words' trees'
              used limit calls height) w refl);
          forms = refused_forms pattern refusal words₀ words' used;
          spends = refused_spent refusal calls used;
          kept = p.kept ∙ h.kept;
          restored = p.restored ∙ h.restored;
        }

        record Stepping (o : Walked) (after then : ℕ) : Type 0 where
          pub γ : Bindings
          pub branches : Tree several
          pub comes : o ≡ walked γ branches (record { calls = after; words = then })
          pub stored : Values words' then
          pub holds : Holds environment' words' then γ
          pub same : Same 0 (cells words) (cells words') spent
          pub grows : spent ≤ then
          pub within : then ≤ limit
          pub listed : TreesListed trees made (suc height) words' trees' branches (record { calls = after; words = then })

        steps : (o : Walked) (value after then : ℕ) → Said o (outcome value after then) → Stepping o after then
        steps (stopped e) value after then s = absurd s
        steps (walked γ ps c) value after then s =
            let a : c.calls ≡ after = ap (λ (o : Outcome). o.spent.calls) (sym (ok_is s.is)) in
            let b : c.words ≡ then = ap (λ (o : Outcome). o.spent.used) (sym (ok_is s.is)) in
            let e : c ≡ spent_of after then = ap₂ spent_of a b in
            record {
              γ = γ;
              branches = ps;
              comes = ap (λ (m : Spent). walked γ ps m) e;
              stored = subst (λ (n : ℕ). Values words' n) b s.stored;
              holds = subst (λ (n : ℕ). Holds environment' words' n γ) b s.holds;
              same = s.same;
              grows = subst (λ (n : ℕ). spent ≤ n) b s.grows;
              within = subst (λ (n : ℕ). n ≤ limit) b s.within;
              listed = subst (λ (m : Spent). TreesListed trees made (suc height) words' trees' ps m) e s.listed;
            }

        module _ (value after then : ℕ) (a : answer ≡ outcome value after then) where
          stepped : (size : ℕ) (symbols : List Symbol) (rules : List Rule) → Program symbol_rows rule_rows pattern size symbols rules
              → PremiseIn symbols pattern size reference → (γ : Bindings) → Holds environment words spent γ
              → Stepping (step symbols rules γ) after then
          stepped size symbols rules P q γ b =
              steps (step symbols rules γ) value after then
              (subst (λ (y : Result Outcome Refusal). Said (step symbols rules γ) y) a (p.says size symbols rules P reference q header_is first_is γ b))

          pub turn_next : (stack' : Rows) → length trees' ≡ length trees → length stack' ≡ length stack
              → Turn symbol_rows rule_rows pattern rule depth height calls used limit environment₀ words₀ links₀ trees₀ stack₀
              environment' words' links' trees' stack' after then (j + 1)
          turn_next stack' u v =
              let s = stepped h.asked.size h.asked.symbols h.asked.rules h.asked.program premise mine.γ mine.holds in
              let g = h.grows in let g' = s.grows in
              record {
                asked = h.asked;
                kept = p.kept ∙ h.kept;
                holds = p.keeps ∙ h.holds;
                keeps = v ∙ h.keeps;
                lists = u ∙ h.lists;
                restored = p.restored ∙ h.restored;
                few = omega arith;
                stored = s.stored;
                same = λ i m. h.same i m ∙ s.same i (omega arith);
                grows = omega arith;
                within = s.within;
                forms = λ arities d f. p.forms arities d (h.forms arities d f) value after then a;
                spends = let d = h.spends in let e = p.spends value after then a in omega arith;
                reached = λ size symbols rules P n R cl β b. (
                    let call : ℕ → Terms → Spent → Called = call_of limit symbols rules (128 - depth) in
                    let x = h.reached size symbols rules P n R cl β b in
                    let t = stepped size symbols rules P (cl.premises j l) x.γ x.holds in
                    record {
                      branches = joined x.branches t.branches;
                      γ = t.γ;
                      holds = t.holds;
                      comes = ap (λ (k : ℕ). prefixed (joined x.branches t.branches)
                          (premises_of limit call (left_of pattern row k) t.γ (record { calls = after; words = then }))) (add-one j)
                          ∙ sym (prefixed_twice x.branches t.branches
                          (premises_of limit call later t.γ (record { calls = after; words = then })))
                          ∙ ap (λ (y : Walked). prefixed x.branches (then_premises y (λ δ d. premises_of limit call later δ d)))
                          (sym t.comes)
                          ∙ ap (prefixed x.branches) (sym (split limit call x.γ (record { calls = made; words = spent }))) ∙ x.comes;
                      listed = listed_more h.stored t.same t.grows x.listed t.listed;
                    });
              }

  -- All premises are done.
  module _ (l : column row 4 ≤ j) where
    abbrev conclusion : ConclusionIn pattern h.asked.size (column row 5) h.asked.patterns
    conclusion = h.asked.clause.conclusion

    pub conclusion_asked : InstantiateAsked pattern (column row 5) environment words spent limit stack
    conclusion_asked = record {
      size = h.asked.size;
      patterned = conclusion.patterned;
      stored = h.stored;
      long = let a = h.asked.long in let b = h.holds in omega arith;
      known = (mine.γ, mine.holds);
      fits = h.within;
      low = h.asked.working.low;
      scratch = working.scratch;
      rows = working.rows;
    }

    -- The premises come to the values that the environment holds.
    walked_all : (limit : ℕ) (call : ℕ → Terms → Spent → Called) (whole : Walked)
        (x : Reached limit call (left_of pattern row j) trees₀ calls height made spent environment words trees whole)
        → walked x.γ (joined x.branches leaf) (record { calls = made; words = spent }) ≡ whole
    unfolding premises_of
    walked_all limit call whole x =
        let z : column row 4 - j ≡ 0 = (let f = h.few in omega arith) in
        ap (λ (k : ℕ). prefixed x.branches (premises_of limit call (args (denote pattern_room (cells pattern)) (column row) (10 + j) k)
        x.γ (record { calls = made; words = spent }))) (sym z)
        ∙ x.comes

    module _ {answer : Result Reply Refusal} {words' : List ℕ} (i : Instantiated pattern (column row 5) environment words spent limit answer words') where
      pub conclusion_refused : (refusal : Refusal) → answer ≡ Err refusal
          → Followed symbol_rows rule_rows pattern rule depth height calls used limit environment₀ words₀ links₀ trees₀
          (Err refusal) words' links trees
      conclusion_refused refusal a = record {
        says = λ size symbols rules P n R cl β b. (
            let call : ℕ → Terms → Spent → Called = call_of limit symbols rules (128 - depth) in
            let x = h.reached size symbols rules P n R cl β b in
            let s = subst (λ (y : Result Reply Refusal). Tells (instantiate_of limit x.γ (pattern_at pattern (column row 5)) spent) y words words' spent limit) a (i.tells x.γ x.holds) in
            let o = refused_is (instantiate_of limit x.γ (pattern_at pattern (column row 5)) spent) refusal words words' spent limit s in
            let w : refused (number_of refusal) ≡ concluded limit rule R.conclusion (premises_of limit call R.premises β (record { calls = suc calls; words = used })) =
            ap (concluded_by rule (joined x.branches leaf) made) (sym o)
            ∙ ap (λ (t : Term). concluded_by rule (joined x.branches leaf) made (instantiate_of limit x.γ t spent)) cl.concludes
            ∙ ap (concluded limit rule R.conclusion) (walked_all limit call _ x) in
            subst (λ (y : Called). Answers y (Err refusal) words₀ trees₀ words' trees used limit calls height) w refl);
        forms = refused_forms pattern refusal words₀ words' used;
        spends = refused_spent refusal calls used;
        kept = i.kept ∙ h.kept;
        restored = h.restored;
      }

      module _ (value then : ℕ) (a : answer ≡ built_at value then) where
        told : (γ : Bindings) → Holds environment words spent γ → Found (instantiate_of limit γ (pattern_at pattern (column row 5)) spent) words words' spent limit value then
        told γ b = found (instantiate_of limit γ (pattern_at pattern (column row 5)) spent) value then words words' spent limit
            (subst (λ (y : Result Reply Refusal). Tells (instantiate_of limit γ (pattern_at pattern (column row 5)) spent) y words words' spent limit) a (i.tells γ b))

        abbrev header : ℕ
        header = cells words' value

        abbrev result : ℕ
        result = cells words' (value + header % 32)

        -- The node that was built is the conclusion's: it has a result.
        pub record Node-built (t : Term) : Type 0 where
          pub symbol : ℕ
          pub arguments : Terms
          pub is : t ≡ app symbol arguments
          pub last_is : last arguments ≡ value_at words' result
          pub good : Value words' then result
          pub inside : value + header % 32 < then
          pub taken : spent + 2 ≤ then

        node_built : (γ : Bindings) → Holds environment words spent γ → (f : Found (instantiate_of limit γ (pattern_at pattern (column row 5)) spent) words words' spent limit value then)
            → Node-built f.term
        node_built γ b f =
            let q = conclusion.patterned in
            let address : ℕ = column row 5 - pattern_room in
            let ps : Terms = args (denote pattern_room (cells pattern)) (cells pattern) (suc address) (arity_of (cells pattern address)) in
            let d : pattern_at pattern (column row 5) ≡ app (symbol_of (cells pattern address)) ps =
            denote_node pattern_room (cells pattern) pattern_room h.asked.size q.formed (column row 5) q.root conclusion.node in
            let m : IsNode spent (symbol_of (cells pattern address)) (count ps) (built f.term then) =
            subst (λ (o : Built single). IsNode spent (symbol_of (cells pattern address)) (count ps) o) (ap (λ (t : Term). instantiate_of limit γ t spent) (sym d) ∙ f.comes)
            (is_node limit γ (symbol_of (cells pattern address)) ps spent) in
            let (ts, e, k, long) = m in
            let s = f.stands in
            let z : value - 0 ≡ value = omega arith in
            let v : value_at words' value ≡ app (symbol_of header) (args (denote 0 (cells words')) (cells words') (suc value) (arity_of header)) =
            rw z at (denote_node 0 (cells words') 0 then s.stored.formed value s.root (omega arith)) in
            let (x, y) = app_inj (symbol_of (cells pattern address)) (symbol_of header) ts (args (denote 0 (cells words')) (cells words') (suc value) (arity_of header)) (sym e ∙ sym s.is ∙ v) in
            let c₁ = count_args (denote 0 (cells words')) (cells words') (suc value) (arity_of header) in
            let c₂ = count_args (denote pattern_room (cells pattern)) (cells pattern) (suc address) (arity_of (cells pattern address)) in
            let c₃ : count ts ≡ count (args (denote 0 (cells words')) (cells words') (suc value) (arity_of header)) = ap count y in
            let n : arity_of header ≡ suc h.asked.patterns = (let ci = conclusion.inputs in omega arith) in
            let at : suc value + h.asked.patterns ≡ value + header % 32 = omega arith in
            let nd = s.root.node (omega arith) in
            let hd : headers ≤ header = rw z at (s.root.header (omega arith)) in
            let ft = s.stored.formed.fits value (omega arith) hd in
            record {
              symbol = symbol_of (cells pattern address);
              arguments = ts;
              is = e;
              last_is = ap last y ∙ ap (λ (j : ℕ). last (args (denote 0 (cells words')) (cells words') (suc value) j)) n
                  ∙ last_args (denote 0 (cells words')) (cells words') (suc value) h.asked.patterns ∙ ap (λ (j : ℕ). value_at words' (cells words' j)) at;
              good = (let r = reference_argument 0 (cells words') 0 then s.stored.formed value h.asked.patterns s.root (omega arith) (rw z (let b : h.asked.patterns < arity_of header = omega arith in b)) in
                  let at' : suc (value - 0) + h.asked.patterns ≡ value + header % 32 = omega arith in rw at' at r);
              inside = omega arith;
              taken = let ci = conclusion.inputs in omega arith;
            }

        pub result_inside : (value + header % 32 < length words') × (value + header % 32 < headers) × (calls < length trees)
        result_inside =
            let f = told mine.γ mine.holds in
            let n = (node_built mine.γ mine.holds f).inside in
            let a = f.stands.stored.within in let b = f.stands.stored.low in
            (omega arith, omega arith, row_lent)

        abbrev written : Rows
        written = set trees calls (tree_row height rule value)

        pub conclusion_built : Followed symbol_rows rule_rows pattern rule depth height calls used limit environment₀ words₀ links₀ trees₀
            (outcome result made then) words' links written
        conclusion_built = record {
          says = λ size symbols rules P n R cl β b. (
              let call : ℕ → Terms → Spent → Called = call_of limit symbols rules (128 - depth) in
              let x = h.reached size symbols rules P n R cl β b in
              let f = told x.γ x.holds in
              let k = node_built x.γ x.holds f in
              let g = h.grows in let g' = f.stands.grows in
              let w : returned (last k.arguments) (node rule (app k.symbol k.arguments) (joined x.branches leaf))
              (record { calls = made; words = then })
              ≡ concluded limit rule R.conclusion (premises_of limit call R.premises β (record { calls = suc calls; words = used })) =
              ap (λ (t : Term). concluded_by rule (joined x.branches leaf) made (built t then)) (sym k.is)
              ∙ ap (concluded_by rule (joined x.branches leaf) made) (sym f.comes)
              ∙ ap (λ (t : Term). concluded_by rule (joined x.branches leaf) made (instantiate_of limit x.γ t spent)) cl.concludes
              ∙ ap (concluded limit rule R.conclusion) (walked_all limit call _ x) in
              subst (λ (y : Called). Answers y (outcome result made then) words₀ trees₀ words' written used limit calls height) w (
                result,
                refl,
                record {
                  stored = f.stands.stored;
                  root = k.good;
                  is = sym k.last_is;
                  same = λ j m. h.same j m ∙ f.stands.same j (omega arith);
                  grows = omega arith;
                  within = f.stands.within;
                },
                listed_node h.stored f.stands.same f.stands.grows rule value (app k.symbol k.arguments) x.listed
                    result_inside.2 f.stands.root (f.stands.is ∙ k.is),
              ));
          forms = answer_forms pattern result made then words₀ words' used
              (λ arities d e. i.forms arities d (h.forms arities d e) value then a);
          spends = answer_spent result made then calls used
              (let n = (node_built mine.γ mine.holds (told mine.γ mine.holds)).taken in let s = h.spends in omega arith);
          kept = i.kept ∙ h.kept;
          restored = h.restored;
        }
