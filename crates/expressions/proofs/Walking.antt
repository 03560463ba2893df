-- `application`: its arguments from left to right, and one law for each way out.
use Prim.Native.Nat.{ℕ, zero, suc, ◌+◌, ◌-◌, ◌*◌, ◌≤◌, ◌<◌}
use native.Mathlib.Omega.{arith}
use mathlib.Core.Path.{◌≡◌, refl, sym, ap, ap₂, ◌∙◌, subst}
use mathlib.Core.List.{List, [], ◌∷◌}
use lib.ListN.{length, get_or, set, take, drop, length-set}
use lib.Seq.{get_or-set_same, get_or-set_other, get_or-drop, get_or-take, length-take-le}
use Rattle.std.proofs.Common.{length-take}
use borrow.Author.Tests.{eq-eqb, ne_eqb}
use Rattle.terms.specs.Numbers.{by_same}
use Rattle.terms.specs.Term.{Term, Terms, nil, cons, append}
use Rattle.terms.specs.Term.Kind.{many as several}
use Rattle.terms.specs.TermLists.{append_nothing, append_more}
use Rattle.arena.specs.Cells.{headers, cells, symbol_of, args, args_same, denote, Same, denote_node, frame_denote, reference_up}
use Rattle.arena.specs.ArgumentLaws.{args_more}
use Rattle.arena.specs.NodeLaws.{reference_same}
use Rattle.term_parser.specs.Source.{one, many}
use Rattle.term_parser.specs.Standing as standing
use Rattle.term_parser.specs.Standing.{Written, nil as none, cons as more, size}
use Rattle.names.specs.Symbols.{Rows, Symbol, column, row_at, symbols_of, symbol_at}
use Rattle.names.specs.SearchLaws.{columns_at}
use Rattle.patterns.specs.Patterns.{first, rest}
use Rattle.resolution.specs.Rules.{Rule, Tree, leaf, joined}
use Rattle.resolution.specs.Refutations.{joined_joined}
use Rattle.rules.specs.PatternLaws.{arities_of}
use Rattle.tree_rows.proofs.TreeLaws.{lists_up, lists_grown, lists_same, lists_joined}
use Rattle.evaluation.specs.Calls.{Spent}
use Rattle.evaluation.specs.Expressions.{Evaluated, failed, evaluated, if_evaluated, sort_in, apply_of, expression_of}
use Rattle.clause_matching.specs.Stored.{Value, Values, Headed, Formed, value_at}
use Rattle.clause_matching.specs.Building.{Stands}
use Rattle.clause_matching.specs.Choice.{values_of}
use Rattle.function_calls.specs.Calls.{outcome, Working, TreesListed}
use Rattle.function_calls.specs.declared.calls.Outcome.{Outcome}
use Rattle.std.specs.Prelude.{Result, Err}
use Rattle.refusals.specs.declared.Refusal.{Refusal}
use Rattle.refusals.specs.Refusals.{number_of}
use Rattle.refusals.specs.declared.Refusal.TheVariants.{WrongSort}
use Rattle.expressions.specs.Applying.{Tables, Concludes, ApplyAnswered}
use Rattle.expressions.specs.Terms.{expressed, ExpressionAsked, Evaluates, ExpressionAnswered, ApplicationAsked, ApplicationAnswered}
use Rattle.expressions.specs.declared.written.Expressed.{Expressed}
use Rattle.forward_calls.proofs.Tables.{inputs_at_lem}
use Rattle.expressions.proofs.Forming.{made_worth, value_worth, used_worth, refused_answer, value_answer, next_answer, made_answer, used_answer}
use Rattle.expressions.proofs.Applications.{prefixed, joined_nothing, apply_prefixed, none_listed}

-- Values and trees in front of others.
abbrev extend : Terms → Tree several → Evaluated many → Evaluated many
extend vs ps (failed e) = failed e
extend vs ps (evaluated us qs c) = evaluated (append vs us) (joined ps qs) c

extend_none : (o : Evaluated many) → extend nil leaf o ≡ o
extend_none (failed e) = refl
extend_none (evaluated us qs c) = refl

extend_more : (vs : Terms) (ps : Tree several) (v : Term) (qs : Tree several) (o : Evaluated many)
    → extend vs ps (if_evaluated o (λ us rs e. evaluated (cons v us) (joined qs rs) e)) ≡ extend (append vs (cons v nil)) (joined ps qs) o
extend_more vs ps v qs (failed e) = refl
extend_more vs ps v qs (evaluated us rs c) = ap₂ (λ (x : Terms) (y : Tree several). evaluated x y c) (append_more vs v us) (joined_joined ps qs rs)

-- A number among those of a part of a row is one of as many as the part was to have.
pub inside_part : (row : List ℕ) (a : ℕ) {k : ℕ} → k < length (take (8 + a - 8) (drop 8 row)) → k < a
inside_part row a h = omega (arith, length-take (8 + a - 8) (drop 8 row))

rest_drop : (k : ℕ) (l : List ℕ) → rest (drop k l) ≡ drop (suc k) l
rest_drop zero [] = refl
rest_drop zero (x ∷ l) = refl
rest_drop (suc k) [] = refl
rest_drop (suc k) (x ∷ l) = rest_drop k l

-- Rows of trees, and then of others behind them.
listed_more : {trees₀ trees trees' : Rows} {calls₀ : ℕ} {words words' : List ℕ} {ps qs : Tree several} {c d : Spent}
    → Values words c.words
    → Same 0 (cells words) (cells words') c.words → c.words ≤ d.words → TreesListed trees₀ calls₀ 1 words trees ps c
    → TreesListed trees c.calls 1 words' trees' qs d
    → TreesListed trees₀ calls₀ 1 words' trees' (joined ps qs) d
listed_more {trees₀} {trees} {trees'} {calls₀} {words} {words'} {ps} {qs} {c} {d} s e g a b =
    let l : calls₀ ≤ c.calls = lists_up 0 0 words c.words trees calls₀ 1 ps c.calls a.lists in
    record {
      lists = lists_joined 0 0 words' d.words trees' calls₀ 1 ps c.calls qs d.calls
          (lists_same 0 0 words' d.words trees trees' calls₀ 1 ps c.calls (λ j x y. b.before j y)
          (lists_grown 0 0 words words' c.words d.words s.formed e g trees calls₀ 1 ps c.calls a.lists)) b.lists;
      before = λ j x. b.before j (omega arith) ∙ a.before j x;
    }

-- What an answer says.
pub record Worked (W : List ℕ) (T : Rows) (u limit m : ℕ) (W' : List ℕ) (T' : Rows) (o : Evaluated one)
    (q value next calls used : ℕ) : Type 0 where
  pub term : Term
  pub own : Tree several
  pub is : o ≡ evaluated term own (record { calls = calls; words = used })
  pub behind : next ≡ q
  pub stands : Stands W u limit W' term value used
  pub listed : TreesListed T m 1 W' T' own (record { calls = calls; words = used })

module _ (q : ℕ) (W : List ℕ) (T : Rows) (W' : List ℕ) (T' : Rows) (u limit m : ℕ) {r : Result Expressed Refusal} where
  worked : (o : Evaluated one) {value next calls used : ℕ} → Evaluates o q r W T W' T' u limit m → r ≡ expressed value next calls used
      → Worked W T u limit m W' T' o q value next calls used
  worked (failed e) h p = absurd (rw p at h)
  worked (evaluated v ps c) {value} {next} {calls} {used} (x, e, s, t) p =
      let a : x ≡ value = value_answer (sym p ∙ e) in
      let b : c.words ≡ used = used_answer (sym p ∙ e) in
      let d : c.calls ≡ calls = made_answer (sym p ∙ e) in
      record {
        term = v;
        own = ps;
        is = ap₂ (λ (y z : ℕ). evaluated v ps (record { calls = y; words = z })) d b;
        behind = sym (next_answer (sym p ∙ e));
        stands = rw (a, b) at s;
        listed = record { lists = rw (b, d) at t.lists; before = t.before };
      }

  stopped : (o : Evaluated one) {x : Refusal} → Evaluates o q r W T W' T' u limit m → r ≡ Err x → o ≡ failed (number_of x)
  stopped (failed e) {x} h p = ap failed (sym (rw p at h))
  stopped (evaluated v ps c) (x, e, s, t) p = absurd (let z : ⊥ = cc in z)

-- The first of several terms.
pub record Split (text : List ℕ) (rows : Rows) (p q : ℕ) (ts : Written many) : Type 0 where
  pub term : Written one
  pub others : Written many
  pub middle : ℕ
  pub is : ts ≡ more term others
  pub front : standing.Stands text rows p term middle
  pub later : standing.Stands text rows middle others q
  pub sized : size ts ≡ 1 + size others

split : (text : List ℕ) (rows : Rows) (p q : ℕ) (ts : Written many) → 0 < size ts → standing.Stands text rows p ts q → Split text rows p q ts
unfolding standing.Stands size
split text rows p q none l h = absurd (let z : ⊥ = omega arith in z)
split text rows p q (more t ts) l h = record { term = t; others = ts; middle = h.0; is = refl; front = h.1; later = h.2; sized = refl }

nothing_left : (text : List ℕ) (rows : Rows) (p q : ℕ) (ts : Written many) → size ts ≡ 0 → standing.Stands text rows p ts q → (ts ≡ none) × (p ≡ q)
unfolding standing.Stands size
nothing_left text rows p q none e h = (refl, sym h)
nothing_left text rows p q (more t ts) e h = absurd (let z : ⊥ = omega arith in z)

-- What is left at an argument.
pub record Left (text : List ℕ) (rows : Rows) (S : List Symbol) (rules : List Rule) (i depth calls₀ used₀ limit : ℕ) (trees₀ : Rows)
    (ts : Written many) (q : ℕ)
    (words : List ℕ) (trees : Rows) (values : List ℕ) (k p made spent : ℕ) : Type 0 where
  pub terms : Written many
  pub counted : k + size terms ≡ size ts
  pub stands : standing.Stands text rows p terms q
  pub earlier : Tree several
  pub listed : TreesListed trees₀ calls₀ 1 words trees earlier (record { calls = made; words = spent })
  pub comes : expression_of limit S rules ts (symbol_at S i).inputs (suc depth) (record { calls = calls₀; words = used₀ })
      ≡ extend (args (denote 0 (cells words)) (cells values) 0 k) earlier
      (expression_of limit S rules terms (drop k (symbol_at S i).inputs) (suc depth) (record { calls = made; words = spent }))

pub record Turn (text : List ℕ) (rows : Rows) (at arguments : ℕ) (symbol_rows : Rows) (count i : ℕ) (rule_rows : Rows) (pattern : List ℕ) (depth calls₀ used₀ limit : ℕ)
    (words₀ links₀ : List ℕ) (trees₀ stack₀ : Rows) (words links : List ℕ) (trees stack : Rows) (values : List ℕ)
    (k p made spent : ℕ) : Type 0 where
  pub asked : ApplicationAsked text rows at arguments symbol_rows count i rule_rows pattern depth calls₀ used₀ limit
      words₀ links₀ trees₀ stack₀
  pub all : (wide : ℕ) (rules : List Rule) → Tables text symbol_rows count rule_rows pattern wide rules → (ts : Written many) (q : ℕ) → standing.Stands text rows at ts q → size ts ≡ arguments
      → Left text rows (symbols_of text symbol_rows count) rules i depth calls₀ used₀ limit trees₀ ts q words trees values k p made spent
  pub forms : Headed (arities_of (symbols_of text symbol_rows count)) pattern
      → Formed (arities_of (symbols_of text symbol_rows count)) words₀ used₀
      → Formed (arities_of (symbols_of text symbol_rows count)) words spent
  pub spends : 2 * made + used₀ ≤ 2 * calls₀ + spent
  pub stored : Values words spent
  pub same : Same 0 (cells words₀) (cells words) used₀
  pub grows : used₀ ≤ spent
  pub within : spent ≤ limit
  pub roots : (j : ℕ) → j < k → Value words spent (cells values j)
  pub most : k ≤ arguments
  pub slots : length values ≡ 16
  pub kept : length words ≡ length words₀
  pub restored : links ≡ links₀
  pub lists : length trees ≡ length trees₀
  pub keeps : length stack ≡ length stack₀

module _ {text : List ℕ} {rows : Rows} {at arguments : ℕ} {symbol_rows : Rows} {count i : ℕ} {rule_rows : Rows} {pattern : List ℕ}
    {depth calls used limit : ℕ} {words links : List ℕ} {trees stack : Rows}
    (h : ApplicationAsked text rows at arguments symbol_rows count i rule_rows pattern depth calls used limit words links trees stack) where
  pub turn_start : {values : List ℕ} → length values ≡ 16
      → Turn text rows at arguments symbol_rows count i rule_rows pattern depth calls used limit words links trees stack words links trees stack values 0 at calls used
  turn_start {values} n = record {
    asked = h;
    all = λ wide rules T ts q s z. record {
      terms = ts;
      counted = omega arith;
      stands = s;
      earlier = leaf;
      listed = none_listed trees words (record { calls = calls; words = used });
      comes = sym (extend_none _);
    };
    forms = λ d f. f;
    spends = omega arith;
    stored = h.working.stored;
    same = λ j l. refl;
    grows = omega arith;
    within = h.working.fits;
    roots = λ j l. let z : ⊥ = omega arith in absurd z;
    most = omega arith;
    slots = n;
    kept = refl;
    restored = refl;
    lists = refl;
    keeps = refl;
  }

module _ {text : List ℕ} {rows : Rows} {at arguments : ℕ} {symbol_rows : Rows} {count i : ℕ} {rule_rows : Rows} {pattern : List ℕ} {depth calls₀ used₀ limit : ℕ}
    {words₀ links₀ : List ℕ} {trees₀ stack₀ : Rows} {words links : List ℕ} {trees stack : Rows} {values : List ℕ} {k p made spent : ℕ}
    (h : Turn text rows at arguments symbol_rows count i rule_rows pattern depth calls₀ used₀ limit words₀ links₀ trees₀ stack₀ words links trees stack values k p made spent) where
  abbrev S : List Symbol
  S = symbols_of text symbol_rows count

  pub working : Working words spent limit links trees stack
  working =
      let w = h.asked.working in let a = h.kept in let b = h.lists in let d = h.keeps in let s = w.scratch in let x = w.rows in let y = w.listed in
      record {
        stored = h.stored;
        fits = h.within;
        low = w.low;
        scratch = omega arith;
        linked = rw h.restored w.linked;
        rows = omega arith;
        listed = omega arith;
      }

  pub few : arguments ≤ 16
  few = let a = h.asked.counted in let b = h.asked.tables.inputs i h.asked.known in omega arith

  module _ (l : k < arguments) where
    abbrev Next : (wide : ℕ) (rules : List Rule) → Tables text symbol_rows count rule_rows pattern wide rules → (ts : Written many) (q : ℕ) → standing.Stands text rows at ts q → size ts ≡ arguments → Type 0
    Next wide rules T ts q s z = Split text rows p q (h.all wide rules T ts q s z).terms

    next : (wide : ℕ) (rules : List Rule) (T : Tables text symbol_rows count rule_rows pattern wide rules) (ts : Written many) (q : ℕ) (s : standing.Stands text rows at ts q) (z : size ts ≡ arguments)
        → Split text rows p q (h.all wide rules T ts q s z).terms
    next wide rules T ts q s z = let L = h.all wide rules T ts q s z in let c = L.counted in split text rows p q L.terms (omega arith) L.stands

    pub expression_asked : ExpressionAsked text rows p symbol_rows count rule_rows pattern (depth + 1) made spent limit
        words links trees stack
    expression_asked =
        let a = h.asked in let d = a.deep in let b = a.spent in let c = h.spends in
        let n = next a.wide a.rules a.tables a.terms a.next a.stands a.many in
        record {
          wide = a.wide;
          rules = a.rules;
          tables = a.tables;
          term = n.term;
          next = n.middle;
          stands = n.front;
          working = working;
          deep = omega arith;
          spent = omega arith;
        }

-- Several terms by their first.
module _ (limit : ℕ) (S : List Symbol) (rules : List Rule) (t : Written one) (us : Written many) (sorts : List ℕ) (D : ℕ) (c : Spent) where
  more_fails : {m : ℕ} → expression_of limit S rules t [] D c ≡ failed m → expression_of limit S rules (more t us) sorts D c ≡ failed m
  unfolding expression_of
  more_fails e = rw e

  module _ {v : Term} {ps : Tree several} {d : Spent} (e : expression_of limit S rules t [] D c ≡ evaluated v ps d) where
    more_wrong : (sort_in S v ≡ first sorts → ⊥) → expression_of limit S rules (more t us) sorts D c ≡ failed 33
    unfolding expression_of
    more_wrong x = rw (e, ne_eqb (sort_in S v) (first sorts) x)

    more_right : sort_in S v ≡ first sorts → expression_of limit S rules (more t us) sorts D c
        ≡ if_evaluated (expression_of limit S rules us (rest sorts) D d) (λ vs qs e. evaluated (cons v vs) (joined ps qs) e)
    unfolding expression_of
    more_right x = rw (e, eq-eqb (sort_in S v) (first sorts) x)

-- The values so far, and one more.
values_more : (words words' values : List ℕ) (spent k value : ℕ) (v : Term) → Values words spent → Same 0 (cells words) (cells words') spent
    → ((j : ℕ) → j < k → Value words spent (cells values j)) → k < length values → value_at words' value ≡ v
    → args (denote 0 (cells words')) (cells (set values k value)) 0 (k + 1) ≡ append (args (denote 0 (cells words)) (cells values) 0 k) (cons v nil)
values_more words words' values spent k value v s e roots l is =
    let o : k + 1 ≡ suc k = omega arith in
    let g : ℕ → Term = denote 0 (cells words') in
    let z : 0 + k ≡ k = omega arith in
    let a : args g (cells (set values k value)) 0 k ≡ args (denote 0 (cells words)) (cells values) 0 k =
    args_same 0 g (denote 0 (cells words)) (cells (set values k value)) (cells values) 0 k
    (λ j m. let y : 0 + j ≡ j = omega arith in
    rw y (ap g (get_or-set_other values k j value 0 (λ q. omega arith)) ∙ sym (frame_denote 0 (cells words) 0 spent s.formed (cells words') e (cells values j) (roots j m)))) in
    let b : g (cells (set values k value) (0 + k)) ≡ v = rw z (ap g (get_or-set_same values k value 0 l) ∙ is) in
    rw o (args_more g (cells (set values k value)) 0 k ∙ ap₂ (λ (x : Terms) (y : Term). append x (cons y nil)) a b)

module _ {text : List ℕ} {rows : Rows} {at arguments : ℕ} {symbol_rows : Rows} {count i : ℕ} {rule_rows : Rows} {pattern : List ℕ} {depth calls₀ used₀ limit : ℕ}
    {words₀ links₀ : List ℕ} {trees₀ stack₀ : Rows} {words links : List ℕ} {trees stack : Rows} {values : List ℕ} {k p made spent : ℕ}
    (h : Turn text rows at arguments symbol_rows count i rule_rows pattern depth calls₀ used₀ limit words₀ links₀ trees₀ stack₀ words links trees stack values k p made spent)
    (l : k < arguments) {r : Result Expressed Refusal} {words' links' : List ℕ} {trees' : Rows}
    (g : ExpressionAnswered text rows p symbol_rows count rule_rows pattern
    (depth + 1) made spent limit words links trees r words' links' trees') where
  abbrev T₀ : List Symbol
  T₀ = symbols_of text symbol_rows count

  abbrev Ends : Result Expressed Refusal → Type 0
  Ends r = ApplicationAnswered text rows at arguments symbol_rows count i rule_rows pattern depth calls₀ used₀ limit words₀ links₀ trees₀ r words' links' trees'

  module _ (wide : ℕ) (rules : List Rule) (T : Tables text symbol_rows count rule_rows pattern wide rules) (ts : Written many) (q : ℕ) (s : standing.Stands text rows at ts q)
      (z : size ts ≡ arguments) where
    abbrev L : Left text rows T₀ rules i depth calls₀ used₀ limit trees₀ ts q words trees values k p made spent
    L = h.all wide rules T ts q s z

    abbrev N : Split text rows p q L.terms
    N = next h l wide rules T ts q s z

    abbrev sorts : List ℕ
    sorts = drop k (symbol_at T₀ i).inputs

    abbrev spending : Spent
    spending = record { calls = made; words = spent }

    abbrev whole : Evaluated many
    whole = expression_of limit T₀ rules ts (symbol_at T₀ i).inputs (suc depth) (record { calls = calls₀; words = used₀ })

    told : Evaluates (expression_of limit T₀ rules N.term [] (suc depth) spending)
        N.middle r words trees words' trees' spent limit made
    told = let a : depth + 1 ≡ suc depth = omega arith in rw a at (g.says wide rules T N.term N.middle N.front [])

    whole_is : (o : Evaluated many) → expression_of limit T₀ rules (more N.term N.others) sorts (suc depth) spending ≡ o
        → whole ≡ extend (args (denote 0 (cells words)) (cells values) 0 k) L.earlier o
    whole_is o e = L.comes ∙ ap (extend (args (denote 0 (cells words)) (cells values) 0 k) L.earlier)
        (ap (λ (x : Written many). expression_of limit T₀ rules x sorts (suc depth) spending) N.is ∙ e)

    whole_fails : {x : Refusal} → r ≡ Err x → whole ≡ failed (number_of x)
    whole_fails {x} e = whole_is (failed (number_of x)) (more_fails limit T₀ rules N.term N.others sorts (suc depth) spending
        (stopped N.middle words trees words' trees' spent limit made
        (expression_of limit T₀ rules N.term [] (suc depth) spending) told e))

    module _ {value after calls used : ℕ} (e : r ≡ expressed value after calls used) where
      abbrev W : Worked words trees spent limit made words' trees' (expression_of limit T₀ rules N.term [] (suc depth) spending)
          N.middle value after calls used
      W = worked N.middle words trees words' trees' spent limit made
          (expression_of limit T₀ rules N.term [] (suc depth) spending) told e

      sort_is : sort_in T₀ W.term ≡ (symbol_at T₀ (symbol_of (cells words' value))).output
      sort_is =
          let y : value - 0 ≡ value = omega arith in
          let x = denote_node 0 (cells words') 0 used W.stands.stored.formed value W.stands.root (omega arith) in
          ap (sort_in T₀) (sym W.stands.is ∙ x) ∙ rw y

      first_is : first sorts ≡ column (row_at symbol_rows i) (8 + k)
      first_is =
          let y : k + 0 ≡ k = omega arith in
          let c = h.asked.counted in
          get_or-drop k (symbol_at T₀ i).inputs 0 0 ∙ rw y (ap (λ (x : List ℕ). get_or x k 0) (inputs_at_lem text symbol_rows count T.lent i h.asked.known)
          ∙ columns_at (row_at symbol_rows i) 8 (column (row_at symbol_rows i) 6) k (omega arith))

      whole_wrong : ((symbol_at T₀ (symbol_of (cells words' value))).output ≡ column (row_at symbol_rows i) (8 + k) → ⊥) → whole ≡ failed 33
      whole_wrong x = whole_is (failed 33) (more_wrong limit T₀ rules N.term N.others sorts (suc depth) spending W.is (λ y. x (sym sort_is ∙ y ∙ first_is)))

      left_next : (symbol_at T₀ (symbol_of (cells words' value))).output ≡ column (row_at symbol_rows i) (8 + k)
          → Left text rows T₀ rules i depth calls₀ used₀ limit trees₀ ts q words' trees' (set values k value) (k + 1) after calls used
      left_next x =
          let o : Evaluated many = expression_of limit T₀ rules N.others (rest sorts) (suc depth) (record { calls = calls; words = used }) in
          let u : whole ≡ extend (append (args (denote 0 (cells words)) (cells values) 0 k) (cons W.term nil))
          (joined L.earlier W.own) o =
          whole_is (if_evaluated o (λ vs qs e. evaluated (cons W.term vs) (joined W.own qs) e))
          (more_right limit T₀ rules N.term N.others sorts (suc depth) spending W.is (sort_is ∙ x ∙ sym first_is))
          ∙ extend_more (args (denote 0 (cells words)) (cells values) 0 k) L.earlier W.term W.own o in
          let f = few h in let n = h.slots in
          let b = values_more words words' values spent k value W.term h.stored W.stands.same h.roots (omega arith) W.stands.is in
          let d : rest sorts ≡ drop (k + 1) (symbol_at T₀ i).inputs = let y : k + 1 ≡ suc k = omega arith in rw y (rest_drop k (symbol_at T₀ i).inputs) in
          record {
            terms = N.others;
            counted = (let c = L.counted in let y = N.sized in omega arith);
            stands = subst (λ (y : ℕ). standing.Stands text rows y N.others q) (sym W.behind) N.later;
            earlier = joined L.earlier W.own;
            listed = listed_more h.stored W.stands.same W.stands.grows L.listed W.listed;
            comes = u ∙ ap₂ (λ (y : Terms) (w : List ℕ). extend y (joined L.earlier W.own)
                (expression_of limit T₀ rules N.others w (suc depth) (record { calls = calls; words = used }))) (sym b) d;
          }

  ends_failed : {x : Refusal} → ((wide : ℕ) (rules : List Rule) (T : Tables text symbol_rows count rule_rows pattern wide rules) (ts : Written many) (q : ℕ) (s : standing.Stands text rows at ts q)
      (z : size ts ≡ arguments) → whole wide rules T ts q s z ≡ failed (number_of x)) → Ends (Err x)
  ends_failed {x} f = record {
    says = λ wide rules T ts q s z. subst (λ (o : Evaluated many). Evaluates (apply_of limit T₀ rules i depth o) q
        (Err x) words₀ trees₀ words' trees' used₀ limit calls₀)
        (sym (f wide rules T ts q s z)) refl;
    forms = λ d f v n c u w. refused_answer w;
    spends = λ v n c u w. refused_answer w;
    kept = g.kept ∙ h.kept;
    restored = g.restored ∙ h.restored;
  }

  pub argument_refused : {x : Refusal} → r ≡ Err x → Ends (Err x)
  argument_refused e = ends_failed (λ wide rules T ts q s z. whole_fails wide rules T ts q s z e)

  module _ {value after calls used : ℕ} (e : r ≡ expressed value after calls used) where
    -- As in the asked: the value's facts.
    mine : (t : Term) × Stands words spent limit words' t value used
    mine = let a = h.asked in let w = W a.wide a.rules a.tables a.terms a.next a.stands a.many e in (w.term, w.stands)

    pub value_inside : (value < length words') × (headers ≤ cells words' value) × (value < headers)
    value_inside =
        let m = mine.1 in let y : value - 0 ≡ value = omega arith in
        let n = m.root.node (omega arith) in let w = m.stored.within in let o = m.stored.low in
        let b : headers ≤ cells words' value = rw y at (m.root.header (omega arith)) in
        (omega arith, b, omega arith)

    module _ {sort : ℕ} (o : (text : List ℕ) → sort ≡ (symbol_at (symbols_of text symbol_rows count) (symbol_of (cells words' value))).output) where
      pub wrong_sort : (sort ≡ column (row_at symbol_rows i) (8 + k) → ⊥) → Ends (Err WrongSort)
      wrong_sort x = ends_failed (λ wide rules T ts q s z. whole_wrong wide rules T ts q s z e (λ y. x (o text ∙ y)))

      pub turn_next : sort ≡ column (row_at symbol_rows i) (8 + k) → {stack' : Rows} → length trees' ≡ length trees
          → length stack' ≡ length stack
          → Turn text rows at arguments symbol_rows count i rule_rows pattern depth calls₀ used₀ limit words₀ links₀ trees₀ stack₀ words' links' trees' stack' (set values k value) (k + 1) after calls used
      turn_next x {stack'} a b =
          let m = mine.1 in
          let f = few h in let n = h.slots in
          record {
            asked = h.asked;
            all = λ wide rules T ts q s z. left_next wide rules T ts q s z e (sym (o text) ∙ x);
            forms = λ d f. g.forms d (h.forms d f) value after calls used e;
            spends = (let u = h.spends in let v = g.spends value after calls used e in omega arith);
            stored = m.stored;
            same = λ j y. let u = h.grows in h.same j y ∙ m.same j (omega arith);
            grows = (let u = h.grows in let v = m.grows in omega arith);
            within = m.within;
            roots = λ j y. by_same j k
                (λ c d. rw (c, get_or-set_same values k value 0 (omega arith)) m.root)
                (λ c d. rw (get_or-set_other values k j value 0 c) (let v = m.grows in reference_up 0 (omega arith) v (reference_same 0 m.same (h.roots j (omega (arith, c))))));
            most = omega arith;
            slots = length-set values k value ∙ n;
            kept = g.kept ∙ h.kept;
            restored = g.restored ∙ h.restored;
            lists = a ∙ h.lists;
            keeps = b ∙ h.keeps;
          }

-- All arguments are there.
concluded_refused : (W : List ℕ) (T : Rows) (W' : List ℕ) (T' : Rows) (u limit calls : ℕ) {r : Result Outcome Refusal} (o : Evaluated one) {x : Refusal}
    → Concludes o r W T W' T' u limit calls
    → r ≡ Err x → o ≡ failed (number_of x)
concluded_refused W T W' T' u limit calls (failed e) {x} h p = ap failed (sym (rw p at h))
concluded_refused W T W' T' u limit calls (evaluated v ps c) (x, e, s, t) p = absurd (let z : ⊥ = cc in z)

module _ (q : ℕ) (W₀ : List ℕ) (T₀ : Rows) (W : List ℕ) (T : Rows) (W' : List ℕ) (T' : Rows) (u₀ limit calls₀ : ℕ) (b : Spent)
    (ps : Tree several) where
  concluded_at : {r : Result Outcome Refusal} (o : Evaluated one) {value calls used : ℕ} → Values W b.words → Same 0 (cells W₀) (cells W) u₀
      → u₀ ≤ b.words
      → TreesListed T₀ calls₀ 1 W T ps b → Concludes o r W T W' T' b.words limit b.calls → r ≡ outcome value calls used
      → Evaluates (prefixed ps o) q (expressed value q calls used) W₀ T₀ W' T' u₀ limit calls₀
  concluded_at (failed e) a k l t h p = absurd (rw p at h)
  concluded_at (evaluated v qs c) {value} {calls} {used} a k l t (x, e, s, y) p =
      let m : value ≡ x = sym (value_worth (sym p ∙ e)) in
      let d : used ≡ c.words = sym (used_worth (sym p ∙ e)) in
      let f : calls ≡ c.calls = sym (made_worth (sym p ∙ e)) in (
        x,
        rw (m, d, f),
        record {
          stored = s.stored;
          root = s.root;
          is = s.is;
          same = λ i n. k i n ∙ s.same i (omega arith);
          grows = (let g = s.grows in omega arith);
          within = s.within;
        },
        listed_more a s.same s.grows t y,
      )

module _ {text : List ℕ} {rows : Rows} {at arguments : ℕ} {symbol_rows : Rows} {count i : ℕ} {rule_rows : Rows} {pattern : List ℕ} {depth calls₀ used₀ limit : ℕ}
    {words₀ links₀ : List ℕ} {trees₀ stack₀ : Rows} {words links : List ℕ} {trees stack : Rows} {values : List ℕ} {k p made spent : ℕ}
    (h : Turn text rows at arguments symbol_rows count i rule_rows pattern depth calls₀ used₀ limit words₀ links₀ trees₀ stack₀ words links trees stack values k p made spent)
    (l : arguments ≤ k) where
  abbrev given : List ℕ
  given = take arguments values

  pub given_size : length given ≡ arguments
  given_size = let f = few h in let n = h.slots in length-take-le arguments values (omega arith)

  values_are : values_of words given ≡ args (denote 0 (cells words)) (cells values) 0 k
  values_are =
      let n = given_size in let b = h.most in let e : length given ≡ k = omega arith in
      rw e (args_same 0 (denote 0 (cells words)) (denote 0 (cells words)) (cells given) (cells values) 0 k
      (λ j y. let o : 0 + j ≡ j = omega arith in rw o (ap (denote 0 (cells words)) (get_or-take arguments values j 0 (omega arith)))))

  -- What the arguments come to.
  pub record Ready (rules : List Rule) (ts : Written many) (q : ℕ) : Type 0 where
    pub behind : p ≡ q
    pub earlier : Tree several
    pub listed : TreesListed trees₀ calls₀ 1 words trees earlier (record { calls = made; words = spent })
    pub comes : expression_of limit (symbols_of text symbol_rows count) rules ts
        (symbol_at (symbols_of text symbol_rows count) i).inputs (suc depth)
        (record { calls = calls₀; words = used₀ }) ≡ evaluated (values_of words given) earlier (record { calls = made; words = spent })

  done : (wide : ℕ) (rules : List Rule) (T : Tables text symbol_rows count rule_rows pattern wide rules) (ts : Written many) (q : ℕ)
      (s : standing.Stands text rows at ts q)
      (z : size ts ≡ arguments) → Ready rules ts q
  unfolding expression_of
  done wide rules T ts q s z =
      let L = h.all wide rules T ts q s z in let c = L.counted in
      let (e, y) = nothing_left text rows p q L.terms (omega arith) L.stands in
      record {
        behind = y;
        earlier = L.earlier;
        listed = L.listed;
        comes = L.comes ∙ rw e (ap₂ (λ (x : Terms) (w : Tree several). evaluated x w (record { calls = made; words = spent }))
            (append_nothing _ ∙ sym values_are) (joined_nothing L.earlier));
      }

  module _ {r : Result Outcome Refusal} {words' links' : List ℕ} {trees' : Rows}
      (g : ApplyAnswered symbol_rows rule_rows pattern i given depth made spent limit words links trees r words' links' trees') where
    abbrev tables : List Symbol
    tables = symbols_of text symbol_rows count

    abbrev counts : Spent
    counts = record { calls = made; words = spent }

    abbrev applied : List Rule → Evaluated one
    applied rules = apply_of limit tables rules i depth (evaluated (values_of words given) leaf counts)

    abbrev Answers : Result Expressed Refusal → Type 0
    Answers r = ApplicationAnswered text rows at arguments symbol_rows count i rule_rows pattern depth calls₀ used₀ limit words₀ links₀ trees₀ r words' links' trees'

    applied_is : (rules : List Rule) (ts : Written many) (q : ℕ) (D : Ready rules ts q)
        → apply_of limit tables rules i depth (expression_of limit tables rules ts (symbol_at tables i).inputs (suc depth)
        (record { calls = calls₀; words = used₀ }))
        ≡ prefixed D.earlier (applied rules)
    applied_is rules ts q D = ap (apply_of limit tables rules i depth) D.comes
        ∙ apply_prefixed limit tables rules i depth (values_of words given) D.earlier counts

    pub apply_refused : {x : Refusal} → r ≡ Err x → Answers (Err x)
    apply_refused {x} e = record {
      says = λ wide rules T ts q s z.
          let D = done wide rules T ts q s z in
          let f : applied rules ≡ failed (number_of x) =
          concluded_refused words trees words' trees' spent limit made (applied rules)
          (g.says text count wide rules T h.asked.known) e in
          subst (λ (o : Evaluated one). Evaluates o q (Err x) words₀ trees₀ words' trees' used₀ limit calls₀)
          (sym (applied_is rules ts q D ∙ ap (prefixed D.earlier) f)) refl;
      forms = λ d f v n c u w. refused_answer w;
      spends = λ v n c u w. refused_answer w;
      kept = g.kept ∙ h.kept;
      restored = g.restored ∙ h.restored;
    }

    pub apply_done : {value calls used : ℕ} → r ≡ outcome value calls used → Answers (expressed value p calls used)
    apply_done {value} {calls} {used} e = record {
      says = λ wide rules T ts q s z.
          let D = done wide rules T ts q s z in
          let f = concluded_at q words₀ trees₀ words trees words' trees' used₀ limit calls₀ counts D.earlier (applied rules)
          h.stored h.same h.grows D.listed
          (g.says text count wide rules T h.asked.known) e in
          subst (λ (x : Evaluated one). Evaluates x q (expressed value p calls used) words₀ trees₀ words' trees' used₀ limit calls₀)
          (sym (applied_is rules ts q D))
          (subst (λ (x : ℕ). Evaluates (prefixed D.earlier (applied rules)) q
          (expressed value x calls used) words₀ trees₀ words' trees' used₀ limit calls₀)
          (sym D.behind) f);
      forms = λ d f v n c u w.
          let a = h.asked in
          rw (used_answer w) (g.forms text count a.wide a.rules a.tables a.known d (h.forms d f) value calls used e);
      spends = λ v n c u w.
          let a = h.spends in let b = g.spends value calls used e in let m = made_answer w in let s = used_answer w in omega arith;
      kept = g.kept ∙ h.kept;
      restored = g.restored ∙ h.restored;
    }
