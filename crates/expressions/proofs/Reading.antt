-- `expression`: one law for each way out.
use Prim.Native.Nat.{ℕ, zero, suc, ◌+◌, ◌-◌, ◌≤◌, ◌<◌}
use native.Mathlib.Omega.{arith}
use mathlib.Core.Path.{◌≡◌, refl, sym, ap, ◌∙◌, subst}
use mathlib.Core.Bool.{Bool, true, false, cond, ◌&&◌}
use mathlib.Core.List.{List}
use lib.Dec.{eqb, ltb}
use lib.ListN.{length}
use borrow.Author.Tests.{lt-ltb, le-ltb, eqb-true}
use Rattle.terms.specs.Term.Kind.{one as single, many as several}
use Rattle.term_parser.specs.Source.{one}
use Rattle.term_parser.specs.Standing as standing
use Rattle.term_parser.specs.Standing.{Written, number, meta, called, applied, size}
use Rattle.names.specs.Names.{name_of}
use Rattle.names.specs.Symbols.{Rows, Symbol, column, row_at, symbol_of, symbols_of, symbol_at, symbol_number}
use Rattle.patterns.specs.Patterns.{when, is_ctor, zero_name, succ_name}
use Rattle.resolution.specs.Rules.{Rule, Tree, leaf}
use Rattle.tree_rows.specs.Trees.{Lists}
use Rattle.evaluation.specs.Matching.{Built, barred, built}
use Rattle.evaluation.specs.Calls.{Spent}
use Rattle.evaluation.specs.Expressions.{Evaluated, failed, evaluated, misuse, unless, around, with_symbol, numeral_misuse, tower_of, numeral_of, apply_of, expression_of}
use Rattle.std.specs.Prelude.{Result, Err}
use Rattle.refusals.specs.declared.Refusal.{Refusal}
use Rattle.refusals.specs.Refusals.{number_of}
use Rattle.refusals.specs.declared.Refusal.TheVariants.{TooDeep, NotGround, UnknownSymbol}
use Rattle.clause_matching.specs.Building.{built_at}
use Rattle.clause_matching.specs.declared.building.Built.{Built as Made}
use Rattle.expressions.specs.Numerals.{Gives, NumeralAnswered}
use Rattle.expressions.specs.Applying.{Tables}
use Rattle.expressions.specs.Terms.{expressed, ExpressionAsked, Evaluates, ExpressionAnswered, ApplicationAsked, ApplicationAnswered}
use Rattle.expressions.specs.declared.written.Expressed.{Expressed}
use Rattle.forward_calls.proofs.Tables.{symbols_length, symbol_at_lem, function_at, arity_at_lem}
use Rattle.forward_calls.proofs.Heads.{Head, head_of, row_within, number_row, meta_row}
use Rattle.expressions.proofs.Forming.{value_at_lem, used_at, refused_answer, made_answer, used_answer}
use Rattle.expressions.proofs.Misuses.{unless_some}

-- A numeral makes no calls.
abbrev Treeless : Evaluated one → Type 0
Treeless (failed e) = Unit {0}
Treeless (evaluated v ps c) = ps ≡ leaf

around_treeless : (calls : ℕ) (b : Built single) → Treeless (around leaf calls b)
around_treeless calls (barred e) = tt
around_treeless calls (built t used) = refl

unless_treeless : (e : ℕ) (o : Evaluated one) → Treeless o → Treeless (unless e (λ _. o))
unless_treeless zero o h = h
unless_treeless (suc e) o h = tt

either_treeless : (b : Bool) (o : Evaluated one) → Treeless o → Treeless (when b (λ _. o) (λ _. failed 26))
either_treeless true o h = h
either_treeless false o h = tt

numeral_treeless : (limit : ℕ) (S : List Symbol) (rules : List Rule) (v depth : ℕ) (c : Spent)
    → Treeless (numeral_of limit S rules v depth c)
unfolding numeral_of
numeral_treeless limit S rules v depth c =
    let y : ℕ = symbol_number S succ_name in
    let z : ℕ = symbol_number S zero_name in
    let e : ℕ = numeral_misuse limit S rules y z v depth in
    let o : Evaluated one = around leaf c.calls (tower_of limit S rules y z v c.words) in
    either_treeless (is_ctor S zero_name && is_ctor S succ_name) (unless e (λ _. o))
    (unless_treeless e o (around_treeless c.calls (tower_of limit S rules y z v c.words)))

module _ (q : ℕ) (words : List ℕ) (trees : Rows) (words' : List ℕ) (used limit calls : ℕ) {r : Result Made Refusal} where
  gives_refused : (o : Evaluated one) {x : Refusal} → Gives o calls r words words' used limit → r ≡ Err x
      → Evaluates o q (Err x) words trees words' trees used limit calls
  gives_refused (failed e) {x} h p = rw p at h
  gives_refused (evaluated v ps c) (value, e, s, k) p = absurd (let z : ⊥ = cc in z)

  gives_more : (o : Evaluated one) {value after : ℕ} → Gives o calls r words words' used limit → r ≡ built_at value after → used ≤ after
  gives_more (failed e) h p = absurd (rw p at h)
  gives_more (evaluated v ps c) {value} {after} (x, e, s, k) p = let a : c.words ≡ after = used_at (sym p ∙ e) in let g = s.grows in omega arith

  gives_at : (o : Evaluated one) {value after : ℕ} → Treeless o → Gives o calls r words words' used limit → r ≡ built_at value after
      → Evaluates o q (expressed value q calls after) words trees words' trees used limit calls
  unfolding Lists
  gives_at (failed e) n h p = absurd (rw p at h)
  gives_at (evaluated v ps c) {value} {after} n (x, e, s, k) p =
      let a : value ≡ x = sym (value_at_lem (sym p ∙ e)) in
      let b : after ≡ c.words = sym (used_at (sym p ∙ e)) in
      let l : Lists 0 0 words' c.words trees calls 1 ps c.calls =
      subst (λ (y : Tree several). Lists 0 0 words' c.words trees calls 1 y c.calls) (sym n) k in
      (x, rw (a, b, k), s, record { lists = l; before = λ j y. refl })

deep_fails : (limit : ℕ) (S : List Symbol) (rules : List Rule) (t : Written one) (sorts : List ℕ) (depth : ℕ) (c : Spent) → 128 < depth → expression_of limit S rules t sorts depth c ≡ failed 29
unfolding expression_of
deep_fails limit S rules (number v) sorts depth c l = rw (lt-ltb 128 depth l)
deep_fails limit S rules (meta w) sorts depth c l = rw (lt-ltb 128 depth l)
deep_fails limit S rules (called w) sorts depth c l = rw (lt-ltb 128 depth l)
deep_fails limit S rules (applied w ts) sorts depth c l = rw (lt-ltb 128 depth l)

no_misuse : (a b : Bool) (x : ℕ) → ◌≡◌ {A = ℕ} 0 (cond a 32 (cond b 0 21)) → b ≡ true
no_misuse true b x e = absurd (let z : ⊥ = omega arith in z)
no_misuse false true x e = refl
no_misuse false false x e = absurd (let z : ⊥ = omega arith in z)

module _ {text : List ℕ} {rows : Rows} {at : ℕ} {symbol_rows : Rows} {count : ℕ} {rule_rows : Rows} {pattern : List ℕ}
    {depth calls used limit : ℕ} {words links : List ℕ} {trees stack : Rows}
    (h : ExpressionAsked text rows at symbol_rows count rule_rows pattern depth calls used limit words links trees stack) where
  abbrev S : List Symbol
  S = symbols_of text symbol_rows count

  abbrev Says : Result Expressed Refusal → List ℕ → List ℕ → Rows → Type 0
  Says r words' links' trees' =
      ExpressionAnswered text rows at symbol_rows count rule_rows pattern depth calls used limit words links trees r words' links' trees'

  abbrev counts : Spent
  counts = record { calls = calls; words = used }

  abbrev kind : ℕ
  kind = column (row_at rows at) 0

  pub inside : at < length rows
  inside = row_within text rows at h.next h.term h.stands

  fails : {x : Refusal} → ((wide : ℕ) (rules : List Rule) → Tables text symbol_rows count rule_rows pattern wide rules → (t : Written one) (q : ℕ) → standing.Stands text rows at t q
      → (sorts : List ℕ) → expression_of limit S rules t sorts depth counts ≡ failed (number_of x)) → Says (Err x) words links trees
  fails {x} k = record {
    says = λ wide rules T t q s sorts. subst (λ (o : Evaluated one). Evaluates o q (Err x) words trees words trees used limit calls)
        (sym (k wide rules T t q s sorts)) refl;
    forms = λ d f v n c u w. refused_answer w;
    spends = λ v n c u w. refused_answer w;
    kept = refl;
    restored = refl;
  }

  pub too_deep : 128 < depth → Says (Err TooDeep) words links trees
  too_deep l = fails (λ wide rules T t q s sorts. deep_fails limit S rules t sorts depth counts l)

  module _ (l : depth ≤ 128) where
    shallow : ltb 128 depth ≡ false
    shallow = le-ltb 128 depth l

    module _ (k : kind ≡ 14) {r : Result Made Refusal} {words' : List ℕ} (g : NumeralAnswered text symbol_rows count (column (row_at rows at) 3) depth words used limit r words') where
      numeral_is : (limit : ℕ) (rules : List Rule) (v : ℕ) (sorts : List ℕ) → expression_of limit S rules (number v) sorts depth counts ≡ numeral_of limit S rules v depth counts
      unfolding expression_of
      numeral_is limit rules v sorts = rw shallow

      number_grows : {value after : ℕ} → r ≡ built_at value after → used ≤ after
      number_grows p =
          let (v, e, c, n) = number_row text rows at h.next h.term h.stands k in
          gives_more h.next words trees words' used limit calls (numeral_of limit S h.rules v depth counts)
          (g.says v c h.rules calls) p

      pub number_refused : {x : Refusal} → r ≡ Err x → Says (Err x) words' links trees
      number_refused {x} p = record {
        says = λ wide rules T t q s sorts.
            let (v, e, c, n) = number_row text rows at q t s k in
            subst (λ (o : Evaluated one). Evaluates o q (Err x) words trees words' trees used limit calls)
            (sym (ap (λ (u : Written one). expression_of limit S rules u sorts depth counts) e ∙ numeral_is limit rules v sorts))
            (gives_refused q words trees words' used limit calls (numeral_of limit S rules v depth counts) (g.says v c rules calls) p);
        forms = λ d f v n c u w. refused_answer w;
        spends = λ v n c u w. refused_answer w;
        kept = g.kept;
        restored = refl;
      }

      pub number_built : {value after : ℕ} → r ≡ built_at value after → Says (expressed value (at + 1) calls after) words' links trees
      number_built {value} {after} p = record {
        says = λ wide rules T t q s sorts.
            let (v, e, c, n) = number_row text rows at q t s k in
            subst (λ (y : ℕ). Evaluates (expression_of limit S rules t sorts depth counts) q
            (expressed value y calls after) words trees words' trees used limit calls) n
            (subst (λ (x : Evaluated one). Evaluates x q (expressed value q calls after) words trees words' trees used limit calls)
            (sym (ap (λ (u : Written one). expression_of limit S rules u sorts depth counts) e ∙ numeral_is limit rules v sorts))
            (gives_at q words trees words' used limit calls (numeral_of limit S rules v depth counts)
            (numeral_treeless limit S rules v depth counts) (g.says v c rules calls) p));
        forms = λ d f v n c u w. rw (used_answer w) (g.forms f value after p);
        spends = λ v n c u w. let m = made_answer w in let s = used_answer w in let b = number_grows p in omega arith;
        kept = g.kept;
        restored = refl;
      }

    pub of_meta : kind ≡ 13 → Says (Err NotGround) words links trees
    unfolding expression_of
    of_meta k = fails (λ wide rules T t q s sorts. let (w, e) = meta_row text rows at q t s k in
        ap (λ (u : Written one). expression_of limit S rules u sorts depth counts) e ∙ rw shallow)

    module _ (n : kind ≡ 14 → ⊥) (m : kind ≡ 13 → ⊥) {i : ℕ}
        (found : i ≡ symbol_number S (name_of text kind (column (row_at rows at) 1) (column (row_at rows at) 2))) where
      opened : (rules : List Rule) (t : Written one) (q : ℕ) (s : standing.Stands text rows at t q) (sorts : List ℕ) → expression_of limit S rules t sorts depth counts
          ≡ with_symbol limit S rules (head_of text rows at q t s n m).name (size (head_of text rows at q t s n m).parts) (λ j.
          apply_of limit S rules j depth (expression_of limit S rules (head_of text rows at q t s n m).parts (symbol_at S j).inputs (suc depth) counts))
      opened rules t q s sorts = (head_of text rows at q t s n m).comes limit S rules sorts depth counts ∙ rw shallow

      numbered : {t : Written one} {q : ℕ} (d : Head text rows at t q) → symbol_number S d.name ≡ i
      numbered d = sym (found ∙ ap (symbol_number S) d.spells)

      pub of_unknown : count ≤ i → Says (Err UnknownSymbol) words links trees
      of_unknown b = fails (λ wide rules T t q s sorts. opened rules t q s sorts
          ∙ rw (numbered (head_of text rows at q t s n m), symbols_length text symbol_rows count h.tables.lent, le-ltb i count b))

      module _ (b : i < count) {k : ℕ} (c : k ≡ column (row_at rows at) 3) where
        module _ {e : ℕ} (found_in : (text : List ℕ) → e ≡ misuse (symbol_of text (row_at symbol_rows i)) k) where
          v : (text : List ℕ) → e ≡ misuse (symbol_at (symbols_of text symbol_rows count) i) k
          v text = rw (symbol_at_lem text symbol_rows count h.tables.lent i b) (found_in text)

          known : (rules : List Rule) (t : Written one) (q : ℕ) (s : standing.Stands text rows at t q) (sorts : List ℕ) → expression_of limit S rules t sorts depth counts
              ≡ unless e (λ _. apply_of limit S rules i depth (expression_of limit S rules (head_of text rows at q t s n m).parts (symbol_at S i).inputs (suc depth) counts))
          known rules t q s sorts =
              let d = head_of text rows at q t s n m in
              let z : size d.parts ≡ k = sym (c ∙ d.counts) in
              let w : misuse (symbol_at S i) k ≡ e = sym (v text) in
              opened rules t q s sorts ∙ rw (numbered d, symbols_length text symbol_rows count h.tables.lent, lt-ltb i count b, z, w)

          pub of_misuse : {x : Refusal} → number_of x ≡ e → (e ≡ 0 → ⊥) → Says (Err x) words links trees
          of_misuse p d = fails (λ wide rules T t q s sorts. known rules t q s sorts
              ∙ unless_some e (λ _. apply_of limit S rules i depth (expression_of limit S rules (head_of text rows at q t s n m).parts (symbol_at S i).inputs (suc depth) counts)) d ∙ ap failed (sym p))

          module _ (z : e ≡ 0) where
            counted : k + column (row_at symbol_rows i) 3 ≡ column (row_at symbol_rows i) 6
            counted =
                let x : eqb k (length (symbol_at S i).inputs - (symbol_at S i).function) ≡ true =
                no_misuse (eqb (symbol_at S i).function 0 && eqb (symbol_at S i).output 0) (eqb k (length (symbol_at S i).inputs - (symbol_at S i).function)) 0 (sym z ∙ v text) in
                let y : k ≡ length (symbol_at S i).inputs - (symbol_at S i).function = eqb-true k (length (symbol_at S i).inputs - (symbol_at S i).function) x in
                let f = function_at text symbol_rows count h.tables.lent i b in
                let a = arity_at_lem text symbol_rows count h.tables.lent i b in
                let w = h.tables.results i b in
                omega arith

            pub application_asked : ApplicationAsked text rows
                (at + 1) k symbol_rows count i rule_rows pattern depth calls used limit words links trees stack
            application_asked =
                let d = head_of text rows at h.next h.term h.stands n m in
                record {
                  wide = h.wide;
                  rules = h.rules;
                  tables = h.tables;
                  known = b;
                  counted = counted;
                  terms = d.parts;
                  next = h.next;
                  stands = d.stands;
                  many = sym (c ∙ d.counts);
                  working = h.working;
                  deep = l;
                  spent = h.spent;
                }

            pub applied_to : {r : Result Expressed Refusal} {words' links' : List ℕ} {trees' : Rows}
                → ApplicationAnswered text rows (at + 1) k symbol_rows count i rule_rows pattern depth calls used limit words links trees r words' links' trees'
                → Says r words' links' trees'
            applied_to {r} {words'} {links'} {trees'} g = record {
              says = λ wide rules T t q s sorts.
                  let d = head_of text rows at q t s n m in
                  let f : expression_of limit S rules t sorts depth counts
                  ≡ apply_of limit S rules i depth (expression_of limit S rules d.parts (symbol_at S i).inputs (suc depth) counts) = known rules t q s sorts ∙ rw z in
                  subst (λ (x : Evaluated one). Evaluates x q r words trees words' trees' used limit calls) (sym f)
                  (g.says wide rules T d.parts q d.stands (sym (c ∙ d.counts)));
              forms = g.forms;
              spends = g.spends;
              kept = g.kept;
              restored = g.restored;
            }
