-- A signature in the listed form is a program: its symbols and the clauses of its functions stand in storage as calls ask it (`Program`, `Tables`), read over the
-- words in use alone, and each header among these is one of a known symbol. Its clauses are in form (`ClauseForm`), and among its rules.
use Rattle.std.specs.Prelude.{ℕ, zero, suc, ◌+◌, ◌-◌, ◌≤◌, ◌<◌, ◌≡◌, true, get_or, take}
use native.Mathlib.Omega.{arith}
use Rattle.std.proofs.Math.Path.{refl, sym, ap, subst}
use Rattle.std.proofs.Common.{◌∙◌, length-take, get_or-take}
use Rattle.std.proofs.Math.Option.{some}
use mathlib.Core.List.{List, [], ◌∷◌, map}
use Rattle.std.proofs.Math.ListN.{length, get_or-map, get_or-eq_default}
use Rattle.std.proofs.lemmas.List.{get_or_past}
use Rattle.terms.specs.Numbers.{by_less}
use Rattle.terms.specs.Term.{Term, Terms, var, app, cons, count}
use Rattle.arena.specs.Cells.{headers, Cells, cells, symbol_of, arity_of, args, denote, terms_of, Same, Reference, WellFormed, denote_variable, denote_node, reference_up}
use Rattle.arena.specs.ArgumentLaws.{count_args}
use Rattle.arena.specs.Copies.{pattern_room}
use Rattle.arena.specs.Form.{in_form}
use Rattle.arena.specs.FormLaws.{Header, header_yes, form_words}
use Rattle.resolution.specs.Rules.{Rule, rule_at_lem}
use Rattle.resolution.specs.Search.{words}
use Rattle.names.specs.Symbols.{Rows, Symbol, column, columns, row_at, symbol_at, no_symbol, symbol_of as symbolIn}
use Rattle.names.specs.SearchLaws.{columns_length, columns_at}
use Rattle.rules.specs.StoredRows.{heads_in, Kept}
use Rattle.rules.specs.LayingLaws.{Lying, form_append, lying_one, rule_form}
use Rattle.rules.specs.PatternLaws.{arities_of}
use Rattle.rule_checks.specs.RuleForm.{rule_in}
use Rattle.loader.specs.Legal.{Calls, ClauseFormed, no_rule}
use Rattle.loader.specs.Holding.{RulesKept, rules_same, rules_up}
use Rattle.signature.specs.Storage.{SignatureStore, symbols_in, rules_in, signature_of, SignatureListed}
use Rattle.signature.specs.StoreLaws.{rules_length, rules_at, rule_count_lem, rule_of_row, symbol_count_lem, symbol_of_row}
use Rattle.evaluation.specs.MatchingLaws.{Some}
use Rattle.evaluation.specs.Derivations.{JudgmentOf, Judgments, ClauseOf, ClauseForm}
use Rattle.evaluation.proofs.LoadedLaws.{some_counted, is_function_lem}
use Rattle.evaluation.specs.NumberLaws.{ClausesThere}
use Rattle.clause_matching.specs.Stored.{PatternIn, Headed, pattern_at}
use Rattle.clause_matching.specs.Building.{rule_words}
use Rattle.function_calls.specs.Calls.{PremiseIn, ClauseIn, Program}
use Rattle.expressions.specs.Applying.{Tables}

-- A known symbol's header is accepted.
-- Kept rules, one behind another

module _ (text arities pattern : List ℕ) (rows : Rows) where
  -- Their words are in form as one,
  kept_form : (i : ℕ) (Rs : List Rule) (u u' : ℕ) → RulesKept text arities pattern rows i Rs u u' → u' ≤ length pattern
      → in_form pattern 0 u pattern_room pattern_room arities ≡ true → in_form pattern 0 u' pattern_room pattern_room arities ≡ true
  unfolding RulesKept
  kept_form i [] u u' h l e = let q : u ≡ u' = h in rw q at e
  kept_form i (R ∷ Rs) u u' (m, k, r) l e =
      let a = rules_up text arities pattern rows (suc i) Rs m u' r in
      let b = k.to in
      kept_form (suc i) Rs m u' r l
      (form_append pattern 0 u m pattern_room pattern_room arities (omega arith) (omega arith) (omega arith) e
      (rule_form k.lying pattern_room k.lying.premises.below k.lying.conclusion.below))

  -- and well formed.
  kept_formed : (i : ℕ) (Rs : List Rule) (u u' : ℕ) → RulesKept text arities pattern rows i Rs u u' → WellFormed pattern_room (cells pattern) pattern_room u
      → WellFormed pattern_room (cells pattern) pattern_room u'
  unfolding RulesKept
  kept_formed i [] u u' h e = let q : u ≡ u' = h in rw q at e
  kept_formed i (R ∷ Rs) u u' (m, k, r) e = kept_formed (suc i) Rs m u' r k.lying.conclusion.formed

-- The rule at a place is kept, before the end.
kept_within : (text arities words : List ℕ) (rows : Rows) (i : ℕ) (Rs : List Rule) (u u' j : ℕ) → RulesKept text arities words rows i Rs u u' → j < length Rs
    → (a : ℕ) × (b : ℕ) × Kept text arities words (row_at rows (i + j)) (get_or Rs j no_rule) a b × (b ≤ u')
unfolding RulesKept
kept_within text arities words rows i [] u u' j h l = absurd (omega arith)
kept_within text arities words rows i (R ∷ Rs) u u' zero h l =
    let z : i + 0 ≡ i = omega arith in
    let b = rules_up text arities words rows (suc i) Rs h.0 u' h.2 in
    rw z (u, h.0, h.1, b)
kept_within text arities words rows i (R ∷ Rs) u u' (suc j) h l =
    let z : i + suc j ≡ suc i + j = omega arith in
    rw z (kept_within text arities words rows (suc i) Rs h.0 u' j h.2 (omega arith))

-- Terms

-- The terms of a row's references.
terms_columns : (g : ℕ → Term) (row : List ℕ) (j n : ℕ) → args g (column row) j n ≡ terms_of g (columns row j n)
unfolding columns
terms_columns g row j zero = refl
terms_columns g row j (suc n) = ap (cons (g (column row j))) (terms_columns g row (suc j) n)

-- One of several terms takes no more words than all.
words_one : (g : ℕ → Term) (w : Cells) (p n i : ℕ) → i < n → words (g (w (p + i))) ≤ words (args g w p n)
words_one g w p zero i l = let z : ⊥ = omega arith in absurd z
words_one g w p (suc n) zero l = let e : p + 0 ≡ p = omega arith in rw e (omega arith)
words_one g w p (suc n) (suc i) l =
    let e : p + suc i ≡ suc p + i = omega arith in
    let a = words_one g w (suc p) n i (omega arith) in
    rw e (omega arith)

-- Each of several calls is one.
one_call : (symbols : List Symbol) (g : ℕ → Term) (w : Cells) (p n i : ℕ) → Calls symbols (args g w p n) → i < n → Calls symbols (g (w (p + i)))
one_call symbols g w p zero i c l = let z : ⊥ = omega arith in absurd z
one_call symbols g w p (suc n) zero c l = let e : p + 0 ≡ p = omega arith in rw e c.0
one_call symbols g w p (suc n) (suc i) c l = let e : p + suc i ≡ suc p + i = omega arith in rw e (one_call symbols g w (suc p) n i c.1 (omega arith))

-- A reference that denotes a node is one.
node_reference : (w : Cells) (r : ℕ) → (f : ℕ) (ts : Terms) → denote pattern_room w r ≡ app f ts → pattern_room ≤ r
node_reference w r f ts e =
    by_less r pattern_room
    (λ l q. let x : ◌≡◌ {A = Term} (var r) (app f ts) = sym (denote_variable pattern_room w r l) ∙ e in
    let z : ◌≡◌ {A = ℕ} 0 1 = cc in absurd (let y : ⊥ = omega arith in y))
    (λ l q. l)

-- A call is a node of a function.
record IsCall (symbols : List Symbol) (t : Term) : Type 0 where
  pub function : ℕ
  pub arguments : Terms
  pub is : t ≡ app function arguments
  pub marked : (symbol_at symbols function).function ≡ 1

is_call : (symbols : List Symbol) (t : Term) → Calls symbols t → IsCall symbols t
is_call symbols (var x) c = absurd c
is_call symbols (app f ts) c = record { function = f; arguments = ts; is = refl; marked = c }

-- A judgment is a node with a result.
record IsJudgment (t : Term) : Type 0 where
  pub function : ℕ
  pub arguments : Terms
  pub is : t ≡ app function arguments
  pub some_arguments : Some arguments

judgments : (g : ℕ → Term) (w : Cells) (p n : ℕ) → ((i : ℕ) → i < n → IsJudgment (g (w (p + i)))) → Judgments (args g w p n)
judgments g w p zero h = tt
judgments g w p (suc n) h =
    let e : p + 0 ≡ p = omega arith in
    let k : IsJudgment (g (w p)) = rw e at (h 0 (omega arith)) in
    rw k.is (
      k.some_arguments,
      judgments g w (suc p) n (λ i l. let q : p + suc i ≡ suc p + i = omega arith in rw q at (h (suc i) (omega arith))),
    )

-- The signature

module _ (text : List ℕ) (sg : SignatureStore) (h : SignatureListed text sg) where
  abbrev used : ℕ
  used = sg.counts.words

  -- The words in use.
  abbrev pub pattern : List ℕ
  pattern = take sg.counts.words sg.words

  abbrev arities : List ℕ
  arities = arities_of (symbols_in text sg)

  pub pattern_length : length pattern ≡ used
  pattern_length = let a = h.words_lent in simp length-take (omega arith)

  pattern_same : Same pattern_room (cells sg.words) (cells pattern) used
  pattern_same i l = sym (get_or-take used sg.words i 0 l)

  rules_kept_lem : RulesKept text arities pattern sg.rules 0 (rules_in text sg) 0 used
  rules_kept_lem =
      let n = pattern_length in
      rules_same text arities sg.words pattern sg.rules sg.rules 0 (rules_in text sg) 0 used pattern_same (omega arith) (λ k l. refl) h.rules_kept

  nothing_formed : WellFormed pattern_room (cells pattern) pattern_room 0
  nothing_formed = record { fits = λ a l. let z : ⊥ = omega arith in absurd z; arguments = λ a i l. let z : ⊥ = omega arith in absurd z }

  all_formed : WellFormed pattern_room (cells pattern) pattern_room used
  all_formed = kept_formed text arities pattern sg.rules 0 (rules_in text sg) 0 used rules_kept_lem nothing_formed

  nothing_in_form : in_form pattern 0 0 pattern_room pattern_room arities ≡ true
  unfolding in_form
  nothing_in_form = refl

  all_in_form : in_form pattern 0 used pattern_room pattern_room arities ≡ true
  all_in_form = let n = pattern_length in kept_form text arities pattern sg.rules 0 (rules_in text sg) 0 used rules_kept_lem (omega arith) nothing_in_form

  low : pattern_room + used ≤ headers
  low = let a = h.few_words in omega arith

  header_known : (a : ℕ) → headers ≤ cells pattern a → Header arities (cells pattern a)
  header_known a l =
      let n = pattern_length in
      by_less a used
      (λ m q. let e : 0 + a ≡ a = omega arith in
      let w = form_words pattern 0 used pattern_room pattern_room arities (omega arith) (omega arith) low all_in_form a (omega arith) in
      rw e at (w.header (rw e l)))
      (λ m q. let z : get_or pattern a 0 ≡ 0 = get_or_past pattern a 0 (omega arith) in absurd (let y : ⊥ = omega arith in y))

  -- Each header among the words in use is a known symbol's.
  pub listed_headed : Headed arities pattern
  listed_headed a l = header_yes arities (cells pattern a) (header_known a l)

  symbols_are_lem : length (symbols_in text sg) ≡ sg.counts.symbols
  symbols_are_lem = symbol_count_lem text sg h

  arities_length : length arities ≡ sg.counts.symbols
  arities_length = map_length (λ (f : Symbol). length f.inputs) (symbols_in text sg) ∙ symbols_are_lem
    where
      map_length : (g : Symbol → ℕ) (xs : List Symbol) → length (map g xs) ≡ length xs
      map_length g [] = refl
      map_length g (x ∷ xs) = ap suc (map_length g xs)

  -- A pattern among the words in use.
  pattern_in : (r : ℕ) → Reference pattern_room (cells pattern) pattern_room used r → words (pattern_at pattern r) ≤ rule_words → PatternIn pattern used r rule_words
  pattern_in r root small = let n = pattern_length in record { within = omega arith; low = low; formed = all_formed; root = root; small = small }

  -- A node in the words in use has a known symbol, and as many arguments as this has inputs.
  module _ (r f : ℕ) (ts : Terms) (root : Reference pattern_room (cells pattern) pattern_room used r) (is : pattern_at pattern r ≡ app f ts) where
    abbrev header : ℕ
    header = cells pattern (r - pattern_room)

    node_is : pattern_room ≤ r
    node_is = node_reference (cells pattern) r f ts is

    abbrev behind : Terms
    behind = args (denote pattern_room (cells pattern)) (cells pattern) (suc (r - pattern_room)) (arity_of header)

    stored_is : app (symbol_of header) behind ≡ app f ts
    stored_is = sym (denote_node pattern_room (cells pattern) pattern_room used all_formed r root node_is) ∙ is

    symbol_is : symbol_of header ≡ f
    symbol_is = let e = stored_is in cc

    header_is : Header arities header
    header_is = header_known (r - pattern_room) (root.header node_is)

    known_is : symbol_of header < length (symbols_in text sg)
    known_is = let k = header_is.known in let a = arities_length in let b = symbols_are_lem in omega arith

    arity_is : arity_of header ≡ length (symbol_at (symbols_in text sg) (symbol_of header)).inputs
    arity_is = header_is.own ∙ get_or-map (λ (g : Symbol). length g.inputs) (symbols_in text sg) (symbol_of header) no_symbol

    count_is : count ts ≡ arity_of header
    count_is =
        let e = stored_is in
        let q : behind ≡ ts = cc in
        sym (ap count q) ∙ count_args (denote pattern_room (cells pattern)) (cells pattern) (suc (r - pattern_room)) (arity_of header)

  rules_are_lem : length (rules_in text sg) ≡ sg.counts.rules
  unfolding signature_of
  rules_are_lem = rule_count_lem text sg h

  rule_is : (i : ℕ) → i < sg.counts.rules → rule_at_lem (rules_in text sg) i ≡ some (rule_in text sg.words (row_at sg.rules i))
  unfolding signature_of
  rule_is i l = rule_of_row text sg h i l

  first_of : (f : ℕ) → f < sg.counts.symbols → (symbol_at (symbols_in text sg) f).first ≡ column (row_at sg.symbols f) 4
  unfolding symbolIn
  first_of f l = ap (λ (s : Symbol). s.first) (symbol_of_row text sg h f l)

  clauses_of_lem : (f : ℕ) → f < sg.counts.symbols → (symbol_at (symbols_in text sg) f).clauses ≡ column (row_at sg.symbols f) 5
  unfolding symbolIn
  clauses_of_lem f l = ap (λ (s : Symbol). s.clauses) (symbol_of_row text sg h f l)

  -- A function has its result among its inputs.
  function_result : (f : ℕ) → f < length (symbols_in text sg) → (symbol_at (symbols_in text sg) f).function ≡ 1 → 0 < length (symbol_at (symbols_in text sg) f).inputs
  unfolding symbolIn
  function_result f l m =
      let b = symbols_are_lem in
      let g : f < sg.counts.symbols = omega arith in
      let e = symbol_of_row text sg h f g in
      let mark : column (row_at sg.symbols f) 3 ≡ 1 = sym (ap (λ (s : Symbol). s.function) e) ∙ m in
      let n : length (symbol_at (symbols_in text sg) f).inputs ≡ column (row_at sg.symbols f) 6 =
      ap (λ (s : Symbol). length s.inputs) e ∙ columns_length (row_at sg.symbols f) 8 (column (row_at sg.symbols f) 6) in
      let r = (h.symbols_formed f g).result mark in
      omega arith

  -- A node of a function has a result.
  has_result : (r f : ℕ) (ts : Terms) → Reference pattern_room (cells pattern) pattern_room used r → pattern_at pattern r ≡ app f ts
      → (symbol_at (symbols_in text sg) f).function ≡ 1 → Some ts
  has_result r f ts root is mark =
      let q = symbol_is r f ts root is in
      let k : f < length (symbols_in text sg) = rw q at (known_is r f ts root is) in
      let a : arity_of (header r f ts root is) ≡ length (symbol_at (symbols_in text sg) f).inputs = rw q at (arity_is r f ts root is) in
      let c = count_is r f ts root is in
      let l = function_result f k mark in
      some_counted ts (omega arith)

  -- The rule i

  module _ (i : ℕ) (l : i < sg.counts.rules) where
    abbrev row : List ℕ
    row = row_at sg.rules i

    abbrev R : Rule
    R = rule_in text sg.words row

    record Held : Type 0 where
      pub from : ℕ
      pub to : ℕ
      pub kept : Kept text arities pattern row R from to
      pub within : to ≤ used

    held : Held
    held =
        let lent : sg.counts.rules ≤ length sg.rules = (let a = h.rules_lent in let b = h.few_rules in omega arith) in
        let n = rules_length text sg.words sg.rules sg.counts.rules lent in
        let c = kept_within text arities pattern sg.rules 0 (rules_in text sg) 0 used i rules_kept_lem (omega arith) in
        let z : 0 + i ≡ i = omega arith in
        let k : Kept text arities pattern row (get_or (rules_in text sg) i no_rule) c.0 c.1 = rw z at c.2 in
        record {
          from = c.0;
          to = c.1;
          kept = subst (λ (S : Rule). Kept text arities pattern row S c.0 c.1) (rules_at text sg.words sg.rules sg.counts.rules lent i l) k;
          within = c.3;
        }

    abbrev lies : Lying arities R.conclusion pattern (held.from + column row 7) (column row 5 ∷ []) held.to
    lies = held.kept.lying.conclusion

    abbrev lie : Lying arities R.premises pattern held.from (heads_in row) (held.from + column row 7)
    lie = held.kept.lying.premises

    conclusion_root : Reference pattern_room (cells pattern) pattern_room used (column row 5)
    conclusion_root = let w = held.within in reference_up pattern_room (omega arith) w (lies.reference 0 (omega arith))

    conclusion_is : pattern_at pattern (column row 5) ≡ R.conclusion
    conclusion_is = lying_one lies

    conclusion_small : words (pattern_at pattern (column row 5)) ≤ rule_words
    conclusion_small =
        let s = (h.rules_formed i l).small in let u = lies.used in let t = held.kept.to in
        rw conclusion_is (omega arith)

    premises_are : args (denote pattern_room (cells pattern)) (column row) 10 (column row 4) ≡ R.premises
    premises_are = terms_columns (denote pattern_room (cells pattern)) row 10 (column row 4) ∙ lie.denotes

    -- The premise j.
    module _ (j : ℕ) (m : j < column row 4) where
      abbrev reference : ℕ
      reference = column row (10 + j)

      premise_root : Reference pattern_room (cells pattern) pattern_room used reference
      premise_root =
          let w = held.within in let t = held.kept.to in
          let n = columns_length row 10 (column row 4) in
          let b : j < length (heads_in row) = omega arith in
          reference_up pattern_room (omega arith) (omega arith)
          (subst (λ (r : ℕ). Reference pattern_room (cells pattern) pattern_room (held.from + column row 7) r) (columns_at row 10 (column row 4) j m) (lie.reference j b))

      premise_small : words (pattern_at pattern reference) ≤ rule_words
      premise_small =
          let a = words_one (denote pattern_room (cells pattern)) (column row) 10 (column row 4) j m in
          let e : words (args (denote pattern_room (cells pattern)) (column row) 10 (column row 4)) ≡ words R.premises = ap words premises_are in
          let s = (h.rules_formed i l).small in let u = lie.used in
          omega arith

      premise_call : Calls (symbols_in text sg) R.premises → IsCall (symbols_in text sg) (pattern_at pattern reference)
      premise_call c =
          is_call (symbols_in text sg) (pattern_at pattern reference)
          (one_call (symbols_in text sg) (denote pattern_room (cells pattern)) (column row) 10 (column row 4) j
          (subst (λ (ts : Terms). Calls (symbols_in text sg) ts) (sym premises_are) c) m)

      premise_in : Calls (symbols_in text sg) R.premises → PremiseIn (symbols_in text sg) pattern used reference
      premise_in c =
          let k = premise_call c in
          let f = symbol_is reference k.function k.arguments premise_root k.is in
          let a = arity_is reference k.function k.arguments premise_root k.is in
          let d = header_is reference k.function k.arguments premise_root k.is in
          let g = known_is reference k.function k.arguments premise_root k.is in
          let mark : (symbol_at (symbols_in text sg) (symbol_of (cells pattern (reference - pattern_room)))).function ≡ 1 =
          ap (λ (x : ℕ). (symbol_at (symbols_in text sg) x).function) f ∙ k.marked in
          record {
            patterned = pattern_in reference premise_root premise_small;
            node = node_is reference k.function k.arguments premise_root k.is;
            known = g;
            inputs = a;
            some_inputs = let r = function_result (symbol_of (cells pattern (reference - pattern_room))) g mark in omega arith;
            few = d.few;
          }

    -- The rule is a clause in storage, if it is one of the function f with n inputs before its result.
    clause_in : (f n : ℕ) → ClauseFormed (symbols_in text sg) f R → suc n ≡ length (symbol_at (symbols_in text sg) f).inputs
        → ClauseIn (symbols_in text sg) pattern used row n R
    clause_in f n c e =
        let (ts, q) = c.conclusion in
        let is : pattern_at pattern (column row 5) ≡ app f ts = conclusion_is ∙ q in
        let g = symbol_is (column row 5) f ts conclusion_root is in
        let a = arity_is (column row 5) f ts conclusion_root is in
        let b : length (symbol_at (symbols_in text sg) (symbol_of (cells pattern (column row 5 - pattern_room)))).inputs ≡ length (symbol_at (symbols_in text sg) f).inputs =
        ap (λ (x : ℕ). length (symbol_at (symbols_in text sg) x).inputs) g in
        record {
          conclusion = record {
            patterned = pattern_in (column row 5) conclusion_root conclusion_small;
            node = node_is (column row 5) f ts conclusion_root is;
            inputs = omega arith;
          };
          concludes = conclusion_is;
          few = held.kept.premises;
          premises = λ j m. premise_in j m c.premises;
          premised = premises_are;
        }

    -- It is a clause in form, if it is one of the function f.
    clause_of_lem : (f : ℕ) → (symbol_at (symbols_in text sg) f).function ≡ 1 → ClauseFormed (symbols_in text sg) f R → ClauseOf f R
    clause_of_lem f mark c = record {
      concludes = concludes c.conclusion.0 c.conclusion.1;
      premised = subst Judgments premises_are (judgments (denote pattern_room (cells pattern)) (column row) 10 (column row 4) judged);
    }
      where
        concludes : (ts : Terms) → R.conclusion ≡ app f ts → JudgmentOf f R.conclusion
        concludes ts q = rw q (refl, has_result (column row 5) f ts conclusion_root (conclusion_is ∙ q) mark)

        judged : (j : ℕ) → j < column row 4 → IsJudgment (pattern_at pattern (column row (10 + j)))
        judged j m =
            let k = premise_call j m c.premises in
            record {
              function = k.function;
              arguments = k.arguments;
              is = k.is;
              some_arguments = has_result (column row (10 + j)) k.function k.arguments (premise_root j m) k.is k.marked;
            }

  -- The functions and their clauses are a program.
  pub listed_program : Program sg.symbols sg.rules pattern used (symbols_in text sg) (rules_in text sg)
  listed_program =
      let n = symbols_are_lem in
      let k = rules_are_lem in
      record {
        few = let a = h.symbols_lent in let b = h.few_symbols in omega arith;
        limited = let b = h.few_symbols in omega arith;
        lent = let a = h.rules_lent in let b = h.few_rules in omega arith;
        small = let b = h.few_rules in omega arith;
        first = λ f l. first_of f (omega arith);
        clauses = λ f l. clauses_of_lem f (omega arith);
        within = λ f l. let c = (h.symbols_formed f (omega arith)).clauses in omega arith;
        clause = λ f i m l e a b. (
            let g : f < sg.counts.symbols = omega arith in
            let c = (h.symbols_formed f g).clauses in
            let d : i < sg.counts.rules = omega arith in
            let o : column (row_at sg.symbols f) 4 + (i - column (row_at sg.symbols f) 4) ≡ i = omega arith in
            let formed : ClauseFormed (symbols_in text sg) f (rule_in text sg.words (row_at sg.rules i)) =
            rw o at (h.clauses_formed f g (i - column (row_at sg.symbols f) 4) (omega arith)) in
            (R i d, rule_is i d, clause_in i d f m formed e));
      }

  -- With the names in the text they are the tables of an evaluation.
  pub listed_tables : Tables text sg.symbols sg.counts.symbols sg.rules pattern used (rules_in text sg)
  listed_tables = record {
    program = listed_program;
    lent = let a = h.symbols_lent in let b = h.few_symbols in omega arith;
    few = h.few_symbols;
    inputs = λ i l. (h.symbols_formed i l).few;
    marks = λ i l. (h.symbols_formed i l).mark;
    results = λ i l. mark_result (column (row_at sg.symbols i) 3) (column (row_at sg.symbols i) 6) (h.symbols_formed i l).mark (h.symbols_formed i l).result;
  }
    where
      mark_result : (m n : ℕ) → m ≤ 1 → (m ≡ 1 → 0 < n) → m ≤ n
      mark_result zero n a b = omega arith
      mark_result (suc m) n a b = let q : suc m ≡ 1 = omega arith in let c = b q in omega arith

  -- Where there is no symbol, there are no clauses.
  no_clauses : (f : ℕ) → length (symbols_in text sg) ≤ f
      → ((symbol_at (symbols_in text sg) f).first ≡ 0) × ((symbol_at (symbols_in text sg) f).clauses ≡ 0)
  no_clauses f l =
      let z : symbol_at (symbols_in text sg) f ≡ no_symbol = get_or-eq_default (symbols_in text sg) no_symbol l in
      (ap (λ (s : Symbol). s.first) z, ap (λ (s : Symbol). s.clauses) z)

  -- The clauses are among the rules,
  pub listed_there : ClausesThere (symbols_in text sg) (rules_in text sg)
  listed_there f =
      let n = symbols_are_lem in
      let k = rules_are_lem in
      by_less f (length (symbols_in text sg))
      (λ l _. let g : f < sg.counts.symbols = omega arith in
      let a = first_of f g in
      let b = clauses_of_lem f g in
      let c = (h.symbols_formed f g).clauses in
      omega arith)
      (λ l _. let (a, b) = no_clauses f l in omega arith)

  -- and in form.
  pub listed_clauses : ClauseForm (symbols_in text sg) (rules_in text sg)
  unfolding symbolIn
  listed_clauses f j S m e =
      let n = symbols_are_lem in
      by_less f (length (symbols_in text sg))
      (λ l _. let g : f < sg.counts.symbols = omega arith in
      let a = first_of f g in
      let b = clauses_of_lem f g in
      let s = h.symbols_formed f g in
      let c = s.clauses in
      let d : column (row_at sg.symbols f) 4 + j < sg.counts.rules = omega arith in
      let mark = is_function_lem (column (row_at sg.symbols f) 3) (column (row_at sg.symbols f) 5) s.mark s.others (omega arith) in
      let function : (symbol_at (symbols_in text sg) f).function ≡ 1 = ap (λ (x : Symbol). x.function) (symbol_of_row text sg h f g) ∙ mark in
      let e' : rule_at_lem (rules_in text sg) (column (row_at sg.symbols f) 4 + j) ≡ some S = rw a at e in
      let r = rule_is (column (row_at sg.symbols f) 4 + j) d in
      let q : R (column (row_at sg.symbols f) 4 + j) d ≡ S = cc in
      subst (ClauseOf f) q (clause_of_lem (column (row_at sg.symbols f) 4 + j) d f function (h.clauses_formed f g j (omega arith))))
      (λ l _. let (a, b) = no_clauses f l in absurd (let y : ⊥ = omega arith in y))
