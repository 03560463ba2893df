-- Laws of storage in the listed form, whatever it was made by: each row keeps the rule that it denotes and is a stored rule that can be tried; symbols have
-- their rows' arities; and the clauses of a function are rules that there are, of the shape that the form asks.
use Rattle.std.specs.Prelude.{ℕ, zero, suc, ◌+◌, ◌≤◌, ◌<◌, ◌≡◌, refl, List, [], ◌∷◌, map, get_or, take}
use Rattle.std.proofs.Common.{arith, ◌∙◌, subst}
use Rattle.std.proofs.Math.Path.{ap}
use Rattle.std.proofs.Math.Option.{some}
use Rattle.std.proofs.Math.ListN.{length, get_or-map}
use Rattle.terms.specs.Term.{Kind, Syn, var, app, nil, cons, Below}
use Rattle.resolution.specs.Rules.{Rule, rule_at_lem}
use Rattle.resolution.specs.Fresh.{met}
use Rattle.resolution.specs.FreshLaws.{Covers}
use Rattle.resolution.proofs.FreshLaws.{covers_grows, met_covers, met_grows}
use Rattle.meeting.specs.Places.{numbers_below}
use Rattle.meeting.specs.PlaceLaws.{elem_below}
use Rattle.attempts.specs.StoredRules.{StoredRule}
use Rattle.names.specs.Symbols.{Rows, Symbol, column, row_at, symbol_of, symbol_at, no_symbol}
use Rattle.names.specs.SearchLaws.{table_length, table_at, get_d_any, columns_length}
use Rattle.patterns.proofs.Terms.{symbol_at_lem, symbols_length}
use Rattle.rules.specs.StoredRows.{heads_in, places_in, stored_in, Kept}
use Rattle.rules.specs.StoredLaws.{kept_stored}
use Rattle.rules.specs.PatternLaws.{arities_of}
use Rattle.rule_checks.specs.RuleForm.{rule_in}
use Rattle.loader.specs.Holding.{RulesKept}
use Rattle.loader.specs.Legal.{ClauseFormed, no_rule}
use Rattle.signature.specs.Form.{rules_of}
use Rattle.signature.specs.Storage.{SignatureStore, symbols_in, rules_in, signature_of, SignatureListed}

-- Rows of rules

module _ (text words : List ℕ) (rows : Rows) (k : ℕ) (lent : k ≤ length rows) where
  -- There are as many rules as rows in use,
  pub rules_length : length (rules_of text words rows k) ≡ k
  unfolding rules_of
  rules_length = table_length (rule_in text words) rows k lent

  -- and each is that of its row.
  pub rules_at : (i : ℕ) → i < k → get_or (rules_of text words rows k) i no_rule ≡ rule_in text words (row_at rows i)
  unfolding rules_of
  rules_at i l =
      get_d_any (map (rule_in text words) (take k rows)) i no_rule (rule_in text words []) (rw (table_length (rule_in text words) rows k lent) l)
      ∙ table_at (rule_in text words) rows k lent i l

-- The rule at a place is kept.
pub kept_at : (text arities words : List ℕ) (rows : Rows) (i : ℕ) (Rs : List Rule) (u u' j : ℕ) → RulesKept text arities words rows i Rs u u' → j < length Rs
    → (a : ℕ) × (b : ℕ) × Kept text arities words (row_at rows (i + j)) (get_or Rs j no_rule) a b
unfolding RulesKept
kept_at text arities words rows i [] u u' j h l = absurd (omega arith)
kept_at text arities words rows i (R ∷ Rs) u u' zero h l = let z : i + 0 ≡ i = omega arith in rw z (u, h.0, h.1)
kept_at text arities words rows i (R ∷ Rs) u u' (suc j) h l =
    let z : i + suc j ≡ suc i + j = omega arith in
    rw z (kept_at text arities words rows (suc i) Rs h.0 u' j h.2 (omega arith))

-- The row with number i keeps the rule that it denotes.
pub row_kept : (text arities words : List ℕ) (rows : Rows) (k u i : ℕ) → k ≤ length rows → RulesKept text arities words rows 0 (rules_of text words rows k) 0 u → i < k
    → (a : ℕ) × (b : ℕ) × Kept text arities words (row_at rows i) (rule_in text words (row_at rows i)) a b
row_kept text arities words rows k u i lent h l =
    let n = rules_length text words rows k lent in
    let c = kept_at text arities words rows 0 (rules_of text words rows k) 0 u i h (omega arith) in
    let z : 0 + i ≡ i = omega arith in
    let d : Kept text arities words (row_at rows i) (get_or (rules_of text words rows k) i no_rule) c.0 c.1 = rw z at c.2 in
    (c.0, c.1, subst (λ (S : Rule). Kept text arities words (row_at rows i) S c.0 c.1) (rules_at text words rows k lent i l) d)

-- Variables

covered_below : {s : Kind} (n : ℕ) (t : Syn s) → Covers (numbers_below n) t → Below n t
covered_below n (var x) c = elem_below n x c
covered_below n (app f ts) c = covered_below n ts c
covered_below n nil c = tt
covered_below n (cons t ts) c = (covered_below n t c.0, covered_below n ts c.1)

-- Variables that are numbered as they appear are below their number.
ordered_below : (R : Rule) (n : ℕ) → met R.conclusion (met R.premises []) ≡ numbers_below n → Below n R.premises × Below n R.conclusion
ordered_below R n order =
    let all : List ℕ = met R.conclusion (met R.premises []) in (
      covered_below n R.premises (subst (λ (e : List ℕ). Covers e R.premises) order
          (covers_grows R.premises (met R.premises []) all (met_grows R.conclusion (met R.premises [])) (met_covers R.premises []))),
      covered_below n R.conclusion (subst (λ (e : List ℕ). Covers e R.conclusion) order (met_covers R.conclusion (met R.premises []))),
    )

-- A signature

rule_number : (Rs : List Rule) (i : ℕ) → i < length Rs → rule_at_lem Rs i ≡ some (get_or Rs i no_rule)
rule_number [] i l = absurd (omega arith)
rule_number (R ∷ Rs) zero l = refl
rule_number (R ∷ Rs) (suc i) l = rule_number Rs i (omega arith)

module _ (text : List ℕ) (sg : SignatureStore) (h : SignatureListed text sg) where
  rules_lent_lem : sg.counts.rules ≤ length sg.rules
  rules_lent_lem = let a = h.rules_lent in let b = h.few_rules in omega arith

  symbols_lent_lem : sg.counts.symbols ≤ length sg.symbols
  symbols_lent_lem = let a = h.symbols_lent in let b = h.few_symbols in omega arith

  -- The signature has so many rules,
  pub rule_count_lem : length (signature_of text sg).rules ≡ sg.counts.rules
  unfolding signature_of
  rule_count_lem = rules_length text sg.words sg.rules sg.counts.rules rules_lent_lem

  -- and the one with number i is that of row i;
  pub rule_of_row : (i : ℕ) → i < sg.counts.rules → rule_at_lem (signature_of text sg).rules i ≡ some (rule_in text sg.words (row_at sg.rules i))
  unfolding signature_of
  rule_of_row i l =
      let n = rules_length text sg.words sg.rules sg.counts.rules rules_lent_lem in
      rule_number (rules_in text sg) i (omega arith) ∙ ap some (rules_at text sg.words sg.rules sg.counts.rules rules_lent_lem i l)

  -- and the row with the words is a stored rule in form, as one attempt asks it.
  pub listed_rule : (i : ℕ) → i < sg.counts.rules
      → StoredRule sg.words (heads_in (row_at sg.rules i)) (places_in (row_at sg.rules i)) (stored_in (row_at sg.rules i))
  listed_rule i l =
      let row : List ℕ = row_at sg.rules i in
      let k = row_kept text (arities_of (symbols_in text sg)) sg.words sg.rules sg.counts.rules sg.counts.words i rules_lent_lem h.rules_kept l in
      let b = ordered_below (rule_in text sg.words row) (column row 3) (h.rules_formed i l).order in
      kept_stored k.2 b.0 b.1

  -- It has so many symbols, and the one with number i is that of row i,
  pub symbol_count_lem : length (symbols_in text sg) ≡ sg.counts.symbols
  symbol_count_lem = symbols_length text sg.symbols sg.counts.symbols symbols_lent_lem

  pub symbol_of_row : (i : ℕ) → i < sg.counts.symbols → symbol_at (symbols_in text sg) i ≡ symbol_of text (row_at sg.symbols i)
  symbol_of_row i l = symbol_at_lem text sg.symbols sg.counts.symbols symbols_lent_lem i l

  -- with as many inputs as the row says.
  pub arity_of_row : (i : ℕ) → i < sg.counts.symbols → get_or (arities_of (symbols_in text sg)) i 0 ≡ column (row_at sg.symbols i) 6
  unfolding symbol_of
  arity_of_row i l =
      get_or-map (λ (f : Symbol). length f.inputs) (symbols_in text sg) i no_symbol
      ∙ ap (λ (f : Symbol). length f.inputs) (symbol_of_row i l)
      ∙ columns_length (row_at sg.symbols i) 8 (column (row_at sg.symbols i) 6)

  -- Each clause of a function is a rule that there is,
  pub clause_within : (i : ℕ) → i < sg.counts.symbols → (j : ℕ) → j < column (row_at sg.symbols i) 5 → column (row_at sg.symbols i) 4 + j < sg.counts.rules
  clause_within i l j b = let c = (h.symbols_formed i l).clauses in omega arith

  -- and a clause in form.
  pub clause_of_row : (i : ℕ) → i < sg.counts.symbols → (j : ℕ) → j < column (row_at sg.symbols i) 5
      → ClauseFormed (symbols_in text sg) i (get_or (signature_of text sg).rules (column (row_at sg.symbols i) 4 + j) no_rule)
  unfolding signature_of
  clause_of_row i l j b =
      rw (rules_at text sg.words sg.rules sg.counts.rules rules_lent_lem (column (row_at sg.symbols i) 4 + j) (clause_within i l j b)) (h.clauses_formed i l j b)
