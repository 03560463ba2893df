-- Laws of the rules' test: rules are read one behind the other, and where each ends is fixed.
use Prim.Native.Nat.{ℕ, suc, ◌+◌, ◌≤◌, ◌<◌}
use native.Mathlib.Numerals.{add-one}
use native.Mathlib.Omega.{arith}
use mathlib.Core.Path.{◌≡◌, refl, sym, ap, ◌∙◌, subst}
use mathlib.Core.List.{List, [], ◌∷◌, ◌++◌, map, map-append}
use lib.ListN.{length, get_or, take, drop, get_or-map}
use lib.Seq.{take-suc, split_at, take-take, get_or-take, length-take-le, ext_get_or}
use borrow.Author.Count.{below_more}
use Rattle.arena.specs.Cells.{WellFormed, cells}
use Rattle.arena.specs.Copies.{pattern_room}
use Rattle.resolution.specs.Rules.{Rule}
use Rattle.names.specs.Symbols.{Rows, Symbol, column, row_at, symbol_of, symbols_of, no_symbol}
use Rattle.names.specs.SearchLaws.{columns_length, map_length}
use Rattle.patterns.proofs.Terms.{symbols_length, symbol_at_lem}
use Rattle.rules.specs.StoredRows.{Kept}
use Rattle.rules.specs.PatternLaws.{arities_of}
use Rattle.rule_checks.specs.RuleForm.{rule_in, RuleFormed, RuleListed}
use Rattle.std.specs.Prelude.{Option, Some, None}
use Rattle.loader.specs.Holding.{RulesKept, rules_up, rules_more}
use Rattle.signature.specs.Form.{rules_of}
use Rattle.signature.specs.Parts.{RulesListed}
use Rattle.signature.specs.StoreLaws.{rules_length}

-- The rules of the rows.
module _ (text words : List ℕ) (rows : Rows) where
  rules_next : (i : ℕ) → i < length rows → rules_of text words rows (i + 1) ≡ rules_of text words rows i ++ (rule_in text words (row_at rows i) ∷ [])
  unfolding rules_of
  rules_next i l = rw (add-one, take-suc rows i [] l) (map-append (rule_in text words) (take i rows) (row_at rows i ∷ []))

  behind : ℕ → ℕ → List Rule
  behind i k = map (rule_in text words) (drop (suc i) (take k rows))

  rules_around : (i k : ℕ) → i < k → k ≤ length rows → rules_of text words rows k ≡ rules_of text words rows i ++ (rule_in text words (row_at rows i) ∷ behind i k)
  unfolding rules_of behind
  rules_around i k l m =
      let e : take k rows ≡ take i rows ++ row_at rows i ∷ drop (suc i) (take k rows) =
      split_at (take k rows) i [] (rw (length-take-le k rows m) l) ∙ rw (take-take i k rows (omega arith), get_or-take k rows i [] l) refl in
      ap (map (rule_in text words)) e ∙ map-append (rule_in text words) (take i rows) (row_at rows i ∷ drop (suc i) (take k rows))

-- Where rules end is fixed by their rows.
module _ (text arities words : List ℕ) (rows : Rows) where
  kept_end : {row : List ℕ} {R Q : Rule} {u a b : ℕ} → Kept text arities words row R u a → Kept text arities words row Q u b → a ≡ b
  kept_end h k = let p = h.to in let q = k.to in omega arith

  rules_end : (i : ℕ) (Rs : List Rule) (u a b : ℕ) → RulesKept text arities words rows i Rs u a → RulesKept text arities words rows i Rs u b → a ≡ b
  unfolding RulesKept
  rules_end i [] u a b h k = let p : u ≡ a = h in let q : u ≡ b = k in cc
  rules_end i (R ∷ Rs) u a b h k =
      let e : h.0 ≡ k.0 = kept_end h.1 k.1 in
      rules_end (suc i) Rs h.0 a b h.2 (subst (λ m. RulesKept text arities words rows (suc i) Rs m b) (sym e) k.2)

  -- The rule behind some rules is kept where these end.
  rules_at : (i : ℕ) (Ps : List Rule) (R : Rule) (Qs : List Rule) (u m u' : ℕ) → RulesKept text arities words rows i Ps u m
      → RulesKept text arities words rows i (Ps ++ (R ∷ Qs)) u u' → (m' : ℕ) × Kept text arities words (row_at rows (i + length Ps)) R m m' × (m' ≤ u')
  unfolding RulesKept
  rules_at i [] R Qs u m u' h k =
      let e : u ≡ m = h in
      let z : i + 0 ≡ i = omega arith in
      (k.0, rw (z, ← e) k.1, rules_up text arities words rows (suc i) Qs k.0 u' k.2)
  rules_at i (P ∷ Ps) R Qs u m u' h k =
      let e : k.0 ≡ h.0 = kept_end k.1 h.1 in
      let z : i + suc (length Ps) ≡ suc i + length Ps = omega arith in
      rw z (rules_at (suc i) Ps R Qs h.0 m u' h.2 (subst (λ n. RulesKept text arities words rows (suc i) (Ps ++ (R ∷ Qs)) n u') e k.2))

-- The loop over the rules: i of them are read, and their words end at u.
module _ {text arities words : List ℕ} {sorts : ℕ} {rows : Rows} where
  pub none_listed : RulesListed text arities words sorts rows 0 0
  unfolding rules_of RulesKept
  none_listed = record { kept = refl; formed = λ i l. absurd (omega arith) }

  pub one_more : {used i u u' : ℕ} → i < length rows → RulesListed text arities words sorts rows i u → RuleListed text arities words sorts used (row_at rows i) u u'
      → RulesListed text arities words sorts rows (i + 1) u'
  one_more {used} {i} {u} {u'} l h k =
      let n = rules_length text words rows i (omega arith) in
      let e : 0 + length (rules_of text words rows i) ≡ i = omega arith in
      record {
        kept = rw (rules_next text words rows i l) (rules_more text arities words rows 0 (rules_of text words rows i) 0 u u' (rule_in text words (row_at rows i)) h.kept (rw e k.kept));
        formed = below_more (λ j. RuleFormed text words sorts (row_at rows j)) i h.formed k.formed;
      }

  -- Where all rules are in form, so is the one where the loop is;
  pub here_listed : {used i k u : ℕ} → i < k → k ≤ length rows → RulesListed text arities words sorts rows i u → RulesListed text arities words sorts rows k used
      → (u' : ℕ) × RuleListed text arities words sorts used (row_at rows i) u u'
  here_listed {used} {i} {k} {u} l m h g =
      let n = rules_length text words rows i (omega arith) in
      let e : 0 + length (rules_of text words rows i) ≡ i = omega arith in
      let r = rules_at text arities words rows 0 (rules_of text words rows i) (rule_in text words (row_at rows i)) (behind text words rows i k) 0 u used h.kept (rw (rules_around text words rows i k l m) at g.kept) in
      (r.0, record { kept = rw e at r.1; formed = g.formed i l; within = r.2 })

  -- and there is one end only.
  pub same_end : {k u u' : ℕ} → RulesListed text arities words sorts rows k u → RulesListed text arities words sorts rows k u' → u ≡ u'
  same_end {k} {u} {u'} h g = rules_end text arities words rows 0 (rules_of text words rows k) 0 u u' h.kept g.kept

-- The words before a rule's are well formed.
pub none_formed : (words : List ℕ) → WellFormed pattern_room (cells words) pattern_room 0
none_formed words = record { fits = λ a l. absurd (omega arith); arguments = λ a i l. absurd (omega arith) }

pub next_formed : {text arities words row : List ℕ} {sorts used u u' : ℕ} → RuleListed text arities words sorts used row u u' → WellFormed pattern_room (cells words) pattern_room u'
next_formed h = h.kept.lying.conclusion.formed

pub bad_good : {v : Option ℕ} {u : ℕ} → v ≡ Some u → v ≡ None → ⊥
bad_good g b = let z : ◌≡◌ {A = ℕ} 0 1 = cc in omega arith

-- The column of the numbers of inputs.
pub arities_of_lem : (text arities : List ℕ) (symbols : Rows) (m : ℕ) → m ≤ length symbols → m ≤ length arities
    → ((i : ℕ) → i < m → get_or arities i 0 ≡ column (row_at symbols i) 6) → take m arities ≡ arities_of (symbols_of text symbols m)
unfolding symbol_of
arities_of_lem text arities symbols m l b h =
    let n = length-take-le m arities b in
    let c : length (arities_of (symbols_of text symbols m)) ≡ m = map_length (λ (f : Symbol). length f.inputs) (symbols_of text symbols m) ∙ symbols_length text symbols m l in
    ext_get_or 0 (take m arities) (arities_of (symbols_of text symbols m)) (n ∙ sym c)
    (λ i k. let j : i < m = omega arith in
    get_or-take m arities i 0 j ∙ h i j ∙ sym (get_or-map (λ (f : Symbol). length f.inputs) (symbols_of text symbols m) i no_symbol
    ∙ ap (λ (f : Symbol). length f.inputs) (symbol_at_lem text symbols m l i j) ∙ columns_length (row_at symbols i) 8 (column (row_at symbols i) 6)))
