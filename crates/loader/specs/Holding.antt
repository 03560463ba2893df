-- What storage holds between declarations: the rows of sorts and symbols are those of the signature, and each rule is kept, its words behind those of the rule
-- before.
use Prim.Native.Nat.{ℕ, suc, ◌+◌, ◌≤◌, ◌<◌}
use native.Mathlib.Omega.{arith}
use Rattle.std.specs.Prelude.{◌≡◌, refl, set}
use mathlib.Core.List.{List, [], ◌∷◌, ◌++◌}
use Rattle.std.proofs.Math.ListN.{length}
use Rattle.std.proofs.Common.{get_or-set_same, get_or-set_other}
use Rattle.arena.specs.Cells.{Same, cells}
use Rattle.arena.specs.Copies.{pattern_room}
use Rattle.resolution.specs.Rules.{Rule}
use Rattle.names.specs.Symbols.{Rows, row_at}
use Rattle.rules.specs.StoredRows.{Kept}
use Rattle.rules.specs.StoredLaws.{kept_same}
use Rattle.loader.specs.Growth.{kept_more}

-- The rules from number i on are kept: the first has its words from u on, each other behind those of the rule before, up to u'.
unfoldable pub RulesKept : List ℕ → List ℕ → List ℕ → Rows → ℕ → List Rule → ℕ → ℕ → Type 0
RulesKept text arities words rows i [] u u' = u ≡ u'
RulesKept text arities words rows i (R ∷ Rs) u u' = (m : ℕ) × Kept text arities words (row_at rows i) R u m × RulesKept text arities words rows (suc i) Rs m u'

kept_up : {text arities words row : List ℕ} {R : Rule} {u u' : ℕ} → Kept text arities words row R u u' → u ≤ u'
kept_up h = let t = h.to in omega arith

module _ (text arities : List ℕ) where
  -- Words go on upwards.
  pub rules_up : (words : List ℕ) (rows : Rows) (i : ℕ) (Rs : List Rule) (u u' : ℕ) → RulesKept text arities words rows i Rs u u' → u ≤ u'
  unfolding RulesKept
  rules_up words rows i [] u u' h = let e : u ≡ u' = h in omega arith
  rules_up words rows i (R ∷ Rs) u u' h = let a = kept_up h.1 in let b = rules_up words rows (suc i) Rs h.0 u' h.2 in omega arith

  -- Words and rows behind them may be written.
  pub rules_same : (words words' : List ℕ) (rows rows' : Rows) (i : ℕ) (Rs : List Rule) (u u' : ℕ) → Same pattern_room (cells words) (cells words') u' → u' ≤ length words'
      → ((k : ℕ) → k < i + length Rs → row_at rows' k ≡ row_at rows k) → RulesKept text arities words rows i Rs u u' → RulesKept text arities words' rows' i Rs u u'
  unfolding RulesKept
  rules_same words words' rows rows' i [] u u' s l r h = h
  rules_same words words' rows rows' i (R ∷ Rs) u u' s l r h =
      let b = rules_up words rows (suc i) Rs h.0 u' h.2 in
      let k : Kept text arities words' (row_at rows i) R u h.0 = kept_same h.1 (λ j m. s j (omega arith)) (omega arith) in
      (h.0, rw (r i (omega arith)) k, rules_same words words' rows rows' (suc i) Rs h.0 u' s l (λ j m. r j (omega arith)) h.2)

  -- One rule more.
  pub rules_more : (words : List ℕ) (rows : Rows) (i : ℕ) (Rs : List Rule) (u m u' : ℕ) (R : Rule) → RulesKept text arities words rows i Rs u m
      → Kept text arities words (row_at rows (i + length Rs)) R m u' → RulesKept text arities words rows i (Rs ++ (R ∷ [])) u u'
  unfolding RulesKept
  rules_more words rows i [] u m u' R h k =
      let e : u ≡ m = h in
      let z : i + 0 ≡ i = omega arith in
      let k₁ : Kept text arities words (row_at rows i) R m u' = rw z at k in
      (u', rw e k₁, refl)
  rules_more words rows i (Q ∷ Rs) u m u' R h k =
      let z : i + suc (length Rs) ≡ suc i + length Rs = omega arith in
      let k₁ : Kept text arities words (row_at rows (suc i + length Rs)) R m u' = rw z at k in
      (h.0, h.1, rules_more words rows (suc i) Rs h.0 m u' R h.2 k₁)

  -- A rule entered behind the others.
  pub rules_entered : (words words' : List ℕ) (rows : Rows) (Rs : List Rule) (m u' : ℕ) (R : Rule) (row : List ℕ) → Same pattern_room (cells words) (cells words') m → m ≤ length words' → length Rs < length rows
      → RulesKept text arities words rows 0 Rs 0 m → Kept text arities words' row R m u' → RulesKept text arities words' (set rows (length Rs) row) 0 (Rs ++ (R ∷ [])) 0 u'
  rules_entered words words' rows Rs m u' R row s l few h k =
      let old = rules_same words words' rows (set rows (length Rs) row) 0 Rs 0 m s l (λ j b. get_or-set_other rows (length Rs) j row [] (λ e. omega arith)) h in
      let z : 0 + length Rs ≡ length Rs = omega arith in
      let k₁ : Kept text arities words' (row_at (set rows (length Rs) row) (length Rs)) R m u' = rw (get_or-set_same rows (length Rs) row [] few) k in
      rules_more words' (set rows (length Rs) row) 0 Rs 0 m u' R old (rw z k₁)

-- With more symbols the rules are still kept.
pub rules_grow : (text arities others words : List ℕ) (rows : Rows) (i : ℕ) (Rs : List Rule) (u u' : ℕ) → RulesKept text arities words rows i Rs u u'
    → RulesKept text (arities ++ others) words rows i Rs u u'
unfolding RulesKept
rules_grow text arities others words rows i [] u u' h = h
rules_grow text arities others words rows i (R ∷ Rs) u u' h = (h.0, kept_more arities others h.1, rules_grow text arities others words rows (suc i) Rs h.0 u' h.2)
