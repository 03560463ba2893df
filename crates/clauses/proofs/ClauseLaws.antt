-- Laws of a clause: its conclusion in rows, and the definition at each way out.
use mathlib.Core.Path.{◌≡◌, refl, sym, ap, ◌∙◌, subst}
use mathlib.Core.List.{List, [], ◌∷◌}
use Prim.Native.Nat.{ℕ, suc, ◌+◌, ◌-◌, ◌≤◌, ◌<◌}
use native.Mathlib.Omega.{arith}
use lib.ListN.{length, take, drop, set, length-set}
use borrow.Rule.Slice.PartMut.{put_mid}
use lib.Seq.{get_or-set_same}
use borrow.Author.Tests.{ne_eqb}
use Rattle.source_text.specs.Parts.{part_of}
use Rattle.term_parser.specs.Source.{one, many}
use Rattle.term_parser.specs.Rows.{application_kind}
use Rattle.term_parser.specs.Standing as parsed
use Rattle.term_parser.specs.Standing.{Written, applied, nil as none, size}
use Rattle.names.specs.Names.{Name, clause_name}
use Rattle.names.specs.Symbols.{Rows, Symbol, row_at}
use Rattle.names.specs.Standing.{Stands, parsed_stands}
use Rattle.flattening.specs.Flattening.{Flat, flat, snoc, flatten_of}
use Rattle.flattening.specs.Promises.{FlatRows, TooMany, premise_count, call_limit}
use Rattle.flattening.proofs.RowLaws.{copied, moved, stands_snoc, size_snoc, stands_applied}
use Rattle.rules.specs.Rules.{barred, rule_of, entering}
use Rattle.rules.specs.StoredRows.{titled}
use Rattle.rules.proofs.RuleLaws.{too_many}
use Rattle.clauses.specs.Clauses.{flat_rule, clause_of}
use Rattle.clauses.specs.Promises.{Skipped, HeadingAsked, Headed}
use Rattle.clauses.proofs.SkipLaws.{stands_within, stands_size}

module _ {rows : Rows} {p n : ℕ} {out : Rows} (asked : HeadingAsked rows p n out) where
  abbrev it : (p ≤ asked.patterns.2) × (asked.patterns.2 ≤ length rows)
  it = stands_within asked.patterns.0 rows asked.patterns.1 p asked.patterns.2 asked.patterns.3 asked.here

  pub few_patterns : n ≤ 65536
  few_patterns =
      let a = it in
      let b = stands_size asked.patterns.0 rows asked.patterns.1 p asked.patterns.2 asked.patterns.3 in
      let e = asked.patterns.4 in
      let s = asked.short in
      omega arith

  -- The patterns end within the rows.
  pub skipped_within : (r : ℕ) → Skipped rows p n r → (p ≤ r) × (r ≤ length rows)
  skipped_within r s =
      let e : r ≡ asked.patterns.2 = s.behind asked.patterns.0 asked.patterns.1 asked.patterns.2 asked.patterns.3 asked.patterns.4 in
      let a = it in
      (omega arith, omega arith)

  -- What is written is the heading: the function's row, and the rows of the patterns behind it.
  module _ (start size₁ r k : ℕ) (part : Rows) where
    abbrev first : List ℕ
    first = application_kind ∷ start ∷ size₁ ∷ (n + 1) ∷ []

    abbrev written : Rows
    written = put_mid 1 k (set out 0 first) part

    pub headed : Skipped rows p n r → k ≡ r - p → part ≡ take (r - p) (drop p rows) → Headed rows p n start size₁ out r written
    headed s e is =
        let w = skipped_within r s in
        let l = asked.later in
        let h = asked.here in
        let t = asked.lent in
        let f = length-set out 0 first in
        let c = copied rows (set out 0 first) part p (r - p) 1 k e (omega arith) (omega arith) is in
        let d = c.kept in
        record {
          onward = w.0;
          within = w.1;
          kept = c.kept ∙ f;
          heads = c.below 0 (omega arith) ∙ get_or-set_same out 0 first [] (omega arith);
          behind = λ text ts q st sz. let e : r ≡ q = s.behind text ts q st sz in
              (e, moved text rows written ts p 1 q (1 + (q - p)) (parsed_stands text rows p ts q st) (λ i m. c.here i (omega arith)) refl (omega arith));
        }

-- The conclusion: the function applied to the patterns and to what is left of the right side.
pub concluding : (text : List ℕ) (rows : Rows) (p n start size₁ : ℕ) (out out₁ out₂ : Rows) (r : ℕ) → Headed rows p n start size₁ out r out₁ → 0 < length out
    → ((i : ℕ) → i < r - p + 1 → row_at out₂ i ≡ row_at out₁ i) → length out₂ ≡ length out₁ → r - p + 1 ≤ length out₁
    → (ts : Written many) (q : ℕ) → parsed.Stands text rows p ts q → size ts ≡ n → (t : Written one) (top : ℕ) → Stands text out₂ (r - p + 1) t top
    → Stands text out₂ 0 (applied (part_of text start size₁) (snoc ts t)) top
concluding text rows p n start size₁ out out₁ out₂ r h some same kept room ts q st sz t top tail =
    let b = h.behind text ts q st sz in
    let e : r ≡ q = b.0 in
    let u = h.onward in
    let k = h.kept in
    let z = size_snoc ts t in
    let front : Stands text out₂ 1 ts (r - p + 1) =
    moved text out₁ out₂ ts 1 1 (1 + (q - p)) (r - p + 1) b.1 (λ i m. same (1 + i) (omega arith)) (omega arith) (omega arith) in
    stands_applied text out₂ 0 start size₁ (n + 1) (snoc ts t) top (omega arith) (same 0 (omega arith) ∙ h.heads) (omega arith)
    (stands_snoc text out₂ ts t 1 (r - p + 1) top front tail)

-- A 17th call.
pub seventeenth : (symbols : List Symbol) (f : Name) (n : ℕ) (patterns : Written many) (right : Written one) (room number : ℕ) → call_limit < premise_count (flatten_of symbols right none)
    → entering number (clause_of symbols f n patterns right room) ≡ barred 28
unfolding clause_of
seventeenth symbols f n patterns right room number l = ap (entering number) (go (flatten_of symbols right none) l)
  where
    go : (x : Flat one) → call_limit < premise_count x → flat_rule symbols f n patterns x room ≡ barred 28
    go (flat r ps) l = too_many symbols (clause_name f n) ps (applied f (snoc patterns r)) room l

-- The rule that a clause becomes.
pub clause_is : (symbols : List Symbol) (text : List ℕ) (start size₁ clause k : ℕ) → clause ≡ suc k → (patterns : Written many) (right : Written one) (room : ℕ) {term : Written one} {premises : Written many}
    → flatten_of symbols right none ≡ flat term premises
    → rule_of symbols (titled text start size₁ clause) premises (applied (part_of text start size₁) (snoc patterns term)) room ≡ clause_of symbols (part_of text start size₁) k patterns right room
unfolding clause_of
clause_is symbols text start size₁ clause k e patterns right room {term} {premises} f =
    let z : suc k - 1 ≡ k = omega arith in
    let n : titled text start size₁ (suc k) ≡ clause_name (part_of text start size₁) k = rw (ne_eqb (suc k) 0 (λ y. omega arith)) (ap (clause_name (part_of text start size₁)) z) in
    rw (e, f) (ap (λ (x : Name). rule_of symbols x premises (applied (part_of text start size₁) (snoc patterns term)) room) n)

-- A flattened clause: where its rule stands.
pub record Prepared (text : List ℕ) (symbols : List Symbol) (start size₁ : ℕ) (out calls : Rows) (next number : ℕ) (ts : Written many) (t : Written one) (q : ℕ) : Type 0 where
  pub goes_on : next ≡ q
  pub term : Written one
  pub premises : Written many
  pub is : flatten_of symbols t none ≡ flat term premises
  pub end : ℕ
  pub stand : Stands text calls 0 premises end
  pub numbered : size premises ≡ number
  pub top : ℕ
  pub stands : Stands text out 0 (applied (part_of text start size₁) (snoc ts term)) top

module _ (text : List ℕ) {rows : Rows} {p n start size₁ : ℕ} {out out₁ : Rows} {r : ℕ} (h : Headed rows p n start size₁ out r out₁) (lent : length rows ≤ length out) (later : 0 < p) where
  at_right : (ts : Written many) (q : ℕ) → parsed.Stands text rows p ts q → size ts ≡ n → (t : Written one) (q' : ℕ) → parsed.Stands text rows q t q' → parsed.Stands text rows r t q'
  at_right ts q st sz t q' st' = subst (λ (x : ℕ). parsed.Stands text rows x t q') (sym (h.behind text ts q st sz).0) st'

  -- 16 calls are not enough.
  pub over_limit : (symbols : List Symbol) (calls : Rows) → TooMany text rows r symbols calls 0 0
      → (ts : Written many) (q : ℕ) → parsed.Stands text rows p ts q → size ts ≡ n → (t : Written one) (q' : ℕ) → parsed.Stands text rows q t q'
      → call_limit < premise_count (flatten_of symbols t none)
  unfolding Stands size
  over_limit symbols calls m ts q st sz t q' st' = m t q' none (at_right ts q st sz t q' st') refl refl

  pub prepared : {symbols : List Symbol} {calls out₂ calls₂ : Rows} {next top end number : ℕ} → FlatRows text rows r symbols out₁ (r - p + 1) calls 0 0 out₂ calls₂ next top end number
      → (ts : Written many) (q : ℕ) → parsed.Stands text rows p ts q → size ts ≡ n → (t : Written one) (q' : ℕ) → parsed.Stands text rows q t q'
      → Prepared text symbols start size₁ out₂ calls₂ next number ts t q'
  unfolding Stands size
  prepared {symbols} {calls} {out₂} {calls₂} {next} {top} {end} {number} f ts q st sz t q' st' =
      let a = f.flattens t q' none (at_right ts q st sz t q' st') refl refl in
      let k = h.kept in
      let u = h.onward in
      let w = h.within in
      record {
        goes_on = a.0;
        term = a.1.term;
        premises = a.1.premises;
        is = a.1.is;
        end = end;
        stand = a.1.stand;
        numbered = a.1.numbered;
        top = top;
        stands = concluding text rows p n start size₁ out out₁ out₂ r h (omega arith) f.below f.out_kept (omega arith) ts q st sz a.1.term top a.1.stands;
      }
