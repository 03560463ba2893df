-- Laws of `rule`: one for each way out.
use mathlib.Core.Path.{◌≡◌, sym, ◌∙◌}
use mathlib.Core.Bool.{true, false}
use mathlib.Core.List.{List, [], ◌∷◌, map}
use Prim.Native.Nat.{ℕ, ◌+◌, ◌*◌, ◌≤◌, ◌<◌}
use native.Mathlib.Omega.{arith}
use lib.ListN.{length}
use borrow.Author.Tests.{lt-ltb, le-ltb}
use Rattle.terms.specs.Term.{Term, Terms}
use Rattle.terms.specs.TermLaws.{below_le}
use Rattle.arena.specs.Cells.{WellFormed, cells}
use Rattle.arena.specs.Copies.{pattern_room}
use Rattle.resolution.specs.Rules.{Rule}
use Rattle.term_parser.specs.Source.{one, many}
use Rattle.term_parser.specs.Standing.{Written, size}
use Rattle.names.specs.Names.{Name}
use Rattle.names.specs.Symbols.{Rows, Symbol, Variable, column, row_at, symbol_of, symbols_of}
use Rattle.patterns.specs.Patterns.{Out, bad, good, pattern_of}
use Rattle.patterns.specs.Laying.{Laid, laid, lay}
use Rattle.patterns.proofs.Terms.{symbol_at_lem, symbols_length}
use Rattle.names.specs.SearchLaws.{columns_length}
use Rattle.rules.specs.Rules.{barred, ruled, all_known, closed, concluded, rule_of}
use Rattle.rules.specs.LayingLaws.{RuleLaid, rule_laid}
use Rattle.rules.specs.LayoutLaws.{RuleExact, rule_exact}
use Rattle.rules.specs.PatternLaws.{arities_of, FewInputs, InputsUpto, RuleMade, ruled_made}
use Rattle.rules.specs.Promises.{no, yes, onward, both}

-- The symbols of a table have few inputs, if their rows say so.
pub few_inputs : (text : List ℕ) (symbols : Rows) (count : ℕ) → count ≤ length symbols → ((i : ℕ) → i < count → column (row_at symbols i) 6 ≤ 16) → FewInputs (symbols_of text symbols count)
unfolding symbol_of
few_inputs text symbols count lent h i l =
    let n : length (symbols_of text symbols count) ≡ count = symbols_length text symbols count lent in
    let m : i < count = rw n at l in
    rw (symbol_at_lem text symbols count lent i m) (rw columns_length (h i m))

module _ (symbols : List Symbol) (name : Name) (ps : Written many) (c : Written one) (room : ℕ) where
  -- over 16 premises
  pub too_many : 16 < size ps → rule_of symbols name ps c room ≡ barred 28
  unfolding rule_of
  too_many l = rw (lt-ltb 16 (size ps) l)

  module _ (few : size ps ≤ 16) where
    compiled : rule_of symbols name ps c room ≡ concluded symbols name c (pattern_of symbols ps [] [] room)
    unfolding rule_of
    compiled = rw (le-ltb 16 (size ps) few)

    -- a judgment is refused
    pub judgment_refused : (w : List ℕ) (u : ℕ) {e : ℕ} → no e ≡ both symbols c (pattern_of symbols ps [] [] room) w u → rule_of symbols name ps c room ≡ barred e
    judgment_refused w u {e} q = compiled ∙ go (pattern_of symbols ps [] [] room) q
      where
        last : (us : Terms) (l : Laid) (o : Out one) → no e ≡ onward l o → closed name us o ≡ barred e
        last us (laid rs w₁ u₁) (bad f) q = cc
        last us (laid rs w₁ u₁) (good t vs m) q = absurd (let z : ◌≡◌ {A = ℕ} 0 1 = cc in omega arith)

        go : (o : Out many) → no e ≡ both symbols c o w u → concluded symbols name c o ≡ barred e
        go (bad f) q = cc
        go (good us vs m) q = last us (lay us w u) (pattern_of symbols c (0 ∷ []) vs m) q

    -- both are laid: what they are
    pub record Bodied (w : List ℕ) (u : ℕ) (rs : List ℕ) (middle : ℕ) (l : Laid) (vs : List Variable) (m : ℕ) : Type 0 where
      pub premises : Terms
      pub conclusion : Term
      pub between : List ℕ
      pub first : lay premises w u ≡ laid rs between middle
      pub second : lay conclusion between middle ≡ l
      pub is : concluded symbols name c (pattern_of symbols ps [] [] room) ≡ closed name premises (good conclusion vs m)

    pub bodied : (w : List ℕ) (u : ℕ) (rs : List ℕ) (middle : ℕ) (l : Laid) (vs : List Variable) (m : ℕ) → yes rs middle l vs m ≡ both symbols c (pattern_of symbols ps [] [] room) w u
        → Bodied w u rs middle l vs m
    bodied w u rs middle l vs m q =
        let g = go (pattern_of symbols ps [] [] room) q in
        record { premises = g.0; conclusion = g.1; between = g.2; first = g.3; second = g.4; is = g.5 }
      where
        last : (us : Terms) (k : Laid) (o : Out one) → yes rs middle l vs m ≡ onward k o
            → (t : Term) × (w₁ : List ℕ) × (k ≡ laid rs w₁ middle) × (lay t w₁ middle ≡ l) × (closed name us o ≡ closed name us (good t vs m))
        last us (laid rs₁ w₁ u₁) (bad f) q = absurd (let z : ◌≡◌ {A = ℕ} 0 1 = cc in omega arith)
        last us (laid rs₁ w₁ u₁) (good t vs₁ m₁) q =
            let a : rs ≡ rs₁ = cc in
            let b : middle ≡ u₁ = cc in
            let d : l ≡ lay t w₁ u₁ = cc in
            let e : vs ≡ vs₁ = cc in
            let f : m ≡ m₁ = cc in
            (t, w₁, rw (a, b), (rw b (sym d)), rw (e, f))

        go : (o : Out many) → yes rs middle l vs m ≡ both symbols c o w u
            → (us : Terms) × (t : Term) × (w₁ : List ℕ) × (lay us w u ≡ laid rs w₁ middle) × (lay t w₁ middle ≡ l) × (concluded symbols name c o ≡ closed name us (good t vs m))
        go (bad f) q = absurd (let z : ◌≡◌ {A = ℕ} 0 1 = cc in omega arith)
        go (good us vs₁ m₁) q = let h = last us (lay us w u) (pattern_of symbols c (0 ∷ []) vs₁ m₁) q in (us, h.0, h.1, h.2, h.3, h.4)

    module _ {w : List ℕ} {u : ℕ} {rs : List ℕ} {middle : ℕ} {l : Laid} {vs : List Variable} {m : ℕ} (h : Bodied w u rs middle l vs m) where
      -- a sort is not known
      pub not_known : all_known vs ≡ false → rule_of symbols name ps c room ≡ barred 25
      not_known e = compiled ∙ h.is ∙ rw e

      abbrev pub rule_made : Rule
      rule_made = record { name = name; sorts = map (λ (v : Variable). v.sort) vs; premises = h.premises; conclusion = h.conclusion }

      -- its references and words are the rule's
      pub exactly : (r : ℕ) (w₂ : List ℕ) (u₂ : ℕ) → l ≡ laid (r ∷ []) w₂ u₂ → RuleExact rule_made w u rs middle r w₂
      exactly r w₂ u₂ e = rule_exact rule_made w u rs h.between middle r w₂ u₂ h.first (h.second ∙ e)

      module _ (known : all_known vs ≡ true) where
        pub is_rule : rule_of symbols name ps c room ≡ ruled rule_made m
        is_rule = compiled ∙ h.is ∙ rw known

        -- it lies in the words
        module _ (fewInputs : FewInputs symbols) (ns : ℕ) (upto : InputsUpto ns symbols) where
          pub made : RuleMade symbols ns name room rule_made m
          made = ruled_made symbols ns fewInputs upto name ps c room is_rule

          pub lies : (r : ℕ) (w₂ : List ℕ) (u₂ : ℕ) → l ≡ laid (r ∷ []) w₂ u₂ → WellFormed pattern_room (cells w) pattern_room u → u + 2 * room ≤ length w → u + 2 * room ≤ 65536
              → RuleLaid (arities_of symbols) rule_made w u rs middle r w₂ u₂
          lies r w₂ u₂ e formed fits low =
              let k = made in
              let f = k.words_fit in
              let v = k.variables in
              rule_laid (arities_of symbols) rule_made w u rs h.between middle r w₂ u₂
              (record {
                formed = formed;
                room = omega arith;
                small = omega arith;
                below = (below_le v h.conclusion k.conclusion_below, below_le v h.premises k.premises_below);
                fits = (k.conclusion_fits, k.premises_fit);
              })
              h.first (h.second ∙ e)
