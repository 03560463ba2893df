-- Laws of a rule's judgments: one for each way out.
use mathlib.Core.Path.{◌≡◌}
use mathlib.Core.List.{List, [], ◌∷◌}
use Prim.Native.Nat.{ℕ}
use Rattle.term_parser.specs.Source.{one, many}
use Rattle.term_parser.specs.Standing.{Written}
use Rattle.names.specs.Symbols.{Symbol, Variable}
use Rattle.patterns.specs.Patterns.{Out, pattern_of}
use Rattle.patterns.specs.Laying.{laid}
use Rattle.patterns.specs.Promises.{stored, no as refusal, yes as kept}
use Rattle.patterns.proofs.Terms.{stored_bad, stored_good}
use Rattle.rules.specs.Promises.{no, yes, onward, both}

module _ (symbols : List Symbol) (c : Written one) (P : Out many) (w : List ℕ) (u : ℕ) where
  -- a premise is refused
  pub premises_refused : {e : ℕ} → refusal e ≡ stored [] P w u → no e ≡ both symbols c P w u
  premises_refused q = rw (stored_bad [] P w u _ q)

  -- the premises are laid
  module _ (rs w₁ : List ℕ) (u₁ : ℕ) (vs : List Variable) (m : ℕ) (q : kept (laid rs w₁ u₁) vs m ≡ stored [] P w u) where
    opened : both symbols c P w u ≡ onward (laid rs w₁ u₁) (pattern_of symbols c (0 ∷ []) vs m)
    opened = let g = stored_good P w u (laid rs w₁ u₁) vs m q in rw (g.is, g.lies)

    pub conclusion_refused : {e : ℕ} → refusal e ≡ stored [] (pattern_of symbols c (0 ∷ []) vs m) w₁ u₁ → no e ≡ both symbols c P w u
    conclusion_refused h = rw (opened, stored_bad [] (pattern_of symbols c (0 ∷ []) vs m) w₁ u₁ _ h)

    pub both_done : (r : ℕ) (w₂ : List ℕ) (u₂ : ℕ) (vs₂ : List Variable) (m₂ : ℕ) → kept (laid (r ∷ []) w₂ u₂) vs₂ m₂ ≡ stored [] (pattern_of symbols c (0 ∷ []) vs m) w₁ u₁
        → yes rs u₁ (laid (r ∷ []) w₂ u₂) vs₂ m₂ ≡ both symbols c P w u
    both_done r w₂ u₂ vs₂ m₂ h =
        let g = stored_good (pattern_of symbols c (0 ∷ []) vs m) w₁ u₁ (laid (r ∷ []) w₂ u₂) vs₂ m₂ h in
        rw (opened, g.is, g.lies)
