-- What `clause` has read at each of its places: the patterns, the arrow and the right side, and their rows behind a free one.
use mathlib.Core.Path.{◌≡◌, refl, sym, ap}
use mathlib.Core.List.{List, [], ◌∷◌, ◌++◌}
use Prim.Native.Nat.{ℕ, ◌+◌, ◌<◌}
use native.Mathlib.Omega.{arith}
use lib.ListN.{length, drop, set}
use Rattle.term_parser.specs.Source.{Source, one}
use Rattle.term_parser.specs.Parsing.{Tokens, kind_of, last_line, Parsed, parsed, follow, sign_of}
use Rattle.term_parser.specs.Lists.{app, patterns_of}
use Rattle.term_parser.specs.Rows.{Rows, rows_of, rows_of_all}
use Rattle.term_parser.specs.Steps.{Step}
use Rattle.term_parser.specs.Steps.Step.{At}
use Rattle.term_parser.specs.Promises.{Room, Answers, Lists, Signed}
use Rattle.term_parser.specs.Firmness.{firm_sign}
use Rattle.parser.specs.Source.{Clause}
use Rattle.parser.specs.Declarations.{behind_bar, clause_of}
use Rattle.parser.specs.Rows.{clause_rows, clause_kind}
use Rattle.term_parser.proofs.TokenLaws.{token_there}
use Rattle.term_parser.proofs.Readers.{Stopped, got}
use Rattle.term_parser.proofs.TermLaws.{firm_app}
use Rattle.term_parser.proofs.ListLaws.{firm_patterns, behind_is}
use Rattle.parser.proofs.PartLaws.{Along, start, part, part_stopped, sign_part, sign_stopped, finish}

module _ (text : List ℕ) (last : ℕ) (ps : List (Source one)) where
  abbrev pub behind_arrow : Unit {0} → Tokens → Parsed Clause
  behind_arrow _ vs = follow (app text last vs) vs (λ t ws. parsed (record { patterns = ps; body = t }) 0)

  abbrev pub behind_patterns : Tokens → Parsed Clause
  behind_patterns us = follow (sign_of last 16 us) us behind_arrow

module _ (text : List ℕ) (ts : Tokens) {at used : ℕ} {out : Rows} (room : Room ts at used out) (bar : kind_of (drop at ts) ≡ 22) where
  pub bar_there : at < length ts
  bar_there = let e = bar in token_there ts at (omega arith)

  pub after_bar : Along clause_rows (clause_of text (last_line ts) (drop at ts)) ts at used out (at + 1) (used + 1) out (behind_bar text (last_line ts) (drop (at + 1) ts)) []
  after_bar = start clause_rows room bar_there _ _ (behind_is 22 (behind_bar text (last_line ts)) ts at bar)

  -- the patterns
  module _ {r₁ : Step} {out₁ : Rows} (h₁ : Lists 0 rows_of (patterns_of text (last_line ts) (drop (at + 1) ts)) ts (at + 1) (used + 1) out r₁ out₁) where
    pub patterns_stop : Stopped r₁ → Answers 1 clause_rows (clause_of text (last_line ts) (drop at ts)) ts at used out r₁ out₁
    patterns_stop s = part_stopped after_bar (behind_patterns text (last_line ts)) refl h₁.answers s (firm_patterns text ts (drop (at + 1) ts))

    module _ {q₁ k₁ i₁ : ℕ} (e₁ : r₁ ≡ At q₁ k₁ i₁) (l₁ : length out₁ ≡ length out) where
      after_patterns : Along clause_rows (clause_of text (last_line ts) (drop at ts)) ts at used out q₁ k₁ out₁ (behind_patterns text (last_line ts) (got h₁.answers e₁).item (drop q₁ ts)) (rows_of_all rows_of (got h₁.answers e₁).item)
      after_patterns = part after_bar (behind_patterns text (last_line ts)) refl h₁.answers e₁ l₁

      -- the arrow
      module _ {r₂ : Step} (h₂ : Signed (sign_of (last_line ts) 16 (drop q₁ ts)) ts q₁ k₁ r₂) where
        pub arrow_stops : Stopped r₂ → Answers 1 clause_rows (clause_of text (last_line ts) (drop at ts)) ts at used out r₂ out₁
        arrow_stops s = sign_stopped after_patterns (last_line ts) 16 (behind_arrow text (last_line ts) (got h₁.answers e₁).item) refl h₂ s (firm_sign (last_line ts) 16 (drop q₁ ts))

        module _ {q₂ k₂ i₂ : ℕ} (e₂ : r₂ ≡ At q₂ k₂ i₂) where
          pub after_arrow : Along clause_rows (clause_of text (last_line ts) (drop at ts)) ts at used out q₂ k₂ out₁ (behind_arrow text (last_line ts) (got h₁.answers e₁).item tt (drop q₂ ts)) (rows_of_all rows_of (got h₁.answers e₁).item)
          after_arrow = sign_part after_patterns (last_line ts) 16 (behind_arrow text (last_line ts) (got h₁.answers e₁).item) refl h₂ e₂

          -- the right side
          module _ {r₃ : Step} {out₃ : Rows} (h₃ : Answers 1 rows_of (app text (last_line ts) (drop q₂ ts)) ts q₂ k₂ out₁ r₃ out₃) where
            pub body_stops : Stopped r₃ → Answers 1 clause_rows (clause_of text (last_line ts) (drop at ts)) ts at used out r₃ out₃
            body_stops s = part_stopped after_arrow (λ t ws. parsed (record { patterns = (got h₁.answers e₁).item; body = t }) 0) refl h₃ s (firm_app text ts 64 (drop q₂ ts))

            module _ {q₃ k₃ i₃ : ℕ} (e₃ : r₃ ≡ At q₃ k₃ i₃) (l₃ : length out₃ ≡ length out₁) where
              pub after_body : Along clause_rows (clause_of text (last_line ts) (drop at ts)) ts at used out q₃ k₃ out₃ (parsed (record { patterns = (got h₁.answers e₁).item; body = (got h₃ e₃).item }) 0) (rows_of_all rows_of (got h₁.answers e₁).item ++ rows_of (got h₃ e₃).item)
              after_body = part after_arrow (λ t ws. parsed (record { patterns = (got h₁.answers e₁).item; body = t }) 0) refl h₃ e₃ l₃

              pub clause_ends : {out₄ : Rows} → out₄ ≡ set out₃ used (clause_kind ∷ 0 ∷ 0 ∷ i₁ ∷ []) → Answers 1 clause_rows (clause_of text (last_line ts) (drop at ts)) ts at used out (At q₃ k₃ 1) out₄
              clause_ends w =
                  finish after_body room refl
                  (ap (λ i. (clause_kind ∷ 0 ∷ 0 ∷ i ∷ []) ∷ (rows_of_all rows_of (got h₁.answers e₁).item ++ rows_of (got h₃ e₃).item)) (sym (h₁.counted _ _ _ e₁ _ _ (got h₁.answers e₁).is))) w
