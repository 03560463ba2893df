-- What `theorem` has read at each of its places: the tokens before a place, and their rows behind a free one.
use mathlib.Core.Path.{◌≡◌, refl}
use mathlib.Core.List.{List, [], ◌∷◌, ◌++◌}
use Prim.Native.Nat.{ℕ, ◌+◌, ◌-◌, ◌<◌}
use lib.ListN.{length, drop, set, get_or}
use Rattle.term_parser.specs.Source.{Place, Source, one}
use Rattle.term_parser.specs.Parsing.{Tokens, last_line, Parsed, parsed, plus, follow, repeat, sign_of}
use Rattle.term_parser.specs.Grammar.{name_of}
use Rattle.term_parser.specs.Lists.{judgments_of}
use Rattle.term_parser.specs.Rows.{Rows, rows_of, rows_of_all, name_rows}
use Rattle.term_parser.specs.Steps.{Step}
use Rattle.term_parser.specs.Steps.Step.{At}
use Rattle.term_parser.specs.Promises.{Room, Answers, Lists, Signed}
use Rattle.term_parser.specs.Firmness.{firm_repeat, firm_sign, firm_name}
use Rattle.parser.specs.Source.{Binders, Declaration, theorem}
use Rattle.parser.specs.Declarations.{theorem_of, tactic_of, binders_of}
use Rattle.parser.specs.Rows.{declaration_rows, binders_rows, tactic_rows, numbered}
use Rattle.term_parser.proofs.Readers.{Stopped, got}
use Rattle.term_parser.proofs.TermLaws.{firm_term, term_at}
use Rattle.term_parser.proofs.ListLaws.{firm_separated}
use Rattle.parser.proofs.PartLaws.{Along, start, part, part_stopped, sign_part, sign_stopped, finish}
use Rattle.parser.proofs.DeclarationLaws.{marked, tactic_rows_lem, theorem_rows}
use Rattle.parser.proofs.TacticLaws.{firm_tactic}

module _ (text : List ℕ) (last : ℕ) (n : Place) where
  module _ (bs : List Binders) where
    abbrev pub behind_judgments : List (Source one) → Tokens → Parsed Declaration
    behind_judgments js xs = follow (tactic_of last xs) xs (λ t ys. parsed (theorem n bs js t) 0)

    abbrev pub behind_colon : Unit {0} → Tokens → Parsed Declaration
    behind_colon _ ws = follow (judgments_of text last ws) ws behind_judgments

    abbrev pub behind_binders : Tokens → Parsed Declaration
    behind_binders vs = follow (sign_of last 20 vs) vs behind_colon

  abbrev pub behind_name : Tokens → Parsed Declaration
  behind_name us = follow (repeat (binders_of last) us 0 0 []) us behind_binders

-- What the reader comes to that starts at a place.
abbrev pub whole : List ℕ → Tokens → ℕ → Parsed Declaration
whole text ts at = plus 1 (theorem_of text (last_line ts) (drop (at + 1) ts))

module _ (number : ℕ) (text : List ℕ) (ts : Tokens) {at used : ℕ} {out : Rows} (room : Room ts at used out) (here : at < length ts) where
  begun : Along (declaration_rows number) (whole text ts at) ts at used out (at + 1) (used + 1) out (theorem_of text (last_line ts) (drop (at + 1) ts)) []
  begun = start (declaration_rows number) room here _ _ refl

  -- the name
  module _ {r₁ : Step} {out₁ : Rows} (h₁ : Answers 1 name_rows (name_of (last_line ts) (drop (at + 1) ts)) ts (at + 1) (used + 1) out r₁ out₁) where
    pub name_stops : Stopped r₁ → Answers 1 (declaration_rows number) (whole text ts at) ts at used out r₁ out₁
    name_stops s = part_stopped begun (behind_name text (last_line ts)) refl h₁ s (firm_name (last_line ts) (drop (at + 1) ts))

    module _ {q₁ k₁ i₁ : ℕ} (e₁ : r₁ ≡ At q₁ k₁ i₁) (l₁ : length out₁ ≡ length out) where
      pub after_name : Along (declaration_rows number) (whole text ts at) ts at used out q₁ k₁ out₁ (behind_name text (last_line ts) (got h₁ e₁).item (drop q₁ ts)) (name_rows (got h₁ e₁).item)
      after_name = part begun (behind_name text (last_line ts)) refl h₁ e₁ l₁

      -- the binders
      module _ {r₂ : Step} {out₂ : Rows} (h₂ : Lists 0 binders_rows (repeat (binders_of (last_line ts)) (drop q₁ ts) 0 0 []) ts q₁ k₁ out₁ r₂ out₂) where
        pub binders_stop : Stopped r₂ → Answers 1 (declaration_rows number) (whole text ts at) ts at used out r₂ out₂
        binders_stop s = part_stopped after_name (behind_binders text (last_line ts) (got h₁ e₁).item) refl h₂.answers s (firm_repeat (binders_of (last_line ts)) (drop q₁ ts) 0 0 [])

        module _ {q₂ k₂ i₂ : ℕ} (e₂ : r₂ ≡ At q₂ k₂ i₂) (l₂ : length out₂ ≡ length out₁) where
          after_binders : Along (declaration_rows number) (whole text ts at) ts at used out q₂ k₂ out₂ (behind_binders text (last_line ts) (got h₁ e₁).item (got h₂.answers e₂).item (drop q₂ ts)) (name_rows (got h₁ e₁).item ++ rows_of_all binders_rows (got h₂.answers e₂).item)
          after_binders = part after_name (behind_binders text (last_line ts) (got h₁ e₁).item) refl h₂.answers e₂ l₂

          -- the colon
          module _ {r₃ : Step} (h₃ : Signed (sign_of (last_line ts) 20 (drop q₂ ts)) ts q₂ k₂ r₃) where
            pub colon_stops : Stopped r₃ → Answers 1 (declaration_rows number) (whole text ts at) ts at used out r₃ out₂
            colon_stops s = sign_stopped after_binders (last_line ts) 20 (behind_colon text (last_line ts) (got h₁ e₁).item (got h₂.answers e₂).item) refl h₃ s (firm_sign (last_line ts) 20 (drop q₂ ts))

            module _ {q₃ k₃ i₃ : ℕ} (e₃ : r₃ ≡ At q₃ k₃ i₃) where
              pub after_colon : Along (declaration_rows number) (whole text ts at) ts at used out q₃ k₃ out₂ (behind_colon text (last_line ts) (got h₁ e₁).item (got h₂.answers e₂).item tt (drop q₃ ts)) (name_rows (got h₁ e₁).item ++ rows_of_all binders_rows (got h₂.answers e₂).item)
              after_colon = sign_part after_binders (last_line ts) 20 (behind_colon text (last_line ts) (got h₁ e₁).item (got h₂.answers e₂).item) refl h₃ e₃

              -- the judgments
              module _ {r₄ : Step} {out₄ : Rows} (h₄ : Lists 1 rows_of (judgments_of text (last_line ts) (drop q₃ ts)) ts q₃ k₃ out₂ r₄ out₄) where
                pub judgments_stop : Stopped r₄ → Answers 1 (declaration_rows number) (whole text ts at) ts at used out r₄ out₄
                judgments_stop s = part_stopped after_colon (behind_judgments text (last_line ts) (got h₁ e₁).item (got h₂.answers e₂).item) refl h₄.answers s (firm_separated 15 (term_at text ts 64) (firm_term text ts 64) (drop q₃ ts))

                module _ {q₄ k₄ i₄ : ℕ} (e₄ : r₄ ≡ At q₄ k₄ i₄) (l₄ : length out₄ ≡ length out₂) where
                  pub after_judgments : Along (declaration_rows number) (whole text ts at) ts at used out q₄ k₄ out₄ (behind_judgments text (last_line ts) (got h₁ e₁).item (got h₂.answers e₂).item (got h₄.answers e₄).item (drop q₄ ts))
                      ((name_rows (got h₁ e₁).item ++ rows_of_all binders_rows (got h₂.answers e₂).item) ++ rows_of_all rows_of (got h₄.answers e₄).item)
                  after_judgments = part after_colon (behind_judgments text (last_line ts) (got h₁ e₁).item (got h₂.answers e₂).item) refl h₄.answers e₄ l₄

                  -- the tactic
                  module _ {r₅ : Step} {out₅ : Rows} (h₅ : Answers 0 tactic_rows (tactic_of (last_line ts) (drop q₄ ts)) ts q₄ k₄ out₄ r₅ out₅) where
                    pub tactic_stops : Stopped r₅ → Answers 1 (declaration_rows number) (whole text ts at) ts at used out r₅ out₅
                    tactic_stops s = part_stopped after_judgments (λ t ys. parsed (theorem (got h₁ e₁).item (got h₂.answers e₂).item (got h₄.answers e₄).item t) 0) refl h₅ s (firm_tactic (last_line ts) (drop q₄ ts))

                    module _ {q₅ k₅ i₅ : ℕ} (e₅ : r₅ ≡ At q₅ k₅ i₅) (l₅ : length out₅ ≡ length out₄) where
                      pub after_tactic : Along (declaration_rows number) (whole text ts at) ts at used out q₅ k₅ out₅ (parsed (theorem (got h₁ e₁).item (got h₂.answers e₂).item (got h₄.answers e₄).item (got h₅ e₅).item) 0)
                          (((name_rows (got h₁ e₁).item ++ rows_of_all binders_rows (got h₂.answers e₂).item) ++ rows_of_all rows_of (got h₄.answers e₄).item) ++ tactic_rows (got h₅ e₅).item)
                      after_tactic = part after_judgments (λ t ys. parsed (theorem (got h₁ e₁).item (got h₂.answers e₂).item (got h₄.answers e₄).item t) 0) refl h₅ e₅ l₅

                      -- the two rows that are written at the end
                      pub theorem_ends : {out₆ out₇ : Rows} → out₆ ≡ set out₅ (used + 1) (numbered (get_or out₅ (used + 1) []) (k₅ - k₄)) → out₇ ≡ set out₆ used (6 ∷ number ∷ i₂ ∷ i₄ ∷ [])
                          → Answers 1 (declaration_rows number) (whole text ts at) ts at used out (At q₅ k₅ 1) out₇
                      theorem_ends m w =
                          finish (marked after_tactic room refl m) room refl
                          (theorem_rows number (got h₁ e₁).item (got h₂.answers e₂).item (got h₄.answers e₄).item (got h₅ e₅).item
                          (h₂.counted _ _ _ e₂ _ _ (got h₂.answers e₂).is) (h₄.counted _ _ _ e₄ _ _ (got h₄.answers e₄).is) (tactic_rows_lem after_tactic after_judgments room (got h₅ e₅).item (got h₅ e₅).written)) w
