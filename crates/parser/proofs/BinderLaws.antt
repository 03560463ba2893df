-- What binders have read at each of their places: the names, the colon, the sort and the parenthesis, and their rows behind a free one.
use mathlib.Core.Path.{◌≡◌, refl, sym, ap₂}
use mathlib.Core.List.{List, [], ◌∷◌}
use Prim.Native.Nat.{ℕ, ◌+◌, ◌<◌}
use native.Mathlib.Omega.{arith}
use lib.ListN.{length, drop, set}
use Rattle.words.specs.Names.{name_kind}
use Rattle.refusals.specs.declared.Refusal.TheVariants.{NameExpected}
use Rattle.term_parser.specs.declared.Token.{Token}
use Rattle.term_parser.specs.Source.{Place}
use Rattle.term_parser.specs.Parsing.{Tokens, token_of, kind_of, place_of, line_of, last_line, Parsed, parsed, follow, sign_of}
use Rattle.term_parser.specs.Lists.{name, names_of}
use Rattle.term_parser.specs.Rows.{Rows, name_rows, rows_of_all}
use Rattle.term_parser.specs.Steps.{Step}
use Rattle.term_parser.specs.Steps.Step.{At, Refused}
use Rattle.term_parser.specs.Promises.{Room, Answers, Lists, Signed}
use Rattle.term_parser.specs.Firmness.{firm_sign}
use Rattle.parser.specs.Source.{Binders}
use Rattle.parser.specs.Declarations.{behind_open, binders_of}
use Rattle.parser.specs.Rows.{binders_rows, binders_kind}
use Rattle.term_parser.proofs.TokenLaws.{token_there}
use Rattle.term_parser.proofs.Readers.{Stopped, got}
use Rattle.term_parser.proofs.ListLaws.{firm_names, behind_is}
use Rattle.parser.proofs.PartLaws.{Along, name_part, name_stopped, start, part, part_stopped, sign_part, sign_stopped, finish}

module _ (last : ℕ) (xs : List Place) where
  abbrev pub behind_sort : Place → Tokens → Parsed Binders
  behind_sort s ws = follow (sign_of last 19 ws) ws (λ _ ys. parsed (record { names = xs; sort = s }) 0)

  abbrev pub behind_colon : Unit {0} → Tokens → Parsed Binders
  behind_colon _ vs = follow (name last vs) vs behind_sort

  abbrev pub behind_names : Tokens → Parsed Binders
  behind_names us = follow (sign_of last 20 us) us behind_colon

module _ (ts : Tokens) {at used : ℕ} {out : Rows} (room : Room ts at used out) (open_there : kind_of (drop at ts) ≡ 18) where
  abbrev whole : Parsed Binders
  whole = binders_of (last_line ts) (drop at ts)

  pub binders_there : at < length ts
  binders_there = let e = open_there in token_there ts at (omega arith)

  pub after_open : Along binders_rows whole ts at used out (at + 1) (used + 1) out (behind_open (last_line ts) (drop (at + 1) ts)) []
  after_open = start binders_rows room binders_there _ _ (behind_is 18 (behind_open (last_line ts)) ts at open_there)

  -- the names
  module _ {r₁ : Step} {out₁ : Rows} (h₁ : Lists 1 name_rows (names_of (last_line ts) (drop (at + 1) ts)) ts (at + 1) (used + 1) out r₁ out₁) where
    pub names_stop : Stopped r₁ → Answers 1 binders_rows whole ts at used out r₁ out₁
    names_stop s = part_stopped after_open (behind_names (last_line ts)) refl h₁.answers s (firm_names (last_line ts) (drop (at + 1) ts))

    module _ {q₁ k₁ i₁ : ℕ} (e₁ : r₁ ≡ At q₁ k₁ i₁) (l₁ : length out₁ ≡ length out) where
      abbrev bound : List Place
      bound = (got h₁.answers e₁).item

      after_names : Along binders_rows whole ts at used out q₁ k₁ out₁ (behind_names (last_line ts) bound (drop q₁ ts)) (rows_of_all name_rows bound)
      after_names = part after_open (behind_names (last_line ts)) refl h₁.answers e₁ l₁

      -- the colon
      module _ {r₂ : Step} (h₂ : Signed (sign_of (last_line ts) 20 (drop q₁ ts)) ts q₁ k₁ r₂) where
        pub colon_stops : Stopped r₂ → Answers 1 binders_rows whole ts at used out r₂ out₁
        colon_stops s = sign_stopped after_names (last_line ts) 20 (behind_colon (last_line ts) bound) refl h₂ s (firm_sign (last_line ts) 20 (drop q₁ ts))

        module _ {q₂ k₂ i₂ : ℕ} (e₂ : r₂ ≡ At q₂ k₂ i₂) where
          after_colon : Along binders_rows whole ts at used out q₂ k₂ out₁ (behind_colon (last_line ts) bound tt (drop q₂ ts)) (rows_of_all name_rows bound)
          after_colon = sign_part after_names (last_line ts) 20 (behind_colon (last_line ts) bound) refl h₂ e₂

          -- the sort
          pub no_sort : (kind_of (drop q₂ ts) ≡ name_kind → ⊥) → {l : ℕ} {out' : Rows} → l ≡ line_of (last_line ts) (drop q₂ ts) → Answers 1 binders_rows whole ts at used out (Refused NameExpected l) out'
          no_sort n e = name_stopped after_colon (behind_sort (last_line ts) bound) refl n e

          module _ (is_name : kind_of (drop q₂ ts) ≡ name_kind) where
            pub sort_there : q₂ < length ts
            sort_there = let e = is_name in token_there ts q₂ (omega arith)

            after_sort : Along binders_rows whole ts at used out (q₂ + 1) k₂ out₁ (behind_sort (last_line ts) bound (place_of (drop q₂ ts)) (drop (q₂ + 1) ts)) (rows_of_all name_rows bound)
            after_sort = name_part after_colon (behind_sort (last_line ts) bound) refl is_name

            -- the parenthesis
            module _ {r₃ : Step} (h₃ : Signed (sign_of (last_line ts) 19 (drop (q₂ + 1) ts)) ts (q₂ + 1) k₂ r₃) where
              pub close_stops : Stopped r₃ → Answers 1 binders_rows whole ts at used out r₃ out₁
              close_stops s = sign_stopped after_sort (last_line ts) 19 (λ _ ys. parsed (record { names = bound; sort = place_of (drop q₂ ts) }) 0) refl h₃ s (firm_sign (last_line ts) 19 (drop (q₂ + 1) ts))

              module _ {q₃ k₃ i₃ : ℕ} (e₃ : r₃ ≡ At q₃ k₃ i₃) where
                pub after_close : Along binders_rows whole ts at used out q₃ k₃ out₁ (parsed (record { names = bound; sort = place_of (drop q₂ ts) }) 0) (rows_of_all name_rows bound)
                after_close = sign_part after_sort (last_line ts) 19 (λ _ ys. parsed (record { names = bound; sort = place_of (drop q₂ ts) }) 0) refl h₃ e₃

                pub binders_end : {t : Token} {out₄ : Rows} → t ≡ token_of (drop q₂ ts) → out₄ ≡ set out₁ used (binders_kind ∷ t.start ∷ t.length ∷ i₁ ∷ []) → Answers 1 binders_rows whole ts at used out (At q₃ k₃ 1) out₄
                binders_end te w =
                    finish after_close room refl
                    (ap₂ (λ t i. (binders_kind ∷ t.start ∷ t.length ∷ i ∷ []) ∷ rows_of_all name_rows bound) (sym te) (sym (h₁.counted _ _ _ e₁ _ _ (got h₁.answers e₁).is))) w
