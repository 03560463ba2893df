-- `numeral`: one law for each way out.
use Prim.Native.Nat.{ℕ, ◌+◌, ◌≤◌, ◌<◌, min}
use native.Mathlib.Omega.{arith}
use mathlib.Core.Path.{◌≡◌, refl, sym, ◌∙◌, subst}
use mathlib.Core.Bool.{true, false, ◌&&◌}
use mathlib.Core.List.{List}
use Rattle.names.specs.Symbols.{Rows, Symbol, column, row_at, symbols_of, symbol_number}
use Rattle.patterns.specs.Patterns.{is_ctor, zero_name, succ_name}
use Rattle.resolution.specs.Rules.{Rule, leaf}
use Rattle.term_parser.specs.Source.{one}
use Rattle.evaluation.specs.Matching.{Built, barred, built}
use Rattle.evaluation.specs.Expressions.{Evaluated, failed, unless, around, numeral_misuse, tower_of, numeral_of}
use Rattle.clause_matching.specs.Building.{Tells}
use Rattle.clause_matching.specs.declared.building.Built.{Built as Answer}
use Rattle.std.specs.Prelude.{Result, Ok, Err}
use Rattle.patterns.specs.Promises.{NumeralsFound}
use Rattle.patterns.specs.declared.NumeralSymbols.{NumeralSymbols}
use Rattle.refusals.specs.declared.Refusal.{Refusal}
use Rattle.refusals.specs.Refusals.{number_of}
use Rattle.expressions.specs.Numerals.{NumeralAsked, TowerAsked, TowerAnswered, Gives, NumeralAnswered}
use Rattle.forward_calls.proofs.Tables.{symbols_length}
use Rattle.expressions.proofs.Forming.{barred_at}
use Rattle.expressions.proofs.Misuses.{unless_some, misuse_is, nothing_refused, refusal_row, refusal_of}

around_gives : (r : Result Answer Refusal) (words words' : List ℕ) (used limit calls : ℕ) (b : Built _) → Tells b r words words' used limit → Gives (around leaf calls b) calls r words words' used limit
around_gives r words words' used limit calls (barred e) h = h
around_gives r words words' used limit calls (built t u) (v, q, s) = (v, q, s, refl)

module _ (text : List ℕ) (n : ℕ) {symbols : Rows} {count depth : ℕ} {words : List ℕ} {used limit : ℕ} (h : NumeralAsked symbols count depth words used limit) where
  abbrev names : List Symbol
  names = symbols_of text symbols count

  -- 26.
  none : {x : Refusal} → number_of x ≡ 26 → (is_ctor names zero_name && is_ctor names succ_name) ≡ false
      → NumeralAnswered text symbols count n depth words used limit (Err x) words
  unfolding numeral_of
  none {x} k b = record {
    says = λ v e rules calls. subst (λ (o : Evaluated one). Gives o calls (Err x) words words used limit) (sym (is v rules calls)) k;
    forms = λ f value u q. barred_at q;
    kept = refl;
  }
    where
      is : (v : ℕ) (rules : List Rule) (calls : ℕ) → numeral_of limit names rules v depth (record { calls = calls; words = used }) ≡ failed 26
      is v rules calls = rw b

  pub not_found : {r : Result NumeralSymbols Refusal} {x : Refusal} → NumeralsFound names r → r ≡ Err x → NumeralAnswered text symbols count n depth words used limit (Err x) words
  not_found f q = let g = rw q at f in none g.0 g.1

  module _ {r : Result NumeralSymbols Refusal} {found : NumeralSymbols} (f : NumeralsFound names r) (q : r ≡ Ok found) where
    abbrev z : ℕ
    z = found.zero

    abbrev y : ℕ
    y = found.succ

    found_z : (z ≡ symbol_number names zero_name) × (z < count) × (is_ctor names zero_name ≡ true)
    found_z = let g = rw q at f in (g.0.0, rw (symbols_length text symbols count h.lent) at g.0.2, g.0.1)

    found_y : (y ≡ symbol_number names succ_name) × (y < count) × (is_ctor names succ_name ≡ true)
    found_y = let g = rw q at f in (g.1.0, rw (symbols_length text symbols count h.lent) at g.1.2, g.1.1)

    module _ {e : ℕ} (m : (limit : ℕ) (text : List ℕ) (rules : List Rule) → e ≡ numeral_misuse limit (symbols_of text symbols count) rules y z n depth) where
      abbrev a : ℕ
      a = column (row_at symbols y) 6

      abbrev b : ℕ
      b = column (row_at symbols z) 6

      in_numbers : (v : ℕ) (rules : List Rule) → numeral_misuse limit names rules y z v depth ≡ refusal_of a b v depth
      in_numbers v rules = misuse_is text symbols count y z v depth (h.lent, found_y.1, found_z.1, h.deep) limit rules

      refusal : List Rule → e ≡ refusal_of a b n depth
      refusal rules = m limit text rules ∙ in_numbers n rules

      at_value : (v : ℕ) → n ≡ min v 4294967295 → (rules : List Rule) → numeral_misuse limit names rules y z v depth ≡ e
      at_value v q rules = in_numbers v rules ∙ refusal_row a b v n depth q ∙ sym (refusal rules)

      numeral_is : (v : ℕ) → n ≡ min v 4294967295 → (rules : List Rule) (calls : ℕ)
          → numeral_of limit names rules v depth (record { calls = calls; words = used }) ≡ unless e (λ _. around leaf calls (tower_of limit names rules y z v used))
      unfolding numeral_of
      numeral_is v q rules calls = rw (found_z.2, found_y.2, ← found_z.0, ← found_y.0, at_value v q rules)

      pub numeral_refused : {x : Refusal} → number_of x ≡ e → (e ≡ 0 → ⊥) → NumeralAnswered text symbols count n depth words used limit (Err x) words
      numeral_refused {x} k d = record {
        says = λ v q rules calls. subst (λ (o : Evaluated one). Gives o calls (Err x) words words used limit)
            (sym (numeral_is v q rules calls ∙ unless_some e (λ _. around leaf calls (tower_of limit names rules y z v used)) d)) k;
        forms = λ f value u q. barred_at q;
        kept = refl;
      }

      module _ (rules₀ : List Rule) (d : e ≡ 0) where
        bounds : (0 < n → a ≡ 1) × (depth + n ≤ 128) × (b ≡ 0)
        bounds = nothing_refused a b n depth (sym d ∙ refusal rules₀)

        pub tower_asked : TowerAsked symbols count y z n words used limit
        tower_asked = record {
          working = record { lent = h.lent; few = h.few; deep = omega arith; stored = h.stored; fits = h.fits; low = h.low; room = h.room };
          nullary = bounds.2;
          unary = bounds.0;
        }

        pub numeral_built : {r : Result Answer Refusal} {words' : List ℕ} → TowerAnswered symbols count y z n words used limit r words'
            → NumeralAnswered text symbols count n depth words used limit r words'
        numeral_built {r} {words'} g = record {
          says = λ v q rules calls.
              let k = bounds.1 in
              let w : v ≡ n = omega arith in
              let i : numeral_of limit names rules v depth (record { calls = calls; words = used }) ≡ around leaf calls (tower_of limit names rules y z n used)
              = numeral_is v q rules calls ∙ rw (d, w) in
              subst (λ (x : Evaluated one). Gives x calls r words words' used limit)
              (sym i) (around_gives r words words' used limit calls (tower_of limit names rules y z n used) (g.tells text rules));
          forms = g.forms text;
          kept = g.kept;
        }
