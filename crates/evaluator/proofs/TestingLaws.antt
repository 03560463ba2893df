-- The tests of the entry points: what fails one is not readable, and what passes them is.
use Prim.Native.Nat.{ℕ, ◌≤◌}
use native.Mathlib.Omega.{arith}
use mathlib.Core.Path.{◌≡◌, sym, ap, ◌∙◌}
use mathlib.Core.Bool.{Bool, true, false}
use mathlib.Core.List.{List}
use lib.ListN.{length, take}
use Rattle.signature.proofs.UsedLaws.{symbols_used}
use Rattle.names.specs.Symbols.{Rows, Symbol, symbols_of}
use Rattle.term_check.specs.TermRows.{Checking}
use Rattle.term_check.specs.TermLaws.{term_stands}
use Rattle.signature.specs.Storage.{SignatureStore, symbols_in}
use Rattle.evaluation.specs.Expressions.{is_forward_call}
use Rattle.forward_calls.specs.Forward.{ForwardAsked, ForwardAnswered}
use Rattle.words.specs.declared.Limits.{Limits}
use Rattle.terms.specs.Numbers.{true_false}
use Rattle.evaluator.specs.Storage.{Results, too_short}
use Rattle.evaluator.specs.Evaluating.{Readable, Ready, Tested, written_in, Forwarding}
use Rattle.std.specs.Prelude.{Option, None, Result, Ok, cond, [], ◌∷◌}
use Rattle.source_text.specs.Answers.{answers}
use Rattle.refusals.specs.declared.Refusal.{Refusal}

-- The signature and the rows

module _ {text : List ℕ} {sg : SignatureStore} {rows : Rows} {at : ℕ} where
  -- Rows that fail their test are no term's.
  pub no_term : {r : Option ℕ} → Checking text rows at r → r ≡ None → Readable text sg rows at → ⊥
  no_term k e h = let f = k.complete h.next h.term in let z : ◌≡◌ {A = ℕ} 0 1 = cc in let y : ⊥ = omega arith in y

-- Results that are too short are none to evaluate into.
pub too_short_lem : {text : List ℕ} {limits : Limits} {sg : SignatureStore} {rows : Rows} {at : ℕ} {b : Results} → too_short limits b ≡ true → Ready text limits sg rows at b → ⊥
too_short_lem e h = true_false e h.lent

pub tested_sound : {T : Type 0} {P : Type 0} {r : Result T Refusal} {x : T} → Tested P r → r ≡ Ok x → P
tested_sound t e = rw e at t

-- `is_forward_call`

module _ {text : List ℕ} {sg : SignatureStore} {rows : Rows} {at : ℕ} where
  pub forward_asked : (symbols : Rows) → Readable text sg rows at → ForwardAsked text rows at symbols
  forward_asked symbols h = record { term = written_in h; next = h.next; stands = term_stands h.term }

  -- The symbols in use, lent alone, are the signature's.
  module _ (h : Readable text sg rows at) where
    pub symbols_within : sg.counts.symbols ≤ length sg.symbols
    symbols_within = let a = h.signature.symbols_lent in let c = h.signature.few_symbols in omega arith

    symbols_part : symbols_of text (take sg.counts.symbols sg.symbols) (length (take sg.counts.symbols sg.symbols)) ≡ symbols_in text sg
    symbols_part = symbols_used sg.symbols sg.counts.symbols symbols_within text

    module _ {r : Bool} (a : ForwardAnswered text rows at (take sg.counts.symbols sg.symbols) r) where
      says : (k : Readable text sg rows at) → is_forward_call (symbols_in text sg) (written_in k) ≡ r
      says k = sym (a.says (written_in k) k.next (term_stands k.term) ∙ ap (λ (S : List Symbol). is_forward_call S (written_in k)) symbols_part)

      pub is_decided : Forwarding text sg rows at (Ok r)
      is_decided = record {
        unready = λ n. absurd (n h);
        ready = λ k. (ap Ok (sym (says k)), ap (λ (b : Bool). answers (cond b 1 0 ∷ [])) (sym (says k)));
      }

      pub is_goal_lem : r ≡ false → Forwarding text sg rows at (Ok false)
      is_goal_lem e = rw e at is_decided
