-- Laws of what is left of the rows: everything wiped where a declaration is refused, and the signature with zero past it where all are entered.
use Prim.Native.Nat.{ℕ, ◌-◌, ◌≤◌}
use native.Mathlib.Omega.{arith}
use mathlib.Core.Path.{◌≡◌, refl, sym, ap, ap₂, ◌∙◌, subst}
use mathlib.Core.List.{List, ◌++◌}
use lib.ListN.{length, take, drop, replicate}
use lib.Seq.{length-take-le, drop_at}
use Rattle.words.specs.Lexer.{zero_row}
use Rattle.parser.specs.Declarations.{Declared}
use Rattle.names.specs.Symbols.{Rows}
use Rattle.loader.specs.Signature.{Signature, Loaded, refused, loaded}
use Rattle.loader.specs.Stored.{Titles, titles_of}
use Rattle.declarations.specs.Held.{Held}
use Rattle.declarations.specs.declared.State.{State}
use Rattle.load.specs.Load.{Walk, RejectedBy, evals_from, Came}
use Rattle.load_storage.specs.Storage.{Buffers, zero_pair, zero_symbol, zero_rule, cleared_from, wiped}
use Rattle.load_storage.specs.Storage.{SignatureCleared, ScratchCleared}
use Rattle.load.specs.Clearing.{RowsLeft}
use Rattle.std.specs.Prelude.{Ok, Err}
use Rattle.refusals.specs.Refusals.{number_of}
use Rattle.refusals.specs.declared.Rejection.{Rejection}
use Rattle.load.specs.declared.Entered.{Entered}
use Rattle.load_storage.proofs.WipeLaws.{wipe, SameLengths}
use Rattle.load.proofs.ListedLaws.{held_cleared}

-- What an answer of `enter_all` says.
module _ (text : List ℕ) (limit : ℕ) (ts : Titles) (waiting : Rows) (r : Walk) (sorts symbols rules : Rows) (words : List ℕ) (evals : Rows) where
  came_refused : {j : Rejection} (x : Loaded) → Came text limit ts waiting x r sorts symbols rules words evals → r ≡ Err j → x ≡ refused (number_of j.refusal) j.line
  came_refused {j} (refused f l) h z = let g : (number_of j.refusal ≡ f) × (j.line ≡ l) = subst (RejectedBy f l) z h in ap₂ refused (sym g.0) (sym g.1)
  came_refused (loaded s) h z = absurd (let i = h.is in let w : ◌≡◌ {A = ℕ} 0 1 = cc in omega arith)

-- All declarations are entered.
pub record AllEntered (text : List ℕ) (limit : ℕ) (ts : Titles) (waiting : Rows) (x : Loaded) (st : State) (k : ℕ) (sorts symbols rules : Rows) (words : List ℕ) (evals : Rows) : Type 0 where
  pub signature : Signature
  pub is : x ≡ loaded signature
  pub held : Held text limit ts signature sorts symbols rules words st
  pub number : k ≡ length waiting
  pub lent : k ≤ length evals
  pub waits : take k evals ≡ waiting

pub came_done : (text : List ℕ) (limit : ℕ) (ts : Titles) (waiting : Rows) (r : Walk) (sorts symbols rules : Rows) (words : List ℕ) (evals : Rows) {en : Entered} (x : Loaded)
    → Came text limit ts waiting x r sorts symbols rules words evals → r ≡ Ok en → AllEntered text limit ts waiting x en.state en.evals sorts symbols rules words evals
came_done text limit ts waiting r sorts symbols rules words evals (refused f l) h z = absurd (subst (RejectedBy f l) z h)
came_done text limit ts waiting r sorts symbols rules words evals {en} (loaded s) h z =
    let i = h.is in
    let y : ◌≡◌ {A = Entered} (record { state = h.state; evals = length waiting }) en = cc in
    let a : h.state ≡ en.state = ap (λ (x : Entered). x.state) y in
    let b : en.evals ≡ length waiting = sym (ap (λ (x : Entered). x.evals) y) in
    let l = h.lent in
    record {
      signature = s;
      is = refl;
      held = subst (λ (y : State). Held text limit ts s sorts symbols rules words y) a h.held;
      number = b;
      lent = omega arith;
      waits = ap (λ (y : ℕ). take y evals) b ∙ h.waits;
    }

clear_past : {A : Type 0} (z : A) (n : ℕ) (l l₀ : List A) → n ≤ length l → length l ≡ length l₀ → drop n (cleared_from z n l) ≡ replicate (length l₀ - n) z
clear_past z n l l₀ h e =
    drop_at (take n l) (replicate (length l - n) z) n (length-take-le n l h) ∙ ap (λ (k : ℕ). replicate (k - n) z) e

module _ (b c d : Buffers) (same : SameLengths b c) where
  module _ (text : List ℕ) (limit : ℕ) (ds : List Declared) (r : Walk) where
    pub rows_refused : (n : ℕ) {j : Rejection} (x : Loaded) → Came text limit (titles_of ds) (evals_from 0 ds) x r c.sorts c.symbols c.rules c.words c.evals → r ≡ Err j → d ≡ wiped b
        → RowsLeft text limit n b ds x (Err j) d
    rows_refused n {j} x h z w =
        subst (λ (y : Loaded). RowsLeft text limit n b ds y (Err j) d) (sym (came_refused text limit (titles_of ds) (evals_from 0 ds) r c.sorts c.symbols c.rules c.words c.evals x h z)) ((refl, refl), w)

    pub rows_done : (n : ℕ) {k : ℕ} {st : State} (x : Loaded) → AllEntered text limit (titles_of ds) (evals_from 0 ds) x st k c.sorts c.symbols c.rules c.words c.evals → d.rows ≡ b.rows
        → ScratchCleared c.tokens c.calls c.evals k d.tokens d.calls d.evals
        → SignatureCleared c.sorts c.symbols c.rules c.words st.sorts st.symbols st.rules st.used d.sorts d.symbols d.rules d.words
        → RowsLeft text limit n b ds x (Ok (record { declarations = n; evals = k; counts = record { sorts = st.sorts; symbols = st.symbols; rules = st.rules; words = st.used } })) d
    rows_done n {k} {st} x h rows y z =
        let held = h.held in
        let a = held.names.few_sorts in
        let a₁ = held.names.sorts_lent in
        let f = held.names.few_symbols in
        let f₁ = held.names.symbols_lent in
        let g = held.kept.few_rules in
        let g₁ = held.kept.rules_lent in
        let u = held.kept.fits in
        let u₁ = held.kept.words_lent in
        let now : Held text limit (titles_of ds) h.signature (cleared_from zero_pair st.sorts c.sorts) (cleared_from zero_symbol st.symbols c.symbols) (cleared_from zero_rule st.rules c.rules) (cleared_from 0 st.used c.words) st = held_cleared held zero_pair zero_symbol zero_rule in
        let now₁ : Held text limit (titles_of ds) h.signature d.sorts d.symbols d.rules d.words st = rw (z.sorts_are_lem, z.symbols_are_lem, z.rules_are_lem, z.words_are) now in
        subst (λ (w : Loaded). RowsLeft text limit n b ds w (Ok (record { declarations = n; evals = k; counts = record { sorts = st.sorts; symbols = st.symbols; rules = st.rules; words = st.used } })) d) (sym h.is)
        (record {
          state = st;
          answer = ap (λ (j : ℕ). Ok (record { declarations = n; evals = j; counts = record { sorts = st.sorts; symbols = st.symbols; rules = st.rules; words = st.used } })) h.number;
          held = now₁;
          sorts_clear = ap (drop st.sorts) z.sorts_are_lem ∙ clear_past zero_pair st.sorts c.sorts b.sorts (omega arith) same.sorts;
          symbols_clear = ap (drop st.symbols) z.symbols_are_lem ∙ clear_past zero_symbol st.symbols c.symbols b.symbols (omega arith) same.symbols;
          rules_clear = ap (drop st.rules) z.rules_are_lem ∙ clear_past zero_rule st.rules c.rules b.rules (omega arith) same.rules;
          words_clear = ap (drop st.used) z.words_are ∙ clear_past 0 st.used c.words b.words (omega arith) same.words;
          rows = rows;
          evals = y.evals_are ∙ ap₂ (λ (l : Rows) (j : ℕ). l ++ replicate j zero_pair) h.waits (ap₂ (λ (i j : ℕ). i - j) same.evals h.number);
          tokens = y.tokens_are ∙ wipe zero_row c.tokens b.tokens same.tokens;
          calls = y.calls_are ∙ wipe zero_row c.calls b.calls same.calls;
        })
