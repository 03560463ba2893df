-- Laws of lent lengths: a buffer that is too short, and what holds where none is.
use Prim.Native.Nat.{ℕ, ◌+◌, ◌*◌, ◌/◌, ◌≤◌, ◌<◌}
use mathlib.Core.Path.{◌≡◌, refl}
use mathlib.Core.Bool.{Bool, true, false, ◌||◌}
use lib.Dec.{ltb}
use borrow.Author.Tests.{lt-ltb, ltb-false}
use Rattle.std.proofs.lemmas.Bool.{or_parts}
use Rattle.load_storage.specs.Storage.{short_by}

or_later : (a : Bool) {b : Bool} → true ≡ b → true ≡ (a || b)
or_later true e = refl
or_later false e = e

-- With too few rows for sorts.
pub few_sorts : (text nodes tokens rows calls sorts symbols rules words evals : ℕ) → sorts < 256 → true ≡ short_by text nodes tokens rows calls sorts symbols rules words evals
few_sorts text nodes tokens rows calls sorts symbols rules words evals l =
    or_later (ltb tokens text) (or_later (ltb rows text) (or_later (ltb calls (text + 32)) (rw (lt-ltb sorts 256 l) refl)))

-- None is too short.
pub record Enough (text nodes tokens rows calls sorts symbols rules words evals : ℕ) : Type 0 where
  pub tokens_lent : text ≤ tokens
  pub rows_lent : text ≤ rows
  pub calls_lent : text + 32 ≤ calls
  pub sorts_lent : 256 ≤ sorts
  pub symbols_lent : 1024 ≤ symbols
  pub rules_lent : 1024 ≤ rules
  pub words_lent : 2 * nodes ≤ words
  pub evals_lent : text / 2 ≤ evals

pub enough : (text nodes tokens rows calls sorts symbols rules words evals : ℕ) → short_by text nodes tokens rows calls sorts symbols rules words evals ≡ false
    → Enough text nodes tokens rows calls sorts symbols rules words evals
enough text nodes tokens rows calls sorts symbols rules words evals e =
    let a = or_parts (ltb tokens text) _ e in
    let b = or_parts (ltb rows text) _ a.1 in
    let c = or_parts (ltb calls (text + 32)) _ b.1 in
    let d = or_parts (ltb sorts 256) _ c.1 in
    let f = or_parts (ltb symbols 1024) _ d.1 in
    let g = or_parts (ltb rules 1024) _ f.1 in
    let h = or_parts (ltb words (2 * nodes)) (ltb evals (text / 2)) g.1 in
    record {
      tokens_lent = ltb-false tokens text a.0;
      rows_lent = ltb-false rows text b.0;
      calls_lent = ltb-false calls (text + 32) c.0;
      sorts_lent = ltb-false sorts 256 d.0;
      symbols_lent = ltb-false symbols 1024 f.0;
      rules_lent = ltb-false rules 1024 g.0;
      words_lent = ltb-false words (2 * nodes) h.0;
      evals_lent = ltb-false evals (text / 2) h.1;
    }
