-- The rules of a signature as an attempt takes them from their rows (docs/STORAGE.md, "A rule's row").
use Rattle.std.specs.Prelude.{ℕ, ◌+◌, ◌≤◌, ◌<◌, ◌≡◌, List, length, get_or, Result}
use Rattle.refusals.specs.declared.Refusal.{Refusal}
use Rattle.arena.specs.Cells.{headers}
use Rattle.arena.specs.Copies.{pattern_room, term_room, Movable}
use Rattle.arena.specs.Rows.{Rows}
use Rattle.names.specs.Symbols.{column, row_at}
use Rattle.rules.specs.StoredRows.{heads_in, places_in, stored_in}
use Rattle.attempts.specs.Promises.{Asked, Attempted}
use Rattle.attempts.specs.declared.Tried.{Tried}
use Rattle.search_machine.specs.declared.frames.Frame.{Frame}

-- What an attempt with rule r asks: the rule's row is there, with at most 16 premises and 64 variables, and what it says is what `try_rule`
-- asks.
pub record RowAsked (most limit : ℕ) (pattern : List ℕ) (rules : Rows) (words : List ℕ) (rows links marks stack : Rows)
    (counter used bound goal r : ℕ) : Type 0 where
  pub known : r < length rules
  pub premises : column (row_at rules r) 4 ≤ 16
  pub variables : column (row_at rules r) 3 ≤ 64
  pub asked : Asked most limit pattern (heads_in (row_at rules r)) (places_in (row_at rules r))
      (stored_in (row_at rules r)) words rows links marks stack counter used bound goal

-- What an attempt answers.
abbrev pub Attempt : Type 0
Attempt = Result Tried Refusal

-- What it leaves is what `try_rule` leaves.
abbrev pub RowTried : ℕ → ℕ → List ℕ → Rows → List ℕ → List ℕ → Rows → Rows → Rows → Rows → Rows → Rows → Rows → Rows → ℕ → ℕ → ℕ → ℕ → ℕ
    → Attempt → Type 0
RowTried most limit pattern rules words words' rows rows' links links' marks marks' stack stack' counter used bound goal r answer =
    Attempted most limit pattern (heads_in (row_at rules r)) (places_in (row_at rules r))
    (stored_in (row_at rules r)) words words' rows rows' links links' marks marks' stack stack' counter used bound goal answer

-- What the reference of a premise asks, so that no sum is too large: the row is there with so few variables, and the reference that comes
-- of it is below the headers.
pub record PremiseAsked (rules : Rows) (x : Frame) (k : ℕ) : Type 0 where
  pub known : x.rule < length rules
  pub place : k < 16
  pub variables : column (row_at rules x.rule) 3 ≤ 64
  pub premise : get_or (heads_in (row_at rules x.rule)) k 0 ≡ column (row_at rules x.rule) (10 + k)
  pub first : pattern_room + column (row_at rules x.rule) 6 ≤ headers
  pub used : x.used ≤ headers
  pub head : column (row_at rules x.rule) 8 ≤ headers
  pub movable : Movable (places_in (row_at rules x.rule)) x.counter (pattern_room + column (row_at rules x.rule) 6)
      (term_room + (x.used + column (row_at rules x.rule) 8)) (column (row_at rules x.rule) (10 + k))
