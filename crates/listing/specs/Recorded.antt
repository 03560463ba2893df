-- Recorded lists of texts: for each text a line `LENGTH LIMIT ROWS`, then LENGTH bytes, then a line end.
use Rattle.std.specs.Prelude.{Option, Some, None, ℕ, zero, suc, ◌+◌, ◌*◌, ◌-◌, ◌^◌, ◌≤◌, ◌<◌, ◌≡◌, min, cond, List, [], ◌∷◌, eqb, ltb, get_or, length}
use Rattle.std.specs.Fn.{Shared, Mut, Called}
use Rattle.std.specs.List.{FoldsTo}
use denote.Ref.{Bor}
use Rattle.source_text.specs.Bytes.{within}
use Rattle.source_text.specs.Parts.{part_of}
use Rattle.refusals.specs.declared.Refusal.{Refusal}
use Rattle.refusals.specs.Refusals.{number_of}
use Rattle.words.specs.declared.Limits.{Limits}
use Rattle.listing.specs.declared.recorded.Decimal.{Decimal}
use Rattle.listing.specs.declared.recorded.Recorded.{Recorded}

-- Larger numbers count as this one, and so do places past it.
abbrev pub largest : ℕ
largest = 1048576

-- Where a list ends.
abbrev pub end_of : List ℕ → ℕ
end_of list = min (length list) largest

-- The digit at a place, or 10.
abbrev pub digit_at : List ℕ → ℕ → ℕ
digit_at list at = cond (within 48 57 (get_or list at 0)) (get_or list at 0 - 48) 10

-- Such a digit, if it is one.
abbrev pub read_digit : ℕ → Option ℕ
read_digit d = cond (ltb 9 d) None (Some d)

-- The number at a place, where the digits before it make this value: saturated, with at most k digits more, and the place past the byte
-- that ends it.
unfoldable pub decimal_from : ℕ → List ℕ → ℕ → ℕ → Decimal
decimal_from zero list at value = record { value = value; next = at + 1 }
decimal_from (suc k) list at value =
    cond (ltb 9 (digit_at list at)) (record { value = value; next = at + 1 })
    (decimal_from k list (at + 1) (min (value * 10 + digit_at list at) largest))

-- The number at a place.
abbrev pub decimal_at : List ℕ → ℕ → Decimal
decimal_at list at = decimal_from 20 list at 0

-- The text whose line has these three numbers: it starts past the line, only its bytes are limited, and the next line stands past it and
-- a line end.
abbrev pub recorded_by : Decimal → Decimal → Decimal → Recorded
recorded_by bytes limit lent =
    record {
      start = lent.next;
      length = bytes.value;
      limits = record { text = limit.value; nodes = 0; steps = 0; variables = 0; words = 0 };
      rows = lent.value;
      next = lent.next + bytes.value + 1;
    }

-- The text whose line is at a place.
abbrev pub recorded_at : List ℕ → ℕ → Recorded
recorded_at list at =
    recorded_by (decimal_at list at) (decimal_at list (decimal_at list at).next)
    (decimal_at list (decimal_at list (decimal_at list at).next).next)

-- Its limits, where its number of lent rows limits the nodes.
abbrev pub node_limits : Recorded → Limits
node_limits r =
    record {
      text = r.limits.text;
      nodes = min r.rows 65536;
      steps = r.limits.steps;
      variables = r.limits.variables;
      words = r.limits.words;
    }

-- What each number of a lent buffer is after a refusal: 0xA5A5A5A5, as it was, after refusal 1, else zero.
abbrev pub value_after : Refusal → ℕ
value_after refusal = cond (eqb (number_of refusal) 1) 2779096485 0

-- What a reader may answer for the line at a place of a list.
abbrev pub ReadAt : {R : Type 0} → Shared R (Bor (List ℕ) × (ℕ × Unit {0})) Recorded → List ℕ → R → ℕ → Recorded → Type 0
ReadAt g list read at r = (shown : Bor (List ℕ)) × (shown.now ≡ list) × g.post read (shown, (at, tt)) r

-- A reader may be called at each place of a list, and the next line stands behind, at most 3,000,000 bytes.
pub record Reads {R : Type 0} (g : Shared R (Bor (List ℕ) × (ℕ × Unit {0})) Recorded) (list : List ℕ) (read : R) : Type 0 where
  pub may : (shown : Bor (List ℕ)) (at : ℕ) → shown.now ≡ list → at < 2 ^ 61 → g.pre read (shown, (at, tt))
  pub moves : (at : ℕ) (r : Recorded) → at < 2 ^ 61 → ReadAt g list read at r → (at < r.next) × (r.next ≤ at + 3000000)

module _ {R F : Type 0} (h : Shared R (Bor (List ℕ) × (ℕ × Unit {0})) Recorded) (g : Mut F (Bor (List ℕ) × (Recorded × Unit {0})) (Unit {0})) (list : List ℕ) (read : R) where
  -- The texts of a list from a place on, one behind the other, as a reader reads them.
  abbrev pub Texts : ℕ → List Recorded → Type 0
  Texts at [] = end_of list ≤ at
  Texts at (r ∷ rs) = (at < end_of list) × ReadAt h list read at r × Texts r.next rs

  -- A call at the bytes of a text, and at what the list says of it.
  pub record CalledAtText (f : F) (r : Recorded) (f' : F) : Type 0 where
    pub shown : Bor (List ℕ)
    pub shows : shown.now ≡ part_of list r.start r.length
    pub called : Called g f (shown, (r, tt)) tt f'

  -- Such a call at each text of the list, in order.
  pub record Replayed (f : F) : Type 0 where
    pub texts : List Recorded
    pub last : F
    pub all : Texts 0 texts
    pub ran : FoldsTo CalledAtText f texts last
