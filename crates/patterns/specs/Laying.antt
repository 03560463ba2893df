-- Where a pattern's words go (docs/STORAGE.md, "Stored terms"): each node behind its arguments, from left to right, each once.
use Rattle.std.specs.Prelude.{ℕ, ◌+◌, ◌*◌, List, [], ◌∷◌, ◌++◌, length}
use Rattle.std.proofs.lemmas.List.Edits.{sets}
use Rattle.terms.specs.Term.{Kind, Syn, var, app, nil, cons}
use Rattle.arena.specs.Cells.{headers}
use Rattle.arena.specs.Copies.{pattern_room}

-- References, the words, and how many are used.
pub data Laid : Type 0 where
  laid : List ℕ → List ℕ → ℕ → Laid

abbrev pub header : ℕ → ℕ → ℕ
header f n = headers + 32 * f + n

-- A node behind its arguments.
abbrev pub pushed : ℕ → Laid → Laid
pushed f (laid rs w u) = laid ((pattern_room + u) ∷ []) (sets w u (header f (length rs) ∷ rs)) (u + 1 + length rs)

abbrev pub after : List ℕ → Laid → Laid
after l (laid rs w u) = laid (l ++ rs) w u

abbrev pub and_then : Laid → (List ℕ → ℕ → Laid) → Laid
and_then (laid rs w u) f = after rs (f w u)

-- A pattern's words, from the place u on.
unfoldable pub lay : {k : Kind} → Syn k → List ℕ → ℕ → Laid
lay (var i) w u = laid (i ∷ []) w u
lay (app f ts) w u = pushed f (lay ts w u)
lay nil w u = laid [] w u
lay (cons t ts) w u = and_then (lay t w u) (λ v n. lay ts v n)
