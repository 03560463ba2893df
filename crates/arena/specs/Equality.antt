-- Equality of terms as a test that computes, and the question whether two stored references denote the same term.
use Rattle.std.specs.Prelude.{ℕ, ◌+◌, ◌≤◌, ◌≡◌, Bool, true, false, ◌&&◌, List, length}
use Rattle.terms.specs.Numbers.{same}
use Rattle.terms.specs.Term.{Kind, Syn, var, app, nil, cons}
use Rattle.arena.specs.Cells.{Cells, headers, cells, denote, Reference, WellFormed}

-- Are two terms, or two lists of terms, the same?
abbrev pub alike : {s : Kind} → Syn s → Syn s → Bool
alike (var x) (var y) = same x y
alike (var x) (app g us) = false
alike (app f ts) (var y) = false
alike (app f ts) (app g us) = same f g && alike ts us
alike nil nil = true
alike nil (cons u us) = false
alike (cons t ts) nil = false
alike (cons t ts) (cons u us) = alike t u && alike ts us

-- What comparing asks.
pub record Ready (room : ℕ) (words links : List ℕ) (variables used a b : ℕ) : Type 0 where
  -- the words in use are in form,
  pub formed : WellFormed room (cells words) variables used
  -- all references are below the headers,
  pub small : room + used ≤ headers
  -- the words in use lie in the slice,
  pub words_in_lem : used ≤ length words
  -- there is a link for each address in use,
  pub scratch : used ≤ length links
  -- all links are zero,
  pub zero_before : (i : ℕ) → cells links i ≡ 0
  -- and both references are in form.
  pub left : Reference room (cells words) variables used a
  pub right : Reference room (cells words) variables used b

-- What comparing answers.
pub record Compared (room : ℕ) (words : Cells) (links links' : List ℕ) (a b : ℕ) (answer : Bool) : Type 0 where
  -- whether both references denote the same term,
  pub exact : answer ≡ alike (denote room words a) (denote room words b)
  -- and the links are as they were.
  pub restored : links' ≡ links
