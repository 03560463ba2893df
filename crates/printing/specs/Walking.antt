-- A walk through a printed term: which pieces are left, and what a step promises.
use Rattle.std.specs.Prelude.{ℕ, ◌+◌, ◌≤◌, ◌≡◌, List, [], ◌∷◌, ◌++◌, length, Option, None, Some, IfSome}
use Rattle.arena.specs.Cells.{cells}
use Rattle.arena.specs.Rows.{Rows}
use Rattle.printing.specs.Pieces.{pieces, piece_nodes, PieceKnown}
use Rattle.printing.specs.Stored.{term_in}
use Rattle.printing.specs.OpenNodes.{open_pieces, ahead_pieces}
use Rattle.printing.specs.declared.pieces.Piece.{Piece}
use Rattle.printing.specs.declared.printed.PrintedTerms.{PrintedTerms}
use Rattle.printing.specs.declared.walk.Walk.{Walk}

-- The pieces that are left of the open nodes, and of a term that comes next.
abbrev pub behind : Walk → List Piece
behind w = open_pieces (term_in w.printed) (cells w.printed.terms.words.now) w.stack.now w.depth

abbrev pub pieces_left : Walk → List Piece
pieces_left w = ahead_pieces (term_in w.printed) (cells w.printed.terms.words.now) w.next (behind w)

-- A walk goes on over the same terms, on the same stack.
pub record SameWalk (w w' : Walk) : Type 0 where
  pub printed : w'.printed ≡ w.printed
  pub lent : w'.stack.ghost_name ≡ w.stack.ghost_name
  pub long : length w'.stack.now ≡ length w.stack.now

-- A piece is the first of those left, and the others are left; or none is left.
abbrev pub Yields : Option Piece → List Piece → List Piece → Type 0
Yields None ps ps' = ps ≡ []
Yields (Some p) ps ps' = ps ≡ p ∷ ps'

-- A piece's symbol is known, and it opens a node at most where it prints one.
pub record Reached (w w' : Walk) (p : Piece) : Type 0 where
  pub known : PieceKnown (length w.printed.symbols.now) p
  pub deep : w'.depth ≤ w.depth + piece_nodes p

-- The term of a reference is entered, by its first piece.
pub record Entered (w : Walk) (reference : ℕ) (w' : Walk) (p : Piece) : Type 0 where
  pub same : SameWalk w w'
  pub next : w'.next ≡ w.next
  pub left : pieces (term_in w.printed reference) ++ behind w ≡ p ∷ behind w'
  pub reached : Reached w w' p

-- The innermost open node is gone on with.
pub record WentOn (w w' : Walk) (r : Option Piece) : Type 0 where
  pub same : SameWalk w w'
  pub left : Yields r (behind w) (pieces_left w')
  pub reached : IfSome r (Reached w w')

-- A step is made.
pub record Stepped (w w' : Walk) (r : Option Piece) : Type 0 where
  pub same : SameWalk w w'
  pub left : Yields r (pieces_left w) (pieces_left w')
  pub reached : IfSome r (Reached w w')

-- A walk stands in front of the term of a reference.
pub record Started (p : PrintedTerms) (reference : ℕ) (stack : Rows) (w : Walk) : Type 0 where
  pub printed : w.printed ≡ p
  pub rows : w.stack.now ≡ stack
  pub depth : w.depth ≡ 0
  pub left : pieces_left w ≡ pieces (term_in p reference) ++ []
