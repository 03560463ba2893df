-- A printed term in pieces, from left to right: each name with what stands in front of it, each space and each closing parenthesis.
use Rattle.std.specs.Prelude.{ℕ, ◌+◌, ◌<◌, List, [], ◌∷◌, ◌++◌}
use Rattle.terms.specs.Term.{Kind, Syn, var, app, nil, cons}
use Rattle.names.specs.Symbols.{Symbol, symbol_at}
use Rattle.printing.specs.Terms.{space, closing, variable_bytes, head_bytes, constant_bytes}
use Rattle.printing.specs.declared.pieces.Piece.{Piece}
use Rattle.printing.specs.declared.pieces.Piece.TheVariants.{Variable, Constant, Open, Space, Close}

-- The pieces of a term; of arguments, each behind a space.
abbrev pub pieces : {s : Kind} → Syn s → List Piece
pieces (var x) = Variable x ∷ []
pieces (app f nil) = Constant f ∷ []
pieces (app f (cons t ts)) = Open f ∷ (pieces (cons t ts) ++ (Close ∷ []))
pieces nil = []
pieces (cons t ts) = Space ∷ (pieces t ++ pieces ts)

-- The bytes of a piece,
abbrev pub piece_bytes : List Symbol → Piece → List ℕ
piece_bytes symbols (Variable x) = variable_bytes x
piece_bytes symbols (Constant f) = constant_bytes (symbol_at symbols f)
piece_bytes symbols (Open f) = head_bytes (symbol_at symbols f)
piece_bytes symbols Space = space ∷ []
piece_bytes symbols Close = closing ∷ []

-- and of several.
abbrev pub pieces_bytes : List Symbol → List Piece → List ℕ
pieces_bytes symbols [] = []
pieces_bytes symbols (p ∷ ps) = piece_bytes symbols p ++ pieces_bytes symbols ps

-- How many nodes a piece prints, and several.
abbrev pub piece_nodes : Piece → ℕ
piece_nodes (Variable x) = 1
piece_nodes (Constant f) = 1
piece_nodes (Open f) = 1
piece_nodes Space = 0
piece_nodes Close = 0

abbrev pub pieces_nodes : List Piece → ℕ
pieces_nodes [] = 0
pieces_nodes (p ∷ ps) = piece_nodes p + pieces_nodes ps

-- A piece's symbol is one of so many.
abbrev pub PieceKnown : ℕ → Piece → Type 0
PieceKnown n (Variable x) = Unit {0}
PieceKnown n (Constant f) = f < n
PieceKnown n (Open f) = f < n
PieceKnown n Space = Unit {0}
PieceKnown n Close = Unit {0}
