-- The pieces of a term are its bytes and its nodes.
use Rattle.std.specs.Prelude.{ℕ, ◌+◌, ◌≡◌, refl, List, [], ◌∷◌, ◌++◌}
use Rattle.std.proofs.Common.{arith, sym, ap, ◌∙◌, append_assoc, append-nil}
use Rattle.terms.specs.Term.{Kind, Syn, var, app, nil, cons}
use Rattle.names.specs.Symbols.{Symbol, symbol_at}
use Rattle.printing.specs.Terms.{closing, head_bytes, constant_bytes, variable_bytes, term_bytes, printed_nodes}
use Rattle.printing.specs.Pieces.{pieces, piece_bytes, pieces_bytes, pieces_nodes}
use Rattle.printing.specs.declared.pieces.Piece.{Piece}
use Rattle.printing.specs.declared.pieces.Piece.TheVariants.{Close}

-- Pieces behind pieces.
pub bytes_append : (symbols : List Symbol) (ps qs : List Piece) → pieces_bytes symbols (ps ++ qs) ≡ pieces_bytes symbols ps ++ pieces_bytes symbols qs
bytes_append symbols [] qs = refl
bytes_append symbols (p ∷ ps) qs =
    ap (λ (l : List ℕ). piece_bytes symbols p ++ l) (bytes_append symbols ps qs)
    ∙ sym (append_assoc (piece_bytes symbols p) (pieces_bytes symbols ps) (pieces_bytes symbols qs))

pub nodes_append : (ps qs : List Piece) → pieces_nodes (ps ++ qs) ≡ pieces_nodes ps + pieces_nodes qs
nodes_append [] qs = omega arith
nodes_append (p ∷ ps) qs = let h = nodes_append ps qs in omega arith

-- The bytes of the pieces are the term's,
pub bytes_of_pieces : {s : Kind} (symbols : List Symbol) (t : Syn s) → pieces_bytes symbols (pieces t) ≡ term_bytes symbols t
bytes_of_pieces symbols (var x) = append-nil (variable_bytes x)
bytes_of_pieces symbols (app f nil) = append-nil (constant_bytes (symbol_at symbols f))
bytes_of_pieces symbols (app f (cons t ts)) =
    ap (λ (l : List ℕ). head_bytes (symbol_at symbols f) ++ l)
    (bytes_append symbols (pieces (cons t ts)) (Close ∷ []) ∙ ap (λ (l : List ℕ). l ++ (closing ∷ [])) (bytes_of_pieces symbols (cons t ts)))
bytes_of_pieces symbols nil = refl
bytes_of_pieces symbols (cons t ts) =
    ap (λ (l : List ℕ). 32 ∷ l)
    (bytes_append symbols (pieces t) (pieces ts)
    ∙ ap (λ (l : List ℕ). l ++ pieces_bytes symbols (pieces ts)) (bytes_of_pieces symbols t)
    ∙ ap (λ (l : List ℕ). term_bytes symbols t ++ l) (bytes_of_pieces symbols ts))

-- and so are their nodes.
pub nodes_of_pieces : {s : Kind} (t : Syn s) → pieces_nodes (pieces t) ≡ printed_nodes t
nodes_of_pieces (var x) = refl
nodes_of_pieces (app f nil) = refl
nodes_of_pieces (app f (cons t ts)) =
    let h = nodes_append (pieces (cons t ts)) (Close ∷ []) in
    let i = nodes_of_pieces (cons t ts) in
    omega arith
nodes_of_pieces nil = refl
nodes_of_pieces (cons t ts) =
    let h = nodes_append (pieces t) (pieces ts) in
    let i = nodes_of_pieces t in
    let j = nodes_of_pieces ts in
    omega arith
