-- The turns of the loops over the pieces of a walk: what is done and what is left is the whole.
use Rattle.std.specs.Prelude.{ℕ, ◌+◌, ◌≤◌, ◌<◌, ◌≡◌, refl, List, [], ◌∷◌, ◌++◌, length, Some, None}
use Rattle.std.proofs.Common.{arith, sym, ap, ◌∙◌, append_assoc, append-nil, length-append}
use Rattle.byte_output.specs.Output.{IsWritten}
use Rattle.byte_output.specs.OutputLaws.{written_on, said_as, length_kept}
use Rattle.byte_output.specs.declared.output.Output.{Output}
use Rattle.terms.specs.Term.{Term}
use Rattle.names.specs.Symbols.{Symbol}
use Rattle.printing.specs.PieceLaws.{bytes_of_pieces, nodes_of_pieces}
use Rattle.printing.specs.Terms.{most_nodes, term_bytes, printed_nodes}
use Rattle.printing.specs.Pieces.{pieces, piece_bytes, pieces_bytes, pieces_nodes}
use Rattle.printing.specs.Walking.{pieces_left, Started, Stepped}
use Rattle.arena.specs.Rows.{Rows}
use Rattle.printing.specs.Stored.{term_in}
use Rattle.printing.specs.Written.{symbols_in}
use Rattle.printing.specs.declared.pieces.Piece.{Piece}
use Rattle.printing.specs.declared.printed.PrintedTerms.{PrintedTerms}
use Rattle.printing.specs.declared.walk.Walk.{Walk}

-- The pieces of a term with nothing behind them.
whole_bytes : (symbols : List Symbol) (t : Term) → pieces_bytes symbols (pieces t ++ []) ≡ term_bytes symbols t
whole_bytes symbols t = ap (pieces_bytes symbols) (append-nil (pieces t)) ∙ bytes_of_pieces symbols t

whole_nodes : (t : Term) → pieces_nodes (pieces t ++ []) ≡ printed_nodes t
whole_nodes t = ap pieces_nodes (append-nil (pieces t)) ∙ nodes_of_pieces t

-- What holds at each turn of writing a term.
pub record Writing (p : PrintedTerms) (t : Term) (w : Walk) (o₀ o : Output) : Type 0 where
  pub printed : w.printed ≡ p
  pub deep : w.depth + pieces_nodes (pieces_left w) < length w.stack.now
  pub done : List ℕ
  pub written : IsWritten o₀ o done
  pub whole : done ++ pieces_bytes (symbols_in w.printed) (pieces_left w) ≡ term_bytes (symbols_in p) t

-- At the start, the term comes next.
pub nothing_yet : {p : PrintedTerms} {r : ℕ} {stack : Rows} {w : Walk} (o : Output) → Started p r stack w → printed_nodes (term_in p r) < length stack
    → Writing p (term_in p r) w o o
nothing_yet {p} {r} {w = w} o s l = record {
  printed = s.printed;
  deep = let n = ap pieces_nodes s.left ∙ whole_nodes (term_in p r) in let d = s.depth in let k = ap length s.rows in omega arith;
  done = [];
  written = record { written = record { buffer = refl; place = omega arith }; lent = refl };
  whole =
      ap (λ (q : PrintedTerms). pieces_bytes (symbols_in q) (pieces_left w)) s.printed ∙ ap (pieces_bytes (symbols_in p)) s.left
      ∙ whole_bytes (symbols_in p) (term_in p r);
}

module _ {p : PrintedTerms} {t : Term} {w w' : Walk} {o₀ o : Output} {piece : Piece} (h : Writing p t w o₀ o) (s : Stepped w w' (Some piece)) where
  split : (h.done ++ piece_bytes (symbols_in w'.printed) piece) ++ pieces_bytes (symbols_in w'.printed) (pieces_left w') ≡ term_bytes (symbols_in p) t
  split =
      append_assoc h.done (piece_bytes (symbols_in w'.printed) piece) (pieces_bytes (symbols_in w'.printed) (pieces_left w'))
      ∙ ap (λ (q : PrintedTerms). h.done ++ pieces_bytes (symbols_in q) (piece ∷ pieces_left w')) s.same.printed
      ∙ ap (λ (ps : List Piece). h.done ++ pieces_bytes (symbols_in w.printed) ps) (sym s.left)
      ∙ h.whole

  -- There is room for the piece that is next,
  pub piece_room : o₀.at + length (term_bytes (symbols_in p) t) ≤ length o₀.bytes.now
      → o.at + length (piece_bytes (symbols_in w'.printed) piece) ≤ length o.bytes.now
  piece_room r =
      let e = ap length split in
      let a = length-append (h.done ++ piece_bytes (symbols_in w'.printed) piece) (pieces_bytes (symbols_in w'.printed) (pieces_left w')) in
      let b = length-append h.done (piece_bytes (symbols_in w'.printed) piece) in
      let k = length_kept h.written in
      let q = h.written.written.place in
      omega arith

  -- and it is written behind those that were.
  pub next_written : {o' : Output} → IsWritten o o' (piece_bytes (symbols_in w'.printed) piece) → Writing p t w' o₀ o'
  next_written v = record {
    printed = s.same.printed ∙ h.printed;
    deep = let e = ap pieces_nodes s.left in let d = h.deep in let l = s.same.long in let r = s.reached.deep in omega arith;
    done = h.done ++ piece_bytes (symbols_in w'.printed) piece;
    written = written_on h.written v;
    whole = split;
  }

-- No piece is left: the term is written.
pub all_written : {p : PrintedTerms} {t : Term} {w w' : Walk} {o₀ o : Output} → Writing p t w o₀ o → Stepped w w' None → IsWritten o₀ o (term_bytes (symbols_in p) t)
all_written {w = w} h s =
    said_as h.written (sym (append-nil h.done) ∙ ap (λ (ps : List Piece). h.done ++ pieces_bytes (symbols_in w.printed) ps) (sym s.left) ∙ h.whole)

-- What holds at each turn of counting a term's nodes: so many more may come.
pub record Counting (p : PrintedTerms) (t : Term) (w : Walk) (left : ℕ) : Type 0 where
  pub printed : w.printed ≡ p
  pub deep : w.depth + left < length w.stack.now
  pub whole : printed_nodes t + left ≡ most_nodes + pieces_nodes (pieces_left w)

-- At the start, all that are allowed.
pub none_counted : {p : PrintedTerms} {r : ℕ} {stack : Rows} {w : Walk} → Started p r stack w → most_nodes < length stack
    → Counting p (term_in p r) w most_nodes
none_counted {p} {r} s l = record {
  printed = s.printed;
  deep = let d = s.depth in let k = ap length s.rows in omega arith;
  whole = let n = ap pieces_nodes s.left ∙ whole_nodes (term_in p r) in omega arith;
}
