-- The ways out of a step of a walk: which piece comes first, and what is left behind it.
use Rattle.std.specs.Prelude.{ℕ, suc, ◌+◌, ◌-◌, ◌≤◌, ◌<◌, ◌≡◌, List, [], ◌∷◌, ◌++◌, length, set, Some}
use Rattle.std.specs.Option.{ForSome}
use Rattle.std.proofs.Common.{arith, subst, ap, add-one}
use Rattle.terms.specs.Term.{app, Term}
use Rattle.arena.specs.Cells.{Cells, cells, symbol_of, arity_of, args, Reference}
use Rattle.arena.specs.Rows.{Rows, column}
use Rattle.bindings.specs.Promises.{Walked}
use Rattle.printing.specs.Stored.{Printable, term_in, prints_variable, prints_node}
use Rattle.printing.specs.Pieces.{pieces}
use Rattle.printing.specs.OpenNodes.{References, OpenRows, open_pieces, open_enter, open_next, rows_put, node_references, first_reference, other_references}
use Rattle.printing.specs.declared.printed.PrintedTerms.{PrintedTerms}
use Rattle.printing.specs.declared.pieces.Piece.{Piece}
use Rattle.printing.specs.declared.pieces.Piece.TheVariants.{Variable, Constant, Open, Space}

-- A reference prints a node: its symbol is known, and its arguments stand from an address on.
pub record AtNode (p : PrintedTerms) (reference symbol address arity : ℕ) : Type 0 where
  pub prints : term_in p reference ≡ app symbol (args (term_in p) (cells p.terms.words.now) address arity)
  pub known : symbol < length p.symbols.now
  pub arguments : References p.terms.room p.terms.words.now p.terms.variables p.terms.used address arity

module _ {p : PrintedTerms} {r q : ℕ} (printable : Printable p)
    (walked : Walked p.terms.room p.terms.words.now p.bindings.rows.now p.terms.variables p.terms.used p.bindings.bound r q) where
  -- The bindings end at an unbound variable,
  pub enters_variable : (ps : List Piece) → q < p.terms.room → pieces (term_in p r) ++ ps ≡ Variable q ∷ ps
  enters_variable ps l = ap (λ (t : Term). pieces t ++ ps) (prints_variable printable.form walked l)

  -- or at a node, whose header gives a symbol and an arity.
  pub at_node : {header symbol arity : ℕ} → p.terms.room ≤ q → header ≡ cells p.terms.words.now (q - p.terms.room) → symbol ≡ symbol_of header
      → arity ≡ arity_of header → AtNode p r symbol (q - p.terms.room + 1) arity
  at_node l h s a = rw (add-one (q - p.terms.room), s, a, h) (record {
    prints = prints_node printable.form walked l;
    known = printable.known (q - p.terms.room) (let u = walked.in_form.node l in omega arith) (walked.in_form.header l);
    arguments = node_references printable.form.lent_words printable.form.words q walked.in_form l;
  })

module _ {p : PrintedTerms} {r symbol address arity : ℕ} (n : AtNode p r symbol address arity) where
  -- The node has no arguments,
  pub enters_constant : (ps : List Piece) → arity ≡ 0 → pieces (term_in p r) ++ ps ≡ Constant symbol ∷ ps
  enters_constant ps z = rw (n.prints, z)

  -- or some, which are left behind its name.
  module _ (rows : Rows) (d : ℕ) (m : d < length rows) where
    pub enters_node : 0 < arity
        → pieces (term_in p r) ++ open_pieces (term_in p) (cells p.terms.words.now) rows d
        ≡ Open symbol ∷ open_pieces (term_in p) (cells p.terms.words.now) (set rows d (address ∷ arity ∷ [])) (d + 1)
    enters_node z = rw (n.prints, add-one d) (open_enter (term_in p) (cells p.terms.words.now) rows d address arity symbol m z)

    pub node_rows : OpenRows p.terms.room p.terms.words.now p.terms.variables p.terms.used rows d
        → OpenRows p.terms.room p.terms.words.now p.terms.variables p.terms.used (set rows d (address ∷ arity ∷ [])) (d + 1)
    node_rows o = rw (add-one d) (rows_put rows d address arity m o n.arguments)

-- The innermost open node has an argument left.
module _ (rows : Rows) {depth top left : ℕ} (e : depth ≡ suc top) (m : depth ≤ length rows) (n : column 1 rows top ≡ suc left) where
  pub goes_on : (g : ℕ → Term) (w : Cells)
      → open_pieces g w rows depth
      ≡ Space ∷ (pieces (g (w (column 0 rows top))) ++ open_pieces g w (set rows top ((column 0 rows top + 1) ∷ left ∷ [])) depth)
  goes_on g w = rw (add-one (column 0 rows top), e) (open_next g w rows top left (omega arith) n)

  module _ {room : ℕ} {words : List ℕ} {variables used : ℕ} (o : OpenRows room words variables used rows depth) where
    innermost : References room words variables used (column 0 rows top) (suc left)
    innermost = let r : References room words variables used (column 0 rows top) (column 1 rows top) = o top (omega arith) in rw n at r

    -- It is a reference,
    pub next_ahead : ForSome (Some (cells words (column 0 rows top))) (Reference room (cells words) variables used)
    next_ahead r q = subst (Reference room (cells words) variables used) (cc) (first_reference (column 0 rows top) left innermost)

    -- and so are those behind it.
    pub next_rows : OpenRows room words variables used (set rows top ((column 0 rows top + 1) ∷ left ∷ [])) depth
    next_rows =
        rw (add-one (column 0 rows top), e)
        (rows_put rows top (suc (column 0 rows top)) left (omega arith) (λ i l. o i (omega arith))
        (other_references (column 0 rows top) left innermost))
