-- The form of stored words (document 01, refusal 1): nodes one after another, each a header of a known symbol with that symbol's own arity, at most 16,
-- and then its arguments, each a variable or an earlier node. It is a test that computes, by one pass over the words.
use Rattle.std.specs.Prelude.{ℕ, zero, suc, ◌+◌, ◌-◌, Bool, true, false, ◌&&◌, not, cond, List, [], ◌∷◌, get_or, length}
use Rattle.std.proofs.Math.Seq.{slice}
use Rattle.terms.specs.Numbers.{same, less}
use Rattle.arena.specs.Cells.{headers, symbol_of, arity_of}

-- The most inputs that a symbol has.
abbrev pub inputs : ℕ
inputs = 16

-- Is the word a header: of a symbol that the list of arities has, with its arity, and that at most 16?
unfoldable pub is_header : List ℕ → ℕ → Bool
is_header arities h =
    not (less h headers) && (less (symbol_of h) (length arities) && (same (arity_of h) (get_or arities (symbol_of h) 0) && not (less inputs (arity_of h))))

-- What an argument is tested against.
pub record Place : Type 0 where
  -- the words
  pub words : List ℕ
  -- the room for variables: references from it on are nodes
  pub room : ℕ
  -- how many variables there are
  pub variables : ℕ
  -- the address from which nodes may be arguments
  pub from : ℕ

-- May the word be an argument of the node at the address a: a variable that there is, or a node at an address from `from` on and below a?
unfoldable pub is_argument : Place → ℕ → ℕ → Bool
is_argument p a r =
    cond (less r p.room) (less r p.variables)
    (not (less r (p.room + p.from)) && (less r (p.room + a) && not (less (get_or p.words (r - p.room) 0) headers)))

-- The words that are left, from the address `at` on, when `left` arguments of the node at the address `node` are still to come.
abbrev pub nodes : Place → List ℕ → List ℕ → ℕ → ℕ → ℕ → Bool
nodes p arities [] at node zero = true
nodes p arities [] at node (suc left) = false
nodes p arities (x ∷ rest) at node zero = is_header arities x && nodes p arities rest (suc at) at (arity_of x)
nodes p arities (x ∷ rest) at node (suc left) = is_argument p node x && nodes p arities rest (suc at) node left

-- Are the words from the address `from` up to `to` in form?
unfoldable pub in_form : List ℕ → ℕ → ℕ → ℕ → ℕ → List ℕ → Bool
in_form words from to room variables arities =
    nodes (record { words = words; room = room; variables = variables; from = from }) arities (slice from to words) from from 0
