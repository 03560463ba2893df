-- The nodes of a stored term: each is a header and as many words as its arity says (docs/STORAGE.md, "Stored terms").
use Rattle.std.specs.Prelude.{ℕ, ◌-◌, ◌/◌, ◌%◌, cond, List, ltb, get_or, Option, None, Some}
use Rattle.evaluation_listing_kit.specs.declared.prefix.Node.{Node}

-- The node of a header.
abbrev pub node_of : ℕ → Node
node_of header = record { symbol = (header - 1048576) / 32; arity = header % 32 }

-- The node at an address; none where no word, or no header, stands there.
abbrev pub node_at : List ℕ → ℕ → Option Node
node_at words a = cond (ltb (get_or words a 0) 1048576) None (Some (node_of (get_or words a 0)))
