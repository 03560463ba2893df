-- The nodes of a stored rule, one behind the other: each is a header and as many words as its arity says (docs/STORAGE.md).
use Rattle.std.specs.Prelude.{ℕ, ◌%◌, cond, List, length, nat_le, nat_lt, slice_index}

-- The arity of the node whose header stands at an address; 0 where no word, or no header, stands there.
abbrev pub arity_at : List ℕ → ℕ → ℕ
arity_at words a = cond (nat_le (length words) a) 0 (cond (nat_lt (slice_index words a) 1048576) 0 (slice_index words a % 32))
