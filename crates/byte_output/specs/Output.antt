-- Bytes written into a buffer, and numbers in decimal.
use Rattle.std.specs.Prelude.{ℕ, ◌+◌, ◌≡◌, List, length}
use Rattle.std.proofs.lemmas.List.Edits.{sets}
use Rattle.names.specs.Names.{digits}
use Rattle.byte_output.specs.declared.output.Output.{Output}

-- A number of 32 bits in decimal: at most ten digits, and no leading zero.
abbrev pub numeral : ℕ → List ℕ
numeral n = digits 9 n

-- The bytes stand in the buffer from a place on, the rest is as it was, and the answer is the place behind them.
pub record Written (out : List ℕ) (at : ℕ) (bytes : List ℕ) (next : ℕ) (out' : List ℕ) : Type 0 where
  pub buffer : out' ≡ sets out at bytes
  pub place : next ≡ at + length bytes

-- The bytes are written behind what was written, into the same buffer.
pub record IsWritten (o o' : Output) (bytes : List ℕ) : Type 0 where
  pub written : Written o.bytes.now o.at bytes o'.at o'.bytes.now
  pub lent : o'.bytes.ghost_name ≡ o.bytes.ghost_name
