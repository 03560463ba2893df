-- The arguments of a node as one part of the words, behind its header.
use Rattle.std.specs.Prelude.{ℕ, suc, ◌+◌, ◌<◌, ◌≡◌, List, length, take, drop}
use Rattle.std.proofs.Common.{arith, ◌∙◌}
use lib.ListN.{length-drop}
use lib.Seq.{get_or-take, get_or-drop, length-take-le}
use Rattle.arena.specs.Cells.{cells, arity_of}

-- The words behind the address a, as many as the node there has arguments.
abbrev pub arguments_in : List ℕ → ℕ → List ℕ
arguments_in words a = take (arity_of (cells words a)) (drop (suc a) words)

-- They are as many as the header says, where the words hold them all.
pub arguments_long : (w : List ℕ) (a : ℕ) → a + arity_of (cells w a) < length w → length (arguments_in w a) ≡ arity_of (cells w a)
arguments_long w a l = let d = length-drop (suc a) w in length-take-le (arity_of (cells w a)) (drop (suc a) w) (omega arith)

-- Argument i is the word i places behind the first.
pub argument_in : (w : List ℕ) (a i : ℕ) → i < arity_of (cells w a) → cells (arguments_in w a) i ≡ cells w (suc a + i)
argument_in w a i l = get_or-take (arity_of (cells w a)) (drop (suc a) w) i 0 l ∙ get_or-drop (suc a) w i 0
