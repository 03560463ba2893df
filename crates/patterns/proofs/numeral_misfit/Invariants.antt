-- `numeral_misfit` meets its contract. The loop's invariant: what is left is refused for the same.
use mathlib.Core.Path.{◌≡◌}
use mathlib.Core.List.{List}
use Prim.Native.Nat.{ℕ, ◌-◌}
use Rattle.names.specs.Symbols.{row_at, symbol_of}
use Rattle.patterns.specs.Promises.{refusal}
use Rattle.patterns.proofs.numeral_misfit.Given as goal

abbrev pub invariant-loop-k : goal.invariant-loop-k
invariant-loop-k l = (text : List ℕ) → refusal (symbol_of text (row_at l.symbols l.succ)) (symbol_of text (row_at l.symbols l.zero)) l.n l.want l.room ≡ refusal (symbol_of text (row_at l.symbols l.succ)) (symbol_of text (row_at l.symbols l.zero)) (l.n - l._k) l.s l.m
