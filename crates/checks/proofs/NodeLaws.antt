-- A node in form, by what is told of its arguments as one part of the words.
use Prim.Native.Nat.{ℕ, suc, ◌+◌, ◌≤◌, ◌<◌}
use native.Mathlib.Omega.{arith}
use mathlib.Core.Path.{◌≡◌, ap, sym, ◌∙◌, subst}
use mathlib.Core.List.{List}
use lib.ListN.{length}
use Rattle.arena.specs.Cells.{headers, cells, arity_of, Reference}
use Rattle.arena.specs.Arguments.{arguments_in, arguments_long, argument_in}
use Rattle.checks.specs.Ready.{NodeFormed}

module _ (N : ℕ) (w : List ℕ) (variables used a : ℕ) (fits : a + arity_of (cells w a) < used) (lent : used ≤ length w) where
  -- Each argument of the part is in form.
  abbrev EachFormed : Type 0
  EachFormed = (k : ℕ) → k < length (arguments_in w a) → Reference N (cells w) variables a (cells (arguments_in w a) k)

  long : length (arguments_in w a) ≡ arity_of (cells w a)
  long = arguments_long w a (omega arith)

  is : (k : ℕ) → k < arity_of (cells w a) → cells (arguments_in w a) k ≡ cells w (a + suc k)
  is k l = let d : suc a + k ≡ a + suc k = omega arith in argument_in w a k l ∙ ap (cells w) d

  pub node_formed : EachFormed → NodeFormed N (cells w) variables used a
  node_formed f = record { fits = λ h. fits; arguments = λ i h l. subst (Reference N (cells w) variables a) (is i l) (f i (rw long l)) }

  pub node_arguments : headers ≤ cells w a → NodeFormed N (cells w) variables used a → EachFormed
  node_arguments h f k l = let m = rw long at l in subst (Reference N (cells w) variables a) (sym (is k m)) (f.arguments k h m)
