-- Laws of the arguments of a node: there are as many terms as references are read, and one more reference is one more term behind the others.
use Rattle.std.specs.Prelude.{ℕ, zero, suc, ◌+◌, ◌≡◌, refl}
use Rattle.std.proofs.Common.{arith, ap}
use Rattle.terms.specs.Term.{Term, nil, cons, count, append}
use Rattle.arena.specs.Cells.{Cells, args}

pub count_args : (g : ℕ → Term) (w : Cells) (p n : ℕ) → count (args g w p n) ≡ n
count_args g w p zero = refl
count_args g w p (suc n) = ap suc (count_args g w (suc p) n)

pub args_more : (g : ℕ → Term) (w : Cells) (p n : ℕ) → args g w p (suc n) ≡ append (args g w p n) (cons (g (w (p + n))) nil)
args_more g w p zero = let e : p + 0 ≡ p = omega arith in rw e
args_more g w p (suc n) = let e : suc p + n ≡ p + suc n = omega arith in ap (cons (g (w p))) (rw e at (args_more g w (suc p) n))
