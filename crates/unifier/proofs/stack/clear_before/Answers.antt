-- `clear_before` meets its contract.
use native.Mathlib.Omega.{arith}
use mathlib.Core.Path.{◌≡◌, ap, ap₂, ◌∙◌}
use mathlib.Core.List.{[], ◌∷◌}
use Prim.Native.Nat.{ℕ}
use lib.ListN.{length, take, get_or}
use Rattle.std.proofs.Common.{min, length-take}
use Rattle.unifier.specs.Ending.{triple_is, cleared_front}
use Rattle.unifier.proofs.stack.clear_before.Goals as goal

pub returns : goal.returns
returns c =
    let k : length (take c.args.d c.args.s.now) ≡ c.args.d = length-take c.args.d c.args.s.now ∙ (let m : min c.args.d (length c.args.s.now) ≡ c.args.d = omega arith in m) in
    cleared_front c.args.s.now c.fill.new.self c.args.d _ c.requires k
    (c.fill.ensures.after (λ y h. triple_is y h.long ∙ (ap₂ (λ (x f : ℕ). x ∷ f ∷ get_or y 2 0 ∷ []) (h.at 0 0 0 (omega arith)) (h.at 1 0 0 (omega arith)) ∙ ap (λ (z : ℕ). 0 ∷ 0 ∷ z ∷ []) (h.at 2 0 0 (omega arith)))))
