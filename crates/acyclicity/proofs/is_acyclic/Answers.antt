-- `is_acyclic` meets its contract: the answer is the search's, and clearing the rows for references restores scratch.
use Prim.Native.Nat.{ℕ, ◌+◌, ◌-◌}
use native.Mathlib.Omega.{arith}
use mathlib.Core.Path.{◌≡◌, ap₂, ◌∙◌}
use mathlib.Core.List.{[], ◌∷◌, ◌++◌}
use lib.ListN.{length, take, drop}
use Rattle.std.proofs.Common.{◌≤◌, min, length-take}
use Rattle.std.proofs.lemmas.List.Edits.{length-between}
use Rattle.arena.specs.Rows.{pair_is}
use Rattle.acyclicity.proofs.Clearing.{cleared_part, overwritten, restored}
use Rattle.acyclicity.proofs.is_acyclic.Goals as goal

pub returns : goal.returns
returns c =
    let args = c.args in
    let search = c.search-answer in
    let stored = c.requires.stored in
    let zeros = c.fill.ensures.after (λ y h. pair_is y h.long ∙ ap₂ (λ (x z : ℕ). x ∷ z ∷ []) (h.at 0 0 0 (omega arith)) (h.at 1 0 0 (omega arith))) in
    let zeros2 = c.fill-2.ensures.after (λ y h. pair_is y h.long ∙ ap₂ (λ (x z : ℕ). x ∷ z ∷ []) (h.at 0 0 0 (omega arith)) (h.at 1 0 0 (omega arith))) in
    let n : length search.new.scratch ≡ length args.scratch.now = search.ensures.long in
    let room : args.terms.room + args.terms.used ≤ length args.scratch.now = c.requires.long in
    let few : args.terms.variables ≤ args.terms.room = stored.few in
    let k : length (take args.terms.variables search.new.scratch) ≡ args.terms.variables - 0 = length-take args.terms.variables search.new.scratch ∙ (let m : min args.terms.variables (length search.new.scratch) ≡ args.terms.variables - 0 = omega arith in m) in
    let first = cleared_part search.new.scratch c.fill.new.self 0 args.terms.variables _ (omega arith) (omega arith) k zeros in
    let l : args.terms.room + args.terms.used ≤ length (c.fill.new.self ++ drop args.terms.variables search.new.scratch) = let m = first.long in omega arith in
    let k2 = length-between (c.fill.new.self ++ drop args.terms.variables search.new.scratch) args.terms.room (args.terms.room + args.terms.used) l in
    let second = cleared_part (c.fill.new.self ++ drop args.terms.variables search.new.scratch) c.fill-2.new.self args.terms.room (args.terms.room + args.terms.used) _ (omega arith) l k2 zeros2 in
    record {
      accepted = search.ensures.accepted;
      refused = search.ensures.refused;
      restored = overwritten (c.fill.new.self ++ drop args.terms.variables search.new.scratch) c.fill-2.new.self args.terms.room (args.terms.room + args.terms.used) _ (omega arith) l k2 zeros2
          ∙ restored c.requires (λ a b. c.told-scratch a (omega arith)) search.ensures first second;
    }
