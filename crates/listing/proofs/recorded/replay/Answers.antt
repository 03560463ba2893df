-- `replay` meets its contract: a text is handed on before those that are left, and behind the end there is none.
use mathlib.Core.Path.{refl}
use mathlib.Core.List.{[], ◌∷◌}
use Prim.Native.Nat.{◌≤◌}
use denote.Param.Always.{mut_next}
use Rattle.listing.specs.Recorded.{end_of}
use native.Mathlib.Omega.{arith}
use Rattle.listing.proofs.recorded.replay.Goals as goal

pub loop-at-smaller : goal.loop-at-smaller
loop-at-smaller g c =
    let test = c.loop-at-test.true in
    let moves = c.requires.reads.moves c.loop-at.at c.read-text.result (let e = c.end-end.ensures in omega arith) (c.args.list, refl, c.read-text.ensures) in
    omega arith

pub loop-at-preserved : goal.loop-at-preserved
loop-at-preserved g c =
    let test = c.loop-at-test.true in
    let moves = c.requires.reads.moves c.loop-at.at c.read-text.result (let e = c.end-end.ensures in omega arith) (c.args.list, refl, c.read-text.ensures) in (
      mut_next _ _ _ _ _ _ c.each.ensures refl c.loop-at.invariant.0,
      omega arith,
      λ texts last left ran. c.loop-at.invariant.2 (c.read-text.result ∷ texts) last (omega (arith, c.end-end.ensures), (c.args.list, refl, c.read-text.ensures), left) (c.each.new.self, record { shown = c.word.result; shows = c.word.ensures; called = c.each.ensures }, ran),
    )

pub returns : goal.returns
returns g c = let end : end_of c.args.list.now ≤ c.loop-at.at = (let e = c.end-end.ensures in omega (arith, c.loop-at-test.false)) in c.loop-at.invariant.2 [] c.loop-at.each end refl
