-- `meet_back` meets its contract: each reference that the loop reads is the last of those whose terms are not met.
use mathlib.Core.Path.{◌≡◌, sym, subst}
use mathlib.Core.List.{[], ◌∷◌, ◌++◌}
use Prim.Native.Nat.{ℕ, ◌-◌}
use lib.ListN.{length}
use Rattle.std.proofs.lemmas.Iterator.Adapters.{YieldsList-from_rev_slice}
use Rattle.std.proofs.lemmas.Iterator.Consumers.{YieldsList-turn, YieldsList-end}
use Rattle.std.proofs.lemmas.List.{length_push, length-reverse}
use Rattle.meeting.specs.Contract.{term_of, WholeAsked}
use Rattle.meeting.specs.BackLaws.{turn_back}
use Rattle.meeting.proofs.Back.{back_none, back_more}
use native.Mathlib.Omega.{arith}
use Rattle.meeting.proofs.Places.meet_back.Goals as goal

pub loop-reference-init : goal.loop-reference-init
loop-reference-init c =
    let e : length c.args.references.now - 0 ≡ length c.args.references.now = omega arith in
    rw e (back_none (term_of c.args.words.now) c.args.references.now c.args.self.now.places c.args.self.now.count)

pub meet-requires : goal.meet-requires
meet-requires c =
    let references = c.args.references.now in
    let loop = c.loop-reference in
    let t = YieldsList-turn (YieldsList-from_rev_slice {s = c.into_iter-reference-iterator.result} references (cc)) loop.yielded _ loop.yielded_by _ _ _ c.in-Some.is c.next.ensures.steps in
    let b = turn_back references (length loop.yielded) _ t in
    let asked = c.requires (length references - length loop.yielded - 1) (omega (arith, b.0)) in
    let a = (subst (λ (r : ℕ). WholeAsked c.args.words.now r c.args.most c.args.stack.now) (sym b.1) asked).0 in
    record { used = a.used; within = a.within; low = a.low; formed = a.formed; root = a.root; room = omega (arith, a.room) }

pub loop-reference-preserved : goal.loop-reference-preserved
loop-reference-preserved c =
    let loop = c.loop-reference in
    let args = c.args in
    let references = args.references.now in
    let t = YieldsList-turn (YieldsList-from_rev_slice {s = c.into_iter-reference-iterator.result} references (cc)) loop.yielded _ loop.yielded_by _ _ _ c.in-Some.is c.next.ensures.steps in
    let b = turn_back references (length loop.yielded) _ t in
    let k = length references - length loop.yielded in
    let n = length_push loop.yielded c.in-Some.reference in
    let e : length references - length (loop.yielded ++ (c.in-Some.reference ∷ [])) ≡ k - 1 = omega (arith, n) in
    let asked = subst (λ (r : ℕ). WholeAsked args.words.now r args.most args.stack.now) (sym b.1) (c.requires (k - 1) (omega (arith, b.0))) in
    rw e
    (back_more (term_of args.words.now) references args.self.now.places args.self.now.count k (omega (arith, b.0)) (omega arith) _ _ loop.invariant _ _
    (rw b.1 at (c.meet.ensures.recorded asked.1)))

pub returns : goal.returns
returns c =
    let loop = c.loop-reference in
    let references = c.args.references.now in
    let t = YieldsList-end (YieldsList-from_rev_slice {s = c.into_iter-reference-iterator.result} references (cc)) loop.yielded _ loop.yielded_by _ _ c.in-None.is c.next.ensures.steps in
    let e : length references - length loop.yielded ≡ 0 = omega (arith, t.1, length-reverse references) in
    rw e at loop.invariant
