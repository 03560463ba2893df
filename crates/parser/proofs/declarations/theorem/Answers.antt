-- `theorem` meets its contract: what is read at each place is said by TheoremLaws.
use mathlib.Core.Path.{refl, ap}
use native.Mathlib.Omega.{arith}
use Rattle.term_parser.specs.Steps.{step}
use Rattle.term_parser.proofs.Readers.{stopped_err, exits, moved}
use Rattle.parser.proofs.PartLaws.{room_along}
use Rattle.parser.proofs.TheoremLaws.{name_stops, after_name, binders_stop, colon_stops, after_colon, judgments_stop, after_judgments, tactic_stops, after_tactic, theorem_ends}
use Rattle.parser.proofs.declarations.theorem.Goals as goal

pub returns-in_err-n : goal.returns-in_err-n
returns-in_err-n c = rw (exits _ _ c.in_err-n.was c.from_residual.ensures.1) (name_stops c.args.line c.args.input.text.now c.args.input.tokens.now c.requires.fact_1 c.requires.fact_2 (rw c.past_row-behind.ensures at c.name.ensures) (stopped_err _ c.in_err-n.was))

pub all-requires : goal.all-requires
all-requires c = room_along (after_name c.args.line c.args.input.text.now c.args.input.tokens.now c.requires.fact_1 c.requires.fact_2 (rw c.past_row-behind.ensures at c.name.ensures) (ap step c.in_ok-n.was) c.name.auto.out) c.requires.fact_1

pub returns-in_err-bound : goal.returns-in_err-bound
returns-in_err-bound c = rw (exits _ _ c.in_err-bound.was c.from_residual-in_err-bound.ensures.1) (binders_stop c.args.line c.args.input.text.now c.args.input.tokens.now c.requires.fact_1 c.requires.fact_2 (rw c.past_row-behind.ensures at c.name.ensures) (ap step c.in_ok-n.was) c.name.auto.out c.all.ensures.list (stopped_err _ c.in_err-bound.was))

pub returns-in_err-colon : goal.returns-in_err-colon
returns-in_err-colon c = rw (exits _ _ c.in_err-colon.was c.from_residual-in_err-colon.ensures.1) (colon_stops c.args.line c.args.input.text.now c.args.input.tokens.now c.requires.fact_1 c.requires.fact_2 (rw c.past_row-behind.ensures at c.name.ensures) (ap step c.in_ok-n.was) c.name.auto.out c.all.ensures.list (ap step c.in_ok-bound.was) c.all.auto.out c.sign.ensures (stopped_err _ c.in_err-colon.was))

pub judgments-requires : goal.judgments-requires
judgments-requires c = room_along (after_colon c.args.line c.args.input.text.now c.args.input.tokens.now c.requires.fact_1 c.requires.fact_2 (rw c.past_row-behind.ensures at c.name.ensures) (ap step c.in_ok-n.was) c.name.auto.out c.all.ensures.list (ap step c.in_ok-bound.was) c.all.auto.out c.sign.ensures (ap step c.in_ok-colon.was)) c.requires.fact_1

pub returns-in_err-terms : goal.returns-in_err-terms
returns-in_err-terms c = rw (exits _ _ c.in_err-terms.was c.from_residual-in_err-terms.ensures.1) (judgments_stop c.args.line c.args.input.text.now c.args.input.tokens.now c.requires.fact_1 c.requires.fact_2 (rw c.past_row-behind.ensures at c.name.ensures) (ap step c.in_ok-n.was) c.name.auto.out c.all.ensures.list (ap step c.in_ok-bound.was) c.all.auto.out c.sign.ensures (ap step c.in_ok-colon.was) c.judgments.ensures (stopped_err _ c.in_err-terms.was))

pub tactic-requires : goal.tactic-requires
tactic-requires c = room_along (after_judgments c.args.line c.args.input.text.now c.args.input.tokens.now c.requires.fact_1 c.requires.fact_2 (rw c.past_row-behind.ensures at c.name.ensures) (ap step c.in_ok-n.was) c.name.auto.out c.all.ensures.list (ap step c.in_ok-bound.was) c.all.auto.out c.sign.ensures (ap step c.in_ok-colon.was) c.judgments.ensures (ap step c.in_ok-terms.was) c.judgments.auto.out) c.requires.fact_1

pub returns-in_err-proof : goal.returns-in_err-proof
returns-in_err-proof c = rw (exits _ _ c.in_err-proof.was c.from_residual-in_err-proof.ensures.1) (tactic_stops c.args.line c.args.input.text.now c.args.input.tokens.now c.requires.fact_1 c.requires.fact_2 (rw c.past_row-behind.ensures at c.name.ensures) (ap step c.in_ok-n.was) c.name.auto.out c.all.ensures.list (ap step c.in_ok-bound.was) c.all.auto.out c.sign.ensures (ap step c.in_ok-colon.was) c.judgments.ensures (ap step c.in_ok-terms.was) c.judgments.auto.out c.tactic.ensures (stopped_err _ c.in_err-proof.was))

pub overflow_sub-proof : goal.overflow_sub-proof
overflow_sub-proof c = let m = moved c.tactic.ensures (ap step c.in_ok-proof.was) in omega (arith, m)

pub overflow_cast-proof : goal.overflow_cast-proof
overflow_cast-proof c = let a = after_tactic c.args.line c.args.input.text.now c.args.input.tokens.now c.requires.fact_1 c.requires.fact_2 (rw c.past_row-behind.ensures at c.name.ensures) (ap step c.in_ok-n.was) c.name.auto.out c.all.ensures.list (ap step c.in_ok-bound.was) c.all.auto.out c.sign.ensures (ap step c.in_ok-colon.was) c.judgments.ensures (ap step c.in_ok-terms.was) c.judgments.auto.out c.tactic.ensures (ap step c.in_ok-proof.was) c.tactic.auto.out in omega (arith, a.fits, a.to, c.requires.fact_1.below, c.requires.fact_1.small)

pub mark-requires : goal.mark-requires
mark-requires c = let a = after_tactic c.args.line c.args.input.text.now c.args.input.tokens.now c.requires.fact_1 c.requires.fact_2 (rw c.past_row-behind.ensures at c.name.ensures) (ap step c.in_ok-n.was) c.name.auto.out c.all.ensures.list (ap step c.in_ok-bound.was) c.all.auto.out c.sign.ensures (ap step c.in_ok-colon.was) c.judgments.ensures (ap step c.in_ok-terms.was) c.judgments.auto.out c.tactic.ensures (ap step c.in_ok-proof.was) c.tactic.auto.out in let m = moved (rw c.past_row-behind.ensures at c.name.ensures) (ap step c.in_ok-n.was) in omega (arith, a.long, m, c.requires.fact_1.lent, c.requires.fact_1.below)

pub bounds-out-from : goal.bounds-out-from
bounds-out-from c = let a = after_tactic c.args.line c.args.input.text.now c.args.input.tokens.now c.requires.fact_1 c.requires.fact_2 (rw c.past_row-behind.ensures at c.name.ensures) (ap step c.in_ok-n.was) c.name.auto.out c.all.ensures.list (ap step c.in_ok-bound.was) c.all.auto.out c.sign.ensures (ap step c.in_ok-colon.was) c.judgments.ensures (ap step c.in_ok-terms.was) c.judgments.auto.out c.tactic.ensures (ap step c.in_ok-proof.was) c.tactic.auto.out in let l = c.mark.auto.out in omega (arith, a.long, l, c.requires.fact_1.lent, c.requires.fact_1.below, c.requires.fact_2)

pub returns : goal.returns
returns c = theorem_ends c.args.line c.args.input.text.now c.args.input.tokens.now c.requires.fact_1 c.requires.fact_2 (rw c.past_row-behind.ensures at c.name.ensures) (ap step c.in_ok-n.was) c.name.auto.out c.all.ensures.list (ap step c.in_ok-bound.was) c.all.auto.out c.sign.ensures (ap step c.in_ok-colon.was) c.judgments.ensures (ap step c.in_ok-terms.was) c.judgments.auto.out c.tactic.ensures (ap step c.in_ok-proof.was) c.tactic.auto.out c.mark.ensures refl
