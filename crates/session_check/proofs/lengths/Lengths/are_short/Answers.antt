-- `are_short` meets its contract: each buffer is compared with what the limits ask.
use Rattle.std.proofs.Common.{arith, ◌≡◌, false, ltb, ◌+◌, ◌∙◌, sym}
use Rattle.terms.specs.Numbers.{true_false}
use Rattle.arena.specs.Copies.{term_room}
use Rattle.session_check.proofs.lengths.Lengths.are_short.Goals.{then-self-references, else-self-references}
use Rattle.session_check.proofs.lengths.Lengths.are_short.Goals as goal

pub returns-else-self-references-2 : goal.returns-else-self-references-2
returns-else-self-references-2 c =
    let marks : ltb c.args.self.marks (term_room + c.capped-capped.result.words) ≡ false =
    elim c.if-self-references.branch [
      | then-self-references w ↦ true_false w.if-self-references.true (sym w.value-is ∙ c.if-self-references-2.false)
      | else-self-references w ↦ sym w.value-is ∙ c.if-self-references-2.false
    ] in
    grind (arith, marks)
