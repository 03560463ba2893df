-- `is_word` meets its contract: a word of another length is not the one at the place.
use mathlib.Core.Path.{ap, ◌∙◌}
use Rattle.source_text.specs.Bytes.{same_bytes}
use Rattle.names.specs.Names.{Name}
use Rattle.names.proofs.Lengths.{other_length}
use Rattle.names.proofs.is_word.Goals as goal

pub returns-then-w-gt0 : goal.returns-then-w-gt0
returns-then-w-gt0 c =
    let args = c.args in
    let if1 = c.if-w-word in
    let if2 = c.if-w-gt0 in
    other_length args.text.now args.word.start args.word.size args.w.now if1.true if2.true

pub returns : goal.returns
returns c = c.same.ensures ∙ ap (λ (x : Name). same_bytes x c.args.w.now) c.part.ensures
