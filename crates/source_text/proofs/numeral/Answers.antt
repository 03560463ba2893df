-- `numeral` meets its contract: the word at the place, and its value.
-- There is no loop.
use mathlib.Core.Path.{ap, ◌∙◌}
use Rattle.source_text.specs.Numerals.{numeral_of}
use Rattle.source_text.proofs.AnswerLaws.{numeral_read}
use Rattle.source_text.proofs.numeral.Goals as goal

pub returns : goal.returns
returns c = numeral_read _ _ _ _ (c.value.ensures ∙ ap numeral_of c.word.ensures)
