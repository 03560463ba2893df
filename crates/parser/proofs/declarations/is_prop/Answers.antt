-- `is_prop` meets its contract.
use mathlib.Core.Path.{ap, ◌∙◌}
use Rattle.source_text.specs.Bytes.{same_bytes}
use Rattle.parser.specs.Declarations.{prop_name}
use Rattle.parser.proofs.declarations.is_prop.Goals as goal

pub returns : goal.returns
returns c = c.same.ensures ∙ ap (λ w. same_bytes w prop_name) c.word-word.ensures
