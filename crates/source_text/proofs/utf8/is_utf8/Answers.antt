-- `is_utf8` meets its contract: the library's UTF-8 is that of RFC 3629.
use mathlib.Core.Path.{◌∙◌}
use Rattle.source_text.proofs.StdUtf8.{same_answer}
use Rattle.source_text.proofs.utf8.is_utf8.Goals as goal

pub returns : goal.returns
returns c = c.is_ok.ensures.value ∙ same_answer c.from_utf8.result _ _ c.args.text.now c.from_utf8.ensures.cases
