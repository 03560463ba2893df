-- `all_digits` meets its contract: the chain's test is the definition's of each byte.
use mathlib.Core.Path.{refl}
use borrow.Author.Rules.{rules}
use Rattle.std.proofs.lemmas.List.Recursion.{and_is}
use Rattle.source_text.specs.Bytes.{within}
use Rattle.source_text.specs.Numerals.{all_digits}
use Rattle.source_text.proofs.numerals.all_digits.Goals as goal

pub returns : goal.returns
unfolding all_digits
returns c = and_is all_digits (within 48 57) refl (λ _ _. refl) c.args.w.now 0 _ (search rules) (search rules)
