-- The words of lists of terms one behind another are the words of each.
use Rattle.std.specs.Prelude.{◌+◌, ◌≡◌}
use Rattle.std.proofs.Common.{arith}
use Rattle.terms.specs.Term.{Terms, nil, cons, append}
use Rattle.resolution.specs.Search.{words}

pub words_append : (ts us : Terms) → words (append ts us) ≡ words ts + words us
words_append nil us = omega arith
words_append (cons t ts) us = let h = words_append ts us in omega arith
