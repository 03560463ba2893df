-- `read` meets its contract: the text by the three numbers of its line.
use Rattle.listing.specs.RecordedLaws.{read_as}
use native.Mathlib.Omega.{arith}
use mathlib.Core.Path.{◌≡◌}
use borrow.Author.Rules.{rules}
use Rattle.listing.proofs.recorded.read.Goals as goal

pub returns : goal.returns
returns c =
    let args = c.args in
    let read-decimal = c.read_decimal-length in
    let read-decimal2 = c.read_decimal-limit in
    let read-decimal3 = c.read_decimal-lent in
    let none : c.default.result ≡ record { text = 0; nodes = 0; steps = 0; variables = 0; words = 0 } = search rules in
    record { is = rw none (read_as (args.list.now) (args.at) (read-decimal.ensures.is) (read-decimal2.ensures.is) (read-decimal3.ensures.is)); near = omega arith }
