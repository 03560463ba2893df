-- `digit` meets its contract: by the byte at the place.
use mathlib.Core.Path.{◌≡◌, sym, ap, ◌∙◌}
use lib.ListN.{get_or}
use Rattle.std.specs.Option.{unwrap_or, option_map}
use Rattle.source_text.specs.Numerals.{digit_of}
use Rattle.listing.specs.Recorded.{read_digit}
use Rattle.listing.specs.RecordedLaws.{digit_past, digit_read, digit_small}
use borrow.Author.Rules.{rules}
use native.Mathlib.Omega.{arith}
use Rattle.listing.proofs.recorded.digit.Goals as goal

pub returns-in_err-get : goal.returns-in_err-get
returns-in_err-get c =
    let past = rw c.in_err-get.was at c.get.ensures.lookup.3 in
    record { is = rw c.from_residual.ensures (ap read_digit (sym (digit_past c.args.list.now c.args.at past))); small = search rules }

pub returns : goal.returns
returns c =
    let e : c.in_ok-get.field-0.now ≡ get_or c.args.list.now c.args.at 0 = ap (λ r. unwrap_or (option_map (λ x. x.now) r) 0) (sym c.in_ok-get.was) ∙ c.get.ensures.lookup.4 (omega arith) 0 in
    let d : c.digit.result ≡ digit_of (get_or c.args.list.now c.args.at 0) = c.digit.ensures ∙ ap digit_of e in
    record { is = d ∙ digit_read c.args.list.now c.args.at; small = rw d (digit_small (get_or c.args.list.now c.args.at 0)) }
