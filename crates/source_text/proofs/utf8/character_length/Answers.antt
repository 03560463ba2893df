-- `character_length` meets its contract.
use mathlib.Core.Path.{◌≡◌, refl, sym, ap, ◌∙◌}
use mathlib.Core.Bool.{true}
use Prim.Native.Nat.{◌<◌, ◌≤◌, ◌-◌}
use lib.ListN.{length, get_or, drop}
use native.Mathlib.Omega.{arith}
use Rattle.source_text.specs.Utf8.{positive, lead_of, form_of, forms, asks, tails_of}
use Rattle.source_text.proofs.Encodings.{same_lead, lead_range, starting_none, starting_some, positive_if, length_past, length_none, length_at}
use Rattle.source_text.proofs.utf8.character_length.Goals as goal

pub returns-in_err-first : goal.returns-in_err-first
returns-in_err-first c =
    let p : length c.args.text.now ≤ 0 = omega (arith, c.in_err-first.ensures.cases) in
    c.from_residual.ensures ∙ ap positive (sym (length_past c.args.text.now 0 p))

pub returns-then-first-lt128 : goal.returns-then-first-lt128
unfolding lead_of form_of forms same_lead tails_of
returns-then-first-lt128 c =
    let p : 0 < length c.args.text.now = omega (arith, c.in_ok-first.ensures.cases.1) in
    let q : c.in_ok-first.first.now ≡ get_or c.args.text.now 0 0 = ap (λ l. get_or l 0 0) (sym c.in_ok-first.ensures.cases.0) in
    let e = lead_range 0 128 (asks 1 0x80 0xBF) tt (get_or c.args.text.now 0 0) (omega arith) (omega arith) in
    ap positive (sym (length_at c.args.text.now 0 (asks 1 0x80 0xBF) p (sym e) true refl))

pub returns-in_err-lead : goal.returns-in_err-lead
returns-in_err-lead c =
    let p : 0 < length c.args.text.now = omega (arith, c.in_ok-first.ensures.cases.1) in
    let q : c.in_ok-first.first.now ≡ get_or c.args.text.now 0 0 = ap (λ l. get_or l 0 0) (sym c.in_ok-first.ensures.cases.0) in
    c.from_residual-in_err-lead.ensures ∙ ap positive (sym (length_none c.args.text.now 0 (lead_of c.in_ok-first.first.now) p (ap lead_of q) (starting_none _ (sym c.lead_of.ensures ∙ c.in_err-lead.was))))

pub returns : goal.returns
returns c =
    let s = starting_some (lead_of c.in_ok-first.first.now) c.in_ok-lead.lead (sym c.lead_of.ensures ∙ c.in_ok-lead.was) in
    let p : 0 < length c.args.text.now = omega (arith, c.in_ok-first.ensures.cases.1) in
    let q : c.in_ok-first.first.now ≡ get_or c.args.text.now 0 0 = ap (λ l. get_or l 0 0) (sym c.in_ok-first.ensures.cases.0) in
    let d : c.in_ok-first.rest.now ≡ drop 1 c.args.text.now = ap (drop 1) (sym c.in_ok-first.ensures.cases.0) in
    c.then_some.ensures ∙ positive_if _ _ s.1 ∙ ap positive (sym (length_at c.args.text.now 0 c.in_ok-lead.lead p (s.0 ∙ ap lead_of q) c.has_tails.result (c.has_tails.ensures ∙ ap (tails_of (c.in_ok-lead.lead.length - 1) c.in_ok-lead.lead.low c.in_ok-lead.lead.high) d)))
