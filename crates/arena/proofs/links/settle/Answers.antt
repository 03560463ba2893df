-- `settle` meets its contract: each way out is one law.
use Prim.Native.Nat.{◌+◌, ◌-◌}
use mathlib.Core.Path.{◌≡◌, refl, sym, ◌∙◌}
use Rattle.arena.proofs.Settling.{settle_no, settle_clash, settle_linked, lower, room_for, first_in, second_in, arguments_linkable, header_at}
use Rattle.arena.specs.Rows.{one_more}
use native.Mathlib.Omega.{arith}
use Rattle.arena.proofs.links.settle.Goals as goal

pub header-requires-then-linked : goal.header-requires-then-linked
header-requires-then-linked c =
    let args = c.args in
    let pre = c.requires in
    let from = room_for args.terms.room args.terms.words.now args.links.now args.terms.variables args.terms.used args.at pre.fact_1 pre.fact_2 _ _ (one_more c.in-Some.ensures) refl in
    let below = lower args.terms.room args.terms.words.now args.links.now args.terms.variables args.terms.used args.at pre.fact_1 pre.fact_2 _ _ (one_more c.in-Some.ensures) refl in
    (from, omega (arith, below, pre.fact_1.words_in_lem, pre.fact_2))

pub arguments-left-requires : goal.arguments-left-requires
arguments-left-requires c =
    let args = c.args in
    let pre = c.requires in
    let e = sym (header_at args.terms.room args.terms.words.now args.at c.header.ensures) ∙ c.if-header.true ∙ c.header-then-linked.ensures in
    let d : args.terms.room + args.at - args.terms.room ≡ args.at = omega arith in
    rw d (omega arith, first_in args.terms.room args.terms.words.now args.links.now args.terms.variables args.terms.used args.at pre.fact_1 pre.fact_2 _ _ (one_more c.in-Some.ensures) refl e)

pub arguments-right-requires : goal.arguments-right-requires
arguments-right-requires c =
    let args = c.args in
    let pre = c.requires in
    let e = sym (header_at args.terms.room args.terms.words.now args.at c.header.ensures) ∙ c.if-header.true ∙ c.header-then-linked.ensures in
    let from = room_for args.terms.room args.terms.words.now args.links.now args.terms.variables args.terms.used args.at pre.fact_1 pre.fact_2 _ _ (one_more c.in-Some.ensures) refl in
    (from, second_in args.terms.room args.terms.words.now args.links.now args.terms.variables args.terms.used args.at pre.fact_1 pre.fact_2 _ _ (one_more c.in-Some.ensures) refl e)

pub link_arguments-requires : goal.link_arguments-requires
link_arguments-requires c =
    let args = c.args in
    let pre = c.requires in
    let e = sym (header_at args.terms.room args.terms.words.now args.at c.header.ensures) ∙ c.if-header.true ∙ c.header-then-linked.ensures in
    let d : args.terms.room + args.at - args.terms.room ≡ args.at = omega arith in
    rw (c.arguments-left.ensures, c.arguments-right.ensures, d) (arguments_linkable args.terms.room args.terms.words.now args.links.now args.terms.variables args.terms.used args.at pre.fact_1 pre.fact_2 _ _ (one_more c.in-Some.ensures) refl e)

pub returns-then-header : goal.returns-then-header
returns-then-header c =
    let args = c.args in
    let pre = c.requires in
    let e = sym (header_at args.terms.room args.terms.words.now args.at c.header.ensures) ∙ c.if-header.true ∙ c.header-then-linked.ensures in
    let d : args.terms.room + args.at - args.terms.room ≡ args.at = omega arith in
    let joined = rw (c.arguments-left.ensures, c.arguments-right.ensures, d) at c.link_arguments.ensures in
    settle_linked args.terms.room args.terms.words.now args.links.now args.terms.variables args.terms.used args.at pre.fact_1 pre.fact_2 _ _ (one_more c.in-Some.ensures) refl e _ args.linked.low _ _ joined args.linked.same c.if-linked.true

pub returns-else-header : goal.returns-else-header
returns-else-header c =
    let args = c.args in
    let pre = c.requires in
    settle_clash args.terms.room args.terms.words.now args.links.now args.terms.variables args.terms.used args.at pre.fact_1 pre.fact_2 _ _ (one_more c.in-Some.ensures) refl args.linked.same args.linked.low
    (λ e. c.if-header.false (header_at args.terms.room args.terms.words.now args.at c.header.ensures ∙ e ∙ sym c.header-then-linked.ensures))

pub returns-else-linked : goal.returns-else-linked
returns-else-linked c =
    let args = c.args in
    let pre = c.requires in
    settle_no args.terms.room args.terms.words.now args.links.now args.terms.variables args.terms.used args.at pre.fact_1 pre.fact_2 args.linked.same args.linked.low c.if-linked.false
