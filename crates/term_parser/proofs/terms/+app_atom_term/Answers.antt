-- `atom`, `app` and `term` call each other in turn: the tokens left fall, and with the same tokens left the rank of the three.
use mathlib.Core.Path.{◌≡◌, refl, sym, ap, ◌∙◌}
use mathlib.Core.List.{[], ◌∷◌}
use Prim.Native.Nat.{ℕ, ◌-◌}
use lib.Dec.{eqb}
use lib.ListN.{set}
use borrow.Author.Tests.{eqb-true, eq-eqb}
use Rattle.source_text.specs.ByteLaws.{by_bool}
use native.Mathlib.Omega.{arith}
use Rattle.term_parser.proofs.TokenLaws.{token_there}
use Rattle.term_parser.proofs.Readers.{stopped_err, exits, exits_maybe, maybe_exits, moved}
use Rattle.term_parser.specs.Steps.{step, maybe_step}
use Rattle.std.specs.Prelude.{Ok, Some, ◌≢◌}
use Rattle.term_parser.proofs.TermLaws.{room_on, is_name, is_meta, is_numeral_lem, is_open, is_none, too_deep, inner_stopped, inner_closed, atoms_start, atoms_room, atoms_from, atoms_past, atoms_few, atoms_turn, atoms_none, atoms_applied, atoms_refused, term_stopped, term_plain, second_stopped, root_room, term_equated}
use Rattle.term_parser.proofs.terms.+app_atom_term.Goals as goal

pub app-loop-more-init : goal.app-loop-more-init
app-loop-more-init t c = atoms_start (c.args.input.text.now) (c.args.input.tokens.now) (c.args.left)

pub app-atom-requires : goal.app-atom-requires
app-atom-requires t c = let args = c.args in let pre = c.requires in let loop = c.loop-more in (let f = atoms_from (args.input.text.now) (args.input.tokens.now) (args.left) (pre) (loop.invariant) in omega (arith, f), atoms_room (args.input.text.now) (args.input.tokens.now) (args.left) (pre) (loop.invariant))

pub app-overflow_add-n : goal.app-overflow_add-n
app-overflow_add-n t c = let args = c.args in let pre = c.requires in let loop = c.loop-more in let f = atoms_few (args.input.text.now) (args.input.tokens.now) (args.left) (pre) (loop.invariant) in let r = atoms_room (args.input.text.now) (args.input.tokens.now) (args.left) (pre) (loop.invariant) in omega (arith, f, r.here, (pre.small))

pub app-loop-more-smaller : goal.app-loop-more-smaller
app-loop-more-smaller t c = let m = moved (c.atom.ensures) (ap maybe_step (c.in_ok-more.was ∙ ap Ok c.in-Some.is)) in omega (arith, m)

pub app-loop-more-preserved : goal.app-loop-more-preserved
app-loop-more-preserved t c = let args = c.args in let pre = c.requires in let atom = c.atom in let loop = c.loop-more in atoms_turn (args.input.text.now) (args.input.tokens.now) (args.left) (pre) (atom.ensures) (loop.invariant) (ap maybe_step (c.in_ok-more.was ∙ ap Ok c.in-Some.is)) (atom.auto.out)

pub app-returns-in_default-checked_sub : goal.app-returns-in_default-checked_sub
app-returns-in_default-checked_sub t c = let args = c.args in let pre = c.requires in let atom = c.atom in let loop = c.loop-more in rw c.rejection.ensures (atoms_none (args.input.text.now) (args.input.tokens.now) (args.left) (pre) (atom.ensures) (loop.invariant) (ap maybe_step (c.in_ok-more.was ∙ ap Ok c.in_default.is)) (omega (arith, c.in_default-checked_sub.ensures)) refl)

pub app-apply-requires : goal.app-apply-requires
app-apply-requires t c = let args = c.args in let pre = c.requires in let loop = c.loop-more in let atom = c.atom in let r = atoms_room (args.input.text.now) (args.input.tokens.now) (args.left) (pre) (loop.invariant) in let f = atoms_past (args.input.text.now) (args.input.tokens.now) (args.left) (pre) (loop.invariant) (omega (arith, c.in-Some-checked_sub.ensures)) in omega (arith, c.in-Some-checked_sub.ensures, f, r.here, r.lent, (pre.below), (atom.auto.out))

pub app-returns : goal.app-returns
app-returns t c = let args = c.args in let pre = c.requires in let atom = c.atom in let loop = c.loop-more in let p : c.in-Some-checked_sub.more ≡ loop.n - 1 = omega (arith, c.in-Some-checked_sub.ensures) in let apply = c.apply in atoms_applied (args.input.text.now) (args.input.tokens.now) (args.left) (pre) (atom.ensures) (loop.invariant) (ap maybe_step (c.in_ok-more.was ∙ ap Ok c.in_default.is)) (omega (arith, c.in-Some-checked_sub.ensures)) (rw p at apply.ensures)

pub app-returns-in_err-more : goal.app-returns-in_err-more
app-returns-in_err-more t c = let args = c.args in let pre = c.requires in let atom = c.atom in let loop = c.loop-more in rw (maybe_exits _ _ c.in_err-more.was c.from_residual.ensures.1, ap maybe_step c.in_err-more.was) (atoms_refused (args.input.text.now) (args.input.tokens.now) (args.left) (pre) (atom.ensures) (loop.invariant) (ap maybe_step c.in_err-more.was))

pub term-returns-in_default : goal.term-returns-in_default
term-returns-in_default t c = term_stopped c.args.input.text.now c.args.input.tokens.now c.args.left c.requires c.app-read.ensures (stopped_err _ c.in_default.is)

pub term-returns-then-peek-ne-EQUALS : goal.term-returns-then-peek-ne-EQUALS
term-returns-then-peek-ne-EQUALS t c =
    let args = c.args in
    let pre = c.requires in
    let app = c.app-read in
    let if1 = c.if-peek-ne-EQUALS in
    let peek = c.peek in
    term_plain args.input.text.now args.input.tokens.now args.left pre app.ensures (ap step c.in-Ok.is) (λ e. if1.true (ap (λ x. x.kind) peek.ensures ∙ e))

pub term-past_token-behind-requires : goal.term-past_token-behind-requires
term-past_token-behind-requires t c =
    let app = c.app-read in
    let args = c.args in
    let pre = c.requires in
    let h = token_there args.input.tokens.now c.in-Ok.first.position.at (let e = ap (λ x. x.kind) (sym c.peek.ensures) ∙ c.if-peek-ne-EQUALS.false in
    omega arith) in
    omega (arith, h, pre.small)

pub term-app-requires : goal.term-app-requires
term-app-requires t c =
    let app = c.app-read in
    let args = c.args in
    let peek = c.peek in
    let if1 = c.if-peek-ne-EQUALS in
    let pre = c.requires in
    let m = moved app.ensures (ap step c.in-Ok.is) in
    let h = token_there args.input.tokens.now c.in-Ok.first.position.at (let e = ap (λ x. x.kind) (sym peek.ensures) ∙ if1.false in
    omega arith) in
    rw c.past_token-behind.ensures (omega (arith, m), room_on pre _ _ _ (omega arith) (omega (arith, m)) app.auto.out)

pub term-returns-in_err-second : goal.term-returns-in_err-second
term-returns-in_err-second t c =
    let args = c.args in
    let pre = c.requires in
    let app = c.app-read in
    let peek = c.peek in
    let if1 = c.if-peek-ne-EQUALS in
    let app2 = c.app in
    let second = rw c.past_token-behind.ensures at app2.ensures in
    rw (exits _ _ c.in_err-second.was c.from_residual.ensures.1) (second_stopped args.input.text.now args.input.tokens.now args.left pre app.ensures (ap step c.in-Ok.is) (ap (λ x. x.kind) (sym peek.ensures) ∙ if1.false) second (stopped_err _ c.in_err-second.was))

pub term-equate-requires : goal.term-equate-requires
term-equate-requires t c =
    let app = c.app-read in
    let app2 = c.app in
    let pre = c.requires in
    let args = c.args in
    let peek = c.peek in
    let if1 = c.if-peek-ne-EQUALS in
    let m = moved app.ensures (ap step c.in-Ok.is) in
    let second = rw c.past_token-behind.ensures at app2.ensures in
    let n = moved second (ap step c.in_ok-second.was) in
    record { fact_1 = omega (arith, m, n, pre.lent, pre.below, app.auto.out, app2.auto.out); fact_2 = root_room args.input.text.now args.input.tokens.now args.left pre app.ensures (ap step c.in-Ok.is) (ap (λ x. x.kind) (sym peek.ensures) ∙ if1.false) second (ap step c.in_ok-second.was) (omega (arith, m, n, pre.lent, pre.below, app.auto.out, app2.auto.out)) }

pub term-returns : goal.term-returns
term-returns t c =
    let args = c.args in
    let pre = c.requires in
    let app = c.app-read in
    let peek = c.peek in
    let if1 = c.if-peek-ne-EQUALS in
    let app2 = c.app in
    let equate = c.equate in
    let second = rw c.past_token-behind.ensures at app2.ensures in
    term_equated args.input.text.now args.input.tokens.now args.left pre app.ensures (ap step c.in-Ok.is) (ap (λ x. x.kind) (sym peek.ensures) ∙ if1.false) second (ap step c.in_ok-second.was) equate.ensures

pub atom-returns-in-12 : goal.atom-returns-in-12
atom-returns-in-12 t c =
    let args = c.args in
    let row = λ (n : ℕ). set args.out.now args.from.used (n ∷ c.peek-t.result.start ∷ c.peek-t.result.length ∷ 0 ∷ []) in
    let e = ap (λ r. maybe_step (Ok (Some r))) c.push-in-12.ensures.0 in
    by_bool (eqb c.peek-t.result.kind 12)
    (λ z. let k = eqb-true _ _ z in is_name args.input.text.now args.input.tokens.now args.left c.requires c.peek-t.ensures e k (c.push-in-12.ensures.1 ∙ ap row k))
    (λ z. let d : c.peek-t.result.kind ≢ 12 = λ k. absurd (let y : ◌≡◌ {A = ℕ} 0 1 = grind (arith, z, eq-eqb _ _ k) in omega arith) in let k : c.peek-t.result.kind ≡ 13 = omega arith in is_meta args.input.text.now args.input.tokens.now args.left c.requires c.peek-t.ensures e d k (c.push-in-12.ensures.1 ∙ ap row k))

pub atom-returns-in_default : goal.atom-returns-in_default
atom-returns-in_default t c = is_none c.args.input.text.now c.args.input.tokens.now c.args.left c.requires c.peek-t.ensures (λ e. omega arith) (λ e. omega arith) (λ e. omega arith) (λ e. omega arith)

pub atom-returns-in_default-2 : goal.atom-returns-in_default-2
atom-returns-in_default-2 t c = is_none c.args.input.text.now c.args.input.tokens.now c.args.left c.requires c.peek-t.ensures (λ e. omega arith) (λ e. omega arith) (λ e. omega arith) (λ e. omega arith)

pub atom-returns-in-14 : goal.atom-returns-in-14
atom-returns-in-14 t c =
    let args = c.args in
    is_numeral_lem args.input.text.now args.input.tokens.now args.left c.requires c.peek-t.ensures (ap (λ r. maybe_step (Ok (Some r))) c.push.ensures.0) (λ e. omega (arith, c.in-14.is)) (λ e. omega (arith, c.in-14.is)) c.in-14.is c.saturated-value.ensures c.push.ensures.1

pub atom-returns-in_default-checked_sub : goal.atom-returns-in_default-checked_sub
atom-returns-in_default-checked_sub t c =
    let args = c.args in
    rw c.rejection.ensures (too_deep args.input.text.now args.input.tokens.now args.from.at args.left args.from.used _ (is_open args.input.text.now args.input.tokens.now args.left c.requires c.peek-t.ensures (λ e. omega (arith, c.in-18.is)) (λ e. omega (arith, c.in-18.is)) (λ e. omega (arith, c.in-18.is)) c.in-18.is) (omega (arith, c.in_default-checked_sub.ensures)) refl)

pub atom-returns-in_err-inner-in-18 : goal.atom-returns-in_err-inner-in-18
atom-returns-in_err-inner-in-18 t c =
    let args = c.args in
    rw (exits_maybe _ _ c.in_err-inner-in-18.was c.from_residual.ensures.1) (inner_stopped args.input.text.now args.input.tokens.now args.from.at args.left args.from.used _ (is_open args.input.text.now args.input.tokens.now args.left c.requires c.peek-t.ensures (λ e. omega (arith, c.in-18.is)) (λ e. omega (arith, c.in-18.is)) (λ e. omega (arith, c.in-18.is)) c.in-18.is) (omega (arith, c.in-Some.ensures)) (rw (c.past_token-inside.ensures, let p : c.in-Some.rest ≡ c.args.left - 1 = omega (arith, c.in-Some.ensures) in p) at c.term.ensures) (stopped_err _ c.in_err-inner-in-18.was))

pub atom-returns-in_ok-sign-in-18 : goal.atom-returns-in_ok-sign-in-18
atom-returns-in_ok-sign-in-18 t c =
    let args = c.args in
    rw (ap step c.in_ok-sign-in-18.was) at (inner_closed args.input.text.now args.input.tokens.now args.from.at args.left args.from.used _ (is_open args.input.text.now args.input.tokens.now args.left c.requires c.peek-t.ensures (λ e. omega (arith, c.in-18.is)) (λ e. omega (arith, c.in-18.is)) (λ e. omega (arith, c.in-18.is)) c.in-18.is) (omega (arith, c.in-Some.ensures)) (rw (c.past_token-inside.ensures, let p : c.in-Some.rest ≡ c.args.left - 1 = omega (arith, c.in-Some.ensures) in p) at c.term.ensures) (ap step c.in_ok-inner-in-18.was) c.sign.ensures)

pub atom-returns-in_err-sign-in-18 : goal.atom-returns-in_err-sign-in-18
atom-returns-in_err-sign-in-18 t c =
    let args = c.args in
    rw (exits_maybe _ _ c.in_err-sign-in-18.was c.from_residual-in_err-sign-in-18.ensures.1) (inner_closed args.input.text.now args.input.tokens.now args.from.at args.left args.from.used _ (is_open args.input.text.now args.input.tokens.now args.left c.requires c.peek-t.ensures (λ e. omega (arith, c.in-18.is)) (λ e. omega (arith, c.in-18.is)) (λ e. omega (arith, c.in-18.is)) c.in-18.is) (omega (arith, c.in-Some.ensures)) (rw (c.past_token-inside.ensures, let p : c.in-Some.rest ≡ c.args.left - 1 = omega (arith, c.in-Some.ensures) in p) at c.term.ensures) (ap step c.in_ok-inner-in-18.was) c.sign.ensures)
