-- `is_state` meets its contract: each test is one part of it.
use mathlib.Core.Path.{refl}
use Rattle.terms.specs.Numbers.{true_false}
use Rattle.attempts_test.proofs.Laws.{form_room}
use Rattle.attempts_test.proofs.attempt.is_state.Goals as goal

pub returns-then-not-is_form-clause-told : goal.returns-then-not-is_form-clause-told
returns-then-not-is_form-clause-told c =
    record { state = λ e. true_false e refl; refers = λ e. true_false e refl; kept = c.is_form.ensures.kept }

pub is_reference-requires : goal.is_reference-requires
is_reference-requires c =
    let f = c.is_form.ensures.tells.yes (c.if-not-is_form.false) in f.form.lent_words

pub returns-then-not-is_reference-clause-told : goal.returns-then-not-is_reference-clause-told
returns-then-not-is_reference-clause-told c =
    record { state = λ e. true_false e refl; refers = λ e. true_false e refl; kept = c.is_form.ensures.kept }

pub returns-clause-told : goal.returns-clause-told
returns-clause-told c =
    let t = c.terms-terms.ensures in
    let b = c.bindings-held.ensures in
    let formed = c.is_form.ensures.tells.yes (c.if-not-is_form.false) in
    let refers = c.is_reference.ensures.yes (c.if-not-is_reference.false) in
    let form = formed.form in
    record {
      state = λ e. form_room c.is_form.ensures.kept (rw (t.0, t.1, t.2, t.3, b.0, b.1) at form) (c.has_room.ensures e);
      refers = λ e. rw (t.0, t.1, t.2, t.3) at refers;
      kept = c.is_form.ensures.kept;
    }
