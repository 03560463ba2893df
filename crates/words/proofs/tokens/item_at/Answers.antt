-- `item_at` meets its contract: the class of the first character says what stands there.
use mathlib.Core.Path.{sym, ap, ◌∙◌}
use native.Mathlib.Omega.{arith}
use lib.Seq.{length-take-le}
use Rattle.std.proofs.Common.{⊎_elim, inl, inr}
use Rattle.std.proofs.lemmas.Result.{err_from_is_err_and}
use Rattle.source_text.specs.Characters.{class_number}
use Rattle.words.specs.Names.{word_item}
use Rattle.words.specs.Tokens.{is_word}
use Rattle.words.proofs.Items.{item_blank, item_word, item_sign, item_none, no_blank, nothing_starts, word_fits, word_part, word_starts}
use Rattle.words.proofs.tokens.item_at.Goals as goal

pub returns-in-Blank : goal.returns-in-Blank
returns-in-Blank c = sym (item_blank _ (ap (λ k. k.class) (sym c.character_at-class.ensures) ∙ ap class_number c.in-Blank.is))

pub slice_bounds-word_item-end : goal.slice_bounds-word_item-end
slice_bounds-word_item-end c = sym (length-take-le c.word_length.result c.args.rest.now (omega (arith, c.word_length.ensures, word_fits c.args.rest.now)))

pub word_item-requires : goal.word_item-requires
word_item-requires c =
    rw (word_part c.args.rest.now c.word_length.result c.word_length.ensures)
    (word_starts c.args.rest.now c.requires (ap (λ k. is_word k.class) (sym c.character_at-class.ensures) ∙ sym c.in_word.ensures ∙ c.if-in_word.true))

pub returns-in_err-word_item : goal.returns-in_err-word_item
returns-in_err-word_item c =
    let k = ap (λ k. k.class) (sym c.character_at-class.ensures) in
    let p = err_from_is_err_and c.from_residual.result c.from_residual.ensures.1 in
    rw (p.1, p.2) (c.in_err-word_item.ensures ∙ ap word_item (word_part c.args.rest.now c.word_length.result c.word_length.ensures) ∙ sym (item_word _ (ap is_word k ∙ sym c.in_word.ensures ∙ c.if-in_word.true) (λ e. no_blank _ c.in_default.not-Blank (sym k ∙ e))))

pub returns-then-in_word : goal.returns-then-in_word
returns-then-in_word c =
    let k = ap (λ k. k.class) (sym c.character_at-class.ensures) in
    c.in_ok-word_item.ensures ∙ ap word_item (word_part c.args.rest.now c.word_length.result c.word_length.ensures) ∙ sym (item_word _ (ap is_word k ∙ sym c.in_word.ensures ∙ c.if-in_word.true) (λ e. no_blank _ c.in_default.not-Blank (sym k ∙ e)))

pub returns-in_err-sign_item : goal.returns-in_err-sign_item
returns-in_err-sign_item c =
    let p = err_from_is_err_and c.from_residual-in_err-sign_item.result c.from_residual-in_err-sign_item.ensures.1 in
    rw (p.1, p.2) (c.in_err-sign_item.ensures ∙ sym (item_sign _ (ap (λ k. k.class) (sym c.character_at-class.ensures) ∙ ap class_number c.in-Sign.is)))

pub returns-in-Sign : goal.returns-in-Sign
returns-in-Sign c = c.in_ok-sign_item.ensures ∙ sym (item_sign _ (ap (λ k. k.class) (sym c.character_at-class.ensures) ∙ ap class_number c.in-Sign.is))

pub returns : goal.returns
returns c =
    let k = ap (λ k. k.class) (sym c.character_at-class.ensures) in
    sym (item_none _ (⊎_elim (λ e. inl (k ∙ e)) (λ e. inr (k ∙ e)) (nothing_starts _ c.in_default.not-Blank (sym c.in_word.ensures ∙ c.if-in_word.false) c.in_default-class.not-Sign)))
