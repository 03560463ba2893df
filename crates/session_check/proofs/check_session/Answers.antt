-- `check_session` meets its contract: each test is one part of the form.
use Rattle.std.proofs.Common.{sym, ◌∙◌, refl}
use Rattle.terms.specs.Numbers.{true_false}
use Rattle.names.specs.Symbols.{symbols_of}
use Rattle.rules.specs.PatternLaws.{arities_of}
use Rattle.sessions.specs.Storage.{part_in}
use Rattle.unifier.specs.Checking.{tells_false}
use Rattle.signature.proofs.UsedLaws.{symbols_used}
use Rattle.session_check.proofs.Laws.{told_no, ready_names, names_there, names_used, names_listed, words_formed, told}
use Rattle.session_check.proofs.check_session.Goals as goal

pub returns-then-not-are_names_listed : goal.returns-then-not-are_names_listed
returns-then-not-are_names_listed c =
    let s = c.args.session in
    told_no refl (λ h. tells_false c.are_names_listed.ensures c.if-not-are_names_listed.true (names_used s.names.now s.counts.names h.session.names_lent (ready_names h)))

pub returns-then-not-are_words_formed : goal.returns-then-not-are_words_formed
returns-then-not-are_words_formed c =
    let sg = c.args.signature in
    let text = c.args.text.now in
    told_no refl (λ h. true_false ((rw (c.symbols_in_use-symbols.ensures, symbols_used sg.symbols.now sg.counts.symbols c.requires.1 text) at (c.are_words_formed.ensures text)) ∙ h.session.words) c.if-not-are_words_formed.true)

pub check_bindings-requires-clause-fact_1 : goal.check_bindings-requires-clause-fact_1
check_bindings-requires-clause-fact_1 c =
    let sg = c.args.signature in
    let s = c.args.session in
    let text = c.args.text.now in
    let tested = c.are_words_formed in
    words_formed (arities_of (symbols_of text sg.symbols.now sg.counts.symbols)) s.words.now s.counts
    tested.result (c.is_counted.ensures.yes c.if-not-is_counted.false)
    (rw (c.symbols_in_use-symbols.ensures, symbols_used sg.symbols.now sg.counts.symbols c.requires.1 text) at (tested.ensures text)) c.if-not-are_words_formed.false-raw

pub returns : goal.returns
returns c =
    let sg = c.args.signature in
    let s = c.args.session in
    let text = c.args.text.now in
    let counted = c.is_counted.ensures.yes c.if-not-is_counted.false in
    let enough = sym (rw c.of-lengths.ensures at c.are_short.ensures) ∙ c.if-are_short.false in
    let there = names_there c.args.limits (part_in s) (record { links = c.args.links.now; marks = c.args.marks.now; stack = c.args.stack.now }) s.counts.names enough counted.few_names in
    told c.are_words_formed.result enough counted
    (names_listed s.names.now s.counts.names there (c.are_names_listed.ensures.yes c.if-not-are_names_listed.false))
    (rw (c.symbols_in_use-symbols.ensures, symbols_used sg.symbols.now sg.counts.symbols c.requires.1 text) at (c.are_words_formed.ensures text))
    c.if-not-are_words_formed.false-raw
    (c.is_scratch_zero.ensures.yes c.if-not-is_scratch_zero.false)
    c.check_bindings.ensures
