-- `are_parts` meets its contract: it tells whether words and references are in form.
-- Each way out is one of the tests of words and references.
use Rattle.std.proofs.Common.{◌<◌, sym, ◌∙◌, arith}
use Rattle.names.specs.Symbols.{column}
use Rattle.rule_checks.proofs.PremiseLaws.{heads_length, heads_index}
use Rattle.unifier.specs.Checking.{tells_no, tells_false}
use Rattle.rule_checks.proofs.are_parts.Goals as goal

pub returns-then-not-are_roots : goal.returns-then-not-are_roots
returns-then-not-are_roots c =
    let row = c.args.rule.row.now in
    let roots = rw c.premises.ensures at c.are_roots.ensures in
    tells_no (λ h. tells_false roots c.if-not-are_roots.true
    (λ k l. let n : k < column row 4 = omega (arith, heads_length row, l) in rw (heads_index row k n) (h.roots k n)))

pub returns : goal.returns
returns c =
    let row = c.args.rule.row.now in
    let check-words = c.check_words in
    let if1 = c.if-not-check_words in
    let roots = rw c.premises.ensures at c.are_roots.ensures in
    let if2 = c.if-not-are_roots in
    let check-words2 = c.check_words-2 in
    let if3 = c.if-not-check_words-2 in
    let is-argument = c.is_argument in
    record {
      yes = λ e. record {
        premises = sym check-words.ensures
            ∙ if1.false;
        roots = λ j l. rw (heads_index row j l) at (roots.yes if2.false j (omega (arith, heads_length row)));
        conclusion = sym check-words2.ensures
            ∙ if3.false;
        root = sym is-argument.ensures
            ∙ e;
      };
      back = λ h. is-argument.ensures ∙ h.root;
    }
