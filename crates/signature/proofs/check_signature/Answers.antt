-- `check_signature` meets its contract: each test is one part of the form.
-- Each way out is one part that does not hold.
use Rattle.std.proofs.Common.{ℕ, List}
use Rattle.names.specs.Symbols.{column}
use Rattle.names.specs.NamePlaces.{NamePlace}
use Rattle.unifier.specs.Checking.{tells_no, tells_false}
use Rattle.signature.specs.Form.{SymbolFormed}
use Rattle.signature.proofs.Laws.{holds, same}
use Rattle.signature.proofs.FormLaws.{sorts_there_lem, symbols_there_lem, rules_there_lem, listed, clauses_asked, checked, listed_lent, listed_counted, listed_rules}
use Rattle.signature.proofs.UsedLaws.{each_used, used_each, sorts_used, symbols_used, clauses_listed, clauses_used}
use Rattle.signature.proofs.check_signature.Goals as goal

-- A sort's row is named.
abbrev Named : List ℕ → List ℕ → Type 0
Named text row = NamePlace text (column row 0) (column row 1)

pub returns-then-not-are_sorts_named : goal.returns-then-not-are_sorts_named
returns-then-not-are_sorts_named c =
    let sg = c.args.signature in
    checked (tells_no (λ h. tells_false c.are_sorts_named.ensures c.if-not-are_sorts_named.true
    (used_each sg.sorts.now sg.counts.sorts (sorts_there_lem (listed_lent h) (listed_counted h)) (Named c.args.text.now) h.sorts_named)))

pub returns-then-not-are_names_distinct : goal.returns-then-not-are_names_distinct
returns-then-not-are_names_distinct c =
    let sg = c.args.signature in
    checked (tells_no (λ h. tells_false c.are_names_distinct.ensures c.if-not-are_names_distinct.true
    (rw (
      c.symbols_in_use-symbols.ensures,
      sorts_used sg.sorts.now sg.counts.sorts (sorts_there_lem (listed_lent h) (listed_counted h)) c.args.text.now,
      symbols_used sg.symbols.now sg.counts.symbols (symbols_there_lem (listed_lent h) (listed_counted h)) c.args.text.now,
    ) h.distinct)))

pub returns-then-not-are_symbols_formed : goal.returns-then-not-are_symbols_formed
returns-then-not-are_symbols_formed c =
    let sg = c.args.signature in
    checked (tells_no (λ h. tells_false c.are_symbols_formed.ensures c.if-not-are_symbols_formed.true
    (rw c.symbols_in_use-symbols.ensures (used_each sg.symbols.now sg.counts.symbols (symbols_there_lem (listed_lent h) (listed_counted h)) (SymbolFormed c.args.text.now sg.counts.sorts sg.counts.rules) h.symbols_formed))))

pub returns-then-not-are_rules_of : goal.returns-then-not-are_rules_of
returns-then-not-are_rules_of c =
    let sg = c.args.signature in
    checked (tells_no (λ h. tells_false c.are_rules_of.ensures c.if-not-are_rules_of.true
    (rw (c.symbols_in_use-symbols.ensures, symbols_used sg.symbols.now sg.counts.symbols (symbols_there_lem (listed_lent h) (listed_counted h)) c.args.text.now) (listed_rules h))))

pub are_listed-requires : goal.are_listed-requires
are_listed-requires c =
    let sg = c.args.signature in
    let lent = holds c.is_lent.ensures c.if-not-is_lent.false-raw in
    let counted = holds c.is_counted.ensures c.if-not-is_counted.false-raw in
    let there = symbols_there_lem lent counted in
    rw (c.symbols_in_use-symbols.ensures, c.rules_in_use-rules.ensures)
    (clauses_asked lent counted
    (each_used sg.symbols.now sg.counts.symbols there (SymbolFormed c.args.text.now sg.counts.sorts sg.counts.rules) (rw c.symbols_in_use-symbols.ensures at (holds c.are_symbols_formed.ensures c.if-not-are_symbols_formed.false-raw)))
    (holds c.are_rules_of.ensures c.if-not-are_rules_of.false-raw))

pub returns : goal.returns
returns c =
    let sg = c.args.signature in
    let text = c.args.text.now in
    let lent = holds c.is_lent.ensures c.if-not-is_lent.false-raw in
    let counted = holds c.is_counted.ensures c.if-not-is_counted.false-raw in
    let sorts_there = sorts_there_lem lent counted in
    let symbols_there = symbols_there_lem lent counted in
    let rules_there = rules_there_lem lent counted in
    let symbols_are = symbols_used sg.symbols.now sg.counts.symbols symbols_there text in
    let formed = each_used sg.symbols.now sg.counts.symbols symbols_there (SymbolFormed text sg.counts.sorts sg.counts.rules) (rw c.symbols_in_use-symbols.ensures at (holds c.are_symbols_formed.ensures c.if-not-are_symbols_formed.false-raw)) in
    checked (same
    (λ h. listed lent counted
    (each_used sg.sorts.now sg.counts.sorts sorts_there (Named text) (holds c.are_sorts_named.ensures c.if-not-are_sorts_named.false-raw))
    (rw (c.symbols_in_use-symbols.ensures, sorts_used sg.sorts.now sg.counts.sorts sorts_there text, symbols_are) at (holds c.are_names_distinct.ensures c.if-not-are_names_distinct.false-raw))
    formed
    (rw (c.symbols_in_use-symbols.ensures, symbols_are) at (holds c.are_rules_of.ensures c.if-not-are_rules_of.false-raw))
    (clauses_listed text sg.words.now sg.symbols.now sg.rules.now sg.counts.symbols sg.counts.rules symbols_there rules_there (λ i l. (formed i l).clauses) h))
    (λ h. clauses_used text sg.words.now sg.symbols.now sg.rules.now sg.counts.symbols sg.counts.rules symbols_there rules_there (λ i l. (formed i l).clauses) h.clauses_formed)
    (rw (c.symbols_in_use-symbols.ensures, c.rules_in_use-rules.ensures) at (c.are_listed.ensures text)))
