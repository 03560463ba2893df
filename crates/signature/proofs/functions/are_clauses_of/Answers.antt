-- `are_clauses_of` meets its contract: the clauses are the rules from the symbol's first one on.
use Rattle.std.proofs.Common.{rules, ◌≡◌, ◌≤◌, ◌∙◌, [], ◌+◌, ◌-◌, ◌<◌, length, take, drop, arith}
use Rattle.std.proofs.lemmas.Iterator.{YieldsList-from_slice}
use Rattle.std.proofs.lemmas.Iterator.Adapters.{serves_from_places}
use Rattle.names.specs.SearchLaws.{get_d_any}
use Rattle.names.specs.Symbols.{row_at, column, symbols_of}
use Rattle.rule_checks.specs.RuleForm.{rule_in}
use Rattle.loader.specs.Legal.{ClauseFormed}
use Rattle.signature.proofs.Laws.{same, all_tell}
use Rattle.signature.proofs.UsedLaws.{part_length, part_row}
use Rattle.signature.proofs.functions.are_clauses_of.Goals as goal

pub all-requires-clause-callable : goal.all-requires-clause-callable
all-requires-clause-callable c =
    let row = row_at c.args.symbols.now c.args.i in
    let table = c.args.rules.now in
    let first = column row 4 in
    let w = c.requires.0.within c.args.i c.requires.1 in
    let n = part_length table first (first + column row 5) w in
    serves_from_places (YieldsList-from_slice _ cc) (λ x q r. search rules)
    (λ x k (l : k < length (take (first + column row 5 - first) (drop first table))) e.
    let same : x.now ≡ row_at table (first + k) = e ∙ get_d_any _ k _ [] l ∙ part_row table first (first + column row 5) k (omega arith) in
    let few : column x.now 4 ≤ 16 = rw same (c.requires.0.premises (first + k) (omega arith)) in
    search rules)

pub returns : goal.returns
returns c =
    let row = row_at c.args.symbols.now c.args.i in
    let table = c.args.rules.now in
    let first = column row 4 in
    let n = part_length table first (first + column row 5) (c.requires.0.within c.args.i c.requires.1) in
    λ text. same
    (λ h a (l : a < column row 5). rw (part_row table first (first + column row 5) a (omega arith)) at (h a (omega arith)))
    (λ h a (l : a < length (take (first + column row 5 - first) (drop first table))). rw (part_row table first (first + column row 5) a (omega arith)) (h a (omega arith)))
    (all_tell (λ r. ClauseFormed (symbols_of text c.args.symbols.now (length c.args.symbols.now)) c.args.i (rule_in text c.args.words.now r)) [] _ _ c.all.result c.all.ensures.ran
    (YieldsList-from_slice _ cc) (λ x b q e. (search rules, search rules)))
