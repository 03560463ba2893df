-- `is_header` meets its contract: each way out is one case of the definition.
use mathlib.Core.Path.{sym}
use Rattle.arena.proofs.Checking.{header_low, header_unknown, header_other, header_own}
use Rattle.arena.proofs.form.is_header.Goals as goal

pub returns-then-word-lt-HEADERS : goal.returns-then-word-lt-HEADERS
returns-then-word-lt-HEADERS c = sym (header_low c.args.arities.now c.args.word c.if-word-lt-HEADERS.true)

pub returns-then-arity-arities : goal.returns-then-arity-arities
returns-then-arity-arities c =
    rw (c.arity_of-arity.ensures) (header_own c.args.arities.now c.args.word c.if-word-lt-HEADERS.false (rw (← c.symbol_of-symbol.ensures) c.if-symbol-arities.true)
    (rw (← c.symbol_of-symbol.ensures, ← c.arity_of-arity.ensures) c.if-arity-arities.true))

pub returns-else-arity-arities : goal.returns-else-arity-arities
returns-else-arity-arities c =
    sym (header_other c.args.arities.now c.args.word c.if-word-lt-HEADERS.false (rw (← c.symbol_of-symbol.ensures) c.if-symbol-arities.true)
    (rw (← c.symbol_of-symbol.ensures, ← c.arity_of-arity.ensures) c.if-arity-arities.false))

pub returns-else-symbol-arities : goal.returns-else-symbol-arities
returns-else-symbol-arities c = sym (header_unknown c.args.arities.now c.args.word c.if-word-lt-HEADERS.false (rw (← c.symbol_of-symbol.ensures) c.if-symbol-arities.false))
