-- `moved_word` meets its contract: each way out is one case of the definition.
use mathlib.Core.Path.{sym}
use Rattle.arena.specs.CopyLaws.{moved_variable, moved_node, moved_header}
use Rattle.arena.proofs.copies.moved_word.Goals as goal

pub returns-then-word-lt-PATTERN_ROOM : goal.returns-then-word-lt-PATTERN_ROOM
returns-then-word-lt-PATTERN_ROOM c =
    sym (moved_variable c.args.places.now c.args.counter c.args.first c.args.base c.args.word c.if-word-lt-PATTERN_ROOM.true)

pub returns-then-word-lt-HEADERS : goal.returns-then-word-lt-HEADERS
returns-then-word-lt-HEADERS c =
    sym (moved_node c.args.places.now c.args.counter c.args.first c.args.base c.args.word c.if-word-lt-PATTERN_ROOM.false c.if-word-lt-HEADERS.true)

pub returns : goal.returns
returns c =
    sym (moved_header c.args.places.now c.args.counter c.args.first c.args.base c.args.word c.if-word-lt-HEADERS.false)
