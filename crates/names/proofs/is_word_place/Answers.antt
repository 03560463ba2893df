-- `is_word_place` meets its contract: where the number of bytes is tested to be 1 to 64, what is left is the test that the word ends in the text.
use lib.ListN.{length}
use Prim.Native.Nat.{◌+◌}
use Rattle.std.proofs.lemmas.Bool.{lt-ltb, le-leb, leb-true}
use Rattle.names.proofs.is_word_place.Goals as goal

pub returns-then-size-le-LONGEST-clause-is : goal.returns-then-size-le-LONGEST-clause-is
returns-then-size-le-LONGEST-clause-is c = simp (lt-ltb 0 c.args.word.size c.if-size-le-LONGEST.true.0, le-leb c.args.word.size 64 c.if-size-le-LONGEST.true.1)

pub returns-then-size-le-LONGEST-clause-told : goal.returns-then-size-le-LONGEST-clause-told
returns-then-size-le-LONGEST-clause-told c = (
  λ t. record { inside = leb-true (c.args.word.start + c.args.word.size) (length c.args.text.now) t; some = c.if-size-le-LONGEST.true.0; short = c.if-size-le-LONGEST.true.1 },
  λ p. le-leb (c.args.word.start + c.args.word.size) (length c.args.text.now) p.inside,
)
