-- `compare` is safe: what `equal` asks is what the tests before it accepted.
use mathlib.Core.Path.{sym, ◌∙◌}
use Rattle.arena.specs.FormLaws.{all_formed, argument_reference}
use Rattle.arena_main.proofs.Zeroes.{all_zero, as_long}
use native.Mathlib.Omega.{arith}
use lib.ListN.{length}
use Rattle.arena_main.proofs.compare.Goals as goal

pub equal-requires : goal.equal-requires
equal-requires c =
    let words = c.args.words.now in
    let used = length words in
    let clear = c.clear_from in
    let small = c.if-words in
    let room = c.if-words-links in
    let n = as_long c.args.links.now _ clear.ensures in
    record {
      formed = all_formed words used 64 2 _ (omega arith) (omega (arith, small.false)) (sym c.check_words.ensures ∙ c.if-not-check_words.false);
      small = omega (arith, small.false);
      words_in_lem = omega arith;
      scratch = omega (arith, n, room.false);
      zero_before = all_zero c.args.links.now _ clear.ensures;
      left = argument_reference (record { words = words; room = 64; variables = 2; from = 0 }) used c.args.a (sym c.is_argument.ensures ∙ c.if-not-is_argument.false);
      right = argument_reference (record { words = words; room = 64; variables = 2; from = 0 }) used c.args.b (sym c.is_argument-2.ensures ∙ c.if-not-is_argument-2.false);
    }
