-- `read_lines` meets its contract: each line that is taken is read behind those before it.
use mathlib.Core.Path.{◌≡◌, refl, sym, ap, subst, ◌∙◌}
use Prim.Native.Nat.{◌≤◌, ◌<◌, ◌-◌, ◌+◌}
use lib.ListN.{length, drop, take, length-drop}
use Rattle.std.specs.Prelude.{Ok}
use Rattle.refusals.specs.Refused.{handed_on}
use Rattle.words.specs.Tokens.{and_then, read_lines}
use Rattle.words.specs.Tokens.Reading.{tokens}
use Rattle.words.specs.Rows.{outcome}
use Rattle.words.specs.Lexer.{count_of}
use Rattle.source_text.specs.TakenLines.{LineTaken}
use Rattle.source_text.proofs.Scans.{taken_within}
use Rattle.words.proofs.Readings.{then_nil, then_end, line_read, lines_past, stopped, with_part, read_on, refused_on, rows_on}
use borrow.Author.Rules.{rules}
use native.Mathlib.Omega.{arith}
use Rattle.words.proofs.tokens.read_lines.Goals.{In-Some}
use Rattle.words.proofs.tokens.read_lines.Goals as goal

-- The line that the loop is at is taken, and lies in the text.
module _ (c : In-Some) where
  line_taken : LineTaken c.args.all.text.now c.loop-code.code-iterator.at c.loop-code.code-iterator.line c.in-Some.code c.next.new.self
  line_taken = subst (λ s. LineTaken s c.loop-code.code-iterator.at c.loop-code.code-iterator.line c.in-Some.code c.next.new.self) c.loop-code.invariant.0 c.in-Some.ensures.steps.1

  line_fits : (c.loop-code.code-iterator.at + length c.in-Some.code.bytes.now < c.next.new.self.at) × (c.loop-code.code-iterator.at + length c.in-Some.code.bytes.now ≤ length c.args.all.text.now)
      × (c.next.new.self.at ≤ length c.args.all.text.now + 1)
  line_fits = taken_within c.args.all.text.now c.loop-code.code-iterator.at c.loop-code.code-iterator.line c.in-Some.code c.next.new.self line_taken

pub loop-code-init : goal.loop-code-init
loop-code-init c = rw c.into_iter-code-iterator.ensures.into_iter_gives (refl, search rules, search rules, refl, sym (then_nil _))

pub slice_bounds-read_code-count : goal.slice_bounds-read_code-count
slice_bounds-read_code-count c = omega (arith, c.requires, c.loop-code.invariant)

pub read_code-requires : goal.read_code-requires
read_code-requires c =
    let loop = c.loop-code in
    let taken = line_taken (goal.at.read_code-requires c).In-Some in
    let within = line_fits (goal.at.read_code-requires c).In-Some in
    record {
      lent = let room : length (drop loop.count loop.rows) ≡ length loop.rows - loop.count = length-drop loop.count loop.rows in omega (arith, c.requires, loop.invariant, within);
      small = omega (arith, c.requires, taken.start, within);
    }

pub returns-in_err-read : goal.returns-in_err-read
returns-in_err-read c =
    let read-code = c.read_code in
    let loop = c.loop-code in
    let args = c.args in
    let taken = line_taken (goal.at.returns-in_err-read c).In-Some in
    let within = line_fits (goal.at.returns-in_err-read c).In-Some in
    let inside : loop.count ≤ length loop.rows = omega (arith, c.requires, loop.invariant) in
    let before = take loop.count loop.rows in
    let after = with_part loop.rows loop.count read-code.new.rows in
    let q : c.from_residual.result ≡ read-code.result = handed_on c.from_residual.result c.from_residual.ensures.1 ∙ sym c.in_err-read.was in
    record {
      reads = ap (λ l. outcome l after) q ∙ sym (then_nil _
          ∙ line_read args.all.text.now loop.code-iterator.at loop.code-iterator.line c.in-Some.code c.next.new.self taken _ before (outcome read-code.result after) loop.invariant.4
          (refused_on read-code.result _ before read-code.new.rows after c.in_err-read.was ∙ ap (and_then (tokens before)) (read-code.ensures.reads ∙ then_nil _))
          ∙ stopped read-code.result after _ _ c.in_err-read.was);
      fits = rw q (omega (arith, read-code.ensures.fits, within));
      long = rows_on loop.count loop.rows read-code.new.rows inside read-code.ensures.long ∙ loop.invariant.3;
    }

pub overflow_add-count : goal.overflow_add-count
overflow_add-count c =
    let loop = c.loop-code in
    let within = line_fits (goal.at.overflow_add-count c).In-Some in
    let counted : count_of c.read_code.result ≡ c.in_ok-read.read = ap count_of c.in_ok-read.was in
    omega (arith, c.requires, loop.invariant, c.read_code.ensures.fits, within)

pub loop-code-preserved : goal.loop-code-preserved
loop-code-preserved c =
    let loop = c.loop-code in
    let read-code = c.read_code in
    let taken = line_taken (goal.at.loop-code-preserved c).In-Some in
    let within = line_fits (goal.at.loop-code-preserved c).In-Some in
    let inside : loop.count ≤ length loop.rows = omega (arith, c.requires, loop.invariant) in
    let before = take loop.count loop.rows in
    let counted : count_of read-code.result ≡ c.in_ok-read.read = ap count_of c.in_ok-read.was in (
      c.in-Some.ensures.steps.0 ∙ loop.invariant.0,
      omega (arith, loop.invariant, read-code.ensures.fits, within),
      omega (arith, loop.invariant, read-code.ensures.fits, within),
      rows_on loop.count loop.rows read-code.new.rows inside read-code.ensures.long ∙ loop.invariant.3,
      line_read c.args.all.text.now loop.code-iterator.at loop.code-iterator.line c.in-Some.code c.next.new.self taken _ before (outcome (Ok (loop.count + c.in_ok-read.read)) (with_part loop.rows loop.count read-code.new.rows)) loop.invariant.4
          (read_on loop.count c.in_ok-read.read loop.rows read-code.new.rows inside ∙ ap (and_then (tokens before)) (ap (λ l. outcome l read-code.new.rows) (sym c.in_ok-read.was) ∙ read-code.ensures.reads ∙ then_nil _)),
    )

pub returns : goal.returns
unfolding read_lines
returns c =
    let inv = c.loop-code.invariant in
    let past = rw inv.0 at c.in-None.ensures.steps.1 in
    record {
      reads = sym (then_nil _ ∙ inv.4 ∙ simp (lines_past c.args.all.text.now c.loop-code.code-iterator.at past, then_end));
      fits = inv.2;
      long = inv.3;
    }
