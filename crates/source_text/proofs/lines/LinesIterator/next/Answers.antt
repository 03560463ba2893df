-- `next` meets its contract: the code ends before the line does, and the next line starts past its end.
use mathlib.Core.Path.{refl, ap}
use Prim.Native.Nat.{◌+◌}
use native.Mathlib.Omega.{arith}
use Rattle.source_text.proofs.Scans.{code_fits, code_part, line_long, line_within}
use Rattle.source_text.proofs.lines.LinesIterator.next.Goals as goal

pub slice_bounds-code-end : goal.slice_bounds-code-end
slice_bounds-code-end c = omega (arith, code_fits c.args.self.now.text.now c.args.self.now.at c.code_end-end.result c.if-self.false c.code_end-end.ensures)

pub overflow_add-self : goal.overflow_add-self
overflow_add-self c =
    omega (arith, c.args.self.now.short, line_within c.args.self.now.text.now c.args.self.now.at c.code_end-end.result c.line_end.result c.if-self.false c.code_end-end.ensures c.line_end.ensures)

pub returns-clause-steps : goal.returns-clause-steps
returns-clause-steps c =
    let text = c.args.self.now.text.now in
    let at = c.args.self.now.at in (
      refl,
      record {
        inside = c.if-self.false;
        bytes = code_part text at c.code_end-end.result c.line_end.result c.if-self.false c.code_end-end.ensures c.line_end.ensures;
        start = refl;
        number = refl;
        next = ap (λ n. n + 1) (line_long text at c.code_end-end.result c.line_end.result c.if-self.false c.code_end-end.ensures c.line_end.ensures);
        counted = refl;
      },
    )
