-- `numeral` meets its contract: one law for each way out.
use mathlib.Core.Path.{refl}
use Prim.Native.Nat.{◌<◌, ◌≤◌}
use lib.ListN.{length}
use mathlib.Core.List.{[]}
use Rattle.names.specs.Symbols.{variables_of}
use Rattle.refusals.specs.Refused.{handed_on}
use Rattle.patterns.proofs.Numerals.{no_numerals, inside, number_refused, number_room, number_done}
use native.Mathlib.Omega.{arith}
use Rattle.patterns.proofs.numeral.Goals as goal

pub returns-in_err-numerals : goal.returns-in_err-numerals
returns-in_err-numerals c =
    let a = c.args in
    let h : length a.source.symbols.now ≤ length a.source.symbols.now = omega arith in
    rw (handed_on c.from_residual.result c.from_residual.ensures.1)
    (record {
      small = tt;
      going = tt;
      none_new = tt;
      same = λ vx. rw c.in_err-numerals.ensures.found.0 (no_numerals a.source.text.now a.source.symbols.now (length a.source.symbols.now) h a.n a.want (variables_of a.source.text.now vx a.from.variables) a.from.room a.words.now a.from.used c.in_err-numerals.ensures.found.1);
    })

pub returns-in_err-numeral_misfit : goal.returns-in_err-numeral_misfit
returns-in_err-numeral_misfit c =
    let a = c.args in
    let h : length a.source.symbols.now ≤ length a.source.symbols.now = omega arith in
    let ((ez, cz, lz), (ey, cy, ly)) = c.in_ok-numerals.ensures.found in
    let e = rw c.in_ok-numerals.ensures.same at (c.in_err-numeral_misfit.ensures a.source.text.now) in
    rw (handed_on c.from_residual-in_err-numeral_misfit.result c.from_residual-in_err-numeral_misfit.ensures.1)
    (record {
      small = tt;
      going = tt;
      none_new = tt;
      same = λ vx. number_refused a.source.text.now a.source.symbols.now (length a.source.symbols.now) h a.n a.want (variables_of a.source.text.now vx a.from.variables) a.from.room a.words.now a.from.used ez cz lz ey cy ly e.0 e.1;
    })

pub numeral_words-r-requires : goal.numeral_words-r-requires
numeral_words-r-requires c =
    let a = c.args in
    let h : length a.source.symbols.now ≤ length a.source.symbols.now = omega arith in
    let ((ez, cz, lz), (ey, cy, ly)) = c.in_ok-numerals.ensures.found in
    let (b, d) = inside a.source.text.now a.source.symbols.now (length a.source.symbols.now) h a.n a.want [] a.from.room a.words.now a.from.used ez cz lz ey cy ly in
    let l : a.n < a.from.room = number_room a.source.text.now a.source.symbols.now (length a.source.symbols.now) h a.n a.want [] a.from.room a.words.now a.from.used ez cz lz ey cy ly (rw c.in_ok-numerals.ensures.same at (c.in_ok-numeral_misfit.ensures a.source.text.now)) in
    (omega arith, omega arith, omega arith, omega arith)

pub overflow_mul-result : goal.overflow_mul-result
overflow_mul-result c =
    let a = c.args in
    let h : length a.source.symbols.now ≤ length a.source.symbols.now = omega arith in
    let ((ez, cz, lz), (ey, cy, ly)) = c.in_ok-numerals.ensures.found in
    let l : a.n < a.from.room = number_room a.source.text.now a.source.symbols.now (length a.source.symbols.now) h a.n a.want [] a.from.room a.words.now a.from.used ez cz lz ey cy ly (rw c.in_ok-numerals.ensures.same at (c.in_ok-numeral_misfit.ensures a.source.text.now)) in
    omega arith

pub overflow_add-result-2 : goal.overflow_add-result-2
overflow_add-result-2 c =
    let a = c.args in
    let h : length a.source.symbols.now ≤ length a.source.symbols.now = omega arith in
    let ((ez, cz, lz), (ey, cy, ly)) = c.in_ok-numerals.ensures.found in
    let l : a.n < a.from.room = number_room a.source.text.now a.source.symbols.now (length a.source.symbols.now) h a.n a.want [] a.from.room a.words.now a.from.used ez cz lz ey cy ly (rw c.in_ok-numerals.ensures.same at (c.in_ok-numeral_misfit.ensures a.source.text.now)) in
    omega arith

pub overflow_sub-result : goal.overflow_sub-result
overflow_sub-result c =
    let a = c.args in
    let h : length a.source.symbols.now ≤ length a.source.symbols.now = omega arith in
    let ((ez, cz, lz), (ey, cy, ly)) = c.in_ok-numerals.ensures.found in
    let l : a.n < a.from.room = number_room a.source.text.now a.source.symbols.now (length a.source.symbols.now) h a.n a.want [] a.from.room a.words.now a.from.used ez cz lz ey cy ly (rw c.in_ok-numerals.ensures.same at (c.in_ok-numeral_misfit.ensures a.source.text.now)) in
    omega arith

pub overflow_sub-result-2 : goal.overflow_sub-result-2
overflow_sub-result-2 c =
    let a = c.args in
    let h : length a.source.symbols.now ≤ length a.source.symbols.now = omega arith in
    let ((ez, cz, lz), (ey, cy, ly)) = c.in_ok-numerals.ensures.found in
    let l : a.n < a.from.room = number_room a.source.text.now a.source.symbols.now (length a.source.symbols.now) h a.n a.want [] a.from.room a.words.now a.from.used ez cz lz ey cy ly (rw c.in_ok-numerals.ensures.same at (c.in_ok-numeral_misfit.ensures a.source.text.now)) in
    omega arith

pub returns : goal.returns
returns c =
    let a = c.args in
    let h : length a.source.symbols.now ≤ length a.source.symbols.now = omega arith in
    let ((ez, cz, lz), (ey, cy, ly)) = c.in_ok-numerals.ensures.found in
    let q = rw c.in_ok-numerals.ensures.same at (c.in_ok-numeral_misfit.ensures a.source.text.now) in
    let l : a.n < a.from.room = number_room a.source.text.now a.source.symbols.now (length a.source.symbols.now) h a.n a.want [] a.from.room a.words.now a.from.used ez cz lz ey cy ly q in
    record {
      small = (omega arith, omega arith, omega arith, omega arith, omega arith);
      going = refl;
      none_new = refl;
      same = λ vx. number_done a.source.text.now a.source.symbols.now (length a.source.symbols.now) h a.n a.want (variables_of a.source.text.now vx a.from.variables) a.from.room a.words.now a.from.used ez cz lz ey cy ly q c.numeral_words-r.result _ c.numeral_words-r.ensures;
    }
