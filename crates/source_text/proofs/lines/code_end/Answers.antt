-- `code_end` meets its contract: the first place where the code ends.
use mathlib.Core.Bool.{Bool, true, false}
use mathlib.Core.Path.{◌≡◌, sym, ap, ◌∙◌}
use native.Mathlib.Omega.{arith}
use Prim.Native.Nat.{ℕ, ◌+◌, ◌-◌}
use lib.ListN.{length, take, drop, length-drop}
use borrow.Author.Rules.{rules}
use borrow.Author.Tests.{tests}
use Rattle.std.proofs.lemmas.Iterator.{serves_from_Range, first_from_Range}
use Rattle.std.proofs.lemmas.List.{take_all}
use Rattle.source_text.specs.Lines.{ends_code}
use Rattle.source_text.proofs.Scans.{scan_found, code_scan}
use Rattle.source_text.proofs.lines.code_end.Goals as goal

pub find-requires-clause-callable : goal.find-requires-clause-callable
find-requires-clause-callable c = serves_from_Range (λ x q r. search (rules, tests)) (λ x h k. search (rules, tests))

pub returns : goal.returns
returns c =
    let text = c.args.text.now in
    let whole : (i : ℕ) → take (length text - i) (drop i text) ≡ drop i text = λ i. take_all _ _ (simp length-drop (omega arith)) in
    let ends : (i : ℕ) (b : Bool) → ends_code (take (length text - i) (drop i text)) ≡ b → ends_code (drop i text) ≡ b = λ i b e. rw (whole i) at e in
    let first = first_from_Range _ _ _ _ (λ i. ends_code (drop i text) ≡ true) (λ i. ends_code (drop i text) ≡ false) c.find.ensures.ran (λ x q k. ends x true (search (rules, tests))) (λ x q k. (search (rules, tests), ends x false (search (rules, tests)))) in
    c.unwrap_or.ensures ∙ scan_found ends_code text c.args.at c.find.result c.requires first ∙ ap (λ l. c.args.at + length l) (sym (code_scan (drop c.args.at text)))
