-- `line_end` meets its contract: the first line feed ends the line.
use mathlib.Core.Path.{◌≡◌, refl, sym, ap, ◌∙◌}
use Prim.Native.Nat.{◌-◌}
use lib.ListN.{length, take, drop, length-drop}
use Rattle.std.proofs.lemmas.List.{take_all}
use Rattle.std.specs.Option.{unwrap_or}
use borrow.Author.Rules.{rules}
use borrow.Author.Tests.{tests}
use native.Mathlib.Omega.{arith}
use Rattle.std.proofs.lemmas.Iterator.{YieldsList-from_slice, IsFirst-from_position, index_from_first}
use Rattle.source_text.specs.Bytes.{up_to}
use Rattle.source_text.specs.Lines.{line_of}
use Rattle.source_text.proofs.Scans.{line_ends, line_goes_on}
use Rattle.source_text.proofs.lines.line_end.Goals as goal

pub returns : goal.returns
unfolding line_of up_to
returns c =
    let rest = drop c.args.at c.args.text.now in
    let full : take (length c.args.text.now - c.args.at) rest ≡ rest = take_all _ _ (simp length-drop (omega arith)) in
    let first = IsFirst-from_position _ _ _ (λ x. x ≡ 10) (λ x. x ≡ 10 → ⊥) c.position.ensures.ran (YieldsList-from_slice rest (c.iter.ensures.rest ∙ full)) (λ x q k. search (rules, tests)) (λ x q k. search (rules, tests)) in
    let ends = index_from_first (λ s. length (line_of s)) (λ x. x ≡ 10) (λ x. x ≡ 10 → ⊥) refl line_ends line_goes_on rest c.position.result first in
    let w : c.unwrap_or.result ≡ length (line_of rest) = c.unwrap_or.ensures ∙ ap (λ l. unwrap_or c.position.result (length l)) full ∙ sym ends in
    omega arith
