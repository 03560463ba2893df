-- `word_length` meets its contract: the first place where no word goes on.
use mathlib.Core.Bool.{true, false, not}
use mathlib.Core.Path.{◌≡◌, ◌∙◌}
use mathlib.Core.List.{List}
use native.Mathlib.Nat.{zero-add}
use native.Mathlib.Omega.{arith}
use Prim.Native.Nat.{ℕ}
use lib.ListN.{drop}
use borrow.Author.Rules.{rules}
use borrow.Author.Tests.{tests}
use Rattle.std.proofs.lemmas.Iterator.{serves_from_Range, first_from_Range}
use Rattle.source_text.specs.Characters.{character_of}
use Rattle.source_text.proofs.Scans.{scan_found}
use Rattle.words.specs.Tokens.{is_word, word_of}
use Rattle.words.proofs.tokens.word_length.Goals as goal

pub find-requires-clause-callable : goal.find-requires-clause-callable
find-requires-clause-callable c = serves_from_Range (λ x q r. search (rules, tests)) (λ x h k. search (rules, tests))

pub returns : goal.returns
unfolding word_of
returns c =
    let rest = c.args.rest.now in
    let ends = λ (s : List ℕ). not (is_word (character_of s).class) in
    let first = first_from_Range _ _ _ _ (λ i. ends (drop i rest) ≡ true) (λ i. ends (drop i rest) ≡ false) c.find.ensures.ran (λ x q k. search (rules, tests)) (λ x q k. search (rules, tests)) in
    c.unwrap_or.ensures ∙ scan_found ends rest 0 c.find.result (omega arith) first ∙ zero-add _
