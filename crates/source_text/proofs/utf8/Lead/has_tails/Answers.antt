-- `has_tails` meets its contract: the first byte is tested by its own range, and the others by that of all tails.
use mathlib.Core.Path.{◌≡◌, sym, ap, ◌∙◌}
use mathlib.Core.Bool.{true, false, ◌&&◌}
use mathlib.Core.List.{◌∷◌}
use Prim.Native.Nat.{◌≤◌, ◌-◌}
use native.Mathlib.Omega.{arith}
use lib.ListN.{length, take}
use borrow.Author.Rules.{rules}
use borrow.Author.Tests.{tests}
use Rattle.std.proofs.lemmas.Iterator.Search.{all_from_yields_List}
use Rattle.std.proofs.lemmas.Iterator.{YieldsList-from_slice}
use Rattle.std.specs.List.{list_all}
use Rattle.source_text.specs.Bytes.{within}
use Rattle.source_text.proofs.Encodings.{tails_by, tails_none, tails_long}
use Rattle.source_text.proofs.utf8.Lead.has_tails.Goals as goal

pub returns-in_default : goal.returns-in_default
returns-in_default c = sym (tails_long (c.args.self.length - 1) c.args.self.low c.args.self.high c.args.rest.now (omega (arith, c.in_default.ensures.lookup)))

pub returns-in_default-split_first : goal.returns-in_default-split_first
returns-in_default-split_first c = sym (tails_none c.args.rest.now (c.args.self.length - 1) c.args.self.low c.args.self.high (let n : length c.in-Some.tails.now ≡ (c.args.self.length - 1) = search rules in omega (arith, c.in_default-split_first.ensures.cases)))

pub returns-then-contains : goal.returns-then-contains
returns-then-contains c =
    let s : (c.args.self.length - 1) ≤ length c.args.rest.now = search rules in
    let e : take (c.args.self.length - 1) c.args.rest.now ≡ c.in-Some-split_first.first.now ∷ c.in-Some-split_first.others.now = (let p : take (c.args.self.length - 1) c.args.rest.now ≡ c.in-Some.tails.now = search rules in p ∙ c.in-Some-split_first.ensures.cases.0) in
    let r : c.all.result ≡ list_all (within 0x80 0xBF) c.in-Some-split_first.others.now = all_from_yields_List (within 0x80 0xBF) _ _ c.all.result c.all.ensures.ran (YieldsList-from_slice c.in-Some-split_first.others.now cc) (λ x b q e. (search rules, search rules)) in
    let b : within c.args.self.low c.args.self.high c.in-Some-split_first.first.now ≡ true = search (rules, tests) in
    r ∙ sym (tails_by _ _ _ _ _ _ s e ∙ ap (λ t. t && list_all (within 0x80 0xBF) c.in-Some-split_first.others.now) b)

pub returns-else-contains : goal.returns-else-contains
returns-else-contains c =
    let s : (c.args.self.length - 1) ≤ length c.args.rest.now = search rules in
    let e : take (c.args.self.length - 1) c.args.rest.now ≡ c.in-Some-split_first.first.now ∷ c.in-Some-split_first.others.now = (let p : take (c.args.self.length - 1) c.args.rest.now ≡ c.in-Some.tails.now = search rules in p ∙ c.in-Some-split_first.ensures.cases.0) in
    let b : within c.args.self.low c.args.self.high c.in-Some-split_first.first.now ≡ false = search (rules, tests) in
    c.if-contains.false ∙ sym (tails_by _ _ _ _ _ _ s e ∙ ap (λ t. t && list_all (within 0x80 0xBF) c.in-Some-split_first.others.now) b)
