-- `is_node` meets its contract: what the chain tells of each argument's reference, by its address.
use Prim.Native.Nat.{ℕ, ◌+◌, ◌-◌, ◌<◌}
use mathlib.Core.Path.{◌≡◌}
use native.Mathlib.Omega.{arith}
use borrow.Author.Rules.{rules}
use Rattle.std.proofs.lemmas.Iterator.{YieldsList-from_slice, cases_from_all}
use Rattle.arena.specs.Cells.{cells, arity_of, Reference}
use Rattle.arena.specs.Arguments.{arguments_in}
use Rattle.bindings.specs.Checking.{tells_iff, tells_each}
use Rattle.checks.proofs.NodeLaws.{node_formed, node_arguments}
use Rattle.checks.proofs.nodes.is_node.Goals as goal

pub returns : goal.returns
returns c =
    let t = c.args.terms in
    let w = t.words.now in
    let a = c.args.address in
    let here : t.room + a - t.room ≡ a = omega arith in
    let Good : ℕ → Type 0 = Reference t.room (cells w) t.variables a in
    let header = rw here at c.header-header.ensures in
    let fits : a + arity_of (cells w a) < t.used = rw (c.arity_of.ensures, header) at c.if-terms-address.false in
    let part = rw here at c.arguments.ensures in
    let told = tells_each Good (arguments_in w a) c.all.result
    (cases_from_all _ _ c.all.result Good (λ r. Good r → ⊥) c.all.ensures.ran (YieldsList-from_slice (arguments_in w a) cc) (λ r q k. (search rules, search rules)) (λ r q k. search rules)) in
    tells_iff
    (node_formed t.room w t.variables t.used a fits (omega arith))
    (node_arguments t.room w t.variables t.used a fits (omega arith) (omega (arith, c.if-header-lt-HEADERS.false, header)))
    told
