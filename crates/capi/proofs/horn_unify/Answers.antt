-- `horn_unify` meets its contract: what is not ready is refused, and else the answer is that of `unify`, as one number.
use borrow.Author.Rules.{rules}
use mathlib.Core.Path.{sym}
use Rattle.std.specs.Prelude.{is_some, unwrap_or}
use Rattle.unifier.specs.Lending.{unified_lent}
use Rattle.capi.specs.Unification.{accepted}
use Rattle.capi.proofs.horn_unify.Goals as goal

pub returns : goal.returns
returns c =
    let lent = c.unify-ended.ensures.lent in
    accepted (c.is_ready.ensures.tells.yes c.if-not-is_ready.false) (record {
      unified = is_some c.unify-ended.result;
      bound = unwrap_or c.unify-ended.result c.args.bound;
      packed = c.packed.ensures;
      ended = rw (sym c.is_ready.ensures.kept)
          (unified_lent (search (rules, lent.links)) (search (rules, lent.marks)) (search (rules, lent.stack)) c.unify-ended.ensures.unified);
    })
