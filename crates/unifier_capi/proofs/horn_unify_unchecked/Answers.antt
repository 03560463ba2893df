-- `horn_unify_unchecked` meets its contract: what `unify` ensures, and its answer as one number.
use borrow.Author.Rules.{rules}
use Rattle.std.specs.Prelude.{is_some, unwrap_or}
use Rattle.unifier.specs.Lending.{unified_lent}
use Rattle.unifier_capi.proofs.horn_unify_unchecked.Goals as goal

pub returns : goal.returns
returns c =
    let lent = c.unify-ended.ensures.lent in record {
      unified = is_some c.unify-ended.result;
      bound = unwrap_or c.unify-ended.result c.args.bound;
      packed = c.packed.ensures;
      ended = unified_lent (search (rules, lent.links)) (search (rules, lent.marks)) (search (rules, lent.stack)) c.unify-ended.ensures.unified;
    }
