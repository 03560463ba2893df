-- `clear_past` meets its contract: names, words and proof are cleared, and bindings and scratch stand.
use Rattle.std.proofs.Common.{refl, arith}
use Rattle.std.proofs.lemmas.Grind.{same_number_lists}
use Rattle.tree_rows.specs.Trees.{zero_tree}
use Rattle.prover.proofs.clearing.clear_past.Goals as goal

pub returns-clause-cleared : goal.returns-clause-cleared
returns-clause-cleared c = record {
  past = record {
    names_are = c.clear_session.ensures.names;
    words_are = c.clear_session.ensures.words;
    proof_is = c.fill.ensures.after (λ y h. same_number_lists y zero_tree h.long (λ k l. h.at k 0 0 (omega (arith, h.long))));
  };
  bindings = refl;
  links = refl;
  marks = refl;
  stack = refl;
}
