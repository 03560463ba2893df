-- What the contract of `evaluate` gives its caller (document 01, "Evaluated terms"): 1 is only for what is not ready, and then nothing is
-- written; a refusal has one of document 01's numbers; and a value comes with derivations over the signature's rules.
use Rattle.std.specs.Prelude.{ℕ, ◌-◌, true}
use native.Mathlib.Omega.{arith}
use Rattle.std.proofs.Math.Path.{◌≡◌, refl, subst}
use Rattle.std.proofs.Common.{sym, ap, ◌∙◌}
use mathlib.Core.List.{List, [], ◌∷◌}
use Rattle.words.specs.declared.Limits.{Limits}
use Rattle.terms.specs.Numbers.{same, same_refl, by_bool, true_false, or_left, or_right}
use Rattle.terms.specs.Term.Kind.{many as several}
use Rattle.arena.specs.Cells.{cells, denote}
use Rattle.term_parser.specs.Source.{one}
use Rattle.term_parser.specs.Standing.{Written}
use Rattle.names.specs.Symbols.{Rows}
use Rattle.resolution.specs.Rules.{Tree, Derivation}
use Rattle.resolution.specs.Preorder.{preorder}
use Rattle.resolution.specs.Fresh.{elem}
use Rattle.signature.specs.Storage.{SignatureStore, symbols_in, rules_in, signature_of}
use Rattle.tree_rows.specs.Trees.{entries_from}
use Rattle.tree_rows.proofs.TreeLaws.{lists_preorder}
use Rattle.evaluation.specs.Expressions.{is_forward_call, Evaluated, failed, evaluated, evaluate_of, nothing_spent}
use Rattle.evaluation.specs.Derivations.{ClauseForm}
use Rattle.evaluation.specs.EvaluationLaws.{Ends}
use Rattle.evaluation.proofs.EvaluationLaws.{expression_derives, forward_answered}
use Rattle.evaluation.specs.NumberLaws.{evaluation_refusals, OneOf}
use Rattle.evaluation.proofs.NumberLaws.{never_by_1, expression_numbered}
use Rattle.evaluator.specs.Storage.{Results, most_words}
use Rattle.evaluator.specs.Evaluating.{written_in, Ready, Left, Evaluating}
use Rattle.evaluator.specs.ProgramLaws.{listed_clauses, listed_there}
use Rattle.function_calls.specs.Calls.{outcome}
use Rattle.function_calls.specs.declared.calls.Outcome.{Outcome}
use Rattle.std.specs.Prelude.{Result, Ok, Err}
use Rattle.refusals.specs.declared.Refusal.{Refusal}
use Rattle.refusals.specs.Refused.{Refuses}
use Rattle.clause_matching.proofs.Forming.{ok_is}

-- What stands in storage beside the value of a term.
pub record DerivationsLeft (text : List ℕ) (sg : SignatureStore) (term : Written one) (value calls : ℕ) (b' : Results) : Type 0 where
  pub trees : Tree several
  -- the rows of trees are their preorder, from height 1 on;
  pub rows_are : entries_from 0 b'.words b'.trees 0 calls ≡ preorder 1 trees
  -- each of them is a derivation over the signature's rules;
  pub derivations : Derivation (rules_in text sg) trees
  -- the last tree of a forward call has the function on its arguments for its root, with the value as the last argument.
  pub ends : is_forward_call (symbols_in text sg) term ≡ true → Ends trees (denote 0 (cells b'.words) value)

refuses_one : (r : Result Outcome Refusal) (m n : ℕ) → Refuses r m → Refuses r n → m ≡ n
refuses_one (Ok e) m n h k = absurd h
refuses_one (Err refusal) m n h k = sym h ∙ k

module _ {text : List ℕ} {limits : Limits} {sg : SignatureStore} {rows : Rows} {at : ℕ} {b : Results} {r : Result Outcome Refusal} {b' : Results}
    (done : Evaluating text limits sg rows at b r b') where
  -- What a term that is ready comes to.
  abbrev comes : Ready text limits sg rows at b → Evaluated one
  comes h = evaluate_of (most_words limits) (signature_of text sg) (written_in h.readable)

  -- If that is a refusal, it is by a number of an evaluation.
  ready_numbered : Ready text limits sg rows at b → (e : ℕ) → Refuses r e → OneOf evaluation_refusals e
  unfolding signature_of
  ready_numbered h e q = go (comes h) refl (done.ready h)
    where
      go : (o : Evaluated one) → comes h ≡ o → Left text sg b o r b' → OneOf evaluation_refusals e
      go (failed n) p l =
          subst (OneOf evaluation_refusals) (refuses_one r n e l.answer q)
          (expression_numbered (most_words limits) (symbols_in text sg) (rules_in text sg) (listed_clauses text sg h.readable.signature)
          (listed_there text sg h.readable.signature) (written_in h.readable) [] 0 nothing_spent n p)
      go (evaluated v ps c) p l = absurd (rw l.answer at q)

  -- Only what is not ready is refused by 1, and then nothing is written.
  pub refused_by_1_only_unready : Refuses r 1 → (Ready text limits sg rows at b → ⊥) × (b' ≡ b)
  refused_by_1_only_unready q =
      let unready : Ready text limits sg rows at b → ⊥ = λ h. never_by_1 1 (ready_numbered h 1 q) refl in
      (unready, (done.unready unready).2)

  -- A refusal has one of document 01's numbers: 1, 20, 21, 26, or 29 to 37.
  pub refused_by_number : (e : ℕ) → Refuses r e → OneOf (1 ∷ evaluation_refusals) e
  refused_by_number e q = by_bool (elem e (1 ∷ evaluation_refusals)) (λ k. k)
      (λ k. let unready : Ready text limits sg rows at b → ⊥ = λ h.
      true_false (or_right (same e 1) (elem e evaluation_refusals) (ready_numbered h e q)) k in
      let m : 1 ≡ e = rw (done.unready unready).0 at q in
      subst (OneOf (1 ∷ evaluation_refusals)) m one_of_them)
    where
      one_of_them : OneOf (1 ∷ evaluation_refusals) 1
      one_of_them = or_left (same 1 1) (elem 1 evaluation_refusals) (same_refl 1)

  -- A value comes with derivations.
  pub value_derives : (h : Ready text limits sg rows at b) (value calls used : ℕ) → r ≡ outcome value calls used
      → DerivationsLeft text sg (written_in h.readable) value calls b'
  unfolding signature_of
  value_derives h value calls used q = go (comes h) refl (done.ready h)
    where
      form : ClauseForm (symbols_in text sg) (rules_in text sg)
      form = listed_clauses text sg h.readable.signature

      go : (o : Evaluated one) → comes h ≡ o → Left text sg b o r b' → DerivationsLeft text sg (written_in h.readable) value calls b'
      go (failed n) p l = absurd (rw q at l.answer)
      go (evaluated v ps c) p l =
          let a = ok_is (sym l.answer ∙ q) in
          let x : l.value ≡ value = ap (λ (e : Outcome). e.value) a in
          let k : c.calls ≡ calls = ap (λ (e : Outcome). e.spent.calls) a in
          let e = lists_preorder 0 0 b'.words c.words b'.trees 0 1 ps c.calls l.listed in
          let n : c.calls - 0 ≡ calls = omega arith in
          let d = expression_derives (most_words limits) (symbols_in text sg) (rules_in text sg) form (written_in h.readable) [] 0
          nothing_spent in
          let is : denote 0 (cells b'.words) value ≡ v = ap (denote 0 (cells b'.words)) (sym x) ∙ l.denotes in
          record {
            trees = ps;
            rows_are = rw n at e;
            derivations = rw p at d;
            ends = λ f.
                let z = forward_answered (most_words limits) (symbols_in text sg) (rules_in text sg) form (written_in h.readable)
                nothing_spent f in
                let z' : Ends ps v = rw p at z in
                rw is z';
          }
