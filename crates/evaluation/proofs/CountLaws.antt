-- What an evaluation spends (document 01, "Evaluated terms" and 37): each call is a node of a tree that comes back, calls and words
-- only grow, and neither passes its limit.
-- The definitions that it speaks of are in specs/CountLaws.
use Rattle.std.specs.Prelude.{ℕ, suc, ◌+◌, ◌≤◌, ◌≡◌, refl, List, [], length}
use Rattle.std.proofs.Common.{arith, ap, ap₂, ◌∙◌, length-append}
use Rattle.terms.specs.Term.{Kind, Term, Terms, Syn}
use Rattle.terms.specs.Term.Kind.{one as single, many as several}
use Rattle.term_parser.specs.Source.{Arity, one}
use Rattle.term_parser.specs.Standing.{Written}
use Rattle.names.specs.Symbols.{Symbol}
use Rattle.patterns.specs.Patterns.{kind_of}
use Rattle.resolution.specs.Rules.{Rule, Tree, node, leaf, ◌◂◌, joined}
use Rattle.resolution.specs.Preorder.{preorder}
use Rattle.loader.specs.Signature.{Signature}
use Rattle.evaluation.specs.Calls.{Spent, returned, call_of}
use Rattle.evaluation.specs.Expressions.{evaluated, expression_of, evaluate_of, nothing_spent}
use Rattle.evaluation.specs.CallLaws.{Grown, with_call, with_words, KeptByCalls, Returning, KeptByTerms}
use Rattle.evaluation.proofs.CallLaws.{calls_keep, expressions_keep}
use Rattle.resolution.specs.Refutations.{nodes}
use Rattle.evaluation.specs.CountLaws.{SpentOn}

-- A listing has a line for each node.
pub nodes_listed : {s : Kind} (h : ℕ) (p : Tree s) → length (preorder h p) ≡ nodes p
nodes_listed h (node r g ps) = ap suc (nodes_listed (suc h) ps)
nodes_listed h leaf = refl
nodes_listed h (p ◂ ps) = length-append (preorder h p) (preorder h ps) ∙ ap₂ ◌+◌ (nodes_listed h p) (nodes_listed h ps)

nodes_joined : (ps qs : Tree several) → nodes (joined ps qs) ≡ nodes ps + nodes qs
nodes_joined leaf qs = omega arith
nodes_joined (p ◂ ps) qs = let h = nodes_joined ps qs in omega arith

module _ (limit : ℕ) where
  abbrev OfCall : ℕ → Spent → Tree single → Spent → Type 0
  OfCall n c p d = SpentOn limit c p d

  abbrev OfCalls : ℕ → Spent → Tree several → Spent → Type 0
  OfCalls n c ps d = SpentOn limit c ps d

  nothing_spent_lem : {s : Kind} (c : Spent) (p : Tree s) → nodes p ≡ 0 → SpentOn limit c p c
  nothing_spent_lem c p e = record { calls = omega arith; words = omega arith; few_calls = λ l. l; few_words = λ l. l }

  -- So many words more, and no call.
  spent_building : {s : Kind} (c d : Spent) (p : Tree s) (used : ℕ) → SpentOn limit c p d → Grown limit d.words used
      → SpentOn limit c p (with_words d used)
  spent_building c d p used h g =
      let l = h.words in
      let m = g.grows in
      record { calls = h.calls; words = omega arith; few_calls = h.few_calls; few_words = λ q. g.fits (h.few_words q) }

  -- On these trees, and then on those, which together have the nodes of r.
  spent_both : {s t u : Kind} (c d e : Spent) (p : Tree s) (q : Tree t) (r : Tree u) → nodes r ≡ nodes p + nodes q
      → SpentOn limit c p d → SpentOn limit d q e → SpentOn limit c r e
  spent_both c d e p q r n h k =
      let a = h.calls in
      let b = k.calls in
      let l = h.words in
      let m = k.words in
      record {
        calls = omega arith;
        words = omega arith;
        few_calls = λ o. k.few_calls (h.few_calls o);
        few_words = λ o. k.few_words (h.few_words o);
      }

  calls_spend : KeptByCalls limit OfCall OfCalls
  calls_spend = record {
    empty = λ n c. nothing_spent_lem c leaf refl;
    next = λ n c d e used p ps g h k.
        spent_both c (with_words c used) e leaf (p ◂ ps) (p ◂ ps) (omega arith) (spent_building c c leaf used (nothing_spent_lem c leaf refl) g)
        (spent_both (with_words c used) d e p ps (p ◂ ps) refl h k);
    whole = λ n c d i t ps used few h g.
        let a = h.calls in
        let k = spent_building (with_call c) d ps used h g in
        record { calls = omega arith; words = k.words; few_calls = λ q. k.few_calls few; few_words = k.few_words };
  }

  terms_spend : KeptByTerms limit OfCall OfCalls
  terms_spend = record {
    empty = λ depth c. nothing_spent_lem c leaf refl;
    building = λ depth c d ps used h g. spent_building c d ps used h g;
    call = λ depth c d p h. spent_both c d d p leaf (p ◂ leaf) refl h (nothing_spent_lem d leaf refl);
    both = λ depth c d e ps qs h k. spent_both c d e ps qs (joined ps qs) (nodes_joined ps qs) h k;
    deeper = λ depth c d ps h. h;
  }

module _ (limit : ℕ) (symbols : List Symbol) (rules : List Rule) where
  calls_spent : (levels f : ℕ) (vs : Terms) (c : Spent) → Returning (OfCall limit levels) c (call_of limit symbols rules levels f vs c)
  calls_spent = calls_keep limit symbols rules (OfCall limit) (OfCalls limit) (calls_spend limit)

  -- A call makes as many calls as its tree has nodes, itself among them.
  pub call_spends : (levels f : ℕ) (vs : Terms) (c : Spent) (v : Term) (p : Tree single) (d : Spent)
      → call_of limit symbols rules levels f vs c ≡ returned v p d → SpentOn limit c p d
  call_spends levels f vs c v p d e = let h = calls_spent levels f vs c in rw e at h

  -- A term makes as many calls as its trees have nodes.
  pub expression_spends : {n : Arity} (t : Written n) (sorts : List ℕ) (depth : ℕ) (c : Spent)
      (v : Syn (kind_of n)) (ps : Tree several) (d : Spent)
      → expression_of limit symbols rules t sorts depth c ≡ evaluated v ps d → SpentOn limit c ps d
  expression_spends t sorts depth c v ps d e =
      let h = expressions_keep limit symbols rules (OfCall limit) (OfCalls limit) calls_spent (terms_spend limit) t sorts depth c in
      rw e at h

-- An evaluation makes as many calls as its trees have nodes, at most 10,000, and uses at most the words that it may.
pub evaluation_spends : (limit : ℕ) (S : Signature) (t : Written one) (v : Term) (ps : Tree several) (d : Spent)
    → evaluate_of limit S t ≡ evaluated v ps d
    → (d.calls ≡ nodes ps) × (nodes ps ≤ 10000) × (d.words ≤ limit)
evaluation_spends limit S t v ps d e =
    let h = expression_spends limit S.symbols S.rules t [] 0 nothing_spent v ps d e in
    let a = h.calls in
    let l = h.few_calls (omega arith) in
    (omega arith, omega arith, h.few_words (omega arith))
