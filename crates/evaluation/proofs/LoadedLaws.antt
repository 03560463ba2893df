-- Evaluation over a loaded signature (document 01, "Evaluated terms"): the clauses of a legal signature are in form, so every tree of
-- an evaluation is a derivation, and the last one is that of the function called, with the value as the last argument of its root.
use Rattle.std.specs.Prelude.{ℕ, zero, suc, ◌+◌, ◌≤◌, ◌<◌, ◌≡◌, refl, true, List, [], ◌∷◌, length, get_or}
use Rattle.std.proofs.Common.{arith, ap}
use Rattle.std.proofs.Math.Option.{some}
use Rattle.std.proofs.lemmas.List.{length-map}
use Rattle.std.proofs.Math.ListN.{get_or-map, get_or-eq_default}
use Rattle.terms.specs.Numbers.{by_less, none_some}
use Rattle.terms.specs.Term.{var, app, nil, cons, Term, Terms, count}
use Rattle.terms.specs.Term.Kind.{many as several}
use Rattle.term_parser.specs.Source.{one}
use Rattle.term_parser.specs.Standing.{Written}
use Rattle.parser.specs.Declarations.{Declared}
use Rattle.names.specs.Symbols.{Symbol, no_symbol, symbol_at}
use Rattle.resolution.specs.Rules.{Rule, rule_at_lem, Tree, Derivation}
use Rattle.rules.specs.LayingLaws.{Fits, Symbol as Applied}
use Rattle.rules.specs.PatternLaws.{arities_of}
use Rattle.loader.specs.Signature.{Signature, loaded, load_of}
use Rattle.loader.specs.Legal.{RuleLegal, Calls, ClauseFormed, no_rule, Legal}
use Rattle.loader.specs.LegalLaws.{load_legal}
use Rattle.evaluation.specs.Calls.{Spent}
use Rattle.evaluation.specs.Expressions.{is_forward_call, evaluated, evaluate_of}
use Rattle.evaluation.specs.MatchingLaws.{Some}
use Rattle.evaluation.specs.Derivations.{JudgmentOf, Judgments, ClauseOf, ClauseForm}
use Rattle.evaluation.specs.EvaluationLaws.{Ends}
use Rattle.evaluation.proofs.EvaluationLaws.{evaluates_derives}

-- A rule that is found has its number, and is the one with that number.
rule_found : (rules : List Rule) (i : ℕ) (R : Rule) → rule_at_lem rules i ≡ some R → (i < length rules) × (get_or rules i no_rule ≡ R)
rule_found [] i R e = none_some e
rule_found (S ∷ rules) zero R e = (omega arith, cc)
rule_found (S ∷ rules) (suc i) R e = let h = rule_found rules i R e in let l = h.0 in (omega arith, h.1)

pub some_counted : (ts : Terms) → 0 < count ts → Some ts
some_counted nil l = absurd (omega arith)
some_counted (cons t ts) l = tt

-- Only a function has clauses.
pub is_function_lem : (mark clauses : ℕ) → mark ≤ 1 → (mark ≡ 0 → clauses ≡ 0) → 0 < clauses → mark ≡ 1
is_function_lem zero clauses l h k = let z = h refl in absurd (omega arith)
is_function_lem (suc mark) clauses l h k = omega arith

module _ (s : Signature) (legal : Legal s) where
  -- A function that is applied to its inputs is applied to its result.
  has_result : (g : ℕ) (ts : Terms) → (symbol_at s.symbols g).function ≡ 1 → Applied (arities_of s.symbols) g (count ts) → Some ts
  has_result g ts e a =
      let l = a.known in
      let m = length-map s.symbols (λ (f : Symbol). length f.inputs) in
      let n : get_or (arities_of s.symbols) g 0 ≡ length (symbol_at s.symbols g).inputs
      = get_or-map (λ (f : Symbol). length f.inputs) s.symbols g no_symbol in
      let o = a.own in
      let r = (legal.symbols g (omega arith)).result e in
      some_counted ts (omega arith)

  premises_judge : (ps : Terms) → Calls s.symbols ps → Fits (arities_of s.symbols) ps → Judgments ps
  premises_judge nil c f = tt
  premises_judge (cons (var x) ps) c f = c.0
  premises_judge (cons (app g ts) ps) c f = (has_result g ts c.0 f.0.0, premises_judge ps c.1 f.1)

  clause_of_lem : (f : ℕ) (R : Rule) → (symbol_at s.symbols f).function ≡ 1 → ClauseFormed s.symbols f R
      → RuleLegal s.symbols (length s.sorts) R → ClauseOf f R
  clause_of_lem f R e c l = record {
    concludes = concludes c.conclusion.0 c.conclusion.1;
    premised = premises_judge R.premises c.premises l.premises_fit;
  }
    where
      concludes : (ts : Terms) → R.conclusion ≡ app f ts → JudgmentOf f R.conclusion
      concludes ts q =
          let h = l.conclusion_fits in
          let k : Fits (arities_of s.symbols) (app f ts) = rw q at h in
          rw q (refl, has_result f ts e k.0)

  -- The clauses of a legal signature are in form.
  pub legal_clauses : ClauseForm s.symbols s.rules
  legal_clauses f j R m e = by_less f (length s.symbols)
      (λ l _.
      let h = rule_found s.rules ((symbol_at s.symbols f).first + j) R e in
      let own = legal.symbols f l in
      let function = is_function_lem (symbol_at s.symbols f).function (symbol_at s.symbols f).clauses own.mark own.others
      (omega arith) in
      let c = legal.clauses f l j m in
      let r = legal.rules ((symbol_at s.symbols f).first + j) h.0 in
      clause_of_lem f R function (rw h.1 at c) (rw h.1 at r))
      (λ l _. let z : symbol_at s.symbols f ≡ no_symbol = get_or-eq_default s.symbols no_symbol l in
      let k = ap (λ g. g.clauses) z in
      absurd (omega arith))

-- Of a text that was loaded every evaluation answers with derivations, and with a derivation of its own call.
pub loaded_derives : (nodes : ℕ) (text : List ℕ) (ds : List Declared) (S : Signature) → load_of nodes text ds ≡ loaded S
    → (limit : ℕ) (t : Written one) (v : Term) (ps : Tree several) (d : Spent) → is_forward_call S.symbols t ≡ true
    → evaluate_of limit S t ≡ evaluated v ps d
    → Derivation S.rules ps × Ends ps v
loaded_derives nodes text ds S e limit t v ps d q r =
    let h = evaluates_derives limit S (legal_clauses S (load_legal nodes text ds S e)) t q in
    let a = h.0 in
    let b = h.1 in
    let a' : Derivation S.rules ps = rw r at a in
    let b' : Ends ps v = rw r at b in
    (a', b')
