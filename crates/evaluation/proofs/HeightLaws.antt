-- How high the trees of an evaluation are (document 01, "Evaluated terms"): a call that may nest so many calls returns a tree of at
-- most that height, so no tree of an evaluation is higher than 128.
-- The definitions that it speaks of are in specs/HeightLaws.
use Rattle.std.specs.Prelude.{ℕ, ◌-◌, ◌≤◌, ◌≡◌, List, []}
use Rattle.std.proofs.Common.{arith}
use Rattle.terms.specs.Term.{Term, Terms, Syn}
use Rattle.terms.specs.Term.Kind.{one as single, many as several}
use Rattle.term_parser.specs.Source.{Arity, one}
use Rattle.term_parser.specs.Standing.{Written}
use Rattle.names.specs.Symbols.{Symbol}
use Rattle.patterns.specs.Patterns.{kind_of}
use Rattle.resolution.specs.Rules.{Rule, Tree, leaf, ◌◂◌, joined}
use Rattle.loader.specs.Signature.{Signature}
use Rattle.evaluation.specs.Calls.{Spent, returned, call_of}
use Rattle.evaluation.specs.Expressions.{max_depth, evaluated, expression_of, evaluate_of, nothing_spent}
use Rattle.evaluation.specs.CallLaws.{KeptByCalls, Returning, KeptByTerms}
use Rattle.evaluation.proofs.CallLaws.{calls_keep, expressions_keep}
use Rattle.evaluation.specs.HeightLaws.{Tall, height}

heights_joined : (n : ℕ) (ps qs : Tree several) → height ps ≤ n → height qs ≤ n → height (joined ps qs) ≤ n
heights_joined n leaf qs h k = k
heights_joined n (p ◂ ps) qs h k = let l = heights_joined n ps qs (omega arith) k in omega arith

-- None of several trees is higher than they are together.
pub each_height : (ps : Tree several) (p : Tree single) (qs : Tree several) → height p ≤ height (joined ps (p ◂ qs))
each_height leaf p qs = omega arith
each_height (r ◂ ps) p qs = let h = each_height ps p qs in omega arith

abbrev NoHigher : ℕ → Spent → Tree several → Spent → Type 0
NoHigher n c ps d = height ps ≤ n

-- None of the trees of a term at a depth is higher than the levels that are left.
abbrev Within : ℕ → Spent → Tree several → Spent → Type 0
Within depth = NoHigher (max_depth - depth)

module _ (limit : ℕ) where
  calls_tall : KeptByCalls limit Tall NoHigher
  calls_tall = record {
    empty = λ n c. omega arith;
    next = λ n c d e used p ps g h k. let l = h.most in omega arith;
    whole = λ n c d i t ps used few h g. record { some = omega arith; most = omega arith };
  }

  terms_tall : KeptByTerms limit Tall Within
  terms_tall = record {
    empty = λ depth c. omega arith;
    building = λ depth c d ps used h g. h;
    call = λ depth c d p h. let l = h.most in omega arith;
    both = λ depth c d e ps qs h k. heights_joined (max_depth - depth) ps qs h k;
    deeper = λ depth c d ps h. omega arith;
  }

module _ (limit : ℕ) (symbols : List Symbol) (rules : List Rule) where
  calls_low : (levels f : ℕ) (vs : Terms) (c : Spent) → Returning (Tall levels) c (call_of limit symbols rules levels f vs c)
  calls_low = calls_keep limit symbols rules Tall NoHigher (calls_tall limit)

  -- The tree of a call for which so many nested calls are allowed has at least one level and at most so many.
  pub call_height : (levels f : ℕ) (vs : Terms) (c : Spent) (v : Term) (p : Tree single) (d : Spent)
      → call_of limit symbols rules levels f vs c ≡ returned v p d → (1 ≤ height p) × (height p ≤ levels)
  call_height levels f vs c v p d e =
      let h = calls_low levels f vs c in
      let k : Tall levels c p d = rw e at h in
      (k.some, k.most)

  -- Of the trees of a term at a depth none is higher than 128 less the depth.
  pub expression_height : {n : Arity} (t : Written n) (sorts : List ℕ) (depth : ℕ) (c : Spent)
      (v : Syn (kind_of n)) (ps : Tree several) (d : Spent)
      → expression_of limit symbols rules t sorts depth c ≡ evaluated v ps d → height ps ≤ max_depth - depth
  expression_height t sorts depth c v ps d e =
      let h = expressions_keep limit symbols rules Tall Within calls_low (terms_tall limit) t sorts depth c in
      rw e at h

-- No tree of an evaluation is higher than 128.
pub evaluation_height : (limit : ℕ) (S : Signature) (t : Written one) (v : Term) (ps : Tree several) (d : Spent)
    → evaluate_of limit S t ≡ evaluated v ps d → height ps ≤ 128
evaluation_height limit S t v ps d e = expression_height limit S.symbols S.rules t [] 0 nothing_spent v ps d e
