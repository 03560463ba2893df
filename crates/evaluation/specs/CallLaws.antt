-- An induction over calls, and one over written terms: what each step keeps holds of every tree that comes back, with what was spent
-- before and after it. Spending is all that a step is known by: building takes words, and a call is counted before its premises.
-- Here are the definitions; the theorems about them are in proofs/CallLaws.
use Prim.Native.Nat.{ℕ, suc, ◌-◌, ◌≤◌, ◌<◌}
use Rattle.terms.specs.Term.{Kind, Term}
use Rattle.terms.specs.Term.Kind.{one as single, many as several}
use Rattle.term_parser.specs.Source.{Arity}
use Rattle.resolution.specs.Rules.{Tree, node, leaf, ◌◂◌, joined}
use Rattle.evaluation.specs.Matching.{Built, barred, built}
use Rattle.evaluation.specs.Calls.{Spent, Called, refused, returned}
use Rattle.evaluation.specs.Calls.{max_calls}
use Rattle.evaluation.specs.Expressions.{max_depth, Evaluated, failed, evaluated}

-- Building
-- The words after building: no fewer than before, and within the limit if they were.
pub record Grown (limit before after : ℕ) : Type 0 where
  pub grows : before ≤ after
  pub fits : before ≤ limit → after ≤ limit

abbrev pub Growing : {s : Kind} → ℕ → ℕ → Built s → Type 0
Growing limit used (barred e) = Unit {0}
Growing limit used (built t u) = Grown limit used u

-- Calls
-- What is spent once the call itself is counted, and once so many words are used.
abbrev pub with_call : Spent → Spent
with_call c = record { calls = suc c.calls; words = c.words }

abbrev pub with_words : Spent → ℕ → Spent
with_words c used = record { calls = c.calls; words = used }

-- What the steps of a call keep: P of its tree, with what is spent before and after, where so many nested calls are allowed; and Q of
-- its premises' trees.
pub record KeptByCalls (limit : ℕ) (P : ℕ → Spent → Tree single → Spent → Type 0)
    (Q : ℕ → Spent → Tree several → Spent → Type 0) : Type 0 where
  -- no premises;
  pub empty : (n : ℕ) (c : Spent) → Q n c leaf c
  -- a premise's arguments are built, its call is made, and the other premises follow;
  pub next : (n : ℕ) (c d e : Spent) (used : ℕ) (p : Tree single) (ps : Tree several) → Grown limit c.words used
      → P n (with_words c used) p d → Q n d ps e
      → Q n c (p ◂ ps) e
  -- the call is counted, its premises are called one level deeper, and the conclusion is built.
  pub whole : (n : ℕ) (c d : Spent) (i : ℕ) (t : Term) (ps : Tree several) (used : ℕ) → c.calls < max_calls → Q n (with_call c) ps d
      → Grown limit d.words used
      → P (suc n) c (node i t ps) (with_words d used)

-- P of what comes back, if something does.
abbrev pub Returning : (Spent → Tree single → Spent → Type 0) → Spent → Called → Type 0
Returning P c (refused e) = Unit {0}
Returning P c (returned v p d) = P c p d

-- Written terms
-- What the steps of an evaluation keep: E of the trees that a term at this depth comes back with, and of what is spent before and after.
pub record KeptByTerms (limit : ℕ) (P : ℕ → Spent → Tree single → Spent → Type 0)
    (E : ℕ → Spent → Tree several → Spent → Type 0) : Type 0 where
  -- no calls;
  pub empty : (depth : ℕ) (c : Spent) → E depth c leaf c
  -- a constructor or a numeral is built;
  pub building : (depth : ℕ) (c d : Spent) (ps : Tree several) (used : ℕ) → E depth c ps d → Grown limit d.words used
      → E depth c ps (with_words d used)
  -- a function of the term is called;
  pub call : (depth : ℕ) (c d : Spent) (p : Tree single) → P (max_depth - depth) c p d → E depth c (p ◂ leaf) d
  -- one after another;
  pub both : (depth : ℕ) (c d e : Spent) (ps qs : Tree several) → E depth c ps d → E depth d qs e → E depth c (joined ps qs) e
  -- arguments are one deeper.
  pub deeper : (depth : ℕ) (c d : Spent) (ps : Tree several) → E (suc depth) c ps d → E depth c ps d

abbrev pub Evaluating : {n : Arity} → (Spent → Tree several → Spent → Type 0) → Spent → Evaluated n → Type 0
Evaluating E c (failed e) = Unit {0}
Evaluating E c (evaluated v ps d) = E c ps d
