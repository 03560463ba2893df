-- Cases that the checker computes with the definitions: a session of goals over rules, with what comes out written as one list of numbers.
use Rattle.std.specs.Prelude.{ℕ, ◌+◌, Bool, true, false, ◌&&◌, cond, List, [], ◌∷◌, ◌++◌, length, drop}
use Rattle.terms.specs.Numbers.{same}
use Rattle.terms.specs.Term.{Kind, Syn, var, app, nil, cons, Term, count, sub}
use Rattle.terms.specs.Bindings.{Bindings, start, bind}
use Rattle.resolution.specs.Rules.{Rule, Tree, node, leaf, ◌◂◌}
use Rattle.resolution.specs.Fresh.{met, place}
use Rattle.resolution.specs.Search.{Verdict, refusal, proved, nothing, undecided}
use Rattle.resolution.specs.Session.{Name, Named, Session, Compiled, compiles, Allowance, Query, Answer, ask}

-- A goal whose variables are the numbers of names, with its steps, depth and limits.
pub record Posed : Type 0 where
  pub goal : Term
  pub steps : ℕ
  pub depth : ℕ
  pub limits : Allowance

-- Names are numbers here, each a text of one byte; all have one sort.
abbrev numbers : List Named → List ℕ
numbers [] = []
numbers (n ∷ ns) = n.name.text ++ numbers ns

-- Numbers as names.
abbrev named : List ℕ → List Name
named [] = []
named (x ∷ xs) = record { text = x ∷ []; sort = 1 } ∷ named xs

-- New names come in the order of their first appearance.
unfoldable pub compile_by : Term → List Named → Compiled
compile_by p ns = compiles (named (drop (length (numbers ns)) (met p (numbers ns)))) (sub (λ x. var (place (met p (numbers ns)) x)) p)

-- The goal as it is asked.
abbrev pub query_of : Posed → Query
query_of q = record { compile = compile_by q.goal; steps = q.steps; depth = q.depth; limits = q.limits }

-- What comes out, in front of other numbers

-- A term, or the terms of a list.
abbrev pub write_term : {s : Kind} → Syn s → List ℕ → List ℕ
write_term (var x) l = 0 ∷ x ∷ l
write_term (app f ts) l = 1 ∷ f ∷ count ts ∷ write_term ts l
write_term nil l = l
write_term (cons t ts) l = write_term t (write_term ts l)

-- A tree, or the trees of a list.
abbrev pub write_tree : {s : Kind} → Tree s → List ℕ → List ℕ
write_tree (node r g ps) l = 2 ∷ r ∷ write_term g (write_tree ps l)
write_tree leaf l = 3 ∷ l
write_tree (p ◂ ps) l = write_tree p (write_tree ps l)

-- Bindings, the newest first.
abbrev pub write_bindings : Bindings → List ℕ → List ℕ
write_bindings start l = 4 ∷ l
write_bindings (bind x t β) l = 5 ∷ x ∷ write_term t (write_bindings β l)

-- A verdict with its steps, and its proof.
abbrev pub write_verdict : Verdict → List ℕ → List ℕ
write_verdict (refusal n) l = 6 ∷ n ∷ l
write_verdict (proved β st u c m) l = 7 ∷ u ∷ write_tree st l
write_verdict (nothing u c) l = 8 ∷ u ∷ l
write_verdict (undecided u c) l = 9 ∷ u ∷ l

-- A verdict, and the session left.
abbrev pub write_answer : Answer → List ℕ → List ℕ
write_answer a l = write_verdict a.verdict (length a.session.names ∷ a.session.variables ∷ a.session.words ∷ write_bindings a.session.bindings l)

-- The goals in turn: an answer is written, and the next goal gets the session that it left.
abbrev written : Answer → (Session → List ℕ) → List ℕ
written a next = write_answer a (next a.session)

-- All that the goals of a session come to.
abbrev pub play : List Rule → Session → List Posed → List ℕ
play rules S [] = []
play rules S (q ∷ qs) = written (ask rules S (query_of q)) (λ S'. play rules S' qs)

-- A case and what is expected.
pub record Case : Type 0 where
  pub rules : List Rule
  pub session : Session
  pub goals : List Posed
  pub expected : List ℕ

-- Are two lists the same?
abbrev pub same_list : List ℕ → List ℕ → Bool
same_list [] [] = true
same_list [] (y ∷ ys) = false
same_list (x ∷ xs) [] = false
same_list (x ∷ xs) (y ∷ ys) = same x y && same_list xs ys

-- Does a case come out as expected?
abbrev pub passes : Case → Bool
passes k = same_list (play k.rules k.session k.goals) k.expected

-- How many cases pass.
abbrev pub passing : List Case → ℕ
passing [] = 0
passing (k ∷ ks) = cond (passes k) 1 0 + passing ks
