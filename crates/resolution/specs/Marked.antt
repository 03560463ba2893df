-- The search cases that document 01 marks for proof, over its text's `add`: one list, and one lemma that all of them come out.
-- Here are the definitions; the theorems about them are in proofs/Marked.
use Rattle.std.specs.Prelude.{ℕ, zero, suc, Bool, true, false, ◌&&◌, List, [], ◌∷◌}
use Rattle.terms.specs.Numbers.{same}
use Rattle.terms.specs.Term.{var, app, nil, cons, Term}
use Rattle.resolution.specs.Rules.{Rule}
use Rattle.resolution.specs.Search.{Verdict, refusal, proved, nothing, undecided}
use Rattle.resolution.specs.Session.{new_session, step_limit, variable_limit, word_limit, ask}
use Rattle.resolution.specs.Cases.{query_of}

-- zero, succ and add are the symbols 0, 1 and 2; Nat is the sort 1.
-- A numeral: so many times succ on zero.
unfoldable pub num : ℕ → Term
num zero = app 0 nil
num (suc n) = app 1 (cons (num n) nil)

-- The judgment add a b = c.
unfoldable pub add : Term → Term → Term → Term
add a b c = app 2 (cons a (cons b (cons c nil)))

-- The successor of a term.
unfoldable pub succ : Term → Term
succ t = app 1 (cons t nil)

-- add.0, from | zero, n => n, and add.1, from | succ m, n => succ (add m n), whose variables are m, n and result.1 by first appearance.
unfoldable pub add_rules : List Rule
add_rules =
    record { name = 97 ∷ 100 ∷ 100 ∷ 46 ∷ 48 ∷ []; sorts = 1 ∷ []; premises = nil; conclusion = add (num 0) (var 0) (var 0) }
    ∷ record { name = 97 ∷ 100 ∷ 100 ∷ 46 ∷ 49 ∷ []; sorts = 1 ∷ 1 ∷ 1 ∷ []; premises = cons (add (var 0) (var 1) (var 2)) nil; conclusion = add (succ (var 0)) (var 1) (succ (var 2)) }
    ∷ []

-- A verdict with its steps, as expected of a goal in a new session with the full limits.
pub data Expected : Type 0 where
  is_proved is_none is_undecided : ℕ → Expected

-- A goal with steps and depth, and what is expected.
pub record MarkedCase : Type 0 where
  pub goal : Term
  pub steps : ℕ
  pub depth : ℕ
  pub expected : Expected

-- Is the verdict the expected one, with its steps?
abbrev pub meets : Verdict → Expected → Bool
meets (refusal n) e = false
meets (proved β st u c m) (is_proved s) = same u s
meets (proved β st u c m) (is_none s) = false
meets (proved β st u c m) (is_undecided s) = false
meets (nothing u c) (is_proved s) = false
meets (nothing u c) (is_none s) = same u s
meets (nothing u c) (is_undecided s) = false
meets (undecided u c) (is_proved s) = false
meets (undecided u c) (is_none s) = false
meets (undecided u c) (is_undecided s) = same u s

-- Does a case come out?
abbrev pub meets_case : MarkedCase → Bool
meets_case k = meets (ask add_rules new_session (query_of (record { goal = k.goal; steps = k.steps; depth = k.depth; limits = record { steps = step_limit; variables = variable_limit; words = word_limit } }))).verdict k.expected

-- Do all of them?
abbrev pub all_meet : List MarkedCase → Bool
all_meet [] = true
all_meet (k ∷ ks) = meets_case k && all_meet ks

-- `add ?x 1 = 2` and `add ?x 2 = 1`.
unfoldable pub marked : List MarkedCase
marked =
    record { goal = add (var 0) (num 1) (num 2); steps = 5; depth = 32; expected = is_proved 5 }
    ∷ record { goal = add (var 0) (num 1) (num 2); steps = 4; depth = 32; expected = is_undecided 4 }
    ∷ record { goal = add (var 0) (num 1) (num 2); steps = 5; depth = 3; expected = is_undecided 0 }
    ∷ record { goal = add (var 0) (num 2) (num 1); steps = 3; depth = 32; expected = is_none 2 }
    ∷ record { goal = add (var 0) (num 2) (num 1); steps = 2; depth = 32; expected = is_undecided 2 }
    ∷ []
