-- Sessions (document 01, "Search" and the table's search place): goals share variables by name; each goal gets the session that the last one left,
-- with steps, depth and limits of its own; and each verdict or refusal determines the session that the goal leaves.
use Rattle.std.specs.Prelude.{ℕ, zero, suc, ◌+◌, ◌<◌, Bool, true, false, ◌||◌, cond, List, [], ◌∷◌, ◌++◌, length}
use Rattle.terms.specs.Numbers.{less}
use Rattle.terms.specs.Term.{var, Term, sub, Below}
use Rattle.terms.specs.Bindings.{Bindings, start, Acyclic, BelowB}
use Rattle.resolution.specs.Rules.{Rule}
use Rattle.resolution.specs.Search.{Limits, within, words, over, Verdict, refusal, proved, nothing, undecided, prove}

-- A name as bytes, with the sort that it keeps for the session.
pub record Name : Type 0 where
  pub text : List ℕ
  pub sort : ℕ

-- A name and the variable that it stands for.
pub record Named : Type 0 where
  pub name : Name
  pub variable : ℕ

-- A session: its names in order, how many variables were made, the bindings, and the words that proved goals keep.
pub record Session : Type 0 where
  pub names : List Named
  pub variables : ℕ
  pub bindings : Bindings
  pub words : ℕ

-- A new session has no names and no variables.
unfoldable pub new_session : Session
new_session = record { names = []; variables = 0; bindings = start; words = 0 }

-- The names stand for variables that were made.
abbrev pub Known : ℕ → List Named → Type 0
Known c [] = Unit {0}
Known c (n ∷ ns) = (n.variable < c) × Known c ns

-- A session in form: no binding leads back to its own variable, and all variables were made.
pub record InForm (S : Session) : Type 0 where
  pub acyclic : Acyclic S.bindings
  pub below : BelowB S.variables S.bindings
  pub known : Known S.variables S.names

-- A goal

-- A goal compiled as a rule without premises, against a session's names: refused, by its number; or its new names in the order of their first
-- appearance, and its term, in which a variable is a place among the session's names with the new ones behind them.
pub data Compiled : Type 0 where
  refuses : ℕ → Compiled
  compiles : List Name → Term → Compiled

-- Its term has no variable but those.
abbrev pub Scoped : List Named → Compiled → Type 0
Scoped ns (refuses n) = Unit {0}
Scoped ns (compiles new p) = Below (length ns + length new) p

-- Limits set by a caller for steps, variables and words.
pub record Allowance : Type 0 where
  pub steps : ℕ
  pub variables : ℕ
  pub words : ℕ

-- A goal to be asked: how it compiles, its steps for each bound, its largest depth, and its limits.
pub record Query : Type 0 where
  pub compile : List Named → Compiled
  pub steps : ℕ
  pub depth : ℕ
  pub limits : Allowance

-- Document 01's limits: 65,535 steps and depth 128 (38), 65,536 variables in a session and 262,144 words (37).
abbrev pub step_limit : ℕ
step_limit = 65535

abbrev pub depth_limit : ℕ
depth_limit = 128

abbrev pub variable_limit : ℕ
variable_limit = 65536

abbrev pub word_limit : ℕ
word_limit = 262144

-- A limit that is set higher counts as the limit of document 01.
abbrev pub at_most : ℕ → ℕ → ℕ
at_most top n = cond (less top n) top n

-- The limits that the search goes by.
abbrev pub limits_of : Allowance → Limits
limits_of a = within (at_most variable_limit a.variables) (at_most word_limit a.words)

-- 38: more steps than allowed, or too great a depth.
abbrev pub too_much : ℕ → ℕ → Allowance → Bool
too_much steps depth a = less (at_most step_limit a.steps) steps || less depth_limit depth

-- The variable at a place: a name's own, or a new one from the count on.
abbrev pub variable_at : List Named → ℕ → ℕ → ℕ
variable_at [] c i = c + i
variable_at (n ∷ ns) c zero = n.variable
variable_at (n ∷ ns) c (suc i) = variable_at ns c i

-- The goal's term over the session's variables.
abbrev pub goal_of : Session → Term → Term
goal_of S p = sub (λ i. var (variable_at S.names S.variables i)) p

-- New names entered behind the others, with variables from c on.
abbrev pub enter : List Named → ℕ → List Name → List Named
enter ns c [] = ns
enter ns c (n ∷ new) = enter (ns ++ (record { name = n; variable = c } ∷ [])) (suc c) new

-- Asking a goal

-- A verdict, and the session left.
pub record Answer : Type 0 where
  pub verdict : Verdict
  pub session : Session

-- The session that a verdict leaves. Proved: new names, bindings and words are kept. Without a proof: the bindings and words are the old ones, and
-- the new names and variables stay counted. Refused: the session as it was.
abbrev pub left : Session → List Name → Verdict → Session
left S new (refusal n) = S
left S new (proved β st u c m) = record { names = enter S.names S.variables new; variables = c; bindings = β; words = m }
left S new (nothing u c) = record { names = enter S.names S.variables new; variables = c; bindings = S.bindings; words = S.words }
left S new (undecided u c) = record { names = enter S.names S.variables new; variables = c; bindings = S.bindings; words = S.words }

-- The search, unless the goal's own variables and words are too many already.
abbrev pub searched : List Rule → Session → ℕ → ℕ → Allowance → ℕ → Term → Bool → Verdict
searched rules S steps depth a new g true = refusal 37
searched rules S steps depth a new g false = prove (limits_of a) rules steps depth (S.words + words g) S.bindings g (S.variables + new)

-- The verdict on a compiled goal with so many new names.
abbrev pub verdict_of : List Rule → Session → ℕ → ℕ → Allowance → ℕ → Term → Verdict
verdict_of rules S steps depth a new g = searched rules S steps depth a new g (over (limits_of a) (S.variables + new) (S.words + words g))

-- A verdict with the session that it leaves.
abbrev pub answer : Session → List Name → Verdict → Answer
answer S new v = record { verdict = v; session = left S new v }

-- The answer to a compiled goal.
abbrev pub answered : List Rule → Session → ℕ → ℕ → Allowance → Compiled → Answer
answered rules S steps depth a (refuses n) = record { verdict = refusal n; session = S }
answered rules S steps depth a (compiles new p) = answer S new (verdict_of rules S steps depth a (length new) (goal_of S p))

-- 38 is tested first, then the goal compiles, then 37 and the search.
abbrev pub tested : List Rule → Session → Query → Bool → Answer
tested rules S q true = record { verdict = refusal 38; session = S }
tested rules S q false = answered rules S q.steps q.depth q.limits (q.compile S.names)

-- The answer to a goal in a session.
abbrev pub ask : List Rule → Session → Query → Answer
ask rules S q = tested rules S q (too_much q.steps q.depth q.limits)
