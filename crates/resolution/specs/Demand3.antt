-- Demand 3 (document 01, "Search"), as one theorem about a whole list of goals, refused ones included, each with steps, depth and limits of its own,
-- from any session in form. The theorem is `demand_3`; what it claims is defined here.
-- Here are the definitions; the theorems about them are in proofs/Demand3.
use Rattle.std.specs.Prelude.{ℕ, ◌≤◌, ◌≡◌, false, List, [], ◌∷◌, ◌⊎◌}
use Rattle.terms.specs.Term.{one, many, Term}
use Rattle.terms.specs.Bindings.{full, res, Extends}
use Rattle.resolution.specs.Rules.{Rule, Tree, leaf, ◌◂◌, root, put_in, Derivation}
use Rattle.resolution.specs.Search.{Verdict, refusal, proved, nothing, undecided}
use Rattle.resolution.specs.Session.{Name, Session, Compiled, compiles, Scoped, Allowance, Query, too_much, goal_of, ask}
use Rattle.resolution.specs.Verdicts.{Excluded}
use Rattle.resolution.specs.Repeats.{shown, excluded, finding}

-- A goal that was asked, the verdict that was given, and the session that was left.
pub record Event : Type 0 where
  pub query : Query
  pub verdict : Verdict
  pub session : Session

-- (a). A list of goals from the session S: each compiles to a term over its names, each verdict or refusal and each session left is the one that the
-- definitions give, and each goal gets the session that the last one left.
abbrev pub Transcript : List Rule → Session → List Event → Type 0
Transcript rules S [] = Unit {0}
Transcript rules S (e ∷ es) =
    Scoped S.names (e.query.compile S.names)
    × (e.verdict ≡ (ask rules S e.query).verdict)
    × (e.session ≡ (ask rules S e.query).session)
    × Transcript rules e.session es

-- The session at the end of all.
abbrev pub final : Session → List Event → Session
final S [] = S
final S (e ∷ es) = final e.session es

-- (b) and (c). Proved, from the session S to the session S': one tree, with the goal at its root; with the final bindings put in throughout
-- it is a derivation of the goal with them put in; the bindings only add; and under the bindings E at the end of the list it still is a
-- derivation, of the goal with those put in.
pub record ProvedGoal (rules : List Rule) (S S' E : Session) (g : Term) (st : Tree many) : Type 0 where
  pub tree : Tree one
  pub only : st ≡ tree ◂ leaf
  pub goal : root tree ≡ g
  pub rooted : root (put_in (full S'.bindings) tree) ≡ res S'.bindings g
  pub derivation : Derivation rules (put_in (full S'.bindings) tree)
  pub adds : Extends S.bindings S'.bindings
  pub stays : Derivation rules (put_in (full E.bindings) tree)
  pub stays_rooted : root (put_in (full E.bindings) tree) ≡ res E.bindings g

-- (d) and (e). None: no derivation has as its root the goal with the starting bindings put in and any terms for the variables left. Without a proof
-- the bindings are the starting ones; a refused goal restores the whole session.
abbrev pub Holds : List Rule → Session → Session → Session → Term → Verdict → Type 0
Holds rules S S' E g (refusal n) = S' ≡ S
Holds rules S S' E g (proved β st u c m) = ProvedGoal rules S S' E g st
Holds rules S S' E g (nothing u c) = Excluded rules S.bindings g × (S'.bindings ≡ S.bindings)
Holds rules S S' E g (undecided u c) = S'.bindings ≡ S.bindings

-- (f). The second verdict repeats "proved" and "none", or storage refuses.
pub record Again (v v' : Verdict) : Type 0 where
  pub shows : finding v ≡ shown → (finding v' ≡ shown) ⊎ (v' ≡ refusal 37)
  pub excludes : finding v ≡ excluded → (finding v' ≡ excluded) ⊎ (v' ≡ refusal 37)

-- The same goal with other steps, depth and limits.
abbrev pub reask : Query → ℕ → ℕ → Allowance → Query
reask q steps depth a = record { compile = q.compile; steps = steps; depth = depth; limits = a }

-- Any verdict but a refusal.
abbrev pub Decided : Verdict → Type 0
Decided (refusal n) = ⊥
Decided (proved β st u c m) = Unit {0}
Decided (nothing u c) = Unit {0}
Decided (undecided u c) = Unit {0}

-- The goal compiled: its new names and its term.
pub record Goal (k : Compiled) : Type 0 where
  pub new : List Name
  pub term : Term
  pub is : k ≡ compiles new term

-- What is claimed of one goal, E being the session at the end of all.
pub record Claim (rules : List Rule) (S E : Session) (e : Event) : Type 0 where
  pub verdict : e.verdict ≡ (ask rules S e.query).verdict
  pub session : e.session ≡ (ask rules S e.query).session
  pub refused : (n : ℕ) → e.verdict ≡ refusal n → e.session ≡ S
  pub compiled : Decided e.verdict → Goal (e.query.compile S.names)
  pub holds : (new : List Name) (p : Term) → e.query.compile S.names ≡ compiles new p → Holds rules S e.session E (goal_of S p) e.verdict
  pub repeats : (steps depth : ℕ) (a : Allowance) → e.query.steps ≤ steps → e.query.depth ≤ depth → too_much steps depth a ≡ false
      → Again e.verdict (ask rules S (reask e.query steps depth a)).verdict

-- And of the whole list.
abbrev pub Claims : List Rule → Session → Session → List Event → Type 0
Claims rules S E [] = Unit {0}
Claims rules S E (e ∷ es) = Claim rules S E e × Claims rules e.session E es

-- The definitions' own answers to a list of goals are such a transcript.
-- The answers in turn.
abbrev pub run : List Rule → Session → List Query → List Event
run rules S [] = []
run rules S (q ∷ qs) = record { query = q; verdict = (ask rules S q).verdict; session = (ask rules S q).session } ∷ run rules (ask rules S q).session qs

-- Each goal compiles to a term over the names of the session that it gets.
abbrev pub AllScoped : List Rule → Session → List Query → Type 0
AllScoped rules S [] = Unit {0}
AllScoped rules S (q ∷ qs) = Scoped S.names (q.compile S.names) × AllScoped rules (ask rules S q).session qs
