-- The search (the Rust's `solve` and `prove`, with no facts and no hypotheses): leftmost goal first, rules in source order, each entry with steps left
-- uses one step, and a goal at depth 0 is cut off. Limits on variables and words are a parameter: the Rust's own search is the unlimited one, and
-- Limited shows that a limited search refuses or comes to the same.
use Rattle.std.specs.Prelude.{ℕ, zero, suc, ◌+◌, ◌-◌, Bool, true, false, ◌||◌, cond, List, [], ◌∷◌, length}
use Rattle.terms.specs.Numbers.{less}
use Rattle.terms.specs.Term.{Kind, many, Syn, var, app, nil, cons, Term, Terms, count}
use Rattle.terms.specs.Bindings.{Bindings}
use Rattle.terms.specs.Unification.{Outcome, unfinished, fails, unified, unify}
use Rattle.resolution.specs.Rules.{Rule, Tree, node, leaf, ◌◂◌}
use Rattle.resolution.specs.Fresh.{head_vars, all_vars, head, body}

-- Counting (document 01, refusal 37)

-- Any node but a variable takes one word and one for each argument; a variable takes none.
abbrev pub words : {s : Kind} → Syn s → ℕ
words (var x) = 0
words (app f ts) = suc (count ts + words ts)
words nil = 0
words (cons t ts) = words t + words ts

-- No limits; or at most so many variables in a session, and so many words.
pub data Limits : Type 0 where
  unlimited : Limits
  within : ℕ → ℕ → Limits

-- Are c variables and m words too many?
abbrev pub over : Limits → ℕ → ℕ → Bool
over unlimited c m = false
over (within vars words) c m = less vars c || less words m

-- One attempt with a rule

-- The limits refuse it; the conclusion does not unify, and only the counter has moved; the rule is entered with bindings, counter and words.
pub data Attempt : Type 0 where
  exceeded : Attempt
  missed : ℕ → Attempt
  entered : Bindings → ℕ → ℕ → Attempt

-- Within the limits it goes on.
abbrev pub guard : Bool → (Unit {0} → Attempt) → Attempt
guard true next = exceeded
guard false next = next tt

-- By the outcome of unification: missed, or on with the bindings.
abbrev pub unifying : Outcome → Attempt → (Bindings → Attempt) → Attempt
unifying unfinished miss next = miss
unifying fails miss next = miss
unifying (unified β) miss next = next β

-- The goal g with rule R, from the counter c on, m words being in use. The conclusion is instantiated and counted before it is unified, and the
-- variables that it got are never given back; the premises are instantiated only then.
unfoldable pub attempt : Limits → Bindings → Term → ℕ → ℕ → Rule → Attempt
attempt l β g m c R =
    guard (over l (c + length (head_vars R)) (m + words (head c R))) (λ _.
    unifying (unify (c + length (head_vars R)) β g (head c R)) (missed (c + length (head_vars R))) (λ β'.
    guard (over l (c + length (all_vars R)) (m + words (head c R) + words (body c R))) (λ _.
    entered β' (c + length (all_vars R)) (m + words (head c R) + words (body c R)))))

-- Work and proofs

-- A goal with the depth left to it; or a node to be built from the last n proofs, for a rule and its goal.
pub data Work : Type 0 where
  goal : Term → ℕ → Work
  build : ℕ → Term → ℕ → Work

-- The premises as goals, in front of other work.
abbrev pub goals : Terms → ℕ → List Work → List Work
goals nil d w = w
goals (cons t ts) d w = goal t d ∷ goals ts d w

-- The last n proofs in the order in which they were made, and the proofs before them.
abbrev pub gather : ℕ → Tree many → Tree many → Tree many × Tree many
gather zero acc st = (acc, st)
gather (suc n) acc leaf = (acc, leaf)
gather (suc n) acc (p ◂ st) = gather n (p ◂ acc) st

-- A node built from them, put on the proofs before them.
abbrev pub built : ℕ → Term → ℕ → Tree many → Tree many
built r g n st = node r g (gather n leaf st).0 ◂ (gather n leaf st).1

-- The search at one depth bound

-- A storage refusal; success with bindings, proofs, steps left, counter and words; failure with steps left, whether something was cut off, counter.
pub data Result : Type 0 where
  refused : Result
  found : Bindings → Tree many → ℕ → ℕ → ℕ → Result
  failed : ℕ → Bool → ℕ → Result

-- A failure goes on; anything else is the result.
abbrev pub after : Result → (ℕ → Bool → ℕ → Result) → Result
after refused k = refused
after (found β st b c m) k = found β st b c m
after (failed b cut c) k = k b cut c

-- Steps left, counter, words, bindings, work, proofs.
abbrev pub Search : Type 0
Search = ℕ → ℕ → ℕ → Bindings → List Work → Tree many → Result

-- A goal g, whose premises get depth d, with the rules from number r on, each from the same bindings and words. The counter, the steps and the cut
-- flag go on from one attempt to the next, also when no steps are left.
abbrev pub tries : Limits → Search → Bindings → Term → ℕ → List Work → Tree many → ℕ → ℕ → List Rule → ℕ → Bool → ℕ → Result
tries l rec β g d w st m r [] b cut c = failed b cut c
tries l rec β g d w st m r (R ∷ Rs) b cut c =
    elim (attempt l β g m c R) [
      | exceeded ↦ refused
      | missed c' ↦ tries l rec β g d w st m (suc r) Rs b cut c'
      | entered β' c' m' ↦
          after (rec b c' m' β' (goals (body c R) d (build r g (count R.premises) ∷ w)) st)
          (λ b'' cut'' c''. tries l rec β g d w st m (suc r) Rs b'' (cut || cut'') c'')
    ]

-- The Rust's `solve`. The first number bounds the recursion; Machine has the equations without it.
abbrev pub solve : Limits → List Rule → ℕ → Search
solve l rules zero b c m β w st = failed 0 false c
solve l rules (suc n) zero c m β w st = failed 0 false c
solve l rules (suc n) (suc b) c m β [] st = found β st b c m
solve l rules (suc n) (suc b) c m β (build r g k ∷ w) st = solve l rules n b c m β w (built r g k st)
solve l rules (suc n) (suc b) c m β (goal g zero ∷ w) st = failed b true c
solve l rules (suc n) (suc b) c m β (goal g (suc d) ∷ w) st = tries l (solve l rules n) β g d w st m 0 rules b false c

-- One depth bound d, with s steps.
abbrev pub bounded : Limits → List Rule → ℕ → ℕ → Bindings → Term → ℕ → ℕ → Result
bounded l rules s m β g d c = solve l rules s s c m β (goal g d ∷ []) leaf

-- The verdict

-- A refusal by its number; proved, with final bindings, proof, steps, counter and words; none, with steps and counter; undecided, likewise.
pub data Verdict : Type 0 where
  refusal : ℕ → Verdict
  proved : Bindings → Tree many → ℕ → ℕ → ℕ → Verdict
  nothing : ℕ → ℕ → Verdict
  undecided : ℕ → ℕ → Verdict

-- What one bound with s steps settles; else the search goes on with the steps used and the counter. None is answered exactly where steps are left and
-- nothing was cut off: a last step that was also the last allowed one settles nothing.
abbrev pub settle : ℕ → Result → (ℕ → ℕ → Verdict) → Verdict
settle s refused next = refusal 37
settle s (found β st b c m) next = proved β st (s - b) c m
settle s (failed zero cut c) next = next s c
settle s (failed (suc b) true c) next = next (s - suc b) c
settle s (failed (suc b) false c) next = nothing (s - suc b) c

-- The depth bounds d, 2d, 4d, … up to the largest depth.
abbrev pub bounds_from : ℕ → ℕ → ℕ → List ℕ
bounds_from zero d largest = []
bounds_from (suc n) d largest = cond (less largest d) [] (d ∷ bounds_from n (d + d) largest)

-- The bounds start at 4.
abbrev pub bounds : ℕ → List ℕ
bounds largest = bounds_from largest 4 largest

-- The bounds in turn, each with s steps and with nothing cut off yet; u steps were used in the last.
abbrev pub deepen : Limits → List Rule → ℕ → ℕ → Bindings → Term → List ℕ → ℕ → ℕ → Verdict
deepen l rules s m β g [] u c = undecided u c
deepen l rules s m β g (d ∷ ds) u c = settle s (bounded l rules s m β g d c) (λ u' c'. deepen l rules s m β g ds u' c')

-- The Rust's `prove`: steps for each bound, largest depth, words in use, starting bindings, goal, counter.
abbrev pub prove : Limits → List Rule → ℕ → ℕ → ℕ → Bindings → Term → ℕ → Verdict
prove l rules s largest m β g c = deepen l rules s m β g (bounds largest) 0 c
