-- The search as a machine runs it: its equations without the bound on recursion; one cut flag; and its recursion as a stack of branch records, whose
-- invariant is that what the whole search comes to stays the same at every step.
-- The definitions that it speaks of are in specs/Machine.
use Rattle.std.specs.Prelude.{ℕ, zero, suc, ◌≤◌, ◌≡◌, Bool, true, ◌||◌, List, [], ◌∷◌}
use Rattle.std.proofs.Math.Path.{refl, sym}
use Rattle.std.proofs.Common.{ap, ◌∙◌, arith, le_refl}
use Rattle.std.proofs.Math.Bool.{false}
use Rattle.terms.specs.Numbers.{or_assoc, or_true, or_no}
use Rattle.terms.specs.Term.{many, Term, count}
use Rattle.terms.specs.Bindings.{Bindings}
use Rattle.resolution.specs.Rules.{Rule, Tree}
use Rattle.resolution.specs.Fresh.{body}
use Rattle.resolution.specs.Search.{Limits, Attempt, exceeded, missed, entered, attempt, Work, goal, build, goals, built, Result, refused, found, failed, after, Search, tries, solve}
use Rattle.resolution.proofs.Attempts.{tries_exceeded, tries_missed, tries_entered}
use Rattle.resolution.specs.Steps.{Falls, FallsSearch}
use Rattle.resolution.proofs.Steps.{solve_falls}
use Rattle.resolution.specs.Machine.{Branch, or_cut, resume, retry, search}

-- A recursion bound no less than the steps makes no difference.
-- Two searches agree on at most n steps.
abbrev Agree : ℕ → Search → Search → Type 0
Agree n rec rec' = (b c m : ℕ) (β : Bindings) (w : List Work) (st : Tree many) → b ≤ n → rec' b c m β w st ≡ rec b c m β w st

tries_agree : (l : Limits) (n : ℕ) (rec rec' : Search) → FallsSearch rec → Agree n rec rec' → (β : Bindings) (g : Term) (d : ℕ) (w : List Work) (st : Tree many) (m r : ℕ) (Rs : List Rule) (b : ℕ) (cut : Bool) (c : ℕ)
    → b ≤ n → tries l rec' β g d w st m r Rs b cut c ≡ tries l rec β g d w st m r Rs b cut c
tries_agree l n rec rec' fa ok β g d w st m r [] b cut c h = refl
tries_agree l n rec rec' fa ok β g d w st m r (R ∷ Rs) b cut c h = go (attempt l β g m c R) refl (λ b cut c h. tries_agree l n rec rec' fa ok β g d w st m (suc r) Rs b cut c h)
  where
    nw : List Work
    nw = goals (body c R) d (build r g (count R.premises) ∷ w)

    Next : Type 0
    Next = (b : ℕ) (cut : Bool) (c : ℕ) → b ≤ n → tries l rec' β g d w st m (suc r) Rs b cut c ≡ tries l rec β g d w st m (suc r) Rs b cut c

    on : Search → Result → Result
    on rc o = after o (λ b'' cut'' c''. tries l rc β g d w st m (suc r) Rs b'' (cut || cut'') c'')

    deep : (o : Result) → Falls b false o → Next → on rec' o ≡ on rec o
    deep refused f nx = refl
    deep (found β' st' b' c' m') f nx = refl
    deep (failed b' cut' c') f nx = nx b' (cut || cut') c' (omega arith)

    go : (t : Attempt) → attempt l β g m c R ≡ t → Next → tries l rec' β g d w st m r (R ∷ Rs) b cut c ≡ tries l rec β g d w st m r (R ∷ Rs) b cut c
    go exceeded e nx = tries_exceeded l rec' β g d w st m r R Rs b cut c e ∙ sym (tries_exceeded l rec β g d w st m r R Rs b cut c e)
    go (missed c') e nx = tries_missed l rec' β g d w st m r R Rs b cut c c' e ∙ nx b cut c' h ∙ sym (tries_missed l rec β g d w st m r R Rs b cut c c' e)
    go (entered β' c' m') e nx =
        tries_entered l rec' β g d w st m r R Rs b cut c β' c' m' e
        ∙ ap (on rec') (ok b c' m' β' nw st h)
        ∙ deep (rec b c' m' β' nw st) (fa b c' m' β' nw st) nx
        ∙ sym (tries_entered l rec β g d w st m r R Rs b cut c β' c' m' e)

solve_agree : (l : Limits) (rules : List Rule) (k n n' : ℕ) → k ≤ n → k ≤ n' → Agree k (solve l rules n) (solve l rules n')
solve_agree l rules k zero zero h h' b c m β w st i = refl
solve_agree l rules k zero (suc n') h h' zero c m β w st i = refl
solve_agree l rules k zero (suc n') h h' (suc b) c m β w st i = absurd (omega arith)
solve_agree l rules k (suc n) zero h h' zero c m β w st i = refl
solve_agree l rules k (suc n) zero h h' (suc b) c m β w st i = absurd (omega arith)
solve_agree l rules k (suc n) (suc n') h h' zero c m β w st i = refl
solve_agree l rules k (suc n) (suc n') h h' (suc b) c m β [] st i = refl
solve_agree l rules k (suc n) (suc n') h h' (suc b) c m β (build r g j ∷ w) st i = solve_agree l rules b n n' (omega arith) (omega arith) b c m β w (built r g j st) (le_refl b)
solve_agree l rules k (suc n) (suc n') h h' (suc b) c m β (goal g zero ∷ w) st i = refl
solve_agree l rules k (suc n) (suc n') h h' (suc b) c m β (goal g (suc d) ∷ w) st i =
    tries_agree l b (solve l rules n) (solve l rules n') (solve_falls l rules n) (solve_agree l rules b n n' (omega arith) (omega arith)) β g d w st m 0 rules b false c (le_refl b)

-- The search by its equations, as the Rust's `solve` has them
module _ (l : Limits) (rules : List Rule) where
  pub search_out : (c m : ℕ) (β : Bindings) (w : List Work) (st : Tree many) → search l rules 0 c m β w st ≡ failed 0 false c
  unfolding search
  search_out c m β w st = refl

  pub search_done : (b c m : ℕ) (β : Bindings) (st : Tree many) → search l rules (suc b) c m β [] st ≡ found β st b c m
  unfolding search
  search_done b c m β st = refl

  pub search_build : (b c m : ℕ) (β : Bindings) (r : ℕ) (g : Term) (k : ℕ) (w : List Work) (st : Tree many) → search l rules (suc b) c m β (build r g k ∷ w) st ≡ search l rules b c m β w (built r g k st)
  unfolding search
  search_build b c m β r g k w st = refl

  pub search_cut : (b c m : ℕ) (β : Bindings) (g : Term) (w : List Work) (st : Tree many) → search l rules (suc b) c m β (goal g 0 ∷ w) st ≡ failed b true c
  unfolding search
  search_cut b c m β g w st = refl

  pub search_goal : (b c m : ℕ) (β : Bindings) (g : Term) (d : ℕ) (w : List Work) (st : Tree many)
      → search l rules (suc b) c m β (goal g (suc d) ∷ w) st ≡ tries l (search l rules) β g d w st m 0 rules b false c
  unfolding search
  search_goal b c m β g d w st = sym (tries_agree l b (solve l rules b) (search l rules) (solve_falls l rules b)
      (λ b' c m β w st i. solve_agree l rules b' b b' i (le_refl b') b' c m β w st (le_refl b')) β g d w st m 0 rules b false c (le_refl b))

-- One cut flag
pub after_or : (x : Bool) (o : Result) (k : ℕ → Bool → ℕ → Result) → after (or_cut x o) k ≡ after o (λ b cut c. k b (x || cut) c)
after_or x refused k = refl
after_or x (found β st b c m) k = refl
after_or x (failed b cut c) k = refl

-- A flag standing at the start stands at the end.
pub tries_or : (l : Limits) (rec : Search) (β : Bindings) (g : Term) (d : ℕ) (w : List Work) (st : Tree many) (m : ℕ) (x : Bool) (r : ℕ) (Rs : List Rule) (b : ℕ) (cut : Bool) (c : ℕ)
    → tries l rec β g d w st m r Rs b (x || cut) c ≡ or_cut x (tries l rec β g d w st m r Rs b cut c)
tries_or l rec β g d w st m x r [] b cut c = refl
tries_or l rec β g d w st m x r (R ∷ Rs) b cut c = go (attempt l β g m c R) refl (λ b cut c. tries_or l rec β g d w st m x (suc r) Rs b cut c)
  where
    Next : Type 0
    Next = (b : ℕ) (cut : Bool) (c : ℕ) → tries l rec β g d w st m (suc r) Rs b (x || cut) c ≡ or_cut x (tries l rec β g d w st m (suc r) Rs b cut c)

    deep : (o : Result) → Next → after o (λ b'' cut'' c''. tries l rec β g d w st m (suc r) Rs b'' ((x || cut) || cut'') c'') ≡ or_cut x (after o (λ b'' cut'' c''. tries l rec β g d w st m (suc r) Rs b'' (cut || cut'') c''))
    deep refused n = refl
    deep (found β' st' b' c' m') n = refl
    deep (failed b' cut' c') n = ap (λ y. tries l rec β g d w st m (suc r) Rs b' y c') (or_assoc x cut cut') ∙ n b' (cut || cut') c'

    go : (t : Attempt) → attempt l β g m c R ≡ t → Next → tries l rec β g d w st m r (R ∷ Rs) b (x || cut) c ≡ or_cut x (tries l rec β g d w st m r (R ∷ Rs) b cut c)
    go exceeded e n = tries_exceeded l rec β g d w st m r R Rs b (x || cut) c e ∙ ap (or_cut x) (sym (tries_exceeded l rec β g d w st m r R Rs b cut c e))
    go (missed c') e n = tries_missed l rec β g d w st m r R Rs b (x || cut) c c' e ∙ n b cut c' ∙ ap (or_cut x) (sym (tries_missed l rec β g d w st m r R Rs b cut c c' e))
    go (entered β' c' m') e n = tries_entered l rec β g d w st m r R Rs b (x || cut) c β' c' m' e
        ∙ deep (rec b c' m' β' (goals (body c R) d (build r g (count R.premises) ∷ w)) st) n
        ∙ ap (or_cut x) (sym (tries_entered l rec β g d w st m r R Rs b cut c β' c' m' e))

-- The machine's steps: each keeps what the whole search comes to.
pub resume_found : (l : Limits) (rules : List Rule) (fs : List Branch) (β : Bindings) (st : Tree many) (b c m : ℕ) → resume l rules fs (found β st b c m) ≡ found β st b c m
resume_found l rules [] β st b c m = refl
resume_found l rules (f ∷ fs) β st b c m = resume_found l rules fs β st b c m

pub resume_refused : (l : Limits) (rules : List Rule) (fs : List Branch) → resume l rules fs refused ≡ refused
resume_refused l rules [] = refl
resume_refused l rules (f ∷ fs) = resume_refused l rules fs

module _ (l : Limits) (rules : List Rule) (fs : List Branch) where
  -- No steps are left.
  pub enter_out : (cut : Bool) (c m : ℕ) (β : Bindings) (w : List Work) (st : Tree many) → resume l rules fs (or_cut cut (search l rules 0 c m β w st)) ≡ resume l rules fs (failed 0 cut c)
  enter_out cut c m β w st = ap (λ o. resume l rules fs (or_cut cut o)) (search_out l rules c m β w st) ∙ ap (λ x. resume l rules fs (failed 0 x c)) (or_no cut)

  -- No work is left.
  pub enter_done : (cut : Bool) (b c m : ℕ) (β : Bindings) (st : Tree many) → resume l rules fs (or_cut cut (search l rules (suc b) c m β [] st)) ≡ found β st b c m
  enter_done cut b c m β st = ap (λ o. resume l rules fs (or_cut cut o)) (search_done l rules b c m β st) ∙ resume_found l rules fs β st b c m

  pub enter_build : (cut : Bool) (b c m : ℕ) (β : Bindings) (r : ℕ) (g : Term) (k : ℕ) (w : List Work) (st : Tree many)
      → resume l rules fs (or_cut cut (search l rules (suc b) c m β (build r g k ∷ w) st)) ≡ resume l rules fs (or_cut cut (search l rules b c m β w (built r g k st)))
  enter_build cut b c m β r g k w st = ap (λ o. resume l rules fs (or_cut cut o)) (search_build l rules b c m β r g k w st)

  pub enter_cut : (cut : Bool) (b c m : ℕ) (β : Bindings) (g : Term) (w : List Work) (st : Tree many)
      → resume l rules fs (or_cut cut (search l rules (suc b) c m β (goal g 0 ∷ w) st)) ≡ resume l rules fs (failed b true c)
  enter_cut cut b c m β g w st = ap (λ o. resume l rules fs (or_cut cut o)) (search_cut l rules b c m β g w st) ∙ ap (λ x. resume l rules fs (failed b x c)) (or_true cut)

  pub enter_goal : (cut : Bool) (b c m : ℕ) (β : Bindings) (g : Term) (d : ℕ) (w : List Work) (st : Tree many)
      → resume l rules fs (or_cut cut (search l rules (suc b) c m β (goal g (suc d) ∷ w) st)) ≡ resume l rules fs (tries l (search l rules) β g d w st m 0 rules b cut c)
  enter_goal cut b c m β g d w st = ap (resume l rules fs) (ap (or_cut cut) (search_goal l rules b c m β g d w st)
      ∙ sym (tries_or l (search l rules) β g d w st m cut 0 rules b false c) ∙ ap (λ x. tries l (search l rules) β g d w st m 0 rules b x c) (or_no cut))

  pub try_exceeded : (β : Bindings) (g : Term) (d : ℕ) (w : List Work) (st : Tree many) (m r : ℕ) (R : Rule) (Rs : List Rule) (b : ℕ) (cut : Bool) (c : ℕ) → attempt l β g m c R ≡ exceeded
      → resume l rules fs (tries l (search l rules) β g d w st m r (R ∷ Rs) b cut c) ≡ refused
  try_exceeded β g d w st m r R Rs b cut c e = ap (resume l rules fs) (tries_exceeded l (search l rules) β g d w st m r R Rs b cut c e) ∙ resume_refused l rules fs

  pub try_missed : (β : Bindings) (g : Term) (d : ℕ) (w : List Work) (st : Tree many) (m r : ℕ) (R : Rule) (Rs : List Rule) (b : ℕ) (cut : Bool) (c c' : ℕ) → attempt l β g m c R ≡ missed c'
      → resume l rules fs (tries l (search l rules) β g d w st m r (R ∷ Rs) b cut c) ≡ resume l rules fs (tries l (search l rules) β g d w st m (suc r) Rs b cut c')
  try_missed β g d w st m r R Rs b cut c c' e = ap (resume l rules fs) (tries_missed l (search l rules) β g d w st m r R Rs b cut c c' e)

  -- Entering a rule puts a branch record on the stack; the flag stays with the current branch.
  pub try_entered : (f : Branch) (r : ℕ) (R : Rule) (b : ℕ) (cut : Bool) (c : ℕ) (β' : Bindings) (c' m' : ℕ) → f.rule ≡ suc r → attempt l f.saved f.term f.words c R ≡ entered β' c' m'
      → resume l rules fs (tries l (search l rules) f.saved f.term f.depth f.rest f.stack f.words r (R ∷ f.others) b cut c)
      ≡ resume l rules (f ∷ fs) (or_cut cut (search l rules b c' m' β' (goals (body c R) f.depth (build r f.term (count R.premises) ∷ f.rest)) f.stack))
  try_entered f r R b cut c β' c' m' q e =
      ap (resume l rules fs) (
      tries_entered l (search l rules) f.saved f.term f.depth f.rest f.stack f.words r R f.others b cut c β' c' m' e
      ∙ ap (λ i. after o (λ b'' cut'' c''. tries l (search l rules) f.saved f.term f.depth f.rest f.stack f.words i f.others b'' (cut || cut'') c'')) (sym q)
      ∙ sym (after_or cut o (retry l rules f)))
    where
      o : Result
      o = search l rules b c' m' β' (goals (body c R) f.depth (build r f.term (count R.premises) ∷ f.rest)) f.stack

  -- With no rule left, the branch fails.
  pub try_none : (β : Bindings) (g : Term) (d : ℕ) (w : List Work) (st : Tree many) (m r b : ℕ) (cut : Bool) (c : ℕ)
      → resume l rules fs (tries l (search l rules) β g d w st m r [] b cut c) ≡ resume l rules fs (failed b cut c)
  try_none β g d w st m r b cut c = refl

  -- A failed branch goes back to the newest branch record.
  pub fail_back : (f : Branch) (b : ℕ) (cut : Bool) (c : ℕ) → resume l rules (f ∷ fs) (failed b cut c) ≡ resume l rules fs (retry l rules f b cut c)
  fail_back f b cut c = refl
