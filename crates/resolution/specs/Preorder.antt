-- A proof in preorder: the rule applications in the order in which they were made, each with its height from the top, are the preorder of the trees built
-- so far together with the applications still open. So a machine that keeps its applications in a list has the proof's listing in it.
use Rattle.std.specs.Prelude.{ℕ, zero, suc, ◌+◌, ◌-◌, ◌≤◌, ◌<◌, ◌≡◌, refl, List, [], ◌∷◌, ◌++◌}
use Rattle.std.proofs.Common.{ap, ap₂, sym, ◌∙◌, subst, append_assoc, append-nil, arith}
use Rattle.terms.specs.Term.{Kind, one, many, Term, Terms, nil, cons, count}
use Rattle.resolution.specs.Rules.{Tree, node, leaf, ◌◂◌, joined}
use Rattle.resolution.specs.Search.{Work, goal, build, goals, gather, built}

-- Height from the top, rule, goal.
pub data Entry : Type 0 where
  entry : ℕ → ℕ → Term → Entry

-- A tree, or a list of trees, at height h.
abbrev pub preorder : {s : Kind} → ℕ → Tree s → List Entry
preorder h (node r g ps) = entry h r g ∷ preorder (suc h) ps
preorder h leaf = []
preorder h (p ◂ ps) = preorder h p ++ preorder h ps

-- How many applications are open.
abbrev pub builds : List Work → ℕ
builds [] = 0
builds (goal g d ∷ w) = builds w
builds (build r g k ∷ w) = suc (builds w)

-- A stack of trees, the newest on top.
abbrev pub flat : Tree many → List Entry
flat leaf = []
flat (p ◂ ps) = flat ps ++ preorder 1 p

-- The applications made, i goals in front of the work w being still open.
abbrev pub made : ℕ → List Work → Tree many → List Entry
made i [] st = flat st
made i (goal g d ∷ w) st = made (suc i) w st
made i (build r g k ∷ w) st = made 1 w (gather (k - i) leaf st).1 ++ (entry (suc (builds w)) r g ∷ preorder (suc (suc (builds w))) (gather (k - i) leaf st).0)

-- No application has more goals open than it has premises.
abbrev pub Fits : ℕ → List Work → Type 0
Fits i [] = Unit {0}
Fits i (goal g d ∷ w) = Fits (suc i) w
Fits i (build r g k ∷ w) = (i ≤ k) × Fits 1 w

gather_acc : (k : ℕ) (acc more st : Tree many) → ((gather k (joined acc more) st).0 ≡ joined (gather k acc st).0 more) × ((gather k (joined acc more) st).1 ≡ (gather k acc st).1)
gather_acc zero acc more st = (refl, refl)
gather_acc (suc k) acc more leaf = (refl, refl)
gather_acc (suc k) acc more (p ◂ st) = gather_acc k (p ◂ acc) more st

preorder_join : (h : ℕ) (ps ts : Tree many) → preorder h (joined ps ts) ≡ preorder h ps ++ preorder h ts
preorder_join h leaf ts = refl
preorder_join h (p ◂ ps) ts = ap (λ l. preorder h p ++ l) (preorder_join h ps ts) ∙ sym (append_assoc (preorder h p) (preorder h ps) (preorder h ts))

-- A finished tree stands where its goal was open.
pub made_tree : (i : ℕ) (w : List Work) (p : Tree one) (st : Tree many) → Fits (suc i) w → made i w (p ◂ st) ≡ made (suc i) w st ++ preorder (suc (builds w)) p
made_tree i [] p st f = refl
made_tree i (goal g d ∷ w) p st f = made_tree (suc i) w p st f
made_tree i (build r g k ∷ w) p st f =
    let e : k - i ≡ suc (k - suc i) = omega arith in
    let a = gather_acc (k - suc i) leaf (p ◂ leaf) st in
    ap (λ n. made 1 w (gather n leaf (p ◂ st)).1 ++ (entry (suc (builds w)) r g ∷ preorder (suc (suc (builds w))) (gather n leaf (p ◂ st)).0)) e
    ∙ ap₂ (λ x y. made 1 w x ++ (entry (suc (builds w)) r g ∷ preorder (suc (suc (builds w))) y)) a.1 a.0
    ∙ ap (λ l. made 1 w (gather (k - suc i) leaf st).1 ++ (entry (suc (builds w)) r g ∷ l)) (preorder_join (suc (suc (builds w))) (gather (k - suc i) leaf st).0 (p ◂ leaf) ∙ ap (λ l. preorder (suc (suc (builds w))) (gather (k - suc i) leaf st).0 ++ l) (append-nil (preorder (suc (suc (builds w))) p)))
    ∙ sym (append_assoc (made 1 w (gather (k - suc i) leaf st).1) (entry (suc (builds w)) r g ∷ preorder (suc (suc (builds w))) (gather (k - suc i) leaf st).0) (preorder (suc (suc (builds w))) p))

-- Building changes nothing.
pub made_build : (r : ℕ) (g : Term) (k : ℕ) (w : List Work) (st : Tree many) → Fits 0 (build r g k ∷ w) → made 0 (build r g k ∷ w) st ≡ made 0 w (built r g k st)
made_build r g k w st f = ap (λ n. made 1 w (gather n leaf st).1 ++ (entry (suc (builds w)) r g ∷ preorder (suc (suc (builds w))) (gather n leaf st).0)) (let e : k - 0 ≡ k = omega arith in e) ∙ sym (made_tree 0 w (node r g (gather k leaf st).0) (gather k leaf st).1 f.1)

made_goals : (i : ℕ) (ts : Terms) (d : ℕ) (w : List Work) (st : Tree many) → made i (goals ts d w) st ≡ made (i + count ts) w st
made_goals i nil d w st = ap (λ n. made n w st) (let e : i ≡ i + 0 = omega arith in e)
made_goals i (cons t ts) d w st = made_goals (suc i) ts d w st ∙ ap (λ n. made n w st) (let e : suc i + count ts ≡ i + suc (count ts) = omega arith in e)

-- Entering adds one application at the end.
pub made_enter : (r : ℕ) (g : Term) (d : ℕ) (ts : Terms) (k : ℕ) (w : List Work) (st : Tree many) → count ts ≡ k → made 0 (goals ts d (build r g k ∷ w)) st ≡ made 1 w st ++ (entry (suc (builds w)) r g ∷ [])
made_enter r g d ts k w st e = made_goals 0 ts d (build r g k ∷ w) st ∙ ap (λ n. made 1 w (gather n leaf st).1 ++ (entry (suc (builds w)) r g ∷ preorder (suc (suc (builds w))) (gather n leaf st).0)) (let z : k - (0 + count ts) ≡ 0 = omega arith in z)

fits_goals : (i : ℕ) (ts : Terms) (d : ℕ) (w : List Work) → Fits (i + count ts) w → Fits i (goals ts d w)
fits_goals i nil d w f = subst (λ n. Fits n w) (let e : i + 0 ≡ i = omega arith in e) f
fits_goals i (cons t ts) d w f = fits_goals (suc i) ts d w (subst (λ n. Fits n w) (let e : i + suc (count ts) ≡ suc i + count ts = omega arith in e) f)

pub fits_enter : (r : ℕ) (g : Term) (d : ℕ) (ts : Terms) (k : ℕ) (w : List Work) → count ts ≡ k → Fits 1 w → Fits 0 (goals ts d (build r g k ∷ w))
fits_enter r g d ts k w e f = fits_goals 0 ts d (build r g k ∷ w) (let h : 0 + count ts ≤ k = omega arith in h, f)

pub fits_less : (i j : ℕ) (w : List Work) → j ≤ i → Fits i w → Fits j w
fits_less i j [] l f = tt
fits_less i j (goal g d ∷ w) l f = fits_less (suc i) (suc j) w (omega arith) f
fits_less i j (build r g k ∷ w) l f = (omega arith, f.1)

pub builds_goals : (ts : Terms) (d : ℕ) (w : List Work) → builds (goals ts d w) ≡ builds w
builds_goals nil d w = refl
builds_goals (cons t ts) d w = builds_goals ts d w

-- At the end one tree is left, and the applications made are its preorder.
pub made_proof : (p : Tree one) → made 0 [] (p ◂ leaf) ≡ preorder 1 p
made_proof p = refl

-- The preorder determines the tree.

-- What comes next lies above the height h, if anything does.
abbrev pub Above : ℕ → List Entry → Type 0
Above h [] = Unit {0}
Above h (entry k r g ∷ es) = k < h

above_behind : (h : ℕ) (ps : Tree many) (es : List Entry) → Above h es → Above (suc h) (preorder h ps ++ es)
above_behind h leaf [] a = tt
above_behind h leaf (entry k r g ∷ es) a = omega arith
above_behind h (node r g cs ◂ ps) es a = let l : h < suc h = omega arith in l

-- Two lists of trees at one height, with anything higher up behind them.
pub preorder_many : (h : ℕ) (ps qs : Tree many) (xs ys : List Entry) → Above h xs → Above h ys
    → preorder h ps ++ xs ≡ preorder h qs ++ ys → (ps ≡ qs) × (xs ≡ ys)
preorder_many h leaf leaf xs ys a b e = (refl, e)
preorder_many h leaf (node r g cs ◂ qs) [] ys a b e = absurd (let z : ◌≡◌ {A = ℕ} 0 1 = cc in omega arith)
preorder_many h leaf (node r g cs ◂ qs) (entry k r' g' ∷ xs) ys a b e = absurd (let z : k ≡ h = cc in omega arith)
preorder_many h (node r g cs ◂ ps) leaf xs [] a b e = absurd (let z : ◌≡◌ {A = ℕ} 0 1 = cc in omega arith)
preorder_many h (node r g cs ◂ ps) leaf xs (entry k r' g' ∷ ys) a b e = absurd (let z : h ≡ k = cc in omega arith)
preorder_many h (node r g cs ◂ ps) (node r' g' cs' ◂ qs) xs ys a b e =
    let er : r ≡ r' = cc in
    let eg : g ≡ g' = cc in
    let rest : (preorder (suc h) cs ++ preorder h ps) ++ xs ≡ (preorder (suc h) cs' ++ preorder h qs) ++ ys = cc in
    let apart : preorder (suc h) cs ++ (preorder h ps ++ xs) ≡ preorder (suc h) cs' ++ (preorder h qs ++ ys) =
    sym (append_assoc (preorder (suc h) cs) (preorder h ps) xs) ∙ rest ∙ append_assoc (preorder (suc h) cs') (preorder h qs) ys in
    let children = preorder_many (suc h) cs cs' (preorder h ps ++ xs) (preorder h qs ++ ys)
    (above_behind h ps xs a) (above_behind h qs ys b) apart in
    let others = preorder_many h ps qs xs ys a b children.1 in
    let ec : cs ≡ cs' = children.0 in
    let ep : ps ≡ qs = others.0 in
    (cc, others.1)

pub preorder_one : (h : ℕ) (p q : Tree one) → preorder h p ≡ preorder h q → p ≡ q
preorder_one h p q e =
    let one : p ◂ leaf ≡ q ◂ leaf = (preorder_many h (p ◂ leaf) (q ◂ leaf) [] [] tt tt
    (ap (λ l. (l ++ []) ++ []) e)).0 in
    cc
