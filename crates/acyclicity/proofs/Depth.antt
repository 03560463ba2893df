-- Search in depth through any graph whose vertices are numbers. Edges are numbered from 0 on without gaps: edge i from r leads to the vertex y if
-- e r i is 1 + y, and e r i is 0 if there is no edge i. A mark is 0 where the search has not been, 33 where it is done, else 1 + the number of edges
-- followed; marks between are those of the way, the vertices that the search has come through to where it is. A place is 0, or 1 + a vertex.
use Prim.Native.Nat.{ℕ, suc, ◌+◌, ◌≤◌, ◌<◌}
use native.Mathlib.Omega.{arith}
use mathlib.Core.Path.{◌≡◌, refl, sym, ap, ◌∙◌, subst}
use mathlib.Core.Logic.{◌⊎◌, inl, inr, ⊎_elim, ◌≢◌}
use mathlib.Core.List.{List, [], ◌∷◌}
use mathlib.Core.Bool.{cond}
use Rattle.terms.specs.Numbers.{same, same_refl, same_ne, by_same, by_less}
use Rattle.acyclicity.proofs.Tables.{Changed, all_changed}

-- A vertex stands on the way.
abbrev pub On : ℕ → List ℕ → Type 0
On a [] = ⊥
On a (x ∷ way) = (a ≡ x) ⊎ On a way

-- The way back from a place, by the parents.
abbrev pub Linked : (ℕ → ℕ) → ℕ → List ℕ → Type 0
Linked parent t [] = t ≡ 0
Linked parent t (x ∷ way) = (t ≡ suc x) × Linked parent (parent x) way

-- A rank, but k at x.
unfoldable raised : (ℕ → ℕ) → ℕ → ℕ → ℕ → ℕ
raised rank x k a = cond (same a x) k (rank a)

module _ (e : ℕ → ℕ → ℕ) (Vertex : ℕ → Type 0) where
  -- A path of one edge or more.
  pub data Path : ℕ → ℕ → Type 0 where
    step : {r y : ℕ} (i : ℕ) → e r i ≡ suc y → Path r y
    more : {r s y : ℕ} → Path r s → (i : ℕ) → e s i ≡ suc y → Path r y

  -- x stands on the way, and p is the place that the search went to from it.
  pub record Open (mark parent : ℕ → ℕ) (x p : ℕ) (way : List ℕ) : Type 0 where
    pub vertex : Vertex x
    pub marked : 1 ≤ mark x
    pub unfinished : mark x ≤ 32
    pub taken : (j y : ℕ) → suc j < mark x → e x j ≡ suc y → (mark y ≡ 33) ⊎ (p ≡ suc y)
    pub came : (s : ℕ) → parent x ≡ suc s → (i : ℕ) × (e s i ≡ suc x)
    pub once : On x way → ⊥

  abbrev pub Way : (ℕ → ℕ) → (ℕ → ℕ) → List ℕ → ℕ → Type 0
  Way mark parent [] p = Unit {0}
  Way mark parent (x ∷ way) p = Open mark parent x p way × Way mark parent way (suc x)

  -- The search is at the place t and goes to the place p. What is done is ranked: ranks fall along its edges.
  pub record State (mark parent : ℕ → ℕ) (t p : ℕ) : Type 0 where
    pub way : List ℕ
    pub linked : Linked parent t way
    pub opened : Way mark parent way p
    pub most : (a : ℕ) → mark a ≤ 33
    pub on : (a : ℕ) → mark a ≢ 0 → mark a ≢ 33 → On a way
    pub rank : ℕ → ℕ
    pub bound : ℕ
    pub below : (a : ℕ) → mark a ≡ 33 → rank a < bound
    pub falls : (a i y : ℕ) → mark a ≡ 33 → e a i ≡ suc y → (mark y ≡ 33) × (rank y < rank a)
    pub target : (x : ℕ) → p ≡ suc x → Vertex x
    pub along : (x s : ℕ) → p ≡ suc x → t ≡ suc s → (i : ℕ) × (e s i ≡ suc x)

  -- What is on the way is marked as such.
  on_marked : (mark parent : ℕ → ℕ) (a : ℕ) (way : List ℕ) (p : ℕ) → Way mark parent way p → On a way → (1 ≤ mark a) × (mark a ≤ 32)
  on_marked mark parent a [] p w o = absurd o
  on_marked mark parent a (x ∷ way) p w o =
      ⊎_elim (λ q. (subst (λ (z : ℕ). 1 ≤ mark z) (sym q) w.0.marked, subst (λ (z : ℕ). mark z ≤ 32) (sym q) w.0.unfinished)) (λ q. on_marked mark parent a way (suc x) w.1 q) o

  -- From what is on the way a path leads to where the search is.
  way_path : (mark parent : ℕ → ℕ) (a x : ℕ) (way : List ℕ) (p : ℕ) → Way mark parent (x ∷ way) p → Linked parent (parent x) way → On a (x ∷ way) → (a ≡ x) ⊎ Path a x
  way_path mark parent a x [] p w l o = ⊎_elim (λ q. inl q) (λ q. absurd q) o
  way_path mark parent a x (y ∷ way) p w l o =
      let (i, f) = w.0.came y l.0 in
      ⊎_elim (λ q. inl q)
      (λ q. inr (⊎_elim
      (λ r. let d : e a i ≡ suc x = ap (λ (z : ℕ). e z i) r ∙ f in Path.step i d)
      (λ r. Path.more r i f)
      (way_path mark parent a y way (suc x) w.1 l.1 q)))
      o

  -- The way stays where the place ahead changes, but for one that is done,
  way_ahead : (mark parent : ℕ → ℕ) (way : List ℕ) (p p' : ℕ) → ((y : ℕ) → p ≡ suc y → (mark y ≡ 33) ⊎ (p' ≡ suc y)) → Way mark parent way p → Way mark parent way p'
  way_ahead mark parent [] p p' h w = tt
  way_ahead mark parent (x ∷ way) p p' h w = (
    record {
      vertex = w.0.vertex;
      marked = w.0.marked;
      unfinished = w.0.unfinished;
      came = w.0.came;
      once = w.0.once;
      taken = λ j y l f. ⊎_elim (λ d. inl d) (λ d. h y d) (w.0.taken j y l f);
    },
    w.1,
  )

  -- and where marks and parents change off it, and what is done stays done.
  way_changed : (mark parent mark' parent' : ℕ → ℕ) (way : List ℕ) (p : ℕ)
      → ((a : ℕ) → On a way → (mark' a ≡ mark a) × (parent' a ≡ parent a)) → ((a : ℕ) → mark a ≡ 33 → mark' a ≡ 33) → Way mark parent way p → Way mark' parent' way p
  way_changed mark parent mark' parent' [] p h d w = tt
  way_changed mark parent mark' parent' (x ∷ way) p h d w =
      let (m, q) = h x (inl refl) in (
        record {
          vertex = w.0.vertex;
          marked = (let k = w.0.marked in omega arith);
          unfinished = (let k = w.0.unfinished in omega arith);
          came = λ s f. w.0.came s (sym q ∙ f);
          once = w.0.once;
          taken = λ j y l f. ⊎_elim (λ g. inl (d y g)) (λ g. inr g) (w.0.taken j y (rw m at l) f);
        },
        way_changed mark parent mark' parent' way (suc x) (λ a o. h a (inr o)) d w.1,
      )

  linked_changed : (parent parent' : ℕ → ℕ) (t : ℕ) (way : List ℕ) → ((a : ℕ) → On a way → parent' a ≡ parent a) → Linked parent t way → Linked parent' t way
  linked_changed parent parent' t [] h l = l
  linked_changed parent parent' t (x ∷ way) h l =
      (l.0, subst (λ (z : ℕ). Linked parent' z way) (sym (h x (inl refl))) (linked_changed parent parent' (parent x) way (λ a o. h a (inr o)) l.1))

  module _ {mark parent : ℕ → ℕ} {t : ℕ} where
    -- The vertex ahead is done: the search stays where it is.
    pub skip : (x : ℕ) → State mark parent t (suc x) → mark x ≡ 33 → State mark parent t 0
    skip x h f = record {
      way = h.way;
      linked = h.linked;
      most = h.most;
      on = h.on;
      rank = h.rank;
      bound = h.bound;
      below = h.below;
      falls = h.falls;
      opened = way_ahead mark parent h.way (suc x) 0 (λ y q. let d : x ≡ y = omega arith in inl (subst (λ (z : ℕ). mark z ≡ 33) d f)) h.opened;
      target = λ y q. let z : ⊥ = omega arith in absurd z;
      along = λ y s q. let z : ⊥ = omega arith in absurd z;
    }

    -- It is new: the search goes there.
    pub enter : {mark' parent' : ℕ → ℕ} (x : ℕ) → State mark parent t (suc x) → mark x ≡ 0 → Changed mark x 1 mark' → Changed parent x t parent' → State mark' parent' (suc x) 0
    enter {mark'} {parent'} x h f m q =
        let off : (a : ℕ) → On a h.way → a ≢ x = (λ a o k. let (u, v) = on_marked mark parent a h.way (suc x) h.opened o in let k' : mark a ≡ mark x = ap mark k in let z : ⊥ = omega arith in z) in
        let done : (a : ℕ) → mark a ≡ 33 → a ≢ x = (λ a d k. let k' : mark a ≡ mark x = ap mark k in let z : ⊥ = omega arith in z) in
        let old : (a : ℕ) → mark' a ≡ 33 → mark a ≡ 33 = all_changed (λ a v. v ≡ 33 → mark a ≡ 33) m (λ d. let z : ⊥ = omega arith in absurd z) (λ a n d. d) in
        record {
          way = x ∷ h.way;
          linked = (refl, subst (λ (z : ℕ). Linked parent' z h.way) (sym q.at) (linked_changed parent parent' t h.way (λ a o. q.off a (off a o)) h.linked));
          opened = (
            record {
              vertex = h.target x refl;
              marked = (let k = m.at in omega arith);
              unfinished = (let k = m.at in omega arith);
              taken = λ j y l g. let k = m.at in let z : ⊥ = omega arith in absurd z;
              came = λ s g. h.along x s refl (sym q.at ∙ g);
              once = λ o. off x o refl;
            },
            way_changed mark parent mark' parent' h.way (suc x) (λ a o. (m.off a (off a o), q.off a (off a o))) (λ a d. m.off a (done a d) ∙ d) h.opened,
          );
          most = all_changed (λ a v. v ≤ 33) m (omega arith) (λ a n. h.most a);
          on = all_changed (λ a v. v ≢ 0 → v ≢ 33 → On a (x ∷ h.way)) m (λ u v. inl refl) (λ a n u v. inr (h.on a u v));
          rank = h.rank;
          bound = h.bound;
          below = λ a d. h.below a (old a d);
          falls = λ a i y d g. let (u, v) = h.falls a i y (old a d) g in (m.off y (done y u) ∙ u, v);
          target = λ y g. let z : ⊥ = omega arith in absurd z;
          along = λ y s g. let z : ⊥ = omega arith in absurd z;
        }

    -- It is on the way: a cycle.
    pub cycle : (x : ℕ) → State mark parent t (suc x) → mark x ≢ 0 → mark x ≢ 33 → Path x x
    cycle x h m n = go h.way h.linked h.opened (h.on x m n)
      where
        go : (way : List ℕ) → Linked parent t way → Way mark parent way (suc x) → On x way → Path x x
        go [] l w o = absurd o
        go (s ∷ way) l w o =
            let (i, g) = h.along x s refl l.0 in
            ⊎_elim (λ q. let g' : e x i ≡ suc x = ap (λ (z : ℕ). e z i) q ∙ g in Path.step i g') (λ r. Path.more r i g) (way_path mark parent x s way (suc x) w l.1 o)

  module _ {mark parent : ℕ → ℕ} where
    -- The next variable to start from.
    pub begin : (v : ℕ) → State mark parent 0 0 → Vertex v → State mark parent 0 (suc v)
    begin v h k = record {
      way = h.way;
      linked = h.linked;
      most = h.most;
      on = h.on;
      rank = h.rank;
      bound = h.bound;
      below = h.below;
      falls = h.falls;
      opened = way_ahead mark parent h.way 0 (suc v) (λ y q. let z : ⊥ = omega arith in absurd z) h.opened;
      target = λ y q. let d : v ≡ y = omega arith in subst Vertex d k;
      along = λ y s q g. let z : ⊥ = omega arith in absurd z;
    }

    -- At no place nothing is on the way.
    pub away : {p : ℕ} (a : ℕ) → State mark parent 0 p → mark a ≢ 0 → mark a ≡ 33
    away {p} a h m = by_same (mark a) 33 (λ q r. q) (λ n r. absurd (go h.way h.linked (h.on a m n)))
      where
        go : (way : List ℕ) → Linked parent 0 way → On a way → ⊥
        go [] l o = o
        go (s ∷ way) l o = let k = l.0 in omega arith

  module _ {mark parent : ℕ → ℕ} {t : ℕ} where
    -- The search is at t: what it knows of it.
    pub at_top : {p : ℕ} → State mark parent (suc t) p → Vertex t × (1 ≤ mark t) × (mark t ≤ 32)
    at_top {p} h = go h.way h.linked h.opened
      where
        go : (way : List ℕ) → Linked parent (suc t) way → Way mark parent way p → Vertex t × (1 ≤ mark t) × (mark t ≤ 32)
        go [] l w = let k : suc t ≡ 0 = l in let z : ⊥ = omega arith in absurd z
        go (x ∷ way) l w = let k = l.0 in let d : x ≡ t = omega arith in
            (subst Vertex d w.0.vertex, subst (λ (z : ℕ). 1 ≤ mark z) d w.0.marked, subst (λ (z : ℕ). mark z ≤ 32) d w.0.unfinished)

    -- The next edge from there is followed.
    pub follow : {mark' parent' : ℕ → ℕ} (i y : ℕ) → State mark parent (suc t) 0 → mark t ≡ suc i → i < 31 → e t i ≡ suc y → Vertex y
        → Changed mark t (i + 2) mark' → Changed parent t (parent t) parent' → State mark' parent' (suc t) (suc y)
    follow {mark'} {parent'} i y h f b g vy m q = go h.way h.linked h.opened h.on
      where
        same_parent : (a : ℕ) → parent' a ≡ parent a
        same_parent a = by_same a t (λ k r. subst (λ (z : ℕ). parent' z ≡ parent z) (sym k) q.at) (λ n r. q.off a n)

        done : (a : ℕ) → mark a ≡ 33 → a ≢ t
        done a d k = let k' : mark a ≡ mark t = ap mark k in let z : ⊥ = omega arith in z

        old : (a : ℕ) → mark' a ≡ 33 → mark a ≡ 33
        old = all_changed (λ a v. v ≡ 33 → mark a ≡ 33) m (λ d. let z : ⊥ = omega arith in absurd z) (λ a n d. d)

        go : (way : List ℕ) → Linked parent (suc t) way → Way mark parent way 0 → ((a : ℕ) → mark a ≢ 0 → mark a ≢ 33 → On a way) → State mark' parent' (suc t) (suc y)
        go [] l w o = let k : suc t ≡ 0 = l in let z : ⊥ = omega arith in absurd z
        go (x ∷ way) l w o =
            let k = l.0 in let d : x ≡ t = omega arith in
            let w₀ : Open mark parent t 0 way = subst (λ (z : ℕ). Open mark parent z 0 way) d w.0 in
            let w₁ : Way mark parent way (suc t) = subst (λ (z : ℕ). Way mark parent way (suc z)) d w.1 in
            let l₁ : Linked parent (parent t) way = subst (λ (z : ℕ). Linked parent (parent z) way) d l.1 in
            record {
              way = t ∷ way;
              linked = (refl, subst (λ (z : ℕ). Linked parent' z way) (sym q.at) (linked_changed parent parent' (parent t) way (λ a on. same_parent a) l₁));
              opened = (
                record {
                  vertex = w₀.vertex;
                  marked = (let n = m.at in omega arith);
                  unfinished = (let n = m.at in omega arith);
                  taken = λ j z n r. let mt = m.at in by_less j i
                      (λ c s. ⊎_elim (λ u. inl (m.off z (done z u) ∙ u)) (λ u. let no : ⊥ = omega arith in absurd no) (w₀.taken j z (omega arith) r))
                      (λ c s. let ji : j ≡ i = omega arith in inr (sym g ∙ (ap (e t) (sym ji) ∙ r)));
                  came = λ s r. w₀.came s (sym q.at ∙ r);
                  once = w₀.once;
                },
                way_changed mark parent mark' parent' way (suc t) (λ a on. (m.off a (λ r. w₀.once (subst (λ (z : ℕ). On z way) r on)), same_parent a)) (λ a u. m.off a (done a u) ∙ u) w₁,
              );
              most = all_changed (λ a v. v ≤ 33) m (omega arith) (λ a n. h.most a);
              on = all_changed (λ a v. v ≢ 0 → v ≢ 33 → On a (t ∷ way)) m (λ u v. inl refl)
                  (λ a n u v. ⊎_elim (λ r. inl (r ∙ d)) (λ r. inr r) (o a u v));
              rank = h.rank;
              bound = h.bound;
              below = λ a u. h.below a (old a u);
              falls = λ a j z u r. let (s, v) = h.falls a j z (old a u) r in (m.off z (done z s) ∙ s, v);
              target = λ z r. let c : y ≡ z = omega arith in subst Vertex c vy;
              along = λ z s r u. let c : y ≡ z = omega arith in let c₂ : t ≡ s = omega arith in
                  (i, subst (λ (a : ℕ). e a i ≡ suc z) c₂ (g ∙ ap suc c));
            }

    -- There is none: the search is done with it, and goes back. It is ranked above all that is done.
    pub close : {mark' parent' : ℕ → ℕ} (i : ℕ) → State mark parent (suc t) 0 → mark t ≡ suc i → ((j y : ℕ) → e t j ≡ suc y → j < i)
        → Changed mark t 33 mark' → Changed parent t (parent t) parent' → State mark' parent' (parent t) 0
    unfolding raised
    close {mark'} {parent'} i h f ends m q = go h.way h.linked h.opened h.on
      where
        same_parent : (a : ℕ) → parent' a ≡ parent a
        same_parent a = by_same a t (λ k r. subst (λ (z : ℕ). parent' z ≡ parent z) (sym k) q.at) (λ n r. q.off a n)

        low : mark t ≤ 32
        low = (at_top h).2

        done : (a : ℕ) → mark a ≡ 33 → a ≢ t
        done a d k = let k' : mark a ≡ mark t = ap mark k in let b = low in let z : ⊥ = omega arith in z

        still : (a : ℕ) → mark a ≡ 33 → mark' a ≡ 33
        still a d = m.off a (done a d) ∙ d

        rank_at : raised h.rank t h.bound t ≡ h.bound
        rank_at = rw (same_refl t)

        rank_off : (a : ℕ) → a ≢ t → raised h.rank t h.bound a ≡ h.rank a
        rank_off a n = rw (same_ne n)

        go : (way : List ℕ) → Linked parent (suc t) way → Way mark parent way 0 → ((a : ℕ) → mark a ≢ 0 → mark a ≢ 33 → On a way) → State mark' parent' (parent t) 0
        go [] l w o = let k : suc t ≡ 0 = l in let z : ⊥ = omega arith in absurd z
        go (x ∷ way) l w o =
            let k = l.0 in let d : x ≡ t = omega arith in
            let w₀ : Open mark parent t 0 way = subst (λ (z : ℕ). Open mark parent z 0 way) d w.0 in
            let w₁ : Way mark parent way (suc t) = subst (λ (z : ℕ). Way mark parent way (suc z)) d w.1 in
            let l₁ : Linked parent (parent t) way = subst (λ (z : ℕ). Linked parent (parent z) way) d l.1 in
            let all : (j y : ℕ) → e t j ≡ suc y → mark y ≡ 33 = (λ j y r. let b = ends j y r in
            ⊎_elim (λ u. u) (λ u. let no : ⊥ = omega arith in absurd no) (w₀.taken j y (omega arith) r)) in
            record {
              way = way;
              linked = linked_changed parent parent' (parent t) way (λ a on. same_parent a) l₁;
              opened = way_ahead mark' parent' way (suc t) 0 (λ y r. let c : t ≡ y = omega arith in inl (subst (λ (z : ℕ). mark' z ≡ 33) c m.at))
                  (way_changed mark parent mark' parent' way (suc t) (λ a on. (m.off a (λ r. w₀.once (subst (λ (z : ℕ). On z way) r on)), same_parent a)) still w₁);
              most = all_changed (λ a v. v ≤ 33) m (omega arith) (λ a n. h.most a);
              on = all_changed (λ a v. v ≢ 0 → v ≢ 33 → On a way) m (λ u v. absurd (v refl))
                  (λ a n u v. ⊎_elim (λ r. absurd (n (r ∙ d))) (λ r. r) (o a u v));
              rank = raised h.rank t h.bound;
              bound = suc h.bound;
              below = all_changed (λ a v. v ≡ 33 → raised h.rank t h.bound a < suc h.bound) m
                  (λ u. let r = rank_at in omega arith)
                  (λ a n u. let r = rank_off a n in let s = h.below a u in omega arith);
              falls = λ a j y. all_changed (λ a v. v ≡ 33 → e a j ≡ suc y → (mark' y ≡ 33) × (raised h.rank t h.bound y < raised h.rank t h.bound a)) m
                  (λ u r. let s = all j y r in let b = h.below y s in let v = rank_off y (done y s) in let c = rank_at in (still y s, omega arith))
                  (λ a n u r. let (s, b) = h.falls a j y u r in let v = rank_off y (done y s) in let c = rank_off a n in (still y s, omega arith)) a;
              target = λ z r. let no : ⊥ = omega arith in absurd no;
              along = λ z s r. let no : ⊥ = omega arith in absurd no;
            }

  -- The start: nothing is marked.
  pub nothing : (mark parent : ℕ → ℕ) → ((a : ℕ) → mark a ≡ 0) → State mark parent 0 0
  nothing mark parent h = record {
    way = [];
    linked = refl;
    opened = tt;
    rank = λ a. 0;
    bound = 0;
    most = λ a. let k = h a in omega arith;
    on = λ a n. absurd (n (h a));
    below = λ a d. let k = h a in let z : ⊥ = omega arith in absurd z;
    falls = λ a i y d. let k = h a in let z : ⊥ = omega arith in absurd z;
    target = λ y q. let z : ⊥ = omega arith in absurd z;
    along = λ y s q. let z : ⊥ = omega arith in absurd z;
  }
