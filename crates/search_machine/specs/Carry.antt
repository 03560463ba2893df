-- What the storage denotes stays, where words are written behind those in use, variables are added, and frames are put behind those that
-- stand.
use Rattle.std.specs.Prelude.{ℕ, zero, suc, ◌+◌, ◌-◌, ◌≤◌, ◌<◌, ◌≡◌, refl, List, [], ◌∷◌, ◌++◌, length}
use Rattle.std.proofs.Common.{arith, ap, ap₂, sym, ◌∙◌, subst, length-set}
use Rattle.terms.specs.Numbers.{by_same}
use Rattle.terms.specs.Term.{Term, Terms, cons, count}
use Rattle.arena.specs.Cells.{WellFormed, Same, reference_up, frame_denote, cells}
use Rattle.arena.specs.NodeLaws.{reference_same}
use Rattle.arena.specs.Copies.{term_room}
use Rattle.arena.specs.FormKept.{form_same}
use Rattle.arena.specs.Rows.{Rows, column}
use Rattle.bindings.specs.Tables.{valued, removed, undone}
use Rattle.resolution.specs.Search.{Work, build, goals}
use Rattle.resolution.specs.Machine.{Branch}
use Rattle.resolution.specs.Preorder.{Entry, entry}
use Rattle.attempts.specs.Promises.{Added}
use Rattle.attempts.specs.Extending.{held_older, form_back}
use Rattle.attempts.specs.Keeping.{added_none, added_both}
use Rattle.search_machine.specs.State.{term, Refers, span, arity, frame_at, premise_ref, pending, Place, top, inside, entries}
use Rattle.search_machine.specs.State.{Start, Above, Stack}
use Rattle.search_machine.specs.Allowed.{Allowed}
use Rattle.search_machine.specs.declared.frames.Frame.{Frame}

-- Taking entries back leaves as many rows.
removed_length : (t : Rows) (n : ℕ) → length (removed t n) ≡ length t
unfolding removed
removed_length t n = length-set (valued t (column 1 t n) 0) n _ ∙ length-set t (column 1 t n) _

pub undone_length : (t : Rows) (mark d : ℕ) → length (undone t mark d) ≡ length t
unfolding undone
undone_length t mark zero = refl
undone_length t mark (suc d) = undone_length (removed t (mark + d)) mark d ∙ removed_length t (mark + d)

pub added_length : {t t' : Rows} {k k' : ℕ} → Added t t' k k' → length t ≡ length t'
added_length {t} {t'} {k} {k'} h = ap length (sym h.back) ∙ undone_length t' k (k' - k)

-- Terms in order.
pub span_same : (f g : ℕ → Term) (i n : ℕ) → ((j : ℕ) → i ≤ j → j < i + n → f j ≡ g j) → span f i n ≡ span g i n
span_same f g i zero h = refl
span_same f g i (suc n) h = ap₂ cons (h i (omega arith) (omega arith)) (span_same f g (suc i) n (λ j a b. h j (omega arith) (omega arith)))

pub span_count : (f : ℕ → Term) (i n : ℕ) → count (span f i n) ≡ n
span_count f i zero = refl
span_count f i (suc n) = ap suc (span_count f (suc i) n)

-- The first n frames are the same.
abbrev pub SameFrames : ℕ → Rows → Rows → Type 0
SameFrames n F F' = (j : ℕ) → j < n → frame_at F' j ≡ frame_at F j

-- Words written behind the first u, with more variables.
module _ (W W' : List ℕ) (v u : ℕ) (wf : WellFormed term_room (cells W) v u) (same : Same term_room (cells W) (cells W') u) where
  pub term_kept : (r : ℕ) → Refers W v u r → term W' r ≡ term W r
  term_kept r h = sym (frame_denote term_room (cells W) v u wf (cells W') same r h)

  pub refers_kept : (v' u' r : ℕ) → v ≤ v' → u ≤ u' → Refers W v u r → Refers W' v' u' r
  refers_kept v' u' r a b h = reference_up term_room a b (reference_same term_room same h)

  pub pending_kept : (R : Rows) (x : Frame) (i : ℕ) (w : List Work) → i ≤ arity R x.rule → Refers W v u x.goal
      → ((k : ℕ) → k < arity R x.rule → Refers W v u (premise_ref R x k)) → pending R W' x i w ≡ pending R W x i w
  pending_kept R x i w li g ps =
      ap₂ (λ (ts : Terms) (t : Term). goals ts x.depth (build x.rule t (arity R x.rule) ∷ w))
      (span_same (λ (k : ℕ). term W' (premise_ref R x k)) (λ (k : ℕ). term W (premise_ref R x k)) i (arity R x.rule - i)
      (λ j a b. term_kept (premise_ref R x j) (ps j (omega arith))))
      (term_kept x.goal g)

  pub place_kept : (D n : ℕ) (R F F' : Rows) (k v' u' : ℕ) → SameFrames k F F' → v ≤ v' → u ≤ u' → {p i : ℕ} {ws : List Work} → p ≤ k
      → Place D n R F W v u p i ws → Place D n R F' W' v' u' p i ws
  place_kept D n R F F' k v' u' sf lv lu lp (top l) = top l
  place_kept D n R F F' k v' u' sf lv lu lp (inside {j} {i} {w} {ws} {x} e known parent li used g ps outer level q) =
      inside {x = x} (sf j (omega arith) ∙ e) known parent li (omega arith) (refers_kept v' u' x.goal lv lu g)
      (λ m l. refers_kept v' u' (premise_ref R x m) lv lu (ps m l))
      (place_kept D n R F F' k v' u' sf lv lu (omega arith) outer) level (q ∙ sym (pending_kept R x i w li g ps))

module _ (a : Allowed) (P : List ℕ) (R F F' : Rows) (z : Start) (W W' : List ℕ) where
  pub entries_kept : (T : Rows) (n c t u : ℕ) (fs : List Branch) → SameFrames n F F' → Same term_room (cells W) (cells W') u
      → Stack a P R F z W T n c t u fs
      → entries z.depth F' W' n ≡ entries z.depth F W n
  entries_kept T zero c t u fs sf same k = refl
  entries_kept T (suc n) c t u [] sf same k = absurd k
  entries_kept T (suc n) c t u (f ∷ fs) sf same (x, T₁, ok, k) =
      let b = ok.below in
      ap₂ (λ (es : List Entry) (e : Entry). es ++ (e ∷ []))
      (entries_kept T₁ n c x.bound x.used fs (λ j l. sf j (omega arith)) (λ i l. same i (omega arith)) k)
      (ap (λ (y : Frame). entry (z.depth - y.depth) y.rule (term W' y.goal)) (sf n (omega arith) ∙ ok.reads)
      ∙ ap (entry (z.depth - x.depth) x.rule) (term_kept W W' c x.used ok.form.words (λ i l. same i (omega arith)) x.goal
      ok.refers)
      ∙ ap (λ (y : Frame). entry (z.depth - y.depth) y.rule (term W y.goal)) (sym ok.reads))

  pub stack_kept_lem : (T : Rows) (n c c' t u : ℕ) (fs : List Branch) → SameFrames n F F' → Same term_room (cells W) (cells W') u
      → length W' ≡ length W
      → c ≤ c' → c' ≤ term_room → c' ≤ length T → Stack a P R F z W T n c t u fs → Stack a P R F' z W' T n c' t u fs
  stack_kept_lem T zero c c' t u [] sf same long more few lent k =
      let e = k.used in record { bound = k.bound; used = e; rows = k.rows; same = λ i l. k.same i l ∙ same i (omega arith) }
  stack_kept_lem T zero c c' t u (f ∷ fs) sf same long more few lent k = absurd k
  stack_kept_lem T (suc n) c c' t u [] sf same long more few lent k = absurd k
  stack_kept_lem T (suc n) c c' t u (f ∷ fs) sf same long more few lent (x, T₁, ok, k) =
      let b = ok.below in
      let e = added_length ok.added in
      let lent₁ : c' ≤ length T₁ = omega arith in
      let lw = ok.form.lent_words in
      let sf₁ : SameFrames n F F' = λ j l. sf j (omega arith) in
      let same₁ : Same term_room (cells W) (cells W') x.used = λ i l. same i (omega arith) in (
        x,
        T₁,
        record {
          reads = sf n (omega arith) ∙ ok.reads;
          saved = held_older ok.form W' same₁ x.bound (omega arith) ∙ ok.saved;
          goal = term_kept W W' c x.used ok.form.words same₁ x.goal ok.refers ∙ ok.goal;
          depth = ok.depth;
          words = ok.words;
          rule = ok.rule;
          others = ok.others;
          known = ok.known;
          rest = place_kept W W' c x.used ok.form.words same₁ z.depth a.rules R F F' n c' x.used sf₁ more (omega arith)
              ok.parent ok.rest;
          parent = ok.parent;
          refers = refers_kept W W' c x.used ok.form.words same₁ c' x.used x.goal more (omega arith) ok.refers;
          below = ok.below;
          added = ok.added;
          form = form_back ok.form W' same₁ c' more few lent₁ long;
          formed = λ rs s. form_same W W' 0 x.used term_room c c' z.arities (omega arith) lw (omega arith) more same₁
              (ok.formed rs s);
          level = ok.level;
          order = entries_kept T₁ n c x.bound x.used fs sf₁ same₁ k ∙ ok.order;
          fits = ok.fits;
        },
        stack_kept_lem T₁ n c c' x.bound x.used fs sf₁ same₁ long more few lent₁ k,
      )

-- The session stands below the frames.
pub stack_above : (a : Allowed) (P : List ℕ) (R F : Rows) (z : Start) (W : List ℕ) (T : Rows) (n c t u : ℕ) (fs : List Branch)
    → Stack a P R F z W T n c t u fs → Above W T z t u
stack_above a P R F z W T zero c t u [] k =
    let e = k.used in
    record {
      words = omega arith;
      same = k.same;
      added = subst (λ (b : Rows). Added z.rows b z.bound t) (sym k.rows)
          (subst (λ (j : ℕ). Added z.rows z.rows z.bound j) (sym k.bound) (added_none z.rows z.bound));
    }
stack_above a P R F z W T zero c t u (f ∷ fs) k = absurd k
stack_above a P R F z W T (suc n) c t u [] k = absurd k
stack_above a P R F z W T (suc n) c t u (f ∷ fs) (x, T₁, ok, k) =
    let b = stack_above a P R F z W T₁ n c x.bound x.used fs k in
    let l = b.words in let m = ok.below in
    record { words = omega arith; same = b.same; added = added_both b.added ok.added }

-- The goals of the frames are references in form.
pub stack_refers : (a : Allowed) (P : List ℕ) (R F : Rows) (z : Start) (W : List ℕ) (T : Rows) (n c t u : ℕ) (fs : List Branch)
    → Stack a P R F z W T n c t u fs → (k : ℕ) → k < n → Refers W c u (frame_at F k).goal
stack_refers a P R F z W T zero c t u fs k i l = absurd (omega arith)
stack_refers a P R F z W T (suc n) c t u [] k i l = absurd k
stack_refers a P R F z W T (suc n) c t u (f ∷ fs) (x, T₁, ok, k) i l =
    by_same i n
    (λ p e. subst (λ (y : Frame). Refers W c u y.goal) (sym ok.reads ∙ ap (frame_at F) (sym p))
    (reference_up term_room (omega arith) ok.below ok.refers))
    (λ p e. reference_up term_room (omega arith) ok.below (stack_refers a P R F z W T₁ n c x.bound x.used fs k i
    (let q : i < n = omega (arith, p) in q)))
