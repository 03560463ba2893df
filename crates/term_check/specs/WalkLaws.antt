-- Laws of the walk through a term's rows: how it starts, its turns, and its ways out.
use Prim.Native.Nat.{ℕ, zero, suc, ◌+◌, ◌-◌, ◌≤◌, ◌<◌}
use Rattle.std.proofs.Common.{add-one, sym, ◌∙◌}
use native.Mathlib.Omega.{arith}
use Rattle.std.specs.Prelude.{◌≡◌}
use Rattle.std.proofs.Math.Path.{refl, ap, ap₂, subst}
use mathlib.Core.List.{List, [], ◌∷◌}
use Rattle.std.proofs.Math.ListN.{length, get_or, set, length-set}
use Rattle.std.proofs.Math.Seq.{get_or-set_same, get_or-set_other}
use Rattle.term_parser.specs.Source.{Source, many, none, more, count}
use Rattle.term_parser.specs.Rows.{Rows}
use Rattle.term_parser.specs.Depth.{depth}
use Rattle.term_check.specs.TermRows.{Worded, Lies, TermAt, checked_told, Checking}
use Rattle.term_check.specs.Walk.{top_of, Topped, Coming, pending, Iff, Walking}
use Rattle.term_check.specs.LyingLaws.{lies_none, none_ends, lies_join, middle, lies_first, lies_rest, lies_under, top_inside, top_row, lies_over, none_is, made, split}
use Rattle.std.specs.Prelude.{Some, None}

-- Ways out

pub checked_none : (text : List ℕ) (rows : Rows) (at : ℕ) → ((q : ℕ) → TermAt text rows at q → ⊥) → Checking text rows at None
checked_none text rows at never =
    record {
      sound = λ q e. absurd (let z : ◌≡◌ {A = ℕ} 0 1 = cc in omega arith);
      complete = λ q t. absurd (never q t);
      told = λ q t. absurd (never q t);
      barred = λ _. refl;
    }

-- Turns, over lists of levels

module _ (text : List ℕ) (rows : Rows) (q : ℕ) where
  -- A level at which no more is to come is left.
  level_done : (ks : List ℕ) (p : ℕ) → length ks ≤ 131 → Iff (Coming text rows q (0 ∷ ks) p) (Coming text rows q ks p)
  unfolding count depth
  level_done ks p l =
      record {
        to = λ h. let a = h.1 in
            let e : a.terms ≡ none = none_is a.terms a.number in
            let r : h.0 ≡ p = none_ends rows p h.0 (subst (λ (ts : Source many). Lies rows p ts h.0) e a.lies) in
            subst (Coming text rows q ks) r h.2;
        from = λ h. (p, record { terms = none; lies = lies_none rows p; number = refl; worded = tt; shallow = omega arith }, h);
      }

  -- One more term is to come, at this level.
  record Next (k : ℕ) (ks : List ℕ) (p : ℕ) : Type 0 where
    pub number : ℕ
    pub inside : p < length rows
    pub takes : top_of text (get_or rows p []) ≡ Some number
    pub low : length ks < 131
    pub coming : Coming text rows q (number ∷ k ∷ ks) (p + 1)

  next_is : (k : ℕ) (ks : List ℕ) (p : ℕ) → Coming text rows q (suc k ∷ ks) p → Next k ks p
  unfolding count depth
  next_is k ks p h = go h.1.terms h.1.lies h.1.number h.1.worded h.1.shallow
    where
      go : (ts : Source many) → Lies rows p ts h.0 → count ts ≡ suc k → Worded text ts → depth ts + length ks ≤ 131 → Next k ks p
      go none l n w s = absurd (omega arith)
      go (more t ts) l n w s =
          let x = split text t w.0 in
          let d = x.deep in
          let a = lies_first t ts l in
          record {
            number = count x.terms;
            inside = top_inside t x.row x.terms x.rows a;
            takes = ap (top_of text) (top_row t x.row x.terms x.rows a) ∙ x.takes;
            low = omega arith;
            coming = (
              middle t ts l,
              record { terms = x.terms; lies = lies_over t x.row x.terms x.rows a; number = refl; worded = x.worded; shallow = omega arith },
              (h.0, record { terms = ts; lies = lies_rest t ts l; number = omega arith; worded = w.1; shallow = omega arith }, h.2),
            );
          }

  next_back : (n k : ℕ) (ks : List ℕ) (p : ℕ) → p < length rows → length (get_or rows p []) ≡ 4 → top_of text (get_or rows p []) ≡ Some n
      → Coming text rows q (n ∷ k ∷ ks) (p + 1) → Coming text rows q (suc k ∷ ks) p
  unfolding count depth
  next_back n k ks p b long h c =
      let a = c.1 in
      let r = c.2.1 in
      let e : top_of text (get_or rows p []) ≡ Some (count a.terms) = h ∙ ap Some (sym a.number) in
      let x = made text (get_or rows p []) long a.terms a.worded e in
      let d = x.deep in
      let s = a.shallow in
      let v = r.shallow in
      let m = r.number in (
        c.2.0,
        record {
          terms = more x.term r.terms;
          lies = lies_join x.term r.terms (lies_under x.term (get_or rows p []) a.terms x.rows b refl a.lies) r.lies;
          number = omega arith;
          worded = (x.worded, r.worded);
          shallow = omega arith;
        },
        c.2.2,
      )

-- Turns, over the table of counts

pending_set : (left : List ℕ) (d i v : ℕ) → d ≤ i → pending (set left i v) d ≡ pending left d
unfolding pending
pending_set left zero i v l = refl
pending_set left (suc d) i v l = ap₂ (λ (x : ℕ) (ks : List ℕ). x ∷ ks) (get_or-set_other left i d v 0 (omega arith)) (pending_set left d i v (omega arith))

pending_length : (left : List ℕ) (d : ℕ) → length (pending left d) ≡ d
unfolding pending
pending_length left zero = refl
pending_length left (suc d) = ap suc (pending_length left d)

-- The innermost level.
pending_top : (left : List ℕ) (d : ℕ) → 0 < d → pending left d ≡ get_or left (d - 1) 0 ∷ pending left (d - 1)
unfolding pending
pending_top left zero l = absurd (omega arith)
pending_top left (suc d) l = let e : d ≡ suc d - 1 = omega arith in ap (λ (i : ℕ). get_or left i 0 ∷ pending left i) e

-- How the walk goes

-- There is a term from `at` on exactly if one is to come there.
pub walk_starts : (text : List ℕ) (rows : Rows) (at : ℕ) (left : List ℕ) → get_or left 0 0 ≡ 1 → Walking text rows at left 1 at
unfolding pending count depth
walk_starts text rows at left e =
    record {
      few = omega arith;
      same = λ q. record {
        to = λ g. let d = g.shallow in (
          q,
          record { terms = more g.term none; lies = lies_join g.term none g.lies (lies_none rows q); number = sym e; worded = (g.worded, tt); shallow = omega arith },
          refl,
        );
        from = λ c. go q c.0 c.2 c.1.terms c.1.lies (c.1.number ∙ e) c.1.worded c.1.shallow;
      };
    }
  where
    go : (q m : ℕ) → m ≡ q → (ts : Source many) → Lies rows at ts m → count ts ≡ 1 → Worded text ts → depth ts + 0 ≤ 131 → TermAt text rows at q
    go q m e none l n w s = absurd (omega arith)
    go q m e (more t ts) l n w s =
        let o : ts ≡ none = none_is ts (omega arith) in
        let r : m ≡ middle t ts l = none_ends rows (middle t ts l) m (subst (λ (x : Source many). Lies rows (middle t ts l) x m) o (lies_rest t ts l)) in
        record { term = t; lies = subst (Lies rows at t) (sym r ∙ e) (lies_first t ts l); worded = w.0; shallow = omega arith }

module _ {text : List ℕ} {rows : Rows} {at : ℕ} {left : List ℕ} {d p : ℕ} (h : Walking text rows at left d p) where
  abbrev To : ℕ → List ℕ → Type 0
  To q ks = Coming text rows q ks p

  -- At the end nothing is to come.
  pub walk_ends : d ≡ 0 → Checking text rows at (Some p)
  unfolding pending
  walk_ends e =
      let here : (q : ℕ) → TermAt text rows at q → p ≡ q = λ q t. subst (λ (i : ℕ). To q (pending left i)) e ((h.same q).to t) in
      let there : (q : ℕ) → p ≡ q → TermAt text rows at q = λ q z. (h.same q).from (subst (λ (i : ℕ). To q (pending left i)) (sym e) z) in
      record {
        sound = λ q f. there q (let z : p ≡ q = cc in z);
        complete = λ q t. ap Some (here q t);
        told = λ q t. ap (λ (i : ℕ). checked_told (Some i)) (here q t);
        barred = λ never. absurd (never p (there p refl));
      }

  -- A level is done.
  pub walk_up : 0 < d → get_or left (d - 1) 0 ≡ 0 → Walking text rows at left (d - 1) p
  walk_up l e =
      let f = h.few in
      let n = pending_length left (d - 1) in
      let i : pending left d ≡ 0 ∷ pending left (d - 1) = pending_top left d l ∙ ap (λ (i : ℕ). i ∷ pending left (d - 1)) e in
      record {
        few = omega arith;
        same = λ q.
            let s = level_done text rows q (pending left (d - 1)) p (omega arith) in
            record {
              to = λ t. s.to (subst (To q) i ((h.same q).to t));
              from = λ c. (h.same q).from (subst (To q) (sym i) (s.from c));
            };
      }

  module _ (l : 0 < d) (k : ℕ) (e : get_or left (d - 1) 0 ≡ k) (some : 0 < k) where
    top : pending left d ≡ suc (k - 1) ∷ pending left (d - 1)
    top = let a : get_or left (d - 1) 0 ≡ suc (k - 1) = omega arith in pending_top left d l ∙ ap (λ (i : ℕ). i ∷ pending left (d - 1)) a

    next : (q : ℕ) → TermAt text rows at q → Next text rows q (k - 1) (pending left (d - 1)) p
    next q t = next_is text rows q (k - 1) (pending left (d - 1)) p (subst (To q) top ((h.same q).to t))

    -- The rows end too early.
    pub walk_short : length rows ≤ p → Checking text rows at None
    walk_short b = checked_none text rows at (λ q t. let x = (next q t).inside in omega arith)

    -- The term is too deep.
    pub walk_deep : 132 ≤ d → Checking text rows at None
    walk_deep b = checked_none text rows at (λ q t. let x = (next q t).low in let n = pending_length left (d - 1) in omega arith)

    -- The next row is no term's.
    pub walk_bad : Topped text (get_or rows p []) None → Checking text rows at None
    walk_bad s = checked_none text rows at (λ q t. let x = (next q t).takes in
        let y = s.is in
        let z : ◌≡◌ {A = ℕ} 0 1 = cc in
        omega arith)

    -- The next row is a term's.
    pub walk_down : (n : ℕ) → p < length rows → Topped text (get_or rows p []) (Some n) → d < 132 → d < length left
        → Walking text rows at (set (set left (d - 1) (k - 1)) d n) (d + 1) (p + 1)
    unfolding pending
    walk_down n inside s b m =
        let left' : List ℕ = set (set left (d - 1) (k - 1)) d n in
        let z : length (set left (d - 1) (k - 1)) ≡ length left = length-set left (d - 1) (k - 1) in
        let a : get_or left' d 0 ≡ n = get_or-set_same (set left (d - 1) (k - 1)) d n 0 (omega arith) in
        let c : get_or left' (d - 1) 0 ≡ k - 1 = get_or-set_other (set left (d - 1) (k - 1)) d (d - 1) n 0 (omega arith) ∙ get_or-set_same left (d - 1) (k - 1) 0 (omega arith) in
        let f : pending left' (d - 1) ≡ pending left (d - 1) = pending_set (set left (d - 1) (k - 1)) (d - 1) d n (omega arith) ∙ pending_set left (d - 1) (d - 1) (k - 1) (omega arith) in
        let g : pending left' (d + 1) ≡ n ∷ (k - 1) ∷ pending left (d - 1) =
        ap (pending left') (add-one d) ∙ ap₂ (λ (i : ℕ) (ks : List ℕ). i ∷ ks) a (pending_top left' d l ∙ ap₂ (λ (i : ℕ) (ks : List ℕ). i ∷ ks) c f) in
        record {
          few = omega arith;
          same = λ q. record {
            to = λ t. let x = next q t in
                let y = x.takes in
                let v = s.is in
                let u : x.number ≡ n = cc in
                subst (λ (ks : List ℕ). Coming text rows q ks (p + 1)) (sym g) (subst (λ (i : ℕ). Coming text rows q (i ∷ (k - 1) ∷ pending left (d - 1)) (p + 1)) u x.coming);
            from = λ o.
                let o₁ : Coming text rows q (n ∷ (k - 1) ∷ pending left (d - 1)) (p + 1) = subst (λ (ks : List ℕ). Coming text rows q ks (p + 1)) g o in
                let o₂ = next_back text rows q n (k - 1) (pending left (d - 1)) p inside s.long (sym s.is) o₁ in
                (h.same q).from (subst (To q) (sym top) o₂);
          };
        }
