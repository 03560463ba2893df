-- The bounds in turn: what the loop keeps, and its ways out.
use Rattle.std.specs.Prelude.{ℕ, zero, suc, ◌+◌, ◌-◌, ◌≤◌, ◌<◌, ◌≡◌, refl, Bool, true, false, not, cond, ◌≢◌, List, [], ◌∷◌, length, Result as Outcome, Ok, Err}
use Rattle.std.proofs.Common.{arith, le_refl, ap, sym, ◌∙◌, subst}
use Rattle.terms.specs.Numbers.{less_yes, less_no, true_false}
use Rattle.terms.specs.Term.{many}
use Rattle.arena.specs.Cells.{reference_up, below_denote, cells}
use Rattle.arena.specs.Copies.{term_room}
use Rattle.arena.specs.Form.{in_form}
use Rattle.arena.specs.FormKept.{form_same}
use Rattle.arena.specs.Rows.{Rows}
use Rattle.bindings.specs.Stored.{held}
use Rattle.refusals.specs.declared.Refusal.{Refusal}
use Rattle.resolution.specs.Rules.{Tree}
use Rattle.resolution.specs.Search.{within, Result, refused, found, failed, Verdict, settle, bounds_from, bounds, deepen, nothing}
use Rattle.resolution.specs.Search.{proved}
use Rattle.resolution.specs.Preorder.{flat}
use Rattle.resolution.specs.Verdicts as verdicts
use Rattle.resolution.proofs.Verdicts.{deepen_says}
use Rattle.search_machine.specs.State.{term, rules_from}
use Rattle.search_machine.specs.Allowed.{Allowed}
use Rattle.deepening.specs.Bounds.{Asking, bounded_of, Unchanged, Extended, Shown, Counted, Says, Bounded, settled, prove_of}
use Rattle.deepening.specs.Bounds.{Deepened}
use Rattle.deepening.specs.TreeLaws.{entries_count, lists_all}
use Rattle.deepening.specs.declared.bound.Came.{Came}
use Rattle.deepening.specs.declared.bound.Came.TheVariants.{Found, Failed}
use Rattle.deepening.specs.declared.Answer.TheVariants.{Proved, Nothing, Undecided}

-- A failure that does not settle the goal, and one that does.
settle_open : (s b : ℕ) (cut : Bool) (c : ℕ) (next : ℕ → ℕ → Verdict) → settled b cut ≡ false
    → settle s (failed b cut c) next ≡ next (s - b) c
settle_open s zero cut c next e = ap (λ (k : ℕ). next k c) (let q : s ≡ s - 0 = omega arith in q)
settle_open s (suc b) true c next e = refl
settle_open s (suc b) false c next e = true_false refl e

settle_done : (s b : ℕ) (cut : Bool) (c : ℕ) (next : ℕ → ℕ → Verdict) → settled b cut ≡ true
    → settle s (failed b cut c) next ≡ nothing (s - b) c
settle_done s zero cut c next e = true_false e refl
settle_done s (suc b) true c next e = true_false e refl
settle_done s (suc b) false c next e = refl

-- The two tests of `is_settled`.
pub settled_zero : (b : ℕ) (cut : Bool) → b ≡ 0 → false ≡ settled b cut
settled_zero zero cut e = refl
settled_zero (suc b) cut e = absurd (omega arith)

pub settled_cut : (b : ℕ) (cut : Bool) → b ≢ 0 → not cut ≡ settled b cut
settled_cut zero cut n = absurd (n refl)
settled_cut (suc b) true n = refl
settled_cut (suc b) false n = refl

-- The bounds from d on, with enough fuel.
bounds_past : (n d largest : ℕ) → largest < d → bounds_from n d largest ≡ []
bounds_past zero d largest l = refl
bounds_past (suc n) d largest l = ap (λ (b : Bool). cond b [] (d ∷ bounds_from n (d + d) largest)) (less_yes l)

bounds_next : (n d largest : ℕ) → d ≤ largest → largest < d + n → bounds_from n d largest ≡ d ∷ bounds_from (n - 1) (d + d) largest
bounds_next zero d largest l f = absurd (omega arith)
bounds_next (suc n) d largest l f =
    ap (λ (b : Bool). cond b [] (d ∷ bounds_from n (d + d) largest)) (less_no l)
    ∙ ap (λ (k : ℕ). d ∷ bounds_from k (d + d) largest) (let e : n ≡ suc n - 1 = omega arith in e)

-- A later counter, and buffers that are the same.
asking_later : {a : Allowed} {P : List ℕ} {R F : Rows} {W : List ℕ} {T L M S : Rows} {g s c t u c' : ℕ} → Asking a P R F W T L M S g s c t u
    → Counted a W T c t u c' → Asking a P R F W T L M S g s c' t u
asking_later h k = record {
  rules = h.rules;
  well = k.well;
  refers = reference_up term_room k.later (omega arith) h.refers;
  scratch = h.scratch;
  frames = h.frames;
  steps = h.steps;
  small = h.small;
  words_clear = h.words_clear;
  frames_clear = h.frames_clear;
}

asking_same : {a : Allowed} {P : List ℕ} {R F F' : Rows} {W W' : List ℕ} {T T' L L' M M' S S' : Rows} {g s c t u : ℕ}
    → Unchanged F F' W W' T T'
    → L' ≡ L → M' ≡ M → S' ≡ S → Asking a P R F W T L M S g s c t u → Asking a P R F' W' T' L' M' S' g s c t u
asking_same {a} {P} {R} {F} {F'} {W} {W'} {T} {T'} {L} {L'} {M} {M'} {S} {S'} {g} {s} {c} {t} {u} k l m n h =
    subst (λ (B : Rows). Asking a P R B W' T' L' M' S' g s c t u) (sym k.frames)
    (subst (λ (B : List ℕ). Asking a P R F B T' L' M' S' g s c t u) (sym k.words)
    (subst (λ (B : Rows). Asking a P R F W B L' M' S' g s c t u) (sym k.rows)
    (subst (λ (B : Rows). Asking a P R F W T B M' S' g s c t u) (sym l)
    (subst (λ (B : Rows). Asking a P R F W T L B S' g s c t u) (sym m)
    (subst (λ (B : Rows). Asking a P R F W T L M B g s c t u) (sym n) h)))))

-- What the loop keeps, before the depth bound d: every buffer is as at entry; and the bounds from d on, with the steps that the last one
-- took and the counter, come to the theory's answer.
pub record Deepening (a : Allowed) (P : List ℕ) (R F₀ F : Rows) (W₀ W : List ℕ) (T₀ T L₀ L M₀ M S₀ S : Rows)
    (g largest s c t u d k c' : ℕ) : Type 0 where
  pub start : Asking a P R F₀ W₀ T₀ L₀ M₀ S₀ g s c t u
  pub unchanged : Unchanged F₀ F W₀ W T₀ T
  pub links : L ≡ L₀
  pub marks : M ≡ M₀
  pub stack : S ≡ S₀
  pub counted : Counted a W₀ T₀ c t u c'
  pub positive : 0 < d
  pub fuel : ℕ
  pub enough : largest < d + fuel
  pub is : (text : List ℕ) → deepen (within a.limits.variables a.limits.words) (rules_from text P R 0 a.rules) s u (held term_room W₀ T₀ t)
      (term W₀ g)
      (bounds_from fuel d largest) k c' ≡ prove_of a text P R W₀ T₀ g largest s c t u

pub deepening_start : {a : Allowed} {P : List ℕ} {R F : Rows} {W : List ℕ} {T L M S : Rows} {g s c t u : ℕ} (largest : ℕ)
    → Asking a P R F W T L M S g s c t u
    → Deepening a P R F F W W T T L L M M S S g largest s c t u 4 0 c
deepening_start largest h = record {
  start = h;
  unchanged = record { frames = refl; words = refl; rows = refl };
  links = refl;
  marks = refl;
  stack = refl;
  counted = record { later = le_refl _; well = h.well };
  positive = omega arith;
  fuel = largest;
  enough = omega arith;
  is = λ text. refl;
}

module _ {a : Allowed} {P : List ℕ} {R F₀ F : Rows} {W₀ W : List ℕ} {T₀ T L₀ L M₀ M S₀ S : Rows} {g largest s c t u d k c' : ℕ}
    (h : Deepening a P R F₀ F W₀ W T₀ T L₀ L M₀ M S₀ S g largest s c t u d k c') where
  -- What a bound asks.
  pub deepening_asking : Asking a P R F W T L M S g s c' t u
  deepening_asking = asking_same h.unchanged h.links h.marks h.stack (asking_later h.start h.counted)

  -- No bound is left.
  pub deepening_over : largest < d → Deepened a P R F₀ F W₀ W T₀ T L₀ L M₀ M S₀ S g largest s c t u (Ok (Undecided k c'))
  deepening_over l = record {
    answers = λ text. (
      ap (λ (ds : List ℕ). deepen (within a.limits.variables a.limits.words) (rules_from text P R 0 a.rules) s u (held term_room W₀ T₀ t)
          (term W₀ g) ds k c')
          (sym (bounds_past h.fuel d largest l)) ∙ h.is text,
      h.counted,
      h.unchanged,
    );
    links = h.links;
    marks = h.marks;
    stack = h.stack;
  }

  module _ (ld : d ≤ largest) {F' : Rows} {W' : List ℕ} {T' L' M' S' : Rows} {r : Outcome Came Refusal}
      (came : Bounded a P R F F' W W' T T' L L' M M' S S' g d s c' t u r) where
    -- The bound started from the buffers at entry.
    from_entry : Bounded a P R F₀ F' W₀ W' T₀ T' L₀ L' M₀ M' S₀ S' g d s c' t u r
    from_entry =
        subst (λ (B : Rows). Bounded a P R B F' W₀ W' T₀ T' L₀ L' M₀ M' S₀ S' g d s c' t u r) h.unchanged.frames
        (subst (λ (B : List ℕ). Bounded a P R F F' B W' T₀ T' L₀ L' M₀ M' S₀ S' g d s c' t u r) h.unchanged.words
        (subst (λ (B : Rows). Bounded a P R F F' W W' B T' L₀ L' M₀ M' S₀ S' g d s c' t u r) h.unchanged.rows
        (subst (λ (B : Rows). Bounded a P R F F' W W' T T' B L' M₀ M' S₀ S' g d s c' t u r) h.links
        (subst (λ (B : Rows). Bounded a P R F F' W W' T T' L L' B M' S₀ S' g d s c' t u r) h.marks
        (subst (λ (B : Rows). Bounded a P R F F' W W' T T' L L' M M' B S' g d s c' t u r) h.stack came)))))

    -- What it settles is the answer.
    value : (text : List ℕ) (o : Result) → o ≡ bounded_of a text P R W₀ T₀ g d s c' t u
        → settle s o (λ (u' c'' : ℕ). deepen (within a.limits.variables a.limits.words) (rules_from text P R 0 a.rules) s u
        (held term_room W₀ T₀ t) (term W₀ g)
        (bounds_from (h.fuel - 1) (d + d) largest) u' c'') ≡ prove_of a text P R W₀ T₀ g largest s c t u
    value text o e =
        ap (λ (o : Result). settle s o (λ (u' c'' : ℕ). deepen (within a.limits.variables a.limits.words) (rules_from text P R 0 a.rules) s u
        (held term_room W₀ T₀ t) (term W₀ g)
        (bounds_from (h.fuel - 1) (d + d) largest) u' c'')) e
        ∙ ap (λ (ds : List ℕ). deepen (within a.limits.variables a.limits.words) (rules_from text P R 0 a.rules) s u (held term_room W₀ T₀ t)
        (term W₀ g) ds k c')
        (sym (bounds_next h.fuel d largest ld h.enough))
        ∙ h.is text

    known : (q : Outcome Came Refusal) → r ≡ q → (text : List ℕ) → Says a P R F₀ F' W₀ W' T₀ T' s c' t u (bounded_of a text P R W₀ T₀ g d s c' t u) q
    known q e text =
        subst (λ (q : Outcome Came Refusal). Says a P R F₀ F' W₀ W' T₀ T' s c' t u (bounded_of a text P R W₀ T₀ g d s c' t u) q) e (from_entry.says text)

    pub deepening_refused : (o : Refusal) → r ≡ Err o
        → Deepened a P R F₀ F' W₀ W' T₀ T' L₀ L' M₀ M' S₀ S' g largest s c t u (Err o)
    deepening_refused o e = record {
      answers = λ text. let k = known (Err o) e text in (k.0, value text refused k.1, k.2);
      links = from_entry.links;
      marks = from_entry.marks;
      stack = from_entry.stack;
    }

    module _ (n b c₁ t₁ u₁ : ℕ) (e : r ≡ Ok (Found n b (record { variables = c₁; bound = t₁; used = u₁ }))) where
      shown : (text : List ℕ) → Shown a P R F₀ F' W₀ W' T₀ T' s c' t u (bounded_of a text P R W₀ T₀ g d s c' t u) n b c₁ t₁ u₁
      shown text = known (Ok (Found n b (record { variables = c₁; bound = t₁; used = u₁ }))) e text

      pub found_left : b ≤ s
      found_left = (shown []).left

      -- The proof is one tree.
      told : (text : List ℕ) → verdicts.Proved (rules_from text P R 0 a.rules) c (held term_room W₀ T₀ t) (term W₀ g)
          (held term_room W' T' t₁) (shown text).trees c₁
      told text =
          subst (λ (v : Verdict). verdicts.Says (rules_from text P R 0 a.rules) c (held term_room W₀ T₀ t) (term W₀ g) v)
          (sym (value text (found (held term_room W' T' t₁) (shown text).trees b c₁ u₁) (shown text).value))
          (deepen_says (within a.limits.variables a.limits.words) (rules_from text P R 0 a.rules) s u c (held term_room W₀ T₀ t)
          (term W₀ g)
          h.start.well.form.acyclic h.start.well.form.below
          (below_denote term_room (cells W₀) c u h.start.well.form.words g h.start.refers) (bounds largest) 0 c (le_refl c))

      extended : Extended a P R W₀ W' T₀ T' c t u c₁ t₁ u₁
      extended =
          let x = (shown []).extended in
          let l = x.later in
          let m = h.counted.later in
          record {
            later = omega arith;
            longer = x.longer;
            added = x.added;
            well = x.well;
            words_long = x.words_long;
            words_kept = x.words_kept;
            words_clear = x.words_clear;
            stays_in_form = λ arities rs f. x.stays_in_form arities rs (counted_form arities f);
          }
        where
          counted_form : (arities : List ℕ) → in_form W₀ 0 u term_room c arities ≡ true → in_form W₀ 0 u term_room c' arities ≡ true
          counted_form arities f =
              let lw = h.start.well.form.lent_words in
              form_same W₀ W₀ 0 u term_room c c' arities (omega arith) lw lw h.counted.later (λ i l. refl) f

      pub deepening_proved : Deepened a P R F₀ F' W₀ W' T₀ T' L₀ L' M₀ M' S₀ S' g largest s c t u (Ok (Proved n (s - b) (record { variables = c₁; bound = t₁; used = u₁ })))
      deepening_proved = record {
        answers = λ text.
            let x = shown text in
            record {
              tree = (told text).tree;
              value = ap (λ (ts : Tree many). proved (held term_room W' T' t₁) ts (s - b) c₁ u₁) (sym (told text).only)
                  ∙ value text (found (held term_room W' T' t₁) x.trees b c₁ u₁) x.value;
              extended = extended;
              room = x.room;
              count = entries_count W' F' 0 n ∙ ap length (x.order ∙ ap flat (told text).only);
              lists = lists_all W' c₁ u₁ F' (told text).tree n x.nodes (x.order ∙ ap flat (told text).only);
              frames_long = x.frames_long;
              frames_clear = x.frames_clear;
            };
        links = from_entry.links;
        marks = from_entry.marks;
        stack = from_entry.stack;
      }

    module _ (b : ℕ) (cut : Bool) (c₁ : ℕ) (e : r ≡ Ok (Failed b cut c₁)) where
      fails : (text : List ℕ) → Says a P R F₀ F' W₀ W' T₀ T' s c' t u (bounded_of a text P R W₀ T₀ g d s c' t u) (Ok (Failed b cut c₁))
      fails text = known (Ok (Failed b cut c₁)) e text

      pub failed_left : b ≤ s
      failed_left = (fails []).1

      counted_on : Counted a W₀ T₀ c t u c₁
      counted_on = let l = (fails []).2.later in let m = h.counted.later in record { later = omega arith; well = (fails []).2.well }

      pub deepening_nothing : settled b cut ≡ true → Deepened a P R F₀ F' W₀ W' T₀ T' L₀ L' M₀ M' S₀ S' g largest s c t u
          (Ok (Nothing (s - b) c₁))
      deepening_nothing q = record {
        answers = λ text. (sym (settle_done s b cut c₁ _ q) ∙ value text (failed b cut c₁) (fails text).0, counted_on, (fails text).3);
        links = from_entry.links;
        marks = from_entry.marks;
        stack = from_entry.stack;
      }

      pub deepening_on : settled b cut ≡ false → Deepening a P R F₀ F' W₀ W' T₀ T' L₀ L' M₀ M' S₀ S' g largest s c t u (d + d) (s - b) c₁
      deepening_on q =
          let p = h.positive in
          let en = h.enough in
          record {
            start = h.start;
            unchanged = (fails []).3;
            links = from_entry.links;
            marks = from_entry.marks;
            stack = from_entry.stack;
            counted = counted_on;
            positive = omega arith;
            fuel = h.fuel - 1;
            enough = omega arith;
            is = λ text. sym (settle_open s b cut c₁ _ q) ∙ value text (failed b cut c₁) (fails text).0;
          }
