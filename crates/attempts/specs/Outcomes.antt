-- The theory's attempt over the stored counts, in its four ways, and what each way out of an attempt leaves.
use Rattle.std.specs.Prelude.{ℕ, ◌+◌, ◌≤◌, ◌≡◌, refl, Bool, true, false, Option, Some, None, Result, Ok, Err, List, get_or}
use Rattle.std.proofs.Common.{arith, le_refl, sym, ◌∙◌, subst}
use Rattle.std.proofs.Math.Path.{ap, ap₂}
use Rattle.std.proofs.Math.ListN.{length}
use Rattle.terms.specs.Numbers.{true_false}
use Rattle.terms.specs.Term.{Term}
use Rattle.terms.specs.Bindings.{Bindings}
use Rattle.terms.specs.Unification.{Outcome, fails, unified, unify}
use Rattle.arena.specs.Cells.{headers, denote, Same, cells}
use Rattle.arena.specs.Copies.{pattern_room, term_room, numbered}
use Rattle.arena.specs.Form.{in_form}
use Rattle.arena.specs.FormKept.{form_same}
use Rattle.arena.specs.Rows.{Rows}
use Rattle.bindings.specs.Stored.{held, Form}
use Rattle.resolution.specs.Rules.{Rule}
use Rattle.resolution.specs.Fresh.{all_vars, head, body}
use Rattle.resolution.specs.Search.{words, within, over, Attempt, exceeded, missed, entered, guard, unifying, attempt}
use Rattle.attempts.specs.StoredRules.{pattern_of, rule_of, StoredRule}
use Rattle.attempts.specs.Promises.{Asked, Back, Added, Attempted, HeadAsked, HeadTried, instance, BodyAsked, BodyTried, premise_at}
use Rattle.attempts.specs.RuleLaws.{terms_moved, instance_head, instance_body, head_words_lem, body_words_lem, variables_le}
use Rattle.attempts.specs.Extending.{form_back}
use Rattle.attempts.specs.Heads.{allowed}
use Rattle.attempts.specs.declared.Stored.{Stored}
use Rattle.attempts.specs.declared.Tried.TheVariants.{Missed, Entered}
use Rattle.refusals.specs.declared.Refusal.{Refusal}

guard_refuses : (b : Bool) (next : Unit {0} → Attempt) → b ≡ true → guard b next ≡ exceeded
guard_refuses true next e = refl
guard_refuses false next e = true_false e refl

guard_allows : (b : Bool) (next : Unit {0} → Attempt) → b ≡ false → guard b next ≡ next tt
guard_allows true next e = true_false refl e
guard_allows false next e = refl

-- An attempt by its counts and the conclusion's instance.
module _ (most limit : ℕ) (β : Bindings) (g : Term) (m c : ℕ) where
  -- The premises, with so many variables and words.
  abbrev second : ℕ → ℕ → Bindings → Attempt
  second v u β' = guard (over (within most limit) v u) (λ _. entered β' v u)

  -- The conclusion, with so many variables and words, and then the premises.
  abbrev first : ℕ → ℕ → Term → ℕ → ℕ → Attempt
  first v u h v' u' = guard (over (within most limit) v u) (λ _. unifying (unify v β g h) (missed v) (second v' u'))

module _ {pattern premises places : List ℕ} {stored : Stored} (rule : StoredRule pattern premises places stored) (most limit : ℕ) (β : Bindings) (g : Term) (m c : ℕ) where
  abbrev R : Rule
  R = rule_of pattern premises stored

  abbrev head_over : Bool
  head_over = over (within most limit) (c + stored.met) (m + stored.head)

  abbrev body_over : Bool
  body_over = over (within most limit) (c + stored.variables) (m + stored.head + stored.body)

  abbrev tried : Attempt
  tried = attempt (within most limit) β g m c (rule_of pattern premises stored)

  -- The counts and the conclusion are the stored ones.
  stored_counts : tried ≡ first most limit β g m c (c + stored.met) (m + stored.head) (instance pattern places stored c) (c + stored.variables) (m + stored.head + stored.body)
  unfolding attempt
  stored_counts =
      ap₂ (λ (v : ℕ) (h : Term). first most limit β g m c (c + v) (m + words (head c R)) h (c + length (all_vars R)) (m + words (head c R) + words (body c R)))
      (sym rule.head_variables) (sym (instance_head pattern premises places stored rule c))
      ∙ ap₂ (λ (u u' : ℕ). first most limit β g m c (c + stored.met) (m + u) (instance pattern places stored c) (c + length (all_vars R)) (m + u + u'))
      (head_words_lem pattern premises places stored rule c) (body_words_lem pattern premises places stored rule c)
      ∙ ap (λ (v : ℕ). first most limit β g m c (c + stored.met) (m + stored.head) (instance pattern places stored c) (c + v) (m + stored.head + stored.body))
      (sym rule.all_variables)

  head_exceeds : head_over ≡ true → tried ≡ exceeded
  head_exceeds e = stored_counts ∙ guard_refuses head_over _ e

  misses : head_over ≡ false → unify (c + stored.met) β g (instance pattern places stored c) ≡ fails → tried ≡ missed (c + stored.met)
  misses e u = stored_counts ∙ guard_allows head_over _ e
      ∙ ap (λ (o : Outcome). unifying o (missed (c + stored.met)) (second most limit β g m c (c + stored.variables) (m + stored.head + stored.body))) u

  module _ (β' : Bindings) (e : head_over ≡ false) (u : unify (c + stored.met) β g (instance pattern places stored c) ≡ unified β') where
    unifies : tried ≡ second most limit β g m c (c + stored.variables) (m + stored.head + stored.body) β'
    unifies = stored_counts ∙ guard_allows head_over _ e
        ∙ ap (λ (o : Outcome). unifying o (missed (c + stored.met)) (second most limit β g m c (c + stored.variables) (m + stored.head + stored.body))) u

    body_exceeds : body_over ≡ true → tried ≡ exceeded
    body_exceeds f = unifies ∙ guard_refuses body_over _ f

    enters : body_over ≡ false → tried ≡ entered β' (c + stored.variables) (m + stored.head + stored.body)
    enters f = unifies ∙ guard_allows body_over _ f

module _ {most limit : ℕ} {pattern premises places : List ℕ} {stored : Stored} {words : List ℕ} {rows links marks stack : Rows} {counter used bound goal : ℕ}
    (asked : Asked most limit pattern premises places stored words rows links marks stack counter used bound goal) where
  rule : StoredRule pattern premises places stored
  rule = asked.rule

  form : Form term_room words rows counter used bound
  form = asked.state.form

  -- What `try_head` asks.
  pub head_asked : HeadAsked most limit pattern places stored words rows links marks stack counter used bound goal
  head_asked = record {
    part = rule.head_part;
    root = rule.conclusion;
    few = let a = rule.few in let b = variables_le pattern premises places stored rule counter in omega arith;
    state = asked.state;
    refers = asked.refers;
  }

  -- Back at the entry, with the words in use as they were.
  back : (counter' : ℕ) {words' : List ℕ} {rows' : Rows} → counter ≤ counter' → counter' ≤ term_room → counter' ≤ length rows → Same term_room (cells words) (cells words') used → length words' ≡ length words → rows' ≡ rows
      → Back words' rows rows' counter' used bound
  back counter' {words'} {rows'} more few lent kept long e =
      record {
        same = e;
        form = subst (λ (b : Rows). Form term_room words' b counter' used bound) (sym e) (form_back form words' kept counter' more few lent long);
      }

  -- Words in form over a signature's arities stay so where they stand.
  still_in_form : (counter' : ℕ) (words' : List ℕ) → counter ≤ counter' → Same term_room (cells words) (cells words') used → length words' ≡ length words
      → (arities : List ℕ) → in_form words 0 used term_room counter arities ≡ true → in_form words' 0 used term_room counter' arities ≡ true
  still_in_form counter' words' more kept long arities e =
      let l = form.lent_words in
      form_same words words' 0 used term_room counter counter' arities (omega arith) l (omega arith) more kept e

  -- No sum is too large.
  pub small_counts : (counter + stored.met ≤ headers + pattern_room) × (counter + stored.variables ≤ headers + pattern_room) × (used + stored.head + stored.body ≤ headers + headers)
  small_counts =
      let a = form.few in let b = asked.state.low in let d = rule.few in let e = variables_le pattern premises places stored rule counter in
      let f = form.low in let p = rule.head_part.low in
      (omega arith, omega arith, omega arith)

  module _ {words' : List ℕ} {rows' links' marks' stack' : Rows} {answer : Result (Option ℕ) Refusal} (told : HeadTried most limit pattern places stored words words' rows rows' links links' marks marks' stack stack' counter used bound goal answer) where
    -- The answer is known.
    known : (a : Result (Option ℕ) Refusal) → answer ≡ a → HeadTried most limit pattern places stored words words' rows rows' links links' marks marks' stack stack' counter used bound goal a
    known a e = subst (λ (a : Result (Option ℕ) Refusal). HeadTried most limit pattern places stored words words' rows rows' links links' marks marks' stack stack' counter used bound goal a) e told

    pub refused_way : (x : Refusal) → answer ≡ Err x
        → Attempted most limit pattern premises places stored words words' rows rows' links links' marks marks' stack stack' counter used bound goal (Err x)
    refused_way x e = let h = known (Err x) e in record {
      limits = h.limits;
      is = sym (head_exceeds rule most limit (held term_room words rows bound) (denote term_room (cells words) goal) used counter h.came.0);
      kept = h.kept;
      past = λ i l. h.past i (omega arith);
      long = h.long;
      left = back counter (le_refl counter) form.few form.lent_rows h.kept h.long h.came.1;
      stays_in_form = λ arities r f. still_in_form counter words' (le_refl counter) h.kept h.long arities f;
      links_kept = h.links_kept;
      marks_kept = h.marks_kept;
      stack_kept = h.stack_kept;
    }

    pub missed_way : answer ≡ Ok None
        → Attempted most limit pattern premises places stored words words' rows rows' links links' marks marks' stack stack' counter used bound goal (Ok (Missed (counter + stored.met)))
    missed_way e = let h = known (Ok None) e in record {
      limits = tt;
      is = sym (misses rule most limit (held term_room words rows bound) (denote term_room (cells words) goal) used counter h.came.0 h.came.1);
      kept = h.kept;
      past = λ i l. h.past i (omega arith);
      long = h.long;
      left =
          let a = (allowed most limit (counter + stored.met) (used + stored.head) h.came.0).0 in let b = asked.state.enough in let d = asked.state.lent_rows in
          (omega arith, back (counter + stored.met) (omega arith) (omega arith) (omega arith) h.kept h.long h.came.2);
      stays_in_form = λ arities r f. still_in_form (counter + stored.met) words' (omega arith) h.kept h.long arities f;
      links_kept = h.links_kept;
      marks_kept = h.marks_kept;
      stack_kept = h.stack_kept;
    }

    module _ (n : ℕ) (e : answer ≡ Ok (Some n)) (rows_long : length rows' ≡ length rows) where
      h : HeadTried most limit pattern places stored words words' rows rows' links links' marks marks' stack stack' counter used bound goal (Ok (Some n))
      h = known (Ok (Some n)) e

      -- What `try_body` asks.
      pub body_asked : BodyAsked most limit pattern places stored words' rows' counter used bound n
      body_asked =
          let l = told.long in let a = asked.state.lent_words in let b = asked.state.lent_rows in
          record {
            part = rule.body_part;
            few = rule.few;
            grows = variables_le pattern premises places stored rule counter;
            form = h.came.2.form;
            marked = h.came.2.added.more;
            lent_words = omega arith;
            lent_rows = omega arith;
            enough = asked.state.enough;
            low = asked.state.low;
          }

      kept_both : (words'' : List ℕ) → Same term_room (cells words') (cells words'') (used + stored.head) → Same term_room (cells words) (cells words'') used
      kept_both words'' k i l = h.kept i l ∙ k i (omega arith)

      past_both : (words'' : List ℕ) → ((i : ℕ) → used + stored.head + stored.body ≤ i → cells words'' i ≡ cells words' i)
          → (i : ℕ) → used + stored.head + stored.body ≤ i → cells words'' i ≡ cells words i
      past_both words'' k i l = k i l ∙ h.past i (omega arith)

      module _ {words'' : List ℕ} {rows'' : Rows} {copied : Result (Unit {0}) Refusal} (done : BodyTried most limit pattern places stored words' words'' rows' rows'' counter used bound n copied) where
        pub exceeded_way : (x : Refusal) → copied ≡ Err x
            → Attempted most limit pattern premises places stored words words'' rows rows'' links links' marks marks' stack stack' counter used bound goal (Err x)
        exceeded_way x f = let k = subst (λ (a : Result (Unit {0}) Refusal). BodyTried most limit pattern places stored words' words'' rows' rows'' counter used bound n a) f done in record {
          limits = k.limits;
          is = sym (body_exceeds rule most limit (held term_room words rows bound) (denote term_room (cells words) goal) used counter
              (held term_room words' rows' n) h.came.0 h.came.1 k.done.0);
          kept = kept_both words'' k.kept;
          past = past_both words'' k.past;
          long = k.long ∙ h.long;
          left = back counter (le_refl counter) form.few form.lent_rows (kept_both words'' k.kept) (k.long ∙ h.long) (k.done.1 ∙ h.came.2.added.back);
          stays_in_form = λ arities r f. still_in_form counter words'' (le_refl counter) (kept_both words'' k.kept) (k.long ∙ h.long) arities f;
          links_kept = h.links_kept;
          marks_kept = h.marks_kept;
          stack_kept = h.stack_kept;
        }

        pub entered_way : copied ≡ Ok tt
            → Attempted most limit pattern premises places stored words words'' rows rows'' links links' marks marks' stack stack' counter used bound goal
            (Ok (Entered (record { variables = counter + stored.variables; bound = n; used = used + stored.head + stored.body })))
        entered_way f = let k = subst (λ (a : Result (Unit {0}) Refusal). BodyTried most limit pattern places stored words' words'' rows' rows'' counter used bound n a) f done in record {
          limits = tt;
          is = ap (λ (β : Bindings). entered β (counter + stored.variables) (used + stored.head + stored.body)) k.done.1.bindings
              ∙ sym (enters rule most limit (held term_room words rows bound) (denote term_room (cells words) goal) used counter
              (held term_room words' rows' n) h.came.0 h.came.1 k.done.0);
          kept = kept_both words'' k.kept;
          past = past_both words'' k.past;
          long = k.long ∙ h.long;
          left = record {
            form = k.done.1.form;
            later = omega arith;
            longer = omega arith;
            added = subst (λ (b : Rows). Added rows b bound n) (sym k.done.1.same) h.came.2.added;
            references = λ i l. k.done.1.references (get_or premises i 0) (rule.premise i l);
            denoted = terms_moved (numbered places counter) (premise_at places counter stored used) (pattern_of pattern) (denote term_room (cells words'')) premises
                (λ i l. k.done.1.denotes (get_or premises i 0) (rule.premise i l))
                ∙ instance_body pattern premises places stored rule counter;
          };
          stays_in_form = λ arities r f. k.done.1.grown arities r.premises (h.came.2.grown arities r.conclusion f);
          links_kept = h.links_kept;
          marks_kept = h.marks_kept;
          stack_kept = h.stack_kept;
        }
