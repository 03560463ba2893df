-- How `prove_listed` meets its contract: what lies past the counts is of no concern, a ready call can be prepared and searched, and each
-- way out leaves what the definitions' answer asks.
use Rattle.std.specs.Prelude.{ℕ, zero, suc, ◌+◌, ◌-◌, ◌≤◌, ◌<◌, ◌≡◌, refl, Bool, true, false, ◌||◌, List, Result, Ok, Err, ◌++◌, ltb, length, get_or, take, drop, replicate}
use Rattle.std.proofs.Common.{arith, sym, ap, ap₂, ◌∙◌, subst, take-append-drop, get_or-take, take-take, ltb-false}
use Rattle.std.proofs.lemmas.List.{length-replicate}
use Rattle.words.specs.Lexer.{capped_of}
use Rattle.words.specs.declared.Limits.{Limits}
use Rattle.terms.specs.Numbers.{less, by_bool, by_less, true_false, or_false}
use Rattle.attempts.specs.declared.SearchLimits.{SearchLimits}
use Rattle.terms.specs.Term.{Term, one}
use Rattle.terms.specs.Bindings.{Bindings}
use Rattle.arena.specs.Cells.{cells}
use Rattle.arena.specs.Copies.{term_room, pattern_room}
use Rattle.arena.specs.Form.{in_form}
use Rattle.bindings.specs.Stored.{held}
use Rattle.bindings.specs.Growth.{held_grows}
use Rattle.names.specs.Symbols.{Rows, column, row_at}
use Rattle.resolution.specs.Rules.{Rule, Tree, leaf, ◌◂◌}
use Rattle.resolution.specs.Preorder.{preorder}
use Rattle.resolution.specs.Search as search
use Rattle.resolution.specs.Search.{words, over, within, Verdict, refusal, proved, nothing, undecided, prove}
use Rattle.resolution.specs.Session.{Session, Compiled, refuses, compiles, goal_of, limits_of, at_most, variable_limit, word_limit, too_much}
use Rattle.resolution.specs.Session.{searched, answer, answered, tested}
use Rattle.resolution.specs.Session as theory
use Rattle.resolution.specs.Sizes.{VerdictWithin}
use Rattle.rules.specs.PatternLaws.{arities_of}
use Rattle.rules.specs.StoredRows.{Kept}
use Rattle.rules.specs.LayingLaws.{lying_form}
use Rattle.rule_checks.specs.RuleForm.{rule_in}
use Rattle.tree_rows.specs.Trees.{Lists, entries_from, zero_tree}
use Rattle.signature.specs.Form.{rules_of}
use Rattle.signature.specs.Storage.{SignatureStore, symbols_in, rules_in, SignatureListed}
use Rattle.signature.specs.StoreLaws.{row_kept}
use Rattle.load_storage.specs.Storage.{cleared_from}
use Rattle.search_machine.specs.State.{rules_from, RulesStored, RulesInForm}
use Rattle.search_machine.specs.Carry.{undone_length}
use Rattle.search_machine.specs.Signatures.{rows_stored, rules_listed}
use Rattle.search_machine.specs.Allowed.{Allowed}
use Rattle.search_machine.specs.declared.Store.{Store}
use Rattle.deepening.specs.Bounds.{prove_of, Counted}
use Rattle.refusals.specs.declared.Refusal.{Refusal}
use Rattle.refusals.specs.Refusals.{number_of}
use Rattle.sessions.specs.Storage.{SessionStore, session_store, session_of, is_short, zero_name}
use Rattle.sessions.specs.Goals.{goal_in, goal_compiled}
use Rattle.sessions.specs.Promises.{Asked, Given, ProveReady, allowance_of, query_of, answer_to, Continued, ProofListed}
use Rattle.sessions.specs.Promises.{ProofLeft, ProveLeaves}
use Rattle.sessions.specs.Leaving.{NamesFit, NamesKept, SessionMade, PartUnproved, grown_counts, cleared}
use Rattle.sessions.proofs.AnswerLaws.{listing_is}
use Rattle.sessions.proofs.KeepingLaws.{ask_within, stored_names}
use Rattle.sessions.proofs.LeavingLaws.{continued_cleared, refused_leaves, nothing_leaves, undecided_leaves, proved_leaves}
use Rattle.sessions.specs.declared.SessionCounts.{SessionCounts}
use Rattle.sessions.specs.Answers.{Answer, Refused, Proved, Nothing, Undecided}
use Rattle.prover.specs.Queries.{asked_in, session_in, given_of, given_in}
use Rattle.prover.specs.Clearing.{PastCleared, ClearsPast}
use Rattle.prover.specs.declared.Query.{Query}
use Rattle.prover.specs.Preparing.{search_limits, PrepareAsked, GoalStands, Within, Prepares, Preparing}
use Rattle.prover.specs.Searching.{SearchAsked, Unproved, counts_then, Failing, Finding, SearchSays, SearchLeft}
use Rattle.prover.specs.Proving.{ClearedReady, ProveLeft}
use Rattle.prover.specs.PreparingLaws.{capped_variables, capped_words, capped_steps}
use Rattle.prover.specs.declared.preparing.StoredGoal.{StoredGoal}

-- Sizes

module _ (v m n w b l k s : ℕ) where
  pub record Enough : Type 0 where
    pub names : 64 ≤ n
    pub words : m ≤ w
    pub bindings : v ≤ b
    pub links : term_room + m ≤ l
    pub marks : term_room + m ≤ k
    pub stack : m ≤ s

  abbrev last : Bool
  last = ltb k (term_room + m) || ltb s m

  abbrev others : Bool
  others = ltb b v || (ltb l (term_room + m) || last)

  pub enough : is_short v m n w b l k s ≡ false → Enough
  enough e =
      let a = or_false (ltb n 64) (ltb w m || others) e in
      let c = or_false (ltb w m) others a.1 in
      let d = or_false (ltb b v) (ltb l (term_room + m) || last) c.1 in
      let f = or_false (ltb l (term_room + m)) last d.1 in
      let g = or_false (ltb k (term_room + m)) (ltb s m) f.1 in
      record {
        names = ltb-false n 64 a.0;
        words = ltb-false w m c.0;
        bindings = ltb-false b v d.0;
        links = ltb-false l (term_room + m) f.0;
        marks = ltb-false k (term_room + m) g.0;
        stack = ltb-false s m g.1;
      }

-- Clearing

is_cleared : {A : Type 0} (z : A) (u : ℕ) (l : List A) → drop u l ≡ replicate (length l - u) z → cleared_from z u l ≡ l
is_cleared {A} z u l e = ap (λ (x : List A). take u l ++ x) (sym e) ∙ take-append-drop u l

-- What was added is cleared.
back_cleared : {A : Type 0} (z : A) (u : ℕ) (l l' : List A) → drop u l ≡ replicate (length l - u) z → take u l' ≡ take u l
    → length l' ≡ length l → cleared_from z u l' ≡ l
back_cleared {A} z u l l' e same long =
    ap₂ (λ (x : List A) (i : ℕ). x ++ replicate (i - u) z) same long ∙ is_cleared z u l e

continued_again : {A : Type 0} (z : A) (u v : ℕ) (l l' : List A) → u ≤ length l' → Continued z u v l l'
    → Continued z u u l (cleared_from z u l')
continued_again z u v l l' h c =
    let x = continued_cleared z u l' h in
    record { long = x.long ∙ c.long; same = x.same ∙ c.same; clear = x.clear ∙ ap (λ (i : ℕ). replicate (i - u) z) c.long }

-- What is left

abbrev given : Answer → Rows → List ℕ → Rows → Rows → Rows → Rows → Rows → Given
given a N W T F L M S =
    record {
      answer = a;
      store = record { names = N; words = W; bindings = T };
      proof = F;
      space = record { links = L; marks = M; stack = S };
    }

given_same : {a a' : Answer} {N N' : Rows} {W W' : List ℕ} {T T' F F' L L' M M' S S' : Rows} → a ≡ a' → N ≡ N' → W ≡ W' → T ≡ T' → F ≡ F'
    → L ≡ L' → M ≡ M' → S ≡ S' → given a N W T F L M S ≡ given a' N' W' T' F' L' M' S'
given_same a n w t f l m s = rw (a, n, w, t, f, l, m, s)

-- The rules

module _ (text : List ℕ) (sg : SignatureStore) (h : SignatureListed text sg) where
  rules_lent_lem : sg.counts.rules ≤ length sg.rules
  rules_lent_lem = let a = h.rules_lent in let b = h.few_rules in omega arith

  rule_kept : (i : ℕ) → i < sg.counts.rules
      → (a : ℕ) × (b : ℕ) × Kept text (arities_of (symbols_in text sg)) sg.words (row_at sg.rules i)
      (rule_in text sg.words (row_at sg.rules i)) a b
  rule_kept i l =
      row_kept text (arities_of (symbols_in text sg)) sg.words sg.rules sg.counts.rules sg.counts.words i rules_lent_lem
      h.rules_kept l

  rules_stored : RulesStored sg.words sg.rules sg.counts.rules
  rules_stored = rows_stored rules_lent_lem h.few_rules rule_kept h.rules_formed

  rules_in_form : RulesInForm sg.words sg.rules sg.counts.rules (arities_of (symbols_in text sg))
  rules_in_form i l =
      let row : List ℕ = row_at sg.rules i in
      let ar : List ℕ = arities_of (symbols_in text sg) in
      let x = rule_kept i l in
      let k = x.2 in
      record {
        premises = subst (λ (u : ℕ). in_form sg.words u (u + column row 7) pattern_room pattern_room ar ≡ true) (sym k.from)
            (lying_form k.lying.premises pattern_room k.lying.premises.below);
        conclusion = subst (λ (u : ℕ). in_form sg.words (u + column row 7) (u + column row 7 + column row 8) pattern_room pattern_room ar
            ≡ true) (sym k.from)
            (subst (λ (e : ℕ). in_form sg.words (x.0 + column row 7) e pattern_room pattern_room ar ≡ true) (sym k.to)
            (lying_form k.lying.conclusion pattern_room k.lying.conclusion.below));
      }

  rules_are_lem : rules_in text sg ≡ rules_from text sg.words sg.rules 0 sg.counts.rules
  unfolding rules_of
  rules_are_lem = rules_listed text sg.words sg.rules sg.counts.rules rules_lent_lem

-- The rows of a tree are as many as its nodes.
entries_length : (w : List ℕ) (rows : Rows) (p n : ℕ) → length (entries_from term_room w rows p n) ≡ n
unfolding entries_from
entries_length w rows p zero = refl
entries_length w rows p (suc n) = ap suc (entries_length w rows (suc p) n)

prove_same : {l l' : search.Limits} {Rs Rs' : List Rule} (s d : ℕ) {u u' : ℕ} {β β' : Bindings} {t t' : Term} {c c' : ℕ} → l ≡ l'
    → Rs ≡ Rs' → u ≡ u' → β ≡ β' → t ≡ t' → c ≡ c' → prove l Rs s d u β t c ≡ prove l' Rs' s d u' β' t' c'
prove_same s d e f g h i j = rw (e, f, g, h, i, j)

-- A call with zero past the counts

-- What the search may use.
abbrev pub allowed_of : SignatureStore → Limits → Allowed
allowed_of sg l = record { limits = search_limits l; frames = (capped_of l).steps; rules = sg.counts.rules }

pub allowed_is : (rules : ℕ) (limits : Limits) {s : SearchLimits} {l : Limits} → s ≡ search_limits limits → l ≡ capped_of limits
    → ◌≡◌ {A = Allowed} (record { limits = s; frames = l.steps; rules = rules })
    (record { limits = search_limits limits; frames = (capped_of limits).steps; rules = rules })
allowed_is rules limits e f = ap₂ (λ (s : SearchLimits) (l : Limits). record { limits = s; frames = l.steps; rules = rules }) e f

-- What `prepare` says, for the answer that it gave.
pub at_answer : {text : List ℕ} {limits : Limits} {symbols : Rows} {count : ℕ} {rows : Rows} {at : ℕ} {names : Rows} {ws : List ℕ}
    {n : SessionCounts} {r q : Result StoredGoal Refusal} {names' : Rows} {ws' : List ℕ}
    → Preparing text limits symbols count rows at names ws n r names' ws' → r ≡ q
    → Preparing text limits symbols count rows at names ws n q names' ws'
at_answer {text} {limits} {symbols} {count} {rows} {at} {names} {ws} {n} {names' = names'} {ws' = ws'} h e =
    subst (λ (r : Result StoredGoal Refusal). Preparing text limits symbols count rows at names ws n r names' ws') e h

module _ {sg : SignatureStore} {k : Asked} {b : SessionStore} {n : SessionCounts} (h : ClearedReady sg k b n) where
  abbrev S : Session
  S = session_of k.text b n

  abbrev arities : List ℕ
  arities = arities_of (symbols_in k.text sg)

  abbrev allowance : theory.Allowance
  allowance = allowance_of k.limits

  sizes : Enough (capped_of k.limits).variables (capped_of k.limits).words (length b.names) (length b.words)
      (length b.bindings) (length k.space.links) (length k.space.marks) (length k.space.stack)
  sizes = enough (capped_of k.limits).variables (capped_of k.limits).words (length b.names) (length b.words)
      (length b.bindings) (length k.space.links) (length k.space.marks) (length k.space.stack) h.ready.lent

  pub rules_there : sg.counts.rules ≤ length sg.rules
  rules_there = rules_lent_lem k.text sg h.ready.signature

  -- Refused.
  refused_at : (r : ProveReady sg k b n) (e : ℕ) {N : Rows} {W : List ℕ} {T F L M R : Rows} → N ≡ b.names → W ≡ b.words
      → T ≡ b.bindings → F ≡ k.proof → L ≡ k.space.links → M ≡ k.space.marks → R ≡ k.space.stack
      → answer_to sg k b n (goal_in r.goal) ≡ record { verdict = refusal e; session = S }
      → ProveLeaves sg k b n (answer_to sg k b n (goal_in r.goal)) (given (Refused e) N W T F L M R)
  refused_at r e nm wm tm fm lm mm rm is =
      subst (λ (g : Given). ProveLeaves sg k b n (answer_to sg k b n (goal_in r.goal)) g)
      (given_same refl (is_cleared zero_name n.names b.names h.names ∙ sym nm)
      (is_cleared 0 n.words b.words h.words ∙ sym wm) (sym tm) (sym h.proof ∙ sym fm) (sym lm) (sym mm) (sym rm))
      (refused_leaves sg k b n r.session (answer_to sg k b n (goal_in r.goal)) e is)

  pub too_much_left : too_much k.steps k.depth allowance ≡ true
      → ProveLeft sg k b n (given (Refused 38) b.names b.words b.bindings k.proof k.space.links k.space.marks
      k.space.stack)
  too_much_left e r = refused_at r 38 refl refl refl refl refl refl refl
      (ap (tested (rules_in k.text sg) S (query_of sg k (goal_in r.goal))) e)

  pub prepare_asked : PrepareAsked k.text k.limits sg.symbols sg.counts.symbols k.rows k.at b.names b.words n
  prepare_asked =
      let g = h.ready.signature in
      let a = g.symbols_lent in
      let c = g.few_symbols in
      record {
        lent = omega arith;
        few = g.few_symbols;
        inputs = λ i l. (g.symbols_formed i l).few;
        sorts = sg.counts.sorts;
        bindings = b.bindings;
        session = h.ready.session;
        next = h.ready.next;
        goal = h.ready.goal;
        names_lent = sizes.names;
        words_lent = sizes.words;
        names_clear = h.names;
        words_clear = h.words;
      }

  -- Within steps and depth
  module _ (cool : too_much k.steps k.depth allowance ≡ false) where
    steps_few : (k.steps ≤ (capped_of k.limits).steps) × (k.depth ≤ 128)
    steps_few =
        let e = or_false (less (at_most theory.step_limit k.limits.steps) k.steps) (less theory.depth_limit k.depth) cool in
        let a = capped_steps k.limits in
        let x : k.steps ≤ at_most theory.step_limit k.limits.steps =
        by_less (at_most theory.step_limit k.limits.steps) k.steps (λ m q. true_false q e.0) (λ m q. m) in
        let y : k.depth ≤ 128 = by_less 128 k.depth (λ m q. true_false q e.1) (λ m q. m) in
        (omega arith, y)

    -- The answer is that of the compiled goal.
    answer_is : (r : ProveReady sg k b n) (c : Compiled) → goal_compiled (symbols_in k.text sg) (goal_in r.goal) S.names ≡ c
        → answer_to sg k b n (goal_in r.goal) ≡ answered (rules_in k.text sg) S k.steps k.depth allowance c
    answer_is r c e = ap (tested (rules_in k.text sg) S (query_of sg k (goal_in r.goal))) cool
        ∙ ap (answered (rules_in k.text sg) S k.steps k.depth allowance) e

    -- Refused before its search.
    pub prepared_refused : {e : Refusal} {N : Rows} {W : List ℕ}
        → Preparing k.text k.limits sg.symbols sg.counts.symbols k.rows k.at b.names b.words n (Err e) N W
        → ProveLeft sg k b n (given (Refused (number_of e)) N W b.bindings k.proof k.space.links k.space.marks k.space.stack)
    prepared_refused {e} {N} {W} prepared r =
        go (goal_compiled (symbols_in k.text sg) (goal_in r.goal) S.names) refl
        (prepared.says sg.counts.sorts b.bindings sizes.bindings r.session r.next r.goal)
      where
        go : (c : Compiled) → goal_compiled (symbols_in k.text sg) (goal_in r.goal) S.names ≡ c
            → Prepares k.text k.limits arities b n (Err e) N W c
            → ProveLeaves sg k b n (answer_to sg k b n (goal_in r.goal))
            (given (Refused (number_of e)) N W b.bindings k.proof k.space.links k.space.marks k.space.stack)
        go (refuses f) d x =
            let z : number_of e ≡ f = x.answer in
            refused_at r (number_of e) x.names_are x.words_are refl refl refl refl refl
            (answer_is r (refuses f) d ∙ ap (λ (i : ℕ). record { verdict = refusal i; session = S }) (sym z))
        go (compiles new p) d x =
            by_bool (over (limits_of allowance) (n.variables + length new) (n.words + words (goal_of S p)))
            (λ t. let x' = subst (λ (v : Bool). Within k.text arities b n (Err e) N W new p v) t x in
            let z : number_of e ≡ 37 = x'.answer in
            refused_at r (number_of e) x'.names_are x'.words_are refl refl refl refl refl
            (answer_is r (compiles new p) d
            ∙ ap (λ (v : Bool). answer S new (searched (rules_in k.text sg) S k.steps k.depth allowance (length new)
            (goal_of S p) v)) t
            ∙ ap (λ (i : ℕ). record { verdict = refusal i; session = S }) (sym z)))
            (λ t. let x' = subst (λ (v : Bool). Within k.text arities b n (Err e) N W new p v) t x in
            let y = x'.answer in
            absurd (let z : ◌≡◌ {A = ℕ} 0 1 = cc in omega arith))

    -- Stored
    module _ {N₁ : Rows} {W₁ : List ℕ} (g : StoredGoal)
        (prepared : Preparing k.text k.limits sg.symbols sg.counts.symbols k.rows k.at b.names b.words n
        (Ok g) N₁ W₁) where
      record Standing (r : ProveReady sg k b n) : Type 0 where
        pub new : List theory.Name
        pub goal : Term
        pub compiled : goal_compiled (symbols_in k.text sg) (goal_in r.goal) S.names ≡ compiles new goal
        pub fits : over (limits_of allowance) (n.variables + length new) (n.words + words (goal_of S goal)) ≡ false
        pub stands : GoalStands k.text arities b n N₁ W₁ new goal g

      standing : (r : ProveReady sg k b n) → Standing r
      standing r =
          go (goal_compiled (symbols_in k.text sg) (goal_in r.goal) S.names) refl
          (prepared.says sg.counts.sorts b.bindings sizes.bindings r.session r.next r.goal)
        where
          go : (c : Compiled) → goal_compiled (symbols_in k.text sg) (goal_in r.goal) S.names ≡ c
              → Prepares k.text k.limits arities b n (Ok g) N₁ W₁ c → Standing r
          go (refuses f) d x = absurd x.answer
          go (compiles new p) d x =
              by_bool (over (limits_of allowance) (n.variables + length new) (n.words + words (goal_of S p)))
              (λ t. let x' = subst (λ (v : Bool). Within k.text arities b n (Ok g) N₁ W₁ new p v) t x in
              absurd x'.answer)
              (λ t. let x' = subst (λ (v : Bool). Within k.text arities b n (Ok g) N₁ W₁ new p v) t x in
              let y = x'.answer in
              let z : x'.goal ≡ g = cc in
              record {
                new = new;
                goal = p;
                compiled = d;
                fits = t;
                stands = subst (λ (i : StoredGoal). GoalStands k.text arities b n N₁ W₁ new p i) z x'.stands;
              })

      asked : SearchAsked (allowed_of sg k.limits) sg.words sg.rules k.proof W₁ b.bindings k.space.links
          k.space.marks k.space.stack N₁ g n k.steps k.depth
      asked =
          let r = h.ready in
          let x = (standing r).stands in
          let z = sizes in
          let s = steps_few.0 in
          let wl = x.words.long in
          let zw = z.words in
          let nl = x.names.long in
          let sl = r.session.names_lent in
          let e : length k.proof ≡ length k.proof - 0 = omega arith in
          record {
            asking = record {
              rules = rules_stored k.text sg r.signature;
              well = record {
                form = x.made.form;
                lent_words = omega arith;
                lent_rows = z.bindings;
                enough = omega arith;
                low = omega arith;
              };
              refers = x.refers;
              scratch = record {
                links_free = record { lent = z.links; empty = r.scratch.links_free.empty };
                marks_free = record { lent = z.marks; empty = r.scratch.marks_free.empty };
                stack_lent = z.stack;
                stack_empty = r.scratch.stack_empty;
              };
              frames = r.proof_lent;
              steps = s;
              small = omega arith;
              words_clear = x.words.clear ∙ ap (λ (i : ℕ). replicate (i - g.words) 0) (sym wl);
              frames_clear = h.proof ∙ ap (λ (i : ℕ). replicate i zero_tree) e;
            };
            deep = steps_few.1;
            named = omega arith;
          }

      pub search_asked : {a : Allowed} → a ≡ allowed_of sg k.limits
          → SearchAsked a sg.words sg.rules k.proof W₁ b.bindings k.space.links
          k.space.marks k.space.stack N₁ g n k.steps k.depth
      search_asked e = subst (λ (a : Allowed). SearchAsked a sg.words sg.rules k.proof W₁ b.bindings k.space.links
          k.space.marks k.space.stack N₁ g n k.steps k.depth) (sym e) asked

      -- The theory's verdict on the stored goal.
      abbrev verdict : Verdict
      verdict = prove_of (allowed_of sg k.limits) k.text sg.words sg.rules W₁ b.bindings g.node k.depth k.steps
          g.variables n.bound g.words

      module _ (r : ProveReady sg k b n) where
        abbrev new : List theory.Name
        new = (standing r).new

        abbrev x : GoalStands k.text arities b n N₁ W₁ (standing r).new (standing r).goal g
        x = (standing r).stands

        abbrev A : theory.Answer
        A = answer_to sg k b n (goal_in r.goal)

        same_cells : (i : ℕ) → i < n.words → cells b.words i ≡ cells W₁ i
        same_cells i l = sym (sym (get_or-take n.words W₁ i 0 l) ∙ ap (λ (l : List ℕ). get_or l i 0) x.words.same
            ∙ get_or-take n.words b.words i 0 l)

        verdict_is : A ≡ answer S new verdict
        verdict_is =
            answer_is r (compiles new (standing r).goal) (standing r).compiled
            ∙ ap (λ (v : Bool). answer S new (searched (rules_in k.text sg) S k.steps k.depth allowance (length new)
            (goal_of S (standing r).goal) v)) (standing r).fits
            ∙ ap (answer S new) (prove_same k.steps k.depth
            (ap₂ within (capped_variables k.limits) (capped_words k.limits))
            (rules_are_lem k.text sg r.signature) (sym x.used)
            (held_grows r.session.form W₁ same_cells) (sym x.denotes) (sym x.numbered))

        names_fit : NamesFit sg.counts.sorts S.names new
        names_fit = stored_names k.text sg b n r.signature r.session (goal_in r.goal) new (standing r).goal
            (standing r).compiled

        -- The names are entered, also where more variables were made since.
        names_kept : (c : ℕ) → g.variables ≤ c → NamesKept k.text b n N₁ c new
        names_kept c l =
            let y = x.made.names in
            let e = x.numbered in
            record { front = y.front; lent = y.lent; behind = y.behind; later = omega arith }

        words_lent_lem : n.words ≤ length W₁
        words_lent_lem = let a = x.words.long in let c = r.session.form.lent_words in omega arith

        -- Without a proof
        part : (c : ℕ) → Counted (allowed_of sg k.limits) W₁ b.bindings g.variables n.bound g.words c
            → PartUnproved b n (session_store N₁ (cleared_from 0 n.words W₁) b.bindings) c
        part c d =
            let y = continued_again 0 n.words g.words b.words W₁ words_lent_lem x.words in
            let yl = y.long in
            let lent = r.session.form.lent_words in
            let l = d.later in
            let e = x.numbered in
            record {
              words = y.same;
              words_lent = omega arith;
              bindings = refl;
              later = omega arith;
              few = d.well.form.few;
              lent = d.well.form.lent_rows;
            }

        -- What the session's words were before, with zero behind them.
        words_back : Continued 0 n.words n.words b.words (cleared_from 0 n.words W₁)
        words_back = continued_again 0 n.words g.words b.words W₁ words_lent_lem x.words

        names_more : Continued zero_name n.names (n.names + length new) b.names N₁
        names_more = subst (λ (i : ℕ). Continued zero_name n.names i b.names N₁) x.named x.names

        counts_are : (m : SessionCounts) → m ≡ counts_then n g m.variables → grown_counts n (length new) m.variables ≡ m
        counts_are m e = ap (λ (i : ℕ). record { names = i; variables = m.variables; bound = n.bound; words = n.words }) (sym x.named)
            ∙ sym e

        -- The rows that a search leaves.
        module _ {N : Rows} {W : List ℕ} {T F L M R : Rows} (lm : L ≡ k.space.links) (mm : M ≡ k.space.marks) (rm : R ≡ k.space.stack)
          where
            answered_refused : (e : ℕ) → e ≡ 37 → refusal 37 ≡ verdict → N ≡ cleared_from zero_name n.names N₁
                → Unproved n k.proof F W₁ W b.bindings T → ProveLeaves sg k b n A (given (Refused e) N W T F L M R)
            answered_refused e d v nm u =
                let c = x.names in
                let y = x.words in
                refused_at r e (nm ∙ back_cleared zero_name n.names b.names N₁ h.names c.same c.long)
                (u.words_are ∙ back_cleared 0 n.words b.words W₁ h.words y.same y.long)
                u.rows_are u.proof_is lm mm rm
                (verdict_is ∙ ap (answer S new) (sym v) ∙ ap (λ (i : ℕ). record { verdict = refusal i; session = S }) (sym d))

            answered_nothing : (s : ℕ) (m : SessionCounts) → nothing s m.variables ≡ verdict
                → Failing (allowed_of sg k.limits) g n m k.proof F W₁ W b.bindings T N₁ N
                → ProveLeaves sg k b n A (given (Nothing s m) N W T F L M R)
            answered_nothing s m v f =
                let u = f.unproved in
                subst (λ (q : Given). ProveLeaves sg k b n A q)
                (given_same (ap (Nothing s) (counts_are m f.counts)) (sym f.names_are) (sym u.words_are) (sym u.rows_are)
                (sym h.proof ∙ sym u.proof_is) (sym lm) (sym mm) (sym rm))
                (nothing_leaves sg k b n r.session (part m.variables f.counted) (names_kept m.variables f.counted.later)
                names_fit names_more words_back A s (verdict_is ∙ ap (answer S new) (sym v)))

            answered_undecided : (s : ℕ) (m : SessionCounts) → undecided s m.variables ≡ verdict
                → Failing (allowed_of sg k.limits) g n m k.proof F W₁ W b.bindings T N₁ N
                → ProveLeaves sg k b n A (given (Undecided s m) N W T F L M R)
            answered_undecided s m v f =
                let u = f.unproved in
                subst (λ (q : Given). ProveLeaves sg k b n A q)
                (given_same (ap (Undecided s) (counts_are m f.counts)) (sym f.names_are) (sym u.words_are) (sym u.rows_are)
                (sym h.proof ∙ sym u.proof_is) (sym lm) (sym mm) (sym rm))
                (undecided_leaves sg k b n r.session (part m.variables f.counted) (names_kept m.variables f.counted.later)
                names_fit names_more words_back A s (verdict_is ∙ ap (answer S new) (sym v)))

            module _ (s nodes : ℕ) (m : SessionCounts)
                (f : Finding (allowed_of sg k.limits) sg.words sg.rules g n m k.proof F W₁ W b.bindings T N₁ N verdict s
                nodes)
              where
                abbrev tree : Tree one
                tree = f.proven.tree

                abbrev β : Bindings
                β = held term_room W T m.bound

                found_is : A ≡ answer S new (proved β (tree ◂ leaf) s m.variables m.words)
                found_is = verdict_is ∙ ap (answer S new) (sym f.proven.value)

                few_words : m.words ≤ word_limit
                few_words =
                    let q = ask_within (rules_in k.text sg) S (query_of sg k (goal_in r.goal)) in
                    let e : A.verdict ≡ proved β (tree ◂ leaf) s m.variables m.words =
                    ap (λ (i : theory.Answer). i.verdict) found_is in
                    let w = subst (λ (v : Verdict). VerdictWithin (at_most variable_limit k.limits.variables)
                    (at_most word_limit k.limits.words) n.words v) e q in
                    let c = capped_words k.limits in
                    let l = w.3 in
                    omega arith

                nodes_are : nodes ≡ length (preorder 1 tree)
                nodes_are = sym (entries_length W F 0 nodes)
                    ∙ ap length (listing_is F W m.variables m.words tree nodes f.proven.lists)

                made_with : SessionMade k.text arities b n (session_store N₁ W T) m new
                made_with =
                    let y = f.proven.extended in
                    record {
                      names = names_kept m.variables y.later;
                      number = f.counts ∙ x.named;
                      few_variables = y.well.form.few;
                      few_words = few_words;
                      words = y.stays_in_form arities (rules_in_form k.text sg r.signature) x.made.words;
                      form = y.well.form;
                    }

                words_more : Continued 0 n.words m.words b.words W
                words_more =
                    let y = f.proven.extended in
                    let e = x.used in
                    let l : n.words ≤ g.words = omega arith in
                    record {
                      long = y.words_long ∙ x.words.long;
                      same = sym (take-take n.words g.words W l) ∙ ap (take n.words) y.words_kept
                          ∙ take-take n.words g.words W₁ l ∙ x.words.same;
                      clear = y.words_clear ∙ ap (λ (i : ℕ). replicate (i - m.words) 0) (y.words_long ∙ x.words.long);
                    }

                proof_listed : ProofListed (tree ◂ leaf) k.proof F W m.variables m.words
                proof_listed =
                    let p = f.proven in
                    record {
                      tree = tree;
                      only = refl;
                      listed = subst (λ (i : ℕ). Lists term_room m.variables W m.words F 0 1 tree i) nodes_are p.lists;
                      long = p.frames_long;
                      clear = subst (λ (i : ℕ). drop i F ≡ replicate (length k.proof - i) zero_tree) nodes_are
                          (p.frames_clear ∙ ap (λ (i : ℕ). replicate (i - nodes) zero_tree) p.frames_long);
                    }

                answered_proved : ProveLeaves sg k b n A (given (Proved s nodes m) N W T F L M R)
                answered_proved =
                    let y = f.proven.extended in
                    let e = x.used in
                    let l = y.longer in
                    let names : Continued zero_name n.names m.names b.names N₁ =
                    subst (λ (i : ℕ). Continued zero_name n.names i b.names N₁) (sym f.counts) x.names in
                    let long : length T ≡ length b.bindings = sym (undone_length T n.bound (m.bound - n.bound))
                    ∙ ap length y.added.back in
                    subst (λ (q : Given). ProveLeaves sg k b n A q)
                    (given_same (ap (λ (i : ℕ). Proved s i m) (sym nodes_are)) (sym f.names_are) refl refl refl
                    (sym lm) (sym mm) (sym rm))
                    (proved_leaves sg k b n r.session {b' = session_store N₁ W T} {n' = m} {new = new} made_with names_fit names words_more
                    (omega arith) long y.added A β (tree ◂ leaf) s F refl proof_listed found_is)

      -- What the search leaves.
      searched_left : {N : Rows} {W : List ℕ} {T F L M R : Rows} {q : Answer}
          → SearchLeft (allowed_of sg k.limits) sg.words sg.rules k.proof F W₁ W b.bindings T k.space.links L
          k.space.marks M k.space.stack R N₁ N g n k.steps k.depth q
          → ProveLeft sg k b n (given q N W T F L M R)
      searched_left {N} {W} {T} {F} {L} {M} {R} {q} s r = go q (s.says k.text)
        where
          go : (q : Answer) → SearchSays (allowed_of sg k.limits) sg.words sg.rules k.proof F W₁ W b.bindings T N₁ N
              g n verdict q
              → ProveLeaves sg k b n (answer_to sg k b n (goal_in r.goal)) (given q N W T F L M R)
          go (Refused e) v = answered_refused r s.links s.marks s.stack e v.0 v.1 v.2 v.3
          go (Proved i nodes m) v = answered_proved r s.links s.marks s.stack i nodes m v
          go (Nothing i m) v = answered_nothing r s.links s.marks s.stack i m v.0 v.1
          go (Undecided i m) v = answered_undecided r s.links s.marks s.stack i m v.0 v.1

      pub search_left : {a : Allowed} → a ≡ allowed_of sg k.limits → {N : Rows} {W : List ℕ} {T F L M R : Rows} {q : Answer}
          → SearchLeft a sg.words sg.rules k.proof F W₁ W b.bindings T k.space.links L
          k.space.marks M k.space.stack R N₁ N g n k.steps k.depth q
          → ProveLeft sg k b n (given q N W T F L M R)
      search_left e {N} {W} {T} {F} {L} {M} {R} {q} s =
          searched_left (subst (λ (a : Allowed). SearchLeft a sg.words sg.rules k.proof F W₁ W b.bindings T k.space.links L
          k.space.marks M k.space.stack R N₁ N g n k.steps k.depth q) e s)

-- What lies past the counts

-- The call with other rows for the proof.
abbrev pub with_proof : Asked → Rows → Asked
with_proof k F =
    record {
      text = k.text;
      limits = k.limits;
      rows = k.rows;
      at = k.at;
      steps = k.steps;
      depth = k.depth;
      proof = F;
      space = k.space;
    }

module _ {sg : SignatureStore} {k : Asked} {b : SessionStore} {n : SessionCounts} (h : ProveReady sg k b n) where
  abbrev zeros : Rows
  zeros = replicate (length k.proof) zero_tree

  abbrev leaves : ProveLeaves sg k b n (record { verdict = refusal 0; session = session_of k.text b n })
      (record { answer = Refused 0; store = cleared b n; proof = zeros; space = k.space })
  leaves = refused_leaves sg k b n h.session (record { verdict = refusal 0; session = session_of k.text b n }) 0 refl

  long_proof : length zeros ≡ length k.proof
  long_proof = length-replicate (length k.proof) zero_tree

  -- A ready call is ready with zero past the counts.
  abbrev ready_cleared : ProveReady sg (with_proof k zeros) (cleared b n) n
  ready_cleared =
      let p = h.proof_lent in
      let e = long_proof in
      record {
        lent = ap₂ (λ (i j : ℕ). is_short (capped_of k.limits).variables (capped_of k.limits).words i j (length b.bindings)
            (length k.space.links) (length k.space.marks) (length k.space.stack)) leaves.names.long leaves.words.long
            ∙ h.lent;
        proof_lent = omega arith;
        signature = h.signature;
        session = leaves.listed;
        scratch = h.scratch;
        next = h.next;
        goal = h.goal;
      }

  all_cleared : ClearedReady sg (with_proof k zeros) (cleared b n) n
  all_cleared = record {
    ready = ready_cleared;
    names = leaves.names.clear ∙ ap (λ (i : ℕ). replicate (i - n.names) zero_name) (sym leaves.names.long);
    words = leaves.words.clear ∙ ap (λ (i : ℕ). replicate (i - n.words) 0) (sym leaves.words.long);
    proof = ap (λ (i : ℕ). replicate i zero_tree) (sym long_proof);
  }

  pub cleared_ready : {N : Rows} {W : List ℕ} {F : Rows} → PastCleared n b.names b.words k.proof N W F
      → ClearedReady sg (with_proof k F) (session_store N W b.bindings) n
  cleared_ready {N} {W} {F} p =
      subst (λ (F : Rows). ClearedReady sg (with_proof k F) (session_store N W b.bindings) n) (sym p.proof_is)
      (subst (λ (W : List ℕ). ClearedReady sg (with_proof k zeros) (session_store N W b.bindings) n) (sym p.words_are)
      (subst (λ (N : Rows). ClearedReady sg (with_proof k zeros) (session_store N (cleared_from 0 n.words b.words) b.bindings) n)
      (sym p.names_are) all_cleared))

-- and what it leaves then is what it has to leave.
proof_left : (proof proof' : Rows) (w : List ℕ) (variables used : ℕ) (v : Verdict)
    → ProofLeft v (replicate (length proof) zero_tree) proof' w variables used → ProofLeft v proof proof' w variables used
proof_left proof proof' w variables used (refusal e) h = h ∙ ap (λ (i : ℕ). replicate i zero_tree) (length-replicate (length proof) zero_tree)
proof_left proof proof' w variables used (proved β st u c m) h =
    let e = length-replicate (length proof) zero_tree in
    record {
      tree = h.tree;
      only = h.only;
      listed = h.listed;
      long = h.long ∙ e;
      clear = h.clear ∙ ap (λ (i : ℕ). replicate (i - length (preorder 1 h.tree)) zero_tree) e;
    }
proof_left proof proof' w variables used (nothing u c) h =
    h ∙ ap (λ (i : ℕ). replicate i zero_tree) (length-replicate (length proof) zero_tree)
proof_left proof proof' w variables used (undecided u c) h =
    h ∙ ap (λ (i : ℕ). replicate i zero_tree) (length-replicate (length proof) zero_tree)

continued_over : {A : Type 0} (z : A) (u v : ℕ) (l l' l'' : List A) → Continued z u u l l' → Continued z u v l' l'' → Continued z u v l l''
continued_over z u v l l' l'' c d = record {
  long = d.long ∙ c.long;
  same = d.same ∙ c.same;
  clear = d.clear ∙ ap (λ (i : ℕ). replicate (i - v) z) c.long;
}

module _ {sg : SignatureStore} {k : Asked} {b : SessionStore} {n : SessionCounts} {g : Given} where
  all_left : ProveLeft sg (with_proof k (replicate (length k.proof) zero_tree)) (cleared b n) n g → ProveLeft sg k b n g
  all_left f r =
      let y = f (ready_cleared r) in
      let e : answer_to sg k (cleared b n) n (goal_in r.goal) ≡ answer_to sg k b n (goal_in r.goal) =
      ap (λ (s : Session). theory.ask (rules_in k.text sg) s (query_of sg k (goal_in r.goal))) (leaves r).session in
      let z = subst (λ (a : theory.Answer).
      ProveLeaves sg (with_proof k (replicate (length k.proof) zero_tree)) (cleared b n) n a g) e y in
      record {
        answer = z.answer;
        told = z.told;
        session = z.session;
        listed = z.listed;
        names = continued_over zero_name n.names _ b.names (cleared b n).names g.store.names (leaves r).names z.names;
        words = continued_over 0 n.words _ b.words (cleared b n).words g.store.words (leaves r).words z.words;
        longer = z.longer;
        bindings = z.bindings;
        proof = proof_left k.proof g.proof g.store.words _ _ (answer_to sg k b n (goal_in r.goal)).verdict z.proof;
        scratch = z.scratch;
      }

  pub cleared_left : {N : Rows} {W : List ℕ} {F : Rows} → PastCleared n b.names b.words k.proof N W F
      → ProveLeft sg (with_proof k F) (session_store N W b.bindings) n g → ProveLeft sg k b n g
  cleared_left {N} {W} {F} p f =
      all_left
      (subst (λ (N : Rows). ProveLeft sg (with_proof k (replicate (length k.proof) zero_tree))
      (session_store N (cleared_from 0 n.words b.words) b.bindings) n g) p.names_are
      (subst (λ (W : List ℕ). ProveLeft sg (with_proof k (replicate (length k.proof) zero_tree)) (session_store N W b.bindings) n g)
      p.words_are
      (subst (λ (F : Rows). ProveLeft sg (with_proof k F) (session_store N W b.bindings) n g) p.proof_is f)))

-- The same with a store.
module _ (q : Query) {sg : SignatureStore} {N N' : Rows} {s s' : Store} {n : SessionCounts} (c : ClearsPast n N s N' s') where
  pub listed_cleared : ProveReady sg (asked_in q s) (session_in N s) n → ClearedReady sg (asked_in q s') (session_in N' s') n
  listed_cleared h = rw (c.bindings, c.links, c.marks, c.stack) (cleared_ready h c.past)

  pub listed_left : {g : Given} → ProveLeft sg (asked_in q s') (session_in N' s') n g → ProveLeft sg (asked_in q s) (session_in N s) n g
  listed_left f = cleared_left c.past (rw (c.bindings, c.links, c.marks, c.stack) at f)

-- The buffers are those of a store.
pub left_given : {sg : SignatureStore} {k : Asked} {b : SessionStore} {n : SessionCounts} {a : Answer} {N T F L M S : Rows} {W : List ℕ}
    (s : Store) → W ≡ s.words.now → T ≡ s.bindings.now → F ≡ s.frames.now → L ≡ s.links.now → M ≡ s.marks.now → S ≡ s.stack.now
    → ProveLeft sg k b n (given_in a N s) → ProveLeft sg k b n (given_of a N W T F L M S)
left_given s w t f l m r h = rw (w, t, f, l, m, r) h
