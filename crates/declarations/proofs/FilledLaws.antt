-- Laws of rules entered one behind the other: what entering one asks of storage that holds rules, and what storage holds then.
use Prim.Native.Nat.{ℕ, ◌+◌, ◌-◌, ◌≤◌, ◌<◌, min}
use native.Mathlib.Omega.{arith}
use mathlib.Core.Path.{◌≡◌, refl, sym, ap, ◌∙◌, subst}
use mathlib.Core.Bool.{cond}
use mathlib.Core.List.{List, [], ◌∷◌, ◌++◌}
use lib.Dec.{ltb}
use lib.ListN.{length, set, length-append}
use lib.Seq.{sets, get_or-set_same, get_or-set_other}
use borrow.Author.Tests.{ltb-true}
use Rattle.terms.specs.Numbers.{by_bool, by_same}
use Rattle.resolution.specs.Rules.{Rule}
use Rattle.names.specs.NamePlaces.{NamePlace}
use Rattle.names.specs.Symbols.{Rows, Symbol, column, symbols_of}
use Rattle.rules.specs.Rules.{Ruled, barred, ruled, entering}
use Rattle.rules.specs.PatternLaws.{arities_of, InputsUpto}
use Rattle.rules.specs.Layout.{rule_words, row_of}
use Rattle.rules.specs.LayoutLaws.{rule_words_length}
use Rattle.rules.specs.Promises.{Entering, RuleDone}
use Rattle.rules.specs.declared.Title.{Title}
use Rattle.std.specs.Prelude.{Result, Ok, Err}
use Rattle.refusals.specs.declared.Refusal.{Refusal}
use Rattle.rules.specs.declared.Space.{Space}
use Rattle.clauses.specs.Promises.{entered, NextIs}
use Rattle.clauses.specs.declared.EnteredRule.{EnteredRule}
use Rattle.loader.specs.Signature.{Signature, room_in, with_rule}
use Rattle.loader.specs.Holding.{RulesKept, rules_entered}
use Rattle.loader.specs.Entering.{Storage}
use Rattle.rule_checks.specs.RuleForm.{RuleNamed}
use Rattle.declarations.specs.Held.{RulesStored, RulesHeld}
use Rattle.declarations.specs.Steps.{Ready, progress_of, Advanced}
use Rattle.declarations.specs.declared.State.{State}
use Rattle.declarations.specs.declared.Progress.{Progress}
use Rattle.declarations.proofs.StoredLaws.{rule_stored}

-- No sum is too large, and no difference below zero, where so many nodes were allowed.
abbrev pub Told : State → ℕ → Result EnteredRule Refusal → Type 0
Told st m (Err e) = Unit {0}
Told st m (Ok r) = (r.space.room ≤ m) × (m ≤ st.left) × (st.rules ≤ 1024)

-- With nothing entered but below the number.
entering_few : (number : ℕ) (x : Ruled) {R : Rule} {m : ℕ} → entering number x ≡ ruled R m → number < 1024
entering_few number (barred e) q = absurd (let z : ◌≡◌ {A = ℕ} 0 1 = cc in omega arith)
entering_few number (ruled R m) q = by_bool (ltb number 1024)
    (λ e. ltb-true number 1024 e)
    (λ e. absurd (let p : cond (ltb number 1024) (ruled R m) (barred 28) ≡ barred 28 = rw e refl in let z : ◌≡◌ {A = ℕ} 0 1 = cc in omega arith))

module _ {text : List ℕ} {limit : ℕ} {ts : List Title} {s : Signature} {symbols rules : Rows} {words : List ℕ} {st : State} (ready : Ready text limit ts s symbols rules words st) where
  -- The room for a rule.
  room_is : room_in limit s ≡ min 1024 st.left
  room_is = let l = ready.kept.left in let e : limit - s.nodes ≡ st.left = omega arith in ap (min 1024) e

  room_small : min 1024 st.left ≤ 1024
  room_small = omega arith

  room_left : min 1024 st.left ≤ st.left
  room_left = omega arith

  -- What entering a rule asks of storage.
  pub storage : Storage text symbols st.symbols words st.used (min 1024 st.left) rules
  storage =
      let k = ready.kept in
      let a = ready.lent in
      let b = ready.few in
      let f = k.fits in
      let w = k.words_lent in
      let l = k.limited in
      let r = room_left in
      let u : InputsUpto 256 (symbols_of text symbols st.symbols) = rw ready.symbols_are ready.upto in
      record {
        lent = omega arith;
        few = b;
        inputs = ready.inputs;
        upto = (256, u);
        formed = k.formed;
        words = omega arith;
        low = omega arith;
        small = room_small;
        rules_lent = k.rules_lent;
      }

  as_given : (title : Title) (g : List Symbol → ℕ → Ruled) (m : ℕ) → m ≡ min 1024 st.left → (rules' : Rows) (words' : List ℕ) (o : Result EnteredRule Refusal)
      → Entering text (arities_of (symbols_of text symbols st.symbols)) title words st.used m rules st.rules words' rules' (entering st.rules (g (symbols_of text symbols st.symbols) m)) (entered o)
      → Entering text (arities_of s.symbols) title words st.used (min 1024 st.left) rules st.rules words' rules' (entering st.rules (g s.symbols (min 1024 st.left))) (entered o)
  as_given title g m e rules' words' o h =
      let h₁ = subst (λ (x : ℕ). Entering text (arities_of (symbols_of text symbols st.symbols)) title words st.used x rules st.rules words' rules' (entering st.rules (g (symbols_of text symbols st.symbols) x)) (entered o)) e h in
      subst (λ (x : List Symbol). Entering text (arities_of x) title words st.used (min 1024 st.left) rules st.rules words' rules' (entering st.rules (g x (min 1024 st.left))) (entered o)) ready.symbols_are h₁

  told_fits : (title : Title) (rules' : Rows) (words' : List ℕ) (x : Ruled) (o : Result EnteredRule Refusal)
      → Entering text (arities_of s.symbols) title words st.used (min 1024 st.left) rules st.rules words' rules' x (entered o) → Told st (min 1024 st.left) o
  told_fits title rules' words' x (Err f) h = tt
  told_fits title rules' words' (barred e) (Ok o) h = absurd h
  told_fits title rules' words' (ruled R m) (Ok o) h =
      let d = h.is in
      let a : o.space ≡ record { used = h.used; room = m } = cc in
      let b : o.space.room ≡ m = ap (λ (x : Space). x.room) a in
      let f = h.fits in
      let t = h.kept.to in
      let k = ready.kept.few_rules in
      (omega arith, room_left, k)

  -- The differences that are told are not below zero.
  pub told_by : (title : Title) (g : List Symbol → ℕ → Ruled) (m : ℕ) → m ≡ min 1024 st.left → (rules' : Rows) (words' : List ℕ) (o : Result EnteredRule Refusal)
      → Entering text (arities_of (symbols_of text symbols st.symbols)) title words st.used m rules st.rules words' rules' (entering st.rules (g (symbols_of text symbols st.symbols) m)) (entered o)
      → Told st m o
  told_by title g m e rules' words' o h =
      subst (λ (x : ℕ). Told st x o) (sym e) (told_fits title rules' words' (entering st.rules (g s.symbols (min 1024 st.left))) o (as_given title g m e rules' words' o h))

  module _ (title : Title) (inside : NamePlace text title.word.start title.word.size) (clause : title.clause ≤ st.rules + 1) (rules' : Rows) (words' : List ℕ) (lentRules : length rules' ≡ length rules) (lent_words : length words' ≡ length words) where
    -- The row of a rule with this title is named.
    row_named : (row : List ℕ) → (column row 0 ≡ title.word.start) × (column row 1 ≡ title.word.size) × (column row 2 ≡ title.clause) → st.rules < 1024 → RuleNamed text row
    row_named row h few = let e = h.2 in record { place = rw (h.0, h.1) inside; clause = omega arith }

    -- A rule entered behind the others is held.
    one_more : (R : Rule) (left : ℕ) (r : Result Space Refusal) → st.rules < 1024
        → (done : RuleDone text (arities_of s.symbols) title words st.used (min 1024 st.left) rules st.rules words' rules' R left r)
        → RulesHeld text limit (ts ++ (title ∷ [])) (record { sorts = s.sorts; symbols = s.symbols; rules = s.rules ++ (R ∷ []); nodes = s.nodes + (min 1024 st.left - left) }) rules' words'
        (record { sorts = st.sorts; symbols = st.symbols; rules = st.rules + 1; used = done.used; left = st.left - (min 1024 st.left - left) })
    one_more R left r few done =
        let k = ready.kept in
        let a = k.rules_lent in
        let b = k.words_lent in
        let d = done.kept.to in
        let f = done.fits in
        let g = k.fits in
        let h = k.left in
        let n = k.number in
        let m = room_left in
        let l = length-append s.rules (R ∷ []) in
        let w : rules' ≡ set rules (length s.rules) done.row = rw (sym n) done.written in
        let there : length s.rules < length rules = omega arith in
        let kept : RulesKept text (arities_of s.symbols) words' (set rules (length s.rules) done.row) 0 (s.rules ++ (R ∷ [])) 0 done.used =
        rules_entered text (arities_of s.symbols) words words' rules s.rules st.used done.used R done.row done.same (omega arith) there k.rules_are done.kept in
        let pu = done.kept.lying.premises.used in
        let cu = done.kept.lying.conclusion.used in
        let rl = rule_words_length st.used R in
        let us : done.used ≡ st.used + length (rule_words st.used R) = omega arith in
        let row_is : rules' ≡ set rules st.rules (row_of title st.used R) = done.written ∙ ap (set rules st.rules) done.exact in
        let stored : RulesStored (ts ++ (title ∷ [])) (s.rules ++ (R ∷ [])) (set rules st.rules (row_of title st.used R))
        (sets words st.used (rule_words st.used R)) (st.rules + 1) (st.used + length (rule_words st.used R)) =
        rule_stored k.exact title R (omega arith) (omega arith) in
        record {
          rules_lent = omega arith;
          words_lent = omega arith;
          limited = k.limited;
          rules_are = rw w kept;
          number = omega arith;
          few_rules = omega arith;
          left = omega arith;
          fits = omega arith;
          formed = done.kept.lying.conclusion.formed;
          rules_inside = λ i j. rw done.written (by_same i st.rules
              (λ p e. rw (p, get_or-set_same rules st.rules done.row [] (omega arith)) (row_named done.row done.placed few))
              (λ p e. rw (get_or-set_other rules st.rules i done.row [] p) (k.rules_inside i (omega arith))));
          exact = rw (row_is, done.laid, us) stored;
        }

    -- What came of a rule, as the definition says.
    advanced : (x : Ruled) (q : ℕ) (o : Result EnteredRule Refusal) (r : Result Progress Refusal)
        → Entering text (arities_of s.symbols) title words st.used (min 1024 st.left) rules st.rules words' rules' (entering st.rules x) (entered o) → NextIs q o
        → r ≡ progress_of st (min 1024 st.left) o → Advanced text limit (ts ++ (title ∷ [])) (with_rule s (min 1024 st.left) (entering st.rules x)) q rules' words' st r
    advanced x q o r h nx e = go (entering st.rules x) (λ R m z. entering_few st.rules x z) o h nx e
      where
        go : (y : Ruled) → ((R : Rule) (m : ℕ) → y ≡ ruled R m → st.rules < 1024) → (o : Result EnteredRule Refusal)
            → Entering text (arities_of s.symbols) title words st.used (min 1024 st.left) rules st.rules words' rules' y (entered o) → NextIs q o
            → r ≡ progress_of st (min 1024 st.left) o → Advanced text limit (ts ++ (title ∷ [])) (with_rule s (min 1024 st.left) y) q rules' words' st r
        go (barred e) few (Err f) h nx z = rw z h
        go (barred e) few (Ok o) h nx z = absurd h
        go (ruled R m) few (Err f) h nx z = absurd (let d = h.is in let w : ◌≡◌ {A = ℕ} 0 1 = cc in omega arith)
        go (ruled R m) few (Ok o) h nx z =
            let d = h.is in
            let e : o.space ≡ record { used = h.used; room = m } = cc in
            let a : o.space.used ≡ h.used = ap (λ (x : Space). x.used) e in
            let b : o.space.room ≡ m = ap (λ (x : Space). x.room) e in
            let c : o.next ≡ q = nx in (
              record { sorts = st.sorts; symbols = st.symbols; rules = st.rules + 1; used = h.used; left = st.left - (min 1024 st.left - m) },
              z ∙ rw (a, b, c) refl,
              record { kept = one_more R m (entered (Ok o)) (few R m refl) h; sorts = refl; symbols = refl },
            )

    -- The same of what the code was given: its symbols' rows, and the room that it reckoned.
    pub advanced_by : (g : List Symbol → ℕ → Ruled) (m : ℕ) → m ≡ min 1024 st.left → (q : ℕ) (o : Result EnteredRule Refusal) (r : Result Progress Refusal) → NextIs q o
        → Entering text (arities_of (symbols_of text symbols st.symbols)) title words st.used m rules st.rules words' rules' (entering st.rules (g (symbols_of text symbols st.symbols) m)) (entered o)
        → r ≡ progress_of st m o
        → Advanced text limit (ts ++ (title ∷ [])) (with_rule s (room_in limit s) (entering (length s.rules) (g s.symbols (room_in limit s)))) q rules' words' st r
    advanced_by g m e q o r nx h z =
        let h₁ : Entering text (arities_of s.symbols) title words st.used (min 1024 st.left) rules st.rules words' rules' (entering st.rules (g s.symbols (min 1024 st.left))) (entered o)
        = as_given title g m e rules' words' o h in
        let n : length s.rules ≡ st.rules = sym ready.kept.number in
        rw (room_is, n) (advanced (g s.symbols (min 1024 st.left)) q o r h₁ nx (z ∙ ap (λ (x : ℕ). progress_of st x o) e))
