-- The turns of `find_clause`: no clause before i fits, and matching what is left of the clause i comes to matching all of it. The loop
-- over clauses is left at a clause that fits, or behind the last one.
use Prim.Native.Nat.{ℕ, zero, suc, ◌+◌, ◌-◌, ◌≤◌, ◌<◌}
use native.Mathlib.Omega.{arith}
use native.Mathlib.Numerals.{add-one}
use mathlib.Core.Path.{◌≡◌, refl, sym, ap, ap₂, ◌∙◌, subst}
use mathlib.Core.Bool.{Bool, true, false}
use mathlib.Core.List.{List}
use lib.ListN.{get_or, length, replicate}
use Rattle.std.proofs.lemmas.List.{get_or-replicate}
use Rattle.std.specs.Prelude.{None, Some}
use Rattle.terms.specs.Numbers.{by_same, by_less, less_no}
use Rattle.terms.specs.Term.{Term, Terms}
use Rattle.terms.specs.Bindings.{Bindings, start}
use Rattle.arena.specs.Cells.{headers, cells, Cells, arity_of, args, denote, denote_node, reference_argument}
use Rattle.arena.specs.Copies.{pattern_room}
use Rattle.names.specs.Symbols.{Rows}
use Rattle.resolution.specs.Search.{words as words_in}
use Rattle.evaluation.specs.Matching.{Fitted, misfit, fitted, if_fitted, bind_of}
use Rattle.clause_matching.specs.Stored.{Holds, pattern_at, value_at}
use Rattle.clause_matching.specs.Matching.{Says, Matched, BindAsked}
use Rattle.clause_matching.specs.Choice.{Referable, pattern_from, patterns_from, ApartAsked, conclusion_in, values_of, fit_of, ConclusionIn, ClauseAsked, Chosen}
use Rattle.clause_matching.specs.declared.references.Pattern.{Pattern}
use Rattle.clause_matching.specs.declared.references.Pattern.TheVariants.{Variable, Node}
use Rattle.clause_matching.proofs.BindTurns.{says_false, says_true}

-- No clause before i fits.
pub record Choosing (rules : Rows) (pattern : List ℕ) (from end : ℕ) (values words : List ℕ) (used : ℕ) (environment₀ links₀ : List ℕ) (stack₀ : Rows)
    (environment links : List ℕ) (stack : Rows) (i : ℕ) : Type 0 where
  pub asked : ClauseAsked rules pattern from end values words used environment₀ links₀ stack₀
  pub kept : length environment ≡ length environment₀
  pub keeps : length stack ≡ length stack₀
  pub restored : links ≡ links₀
  pub past : from ≤ i
  pub missed : (j : ℕ) → from ≤ j → j < i → fit_of rules pattern values words j ≡ misfit

-- Values that make matching what is left come to the whole.
pub record Reached (ps ts : Terms) (whole : Fitted) (environment words : List ℕ) (used : ℕ) : Type 0 where
  pub γ : Bindings
  pub holds : Holds environment words used γ
  pub comes : bind_of ps ts γ ≡ whole

-- The first k patterns of the clause i fit.
pub record Trying (rules : Rows) (pattern values words : List ℕ) (used : ℕ) (environment₀ links₀ : List ℕ) (stack₀ : Rows) (i base : ℕ)
    (environment links : List ℕ) (stack : Rows) (k : ℕ) : Type 0 where
  pub kept : length environment ≡ length environment₀
  pub keeps : length stack ≡ length stack₀
  pub restored : links ≡ links₀
  pub few : k ≤ length values
  pub starts : base ≡ suc (conclusion_in rules i - pattern_room)
  pub reached : Reached (args (denote pattern_room (cells pattern)) (cells pattern) (base + k) (length values - k))
      (args (denote 0 (cells words)) (cells values) k (length values - k)) (fit_of rules pattern values words i) environment words used

pub choosing_start : {rules : Rows} {pattern : List ℕ} {from end : ℕ} {values words : List ℕ} {used : ℕ} {environment links : List ℕ} {stack : Rows}
    → ClauseAsked rules pattern from end values words used environment links stack
    → Choosing rules pattern from end values words used environment links stack environment links stack from
choosing_start h = record {
  asked = h;
  kept = refl;
  keeps = refl;
  restored = refl;
  past = omega arith;
  missed = λ j l m. let z : ⊥ = omega arith in absurd z;
}

-- An argument takes no more words than its node.
pub words_argument : (g : ℕ → Term) (w : Cells) (p n k : ℕ) → k < n → words_in (g (w (p + k))) ≤ words_in (args g w p n)
words_argument g w p zero k l = absurd (let z : ⊥ = omega arith in z)
words_argument g w p (suc n) zero l = let e : p + 0 ≡ p = omega arith in rw e (omega arith)
words_argument g w p (suc n) (suc k) l =
    let e : p + suc k ≡ suc p + k = omega arith in
    let h = words_argument g w (suc p) n k (omega arith) in rw e (omega arith)

module _ {rules : Rows} {pattern : List ℕ} {from end : ℕ} {values words : List ℕ} {used : ℕ} {environment₀ links₀ : List ℕ} {stack₀ : Rows}
    {environment links : List ℕ} {stack : Rows} {i : ℕ}
    (h : Choosing rules pattern from end values words used environment₀ links₀ stack₀ environment links stack i) where
  -- The loop is left behind all clauses.
  pub none_fits : end ≤ i → Chosen rules pattern from end values words used environment₀ links₀ None environment links
  none_fits l = record { chooses = λ j a b. h.missed j a (omega arith); kept = h.kept; restored = h.restored }

  module _ (l : i < end) where
    abbrev conclusion : ConclusionIn pattern h.asked.size (conclusion_in rules i) (length values)
    conclusion = h.asked.conclusions i h.past l

    abbrev address : ℕ
    address = conclusion_in rules i - pattern_room

    pub in_rules : i < length rules
    in_rules = let e = h.asked.lent in omega arith

    pub referable : Referable pattern (conclusion_in rules i)
    referable =
        let p = conclusion.patterned in let n = p.root.node conclusion.node in let w = p.within in let b = p.low in
        (λ x. omega arith, omega arith)

    -- It is a node.
    pub is_node : pattern_from pattern (conclusion_in rules i) ≡ Node (cells pattern address) (address + 1)
    is_node = rw (less_no conclusion.node)

    pub inside : suc address + suc (length values) ≤ h.asked.size
    inside =
        let p = conclusion.patterned in let n = p.root.node conclusion.node in let c = conclusion.node in
        let f = p.formed.fits address (omega arith) (p.root.header c) in
        let a = conclusion.inputs in omega arith

    pub part_inside : (base : ℕ) → base ≡ suc address → base + length values ≤ length pattern
    part_inside base b = let n = inside in let w = conclusion.patterned.within in omega arith

    pub is_no_variable : (r : Pattern) (x : ℕ) → r ≡ pattern_from pattern (conclusion_in rules i) → r ≡ Variable x → ⊥
    is_no_variable r x e q = let e' = e ∙ is_node in let w : ◌≡◌ {A = ℕ} 0 1 = cc in let z : ⊥ = omega arith in z

    pub first_is : (r : Pattern) (header first : ℕ) → r ≡ pattern_from pattern (conclusion_in rules i) → r ≡ Node header first → first ≡ suc address
    first_is r header first e q = let e' = e ∙ is_node in let z : first ≡ address + 1 = cc in omega arith

    -- The first pattern and the first value are of different symbols.
    pub apart_asked : (base : ℕ) → base ≡ suc address → ApartAsked pattern base words values
    apart_asked base b =
        let p = conclusion.patterned in
        let n = inside in
        record {
          size = h.asked.size;
          used = used;
          inside = (let w = p.within in omega arith);
          patterned = λ m.
              let e : suc address + 0 ≡ base = omega arith in
              let a = conclusion.inputs in
              let d = denote_node pattern_room (cells pattern) pattern_room h.asked.size p.formed (conclusion_in rules i) p.root conclusion.node in
              let small : words_in (pattern_at pattern (cells pattern (suc address + 0))) ≤ words_in (pattern_at pattern (conclusion_in rules i)) =
              (let w = words_argument (denote pattern_room (cells pattern)) (cells pattern) (suc address) (arity_of (cells pattern address)) 0 (omega arith) in
              rw d (omega arith)) in
              let small' : words_in (pattern_at pattern (cells pattern base)) ≤ words_in (pattern_at pattern (conclusion_in rules i)) = rw e at small in
              record {
                within = p.within;
                low = p.low;
                formed = p.formed;
                root = rw e at (reference_argument pattern_room (cells pattern) pattern_room h.asked.size p.formed (conclusion_in rules i) 0 p.root conclusion.node (omega arith));
                small = let x = p.small in omega arith;
              };
          stored = h.asked.stored;
          root = λ m. h.asked.roots 0 m;
        }

    pub choosing_apart : (base : ℕ) → base ≡ suc address → bind_of (patterns_from pattern base (length values)) (values_of words values) start ≡ misfit
        → Choosing rules pattern from end values words used environment₀ links₀ stack₀ environment links stack (i + 1)
    choosing_apart base b m =
        let f : fit_of rules pattern values words i ≡ misfit =
        ap (λ (p : ℕ). bind_of (patterns_from pattern p (length values)) (values_of words values) start) (sym b) ∙ m in
        record {
          asked = h.asked;
          kept = h.kept;
          keeps = h.keeps;
          restored = h.restored;
          past = let p = h.past in omega arith;
          missed = λ j x y. by_same j i (λ p w. rw p f) (λ p w. h.missed j x (by_less j i (λ u v. u) (λ u v. absurd (p (omega arith)))));
        }

    -- The clause is tried with a cleared environment.
    pub trying_start : (environment' : List ℕ) (base : ℕ) → environment' ≡ replicate (length environment) 0 → base ≡ suc address
        → Trying rules pattern values words used environment' links stack i base environment' links stack 0
    trying_start environment' base e b = record {
      kept = refl;
      keeps = refl;
      restored = refl;
      few = omega arith;
      starts = b;
      reached = record {
        γ = start;
        holds = record {
          valued = λ x l. ap (λ (t : List ℕ). get_or t x 0) e
              ∙ get_or-replicate (length environment) x 0 0 (let a = h.asked.long in let k = h.kept in omega arith);
        };
        comes = (let x : base + 0 ≡ suc address = omega arith in let y : length values - 0 ≡ length values = omega arith in
            ap₂ (λ (p n : ℕ). bind_of (args (denote pattern_room (cells pattern)) (cells pattern) p n) (args (denote 0 (cells words)) (cells values) 0 n) start) x y);
      };
    }

    module _ {environment' : List ℕ} {base : ℕ} (long : length environment' ≡ length environment) {environment'' links'' : List ℕ} {stack'' : Rows} {k : ℕ}
        (t : Trying rules pattern values words used environment' links stack i base environment'' links'' stack'' k) where
      -- The loop is left at the clause.
      pub clause_fits : length values ≤ k → Chosen rules pattern from end values words used environment₀ links₀ (Some i) environment'' links''
      unfolding bind_of
      clause_fits m =
          let f = t.few in
          let z : length values - k ≡ 0 = omega arith in
          let r = t.reached in
          let c : fitted r.γ ≡ fit_of rules pattern values words i =
          ap (λ (n : ℕ). bind_of (args (denote pattern_room (cells pattern)) (cells pattern) (base + k) n) (args (denote 0 (cells words)) (cells values) k n) r.γ) (sym z) ∙ r.comes in
          record {
            chooses = (h.past, l, h.missed, record { β = r.γ; fits = sym c; holds = r.holds });
            kept = t.kept ∙ long ∙ h.kept;
            restored = t.restored ∙ h.restored;
          }

      module _ (m : k < length values) where
        abbrev head : ℕ
        head = cells pattern (base + k)

        pub places : (base + k < length pattern) × (base + k < headers)
        places =
            let s = t.starts in let n = inside in let w = conclusion.patterned.within in let b = conclusion.patterned.low in
            (omega arith, omega arith)

        pub bind_asked : BindAsked pattern head words used (cells values k) environment'' links'' stack''
        bind_asked =
            let p = conclusion.patterned in
            let s = t.starts in
            let e : suc address + k ≡ base + k = omega arith in
            let a = conclusion.inputs in
            let small : words_in (pattern_at pattern (cells pattern (suc address + k))) ≤ words_in (pattern_at pattern (conclusion_in rules i)) =
            (let d = denote_node pattern_room (cells pattern) pattern_room h.asked.size p.formed (conclusion_in rules i) p.root conclusion.node in
            let w = words_argument (denote pattern_room (cells pattern)) (cells pattern) (suc address) (arity_of (cells pattern address)) k (omega arith) in
            rw d (omega arith)) in
            let small' : words_in (pattern_at pattern head) ≤ words_in (pattern_at pattern (conclusion_in rules i)) = rw e at small in
            record {
              size = h.asked.size;
              patterned = record {
                within = p.within;
                low = p.low;
                formed = p.formed;
                root = rw e at (reference_argument pattern_room (cells pattern) pattern_room h.asked.size p.formed (conclusion_in rules i) k p.root conclusion.node (omega arith));
                small = let x = p.small in let y = h.asked.rows in let z = t.keeps in let v = h.keeps in omega arith;
              };
              lent = record {
                stored = h.asked.stored;
                root = h.asked.roots k m;
                long = let x = h.asked.long in let y = t.kept in let z = h.kept in omega arith;
                known = (t.reached.γ, t.reached.holds);
                linked = rw (t.restored ∙ h.restored) h.asked.linked;
              };
            }

        abbrev patterns_after : Terms
        patterns_after = args (denote pattern_room (cells pattern)) (cells pattern) (base + suc k) (length values - suc k)

        abbrev values_after : Terms
        values_after = args (denote 0 (cells words)) (cells values) (suc k) (length values - suc k)

        first_pair : if_fitted (bind_of (pattern_at pattern head) (value_at words (cells values k)) t.reached.γ) (λ δ. bind_of patterns_after values_after δ) ≡ fit_of rules pattern values words i
        unfolding bind_of
        first_pair =
            let n : length values - k ≡ suc (length values - suc k) = omega arith in
            let e : suc (base + k) ≡ base + suc k = omega arith in
            ap (λ (p : ℕ). if_fitted (bind_of (pattern_at pattern head) (value_at words (cells values k)) t.reached.γ)
            (λ δ. bind_of (args (denote pattern_room (cells pattern)) (cells pattern) p (length values - suc k)) values_after δ)) (sym e)
            ∙ ap (λ (j : ℕ). bind_of (args (denote pattern_room (cells pattern)) (cells pattern) (base + k) j) (args (denote 0 (cells words)) (cells values) k j) t.reached.γ) (sym n)
            ∙ t.reached.comes

        module _ {r : Bool} {environment''' links''' : List ℕ} (b : Matched (pattern_at pattern head) words used (cells values k) environment'' links'' r environment''' links''')
            {stack''' : Rows} (size : length stack''' ≡ length stack'') where
          pub choosing_next : r ≡ false → Choosing rules pattern from end values words used environment₀ links₀ stack₀ environment''' links''' stack''' (i + 1)
          choosing_next q =
              let s : Says (bind_of (pattern_at pattern head) (value_at words (cells values k)) t.reached.γ) false environment''' words used = rw q at (b.says t.reached.γ t.reached.holds) in
              let o = says_false (bind_of (pattern_at pattern head) (value_at words (cells values k)) t.reached.γ) environment''' words used s in
              let f : fit_of rules pattern values words i ≡ misfit = sym first_pair ∙ ap (λ (x : Fitted). if_fitted x (λ δ. bind_of patterns_after values_after δ)) o in
              record {
                asked = h.asked;
                kept = b.kept ∙ t.kept ∙ long ∙ h.kept;
                keeps = size ∙ t.keeps ∙ h.keeps;
                restored = b.restored ∙ t.restored ∙ h.restored;
                past = let p = h.past in omega arith;
                missed = λ j x y. by_same j i (λ p w. rw p f) (λ p w. h.missed j x (by_less j i (λ u v. u) (λ u v. absurd (p (omega arith)))));
              }

          pub trying_next : r ≡ true → Trying rules pattern values words used environment' links stack i base environment''' links''' stack''' (k + 1)
          trying_next q =
              let s : Says (bind_of (pattern_at pattern head) (value_at words (cells values k)) t.reached.γ) true environment''' words used = rw q at (b.says t.reached.γ t.reached.holds) in
              let (δ, o, w) = says_true (bind_of (pattern_at pattern head) (value_at words (cells values k)) t.reached.γ) environment''' words used s in
              record {
                kept = b.kept ∙ t.kept;
                keeps = size ∙ t.keeps;
                restored = b.restored ∙ t.restored;
                few = omega arith;
                starts = t.starts;
                reached = record {
                  γ = δ;
                  holds = w;
                  comes = subst (λ (n : ℕ). bind_of (args (denote pattern_room (cells pattern)) (cells pattern) (base + n) (length values - n))
                      (args (denote 0 (cells words)) (cells values) n (length values - n)) δ ≡ fit_of rules pattern values words i) (sym (add-one k))
                      (ap (λ (x : Fitted). if_fitted x (λ ε. bind_of patterns_after values_after ε)) (sym o) ∙ first_pair);
                };
              }
