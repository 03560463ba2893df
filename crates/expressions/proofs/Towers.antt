-- Numerals: the turns of the tower, and one law for each way out.
use Prim.Native.Nat.{ℕ, zero, suc, ◌+◌, ◌-◌, ◌≤◌, ◌<◌}
use native.Mathlib.Omega.{arith}
use native.Mathlib.Numerals.{add-one}
use mathlib.Core.Path.{◌≡◌, refl, sym, ap, ◌∙◌, subst}
use mathlib.Core.List.{List, [], ◌∷◌}
use lib.ListN.{length}
use borrow.Author.Tests.{eq-eqb, ne_eqb}
use Rattle.terms.specs.Term.{Term, nil, cons}
use Rattle.arena.specs.Cells.{headers}
use Rattle.names.specs.Symbols.{Rows, Symbol, column, row_at, symbols_of, symbol_at}
use Rattle.names.specs.SearchLaws.{columns_at}
use Rattle.patterns.specs.Patterns.{first}
use Rattle.resolution.specs.Rules.{Rule}
use Rattle.rules.specs.PatternLaws.{arities_of}
use Rattle.evaluation.specs.Matching.{Built, barred, built, build_node}
use Rattle.evaluation.specs.Expressions.{sort_in, tower_of}
use Rattle.clause_matching.specs.Stored.{Formed, value_at}
use Rattle.clause_matching.specs.Building.{built_at, Tells, Stands}
use Rattle.clause_matching.specs.declared.building.Built.{Built as Answer}
use Rattle.std.specs.Prelude.{Result, Err}
use Rattle.refusals.specs.declared.Refusal.{Refusal}
use Rattle.refusals.specs.Refusals.{number_of}
use Rattle.expressions.specs.Nodes.{BuildAnswered}
use Rattle.expressions.specs.Numerals.{TowerAsked, TowerAnswered}
use Rattle.forward_calls.proofs.Tables.{output_at, inputs_at_lem}
use Rattle.expressions.proofs.Forming.{arity_within, arity_known, barred_at, used_at}
use Rattle.expressions.proofs.Building.{built_is, built_barred, node_is, stands_on}

-- A refusal on the way up is the whole's.
barred_up : (limit : ℕ) (symbols : List Symbol) (rules : List Rule) (y z k used e n : ℕ) → tower_of limit symbols rules y z k used ≡ barred e
    → tower_of limit symbols rules y z (k + n) used ≡ barred e
unfolding tower_of
barred_up limit symbols rules y z k used e zero h = let a : k + 0 ≡ k = omega arith in rw a h
barred_up limit symbols rules y z k used e (suc n) h =
    let a : k + suc n ≡ suc (k + n) = omega arith in rw (a, barred_up limit symbols rules y z k used e n h)

-- What stays in a tower of n.
pub record Fixed (symbols : Rows) (count y z n limit want : ℕ) : Type 0 where
  pub lent : count ≤ length symbols
  pub few : count ≤ 1024
  pub outer : y < count
  pub inner : z < count
  pub unary : 0 < n → column (row_at symbols y) 6 ≡ 1
  pub low : limit ≤ headers
  pub wants : want ≡ column (row_at symbols y) 8

-- k of n stand.
pub record Turn (symbols : Rows) (count y z n used limit want : ℕ) (words₀ : List ℕ) (spent₀ : ℕ) (words : List ℕ) (top sort spent k : ℕ) : Type 0 where
  pub fixed : Fixed symbols count y z n limit want
  pub term : Term
  pub comes : (text : List ℕ) (rules : List Rule) → tower_of limit (symbols_of text symbols count) rules y z k used ≡ built term spent
  pub sorted : (text : List ℕ) → sort_in (symbols_of text symbols count) term ≡ sort
  pub stands : Stands words₀ spent₀ limit words term top spent
  pub forms : (text : List ℕ) → Formed (arities_of (symbols_of text symbols count)) words₀ spent₀
      → Formed (arities_of (symbols_of text symbols count)) words spent
  pub most : k ≤ n
  pub kept : length words ≡ length words₀
  pub room : limit ≤ length words

module _ {symbols : Rows} {count y z n : ℕ} {words : List ℕ} {used limit : ℕ} (outer : y < count) (inner : z < count)
    (h : TowerAsked symbols count y z n words used limit) where
  module _ {r : Result Answer Refusal} {none words' : List ℕ} (e : none ≡ []) (g : BuildAnswered words used limit z none r words') where
    tells : Tells (build_node limit z nil used) r words words' used limit
    tells = rw e at g.tells

    pub first_refused : {x : Refusal} → r ≡ Err x → TowerAnswered symbols count y z n words used limit (Err x) words'
    unfolding tower_of
    first_refused {x} q = record {
      tells = λ text rules.
          let a : 0 + n ≡ n = omega arith in
          let u = barred_up limit (symbols_of text symbols count) rules y z 0 used (number_of x) n (built_barred words words' used limit (build_node limit z nil used) tells q) in
          subst (λ (b : Built _). Tells b (Err x) words words' used limit) (sym (rw a at u)) refl;
      forms = λ text f value u e. barred_at e;
      kept = g.kept;
    }

    module _ {value after : ℕ} (q : r ≡ built_at value after) where
      pub turn_start : {sort want : ℕ} → sort ≡ column (row_at symbols z) 2 → want ≡ column (row_at symbols y) 8
          → Turn symbols count y z n used limit want words' after words' value sort after 0
      unfolding tower_of
      turn_start {sort} {want} o w =
          let (t, b, s) = built_is (build_node limit z nil used) tells q in
          let i = node_is limit z nil used b in
          record {
            fixed = record {
              lent = h.working.lent;
              few = h.working.few;
              outer = outer;
              inner = inner;
              unary = h.unary;
              low = h.working.low;
              wants = w;
            };
            term = t;
            comes = λ text rules. b;
            sorted = λ text. ap (sort_in (symbols_of text symbols count)) i ∙ output_at text symbols count h.working.lent z inner ∙ sym o;
            stands = record { stored = s.stored; root = s.root; is = s.is; same = λ j l. refl; grows = omega arith; within = s.within };
            forms = λ text f. f;
            most = omega arith;
            kept = refl;
            room = (let l = h.working.room in let k = g.kept in omega arith);
          }

      first_formed : (text : List ℕ) → Formed (arities_of (symbols_of text symbols count)) words used
          → Formed (arities_of (symbols_of text symbols count)) words' after
      first_formed text f =
          let l = h.working.lent in
          g.forms (arities_of (symbols_of text symbols count)) (arity_within text symbols count l z inner)
          (arity_known text symbols count l z inner ∙ h.nullary ∙ sym (ap length e)) f value after q

      -- What the turns come to.
      pub tower_refused : {x : Refusal} {k : ℕ} → ((text : List ℕ) (rules : List Rule) → tower_of limit (symbols_of text symbols count) rules y z k used ≡ barred (number_of x)) → k ≤ n
          → {now : List ℕ} → length now ≡ length words' → TowerAnswered symbols count y z n words used limit (Err x) now
      tower_refused {x} {k} u l {now} s = record {
        tells = λ text rules.
            let a : k + (n - k) ≡ n = omega arith in
            let v = barred_up limit (symbols_of text symbols count) rules y z k used (number_of x) (n - k) (u text rules) in
            subst (λ (b : Built _). Tells b (Err x) words now used limit) (sym (rw a at v)) refl;
        forms = λ text f value u e. barred_at e;
        kept = s ∙ g.kept;
      }

      pub tower_done : {want top sort spent k : ℕ} {now : List ℕ} → Turn symbols count y z n used limit want words' after now top sort spent k → n ≤ k
          → TowerAnswered symbols count y z n words used limit (built_at top spent) now
      tower_done {want} {top} {sort} {spent} {k} {now} t l =
          let (_, b, s) = built_is (build_node limit z nil used) tells q in
          let m = t.most in
          let e : k ≡ n = omega arith in
          record {
            tells = λ text rules. subst (λ (b : Built _). Tells b (built_at top spent) words now used limit) (sym (rw e at (t.comes text rules))) (top, refl, stands_on s t.stands);
            forms = λ text f value u w. rw (used_at w) (t.forms text (first_formed text f));
            kept = t.kept ∙ g.kept;
          }

module _ {symbols : Rows} {count y z n used limit want : ℕ} {words₀ : List ℕ} {spent₀ : ℕ} {words : List ℕ} {top sort spent k : ℕ}
    (h : Turn symbols count y z n used limit want words₀ spent₀ words top sort spent k) (l : k < n) where
  wanted : (text : List ℕ) → first (symbol_at (symbols_of text symbols count) y).inputs ≡ want
  wanted text =
      let f = h.fixed in
      let one : column (row_at symbols y) 6 ≡ 1 = f.unary (omega arith) in
      ap first (inputs_at_lem text symbols count f.lent y f.outer) ∙ columns_at (row_at symbols y) 8 (column (row_at symbols y) 6) 0 (omega arith) ∙ sym f.wants

  pub wrong_sort : (sort ≡ want → ⊥) → (text : List ℕ) (rules : List Rule) → tower_of limit (symbols_of text symbols count) rules y z (suc k) used ≡ barred 33
  unfolding tower_of
  wrong_sort d text rules = rw (h.comes text rules, h.sorted text, wanted text, ne_eqb sort want d)

  module _ (e : sort ≡ want) where
    stepped : (text : List ℕ) (rules : List Rule) → tower_of limit (symbols_of text symbols count) rules y z (suc k) used ≡ build_node limit y (cons (value_at words top) nil) spent
    unfolding tower_of
    stepped text rules = rw (h.comes text rules, h.sorted text, wanted text, eq-eqb sort want e, h.stands.is)

    module _ {r : Result Answer Refusal} {words' : List ℕ} (g : BuildAnswered words spent limit y (top ∷ []) r words') where
      pub next_refused : {x : Refusal} → r ≡ Err x → (text : List ℕ) (rules : List Rule) → tower_of limit (symbols_of text symbols count) rules y z (suc k) used ≡ barred (number_of x)
      next_refused q text rules = stepped text rules ∙ built_barred words words' spent limit (build_node limit y (cons (value_at words top) nil) spent) g.tells q

      pub turn_next : {value after : ℕ} → r ≡ built_at value after → {sort' : ℕ} → sort' ≡ column (row_at symbols y) 2
          → Turn symbols count y z n used limit want words₀ spent₀ words' value sort' after (k + 1)
      turn_next {value} {after} q {sort'} o =
          let (t, b, s) = built_is (build_node limit y (cons (value_at words top) nil) spent) g.tells q in
          let i = node_is limit y (cons (value_at words top) nil) spent b in
          let f = h.fixed in
          record {
            fixed = f;
            term = t;
            comes = λ text rules. rw add-one (stepped text rules ∙ b);
            sorted = λ text. ap (sort_in (symbols_of text symbols count)) i ∙ output_at text symbols count f.lent y f.outer ∙ sym o;
            stands = stands_on h.stands s;
            forms = λ text w. g.forms (arities_of (symbols_of text symbols count)) (arity_within text symbols count f.lent y f.outer)
                (arity_known text symbols count f.lent y f.outer ∙ f.unary (omega arith)) (h.forms text w) value after q;
            most = omega arith;
            kept = g.kept ∙ h.kept;
            room = (let l = h.room in let k = g.kept in omega arith);
          }
