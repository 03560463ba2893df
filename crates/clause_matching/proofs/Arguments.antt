-- The turns of `instantiate_arguments`: the references built so far, and building what is left, come to building all.
use Prim.Native.Nat.{ℕ, suc, ◌+◌, ◌-◌, ◌≤◌, ◌<◌}
use native.Mathlib.Omega.{arith}
use native.Mathlib.Numerals.{add-one}
use mathlib.Core.Path.{◌≡◌, refl, sym, ap, ap₂, ◌∙◌, subst}
use mathlib.Core.List.{List}
use lib.ListN.{length, set, length-set}
use lib.Seq.{get_or-set_same, get_or-set_other}
use Rattle.terms.specs.Numbers.{by_same, by_less}
use Rattle.terms.specs.Term.{nil, cons, Term, Terms, append}
use Rattle.terms.specs.Term.Kind.{one as single, many as several}
use Rattle.terms.specs.Bindings.{Bindings}
use Rattle.terms.specs.TermLists.{append_nothing, append_more}
use Rattle.arena.specs.Cells.{cells, args, denote, Same, reference_up, frame_denote, args_same}
use Rattle.arena.specs.ArgumentLaws.{args_more}
use Rattle.arena.specs.NodeLaws.{reference_same}
use Rattle.arena.specs.Copies.{pattern_room}
use Rattle.arena.specs.Rows.{Rows}
use Rattle.evaluation.specs.Matching.{Built, barred, built, if_built, instantiate_of}
use Rattle.clause_matching.specs.Stored.{Value, Values, Holds, pattern_at, value_at}
use Rattle.clause_matching.specs.Building.{built_at, InstantiateAsked, Stands, Tells, Instantiated, ArgumentsAsked, TellsAll, ArgumentsBuilt}
use Rattle.clause_matching.specs.declared.building.Built.{Built as Answer}
use Rattle.std.specs.Prelude.{Result, Ok, Err}
use Rattle.refusals.specs.declared.Refusal.{Refusal}
use Rattle.refusals.specs.Refusals.{number_of}
use Rattle.clause_matching.proofs.Forming.{FormsKept, ok_is, unbuilt_arguments, built_arguments}
use Rattle.clause_matching.proofs.BuildTurns.{holds_grown}

-- What an answer says.
pub refused_is : (o : Built single) (refusal : Refusal) (values values' : List ℕ) (used limit : ℕ) → Tells o (Err refusal) values values' used limit
    → o ≡ barred (number_of refusal)
refused_is (barred e) refusal values values' used limit h = ap barred (sym h)
refused_is (built t u) refusal values values' used limit h = let e = h.1 in absurd (let z : ⊥ = cc in z)

pub record Found (o : Built single) (values values' : List ℕ) (used limit value used' : ℕ) : Type 0 where
  pub term : Term
  pub comes : o ≡ built term used'
  pub stands : Stands values used limit values' term value used'

pub found : (o : Built single) (value used' : ℕ) (values values' : List ℕ) (used limit : ℕ) → Tells o (built_at value used') values values' used limit
    → Found o values values' used limit value used'
found (barred e) value used' values values' used limit h = absurd h
found (built t u) value used' values values' used limit (v, e, s) =
    let a : u ≡ used' = ap (λ (b : Answer). b.used) (sym (ok_is e)) in
    let b : v ≡ value = ap (λ (b : Answer). b.value) (sym (ok_is e)) in
    record {
      term = t;
      comes = ap (λ (x : ℕ). built t x) a;
      stands = subst (λ (x : ℕ). Stands values used limit values' t value x) a (subst (λ (x : ℕ). Stands values used limit values' t x u) b s);
    }

-- What holds at each turn.
pub record Turn (pattern : List ℕ) (first count : ℕ) (environment values₀ : List ℕ) (used₀ limit : ℕ) (stack₀ : Rows) (slots₀ : List ℕ)
    (values : List ℕ) (stack : Rows) (slots : List ℕ) (spent k : ℕ) : Type 0 where
  pub asked : ArgumentsAsked pattern first count environment values₀ used₀ limit stack₀ slots₀
  pub kept : length values ≡ length values₀
  pub keeps : length stack ≡ length stack₀
  pub holds : length slots ≡ length slots₀
  pub few : k ≤ count
  pub stored : Values values spent
  pub same : Same 0 (cells values₀) (cells values) used₀
  pub grows : used₀ ≤ spent
  pub within : spent ≤ limit
  pub forms : FormsKept pattern values₀ used₀ values spent
  pub roots : (i : ℕ) → i < k → Value values spent (cells slots i)
  pub comes : (β : Bindings) → Holds environment values₀ used₀ β
      → if_built (instantiate_of limit β (args (denote pattern_room (cells pattern)) (cells pattern) (first + k) (count - k)) spent)
      (λ us v. built (append (args (denote 0 (cells values)) (cells slots) 0 k) us) v)
      ≡ instantiate_of limit β (args (denote pattern_room (cells pattern)) (cells pattern) first count) used₀

as_it_is : (o : Built several) → if_built o (λ us v. built us v) ≡ o
as_it_is (barred e) = refl
as_it_is (built ts u) = refl

pub turn_start : {pattern : List ℕ} {first count : ℕ} {environment values : List ℕ} {used limit : ℕ} {stack : Rows} {slots : List ℕ}
    → ArgumentsAsked pattern first count environment values used limit stack slots
    → Turn pattern first count environment values used limit stack slots values stack slots used 0
turn_start {pattern} {first} {count} {used = used} {limit = limit} h = record {
  asked = h;
  kept = refl;
  keeps = refl;
  holds = refl;
  few = omega arith;
  stored = h.stored;
  same = λ i l. refl;
  grows = omega arith;
  within = h.fits;
  forms = λ arities d f. f;
  roots = λ i l. let z : ⊥ = omega arith in absurd z;
  comes = λ β k. let e : first + 0 ≡ first = omega arith in let f : count - 0 ≡ count = omega arith in
      as_it_is (instantiate_of limit β (args (denote pattern_room (cells pattern)) (cells pattern) (first + 0) (count - 0)) used)
      ∙ ap₂ (λ (p n : ℕ). instantiate_of limit β (args (denote pattern_room (cells pattern)) (cells pattern) p n) used) e f;
}

module _ {pattern : List ℕ} {first count : ℕ} {environment values₀ : List ℕ} {used₀ limit : ℕ} {stack₀ : Rows} {slots₀ : List ℕ}
    {values : List ℕ} {stack : Rows} {slots : List ℕ} {spent k : ℕ}
    (h : Turn pattern first count environment values₀ used₀ limit stack₀ slots₀ values stack slots spent k) where
  abbrev grown : (β : Bindings) → Holds environment values₀ used₀ β → Holds environment values spent β
  grown β b = holds_grown β h.asked.stored h.same h.grows b

  pub turn_done : count ≤ k → ArgumentsBuilt pattern first count environment values₀ used₀ limit (Ok spent) values slots
  unfolding instantiate_of
  turn_done l =
      let f = h.few in
      let z : count - k ≡ 0 = omega arith in
      let e : k ≡ count = omega arith in
      record {
        tells = λ β b.
            let w : built (append (args (denote 0 (cells values)) (cells slots) 0 k) nil) spent ≡ instantiate_of limit β (args (denote pattern_room (cells pattern)) (cells pattern) first count) used₀ =
            ap (λ (n : ℕ). if_built (instantiate_of limit β (args (denote pattern_room (cells pattern)) (cells pattern) (first + k) n) spent)
            (λ us v. built (append (args (denote 0 (cells values)) (cells slots) 0 k) us) v)) (sym z) ∙ h.comes β b in
            subst (λ (o : Built several). TellsAll o (Ok spent) values₀ values slots count used₀ limit) w (
              refl,
              record {
                stored = h.stored;
                roots = λ i m. h.roots i (omega arith);
                are = ap (λ (n : ℕ). args (denote 0 (cells values)) (cells slots) 0 n) (sym e) ∙ sym (append_nothing (args (denote 0 (cells values)) (cells slots) 0 k));
                same = h.same;
                grows = h.grows;
                within = h.within;
              },
            );
        forms = built_arguments pattern spent values₀ values used₀ h.forms;
        kept = h.kept;
      }

  module _ (l : k < count) where
    abbrev here : ℕ
    here = cells pattern (first + k)

    abbrev later : Terms
    later = args (denote pattern_room (cells pattern)) (cells pattern) (first + suc k) (count - suc k)

    pub inside : (first + k < length pattern) × (k < length slots)
    inside = let a = h.asked.inside in let b = h.asked.places in let c = h.holds in (omega arith, omega arith)

    pub next_asked : InstantiateAsked pattern here environment values spent limit stack
    next_asked = record {
      size = h.asked.size;
      patterned = h.asked.patterned k l;
      stored = h.stored;
      long = h.asked.long;
      known = (let (β, b) = h.asked.known in (β, grown β b));
      fits = h.within;
      low = h.asked.low;
      scratch = let s = h.asked.scratch in let e = h.kept in omega arith;
      rows = let s = h.asked.rows in let e = h.keeps in omega arith;
    }

    -- The first of what is left.
    first_left : (β : Bindings) → instantiate_of limit β (args (denote pattern_room (cells pattern)) (cells pattern) (first + k) (count - k)) spent
        ≡ if_built (instantiate_of limit β (pattern_at pattern here) spent) (λ t u. if_built (instantiate_of limit β later u) (λ ts v. built (cons t ts) v))
    unfolding instantiate_of
    first_left β =
        let m : count - k ≡ suc (count - suc k) = omega arith in
        let e : suc (first + k) ≡ first + suc k = omega arith in
        ap (λ (n : ℕ). instantiate_of limit β (args (denote pattern_room (cells pattern)) (cells pattern) (first + k) n) spent) m
        ∙ ap (λ (p : ℕ). if_built (instantiate_of limit β (pattern_at pattern here) spent)
        (λ t u. if_built (instantiate_of limit β (args (denote pattern_room (cells pattern)) (cells pattern) p (count - suc k)) u) (λ ts v. built (cons t ts) v))) e

    module _ {r : Result Answer Refusal} {values' : List ℕ} (i : Instantiated pattern here environment values spent limit r values') where
      pub turn_refused : (refusal : Refusal) → r ≡ Err refusal → (slots' : List ℕ) → ArgumentsBuilt pattern first count environment values₀ used₀ limit (Err refusal) values' slots'
      turn_refused refusal q slots' = record {
        tells = λ β b.
            let t : Tells (instantiate_of limit β (pattern_at pattern here) spent) (Err refusal) values values' spent limit =
            subst (λ (a : Result Answer Refusal). Tells (instantiate_of limit β (pattern_at pattern here) spent) a values values' spent limit) q (i.tells β (grown β b)) in
            let o = refused_is (instantiate_of limit β (pattern_at pattern here) spent) refusal values values' spent limit t in
            let w : barred (number_of refusal) ≡ instantiate_of limit β (args (denote pattern_room (cells pattern)) (cells pattern) first count) used₀ =
            ap (λ (x : Built single). if_built (if_built x (λ t u. if_built (instantiate_of limit β later u) (λ ts v. built (cons t ts) v)))
            (λ us v. built (append (args (denote 0 (cells values)) (cells slots) 0 k) us) v)) (sym o)
            ∙ ap (λ (x : Built several). if_built x (λ us v. built (append (args (denote 0 (cells values)) (cells slots) 0 k) us) v)) (sym (first_left β))
            ∙ h.comes β b in
            subst (λ (x : Built several). TellsAll x (Err refusal) values₀ values' slots' count used₀ limit) w refl;
        forms = unbuilt_arguments pattern refusal values₀ values' used₀;
        kept = i.kept ∙ h.kept;
      }

      module _ (value after : ℕ) (q : r ≡ built_at value after) where
        told : (β : Bindings) → Holds environment values₀ used₀ β → Found (instantiate_of limit β (pattern_at pattern here) spent) values values' spent limit value after
        told β b = found (instantiate_of limit β (pattern_at pattern here) spent) value after values values' spent limit
            (subst (λ (a : Result Answer Refusal). Tells (instantiate_of limit β (pattern_at pattern here) spent) a values values' spent limit) q (i.tells β (grown β b)))

        abbrev put : List ℕ
        put = set slots k value

        one_more : (t : Term) → Stands values spent limit values' t value after
            → append (args (denote 0 (cells values)) (cells slots) 0 k) (cons t nil) ≡ args (denote 0 (cells values')) (cells put) 0 (suc k)
        one_more t s =
            ap₂ (λ (ts : Terms) (u : Term). append ts (cons u nil))
            (args_same 0 (denote 0 (cells values)) (denote 0 (cells values')) (cells slots) (cells put) 0 k (λ j m.
            let e : 0 + j ≡ j = omega arith in
            subst (λ (x : ℕ). value_at values (cells slots x) ≡ value_at values' (cells put x)) (sym e)
            (frame_denote 0 (cells values) 0 spent h.stored.formed (cells values') s.same (cells slots j) (h.roots j m)
            ∙ ap (value_at values') (sym (get_or-set_other slots k j value 0 (λ x. omega arith))))))
            (sym (let e : 0 + k ≡ k = omega arith in ap (λ (x : ℕ). value_at values' (cells put x)) e ∙ ap (value_at values') (get_or-set_same slots k value 0 inside.1) ∙ s.is))
            ∙ sym (args_more (denote 0 (cells values')) (cells put) 0 k)

        pub turn_next : (stack' : Rows) → length stack' ≡ length stack → Turn pattern first count environment values₀ used₀ limit stack₀ slots₀ values' stack' put after (k + 1)
        turn_next stack' n =
            let (β₀, b₀) = h.asked.known in
            let s = (told β₀ b₀).stands in
            let g = h.grows in let g' = s.grows in
            record {
              asked = h.asked;
              kept = i.kept ∙ h.kept;
              keeps = n ∙ h.keeps;
              holds = length-set slots k value ∙ h.holds;
              few = omega arith;
              stored = s.stored;
              same = λ j m. h.same j m ∙ s.same j (omega arith);
              grows = omega arith;
              within = s.within;
              forms = λ arities d f. i.forms arities d (h.forms arities d f) value after q;
              roots = λ j m. by_same j k
                  (λ e x. rw (e, get_or-set_same slots k value 0 inside.1) s.root)
                  (λ e x. rw (get_or-set_other slots k j value 0 e) (reference_up 0 (omega arith) g' (reference_same 0 s.same (h.roots j (by_less j k (λ y z. y) (λ y z. absurd (e (omega arith))))))));
              comes = λ β b. let f = told β b in
                  let m : k + 1 ≡ suc k = add-one k in
                  subst (λ (n : ℕ). if_built (instantiate_of limit β (args (denote pattern_room (cells pattern)) (cells pattern) (first + n) (count - n)) after)
                  (λ us v. built (append (args (denote 0 (cells values')) (cells put) 0 n) us) v)
                  ≡ instantiate_of limit β (args (denote pattern_room (cells pattern)) (cells pattern) first count) used₀) (sym m)
                  (ap (λ (ts : Terms). if_built (instantiate_of limit β later after) (λ us v. built (append ts us) v)) (sym (one_more f.term f.stands))
                  ∙ sym (shift f.term (instantiate_of limit β later after))
                  ∙ ap (λ (x : Built single). if_built (if_built x (λ t u. if_built (instantiate_of limit β later u) (λ ts v. built (cons t ts) v)))
                  (λ us v. built (append (args (denote 0 (cells values)) (cells slots) 0 k) us) v)) (sym f.comes)
                  ∙ ap (λ (x : Built several). if_built x (λ us v. built (append (args (denote 0 (cells values)) (cells slots) 0 k) us) v)) (sym (first_left β))
                  ∙ h.comes β b);
            }
          where
            shift : (t : Term) (o : Built several)
                → if_built (if_built o (λ ts v. built (cons t ts) v)) (λ us v. built (append (args (denote 0 (cells values)) (cells slots) 0 k) us) v)
                ≡ if_built o (λ us v. built (append (append (args (denote 0 (cells values)) (cells slots) 0 k) (cons t nil)) us) v)
            shift t (barred e) = refl
            shift t (built ts v) = ap (λ (us : Terms). built us v) (append_more (args (denote 0 (cells values)) (cells slots) 0 k) t ts)
