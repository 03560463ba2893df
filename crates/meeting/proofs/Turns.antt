-- The turns of the walk's loop: each keeps what the whole comes to, and what is left to do falls.
use Prim.Native.Nat.{ℕ, suc, ◌+◌, ◌-◌, ◌*◌, ◌≤◌, ◌<◌}
use native.Mathlib.Omega.{arith}
use native.Mathlib.Numerals.{add-one}
use mathlib.Core.Path.{◌≡◌, refl, sym, ap, ◌∙◌, subst}
use mathlib.Core.Bool.{Bool, true, false}
use mathlib.Core.List.{List, [], ◌∷◌}
use mathlib.Core.Logic.{∥∥₁_map}
use lib.ListN.{length, set, length-set}
use lib.Seq.{get_or-set_same, get_or-set_other}
use Rattle.terms.specs.Numbers.{by_same, by_less, true_false}
use Rattle.terms.specs.Term.{var, app, cons, Terms, append}
use Rattle.terms.specs.TermLists.{pending, bit}
use Rattle.arena.specs.Cells.{headers, cells, arity_of, symbol_of, args, denote, Reference, denote_node, denote_variable, reference_argument}
use Rattle.arena.specs.ArgumentLaws.{count_args}
use Rattle.arena.specs.Copies.{pattern_room}
use Rattle.arena.specs.Rows.{Rows, column}
use Rattle.resolution.specs.Fresh.{met}
use Rattle.resolution.specs.Search.{words}
use Rattle.resolution.specs.WordLaws.{words_append}
use Rattle.meeting.specs.Places.{Records, Given, Known}
use Rattle.meeting.specs.PlaceLaws.{given_kept, records_met}
use Rattle.meeting.specs.Contract.{term_of, Ready, Walked}
use Rattle.std.specs.Prelude.{Option, Some}
use Rattle.meeting.proofs.Pending.{unmet, turns, met_append, unmet_put, turns_put}

-- n references in use, from the address p on.
pub record Row (pattern : List ℕ) (used p n : ℕ) : Type 0 where
  pub inside : p + n ≤ used
  pub references : (i : ℕ) → i < n → Reference pattern_room (cells pattern) pattern_room used (cells pattern (p + i))

-- Variables f after the walk has come so far from the variables e: meeting what is left comes to meeting the whole.
pub record Reached (pattern : List ℕ) (reference : ℕ) (rest : Terms) (e : List ℕ) (table : List (Option ℕ)) (given : ℕ) : Type 0 where
  pub f : List ℕ
  pub records : Records f table given
  pub comes : met rest f ≡ met (term_of pattern reference) e

-- What holds at each turn.
pub record Turn (pattern : List ℕ) (reference : ℕ) (table₀ : List (Option ℕ)) (count most : ℕ) (stack₀ : Rows) (table : List (Option ℕ)) (stack : Rows)
    (given spent depth next : ℕ) (waiting : Bool) : Type 0 where
  pub ready : Ready pattern reference most stack₀
  pub long : pattern_room ≤ length table
  pub sized : length table ≡ length table₀
  pub keeps : length stack ≡ length stack₀
  -- each open row was paid for with a word
  pub enough : spent ≤ most
  pub deep : depth ≤ spent
  -- what is left lies in the words in use
  pub ahead : waiting ≡ true → Reference pattern_room (cells pattern) pattern_room ready.used next
  pub rows : (i : ℕ) → i < depth → Row pattern ready.used (column 0 stack i) (column 1 stack i)
  -- words spent and words left are the whole term's
  pub spends : spent + words (pending waiting (term_of pattern next) (unmet (cells pattern) stack depth)) ≡ words (term_of pattern reference)
  pub meets : (e : List ℕ) → Records e table₀ count
      → Reached pattern reference (pending waiting (term_of pattern next) (unmet (cells pattern) stack depth)) e table given

-- What is left to do.
abbrev pub left : ℕ → Rows → ℕ → ℕ → Bool → ℕ
left most stack spent depth waiting = 2 * (most - spent) + bit waiting + turns stack depth

pub turn_start : {pattern : List ℕ} {reference : ℕ} {table : List (Option ℕ)} {count most : ℕ} {stack : Rows} → pattern_room ≤ length table → Ready pattern reference most stack
    → Turn pattern reference table count most stack table stack count 0 0 reference true
turn_start l h = record {
  ready = h;
  long = l;
  sized = refl;
  keeps = refl;
  enough = omega arith;
  deep = omega arith;
  ahead = λ q. h.root;
  rows = λ i l. let z : ⊥ = omega arith in absurd z;
  spends = omega arith;
  meets = λ e k. record { f = e; records = k; comes = refl };
}

module _ {pattern : List ℕ} {reference : ℕ} {table₀ : List (Option ℕ)} {count most : ℕ} {stack₀ : Rows} {table : List (Option ℕ)} {stack : Rows}
    {given spent depth next : ℕ} {waiting : Bool}
    (h : Turn pattern reference table₀ count most stack₀ table stack given spent depth next waiting) where
  -- Table and count are those of some variables, as at the start.
  pub turn_known : Known table₀ count → Known table given
  turn_known k = ∥∥₁_map k (λ p. let r = h.meets p.0 p.1 in (r.f, r.records))

  -- A term waits.
  module _ (q : waiting ≡ true) where
    abbrev here : Turn pattern reference table₀ count most stack₀ table stack given spent depth next true
    here = subst (λ (b : Bool). Turn pattern reference table₀ count most stack₀ table stack given spent depth next b) q h

    pub less_one : left most stack spent depth false < left most stack spent depth waiting
    less_one = rw q (omega arith)

    -- It is a variable.
    module _ (v : next < pattern_room) where
      pub turn_variable : (given' : ℕ) (table' : List (Option ℕ)) → Given table next given given' table'
          → Turn pattern reference table₀ count most stack₀ table' stack given' spent depth 0 false
      turn_variable given' table' g =
          let kept = given_kept g in
          let long = h.long in
          let is : term_of pattern next ≡ var next = denote_variable pattern_room (cells pattern) next v in
          let s : spent + words (cons (term_of pattern next) (unmet (cells pattern) stack depth)) ≡ words (term_of pattern reference) = here.spends in
          record {
            ready = h.ready;
            long = omega arith;
            sized = kept ∙ h.sized;
            keeps = h.keeps;
            enough = h.enough;
            deep = h.deep;
            ahead = λ b. true_false b refl;
            rows = h.rows;
            spends = (let s₀ : spent + words (cons (var next) (unmet (cells pattern) stack depth)) ≡ words (term_of pattern reference) = rw is at s in omega arith);
            meets = λ e k. let r = here.meets e k in
                let c : met (cons (term_of pattern next) (unmet (cells pattern) stack depth)) r.f ≡ met (term_of pattern reference) e = r.comes in record {
                  f = met (var next) r.f;
                  records = records_met r.f table next given given' table' v h.long r.records g;
                  comes = rw is at c;
                };
          }

    -- It is a node.
    module _ (v : pattern_room ≤ next) where
      abbrev address : ℕ
      address = next - pattern_room

      abbrev arity : ℕ
      arity = arity_of (cells pattern address)

      abbrev inner : Terms
      inner = args (denote pattern_room (cells pattern)) (cells pattern) (suc address) arity

      pub node_words : (address < length pattern) × (next < headers) × (suc address + arity ≤ h.ready.used)
      node_words =
          let r = h.ahead q in
          let n = r.node v in
          let w = h.ready.within in
          let l = h.ready.low in
          let f = h.ready.formed.fits address (omega arith) (r.header v) in
          (omega arith, omega arith, omega arith)

      is_node : term_of pattern next ≡ app (symbol_of (cells pattern address)) inner
      is_node = denote_node pattern_room (cells pattern) pattern_room h.ready.used h.ready.formed next (h.ahead q) v

      spends_node : spent + suc (arity + words inner + words (unmet (cells pattern) stack depth)) ≡ words (term_of pattern reference)
      spends_node =
          let s : spent + words (cons (term_of pattern next) (unmet (cells pattern) stack depth)) ≡ words (term_of pattern reference) = here.spends in
          let c = count_args (denote pattern_room (cells pattern)) (cells pattern) (suc address) arity in
          let s' : spent + words (cons (app (symbol_of (cells pattern address)) inner) (unmet (cells pattern) stack depth)) ≡ words (term_of pattern reference) = rw is_node at s in
          omega arith

      pub turn_over : most - spent ≤ arity → most < words (term_of pattern reference)
      turn_over l = let s = spends_node in let m = h.enough in omega arith

      -- There are words left for it.
      module _ (o : arity < most - spent) where
        abbrev entered : Rows
        entered = set stack depth ((address + 1) ∷ arity ∷ [])

        pub free_row : depth < length stack
        free_row = let a = h.deep in let b = h.keeps in let d = h.ready.room in omega arith

        opened : unmet (cells pattern) entered (depth + 1) ≡ append inner (unmet (cells pattern) stack depth)
        opened = rw (add-one depth) (unmet_put (cells pattern) stack depth (address + 1) arity free_row
            ∙ ap (λ (p : ℕ). append (args (denote pattern_room (cells pattern)) (cells pattern) p arity) (unmet (cells pattern) stack depth)) (add-one address))

        pub less_enter : left most entered (spent + (arity + 1)) (depth + 1) false < left most stack spent depth waiting
        less_enter =
            let e : turns entered (suc depth) ≡ 2 * arity + 1 + turns stack depth = turns_put stack depth (address + 1) arity free_row in
            rw (q, add-one depth) (omega arith)

        pub turn_enter : Turn pattern reference table₀ count most stack₀ table entered given (spent + (arity + 1)) (depth + 1) 0 false
        turn_enter = record {
          ready = h.ready;
          long = h.long;
          sized = h.sized;
          keeps = length-set stack depth ((address + 1) ∷ arity ∷ []) ∙ h.keeps;
          enough = omega arith;
          deep = let d = h.deep in omega arith;
          ahead = λ b. true_false b refl;
          rows = λ i l. by_same i depth
              (λ e p. rw (e, get_or-set_same stack depth ((address + 1) ∷ arity ∷ []) [] free_row) (record {
                inside = let (a, b, d) = node_words in omega arith;
                references = λ j m. rw (add-one address) (reference_argument pattern_room (cells pattern) pattern_room h.ready.used h.ready.formed next j (h.ahead q) v m);
              }))
              (λ e p. rw (get_or-set_other stack depth i ((address + 1) ∷ arity ∷ []) [] e) (h.rows i (by_less i depth (λ k s. k) (λ k s. absurd (e (omega arith))))));
          spends = rw (opened, words_append) (let s = spends_node in omega arith);
          meets = λ e k. let r = here.meets e k in
              let c : met (cons (term_of pattern next) (unmet (cells pattern) stack depth)) r.f ≡ met (term_of pattern reference) e = r.comes in record {
                f = r.f;
                records = r.records;
                comes = rw (opened, met_append) (rw is_node at c);
              };
        }

  -- None waits.
  module _ (q : waiting ≡ false) where
    abbrev there : Turn pattern reference table₀ count most stack₀ table stack given spent depth next false
    there = subst (λ (b : Bool). Turn pattern reference table₀ count most stack₀ table stack given spent depth next b) q h

    pub turn_done : depth ≡ 0 → Walked pattern reference table₀ count most (Some spent) table given
    turn_done z =
        let s : spent + words (unmet (cells pattern) stack depth) ≡ words (term_of pattern reference) = there.spends in
        let s₀ : spent + 0 ≡ words (term_of pattern reference) = rw z at s in
        let m = h.enough in
        record {
          exceeded = λ l. let z : ⊥ = omega arith in absurd z;
          answered = λ l. ap Some (omega arith);
          recorded = λ l e k. let r = there.meets e k in
              let c : met (unmet (cells pattern) stack depth) r.f ≡ met (term_of pattern reference) e = r.comes in
              let c₀ : r.f ≡ met (term_of pattern reference) e = rw z at c in rw c₀ at r.records;
        }

    -- A row is open.
    module _ (n : 1 ≤ depth) where
      abbrev last : ℕ
      last = depth - 1

      abbrev is : depth ≡ suc last
      is = omega arith

      abbrev at : ℕ
      at = column 0 stack last

      abbrev rest : ℕ
      rest = column 1 stack last

      pub last_row : (last < length stack) × (at + rest ≤ length pattern) × (at + rest ≤ headers)
      last_row =
          let a = h.deep in let b = h.enough in let c = h.keeps in let d = h.ready.room in
          let e = (h.rows last (omega arith)).inside in
          let f = h.ready.within in let g = h.ready.low in
          (omega arith, omega arith, omega arith)

      split : unmet (cells pattern) stack depth ≡ append (args (denote pattern_room (cells pattern)) (cells pattern) at rest) (unmet (cells pattern) stack last)
      split = ap (unmet (cells pattern) stack) is

      turns_last : turns stack depth ≡ 2 * rest + 1 + turns stack last
      turns_last = ap (turns stack) is

      -- All its arguments are met.
      module _ (z : 1 ≤ rest → ⊥) where
        closed : unmet (cells pattern) stack depth ≡ unmet (cells pattern) stack last
        closed = let e : rest ≡ 0 = omega arith in split ∙ rw e

        pub less_close : left most stack spent last waiting < left most stack spent depth waiting
        less_close = let t = turns_last in omega arith

        pub turn_close : Turn pattern reference table₀ count most stack₀ table stack given spent last next waiting
        turn_close =
            let s : spent + words (unmet (cells pattern) stack depth) ≡ words (term_of pattern reference) = there.spends in
            record {
              ready = h.ready;
              long = h.long;
              sized = h.sized;
              keeps = h.keeps;
              enough = h.enough;
              deep = let d = h.deep in omega arith;
              ahead = h.ahead;
              rows = λ i l. h.rows i (omega arith);
              spends = rw q (rw closed at s);
              meets = λ e k. let r = there.meets e k in
                  let c : met (unmet (cells pattern) stack depth) r.f ≡ met (term_of pattern reference) e = r.comes in record {
                    f = r.f;
                    records = r.records;
                    comes = rw q (rw closed at c);
                  };
            }

      -- The next argument is taken from it.
      module _ (o : 1 ≤ rest) where
        abbrev taken : Rows
        taken = set stack last ((at + 1) ∷ (rest - 1) ∷ [])

        first : unmet (cells pattern) stack depth ≡ cons (term_of pattern (cells pattern at)) (unmet (cells pattern) taken depth)
        first =
            let m : rest ≡ suc (rest - 1) = omega arith in
            split ∙ ap (λ (k : ℕ). append (args (denote pattern_room (cells pattern)) (cells pattern) at k) (unmet (cells pattern) stack last)) m
            ∙ ap (cons (term_of pattern (cells pattern at)))
            (sym (ap (unmet (cells pattern) taken) is ∙ unmet_put (cells pattern) stack last (at + 1) (rest - 1) last_row.0
            ∙ ap (λ (p : ℕ). append (args (denote pattern_room (cells pattern)) (cells pattern) p (rest - 1)) (unmet (cells pattern) stack last)) (add-one at)))

        pub less_next : left most taken spent depth true < left most stack spent depth waiting
        less_next =
            let t = turns_last in
            let e : turns taken (suc last) ≡ 2 * (rest - 1) + 1 + turns stack last = turns_put stack last (at + 1) (rest - 1) last_row.0 in
            let e' : turns taken depth ≡ 2 * (rest - 1) + 1 + turns stack last = ap (turns taken) is ∙ e in
            rw q (omega arith)

        pub turn_next : Turn pattern reference table₀ count most stack₀ table taken given spent depth (cells pattern at) true
        turn_next =
            let s : spent + words (unmet (cells pattern) stack depth) ≡ words (term_of pattern reference) = there.spends in
            let row = h.rows last (omega arith) in
            record {
              ready = h.ready;
              long = h.long;
              sized = h.sized;
              keeps = length-set stack last ((at + 1) ∷ (rest - 1) ∷ []) ∙ h.keeps;
              enough = h.enough;
              deep = h.deep;
              ahead = λ b. (let e : at + 0 ≡ at = omega arith in
                  let r : Reference pattern_room (cells pattern) pattern_room h.ready.used (cells pattern (at + 0)) = row.references 0 (omega arith) in rw e at r);
              rows = λ i l. by_same i last
                  (λ e p. rw (e, get_or-set_same stack last ((at + 1) ∷ (rest - 1) ∷ []) [] last_row.0) (record {
                    inside = let a = row.inside in omega arith;
                    references = λ j m. let d : at + suc j ≡ at + 1 + j = omega arith in
                        let r : Reference pattern_room (cells pattern) pattern_room h.ready.used (cells pattern (at + suc j)) = row.references (suc j) (omega arith) in rw d at r;
                  }))
                  (λ e p. rw (get_or-set_other stack last i ((at + 1) ∷ (rest - 1) ∷ []) [] e) (h.rows i l));
              spends = rw first at s;
              meets = λ e k. let r = there.meets e k in
                  let c : met (unmet (cells pattern) stack depth) r.f ≡ met (term_of pattern reference) e = r.comes in record {
                    f = r.f;
                    records = r.records;
                    comes = rw first at c;
                  };
            }
