-- The turns of `bind`'s loop: matching what is left, from the values then known, comes to matching the whole; and what is left to do falls.
use Prim.Native.Nat.{ℕ, suc, ◌+◌, ◌-◌, ◌*◌, ◌≤◌, ◌<◌}
use native.Mathlib.Omega.{arith}
use native.Mathlib.Numerals.{add-one}
use mathlib.Core.Path.{◌≡◌, refl, sym, ap, ap₂, ◌∙◌, subst}
use mathlib.Core.Logic.{◌≢◌}
use mathlib.Core.Bool.{Bool, true, false}
use mathlib.Core.List.{List, [], ◌∷◌}
use lib.ListN.{length, set, length-set}
use lib.Seq.{get_or-set_same, get_or-set_other}
use Rattle.terms.specs.Numbers.{same_refl, by_same, by_less, true_false}
use Rattle.terms.specs.Term.{var, app, cons, Term, Terms, count, append, size}
use Rattle.terms.specs.TermLaws.{size_pos}
use Rattle.terms.specs.Bindings.{Bindings}
use Rattle.terms.specs.TermLists.{pending}
use Rattle.arena.specs.Cells.{headers, cells, arity_of, symbol_of, args, denote, Reference, denote_node, denote_variable, reference_argument}
use Rattle.arena.specs.ArgumentLaws.{count_args}
use Rattle.arena.specs.Copies.{pattern_room}
use Rattle.arena.specs.Rows.{Rows, column}
use Rattle.resolution.specs.Search.{words}
use Rattle.resolution.specs.WordLaws.{words_append}
use Rattle.evaluation.specs.Matching.{Fitted, misfit, fitted, if_fitted, bind_of}
use Rattle.clause_matching.specs.Stored.{Value, Holds, pattern_at, value_at}
use Rattle.clause_matching.specs.Choice.{Referable}
use Rattle.clause_matching.specs.Matching.{Says, Lent, Matched, BindAsked}
use Rattle.clause_matching.proofs.Open.{unmet, Row, size_append, unmet_put, bind_append, bind_uneven, bind_alone}

-- What is left of the pattern and of the value.
abbrev pub patterns_left : List ℕ → Rows → ℕ → Terms
patterns_left pattern stack depth = unmet pattern_room 0 (cells pattern) stack depth

abbrev pub values_left : List ℕ → Rows → ℕ → Terms
values_left values stack depth = unmet 0 1 (cells values) stack depth

-- The values known after so many turns: matching what is left with them comes to the whole.
pub record Reached (ps ts : Terms) (whole : Fitted) (environment values : List ℕ) (used : ℕ) : Type 0 where
  pub γ : Bindings
  pub holds : Holds environment values used γ
  pub comes : bind_of ps ts γ ≡ whole

-- What holds at each turn.
pub record Turn (pattern : List ℕ) (reference : ℕ) (values : List ℕ) (used value : ℕ) (environment₀ links₀ : List ℕ) (stack₀ : Rows)
    (environment links : List ℕ) (stack : Rows) (depth next other : ℕ) (waiting : Bool) : Type 0 where
  pub asked : BindAsked pattern reference values used value environment₀ links₀ stack₀
  pub kept : length environment ≡ length environment₀
  pub keeps : length stack ≡ length stack₀
  pub restored : links ≡ links₀
  -- each open row was paid for with a word of the pattern
  pub deep : depth + words (pending waiting (pattern_at pattern next) (patterns_left pattern stack depth)) ≤ length stack₀
  -- what is left lies in the words in use
  pub ahead : waiting ≡ true → Reference pattern_room (cells pattern) pattern_room asked.size next
  pub across : waiting ≡ true → Value values used other
  pub rows : (i : ℕ) → i < depth → Row pattern_room (cells pattern) pattern_room asked.size (column 0 stack i) (column 2 stack i)
  pub others : (i : ℕ) → i < depth → Row 0 (cells values) 0 used (column 1 stack i) (column 2 stack i)
  pub reached : (β : Bindings) → Holds environment₀ values used β
      → Reached (pending waiting (pattern_at pattern next) (patterns_left pattern stack depth)) (pending waiting (value_at values other) (values_left values stack depth))
      (bind_of (pattern_at pattern reference) (value_at values value) β) environment values used

-- What is left to do.
abbrev pub one : Bool → ℕ
one true = 0
one false = 1

abbrev pub left : List ℕ → Rows → ℕ → ℕ → Bool → ℕ
left pattern stack depth next waiting = 4 * size (pending waiting (pattern_at pattern next) (patterns_left pattern stack depth)) + 2 * depth + one waiting

pub turn_start : {pattern : List ℕ} {reference : ℕ} {values : List ℕ} {used value : ℕ} {environment links : List ℕ} {stack : Rows}
    → BindAsked pattern reference values used value environment links stack
    → Turn pattern reference values used value environment links stack environment links stack 0 reference value true
turn_start h = record {
  asked = h;
  kept = refl;
  keeps = refl;
  restored = refl;
  deep = let s = h.patterned.small in omega arith;
  ahead = λ q. h.patterned.root;
  across = λ q. h.lent.root;
  rows = λ i l. let z : ⊥ = omega arith in absurd z;
  others = λ i l. let z : ⊥ = omega arith in absurd z;
  reached = λ β k. record { γ = β; holds = k; comes = bind_alone _ _ β };
}

-- What an answer says of matching.
pub says_false : (o : Fitted) (environment values : List ℕ) (used : ℕ) → Says o false environment values used → o ≡ misfit
says_false misfit environment values used h = refl
says_false (fitted γ) environment values used h = true_false h.0 refl

pub says_true : (o : Fitted) (environment values : List ℕ) (used : ℕ) → Says o true environment values used → (γ : Bindings) × (o ≡ fitted γ) × Holds environment values used γ
says_true misfit environment values used h = true_false {b = true} refl h
says_true (fitted γ) environment values used h = (γ, refl, h.1)

-- Nothing is left without an open row.
nothing_left : (pattern values : List ℕ) (stack : Rows) (depth : ℕ) (γ : Bindings) → depth ≡ 0 → bind_of (patterns_left pattern stack depth) (values_left values stack depth) γ ≡ fitted γ
unfolding bind_of
nothing_left pattern values stack depth γ z = rw z

module _ {pattern : List ℕ} {reference : ℕ} {values : List ℕ} {used value : ℕ} {environment₀ links₀ : List ℕ} {stack₀ : Rows}
    {environment links : List ℕ} {stack : Rows} {depth next other : ℕ} {waiting : Bool}
    (h : Turn pattern reference values used value environment₀ links₀ stack₀ environment links stack depth next other waiting) where
  abbrev whole : Bindings → Fitted
  whole β = bind_of (pattern_at pattern reference) (value_at values value) β

  -- A misfit is the answer.
  misfits : {environment' links' : List ℕ} → length environment' ≡ length environment → links' ≡ links
      → ((β : Bindings) → Holds environment₀ values used β → whole β ≡ misfit)
      → Matched (pattern_at pattern reference) values used value environment₀ links₀ false environment' links'
  misfits {environment'} l k n = record {
    says = λ β b. subst (λ (o : Fitted). Says o false environment' values used) (sym (n β b)) refl;
    kept = l ∙ h.kept;
    restored = k ∙ h.restored;
  }

  -- A pattern waits.
  module _ (q : waiting ≡ true) where
    abbrev here : Turn pattern reference values used value environment₀ links₀ stack₀ environment links stack depth next other true
    here = subst (λ (b : Bool). Turn pattern reference values used value environment₀ links₀ stack₀ environment links stack depth next other b) q h

    -- It may be asked for.
    pub referable : Referable pattern next
    referable =
        let r = h.ahead q in let w = h.asked.patterned.within in let l = h.asked.patterned.low in (
          λ v. let n = r.node v in omega arith,
          by_less next pattern_room (λ v t. let z : next < headers = omega arith in z)
              (λ v t. let n = r.node v in let z : next < headers = omega arith in z),
        )

    -- It is a variable.
    module _ (v : next < pattern_room) where
      abbrev is : pattern_at pattern next ≡ var next
      is = denote_variable pattern_room (cells pattern) next v

      pub take_lent : (next < pattern_room) × Lent values used other environment links
      take_lent = (
        v,
        record {
          stored = h.asked.lent.stored;
          root = h.across q;
          long = let a = h.kept in let b = h.asked.lent.long in omega arith;
          known = let (β, k) = h.asked.lent.known in let r = h.reached β k in (r.γ, r.holds);
          linked = rw h.restored h.asked.lent.linked;
        },
      )

      pub less_variable : left pattern stack depth next false < left pattern stack depth next waiting
      less_variable = let s = size_pos (pattern_at pattern next) in rw q (omega arith)

      module _ (r : Bool) (environment' links' : List ℕ) (m : Matched (var next) values used other environment links r environment' links') where
        pub variable_misfits : r ≡ false → Matched (pattern_at pattern reference) values used value environment₀ links₀ false environment' links'
        unfolding bind_of
        variable_misfits e = misfits m.kept m.restored (λ β k.
            let a = here.reached β k in
            let z : Says (bind_of (var next) (value_at values other) a.γ) false environment' values used = rw e at (m.says a.γ a.holds) in
            let o = says_false (bind_of (var next) (value_at values other) a.γ) environment' values used z in
            sym a.comes ∙ ap (λ (p : Term). bind_of (cons p (patterns_left pattern stack depth)) (cons (value_at values other) (values_left values stack depth)) a.γ) is
            ∙ ap (λ (o : Fitted). if_fitted o (λ δ. bind_of (patterns_left pattern stack depth) (values_left values stack depth) δ)) o)

        pub turn_variable : {next' other' : ℕ} → r ≡ true → Turn pattern reference values used value environment₀ links₀ stack₀ environment' links' stack depth next' other' false
        unfolding bind_of
        turn_variable e = record {
          asked = h.asked;
          kept = m.kept ∙ h.kept;
          keeps = h.keeps;
          restored = m.restored ∙ h.restored;
          deep = (let d : depth + words (cons (pattern_at pattern next) (patterns_left pattern stack depth)) ≤ length stack₀ = here.deep in omega arith);
          ahead = λ b. true_false b refl;
          across = λ b. true_false b refl;
          rows = h.rows;
          others = h.others;
          reached = λ β k. let a = here.reached β k in
              let z : Says (bind_of (var next) (value_at values other) a.γ) true environment' values used = rw e at (m.says a.γ a.holds) in
              let (δ, o, w) = says_true (bind_of (var next) (value_at values other) a.γ) environment' values used z in
              record {
                γ = δ;
                holds = w;
                comes = ap (λ (x : Fitted). if_fitted x (λ ε. bind_of (patterns_left pattern stack depth) (values_left values stack depth) ε)) (sym o)
                    ∙ ap (λ (p : Term). bind_of (cons p (patterns_left pattern stack depth)) (cons (value_at values other) (values_left values stack depth)) a.γ) (sym is)
                    ∙ a.comes;
              };
        }

    -- It is a node.
    module _ (v : pattern_room ≤ next) where
      abbrev address : ℕ
      address = next - pattern_room

      abbrev header : ℕ
      header = cells pattern address

      abbrev inner : Terms
      inner = args (denote pattern_room (cells pattern)) (cells pattern) (suc address) (arity_of header)

      abbrev other_inner : Terms
      other_inner = args (denote 0 (cells values)) (cells values) (suc other) (arity_of (cells values other))

      pub node_words : (address < length pattern) × (next < headers) × (suc address + arity_of header ≤ h.asked.size)
      node_words =
          let r = h.ahead q in
          let n = r.node v in
          let w = h.asked.patterned.within in
          let l = h.asked.patterned.low in
          let f = h.asked.patterned.formed.fits address (omega arith) (r.header v) in
          (omega arith, omega arith, omega arith)

      pub value_words : (other < length values) × (other < headers) × (suc other + arity_of (cells values other) ≤ used)
      value_words =
          let r = h.across q in
          let n = r.node (omega arith) in
          let w = h.asked.lent.stored.within in
          let l = h.asked.lent.stored.low in
          let z : other - 0 ≡ other = omega arith in
          let hd : headers ≤ cells values other = rw z at (r.header (omega arith)) in
          let f = h.asked.lent.stored.formed.fits other (omega arith) hd in
          (omega arith, omega arith, omega arith)

      is_node : pattern_at pattern next ≡ app (symbol_of header) inner
      is_node = denote_node pattern_room (cells pattern) pattern_room h.asked.size h.asked.patterned.formed next (h.ahead q) v

      is_value_lem : value_at values other ≡ app (symbol_of (cells values other)) other_inner
      is_value_lem =
          let z : other - 0 ≡ other = omega arith in
          rw z at (denote_node 0 (cells values) 0 used h.asked.lent.stored.formed other (h.across q) (omega arith))

      -- Both nodes are taken apart.
      apart : (γ : Bindings) → bind_of (cons (pattern_at pattern next) (patterns_left pattern stack depth)) (cons (value_at values other) (values_left values stack depth)) γ
          ≡ if_fitted (bind_of (app (symbol_of header) inner) (app (symbol_of (cells values other)) other_inner) γ)
          (λ δ. bind_of (patterns_left pattern stack depth) (values_left values stack depth) δ)
      unfolding bind_of
      apart γ = ap₂ (λ (p t : Term). bind_of (cons p (patterns_left pattern stack depth)) (cons t (values_left values stack depth)) γ) is_node is_value_lem

      headers_apart : header ≢ cells values other → (γ : Bindings) → bind_of (app (symbol_of header) inner) (app (symbol_of (cells values other)) other_inner) γ ≡ misfit
      unfolding bind_of
      headers_apart n γ = by_same (symbol_of header) (symbol_of (cells values other))
          (λ p e. rw e (bind_uneven inner other_inner γ (λ c.
          let a = count_args (denote pattern_room (cells pattern)) (cells pattern) (suc address) (arity_of header) in
          let b = count_args (denote 0 (cells values)) (cells values) (suc other) (arity_of (cells values other)) in
          let z : other - 0 ≡ other = omega arith in
          let x : headers ≤ header = (h.ahead q).header v in
          let y : headers ≤ cells values other = rw z at ((h.across q).header (omega arith)) in
          n (omega arith))))
          (λ p e. rw e)

      pub node_misfits : header ≢ cells values other → Matched (pattern_at pattern reference) values used value environment₀ links₀ false environment links
      node_misfits n = misfits refl refl (λ β k. let a = here.reached β k in
          sym a.comes ∙ apart a.γ
          ∙ ap (λ (o : Fitted). if_fitted o (λ δ. bind_of (patterns_left pattern stack depth) (values_left values stack depth) δ)) (headers_apart n a.γ))

      -- The headers agree.
      module _ (o : header ≡ cells values other) where
        abbrev row : List ℕ
        row = (address + 1) ∷ (other + 1) ∷ arity_of header ∷ []

        abbrev entered : Rows
        entered = set stack depth row

        spends : depth + suc (arity_of header + words inner + words (patterns_left pattern stack depth)) ≤ length stack₀
        spends =
            let d : depth + words (cons (pattern_at pattern next) (patterns_left pattern stack depth)) ≤ length stack₀ = here.deep in
            let c = count_args (denote pattern_room (cells pattern)) (cells pattern) (suc address) (arity_of header) in
            let e : depth + words (cons (app (symbol_of header) inner) (patterns_left pattern stack depth)) ≤ length stack₀ = rw is_node at d in
            omega arith

        pub free_row : depth < length stack
        free_row = let a = spends in let b = h.keeps in omega arith

        opened : patterns_left pattern entered (depth + 1) ≡ append inner (patterns_left pattern stack depth)
        opened = rw (add-one depth) (unmet_put pattern_room 0 (cells pattern) stack depth row free_row
            ∙ ap (λ (p : ℕ). append (args (denote pattern_room (cells pattern)) (cells pattern) p (arity_of header)) (patterns_left pattern stack depth)) (add-one address))

        opened_values : values_left values entered (depth + 1) ≡ append other_inner (values_left values stack depth)
        opened_values = rw (add-one depth) (unmet_put 0 1 (cells values) stack depth row free_row
            ∙ ap₂ (λ (p n : ℕ). append (args (denote 0 (cells values)) (cells values) p n) (values_left values stack depth)) (add-one other) (ap arity_of o))

        pub less_enter : left pattern entered (depth + 1) next false < left pattern stack depth next waiting
        less_enter =
            let s = size_append inner (patterns_left pattern stack depth) in
            rw (q, opened, is_node) (omega arith)

        pub turn_enter : {next' other' : ℕ} → Turn pattern reference values used value environment₀ links₀ stack₀ environment links entered (depth + 1) next' other' false
        unfolding bind_of
        turn_enter = record {
          asked = h.asked;
          kept = h.kept;
          keeps = length-set stack depth row ∙ h.keeps;
          restored = h.restored;
          deep = rw (opened, words_append) (let s = spends in omega arith);
          ahead = λ b. true_false b refl;
          across = λ b. true_false b refl;
          rows = λ i l. by_same i depth
              (λ e p. rw (e, get_or-set_same stack depth row [] free_row) (record {
                inside = let (a, b, d) = node_words in omega arith;
                references = λ j m. rw (add-one address) (reference_argument pattern_room (cells pattern) pattern_room h.asked.size h.asked.patterned.formed next j (h.ahead q) v m);
              }))
              (λ e p. rw (get_or-set_other stack depth i row [] e) (h.rows i (by_less i depth (λ k s. k) (λ k s. absurd (e (omega arith))))));
          others = λ i l. by_same i depth
              (λ e p. rw (e, get_or-set_same stack depth row [] free_row) (record {
                inside = rw o (let (a, b, d) = value_words in omega arith);
                references = λ j m. let z : other - 0 ≡ other = omega arith in
                    let m' : j < arity_of (cells values other) = rw o at m in
                    rw (add-one other) (rw z at (reference_argument 0 (cells values) 0 used h.asked.lent.stored.formed other j (h.across q) (omega arith) (rw z m')));
              }))
              (λ e p. rw (get_or-set_other stack depth i row [] e) (h.others i (by_less i depth (λ k s. k) (λ k s. absurd (e (omega arith))))));
          reached = λ β k. let a = here.reached β k in
              let c = count_args (denote pattern_room (cells pattern)) (cells pattern) (suc address) (arity_of header) in
              let d = count_args (denote 0 (cells values)) (cells values) (suc other) (arity_of (cells values other)) in
              let ev : count inner ≡ count other_inner = c ∙ ap arity_of o ∙ sym d in
              record {
                γ = a.γ;
                holds = a.holds;
                comes = ap₂ (λ (ps ts : Terms). bind_of ps ts a.γ) opened opened_values
                    ∙ bind_append inner other_inner (patterns_left pattern stack depth) (values_left values stack depth) a.γ ev
                    ∙ sym (apart a.γ ∙ rw (ap symbol_of o, same_refl (symbol_of (cells values other))))
                    ∙ a.comes;
              };
        }

  -- None waits.
  module _ (q : waiting ≡ false) where
    abbrev there : Turn pattern reference values used value environment₀ links₀ stack₀ environment links stack depth next other false
    there = subst (λ (b : Bool). Turn pattern reference values used value environment₀ links₀ stack₀ environment links stack depth next other b) q h

    pub turn_done : depth ≡ 0 → Matched (pattern_at pattern reference) values used value environment₀ links₀ true environment links
    unfolding bind_of
    turn_done z = record {
      says = λ β k. let a = there.reached β k in
          let c : bind_of (patterns_left pattern stack depth) (values_left values stack depth) a.γ ≡ whole β = a.comes in
          let c₀ : fitted a.γ ≡ whole β = sym (nothing_left pattern values stack depth a.γ z) ∙ c in
          subst (λ (o : Fitted). Says o true environment values used) c₀ (refl, a.holds);
      kept = h.kept;
      restored = h.restored;
    }

    -- A row is open.
    module _ (n : depth ≢ 0) where
      abbrev last : ℕ
      last = depth - 1

      abbrev is_suc : depth ≡ suc last
      is_suc = omega arith

      abbrev at : ℕ
      at = column 0 stack last

      abbrev beside : ℕ
      beside = column 1 stack last

      abbrev rest : ℕ
      rest = column 2 stack last

      pub last_row : (last < length stack) × (at + rest ≤ length pattern) × (at + rest ≤ headers) × (beside + rest ≤ length values) × (beside + rest ≤ headers)
      last_row =
          let a = h.deep in let c = h.keeps in
          let e = (h.rows last (omega arith)).inside in
          let e' = (h.others last (omega arith)).inside in
          let f = h.asked.patterned.within in let g = h.asked.patterned.low in
          let f' = h.asked.lent.stored.within in let g' = h.asked.lent.stored.low in
          (omega arith, omega arith, omega arith, omega arith, omega arith)

      split : patterns_left pattern stack depth ≡ append (args (denote pattern_room (cells pattern)) (cells pattern) at rest) (patterns_left pattern stack last)
      split = ap (patterns_left pattern stack) is_suc

      split_values : values_left values stack depth ≡ append (args (denote 0 (cells values)) (cells values) beside rest) (values_left values stack last)
      split_values = ap (values_left values stack) is_suc

      -- All its arguments are met.
      module _ (z : rest ≡ 0) where
        closed : patterns_left pattern stack depth ≡ patterns_left pattern stack last
        closed = split ∙ rw z

        closed_values : values_left values stack depth ≡ values_left values stack last
        closed_values = split_values ∙ rw z

        pub less_close : left pattern stack last next waiting < left pattern stack depth next waiting
        less_close = rw (q, closed) (omega arith)

        closes : Turn pattern reference values used value environment₀ links₀ stack₀ environment links stack last next other false
        closes = record {
          asked = h.asked;
          kept = h.kept;
          keeps = h.keeps;
          restored = h.restored;
          deep = (let d : depth + words (patterns_left pattern stack depth) ≤ length stack₀ = there.deep in
              let e : depth + words (patterns_left pattern stack last) ≤ length stack₀ = rw closed at d in omega arith);
          ahead = λ b. true_false b refl;
          across = λ b. true_false b refl;
          rows = λ i l. h.rows i (omega arith);
          others = λ i l. h.others i (omega arith);
          reached = λ β k. let a = there.reached β k in
              let c : bind_of (patterns_left pattern stack depth) (values_left values stack depth) a.γ ≡ whole β = a.comes in
              record { γ = a.γ; holds = a.holds; comes = ap₂ (λ (ps ts : Terms). bind_of ps ts a.γ) (sym closed) (sym closed_values) ∙ c };
        }

        pub turn_close : Turn pattern reference values used value environment₀ links₀ stack₀ environment links stack last next other waiting
        turn_close = subst (λ (b : Bool). Turn pattern reference values used value environment₀ links₀ stack₀ environment links stack last next other b) (sym q) closes

      -- The next argument is taken from it.
      module _ (o : rest ≢ 0) where
        abbrev next_row : List ℕ
        next_row = (at + 1) ∷ (beside + 1) ∷ (rest - 1) ∷ []

        abbrev taken : Rows
        taken = set stack last next_row

        first : patterns_left pattern stack depth ≡ cons (pattern_at pattern (cells pattern at)) (patterns_left pattern taken depth)
        first =
            let m : rest ≡ suc (rest - 1) = omega arith in
            split ∙ ap (λ (k : ℕ). append (args (denote pattern_room (cells pattern)) (cells pattern) at k) (patterns_left pattern stack last)) m
            ∙ ap (cons (pattern_at pattern (cells pattern at)))
            (sym (ap (patterns_left pattern taken) is_suc ∙ unmet_put pattern_room 0 (cells pattern) stack last next_row last_row.0
            ∙ ap (λ (p : ℕ). append (args (denote pattern_room (cells pattern)) (cells pattern) p (rest - 1)) (patterns_left pattern stack last)) (add-one at)))

        first_value : values_left values stack depth ≡ cons (value_at values (cells values beside)) (values_left values taken depth)
        first_value =
            let m : rest ≡ suc (rest - 1) = omega arith in
            split_values ∙ ap (λ (k : ℕ). append (args (denote 0 (cells values)) (cells values) beside k) (values_left values stack last)) m
            ∙ ap (cons (value_at values (cells values beside)))
            (sym (ap (values_left values taken) is_suc ∙ unmet_put 0 1 (cells values) stack last next_row last_row.0
            ∙ ap (λ (p : ℕ). append (args (denote 0 (cells values)) (cells values) p (rest - 1)) (values_left values stack last)) (add-one beside)))

        pub less_next : left pattern taken depth (cells pattern at) true < left pattern stack depth next waiting
        less_next = rw (q, first) (omega arith)

        pub turn_next : Turn pattern reference values used value environment₀ links₀ stack₀ environment links taken depth (cells pattern at) (cells values beside) true
        turn_next =
            let row = h.rows last (omega arith) in
            let row' = h.others last (omega arith) in
            record {
              asked = h.asked;
              kept = h.kept;
              keeps = length-set stack last next_row ∙ h.keeps;
              restored = h.restored;
              deep = (let d : depth + words (patterns_left pattern stack depth) ≤ length stack₀ = there.deep in rw first at d);
              ahead = λ b. (let e : at + 0 ≡ at = omega arith in
                  let r : Reference pattern_room (cells pattern) pattern_room h.asked.size (cells pattern (at + 0)) = row.references 0 (omega arith) in rw e at r);
              across = λ b. (let e : beside + 0 ≡ beside = omega arith in
                  let r : Reference 0 (cells values) 0 used (cells values (beside + 0)) = row'.references 0 (omega arith) in rw e at r);
              rows = λ i l. by_same i last
                  (λ e p. rw (e, get_or-set_same stack last next_row [] last_row.0) (record {
                    inside = let a = row.inside in omega arith;
                    references = λ j m. let d : at + suc j ≡ at + 1 + j = omega arith in
                        let r : Reference pattern_room (cells pattern) pattern_room h.asked.size (cells pattern (at + suc j)) = row.references (suc j) (omega arith) in rw d at r;
                  }))
                  (λ e p. rw (get_or-set_other stack last i next_row [] e) (h.rows i l));
              others = λ i l. by_same i last
                  (λ e p. rw (e, get_or-set_same stack last next_row [] last_row.0) (record {
                    inside = let a = row'.inside in omega arith;
                    references = λ j m. let d : beside + suc j ≡ beside + 1 + j = omega arith in
                        let r : Reference 0 (cells values) 0 used (cells values (beside + suc j)) = row'.references (suc j) (omega arith) in rw d at r;
                  }))
                  (λ e p. rw (get_or-set_other stack last i next_row [] e) (h.others i l));
              reached = λ β k. let a = there.reached β k in
                  let c : bind_of (patterns_left pattern stack depth) (values_left values stack depth) a.γ ≡ whole β = a.comes in
                  record { γ = a.γ; holds = a.holds; comes = ap₂ (λ (ps ts : Terms). bind_of ps ts a.γ) (sym first) (sym first_value) ∙ c };
            }

-- A node waits, by its header and the address of its first argument.
abbrev pub Waits : List ℕ → ℕ → ℕ → Type 0
Waits pattern header first = (0 < first) × (header ≡ cells pattern (first - 1))

abbrev pub place_of : ℕ → ℕ
place_of first = first - 1 + pattern_room

-- What was read at a reference waits there.
pub read_waits : (pattern : List ℕ) {next header first : ℕ} → pattern_room ≤ next → header ≡ cells pattern (next - pattern_room) → first ≡ next - pattern_room + 1
    → Waits pattern header first × (place_of first ≡ next)
read_waits pattern {next} {header} {first} v h f =
    let e : next - pattern_room ≡ first - 1 = omega arith in
    ((omega arith, h ∙ ap (cells pattern) e), omega arith)

module _ {pattern : List ℕ} {reference : ℕ} {values : List ℕ} {used value : ℕ} {environment₀ links₀ : List ℕ} {stack₀ : Rows}
    {environment links : List ℕ} {stack : Rows} {depth header first other : ℕ} {waiting : Bool} (w : Waits pattern header first)
    (h : Turn pattern reference values used value environment₀ links₀ stack₀ environment links stack depth (place_of first) other waiting) (q : waiting ≡ true) where
  above : pattern_room ≤ place_of first
  above = omega arith

  header_is : cells pattern (place_of first - pattern_room) ≡ header
  header_is = let e : place_of first - pattern_room ≡ first - 1 = omega arith in ap (cells pattern) e ∙ sym w.1

  pub waits_misfits : header ≢ cells values other
      → Matched (pattern_at pattern reference) values used value environment₀ links₀ false environment links
  waits_misfits n = node_misfits h q above (λ e. n (sym header_is ∙ e))

  module _ (o : header ≡ cells values other) where
    abbrev opened_stack : Rows
    opened_stack = set stack depth (first ∷ (other + 1) ∷ arity_of header ∷ [])

    pub waits_free : depth < length stack
    waits_free = free_row h q above (header_is ∙ o)

    opened_is : set stack depth ((place_of first - pattern_room + 1) ∷ (other + 1) ∷ arity_of (cells pattern (place_of first - pattern_room)) ∷ []) ≡ opened_stack
    opened_is =
        let l = w.0 in
        let e : place_of first - pattern_room + 1 ≡ first = omega arith in
        ap₂ (λ (a c : ℕ). set stack depth (a ∷ (other + 1) ∷ arity_of c ∷ [])) e header_is

    pub less_waits : left pattern opened_stack (depth + 1) (place_of first) false < left pattern stack depth (place_of first) waiting
    less_waits = subst (λ (s : Rows). left pattern s (depth + 1) (place_of first) false < left pattern stack depth (place_of first) waiting) opened_is
        (less_enter h q above (header_is ∙ o))

    pub turn_waits : {next' other' : ℕ}
        → Turn pattern reference values used value environment₀ links₀ stack₀ environment links opened_stack (depth + 1) next' other' false
    turn_waits {next'} {other'} =
        subst (λ (s : Rows). Turn pattern reference values used value environment₀ links₀ stack₀ environment links s (depth + 1) next' other' false) opened_is
        (turn_enter h q above (header_is ∙ o))

-- The next argument is taken, and then what it is: both steps at once.
module _ {pattern : List ℕ} {reference : ℕ} {values : List ℕ} {used value : ℕ} {environment₀ links₀ : List ℕ} {stack₀ : Rows}
    {environment links : List ℕ} {stack : Rows} {depth next other : ℕ}
    (h : Turn pattern reference values used value environment₀ links₀ stack₀ environment links stack depth next other false)
    (n : depth ≢ 0) (o : column 2 stack (depth - 1) ≢ 0) where
  abbrev stack_after : Rows
  stack_after = set stack (depth - 1) ((column 0 stack (depth - 1) + 1) ∷ (column 1 stack (depth - 1) + 1) ∷ (column 2 stack (depth - 1) - 1) ∷ [])

  abbrev next_after : ℕ
  next_after = cells pattern (column 0 stack (depth - 1))

  abbrev other_after : ℕ
  other_after = cells values (column 1 stack (depth - 1))

  -- It is a variable.
  module _ (v : next_after < pattern_room) where
    pub less_taken : left pattern stack_after depth next false < left pattern stack depth next false
    less_taken =
        let x : left pattern stack_after depth next_after true < left pattern stack depth next false = less_next h refl n o in
        let y = less_variable (turn_next h refl n o) refl v in
        omega arith

    pub turn_taken : (r : Bool) (environment' links' : List ℕ) → Matched (var next_after) values used other_after environment links r environment' links' → r ≡ true
        → Turn pattern reference values used value environment₀ links₀ stack₀ environment' links' stack_after depth next other false
    turn_taken r environment' links' m e = turn_variable (turn_next h refl n o) refl v r environment' links' m e

  -- It is a node, by its header and the address of its first argument.
  module _ {header first : ℕ} (w : Waits pattern header first × (place_of first ≡ next_after)) where
    comes_to : Turn pattern reference values used value environment₀ links₀ stack₀ environment links stack_after depth (place_of first) other_after true
    comes_to = rw w.1 (turn_next h refl n o)

    pub node_inside : (other_after < length values) × (other_after < headers)
    node_inside = let (a, b, c) = value_words comes_to refl (omega arith) in (a, b)

    pub opened_misfits : header ≢ cells values other_after → Matched (pattern_at pattern reference) values used value environment₀ links₀ false environment links
    opened_misfits = waits_misfits w.0 comes_to refl

    module _ (e : header ≡ cells values other_after) where
      abbrev stack_opened : Rows
      stack_opened = set stack_after depth (first ∷ (other_after + 1) ∷ arity_of header ∷ [])

      pub opened_free : depth < length stack_after
      opened_free = waits_free w.0 comes_to refl e

      pub less_opened : left pattern stack_opened (depth + 1) next false < left pattern stack depth next false
      less_opened =
          let x = less_next h refl n o in
          let y : left pattern stack_opened (depth + 1) (place_of first) false < left pattern stack_after depth (place_of first) true = less_waits w.0 comes_to refl e in
          let z = rw w.1 at y in
          omega arith

      pub turn_opened : Turn pattern reference values used value environment₀ links₀ stack₀ environment links stack_opened (depth + 1) next other false
      turn_opened = turn_waits w.0 comes_to refl e
