-- How `prepare` meets its contract: the limits are tested as the definitions say, a goal that compiled can be stored, and the session with
-- it is in form.
use Prim.Native.Nat.{ℕ, ◌+◌, ◌-◌, ◌≤◌, ◌<◌, min}
use native.Mathlib.Omega.{arith}
use Rattle.std.specs.Prelude.{Result, Ok, Err, ◌≡◌, refl, Bool, true, false, ◌||◌, ltb}
use Rattle.std.proofs.Math.Path.{sym, ap}
use Rattle.std.proofs.Common.{ap₂, ◌∙◌, subst, length-take-le, take_at, drop_at}
use mathlib.Core.List.{List, [], ◌++◌, append_assoc}
use lib.ListN.{length, take, drop, length-append}
use Rattle.std.proofs.lemmas.List.Edits.{sets, sets-eq}
use Rattle.std.proofs.Math.Seq.{length-sets}
use Rattle.words.specs.Lexer.{capped_of}
use Rattle.words.specs.declared.Limits.{Limits}
use Rattle.terms.specs.Numbers.{less, less_yes, less_no, by_less, true_false, or_false}
use Rattle.attempts.specs.declared.SearchLimits.{SearchLimits}
use Rattle.terms.specs.Term.{Term}
use Rattle.term_check.specs.TermRows.{TermAt}
use Rattle.arena.specs.Cells.{Reference, cells}
use Rattle.arena.specs.Copies.{term_room, copied}
use Rattle.arena.specs.CopyLaws.{copied_length}
use Rattle.names.specs.UsedLaws.{symbols_used}
use Rattle.names.specs.Symbols.{Rows, Symbol, column, row_at, symbol_of, symbols_of, symbol_at, no_symbol}
use Rattle.names.specs.SearchLaws.{table_length, table_at, get_d_any, columns_length}
use Rattle.patterns.specs.Promises.{Ready}
use Rattle.resolution.specs.Search.{words, over, within}
use Rattle.resolution.specs.Session.{Named, Compiled, refuses, compiles, goal_of, limits_of, at_most, variable_limit, word_limit, too_much}
use Rattle.resolution.specs.Session as theory
use Rattle.rules.specs.PatternLaws.{arities_of, FewInputs}
use Rattle.deepening.specs.ClearingLaws.{clear_at, clear_from}
use Rattle.sessions.specs.Storage.{SessionStore, names_in, session_store, session_of, SessionListed, zero_name}
use Rattle.sessions.specs.Goals.{goal_in, goal_compiled}
use Rattle.sessions.specs.Promises.{allowance_of, Continued}
use Rattle.sessions.specs.Leaving.{SessionMade}
use Rattle.sessions.specs.StoreLaws.{names_length}
use Rattle.sessions.specs.declared.SessionCounts.{SessionCounts}
use Rattle.goals.specs.Compiling.{Bounds, GoalLaid, Agrees, GoalMade}
use Rattle.goals.specs.Storing.{StoreAsked, GoalStored}
use Rattle.goals.specs.StoringLaws.{store_copyable}
use Rattle.goals.specs.GoalLaws.{GoalGood, goal_agrees, names_part, goal_good}
use Rattle.goals.specs.SessionLaws.{new_count, goal_size, session_asked, session_denotes, session_reference, session_made}
use Rattle.goals.specs.declared.Goal.{Goal}
use Rattle.refusals.specs.declared.Refusal.{Refusal}
use Rattle.refusals.specs.declared.Refusal.TheVariants.{OverLimit}
use Rattle.prover.specs.Preparing.{search_limits, PrepareAsked, IsStored, Within, Prepares, Preparing}

-- The symbols in use, lent as a part of a table, are the table's first ones.
made_used : {text : List ℕ} {rows : Rows} {at : ℕ} {names : Rows} {w : List ℕ} {r : Result Goal Refusal} {vx : Rows} {wx : List ℕ}
    (symbols : Rows) (count : ℕ) → count ≤ length symbols
    → GoalMade text rows at (symbols_of text (take count symbols) (length (take count symbols))) names w r vx wx
    → GoalMade text rows at (symbols_of text symbols count) names w r vx wx
made_used {text} {rows} {at} {names} {w} {r} {vx} {wx} symbols count lent h =
    subst (λ (known : List Symbol). GoalMade text rows at known names w r vx wx) (symbols_used symbols count lent text) h

-- The limits

-- A limit that counts is the less of the two.
most_is : (top n : ℕ) → at_most top n ≡ min n top
most_is top n = by_less top n
    (λ l q. rw q (let e : top ≡ min n top = omega arith in e)) (λ l q. rw q (let e : n ≡ min n top = omega arith in e))

pub capped_variables : (l : Limits) → at_most variable_limit l.variables ≡ (capped_of l).variables
capped_variables l = most_is variable_limit l.variables

pub capped_words : (l : Limits) → at_most word_limit l.words ≡ (capped_of l).words
capped_words l = most_is word_limit l.words

pub capped_steps : (l : Limits) → at_most theory.step_limit l.steps ≡ (capped_of l).steps
capped_steps l = most_is theory.step_limit l.steps

module _ (l : Limits) {c : Limits} (is : c ≡ capped_of l) where
  steps_is : c.steps ≡ at_most theory.step_limit l.steps
  steps_is = ap (λ (x : Limits). x.steps) is ∙ sym (most_is theory.step_limit l.steps)

  variables_is : c.variables ≡ at_most variable_limit l.variables
  variables_is = ap (λ (x : Limits). x.variables) is ∙ sym (capped_variables l)

  words_is : c.words ≡ at_most word_limit l.words
  words_is = ap (λ (x : Limits). x.words) is ∙ sym (capped_words l)

  -- More steps than allowed,
  pub much_steps : (s d : ℕ) → c.steps < s → true ≡ too_much s d (allowance_of l)
  much_steps s d h = let e = steps_is in
      let m : at_most theory.step_limit l.steps < s = omega arith in
      rw (less_yes m)

  -- or a depth that is too great.
  pub much_depth : (s d : ℕ) → s ≤ c.steps → ltb 128 d ≡ too_much s d (allowance_of l)
  unfolding less
  much_depth s d h = let e = steps_is in
      let m : s ≤ at_most theory.step_limit l.steps = omega arith in
      sym (ap (λ (b : Bool). b || less theory.depth_limit d) (less_no m))

  -- More variables than the limits allow, or words.
  pub over_variables : (v w : ℕ) → c.variables < v → true ≡ over (limits_of (allowance_of l)) v w
  over_variables v w h = let e = variables_is in
      let m : at_most variable_limit l.variables < v = omega arith in
      rw (less_yes m)

  pub over_words : (v w : ℕ) → v ≤ c.variables → ltb c.words w ≡ over (limits_of (allowance_of l)) v w
  unfolding less
  over_words v w h = let e = variables_is in
      let m : v ≤ at_most variable_limit l.variables = omega arith in
      ap (λ (i : ℕ). less i w) words_is
      ∙ sym (ap (λ (b : Bool). b || less (at_most word_limit l.words) w) (less_no m))

-- More variables or words than a search may use are more than the limits allow.
pub over_told : (l : Limits) {s : SearchLimits} {r : Bool} (v w : ℕ) → s ≡ search_limits l → r ≡ over (within s.variables s.words) v w
    → r ≡ over (limits_of (allowance_of l)) v w
over_told l {s} {r} v w e f =
    f ∙ ap (λ (x : SearchLimits). over (within x.variables x.words) v w) e
    ∙ ap₂ (λ (i j : ℕ). over (within i j) v w) (sym (capped_variables l)) (sym (capped_words l))

-- What is not over the limits is within them.
pub within_limits : (l : Limits) (v w : ℕ) → over (limits_of (allowance_of l)) v w ≡ false
    → (v ≤ (capped_of l).variables) × (w ≤ (capped_of l).words)
within_limits l v w e =
    let h = or_false (less (at_most variable_limit l.variables) v) (less (at_most word_limit l.words) w) e in
    let a = capped_variables l in
    let b = capped_words l in
    let x : v ≤ at_most variable_limit l.variables =
    by_less (at_most variable_limit l.variables) v (λ m q. true_false q h.0) (λ m q. m) in
    let y : w ≤ at_most word_limit l.words = by_less (at_most word_limit l.words) w (λ m q. true_false q h.1) (λ m q. m) in
    (omega arith, omega arith)

-- The session's names and words with the goal's behind them

pub names_continued : {names names' : Rows} {n v : ℕ} → n ≤ v → drop n names ≡ lib.ListN.replicate (length names - n) zero_name
    → length names' ≡ length names → take n names' ≡ take n names → ((i : ℕ) → v ≤ i → row_at names' i ≡ row_at names i)
    → Continued zero_name n v names names'
names_continued {names} {names'} {n} {v} order clear long front behind = record {
  long = long;
  same = front;
  clear = clear_from [] zero_name names' v (λ i a b. behind i a ∙ clear_at [] zero_name names n clear i (omega arith) (omega arith))
      ∙ ap (λ (k : ℕ). lib.ListN.replicate (k - v) zero_name) long;
}

pub words_continued : {ws ws' : List ℕ} (n : ℕ) (vs : List ℕ) → n + length vs ≤ length ws
    → drop n ws ≡ lib.ListN.replicate (length ws - n) 0 → ws' ≡ sets ws n vs → Continued 0 n (n + length vs) ws ws'
words_continued {ws} {ws'} n vs room clear is =
    let e : ws' ≡ take n ws ++ vs ++ drop (n + length vs) ws = is ∙ sets-eq vs ws n room in
    let a : length (take n ws) ≡ n = length-take-le n ws (omega arith) in
    let c : length (take n ws ++ vs) ≡ n + length vs = length-append (take n ws) vs ∙ ap (λ (k : ℕ). k + length vs) a in
    record {
      long = ap length is ∙ length-sets ws n vs;
      same = ap (take n) (e ∙ append_assoc (take n ws) vs (drop (n + length vs) ws))
          ∙ take_at (take n ws) (vs ++ drop (n + length vs) ws) n a;
      clear = ap (drop (n + length vs)) e
          ∙ drop_at (take n ws ++ vs) (drop (n + length vs) ws) (n + length vs) c
          ∙ clear_from 0 0 ws (n + length vs) (λ i l m. clear_at 0 0 ws n clear i (omega arith) m);
    }

module _ {text : List ℕ} {limits : Limits} {symbols : Rows} {count : ℕ} {rows : Rows} {at : ℕ} {names : Rows} {ws : List ℕ}
    {n : SessionCounts} (asked : PrepareAsked text limits symbols count rows at names ws n) where
  abbrev known : List Symbol
  known = symbols_of text symbols count

  abbrev arities : List ℕ
  arities = arities_of known

  abbrev old : List Named
  old = names_in text names n.names

  pub front_length : length (take n.names names) ≡ n.names
  front_length = length-take-le n.names names asked.session.names_lent

  pub compile_ready : (vs : Rows) (w : List ℕ) → length vs ≡ 64 → length w ≡ 2048
      → Ready symbols count vs (length (take n.names names)) w 0 1024
  compile_ready vs w a c =
      let l = front_length in
      let f = asked.session.few_names in
      record {
        lent = asked.lent;
        few = asked.few;
        inputs = asked.inputs;
        variables = omega arith;
        entered = omega arith;
        words = omega arith;
        low = omega arith;
      }

  few_inputs : FewInputs known
  unfolding symbols_of symbol_of
  few_inputs i l =
      let q : length known ≡ count = table_length (symbol_of text) symbols count asked.lent in
      let m : i < count = omega arith in
      let row : List ℕ = row_at symbols i in
      let is : symbol_at known i ≡ symbol_of text row =
      get_d_any known i no_symbol (symbol_of text []) l ∙ table_at (symbol_of text) symbols count asked.lent i m in
      let e : length (symbol_at known i).inputs ≡ column row 6 =
      ap (λ (f : Symbol). length f.inputs) is ∙ columns_length row 8 (column row 6) in
      let f = asked.inputs i m in
      omega arith

  -- What was compiled
  module _ {vx : Rows} {w wx : List ℕ} {r : Result Goal Refusal} (lent : 64 ≤ length vx) (long : 2048 ≤ length w)
      (bounds : Bounds (length (take n.names names)) r)
      (made_there : GoalMade text rows at (symbols_of text (take count symbols) (length (take count symbols))) (take n.names names) w r vx wx) where
    made : GoalMade text rows at known (take n.names names) w r vx wx
    made = made_used symbols count asked.lent made_there

    agrees : (q : ℕ) (t : TermAt text rows at q) (o : Result Goal Refusal) → r ≡ o
        → Agrees text rows at q n.names w (goal_compiled known (goal_in t) old) o vx wx
    agrees q t o e =
        subst (λ (o : Result Goal Refusal). Agrees text rows at q n.names w (goal_compiled known (goal_in t) old) o vx wx) e
        (subst (λ (i : ℕ). Agrees text rows at q i w (goal_compiled known (goal_in t) old) r vx wx) front_length
        (subst (λ (ns : List Named). Agrees text rows at q (length (take n.names names)) w (goal_compiled known (goal_in t) ns) r vx wx)
        (names_part text names n.names) (goal_agrees made t)))

    -- Refused.
    pub prepare_refused : (e : Refusal) → r ≡ Err e → Preparing text limits symbols count rows at names ws n (Err e) names ws
    prepare_refused e d = record {
      says = λ sorts bindings room listed q t. go bindings q (goal_compiled known (goal_in t) old) (agrees q t (Err e) d);
    }
      where
        go : (bindings : Rows) (q : ℕ) (c : Compiled) → Agrees text rows at q n.names w c (Err e) vx wx
            → Prepares text limits arities (session_store names ws bindings) n (Err e) names ws c
        go bindings q (refuses f) h = record { answer = h; names_are = refl; words_are = refl }
        go bindings q (compiles new p) h = absurd h

    module _ (g : Goal) (is : r ≡ Ok g) where
      pub goal_counts : (n.names ≤ g.variables) × (g.variables ≤ 64) × (g.words ≤ 2048)
      goal_counts = subst (λ (i : ℕ). Bounds i (Ok g)) front_length
          (subst (λ (o : Result Goal Refusal). Bounds (length (take n.names names)) o) is bounds)

      record CompiledAs (q : ℕ) (t : TermAt text rows at q) : Type 0 where
        pub new : List theory.Name
        pub term : Term
        pub compiled : goal_compiled known (goal_in t) old ≡ compiles new term
        pub laid : GoalLaid text rows at q n.names w new term g vx wx
        pub good : GoalGood known old new term

      compiled_as : (q : ℕ) (t : TermAt text rows at q) → CompiledAs q t
      compiled_as q t = go (goal_compiled known (goal_in t) old) refl (agrees q t (Ok g) is)
        where
          few : length old ≤ 64
          few = let a = names_length asked.session in let f = asked.session.few_names in omega arith

          go : (c : Compiled) → goal_compiled known (goal_in t) old ≡ c → Agrees text rows at q n.names w c (Ok g) vx wx
              → CompiledAs q t
          go (refuses e) d h = absurd h
          go (compiles new p) d h = record {
            new = new;
            term = p;
            compiled = d;
            laid = h;
            good = goal_good known few_inputs old few (goal_in t) new p d;
          }

      -- How many variables and words there are with it.
      abbrev total : ℕ
      total = n.variables + (g.variables - n.names)

      abbrev used : ℕ
      used = n.words + g.words

      module _ {sorts : ℕ} {bindings : Rows} (listed : SessionListed text arities sorts (session_store names ws bindings) n) (q : ℕ)
          (t : TermAt text rows at q) where
        abbrev c : CompiledAs q t
        c = compiled_as q t

        abbrev b : SessionStore
        b = session_store names ws bindings

        counted : n.names + length c.new ≡ g.variables
        counted = let a = goal_counts.1 in new_count listed c.good c.laid goal_counts.0 (omega arith) long

        total_is : n.variables + length c.new ≡ total
        total_is = let a = counted in omega arith

        used_is : n.words + words (goal_of (session_of text b n) c.term) ≡ used
        used_is = let a = goal_counts.1 in
            ap (λ (k : ℕ). n.words + k) (sym (goal_size listed c.good c.laid goal_counts.0 (omega arith) long))

        over_is : (v : Bool) → over (limits_of (allowance_of limits)) total used ≡ v
            → over (limits_of (allowance_of limits)) (n.variables + length c.new)
            (n.words + words (goal_of (session_of text b n) c.term)) ≡ v
        over_is v e = ap₂ (over (limits_of (allowance_of limits))) total_is used_is ∙ e

      -- Over the limits.
      pub prepare_over : over (limits_of (allowance_of limits)) total used ≡ true
          → Preparing text limits symbols count rows at names ws n (Err OverLimit) names ws
      prepare_over e = record {
        says = λ sorts bindings room listed q t.
            subst (λ (k : Compiled). Prepares text limits arities (session_store names ws bindings) n (Err OverLimit) names ws k)
            (sym (compiled_as q t).compiled)
            (subst (λ (v : Bool). Within text arities (session_store names ws bindings) n (Err OverLimit) names ws (compiled_as q t).new
            (compiled_as q t).term v) (sym (over_is listed q t true e))
            (record { answer = refl; names_are = refl; words_are = refl }));
      }

      -- Stored.
      module _ (fits : over (limits_of (allowance_of limits)) total used ≡ false) where
        pub store_asked : StoreAsked vx wx g names ws n
        store_asked =
            let c = compiled_as asked.next asked.goal in
            let x = goal_counts.1 in
            let lim = within_limits limits total used fits in
            let e = total_is asked.session asked.next asked.goal in
            let l₀ = lim.0 in
            let l₁ = lim.1 in
            let wl = asked.words_lent in
            session_asked asked.session c.good c.laid goal_counts.0 (omega arith) long asked.names_lent
            (omega arith) (omega arith)

        pub prepare_stored : {node : ℕ} {names' : Rows} {ws' : List ℕ} → GoalStored vx wx g names ws n node names' ws'
            → Preparing text limits symbols count rows at names ws n
            (Ok (record { node = node; names = g.variables; variables = total; words = used })) names' ws'
        prepare_stored {node} {names'} {ws'} stored = record {
          says = λ sorts bindings room listed q t.
              let c = compiled_as q t in
              subst (λ (k : Compiled). Prepares text limits arities (session_store names ws bindings) n
              (Ok (record { node = node; names = g.variables; variables = total; words = used })) names' ws' k) (sym c.compiled)
              (subst (λ (v : Bool). Within text arities (session_store names ws bindings) n
              (Ok (record { node = node; names = g.variables; variables = total; words = used })) names' ws' c.new c.term v)
              (sym (over_is listed q t false fits)) (is_stored sorts bindings room listed q t));
        }
          where
            copies : length (copied wx 0 g.words stored.places term_room n.words 0) ≡ g.words
            copies = copied_length wx 0 g.words stored.places term_room n.words 0
                (store_copyable store_asked stored.entered stored.places stored.long stored.put).part

            continued : Continued 0 n.words (n.words + g.words) ws ws'
            continued =
                let a = copies in
                let s = store_asked.space in
                subst (λ (k : ℕ). Continued 0 n.words (n.words + k) ws ws') copies
                (words_continued n.words (copied wx 0 g.words stored.places term_room n.words 0) (omega arith)
                asked.words_clear stored.written)

            is_stored : (sorts : ℕ) (bindings : Rows) → (capped_of limits).variables ≤ length bindings
                → (listed : SessionListed text arities sorts (session_store names ws bindings) n) (q : ℕ) (t : TermAt text rows at q)
                → IsStored text arities (session_store names ws bindings) n
                (Ok (record { node = node; names = g.variables; variables = total; words = used })) names' ws'
                (compiled_as q t).new (compiled_as q t).term
            is_stored sorts bindings room listed q t =
                let c = compiled_as q t in
                let x = goal_counts.1 in
                let lim = within_limits limits total used fits in
                let l₀ = lim.0 in
                let l₁ = lim.1 in
                let e = total_is listed q t in
                let lent' : g.variables ≤ length vx = omega arith in
                record {
                  goal = record { node = node; names = g.variables; variables = total; words = used };
                  answer = refl;
                  stands = record {
                    named = sym (counted listed q t);
                    numbered = sym e;
                    used = sym (used_is listed q t);
                    made = subst (λ (v : ℕ). SessionMade text arities (session_store names ws bindings) n (session_store names' ws' bindings)
                        (record { names = g.variables; variables = v; bound = n.bound; words = used }) c.new) e
                        (session_made listed c.good c.laid goal_counts.0 lent' long t store_asked stored
                        (omega arith) (omega arith) (omega arith));
                    denotes = session_denotes listed c.good c.laid goal_counts.0 lent' long t store_asked stored;
                    refers = subst (λ (v : ℕ). Reference term_room (cells ws') v used node) e
                        (session_reference listed c.good c.laid goal_counts.0 lent' long t store_asked stored);
                    names = names_continued goal_counts.0 asked.names_clear stored.entered.long stored.entered.front
                        stored.entered.behind;
                    words = continued;
                  };
                }
