-- A goal stored in a session in form: what `store` asks is there, and the session with the goal in it is in form again.
use Rattle.std.specs.Prelude.{ℕ, ◌+◌, ◌-◌, ◌≤◌, ◌≡◌, true, List, length}
use Rattle.std.proofs.Common.{arith, sym, subst}
use Rattle.terms.specs.Term.{Term}
use Rattle.term_check.specs.TermRows.{TermAt}
use Rattle.arena.specs.Cells.{denote, Reference, cells}
use Rattle.arena.specs.Copies.{term_room}
use Rattle.arena.specs.Form.{in_form}
use Rattle.bindings.specs.Stored.{Form}
use Rattle.names.specs.Symbols.{Rows, Symbol}
use Rattle.resolution.specs.Search.{words}
use Rattle.resolution.specs.Session as theory
use Rattle.resolution.specs.Session.{variable_limit, word_limit, variable_at, goal_of}
use Rattle.rules.specs.PatternLaws.{arities_of}
use Rattle.sessions.specs.Storage.{SessionStore, session_of, SessionListed}
use Rattle.sessions.specs.Leaving.{NamesKept, SessionMade}
use Rattle.sessions.specs.StoreLaws.{names_length}
use Rattle.sessions.specs.declared.SessionCounts.{SessionCounts}
use Rattle.goals.specs.Compiling.{GoalLaid}
use Rattle.goals.specs.Storing.{StoreAsked, GoalStored}
use Rattle.goals.specs.StoringLaws.{stored_denotes, stored_form, stored_in_form, stored_reference}
use Rattle.goals.specs.GoalLaws.{GoalGood, goal_new, goal_lies, goal_words, goal_asked, new_rows}
use Rattle.goals.specs.declared.Goal.{Goal}

-- A goal that compiled in a session in form.
module _ {text : List ℕ} {symbols : List Symbol} {sorts : ℕ} {b : SessionStore} {n : SessionCounts}
    (listed : SessionListed text (arities_of symbols) sorts b n) {new : List theory.Name} {p : Term}
    (good : GoalGood symbols (session_of text b n).names new p) {rows : Rows} {at q : ℕ} {w : List ℕ} {g : Goal} {vx : Rows} {wx : List ℕ}
    (made : GoalLaid text rows at q n.names w new p g vx wx) (order : n.names ≤ g.variables) (lent : g.variables ≤ length vx)
    (long : 2048 ≤ length w) where
  number : length (session_of text b n).names ≡ n.names
  number = names_length listed

  pub new_count : n.names + length new ≡ g.variables
  new_count = let a = goal_new good made number order lent long in omega arith

  -- Its words are those that 37 counts.
  pub goal_size : g.words ≡ words (goal_of (session_of text b n) p)
  goal_size = goal_words good made number order lent long (variable_at (session_of text b n).names n.variables)

  -- It can be stored, where names, variables and words are enough.
  pub session_asked : 64 ≤ length b.names → n.variables + length new ≤ variable_limit → n.words + g.words ≤ length b.words
      → StoreAsked vx wx g b.names b.words n
  session_asked names few space =
      let a = new_count in
      let c = good.few in
      let d = number in
      goal_asked good made number order lent long b.names b.words n (omega arith) (omega arith) few
      (λ i l. (listed.named i l).variable) space listed.few_words

  -- Stored
  module _ (term : TermAt text rows at q) (asked : StoreAsked vx wx g b.names b.words n) {r : ℕ} {names' : Rows} {words' : List ℕ}
      (stored : GoalStored vx wx g b.names b.words n r names' words') where
    -- The session's part with the goal in it, and its counts.
    abbrev pub part_with : SessionStore
    part_with = record { names = names'; words = words'; bindings = b.bindings }

    abbrev pub counts_with : SessionCounts
    counts_with = record { names = g.variables; variables = n.variables + length new; bound = n.bound; words = n.words + g.words }

    total : n.variables + (g.variables - n.names) ≡ n.variables + length new
    total = let a = new_count in omega arith

    -- The reference denotes the goal over the session's variables,
    pub session_denotes : denote term_room (cells words') r ≡ goal_of (session_of text b n) p
    session_denotes = stored_denotes asked stored (goal_lies good made number order lent long) listed.form text

    pub session_reference : Reference term_room (cells words') (n.variables + length new) (n.words + g.words) r
    session_reference =
        subst (λ (k : ℕ). Reference term_room (cells words') k (n.words + g.words) r) total
        (stored_reference asked stored (goal_lies good made number order lent long) listed.form)

    -- the names are the session's and the new ones,
    pub session_names : (c : ℕ) → n.variables + length new ≤ c → NamesKept text b n names' c new
    session_names c later =
        let a = new_count in
        let e = stored.entered.long in
        let l = asked.lent in
        record {
          front = stored.entered.front;
          lent = omega arith;
          behind = new_rows good made number order lent long term stored.entered;
          later = later;
        }

    -- and the session is in form with them.
    pub session_made : n.variables + length new ≤ variable_limit → n.words + g.words ≤ word_limit
        → n.variables + length new ≤ length b.bindings → SessionMade text (arities_of symbols) b n part_with counts_with new
    session_made few small room =
        let lies = goal_lies good made number order lent long in
        let t = total in
        record {
          names = session_names (n.variables + length new) (omega arith);
          number = sym new_count;
          few_variables = few;
          few_words = small;
          words = subst (λ (k : ℕ). in_form words' 0 (n.words + g.words) term_room k (arities_of symbols) ≡ true) t
              (stored_in_form asked stored lies listed.form listed.words);
          form = subst (λ (k : ℕ). Form term_room words' b.bindings k (n.words + g.words) n.bound) t
              (stored_form asked stored lies listed.form (omega arith));
        }
