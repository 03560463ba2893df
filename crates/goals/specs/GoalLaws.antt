-- What a caller cites: the rows of a goal stand for it, so that `compile` answers for it; a goal that compiled can be stored; and the rows
-- that `store` writes are those of the new names.
use Rattle.std.specs.Prelude.{ℕ, zero, suc, ◌+◌, ◌-◌, ◌≤◌, ◌<◌, ◌⊎◌, length, drop, take}
use Rattle.std.proofs.Common.{arith, ap₂, ◌∙◌, length-drop, get_or-drop}
use Rattle.std.proofs.Math.Path.{◌≡◌, refl, sym, ap, subst}
use Rattle.std.proofs.Math.Logic.{inl, inr}
use mathlib.Core.List.{List, [], ◌∷◌, ◌++◌, map}
use Rattle.std.proofs.Math.ListN.{get_or, get_or-map, get_or-append}
use Rattle.std.proofs.lemmas.List.{length-map}
use Rattle.words.specs.Names.{name_kind, metavariable_kind, numeral_kind}
use Rattle.term_parser.specs.Source as source
use Rattle.term_parser.specs.Source.{place, Arity, Source, numeral, metavariable, name, application, none, more}
use Rattle.term_parser.specs.Rows.{rows_of, application_kind}
use Rattle.term_check.specs.TermRows.{Worded, TermAt}
use Rattle.term_check.specs.TermLaws.{term_stands}
use Rattle.terms.specs.Numbers.{by_bool}
use Rattle.terms.specs.Term.{Kind, Syn, Term, Terms, var, app, nil, cons, sub, count, Below}
use Rattle.terms.specs.TermLaws.{below_le}
use Rattle.arena.specs.Copies.{term_room}
use Rattle.names.specs.Names.{name_in}
use Rattle.names.specs.NamePlaces.{NamePlace}
use Rattle.names.specs.Symbols.{Rows, Symbol, Variable, column, row_at, variable_of, variables_of}
use Rattle.names.specs.SearchLaws.{table_length, table_at, get_d_any}
use Rattle.names.specs.Standing.{Stands, parsed_stands}
use Rattle.resolution.specs.Search.{words}
use Rattle.resolution.specs.Session as theory
use Rattle.resolution.specs.Session.{Named, refuses, compiles}
use Rattle.patterns.specs.Patterns.{no_variable, Out, bad, good, pattern_of}
use Rattle.patterns.specs.Promises.{place_of, LiesIn}
use Rattle.rules.specs.Rules.{all_known}
use Rattle.rules.specs.PatternLaws.{arities_of, FewInputs, Made, Fine, pattern_made, made_grown, made_below, made_fits, made_words}
use Rattle.rules.specs.LayingLaws.{Fits, lay_laid}
use Rattle.sessions.specs.Storage.{named_in, names_in}
use Rattle.sessions.specs.Goals.{WrittenTerm, goal_in, variable_for, name_for, closing, goal_compiled}
use Rattle.sessions.specs.Leaving.{no_new, NewRows}
use Rattle.sessions.specs.declared.SessionCounts.{SessionCounts}
use Rattle.goals.specs.Compiling.{GoalLaid, Agrees, GoalMade}
use Rattle.goals.specs.Storing.{name_row, NamesEntered, GoalLying, StoreAsked}
use Rattle.goals.specs.declared.Goal.{Goal}
use Rattle.std.specs.Prelude.{Result}
use Rattle.refusals.specs.declared.Refusal.{Refusal}

-- The goal's rows

-- They stand for it,
pub goal_stands : {text : List ℕ} {rows : Rows} {at q : ℕ} (g : TermAt text rows at q) → Stands text rows at (goal_in g) q
goal_stands {text} {rows} {at} {q} g = parsed_stands text rows at (goal_in g) q (term_stands g)

-- so that `compile` answers as the definition does.
pub goal_agrees : {text : List ℕ} {rows : Rows} {at q : ℕ} {symbols : List Symbol} {names : Rows} {w : List ℕ} {r : Result Goal Refusal} {vx : Rows}
    {wx : List ℕ} → GoalMade text rows at symbols names w r vx wx → (g : TermAt text rows at q)
    → Agrees text rows at q (length names) w (goal_compiled symbols (goal_in g) (names_in text names (length names))) r vx wx
goal_agrees {q = q} h g = h.same (goal_in g) q (goal_stands g)

-- The names of a session's used part are its names.
pub names_part : (text : List ℕ) (names : Rows) (n : ℕ) → names_in text (take n names) (length (take n names)) ≡ names_in text names n
unfolding names_in
names_part text names n = ap (map (named_in text)) (take_whole (take n names) (length (take n names)) refl)
  where
    take_whole : (l : Rows) (k : ℕ) → length l ≡ k → take k l ≡ l
    take_whole [] zero e = refl
    take_whole [] (suc k) e = absurd (omega arith)
    take_whole (x ∷ l) zero e = absurd (omega arith)
    take_whole (x ∷ l) (suc k) e = ap (λ (r : Rows). x ∷ r) (take_whole l k (omega arith))

-- Each row is that of a word in the text, of one of four kinds.
pub record RowPlaced (text row : List ℕ) : Type 0 where
  pub place : NamePlace text (column row 1) (column row 2)
  pub kind : (column row 0 ≡ numeral_kind → ⊥) → (column row 0 ≡ application_kind → ⊥)
      → (column row 0 ≡ name_kind) ⊎ (column row 0 ≡ metavariable_kind)

module _ (text : List ℕ) where
  abbrev EachPlaced : Rows → Type 0
  EachPlaced rows = (i : ℕ) → i < length rows → RowPlaced text (get_or rows i [])

  first_placed : (row : List ℕ) (rows : Rows) → RowPlaced text row → EachPlaced rows → EachPlaced (row ∷ rows)
  first_placed row rows h f zero l = h
  first_placed row rows h f (suc i) l = f i (omega arith)

  both_placed : (a b : Rows) → EachPlaced a → EachPlaced b → EachPlaced (a ++ b)
  both_placed [] b f g i l = g i l
  both_placed (row ∷ a) b f g zero l = f 0 (omega arith)
  both_placed (row ∷ a) b f g (suc i) l = both_placed a b (λ j m. f (suc j) (omega arith)) g i (omega arith)

  rows_placed : {n : Arity} (t : Source n) → Worded text t → EachPlaced (rows_of t)
  unfolding rows_of
  rows_placed (numeral (place s n) v) h =
      first_placed _ [] (record { place = h.0; kind = λ a b. absurd (a refl) }) (λ i l. absurd (omega arith))
  rows_placed (metavariable (place s n)) h =
      first_placed _ [] (record { place = h; kind = λ a b. inr refl }) (λ i l. absurd (omega arith))
  rows_placed (name (place s n)) h =
      first_placed _ [] (record { place = h; kind = λ a b. inl refl }) (λ i l. absurd (omega arith))
  rows_placed (application (place s n) ts) h =
      first_placed _ (rows_of ts) (record { place = h.0; kind = λ a b. absurd (b refl) }) (rows_placed ts h.2)
  rows_placed none h = λ i l. absurd (omega arith)
  rows_placed (more t ts) h = both_placed (rows_of t) (rows_of ts) (rows_placed t h.0) (rows_placed ts h.1)

-- The row of a name or a metavariable whose place is in the text.
pub record NamePlaced (text row : List ℕ) : Type 0 where
  pub kind : (column row 0 ≡ name_kind) ⊎ (column row 0 ≡ metavariable_kind)
  pub place : NamePlace text (column row 1) (column row 2)

-- A row that lies in the goal's rows is such a row.
module _ {text : List ℕ} {rows : Rows} {at q : ℕ} (g : TermAt text rows at q) where
  row_placed : (i : ℕ) → at ≤ i → i < q → RowPlaced text (row_at rows i)
  row_placed i l m =
      let t : Rows = rows_of g.term in
      let e = g.lies.ends in
      let a : at + (i - at) ≡ i = omega arith in
      let b : i - at < length t = omega arith in
      let c : get_or t (i - at) [] ≡ row_at rows i =
      sym (get_or-append t (drop q rows) [] (i - at) b) ∙ ap (λ (r : Rows). get_or r (i - at) []) (sym g.lies.are)
      ∙ get_or-drop at rows (i - at) [] ∙ ap (row_at rows) a in
      subst (RowPlaced text) c (rows_placed text g.term g.worded (i - at) b)

  pub name_placed : (row : List ℕ) → LiesIn rows at q row → NamePlaced text row
  name_placed row h =
      let x = row_placed h.at h.from h.before in
      let there : List ℕ = row_at rows h.at in
      let e : place_of row ≡ place_of there = h.same in
      let kind : column row 0 ≡ column there 0 = cc in
      let start : column row 1 ≡ column there 1 = cc in
      let size : column row 2 ≡ column there 2 = cc in
      record {
        kind = subst (λ (k : ℕ). (k ≡ name_kind) ⊎ (k ≡ metavariable_kind)) (sym kind) (x.kind h.no_numeral h.no_application);
        place = subst (λ (k : ℕ). NamePlace text k (column row 2)) (sym start)
            (subst (λ (k : ℕ). NamePlace text (column there 1) k) (sym size) x.place);
      }

-- A goal that compiled

-- What is known of it.
pub record GoalGood (symbols : List Symbol) (ns : List Named) (new : List theory.Name) (p : Term) : Type 0 where
  pub few : length ns + length new ≤ 64
  pub below : Below (length ns + length new) p
  pub fits : Fits (arities_of symbols) p
  pub small : words p ≤ 2048

module _ (symbols : List Symbol) (inputs : FewInputs symbols) (ns : List Named) (few : length ns ≤ 64) where
  abbrev vs : List Variable
  vs = map variable_for ns

  good_goal : (q : Term) (vs' : List Variable) (left : ℕ) → Made symbols Kind.one (0 ∷ []) vs 1024 q vs' left
      → GoalGood symbols ns (map name_for (drop (length ns) vs')) q
  good_goal q vs' left m =
      let grown = made_grown m in
      let a = grown.longer in
      let b : length vs ≡ length ns = length-map ns variable_for in
      let within : length vs' ≤ 64 = grown.few (omega arith) in
      let c : length (map name_for (drop (length ns) vs')) ≡ length (drop (length ns) vs') = length-map (drop (length ns) vs') name_for in
      let d : length (drop (length ns) vs') ≡ length vs' - length ns = length-drop (length ns) vs' in
      let f : length vs' ≡ length ns + length (map name_for (drop (length ns) vs')) = omega arith in
      let s = made_words m in
      record { few = omega arith; below = subst (λ (k : ℕ). Below k q) f (made_below m); fits = made_fits inputs m; small = omega arith }

  pub goal_good : (t : WrittenTerm) (new : List theory.Name) (p : Term) → goal_compiled symbols t ns ≡ compiles new p
      → GoalGood symbols ns new p
  unfolding goal_compiled
  goal_good t new p = go (pattern_of symbols t (0 ∷ []) vs 1024) (pattern_made symbols t (0 ∷ []) vs 1024)
    where
      go : (o : Out source.one) → Fine (λ q vs' room'. Made symbols Kind.one (0 ∷ []) vs 1024 q vs' room') o
          → closing (length ns) o ≡ compiles new p → GoalGood symbols ns new p
      go (bad e) m q = absurd (let z : ◌≡◌ {A = ℕ} 0 1 = cc in omega arith)
      go (good q' vs' left) m q = by_bool (all_known vs')
          (λ k. let q'' : compiles (map name_for (drop (length ns) vs')) q' ≡ compiles new p = rw k at q in
          let e : map name_for (drop (length ns) vs') ≡ new = cc in
          let e' : q' ≡ p = cc in
          subst (λ (x : Term). GoalGood symbols ns new x) e'
          (subst (λ (x : List theory.Name). GoalGood symbols ns x q') e (good_goal q' vs' left m)))
          (λ k. absurd (let q'' : refuses 25 ≡ compiles new p = rw k at q in let z : ◌≡◌ {A = ℕ} 0 1 = cc in omega arith))

-- Renamed, it takes as many words: a variable takes none.
count_renamed : (f : ℕ → ℕ) (ts : Terms) → count (sub (λ i. var (f i)) ts) ≡ count ts
count_renamed f nil = refl
count_renamed f (cons t ts) = ap suc (count_renamed f ts)

words_renamed : {s : Kind} (f : ℕ → ℕ) (t : Syn s) → words (sub (λ i. var (f i)) t) ≡ words t
words_renamed f (var x) = refl
words_renamed f (app h ts) = ap₂ (λ (m n : ℕ). suc (m + n)) (count_renamed f ts) (words_renamed f ts)
words_renamed f nil = refl
words_renamed f (cons t ts) = ap₂ ◌+◌ (words_renamed f t) (words_renamed f ts)

module _ {symbols : List Symbol} {ns : List Named} {new : List theory.Name} {p : Term} (good : GoalGood symbols ns new p)
    {text : List ℕ} {rows : Rows} {at q n : ℕ} {w : List ℕ} {g : Goal} {vx : Rows} {wx : List ℕ}
    (made : GoalLaid text rows at q n w new p g vx wx) (number : length ns ≡ n) (order : n ≤ g.variables)
    (lent : g.variables ≤ length vx) (long : 2048 ≤ length w) where
  abbrev variables : List Variable
  variables = variables_of text vx g.variables

  many : length variables ≡ g.variables
  unfolding variables_of
  many = table_length (variable_of text) vx g.variables lent

  -- Its variables are the session's names and the new ones,
  pub goal_new : length new ≡ g.variables - n
  goal_new = ap length (sym made.names) ∙ length-map (drop n variables) name_for ∙ length-drop n variables ∙ ap (λ (k : ℕ). k - n) many

  -- its words lie in the buffer,
  pub goal_lies : GoalLying (arities_of symbols) p wx g
  goal_lies =
      let a = good.few in
      let b = good.small in
      let c = goal_new in
      let all : length ns + length new ≡ g.variables = omega arith in
      record {
        lies = (lay_laid (arities_of symbols) p w 0 (g.node ∷ []) wx g.words
            (record {
              formed = record { fits = λ a l. absurd (omega arith); arguments = λ a i l. absurd (omega arith) };
              room = omega arith;
              small = omega arith;
              below = below_le a p good.below;
              fits = good.fits;
            })
            made.lies).lying;
        below = subst (λ (k : ℕ). Below k p) all good.below;
      }

  -- and are as many as document 01 counts for it over a session's variables.
  pub goal_words : (f : ℕ → ℕ) → g.words ≡ words (sub (λ i. var (f i)) p)
  goal_words f = let a = goal_lies.lies.used in let b = words_renamed f p in omega arith

  -- It can be stored, where its variables and words are within the limits.
  pub goal_asked : (names : Rows) (stored : List ℕ) (c : SessionCounts) → c.names ≡ n → g.variables ≤ length names
      → c.variables + length new ≤ term_room → ((i : ℕ) → i < c.names → column (row_at names i) 4 < c.variables)
      → c.words + g.words ≤ length stored → c.words ≤ theory.word_limit → StoreAsked vx wx g names stored c
  goal_asked names stored c same room few old space small =
      let a = good.few in
      let b = goal_new in
      let d = good.small in
      let e = goal_lies.lies.used in
      record {
        order = omega arith;
        few = omega arith;
        variables = lent;
        lent = room;
        room = omega arith;
        old = old;
        goal = (arities_of symbols, p, goal_lies);
        space = space;
        small = omega arith;
      }

  -- The rows of its new names

  module _ (term : TermAt text rows at q) {c : ℕ} {names names' : Rows} (h : NamesEntered vx n g.variables c names names') where
    -- Each new name is that of its row.
    new_at : (i : ℕ) → i < length new → get_or new i no_new ≡ name_for (variable_of text (row_at vx (n + i)))
    unfolding variables_of
    new_at i l =
        let m = goal_new in
        let a = many in
        ap (λ (x : List theory.Name). get_or x i no_new) (sym made.names)
        ∙ get_or-map name_for (drop n variables) i no_variable
        ∙ ap name_for (get_or-drop n variables i no_variable ∙ get_d_any variables (n + i) no_variable (variable_of text []) (omega arith)
        ∙ table_at (variable_of text) vx g.variables lent (n + i) (omega arith))

    row_at_lem : (i : ℕ) → i < length new → row_at names' (n + i) ≡ name_row (row_at vx (n + i)) (c + i)
    row_at_lem i l =
        let m = goal_new in
        let e : n + i - n ≡ i = omega arith in
        h.new (n + i) (omega arith) (omega arith) ∙ ap (λ (k : ℕ). name_row (row_at vx (n + i)) (c + k)) e

    placed_at : (i : ℕ) → i < length new → NamePlaced text (row_at names' (n + i))
    placed_at i l =
        let m = goal_new in
        let x = name_placed term (row_at vx (n + i)) (made.places (n + i) (omega arith) (omega arith)) in
        subst (NamePlaced text) (sym (row_at_lem i l)) (record { kind = x.kind; place = x.place })

    -- The rows behind the session's are those of the new names, each at a word's place in the text.
    pub new_rows : NewRows text names' n c new
    unfolding variable_of name_in
    new_rows = record {
      kind = λ i l. (placed_at i l).kind;
      place = λ i l. (placed_at i l).place;
      named = λ i l. ap (name_in text) (row_at_lem i l) ∙ sym (ap (λ (x : theory.Name). x.text) (new_at i l));
      sorted = λ i l. ap (λ (r : List ℕ). column r 3) (row_at_lem i l) ∙ sym (ap (λ (x : theory.Name). x.sort) (new_at i l));
      numbered = λ i l. ap (λ (r : List ℕ). column r 4) (row_at_lem i l);
    }
