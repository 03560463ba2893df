-- Laws of compiling a goal: the names copied row by row, and the ways out of `compile`.
use Rattle.std.specs.Prelude.{ℕ, ◌+◌, ◌≤◌, ◌<◌, ◌≡◌, length, set, drop, take}
use Rattle.std.proofs.Common.{add-one, arith, ◌∙◌, subst, take-suc}
use Rattle.std.proofs.Math.Path.{refl, sym, ap, ap₂}
use Rattle.std.proofs.Math.Bool.{true, false}
use mathlib.Core.List.{List, [], ◌∷◌, ◌++◌, map}
use Rattle.term_parser.specs.Source.{one}
use Rattle.names.specs.Names.{name_in}
use Rattle.names.specs.Symbols.{Rows, Symbol, Variable, column, columns, row_at, variable_of, variables_of}
use Rattle.names.specs.SearchLaws.{table_length, table_at, table_more}
use Rattle.names.specs.Standing.{Stands}
use Rattle.patterns.specs.Patterns.{Out, bad, good, pattern_of}
use Rattle.patterns.specs.Laying.{Laid, laid, after, lay}
use Rattle.patterns.specs.LaidLaws.{after_none, no_yes}
use Rattle.patterns.specs.Promises.{no, yes, stored, answer, Small, NextIs, Placed, LiesIn, MadePlaced, Compiled}
use Rattle.patterns.specs.declared.CompiledTerm.{CompiledTerm}
use Rattle.refusals.specs.Refusals.{number_of}
use Rattle.refusals.specs.declared.Refusal.{Refusal}
use Rattle.refusals.specs.declared.Refusal.TheVariants.{SortNotKnown}
use Rattle.rules.specs.Rules.{all_known}
use Rattle.sessions.specs.Storage.{named_in, names_in}
use Rattle.sessions.specs.Goals.{WrittenTerm, variable_for, name_for, closing, goal_compiled}
use Rattle.goals.specs.Compiling.{Agrees, GoalMade}
use Rattle.goals.specs.declared.Goal.{Goal}
use Rattle.std.specs.Prelude.{Result, Ok, Err}
use Rattle.std.proofs.lemmas.List.{length-map, get_or-map, ext_get_or, map-append}

-- Names as variables

module _ (text : List ℕ) (names : Rows) where
  as_variable : (row : List ℕ) → variable_of text (columns row 0 4) ≡ variable_for (named_in text row)
  unfolding columns variable_of named_in name_in
  as_variable row = refl

  -- The first n rows of a table that hold the first four columns of the names' rows.
  pub copied : (vs : Rows) → length names ≤ length vs → ((i : ℕ) → i < length names → row_at vs i ≡ columns (row_at names i) 0 4)
      → variables_of text vs (length names) ≡ map variable_for (names_in text names (length names))
  unfolding variables_of names_in
  copied vs l h =
      let v = table_length (variable_of text) vs (length names) l in
      let n = table_length (named_in text) names (length names) (omega arith) in
      let m = length-map (map (named_in text) (take (length names) names)) variable_for in
      ext_get_or (variable_of text []) _ _ (omega arith) (λ i b.
      let k : i < length names = omega arith in
      table_at (variable_of text) vs (length names) l i k ∙ ap (variable_of text) (h i k) ∙ as_variable (row_at names i)
      ∙ sym (get_or-map variable_for (map (named_in text) (take (length names) names)) i (named_in text []) (variable_of text []) (omega arith)
      ∙ ap variable_for (table_at (named_in text) names (length names) (omega arith) i k)))

-- The same row by row.
module _ (text : List ℕ) (names : Rows) (i : ℕ) (l : i < length names) where
  abbrev variable : Variable
  variable = variable_for (named_in text (row_at names i))

  abbrev row : List ℕ
  row = column (row_at names i) 0 ∷ column (row_at names i) 1 ∷ column (row_at names i) 2 ∷ column (row_at names i) 3 ∷ []

  -- One more name.
  names_more : map variable_for (names_in text names (i + 1)) ≡ map variable_for (names_in text names i) ++ (variable ∷ [])
  unfolding names_in
  names_more =
      ap (λ (j : ℕ). map variable_for (map (named_in text) (take j names))) (add-one i)
      ∙ ap (λ (x : Rows). map variable_for (map (named_in text) x)) (take-suc names i [] l)
      ∙ ap (map variable_for) (map-append (named_in text) (take i names) (row_at names i ∷ []))
      ∙ map-append variable_for (map (named_in text) (take i names)) (named_in text (row_at names i) ∷ [])

  -- A turn of the copy.
  pub copied_more : (vs : Rows) → i < length vs → variables_of text vs i ≡ map variable_for (names_in text names i)
      → variables_of text (set vs i row) (i + 1) ≡ map variable_for (names_in text names (i + 1))
  unfolding variables_of variable_of named_in name_in
  copied_more vs m e =
      table_more (variable_of text) vs i row m ∙ ap (λ (x : List Variable). x ++ (variable ∷ [])) e ∙ sym names_more

pub copied_none : (text : List ℕ) (names vs : Rows) → variables_of text vs 0 ≡ map variable_for (names_in text names 0)
unfolding variables_of names_in
copied_none text names vs = refl

-- The ways out

names_count : (text : List ℕ) (names : Rows) → length (names_in text names (length names)) ≡ length names
unfolding names_in
names_count text names = table_length (named_in text) names (length names) (omega arith)

yes_no : {A : Type 0} {e : ℕ} {l : Laid} {vs : List Variable} {m : ℕ} → yes l vs m ≡ no e → A
yes_no q = absurd (let z : ◌≡◌ {A = ℕ} 0 1 = cc in omega arith)

module _ {text : List ℕ} {rows : Rows} {at : ℕ} {symbols : List Symbol} (names : Rows) {vs : Rows} {w : List ℕ} {r : Result CompiledTerm Refusal} {vx : Rows}
    {wx : List ℕ} (copied : variables_of text vs (length names) ≡ map variable_for (names_in text names (length names)))
    (c : Compiled text rows at symbols 0 vs (length names) w 0 1024 r vx wx) where
  abbrev n : ℕ
  n = length names

  -- What the definition makes of a goal.
  abbrev made : WrittenTerm → Out one
  made t = pattern_of symbols t (0 ∷ []) (map variable_for (names_in text names n)) 1024

  outs : (t : WrittenTerm) (q : ℕ) → Stands text rows at t q → answer text r vx wx ≡ stored [] (made t) w 0
  outs t q s = (c.same t q s).1 ∙ ap (λ (us : List Variable). stored [] (pattern_of symbols t (0 ∷ []) us 1024) w 0) copied

  -- The pattern is refused.
  pub goal_failed : (e : Refusal) → r ≡ Err e → GoalMade text rows at symbols names w (Err e) vx wx
  unfolding goal_compiled
  goal_failed e f = record { same = λ t q s. go q (made t) (sym (ap (λ (x : Result CompiledTerm Refusal). answer text x vx wx) f) ∙ outs t q s) }
    where
      go : (q : ℕ) (o : Out one) → no (number_of e) ≡ stored [] o w 0
          → Agrees text rows at q n w (closing (length (names_in text names n)) o) (Err e) vx wx
      go q (bad e') x = let d : number_of e ≡ e' = cc in d
      go q (good p us left) x = no_yes x

  module _ {p : CompiledTerm} (f : r ≡ Ok p) where
    abbrev x : ℕ
    x = p.node

    abbrev next : ℕ
    next = p.place.next

    abbrev v : ℕ
    v = p.place.variables

    abbrev u : ℕ
    u = p.place.used

    abbrev m : ℕ
    m = p.place.room

    there : (t : WrittenTerm) (q : ℕ) → Stands text rows at t q
        → yes (laid (x ∷ []) wx u) (variables_of text vx v) m ≡ stored [] (made t) w 0
    there t q s = sym (ap (λ (y : Result CompiledTerm Refusal). answer text y vx wx) f) ∙ outs t q s

    pub goal_bounds : (n ≤ v) × (v ≤ 64) × (u ≤ 2048)
    goal_bounds =
        let s : Small (at + 1) n 0 1024 (Ok p) = subst (Small (at + 1) n 0 1024) f c.small in
        let d = s.4 in
        (s.1, s.2, omega arith)

    -- The names of new variables lie where the goal has them.
    lying : (t : WrittenTerm) (q : ℕ) → Stands text rows at t q → (i : ℕ) → n ≤ i → i < v → LiesIn rows at q (row_at vx i)
    lying t q s i a b =
        let e : next ≡ q = subst (NextIs q) f (c.same t q s).0 in
        let h : Placed (LiesIn rows at next) vs n vx v = subst (λ (y : Result CompiledTerm Refusal). MadePlaced (LiesIn rows at) vs n y vx) f c.placed in
        subst (λ (k : ℕ). LiesIn rows at k (row_at vx i)) e (h.new i a b)

    -- A sort is not known.
    pub goal_unknown : all_known (variables_of text vx v) ≡ false → GoalMade text rows at symbols names w (Err SortNotKnown) vx wx
    unfolding goal_compiled
    goal_unknown k = record { same = λ t q s. go q (made t) (there t q s) }
      where
        go : (q : ℕ) (o : Out one) → yes (laid (x ∷ []) wx u) (variables_of text vx v) m ≡ stored [] o w 0
            → Agrees text rows at q n w (closing (length (names_in text names n)) o) (Err SortNotKnown) vx wx
        go q (bad e') y = yes_no y
        go q (good g us left) y =
            let d : variables_of text vx v ≡ us = cc in
            let k' : all_known us ≡ false = ap all_known (sym d) ∙ k in
            rw k' refl

    -- The goal compiles.
    abbrev goal : Goal
    goal = record { node = x; variables = v; words = u }

    pub goal_done : all_known (variables_of text vx v) ≡ true → GoalMade text rows at symbols names w (Ok goal) vx wx
    unfolding goal_compiled
    goal_done k = record { same = λ t q s. go q (made t) (lying t q s) (there t q s) }
      where
        go : (q : ℕ) (o : Out one) → ((i : ℕ) → n ≤ i → i < v → LiesIn rows at q (row_at vx i))
            → yes (laid (x ∷ []) wx u) (variables_of text vx v) m ≡ stored [] o w 0
            → Agrees text rows at q n w (closing (length (names_in text names n)) o) (Ok goal) vx wx
        go q (bad e') h y = yes_no y
        go q (good g us left) h y =
            let d : variables_of text vx v ≡ us = cc in
            let k' : all_known us ≡ true = ap all_known (sym d) ∙ k in
            let l : laid (x ∷ []) wx u ≡ after [] (lay g w 0) = cc in
            rw k' (record {
              names = ap₂ (λ (i : ℕ) (l : List Variable). map name_for (drop i l)) (sym (names_count text names)) d;
              places = h;
              lies = sym (l ∙ after_none (lay g w 0));
            })
