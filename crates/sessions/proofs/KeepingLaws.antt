-- What code needs to leave a session in form: words and rows past the counts are of no concern; new names may be entered behind the others;
-- the definitions' answer stays within the limits; and a refused goal's session, with zero past it, is what the contract asks.
use Prim.Native.Nat.{ℕ, zero, suc, ◌+◌, ◌-◌, ◌≤◌, ◌<◌}
use native.Mathlib.Omega.{arith}
use Rattle.std.proofs.Common.{le_refl, ap₂, ◌∙◌, subst, inl, inr, get_or-take}
use Rattle.std.specs.Prelude.{◌≡◌, refl, Bool, true, false, ◌⊎◌, take}
use Rattle.std.proofs.Math.Path.{sym, ap}
use mathlib.Core.List.{List, [], ◌∷◌, ◌++◌, map, append_assoc, append-nil}
use Rattle.std.proofs.Math.ListN.{length, get_or, length-append, length-map, get_or-append, get_or-map}
use Rattle.std.proofs.Math.Seq.{get_or-append-add, ext_get_or}
use Rattle.terms.specs.Numbers.{less, by_bool, by_less, true_false, or_false}
use Rattle.terms.specs.Term.{Term}
use Rattle.arena.specs.Cells.{cells}
use Rattle.arena.specs.NodeLaws.{formed_same, formed_up}
use Rattle.arena.specs.FormKept.{form_same}
use Rattle.bindings.specs.Stored.{held, Form}
use Rattle.bindings.specs.Holding.{form_holds, trail_in}
use Rattle.bindings.specs.Growth.{held_grows, form_grows}
use Rattle.resolution.specs.Rules.{Rule}
use Rattle.resolution.specs.Search.{words, over, Verdict, refusal, proved, nothing, undecided}
use Rattle.resolution.specs.Session.{Named, Session, Compiled, refuses, compiles, Query, variable_limit, word_limit, at_most, limits_of}
use Rattle.resolution.specs.Session.{too_much, goal_of, enter, searched, verdict_of, answered, tested, ask}
use Rattle.resolution.specs.Session as theory
use Rattle.resolution.specs.Naming.{no_name}
use Rattle.resolution.specs.Sizes.{VerdictWithin}
use Rattle.resolution.proofs.SizeLaws.{prove_within}
use Rattle.names.specs.Names.{Name, Distinct, name_in}
use Rattle.names.specs.Symbols.{Rows, Symbol, Variable, column, columns, row_at, symbol_of, symbols_of, symbol_at, no_symbol}
use Rattle.names.specs.SearchLaws.{table_length, table_at, get_d_any, columns_length, columns_at}
use Rattle.patterns.specs.Patterns.{no_variable}
use Rattle.rules.specs.PatternLaws.{InputsUpto}
use Rattle.arena.specs.Copies.{term_room}
use Rattle.signature.specs.Storage.{SignatureStore, symbols_in, SignatureListed}
use Rattle.sessions.specs.Storage.{SessionStore, named_in, names_in, session_of, NameFormed, SessionListed, SessionIn}
use Rattle.sessions.specs.Goals.{WrittenTerm, variable_for, goal_compiled}
use Rattle.sessions.specs.Promises.{bound_in}
use Rattle.sessions.specs.Leaving.{texts_of, new_texts, no_new, NamesFit, numbered_from, NamesKept, SessionMade, PartUnproved}
use Rattle.sessions.specs.Leaving.{grown_counts}
use Rattle.sessions.proofs.GoalNameLaws.{goal_names}
use Rattle.sessions.specs.StoreLaws.{names_length, names_at_lem}
use Rattle.sessions.specs.declared.SessionCounts.{SessionCounts}

-- SessionCounts
-- Storage holds as many bindings as the count says.
pub bound_count : (w : List ℕ) (rows : Rows) (k : ℕ) → bound_in (held term_room w rows k) ≡ k
unfolding bound_in
bound_count w rows zero = refl
bound_count w rows (suc k) = ap suc (bound_count w rows k)

-- The definitions' answer stays within the limits that the search goes by: variables, words, and a row for each step.
pub ask_within : (rules : List Rule) (S : Session) (q : Query)
    → VerdictWithin (at_most variable_limit q.limits.variables) (at_most word_limit q.limits.words) S.words (ask rules S q).verdict
ask_within rules S q = go (too_much q.steps q.depth q.limits)
  where
    most : ℕ
    most = at_most variable_limit q.limits.variables

    limit : ℕ
    limit = at_most word_limit q.limits.words

    not_over : (c m : ℕ) → over (limits_of q.limits) c m ≡ false → (c ≤ most) × (m ≤ limit)
    not_over c m e =
        let h = or_false (less most c) (less limit m) e in
        (by_less most c (λ l q. true_false q h.0) (λ l q. l), by_less limit m (λ l q. true_false q h.1) (λ l q. l))

    lower : (m m' : ℕ) (v : Verdict) → m ≤ m' → VerdictWithin most limit m' v → VerdictWithin most limit m v
    lower m m' (refusal e) l h = tt
    lower m m' (proved β st u c w) l h = let x = h.2 in (h.0, h.1, omega arith, h.3)
    lower m m' (nothing u c) l h = h
    lower m m' (undecided u c) l h = h

    found : (n : ℕ) (g : Term) → VerdictWithin most limit S.words (verdict_of rules S q.steps q.depth q.limits n g)
    found n g = by_bool (over (limits_of q.limits) (S.variables + n) (S.words + words g))
        (λ e. rw e tt)
        (λ e. rw e (let h = not_over (S.variables + n) (S.words + words g) e in
        lower S.words (S.words + words g) (searched rules S q.steps q.depth q.limits n g false) (omega arith)
        (prove_within most limit rules q.steps q.depth (S.words + words g) S.bindings g (S.variables + n) h.0 h.1)))

    compiled : (k : Compiled) → VerdictWithin most limit S.words (answered rules S q.steps q.depth q.limits k).verdict
    compiled (refuses e) = tt
    compiled (compiles new p) = found (length new) (goal_of S p)

    go : (t : Bool) → VerdictWithin most limit S.words (tested rules S q t).verdict
    go true = tt
    go false = compiled (q.compile S.names)

-- A goal's names
-- The names of a session in form are distinct.
pub listed_distinct : {text arities : List ℕ} {sorts : ℕ} {b : SessionStore} {n : SessionCounts} → SessionListed text arities sorts b n
    → Distinct (texts_of (session_of text b n).names)
unfolding named_in
listed_distinct {text} {b = b} {n = n} h i j l m e =
    let q = names_length h in
    let a = length-map (session_of text b n).names (λ (x : Named). x.name.text) in
    let at : (i : ℕ) → i < n.names → get_or (texts_of (session_of text b n).names) i [] ≡ name_in text (row_at b.names i) =
    λ i l. get_or-map (λ (x : Named). x.name.text) (session_of text b n).names i no_name
    ∙ ap (λ (x : Named). x.name.text) (names_at_lem h i l) in
    h.distinct i j l (omega arith) (sym (at i (omega arith)) ∙ e ∙ at j (omega arith))

-- The inputs of stored symbols are sorts that there are.
listed_inputs : (text : List ℕ) (sg : SignatureStore) → SignatureListed text sg → InputsUpto sg.counts.sorts (symbols_in text sg)
unfolding symbols_of symbol_of
listed_inputs text sg h i l j m =
    let a = h.symbols_lent in
    let b = h.few_symbols in
    let few : sg.counts.symbols ≤ length sg.symbols = omega arith in
    let q : length (symbols_in text sg) ≡ sg.counts.symbols = table_length (symbol_of text) sg.symbols sg.counts.symbols few in
    let row : List ℕ = row_at sg.symbols i in
    let is : symbol_at (symbols_in text sg) i ≡ symbol_of text row =
    get_d_any (symbols_in text sg) i no_symbol (symbol_of text []) l
    ∙ table_at (symbol_of text) sg.symbols sg.counts.symbols few i (omega arith) in
    let inputs : (symbol_at (symbols_in text sg) i).inputs ≡ columns row 8 (column row 6) = ap (λ (f : Symbol). f.inputs) is in
    let c = columns_length row 8 (column row 6) in
    let d = ap length inputs in
    let e : get_or (symbol_at (symbols_in text sg) i).inputs j 0 ≡ column row (8 + j) = ap (λ (x : List ℕ). get_or x j 0) inputs
    ∙ columns_at row 8 (column row 6) j (omega arith) in
    let f = (h.symbols_formed i (omega arith)).inputs j (omega arith) in
    let f₁ = f.1 in
    omega arith

-- A goal that compiles in a stored session leaves its names as the form asks.
pub stored_names : (text : List ℕ) (sg : SignatureStore) (b : SessionStore) (n : SessionCounts) → SignatureListed text sg
    → SessionIn text sg b n → (t : WrittenTerm) (new : List theory.Name) (p : Term)
    → goal_compiled (symbols_in text sg) t (session_of text b n).names ≡ compiles new p
    → NamesFit sg.counts.sorts (session_of text b n).names new
unfolding named_in
stored_names text sg b n signature h t new p e =
    let q = names_length h in
    let few = h.few_names in
    goal_names (symbols_in text sg) sg.counts.sorts (listed_inputs text sg signature) t (session_of text b n).names (omega arith)
    (listed_distinct h)
    (λ i l. let s = (h.named i (omega arith)).sort in
    let at : (get_or (map variable_for (session_of text b n).names) i no_variable).sort ≡ column (row_at b.names i) 3 =
    ap (λ (v : Variable). v.sort) (get_or-map variable_for (session_of text b n).names i no_name)
    ∙ ap (λ (x : Named). x.name.sort) (names_at_lem h i (omega arith)) in
    omega arith)
    new p e

-- Rows and words past the counts
front_at : {A : Type 0} (u : ℕ) (l l' : List A) (d : A) → take u l' ≡ take u l → (i : ℕ) → i < u → get_or l' i d ≡ get_or l i d
front_at {A} u l l' d e i m = sym (get_or-take u l' i d m) ∙ ap (λ (x : List A). get_or x i d) e ∙ get_or-take u l i d m

-- New names
pub enter_behind : (ns : List Named) (c : ℕ) (new : List theory.Name) → enter ns c new ≡ ns ++ numbered_from c new
unfolding numbered_from
enter_behind ns c [] = sym (append-nil ns)
enter_behind ns c (n ∷ new) = enter_behind (ns ++ (record { name = n; variable = c } ∷ [])) (suc c) new
    ∙ append_assoc ns (record { name = n; variable = c } ∷ []) (numbered_from (suc c) new)

numbered_length : (c : ℕ) (new : List theory.Name) → length (numbered_from c new) ≡ length new
unfolding numbered_from
numbered_length c [] = refl
numbered_length c (n ∷ new) = ap suc (numbered_length (suc c) new)

numbered_at : (c : ℕ) (new : List theory.Name) (i : ℕ) → i < length new
    → get_or (numbered_from c new) i no_name ≡ record { name = get_or new i no_new; variable = c + i }
unfolding numbered_from
numbered_at c [] i l = absurd (omega arith)
numbered_at c (n ∷ new) zero l = let e : c ≡ c + 0 = omega arith in ap (λ (v : ℕ). record { name = n; variable = v }) e
numbered_at c (n ∷ new) (suc i) l = let e : suc c + i ≡ c + suc i = omega arith in numbered_at (suc c) new i (omega arith)
    ∙ ap (λ (v : ℕ). record { name = get_or new i no_new; variable = v }) e

named_parts : {n : theory.Name} {v v' s : ℕ} {w : Name} → n.text ≡ w → n.sort ≡ s → v ≡ v'
    → ◌≡◌ {A = Named} (record { name = n; variable = v }) (record { name = record { text = w; sort = s }; variable = v' })
named_parts {n} {v} {v'} {s} {w} a b c =
    ap₂ (λ (x : Name) (y : ℕ). record { name = record { text = x; sort = y }; variable = v }) a b
    ∙ ap (λ (y : ℕ). record { name = record { text = w; sort = s }; variable = y }) c

module _ {text arities : List ℕ} {sorts : ℕ} {b : SessionStore} {n : SessionCounts}
    (h : SessionListed text arities sorts b n) {rows : Rows} {c : ℕ} {new : List theory.Name}
    (k : NamesKept text b n rows c new) (good : NamesFit sorts (session_of text b n).names new) where
  old_row : (i : ℕ) → i < n.names → row_at rows i ≡ row_at b.names i
  old_row i l = front_at n.names b.names rows [] k.front i l

  -- the name of each row, among the session's names and the new ones
  text_at : (i : ℕ) → i < n.names + length new
      → name_in text (row_at rows i) ≡ get_or (texts_of (session_of text b n).names ++ new_texts new) i []
  unfolding named_in
  text_at i l =
      let m = names_length h in
      let a : length (texts_of (session_of text b n).names) ≡ n.names =
      length-map (session_of text b n).names (λ (x : Named). x.name.text) ∙ m in
      by_less i n.names
      (λ p q. ap (name_in text) (old_row i p) ∙ sym (get_or-append (texts_of (session_of text b n).names) (new_texts new) [] i (omega arith)
      ∙ get_or-map (λ (x : Named). x.name.text) (session_of text b n).names i no_name
      ∙ ap (λ (x : Named). x.name.text) (names_at_lem h i p)))
      (λ p q. let j : ℕ = i - n.names in
      let e : n.names + j ≡ i = omega arith in
      let f : length (texts_of (session_of text b n).names) + j ≡ i = omega arith in
      ap (λ (z : ℕ). name_in text (row_at rows z)) (sym e) ∙ k.behind.named j (omega arith)
      ∙ sym (ap (λ (z : ℕ). get_or (texts_of (session_of text b n).names ++ new_texts new) z []) (sym f)
      ∙ get_or-append-add (texts_of (session_of text b n).names) (new_texts new) j []
      ∙ get_or-map (λ (x : theory.Name). x.text) new j no_new))

  row_formed : (i : ℕ) → i < n.names + length new → NameFormed text sorts c (row_at rows i)
  row_formed i l = by_less i n.names
      (λ p q. let f = h.named i p in let v = f.variable in let w = k.later in
      subst (NameFormed text sorts c) (sym (old_row i p))
      (record { kind = f.kind; place = f.place; sorted = f.sorted; sort = f.sort; variable = omega arith }))
      (λ p q. let j : ℕ = i - n.names in
      let e : n.names + j ≡ i = omega arith in
      let m : j < length new = omega arith in
      let r = k.behind in
      let s = r.sorted j m in
      let g = good.sorted j m in
      let v = r.numbered j m in
      let w = k.later in
      subst (λ (z : ℕ). NameFormed text sorts c (row_at rows z)) e
      (record { kind = r.kind j m; place = r.place j m; sorted = omega arith; sort = omega arith; variable = omega arith }))

  -- An old name keeps its variable, and a new one has the next.
  abbrev Variable-at : ℕ → Type 0
  Variable-at i =
      ((i < n.names) × (column (row_at rows i) 4 ≡ column (row_at b.names i) 4)) ⊎ ((n.names ≤ i)
      × (column (row_at rows i) 4 ≡ n.variables + (i - n.names)))

  variable_at_lem : (i : ℕ) → i < n.names + length new → Variable-at i
  variable_at_lem i l = by_less i n.names
      (λ p q. inl (p, ap (λ (r : List ℕ). column r 4) (old_row i p)))
      (λ p q. let e : n.names + (i - n.names) ≡ i = omega arith in
      inr (p, ap (λ (z : ℕ). column (row_at rows z) 4) (sym e) ∙ k.behind.numbered (i - n.names) (omega arith)))

  rises : (i j : ℕ) → i < j → j < n.names + length new → column (row_at rows i) 4 < column (row_at rows j) 4
  rises i j l m = go (variable_at_lem i (omega arith)) (variable_at_lem j m)
    where
      go : Variable-at i → Variable-at j → column (row_at rows i) 4 < column (row_at rows j) 4
      go (inl x) (inl y) = let r = h.rising i j l y.0 in let e = x.1 in let f = y.1 in omega arith
      go (inl x) (inr y) = let v = (h.named i x.0).variable in let e = x.1 in let f = y.1 in omega arith
      go (inr x) (inl y) = absurd (let e = x.0 in let f = y.0 in omega arith)
      go (inr x) (inr y) = let e = x.1 in let f = y.1 in let a = x.0 in let d = y.0 in omega arith

  distinct_rows : (i j : ℕ) → i < j → j < n.names + length new → name_in text (row_at rows i) ≡ name_in text (row_at rows j) → ⊥
  distinct_rows i j l m e =
      let q = names_length h in
      let texts : length (texts_of (session_of text b n).names ++ new_texts new) ≡ n.names + length new =
      length-append (texts_of (session_of text b n).names) (new_texts new)
      ∙ ap₂ ◌+◌ (length-map (session_of text b n).names (λ (x : Named). x.name.text)
      ∙ q) (length-map new (λ (x : theory.Name). x.text)) in
      good.distinct i j l (omega arith) (sym (text_at i (omega arith)) ∙ e ∙ text_at j m)

  -- each new name has its row,
  name_at_lem : (i : ℕ) → i < length new → get_or (numbered_from n.variables new) i no_name ≡ named_in text (row_at rows (n.names + i))
  unfolding named_in
  name_at_lem i l = numbered_at n.variables new i l
      ∙ named_parts (sym (k.behind.named i l)) (sym (k.behind.sorted i l)) (sym (k.behind.numbered i l))

  -- and the names are those at entry with the new ones entered.
  pub kept_names : names_in text rows (n.names + length new) ≡ enter (session_of text b n).names n.variables new
  unfolding names_in
  kept_names =
      let old : List Named = (session_of text b n).names in
      let m : length old ≡ n.names = names_length h in
      let m' : length (map (named_in text) (take (n.names + length new) rows)) ≡ n.names + length new =
      table_length (named_in text) rows (n.names + length new) k.lent in
      let q = numbered_length n.variables new in
      let all : length (old ++ numbered_from n.variables new) ≡ n.names + length new =
      length-append old (numbered_from n.variables new) ∙ omega arith in
      ext_get_or no_name (map (named_in text) (take (n.names + length new) rows)) (old ++ numbered_from n.variables new) (omega arith)
      (λ i l. get_d_any (map (named_in text) (take (n.names + length new) rows)) i no_name (named_in text []) l
      ∙ table_at (named_in text) rows (n.names + length new) k.lent i (omega arith)
      ∙ by_less i n.names
      (λ p r. ap (named_in text) (old_row i p) ∙ sym (names_at_lem h i p)
      ∙ sym (get_or-append old (numbered_from n.variables new) no_name i (omega arith)))
      (λ p r. let j : ℕ = i - n.names in
      let e : n.names + j ≡ i = omega arith in
      let f : length old + j ≡ i = omega arith in
      ap (λ (z : ℕ). named_in text (row_at rows z)) (sym e) ∙ sym (name_at_lem j (omega arith))
      ∙ sym (get_or-append-add old (numbered_from n.variables new) j no_name)
      ∙ ap (λ (z : ℕ). get_or (old ++ numbered_from n.variables new) z no_name) f))
      ∙ sym (enter_behind old n.variables new)

-- What was made is a session in form,
pub made_listed : {text arities : List ℕ} {sorts : ℕ} {b : SessionStore} {n : SessionCounts} → SessionListed text arities sorts b n
    → {b' : SessionStore} {n' : SessionCounts} {new : List theory.Name}
    → SessionMade text arities b n b' n' new → NamesFit sorts (session_of text b n).names new → SessionListed text arities sorts b' n'
made_listed {text} {b = b} {n = n} h {b'} {n'} {new} m good =
    let q = names_length h in
    let few = good.few in
    let e = m.number in
    let k = m.names in
    let l = k.lent in
    record {
      few_names = omega arith;
      few_variables = m.few_variables;
      few_bound = trail_in (form_holds m.form);
      few_words = m.few_words;
      names_lent = omega arith;
      named = λ i l. row_formed h k good i (omega arith);
      distinct = λ i j l p. distinct_rows h k good i j l (omega arith);
      rising = λ i j l p. rises h k good i j l (omega arith);
      words = m.words;
      form = m.form;
    }

-- with the new names entered.
pub made_names : {text arities : List ℕ} {sorts : ℕ} {b : SessionStore} {n : SessionCounts} → SessionListed text arities sorts b n
    → {b' : SessionStore} {n' : SessionCounts} {new : List theory.Name}
    → SessionMade text arities b n b' n' new → NamesFit sorts (session_of text b n).names new
    → (session_of text b' n').names ≡ enter (session_of text b n).names n.variables new
made_names {text} h {b'} m good = ap (names_in text b'.names) m.number ∙ kept_names h m.names good

-- Without a proof
module _ {text arities : List ℕ} {sorts : ℕ} {b : SessionStore} {n : SessionCounts}
    (h : SessionListed text arities sorts b n) {b' : SessionStore} {c : ℕ} (u : PartUnproved b n b' c) where
  same_words : (i : ℕ) → i < n.words → cells b.words i ≡ cells b'.words i
  same_words i l = sym (front_at n.words b.words b'.words 0 u.words i l)

  -- Such a part is made,
  pub unproved_made : {new : List theory.Name} → NamesKept text b n b'.names c new
      → SessionMade text arities b n b' (grown_counts n (length new) c) new
  unproved_made k =
      let f = h.form in
      let l = u.later in
      record {
        names = k;
        number = refl;
        few_variables = u.few;
        few_words = h.few_words;
        words = form_same b.words b'.words 0 n.words term_room n.variables c arities (omega arith) f.lent_words
            u.words_lent l same_words h.words;
        form = subst (λ (rows : Rows). Form term_room b'.words rows c n.words n.bound) (sym u.bindings)
            (form_grows f b'.words same_words l (le_refl n.words) (formed_up term_room l (formed_same term_room same_words f.words))
            u.few f.low u.words_lent u.lent);
      }

  -- and its bindings are those at entry.
  pub unproved_bindings : held term_room b'.words b'.bindings n.bound ≡ held term_room b.words b.bindings n.bound
  unproved_bindings = ap (λ (rows : Rows). held term_room b'.words rows n.bound) u.bindings
      ∙ sym (held_grows h.form b'.words same_words)
