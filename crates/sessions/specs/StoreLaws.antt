-- Laws of stored sessions: a session in the listed form denotes one in form, and a text that grows behind its end changes nothing that is
-- stored.
use Prim.Native.Nat.{ℕ, zero, suc, ◌+◌, ◌-◌, ◌≤◌, ◌<◌}
use Rattle.std.proofs.Common.{arith, sym, ap₂, ◌∙◌, length-append, length-drop, le-leb}
use Rattle.std.specs.Prelude.{◌≡◌, refl, eqb, length, take, drop}
use Rattle.std.proofs.Math.Path.{ap}
use Rattle.std.proofs.Math.Bool.{cond}
use mathlib.Core.List.{List, [], ◌∷◌, ◌++◌, map, append_assoc, append-nil}
use Rattle.std.proofs.lemmas.List.{drop-append-le, take-append-le}
use Rattle.source_text.specs.Parts.{part_of}
use Rattle.terms.specs.Numbers.{by_same, by_less}
use Rattle.resolution.specs.Session.{Named, Known, InForm}
use Rattle.resolution.specs.Naming.{name_at, no_name, OneVariable}
use Rattle.names.specs.Names.{Name, clause_name, name_in, result_names, result_kind}
use Rattle.names.specs.NamePlaces.{NamePlace}
use Rattle.names.specs.Symbols.{Rows, column, row_at, symbol_of, symbols_of}
use Rattle.names.specs.SearchLaws.{table_length, table_at, get_d_any}
use Rattle.rule_checks.specs.RuleForm.{rule_in}
use Rattle.signature.specs.Form.{rules_of}
use Rattle.signature.specs.Storage.{SignatureStore, symbols_in, rules_in, SignatureListed}
use Rattle.sessions.specs.Storage.{SessionStore, named_in, names_in, session_of, SessionListed, Extended}
use Rattle.sessions.specs.declared.SessionCounts.{SessionCounts}

pub extended_refl : (text : List ℕ) → Extended text text
extended_refl text = ([], sym (append-nil text))

pub extended_trans : (s t u : List ℕ) → Extended s t → Extended t u → Extended s u
extended_trans s t u g h = (g.0 ++ h.0, h.1 ∙ ap (λ (l : List ℕ). l ++ h.0) g.1 ∙ append_assoc s g.0 h.0)

-- Rows read alike

pub rows_alike : {A : Type 0} (f g : List ℕ → A) (rows : Rows) (n : ℕ) → ((i : ℕ) → i < n → f (row_at rows i) ≡ g (row_at rows i))
    → map f (take n rows) ≡ map g (take n rows)
rows_alike f g rows zero h = refl
rows_alike f g [] (suc n) h = refl
rows_alike {A} f g (r ∷ rows) (suc n) h =
    ap₂ (λ (x : A) (l : List A). x ∷ l) (h 0 (omega arith)) (rows_alike f g rows n (λ i l. h (suc i) (omega arith)))

-- A place inside the text has the same bytes.
part_extended : (text text' : List ℕ) → Extended text text' → (s n : ℕ) → s + n ≤ length text → part_of text' s n ≡ part_of text s n
part_extended text text' x s n l =
    let a : length text' ≡ length text + length x.0 = ap length x.1 ∙ length-append text x.0 in
    let d : length (drop s text) ≡ length text - s = length-drop s text in
    let b : drop s text' ≡ drop s text ++ x.0 = ap (drop s) x.1 ∙ drop-append-le s text x.0 (omega arith) in
    let c : take n (drop s text') ≡ take n (drop s text) = ap (take n) b ∙ take-append-le n (drop s text) x.0 (omega arith) in
    rw (le-leb (s + n) (length text') (omega arith), le-leb (s + n) (length text) l) c

module _ (text text' : List ℕ) (x : Extended text text') where
  place_extended : {start size : ℕ} → NamePlace text start size → NamePlace text' start size
  place_extended p =
      let a : length text' ≡ length text + length x.0 = ap length x.1 ∙ length-append text x.0 in
      let i = p.inside in
      record { inside = omega arith; some = p.some; short = p.short }

  -- The names of a session,
  name_extended : (row : List ℕ) → column row 1 + column row 2 ≤ length text → name_in text' row ≡ name_in text row
  unfolding name_in
  name_extended row l = ap (λ (w : Name). cond (eqb (column row 0) result_kind) (part_of result_names (column row 1) (column row 2)) w)
      (part_extended text text' x (column row 1) (column row 2) l)

  named_extended : (row : List ℕ) → column row 1 + column row 2 ≤ length text → named_in text' row ≡ named_in text row
  unfolding named_in
  named_extended row l = ap (λ (w : Name). record { name = record { text = w; sort = column row 3 }; variable = column row 4 })
      (name_extended row l)

  -- the symbols of a signature,
  pub symbols_extended : (sg : SignatureStore) → SignatureListed text sg → symbols_in text' sg ≡ symbols_in text sg
  unfolding symbols_of symbol_of
  symbols_extended sg h = rows_alike (symbol_of text') (symbol_of text) sg.symbols sg.counts.symbols
      (λ i l. let row : List ℕ = row_at sg.symbols i in
      ap (λ (w : Name). record {
        name = w;
        inputs = (symbol_of text row).inputs;
        output = column row 2;
        function = column row 3;
        first = column row 4;
        clauses = column row 5;
      }) (part_extended text text' x (column row 0) (column row 1) (h.symbols_formed i l).named.inside))

  -- and its rules stay what they are.
  pub rules_extended : (sg : SignatureStore) → SignatureListed text sg → rules_in text' sg ≡ rules_in text sg
  unfolding rules_of
  rules_extended sg h = rows_alike (rule_in text' sg.words) (rule_in text sg.words) sg.rules sg.counts.rules
      (λ i l. let row : List ℕ = row_at sg.rules i in
      ap (λ (w : Name). record {
        name = cond (eqb (column row 2) 0) w (clause_name w (column row 2 - 1));
        sorts = (rule_in text sg.words row).sorts;
        premises = (rule_in text sg.words row).premises;
        conclusion = (rule_in text sg.words row).conclusion;
      }) (part_extended text text' x (column row 0) (column row 1) (h.rules_formed i l).named.place.inside))

  -- So a stored session denotes the same,
  pub session_extended : (arities : List ℕ) (sorts : ℕ) (b : SessionStore) (n : SessionCounts) → SessionListed text arities sorts b n
      → session_of text' b n ≡ session_of text b n
  unfolding names_in
  session_extended arities sorts b n h =
      ap (λ (ns : List Named). record { names = ns; variables = n.variables; bindings = (session_of text b n).bindings; words = n.words })
      (rows_alike (named_in text') (named_in text) b.names n.names
      (λ i l. named_extended (row_at b.names i) (h.named i l).place.inside))

  -- and stays in form.
  pub listed_extended : (arities : List ℕ) (sorts : ℕ) (b : SessionStore) (n : SessionCounts) → SessionListed text arities sorts b n
      → SessionListed text' arities sorts b n
  listed_extended arities sorts b n h =
      let same_name : (i : ℕ) → i < n.names
      → name_in text' (row_at b.names i) ≡ name_in text (row_at b.names i) =
      λ i l. name_extended (row_at b.names i) (h.named i l).place.inside in
      record {
        few_names = h.few_names;
        few_variables = h.few_variables;
        few_bound = h.few_bound;
        few_words = h.few_words;
        names_lent = h.names_lent;
        named = λ i l. let f = h.named i l in
            record { kind = f.kind; place = place_extended f.place; sorted = f.sorted; sort = f.sort; variable = f.variable };
        distinct = λ i j l m e. h.distinct i j l m (sym (same_name i (omega arith)) ∙ e ∙ same_name j m);
        rising = h.rising;
        words = h.words;
        form = h.form;
      }

-- The session denoted

known_rows : (text : List ℕ) (c : ℕ) (rows : Rows) (n : ℕ) → ((i : ℕ) → i < n → i < length rows → column (row_at rows i) 4 < c)
    → Known c (map (named_in text) (take n rows))
unfolding named_in
known_rows text c rows zero h = tt
known_rows text c [] (suc n) h = tt
known_rows text c (r ∷ rows) (suc n) h =
    (h 0 (omega arith) (omega arith), known_rows text c rows n (λ i l m. h (suc i) (omega arith) (omega arith)))

module _ {text arities : List ℕ} {sorts : ℕ} {b : SessionStore} {n : SessionCounts} (h : SessionListed text arities sorts b n) where
  -- It is in form.
  pub listed_form : InForm (session_of text b n)
  unfolding names_in
  listed_form = record {
    acyclic = h.form.acyclic;
    below = h.form.below;
    known = known_rows text n.variables b.names n.names (λ i l m. (h.named i l).variable);
  }

  -- It has so many names,
  pub names_length : length (session_of text b n).names ≡ n.names
  unfolding names_in
  names_length = table_length (named_in text) b.names n.names h.names_lent

  -- each that of its row;
  pub names_at_lem : (i : ℕ) → i < n.names → name_at (session_of text b n).names i ≡ named_in text (row_at b.names i)
  unfolding names_in
  names_at_lem i l = get_d_any (map (named_in text) (take n.names b.names)) i no_name (named_in text [])
      (rw (table_length (named_in text) b.names n.names h.names_lent) l)
      ∙ table_at (named_in text) b.names n.names h.names_lent i l

  -- different rows have different names
  apart : (i j : ℕ) → i < n.names → j < n.names → (i ≡ j → ⊥)
      → (named_in text (row_at b.names i)).name.text ≡ (named_in text (row_at b.names j)).name.text → ⊥
  unfolding named_in
  apart i j li lj p e =
      by_less i j (λ l q. h.distinct i j l lj e) (λ l q. by_less j i (λ m r. h.distinct j i m li (sym e)) (λ m r. p (omega arith)))

  -- and different variables
  risen : (i j : ℕ) → i < n.names → j < n.names → (i ≡ j → ⊥)
      → (named_in text (row_at b.names i)).variable ≡ (named_in text (row_at b.names j)).variable → ⊥
  unfolding named_in
  risen i j li lj p e = by_less i j (λ l q. let r = h.rising i j l lj in
      omega arith) (λ l q. by_less j i (λ m q. let r = h.rising j i m li in omega arith) (λ m q. p (omega arith)))

  -- and no name and no variable stands twice.
  pub listed_one : OneVariable (session_of text b n).names (session_of text b n).names
  listed_one i j li lj =
      let m = names_length in
      let ki : i < n.names = omega arith in
      let kj : j < n.names = omega arith in
      let ei = names_at_lem i ki in
      let ej = names_at_lem j kj in (
        λ e. by_same i j (λ p q. ap (λ (z : ℕ). (name_at (session_of text b n).names z).variable) p)
            (λ p q. absurd (apart i j ki kj p (sym (ap (λ (x : Named). x.name.text) ei) ∙ e ∙ ap (λ (x : Named). x.name.text) ej))),
        λ e. by_same i j (λ p q. ap (λ (z : ℕ). (name_at (session_of text b n).names z).name.text) p)
            (λ p q. absurd (risen i j ki kj p (sym (ap (λ (x : Named). x.variable) ei) ∙ e ∙ ap (λ (x : Named). x.variable) ej))),
      )
