-- Laws of the parts of a session's form: lengths, names, words, and all together.
use Prim.Native.Nat.{ℕ, zero, suc, ◌+◌, ◌≤◌, ◌<◌}
use native.Mathlib.Omega.{arith}
use mathlib.Core.Path.{◌≡◌, refl, sym, ap, ◌∙◌}
use mathlib.Core.Bool.{Bool, true, false, not}
use mathlib.Core.Logic.{inl, inr}
use mathlib.Core.List.{List, [], map}
use lib.ListN.{length, get_or, take}
use lib.Dec.{ltb}
use borrow.Author.Tests.{not-false, ltb-true, lt-ltb}
use Rattle.std.specs.List.{IsAllAdjacentAnswer}
use Rattle.std.proofs.Common.{add-one}
use Rattle.terms.specs.Numbers.{by_same, true_false}
use Rattle.words.specs.declared.Limits.{Limits}
use Rattle.arena.specs.Cells.{cells, WellFormed}
use Rattle.arena.specs.Copies.{term_room}
use Rattle.arena.specs.Form.{in_form}
use Rattle.arena.specs.FormLaws.{all_formed}
use Rattle.bindings.specs.Promises.{Tells, BindingsChecked}
use Rattle.bindings.specs.Checking.{tells_no, tells_yes}
use Rattle.unifier.specs.Promises.{Scratch}
use Rattle.names.specs.Names.{Distinct, name_in}
use Rattle.names.specs.Symbols.{Rows, column, columns, row_at, sort_of, sorts_of, symbols_of}
use Rattle.names.specs.SearchLaws.{table_length, table_at, get_d_any}
use Rattle.rules.specs.PatternLaws.{arities_of}
use Rattle.signature.proofs.Laws.{same}
use Rattle.signature.proofs.UsedLaws.{used_length, row_used, used_each, each_used}
use Rattle.sessions.specs.Storage.{SessionStore, Workspace, NameFormed, too_short}
use Rattle.sessions.specs.OpeningLaws.{enough_lent}
use Rattle.sessions.specs.declared.SessionCounts.{SessionCounts}
use Rattle.term_check.specs.Walk.{word_in}
use Rattle.session_check.specs.Parts.{SessionCounted, NameKind, NamesFormed, Rising}
use Rattle.session_check.specs.Parts.{PlacesDistinct}
use Rattle.session_check.specs.Parts.{NamesListed, SessionReady, SessionChecked}

-- Where none is too short, the rows of the names are there.
pub names_there : (limits : Limits) (b : SessionStore) (s : Workspace) (n : ℕ) → too_short limits b s ≡ false → n ≤ 64
    → n ≤ length b.names
names_there limits b s n e f = let l = (enough_lent limits b s e).names in omega arith

-- Names

-- The words at the places that were written are those of the names.
module _ (text : List ℕ) (names places : Rows) (n : ℕ) (long : n ≤ length places) (put : (i : ℕ) → i < n
    → row_at places i ≡ columns (row_at names i) 1 2) where
  word_at : (i : ℕ) → i < n → get_or (sorts_of text places n) i [] ≡ word_in text (row_at names i)
  unfolding sorts_of columns
  word_at i l =
      get_d_any (map (sort_of text) (take n places)) i [] (sort_of text []) (rw (table_length (sort_of text) places n long) l)
      ∙ table_at (sort_of text) places n long i l ∙ ap (sort_of text) (put i l)

  words_long : length (sorts_of text places n) ≡ n
  unfolding sorts_of
  words_long = table_length (sort_of text) places n long

  pub places_distinct : {r : Bool} → Tells r (Distinct (sorts_of text places n)) → Tells r (PlacesDistinct text names n)
  places_distinct t = same
      (λ d i j l m e. let w = words_long in d i j l (omega arith) (word_at i (omega arith) ∙ e ∙ sym (word_at j m)))
      (λ d i j l m e. let w = words_long in let k : j < n = omega arith in d i j l k (sym (word_at i (omega arith)) ∙ e ∙ word_at j k))
      t

-- Where each variable is below the next, all rise; and where one is not, they do not.
rising_far : (rows : Rows) (n : ℕ) → ((k : ℕ) → k + 1 < n → column (row_at rows k) 4 < column (row_at rows (k + 1)) 4) → Rising rows n
rising_far rows n h i zero l m = absurd (omega arith)
rising_far rows n h i (suc j) l m =
    let next : column (row_at rows j) 4 < column (row_at rows (suc j)) 4 = rw add-one at (h j (omega arith)) in
    by_same i j
    (λ e _. rw e next)
    (λ e _. let before = rising_far rows n h i j (omega arith) (omega arith) in omega (arith, next, before))

pub rising_told : (rows : Rows) (r : Bool) → IsAllAdjacentAnswer (λ x y b. b ≡ ltb (column x 4) (column y 4)) rows r → Tells r (Rising rows (length rows))
rising_told rows true h = tells_yes (rising_far rows (length rows) (λ k l. ltb-true _ _ (sym (h k [] l))))
rising_told rows false h = tells_no (λ g. true_false (lt-ltb _ _ (g h.0 (h.0 + 1) (omega arith) h.1)) (sym (h.2 [])))

-- A name of these kinds is the word at its place.
plain_name : (text row : List ℕ) → NameKind (column row 0) → name_in text row ≡ word_in text row
unfolding name_in
plain_name text row (inl e) = rw e refl
plain_name text row (inr e) = rw e refl

module _ {text : List ℕ} {sorts variables : ℕ} {rows : Rows} {n : ℕ} where
  pub names_told : {r : Bool} → NamesFormed text sorts variables rows n → Rising rows n → Tells r (PlacesDistinct text rows n)
      → Tells r (NamesListed text sorts variables rows n)
  names_told f h t = same
      (λ d. record {
        named = f;
        distinct = λ i j l m e. d i j l m (sym (plain_name text (row_at rows i) (f i (omega arith)).kind) ∙ e
            ∙ plain_name text (row_at rows j) (f j m).kind);
        rising = h;
      })
      (λ g i j l m e. g.distinct i j l m (plain_name text (row_at rows i) (f i (omega arith)).kind ∙ e
      ∙ sym (plain_name text (row_at rows j) (f j m).kind)))
      t

-- Words

-- Words in form are what the test of the bindings asks.
pub words_formed : (arities words : List ℕ) (n : SessionCounts) (r : Bool) → SessionCounted n (length words)
    → r ≡ in_form words 0 n.words term_room n.variables arities → not r ≡ false
    → WellFormed term_room (cells words) n.variables n.words
words_formed arities words n r c is e =
    let f = c.few_words in
    all_formed words n.words term_room n.variables arities c.words_lent (omega arith) (sym is ∙ not-false r e)

-- All together

-- The first n rows, lent as a part of the table.
module _ {text : List ℕ} {sorts variables : ℕ} (rows : Rows) (n : ℕ) (lent : n ≤ length rows) where
  pub names_used : NamesListed text sorts variables rows n → NamesListed text sorts variables (take n rows) (length (take n rows))
  names_used g =
      let e = used_length rows n lent in
      record {
        named = used_each rows n lent (NameFormed text sorts variables) g.named;
        distinct = λ i j l m. let a : i < n = omega arith in let b : j < n = omega arith in rw (row_used rows n lent i a, row_used rows n lent j b) (g.distinct i j l b);
        rising = λ i j l m. let a : i < n = omega arith in let b : j < n = omega arith in rw (row_used rows n lent i a, row_used rows n lent j b) (g.rising i j l b);
      }

  pub names_listed : NamesListed text sorts variables (take n rows) (length (take n rows)) → NamesListed text sorts variables rows n
  names_listed g =
      let e = used_length rows n lent in
      record {
        named = each_used rows n lent (NameFormed text sorts variables) g.named;
        distinct = λ i j l m. rw (row_used rows n lent i (omega arith), row_used rows n lent j m) at (g.distinct i j l (omega arith));
        rising = λ i j l m. rw (row_used rows n lent i (omega arith), row_used rows n lent j m) at (g.rising i j l (omega arith));
      }

module _ {text : List ℕ} {limits : Limits} {sorts : ℕ} {symbols : Rows} {m : ℕ} {b : SessionStore} {s : Workspace} {n : SessionCounts} where
  pub told_no : {marks' : Rows} → marks' ≡ s.marks → (SessionReady text limits sorts symbols m b s n → ⊥)
      → SessionChecked text limits sorts symbols m b s n marks' false
  told_no k h = record { tells = tells_no h; kept = k }

  pub ready_names : SessionReady text limits sorts symbols m b s n → NamesListed text sorts n.variables b.names n.names
  ready_names h = record { named = h.session.named; distinct = h.session.distinct; rising = h.session.rising }

  -- The last test tells all.
  pub told : {marks' : Rows} {r : Bool} (formed : Bool) → too_short limits b s ≡ false → SessionCounted n (length b.words)
      → NamesListed text sorts n.variables b.names n.names
      → formed ≡ in_form b.words 0 n.words term_room n.variables (arities_of (symbols_of text symbols m)) → not formed ≡ false
      → Scratch term_room n.words s.links s.marks s.stack
      → BindingsChecked term_room b.words b.bindings s.marks marks' n.variables n.words n.bound r
      → SessionChecked text limits sorts symbols m b s n marks' r
  told formed e c g w f z h =
      record {
        tells = same
            (λ form. record {
              lent = e;
              session = record {
                few_names = c.few_names;
                few_variables = c.few_variables;
                few_bound = c.few_bound;
                few_words = c.few_words;
                names_lent = names_there limits b s n.names e c.few_names;
                named = g.named;
                distinct = g.distinct;
                rising = g.rising;
                words = sym w ∙ not-false formed f;
                form = form;
              };
              scratch = z;
            })
            (λ q. q.session.form)
            h.tells;
        kept = h.marks;
      }
