-- Laws of storing a goal: names entered row by row, places put, and what the stored goal is.
use Rattle.std.specs.Prelude.{ℕ, zero, suc, ◌+◌, ◌-◌, ◌≤◌, ◌<◌, true, ◌≡◌, refl, ◌++◌, get_or, set, take, drop}
use native.Mathlib.Omega.{arith}
use Rattle.std.proofs.Math.Path.{sym, ap}
use Rattle.std.proofs.Common.{◌∙◌, subst, length-append, length-set, get_or-set_same, get_or-set_other, get_or-take}
use mathlib.Core.List.{List, [], ◌∷◌}
use Rattle.std.proofs.Math.ListN.{length}
use Rattle.std.proofs.lemmas.List.{length-take-le, length-drop, take-set-le, take_at, get_or_append_left, get_or-append_right, get_or-drop}
use Rattle.terms.specs.Numbers.{by_same, by_less}
use Rattle.terms.specs.Term.{Term, var, sub, mem}
use Rattle.terms.specs.TermLaws.{below_mem}
use Rattle.arena.specs.Cells.{denote, Reference, cells}
use Rattle.arena.specs.Copies.{term_room, pattern_room, Copyable, Movable}
use Rattle.arena.specs.CopyLaws.{numbered_by}
use Rattle.arena.specs.Form.{in_form}
use Rattle.bindings.specs.Stored.{Form}
use Rattle.names.specs.Symbols.{Rows, column, row_at}
use Rattle.names.specs.SearchLaws.{table_length, table_at, get_d_any}
use Rattle.resolution.specs.Session.{Named, variable_at}
use Rattle.resolution.specs.Naming.{no_name}
use Rattle.attempts.specs.StoredRules.{Part, Root}
use Rattle.attempts.specs.Parts.{copied_form, copied_grown, copied_reference, copied_denotes}
use Rattle.rules.specs.LayingLaws.{lying_one, lying_part, lying_root, lying_form}
use Rattle.signature.proofs.UsedLaws.{used_length, row_used, part_length, part_row}
use Rattle.sessions.specs.Storage.{named_in, names_in}
use Rattle.sessions.specs.declared.SessionCounts.{SessionCounts}
use Rattle.goals.specs.Storing.{name_row, NamesEntered, PlacesPut, GoalLying, StoreAsked, GoalStored}
use Rattle.goals.specs.declared.Goal.{Goal}

-- Names entered

pub entered_none : (vs : Rows) (n c : ℕ) (names : Rows) → NamesEntered vs n n c names names
entered_none vs n c names = record { long = refl; front = refl; new = λ i a b. absurd (omega arith); behind = λ i a. refl }

-- A turn of the loop.
module _ (vs : Rows) (n i c : ℕ) (names names' : Rows) (a : n ≤ i) (l : i < length names) (h : NamesEntered vs n i c names names') where
  abbrev row : List ℕ
  row = name_row (row_at vs i) (c + (i - n))

  here : row_at (set names' i row) i ≡ row
  here = let m = h.long in get_or-set_same names' i row [] (omega arith)

  pub entered_more : NamesEntered vs n (i + 1) c names (set names' i row)
  entered_more = record {
    long = length-set names' i row ∙ h.long;
    front = take-set-le n names' i row a ∙ h.front;
    new = λ j p q. by_same i j (λ e _. subst (λ (k : ℕ). row_at (set names' i row) k ≡ name_row (row_at vs k) (c + (k - n))) e here)
        (λ e _. get_or-set_other names' i j row [] (λ d. e (sym d)) ∙ h.new j p (let d : i ≡ j → ⊥ = e in omega arith));
    behind = λ j p. get_or-set_other names' i j row [] (λ e. omega arith) ∙ h.behind j (omega arith);
  }

module _ (names : Rows) (i : ℕ) (places : List ℕ) (l : i < length places) (h : PlacesPut names i places) where
  abbrev number : ℕ
  number = column (row_at names i) 4

  pub put_more : PlacesPut names (i + 1) (set places i number)
  put_more j q = by_same i j
      (λ e _. subst (λ (k : ℕ). get_or (set places i number) k 0 ≡ column (row_at names k) 4) e (get_or-set_same places i number 0 l))
      (λ e _. get_or-set_other places i j number 0 (λ d. e (sym d)) ∙ h j (let d : i ≡ j → ⊥ = e in omega arith))

-- A row more.
pub entered_row : (vs : Rows) (c : ℕ) (names : Rows) (i : ℕ) → i < length names → ((j : ℕ) → j < i → row_at names j ≡ name_row (row_at vs j) (c + j))
    → (j : ℕ) → j < i + 1 → row_at (set names i (name_row (row_at vs i) (c + i))) j ≡ name_row (row_at vs j) (c + j)
entered_row vs c names i l h j q = by_same i j
    (λ e _. subst (λ (k : ℕ). row_at (set names i (name_row (row_at vs i) (c + i))) k ≡ name_row (row_at vs k) (c + k)) e (get_or-set_same names i (name_row (row_at vs i) (c + i)) [] l))
    (λ e _. get_or-set_other names i j (name_row (row_at vs i) (c + i)) [] (λ d. e (sym d)) ∙ h j (let d : i ≡ j → ⊥ = e in omega arith))

-- The rows from n up to v, lent as a part of the table and written.
pub entered_part : (vs names part : Rows) (n v c : ℕ) → n ≤ v → v ≤ length vs → v ≤ length names → length part ≡ v - n
    → ((i : ℕ) → i < v - n → row_at part i ≡ name_row (row_at (take (v - n) (drop n vs)) i) (c + i)) → NamesEntered vs n v c names (take n names ++ (part ++ drop (v - n) (drop n names)))
entered_part vs names part n v c a lv ln long each =
    let few : n ≤ length names = omega arith in
    let front = length-take-le n names few in
    let rest = length-drop (v - n) (drop n names) in
    let past = length-drop n names in
    let whole = length-append (take n names) (part ++ drop (v - n) (drop n names)) in
    let behind = length-append part (drop (v - n) (drop n names)) in
    record {
      long = omega arith;
      front = take_at (take n names) (part ++ drop (v - n) (drop n names)) n front;
      new = λ i p q. let m : i - n < v - n = omega arith in
          let l : i - n < length part = omega arith in
          let w : n + (i - n) < v = omega arith in
          let e : n + (i - n) ≡ i = omega arith in
          get_or-append_right (take n names) (part ++ drop (v - n) (drop n names)) n i [] front p
          ∙ get_or_append_left part (drop (v - n) (drop n names)) [] (i - n) l
          ∙ each (i - n) m
          ∙ ap (λ (r : List ℕ). name_row r (c + (i - n))) (part_row vs n v (i - n) w ∙ ap (row_at vs) e);
      behind = λ i p. let m : n ≤ i = omega arith in
          let w : v - n ≤ i - n = omega arith in
          let e : n + ((v - n) + ((i - n) - (v - n))) ≡ i = omega arith in
          get_or-append_right (take n names) (part ++ drop (v - n) (drop n names)) n i [] front m
          ∙ get_or-append_right part (drop (v - n) (drop n names)) (v - n) (i - n) [] long w
          ∙ get_or-drop (v - n) (drop n names) ((i - n) - (v - n)) []
          ∙ get_or-drop n names ((v - n) + ((i - n) - (v - n))) []
          ∙ ap (row_at names) e;
    }

-- The rows of the first v names, lent as a part of the table.
pub put_used : (names : Rows) (v : ℕ) (places : List ℕ) → v ≤ length names → PlacesPut (take v names) (length (take v names)) places
    → PlacesPut names v places
put_used names v places l h i b = let e = used_length names v l in rw (row_used names v l i b) at (h i (omega arith))

-- What `store` lends as parts of tables, and writes: the rows of the new names, and the variables of all names.
module _ {vs : Rows} {pattern : List ℕ} {g : Goal} {names : Rows} {words : List ℕ} {n : SessionCounts} (asked : StoreAsked vs pattern g names words n)
    (part : Rows) (long : length part ≡ length (take (g.variables - n.names) (drop n.names names)))
    (each : (i : ℕ) → i < length (take (g.variables - n.names) (drop n.names vs))
    → row_at part i ≡ name_row (row_at (take (g.variables - n.names) (drop n.names vs)) i) (n.variables + i)) where
  abbrev pub stored_names : Rows
  stored_names = take n.names names ++ (part ++ drop (g.variables - n.names) (drop n.names names))

  pub names_entered : NamesEntered vs n.names g.variables n.variables names stored_names
  names_entered =
      let of = part_length vs n.names g.variables asked.variables in
      let to = part_length names n.names g.variables asked.lent in
      entered_part vs names part n.names g.variables n.variables asked.order asked.variables asked.lent (omega (arith, long, to))
      (λ i l. each i (omega (arith, of, l)))

  pub places_put : (places : List ℕ) → PlacesPut (take g.variables stored_names) (length (take g.variables stored_names)) places
      → PlacesPut stored_names g.variables places
  places_put places = let e = names_entered.long in let l = asked.lent in put_used stored_names g.variables places (omega arith)

-- Places

variable_old : (ns : List Named) (c i : ℕ) → i < length ns → variable_at ns c i ≡ (get_or ns i no_name).variable
variable_old [] c i l = absurd (omega arith)
variable_old (n ∷ ns) c zero l = refl
variable_old (n ∷ ns) c (suc i) l = variable_old ns c i (omega arith)

variable_new : (ns : List Named) (c i : ℕ) → length ns ≤ i → variable_at ns c i ≡ c + (i - length ns)
variable_new [] c i l = let e : c + i ≡ c + (i - 0) = omega arith in e
variable_new (n ∷ ns) c zero l = absurd (omega arith)
variable_new (n ∷ ns) c (suc i) l =
    let e : c + (i - length ns) ≡ c + (suc i - suc (length ns)) = omega arith in
    variable_new ns c i (omega arith) ∙ e

pub front_at : (n : ℕ) (l l' : Rows) → take n l' ≡ take n l → (i : ℕ) → i < n → row_at l' i ≡ row_at l i
front_at n l l' e i m = sym (get_or-take n l' i [] m) ∙ ap (λ (x : Rows). row_at x i) e ∙ get_or-take n l i [] m

module _ (vs names names' : Rows) (n v c : ℕ) (places : List ℕ) (h : NamesEntered vs n v c names names')
    (p : PlacesPut names' v places) where
  -- A name's place is its own variable, and a new one's the next.
  place_old : (i : ℕ) → i < v → i < n → get_or places i 0 ≡ column (row_at names i) 4
  place_old i l q = p i l ∙ ap (λ (r : List ℕ). column r 4) (front_at n names names' h.front i q)

  place_new : (i : ℕ) → i < v → n ≤ i → get_or places i 0 ≡ c + (i - n)
  place_new i l q = p i l ∙ ap (λ (r : List ℕ). column r 4) (h.new i q l)

  -- That is the variable that the definition gives.
  place_is : (text : List ℕ) → n ≤ length names → (i : ℕ) → i < v → get_or places i 0 ≡ variable_at (names_in text names n) c i
  unfolding names_in named_in
  place_is text lent i l =
      let ns : List Named = names_in text names n in
      let long : length ns ≡ n = table_length (named_in text) names n lent in
      by_less i n
      (λ q _. place_old i l q
      ∙ sym (variable_old ns c i (omega arith) ∙ ap (λ (x : Named). x.variable) (get_d_any ns i no_name (named_in text []) (omega arith)
      ∙ table_at (named_in text) names n lent i q)))
      (λ q _. place_new i l q ∙ (let e : c + (i - n) ≡ c + (i - length ns) = omega arith in e) ∙ sym (variable_new ns c i (omega arith)))

-- The goal's words

-- With each of its variables at a place below the count, a goal can be copied.
module _ {vs : Rows} {pattern : List ℕ} {g : Goal} {names names' : Rows} {words : List ℕ} {n : SessionCounts}
    (asked : StoreAsked vs pattern g names words n) (entered : NamesEntered vs n.names g.variables n.variables names names')
    (places : List ℕ) (long : length places ≡ 64) (put : PlacesPut names' g.variables places) where
  -- How many variables there are then.
  abbrev count : ℕ
  count = n.variables + (g.variables - n.names)

  place_below : (i : ℕ) → i < g.variables → get_or places i 0 < count
  place_below i l = by_less i n.names
      (λ q _. let a = place_old vs names names' n.names g.variables n.variables places entered put i l q in
      let b = asked.old i q in
      omega arith)
      (λ q _. let a = place_new vs names names' n.names g.variables n.variables places entered put i l q in omega arith)

  module _ {arities : List ℕ} {p : Term} (goal : GoalLying arities p pattern g) where
    numbers : (x : ℕ) → mem x p ≡ true → (x < length places) × (get_or places x 0 < count)
    numbers x m =
        let l = below_mem g.variables p goal.below x m in
        let w = asked.few in
        (omega arith, place_below x l)

    all : g.words - 0 ≡ g.words
    all = omega arith

    pub goal_part : Part pattern places 0 g.words count
    goal_part = subst (λ (k : ℕ). Part pattern places 0 k count) all (lying_part goal.lies places count numbers)

    pub goal_root : Root pattern places 0 g.words count g.node
    goal_root =
        subst (λ (k : ℕ). Root pattern places 0 k count g.node) all (lying_root goal.lies places count numbers 0 (omega arith))

    goal_copyable : Copyable pattern 0 g.words places words term_room n.words 0
    goal_copyable =
        let room = asked.room in
        let part = goal_part in
        record {
          part = part.there;
          space = asked.space;
          low = part.low;
          small = asked.small;
          listed = part.listed;
          number = λ i l v. let x = part.numbered i l v in omega arith;
          inside = part.inside;
          address = part.address;
        }

    goal_movable : Movable places 0 pattern_room (term_room + n.words) g.node
    goal_movable =
        let room = asked.room in
        let small = asked.small in
        let root = goal_root in
        record {
          listed = root.listed;
          number = λ v. let x = root.numbered v in omega arith;
          inside = λ v h. root.from_on v;
          address = λ v h. let a = root.from_on v in let b = root.below v in omega arith;
        }

  pub store_copyable : Copyable pattern 0 g.words places words term_room n.words 0
  store_copyable = goal_copyable asked.goal.2

  pub store_movable : Movable places 0 pattern_room (term_room + n.words) g.node
  store_movable = goal_movable asked.goal.2

-- The stored goal: the session stays in form with it, and its reference denotes the goal over the session's variables.
module _ {vs : Rows} {pattern : List ℕ} {g : Goal} {names : Rows} {words : List ℕ} {n : SessionCounts} {r : ℕ} {names' : Rows}
    {words' : List ℕ} (asked : StoreAsked vs pattern g names words n) (h : GoalStored vs pattern g names words n r names' words')
    {arities : List ℕ} {p : Term} (goal : GoalLying arities p pattern g)
    {rows : Rows} {bound : ℕ} (form : Form term_room words rows n.variables n.words bound) where
  abbrev total : ℕ
  total = n.variables + (g.variables - n.names)

  part : Part pattern h.places 0 g.words total
  part = goal_part asked h.entered h.places h.long h.put goal

  root : Root pattern h.places 0 g.words total g.node
  root = goal_root asked h.entered h.places h.long h.put goal

  pub stored_denotes : (text : List ℕ)
      → denote term_room (cells words') r ≡ sub (λ i. var (variable_at (names_in text names n.names) n.variables i)) p
  stored_denotes text =
      let room = asked.room in
      let order = asked.order in
      let lent = asked.lent in
      let at : ℕ → ℕ = variable_at (names_in text names n.names) n.variables in
      ap (denote term_room (cells words')) h.is
      ∙ copied_denotes part 0 form (omega arith) (omega arith) asked.space asked.small words' h.written g.node root
      ∙ ap (sub (λ (x : ℕ). var (0 + get_or h.places x 0))) (lying_one goal.lies)
      ∙ numbered_by h.places 0 (λ (i : ℕ). var (at i)) p
      (λ x m. let l = below_mem g.variables p goal.below x m in
      let e : at x ≡ 0 + get_or h.places x 0 =
      (let q = place_is vs names names' n.names g.variables n.variables h.places h.entered h.put text (omega arith) x l in
      omega arith) in
      ap (λ (k : ℕ). var k) e)

  pub stored_form : total ≤ length rows → Form term_room words' rows total (n.words + g.words) bound
  stored_form l =
      let room = asked.room in
      let e : 0 + total ≡ total = omega arith in
      subst (λ (k : ℕ). Form term_room words' rows k (n.words + g.words) bound) e
      (copied_form part 0 form (omega arith) (omega arith) asked.space asked.small words' h.written (omega arith))

  -- Words of known symbols with their arities stay so.
  pub stored_in_form : in_form words 0 n.words term_room n.variables arities ≡ true
      → in_form words' 0 (n.words + g.words) term_room total arities ≡ true
  stored_in_form f =
      let room = asked.room in
      let e : 0 + total ≡ total = omega arith in
      let d : g.words ≡ 0 + g.words = omega arith in
      let whole : in_form pattern 0 (0 + g.words) pattern_room pattern_room arities ≡ true =
      subst (λ (k : ℕ). in_form pattern 0 k pattern_room pattern_room arities ≡ true) d
      (lying_form goal.lies pattern_room goal.lies.below) in
      subst (λ (k : ℕ). in_form words' 0 (n.words + g.words) term_room k arities ≡ true) e
      (copied_grown part 0 form (omega arith) (omega arith) asked.space asked.small words' h.written arities whole f)

  pub stored_reference : Reference term_room (cells words') total (n.words + g.words) r
  stored_reference =
      let room = asked.room in
      let e : 0 + total ≡ total = omega arith in
      subst (λ (k : ℕ). Reference term_room (cells words') k (n.words + g.words) r) e
      (subst (Reference term_room (cells words') (0 + total) (n.words + g.words)) (sym h.is)
      (copied_reference part 0 form (omega arith) (omega arith) asked.space asked.small words' h.written g.node root))
