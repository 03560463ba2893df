-- The turns of `instantiate`'s loop: going on from what is built and what is open comes to building the whole; and what is left to do falls.
use Prim.Native.Nat.{ℕ, zero, suc, ◌+◌, ◌-◌, ◌*◌, ◌≤◌, ◌<◌}
use native.Mathlib.Omega.{arith}
use native.Mathlib.Numerals.{add-one}
use mathlib.Core.Path.{◌≡◌, refl, sym, ap, ap₂, ◌∙◌, subst}
use mathlib.Core.Logic.{◌≢◌}
use mathlib.Core.Bool.{Bool, true, false}
use mathlib.Core.Option.{Option, none, some}
use mathlib.Core.List.{List, [], ◌∷◌}
use lib.ListN.{get_or, length, set, length-set}
use lib.Seq.{get_or-set_same, get_or-set_other}
use Rattle.terms.specs.Numbers.{by_same, by_less}
use Rattle.terms.specs.Term.{var, app, nil, cons, Term, Terms, count, append, size}
use Rattle.terms.specs.Term.Kind.{one as single}
use Rattle.terms.specs.TermLaws.{size_pos}
use Rattle.terms.specs.Bindings.{Bindings, lookup}
use Rattle.arena.specs.Cells.{headers, cells, Cells, arity_of, symbol_of, args, denote, Reference, WellFormed, Same, denote_node, denote_variable, reference_argument, reference_up, frame_denote, args_same}
use Rattle.arena.specs.ArgumentLaws.{count_args, args_more}
use Rattle.arena.specs.NodeLaws.{reference_same, formed_same, formed_node}
use Rattle.arena.specs.Copies.{pattern_room}
use Rattle.arena.specs.Rows.{Rows, column}
use Rattle.resolution.specs.Search.{words}
use Rattle.evaluation.specs.Matching.{Built, barred, built, if_built, build_node, value_of, instantiate_of}
use Rattle.clause_matching.specs.Stored.{Value, Values, Valued, Holds, pattern_at, value_at}
use Rattle.std.specs.Prelude.{Err}
use Rattle.refusals.specs.declared.Refusal.TheVariants.{Unbound, OverLimit}
use Rattle.clause_matching.specs.Building.{built_at, rule_words, Pushed, InstantiateAsked, Tells, Instantiated}
use Rattle.clause_matching.proofs.Forming.{FormsKept, forms_same, pushed_form, unbuilt_forms, built_forms}
use Rattle.clause_matching.proofs.Frames.{Frame, frame, carry, resume, carry_alone, carry_given, resume_next, resume_entered, resume_full, node_fits, node_over}

-- The arguments of an open node that are left, in the pattern: its row has its address, how many were taken, and where the first one's reference stands.
abbrev pub rest_of : List ℕ → Rows → ℕ → Terms
rest_of pattern stack d =
    args (denote pattern_room (cells pattern)) (cells pattern) (suc (column 0 stack d + column 1 stack d)) (arity_of (cells pattern (column 0 stack d)) - column 1 stack d)

-- n built arguments, whose references stand from an address on.
abbrev pub done_of : List ℕ → ℕ → ℕ → Terms
done_of values base n = args (denote 0 (cells values)) (cells values) base n

abbrev pub symbol_at : List ℕ → Rows → ℕ → ℕ
symbol_at pattern stack d = symbol_of (cells pattern (column 0 stack d))

-- The first d rows as open nodes, each of which waits for the argument that it took last.
abbrev pub frames_of : List ℕ → List ℕ → Rows → ℕ → List Frame
frames_of pattern values stack zero = []
frames_of pattern values stack (suc d) =
    frame (symbol_at pattern stack d) (done_of values (column 2 stack d) (column 1 stack d - 1)) (rest_of pattern stack d) ∷ frames_of pattern values stack d

-- The place of the reference that the first d rows wait for.
abbrev pub Places : ℕ → Rows → ℕ → ℕ → Type 0
Places limit stack zero top = top ≡ limit
Places limit stack (suc d) top = (0 < column 1 stack d) × (top + 1 ≡ column 2 stack d + column 1 stack d) × Places limit stack d (column 2 stack d)

-- What the first d rows will still put on the stacks, and how much there is left to do.
abbrev pub owed : List ℕ → Rows → ℕ → ℕ
owed pattern stack zero = 0
owed pattern stack (suc d) = words (rest_of pattern stack d) + count (rest_of pattern stack d) + owed pattern stack d

abbrev pub work : List ℕ → Rows → ℕ → ℕ
work pattern stack zero = 0
work pattern stack (suc d) = size (rest_of pattern stack d) + work pattern stack d

-- A node of the pattern of which k arguments were taken.
pub record Open (pattern : List ℕ) (bound a k : ℕ) : Type 0 where
  pub inside : a < bound
  pub header : headers ≤ cells pattern a
  pub few : k ≤ arity_of (cells pattern a)

-- What a turn comes to, for all values that the environment may hold.
abbrev pub Comes : List ℕ → ℕ → List ℕ → List ℕ → ℕ → ℕ → (Bindings → Built single) → Type 0
Comes pattern reference environment values₀ used₀ limit now =
    (β : Bindings) → Holds environment values₀ used₀ β → now β ≡ instantiate_of limit β (pattern_at pattern reference) used₀

module _ (pattern : List ℕ) (reference : ℕ) (environment values₀ : List ℕ) (used₀ limit : ℕ) where
  -- A pattern waits to be built.
  pub record Waiting (bound : ℕ) (values : List ℕ) (stack : Rows) (depth top spent next : ℕ) : Type 0 where
    pub ahead : Reference pattern_room (cells pattern) pattern_room bound next
    pub places : Places limit stack depth top
    pub room : depth + top + words (pattern_at pattern next) + owed pattern stack depth ≤ limit + rule_words
    pub comes : Comes pattern reference environment values₀ used₀ limit
        (λ β. if_built (instantiate_of limit β (pattern_at pattern next) spent) (λ t v. carry limit β (frames_of pattern values stack depth) t v))

  -- All is built.
  pub record Finished (values : List ℕ) (top spent : ℕ) : Type 0 where
    pub one : top ≡ limit + 1
    pub comes : Comes pattern reference environment values₀ used₀ limit (λ β. built (value_at values (cells values limit)) spent)

  -- The open node of row d goes on.
  pub record Going (values : List ℕ) (stack : Rows) (d top spent : ℕ) : Type 0 where
    pub taken : top ≡ column 2 stack d + column 1 stack d
    pub places : Places limit stack d (column 2 stack d)
    pub room : d + top + owed pattern stack (suc d) ≤ limit + rule_words
    pub comes : Comes pattern reference environment values₀ used₀ limit
        (λ β. resume limit β (symbol_at pattern stack d) (done_of values (column 2 stack d) (column 1 stack d)) (rest_of pattern stack d) (frames_of pattern values stack d) spent)

  abbrev pub Idle : List ℕ → Rows → ℕ → ℕ → ℕ → Type 0
  Idle values stack zero top spent = Finished values top spent
  Idle values stack (suc d) top spent = Going values stack d top spent

  abbrev pub Moment : Bool → ℕ → List ℕ → Rows → ℕ → ℕ → ℕ → ℕ → Type 0
  Moment true bound values stack depth top spent next = Waiting bound values stack depth top spent next
  Moment false bound values stack depth top spent next = Idle values stack depth top spent

-- What holds at each turn.
pub record Turn (pattern : List ℕ) (reference : ℕ) (environment values₀ : List ℕ) (used₀ limit : ℕ) (stack₀ : Rows)
    (values : List ℕ) (stack : Rows) (depth top spent next : ℕ) (waiting : Bool) : Type 0 where
  pub asked : InstantiateAsked pattern reference environment values₀ used₀ limit stack₀
  pub kept : length values ≡ length values₀
  pub keeps : length stack ≡ length stack₀
  pub stored : Values values spent
  pub same : Same 0 (cells values₀) (cells values) used₀
  pub grows : used₀ ≤ spent
  pub within : spent ≤ limit
  pub forms : FormsKept pattern values₀ used₀ values spent
  pub slots : (i : ℕ) → limit ≤ i → i < top → Value values spent (cells values i)
  pub rows : (i : ℕ) → i < depth → Open pattern asked.size (column 0 stack i) (column 1 stack i)
  pub moment : Moment pattern reference environment values₀ used₀ limit waiting asked.size values stack depth top spent next

-- What is left to do.
abbrev pub waits : List ℕ → ℕ → Bool → ℕ
waits pattern next true = 4 * size (pattern_at pattern next)
waits pattern next false = 1

abbrev pub left : List ℕ → Rows → ℕ → ℕ → Bool → ℕ
left pattern stack depth next waiting = waits pattern next waiting + 4 * work pattern stack depth + 2 * depth

-- Laws of the parts

pub places_high : (limit : ℕ) (stack : Rows) (d top : ℕ) → Places limit stack d top → limit ≤ top
places_high limit stack zero top h = omega arith
places_high limit stack (suc d) top h =
    let a = h.0 in let b = h.1 in let c = places_high limit stack d (column 2 stack d) h.2 in omega arith

-- References at two places that denote the same.
args_move : (g g' : ℕ → Term) (w w' : Cells) (p p' n : ℕ) → ((i : ℕ) → i < n → g (w (p + i)) ≡ g' (w' (p' + i))) → args g w p n ≡ args g' w' p' n
args_move g g' w w' p p' zero h = refl
args_move g g' w w' p p' (suc n) h =
    let e : p + 0 ≡ p = omega arith in
    let e' : p' + 0 ≡ p' = omega arith in
    let h₀ : g (w (p + 0)) ≡ g' (w' (p' + 0)) = h 0 (omega arith) in
    ap₂ cons (rw (e, e') at h₀) (args_move g g' w w' (suc p) (suc p') n (λ i l. let d : p + suc i ≡ suc p + i = omega arith in
    let d' : p' + suc i ≡ suc p' + i = omega arith in
    let h₁ : g (w (p + suc i)) ≡ g' (w' (p' + suc i)) = h (suc i) (omega arith) in rw (d, d') at h₁))

-- The open nodes are the same where the references that they have built denote the same.
frames_same : (pattern : List ℕ) (limit : ℕ) (values values' : List ℕ) (stack : Rows) (d top : ℕ) → Places limit stack d top
    → ((k : ℕ) → limit ≤ k → k < top → value_at values (cells values k) ≡ value_at values' (cells values' k))
    → frames_of pattern values stack d ≡ frames_of pattern values' stack d
frames_same pattern limit values values' stack zero top h s = refl
frames_same pattern limit values values' stack (suc d) top h s =
    let a = h.0 in let b = h.1 in let c = places_high limit stack d (column 2 stack d) h.2 in
    ap₂ (λ (ts : Terms) (fs : List Frame). frame (symbol_at pattern stack d) ts (rest_of pattern stack d) ∷ fs)
    (args_same 0 (denote 0 (cells values)) (denote 0 (cells values')) (cells values) (cells values') (column 2 stack d) (column 1 stack d - 1)
    (λ i l. s (column 2 stack d + i) (omega arith) (omega arith)))
    (frames_same pattern limit values values' stack d (column 2 stack d) h.2 (λ k l m. s k l (omega arith)))

-- Rows written at d or above leave the first d rows as they are.
column_set : (k : ℕ) (rows : Rows) (i d : ℕ) (row : List ℕ) → d < i → column k (set rows i row) d ≡ column k rows d
column_set k rows i d row l = ap (λ (r : List ℕ). get_or r k 0) (get_or-set_other rows i d row [] (λ q. omega arith))

module _ (pattern : List ℕ) (stack : Rows) (i : ℕ) (row : List ℕ) where
  frames_set : (values : List ℕ) (d : ℕ) → d ≤ i → frames_of pattern values (set stack i row) d ≡ frames_of pattern values stack d
  frames_set values zero l = refl
  frames_set values (suc d) l =
      let e : get_or (set stack i row) d [] ≡ get_or stack d [] = get_or-set_other stack i d row [] (λ q. omega arith) in
      rw (e, frames_set values d (omega arith))

  owed_set : (d : ℕ) → d ≤ i → owed pattern (set stack i row) d ≡ owed pattern stack d
  owed_set zero l = refl
  owed_set (suc d) l =
      let e : get_or (set stack i row) d [] ≡ get_or stack d [] = get_or-set_other stack i d row [] (λ q. omega arith) in
      rw (e, owed_set d (omega arith))

  work_set : (d : ℕ) → d ≤ i → work pattern (set stack i row) d ≡ work pattern stack d
  work_set zero l = refl
  work_set (suc d) l =
      let e : get_or (set stack i row) d [] ≡ get_or stack d [] = get_or-set_other stack i d row [] (λ q. omega arith) in
      rw (e, work_set d (omega arith))

  places_set : (limit d top : ℕ) → d ≤ i → Places limit stack d top → Places limit (set stack i row) d top
  places_set limit zero top l h = h
  places_set limit (suc d) top l h =
      let e : get_or (set stack i row) d [] ≡ get_or stack d [] = get_or-set_other stack i d row [] (λ q. omega arith) in
      rw e (h.0, h.1, places_set limit d (get_or (get_or stack d []) 2 0) (omega arith) h.2)

-- An environment holds the same values in words that have grown.
pub holds_grown : {environment values₀ values : List ℕ} {used₀ spent : ℕ} (β : Bindings) → Values values₀ used₀ → Same 0 (cells values₀) (cells values) used₀ → used₀ ≤ spent
    → Holds environment values₀ used₀ β → Holds environment values spent β
holds_grown {environment} {values₀} {values} {used₀} {spent} β v s g h = record { valued = λ x l. grown (get_or environment x 0) (lookup β x) (h.valued x l) }
  where
    grown : (e : ℕ) (o : Option Term) → Valued values₀ used₀ e o → Valued values spent e o
    grown e none k = k
    grown e (some t) k = (
      k.0,
      reference_up 0 (omega arith) g (reference_same 0 s k.1),
      sym (frame_denote 0 (cells values₀) 0 used₀ v.formed (cells values) s (e - 1) k.1) ∙ k.2,
    )

pub turn_start : {pattern : List ℕ} {reference : ℕ} {environment values : List ℕ} {used limit : ℕ} {stack : Rows}
    → InstantiateAsked pattern reference environment values used limit stack
    → Turn pattern reference environment values used limit stack values stack 0 limit used reference true
turn_start {limit = limit} h = record {
  asked = h;
  kept = refl;
  keeps = refl;
  stored = h.stored;
  same = λ i l. refl;
  grows = omega arith;
  within = h.fits;
  forms = λ arities d f. f;
  slots = λ i l m. let z : ⊥ = omega arith in absurd z;
  rows = λ i l. let z : ⊥ = omega arith in absurd z;
  moment = record {
    ahead = h.patterned.root;
    places = refl;
    room = let s = h.patterned.small in omega arith;
    comes = λ β k. carry_alone limit β _;
  };
}

-- The stack that was lent may be another of the same length.
pub turn_lent : {pattern : List ℕ} {reference : ℕ} {environment values₀ : List ℕ} {used₀ limit : ℕ} {stack₀ : Rows}
    {values : List ℕ} {stack : Rows} {depth top spent next : ℕ} {waiting : Bool} (stack₁ : Rows) → length stack₁ ≡ length stack₀
    → Turn pattern reference environment values₀ used₀ limit stack₀ values stack depth top spent next waiting
    → Turn pattern reference environment values₀ used₀ limit stack₁ values stack depth top spent next waiting
turn_lent stack₁ e h = record {
  asked = record {
    size = h.asked.size;
    patterned = h.asked.patterned;
    stored = h.asked.stored;
    long = h.asked.long;
    known = h.asked.known;
    fits = h.asked.fits;
    low = h.asked.low;
    scratch = h.asked.scratch;
    rows = let r = h.asked.rows in omega arith;
  };
  kept = h.kept;
  keeps = h.keeps ∙ sym e;
  stored = h.stored;
  same = h.same;
  grows = h.grows;
  within = h.within;
  forms = h.forms;
  slots = h.slots;
  rows = h.rows;
  moment = h.moment;
}

module _ {pattern : List ℕ} {reference : ℕ} {environment values₀ : List ℕ} {used₀ limit : ℕ} {stack₀ : Rows}
    {values : List ℕ} {stack : Rows} {depth top spent next : ℕ} {waiting : Bool}
    (h : Turn pattern reference environment values₀ used₀ limit stack₀ values stack depth top spent next waiting) where
  -- A value is given to the open nodes: its reference v stands at the place that waits for it, in words that may have grown.
  module _ (values' : List ℕ) (d place spent' v : ℕ) (t : Term) (places : Places limit stack d place) (fewer : d ≤ depth) (lower : place ≤ top)
      (kept : length values' ≡ length values) (stored : Values values' spent') (same : Same 0 (cells values) (cells values') spent) (grows : spent ≤ spent')
      (within : spent' ≤ limit) (others : (k : ℕ) → limit ≤ k → k < place → cells values' k ≡ cells values k) (put : cells values' place ≡ v)
      (good : Value values' spent' v) (is : value_at values' v ≡ t) where
    abbrev all : (k : ℕ) → limit ≤ k → k < place → value_at values (cells values k) ≡ value_at values' (cells values' k)
    all k l m = frame_denote 0 (cells values) 0 spent h.stored.formed (cells values') same (cells values k) (h.slots k l (omega arith))
        ∙ ap (value_at values') (sym (others k l m))

    at_place : value_at values' (cells values' place) ≡ t
    at_place = ap (value_at values') put ∙ is

    given_idle : (e : ℕ) → e ≡ d → e + place + owed pattern stack e ≤ limit + rule_words
        → Comes pattern reference environment values₀ used₀ limit (λ β. carry limit β (frames_of pattern values stack e) t spent')
        → Idle pattern reference environment values₀ used₀ limit values' stack e (place + 1) spent'
    given_idle zero q room comes =
        let z : Places limit stack 0 place = subst (λ (n : ℕ). Places limit stack n place) (sym q) places in
        let y : place ≡ limit = z in
        record {
          one = omega arith;
          comes = λ β k. ap (λ (u : Term). built u spent') (ap (λ (n : ℕ). value_at values' (cells values' n)) (sym y) ∙ at_place) ∙ comes β k;
        }
    given_idle (suc e) q room comes =
        let z : Places limit stack (suc e) place = subst (λ (n : ℕ). Places limit stack n place) (sym q) places in
        let a = z.0 in let b = z.1 in let c = places_high limit stack e (column 2 stack e) z.2 in
        let m : column 1 stack e ≡ suc (column 1 stack e - 1) = omega arith in
        let p : column 2 stack e + (column 1 stack e - 1) ≡ place = omega arith in
        let fs : frames_of pattern values stack e ≡ frames_of pattern values' stack e =
        frames_same pattern limit values values' stack e (column 2 stack e) z.2 (λ k l n. all k l (omega arith)) in
        let ds : done_of values (column 2 stack e) (column 1 stack e - 1) ≡ done_of values' (column 2 stack e) (column 1 stack e - 1) =
        args_same 0 (denote 0 (cells values)) (denote 0 (cells values')) (cells values) (cells values') (column 2 stack e) (column 1 stack e - 1)
        (λ i l. all (column 2 stack e + i) (omega arith) (omega arith)) in
        let more : append (done_of values (column 2 stack e) (column 1 stack e - 1)) (cons t nil) ≡ done_of values' (column 2 stack e) (column 1 stack e) =
        ap₂ (λ (ts : Terms) (u : Term). append ts (cons u nil)) ds (sym (ap (λ (n : ℕ). value_at values' (cells values' n)) p ∙ at_place))
        ∙ sym (args_more (denote 0 (cells values')) (cells values') (column 2 stack e) (column 1 stack e - 1))
        ∙ ap (λ (n : ℕ). done_of values' (column 2 stack e) n) (sym m) in
        record {
          taken = b;
          places = z.2;
          room = omega arith;
          comes = λ β k.
              ap₂ (λ (ts : Terms) (gs : List Frame). resume limit β (symbol_at pattern stack e) ts (rest_of pattern stack e) gs spent') (sym more) (sym fs)
              ∙ sym (carry_given limit β (symbol_at pattern stack e) (done_of values (column 2 stack e) (column 1 stack e - 1)) t (rest_of pattern stack e) (frames_of pattern values stack e) spent')
              ∙ comes β k;
        }

    given_turn : d + place + owed pattern stack d ≤ limit + rule_words
        → Comes pattern reference environment values₀ used₀ limit (λ β. carry limit β (frames_of pattern values stack d) t spent')
        → FormsKept pattern values spent values' spent'
        → Turn pattern reference environment values₀ used₀ limit stack₀ values' stack d (place + 1) spent' next false
    given_turn room comes forms =
        let g = h.grows in
        record {
          asked = h.asked;
          kept = kept ∙ h.kept;
          keeps = h.keeps;
          stored = stored;
          same = λ i l. h.same i l ∙ same i (omega arith);
          grows = omega arith;
          within = within;
          forms = λ arities e f. forms arities e (h.forms arities e f);
          slots = λ i l m. by_same i place
              (λ p q. subst (λ (n : ℕ). Value values' spent' (cells values' n)) (sym p) (subst (λ (r : ℕ). Value values' spent' r) (sym put) good))
              (λ p q. let n : i < place = by_less i place (λ x y. x) (λ x y. absurd (p (omega arith))) in
              subst (λ (r : ℕ). Value values' spent' r) (sym (others i l n)) (reference_up 0 (omega arith) grows (reference_same 0 same (h.slots i l (omega arith)))));
          rows = λ i l. h.rows i (omega arith);
          moment = given_idle d refl room comes;
        }

  -- A pattern waits.
  module _ (q : waiting ≡ true) where
    abbrev here : Waiting pattern reference environment values₀ used₀ limit h.asked.size values stack depth top spent next
    here = subst (λ (b : Bool). Moment pattern reference environment values₀ used₀ limit b h.asked.size values stack depth top spent next) q h.moment

    pub top_inside : (top < length values) × (limit ≤ top) × (top + 1 < 2097152)
    top_inside =
        let r = here.room in let s = h.asked.scratch in let k = h.kept in let l = h.asked.low in
        let p = places_high limit stack depth top here.places in
        (omega arith, p, omega arith)

    -- It is a variable.
    module _ (v : next < pattern_room) where
      abbrev is : pattern_at pattern next ≡ var next
      is = denote_variable pattern_room (cells pattern) next v

      pub in_environment : next < length environment
      in_environment = let l = h.asked.long in omega arith

      unbound : (β : Bindings) (o : Option Term) → get_or environment next 0 ≡ 0 → Valued values₀ used₀ (get_or environment next 0) o → value_of o spent ≡ barred 36
      unbound β none z k = refl
      unbound β (some t) z k = absurd (let a = k.0 in let y : ⊥ = omega arith in y)

      pub variable_unbound : get_or environment next 0 ≡ 0 → Instantiated pattern reference environment values₀ used₀ limit (Err Unbound) values
      unfolding instantiate_of
      variable_unbound z = record {
        tells = λ β k.
            let w : barred 36 ≡ instantiate_of limit β (pattern_at pattern reference) used₀ =
            ap (λ (o : Built single). if_built o (λ t u. carry limit β (frames_of pattern values stack depth) t u))
            (sym (ap (λ (p : Term). instantiate_of limit β p spent) is ∙ unbound β (lookup β next) z (k.valued next v)))
            ∙ here.comes β k in
            subst (λ (o : Built single). Tells o (Err Unbound) values₀ values used₀ limit) w refl;
        forms = unbuilt_forms pattern Unbound values₀ values used₀;
        kept = h.kept;
      }

      -- It has a value.
      module _ (n : get_or environment next 0 ≢ 0) where
        abbrev known_value : ℕ
        known_value = get_or environment next 0 - 1

        abbrev entered : List ℕ
        entered = set values top known_value

        bound_value : (o : Option Term) → Valued values spent (get_or environment next 0) o → Value values spent known_value × (value_of o spent ≡ built (value_at values known_value) spent)
        bound_value none k = absurd (n k)
        bound_value (some t) k = (k.1, ap (λ (u : Term). built u spent) (sym k.2))

        the_value : (β : Bindings) → Holds environment values₀ used₀ β → Value values spent known_value × (value_of (lookup β next) spent ≡ built (value_at values known_value) spent)
        the_value β k = bound_value (lookup β next) ((holds_grown β h.asked.stored h.same h.grows k).valued next v)

        same_entered : Same 0 (cells values) (cells entered) spent
        same_entered i l = let (a, b, c) = top_inside in let w = h.within in sym (get_or-set_other values top i known_value 0 (λ e. omega arith))

        pub less_value : left pattern stack depth next false < left pattern stack depth next waiting
        less_value = let s = size_pos (pattern_at pattern next) in rw q (omega arith)

        pub turn_value : Turn pattern reference environment values₀ used₀ limit stack₀ entered stack depth (top + 1) spent next false
        unfolding instantiate_of
        turn_value =
            let (a, b, c) = top_inside in
            let w = h.within in
            let (β₀, k₀) = h.asked.known in
            let good : Value values spent known_value = (the_value β₀ k₀).0 in
            let st : Values entered spent = record {
              formed = formed_same 0 same_entered h.stored.formed;
              within = let x = h.stored.within in let y = length-set values top known_value in omega arith;
              low = h.stored.low;
            } in
            given_turn entered depth top spent known_value (value_at values known_value) here.places (omega arith) (omega arith)
            (length-set values top known_value) st same_entered (omega arith) w
            (λ k l m. get_or-set_other values top k known_value 0 (λ e. omega arith))
            (get_or-set_same values top known_value 0 a)
            (reference_same 0 same_entered good)
            (sym (frame_denote 0 (cells values) 0 spent h.stored.formed (cells entered) same_entered known_value good))
            (let r = here.room in omega arith)
            (λ β k. ap (λ (o : Built single). if_built o (λ t u. carry limit β (frames_of pattern values stack depth) t u))
            (sym (ap (λ (p : Term). instantiate_of limit β p spent) is ∙ (the_value β k).1)) ∙ here.comes β k)
            (forms_same pattern values entered spent h.stored.within st.within same_entered)

    -- It is a node.
    module _ (v : pattern_room ≤ next) where
      abbrev address : ℕ
      address = next - pattern_room

      abbrev arity : ℕ
      arity = arity_of (cells pattern address)

      abbrev inner : Terms
      inner = args (denote pattern_room (cells pattern)) (cells pattern) (suc address) arity

      is_node : pattern_at pattern next ≡ app (symbol_of (cells pattern address)) inner
      is_node = denote_node pattern_room (cells pattern) pattern_room h.asked.size h.asked.patterned.formed next here.ahead v

      abbrev row : List ℕ
      row = address ∷ 0 ∷ top ∷ []

      abbrev opened : Rows
      opened = set stack depth row

      room_node : depth + top + suc (arity + words inner) + owed pattern stack depth ≤ limit + rule_words
      room_node =
          let c = count_args (denote pattern_room (cells pattern)) (cells pattern) (suc address) arity in
          let r : depth + top + words (app (symbol_of (cells pattern address)) inner) + owed pattern stack depth ≤ limit + rule_words = rw is_node at here.room in
          omega arith

      pub free_row : depth < length stack
      free_row = let r = room_node in let (a, b, c) = top_inside in let k = h.keeps in let s = h.asked.rows in omega arith

      abbrev put : get_or opened depth [] ≡ row
      put = get_or-set_same stack depth row [] free_row

      rest_is : rest_of pattern opened depth ≡ inner
      rest_is =
          let e : suc (address + 0) ≡ suc address = omega arith in
          let f : arity - 0 ≡ arity = omega arith in
          rw (put, e, f)

      pub less_enter : left pattern opened (depth + 1) next false < left pattern stack depth next waiting
      less_enter =
          let w = work_set pattern stack depth row depth (omega arith) in
          let s : size (pattern_at pattern next) ≡ suc (size inner) = ap size is_node in
          let x : work pattern opened (depth + 1) ≡ size inner + work pattern stack depth =
          ap (work pattern opened) (add-one depth) ∙ ap₂ (λ (ts : Terms) (n : ℕ). size ts + n) rest_is w in
          rw q (omega arith)

      pub turn_enter : Turn pattern reference environment values₀ used₀ limit stack₀ values opened (depth + 1) top spent next false
      turn_enter =
          let p = here.places in
          let g : Going pattern reference environment values₀ used₀ limit values opened depth top spent = record {
            taken = rw put (omega arith);
            places = subst (λ (r : List ℕ). Places limit opened depth (get_or r 2 0)) (sym put) (places_set pattern stack depth row limit depth top (omega arith) p);
            room = (let c = count_args (denote pattern_room (cells pattern)) (cells pattern) (suc address) arity in
                let o = owed_set pattern stack depth row depth (omega arith) in
                let a : words (rest_of pattern opened depth) ≡ words inner = ap words rest_is in
                let b : count (rest_of pattern opened depth) ≡ count inner = ap count rest_is in
                let r = room_node in omega arith);
            comes = λ β k.
                ap₂ (λ (ts : Terms) (fs : List Frame). resume limit β (symbol_at pattern opened depth) (done_of values (column 2 opened depth) (column 1 opened depth)) ts fs spent)
                rest_is (frames_set pattern stack depth row values depth (omega arith))
                ∙ ap (λ (r : List ℕ). resume limit β (symbol_of (cells pattern (get_or r 0 0))) (done_of values (get_or r 2 0) (get_or r 1 0)) inner (frames_of pattern values stack depth) spent) put
                ∙ sym (resume_entered limit β (symbol_of (cells pattern address)) inner (frames_of pattern values stack depth) spent)
                ∙ ap (λ (t : Term). if_built (instantiate_of limit β t spent) (λ u w. carry limit β (frames_of pattern values stack depth) u w)) (sym is_node)
                ∙ here.comes β k;
          } in
          record {
            asked = h.asked;
            kept = h.kept;
            keeps = length-set stack depth row ∙ h.keeps;
            stored = h.stored;
            same = h.same;
            grows = h.grows;
            within = h.within;
            forms = h.forms;
            slots = h.slots;
            rows = λ i l. by_same i depth
                (λ e r. rw (e, put) (record {
                  inside = let n = here.ahead.node v in omega arith;
                  header = here.ahead.header v;
                  few = omega arith;
                }))
                (λ e r. rw (get_or-set_other stack depth i row [] e) (h.rows i (by_less i depth (λ k s. k) (λ k s. absurd (e (omega arith))))));
            moment = subst (λ (n : ℕ). Idle pattern reference environment values₀ used₀ limit values opened n top spent) (sym (add-one depth)) g;
          }

  -- None waits.
  module _ (q : waiting ≡ false) where
    abbrev there : Idle pattern reference environment values₀ used₀ limit values stack depth top spent
    there = subst (λ (b : Bool). Moment pattern reference environment values₀ used₀ limit b h.asked.size values stack depth top spent next) q h.moment

    pub turn_done : depth ≡ 0 → Instantiated pattern reference environment values₀ used₀ limit (built_at (cells values limit) spent) values
    turn_done z =
        let f : Finished pattern reference environment values₀ used₀ limit values top spent =
        subst (λ (n : ℕ). Idle pattern reference environment values₀ used₀ limit values stack n top spent) z there in
        let o = f.one in
        record {
          tells = λ β k. subst (λ (b : Built single). Tells b (built_at (cells values limit) spent) values₀ values used₀ limit) (f.comes β k) (
            cells values limit,
            refl,
            record {
              stored = h.stored;
              root = h.slots limit (omega arith) (omega arith);
              is = refl;
              same = h.same;
              grows = h.grows;
              within = h.within;
            },
          );
          forms = built_forms pattern (cells values limit) spent values₀ values used₀ h.forms;
          kept = h.kept;
        }

    -- A node is open.
    module _ (n : depth ≢ 0) where
      abbrev last : ℕ
      last = depth - 1

      abbrev is_suc : depth ≡ suc last
      is_suc = omega arith

      abbrev going : Going pattern reference environment values₀ used₀ limit values stack last top spent
      going = subst (λ (m : ℕ). Idle pattern reference environment values₀ used₀ limit values stack m top spent) is_suc there

      abbrev at : ℕ
      at = column 0 stack last

      abbrev taken : ℕ
      taken = column 1 stack last

      abbrev base : ℕ
      base = column 2 stack last

      abbrev header : ℕ
      header = cells pattern at

      abbrev opened_row : Open pattern h.asked.size at taken
      opened_row = h.rows last (omega arith)

      abbrev high : limit ≤ base
      high = places_high limit stack last base going.places

      -- The row and its node lie in the storage.
      pub record Facts : Type 0 where
        pub row : last < length stack
        pub node : at < length pattern
        pub behind : at + arity_of header < length pattern
        pub small : at + arity_of header < headers
        pub few : taken ≤ arity_of header
        pub above : limit ≤ base
        pub full : base + taken ≤ limit + rule_words
        pub scratch : limit + rule_words < length values
        pub fits : spent ≤ limit
        pub low : limit ≤ headers

      pub facts : Facts
      facts =
          let t = going.taken in let r = going.room in let a = opened_row.inside in let f = opened_row.few in
          let g = h.asked.patterned.formed.fits at a opened_row.header in
          let w = h.asked.patterned.within in let l = h.asked.patterned.low in
          let b = h.asked.rows in let k = h.keeps in let c = h.asked.scratch in let v = h.kept in
          record {
            row = (let p = high in omega arith);
            node = omega arith;
            behind = omega arith;
            small = omega arith;
            few = f;
            above = high;
            full = omega arith;
            scratch = omega arith;
            fits = h.within;
            low = h.asked.low;
          }

      -- The next argument is taken.
      module _ (o : taken < arity_of header) where
        abbrev step_row : List ℕ
        step_row = at ∷ (taken + 1) ∷ base ∷ []

        abbrev stepped : Rows
        stepped = set stack last step_row

        abbrev following : ℕ
        following = cells pattern (at + 1 + taken)

        abbrev step_put : get_or stepped last [] ≡ step_row
        step_put = get_or-set_same stack last step_row [] facts.row

        rest_first : rest_of pattern stack last ≡ cons (pattern_at pattern following) (rest_of pattern stepped last)
        rest_first =
            let m : arity_of header - taken ≡ suc (arity_of header - (taken + 1)) = omega arith in
            let e : suc (at + taken) ≡ at + 1 + taken = omega arith in
            let e' : suc (suc (at + taken)) ≡ suc (at + (taken + 1)) = omega arith in
            ap (λ (k : ℕ). args (denote pattern_room (cells pattern)) (cells pattern) (suc (at + taken)) k) m
            ∙ ap₂ (λ (i j : ℕ). cons (pattern_at pattern (cells pattern i)) (args (denote pattern_room (cells pattern)) (cells pattern) j (arity_of header - (taken + 1)))) e e'
            ∙ ap (λ (r : List ℕ). cons (pattern_at pattern following) (args (denote pattern_room (cells pattern)) (cells pattern) (suc (get_or r 0 0 + get_or r 1 0))
            (arity_of (cells pattern (get_or r 0 0)) - get_or r 1 0))) (sym step_put)

        pub less_next : left pattern stepped depth following true < left pattern stack depth next waiting
        less_next =
            let a : work pattern stack depth ≡ size (rest_of pattern stack last) + work pattern stack last = ap (work pattern stack) is_suc in
            let b : work pattern stepped depth ≡ size (rest_of pattern stepped last) + work pattern stepped last = ap (work pattern stepped) is_suc in
            let w = work_set pattern stack last step_row last (omega arith) in
            let s : size (rest_of pattern stack last) ≡ suc (size (pattern_at pattern following) + size (rest_of pattern stepped last)) = ap size rest_first in
            rw q (omega arith)

        waits_next : Waiting pattern reference environment values₀ used₀ limit h.asked.size values stepped (suc last) top spent following
        waits_next =
            let t = going.taken in
            record {
              ahead = (let e : suc (pattern_room + at - pattern_room) + taken ≡ at + 1 + taken = omega arith in
                  let z : pattern_room + at - pattern_room ≡ at = omega arith in
                  let i = opened_row.inside in
                  let root : Reference pattern_room (cells pattern) pattern_room h.asked.size (pattern_room + at) = record {
                    variable = λ l. let y : ⊥ = omega arith in absurd y;
                    node = λ l. omega arith;
                    header = λ l. rw z opened_row.header;
                  } in
                  let r = reference_argument pattern_room (cells pattern) pattern_room h.asked.size h.asked.patterned.formed (pattern_room + at) taken root (omega arith) (rw z o) in
                  rw e at r);
              places = subst (λ (r : List ℕ). (0 < get_or r 1 0) × (top + 1 ≡ get_or r 2 0 + get_or r 1 0) × Places limit stepped last (get_or r 2 0)) (sym step_put) (
                let y : 0 < taken + 1 = omega arith in y,
                let y : top + 1 ≡ base + (taken + 1) = omega arith in y,
                places_set pattern stack last step_row limit last base (omega arith) going.places,
              );
              room = (let r = going.room in
                  let w = owed_set pattern stack last step_row last (omega arith) in
                  let a : words (rest_of pattern stack last) ≡ words (pattern_at pattern following) + words (rest_of pattern stepped last) = ap words rest_first in
                  let b : count (rest_of pattern stack last) ≡ suc (count (rest_of pattern stepped last)) = ap count rest_first in
                  omega arith);
              comes = λ β k.
                  let m : taken + 1 - 1 ≡ taken = omega arith in
                  ap₂ (λ (r : List ℕ) (fs : List Frame). if_built (instantiate_of limit β (pattern_at pattern following) spent)
                  (λ u v. carry limit β (frame (symbol_of (cells pattern (get_or r 0 0))) (done_of values (get_or r 2 0) (get_or r 1 0 - 1)) (rest_of pattern stepped last) ∷ fs) u v))
                  step_put (frames_set pattern stack last step_row values last (omega arith))
                  ∙ ap (λ (j : ℕ). if_built (instantiate_of limit β (pattern_at pattern following) spent)
                  (λ u v. carry limit β (frame (symbol_at pattern stack last) (done_of values base j) (rest_of pattern stepped last) ∷ frames_of pattern values stack last) u v)) m
                  ∙ sym (resume_next limit β (symbol_at pattern stack last) (done_of values base taken) (pattern_at pattern following) (rest_of pattern stepped last) (frames_of pattern values stack last) spent)
                  ∙ ap (λ (ts : Terms). resume limit β (symbol_at pattern stack last) (done_of values base taken) ts (frames_of pattern values stack last) spent) (sym rest_first)
                  ∙ going.comes β k;
            }

        pub turn_next : Turn pattern reference environment values₀ used₀ limit stack₀ values stepped depth top spent following true
        turn_next = record {
          asked = h.asked;
          kept = h.kept;
          keeps = length-set stack last step_row ∙ h.keeps;
          stored = h.stored;
          same = h.same;
          grows = h.grows;
          within = h.within;
          forms = h.forms;
          slots = h.slots;
          rows = λ i l. by_same i last
              (λ e r. rw (e, step_put) (record { inside = opened_row.inside; header = opened_row.header; few = omega arith }))
              (λ e r. rw (get_or-set_other stack last i step_row [] e) (h.rows i l));
          moment = subst (λ (m : ℕ). Waiting pattern reference environment values₀ used₀ limit h.asked.size values stepped m top spent following) (sym is_suc) waits_next;
        }

      -- All arguments are built.
      module _ (o : arity_of header ≤ taken) where
        abbrev inputs : ℕ
        inputs = arity_of header

        abbrev all_taken : taken ≡ inputs
        all_taken = let f = facts.few in omega arith

        abbrev done : Terms
        done = done_of values base inputs

        done_count : count done ≡ inputs
        done_count = count_args (denote 0 (cells values)) (cells values) base inputs

        rest_none : rest_of pattern stack last ≡ nil
        rest_none =
            let z : inputs - taken ≡ 0 = omega arith in
            ap (λ (k : ℕ). args (denote pattern_room (cells pattern)) (cells pattern) (suc (at + taken)) k) z

        builds : (β : Bindings) → Holds environment values₀ used₀ β
            → if_built (build_node limit (symbol_at pattern stack last) done spent) (λ w x. carry limit β (frames_of pattern values stack last) w x)
            ≡ instantiate_of limit β (pattern_at pattern reference) used₀
        builds β k =
            sym (resume_full limit β (symbol_at pattern stack last) done (frames_of pattern values stack last) spent)
            ∙ ap₂ (λ (ts : Terms) (j : ℕ). resume limit β (symbol_at pattern stack last) (done_of values base j) ts (frames_of pattern values stack last) spent) (sym rest_none) (sym all_taken)
            ∙ going.comes β k

        pub node_refused : limit - spent ≤ inputs → Instantiated pattern reference environment values₀ used₀ limit (Err OverLimit) values
        node_refused l = record {
          tells = λ β k.
              let c = done_count in let w = h.within in
              let e : barred 37 ≡ instantiate_of limit β (pattern_at pattern reference) used₀ =
              ap (λ (b : Built single). if_built b (λ x y. carry limit β (frames_of pattern values stack last) x y))
              (sym (node_over limit (symbol_at pattern stack last) done spent (omega arith))) ∙ builds β k in
              subst (λ (b : Built single). Tells b (Err OverLimit) values₀ values used₀ limit) e refl;
          forms = unbuilt_forms pattern OverLimit values₀ values used₀;
          kept = h.kept;
        }

        -- There are words for the node.
        module _ (l : inputs < limit - spent) where
          pub push_room : (spent + suc inputs ≤ base) × (base + suc inputs ≤ length values)
          push_room = let f = facts in let a = f.above in let b = f.full in let c = f.scratch in let w = f.fits in (omega arith, omega arith)

          pub less_build : left pattern stack last next waiting < left pattern stack depth next waiting
          less_build = let a : work pattern stack depth ≡ size (rest_of pattern stack last) + work pattern stack last = ap (work pattern stack) is_suc in omega arith

          module _ (values' : List ℕ) (p : Pushed values spent header base inputs values') where
            same_pushed : Same 0 (cells values) (cells values') spent
            same_pushed i m = sym (p.below i m)

            argument_good : (i : ℕ) → i < inputs → Value values spent (cells values (base + i))
            argument_good i m = let f = facts in let a = f.above in let t = going.taken in h.slots (base + i) (omega arith) (omega arith)

            formed_pushed : WellFormed 0 (cells values') 0 (spent + suc inputs)
            formed_pushed =
                let e : arity_of (cells values' spent) ≡ inputs = ap arity_of p.head in
                let f = formed_node 0 (cells values') 0 spent (let x = h.stored.low in let y : 0 + spent ≤ headers = omega arith in y) (formed_same 0 same_pushed h.stored.formed)
                (rw p.head opened_row.header)
                (λ i m. let m' : i < inputs = rw e at m in rw (p.arguments i m') (reference_same 0 same_pushed (argument_good i m'))) in
                rw e at f

            root_pushed : Value values' (spent + suc inputs) spent
            root_pushed = record {
              variable = λ x. let y : ⊥ = omega arith in absurd y;
              node = λ x. omega arith;
              header = λ x. (let z : spent - 0 ≡ spent = omega arith in rw (z, p.head) opened_row.header);
            }

            is_pushed : value_at values' spent ≡ app (symbol_at pattern stack last) done
            is_pushed =
                let z : spent - 0 ≡ spent = omega arith in
                let d : value_at values' spent ≡ app (symbol_of (cells values' (spent - 0))) (args (denote 0 (cells values')) (cells values') (suc (spent - 0)) (arity_of (cells values' (spent - 0)))) =
                denote_node 0 (cells values') 0 (spent + suc inputs) formed_pushed spent root_pushed (omega arith) in
                d ∙ ap (λ (j : ℕ). app (symbol_of (cells values' j)) (args (denote 0 (cells values')) (cells values') (suc j) (arity_of (cells values' j)))) z
                ∙ ap (λ (w : ℕ). app (symbol_of w) (args (denote 0 (cells values')) (cells values') (suc spent) (arity_of w))) p.head
                ∙ ap (app (symbol_at pattern stack last)) (args_move (denote 0 (cells values')) (denote 0 (cells values)) (cells values') (cells values) (suc spent) base inputs (λ i m.
                let e : suc spent + i ≡ spent + suc i = omega arith in
                ap (λ (j : ℕ). value_at values' (cells values' j)) e ∙ ap (value_at values') (p.arguments i m)
                ∙ sym (frame_denote 0 (cells values) 0 spent h.stored.formed (cells values') same_pushed (cells values (base + i)) (argument_good i m))))

            built_turn : Turn pattern reference environment values₀ used₀ limit stack₀ values' stack last (base + 1) (spent + (inputs + 1)) next false
            built_turn =
                let f = facts in let w = f.fits in let a = f.above in let b = f.low in let c = f.scratch in let v = h.kept in let u = p.kept in let t = going.taken in
                let e : inputs + 1 ≡ suc inputs = omega arith in
                subst (λ (j : ℕ). Turn pattern reference environment values₀ used₀ limit stack₀ values' stack last (base + 1) (spent + j) next false) (sym e)
                (given_turn values' last base (spent + suc inputs) spent (app (symbol_at pattern stack last) done) going.places (omega arith) (omega arith)
                u (record { formed = formed_pushed; within = omega arith; low = omega arith }) same_pushed (omega arith) (omega arith)
                (λ k m r. p.others k (omega arith) (λ x. omega arith)) p.answer root_pushed is_pushed
                (let r = going.room in omega arith)
                (λ β k. let n = done_count in
                ap (λ (x : ℕ). carry limit β (frames_of pattern values stack last) (app (symbol_at pattern stack last) done) x) (let y : spent + suc inputs ≡ spent + suc (count done) = omega arith in y)
                ∙ ap (λ (x : Built single). if_built x (λ s y. carry limit β (frames_of pattern values stack last) s y))
                (sym (node_fits limit (symbol_at pattern stack last) done spent (omega arith)))
                ∙ builds β k)
                (λ arities d f. pushed_form p (let r = push_room.1 in omega arith) (omega arith) arities (d at opened_row.header) refl
                argument_good f))

            pub turn_build : Turn pattern reference environment values₀ used₀ limit stack₀ values' stack last (base + 1) (spent + (inputs + 1)) next waiting
            turn_build = subst (λ (b : Bool). Turn pattern reference environment values₀ used₀ limit stack₀ values' stack last (base + 1) (spent + (inputs + 1)) next b) (sym q) built_turn
