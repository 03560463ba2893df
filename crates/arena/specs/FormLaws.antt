-- Laws of words in form: they are well formed, each header is a known symbol's with its own arity, and each other word refers to a variable or to a
-- node of the same part.
use Rattle.std.specs.Prelude.{ℕ, zero, suc, ◌+◌, ◌-◌, ◌≤◌, ◌<◌, ◌≡◌, refl, true, ◌&&◌, not, List, [], ◌∷◌, get_or, take}
use native.Mathlib.Omega.{arith}
use Rattle.std.proofs.Common.{not-suc-le-zero, ◌∙◌, subst, ⊎_elim, get_or-take, get_or-drop}
use Rattle.std.proofs.Math.ListN.{length}
use Rattle.std.proofs.Math.Seq.{slice, length-slice}
use Rattle.std.proofs.lemmas.Bool.{and_parts}
use Rattle.terms.specs.Numbers.{same, less, less_yes, less_no, by_less, true_false, same_refl, same_true}
use Rattle.arena.specs.Cells.{headers, symbol_of, arity_of, Reference, WellFormed, low_or_high, cells}
use Rattle.arena.specs.NodeLaws.{formed_node}
use Rattle.arena.specs.Form.{inputs, is_header, Place, is_argument, nodes, in_form}

-- What the tests say.
not_less : (x y : ℕ) → not (less x y) ≡ true → y ≤ x
not_less x y e = by_less x y (λ l q. true_false (subst (λ b. not b ≡ true) q e) refl) (λ l q. l)

is_less : (x y : ℕ) → less x y ≡ true → x < y
is_less x y e = by_less x y (λ l q. l) (λ l q. true_false e q)

-- A header that the test accepts.
pub record Header (arities : List ℕ) (h : ℕ) : Type 0 where
  -- it is above all references,
  pub high : headers ≤ h
  -- its symbol is known,
  pub known : symbol_of h < length arities
  -- its arity is the symbol's own,
  pub own : arity_of h ≡ get_or arities (symbol_of h) 0
  -- and at most 16.
  pub few : arity_of h ≤ inputs

pub header_accepted : (arities : List ℕ) (h : ℕ) → is_header arities h ≡ true → Header arities h
unfolding is_header
header_accepted arities h e =
    let (a, e₁) = and_parts (not (less h headers)) _ e in
    let (b, e₂) = and_parts (less (symbol_of h) (length arities)) _ e₁ in
    let (c, d) = and_parts (same (arity_of h) (get_or arities (symbol_of h) 0)) _ e₂ in
    record { high = not_less h headers a; known = is_less (symbol_of h) (length arities) b; own = same_true c; few = not_less inputs (arity_of h) d }

-- A known symbol's header is accepted.
pub header_yes : (arities : List ℕ) (x : ℕ) → Header arities x → is_header arities x ≡ true
unfolding is_header
header_yes arities x h = rw (less_no h.high, less_yes h.known, ← h.own, same_refl (arity_of x), less_no h.few)

-- An argument that the test accepts.
pub argument_reference : (p : Place) (a r : ℕ) → is_argument p a r ≡ true → Reference p.room (cells p.words) p.variables a r
unfolding is_argument
argument_reference p a r e =
    by_less r p.room
    (λ l q. let v : less r p.variables ≡ true = rw q at e in
    let v' = is_less r p.variables v in
    record { variable = λ k. v'; node = λ k. let z : ⊥ = omega arith in absurd z; header = λ k. let z : ⊥ = omega arith in absurd z })
    (λ l q.
    let e₀ : (not (less r (p.room + p.from)) && (less r (p.room + a) && not (less (get_or p.words (r - p.room) 0) headers))) ≡ true = rw q at e in
    let e₁ = (and_parts (not (less r (p.room + p.from))) _ e₀).1 in
    let n = is_less r (p.room + a) (and_parts (less r (p.room + a)) _ e₁).0 in
    let h = not_less (get_or p.words (r - p.room) 0) headers (and_parts (less r (p.room + a)) _ e₁).1 in
    record { variable = λ k. let z : ⊥ = omega arith in absurd z; node = λ k. n; header = λ k. h })

pub argument_from : (p : Place) (a r : ℕ) → is_argument p a r ≡ true → p.room ≤ r → p.room + p.from ≤ r
unfolding is_argument
argument_from p a r e l =
    let q = less_no l in
    let e₀ : (not (less r (p.room + p.from)) && (less r (p.room + a) && not (less (get_or p.words (r - p.room) 0) headers))) ≡ true = rw q at e in
    not_less r (p.room + p.from) (and_parts (not (less r (p.room + p.from))) _ e₀).0

-- The test accepts every reference in form that is not before `from`.
pub reference_accepted : (p : Place) (a r : ℕ) → Reference p.room (cells p.words) p.variables a r → (p.room ≤ r → p.room + p.from ≤ r) → is_argument p a r ≡ true
unfolding is_argument
reference_accepted p a r h f =
    by_less r p.room
    (λ l q. rw q (less_yes (h.variable l)))
    (λ l q. rw (q, less_no (f l), less_yes (h.node l), less_no (h.header l)))

-- A word of the part that starts at `from`, below the address a: a header of a known symbol, or a variable, or a node from `from` on.
pub record Word (arities : List ℕ) (room variables from a x : ℕ) : Type 0 where
  -- a header is a known symbol's;
  pub header : headers ≤ x → Header arities x
  -- a variable is one of those counted;
  pub variable : x < room → x < variables
  -- a node is not before the part, and is an earlier one.
  pub from_on : room ≤ x → x < headers → room + from ≤ x
  pub below : room ≤ x → x < headers → x < room + a

module _ (p : Place) (arities : List ℕ) (top : ℕ) (small : p.room + top ≤ headers) where
  -- The words read up to the address `at`: all well formed, or a node at `node` of which `left` arguments are to come.
  record Open (at node left : ℕ) : Type 0 where
    formed : WellFormed p.room (cells p.words) p.variables node
    header : headers ≤ cells p.words node
    count : at + left ≡ node + suc (arity_of (cells p.words node))
    begun : node < at
    ok : (i : ℕ) → node + suc i < at → Reference p.room (cells p.words) p.variables node (cells p.words (node + suc i))

  abbrev Read : ℕ → ℕ → ℕ → Type 0
  Read at node zero = WellFormed p.room (cells p.words) p.variables at
  Read at node (suc left) = Open at node (suc left)

  -- A node of which nothing is to come is complete.
  complete : (at node left : ℕ) → node < top → Open at node left → Read at node left
  complete at node zero l h =
      let c = h.count in
      let e : node + suc (arity_of (cells p.words node)) ≡ at = omega arith in
      let f = formed_node p.room (cells p.words) p.variables node (omega arith) h.formed h.header (λ i m. h.ok i (omega arith)) in
      rw e at f
  complete at node (suc left) l h = h

  open_header : (at : ℕ) → WellFormed p.room (cells p.words) p.variables at → headers ≤ cells p.words at → Open (suc at) at (arity_of (cells p.words at))
  open_header at f h = record
      { formed = f; header = h; count = omega arith; begun = omega arith; ok = λ i m. let z : ⊥ = omega arith in absurd z }

  open_argument : (at node left : ℕ) → Open at node (suc left) → Reference p.room (cells p.words) p.variables node (cells p.words at) → Open (suc at) node left
  open_argument at node left h r =
      let c = h.count in
      let b = h.begun in
      record {
        formed = h.formed;
        header = h.header;
        count = omega arith;
        begun = omega arith;
        ok = λ i m. ⊎_elim (λ q. h.ok i q)
            (λ q. let e : node + suc i ≡ at = omega arith in rw e r)
            (low_or_high p.room (node + suc i) at);
      }

  accepted : (rest : List ℕ) (at node left : ℕ) → ((i : ℕ) → i < length rest → get_or rest i 0 ≡ cells p.words (at + i)) → at + length rest ≤ top → node ≤ at
      → nodes p arities rest at node left ≡ true → Read at node left → WellFormed p.room (cells p.words) p.variables (at + length rest)
  accepted [] at node zero s f b e h = let d : at + 0 ≡ at = omega arith in rw d h
  accepted [] at node (suc left) s f b e h = true_false e refl
  accepted (x ∷ rest) at node zero s f b e h =
      let d : at + 0 ≡ at = omega arith in
      let d' : at + suc (length rest) ≡ suc at + length rest = omega arith in
      let x₀ : x ≡ cells p.words (at + 0) = s 0 (omega arith) in
      let x₁ : x ≡ cells p.words at = rw d at x₀ in
      let hd = (header_accepted arities x (and_parts (is_header arities x) _ e).0).high in
      let o : Open (suc at) at (arity_of x) = rw x₁ (open_header at h (rw x₁ at hd)) in
      rw d' (accepted rest (suc at) at (arity_of x) (λ i l. let q : at + suc i ≡ suc at + i = omega arith in
      let s₁ : get_or rest i 0 ≡ cells p.words (at + suc i) = s (suc i) (omega arith) in rw q at s₁) (omega arith) (omega arith)
      (and_parts (is_header arities x) _ e).1 (complete (suc at) at (arity_of x) (omega arith) o))
  accepted (x ∷ rest) at node (suc left) s f b e h =
      let d : at + 0 ≡ at = omega arith in
      let d' : at + suc (length rest) ≡ suc at + length rest = omega arith in
      let x₀ : x ≡ cells p.words (at + 0) = s 0 (omega arith) in
      let x₁ : x ≡ cells p.words at = rw d at x₀ in
      let r = argument_reference p node x (and_parts (is_argument p node x) _ e).0 in
      rw d' (accepted rest (suc at) node left (λ i l. let q : at + suc i ≡ suc at + i = omega arith in
      let s₁ : get_or rest i 0 ≡ cells p.words (at + suc i) = s (suc i) (omega arith) in rw q at s₁) (omega arith) (omega arith)
      (and_parts (is_argument p node x) _ e).1 (complete (suc at) node left (omega arith) (open_argument at node left h (rw x₁ at r))))

  argument_word : (a b r : ℕ) → a ≤ b → b ≤ top → is_argument p a r ≡ true → Word arities p.room p.variables p.from b r
  argument_word a b r l m e =
      let h = argument_reference p a r e in
      record {
        header = λ q. let n = h.node (omega arith) in let z : ⊥ = omega arith in absurd z;
        variable = h.variable;
        from_on = λ q k. argument_from p a r e q;
        below = λ q k. let n = h.node q in omega arith;
      }

  header_word : (b h : ℕ) → p.room ≤ headers → is_header arities h ≡ true → Word arities p.room p.variables p.from b h
  header_word b h m e =
      let k = header_accepted arities h e in
      let t = k.high in
      record {
        header = λ q. k;
        variable = λ q. let z : ⊥ = omega arith in absurd z;
        from_on = λ q l. let z : ⊥ = omega arith in absurd z;
        below = λ q l. let z : ⊥ = omega arith in absurd z;
      }

  accepted_words : (rest : List ℕ) (at node left : ℕ) → at + length rest ≤ top → node ≤ at → nodes p arities rest at node left ≡ true
      → (i : ℕ) → i < length rest → Word arities p.room p.variables p.from (at + i) (get_or rest i 0)
  accepted_words [] at node left f b e i l = absurd (not-suc-le-zero l)
  accepted_words (x ∷ rest) at node zero f b e zero l = header_word (at + 0) x (omega arith) (and_parts (is_header arities x) _ e).0
  accepted_words (x ∷ rest) at node zero f b e (suc i) l =
      let q : at + suc i ≡ suc at + i = omega arith in
      rw q (accepted_words rest (suc at) at (arity_of x) (omega arith) (omega arith) (and_parts (is_header arities x) _ e).1 i (omega arith))
  accepted_words (x ∷ rest) at node (suc left) f b e zero l = argument_word node (at + 0) x (omega arith) (omega arith) (and_parts (is_argument p node x) _ e).0
  accepted_words (x ∷ rest) at node (suc left) f b e (suc i) l =
      let q : at + suc i ≡ suc at + i = omega arith in
      rw q (accepted_words rest (suc at) node left (omega arith) (omega arith) (and_parts (is_argument p node x) _ e).1 i (omega arith))

-- Words accepted from the address `from` up to `to`, all references to which are below the headers.
module _ (words : List ℕ) (from to room variables : ℕ) (arities : List ℕ) (order : from ≤ to) (long : to ≤ length words) (small : room + to ≤ headers)
    (accept : in_form words from to room variables arities ≡ true) where
  part_at : (i : ℕ) → i < length (slice from to words) → get_or (slice from to words) i 0 ≡ cells words (from + i)
  part_at i l =
      let n = length-slice from to words long in
      get_or-drop from (take to words) i 0 ∙ get_or-take to words (from + i) 0 (omega arith)

  -- Behind well formed words they are well formed.
  pub form_formed : WellFormed room (cells words) variables from → WellFormed room (cells words) variables to
  unfolding in_form
  form_formed h =
      let n = length-slice from to words long in
      let e : from + length (slice from to words) ≡ to = omega arith in
      let f = accepted (record { words = words; room = room; variables = variables; from = from }) arities to small (slice from to words) from from 0 part_at (omega arith) (omega arith) accept h in
      rw e at f

  -- Each is a header of a known symbol, or a variable, or refers to an earlier node of the part.
  pub form_words : (i : ℕ) → i < to - from → Word arities room variables from (from + i) (get_or words (from + i) 0)
  unfolding in_form
  form_words i l =
      let n = length-slice from to words long in
      let e = part_at i (omega arith) in
      rw e at (accepted_words (record { words = words; room = room; variables = variables; from = from }) arities to small (slice from to words) from from 0 (omega arith) (omega arith) accept i (omega arith))

-- Accepted from the first word on they are well formed.
pub all_formed : (words : List ℕ) (used room variables : ℕ) (arities : List ℕ) → used ≤ length words → room + used ≤ headers
    → in_form words 0 used room variables arities ≡ true → WellFormed room (cells words) variables used
all_formed words used room variables arities long small accept =
    form_formed words 0 used room variables arities (omega arith) long small accept (record
    { fits = λ a l. let z : ⊥ = omega arith in absurd z; arguments = λ a i l. let z : ⊥ = omega arith in absurd z })
