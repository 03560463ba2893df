-- Words stay in form: the test still accepts them after a node or a copy was written behind them. So what a session keeps can be checked again.
use Rattle.std.specs.Prelude.{ℕ, zero, suc, ◌+◌, ◌-◌, ◌≤◌, ◌<◌, ◌≡◌, refl, List, [], ◌∷◌, ◌++◌, map, get_or, take, drop}
use native.Mathlib.Omega.{arith}
use Rattle.std.proofs.Math.Path.{sym}
use Rattle.std.proofs.Common.{ap, ◌∙◌, length-append, length-take-le, take_at, ext_get_or}
use Rattle.std.proofs.Math.Bool.{true}
use Rattle.std.proofs.Math.ListN.{length}
use Rattle.std.proofs.lemmas.List.Edits.{sets, sets-eq}
use Rattle.std.proofs.Math.Seq.{slice, length-slice, get_or-take, get_or-drop}
use Rattle.std.proofs.lemmas.List.{drop-append-le}
use Rattle.std.proofs.lemmas.Bool.{and_parts}
use Rattle.std.specs.Cmp.Derive.{both_true}
use Rattle.terms.specs.Numbers.{true_false}
use Rattle.arena.specs.Cells.{arity_of, Reference, WellFormed, Same, reference_up, cells}
use Rattle.arena.specs.NodeLaws.{sets_below, reference_same}
use Rattle.arena.specs.Copies.{pattern_room, moved, copied, Copyable, PartReference}
use Rattle.arena.specs.CopyLaws.{moved_header, copied_length, inst_reference_below}
use Rattle.arena.specs.Form.{is_header, Place, is_argument, nodes, in_form}
use Rattle.arena.specs.FormLaws.{header_accepted, argument_reference, argument_from, reference_accepted}

-- Nodes behind nodes.
nodes_append : (p : Place) (arities xs ys : List ℕ) (at node left node' : ℕ) → nodes p arities xs at node left ≡ true
    → nodes p arities ys (at + length xs) node' 0 ≡ true → nodes p arities (xs ++ ys) at node left ≡ true
nodes_append p arities [] [] at node zero node' e f = refl
nodes_append p arities [] (y ∷ ys) at node zero node' e f = let d : at + 0 ≡ at = omega arith in rw d at f
nodes_append p arities [] ys at node (suc left) node' e f = true_false e refl
nodes_append p arities (x ∷ xs) ys at node zero node' e f =
    let k = and_parts (is_header arities x) (nodes p arities xs (suc at) at (arity_of x)) e in
    let d : at + suc (length xs) ≡ suc at + length xs = omega arith in
    both_true k.0 (nodes_append p arities xs ys (suc at) at (arity_of x) node' k.1 (rw d at f))
nodes_append p arities (x ∷ xs) ys at node (suc left) node' e f =
    let k = and_parts (is_argument p node x) (nodes p arities xs (suc at) node left) e in
    let d : at + suc (length xs) ≡ suc at + length xs = omega arith in
    both_true k.0 (nodes_append p arities xs ys (suc at) node left node' k.1 (rw d at f))

-- What arguments are tested against.
abbrev pub place : List ℕ → ℕ → ℕ → ℕ → Place
place words room variables from = record { words = words; room = room; variables = variables; from = from }

-- Words that agree, and more variables.
module _ (room from nv nv' top : ℕ) (more : nv ≤ nv') (w w' : List ℕ) (s : Same room (cells w) (cells w') top) (arities : List ℕ) where
  pub argument_kept : (a r : ℕ) → a ≤ top → is_argument (place w room nv from) a r ≡ true → is_argument (place w' room nv' from) a r ≡ true
  argument_kept a r l e =
      let h : Reference room (cells w) nv a r = argument_reference (place w room nv from) a r e in
      let h' : Reference room (cells w') nv a r = reference_same room (λ i k. s i (omega arith)) h in
      reference_accepted (place w' room nv' from) a r (reference_up room more (omega arith) h') (argument_from (place w room nv from) a r e)

  nodes_kept : (xs : List ℕ) (at node left : ℕ) → node ≤ at → at + length xs ≤ top → nodes (place w room nv from) arities xs at node left ≡ true
      → nodes (place w' room nv' from) arities xs at node left ≡ true
  nodes_kept [] at node zero l b e = refl
  nodes_kept [] at node (suc left) l b e = true_false e refl
  nodes_kept (x ∷ xs) at node zero l b e =
      let k = and_parts (is_header arities x) (nodes (place w room nv from) arities xs (suc at) at (arity_of x)) e in
      both_true k.0 (nodes_kept xs (suc at) at (arity_of x) (omega arith) (omega arith) k.1)
  nodes_kept (x ∷ xs) at node (suc left) l b e =
      let k = and_parts (is_argument (place w room nv from) node x) (nodes (place w room nv from) arities xs (suc at) node left) e in
      both_true (argument_kept node x (omega arith) k.0) (nodes_kept xs (suc at) node left (omega arith) (omega arith) k.1)

nodes_arguments : (p : Place) (arities xs : List ℕ) (at node : ℕ) → ((i : ℕ) → i < length xs → is_argument p node (get_or xs i 0) ≡ true)
    → nodes p arities xs at node (length xs) ≡ true
nodes_arguments p arities [] at node h = refl
nodes_arguments p arities (x ∷ xs) at node h = both_true (h 0 (omega arith)) (nodes_arguments p arities xs (suc at) node (λ i l. h (suc i) (omega arith)))

-- Words that agree below the address `used` are in form alike, also with more variables: so what lies past `used` may be given up or written again.
pub form_same : (w w' : List ℕ) (from used room nv nv' : ℕ) (arities : List ℕ) → from ≤ used → used ≤ length w → used ≤ length w' → nv ≤ nv' → Same room (cells w) (cells w') used
    → in_form w from used room nv arities ≡ true → in_form w' from used room nv' arities ≡ true
unfolding in_form
form_same w w' from used room nv nv' arities order long long' more s e =
    let n : length (take used w) ≡ used = length-take-le used w long in
    let n' : length (take used w') ≡ used = length-take-le used w' long' in
    let m = length-slice from used w long in
    let t : take used w ≡ take used w' = ext_get_or 0 (take used w) (take used w') (n ∙ sym n')
    (λ i l. get_or-take used w i 0 (omega arith) ∙ s i (omega arith) ∙ sym (get_or-take used w' i 0 (omega arith))) in
    rw (← t) (nodes_kept room from nv nv' used more w w' s arities (slice from used w) from from 0 (omega arith) (omega arith) e)

-- Words ys written behind the first `used` words of w.
module _ (w ys : List ℕ) (from used : ℕ) (order : from ≤ used) (space : used + length ys ≤ length w) where
  slice_written : slice from (used + length ys) (sets w used ys) ≡ slice from used w ++ ys
  slice_written =
      let n : length (take used w) ≡ used = length-take-le used w (omega arith) in
      let m : length (take used w ++ ys) ≡ used + length ys = length-append (take used w) ys ∙ ap (λ k. k + length ys) n in
      let t : take (used + length ys) (sets w used ys) ≡ take used w ++ ys =
      ap (take (used + length ys)) (sets-eq ys w used space) ∙ take_at (take used w ++ ys) (drop (used + length ys) w) (used + length ys) m in
      ap (drop from) t ∙ drop-append-le from (take used w) ys (omega arith)

  pub form_written : (room nv nv' node : ℕ) (arities : List ℕ) → nv ≤ nv' → in_form w from used room nv arities ≡ true
      → nodes (place (sets w used ys) room nv' from) arities ys used node 0 ≡ true → in_form (sets w used ys) from (used + length ys) room nv' arities ≡ true
  unfolding in_form
  form_written room nv nv' node arities more e f =
      let n = length-slice from used w (omega arith) in
      let d : from + length (slice from used w) ≡ used = omega arith in
      let k = nodes_kept room from nv nv' used more w (sets w used ys) (λ i l. sym (sets_below ys w used i l)) arities (slice from used w) from from 0 (omega arith) (omega arith) e in
      rw slice_written (nodes_append (place (sets w used ys) room nv' from) arities (slice from used w) ys from from 0 node k (rw d f))

-- A node written by `push_node`, its header known, its arguments references in form.
pub push_form : (w : List ℕ) (from used room nv h : ℕ) (xs arities : List ℕ) → from ≤ used → used + suc (length xs) ≤ length w
    → in_form w from used room nv arities ≡ true → is_header arities h ≡ true → arity_of h ≡ length xs
    → ((i : ℕ) → i < length xs → is_argument (place w room nv from) used (get_or xs i 0) ≡ true)
    → in_form (sets w used (h ∷ xs)) from (used + suc (length xs)) room nv arities ≡ true
push_form w from used room nv h xs arities order space form header arity ok =
    let w' : List ℕ = sets w used (h ∷ xs) in
    let t : nodes (place w' room nv from) arities xs (suc used) used (length xs) ≡ true =
    nodes_arguments (place w' room nv from) arities xs (suc used) used (λ i l.
    argument_kept room from nv nv used (omega arith) w w' (λ i l. sym (sets_below (h ∷ xs) w used i l)) arities used (get_or xs i 0) (omega arith) (ok i l)) in
    form_written w (h ∷ xs) from used order space room nv nv used arities (omega arith) form (both_true header (rw arity t))

-- A part of the pattern's words, accepted and copied by `inst`.
module _ (pattern : List ℕ) (from count : ℕ) (places words : List ℕ) (room used counter k nv nv' : ℕ) (asked : Copyable pattern from count places words room used counter)
    (formed : WellFormed pattern_room (cells pattern) k (from + count)) (old : WellFormed room (cells words) nv used) (more : nv ≤ nv') (few : nv' ≤ room)
    (number : (i : ℕ) → i < count → get_or pattern (from + i) 0 < pattern_room → counter + get_or places (get_or pattern (from + i) 0) 0 < nv') (arities : List ℕ) where
  abbrev result : List ℕ
  result = sets words used (copied pattern from count places room used counter)

  abbrev move : ℕ → ℕ
  move x = moved places counter (pattern_room + from) (room + used) x

  argument_moved : (node i : ℕ) → from ≤ node → node ≤ from + count → i < count → is_argument (place pattern pattern_room k from) node (get_or pattern (from + i) 0) ≡ true
      → is_argument (place result room nv' 0) (used + (node - from)) (move (get_or pattern (from + i) 0)) ≡ true
  argument_moved node i l b m e =
      let h = argument_reference (place pattern pattern_room k from) node (get_or pattern (from + i) 0) e in
      let part : PartReference places counter nv' from (cells pattern) (node - from) (get_or pattern (from + i) 0) = record {
        variable = number i m;
        from_on = argument_from (place pattern pattern_room k from) node (get_or pattern (from + i) 0) e;
        node = λ v. let n = h.node v in omega arith;
        header = h.header;
      } in
      reference_accepted (place result room nv' 0) (used + (node - from)) (move (get_or pattern (from + i) 0))
      (inst_reference_below pattern from count places words room used counter k nv nv' asked formed old more few number (node - from) (get_or pattern (from + i) 0) (omega arith) part)
      (λ v. omega arith)

  nodes_moved : (rest : List ℕ) (at node left : ℕ) → from ≤ node → node ≤ at → at + length rest ≤ from + count
      → ((i : ℕ) → i < length rest → get_or rest i 0 ≡ get_or pattern (at + i) 0) → nodes (place pattern pattern_room k from) arities rest at node left ≡ true
      → nodes (place result room nv' 0) arities (map move rest) (used + (at - from)) (used + (node - from)) left ≡ true
  nodes_moved [] at node zero l m b s e = refl
  nodes_moved [] at node (suc left) l m b s e = true_false e refl
  nodes_moved (x ∷ rest) at node zero l m b s e =
      let t = and_parts (is_header arities x) (nodes (place pattern pattern_room k from) arities rest (suc at) at (arity_of x)) e in
      let h = (header_accepted arities x t.0).high in
      let q : move x ≡ x = moved_header places counter (pattern_room + from) (room + used) x h in
      let d : used + (suc at - from) ≡ suc (used + (at - from)) = omega arith in
      let n : nodes (place result room nv' 0) arities (map move rest) (used + (suc at - from)) (used + (at - from)) (arity_of x) ≡ true =
      nodes_moved rest (suc at) at (arity_of x) (omega arith) (omega arith) (omega arith) (λ i v. let c : at + suc i ≡ suc at + i = omega arith in
      let s₁ : get_or rest i 0 ≡ get_or pattern (at + suc i) 0 = s (suc i) (omega arith) in rw c at s₁) t.1 in
      rw q (both_true t.0 (rw d at n))
  nodes_moved (x ∷ rest) at node (suc left) l m b s e =
      let t = and_parts (is_argument (place pattern pattern_room k from) node x) (nodes (place pattern pattern_room k from) arities rest (suc at) node left) e in
      let c₀ : at + 0 ≡ from + (at - from) = omega arith in
      let x₀ : x ≡ get_or pattern (at + 0) 0 = s 0 (omega arith) in
      let x₁ : x ≡ get_or pattern (from + (at - from)) 0 = rw c₀ at x₀ in
      let a : is_argument (place result room nv' 0) (used + (node - from)) (move x) ≡ true =
      rw x₁ (argument_moved node (at - from) l (omega arith) (omega arith) (rw x₁ at t.0)) in
      let d : used + (suc at - from) ≡ suc (used + (at - from)) = omega arith in
      let n : nodes (place result room nv' 0) arities (map move rest) (used + (suc at - from)) (used + (node - from)) left ≡ true =
      nodes_moved rest (suc at) node left l (omega arith) (omega arith) (λ i v. let c : at + suc i ≡ suc at + i = omega arith in
      let s₁ : get_or rest i 0 ≡ get_or pattern (at + suc i) 0 = s (suc i) (omega arith) in rw c at s₁) t.1 in
      both_true a (rw d at n)

  -- The words that the copy is written behind stay in form with it.
  pub inst_form : in_form words 0 used room nv arities ≡ true → in_form pattern from (from + count) pattern_room k arities ≡ true
      → in_form result 0 (used + count) room nv' arities ≡ true
  unfolding in_form
  inst_form e f =
      let n = length-slice from (from + count) pattern asked.part in
      let c = copied_length pattern from count places room used counter asked.part in
      let s = asked.space in
      let d : used + (from - from) ≡ used = omega arith in
      let g = nodes_moved (slice from (from + count) pattern) from from 0 (omega arith) (omega arith) (omega arith)
      (λ i l. get_or-drop from (take (from + count) pattern) i 0 ∙ get_or-take (from + count) pattern (from + i) 0 (omega arith)) f in
      let g' : nodes (place result room nv' 0) arities (copied pattern from count places room used counter) used used 0 ≡ true = rw d at g in
      rw c at (form_written words (copied pattern from count places room used counter) 0 used (omega arith) (omega arith) room nv nv' used arities more e g')
