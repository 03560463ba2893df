-- Laws of a copied part: earlier words and terms stay, the words stay well formed, and a moved reference denotes the instance of what the pattern's
-- reference denotes. As many words are written as are copied.
use Rattle.std.specs.Prelude.{ℕ, zero, suc, ◌+◌, ◌-◌, ◌≤◌, ◌<◌, ◌≡◌, refl, true, List, get_or, length, take}
use native.Mathlib.Omega.{arith}
use Rattle.std.proofs.Common.{not-suc-le-zero, sym, ap, ap₂, ◌∙◌, ⊎_elim, get_or-take, get_or-drop}
use Rattle.std.proofs.lemmas.List.{length-map, get_or-map}
use Rattle.std.proofs.lemmas.List.Edits.{sets}
use Rattle.std.proofs.Math.Seq.{slice, length-slice}
use Rattle.terms.specs.Numbers.{less_yes, less_no}
use Rattle.terms.specs.Term.{Term, Subst, var, app, cons, sub, mem}
use Rattle.terms.specs.TermLaws.{sub_mem}
use Rattle.arena.specs.Cells.{headers, Cells, symbol_of, arity_of, args, denote, Reference, WellFormed, Same, low_or_high, denote_node, denote_variable, frame_denote, cells}
use Rattle.arena.specs.NodeLaws.{sets_below, sets_within, formed_same, formed_up}
use Rattle.arena.specs.Copies.{pattern_room, moved, copied, numbered, Movable, Copyable, PartReference}

module _ (places : List ℕ) (counter first base : ℕ) where
  pub moved_variable : (x : ℕ) → x < pattern_room → moved places counter first base x ≡ counter + get_or places x 0
  unfolding moved
  moved_variable x l = rw (less_yes l)

  pub moved_node : (x : ℕ) → pattern_room ≤ x → x < headers → moved places counter first base x ≡ base + (x - first)
  unfolding moved
  moved_node x l m = rw (less_no l, less_yes m)

  pub moved_header : (x : ℕ) → headers ≤ x → moved places counter first base x ≡ x
  unfolding moved
  moved_header x l = let m : pattern_room ≤ x = omega arith in rw (less_no m, less_no l)

-- Arguments that denote instances.
sub_args : (σ : Subst) (g h : ℕ → Term) (p w : Cells) (a b n : ℕ) → ((i : ℕ) → i < n → h (w (b + i)) ≡ sub σ (g (p (a + i)))) → args h w b n ≡ sub σ (args g p a n)
sub_args σ g h p w a b zero f = refl
sub_args σ g h p w a b (suc n) f =
    let e : a + 0 ≡ a = omega arith in
    let e' : b + 0 ≡ b = omega arith in
    let f₀ : h (w (b + 0)) ≡ sub σ (g (p (a + 0))) = f 0 (omega arith) in
    ap₂ cons (rw (e, e') at f₀) (sub_args σ g h p w (suc a) (suc b) n (λ i l.
    let d : a + suc i ≡ suc a + i = omega arith in
    let d' : b + suc i ≡ suc b + i = omega arith in
    let f₁ : h (w (b + suc i)) ≡ sub σ (g (p (a + suc i))) = f (suc i) (omega arith) in rw (d, d') at f₁))

-- Over words read by functions: w' is w with the part of p from `from` on, `count` words, moved to the address u. The pattern's variables are below k,
-- those of w below nv, and those of w' below nv'.
module _ (N k nv nv' from count u counter : ℕ) (places : List ℕ) (p w w' : Cells)
    (formed : WellFormed pattern_room p k (from + count)) (old : WellFormed N w nv u) (more : nv ≤ nv') (room : nv' ≤ N) (small : N + u + count ≤ headers) (low : pattern_room + from + count ≤ headers)
    (below : Same N w w' u) (copy : (i : ℕ) → i < count → w' (u + i) ≡ moved places counter (pattern_room + from) (N + u) (p (from + i)))
    (number : (i : ℕ) → i < count → p (from + i) < pattern_room → counter + get_or places (p (from + i)) 0 < nv')
    (inside : (i : ℕ) → i < count → pattern_room ≤ p (from + i) → p (from + i) < headers → pattern_room + from ≤ p (from + i))
    (address : (i : ℕ) → i < count → pattern_room ≤ p (from + i) → p (from + i) < headers → p (from + i) < pattern_room + from + count) where
  abbrev move : ℕ → ℕ
  move r = moved places counter (pattern_room + from) (N + u) r

  -- A header is copied as it is, and a header of the copy was one.
  header_copied : (i : ℕ) → i < count → headers ≤ p (from + i) → w' (u + i) ≡ p (from + i)
  header_copied i l h = copy i l ∙ moved_header places counter (pattern_room + from) (N + u) (p (from + i)) h

  header_back : (i : ℕ) → i < count → headers ≤ w' (u + i) → headers ≤ p (from + i)
  header_back i l h =
      ⊎_elim
      (λ q. ⊎_elim
      (λ v. let e = copy i l ∙ moved_variable places counter (pattern_room + from) (N + u) (p (from + i)) v in
      let n = number i l v in let z : ⊥ = omega arith in absurd z)
      (λ v. let e = copy i l ∙ moved_node places counter (pattern_room + from) (N + u) (p (from + i)) v q in
      let t = address i l v q in let z : ⊥ = omega arith in absurd z)
      (low_or_high N (p (from + i)) pattern_room))
      (λ q. q)
      (low_or_high N (p (from + i)) headers)

  -- An argument of a node of the part.
  argument : (a i : ℕ) → a < count → headers ≤ p (from + a) → i < arity_of (p (from + a)) → PartReference places counter nv' from p a (p (from + (a + suc i)))
  argument a i l h j =
      let e : from + a + suc i ≡ from + (a + suc i) = omega arith in
      let f = formed.fits (from + a) (omega arith) h in
      let r : Reference pattern_room p k (from + a) (p (from + (a + suc i))) = rw e at (formed.arguments (from + a) i (omega arith) h j) in
      let s : a + suc i < count = omega arith in
      record {
        variable = λ v. number (a + suc i) s v;
        from_on = λ v. let n = r.node v in inside (a + suc i) s v (omega arith);
        node = λ v. let n = r.node v in omega arith;
        header = λ v. r.header v;
      }

  -- The moved reference is a reference to what was written.
  pub moved_reference : (n r : ℕ) → n ≤ count → PartReference places counter nv' from p n r → Reference N w' nv' (u + n) (move r)
  moved_reference n r b h =
      ⊎_elim
      (λ l. let e = moved_variable places counter (pattern_room + from) (N + u) r l in let v = h.variable l in
      record { variable = λ q. omega arith; node = λ q. let z : ⊥ = omega arith in absurd z; header = λ q. let z : ⊥ = omega arith in absurd z })
      (λ l. let n' = h.node l in let o = h.from_on l in let d = h.header l in
      let e = moved_node places counter (pattern_room + from) (N + u) r l (omega arith) in
      let j : from + (r - (pattern_room + from)) ≡ r - pattern_room = omega arith in
      let d' : headers ≤ p (from + (r - (pattern_room + from))) = rw j d in
      record {
        variable = λ q. let z : ⊥ = omega arith in absurd z;
        node = λ q. omega arith;
        header = λ q. let i : move r - N ≡ u + (r - (pattern_room + from)) = omega arith in
            rw (i, header_copied (r - (pattern_room + from)) (omega arith) d') d';
      })
      (low_or_high N r pattern_room)

  back : (P : ℕ → Type 0) → ((a : ℕ) → a < u → P a) → ((a : ℕ) → a < count → P (u + a)) → (a : ℕ) → a < u + count → P a
  back P f g a l = ⊎_elim (f a) (λ b. let e : u + (a - u) ≡ a = omega arith in rw e at (g (a - u) (omega arith))) (low_or_high N a u)

  -- The words stay well formed.
  pub copy_formed : WellFormed N w' nv' (u + count)
  copy_formed =
      let v : WellFormed N w' nv' u = formed_up N more (formed_same N below old) in
      record {
        fits = back (λ a. headers ≤ w' a → a + arity_of (w' a) < u + count)
            (λ a l h. let f = v.fits a l h in omega arith)
            (λ a l h. let h' = header_back a l h in let e = header_copied a l h' in let f = formed.fits (from + a) (omega arith) h' in
            rw e (omega arith));
        arguments = λ a i l. back (λ a. headers ≤ w' a → i < arity_of (w' a) → Reference N w' nv' a (w' (a + suc i)))
            (λ a l h j. v.arguments a i l h j)
            (λ a l h j. let h' = header_back a l h in let e = header_copied a l h' in let f = formed.fits (from + a) (omega arith) h' in
            let j' : i < arity_of (p (from + a)) = (rw e at j) in
            let e₂ : u + a + suc i ≡ u + (a + suc i) = omega arith in
            rw (e₂, copy (a + suc i) (omega arith)) (moved_reference a (p (from + (a + suc i))) (omega arith) (argument a i l h' j')))
            a l;
      }

  -- What the moved reference denotes.
  denotes_below : (n r : ℕ) → r < n → PartReference places counter nv' from p count r → denote N w' (move r) ≡ sub (numbered places counter) (denote pattern_room p r)
  denotes_below zero r b h = absurd (not-suc-le-zero b)
  denotes_below (suc n) r b h =
      ⊎_elim
      (λ l. let v = h.variable l in
      rw (moved_variable places counter (pattern_room + from) (N + u) r l, denote_variable pattern_room p r l)
      (denote_variable N w' (counter + get_or places r 0) (omega arith)))
      (λ l. let d = h.node l in let o = h.from_on l in let hd = h.header l in
      let e = moved_node places counter (pattern_room + from) (N + u) r l (omega arith) in
      let a : ℕ = r - (pattern_room + from) in
      let j : r - pattern_room ≡ from + a = omega arith in
      let i : N + u + a - N ≡ u + a = omega arith in
      let hd' : headers ≤ p (from + a) = rw j at hd in
      let hc = header_copied a (omega arith) hd' in
      let f = formed.fits (from + a) (omega arith) hd' in
      let rr : Reference pattern_room p k (from + count) r = record
      { variable = λ q. let z : ⊥ = omega arith in absurd z; node = λ q. omega arith; header = h.header } in
      denote_node N w' nv' (u + count) copy_formed (move r) (moved_reference count r (omega arith) h) (omega arith)
      ∙ rw (e, i, hc, denote_node pattern_room p k (from + count) formed r rr l, j)
      (ap (app (symbol_of (p (from + a)))) (sub_args (numbered places counter) (denote pattern_room p) (denote N w') p w' (suc (from + a)) (suc (u + a)) (arity_of (p (from + a)))
      (λ m q.
      let x = argument a m (omega arith) hd' q in
      let e₂ : suc (u + a) + m ≡ u + (a + suc m) = omega arith in
      let e₃ : suc (from + a) + m ≡ from + (a + suc m) = omega arith in
      let x' : PartReference places counter nv' from p count (p (from + (a + suc m))) = record
      { variable = x.variable; from_on = x.from_on; node = λ v. let y = x.node v in omega arith; header = x.header } in
      let y : p (from + (a + suc m)) < r = ⊎_elim (λ v. omega arith) (λ v. let y = x.node v in omega arith) (low_or_high N (p (from + (a + suc m))) pattern_room) in
      rw (e₂, e₃, copy (a + suc m) (omega arith)) (denotes_below n (p (from + (a + suc m))) (omega arith) x')))))
      (low_or_high N r pattern_room)

  pub copy_denotes : (r : ℕ) → PartReference places counter nv' from p count r → denote N w' (move r) ≡ sub (numbered places counter) (denote pattern_room p r)
  copy_denotes r h = denotes_below (suc r) r (omega arith) h

  -- An earlier term stays.
  pub copy_old : (r : ℕ) → Reference N w nv u r → denote N w r ≡ denote N w' r
  copy_old r h = frame_denote N w nv u old w' below r h

-- The words of a copy, one by one.
module _ (pattern : List ℕ) (from count : ℕ) (places : List ℕ) (room used counter : ℕ) (part : from + count ≤ length pattern) where
  -- As many words are written as are copied.
  pub copied_length : length (copied pattern from count places room used counter) ≡ count
  copied_length =
      length-map (slice from (from + count) pattern) (moved places counter (pattern_room + from) (room + used))
      ∙ length-slice from (from + count) pattern part ∙ (let e : from + count - from ≡ count = omega arith in e)

  pub copied_at : (i : ℕ) → i < count
      → get_or (copied pattern from count places room used counter) i 0 ≡ moved places counter (pattern_room + from) (room + used) (get_or pattern (from + i) 0)
  copied_at i l =
      let n : length (slice from (from + count) pattern) ≡ from + count - from = length-slice from (from + count) pattern part in
      get_or-map (moved places counter (pattern_room + from) (room + used)) (slice from (from + count) pattern) i 0 0 (omega arith)
      ∙ ap (moved places counter (pattern_room + from) (room + used)) (get_or-drop from (take (from + count) pattern) i 0 ∙ get_or-take (from + count) pattern (from + i) 0 (omega arith))

-- What `inst` leaves: the words with the copy written behind the used part. The pattern's variables are below k, those of the words below nv, and with
-- the copy below nv'.
module _ (pattern : List ℕ) (from count : ℕ) (places words : List ℕ) (room used counter k nv nv' : ℕ)
    (asked : Copyable pattern from count places words room used counter)
    (formed : WellFormed pattern_room (cells pattern) k (from + count)) (old : WellFormed room (cells words) nv used) (more : nv ≤ nv') (few : nv' ≤ room)
    (number : (i : ℕ) → i < count → get_or pattern (from + i) 0 < pattern_room → counter + get_or places (get_or pattern (from + i) 0) 0 < nv') where
  abbrev result : List ℕ
  result = sets words used (copied pattern from count places room used counter)

  pub inst_frame : Same room (cells words) (cells result) used
  inst_frame i l = sym (sets_below (copied pattern from count places room used counter) words used i l)

  copy : (i : ℕ) → i < count → cells result (used + i) ≡ moved places counter (pattern_room + from) (room + used) (cells pattern (from + i))
  copy i l =
      let n = copied_length pattern from count places room used counter asked.part in
      let s = asked.space in
      sets_within (copied pattern from count places room used counter) words used i (omega arith) (omega arith)
      ∙ copied_at pattern from count places room used counter asked.part i l

  -- The words stay well formed, with `count` words more.
  pub inst_formed : WellFormed room (cells result) nv' (used + count)
  inst_formed =
      copy_formed room k nv nv' from count used counter places (cells pattern) (cells words) (cells result) formed old more few asked.small asked.low
      inst_frame copy number asked.inside asked.address

  -- A reference of the part's first n words, moved, is a reference of as many words more.
  pub inst_reference_below : (n r : ℕ) → n ≤ count → PartReference places counter nv' from (cells pattern) n r
      → Reference room (cells result) nv' (used + n) (moved places counter (pattern_room + from) (room + used) r)
  inst_reference_below n r b h =
      moved_reference room k nv nv' from count used counter places (cells pattern) (cells words) (cells result) formed old more few asked.small asked.low
      inst_frame copy number asked.inside asked.address n r b h

  -- A reference of the part, moved, is a reference of the result, and denotes the instance.
  pub inst_reference : (r : ℕ) → PartReference places counter nv' from (cells pattern) count r
      → Reference room (cells result) nv' (used + count) (moved places counter (pattern_room + from) (room + used) r)
  inst_reference r h =
      moved_reference room k nv nv' from count used counter places (cells pattern) (cells words) (cells result) formed old more few asked.small asked.low
      inst_frame copy number asked.inside asked.address count r (omega arith) h

  pub inst_denotes : (r : ℕ) → PartReference places counter nv' from (cells pattern) count r
      → denote room (cells result) (moved places counter (pattern_room + from) (room + used) r) ≡ sub (numbered places counter) (denote pattern_room (cells pattern) r)
  inst_denotes r h =
      copy_denotes room k nv nv' from count used counter places (cells pattern) (cells words) (cells result) formed old more few asked.small asked.low
      inst_frame copy number asked.inside asked.address r h

  -- An earlier term stays.
  pub inst_old : (r : ℕ) → Reference room (cells words) nv used r → denote room (cells words) r ≡ denote room (cells result) r
  inst_old r h = frame_denote room (cells words) nv used old (cells result) inst_frame r h

-- Where the table of places agrees with σ on the variables of t, the copy is the instance by σ: `head` and `body` of the theory, when the places are
-- those of the meeting order.
pub numbered_by : (places : List ℕ) (counter : ℕ) (σ : Subst) (t : Term) → ((x : ℕ) → mem x t ≡ true → σ x ≡ var (counter + get_or places x 0))
    → sub (numbered places counter) t ≡ sub σ t
numbered_by places counter σ t h = sub_mem (numbered places counter) σ t (λ x m. sym (h x m))

-- Each word of a part that can be copied can be moved.
pub movable : (pattern : List ℕ) (from count : ℕ) (places words : List ℕ) (room used counter : ℕ) → Copyable pattern from count places words room used counter
    → (i : ℕ) → i < count → Movable places counter (pattern_room + from) (room + used) (get_or pattern (from + i) 0)
movable pattern from count places words room used counter h i l =
    let s = h.small in
    record {
      listed = h.listed i l;
      number = λ v. let n = h.number i l v in omega arith;
      inside = h.inside i l;
      address = λ v q. let a = h.address i l v q in let b = h.inside i l v q in omega arith;
    }
