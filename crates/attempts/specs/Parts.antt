-- A part of a stored rule, copied behind the used words of a state in form: what the state is then, and what the references to the copy denote.
use Rattle.std.specs.Prelude.{ℕ, ◌+◌, ◌≤◌, ◌<◌, ◌≡◌, true, List, get_or, length}
use Rattle.std.proofs.Common.{arith, sym, ap, ◌∙◌, subst}
use Rattle.std.proofs.lemmas.List.Edits.{sets}
use Rattle.std.proofs.Math.Seq.{length-sets}
use Rattle.terms.specs.Term.{sub}
use Rattle.arena.specs.Cells.{headers, denote, Reference, WellFormed, Same, cells}
use Rattle.arena.specs.NodeLaws.{sets_past}
use Rattle.arena.specs.Copies.{pattern_room, term_room, moved, copied, numbered, Copyable, Movable, PartReference}
use Rattle.arena.specs.CopyLaws.{copied_length, inst_frame, inst_formed, inst_reference, inst_denotes}
use Rattle.arena.specs.Form.{in_form}
use Rattle.arena.specs.FormKept.{inst_form}
use Rattle.arena.specs.Rows.{Rows}
use Rattle.bindings.specs.Stored.{held, Form}
use Rattle.bindings.specs.Growth.{form_grows}
use Rattle.attempts.specs.StoredRules.{pattern_of, Part, Root}
use Rattle.attempts.specs.Promises.{copied_at, GrownInForm}
use Rattle.attempts.specs.Extending.{held_kept}

module _ {pattern places : List ℕ} {from count n : ℕ} (part : Part pattern places from count n)
    {words : List ℕ} {rows : Rows} {used variables bound : ℕ} (counter : ℕ) (form : Form term_room words rows variables used bound)
    (more : variables ≤ counter + n) (few : counter + n ≤ term_room) (space : used + count ≤ length words) (small : term_room + used + count ≤ headers) where
  pub copyable : Copyable pattern from count places words term_room used counter
  copyable = record {
    part = part.there;
    space = space;
    low = part.low;
    small = small;
    listed = part.listed;
    number = λ i l v. let x = part.numbered i l v in omega arith;
    inside = part.inside;
    address = part.address;
  }

  number : (i : ℕ) → i < count → get_or pattern (from + i) 0 < pattern_room → counter + get_or places (get_or pattern (from + i) 0) 0 < counter + n
  number i l v = let x = part.numbered i l v in omega arith

  within_part : (r : ℕ) → Root pattern places from count n r → PartReference places counter (counter + n) from (cells pattern) count r
  within_part r root = record { variable = λ v. let x = root.numbered v in omega arith; from_on = root.from_on; node = root.below; header = root.header }

  -- It can be moved: no sum is too large.
  pub root_movable : (r : ℕ) → Root pattern places from count n r → Movable places counter (pattern_room + from) (term_room + used) r
  root_movable r root = record {
    listed = root.listed;
    number = λ v. let x = root.numbered v in omega arith;
    inside = λ v h. root.from_on v;
    address = λ v h. let a = root.from_on v in let b = root.below v in omega arith;
  }

  module _ (words' : List ℕ) (written : words' ≡ sets words used (copied pattern from count places term_room used counter)) where
    -- The words in use stand, and there are as many words.
    pub copied_kept : Same term_room (cells words) (cells words') used
    copied_kept =
        subst (λ (w : List ℕ). Same term_room (cells words) (cells w) used) (sym written)
        (inst_frame pattern from count places words term_room used counter pattern_room variables (counter + n) copyable part.formed form.words more few number)

    -- So do the words past the copy.
    pub copied_past : (i : ℕ) → used + count ≤ i → cells words' i ≡ cells words i
    copied_past i l =
        let e = copied_length pattern from count places term_room used counter part.there in
        ap (λ (w : List ℕ). cells w i) written ∙ sets_past (copied pattern from count places term_room used counter) words used i (omega arith)

    pub copied_long : length words' ≡ length words
    copied_long = ap length written ∙ length-sets words used (copied pattern from count places term_room used counter)

    formed : WellFormed term_room (cells words') (counter + n) (used + count)
    formed =
        subst (λ (w : List ℕ). WellFormed term_room (cells w) (counter + n) (used + count)) (sym written)
        (inst_formed pattern from count places words term_room used counter pattern_room variables (counter + n) copyable part.formed form.words more few number)

    -- The bindings are the same, and the state is in form with the copy in it.
    pub copied_held : held term_room words' rows bound ≡ held term_room words rows bound
    copied_held = held_kept form words' copied_kept

    pub copied_form : counter + n ≤ length rows → Form term_room words' rows (counter + n) (used + count) bound
    copied_form lent =
        let e = copied_long in
        form_grows form words' copied_kept more (omega arith) formed few (omega arith) (omega arith) lent

    -- Words in form over a signature's arities stay so.
    pub copied_grown : GrownInForm pattern from count words words' used variables (counter + n)
    copied_grown arities e f =
        subst (λ (w : List ℕ). in_form w 0 (used + count) term_room (counter + n) arities ≡ true) (sym written)
        (inst_form pattern from count places words term_room used counter pattern_room variables (counter + n) copyable part.formed form.words more few number arities f e)

    module _ (r : ℕ) (root : Root pattern places from count n r) where
      -- A judgment's reference is found in the copy, and denotes the instance.
      pub copied_reference : Reference term_room (cells words') (counter + n) (used + count) (copied_at places counter from used r)
      copied_reference =
          subst (λ (w : List ℕ). Reference term_room (cells w) (counter + n) (used + count) (moved places counter (pattern_room + from) (term_room + used) r)) (sym written)
          (inst_reference pattern from count places words term_room used counter pattern_room variables (counter + n) copyable part.formed form.words more few number r (within_part r root))

      pub copied_denotes : denote term_room (cells words') (copied_at places counter from used r) ≡ sub (numbered places counter) (pattern_of pattern r)
      copied_denotes =
          ap (λ (w : List ℕ). denote term_room (cells w) (moved places counter (pattern_room + from) (term_room + used) r)) written
          ∙ inst_denotes pattern from count places words term_room used counter pattern_room variables (counter + n) copyable part.formed form.words more few number r (within_part r root)
