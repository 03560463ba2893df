-- What `horn_unify` answers on storage of any contents.
use Rattle.std.specs.Prelude.{ℕ, ◌+◌, ◌*◌, ◌^◌, ◌<◌, ◌≡◌, Bool, true, false, List, leb}
use Rattle.std.proofs.Common.{arith, sym, ap, ◌∙◌, le-leb}
use Rattle.std.proofs.lemmas.Bool.{lt-leb}
use Rattle.arena.specs.Copies.{term_room}
use Rattle.arena.specs.Rows.{Rows}
use Rattle.unifier.specs.Packing.{packed_unify, UnifiedAs}
use Rattle.bindings.specs.Checking.{form_few}
use Rattle.checks.specs.Ready.{Ready}

-- 2^32 times the number of refusal 1, and line 0.
abbrev pub refusal : ℕ
refusal = 1 * 2 ^ 32

-- It was refused, and every buffer is as it was.
pub record RefusedAs (b b' l l' m m' s s' : Rows) (answer : ℕ) : Type 0 where
  pub is : answer ≡ refusal
  pub bindings : b' ≡ b
  pub links : l' ≡ l
  pub marks : m' ≡ m
  pub stack : s' ≡ s

-- Storage that is what `unify` asks is unified over, and any other is refused.
pub data Answered (w : List ℕ) (b b' l l' m m' s s' : Rows) (variables used k r t answer : ℕ) : Type 0 where
  accepted : Ready term_room w b l m s variables used k r t → UnifiedAs w b b' l l' m m' s s' variables used k r t answer
      → Answered w b b' l l' m m' s s' variables used k r t answer
  refused : (Ready term_room w b l m s variables used k r t → ⊥) → RefusedAs b b' l l' m m' s s' answer
      → Answered w b b' l l' m m' s s' variables used k r t answer

-- Laws

module _ {w : List ℕ} {b b' l l' m m' s s' : Rows} {variables used k r t answer : ℕ} where
  -- By the storage alone it is known which of the two holds.
  pub ready_answered : Answered w b b' l l' m m' s s' variables used k r t answer → Ready term_room w b l m s variables used k r t
      → UnifiedAs w b b' l l' m m' s s' variables used k r t answer
  ready_answered (accepted h u) x = u
  ready_answered (refused n h) x = absurd (n x)

  pub other_answered : Answered w b b' l l' m m' s s' variables used k r t answer → (Ready term_room w b l m s variables used k r t → ⊥) → RefusedAs b b' l l' m m' s s' answer
  other_answered (accepted h u) x = absurd (x h)
  other_answered (refused n h) x = h

-- Where fewer than 2^31 variables are bound, the number is below 2^32, and tells whether the terms unify.
packed_low : (u : Bool) (n : ℕ) → n < 2 ^ 31 → packed_unify u n < 2 ^ 32
packed_low true n h = omega arith
packed_low false n h = omega arith

packed_tells : (u : Bool) (n : ℕ) → n < 2 ^ 31 → u ≡ leb (2 ^ 31) (packed_unify u n)
packed_tells true n h = sym (le-leb (2 ^ 31) (2 ^ 31 + n) (omega arith))
packed_tells false n h = sym (lt-leb (2 ^ 31) n h)

module _ {w : List ℕ} {b b' l l' m m' s s' : Rows} {variables used k r t answer : ℕ}
    (h : UnifiedAs w b b' l l' m m' s s' variables used k r t answer) where
  few : h.bound < 2 ^ 31
  few =
      let f = h.ended.form in
      let a = form_few f in
      let few = f.few in
      let low = f.low in
      omega arith

  -- The answer of a unification is below that of a refusal, and tells whether the terms unify.
  pub answer_low : answer < 2 ^ 32
  answer_low = let p = packed_low h.unified h.bound few in let e = h.packed in omega arith

  pub answer_tells : h.unified ≡ leb (2 ^ 31) answer
  answer_tells = packed_tells h.unified h.bound few ∙ ap (leb (2 ^ 31)) (sym h.packed)
