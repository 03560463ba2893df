-- Laws of what is read part by part behind a row that is written at the end: clauses, binders and declarations.
use mathlib.Core.Path.{◌≡◌, refl, sym, ap, ap₂, ◌∙◌, subst}
use mathlib.Core.List.{List, [], ◌∷◌, ◌++◌, append_assoc, append-nil}
use Prim.Native.Nat.{ℕ, ◌+◌, ◌≤◌, ◌<◌}
use native.Mathlib.Nat.{add-zero}
use native.Mathlib.Numerals.{add-one}
use native.Mathlib.Omega.{arith}
use lib.ListN.{length, take, drop, set, get_or}
use lib.Seq.{take-suc, take-set-lt, set_at, length-take-le, drop-drop}
use Rattle.term_parser.specs.Steps.{Step}
use Rattle.term_parser.specs.Steps.Step.{At, Refused}
use borrow.Author.Tests.{eq-eqb, ne_eqb}
use Rattle.words.specs.Names.{name_kind}
use Rattle.refusals.specs.declared.Refusal.TheVariants.{NameExpected}
use Rattle.term_parser.specs.Source.{Place}
use Rattle.term_parser.specs.Grammar.{name_of}
use Rattle.term_parser.proofs.TokenLaws.{token_there}
use Rattle.term_parser.specs.Parsing.{Tokens, kind_of, place_of, line_of, last_line, Parsed, parsed, absent, refused, plus, follow, sign_of}
use Rattle.term_parser.specs.Rows.{Rows}
use Rattle.term_parser.specs.Promises.{on, no, told, signed, Answers, Room, Signed}
use Rattle.term_parser.specs.Firmness.{Firm}
use Rattle.term_parser.proofs.Readers.{no_path, Stopped, got, moved, goes_on, passed, within_stopped, is_absent, told_plus}

-- From place p and u rows on, a reader took the tokens before q and wrote the rows in `body` behind a free one; what it comes to is what `rest` comes to.
pub record Along {D : Type 0} (rowsD : D → Rows) (reader : Parsed D) (ts : Tokens) (p u : ℕ) (before : Rows) (q k : ℕ) (out : Rows) (rest : Parsed D) (body : Rows) : Type 0 where
  pub is : told rowsD p (take u before) reader ≡ told rowsD q (take u before) rest
  pub wrote : take k out ≡ take (u + 1) before ++ body
  pub ahead : p < q
  pub to : q ≤ length ts
  pub above : u < k
  pub fits : k + p ≤ u + q
  pub long : length out ≡ length before

module _ {D : Type 0} (rowsD : D → Rows) {ts : Tokens} {p u : ℕ} {before : Rows} (room : Room ts p u before) (here : p < length ts) where
  pub start : (reader x : Parsed D) → reader ≡ plus 1 x → Along rowsD reader ts p u before (p + 1) (u + 1) before x []
  start reader x e = record {
    is = ap (told rowsD p (take u before)) e ∙ told_plus rowsD p 1 (take u before) x;
    wrote = sym (append-nil (take (u + 1) before));
    ahead = omega arith;
    to = omega arith;
    above = omega arith;
    fits = omega arith;
    long = refl;
  }

module _ {D : Type 0} {rowsD : D → Rows} {reader : Parsed D} {ts : Tokens} {p u : ℕ} {before : Rows} {q k : ℕ} {out : Rows} {rest : Parsed D} {body : Rows} (a : Along rowsD reader ts p u before q k out rest body) where
  -- room for what comes next
  pub room_along : Room ts p u before → Room ts q k out
  room_along r = let b = r.below in let l = r.lent in let f = a.fits in let g = a.long in record { here = a.to; below = omega arith; lent = omega arith; small = r.small }

  -- a part
  module _ {A : Type 0} {d : ℕ} {rows : A → Rows} {x : Parsed A} (then : A → Tokens → Parsed D) (e : rest ≡ follow x (drop q ts) then) {r : Step} {out' : Rows} (h : Answers d rows x ts q k out r out') where
    pub part : {q' k' i : ℕ} (g : r ≡ At q' k' i) → length out' ≡ length out → Along rowsD reader ts p u before q' k' out' (then (got h g).item (drop q' ts)) (body ++ rows (got h g).item)
    part {q'} {k'} g len =
        let m = moved h g in
        let f = a.fits in let b = a.above in let c = a.ahead in
        record {
          is = a.is ∙ ap (told rowsD q (take u before)) e ∙ goes_on h g rowsD then (take u before);
          wrote = (got h g).written ∙ ap (λ z. z ++ rows (got h g).item) a.wrote ∙ append_assoc (take (u + 1) before) _ _;
          ahead = omega (arith, m);
          to = m.1;
          above = omega (arith, m);
          fits = omega (arith, m);
          long = len ∙ a.long;
        }

    pub part_stopped : Stopped r → Firm x → Answers 1 rowsD reader ts p u before r out'
    part_stopped s f = record {
      is = passed h s rowsD (drop q ts) then q (take u before) out' ∙ sym (a.is ∙ ap (told rowsD q (take u before)) e);
      within = within_stopped 1 ts p u r s;
      still = λ z. absurd (f (is_absent h z));
    }

  -- a sign
  module _ (last kind : ℕ) (then : Unit {0} → Tokens → Parsed D) (e : rest ≡ follow (sign_of last kind (drop q ts)) (drop q ts) then) {s : Step} (g : Signed (sign_of last kind (drop q ts)) ts q k s) where
    sign_answers : Answers 1 (λ _. []) (sign_of last kind (drop q ts)) ts q k out s out
    sign_answers = go (sign_of last kind (drop q ts)) g.is
      where
        go : (y : Parsed (Unit {0})) → s ≡ signed q k y → Answers 1 (λ _. []) y ts q k out s out
        go (parsed _ n) f = record { is = rw f (ap (on (q + n)) (sym (append-nil (take k out)))); within = g.within; still = λ _. refl }
        go absent f = record { is = rw f; within = g.within; still = λ _. refl }
        go (refused r l) f = record { is = rw f; within = g.within; still = λ _. refl }

    pub sign_part : {q' k' i : ℕ} → s ≡ At q' k' i → Along rowsD reader ts p u before q' k' out (then tt (drop q' ts)) body
    sign_part {q'} {k'} f = subst (Along rowsD reader ts p u before q' k' out (then tt (drop q' ts))) (append-nil body) (part then e sign_answers f refl)

    pub sign_stopped : Stopped s → Firm (sign_of last kind (drop q ts)) → Answers 1 rowsD reader ts p u before s out
    sign_stopped st f = part_stopped then e sign_answers st f

  -- a name that gets no row of its own
  module _ (then : Place → Tokens → Parsed D) (e : rest ≡ follow (name_of (last_line ts) (drop q ts)) (drop q ts) then) where
    pub name_part : kind_of (drop q ts) ≡ name_kind → Along rowsD reader ts p u before (q + 1) k out (then (place_of (drop q ts)) (drop (q + 1) ts)) body
    name_part f =
        let here = token_there ts q (omega arith) in
        let c = a.fits in let b = a.ahead in
        record {
          is = a.is ∙ ap (told rowsD q (take u before)) (e ∙ ap (λ x. follow x (drop q ts) then) is) ∙ told_plus rowsD q 1 (take u before) (then (place_of (drop q ts)) (drop 1 (drop q ts)))
              ∙ ap (λ us. told rowsD (q + 1) (take u before) (then (place_of (drop q ts)) us)) (drop-drop 1 q ts);
          wrote = a.wrote;
          ahead = omega arith;
          to = omega arith;
          above = a.above;
          fits = omega arith;
          long = a.long;
        }
      where
        is : name_of (last_line ts) (drop q ts) ≡ parsed (place_of (drop q ts)) 1
        is = simp (eq-eqb _ _ f)

    pub name_stopped : (kind_of (drop q ts) ≡ name_kind → ⊥) → {l : ℕ} {out' : Rows} → l ≡ line_of (last_line ts) (drop q ts) → Answers 1 rowsD reader ts p u before (Refused NameExpected l) out'
    name_stopped f {l} g = record {
      is = ap (no NameExpected) g ∙ sym (a.is ∙ ap (told rowsD q (take u before)) (e ∙ ap (λ x. follow x (drop q ts) then) is));
      within = tt;
      still = λ z. no_path cc;
    }
      where
        is : name_of (last_line ts) (drop q ts) ≡ refused NameExpected (line_of (last_line ts) (drop q ts))
        is = simp (ne_eqb _ _ f)

  -- the end, where the row is written
  pub finish : Room ts p u before → {item : D} {line : List ℕ} {out' : Rows} → rest ≡ parsed item 0 → rowsD item ≡ line ∷ body → out' ≡ set out u line → Answers 1 rowsD reader ts p u before (At q k 1) out'
  finish room {item} {line} {out'} e f g =
      let b = room.below in let l = room.lent in let to = a.to in let ahead = a.ahead in
      let free : take (u + 1) before ≡ take u before ++ (get_or before u [] ∷ []) = rw (add-one u) (take-suc before u [] (omega arith)) in
      let long : length (take u before) ≡ u = length-take-le u before (omega arith) in
      let w : take k out ≡ take u before ++ (get_or before u [] ∷ body) = a.wrote ∙ ap (λ z. z ++ body) free ∙ append_assoc (take u before) _ _ in
      let z : take k out' ≡ take u before ++ rowsD item =
      ap (take k) g ∙ take-set-lt k out u line a.above ∙ ap (λ y. set y u line) w ∙ set_at (take u before) (get_or before u []) body line u long ∙ ap (λ y. take u before ++ y) (sym f) in
      record {
        is = ap₂ on (sym (add-zero q)) z ∙ sym (a.is ∙ ap (told rowsD q (take u before)) e);
        within = (omega arith, a.to, (let c = a.above in omega arith), a.fits);
        still = λ y. no_path cc;
      }
