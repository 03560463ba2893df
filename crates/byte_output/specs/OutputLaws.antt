-- Laws of bytes written into a buffer: one more byte, and bytes behind bytes.
use Rattle.std.specs.Prelude.{ℕ, suc, ◌+◌, ◌≤◌, ◌<◌, ◌≡◌, List, [], ◌∷◌, ◌++◌, get_or, length, set, take}
use Rattle.std.proofs.Common.{arith, sym, ap, ◌∙◌, length-append, take-suc, length-take-le}
use Rattle.std.proofs.lemmas.List.Edits.{sets}
use Rattle.std.proofs.Math.Seq.{length-sets}
use Rattle.byte_output.specs.declared.output.Output.{Output}
use Rattle.byte_output.specs.Output.{Written, IsWritten}

pub sets_append : (l : List ℕ) (i : ℕ) (xs ys : List ℕ) → sets (sets l i xs) (i + length xs) ys ≡ sets l i (xs ++ ys)
sets_append l i [] ys = let e : i + 0 ≡ i = omega arith in ap (λ (k : ℕ). sets l k ys) e
sets_append l i (x ∷ xs) ys =
    let e : i + suc (length xs) ≡ suc i + length xs = omega arith in
    ap (λ (k : ℕ). sets (sets (set l i x) (suc i) xs) k ys) e ∙ sets_append (set l i x) (suc i) xs ys

-- The first i + 1 bytes, after the first i.
pub sets_more : (l : List ℕ) (at : ℕ) (xs : List ℕ) (i : ℕ) → i < length xs → set (sets l at (take i xs)) (at + i) (get_or xs i 0) ≡ sets l at (take (suc i) xs)
sets_more l at xs i h =
    let e : at + i ≡ at + length (take i xs) = ap (λ (k : ℕ). at + k) (sym (length-take-le i xs (omega arith))) in
    ap (λ (k : ℕ). set (sets l at (take i xs)) k (get_or xs i 0)) e ∙ sets_append l at (take i xs) (get_or xs i 0 ∷ []) ∙ ap (sets l at) (sym (take-suc xs i 0 h))

module _ {out out' : List ℕ} {at : ℕ} {xs : List ℕ} {next : ℕ} (v : Written out at xs next out') where
  -- The buffer keeps its length.
  pub written_length : length out' ≡ length out
  written_length = ap length v.buffer ∙ length-sets out at xs

  -- Other bytes written behind them.
  pub and_then : {out'' ys : List ℕ} {last : ℕ} → Written out' next ys last out'' → Written out at (xs ++ ys) last out''
  and_then {out''} {ys} {last} w = record {
    buffer = w.buffer ∙ ap (λ (l : List ℕ). sets l next ys) v.buffer ∙ ap (λ (k : ℕ). sets (sets out at xs) k ys) v.place ∙ sets_append out at xs ys;
    place = let a = v.place in let b = w.place in let c = length-append xs ys in omega arith;
  }

  -- The same bytes, said otherwise.
  pub written_as : {ys : List ℕ} → xs ≡ ys → Written out at ys next out'
  written_as e = record { buffer = v.buffer ∙ ap (sets out at) e; place = v.place ∙ ap (λ (l : List ℕ). at + length l) e }

-- Room for bytes is room for the first of them, and then for those behind them.
pub room_first : (xs ys : List ℕ) (at room : ℕ) → at + length (xs ++ ys) ≤ room → at + length xs ≤ room
room_first xs ys at room r = let e = length-append xs ys in omega arith

pub room_after : {out : List ℕ} {at : ℕ} {xs : List ℕ} {next : ℕ} {out' : List ℕ} (ys : List ℕ) → Written out at xs next out' → at + length (xs ++ ys) ≤ length out
    → next + length ys ≤ length out'
room_after {xs = xs} ys w r = let e = length-append xs ys in let p = w.place in let k = written_length w in omega arith

-- The same of outputs.
module _ {o o' : Output} {xs : List ℕ} (v : IsWritten o o' xs) where
  -- The buffer keeps its length.
  pub length_kept : length o'.bytes.now ≡ length o.bytes.now
  length_kept = written_length v.written

  -- Where there was room for them and others, there is room for the others.
  pub room_left : (ys : List ℕ) → o.at + length (xs ++ ys) ≤ length o.bytes.now → o'.at + length ys ≤ length o'.bytes.now
  room_left ys r = room_after ys v.written r

  -- Other bytes written behind them.
  pub written_on : {o'' : Output} {ys : List ℕ} → IsWritten o' o'' ys → IsWritten o o'' (xs ++ ys)
  written_on w = record { written = and_then v.written w.written; lent = w.lent ∙ v.lent }

  -- The same bytes, said otherwise.
  pub said_as : {ys : List ℕ} → xs ≡ ys → IsWritten o o' ys
  said_as e = record { written = written_as v.written e; lent = v.lent }
