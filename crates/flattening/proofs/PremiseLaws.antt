-- A call becomes a premise: its row, its arguments' rows and the row of its result variable stand behind the premises so far.
use mathlib.Core.Path.{◌≡◌, refl, ◌∙◌}
use mathlib.Core.List.{List, [], ◌∷◌}
use Prim.Native.Nat.{ℕ, suc, ◌+◌, ◌*◌, ◌-◌, ◌≤◌, ◌<◌}
use native.Mathlib.Omega.{arith}
use lib.ListN.{length, take, drop, set, length-set}
use borrow.Rule.Slice.PartMut.{put_mid}
use lib.Seq.{get_or-set_same, get_or-set_other}
use Rattle.source_text.specs.Parts.{part_of}
use Rattle.term_parser.specs.Source.{one, many}
use Rattle.term_parser.specs.Rows.{application_kind}
use Rattle.term_parser.specs.Standing.{Written, called, applied, size}
use Rattle.names.specs.Names.{result_name, result_kind, result_length}
use Rattle.names.specs.Symbols.{Rows, row_at}
use Rattle.names.specs.Standing.{Stands}
use Rattle.flattening.specs.Flattening.{snoc}
use Rattle.flattening.specs.Promises.{call_limit, Copied, Replaced}
use Rattle.flattening.proofs.RowLaws.{copied, moved, stands_snoc, size_snoc, stands_result, stands_applied}

module _ (out calls part : Rows) (top last end number start size' args n next k : ℕ)
    (is : part ≡ take (last - (top + 1)) (drop (top + 1) out)) (long_part : k ≡ last - (top + 1))
    (a : top < last) (b : last ≤ length out) (d : end + last + 2 * (call_limit - number) ≤ length calls) (allowed : number < call_limit) (ne : n ≡ result_length number) where
  abbrev result : List ℕ
  result = result_kind ∷ (16 * number) ∷ n ∷ 0 ∷ []

  abbrev call : List ℕ
  call = application_kind ∷ start ∷ size' ∷ (args + 1) ∷ []

  -- The rows with the call and its arguments.
  abbrev moved_in : Rows
  moved_in = put_mid (end + 1) k (set calls end call) part

  C : Copied out (set calls end call) moved_in (top + 1) (last - (top + 1)) (end + 1)
  C = let e = length-set calls end call in copied out (set calls end call) part (top + 1) (last - (top + 1)) (end + 1) k long_part (omega arith) (omega arith) is

  abbrev written : Rows
  written = set moved_in (end + (last - top)) result

  long : length moved_in ≡ length calls
  long = C.kept ∙ length-set calls end call

  low_row : (i : ℕ) → i < end → row_at written i ≡ row_at calls i
  low_row i l =
      get_or-set_other moved_in (end + (last - top)) i result [] (λ q. omega arith)
      ∙ C.below i (omega arith)
      ∙ get_or-set_other calls end i call [] (λ q. omega arith)

  call_row : row_at written end ≡ call
  call_row =
      get_or-set_other moved_in (end + (last - top)) end result [] (λ q. omega arith)
      ∙ C.below end (omega arith)
      ∙ get_or-set_same calls end call [] (omega arith)

  argument_row : (i : ℕ) → i < last - (top + 1) → row_at written (end + 1 + i) ≡ row_at out (top + 1 + i)
  argument_row i l = get_or-set_other moved_in (end + (last - top)) (end + 1 + i) result [] (λ q. omega arith) ∙ C.here i (omega arith)

  result_row : row_at written (end + (last - top)) ≡ result
  result_row = let e = long in get_or-set_same moved_in (end + (last - top)) result [] (omega arith)

  both_stand : (text : List ℕ) (ps us : Written many) → Stands text calls 0 ps end → size ps ≡ number → Stands text out (top + 1) us last → size us ≡ args
      → Stands text (set out top result) top (called (result_name (suc number))) (top + 1)
      × Stands text written 0 (snoc ps (applied (part_of text start size') (snoc us (called (result_name (suc number)))))) (end + (last - top) + 1)
  both_stand text ps us sp cp su cu =
      let lx = long in
      let ly = length-set moved_in (end + (last - top)) result in
      let lo = length-set out top result in
      let v : Written one = called (result_name (suc number)) in (
        stands_result text (set out top result) top number n (omega arith) (get_or-set_same out top result [] (omega arith)) ne allowed,
        stands_snoc text written ps (applied (part_of text start size') (snoc us v)) 0 end (end + (last - top) + 1)
            (moved text calls written ps 0 0 end end sp (λ i l. low_row (0 + i) (omega arith)) (omega arith) (omega arith))
            (stands_applied text written end start size' (args + 1) (snoc us v) (end + (last - top) + 1) (omega arith) call_row
            (let k = size_snoc us v in omega arith)
            (stands_snoc text written us v (end + 1) (end + (last - top)) (end + (last - top) + 1)
            (moved text out written us (top + 1) (end + 1) last (end + (last - top)) su argument_row (omega arith) (omega arith))
            (stands_result text written (end + (last - top)) number n (omega arith) result_row ne allowed))),
      )

  pub replaced : Replaced out top last calls end number start size' args next (set out top result) written next (top + 1) (end + (last - top) + 1) (number + 1)
  replaced =
      record {
        next_same = refl;
        one_row = refl;
        appended = refl;
        one_more = refl;
        allowed = allowed;
        below = λ i l. get_or-set_other out top i result [] (λ q. omega arith);
        stand = both_stand;
      }
