-- `write` meets its contract: the bytes stand in the buffer from the place on.
use mathlib.Core.Path.{◌≡◌, refl, sym, ◌∙◌}
use Prim.Native.Nat.{◌+◌, ◌-◌}
use lib.ListN.{length}
use lib.Seq.{drop-drop}
use mathlib.Core.List.{append_assoc}
use native.Mathlib.Omega.{arith}
use Rattle.std.proofs.lemmas.List.Edits.{sets-eq}
use Rattle.byte_output.proofs.output.Output.write.Goals as goal

pub returns : goal.returns
returns c =
    let from = c.args.self.now.at in
    let n : from + length c.args.bytes.now - from ≡ length c.args.bytes.now = omega arith in
    record {
      written = record {
        buffer = sym (sets-eq c.args.bytes.now c.args.self.now.bytes.now from (omega arith) ∙ simp (n, c.copy_from_slice.ensures.after, append_assoc, drop-drop));
        place = refl;
      };
      lent = refl;
    }
