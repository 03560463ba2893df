-- `write_refusal` is safe: a refusal's line has at most 35 bytes.
use Rattle.listing.specs.SizeLaws.{refused_short}
use native.Mathlib.Omega.{arith}
use Rattle.listing.proofs.write_refusal.Goals as goal

pub write_refused-n-requires : goal.write_refused-n-requires
write_refused-n-requires c = let h = refused_short c.args.number c.args.line in omega arith
