-- `find` meets its contract: each row is asked whether it is called so.
use Rattle.std.proofs.lemmas.Iterator.Search.{position_from_yields_List}
use Rattle.std.proofs.lemmas.Iterator.{YieldsList-from_slice}
use Rattle.std.proofs.Common.{rules}
use Rattle.source_text.specs.Bytes.{same_bytes}
use Rattle.names.proofs.find.Goals as goal

pub returns : goal.returns
returns g c =
    position_from_yields_List (λ row. same_bytes (g.R.Named.name c.args.text.now row) c.args.w.now) _ _ c.position.result c.position.ensures.ran (YieldsList-from_slice c.args.rows.now cc) (λ x b q e. (search rules, search rules))
