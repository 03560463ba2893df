-- `put_two` meets its contract: the second tower begins where the first one ends.
use Rattle.std.proofs.Common.{◌≡◌, ◌+◌, ◌*◌, ap, ◌∙◌, arith}
use Rattle.samples.specs.Building.{Level}
use Rattle.samples.proofs.Towers.{next_behind}
use Rattle.samples.proofs.build.put_two.Goals as goal

pub returns-in_err-second : goal.returns-in_err-second
returns-in_err-second c =
    let behind : c.in_ok-first.first.next ≡ c.args.at + c.args.lower.height * (1 + c.args.lower.arity) =
    ap (λ (l : Level). l.next) c.in_ok-first.ensures ∙ next_behind c.args.lower.height c.args.room c.args.lower.arity _ in
    let long = c.try_put_tower.auto.words in
    rw c.from_residual-in_err-second.ensures
    (λ few narrow room low high end.
    let short = c.in_err-second.ensures.1 narrow room (omega (arith, behind, end)) high in
    omega (arith, short, behind, long))
