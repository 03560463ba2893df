-- `is_accepted_with` meets its contract: what was overwritten is put back.
use Rattle.std.proofs.Common.{ℕ, ap, ◌∙◌}
use Rattle.signature_tests.specs.Damage.{changed}
use Rattle.signature_tests.specs.declared.damage.LoadedSignature.{LoadedSignature}
use Rattle.signature_tests.proofs.Laws.{put_back}
use Rattle.signature_tests.proofs.damage.is_accepted_with.Goals as goal

pub returns-clause-kept : goal.returns-clause-kept
returns-clause-kept c =
    let a = c.args in
    let before = c.exchange-before in
    c.exchange.ensures.changed
    ∙ ap (λ (l : LoadedSignature). changed a.spot l before.result) before.ensures.changed
    ∙ ap (λ (n : ℕ). changed a.spot (changed a.spot a.loaded.now a.value) n) before.ensures.before
    ∙ put_back a.spot a.loaded.now a.value c.requires
