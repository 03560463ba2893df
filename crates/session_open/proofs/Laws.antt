-- What `open` answers: one law for each way out.
use Rattle.std.proofs.Common.{◌≡◌, Bool, true, false, refl, sym, ◌∙◌}
use Rattle.std.specs.Prelude.{Ok, Err}
use Rattle.words.specs.declared.Limits.{Limits}
use Rattle.terms.specs.Numbers.{true_false}
use Rattle.refusals.specs.declared.Refusal.TheVariants.{Storage}
use Rattle.sessions.specs.Storage.{SessionStore, Workspace, too_short, zero_store, zero_space}
use Rattle.sessions.specs.Promises.{Opening}

module _ (limits : Limits) (b : SessionStore) (s : Workspace) where
  pub opening_short : {r : Bool} → r ≡ too_short limits b s → r ≡ true → Opening limits b s (Err Storage) b s
  opening_short is e =
      let t : too_short limits b s ≡ true = sym is ∙ e in
      record { told = rw t refl; short = λ _. (refl, refl, refl); enough = λ f. true_false t f }

  pub opening_new : {r : Bool} → r ≡ too_short limits b s → r ≡ false → Opening limits b s (Ok tt) (zero_store b) (zero_space s)
  opening_new is e =
      let t : too_short limits b s ≡ false = sym is ∙ e in
      record { told = rw t refl; short = λ f. true_false f t; enough = λ _. (refl, refl, refl) }
