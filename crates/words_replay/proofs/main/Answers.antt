-- `main` is safe: what is handed on may be called again and again.
use denote.Param.Always.{mut_by}
use Rattle.words_replay.proofs.main.Goals as goal

pub replay_input-requires-clause-callable : goal.replay_input-requires-clause-callable
replay_input-requires-clause-callable c = mut_by _ (λ s. Unit {0}) (λ s a i. tt) (λ s a r t i e. tt) _ tt
