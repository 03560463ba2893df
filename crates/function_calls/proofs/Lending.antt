-- The buffers of a store stay lent.
use Rattle.std.proofs.Common.{refl, ◌∙◌}
use Rattle.function_calls.specs.Calls.{IsLent}
use Rattle.function_calls.specs.declared.calls.Store.{Store}

pub lent_start : {s : Store} → IsLent s s
lent_start = record { words = refl; links = refl; trees = refl; stack = refl; trees_kept = refl; stack_kept = refl }

pub lent_on : {s s' s'' : Store} → IsLent s s' → IsLent s' s'' → IsLent s s''
lent_on h k = record {
  words = k.words ∙ h.words;
  links = k.links ∙ h.links;
  trees = k.trees ∙ h.trees;
  stack = k.stack ∙ h.stack;
  trees_kept = k.trees_kept ∙ h.trees_kept;
  stack_kept = k.stack_kept ∙ h.stack_kept;
}
