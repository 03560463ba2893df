-- What rules are written to is lent in one struct.
use Rattle.std.specs.Prelude.{◌≡◌, length}
use Rattle.std.proofs.Common.{refl, ◌∙◌}
use Rattle.declarations.specs.declared.Store.{Store}

-- The same buffers are lent, as long as they were.
pub record IsLent (s s' : Store) : Type 0 where
  pub rules : s'.rules.ghost_name ≡ s.rules.ghost_name
  pub words : s'.words.ghost_name ≡ s.words.ghost_name
  pub out : s'.out.ghost_name ≡ s.out.ghost_name
  pub calls : s'.calls.ghost_name ≡ s.calls.ghost_name
  pub rules_long : length s'.rules.now ≡ length s.rules.now
  pub words_long : length s'.words.now ≡ length s.words.now
  pub out_long : length s'.out.now ≡ length s.out.now
  pub calls_long : length s'.calls.now ≡ length s.calls.now

-- Laws

pub lent_start : {s : Store} → IsLent s s
lent_start =
    record { rules = refl; words = refl; out = refl; calls = refl; rules_long = refl; words_long = refl; out_long = refl; calls_long = refl }

pub lent_on : {s s' s'' : Store} → IsLent s s' → IsLent s' s'' → IsLent s s''
lent_on h k =
    record {
      rules = k.rules ∙ h.rules;
      words = k.words ∙ h.words;
      out = k.out ∙ h.out;
      calls = k.calls ∙ h.calls;
      rules_long = k.rules_long ∙ h.rules_long;
      words_long = k.words_long ∙ h.words_long;
      out_long = k.out_long ∙ h.out_long;
      calls_long = k.calls_long ∙ h.calls_long;
    }
