-- `character_at` meets its contract.
use mathlib.Core.Path.{sym, ap, ◌∙◌}
use mathlib.Core.List.{[], ◌∷◌}
use lib.ListN.{length-drop}
use native.Mathlib.Omega.{arith}
use Rattle.std.proofs.lemmas.List.{take_all}
use Rattle.source_text.specs.Bytes.{starts_with}
use Rattle.source_text.specs.Utf8.{positive, character_length}
use Rattle.source_text.proofs.Encodings.{positive_or, character_past, character_ascii, character_wide}
use Rattle.source_text.proofs.characters.character_at.Goals as goal

pub returns-then-text-at : goal.returns-then-text-at
returns-then-text-at c = sym (character_past _ _ c.if-text-at.true)

pub returns-then-c-lt128 : goal.returns-then-c-lt128
returns-then-c-lt128 c = sym (character_ascii _ _ c.if-text-at.false c.if-c-lt128.true ∙ simp (← c.class_of.ensures))

pub returns-then-starts_with : goal.returns-then-starts_with
returns-then-starts_with c = sym (character_wide _ _ c.if-text-at.false c.if-c-lt128.false ∙ simp (← (c.starts_with.ensures ∙ ap (starts_with (226 ∷ 134 ∷ 146 ∷ [])) (take_all _ _ (simp length-drop (omega arith)))), c.if-starts_with.true))

pub returns : goal.returns
returns c = sym (character_wide _ _ c.if-text-at.false c.if-c-lt128.false ∙ simp (← (c.starts_with.ensures ∙ ap (starts_with (226 ∷ 134 ∷ 146 ∷ [])) (take_all _ _ (simp length-drop (omega arith)))), c.if-starts_with.false, c.unwrap_or.ensures, c.character_length.ensures ∙ ap (λ s. positive (character_length s)) (take_all _ _ (simp length-drop (omega arith))), positive_or))
