-- `fill` meets its contract: each buffer is filled by a call of its own.
use borrow.Author.Rules.{rules}
use mathlib.Core.Path.{refl, ◌∙◌}
use Rattle.load_storage.proofs.WipeLaws.{wipe}
use Rattle.load_storage.proofs.LentBuffers.fill.Goals as goal

pub returns-clause-filled : goal.returns-clause-filled
returns-clause-filled c =
    record {
      tokens = c.fill_rows.ensures ∙ wipe _ _ _ refl;
      rows = c.fill_rows-2.ensures ∙ wipe _ _ _ refl;
      calls = c.fill_rows-3.ensures ∙ wipe _ _ _ refl;
      sorts = c.fill_rows-4.ensures ∙ wipe _ _ _ refl;
      symbols = c.fill_rows-5.ensures ∙ wipe _ _ _ refl;
      rules = c.fill_rows-6.ensures ∙ wipe _ _ _ refl;
      words = search rules;
      evals = c.fill_rows-7.ensures ∙ wipe _ _ _ refl;
    }
