-- What an evaluation is lent to write (docs/STORAGE.md, "Evaluation"), how much of it, and what clearing leaves.
use Rattle.std.specs.Prelude.{ℕ, ◌+◌, ◌≡◌, Bool, ◌||◌, List, ltb, length, replicate}
use Rattle.words.specs.Lexer.{capped_of}
use Rattle.words.specs.declared.Limits.{Limits}
use Rattle.names.specs.Symbols.{Rows}
use Rattle.function_calls.specs.Calls.{tree_rows}
use Rattle.evaluator.specs.declared.Buffers.{Buffers}

-- The words of values, links for comparing them, and the rows of trees.
pub record Results : Type 0 where
  pub words : List ℕ
  pub links : List ℕ
  pub trees : Rows

-- What the buffers hold, and that the same ones are lent, as long as before.
abbrev pub results_in : Buffers → Results
results_in b = record { words = b.words.now; links = b.links.now; trees = b.trees.now }

pub record AreLent (b b' : Buffers) : Type 0 where
  pub words : b'.words.ghost_name ≡ b.words.ghost_name
  pub links : b'.links.ghost_name ≡ b.links.ghost_name
  pub trees : b'.trees.ghost_name ≡ b.trees.ghost_name
  pub words_long : length b'.words.now ≡ length b.words.now
  pub links_long : length b'.links.now ≡ length b.links.now
  pub trees_long : length b'.trees.now ≡ length b.trees.now

-- The most words of an evaluation: the caller's limit, or document 01's.
abbrev pub most_words : Limits → ℕ
most_words limits = (capped_of limits).words

-- Behind the words there is scratch for the references of arguments whose node is still open: one for each word of a rule's terms, and one more.
abbrev pub scratch_words : ℕ
scratch_words = 2049

-- Is a buffer shorter than the limits ask? There is a link for each word, and a row of trees for each call that so many words allow.
abbrev pub is_short : ℕ → ℕ → ℕ → ℕ → Bool
is_short most words links trees = ltb words (most + scratch_words) || (ltb links most || ltb trees (tree_rows most))

abbrev pub too_short : Limits → Results → Bool
too_short limits b = is_short (most_words limits) (length b.words) (length b.links) (length b.trees)

-- The value in each word, link and column.
abbrev pub filled : ℕ → Results → Results
filled value b =
    record {
      words = replicate (length b.words) value;
      links = replicate (length b.links) value;
      trees = replicate (length b.trees) (replicate 8 value);
    }

-- All is zero.
abbrev pub wiped : Results → Results
wiped b = filled 0 b
