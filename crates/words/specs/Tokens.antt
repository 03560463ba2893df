-- The Rust's `lex`, and 6 with it: line by line, from left to right, the comment cut off first.
use Rattle.std.specs.Prelude.{Bool, cond, not, ◌||◌, List, [], ◌∷◌, ◌++◌, ℕ, zero, suc, ◌+◌, ◌-◌, eqb, length}
use Rattle.source_text.specs.Bytes.{up_to}
use Rattle.source_text.specs.Characters.{blank, letter, digit, sign, character_of, has_outside}
use Rattle.source_text.specs.Lines.{code_of}
use Rattle.words.specs.Names.{word_item}
use Rattle.words.specs.Signs.{sign_item}
use Rattle.refusals.specs.declared.Refusal.{Refusal}
use Rattle.refusals.specs.declared.Refusal.TheVariants.{UnexpectedCharacter}
use Rattle.words.specs.Items.{Item}
use Rattle.words.specs.Items.Item.{Blank, Token, Refused}

-- Do characters of a class make words?
abbrev pub is_word : ℕ → Bool
is_word class = eqb class letter || eqb class digit

-- The word at the start of s.
unfoldable pub word_of : List ℕ → List ℕ
word_of = up_to (λ s. not (is_word (character_of s).class))

-- What stands at the start of s: a blank, a token of a kind and a length, or a refusal.
unfoldable pub item_of : List ℕ → Item
item_of s =
    cond (eqb (character_of s).class blank) Blank
    (cond (is_word (character_of s).class) (word_item (word_of s))
    (cond (eqb (character_of s).class sign) (sign_item s)
    (Refused UnexpectedCharacter)))

-- What reading comes to: the token rows (kind, start, length, line), or a refusal and its line.
pub data Reading : Type 0 where
  tokens : List (List ℕ) → Reading
  refused : Refusal → ℕ → Reading

-- One reading after another: the first refusal, or all tokens.
unfoldable pub and_then : Reading → Reading → Reading
and_then (refused r n) b = refused r n
and_then (tokens ts) (refused r n) = refused r n
and_then (tokens ts) (tokens us) = tokens (ts ++ us)

-- The reading of one item at place p of line n.
abbrev pub read_item : Item → ℕ → ℕ → Reading
read_item Blank p n = tokens []
read_item (Token kind m) p n = tokens ((kind ∷ p ∷ m ∷ n ∷ []) ∷ [])
read_item (Refused r) p n = refused r n

-- How many bytes an item has. (A refusal ends the reading, so its length is of no account.)
abbrev pub item_length : Item → ℕ
item_length Blank = 1
item_length (Token kind m) = m
item_length (Refused r) = 1

-- The reading of s, which starts at place p of line n, after its first k bytes, the rest of the token before.
unfoldable pub read_after : List ℕ → ℕ → ℕ → ℕ → Reading
read_after [] k p n = tokens []
read_after (c ∷ s) (suc k) p n = read_after s k (suc p) n
read_after (c ∷ s) zero p n = and_then (read_item (item_of (c ∷ s)) p n) (read_after s (item_length (item_of (c ∷ s)) - 1) (suc p) n)

-- The reading of lines, of which the first starts at place p and is line n.
unfoldable pub read_lines : List (List ℕ) → ℕ → ℕ → Reading
read_lines [] p n = tokens []
read_lines (l ∷ ls) p n = and_then (read_after (code_of l) 0 p n) (read_lines ls (p + length l + 1) (n + 1))

-- The number of the first line with a character outside the domain and not in a comment; 0 where there is none.
unfoldable pub outside_line : List (List ℕ) → ℕ → ℕ
outside_line [] n = 0
outside_line (l ∷ ls) n = cond (has_outside (code_of l)) n (outside_line ls (n + 1))
