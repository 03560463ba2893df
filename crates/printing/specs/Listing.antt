-- The listing of a text (document 01, "One text in full"), in stages: what came of each `#eval`, the nodes of its trees in preorder, a line for each node, the
-- bytes.
use Rattle.std.specs.Prelude.{ℕ, Bool, false, ◌||◌, cond, List, [], ◌∷◌, ◌++◌, map, get_or}
use Rattle.terms.specs.Term.{Term}
use Rattle.terms.specs.Term.Kind.{one, many}
use Rattle.names.specs.Names.{Name}
use Rattle.names.specs.Symbols.{Symbol}
use Rattle.resolution.specs.Rules.{Tree}
use Rattle.resolution.specs.Preorder.{Entry, entry, preorder}
use Rattle.loader.specs.Signature.{Signature}
use Rattle.byte_output.specs.Output.{numeral}
use Rattle.listing.specs.Listing.{refused_word, line_end, refused_line}
use Rattle.printing.specs.Terms.{space, term_bytes, is_too_large}

-- What came of an `#eval`: a value with the trees of its calls, a proof, none, no decision, or a refusal. The bindings are put in throughout.
pub data Answer : Type 0 where
  value : Term → Tree many → Answer
  proved : Tree one → Answer
  nothing : Answer
  undecided : Answer
  refused : ℕ → Answer

-- What came of a text: the refusal that it met with its line, or for each `#eval` an answer with the line.
pub record Item : Type 0 where
  pub line : ℕ
  pub answer : Answer

pub data Listed : Type 0 where
  stopped : ℕ → ℕ → Listed
  answered : List Item → Listed

-- The nodes of an answer in preorder, each with its height.
abbrev pub entries_of : Answer → List Entry
entries_of (value t ps) = preorder 1 ps
entries_of (proved p) = preorder 1 p
entries_of nothing = []
entries_of undecided = []
entries_of (refused n) = []

-- Has a node a goal that is too large,
abbrev pub any_too_large : List Entry → Bool
any_too_large [] = false
any_too_large (entry h r g ∷ es) = is_too_large g || any_too_large es

-- or an answer a term that is: its value, or the goal of a node?
abbrev pub has_too_large : Answer → Bool
has_too_large (value t ps) = is_too_large t || any_too_large (preorder 1 ps)
has_too_large (proved p) = any_too_large (preorder 1 p)
has_too_large nothing = false
has_too_large undecided = false
has_too_large (refused n) = false

-- The answer as it is printed: one with a term that is too large is refused by 39.
abbrev pub printed : Answer → Answer
printed a = cond (has_too_large a) (refused 39) a

-- `line `, `value `, `proved`, `none` and `undecided`.
abbrev pub line_word : List ℕ
line_word = 108 ∷ 105 ∷ 110 ∷ 101 ∷ 32 ∷ []

abbrev pub value_word : List ℕ
value_word = 118 ∷ 97 ∷ 108 ∷ 117 ∷ 101 ∷ 32 ∷ []

abbrev pub proved_word : List ℕ
proved_word = 112 ∷ 114 ∷ 111 ∷ 118 ∷ 101 ∷ 100 ∷ []

abbrev pub none_word : List ℕ
none_word = 110 ∷ 111 ∷ 110 ∷ 101 ∷ []

abbrev pub undecided_word : List ℕ
undecided_word = 117 ∷ 110 ∷ 100 ∷ 101 ∷ 99 ∷ 105 ∷ 100 ∷ 101 ∷ 100 ∷ []

-- `line L ` in front of a verdict.
abbrev pub line_start : ℕ → List ℕ
line_start line = line_word ++ (numeral line ++ (space ∷ []))

module _ (symbols : List Symbol) (rules : List Name) where
  -- A verdict.
  abbrev pub verdict_bytes : Answer → List ℕ
  verdict_bytes (value t ps) = value_word ++ term_bytes symbols t
  verdict_bytes (proved p) = proved_word
  verdict_bytes nothing = none_word
  verdict_bytes undecided = undecided_word
  verdict_bytes (refused n) = refused_word ++ numeral n

  -- A node's line: height, rule, goal.
  abbrev pub entry_line : Entry → List ℕ
  entry_line (entry h r g) = numeral h ++ ((space ∷ []) ++ (get_or rules r [] ++ ((space ∷ []) ++ (term_bytes symbols g ++ line_end))))

  abbrev pub entry_lines : List Entry → List ℕ
  entry_lines [] = []
  entry_lines (e ∷ es) = entry_line e ++ entry_lines es

  -- The line of an answer, and its nodes.
  abbrev pub answer_lines : ℕ → Answer → List ℕ
  answer_lines line a = line_start line ++ (verdict_bytes a ++ (line_end ++ entry_lines (entries_of a)))

  abbrev pub item_lines : Item → List ℕ
  item_lines i = answer_lines i.line (printed i.answer)

  abbrev pub items_lines : List Item → List ℕ
  items_lines [] = []
  items_lines (i ∷ is) = item_lines i ++ items_lines is

-- The bytes of a text's listing.
abbrev pub listing_of : Signature → Listed → List ℕ
listing_of sg (stopped n line) = refused_line n line
listing_of sg (answered is) = items_lines sg.symbols (map (λ R. R.name) sg.rules) is
