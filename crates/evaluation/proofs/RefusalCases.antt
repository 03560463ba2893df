-- Cases of evaluation in which two refusals, or a refusal and a value, are near each other: what is a forward call, the order of a
-- term's tests, numerals, calls and clauses, and words. All of them come out by running the definitions, from the bytes of their texts.
use Rattle.std.specs.Prelude.{ℕ, zero, suc, ◌≡◌, refl, true, List, [], ◌∷◌, ◌++◌}
use Prim.Native.String.{String, ◌++◌ as ◌++ᵗ◌}
use Rattle.source_text.specs.Bytes.{one_of, starts_with, same_bytes, up_to}
use Rattle.source_text.specs.Utf8.{forms, form_of, lead_of, tails_of, character_length, utf8_after, is_utf8}
use Rattle.source_text.specs.Characters.{class_of, character_of, outside_after, has_outside}
use Rattle.source_text.specs.Lines.{lines, code_of}
use Rattle.source_text.specs.Numerals.{all_digits, value_from, numeral_of as digitsOf}
use Rattle.words.specs.Names.{keywords, number_among, keyword_of, word_item}
use Rattle.words.specs.Signs.{signs, sign_among, sign_item}
use Rattle.words.specs.Tokens.{and_then, word_of, item_of, read_after, read_lines, outside_line}
use Rattle.words.specs.Lexer.{lex_of}
use Rattle.terms.specs.Numbers.{same}
use Rattle.term_parser.specs.Source.{all_of, extend, count}
use Rattle.term_parser.specs.Parsing.{repeat}
use Rattle.term_parser.specs.Grammar.{atom_of, app_of, term_of, parenthesis}
use Rattle.term_parser.specs.Standing.{size, spelled}
use Rattle.parser.specs.Declarations.{ends_in_prop, body_of, declaration_of, parse_of}
use Rattle.names.specs.Names.{find, digits, result_name}
use Rattle.patterns.specs.Patterns.{pattern_of, chain, enter}
use Rattle.flattening.specs.Flattening.{flatten_of}
use Rattle.rules.specs.Rules.{rule_of, all_known}
use Rattle.clauses.specs.Clauses.{clause_of}
use Rattle.loader.specs.Signature.{numbers_of, enter_clauses, load_from}
use Rattle.evaluation.specs.Matching.{bind_of, instantiate_of}
use Rattle.evaluation.specs.Calls.{premises_of, clauses_of, call_of}
use Rattle.evaluation.specs.Expressions.{is_ground, is_forward_call, tower_of, numeral_of, expression_of}
use Rattle.evaluation.specs.TextCases.{is_goal, is_value, is_refused, Case, gives, gives_with, gives_from, TextCases, all_expected}

-- The text of most cases.
unfoldable functions : List String
functions =
    "sort A sort B"
    ∷ "ctor a : A ctor b : B ctor s : A → A ctor d : A → A → A ctor zero : A ctor succ : A → A"
    ∷ "pred p : A → Prop pred q : Prop"
    ∷ "def id : A → A | x => x                      def k : A → A → A | x, y => x"
    ∷ "def c : A | => a                             def n : A → A"
    ∷ "def m : A → A | a => a                       def l : A → A | x => l x"
    ∷ "def u : A → A | x => y                       def v : A → A | x => n y"
    ∷ "def e : A → A → A | x, x => a | x, y => s a  def f : A → A | s x => m x | x => a"
    ∷ "def r : A → A → A | result.1, x => id x      def t : A → A | x => k (id x) result.1"
    ∷ "def h : A → A | x => k result.2 (id x)       def w : A → A | x => n x"
    ∷ "def j : A | => a | => s a                    def i : A | => i"
    ∷ "def o1 : A → A | x => d 3 y                  def o2 : A → A | x => d y 3"
    ∷ "def big : A | => 127                         def down : A → A | zero => a | succ x => down x"
    ∷ "def lost : A → A | zero => lost y | succ x => lost x   def meta : A → A | ?x => x"
    ∷ []

-- Which `#eval` is evaluated.
unfoldable forward : List Case
forward =
    gives "c" (is_value "a")
    ∷ gives "(c)" (is_value "a")
    ∷ gives "id = a" (is_value "a")
    ∷ gives "id x" (is_refused 20)
    ∷ gives "c = a" is_goal
    ∷ gives "id a = a" is_goal
    ∷ gives "id a a" is_goal
    ∷ gives "id a x" is_goal
    ∷ gives "id ?x" is_goal
    ∷ gives "id (s ?x)" is_goal
    ∷ gives "id" is_goal
    ∷ gives "id a a a" is_goal
    ∷ gives "s (id a)" is_goal
    ∷ gives "a" is_goal
    ∷ gives "3" is_goal
    ∷ []

-- `id = id (id = id (… zero …))` with so many parentheses: each of them is two deeper.
unfoldable in_parentheses : ℕ → String
in_parentheses zero = "id = id zero"
in_parentheses (suc n) = "id = id (" ++ᵗ (in_parentheses n ++ᵗ ")")

-- The order of a term's tests: name, predicate, count, then each argument with its sort before the next.
unfoldable terms : List Case
terms =
    gives "id (p a a)" (is_refused 32)
    ∷ gives "id p" (is_refused 32)
    ∷ gives "id q" (is_refused 32)
    ∷ gives "id (z a)" (is_refused 20)
    ∷ gives "id A" (is_refused 20)
    ∷ gives "id (s b b)" (is_refused 21)
    ∷ gives "id (id)" (is_refused 21)
    ∷ gives "k b z" (is_refused 33)
    ∷ gives "k z b" (is_refused 20)
    ∷ gives "k b (n a)" (is_refused 33)
    ∷ gives "k (n a) b" (is_refused 34)
    ∷ gives "id (d b z)" (is_refused 33)
    ∷ gives "id 127" (is_value "127")
    ∷ gives "id 128" (is_refused 29)
    ∷ gives "id (s 126)" (is_value "s 126")
    ∷ gives "id (s 127)" (is_refused 29)
    ∷ gives_with 0 "id 200" (is_refused 29)
    ∷ gives (in_parentheses 63) (is_value "zero")
    ∷ gives (in_parentheses 64) (is_refused 29)
    ∷ []

-- Calls: depth, then their number, then clauses; the first clause that fits is taken for good.
unfoldable calls : List Case
calls =
    gives_from 127 9999 "c" (is_value "a")
    ∷ gives_from 128 9999 "c" (is_refused 29)
    ∷ gives_from 127 10000 "c" (is_refused 30)
    ∷ gives_from 128 10000 "c" (is_refused 29)
    ∷ gives_from 0 9999 "n a" (is_refused 34)
    ∷ gives_from 0 10000 "n a" (is_refused 30)
    ∷ gives_from 0 9999 "id c" (is_refused 30)
    ∷ gives "n a" (is_refused 34)
    ∷ gives "w a" (is_refused 34)
    ∷ gives "m (s a)" (is_refused 34)
    ∷ gives "f (s (s a))" (is_refused 34)
    ∷ gives "e a a" (is_value "a")
    ∷ gives "e a (s a)" (is_value "s a")
    ∷ gives "j" (is_value "a")
    ∷ gives "l a" (is_refused 29)
    ∷ gives "u a" (is_refused 36)
    ∷ gives "v a" (is_refused 36)
    ∷ gives "h a" (is_refused 36)
    ∷ gives "t a" (is_value "a")
    ∷ gives "r a a" (is_value "a")
    ∷ gives "r (s a) a" (is_refused 35)
    ∷ gives "down big" (is_value "a")
    ∷ gives "down (succ big)" (is_refused 29)
    ∷ gives "lost 127" (is_refused 36)
    ∷ gives "meta a" (is_refused 36)
    ∷ []

-- Words: a node is counted after its arguments, and the whole conclusion of each call.
unfoldable words : List Case
words =
    gives_with 3 "c" (is_value "a")
    ∷ gives_with 2 "c" (is_refused 37)
    ∷ gives_with 4 "id a" (is_value "a")
    ∷ gives_with 3 "id a" (is_refused 37)
    ∷ gives_with 0 "i" (is_refused 29)
    ∷ gives_with 7 "o1 a" (is_refused 37)
    ∷ gives_with 8 "o1 a" (is_refused 36)
    ∷ gives_with 1 "o2 a" (is_refused 36)
    ∷ []

-- Numerals, and a constructor with the name of a result, where other constructors are declared.
unfoldable others : List TextCases
others =
    record {
      text = "sort A ctor zero : A ctor succ : A → A → A def id : A → A | x => x" ∷ [];
      cases = gives "id 0" (is_value "0") ∷ gives "id 1" (is_refused 21) ∷ gives "id 500" (is_refused 21) ∷ [];
    }
    ∷ record {
      text = "sort A ctor zero : A → A ctor succ : A → A def id : A → A | x => x" ∷ [];
      cases = gives "id 0" (is_refused 21) ∷ gives "id 127" (is_refused 21) ∷ gives "id 128" (is_refused 29) ∷ [];
    }
    ∷ record {
      text = "sort A sort B ctor zero : A ctor succ : A → B def g : B → A | x => zero" ∷ [];
      cases =
          gives "g 1" (is_value "0")
          ∷ gives "g 2" (is_refused 33)
          ∷ gives "g 200" (is_refused 29)
          ∷ gives_with 2 "g 2" (is_refused 37)
          ∷ gives_with 3 "g 2" (is_refused 33)
          ∷ [];
    }
    ∷ record { text = "sort A ctor zero : A def id : A → A | x => x" ∷ []; cases = gives "id 0" (is_refused 26) ∷ [] }
    ∷ record { text = "sort A ctor zero : A def succ : A → A | x => x" ∷ []; cases = gives "succ 0" (is_refused 26) ∷ [] }
    ∷ record {
      text = "sort A ctor a : A ctor s : A → A ctor result.1 : A def id : A → A | x => x def g : A → A | x => s (id x)" ∷ [];
      cases = gives "g a" (is_refused 35) ∷ gives "g result.1" (is_value "s result.1") ∷ [];
    }
    ∷ []

unfoldable refusals : List TextCases
refusals = record { text = functions; cases = forward ++ (terms ++ (calls ++ words)) } ∷ others

refusals_expected : all_expected refusals ≡ true
unfolding functions forward in_parentheses terms calls words others refusals one_of starts_with same_bytes up_to forms form_of lead_of tails_of
    character_length utf8_after is_utf8 class_of character_of outside_after has_outside lines code_of all_digits value_from digitsOf keywords
    number_among keyword_of word_item signs sign_among sign_item and_then word_of item_of read_after read_lines outside_line lex_of all_of extend
    count repeat atom_of app_of term_of parenthesis size spelled ends_in_prop body_of declaration_of parse_of find digits result_name pattern_of
    chain enter flatten_of rule_of all_known clause_of numbers_of enter_clauses load_from same is_ground is_forward_call bind_of instantiate_of
    premises_of clauses_of call_of tower_of numeral_of expression_of
refusals_expected = refl
