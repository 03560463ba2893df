-- Document 01's text, "One text in full", and the cases of evaluation that it marks, from their bytes by running the definitions.
use Prim.Native.String.{String}
use Rattle.std.specs.Prelude.{◌≡◌, refl, true, List, [], ◌∷◌, ◌++◌}
use Rattle.source_text.specs.Bytes.{one_of, starts_with, same_bytes, up_to}
use Rattle.source_text.specs.Utf8.{forms, form_of, lead_of, tails_of, character_length, utf8_after, is_utf8}
use Rattle.source_text.specs.Characters.{class_of, character_of, outside_after, has_outside}
use Rattle.source_text.specs.Lines.{lines, code_of}
use Rattle.source_text.specs.Numerals.{all_digits, value_from, numeral_of as digitsOf}
use Rattle.words.specs.Names.{keywords, number_among, keyword_of, word_item}
use Rattle.words.specs.Signs.{signs, sign_among, sign_item}
use Rattle.words.specs.Tokens.{and_then, word_of, item_of, read_after, read_lines, outside_line}
use Rattle.words.specs.Lexer.{lex_of}
use Rattle.terms.specs.Numbers.{same}
use Rattle.terms.specs.Term.{app, nil, cons, Term}
use Rattle.term_parser.specs.Source.{all_of, extend, count}
use Rattle.term_parser.specs.Parsing.{repeat}
use Rattle.term_parser.specs.Grammar.{atom_of, app_of, term_of, parenthesis}
use Rattle.term_parser.specs.Standing.{size, spelled}
use Rattle.parser.specs.Declarations.{ends_in_prop, body_of, declaration_of, parse_of}
use Rattle.names.specs.Names.{find, digits, result_name}
use Rattle.patterns.specs.Patterns.{pattern_of, chain, enter}
use Rattle.flattening.specs.Flattening.{flatten_of}
use Rattle.rules.specs.Rules.{rule_of, all_known}
use Rattle.clauses.specs.Clauses.{clause_of}
use Rattle.resolution.specs.Rules.{node, leaf, ◌◂◌}
use Rattle.resolution.specs.Marked.{num, add}
use Rattle.loader.specs.Signature.{numbers_of, enter_clauses, load_from}
use Rattle.evaluation.specs.Matching.{bind_of, instantiate_of}
use Rattle.evaluation.specs.Calls.{premises_of, clauses_of, call_of}
use Rattle.evaluation.specs.Expressions.{is_ground, is_forward_call, evaluated, tower_of, numeral_of, expression_of}
use Rattle.evaluation.specs.TextCases.{lines_of, goal, answer, text_answers, is_value, is_refused, gives, gives_with, TextCases}
use Rattle.evaluation.specs.TextCases.{all_expected}

-- The text's declarations.
unfoldable declared : List String
declared =
    "sort Nat"
    ∷ "ctor zero : Nat"
    ∷ "ctor succ : Nat → Nat"
    ∷ "def add : Nat → Nat → Nat"
    ∷ "| zero, n => n"
    ∷ "| succ m, n => succ (add m n)"
    ∷ []

-- A text with calls in the arguments of another, and its terms: a, s, id and k are the symbols 0 to 3.
unfoldable nested : List String
nested =
    "sort A ctor a : A ctor s : A → A"
    ∷ "def id : A → A | x => x"
    ∷ "def k : A → A → A | x, y => x"
    ∷ "#eval k (id a) (id (s a))"
    ∷ []

unfoldable a : Term
a = app 0 nil

unfoldable s : Term → Term
s t = app 1 (cons t nil)

unfoldable id : Term → Term → Term
id t u = app 2 (cons t (cons u nil))

unfoldable k : Term → Term → Term → Term
k t u v = app 3 (cons t (cons u (cons v nil)))

-- Whole answers. The first `#eval` of the text has the value 2, by `add.1` over `add.0`, with 2 calls and 19 words; its second is a goal.
-- The trees of a term come innermost first and left before right: `k (id a) (id (s a))` has those of both `id` and then that of `k`.
whole_answers : (text_answers 8192 (lines_of (declared ++ ("#eval add 1 1" ∷ "#eval add ?x 2 = 1" ∷ []))) ≡
    answer (evaluated (num 2) (node 1 (add (num 1) (num 1) (num 2)) (node 0 (add (num 0) (num 1) (num 1)) leaf ◂ leaf) ◂ leaf)
    (record { calls = 2; words = 19 }))
    ∷ goal
    ∷ [])
    × (text_answers 8192 (lines_of nested) ≡
    answer (evaluated a (node 0 (id a a) leaf ◂ node 0 (id (s a) (s a)) leaf ◂ node 1 (k a (s a) a) leaf ◂ leaf)
    (record { calls = 3; words = 14 }))
    ∷ [])
unfolding declared nested a s id k num add one_of starts_with same_bytes up_to forms form_of lead_of tails_of character_length utf8_after is_utf8
    class_of character_of outside_after has_outside lines code_of all_digits value_from digitsOf keywords number_among keyword_of word_item signs
    sign_among sign_item and_then word_of item_of read_after read_lines outside_line lex_of all_of extend count repeat atom_of app_of term_of
    parenthesis size spelled ends_in_prop body_of declaration_of parse_of find digits result_name pattern_of chain enter flatten_of rule_of
    all_known clause_of numbers_of enter_clauses load_from same is_ground is_forward_call bind_of instantiate_of premises_of clauses_of call_of
    tower_of numeral_of expression_of
whole_answers = (refl, refl)

-- The marked cases: `add 0 127` evaluates and `add 0 128` gives 29. The words: 19 are enough for `add 1 1`, and 18 are not. The depth:
-- `add 127 0` has a value, `add 128 0` gives 29; and so does a large numeral without a word.
unfoldable marked : List TextCases
marked = record {
  text = declared;
  cases =
      gives "add 0 127" (is_value "127")
      ∷ gives "add 0 128" (is_refused 29)
      ∷ gives_with 19 "add 1 1" (is_value "2")
      ∷ gives_with 18 "add 1 1" (is_refused 37)
      ∷ gives "add 127 0" (is_value "127")
      ∷ gives "add 128 0" (is_refused 29)
      ∷ gives_with 0 "add 18446744073709551615 0" (is_refused 29)
      ∷ [];
} ∷ []

marked_expected : all_expected marked ≡ true
unfolding declared marked one_of starts_with same_bytes up_to forms form_of lead_of tails_of character_length utf8_after is_utf8 class_of
    character_of outside_after has_outside lines code_of all_digits value_from digitsOf keywords number_among keyword_of word_item signs
    sign_among sign_item and_then word_of item_of read_after read_lines outside_line lex_of all_of extend count repeat atom_of app_of term_of
    parenthesis size spelled ends_in_prop body_of declaration_of parse_of find digits result_name pattern_of chain enter flatten_of rule_of
    all_known clause_of numbers_of enter_clauses load_from same is_ground is_forward_call bind_of instantiate_of premises_of clauses_of call_of
    tower_of numeral_of expression_of
marked_expected = refl
