-- The text of document 01, "One text in full", read, parsed, loaded and stored by running the definitions.
use Rattle.std.specs.Prelude.{ℕ, ◌≡◌, refl, List, [], ◌∷◌}
use Rattle.source_text.specs.Bytes.{one_of, starts_with, same_bytes, up_to}
use Rattle.source_text.specs.Utf8.{forms, form_of, lead_of, tails_of, character_length, utf8_after, is_utf8}
use Rattle.source_text.specs.Characters.{class_of, character_of, outside_after, has_outside}
use Rattle.source_text.specs.Lines.{lines, code_of}
use Rattle.source_text.specs.Numerals.{all_digits, value_from, numeral_of}
use Rattle.words.specs.Names.{keywords, number_among, keyword_of, word_item}
use Rattle.words.specs.Signs.{signs, sign_among, sign_item}
use Rattle.words.specs.Tokens.{Reading, and_then, word_of, item_of, read_after, read_lines, outside_line}
use Rattle.words.specs.Tokens.Reading.{tokens, refused as unread}
use Rattle.words.specs.Lexer.{lex_of}
use Rattle.terms.specs.Numbers.{same}
use Rattle.terms.specs.Term.{var, app, nil, cons}
use Rattle.term_parser.specs.Source.{all_of, extend, count}
use Rattle.term_parser.specs.Parsing.{Parsed, parsed, absent, refused as barred, repeat}
use Rattle.term_parser.specs.Grammar.{atom_of, app_of, term_of, parenthesis}
use Rattle.term_parser.specs.Standing.{size, spelled}
use Rattle.parser.specs.Declarations.{Declared, ends_in_prop, body_of, declaration_of, parse_of}
use Rattle.names.specs.Names.{find, digits, result_name}
use Rattle.names.specs.Symbols.{Rows}
use Rattle.patterns.specs.Patterns.{pattern_of, chain, enter}
use Rattle.flattening.specs.Flattening.{flatten_of}
use Rattle.rules.specs.Rules.{rule_of, all_known}
use Rattle.rules.specs.StoredRows.{rule_row}
use Rattle.rules.specs.Layout.{references, laid_words, rule_words, row_of}
use Rattle.clauses.specs.Clauses.{clause_of}
use Rattle.loader.specs.Signature.{numbers_of, enter_clauses, Loaded, refused, loaded, load_from, load_of}
use Rattle.loader.specs.Rows.{symbol_row}
use Rattle.loader.specs.Stored.{titles_from, titles_of, with_clauses, sort_rows, symbol_rows, rule_rows, words_from}

unfoldable text : List ℕ
text = 115 ∷ 111 ∷ 114 ∷ 116 ∷ 32 ∷ 78 ∷ 97 ∷ 116 ∷ 10 ∷ 99 ∷ 116 ∷ 111 ∷ 114 ∷ 32 ∷ 122 ∷ 101 ∷ 114 ∷ 111 ∷ 32 ∷ 58 ∷ 32 ∷ 78 ∷ 97 ∷ 116 ∷ 10 ∷ 99 ∷ 116 ∷ 111 ∷ 114 ∷ 32 ∷ 115 ∷ 117 ∷ 99 ∷ 99 ∷ 32 ∷ 58 ∷ 32 ∷ 78 ∷ 97 ∷ 116 ∷ 32 ∷ 226 ∷ 134 ∷ 146 ∷ 32 ∷ 78 ∷ 97 ∷ 116 ∷ 10 ∷ 100 ∷ 101 ∷ 102 ∷ 32 ∷ 97 ∷ 100 ∷ 100 ∷ 32 ∷ 58 ∷ 32 ∷ 78 ∷ 97 ∷ 116 ∷ 32 ∷ 226 ∷ 134 ∷ 146 ∷ 32 ∷ 78 ∷ 97 ∷ 116 ∷ 32 ∷ 226 ∷ 134 ∷ 146 ∷ 32 ∷ 78 ∷ 97 ∷ 116 ∷ 10 ∷ 124 ∷ 32 ∷ 122 ∷ 101 ∷ 114 ∷ 111 ∷ 44 ∷ 32 ∷ 110 ∷ 32 ∷ 61 ∷ 62 ∷ 32 ∷ 110 ∷ 10 ∷ 124 ∷ 32 ∷ 115 ∷ 117 ∷ 99 ∷ 99 ∷ 32 ∷ 109 ∷ 44 ∷ 32 ∷ 110 ∷ 32 ∷ 61 ∷ 62 ∷ 32 ∷ 115 ∷ 117 ∷ 99 ∷ 99 ∷ 32 ∷ 40 ∷ 97 ∷ 100 ∷ 100 ∷ 32 ∷ 109 ∷ 32 ∷ 110 ∷ 41 ∷ 10 ∷ 35 ∷ 101 ∷ 118 ∷ 97 ∷ 108 ∷ 32 ∷ 97 ∷ 100 ∷ 100 ∷ 32 ∷ 49 ∷ 32 ∷ 49 ∷ 10 ∷ 35 ∷ 101 ∷ 118 ∷ 97 ∷ 108 ∷ 32 ∷ 97 ∷ 100 ∷ 100 ∷ 32 ∷ 63 ∷ 120 ∷ 32 ∷ 50 ∷ 32 ∷ 61 ∷ 32 ∷ 49 ∷ 10 ∷ []

unfoldable of_declarations : Parsed (List Declared) → Loaded
of_declarations (parsed ds n) = load_of 32768 text ds
of_declarations absent = refused 0 0
of_declarations (barred r line) = refused 0 line

unfoldable of_tokens : Reading → Loaded
of_tokens (tokens ts) = of_declarations (parse_of text ts)
of_tokens (unread r line) = refused 0 line

the_text : of_tokens (lex_of 65536 text) ≡ loaded (record {
  sorts = (78 ∷ 97 ∷ 116 ∷ []) ∷ [];
  symbols =
      record { name = 122 ∷ 101 ∷ 114 ∷ 111 ∷ []; inputs = []; output = 1; function = 0; first = 0; clauses = 0 }
      ∷ record { name = 115 ∷ 117 ∷ 99 ∷ 99 ∷ []; inputs = 1 ∷ []; output = 1; function = 0; first = 0; clauses = 0 }
      ∷ record { name = 97 ∷ 100 ∷ 100 ∷ []; inputs = 1 ∷ 1 ∷ 1 ∷ []; output = 0; function = 1; first = 0; clauses = 2 }
      ∷ [];
  rules =
      record { name = 97 ∷ 100 ∷ 100 ∷ 46 ∷ 48 ∷ []; sorts = 1 ∷ []; premises = nil; conclusion = app 2 (cons (app 0 nil) (cons (var 0) (cons (var 0) nil))) }
      ∷ record {
        name = 97 ∷ 100 ∷ 100 ∷ 46 ∷ 49 ∷ [];
        sorts = 1 ∷ 1 ∷ 1 ∷ [];
        premises = cons (app 2 (cons (var 0) (cons (var 1) (cons (var 2) nil)))) nil;
        conclusion = app 2 (cons (app 1 (cons (var 0) nil)) (cons (var 1) (cons (app 1 (cons (var 2) nil)) nil)));
      }
      ∷ [];
  nodes = 14;
})
unfolding text of_declarations of_tokens one_of starts_with same_bytes up_to forms form_of lead_of tails_of character_length utf8_after is_utf8 class_of character_of outside_after has_outside lines code_of
    all_digits value_from numeral_of keywords number_among keyword_of word_item signs sign_among sign_item and_then word_of item_of read_after read_lines outside_line lex_of
    all_of extend count repeat atom_of app_of term_of parenthesis size spelled ends_in_prop body_of declaration_of parse_of
    find digits result_name pattern_of chain enter flatten_of rule_of all_known clause_of numbers_of enter_clauses load_from
the_text = refl

-- As it is stored: the rows of sorts, symbols and rules, and the words.
data Storage : Type 0 where
  storage : Rows → Rows → Rows → List ℕ → Storage
  nothing : Storage

unfoldable stored_by : List Declared → Loaded → Storage
stored_by ds (loaded s) =
    storage (sort_rows (titles_of ds).sorts) (symbol_rows (titles_of ds).symbols s.symbols) (rule_rows (titles_of ds).rules s.rules 0) (words_from s.rules 0)
stored_by ds (refused e line) = nothing

unfoldable declarations_stored : Parsed (List Declared) → Storage
declarations_stored (parsed ds n) = stored_by ds (load_of 32768 text ds)
declarations_stored absent = nothing
declarations_stored (barred r line) = nothing

unfoldable tokens_stored : Reading → Storage
tokens_stored (tokens ts) = declarations_stored (parse_of text ts)
tokens_stored (unread r line) = nothing

the_storage : tokens_stored (lex_of 65536 text) ≡ storage
    ((5 ∷ 3 ∷ []) ∷ [])
    (symbol_row 14 4 1 0 0 0 0 [] ∷ symbol_row 30 4 1 0 0 0 1 (1 ∷ []) ∷ symbol_row 53 3 0 1 0 2 3 (1 ∷ 1 ∷ 1 ∷ []) ∷ [])
    (rule_row (53 ∷ 3 ∷ 1 ∷ 1 ∷ 0 ∷ 65 ∷ 0 ∷ 0 ∷ 5 ∷ 1 ∷ []) [] (1 ∷ []) (0 ∷ [])
    ∷ rule_row (53 ∷ 3 ∷ 2 ∷ 3 ∷ 1 ∷ 77 ∷ 5 ∷ 4 ∷ 8 ∷ 3 ∷ []) (69 ∷ []) (1 ∷ 1 ∷ 1 ∷ []) (0 ∷ 1 ∷ 2 ∷ []) ∷ [])
    (1048576 ∷ 1048643 ∷ 64 ∷ 0 ∷ 0 ∷ 1048643 ∷ 0 ∷ 1 ∷ 2 ∷ 1048609 ∷ 0 ∷ 1048609 ∷ 2 ∷ 1048643 ∷ 73 ∷ 1 ∷ 75 ∷ [])
unfolding text stored_by declarations_stored tokens_stored one_of starts_with same_bytes up_to forms form_of lead_of tails_of character_length utf8_after is_utf8 class_of character_of
    outside_after has_outside lines code_of
    all_digits value_from numeral_of keywords number_among keyword_of word_item signs sign_among sign_item and_then word_of item_of read_after read_lines outside_line lex_of
    all_of extend count repeat atom_of app_of term_of parenthesis size spelled ends_in_prop body_of declaration_of parse_of
    find digits result_name pattern_of chain enter flatten_of rule_of all_known clause_of numbers_of enter_clauses load_from
    same references laid_words rule_words row_of titles_from with_clauses symbol_rows rule_rows words_from
the_storage = refl
