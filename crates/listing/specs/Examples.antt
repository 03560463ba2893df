-- The definitions run: the listings of `sort A` and of `-`, and a recorded text.
use Rattle.std.specs.Prelude.{◌≡◌, refl, [], ◌∷◌}
use Rattle.source_text.specs.Bytes.{one_of, starts_with, same_bytes, up_to}
use Rattle.source_text.specs.Utf8.{forms, form_of, lead_of, tails_of, character_length, utf8_after, is_utf8}
use Rattle.source_text.specs.Characters.{class_of, character_of, outside_after, has_outside}
use Rattle.source_text.specs.Lines.{lines, code_of}
use Rattle.source_text.specs.Numerals.{all_digits, value_from, numeral_of}
use Rattle.words.specs.Names.{keywords, number_among, keyword_of, word_item}
use Rattle.words.specs.Signs.{signs, sign_among, sign_item}
use Rattle.words.specs.Tokens.{and_then, word_of, item_of, read_after, read_lines, outside_line}
use Rattle.words.specs.Lexer.{lex_of}
use Rattle.words.specs.declared.Limits.{Limits}
use Rattle.names.specs.Names.{digits}
use Rattle.listing.specs.Listing.{token_lines, listing_of}
use Rattle.listing.specs.Recorded.{decimal_from, recorded_at}

-- A limit of eight bytes.
abbrev eight : Limits
eight = record { text = 8; nodes = 0; steps = 0; variables = 0; words = 0 }

-- `sort A` gives the lines `1 keyword sort` and `1 name A`.
sort_listed : listing_of (115 ∷ 111 ∷ 114 ∷ 116 ∷ 32 ∷ 65 ∷ []) eight 8 ≡
    49 ∷ 32 ∷ 107 ∷ 101 ∷ 121 ∷ 119 ∷ 111 ∷ 114 ∷ 100 ∷ 32 ∷ 115 ∷ 111 ∷ 114 ∷ 116 ∷ 10 ∷
    49 ∷ 32 ∷ 110 ∷ 97 ∷ 109 ∷ 101 ∷ 32 ∷ 65 ∷ 10 ∷ []
unfolding lex_of is_utf8 utf8_after character_length tails_of lead_of form_of forms outside_line has_outside outside_after character_of class_of one_of starts_with same_bytes up_to lines code_of read_lines read_after and_then item_of word_of word_item keyword_of keywords number_among all_digits value_from numeral_of sign_item signs sign_among token_lines digits
sort_listed = refl

-- `-` gives the line `refused 4 line 1`.
refusal_listed : listing_of (45 ∷ []) eight 8 ≡ 114 ∷ 101 ∷ 102 ∷ 117 ∷ 115 ∷ 101 ∷ 100 ∷ 32 ∷ 52 ∷ 32 ∷ 108 ∷ 105 ∷ 110 ∷ 101 ∷ 32 ∷ 49 ∷ 10 ∷ []
unfolding lex_of is_utf8 utf8_after character_length tails_of lead_of form_of forms outside_line has_outside outside_after character_of class_of one_of starts_with same_bytes up_to lines code_of read_lines read_after and_then item_of word_of word_item keyword_of keywords number_among all_digits value_from numeral_of sign_item signs sign_among token_lines digits
refusal_listed = refl

-- With seven rows lent it is `refused 1 line 0`.
few_rows : listing_of (45 ∷ []) eight 7 ≡ 114 ∷ 101 ∷ 102 ∷ 117 ∷ 115 ∷ 101 ∷ 100 ∷ 32 ∷ 49 ∷ 32 ∷ 108 ∷ 105 ∷ 110 ∷ 101 ∷ 32 ∷ 48 ∷ 10 ∷ []
unfolding digits
few_rows = refl

-- `12 8 3` and a line end: the text starts at 7, and the next line at 20.
recorded : (recorded_at (49 ∷ 50 ∷ 32 ∷ 56 ∷ 32 ∷ 51 ∷ 10 ∷ []) 0).next ≡ 20
unfolding decimal_from
recorded = refl
