-- The rule `step : le x y -> le (s y) x` of docs/STORAGE.md, "A signature's storage", stored by running the definitions.
use Rattle.std.specs.Prelude.{◌≡◌, refl, [], ◌∷◌}
use Rattle.terms.specs.Numbers.{same}
use Rattle.terms.specs.Term.{var, app, nil, cons}
use Rattle.resolution.specs.Rules.{Rule}
use Rattle.rules.specs.StoredRows.{rule_row}
use Rattle.rules.specs.Layout.{references, laid_words, rule_words, row_of}

unfoldable step : Rule
step = record {
  name = 115 ∷ 116 ∷ 101 ∷ 112 ∷ [];
  sorts = 1 ∷ 1 ∷ [];
  premises = cons (app 2 (cons (var 0) (cons (var 1) nil))) nil;
  conclusion = app 2 (cons (app 1 (cons (var 1) nil)) (cons (var 0) nil));
}

the_words : rule_words 0 step ≡ 1048642 ∷ 0 ∷ 1 ∷ 1048609 ∷ 1 ∷ 1048642 ∷ 67 ∷ 0 ∷ []
unfolding step references laid_words rule_words
the_words = refl

the_row : row_of (record { word = record { start = 64; size = 4 }; clause = 0 }) 0 step
    ≡ rule_row (64 ∷ 4 ∷ 0 ∷ 2 ∷ 1 ∷ 69 ∷ 0 ∷ 3 ∷ 5 ∷ 2 ∷ []) (64 ∷ []) (1 ∷ 1 ∷ []) (1 ∷ 0 ∷ [])
unfolding same step references row_of
the_row = refl
