-- `keyword` meets its contract: a word is compared with the keywords that start as it does.
use mathlib.Core.Path.{refl, ◌∙◌}
use mathlib.Core.List.{[], ◌∷◌}
use native.Mathlib.Omega.{arith}
use Rattle.source_text.specs.Bytes.{same_bytes}
use Rattle.words.specs.Names.{keywords, keyword_of, number_among, number_if, hash_keyword_of}
use Rattle.words.proofs.Items.{keyword_by, keyword_none}
use Rattle.words.proofs.names.keyword.Goals as goal

pub returns-in-115 : goal.returns-in-115
unfolding keywords keyword_of number_among same_bytes
returns-in-115 c = c.number_if.ensures ∙ keyword_by c.args.w.now 115 (λ w. number_if w (115 ∷ 111 ∷ 114 ∷ 116 ∷ []) 1) c.requires c.in-115.is (λ t. refl)

pub returns-in-99 : goal.returns-in-99
unfolding keywords keyword_of number_among same_bytes
returns-in-99 c = c.number_if-in-99.ensures ∙ keyword_by c.args.w.now 99 (λ w. number_if w (99 ∷ 116 ∷ 111 ∷ 114 ∷ []) 2) c.requires c.in-99.is (λ t. refl)

pub returns-in-112 : goal.returns-in-112
unfolding keywords keyword_of number_among same_bytes
returns-in-112 c = c.number_if-in-112.ensures ∙ keyword_by c.args.w.now 112 (λ w. number_if w (112 ∷ 114 ∷ 101 ∷ 100 ∷ []) 3) c.requires c.in-112.is (λ t. refl)

pub returns-in-114 : goal.returns-in-114
unfolding keywords keyword_of number_among same_bytes
returns-in-114 c = c.number_if-in-114.ensures ∙ keyword_by c.args.w.now 114 (λ w. number_if w (114 ∷ 117 ∷ 108 ∷ 101 ∷ []) 4) c.requires c.in-114.is (λ t. refl)

pub returns-in-100 : goal.returns-in-100
unfolding keywords keyword_of number_among same_bytes
returns-in-100 c = c.number_if-in-100.ensures ∙ keyword_by c.args.w.now 100 (λ w. number_if w (100 ∷ 101 ∷ 102 ∷ []) 5) c.requires c.in-100.is (λ t. refl)

pub returns-in-116 : goal.returns-in-116
unfolding keywords keyword_of number_among same_bytes
returns-in-116 c = c.number_if-in-116.ensures ∙ keyword_by c.args.w.now 116 (λ w. number_if w (116 ∷ 104 ∷ 101 ∷ 111 ∷ 114 ∷ 101 ∷ 109 ∷ []) 6) c.requires c.in-116.is (λ t. refl)

pub returns-in-98 : goal.returns-in-98
unfolding keywords keyword_of number_among same_bytes
returns-in-98 c = c.number_if-in-98.ensures ∙ keyword_by c.args.w.now 98 (λ w. number_if w (98 ∷ 121 ∷ []) 7) c.requires c.in-98.is (λ t. refl)

pub returns-in-97 : goal.returns-in-97
unfolding keywords keyword_of number_among same_bytes
returns-in-97 c = c.number_if-in-97.ensures ∙ keyword_by c.args.w.now 97 (λ w. number_if w (97 ∷ 117 ∷ 116 ∷ 111 ∷ []) 8) c.requires c.in-97.is (λ t. refl)

pub returns-in-105 : goal.returns-in-105
unfolding keywords keyword_of number_among same_bytes
returns-in-105 c = c.number_if-in-105.ensures ∙ keyword_by c.args.w.now 105 (λ w. number_if w (105 ∷ 110 ∷ 100 ∷ 117 ∷ 99 ∷ 116 ∷ 105 ∷ 111 ∷ 110 ∷ []) 9) c.requires c.in-105.is (λ t. refl)

pub returns-in-35 : goal.returns-in-35
unfolding keywords keyword_of number_among same_bytes
returns-in-35 c = c.hash_keyword.ensures ∙ keyword_by c.args.w.now 35 hash_keyword_of c.requires c.in-35.is (λ t. refl)

pub returns-in_default : goal.returns-in_default
returns-in_default c =
    keyword_none c.args.w.now c.requires (λ e. omega arith) (λ e. omega arith) (λ e. omega arith) (λ e. omega arith) (λ e. omega arith) (λ e. omega arith) (λ e. omega arith) (λ e. omega arith) (λ e. omega arith) (λ e. omega arith)
