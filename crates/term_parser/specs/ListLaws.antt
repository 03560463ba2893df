-- Laws of lists of items: what holds of each holds of those that are left and of the one at a place, and the rows of two lists one behind the other are those of each. Terms of which there are 0 are none.
use Rattle.std.specs.Prelude.{ℕ, zero, suc, ◌<◌, ◌≡◌, refl, List, [], ◌∷◌, ◌++◌, get_or, drop, length}
use Rattle.std.proofs.Common.{arith, sym, ap, ◌∙◌}
use mathlib.Core.List.{append_assoc}
use Rattle.term_parser.specs.Rows.{Rows, rows_of_all}
use Rattle.term_parser.specs.ReaderLaws.{Each}
use Rattle.term_parser.specs.Source.{many}
use Rattle.term_parser.specs.Standing.{Written, nil as none, cons as more, size}

pub each_drop : {A : Type 0} (P : A → Type 0) (n : ℕ) (l : List A) → Each P l → Each P (drop n l)
each_drop P zero l h = h
each_drop P (suc n) [] h = tt
each_drop P (suc n) (a ∷ l) h = each_drop P n l h.1

pub each_at : {A : Type 0} (P : A → Type 0) (l : List A) (d : A) → Each P l → (i : ℕ) → i < length l → P (get_or l i d)
each_at P [] d h i m = absurd (omega arith)
each_at P (a ∷ l) d h zero m = h.0
each_at P (a ∷ l) d h (suc i) m = each_at P l d h.1 i (omega arith)

pub each_here : {A : Type 0} (P : A → Type 0) (before : List A) (a : A) (after : List A) → Each P (before ++ (a ∷ after)) → P a
each_here P [] a after h = h.0
each_here P (b ∷ before) a after h = each_here P before a after h.1

pub all_append : {A : Type 0} (rows : A → Rows) (l m : List A) → rows_of_all rows (l ++ m) ≡ rows_of_all rows l ++ rows_of_all rows m
unfolding rows_of_all
all_append rows [] m = refl
all_append rows (a ∷ l) m = ap (λ (r : Rows). rows a ++ r) (all_append rows l m) ∙ sym (append_assoc (rows a) (rows_of_all rows l) (rows_of_all rows m))

pub no_arguments : (us : Written many) → size us ≡ 0 → us ≡ none
unfolding size
no_arguments none e = refl
no_arguments (more u us) e = absurd (omega arith)
