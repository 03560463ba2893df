-- Rows of two numbers: where both numbers of each are the same, the rows are.
use Rattle.std.proofs.Common.{◌≡◌, ℕ, ◌<◌, Bool, Decides, [], ◌∷◌, length, get_or, refl, sym, ap₂, ◌∙◌, arith}
use Rattle.std.proofs.lemmas.List.{ext_get_or}
use Rattle.arena.specs.Rows.{Rows, pair_is}
use Rattle.bindings.specs.Promises.{Tells}
use Rattle.samples.specs.Same.{Same}

-- Each row is of two numbers.
abbrev pub Pairs : Rows → Type 0
Pairs rows = (i : ℕ) → i < length rows → length (get_or rows i []) ≡ 2

same_itself : (rows : Rows) → Same rows rows
same_itself rows = record { long = refl; values = λ i l. refl; trail = λ i l. refl }

same_rows : (left right : Rows) → Pairs left → Pairs right → Same left right → left ≡ right
same_rows left right p q h =
    ext_get_or [] left right h.long
    (λ i l. pair_is (get_or left i []) (p i l) ∙ ap₂ (λ a b. a ∷ b ∷ []) (h.values i l) (h.trail i l) ∙ sym (pair_is (get_or right i []) (q i (omega (arith, h.long)))))

-- What decides equality tells it.
pub same_told : {left right : Rows} {r : Bool} → Pairs left → Pairs right → Decides r (left ≡ right) → Tells r (Same left right)
same_told {left} {right} p q d = record {
  yes = λ e. rw (d.0 e) (same_itself right);
  back = λ h. d.1 (same_rows left right p q h);
}
