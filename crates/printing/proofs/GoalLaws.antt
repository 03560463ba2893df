-- The goals of the rows of a tree, one after another.
use Rattle.std.specs.Prelude.{ℕ, ◌+◌, ◌≤◌, ◌<◌, ◌≡◌, Bool, true, false, ◌||◌, [], drop, get_or, length}
use Rattle.std.proofs.Common.{sym, ap, ◌∙◌}
use Rattle.std.proofs.Math.ListN.{drop_of_length-le}
use Rattle.std.proofs.lemmas.List.{drop_more}
use Rattle.terms.specs.Term.{Term}
use Rattle.arena.specs.Rows.{Rows}
use Rattle.printing.specs.Terms.{is_too_large}
use Rattle.printing.specs.Listing.{any_too_large}
use Rattle.printing.specs.Lines.{entries_in}

module _ (g : ℕ → Term) (rows : Rows) (i : ℕ) where
  module _ (l : i < length rows) {large : Bool} (e : large ≡ is_too_large (g (get_or (get_or rows i []) 3 0))) where
    first_goal : any_too_large (entries_in g (drop i rows)) ≡ (large || any_too_large (entries_in g (drop (i + 1) rows)))
    first_goal =
        ap (λ (rs : Rows). any_too_large (entries_in g rs)) (drop_more rows i [] l)
        ∙ ap (λ (b : Bool). b || any_too_large (entries_in g (drop (i + 1) rows))) (sym e)

    -- The next goal is too large,
    pub next_too_large : large ≡ true → any_too_large (entries_in g (drop i rows)) ≡ true
    next_too_large t = first_goal ∙ ap (λ (b : Bool). b || any_too_large (entries_in g (drop (i + 1) rows))) t

    -- or it is up to those behind it.
    pub next_fits : large ≡ false → any_too_large (entries_in g (drop i rows)) ≡ any_too_large (entries_in g (drop (i + 1) rows))
    next_fits f = first_goal ∙ ap (λ (b : Bool). b || any_too_large (entries_in g (drop (i + 1) rows))) f

  -- None is left.
  pub none_too_large : length rows ≤ i → any_too_large (entries_in g (drop i rows)) ≡ false
  none_too_large l = ap (λ (rs : Rows). any_too_large (entries_in g rs)) (drop_of_length-le rows l)
