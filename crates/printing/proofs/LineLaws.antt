-- The parts of a listing's lines: the name of a rule, by its row.
use Rattle.std.specs.Prelude.{ℕ, suc, ◌-◌, ◌≤◌, ◌<◌, ◌≡◌, List, [], ◌∷◌, ◌++◌, false, eqb, get_or, length}
use Rattle.std.proofs.Common.{arith, sym, ap, ap₂, ◌∙◌, ne_eqb}
use Rattle.std.proofs.lemmas.List.{get_or-map}
use Rattle.source_text.specs.Parts.{part_of}
use Rattle.names.specs.Names.{Name, decimal}
use Rattle.names.specs.Symbols.{column}
use Rattle.names.specs.declared.Word.{Word}
use Rattle.arena.specs.Rows.{Rows}
use Rattle.byte_output.specs.Output.{numeral}
use Rattle.byte_output.specs.NumeralLaws.{digits_more}
use Rattle.printing.specs.Lines.{rule_name, rule_names}

-- A clause's number is written with at most eight digits, where there is room for ten.
short_numeral : (n : ℕ) → n < 100000000 → numeral n ≡ decimal n
short_numeral n l = digits_more 8 n (let h : n < 1000000000 = omega arith in h) ∙ digits_more 7 n l

module _ (text row : List ℕ) where
  word : Name
  word = part_of text (column row 0) (column row 1)

  -- The word in a rule's row; behind it a dot and the number of a clause.
  module _ {place : Word} {part : List ℕ} (e : part ≡ part_of text place.start place.size) (w : place ≡ record { start = column row 0; size = column row 1 }) where
    is_word : part ≡ word
    unfolding word
    is_word = e ∙ ap (λ (place : Word). part_of text place.start place.size) w

    pub clause_is : {n : ℕ} → column row 2 ≡ suc n → column row 2 ≤ 99999999 → part ++ (46 ∷ numeral n) ≡ rule_name text row
    unfolding word
    clause_is {n} m l =
        let some : eqb (column row 2) 0 ≡ false = ne_eqb (column row 2) 0 (λ z. absurd (omega arith)) in
        let less : column row 2 - 1 ≡ n = omega arith in
        rw (some, less) (ap₂ (λ (x y : Name). x ++ (46 ∷ y)) is_word (short_numeral n (omega arith)))

-- The name of a rule with a number.
pub rule_named : (text : List ℕ) (rows : Rows) (i : ℕ) → i < length rows → rule_name text (get_or rows i []) ≡ get_or (rule_names text rows) i []
rule_named text rows i l = sym (get_or-map (rule_name text) rows i [] [] l)
