-- The names of sorts and symbols together are those at the places that `put_parts` writes.
use Rattle.std.proofs.Common.{◌≡◌, ℕ, ◌+◌, ◌<◌, Bool, List, ◌∷◌, [], ◌++◌, map, length, take, refl, sym, ap, subst, ◌∙◌, arith, append_assoc, length-append}
use Rattle.std.proofs.Math.ListN.{get_or-map}
use Rattle.std.proofs.Math.Seq.{take-length}
use Rattle.std.proofs.lemmas.List.{take_at, ext_get_or}
use mathlib.Core.List.{map-append}
use Rattle.names.specs.Names.{Name, Distinct}
use Rattle.names.specs.Symbols.{Rows, Symbol, columns, row_at, sort_of, symbol_of, sorts_of, symbols_of}
use Rattle.names.specs.SearchLaws.{map_length}
use Rattle.loader.specs.Legal.{names_of}
use Rattle.unifier.specs.Promises.{Tells}

-- A symbol's name is at its row's place.
names_map : (text : List ℕ) (rows : Rows) → map (λ (f : Symbol). f.name) (map (symbol_of text) rows) ≡ map (sort_of text) rows
unfolding symbol_of
names_map text [] = refl
names_map text (row ∷ rows) = ap (λ (l : List Name). sort_of text row ∷ l) (names_map text rows)

-- The places Q of the symbols' names stand behind those of the sorts, which are the sorts' rows.
module _ (text : List ℕ) (sorts symbols placed Q zeros rest : Rows) (first : placed ≡ sorts) (as_many : length Q ≡ length symbols)
    (each : (i : ℕ) → i < length symbols → row_at Q i ≡ columns (row_at symbols i) 0 2) where
  sorts_placed : take (length sorts) (placed ++ zeros) ≡ sorts
  sorts_placed = rw first (take_at sorts zeros (length sorts) refl)

  symbols_placed : map (sort_of text) Q ≡ map (sort_of text) symbols
  unfolding columns
  symbols_placed =
      let p = map_length (sort_of text) Q in
      let q = map_length (sort_of text) symbols in
      ext_get_or (sort_of text []) (map (sort_of text) Q) (map (sort_of text) symbols) (omega arith)
      (λ i l. let k : i < length symbols = omega arith in
      get_or-map (sort_of text) Q i [] ∙ ap (sort_of text) (each i k) ∙ sym (get_or-map (sort_of text) symbols i []))

  rows_placed : take (length sorts + length symbols) (sorts ++ (Q ++ rest)) ≡ sorts ++ Q
  rows_placed = let e = length-append sorts Q in rw append_assoc at (take_at (sorts ++ Q) rest (length sorts + length symbols) (omega arith))

  -- The places that are in use.
  abbrev used : Rows
  used = take (length sorts + length symbols) (take (length sorts) (placed ++ zeros) ++ (Q ++ rest))

  pub names_placed : sorts_of text used (length used) ≡ names_of (sorts_of text sorts (length sorts)) (symbols_of text symbols (length symbols))
  unfolding sorts_of symbols_of
  names_placed =
      rw (take-length used, sorts_placed, rows_placed, take-length sorts, take-length symbols)
      (map-append (sort_of text) sorts Q ∙ ap (λ (l : List Name). map (sort_of text) sorts ++ l) (symbols_placed ∙ sym (names_map text symbols)))

  -- What is told of the names at the places is told of the names.
  pub names_told : {r : Bool} → Tells r (Distinct (sorts_of text used (length used)))
      → Tells r (Distinct (names_of (sorts_of text sorts (length sorts)) (symbols_of text symbols (length symbols))))
  names_told {r} h = subst (λ (ns : List Name). Tells r (Distinct ns)) names_placed h
