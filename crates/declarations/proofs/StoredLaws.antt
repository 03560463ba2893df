-- Laws of storage that holds the stored signature: with one sort, one symbol or one rule more it still does.
use Prim.Native.Nat.{ℕ, ◌+◌, ◌≤◌, ◌<◌}
use native.Mathlib.Omega.{arith}
use mathlib.Core.Path.{◌≡◌, sym, ap, ◌∙◌}
use mathlib.Core.List.{List, [], ◌∷◌, ◌++◌}
use lib.ListN.{length, set, length-append}
use lib.Seq.{sets, length-take-le}
use Rattle.term_parser.specs.Source.{Place}
use Rattle.resolution.specs.Rules.{Rule}
use Rattle.names.specs.Symbols.{Rows, Symbol}
use Rattle.rules.specs.Layout.{rule_words, row_of}
use Rattle.rules.specs.declared.Title.{Title}
use Rattle.loader.specs.Stored.{sort_row, symbol_row_of, rule_rows, words_from}
use Rattle.loader.specs.StoredLaws.{sort_rows_more, symbol_rows_more, words_more, rule_rows_more, take_more, take_run}
use Rattle.declarations.specs.Held.{NamesStored, RulesStored}

module _ {ps qs : List Place} {fs : List Symbol} {sorts symbols : Rows} {n m : ℕ} (h : NamesStored ps qs fs sorts symbols n m) where
  pub sort_stored : (p : Place) → n < length sorts → NamesStored (ps ++ (p ∷ [])) qs fs (set sorts n (sort_row p)) symbols (n + 1) m
  sort_stored p l =
      record { sorts_are_lem = take_more sorts _ n (sort_row p) l h.sorts_are_lem ∙ sym (sort_rows_more ps p); symbols_are_lem = h.symbols_are_lem; number = h.number }

  pub symbol_stored : (p : Place) (f : Symbol) → m < length symbols → NamesStored ps (qs ++ (p ∷ [])) (fs ++ (f ∷ [])) sorts (set symbols m (symbol_row_of p f)) n (m + 1)
  symbol_stored p f l =
      let a = length-append qs (p ∷ []) in
      let b = length-append fs (f ∷ []) in
      let c = h.number in
      record {
        sorts_are_lem = h.sorts_are_lem;
        symbols_are_lem = take_more symbols _ m (symbol_row_of p f) l h.symbols_are_lem ∙ sym (symbol_rows_more qs fs p f c);
        number = omega arith;
      }

module _ {ts : List Title} {Rs : List Rule} {rules : Rows} {words : List ℕ} {n u : ℕ} (h : RulesStored ts Rs rules words n u) where
  pub rule_stored : (t : Title) (R : Rule) → n < length rules → u + length (rule_words u R) ≤ length words
      → RulesStored (ts ++ (t ∷ [])) (Rs ++ (R ∷ [])) (set rules n (row_of t u R)) (sets words u (rule_words u R)) (n + 1) (u + length (rule_words u R))
  rule_stored t R l w =
      let a = length-append ts (t ∷ []) in
      let b = length-append Rs (R ∷ []) in
      let c = h.number in
      let d : length (words_from Rs 0) ≡ u = ap length (sym h.words_are) ∙ length-take-le u words (omega arith) in
      let e : 0 + length (words_from Rs 0) ≡ u = omega arith in
      record {
        rows_are = take_more rules _ n (row_of t u R) l h.rows_are ∙ ap (λ (k : ℕ). rule_rows ts Rs 0 ++ (row_of t k R ∷ [])) (sym e) ∙ sym (rule_rows_more ts Rs t R 0 c);
        words_are = take_run words _ (rule_words u R) u w h.words_are ∙ ap (λ (k : ℕ). words_from Rs 0 ++ rule_words k R) (sym e) ∙ sym (words_more Rs R 0);
        number = omega arith;
      }
