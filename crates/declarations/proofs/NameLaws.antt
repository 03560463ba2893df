-- Laws of sorts and symbols entered one behind the other: what storage holds then.
use Prim.Native.Nat.{ℕ, zero, suc, ◌+◌, ◌≤◌, ◌<◌}
use native.Mathlib.Omega.{arith}
use mathlib.Core.Path.{◌≡◌, refl, sym, ap, ap₂, ◌∙◌}
use mathlib.Core.Bool.{Bool, true, false, cond}
use mathlib.Core.List.{List, [], ◌∷◌, ◌++◌}
use lib.Dec.{ltb}
use lib.ListN.{length, set, length-set}
use lib.Seq.{get_or-set_same, get_or-set_other}
use borrow.Author.Tests.{ltb-true}
use Rattle.terms.specs.Numbers.{by_same}
use Rattle.source_text.specs.Parts.{part_of}
use Rattle.term_parser.specs.Source.{place}
use Rattle.names.specs.Names.{Name}
use Rattle.names.specs.NamePlaces.{NamePlace}
use Rattle.names.specs.Symbols.{Rows, Symbol, column, row_at, sort_of, sorts_of, symbols_of}
use Rattle.names.specs.SearchLaws.{table_more, sorts_length}
use Rattle.rules.specs.PatternLaws.{arities_of}
use Rattle.rules.specs.declared.Title.{Title}
use Rattle.loader.specs.Signature.{Signature, no, on, unless, is_taken, sort_refusal, enter_sort, enter_symbol, Numbers, unknown, numbers, numbers_of}
use Rattle.loader.specs.Legal.{Legal}
use Rattle.loader.specs.Stored.{Titles, sort_titled, symbol_titled}
use Rattle.loader.specs.LegalLaws.{Stepping}
use Rattle.loader.specs.Rows.{symbol_row, entered}
use Rattle.loader.specs.Growth.{arities_append}
use Rattle.loader.specs.Holding.{rules_grow}
use Rattle.loader.specs.Arrows.{names_at}
use Rattle.loader.specs.SymbolRows.{SymbolShaped, row_placed, row_shaped, row_means, symbols_more}
use Rattle.loader.specs.SymbolEntry.{inputs_of, output_of, symbol_named, arrow_refusal, SymbolEntered}
use Rattle.loader.proofs.SymbolLaws.{not_refused}
use Rattle.patterns.proofs.Terms.{symbols_length}
use Rattle.declarations.specs.Held.{NamesHeld, RulesHeld, Held}
use Rattle.declarations.specs.Steps.{GoesTo, sort_progress, Stepped}
use Rattle.declarations.specs.declared.State.{State}
use Rattle.std.specs.Prelude.{Result}
use Rattle.refusals.specs.declared.Refusal.{Refusal}
use Rattle.declarations.specs.declared.Progress.{Progress}
use Rattle.declarations.proofs.ProgressLaws.{goes_on, goes_not}
use Rattle.declarations.proofs.StoredLaws.{sort_stored, symbol_stored}

-- One row more: what held of the others holds, and it holds of the new one.
row_more : (P : List ℕ → Type 0) (rows : Rows) (n : ℕ) (row : List ℕ) → n < length rows → ((i : ℕ) → i < n → P (row_at rows i)) → P row
    → (i : ℕ) → i < n + 1 → P (row_at (set rows n row) i)
row_more P rows n row there old new i l =
    by_same i n
    (λ p e. rw (p, get_or-set_same rows n row [] there) new)
    (λ p e. rw (get_or-set_other rows n i row [] p) (old i (omega arith)))

-- A sort that is not refused is among the first 256.
sort_few : (sorts : List Name) (symbols : List Symbol) (w : Name) → sort_refusal sorts symbols w ≡ 0 → length sorts < 256
sort_few sorts symbols w e = ltb-true (length sorts) 256 (go (is_taken sorts symbols w) (ltb (length sorts) 256) e)
  where
    go : (a b : Bool) → ◌≡◌ {A = ℕ} (cond a 17 (cond b 0 28)) 0 → b ≡ true
    go true b e = absurd (omega arith)
    go false true e = refl
    go false false e = absurd (omega arith)

module _ {text : List ℕ} {ts : Titles} {s : Signature} {sorts symbols : Rows} {st : State} (names : NamesHeld text ts s sorts symbols st) where
  -- As many sorts and symbols as the state says.
  pub sorts_number : length s.sorts ≡ st.sorts
  sorts_number = let a = names.sorts_lent in let b = names.few_sorts in sym (ap length names.sorts_are) ∙ sorts_length text sorts st.sorts (omega arith)

  pub symbols_number : length s.symbols ≡ st.symbols
  symbols_number = let a = names.symbols_lent in let b = names.few_symbols in sym (ap length names.symbols_are) ∙ symbols_length text symbols st.symbols (omega arith)

  -- One sort more.
  sort_held : (start size : ℕ) → NamePlace text start size → st.sorts < 256
      → NamesHeld text (sort_titled ts (place start size)) (record { sorts = s.sorts ++ (part_of text start size ∷ []); symbols = s.symbols; rules = s.rules; nodes = s.nodes }) (set sorts st.sorts (start ∷ size ∷ [])) symbols
      (record { sorts = st.sorts + 1; symbols = st.symbols; rules = st.rules; used = st.used; left = st.left })
  unfolding sorts_of
  sort_held start size inside few =
      let a = names.sorts_lent in
      let l = length-set sorts st.sorts (start ∷ size ∷ []) in
      record {
        sorts_lent = omega arith;
        symbols_lent = names.symbols_lent;
        few_sorts = omega arith;
        few_symbols = names.few_symbols;
        sorts_are = table_more (sort_of text) sorts st.sorts (start ∷ size ∷ []) (omega arith) ∙ ap (λ (x : List Name). x ++ (part_of text start size ∷ [])) names.sorts_are;
        symbols_are = names.symbols_are;
        sorts_inside = row_more (λ (x : List ℕ). NamePlace text (column x 0) (column x 1)) sorts st.sorts (start ∷ size ∷ []) (omega arith) names.sorts_inside inside;
        symbols_inside = names.symbols_inside;
        shaped = names.shaped;
        exact = sort_stored names.exact (place start size) (omega arith);
      }

  -- One symbol more.
  pub symbol_held : (start size output function first clauses : ℕ) (inputs : List ℕ) → NamePlace text start size → length inputs ≤ 16 → st.symbols < 1024
      → NamesHeld text (symbol_titled ts (place start size)) (record { sorts = s.sorts; symbols = s.symbols ++ (record { name = part_of text start size; inputs = inputs; output = output; function = function; first = first; clauses = clauses } ∷ []); rules = s.rules; nodes = s.nodes })
      sorts (set symbols st.symbols (symbol_row start size output function first clauses (length inputs) inputs))
      (record { sorts = st.sorts; symbols = st.symbols + 1; rules = st.rules; used = st.used; left = st.left })
  symbol_held start size output function first clauses inputs inside few room =
      let row : List ℕ = symbol_row start size output function first clauses (length inputs) inputs in
      let a = names.symbols_lent in
      let l = length-set symbols st.symbols row in
      let pl = row_placed start size output function first clauses inputs few in
      record {
        sorts_lent = names.sorts_lent;
        symbols_lent = omega arith;
        few_sorts = names.few_sorts;
        few_symbols = omega arith;
        sorts_are = names.sorts_are;
        symbols_are = symbols_more text symbols (set symbols st.symbols row) st.symbols row (omega arith) refl
            ∙ ap₂ (λ (x : List Symbol) (y : Symbol). x ++ (y ∷ [])) names.symbols_are (row_means start size output function first clauses inputs few text);
        sorts_inside = names.sorts_inside;
        symbols_inside = row_more (λ (x : List ℕ). NamePlace text (column x 0) (column x 1)) symbols st.symbols row (omega arith) names.symbols_inside (rw (pl.0, pl.1) inside);
        shaped = row_more SymbolShaped symbols st.symbols row (omega arith) names.shaped (row_shaped start size output function first clauses inputs few);
        exact = symbol_stored names.exact (place start size)
            (record { name = part_of text start size; inputs = inputs; output = output; function = function; first = first; clauses = clauses }) (omega arith);
      }

-- With more symbols the rules are still held.
pub rules_held : {text : List ℕ} {limit : ℕ} {ts : List Title} {s : Signature} {rules : Rows} {words : List ℕ} {st : State} → RulesHeld text limit ts s rules words st → (f : Symbol) (n : ℕ)
    → RulesHeld text limit ts (record { sorts = s.sorts; symbols = s.symbols ++ (f ∷ []); rules = s.rules; nodes = s.nodes }) rules words
    (record { sorts = st.sorts; symbols = n; rules = st.rules; used = st.used; left = st.left })
rules_held {text} {limit} {ts} {s} {rules} {words} {st} h f n =
    record {
      rules_lent = h.rules_lent;
      words_lent = h.words_lent;
      limited = h.limited;
      rules_are = rw (arities_append s.symbols (f ∷ [])) (rules_grow text (arities_of s.symbols) (arities_of (f ∷ [])) words rules 0 s.rules 0 st.used h.rules_are);
      number = h.number;
      few_rules = h.few_rules;
      left = h.left;
      fits = h.fits;
      formed = h.formed;
      rules_inside = h.rules_inside;
      exact = h.exact;
    }

-- `sort`

abbrev with_sort : Signature → Name → Signature
with_sort s w = record { sorts = s.sorts ++ (w ∷ []); symbols = s.symbols; rules = s.rules; nodes = s.nodes }

pub sort_stepped : {text : List ℕ} {limit : ℕ} {ts : Titles} {s : Signature} {sorts symbols rules : Rows} {words : List ℕ} {st : State}
    → Held text limit ts s sorts symbols rules words st → (p : ℕ) (sorts' : Rows) (r : Result Progress Refusal) (start size : ℕ) → NamePlace text start size
    → GoesTo (sort_refusal (sorts_of text sorts st.sorts) (symbols_of text symbols st.symbols) (part_of text start size)) (sort_progress p st) r
    → sorts' ≡ entered (sort_refusal (sorts_of text sorts st.sorts) (symbols_of text symbols st.symbols) (part_of text start size)) sorts st.sorts (start ∷ size ∷ [])
    → Stepping Legal (enter_sort s (part_of text start size)) → Stepped text limit (sort_titled ts (place start size)) (enter_sort s (part_of text start size)) (p + 2) sorts' symbols rules words r
sort_stepped {text} {limit} {ts} {s} {sorts} {symbols} {rules} {words} {st} held p sorts' r start size inside a b legal =
    let a₁ : GoesTo (sort_refusal s.sorts s.symbols (part_of text start size)) (sort_progress p st) r = rw (held.names.sorts_are, held.names.symbols_are) at a in
    let b₁ : sorts' ≡ entered (sort_refusal s.sorts s.symbols (part_of text start size)) sorts st.sorts (start ∷ size ∷ []) = rw (held.names.sorts_are, held.names.symbols_are) at b in
    go (sort_refusal s.sorts s.symbols (part_of text start size)) (sort_few s.sorts s.symbols (part_of text start size)) a₁ b₁ legal
  where
    go : (e : ℕ) → (e ≡ 0 → length s.sorts < 256) → GoesTo e (sort_progress p st) r → sorts' ≡ entered e sorts st.sorts (start ∷ size ∷ []) → Stepping Legal (unless e (with_sort s (part_of text start size)))
        → Stepped text limit (sort_titled ts (place start size)) (unless e (with_sort s (part_of text start size))) (p + 2) sorts' symbols rules words r
    go zero few a b legal =
        let n = sorts_number held.names in
        let k = sort_held held.names start size inside (omega (arith, few refl)) in (
          record { sorts = st.sorts + 1; symbols = st.symbols; rules = st.rules; used = st.used; left = st.left },
          goes_on _ r a,
          record {
            names = rw b k;
            kept = record {
              rules_lent = held.kept.rules_lent;
              words_lent = held.kept.words_lent;
              limited = held.kept.limited;
              rules_are = held.kept.rules_are;
              number = held.kept.number;
              few_rules = held.kept.few_rules;
              left = held.kept.left;
              fits = held.kept.fits;
              formed = held.kept.formed;
              rules_inside = held.kept.rules_inside;
              exact = held.kept.exact;
            };
            legal = legal;
          },
        )
    go (suc e) few a b legal = goes_not (suc e) _ r (omega arith) a

-- `ctor`, `pred` and `def`

abbrev pub with_symbol : Signature → Symbol → Signature
with_symbol s f = record { sorts = s.sorts; symbols = s.symbols ++ (f ∷ []); rules = s.rules; nodes = s.nodes }

abbrev pub one_symbol_more : State → State
one_symbol_more st = record { sorts = st.sorts; symbols = st.symbols + 1; rules = st.rules; used = st.used; left = st.left }

-- What came of a symbol, by the numbers of its sorts: 18 where one is unknown; else its refusal, or one symbol more.
abbrev pub Came : List ℕ → Titles → Signature → Rows → State → Bool → Name → ℕ → ℕ → ℕ → Rows → ℕ → Numbers → Type 0
Came text ts s sorts st c w function first clauses symbols' e unknown = e ≡ 18
Came text ts s sorts st c w function first clauses symbols' e (numbers ns) =
    ((e ≡ 0 → ⊥) → enter_symbol s (symbol_named c w function first clauses ns) ≡ no e)
    × (e ≡ 0 → (enter_symbol s (symbol_named c w function first clauses ns) ≡ on (with_symbol s (symbol_named c w function first clauses ns)))
    × NamesHeld text ts (with_symbol s (symbol_named c w function first clauses ns)) sorts symbols' (one_symbol_more st))

unless_no : (e : ℕ) (t : Signature) → (e ≡ 0 → ⊥) → unless e t ≡ no e
unless_no zero t n = absurd (n refl)
unless_no (suc e) t n = refl

pub symbol_came : {text : List ℕ} {ts : Titles} {s : Signature} {sorts symbols : Rows} {st : State} → NamesHeld text ts s sorts symbols st
    → {rows : Rows} {p k start size : ℕ} {c : Bool} {function first clauses e : ℕ} {symbols' : Rows} → NamePlace text start size
    → SymbolEntered text rows p k start size c function first clauses sorts st.sorts symbols st.symbols e symbols'
    → Came text (symbol_titled ts (place start size)) s sorts st c (part_of text start size) function first clauses symbols' e (numbers_of s.sorts (names_at text rows p k))
symbol_came {text} {ts} {s} {sorts} {symbols} {st} names {rows} {p} {k} {start} {size} {c} {function} {first} {clauses} {e} {symbols'} inside h =
    let q : numbers_of (sorts_of text sorts st.sorts) (names_at text rows p k) ≡ numbers_of s.sorts (names_at text rows p k) = ap (λ (x : List Name). numbers_of x (names_at text rows p k)) names.sorts_are in
    go (numbers_of s.sorts (names_at text rows p k))
    (rw (names.sorts_are, names.symbols_are) at h.refusal)
    (λ z ns d. h.entered z ns (q ∙ d))
  where
    go : (N : Numbers) → e ≡ arrow_refusal s.sorts s.symbols (part_of text start size) c N
        → (e ≡ 0 → (ns : List ℕ) → N ≡ numbers ns → symbols' ≡ set symbols st.symbols (symbol_row start size (output_of c ns) function first clauses (length (inputs_of c ns)) (inputs_of c ns)))
        → Came text (symbol_titled ts (place start size)) s sorts st c (part_of text start size) function first clauses symbols' e N
    go unknown d f = d
    go (numbers ns) d f = (
      λ n. ap (λ (x : ℕ). unless x (with_symbol s (symbol_named c (part_of text start size) function first clauses ns))) (sym d) ∙ unless_no e _ n,
      λ z. let few = not_refused s.sorts s.symbols (part_of text start size) (length (inputs_of c ns)) (sym d ∙ z) in let m = symbols_number names in let l = few.1 in (
        ap (λ (x : ℕ). unless x (with_symbol s (symbol_named c (part_of text start size) function first clauses ns))) (sym d ∙ z),
        rw (f z ns refl) (symbol_held names start size (output_of c ns) function first clauses (inputs_of c ns) inside few.0 (omega arith)),
      ),
    )
