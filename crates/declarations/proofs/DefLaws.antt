-- Laws of `ctor`, `pred` and `def`: what a symbol that was entered or refused comes to, and a function's clauses behind it.
use Prim.Native.Nat.{ℕ, zero, suc, ◌+◌, ◌<◌}
use native.Mathlib.Omega.{arith}
use mathlib.Core.Path.{◌≡◌, refl, sym, ap, ◌∙◌, subst}
use mathlib.Core.Bool.{Bool, false, cond}
use mathlib.Core.List.{List, [], ◌∷◌, ◌++◌}
use lib.Dec.{eqb}
use lib.ListN.{length}
use borrow.Author.Tests.{ne_eqb}
use Rattle.term_parser.specs.Source.{Place}
use Rattle.parser.specs.Source.{Clause, def}
use Rattle.names.specs.Names.{Name}
use Rattle.names.specs.Symbols.{Rows, Symbol, no_symbol, column, row_at}
use Rattle.rules.specs.PatternLaws.{Upto, InputsUpto}
use Rattle.loader.specs.Signature.{Signature, Step, no, on, and_then, enter_symbol, Numbers, unknown, numbers, numbers_of, with_sorts, with_some, first_of, enter_clauses}
use Rattle.loader.specs.Legal.{Legal}
use Rattle.loader.specs.Stored.{Titles, symbol_titled, with_clauses, entitled}
use Rattle.loader.specs.LegalLaws.{Stepping, Sorted, Numbering, numbers_sorted, all_more}
use Rattle.loader.specs.Arrows.{names_at}
use Rattle.loader.specs.SymbolEntry.{symbol_named, SymbolEntered}
use Rattle.loader.proofs.SymbolLaws.{arrow_count}
use Rattle.declarations.specs.Held.{NamesHeld, Held}
use Rattle.declarations.specs.Steps.{name_at, place_at, NameInside, GoesTo, symbol_progress, SymbolDeclared, Ready, Advanced, def_of, Stepped}
use Rattle.declarations.specs.declared.State.{State}
use Rattle.std.specs.Prelude.{Result}
use Rattle.refusals.specs.declared.Refusal.{Refusal}
use Rattle.refusals.specs.Refused.{Refuses}
use Rattle.declarations.specs.declared.Progress.{Progress}
use Rattle.declarations.proofs.ProgressLaws.{goes_on, goes_not}
use Rattle.declarations.proofs.ClauseLaws.{clause_names}
use Rattle.declarations.proofs.NameLaws.{Came, with_symbol, one_symbol_more, symbol_came, rules_held}

-- `ctor` and `pred`

module _ {text : List ℕ} {limit : ℕ} {ts : Titles} {s : Signature} {sorts symbols rules : Rows} {words : List ℕ} {st : State} (held : Held text limit ts s sorts symbols rules words st)
    (rows : Rows) (p : ℕ) (inside : NameInside text rows (p + 1)) where
  abbrev k : ℕ
  k = column (row_at rows p) 2

  abbrev W : Name
  W = name_at text rows (p + 1)

  abbrev P : Place
  P = place_at rows (p + 1)

  abbrev N : Numbers
  N = numbers_of s.sorts (names_at text rows (p + 2) k)

  pub symbol_stepped : (c : Bool) (r : Result Progress Refusal) (symbols' : Rows) → SymbolDeclared text rows p c 0 0 0 sorts symbols st r symbols'
      → (next : List ℕ → Step) → ((ns : List ℕ) → length ns ≡ k → next ns ≡ enter_symbol s (symbol_named c W 0 0 0 ns)) → Stepping Legal (with_sorts N next)
      → Stepped text limit (symbol_titled ts P) (with_sorts N next) (p + 2 + k) sorts symbols' rules words r
  symbol_stepped c r symbols' d next same legal =
      go d.refusal N (symbol_came held.names inside d.entered) d.is (λ ns q. arrow_count s.sorts text rows (p + 2) k ns q) legal
    where
      go : (e : ℕ) (M : Numbers) → Came text (symbol_titled ts P) s sorts st c W 0 0 0 symbols' e M → GoesTo e (symbol_progress p k st) r → ((ns : List ℕ) → M ≡ numbers ns → length ns ≡ k) → Stepping Legal (with_sorts M next)
          → Stepped text limit (symbol_titled ts P) (with_sorts M next) (p + 2 + k) sorts symbols' rules words r
      go e unknown came is n legal = goes_not 18 _ r (omega arith) (rw came at is)
      go zero (numbers ns) came is n legal =
          let h = came.1 refl in
          let q : next ns ≡ on (with_symbol s (symbol_named c W 0 0 0 ns)) = same ns (n ns refl) ∙ h.0 in
          let l : Legal (with_symbol s (symbol_named c W 0 0 0 ns)) = subst (Stepping Legal) q legal in
          subst (λ (x : Step). Stepped text limit (symbol_titled ts P) x (p + 2 + k) sorts symbols' rules words r) (sym q)
          (one_symbol_more st, goes_on _ r is, record { names = h.1; kept = rules_held held.kept (symbol_named c W 0 0 0 ns) (st.symbols + 1); legal = l })
      go (suc e) (numbers ns) came is n legal =
          let q : next ns ≡ no (suc e) = same ns (n ns refl) ∙ came.0 (λ z. omega arith) in
          let z : Refuses r (suc e) = goes_not (suc e) _ r (omega arith) is in
          subst (λ (x : Step). Stepped text limit (symbol_titled ts P) x (p + 2 + k) sorts symbols' rules words r) (sym q) z

  -- `def`
  module _ (cs : List Clause) where
    abbrev D : Titles
    D = entitled ts (def P [] cs)

    abbrev F : List ℕ → Symbol
    F ns = symbol_named false W 1 (first_of s cs) (length cs) ns

    -- refused
    pub def_no : (e q : ℕ) (symbols' rules' : Rows) (words' : List ℕ) (r : Result Progress Refusal) → Refuses r e → def_of limit text s W (names_at text rows (p + 2) k) cs ≡ no e
        → Stepped text limit D (def_of limit text s W (names_at text rows (p + 2) k) cs) q sorts symbols' rules' words' r
    def_no e q symbols' rules' words' r a h = subst (λ (x : Step). Stepped text limit D x q sorts symbols' rules' words' r) (sym h) a

    -- the first clause is the next rule
    pub first_is : {n first : ℕ} → first ≡ cond (eqb n 0) 0 st.rules → n ≡ length cs → first ≡ first_of s cs
    first_is {n} {first} f e = f ∙ ap (λ (x : ℕ). cond (eqb x 0) 0 st.rules) e ∙ go cs
      where
        go : (ds : List Clause) → cond (eqb (length ds) 0) 0 st.rules ≡ first_of s ds
        go [] = refl
        go (d ∷ ds) = rw (ne_eqb (suc (length ds)) 0 (λ z. omega arith)) held.kept.number

    -- no sort
    pub def_none : k ≡ 0 → def_of limit text s W (names_at text rows (p + 2) k) cs ≡ no 0
    unfolding names_at numbers_of
    def_none z = rw z refl

    module _ (some : 0 < k) {first n e : ℕ} {symbols' : Rows} (f : first ≡ first_of s cs) (c : n ≡ length cs)
        (h : SymbolEntered text rows (p + 2) k (column (row_at rows (p + 1)) 1) (column (row_at rows (p + 1)) 2) false 1 first n sorts st.sorts symbols st.symbols e symbols') where
      came : Came text (symbol_titled ts P) s sorts st false W 1 (first_of s cs) (length cs) symbols' e N
      came = symbol_came held.names inside (rw (f, c) at h)

      with_some_lem : (ns : List ℕ) (x : Step) → length ns ≡ k → with_some ns x ≡ x
      with_some_lem [] x q = absurd (omega arith)
      with_some_lem (m ∷ ns) x q = refl

      -- the symbol is refused
      pub def_refused : (e ≡ 0 → ⊥) → def_of limit text s W (names_at text rows (p + 2) k) cs ≡ no e
      def_refused z = go N (λ ns q. arrow_count s.sorts text rows (p + 2) k ns q) came
        where
          go : (M : Numbers) → ((ns : List ℕ) → M ≡ numbers ns → length ns ≡ k) → Came text (symbol_titled ts P) s sorts st false W 1 (first_of s cs) (length cs) symbols' e M
              → with_sorts M (λ ns. with_some ns (and_then (enter_symbol s (F ns)) (λ t. enter_clauses limit text t W 0 cs))) ≡ no e
          go unknown l q = ap no (sym q)
          go (numbers ns) l q = with_some_lem ns _ (l ns refl) ∙ ap (λ (x : Step). and_then x (λ (t : Signature). enter_clauses limit text t W 0 cs)) (q.0 z)

      -- the symbol is entered, and the clauses are left
      pub record DefEntered : Type 0 where
        pub found : List ℕ
        pub numbered : N ≡ numbers found
        pub names : NamesHeld text (symbol_titled ts P) (with_symbol s (F found)) sorts symbols' (one_symbol_more st)
        pub is : def_of limit text s W (names_at text rows (p + 2) k) cs ≡ enter_clauses limit text (with_symbol s (F found)) W 0 cs

      pub def_entered : e ≡ 0 → DefEntered
      def_entered z = go N refl came
        where
          go : (M : Numbers) → N ≡ M → Came text (symbol_titled ts P) s sorts st false W 1 (first_of s cs) (length cs) symbols' e M → DefEntered
          go unknown l q = absurd (omega arith)
          go (numbers ns) l q =
              let h = q.1 z in
              record {
                found = ns;
                numbered = l;
                names = h.1;
                is = ap (λ (x : Numbers). with_sorts x (λ ms. with_some ms (and_then (enter_symbol s (F ms)) (λ t. enter_clauses limit text t W 0 cs)))) l
                    ∙ with_some_lem ns _ (arrow_count s.sorts text rows (p + 2) k ns l)
                    ∙ ap (λ (x : Step). and_then x (λ (t : Signature). enter_clauses limit text t W 0 cs)) h.0;
              }

      module _ (d : DefEntered) where
        more_upto : InputsUpto 256 (with_symbol s (F d.found)).symbols
        more_upto =
            all_more (λ (g : Symbol). Upto 256 g.inputs) s.symbols (F d.found) no_symbol
            (λ i l j m. let a = held.legal.few_sorts in let b = ((held.legal.symbols i l).inputs j m).1 in omega arith)
            (λ j m. let a = held.legal.few_sorts in let b = (found_sorted j m).1 in omega arith)
          where
            found_sorted : Sorted (length s.sorts) d.found
            found_sorted = subst (Numbering (Sorted (length s.sorts))) d.numbered (numbers_sorted s.sorts (names_at text rows (p + 2) k))

        pub def_ready : Ready text limit ts.rules (with_symbol s (F d.found)) symbols' rules words (one_symbol_more st)
        def_ready =
            record {
              lent = d.names.symbols_lent;
              few = d.names.few_symbols;
              symbols_are = d.names.symbols_are;
              inputs = λ i l. (d.names.shaped i l).few;
              upto = more_upto;
              kept = rules_held held.kept (F d.found) (st.symbols + 1);
            }

        pub def_stepped : (q : ℕ) (rules' : Rows) (words' : List ℕ) (r : Result Progress Refusal)
            → Advanced text limit (with_clauses ts.rules P 0 cs) (enter_clauses limit text (with_symbol s (F d.found)) W 0 cs) q rules' words' (one_symbol_more st) r
            → Stepping Legal (def_of limit text s W (names_at text rows (p + 2) k) cs)
            → Stepped text limit D (def_of limit text s W (names_at text rows (p + 2) k) cs) q sorts symbols' rules' words' r
        def_stepped q rules' words' r a legal =
            subst (λ (x : Step). Stepped text limit D x q sorts symbols' rules' words' r) (sym d.is)
            (go (enter_clauses limit text (with_symbol s (F d.found)) W 0 cs) (λ u e. clause_names limit text W cs (with_symbol s (F d.found)) 0 u e) a (subst (Stepping Legal) d.is legal))
          where
            go : (x : Step) → ((u : Signature) → x ≡ on u → (u.sorts ≡ s.sorts) × (u.symbols ≡ s.symbols ++ (F d.found ∷ []))) → Advanced text limit (with_clauses ts.rules P 0 cs) x q rules' words' (one_symbol_more st) r
                → Stepping Legal x → Stepped text limit D x q sorts symbols' rules' words' r
            go (no e) n a l = a
            go (on u) n a l =
                let ss = (n u refl).0 in
                let fs = (n u refl).1 in
                let es = a.2.sorts in
                let ef = a.2.symbols in
                let h = d.names in (
                  a.0,
                  a.1,
                  record {
                    names = record {
                      sorts_lent = h.sorts_lent;
                      symbols_lent = h.symbols_lent;
                      few_sorts = (let b = h.few_sorts in omega arith);
                      few_symbols = (let b = h.few_symbols in omega arith);
                      sorts_are = rw (es, ss) h.sorts_are;
                      symbols_are = rw (ef, fs) h.symbols_are;
                      sorts_inside = λ i m. h.sorts_inside i (omega arith);
                      symbols_inside = λ i m. h.symbols_inside i (omega arith);
                      shaped = λ i m. h.shaped i (omega arith);
                      exact = rw (es, ef, fs) h.exact;
                    };
                    kept = a.2.kept;
                    legal = l;
                  },
                )
