-- Laws of `declare`: for each keyword what its function asks, and that what it owes is the definition's step.
use Prim.Native.Nat.{ℕ, ◌+◌, ◌≤◌, ◌<◌}
use native.Mathlib.Omega.{arith}
use mathlib.Core.Path.{◌≡◌, refl, sym, ap, ◌∙◌, subst}
use mathlib.Core.Bool.{true, false}
use mathlib.Core.List.{List, [], ◌∷◌, ◌++◌, map}
use lib.ListN.{length}
use Rattle.term_parser.specs.Source.{Place, Source, one, all_of}
use Rattle.term_parser.specs.Standing.{bytes_at, spelled, Stands, size, nil as none, cons as more}
use Rattle.parser.specs.Source.{Declaration, sort, ctor, pred, rule, def, theorem, eval, check}
use Rattle.parser.specs.Declarations.{Declared}
use Rattle.names.specs.Names.{Name}
use Rattle.names.specs.Symbols.{Rows, column, row_at, sorts_of, symbols_of}
use Rattle.rules.specs.Rules.{Ruled, barred, ruled, rule_of, entering}
use Rattle.rules.specs.declared.Title.{Title}
use Rattle.clauses.specs.Promises.{Skipped}
use Rattle.loader.specs.Signature.{Signature, Step, no, on, sort_refusal, enter_sort, enter_symbol, numbers_of, with_sorts, with_some, room_in, with_rule, front_of, last_judgment, enter_judgments, declare}
use Rattle.loader.specs.Legal.{Legal}
use Rattle.loader.specs.Stored.{Titles, title_at, sort_titled, symbol_titled, entitled}
use Rattle.loader.specs.LegalLaws.{Stepping, declare_legal}
use Rattle.loader.specs.Rows.{entered}
use Rattle.loader.specs.Arrows.{names_at}
use Rattle.loader.specs.SymbolEntry.{symbol_named}
use Rattle.declarations.specs.Held.{Held}
use Rattle.declarations.specs.Steps.{name_at, place_at, GoesTo, sort_progress, SymbolAsked, SymbolDeclared, Ready, Advanced, RuleAsked, RuleDeclared, Stepped, def_of, DefAsked, DefDeclared, DeclarationAt}
use Rattle.declarations.specs.declared.State.{State}
use Rattle.std.specs.Prelude.{Result, Ok, Err}
use Rattle.refusals.specs.declared.Refusal.{Refusal}
use Rattle.refusals.specs.declared.Refusal.TheVariants.{NoDeclaration, NotLoaded}
use Rattle.declarations.specs.declared.Progress.{Progress}
use Rattle.declarations.proofs.NameLaws.{sort_stepped}
use Rattle.declarations.proofs.DefLaws.{symbol_stepped}
use Rattle.declarations.proofs.DeclarationLaws.{kind_of, first_row, sort_parts, ctor_parts, pred_parts, rule_parts, def_parts, eval_parts}

-- The kind in a declaration's row is that of its keyword.
module _ {text : List ℕ} {rows : Rows} {p : ℕ} {d : Declared} {q : ℕ} (h : DeclarationAt text rows p d q) where
  is_kind : (k : ℕ) → column (row_at rows p) 0 ≡ k → kind_of d.declaration ≡ k
  is_kind k e = sym (first_row h).kind ∙ e

-- What is ready for rules.
ready : {text : List ℕ} {limit : ℕ} {ts : Titles} {s : Signature} {sorts symbols rules : Rows} {words : List ℕ} {st : State} → Held text limit ts s sorts symbols rules words st → Ready text limit ts.rules s symbols rules words st
ready {text} {limit} {ts} {s} held =
    record {
      lent = held.names.symbols_lent;
      few = held.names.few_symbols;
      symbols_are = held.names.symbols_are;
      inputs = λ i l. (held.names.shaped i l).few;
      upto = λ i l j m. let a = held.legal.few_sorts in let b = ((held.legal.symbols i l).inputs j m).1 in omega arith;
      kept = held.kept;
    }

-- Rules entered with the names as they were.
from_advanced : {text : List ℕ} {limit : ℕ} {ts : Titles} {s : Signature} {sorts symbols rules : Rows} {words : List ℕ} {st : State} → Held text limit ts s sorts symbols rules words st
    → (us : List Title) (x : Step) (q : ℕ) (rules' : Rows) (words' : List ℕ) (r : Result Progress Refusal) → ((t : Signature) → x ≡ on t → (t.sorts ≡ s.sorts) × (t.symbols ≡ s.symbols)) → Stepping Legal x
    → Advanced text limit us x q rules' words' st r → Stepped text limit (record { sorts = ts.sorts; symbols = ts.symbols; rules = us }) x q sorts symbols rules' words' r
from_advanced held us (no e) q rules' words' r same legal a = a
from_advanced held us (on t) q rules' words' r same legal a =
    let n = held.names in
    let es = a.2.sorts in
    let ef = a.2.symbols in
    let ss = (same t refl).0 in
    let fs = (same t refl).1 in (
      a.0,
      a.1,
      record {
        names = record {
          sorts_lent = n.sorts_lent;
          symbols_lent = n.symbols_lent;
          few_sorts = (let b = n.few_sorts in omega arith);
          few_symbols = (let b = n.few_symbols in omega arith);
          sorts_are = rw (es, ss) n.sorts_are;
          symbols_are = rw (ef, fs) n.symbols_are;
          sorts_inside = λ i m. n.sorts_inside i (omega arith);
          symbols_inside = λ i m. n.symbols_inside i (omega arith);
          shaped = λ i m. n.shaped i (omega arith);
          exact = rw (es, ef, fs) n.exact;
        };
        kept = a.2.kept;
        legal = legal;
      },
    )

-- A rule leaves sorts and symbols as they are.
rule_names : (s : Signature) (room : ℕ) (x : Ruled) (t : Signature) → with_rule s room x ≡ on t → (t.sorts ≡ s.sorts) × (t.symbols ≡ s.symbols)
rule_names s room (barred e) t q = absurd (let z : ◌≡◌ {A = ℕ} 0 1 = cc in omega arith)
rule_names s room (ruled R left) t q = (cc, cc)

judgments_names : (limit : ℕ) (text : List ℕ) (s : Signature) (w : Name) (j : Source one) (js : List (Source one)) (t : Signature) → enter_judgments limit text s w (j ∷ js) ≡ on t
    → (t.sorts ≡ s.sorts) × (t.symbols ≡ s.symbols)
judgments_names limit text s w j js t q =
    rule_names s (room_in limit s)
    (entering (length s.rules) (rule_of s.symbols w (spelled text (all_of (front_of (j ∷ js)))) (spelled text (last_judgment j js)) (room_in limit s))) t q

module _ {text : List ℕ} {limit : ℕ} {ts : Titles} {s : Signature} {sorts symbols rules : Rows} {words : List ℕ} {st : State} (held : Held text limit ts s sorts symbols rules words st)
    {rows : Rows} {p : ℕ} {d : Declared} {q : ℕ} (h : DeclarationAt text rows p d q) where
  -- 1, `sort`
  pub sort_there : column (row_at rows p) 0 ≡ 1 → p + 2 ≤ length rows
  sort_there e = go d.line d.declaration h (is_kind h 1 e)
    where
      go : (line : ℕ) (e : Declaration) → DeclarationAt text rows p (record { line = line; declaration = e }) q → kind_of e ≡ 1 → p + 2 ≤ length rows
      go line (sort n) h k = (sort_parts text rows p line h).0
      go line (ctor n ss) h k = absurd (omega arith)
      go line (pred n ss) h k = absurd (omega arith)
      go line (rule n js) h k = absurd (omega arith)
      go line (def n ss cs) h k = absurd (omega arith)
      go line (theorem n bs js t) h k = absurd (omega arith)
      go line (eval t) h k = absurd (omega arith)
      go line (check t) h k = absurd (omega arith)

  pub sort_done : (sorts' : Rows) (r : Result Progress Refusal) → column (row_at rows p) 0 ≡ 1
      → GoesTo (sort_refusal (sorts_of text sorts st.sorts) (symbols_of text symbols st.symbols) (name_at text rows (p + 1))) (sort_progress p st) r
      → sorts' ≡ entered (sort_refusal (sorts_of text sorts st.sorts) (symbols_of text symbols st.symbols) (name_at text rows (p + 1))) sorts st.sorts (column (row_at rows (p + 1)) 1 ∷ column (row_at rows (p + 1)) 2 ∷ [])
      → Stepped text limit (entitled ts d.declaration) (declare limit text s d.declaration) q sorts' symbols rules words r
  sort_done sorts' r e a b = go d.line d.declaration h (is_kind h 1 e) (declare_legal limit text s d.declaration held.legal)
    where
      go : (line : ℕ) (e : Declaration) → DeclarationAt text rows p (record { line = line; declaration = e }) q → kind_of e ≡ 1 → Stepping Legal (declare limit text s e)
          → Stepped text limit (entitled ts e) (declare limit text s e) q sorts' symbols rules words r
      go line (sort n) h k l =
          let x = sort_parts text rows p line h in
          let t = x.1 in
          let w = t.named in
          subst (λ (z : ℕ). Stepped text limit (sort_titled ts n) (enter_sort s (bytes_at text n)) z sorts' symbols rules words r) (sym x.2)
          (subst (λ (z : Place). Stepped text limit (sort_titled ts z) (enter_sort s (bytes_at text n)) (p + 2) sorts' symbols rules words r) t.placed
          (subst (λ (z : Name). Stepped text limit (sort_titled ts (place_at rows (p + 1))) (enter_sort s z) (p + 2) sorts' symbols rules words r) w
          (sort_stepped held p sorts' r (column (row_at rows (p + 1)) 1) (column (row_at rows (p + 1)) 2) t.inside a b (subst (λ (z : Name). Stepping Legal (enter_sort s z)) (sym w) l))))
      go line (ctor n ss) h k l = absurd (omega arith)
      go line (pred n ss) h k l = absurd (omega arith)
      go line (rule n js) h k l = absurd (omega arith)
      go line (def n ss cs) h k l = absurd (omega arith)
      go line (theorem n bs js t) h k l = absurd (omega arith)
      go line (eval t) h k l = absurd (omega arith)
      go line (check t) h k l = absurd (omega arith)

  -- 2, `ctor`, and 3, `pred`
  symbol_rows_lem : length rows ≤ 65536 → p + 2 + column (row_at rows p) 2 ≤ length rows → SymbolAsked rows p sorts symbols st
  symbol_rows_lem short there =
      record { there = there; short = short; sorts_lent = held.names.sorts_lent; symbols_lent = held.names.symbols_lent; few_sorts = held.names.few_sorts; few_symbols = held.names.few_symbols }

  pub ctor_asked : length rows ≤ 65536 → column (row_at rows p) 0 ≡ 2 → SymbolAsked rows p sorts symbols st
  ctor_asked short e = go d.line d.declaration h (is_kind h 2 e)
    where
      go : (line : ℕ) (e : Declaration) → DeclarationAt text rows p (record { line = line; declaration = e }) q → kind_of e ≡ 2 → SymbolAsked rows p sorts symbols st
      go line (sort n) h k = absurd (omega arith)
      go line (ctor n ss) h k = let x = (ctor_parts text rows p line h).0 in let a = x.number in let b = x.there in symbol_rows_lem short (omega arith)
      go line (pred n ss) h k = absurd (omega arith)
      go line (rule n js) h k = absurd (omega arith)
      go line (def n ss cs) h k = absurd (omega arith)
      go line (theorem n bs js t) h k = absurd (omega arith)
      go line (eval t) h k = absurd (omega arith)
      go line (check t) h k = absurd (omega arith)

  -- without a sort
  pub ctor_none : (sorts' symbols' rules' : Rows) (words' : List ℕ) → column (row_at rows p) 0 ≡ 2 → column (row_at rows p) 2 ≡ 0
      → Stepped text limit (entitled ts d.declaration) (declare limit text s d.declaration) q sorts' symbols' rules' words' (Err NoDeclaration)
  unfolding numbers_of
  ctor_none sorts' symbols' rules' words' e z = go d.line d.declaration h (is_kind h 2 e)
    where
      go : (line : ℕ) (e : Declaration) → DeclarationAt text rows p (record { line = line; declaration = e }) q → kind_of e ≡ 2
          → Stepped text limit (entitled ts e) (declare limit text s e) q sorts' symbols' rules' words' (Err NoDeclaration)
      go line (sort n) h k = absurd (omega arith)
      go line (ctor n []) h k = refl
      go line (ctor n (x ∷ ss)) h k = let y = (ctor_parts text rows p line h).0.number in absurd (omega arith)
      go line (pred n ss) h k = absurd (omega arith)
      go line (rule n js) h k = absurd (omega arith)
      go line (def n ss cs) h k = absurd (omega arith)
      go line (theorem n bs js t) h k = absurd (omega arith)
      go line (eval t) h k = absurd (omega arith)
      go line (check t) h k = absurd (omega arith)

  pub ctor_done : (symbols' : Rows) (r : Result Progress Refusal) → column (row_at rows p) 0 ≡ 2 → 0 < column (row_at rows p) 2 → SymbolDeclared text rows p true 0 0 0 sorts symbols st r symbols'
      → Stepped text limit (entitled ts d.declaration) (declare limit text s d.declaration) q sorts symbols' rules words r
  ctor_done symbols' r e some a = go d.line d.declaration h (is_kind h 2 e) (declare_legal limit text s d.declaration held.legal)
    where
      next : Name → List ℕ → Step
      next w ns = with_some ns (enter_symbol s (symbol_named true w 0 0 0 ns))

      go : (line : ℕ) (e : Declaration) → DeclarationAt text rows p (record { line = line; declaration = e }) q → kind_of e ≡ 2 → Stepping Legal (declare limit text s e)
          → Stepped text limit (entitled ts e) (declare limit text s e) q sorts symbols' rules words r
      go line (sort n) h k l = absurd (omega arith)
      go line (ctor n ss) h k l =
          let x = ctor_parts text rows p line h in
          let m = x.0.number in
          let w = x.0.title.named in
          let nm : names_at text rows (p + 2) (column (row_at rows p) 2) ≡ map (bytes_at text) ss = ap (names_at text rows (p + 2)) m ∙ x.0.names in
          let to : q ≡ p + 2 + column (row_at rows p) 2 = (let t = x.1 in omega arith) in
          subst (λ (z : ℕ). Stepped text limit (symbol_titled ts n) (with_sorts (numbers_of s.sorts (map (bytes_at text) ss)) (next (bytes_at text n))) z sorts symbols' rules words r) (sym to)
          (subst (λ (z : Place). Stepped text limit (symbol_titled ts z) (with_sorts (numbers_of s.sorts (map (bytes_at text) ss)) (next (bytes_at text n))) (p + 2 + column (row_at rows p) 2) sorts symbols' rules words r) x.0.title.placed
          (subst (λ (z : List Name). Stepped text limit (symbol_titled ts (place_at rows (p + 1))) (with_sorts (numbers_of s.sorts z) (next (bytes_at text n))) (p + 2 + column (row_at rows p) 2) sorts symbols' rules words r) nm
          (subst (λ (z : Name). Stepped text limit (symbol_titled ts (place_at rows (p + 1))) (with_sorts (numbers_of s.sorts (names_at text rows (p + 2) (column (row_at rows p) 2))) (next z)) (p + 2 + column (row_at rows p) 2) sorts symbols' rules words r) w
          (symbol_stepped held rows p x.0.title.inside true r symbols' a (next (name_at text rows (p + 1))) same
          (subst (λ (z : Name). Stepping Legal (with_sorts (numbers_of s.sorts (names_at text rows (p + 2) (column (row_at rows p) 2))) (next z))) (sym w)
          (subst (λ (z : List Name). Stepping Legal (with_sorts (numbers_of s.sorts z) (next (bytes_at text n)))) (sym nm) l))))))
        where
          same : (ns : List ℕ) → length ns ≡ column (row_at rows p) 2 → next (name_at text rows (p + 1)) ns ≡ enter_symbol s (symbol_named true (name_at text rows (p + 1)) 0 0 0 ns)
          same [] z = absurd (omega arith)
          same (m ∷ ns) z = refl
      go line (pred n ss) h k l = absurd (omega arith)
      go line (rule n js) h k l = absurd (omega arith)
      go line (def n ss cs) h k l = absurd (omega arith)
      go line (theorem n bs js t) h k l = absurd (omega arith)
      go line (eval t) h k l = absurd (omega arith)
      go line (check t) h k l = absurd (omega arith)

  pub pred_asked : length rows ≤ 65536 → column (row_at rows p) 0 ≡ 3 → SymbolAsked rows p sorts symbols st
  pred_asked short e = go d.line d.declaration h (is_kind h 3 e)
    where
      go : (line : ℕ) (e : Declaration) → DeclarationAt text rows p (record { line = line; declaration = e }) q → kind_of e ≡ 3 → SymbolAsked rows p sorts symbols st
      go line (sort n) h k = absurd (omega arith)
      go line (ctor n ss) h k = absurd (omega arith)
      go line (pred n ss) h k = let x = (pred_parts text rows p line h).0 in let a = x.number in let b = x.there in symbol_rows_lem short (omega arith)
      go line (rule n js) h k = absurd (omega arith)
      go line (def n ss cs) h k = absurd (omega arith)
      go line (theorem n bs js t) h k = absurd (omega arith)
      go line (eval t) h k = absurd (omega arith)
      go line (check t) h k = absurd (omega arith)

  pub pred_done : (symbols' : Rows) (r : Result Progress Refusal) → column (row_at rows p) 0 ≡ 3 → SymbolDeclared text rows p false 0 0 0 sorts symbols st r symbols'
      → Stepped text limit (entitled ts d.declaration) (declare limit text s d.declaration) q sorts symbols' rules words r
  pred_done symbols' r e a = go d.line d.declaration h (is_kind h 3 e) (declare_legal limit text s d.declaration held.legal)
    where
      next : Name → List ℕ → Step
      next w ns = enter_symbol s (symbol_named false w 0 0 0 ns)

      go : (line : ℕ) (e : Declaration) → DeclarationAt text rows p (record { line = line; declaration = e }) q → kind_of e ≡ 3 → Stepping Legal (declare limit text s e)
          → Stepped text limit (entitled ts e) (declare limit text s e) q sorts symbols' rules words r
      go line (sort n) h k l = absurd (omega arith)
      go line (ctor n ss) h k l = absurd (omega arith)
      go line (pred n ss) h k l =
          let x = pred_parts text rows p line h in
          let m = x.0.number in
          let w = x.0.title.named in
          let nm : names_at text rows (p + 2) (column (row_at rows p) 2) ≡ map (bytes_at text) ss = ap (names_at text rows (p + 2)) m ∙ x.0.names in
          let to : q ≡ p + 2 + column (row_at rows p) 2 = (let t = x.1 in omega arith) in
          subst (λ (z : ℕ). Stepped text limit (symbol_titled ts n) (with_sorts (numbers_of s.sorts (map (bytes_at text) ss)) (next (bytes_at text n))) z sorts symbols' rules words r) (sym to)
          (subst (λ (z : Place). Stepped text limit (symbol_titled ts z) (with_sorts (numbers_of s.sorts (map (bytes_at text) ss)) (next (bytes_at text n))) (p + 2 + column (row_at rows p) 2) sorts symbols' rules words r) x.0.title.placed
          (subst (λ (z : List Name). Stepped text limit (symbol_titled ts (place_at rows (p + 1))) (with_sorts (numbers_of s.sorts z) (next (bytes_at text n))) (p + 2 + column (row_at rows p) 2) sorts symbols' rules words r) nm
          (subst (λ (z : Name). Stepped text limit (symbol_titled ts (place_at rows (p + 1))) (with_sorts (numbers_of s.sorts (names_at text rows (p + 2) (column (row_at rows p) 2))) (next z)) (p + 2 + column (row_at rows p) 2) sorts symbols' rules words r) w
          (symbol_stepped held rows p x.0.title.inside false r symbols' a (next (name_at text rows (p + 1))) (λ ns z. refl)
          (subst (λ (z : Name). Stepping Legal (with_sorts (numbers_of s.sorts (names_at text rows (p + 2) (column (row_at rows p) 2))) (next z))) (sym w)
          (subst (λ (z : List Name). Stepping Legal (with_sorts (numbers_of s.sorts z) (next (bytes_at text n)))) (sym nm) l))))))
      go line (rule n js) h k l = absurd (omega arith)
      go line (def n ss cs) h k l = absurd (omega arith)
      go line (theorem n bs js t) h k l = absurd (omega arith)
      go line (eval t) h k l = absurd (omega arith)
      go line (check t) h k l = absurd (omega arith)

  -- 4, `rule`
  pub rule_asked : length rows ≤ 65536 → column (row_at rows p) 0 ≡ 4 → RuleAsked text rows p symbols rules words st
  rule_asked short e = go d.line d.declaration h (is_kind h 4 e)
    where
      go : (line : ℕ) (e : Declaration) → DeclarationAt text rows p (record { line = line; declaration = e }) q → kind_of e ≡ 4 → RuleAsked text rows p symbols rules words st
      go line (sort n) h k = absurd (omega arith)
      go line (ctor n ss) h k = absurd (omega arith)
      go line (pred n ss) h k = absurd (omega arith)
      go line (rule n []) h k =
          let x = rule_parts text rows p line h in
          let a = x.number in
          record { here = x.here; short = short; ready = (limit, ts.rules, s, ready held); stand = λ l. absurd (omega arith) }
      go line (rule n (j ∷ js)) h k =
          let x = rule_parts text rows p line h in
          record { here = x.here; short = short; ready = (limit, ts.rules, s, ready held); stand = λ l. (j, js, q, x.stand j js refl, x.number) }
      go line (def n ss cs) h k = absurd (omega arith)
      go line (theorem n bs js t) h k = absurd (omega arith)
      go line (eval t) h k = absurd (omega arith)
      go line (check t) h k = absurd (omega arith)

  pub rule_done : (rules' : Rows) (words' : List ℕ) (r : Result Progress Refusal) → column (row_at rows p) 0 ≡ 4 → RuleDeclared text rows p symbols rules words st r rules' words'
      → Stepped text limit (entitled ts d.declaration) (declare limit text s d.declaration) q sorts symbols rules' words' r
  rule_done rules' words' r e a = go d.line d.declaration h (is_kind h 4 e) (declare_legal limit text s d.declaration held.legal)
    where
      go : (line : ℕ) (e : Declaration) → DeclarationAt text rows p (record { line = line; declaration = e }) q → kind_of e ≡ 4 → Stepping Legal (declare limit text s e)
          → Stepped text limit (entitled ts e) (declare limit text s e) q sorts symbols rules' words' r
      go line (sort n) h k l = absurd (omega arith)
      go line (ctor n ss) h k l = absurd (omega arith)
      go line (pred n ss) h k l = absurd (omega arith)
      go line (rule n []) h k l = rw (a.none (rule_parts text rows p line h).number) refl
      go line (rule n (j ∷ js)) h k l =
          let x = rule_parts text rows p line h in
          from_advanced held (ts.rules ++ (title_at n 0 ∷ [])) (enter_judgments limit text s (bytes_at text n) (j ∷ js)) q rules' words' r (judgments_names limit text s (bytes_at text n) j js) l
          (subst (λ (z : Place). Advanced text limit (ts.rules ++ (title_at z 0 ∷ [])) (enter_judgments limit text s (bytes_at text n) (j ∷ js)) q rules' words' st r) x.title.placed
          (subst (λ (z : Name). Advanced text limit (ts.rules ++ (title_at (place_at rows (p + 1)) 0 ∷ [])) (enter_judgments limit text s z (j ∷ js)) q rules' words' st r) x.title.named
          (a.same limit ts.rules s (ready held) x.title.inside j js q (x.stand j js refl) x.number)))
      go line (def n ss cs) h k l = absurd (omega arith)
      go line (theorem n bs js t) h k l = absurd (omega arith)
      go line (eval t) h k l = absurd (omega arith)
      go line (check t) h k l = absurd (omega arith)

  -- 5, `def`
  pub def_asked : (out calls : Rows) → length rows ≤ 65536 → length rows ≤ length out → length rows + 32 ≤ length calls → column (row_at rows p) 0 ≡ 5
      → DefAsked text rows p sorts symbols rules words out calls st
  def_asked out calls short a b e = go d.line d.declaration h (is_kind h 5 e)
    where
      go : (line : ℕ) (e : Declaration) → DeclarationAt text rows p (record { line = line; declaration = e }) q → kind_of e ≡ 5 → DefAsked text rows p sorts symbols rules words out calls st
      go line (sort n) h k = absurd (omega arith)
      go line (ctor n ss) h k = absurd (omega arith)
      go line (pred n ss) h k = absurd (omega arith)
      go line (rule n js) h k = absurd (omega arith)
      go line (def n ss cs) h k =
          let x = def_parts text rows p line h in
          let m = x.arrowed.number in
          let t = x.arrowed.there in
          let c = x.clauses in
          let f = x.few in
          record {
            there = omega arith;
            few = omega arith;
            short = short;
            out_lent = a;
            calls_lent = b;
            ready = (limit, ts, s, held);
            inside = x.arrowed.title.inside;
            stand = (cs, q, rw m x.stand, c);
          }
      go line (theorem n bs js t) h k = absurd (omega arith)
      go line (eval t) h k = absurd (omega arith)
      go line (check t) h k = absurd (omega arith)

  pub def_done : (symbols' rules' : Rows) (words' : List ℕ) (r : Result Progress Refusal) → column (row_at rows p) 0 ≡ 5 → DefDeclared text rows p sorts symbols rules words st r symbols' rules' words'
      → Stepped text limit (entitled ts d.declaration) (declare limit text s d.declaration) q sorts symbols' rules' words' r
  def_done symbols' rules' words' r e a = go d.line d.declaration h (is_kind h 5 e) (declare_legal limit text s d.declaration held.legal)
    where
      go : (line : ℕ) (e : Declaration) → DeclarationAt text rows p (record { line = line; declaration = e }) q → kind_of e ≡ 5 → Stepping Legal (declare limit text s e)
          → Stepped text limit (entitled ts e) (declare limit text s e) q sorts symbols' rules' words' r
      go line (sort n) h k l = absurd (omega arith)
      go line (ctor n ss) h k l = absurd (omega arith)
      go line (pred n ss) h k l = absurd (omega arith)
      go line (rule n js) h k l = absurd (omega arith)
      go line (def n ss cs) h k l =
          let x = def_parts text rows p line h in
          let m = x.arrowed.number in
          let w = x.arrowed.title.named in
          let nm : names_at text rows (p + 2) (column (row_at rows p) 2) ≡ map (bytes_at text) ss = ap (names_at text rows (p + 2)) m ∙ x.arrowed.names in
          subst (λ (z : List Name). Stepped text limit (entitled ts (def n ss cs)) (def_of limit text s (bytes_at text n) z cs) q sorts symbols' rules' words' r) nm
          (subst (λ (z : Place). Stepped text limit (entitled ts (def z ss cs)) (def_of limit text s (bytes_at text n) (names_at text rows (p + 2) (column (row_at rows p) 2)) cs) q sorts symbols' rules' words' r) x.arrowed.title.placed
          (subst (λ (z : Name). Stepped text limit (entitled ts (def (place_at rows (p + 1)) ss cs)) (def_of limit text s z (names_at text rows (p + 2) (column (row_at rows p) 2)) cs) q sorts symbols' rules' words' r) w
          (a.same limit ts s held cs q (rw m x.stand) x.clauses
          (subst (λ (z : Name). Stepping Legal (def_of limit text s z (names_at text rows (p + 2) (column (row_at rows p) 2)) cs)) (sym w)
          (subst (λ (z : List Name). Stepping Legal (def_of limit text s (bytes_at text n) z cs)) (sym nm) l)))))
      go line (theorem n bs js t) h k l = absurd (omega arith)
      go line (eval t) h k l = absurd (omega arith)
      go line (check t) h k l = absurd (omega arith)

  -- 10, `#eval`
  pub eval_done : (r : ℕ) → column (row_at rows p) 0 ≡ 10 → Skipped rows (p + 1) 1 r → Stepped text limit (entitled ts d.declaration) (declare limit text s d.declaration) q sorts symbols rules words (Ok (record { next = r; state = st }))
  unfolding Stands size
  eval_done r e a = go d.line d.declaration h (is_kind h 10 e)
    where
      go : (line : ℕ) (e : Declaration) → DeclarationAt text rows p (record { line = line; declaration = e }) q → kind_of e ≡ 10
          → Stepped text limit (entitled ts e) (declare limit text s e) q sorts symbols rules words (Ok (record { next = r; state = st }))
      go line (sort n) h k = absurd (omega arith)
      go line (ctor n ss) h k = absurd (omega arith)
      go line (pred n ss) h k = absurd (omega arith)
      go line (rule n js) h k = absurd (omega arith)
      go line (def n ss cs) h k = absurd (omega arith)
      go line (theorem n bs js t) h k = absurd (omega arith)
      go line (eval t) h k =
          let z : r ≡ q = a.behind text (more (spelled text t) none) q (q, eval_parts text rows p line h, refl) refl in
          (st, ap (λ (x : ℕ). Ok (record { next = x; state = st })) z, held)
      go line (check t) h k = absurd (omega arith)

  -- The others are `theorem` and `#check`.
  pub others_done : (sorts' symbols' rules' : Rows) (words' : List ℕ) → (column (row_at rows p) 0 ≡ 1 → ⊥) → (column (row_at rows p) 0 ≡ 2 → ⊥) → (column (row_at rows p) 0 ≡ 3 → ⊥)
      → (column (row_at rows p) 0 ≡ 4 → ⊥) → (column (row_at rows p) 0 ≡ 5 → ⊥) → (column (row_at rows p) 0 ≡ 10 → ⊥)
      → Stepped text limit (entitled ts d.declaration) (declare limit text s d.declaration) q sorts' symbols' rules' words' (Err NotLoaded)
  others_done sorts' symbols' rules' words' a b c f g i = go d.declaration (first_row h).kind
    where
      go : (e : Declaration) → column (row_at rows p) 0 ≡ kind_of e → Stepped text limit (entitled ts e) (declare limit text s e) q sorts' symbols' rules' words' (Err NotLoaded)
      go (sort n) k = absurd (a k)
      go (ctor n ss) k = absurd (b k)
      go (pred n ss) k = absurd (c k)
      go (rule n js) k = absurd (f k)
      go (def n ss cs) k = absurd (g k)
      go (theorem n bs js t) k = refl
      go (eval t) k = absurd (i k)
      go (check t) k = refl
