-- Laws of the clauses' test: a reference from 64 on denotes a node of its header's symbol, whatever the words are; and what the parts of the form tell of
-- rows that the test reads.
use Prim.Native.Nat.{ℕ, zero, suc, ◌+◌, ◌-◌, ◌≤◌, ◌<◌}
use native.Mathlib.Omega.{arith}
use mathlib.Core.Path.{◌≡◌, refl, sym, ap, ◌∙◌, subst}
use mathlib.Core.List.{List, [], ◌∷◌}
use mathlib.Core.Bool.{Bool, false}
use lib.ListN.{length, get_or}
use lib.Dec.{eqb}
use borrow.Author.Tests.{eqb-true, eq-eqb, ltb-true, ltb-false}
use Rattle.std.proofs.Common.{Option, Some, None, Bor, nat_eq, nat_lt}
use Rattle.std.specs.Option.{is_some, IfSome, MatchOption, option_eq}
use Rattle.names.specs.SearchLaws.{get_d_any}
use Rattle.signature.specs.Parts.{NodeSymbol}
use Rattle.unifier.specs.Checking.{tells_no}
use Rattle.terms.specs.Term.{Term, Terms, app}
use Rattle.terms.specs.TermLaws.{var_app}
use Rattle.arena.specs.Cells.{headers, symbol_of as headerSymbol, denote, decode_node, denote_variable, cells, terms_of}
use Rattle.arena.specs.Copies.{pattern_room}
use Rattle.meeting.specs.Contract.{term_of}
use Rattle.names.specs.Symbols.{Rows, Symbol, column, row_at, symbol_of, symbols_of, symbol_at, no_symbol}
use Rattle.patterns.proofs.Terms.{symbol_at_lem, symbols_length}
use Rattle.loader.specs.Legal.{Calls}
use Rattle.unifier.specs.Promises.{Tells}

-- A header

-- Past the end there is none, and a word below the headers is none: both are read as the symbol 0.
pub low_zero : (h : ℕ) → h < headers → ◌≡◌ {A = ℕ} 0 (headerSymbol h)
low_zero h l = let z : h - headers ≡ 0 = omega arith in rw z refl

pub past_zero : (words : List ℕ) (a : ℕ) → length words ≤ a → ◌≡◌ {A = ℕ} 0 (headerSymbol (get_or words a 0))
past_zero words a l = let z : get_or words a 0 ≡ 0 = past_end words a l in rw z refl
  where
    past_end : (l : List ℕ) (a : ℕ) → length l ≤ a → get_or l a 0 ≡ 0
    past_end [] a m = refl
    past_end (x ∷ l) zero m = absurd (omega arith)
    past_end (x ∷ l) (suc a) m = past_end l a (omega arith)

-- A node

app_symbol : {f g : ℕ} {ts us : Terms} {t : Term} → t ≡ app f ts → t ≡ app g us → f ≡ g
app_symbol p q = cc

module _ (words : List ℕ) (r : ℕ) where
  abbrev header : ℕ
  header = get_or words (r - pattern_room) 0

  -- The node of a reference.
  node_is : pattern_room ≤ r → (ts : Terms) × (term_of words r ≡ app (headerSymbol header) ts)
  unfolding denote
  node_is l = (_, decode_node pattern_room r (cells words) r l)

  -- A variable is no node.
  pub no_node : r < pattern_room → (i : ℕ) → (ts : Terms) × (term_of words r ≡ app i ts) → ⊥
  no_node l i h = var_app (denote_variable pattern_room (cells words) r l) h.1

  -- It is one of the symbol i where its header is.
  pub node_told : pattern_room ≤ r → (s i : ℕ) → s ≡ headerSymbol header → Tells (eqb s i) ((ts : Terms) × (term_of words r ≡ app i ts))
  node_told l s i e =
      let n = node_is l in
      record {
        yes = λ q. let p : headerSymbol header ≡ i = sym e ∙ eqb-true s i q in (n.0, n.1 ∙ ap (λ (f : ℕ). app f n.0) p);
        back = λ h. eq-eqb s i (e ∙ app_symbol n.1 h.1);
      }

  -- A reference is a node of the symbol i where it has that symbol.
  pub node_by : (o : Option ℕ) (i : ℕ) → NodeSymbol words r o → Tells (option_eq nat_eq o (Some i)) ((ts : Terms) × (term_of words r ≡ app i ts))
  node_by None i l = tells_no (λ h. no_node l i h)
  node_by (Some s) i h = node_told h.0 s i h.1

  module _ (symbols : List Symbol) where
    pub no_call : r < pattern_room → Calls symbols (term_of words r) → ⊥
    no_call l h = subst (Calls symbols) (denote_variable pattern_room (cells words) r l) h

    -- A node is a call where its symbol is a function.
    call_is : pattern_room ≤ r → Calls symbols (term_of words r) → (symbol_at symbols (headerSymbol header)).function ≡ 1
    call_is l h = subst (Calls symbols) (node_is l).1 h

    is_call : pattern_room ≤ r → (symbol_at symbols (headerSymbol header)).function ≡ 1 → Calls symbols (term_of words r)
    is_call l h = subst (Calls symbols) (sym (node_is l).1) h

-- A symbol's row

past_symbol : (symbols : List Symbol) (f : ℕ) → length symbols ≤ f → symbol_at symbols f ≡ no_symbol
past_symbol [] f l = refl
past_symbol (a ∷ symbols) zero l = absurd (omega arith)
past_symbol (a ∷ symbols) (suc f) l = past_symbol symbols f (omega arith)

module _ (text words : List ℕ) (r : ℕ) (rows : Rows) (m f : ℕ) (lent : m ≤ length rows) (node : pattern_room ≤ r) (e : f ≡ headerSymbol (get_or words (r - pattern_room) 0)) where
  -- A symbol that is not there is no function;
  pub past_call : m ≤ f → Calls (symbols_of text rows m) (term_of words r) → ⊥
  past_call l h =
      let n = symbols_length text rows m lent in
      let p : symbol_at (symbols_of text rows m) f ≡ no_symbol = past_symbol (symbols_of text rows m) f (omega arith) in
      let q : (symbol_at (symbols_of text rows m) f).function ≡ 1 = rw e (call_is words r (symbols_of text rows m) node h) in
      let z : ◌≡◌ {A = ℕ} 0 1 = sym (ap (λ (x : Symbol). x.function) p) ∙ q in
      omega arith

  -- any other is by its row's mark.
  pub call_told : f < m → Tells (eqb (column (row_at rows f) 3) 1) (Calls (symbols_of text rows m) (term_of words r))
  unfolding symbol_of
  call_told l =
      let a : (symbol_at (symbols_of text rows m) f).function ≡ column (row_at rows f) 3 = ap (λ (x : Symbol). x.function) (symbol_at_lem text rows m lent f l) in
      record {
        yes = λ q. is_call words r (symbols_of text rows m) node (let p : (symbol_at (symbols_of text rows m) f).function ≡ 1 = a ∙ eqb-true (column (row_at rows f) 3) 1 q in rw e at p);
        back = λ h. let p : (symbol_at (symbols_of text rows m) f).function ≡ 1 = rw e (call_is words r (symbols_of text rows m) node h) in
            eq-eqb (column (row_at rows f) 3) 1 (sym a ∙ p);
      }

  -- What is found in its place decides.
  pub call_by : (found : Option (Bor (List ℕ))) (b : Bool) → m ≡ length rows → is_some found ≡ nat_lt f (length rows) → IfSome found (λ x. x.now ≡ get_or rows f x.now)
      → MatchOption found (b ≡ false) (λ x. b ≡ eqb (column x.now 3) 1) → Tells b (Calls (symbols_of text rows m) (term_of words r))
  call_by None b all l is h = rw h (tells_no (past_call (let z : length rows ≤ f = ltb-false _ _ (sym l) in omega arith)))
  call_by (Some x) b all l is h =
      let z : f < length rows = ltb-true _ _ (sym l) in
      let q : x.now ≡ row_at rows f = is ∙ get_d_any rows f _ _ z in
      rw (h, q) (call_told (omega arith))

-- References denote calls where each does.
module _ (symbols : List Symbol) (g : ℕ → Term) where
  pub all_call : (rs : List ℕ) → ((i : ℕ) → i < length rs → Calls symbols (g (get_or rs i 0))) → Calls symbols (terms_of g rs)
  all_call [] h = tt
  all_call (r ∷ rs) h = (h 0 (omega arith), all_call rs (λ i l. h (suc i) (omega arith)))

  pub each_calls : (rs : List ℕ) → Calls symbols (terms_of g rs) → (i : ℕ) → i < length rs → Calls symbols (g (get_or rs i 0))
  each_calls [] h i l = absurd (omega arith)
  each_calls (r ∷ rs) h zero l = h.0
  each_calls (r ∷ rs) h (suc i) l = each_calls rs h.1 i (omega arith)
