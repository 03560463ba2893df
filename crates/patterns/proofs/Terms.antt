-- Laws of `pattern_of` and `stored`: one for each way out of `pattern` and `node`.
use mathlib.Core.Path.{◌≡◌, refl, sym, ap, ◌∙◌, subst}
use mathlib.Core.Bool.{true, ◌||◌}
use mathlib.Core.List.{List, [], ◌∷◌, ◌++◌, append-nil, append_assoc}
use Prim.Native.Nat.{ℕ, zero, suc, ◌+◌, ◌*◌, ◌-◌, ◌≤◌, ◌<◌, min}
use native.Mathlib.Numerals.{add-one}
use native.Mathlib.Omega.{arith}
use lib.ListN.{length, get_or, drop, take, set, length-set}
use Rattle.std.proofs.Common.{length-take, length-drop, get_or-take}
use lib.Seq.{sets, get_or-drop, length-take-le, take-suc-set}
use lib.Dec.{eqb}
use borrow.Author.Tests.{eq-eqb, ne_eqb, lt-ltb, le-ltb}
use Rattle.terms.specs.Numbers.{by_less, true_false}
use Rattle.terms.specs.Term.{Syn, Term, Terms, app, cons}
use Rattle.term_parser.specs.Source.{Arity, one, many}
use Rattle.term_parser.specs.Standing.{Written, number, meta, called, applied, nil as none, cons as more, size}
use Rattle.term_parser.specs.ListLaws.{no_arguments}
use Rattle.names.specs.Names.{Name, name_of, name_in}
use Rattle.names.specs.Symbols.{Rows, Symbol, Variable, column, row_at, symbol_of, symbols_of, variables_of, symbol_number, no_symbol, symbol_at}
use Rattle.names.specs.Standing.{Stands}
use Rattle.names.specs.SearchLaws.{columns_at, table_length, table_at, get_d_any}
use Rattle.patterns.specs.Patterns.{enter, kind_of, Out, bad, good, bind, counted, misfit, spent, unless, zero_name, succ_name, first, rest, chain, pattern_of}
use Rattle.patterns.specs.Laying.{Laid, laid, header, after, lay}
use Rattle.patterns.specs.LaidLaws.{after_none, no_yes}
use Rattle.patterns.specs.Promises.{no, yes, stored, node_of, Placed, LiesIn, MadePlaced, Compiled}
use Rattle.std.specs.Prelude.{Result, Ok, Err}
use Rattle.refusals.specs.declared.Refusal.{Refusal}
use Rattle.refusals.specs.Refusals.{number_of}
use Rattle.patterns.specs.declared.CompiledTerm.{CompiledTerm}
use Rattle.patterns.proofs.Places.{placed_kept, placed_more}

-- the symbols of a table
module _ (text : List ℕ) (rs : Rows) (n : ℕ) (h : n ≤ length rs) where
  pub symbols_length : length (symbols_of text rs n) ≡ n
  unfolding symbols_of
  symbols_length = table_length (symbol_of text) rs n h

  pub symbol_at_lem : (i : ℕ) → i < n → symbol_at (symbols_of text rs n) i ≡ symbol_of text (row_at rs i)
  unfolding symbols_of
  symbol_at_lem i l = get_d_any (symbols_of text rs n) i no_symbol (symbol_of text []) (rw (table_length (symbol_of text) rs n h) l) ∙ table_at (symbol_of text) rs n h i l

-- what `stored` tells
after_after : (a b : List ℕ) (l : Laid) → after a (after b l) ≡ after (a ++ b) l
after_after a b (laid rs w u) = ap (λ x. laid x w u) (sym (append_assoc a b rs))

pub stored_bad : {k : Arity} (acc : List ℕ) (o : Out k) (w : List ℕ) (u e : ℕ) → no e ≡ stored acc o w u → o ≡ bad e
stored_bad acc (bad f) w u e q = cc
stored_bad acc (good t vs n) w u e q = no_yes q

pub record Good {k : Arity} (o : Out k) (w : List ℕ) (u : ℕ) (l : Laid) (vs : List Variable) (n : ℕ) : Type 0 where
  pub it : Syn (kind_of k)
  pub is : o ≡ good it vs n
  pub lies : lay it w u ≡ l

pub stored_good : {k : Arity} (o : Out k) (w : List ℕ) (u : ℕ) (l : Laid) (vs : List Variable) (n : ℕ) → yes l vs n ≡ stored [] o w u → Good o w u l vs n
stored_good (bad f) w u l vs n q = no_yes (sym q)
stored_good (good t us m) w u l vs n q =
    let a : after [] (lay t w u) ≡ l = cc in
    record { it = t; is = cc; lies = sym (after_none (lay t w u)) ∙ a }

unless_bad : (e : ℕ) (f : ℕ → Out one) → (e ≡ 0 → ⊥) → unless e f ≡ bad e
unless_bad zero f h = absurd (h refl)
unless_bad (suc e) f h = refl

spent_some : (m : ℕ) (f : ℕ → Out one) → 0 < m → spent m f ≡ f (m - 1)
spent_some zero f h = absurd (omega arith)
spent_some (suc m) f h = let e : suc m - 1 ≡ m = omega arith in rw e

rest_drop : (l : List ℕ) (k : ℕ) → rest (drop k l) ≡ drop (k + 1) l
rest_drop l k = rw add-one (go l k)
  where
    go : (l : List ℕ) (k : ℕ) → rest (drop k l) ≡ drop (suc k) l
    go [] zero = refl
    go [] (suc k) = refl
    go (x ∷ l) zero = refl
    go (x ∷ l) (suc k) = go l k

first_drop : (l : List ℕ) (k : ℕ) → first (drop k l) ≡ get_or l k 0
first_drop l k = get_or-drop k l 0 0 ∙ (let e : k + 0 ≡ k = omega arith in rw e)

module _ (text : List ℕ) (sr : Rows) (n : ℕ) (hs : n ≤ length sr) (i : ℕ) (hi : i < n) (s : ℕ) (vs : List Variable) (m : ℕ) where
  -- node: the symbol does not fit
  pub node_misfit : {e k : ℕ} → e ≡ misfit (symbol_of text (row_at sr i)) s k → (e ≡ 0 → ⊥) → (ts : Written many) → size ts ≡ k → (w : List ℕ) (u : ℕ)
      → no e ≡ stored [] (node_of (symbols_of text sr n) i ts s vs m) w u
  unfolding node_of
  node_misfit {e} {k} q z ts c w u =
      let g : misfit (symbol_at (symbols_of text sr n) i) s (size ts) ≡ e = rw (symbol_at_lem text sr n hs i hi, c) (sym q) in
      rw (g, unless_bad e (λ _. spent m (λ r. bind (pattern_of (symbols_of text sr n) ts (symbol_at (symbols_of text sr n) i).inputs vs r) (λ us ws q. good (app i us) ws q))) z)

  module _ {e k : ℕ} (q : e ≡ misfit (symbol_of text (row_at sr i)) s k) (z : e ≡ 0) (ts : Written many) (c : size ts ≡ k) where
    fits : misfit (symbol_at (symbols_of text sr n) i) s (size ts) ≡ 0
    fits = rw (symbol_at_lem text sr n hs i hi, c) (sym q ∙ z)

    pub node_full : m ≡ 0 → (w : List ℕ) (u : ℕ) → no 28 ≡ stored [] (node_of (symbols_of text sr n) i ts s vs m) w u
    unfolding node_of
    node_full y w u = simp (fits, y)

    pub node_open : 0 < m → node_of (symbols_of text sr n) i ts s vs m
        ≡ bind (pattern_of (symbols_of text sr n) ts (symbol_at (symbols_of text sr n) i).inputs vs (m - 1)) (λ us ws q. good (app i us) ws q)
    unfolding node_of
    node_open l = rw fits (spent_some m (λ r. bind (pattern_of (symbols_of text sr n) ts (symbol_at (symbols_of text sr n) i).inputs vs r) (λ us ws q. good (app i us) ws q)) l)

  -- the sort of argument k
  pub input_at : (k : ℕ) → k < column (row_at sr i) 6 → first (drop k (symbol_at (symbols_of text sr n) i).inputs) ≡ column (row_at sr i) (8 + k)
  unfolding symbol_of
  input_at k l = first_drop (symbol_at (symbols_of text sr n) i).inputs k ∙ rw (symbol_at_lem text sr n hs i hi) (columns_at (row_at sr i) 8 (column (row_at sr i) 6) k l)

-- A part of a row from column 8 on, as the row lends it.
module _ (row : List ℕ) (a : ℕ) where
  pub part_long : 8 + a ≤ length row → length (take (8 + a - 8) (drop 8 row)) ≡ a
  part_long l = omega (arith, length-take (8 + a - 8) (drop 8 row), length-drop 8 row)

  pub part_at : (k : ℕ) → k < a → get_or (take (8 + a - 8) (drop 8 row)) k 0 ≡ column row (8 + k)
  part_at k l = get_or-take (8 + a - 8) (drop 8 row) k 0 (omega arith) ∙ get_or-drop 8 row k 0

lay_more : (t : Term) (us : Terms) (w : List ℕ) (u : ℕ) (l w₁ : List ℕ) (u₁ : ℕ) → lay t w u ≡ laid l w₁ u₁ → lay (cons t us) w u ≡ after l (lay us w₁ u₁)
unfolding lay
lay_more t us w u l w₁ u₁ e = rw e

-- the arguments, one by one
module _ (ss : List Symbol) (t : Written one) (ts : Written many) (is : List ℕ) (vs : List Variable) (m : ℕ) (acc w : List ℕ) (u : ℕ) where
  pub turn_refused : {e : ℕ} → no e ≡ stored [] (pattern_of ss t (first is ∷ []) vs m) w u → no e ≡ stored acc (pattern_of ss (more t ts) is vs m) w u
  unfolding pattern_of
  turn_refused q = simp (stored_bad [] (pattern_of ss t (first is ∷ []) vs m) w u _ q)

  pub turn : (r : ℕ) (w₁ : List ℕ) (u₁ : ℕ) (vs₁ : List Variable) (m₁ : ℕ) → yes (laid (r ∷ []) w₁ u₁) vs₁ m₁ ≡ stored [] (pattern_of ss t (first is ∷ []) vs m) w u
      → stored acc (pattern_of ss (more t ts) is vs m) w u ≡ stored (acc ++ (r ∷ [])) (pattern_of ss ts (rest is) vs₁ m₁) w₁ u₁
  unfolding pattern_of
  turn r w₁ u₁ vs₁ m₁ q = simp g.is (go (pattern_of ss ts (rest is) vs₁ m₁))
    where
      g : Good (pattern_of ss t (first is ∷ []) vs m) w u (laid (r ∷ []) w₁ u₁) vs₁ m₁
      g = stored_good (pattern_of ss t (first is ∷ []) vs m) w u (laid (r ∷ []) w₁ u₁) vs₁ m₁ q

      go : (o : Out many) → stored {n = many} acc (bind o (λ us xs p. good (cons g.it us) xs p)) w u ≡ stored (acc ++ (r ∷ [])) o w₁ u₁
      go (bad e) = refl
      go (good us xs p) = ap (λ l. yes l xs p) (ap (after acc) (lay_more g.it us w u (r ∷ []) w₁ u₁ g.lies) ∙ after_after acc (r ∷ []) (lay us w₁ u₁))

-- the whole node
module _ (o : Out many) (i : ℕ) (w : List ℕ) (u : ℕ) where
  pub app_refused : {e : ℕ} → no e ≡ stored [] o w u → no e ≡ stored {n = one} [] (bind o (λ us ws q. good (app i us) ws q)) w u
  app_refused q = rw (stored_bad [] o w u _ q)

  pub app_done : (rs w₁ : List ℕ) (u₁ : ℕ) (vs : List Variable) (m : ℕ) → yes (laid rs w₁ u₁) vs m ≡ stored [] o w u
      → yes (laid ((64 + u₁) ∷ []) (sets w₁ u₁ (header i (length rs) ∷ rs)) (u₁ + 1 + length rs)) vs m ≡ stored {n = one} [] (bind o (λ us ws q. good (app i us) ws q)) w u
  unfolding lay
  app_done rs w₁ u₁ vs m q =
      let g = stored_good o w u (laid rs w₁ u₁) vs m q in
      rw (g.is, g.lies)

pub node_done : (o : Out many) (i : ℕ) (w : List ℕ) (u : ℕ) (refs : List ℕ) (args : ℕ) (w₁ : List ℕ) (u₁ : ℕ) (vs : List Variable) (m : ℕ) (wx : List ℕ) → args ≤ length refs
    → wx ≡ sets w₁ u₁ (header i args ∷ take args refs) → yes (laid (take args refs) w₁ u₁) vs m ≡ stored [] o w u
    → yes (laid ((64 + u₁) ∷ []) wx (u₁ + 1 + args)) vs m ≡ stored {n = one} [] (bind o (λ us ws q. good (app i us) ws q)) w u
node_done o i w u refs args w₁ u₁ vs m wx l e q =
    let n : length (take args refs) ≡ args = length-take-le args refs l in
    let d : yes (laid ((64 + u₁) ∷ []) (sets w₁ u₁ (header i args ∷ take args refs)) (u₁ + 1 + args)) vs m ≡ stored {n = one} [] (bind o (λ us ws q. good (app i us) ws q)) w u
    = rw n at (app_done o i w u (take args refs) w₁ u₁ vs m q) in
    rw e d

-- the loop of `node`: k arguments are done
pub record Looped (text : List ℕ) (rs : Rows) (p₀ args : ℕ) (ss : List Symbol) (is : List ℕ) (vs₀ : Rows) (nv₀ : ℕ) (w₀ : List ℕ) (u₀ m₀ : ℕ)
    (k p : ℕ) (vs : Rows) (nv : ℕ) (w : List ℕ) (u m : ℕ) (refs : List ℕ) : Type 0 where
  pub few : k ≤ args
  pub from : p₀ ≤ p
  pub grown : nv₀ ≤ nv
  pub bound : nv ≤ 64
  pub kept_vars : length vs ≡ length vs₀
  pub kept_words : length w ≡ length w₀
  pub spent : u + 2 * m + k ≤ u₀ + 2 * m₀
  pub further : u₀ ≤ u
  pub long : args ≤ length refs
  pub placed : Placed (LiesIn rs p₀ p) vs₀ nv₀ vs nv
  pub same : (ts : Written many) (q : ℕ) → Stands text rs p₀ ts q → size ts ≡ args
      → (us : Written many) × Stands text rs p us q × (size us ≡ args - k) × (stored [] (pattern_of ss ts is (variables_of text vs₀ nv₀) m₀) w₀ u₀ ≡ stored (take k refs) (pattern_of ss us (drop k is) (variables_of text vs nv) m) w u)

abbrev pub inputs_at : List ℕ → Rows → ℕ → ℕ → List ℕ
inputs_at text sr n i = (symbol_at (symbols_of text sr n) i).inputs

pub loop_start : (text : List ℕ) (rs : Rows) (p args : ℕ) (ss : List Symbol) (is : List ℕ) (vs : Rows) (nv : ℕ) (w : List ℕ) (u m : ℕ) (refs : List ℕ) → nv ≤ 64 → args ≤ length refs
    → Looped text rs p args ss is vs nv w u m 0 p vs nv w u m refs
loop_start text rs p args ss is vs nv w u m refs a b = record {
  few = omega arith;
  from = omega arith;
  grown = omega arith;
  bound = a;
  kept_vars = refl;
  kept_words = refl;
  spent = omega arith;
  further = omega arith;
  long = b;
  placed = placed_kept _ vs nv;
  same = λ ts q st c. (ts, st, (let e : args - 0 ≡ args = omega arith in rw e c), refl);
}

module _ (text : List ℕ) (rs : Rows) (p₀ args : ℕ) (ss : List Symbol) (is : List ℕ) (vs₀ : Rows) (nv₀ : ℕ) (w₀ : List ℕ) (u₀ m₀ : ℕ)
    (k p : ℕ) (vs : Rows) (nv : ℕ) (w : List ℕ) (u m : ℕ) (refs : List ℕ)
    (L : Looped text rs p₀ args ss is vs₀ nv₀ w₀ u₀ m₀ k p vs nv w u m refs) where
  module _ (l : k < args) (want : ℕ) (sort_is : first (drop k is) ≡ want) (r : Result CompiledTerm Refusal) (vx : Rows) (wx : List ℕ)
      (C : Compiled text rs p ss want vs nv w u m r vx wx) where
    -- an argument is refused
    pub loop_refused : {e : Refusal} → r ≡ Err e → (ts : Written many) (q : ℕ) → Stands text rs p₀ ts q → size ts ≡ args
        → no (number_of e) ≡ stored [] (pattern_of ss ts is (variables_of text vs₀ nv₀) m₀) w₀ u₀
    unfolding Stands size
    loop_refused {e} f ts q st c = let x = L.same ts q st c in go x.0 x.1 x.2 x.3
      where
        go : (us : Written many) → Stands text rs p us q → size us ≡ args - k
            → stored [] (pattern_of ss ts is (variables_of text vs₀ nv₀) m₀) w₀ u₀ ≡ stored (take k refs) (pattern_of ss us (drop k is) (variables_of text vs nv) m) w u
            → no (number_of e) ≡ stored [] (pattern_of ss ts is (variables_of text vs₀ nv₀) m₀) w₀ u₀
        go none a d g = absurd (omega arith)
        go (more t us) a d g =
            let y = (C.same t a.0 a.1).1 in
            let z : no (number_of e) ≡ stored [] (pattern_of ss t (first (drop k is) ∷ []) (variables_of text vs nv) m) w u = rw sort_is (rw f at y) in
            turn_refused ss t us (drop k is) (variables_of text vs nv) m (take k refs) w u z ∙ sym g

    -- an argument is done
    module _ {made : CompiledTerm} (f : r ≡ Ok made) (kv : length vx ≡ length vs) (kw : length wx ≡ length w) where
      small : (p + 1 ≤ made.place.next) × (nv ≤ made.place.variables) × (made.place.variables ≤ 64) × (u ≤ made.place.used) × (made.place.used + 2 * made.place.room + 1 ≤ u + 2 * m)
      small = let y = C.small in rw f at y

      placed_argument : Placed (LiesIn rs p made.place.next) vs nv vx made.place.variables
      placed_argument = subst (λ (x : Result CompiledTerm Refusal). MadePlaced (LiesIn rs p) vs nv x vx) f C.placed

      pub loop_turn : Looped text rs p₀ args ss is vs₀ nv₀ w₀ u₀ m₀ (k + 1) made.place.next vx made.place.variables wx made.place.used made.place.room (set refs k made.node)
      unfolding Stands size
      loop_turn =
          let x0 = small in
          let y0 = L.few in let y1 = L.from in let y2 = L.grown in let y3 = L.spent in let y4 = L.long in let y5 = L.further in
          let inside : k < length refs = omega arith in
          record {
            few = omega arith;
            from = omega arith;
            grown = omega arith;
            bound = x0.2;
            kept_vars = kv ∙ L.kept_vars;
            kept_words = kw ∙ L.kept_words;
            spent = omega arith;
            further = omega arith;
            long = rw (length-set refs k made.node) y4;
            placed = placed_more rs y1 (omega arith) y2 L.placed placed_argument;
            same = λ ts q st c. let x = L.same ts q st c in go inside ts q x.0 x.1 x.2 x.3;
          }
        where
          go : k < length refs → (ts : Written many) (q : ℕ) (us : Written many) → Stands text rs p us q → size us ≡ args - k
              → stored [] (pattern_of ss ts is (variables_of text vs₀ nv₀) m₀) w₀ u₀ ≡ stored (take k refs) (pattern_of ss us (drop k is) (variables_of text vs nv) m) w u
              → (us : Written many) × Stands text rs made.place.next us q × (size us ≡ args - (k + 1))
              × (stored [] (pattern_of ss ts is (variables_of text vs₀ nv₀) m₀) w₀ u₀ ≡ stored (take (k + 1) (set refs k made.node)) (pattern_of ss us (drop (k + 1) is) (variables_of text vx made.place.variables) made.place.room) wx made.place.used)
          go h ts q none a d g = absurd (omega arith)
          go h ts q (more t us) a d g =
              let y = C.same t a.0 a.1 in
              let e : made.place.next ≡ a.0 = (let y2 = y.0 in rw f at y2) in
              let z : yes (laid (made.node ∷ []) wx made.place.used) (variables_of text vx made.place.variables) made.place.room ≡ stored [] (pattern_of ss t (first (drop k is) ∷ []) (variables_of text vs nv) m) w u = (let y3 = y.1 in rw sort_is (rw f at y3)) in
              let tk : take (k + 1) (set refs k made.node) ≡ take k refs ++ (made.node ∷ []) = rw add-one (take-suc-set refs k made.node h) in (
                us,
                rw e a.2,
                omega arith,
                rw (tk, ← rest_drop is k) (g ∙ turn ss t us (drop k is) (variables_of text vs nv) m (take k refs) w u made.node wx made.place.used (variables_of text vx made.place.variables) made.place.room z),
              )

  -- all arguments are done
  pub loop_done : args ≤ k → (ts : Written many) (q : ℕ) → Stands text rs p₀ ts q → size ts ≡ args
      → (p ≡ q) × (yes (laid (take args refs) w u) (variables_of text vs nv) m ≡ stored [] (pattern_of ss ts is (variables_of text vs₀ nv₀) m₀) w₀ u₀)
  unfolding Stands pattern_of lay
  loop_done l ts q st c =
      let x = L.same ts q st c in let y0 = L.few in
      let z : args - k ≡ 0 = omega arith in
      let ke : k ≡ args = omega arith in
      let e : x.0 ≡ none = no_arguments x.0 (x.2 ∙ z) in
      let a : Stands text rs p none q = (let y = x.1 in rw e at y) in
      let g : stored [] (pattern_of ss ts is (variables_of text vs₀ nv₀) m₀) w₀ u₀ ≡ yes (laid (take k refs ++ []) w u) (variables_of text vs nv) m = (let y = x.3 in rw e at y) in
      (sym a, rw (append-nil, ke) at (sym g))

pub nothing_asked : (k : ℕ) → first (drop k []) ≡ 0
nothing_asked zero = refl
nothing_asked (suc k) = refl

-- a numeral that the room cannot hold is refused alike, however large it is
chain_long : (ss : List Symbol) (y z : ℕ) (vs : List Variable) (m n n' s : ℕ) → m < n → m < n' → chain ss y z n s vs m ≡ chain ss y z n' s vs m
unfolding chain
chain_long ss y z vs m zero n' s a b = absurd (omega arith)
chain_long ss y z vs m (suc n) zero s a b = absurd (omega arith)
chain_long ss y z vs zero (suc n) (suc n') s a b = refl
chain_long ss y z vs (suc m) (suc n) (suc n') s a b = rw (chain_long ss y z vs m n n' (first (symbol_at ss y).inputs) (omega arith) (omega arith))

number_long : (ss : List Symbol) (n n' s : ℕ) (vs : List Variable) (m : ℕ) → m < n → m < n' → pattern_of ss (number n) (s ∷ []) vs m ≡ pattern_of ss (number n') (s ∷ []) vs m
unfolding pattern_of
number_long ss n n' s vs m a b = rw (chain_long ss (symbol_number ss succ_name) (symbol_number ss zero_name) vs m n n' s a b)

number_capped : (ss : List Symbol) (n s : ℕ) (vs : List Variable) (m : ℕ) → m < 4294967295
    → pattern_of ss (number (min n 4294967295)) (s ∷ []) vs m ≡ pattern_of ss (number n) (s ∷ []) vs m
number_capped ss n s vs m few =
    by_less n 4294967295
    (λ l e. let h : min n 4294967295 ≡ n = omega arith in rw h)
    (λ l e. let h : min n 4294967295 ≡ 4294967295 = omega arith in rw h (number_long ss 4294967295 n s vs m few (omega arith)))

-- the row of a term
module _ (text : List ℕ) (rs : Rows) (p : ℕ) where
  abbrev kind_at : ℕ
  kind_at = column (row_at rs p) 0

  pub out_of_rows : {P : Type 0} → length rs ≤ p → (t : Written one) (q : ℕ) → Stands text rs p t q → P
  unfolding Stands
  out_of_rows l (number n) q st = absurd (let a = st.0 in omega arith)
  out_of_rows l (meta w) q st = absurd (let a = st.0.within in omega arith)
  out_of_rows l (called w) q st = absurd (let a = st.0.within in omega arith)
  out_of_rows l (applied w ts) q st = absurd (let a = st.0.within in omega arith)

  -- A name's row is neither a numeral's, nor a metavariable's, nor an application's.
  name_kind_lem : {P : Type 0} (k : ℕ) → (eqb kind_at 12 || eqb kind_at 27) ≡ true → kind_at ≡ k → (k ≡ 12 → ⊥) → (k ≡ 27 → ⊥) → P
  name_kind_lem k h e a b = true_false h (rw (ne_eqb kind_at 12 (λ i. a (sym e ∙ i)), ne_eqb kind_at 27 (λ i. b (sym e ∙ i))) refl)

  module _ (ss : List Symbol) (s : ℕ) (vs : List Variable) (m : ℕ) (t : Written one) (q : ℕ) (st : Stands text rs p t q) where
    abbrev pub word_at : Name
    word_at = name_of text (column (row_at rs p) 0) (column (row_at rs p) 1) (column (row_at rs p) 2)

    pub is_numeral_lem : m < 4294967295 → kind_at ≡ 14 → (p + 1 ≡ q) × (pattern_of ss (number (column (row_at rs p) 3)) (s ∷ []) vs m ≡ pattern_of ss t (s ∷ []) vs m)
    unfolding Stands
    is_numeral_lem few k = go t st
      where
        go : (t : Written one) → Stands text rs p t q → (p + 1 ≡ q) × (pattern_of ss (number (column (row_at rs p) 3)) (s ∷ []) vs m ≡ pattern_of ss t (s ∷ []) vs m)
        go (number n) a = (sym a.3, ap (λ x. pattern_of ss (number x) (s ∷ []) vs m) a.2 ∙ number_capped ss n s vs m few)
        go (meta w) a = absurd (let b = a.1 in omega arith)
        go (called w) a = name_kind_lem 14 a.1 k (λ e. omega arith) (λ e. omega arith)
        go (applied w ts) a = absurd (let b = a.1 in omega arith)

    pub is_meta : kind_at ≡ 13 → (p + 1 ≡ q) × (counted (enter vs word_at s) m ≡ pattern_of ss t (s ∷ []) vs m)
    unfolding Stands pattern_of name_in
    is_meta k = go t st
      where
        go : (t : Written one) → Stands text rs p t q → (p + 1 ≡ q) × (counted (enter vs word_at s) m ≡ pattern_of ss t (s ∷ []) vs m)
        go (number n) a = absurd (let b = a.1 in omega arith)
        go (meta w) a = (sym a.2, rw (← a.0.spells))
        go (called w) a = name_kind_lem 13 a.1 k (λ e. omega arith) (λ e. omega arith)
        go (applied w ts) a = absurd (let b = a.1 in omega arith)

    module _ (i : ℕ) (e : i ≡ symbol_number ss word_at) (k₀ : kind_at ≡ 14 → ⊥) (k₁ : kind_at ≡ 13 → ⊥) where
      pub is_node : i < length ss → (ts : Written many) × Stands text rs (p + 1) ts q × (size ts ≡ column (row_at rs p) 3) × (node_of ss i ts s vs m ≡ pattern_of ss t (s ∷ []) vs m)
      unfolding Stands pattern_of node_of name_in size
      is_node l = go t st
        where
          go : (t : Written one) → Stands text rs p t q → (ts : Written many) × Stands text rs (p + 1) ts q × (size ts ≡ column (row_at rs p) 3) × (node_of ss i ts s vs m ≡ pattern_of ss t (s ∷ []) vs m)
          go (number n) a = absurd (k₀ a.1)
          go (meta w) a = absurd (k₁ a.1)
          go (called w) a = (none, a.2, sym a.0.counts, rw (← a.0.spells, ← e, lt-ltb i (length ss) l))
          go (applied w ts) a = (ts, a.2, sym a.0.counts, rw (← a.0.spells, ← e, lt-ltb i (length ss) l))

      module _ (l : length ss ≤ i) where
        pub is_unknown : kind_at ≡ 24 → bad 20 ≡ pattern_of ss t (s ∷ []) vs m
        unfolding Stands pattern_of name_in
        is_unknown k = go t st
          where
            go : (t : Written one) → Stands text rs p t q → bad 20 ≡ pattern_of ss t (s ∷ []) vs m
            go (number n) a = absurd (k₀ a.1)
            go (meta w) a = absurd (k₁ a.1)
            go (called w) a = name_kind_lem 24 a.1 k (λ e. omega arith) (λ e. omega arith)
            go (applied w ts) a = rw (← a.0.spells, ← e, le-ltb i (length ss) l)

        module _ (k₃ : kind_at ≡ 24 → ⊥) where
          pub is_judgment : s ≡ 0 → bad 19 ≡ pattern_of ss t (s ∷ []) vs m
          unfolding Stands pattern_of name_in
          is_judgment z = go t st
            where
              go : (t : Written one) → Stands text rs p t q → bad 19 ≡ pattern_of ss t (s ∷ []) vs m
              go (number n) a = absurd (k₀ a.1)
              go (meta w) a = absurd (k₁ a.1)
              go (called w) a = simp (← a.0.spells, ← e, le-ltb i (length ss) l, eq-eqb _ _ z)
              go (applied w ts) a = absurd (k₃ a.1)

          pub is_variable : (s ≡ 0 → ⊥) → (p + 1 ≡ q) × (counted (enter vs word_at s) m ≡ pattern_of ss t (s ∷ []) vs m)
          unfolding Stands pattern_of name_in
          is_variable z = go t st
            where
              go : (t : Written one) → Stands text rs p t q → (p + 1 ≡ q) × (counted (enter vs word_at s) m ≡ pattern_of ss t (s ∷ []) vs m)
              go (number n) a = absurd (k₀ a.1)
              go (meta w) a = absurd (k₁ a.1)
              go (called w) a = (sym a.2, simp (← a.0.spells, ← e, le-ltb i (length ss) l, ne_eqb s 0 z))
              go (applied w ts) a = absurd (k₃ a.1)
