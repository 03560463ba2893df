-- Flattening the arguments of a term one by one, and then the term: what the loop keeps, and what each way out owes.
use mathlib.Core.Path.{◌≡◌, refl, sym, ap, ◌∙◌}
use mathlib.Core.Bool.{Bool, true, false, cond}
use mathlib.Core.List.{List, []}
use Rattle.std.specs.Prelude.{Option, Some, None}
use Rattle.std.specs.Option.{is_some}
use Prim.Native.Nat.{ℕ, suc, ◌+◌, ◌*◌, ◌-◌, ◌≤◌, ◌<◌}
use native.Mathlib.Omega.{arith}
use lib.ListN.{length, set, length-set}
use lib.Seq.{get_or-set_same, get_or-set_other}
use borrow.Author.Tests.{eq-eqb, ne_eqb}
use Rattle.term_parser.specs.Source.{Arity, one, many}
use Rattle.term_parser.specs.Rows.{application_kind}
use Rattle.term_parser.specs.Standing as parsed
use Rattle.term_parser.specs.Standing.{Written, number as numeral, meta, called, applied, nil as none, cons as more, size}
use Rattle.term_parser.specs.ListLaws.{no_arguments}
use Rattle.names.specs.Names.{Name, result_name}
use Rattle.names.specs.Symbols.{Rows, column, row_at, Symbol, symbols_of}
use Rattle.names.specs.RowNames.{kind_at, name_at}
use Rattle.names.specs.Standing.{Stands, parsed_stands}
use Rattle.flattening.specs.Flattening.{snoc, is_function, Flat, flat, resulted, calling, paired, and_flat, flatten_of}
use Rattle.flattening.specs.Promises.{call_limit, arity_of, is_call, callee_of, premise_count, Finishes, Room, FlatAs, FlatRows, TooMany, Flattens}
use Rattle.flattening.specs.declared.Place.{Place}
use Rattle.flattening.proofs.SymbolLaws.{call_of_lem, is_call_kind, is_callee}
use Rattle.flattening.proofs.RowLaws.{forward, moved, stands_snoc, size_snoc}

-- Lists of flattened terms.
abbrev join : Written many → Written many → Written many
join none vs = vs
join (more u us) vs = more u (join us vs)

abbrev pub joined : Written many → Flat many → Flat many
joined us (flat vs qs) = flat (join us vs) qs

join_snoc : (us : Written many) (t : Written one) (vs : Written many) → join us (more t vs) ≡ join (snoc us t) vs
join_snoc none t vs = refl
join_snoc (more u us) t vs = ap (more u) (join_snoc us t vs)

join_none : (us : Written many) → join us none ≡ us
join_none none = refl
join_none (more u us) = ap (more u) (join_none us)

joined_snoc : (us : Written many) (t : Written one) (f : Flat many) → joined us (paired t f) ≡ joined (snoc us t) f
joined_snoc us t (flat vs qs) = ap (λ x. flat x qs) (join_snoc us t vs)

joined_first : (f : Flat many) → joined none f ≡ f
joined_first (flat vs qs) = refl

joined_count : (us : Written many) (f : Flat many) → premise_count (joined us f) ≡ premise_count f
joined_count us (flat vs qs) = refl

-- Premises are never taken away.
calling_grows : (b : Bool) (w : Name) (f : Flat many) → premise_count f ≤ premise_count (calling b w f)
calling_grows true w (flat us ps) = let k = size_snoc ps (applied w (snoc us (called (result_name (suc (size ps)))))) in omega arith
calling_grows false w (flat us ps) = omega arith

paired_count : (u : Written one) (f : Flat many) → premise_count (paired u f) ≡ premise_count f
paired_count u (flat vs qs) = refl

pub grows : {n : Arity} (symbols : List Symbol) (t : Written n) (ps : Written many) → size ps ≤ premise_count (flatten_of symbols t ps)
unfolding flatten_of
grows symbols (numeral v) ps = omega arith
grows symbols (meta w) ps = omega arith
grows symbols (called w) ps = go (is_function symbols w)
  where
    go : (b : Bool) → size ps ≤ premise_count (cond b (resulted w none ps) (flat (called w) ps))
    go true = let k = size_snoc ps (applied w (snoc none (called (result_name (suc (size ps)))))) in omega arith
    go false = omega arith
grows symbols (applied w ts) ps = let a = grows symbols ts ps in let b = calling_grows (is_function symbols w) w (flatten_of symbols ts ps) in omega arith
grows symbols none ps = omega arith
grows symbols (more t ts) ps = go (flatten_of symbols t ps) (grows symbols t ps) (λ qs. grows symbols ts qs)
  where
    go : (f : Flat one) → size ps ≤ premise_count f → ((qs : Written many) → size qs ≤ premise_count (flatten_of symbols ts qs)) → size ps ≤ premise_count (and_flat f (λ u qs. paired u (flatten_of symbols ts qs)))
    go (flat u qs) a next = let b = next qs in let d = paired_count u (flatten_of symbols ts qs) in omega arith

first_grows : (symbols : List Symbol) (f : Flat one) (vs : Written many) → premise_count f ≤ premise_count (and_flat f (λ u qs. paired u (flatten_of symbols vs qs)))
first_grows symbols (flat u qs) vs = let a = grows symbols vs qs in let b = paired_count u (flatten_of symbols vs qs) in omega arith

-- Of the arguments ts, the first i are flattened to us, vs are left, and qs are the premises so far.
pub record Arguments (text : List ℕ) (rows : Rows) (symbols : List Symbol) (ts ps : Written many) (q n i row : ℕ) (out : Rows) (first last : ℕ) (calls : Rows) (stop made : ℕ) : Type 0 where
  pub us : Written many
  pub vs : Written many
  pub qs : Written many
  pub is : flatten_of symbols ts ps ≡ joined us (flatten_of symbols vs qs)
  pub left : parsed.Stands text rows row vs q
  pub rest : size vs ≡ n - i
  pub done : Stands text out first us last
  pub sized : size us ≡ i
  pub stand : Stands text calls 0 qs stop
  pub numbered : size qs ≡ made

-- What the loop keeps: `out₀` and `calls₀` are the rows at its start.
pub record Invariant (text : List ℕ) (rows : Rows) (at : ℕ) (symbols : List Symbol) (n : ℕ) (out₀ : Rows) (top : ℕ) (calls₀ : Rows) (end number : ℕ) (out calls : Rows) (i row last stop made : ℕ) : Type 0 where
  pub few : i ≤ n
  pub onward : at + 1 + i ≤ row
  pub within : row ≤ length rows
  pub written : top < last
  pub term_size : last ≤ top + (row - at)
  pub premises_size : stop + last ≤ end + top + (row - at) + 2 * (made - number)
  pub rising : number ≤ made
  pub allowed : made ≤ call_limit
  pub out_kept : length out ≡ length out₀
  pub calls_kept : length calls ≡ length calls₀
  pub below : (k : ℕ) → k < top + 1 → row_at out k ≡ row_at out₀ k
  pub same : (ts : Written many) (q : ℕ) (ps : Written many) → parsed.Stands text rows (at + 1) ts q → size ts ≡ n → Stands text calls₀ 0 ps end → size ps ≡ number
      → Arguments text rows symbols ts ps q n i row out (top + 1) last calls stop made

abbrev pub Counted : Rows → ℕ → ℕ → Type 0
Counted rows at n = n ≡ arity_of (kind_at rows at) (column (row_at rows at) 3)

-- No term stands past the last row.
pub past_rows : (text : List ℕ) (rows : Rows) (at : ℕ) (symbols : List Symbol) (calls : Rows) (end number : ℕ) → length rows ≤ at → TooMany text rows at symbols calls end number
unfolding parsed.Stands
past_rows text rows at symbols calls end number l (numeral v) q ps st sp cp = absurd (omega arith)
past_rows text rows at symbols calls end number l (meta w) q ps st sp cp = absurd (omega arith)
past_rows text rows at symbols calls end number l (called w) q ps st sp cp = absurd (omega arith)
past_rows text rows at symbols calls end number l (applied w ts) q ps st sp cp = absurd (omega arith)

-- The term's row is copied, and no argument is flattened yet.
module _ (text : List ℕ) {rows : Rows} {at : ℕ} {symbol_rows : Rows} {count : ℕ} {out : Rows} {top : ℕ} {calls : Rows} {end number : ℕ}
    (room : Room rows at symbol_rows count out top calls end number) (there : at < length rows) (n : ℕ) where
  pub loop_start : Invariant text rows at (symbols_of text symbol_rows count) n (set out top (row_at rows at)) top calls end number (set out top (row_at rows at)) calls 0 (at + 1) (top + 1) end number
  unfolding Stands size
  loop_start =
      record {
        few = omega arith;
        onward = omega arith;
        within = omega arith;
        written = omega arith;
        term_size = omega arith;
        premises_size = omega arith;
        rising = omega arith;
        allowed = room.few;
        out_kept = refl;
        calls_kept = refl;
        below = λ k l. refl;
        same = λ ts q ps st cn sp cp.
            record {
              us = none;
              vs = ts;
              qs = ps;
              is = sym (joined_first (flatten_of (symbols_of text symbol_rows count) ts ps));
              left = st;
              rest = (let e : n - 0 ≡ n = omega arith in rw e cn);
              done = refl;
              sized = refl;
              stand = sp;
              numbered = cp;
            };
      }

-- In the loop.
module _ {text : List ℕ} {rows : Rows} {at : ℕ} {symbol_rows : Rows} {count n : ℕ} {out₀ : Rows} {top : ℕ} {calls₀ : Rows} {end number : ℕ} {out calls : Rows} {i row last stop made : ℕ}
    (room : Room rows at symbol_rows count out₀ top calls₀ end number) (there : at < length rows) (counted : Counted rows at n)
    (inv : Invariant text rows at (symbols_of text symbol_rows count) n (set out₀ top (row_at rows at)) top calls₀ end number out calls i row last stop made) where
  abbrev symbols : List Symbol
  symbols = symbols_of text symbol_rows count

  pub out_long : length out ≡ length out₀
  out_long = inv.out_kept ∙ length-set out₀ top (row_at rows at)

  -- The room for the next argument.
  pub argument_room : i < n → Room rows row symbol_rows count out last calls stop made
  argument_room l =
      let a = out_long in
      record { counted = room.counted; few = inv.allowed; small = room.small; term_fits = omega arith; premises_fit = omega arith }

  -- A 17th call in an argument.
  arguments_over : i < n → TooMany text rows row symbols calls stop made → (ts : Written many) (q : ℕ) (ps : Written many) → parsed.Stands text rows (at + 1) ts q → size ts ≡ n
      → Stands text calls₀ 0 ps end → size ps ≡ number → call_limit < premise_count (flatten_of symbols ts ps)
  unfolding parsed.Stands size flatten_of
  arguments_over l f ts q ps st cn sp cp = let x = inv.same ts q ps st cn sp cp in rw x.is (go x.us x.vs x.qs x.left x.rest x.stand x.numbered)
    where
      go : (us vs qs : Written many) → parsed.Stands text rows row vs q → size vs ≡ n - i → Stands text calls 0 qs stop → size qs ≡ made → call_limit < premise_count (joined us (flatten_of symbols vs qs))
      go us none qs a c d e = absurd (omega arith)
      go us (more t vs) qs a c d e =
          let y = f t a.0 qs a.1 d e in
          let z = first_grows symbols (flatten_of symbols t qs) vs in
          let j = joined_count us (and_flat (flatten_of symbols t qs) (λ u qs. paired u (flatten_of symbols vs qs))) in
          omega arith

  plain_arity : (kind_at rows at ≡ application_kind → ⊥) → n ≡ 0
  plain_arity h = counted ∙ simp (ne_eqb (kind_at rows at) application_kind h)

  applied_arity : kind_at rows at ≡ application_kind → n ≡ column (row_at rows at) 3
  applied_arity h = counted ∙ simp (eq-eqb (kind_at rows at) application_kind h)

  pub turn_over : i < n → TooMany text rows row symbols calls stop made → TooMany text rows at symbols calls₀ end number
  unfolding parsed.Stands flatten_of
  turn_over l f (numeral v) q ps st sp cp = let z = plain_arity (λ y. omega arith) in absurd (omega arith)
  turn_over l f (meta w) q ps st sp cp = let z = plain_arity (λ y. omega arith) in absurd (omega arith)
  turn_over l f (called w) q ps st sp cp = let z = plain_arity (λ y. omega arith) in absurd (omega arith)
  turn_over l f (applied w ts) q ps st sp cp =
      let y = arguments_over l f ts q ps st.1 (sym st.0.counts ∙ sym (applied_arity st.0.kinded)) sp cp in
      let g = calling_grows (is_function symbols w) w (flatten_of symbols ts ps) in
      omega arith

  -- An argument is flattened.
  pub turn : i < n → {out' calls' : Rows} {next t e m : ℕ} → FlatRows text rows row symbols out last calls stop made out' calls' next t e m
      → Invariant text rows at symbols n (set out₀ top (row_at rows at)) top calls₀ end number out' calls' (i + 1) next t e m
  unfolding parsed.Stands size flatten_of
  turn l {out'} {calls'} {next} {t} {e} {m} d =
      let fits : last ≤ length out' = (let o = out_long in omega arith) in
      record {
        few = omega arith;
        onward = omega arith;
        within = d.within;
        written = omega arith;
        term_size = omega (arith, inv.term_size, d.term_size, inv.onward, d.onward);
        premises_size = omega (arith, inv.premises_size, d.premises_size, inv.rising, d.rising, inv.onward, d.onward);
        rising = omega arith;
        allowed = d.allowed;
        out_kept = d.out_kept ∙ inv.out_kept;
        calls_kept = d.calls_kept ∙ inv.calls_kept;
        below = λ k j. d.below k (omega arith) ∙ inv.below k j;
        same = λ ts q ps st cn sp cp. let x = inv.same ts q ps st cn sp cp in go fits ts q ps x.us x.vs x.qs x.is x.left x.rest x.done x.sized x.stand x.numbered;
      }
    where
      go : last ≤ length out' → (ts : Written many) (q : ℕ) (ps us vs qs : Written many) → flatten_of symbols ts ps ≡ joined us (flatten_of symbols vs qs) → parsed.Stands text rows row vs q → size vs ≡ n - i
          → Stands text out (top + 1) us last → size us ≡ i → Stands text calls 0 qs stop → size qs ≡ made → Arguments text rows symbols ts ps q n (i + 1) next out' (top + 1) t calls' e m
      go fits ts q ps us none qs is left rest done sized stand numbered = absurd (omega arith)
      go fits ts q ps us (more u vs) qs is left rest done sized stand numbered =
          let y = d.flattens u left.0 qs left.1 stand numbered in
          let z = y.1 in
          let fw = forward text out us (top + 1) last done in
          record {
            us = snoc us z.term;
            vs = vs;
            qs = z.premises;
            is = is ∙ rw z.is (joined_snoc us z.term (flatten_of symbols vs z.premises));
            left = rw y.0 left.2;
            rest = omega arith;
            done = stands_snoc text out' us z.term (top + 1) last t (moved text out out' us (top + 1) (top + 1) last last done (λ k j. d.below (top + 1 + k) (omega arith)) (omega arith) fits) z.stands;
            sized = (let k = size_snoc us z.term in omega arith);
            stand = z.stand;
            numbered = z.numbered;
          }

  -- All arguments are flattened.
  record AllFlat (ts ps : Written many) (q : ℕ) : Type 0 where
    pub us : Written many
    pub qs : Written many
    pub is : flatten_of symbols ts ps ≡ flat us qs
    pub ends : row ≡ q
    pub done : Stands text out (top + 1) us last
    pub sized : size us ≡ n
    pub stand : Stands text calls 0 qs stop
    pub numbered : size qs ≡ made

  module _ (over : n ≤ i) where
    all_flat : (ts : Written many) (q : ℕ) (ps : Written many) → parsed.Stands text rows (at + 1) ts q → size ts ≡ n → Stands text calls₀ 0 ps end → size ps ≡ number → AllFlat ts ps q
    unfolding parsed.Stands size flatten_of
    all_flat ts q ps st cn sp cp =
        let x = inv.same ts q ps st cn sp cp in
        go (omega arith) x.us x.vs x.qs x.is x.left x.rest x.done x.sized x.stand x.numbered
      where
        go : i ≡ n → (us vs qs : Written many) → flatten_of symbols ts ps ≡ joined us (flatten_of symbols vs qs) → parsed.Stands text rows row vs q → size vs ≡ n - i
            → Stands text out (top + 1) us last → size us ≡ i → Stands text calls 0 qs stop → size qs ≡ made → AllFlat ts ps q
        go e us none qs is left rest done sized stand numbered =
            record { us = us; qs = qs; is = is ∙ ap (λ x. flat x qs) (join_none us); ends = sym left; done = done; sized = sized ∙ e; stand = stand; numbered = numbered }
        go e us (more v vs) qs is left rest done sized stand numbered = absurd (omega arith)

    first_row : row_at out top ≡ row_at rows at
    first_row = inv.below top (omega arith) ∙ get_or-set_same out₀ top (row_at rows at) [] (omega arith)

    -- A term without arguments that is no call.
    leaf : (t : Written one) (q : ℕ) (ps : Written many) → parsed.Stands text rows at t q → q ≡ at + 1 → n ≡ 0 → flatten_of symbols t ps ≡ flat t ps → Stands text calls₀ 0 ps end → size ps ≡ number
        → (row ≡ q) × FlatAs text (flatten_of symbols t ps) out top last calls stop made
    unfolding parsed.Stands Stands size flatten_of
    leaf t q ps st qe ne fe sp cp =
        let a = all_flat none q ps qe (sym ne) sp cp in
        let un : a.us ≡ none = no_arguments a.us (a.sized ∙ ne) in
        let le : last ≡ top + 1 = (let y = a.done in rw un at y) in
        let qs : a.qs ≡ ps = (let y = a.is in cc) in
        let o = out_long in (
          a.ends,
          record {
            term = t;
            premises = ps;
            is = fe;
            stands = moved text rows out t at top q last (parsed_stands text rows at t q st)
                (λ k j. let z : k ≡ 0 = omega arith in let z1 : top + 0 ≡ top = omega arith in let z2 : at + 0 ≡ at = omega arith in rw (z, z1, z2) first_row) (omega arith) (omega arith);
            stand = (let y = a.stand in rw qs at y);
            numbered = (let y = a.numbered in rw qs at y);
          },
        )

    plain : is_call symbols (kind_at rows at) (name_at text rows at) ≡ false → (t : Written one) (q : ℕ) (ps : Written many) → parsed.Stands text rows at t q → Stands text calls₀ 0 ps end → size ps ≡ number
        → (row ≡ q) × FlatAs text (flatten_of symbols t ps) out top last calls stop made
    unfolding parsed.Stands Stands flatten_of
    plain other (numeral v) q ps st sp cp = leaf (numeral v) q ps st st.3 (plain_arity (λ y. omega arith)) refl sp cp
    plain other (meta w) q ps st sp cp = let k = st.0.kinded in leaf (meta w) q ps st st.1 (plain_arity (λ y. omega arith)) refl sp cp
    plain other (called w) q ps st sp cp =
        let k = st.0.kinded in
        let f : is_function symbols w ≡ false = rw st.0.spells at (sym (call_of_lem symbols (kind_at rows at) (name_at text rows at) (λ y. omega arith) (λ y. omega arith)) ∙ other) in
        leaf (called w) q ps st st.1 (plain_arity (λ y. omega arith)) (rw f) sp cp
    plain other (applied w ts) q ps st sp cp =
        let k = st.0.kinded in
        let f : is_function symbols w ≡ false = rw st.0.spells at (sym (call_of_lem symbols (kind_at rows at) (name_at text rows at) (λ y. omega arith) (λ y. omega arith)) ∙ other) in
        let a = all_flat ts q ps st.1 (sym st.0.counts ∙ sym (applied_arity k)) sp cp in
        let h = parsed_stands text rows at (applied w ts) q st in
        let o = out_long in (
          a.ends,
          record {
            term = applied w a.us;
            premises = a.qs;
            is = rw (f, a.is);
            stands = (
              record { within = omega arith; spells = rw first_row h.0.spells; counts = rw first_row (sym (applied_arity k) ∙ sym a.sized) },
              rw first_row k,
              a.done,
            );
            stand = a.stand;
            numbered = a.numbered;
          },
        )

    below_top : (k : ℕ) → k < top → row_at out k ≡ row_at out₀ k
    below_top k l = inv.below k (omega arith) ∙ get_or-set_other out₀ top k (row_at rows at) [] (λ q. omega arith)

    pub end_plain : {o : Option ℕ} → o ≡ callee_of symbols (kind_at rows at) (name_at text rows at) → is_some o ≡ false → FlatRows text rows at symbols out₀ top calls₀ end number out calls row last stop made
    end_plain e f =
        let other = sym (is_callee symbols (kind_at rows at) (name_at text rows at) e) ∙ f in
        record {
          onward = omega arith;
          within = inv.within;
          written = inv.written;
          term_size = inv.term_size;
          premises_size = inv.premises_size;
          rising = inv.rising;
          allowed = inv.allowed;
          out_kept = out_long;
          calls_kept = inv.calls_kept;
          below = below_top;
          flattens = plain other;
        }

    -- A call: the term is its result variable, and it is one premise more.
    record Call (t : Written one) (ps : Written many) (q : ℕ) : Type 0 where
      pub us : Written many
      pub qs : Written many
      pub is : flatten_of symbols t ps ≡ resulted (name_at text rows at) us qs
      pub ends : row ≡ q
      pub done : Stands text out (top + 1) us last
      pub sized : size us ≡ n
      pub stand : Stands text calls 0 qs stop
      pub numbered : size qs ≡ made

    call_is : is_call symbols (kind_at rows at) (name_at text rows at) ≡ true → (t : Written one) (q : ℕ) (ps : Written many) → parsed.Stands text rows at t q → Stands text calls₀ 0 ps end → size ps ≡ number → Call t ps q
    unfolding parsed.Stands size flatten_of
    call_is called-here (numeral v) q ps st sp cp = absurd ((is_call_kind symbols (kind_at rows at) (name_at text rows at) called-here).1 st.1)
    call_is called-here (meta w) q ps st sp cp = absurd ((is_call_kind symbols (kind_at rows at) (name_at text rows at) called-here).0 st.0.kinded)
    call_is called-here (called w) q ps st sp cp =
        let k = st.0.kinded in
        let f : is_function symbols w ≡ true = rw st.0.spells at (sym (call_of_lem symbols (kind_at rows at) (name_at text rows at) (λ y. omega arith) (λ y. omega arith)) ∙ called-here) in
        let a = all_flat none q ps st.1 (sym (plain_arity (λ y. omega arith))) sp cp in
        let us : none ≡ a.us = (let y = a.is in cc) in
        let qs : ps ≡ a.qs = (let y = a.is in cc) in
        record { us = a.us; qs = a.qs; is = rw (f, st.0.spells, ← us, ← qs); ends = a.ends; done = a.done; sized = a.sized; stand = a.stand; numbered = a.numbered }
    call_is called-here (applied w ts) q ps st sp cp =
        let k = st.0.kinded in
        let f : is_function symbols w ≡ true = rw st.0.spells at (sym (call_of_lem symbols (kind_at rows at) (name_at text rows at) (λ y. omega arith) (λ y. omega arith)) ∙ called-here) in
        let a = all_flat ts q ps st.1 (sym st.0.counts ∙ sym (applied_arity k)) sp cp in
        record { us = a.us; qs = a.qs; is = rw (f, a.is, st.0.spells); ends = a.ends; done = a.done; sized = a.sized; stand = a.stand; numbered = a.numbered }

    call_over : {t : Written one} {ps : Written many} {q : ℕ} → Call t ps q → made ≡ call_limit → call_limit < premise_count (flatten_of symbols t ps)
    call_over a e =
        let k = size_snoc a.qs (applied (name_at text rows at) (snoc a.us (called (result_name (suc (size a.qs)))))) in
        let c = a.numbered in
        rw a.is (omega arith)

    -- What `finish` asks.
    pub finish_room : (top < last) × (last ≤ length out) × (stop + last + 2 * (call_limit - made) ≤ length calls) × (made ≤ call_limit) × (n ≤ 65536)
    finish_room =
        let a = out_long in
        (inv.written, omega arith, omega arith, inv.allowed, omega arith)

    -- What `finish` answers is right.
    pub end_call : {o : Option ℕ} → o ≡ callee_of symbols (kind_at rows at) (name_at text rows at) → is_some o ≡ true → (out' calls' : Rows) (r : Option Place) → length out' ≡ length out → length calls' ≡ length calls
        → Finishes out top last calls stop made (column (row_at rows at) 1) (column (row_at rows at) 2) n row out' calls' r → Flattens text rows at symbols out₀ top calls₀ end number out' calls' r
    end_call e h out' calls' None lo lc f = λ t q ps st sp cp. call_over (call_is (sym (is_callee symbols (kind_at rows at) (name_at text rows at) e) ∙ h) t q ps st sp cp) f
    end_call e h out' calls' (Some p) lo lc f =
        let called-here = sym (is_callee symbols (kind_at rows at) (name_at text rows at) e) ∙ h in
        let f0 = f.next_same in
        let f1 = f.one_row in
        record {
          onward = omega arith;
          within = omega arith;
          written = omega arith;
          term_size = omega arith;
          premises_size = omega (arith, inv.premises_size, inv.rising, inv.written, f.appended, f.one_row, f.one_more);
          rising = omega arith;
          allowed = omega arith;
          out_kept = lo ∙ out_long;
          calls_kept = lc ∙ inv.calls_kept;
          below = λ k l. f.below k l ∙ below_top k l;
          flattens = λ u q ps st sp cp.
              let a = call_is called-here u q ps st sp cp in
              let y = f.stand text a.qs a.us a.stand a.numbered a.done a.sized in
              let p : Written one = applied (name_at text rows at) (snoc a.us (called (result_name (suc made)))) in
              let k = size_snoc a.qs p in
              let c = a.numbered in (
                f0 ∙ a.ends,
                record {
                  term = called (result_name (suc made));
                  premises = snoc a.qs p;
                  is = a.is ∙ rw a.numbered;
                  stands = rw f1 y.0;
                  stand = y.1;
                  numbered = omega arith;
                },
              );
        }
