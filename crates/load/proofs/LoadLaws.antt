-- Laws of a whole text: what the parser's answer says, and what is left of the text then.
use Prim.Native.Nat.{ℕ, ◌+◌, ◌-◌, ◌*◌, ◌/◌, ◌≤◌}
use native.Mathlib.Omega.{arith}
use mathlib.Core.Path.{◌≡◌, refl, sym, ap, ap₂, ◌∙◌, subst}
use mathlib.Core.Bool.{false}
use mathlib.Core.List.{List, ◌++◌}
use lib.ListN.{length, take, replicate, length-map}
use lib.Seq.{take_at, length-take-le}
use borrow.Author.Tests.{le-ltb}
use Rattle.words.specs.Lexer.{capped_of, lex_of, zero_row}
use Rattle.words.specs.Tokens.{Reading}
use Rattle.words.specs.Tokens.Reading.{tokens, refused as unread}
use Rattle.words.specs.declared.Limits.{Limits}
use Rattle.term_parser.specs.Parsing.{Parsed, parsed, absent, refused as barred}
use Rattle.term_parser.specs.Rows.{rows_of_all}
use Rattle.std.specs.Prelude.{Err}
use Rattle.refusals.specs.declared.Refusal.{Refusal}
use Rattle.refusals.specs.declared.Rejection.{Rejection}
use Rattle.parser.specs.Declarations.{Declared, parse_of}
use Rattle.parser.specs.Rows.{declared_rows}
use Rattle.parser.specs.Parser.{Answer, counted, answer_of, rows_after, short_for, used_of, parsed_text, text_of, ParsingText}
use Rattle.parser.specs.declared.Parsed.{Parsed as Counted}
use Rattle.names.specs.Symbols.{Rows}
use Rattle.loader.specs.Signature.{Signature, Loaded, refused, loaded, load_of}
use Rattle.loader.specs.PlaceLaws.{TitlesInside, titles_inside}
use Rattle.loader.specs.Stored.{titles_of, sort_row, words_from}
use Rattle.loader.specs.StoredLaws.{padded_is}
use Rattle.declarations.specs.declared.State.{State}
use Rattle.declarations.proofs.NameLaws.{sorts_number, symbols_number}
use Rattle.load.specs.Load.{Loading, declared_in, of_parsed, load_text, evals_from}
use Rattle.load_storage.specs.Storage.{Buffers, zero_pair, zero_symbol, zero_rule, wiped}
use Rattle.load.specs.Loading.{LoadedInto, Left}
use Rattle.load.specs.Clearing.{RowsAsked, RowsKept, RowsLeft}
use Rattle.load_storage.proofs.ShortLaws.{Enough}
use Rattle.load_storage.proofs.WipeLaws.{buffers, SameLengths, wiped_same}
use Rattle.load.proofs.ListedLaws.{held_rules, held_listed}

-- What the parser answers where its buffers are long enough.
pub record Answered (text : List ℕ) (limits : Limits) (rows : Rows) (r : Answer) (rows' : Rows) : Type 0 where
  pub is : r ≡ answer_of (text_of text limits)
  pub rows_are : rows' ≡ rows_after (length rows) (text_of text limits)
  pub fits : used_of r ≤ (capped_of limits).text

pub answered : {text : List ℕ} {limits : Limits} {ts rows : Rows} {r : Answer} {ts' rows' : Rows} → ParsingText text limits ts rows r ts' rows' → (capped_of limits).text ≤ length ts
    → (capped_of limits).text ≤ length rows → Answered text limits rows r rows'
answered {text} {limits} {ts} {rows} {r} {ts'} {rows'} h a b =
    let s : short_for limits ts rows ≡ false = rw (le-ltb (length ts) (capped_of limits).text a, le-ltb (length rows) (capped_of limits).text b) refl in
    record { is = rw s at h.answer; rows_are = rw s at h.rows; fits = h.fits }

-- A text that the parser refuses.
pub parse_refused : {j : Rejection} (P : Parsed (List Declared)) → Err j ≡ answer_of P → P ≡ barred j.refusal j.line
parse_refused (parsed ds n) e = absurd (let z : ◌≡◌ {A = ℕ} 0 1 = cc in omega arith)
parse_refused absent e = absurd (let z : ◌≡◌ {A = ℕ} 0 1 = cc in omega arith)
parse_refused {j} (barred r l) e =
    let y : ◌≡◌ {A = Rejection} j (record { refusal = r; line = l }) = cc in
    ap₂ (λ (a : Refusal) (b : ℕ). barred a b) (sym (ap (λ (x : Rejection). x.refusal) y)) (sym (ap (λ (x : Rejection). x.line) y))

-- A text that it accepts: its declarations.
pub record Accepted (text : List ℕ) (limit : ℕ) (P : Parsed (List Declared)) (n used : ℕ) : Type 0 where
  pub whole : of_parsed text limit P ≡ load_of limit text (declared_in P)
  pub number : n ≡ length (declared_in P)
  pub long : used ≡ length (rows_of_all declared_rows (declared_in P))
  pub rows : (m : ℕ) → rows_after m P ≡ rows_of_all declared_rows (declared_in P) ++ replicate (m - length (rows_of_all declared_rows (declared_in P))) zero_row

pub parse_accepted : (text : List ℕ) (limit n used : ℕ) (P : Parsed (List Declared)) → counted n used ≡ answer_of P → Accepted text limit P n used
unfolding rows_of_all
parse_accepted text limit n used (parsed ds m) e =
    let y : ◌≡◌ {A = Counted} (record { declarations = n; rows = used }) (record { declarations = length ds; rows = length (rows_of_all declared_rows ds) }) = cc in
    record { whole = refl; number = ap (λ (x : Counted). x.declarations) y; long = ap (λ (x : Counted). x.rows) y; rows = λ k. refl }
parse_accepted text limit n used absent e =
    let y : ◌≡◌ {A = Counted} (record { declarations = n; rows = used }) (record { declarations = 0; rows = 0 }) = cc in
    record { whole = refl; number = ap (λ (x : Counted). x.declarations) y; long = ap (λ (x : Counted). x.rows) y; rows = λ k. (let z : k - 0 ≡ k = omega arith in ap (λ (x : ℕ). replicate x zero_row) (sym z)) }
parse_accepted text limit n used (barred r l) e = absurd (let z : ◌≡◌ {A = ℕ} 0 1 = cc in omega arith)

-- The names of its declarations lie in the text.
pub all_inside : (text : List ℕ) (limit : ℕ) (L : Reading) → lex_of limit text ≡ L → TitlesInside text (declared_in (parsed_text text L))
all_inside text limit (unread r line) e = tt
all_inside text limit (tokens ts) e = go (parse_of text ts) refl
  where
    go : (P : Parsed (List Declared)) → parse_of text ts ≡ P → TitlesInside text (declared_in P)
    go (parsed ds n) q = titles_inside limit text ts ds n e q
    go absent q = tt
    go (barred r line) q = tt

-- The first rows are those of the declarations.
pub first_rows : (xs : Rows) (used k : ℕ) → used ≡ length xs → take used (xs ++ replicate k zero_row) ≡ xs
first_rows xs used k e = take_at xs (replicate k zero_row) used (sym e)

-- What is left by the rows' function is left by `load`.
module _ (text : List ℕ) (limits : Limits) (b c d : Buffers) (same : SameLengths b c) (rowsSame : length c.rows ≡ length b.rows) where
  module _ (limit : ℕ) (limited : limit ≡ (capped_of limits).nodes) (n used : ℕ) (r : Loading) where
    kept_left : (ds : List Declared) (s : Signature) → n ≡ length ds → c.rows ≡ rows_after (length b.rows) (text_of text limits) → RowsKept text limit n c ds s r d → LoadedInto text limits b ds s r d
    kept_left ds s m rows h =
        let held = h.held in
        let st : State = h.state in
        let a : st.sorts ≡ length s.sorts = sym (sorts_number held.names) in
        let f : st.symbols ≡ length s.symbols = sym (symbols_number held.names) in
        let g : st.rules ≡ length s.rules = held.kept.number in
        let x = held.names.exact in
        let y = held.kept.exact in
        let fs = held.names.few_sorts in
        let ls = held.names.sorts_lent in
        let ff = held.names.few_symbols in
        let lf = held.names.symbols_lent in
        let fr = held.kept.few_rules in
        let lr = held.kept.rules_lent in
        let fw = held.kept.fits in
        let lw = held.kept.words_lent in
        let u : st.used ≡ length (words_from s.rules 0) = sym (length-take-le st.used d.words (omega arith)) ∙ ap length y.words_are in
        record {
          answer = h.answer ∙ rw (m, a, f, g, u) refl;
          stored = buffers (h.tokens ∙ ap (λ (k : ℕ). replicate k zero_row) same.tokens) (h.rows ∙ rows) (h.calls ∙ ap (λ (k : ℕ). replicate k zero_row) same.calls)
              (padded_is zero_pair (length b.sorts) st.sorts d.sorts _ (omega arith) x.sorts_are_lem (h.sorts_clear ∙ ap (λ (k : ℕ). replicate (k - st.sorts) zero_pair) same.sorts))
              (padded_is zero_symbol (length b.symbols) st.symbols d.symbols _ (omega arith) x.symbols_are_lem (h.symbols_clear ∙ ap (λ (k : ℕ). replicate (k - st.symbols) zero_symbol) same.symbols))
              (padded_is zero_rule (length b.rules) st.rules d.rules _ (omega arith) y.rows_are (h.rules_clear ∙ ap (λ (k : ℕ). replicate (k - st.rules) zero_rule) same.rules))
              (padded_is 0 (length b.words) st.used d.words _ (omega arith) y.words_are (h.words_clear ∙ ap (λ (k : ℕ). replicate (k - st.used) 0) same.words))
              (h.evals ∙ ap (λ (k : ℕ). evals_from 0 ds ++ replicate (k - length (evals_from 0 ds)) zero_pair) same.evals);
          sort_titles = sym (length-map (titles_of ds).sorts sort_row) ∙ ap length (sym x.sorts_are_lem) ∙ length-take-le st.sorts d.sorts (omega arith) ∙ a;
          symbol_titles = x.number;
          rule_titles = y.number;
          sorts_are = rw (← a) held.names.sorts_are;
          symbols_are = rw (← f) held.names.symbols_are;
          rules_are = rw (← g) (held_rules held);
          listed = rw (← a, ← f, ← g, ← u) (held_listed held);
        }

    pub rows_left : (ds : List Declared) (x : Loaded) → n ≡ length ds → c.rows ≡ rows_after (length b.rows) (text_of text limits) → RowsLeft text limit n c ds x r d → Left text limits b ds x r d
    rows_left ds (refused e line) m rows h = (h.0, h.1 ∙ wiped_same b c same rowsSame)
    rows_left ds (loaded s) m rows h = kept_left ds s m rows h

pub capped_small : (l : Limits) → ((capped_of l).text ≤ 65536) × ((capped_of l).nodes ≤ 32768)
capped_small l = (omega arith, omega arith)

-- A text that the parser refuses leaves nothing.
pub refused_left : (text : List ℕ) (limits : Limits) (b d : Buffers) (j : Rejection) → text_of text limits ≡ barred j.refusal j.line → d ≡ wiped b
    → Left text limits b (declared_in (text_of text limits)) (load_text text limits) (Err j) d
refused_left text limits b d j p w =
    subst (λ (P : Parsed (List Declared)). Left text limits b (declared_in P) (of_parsed text (capped_of limits).nodes P) (Err j) d) (sym p) ((refl, refl), w)

module _ (text : List ℕ) (limits : Limits) (ts rows calls sorts symbols rules : Rows) (words : List ℕ) (evals : Rows)
    (lent : Enough (capped_of limits).text (capped_of limits).nodes (length ts) (length rows) (length calls) (length sorts) (length symbols) (length rules) (length words) (length evals))
    {n used : ℕ} {rows' : Rows} (a : Answered text limits rows (counted n used) rows') where
  accepted : (limit : ℕ) → Accepted text limit (text_of text limits) n used
  accepted limit = parse_accepted text limit n used (text_of text limits) a.is

  -- What the rows' function asks.
  pub declared : (limit : ℕ) → (take used rows' ≡ rows_of_all declared_rows (declared_in (text_of text limits))) × (n ≡ length (declared_in (text_of text limits))) × TitlesInside text (declared_in (text_of text limits))
  declared limit =
      let x = accepted limit in (
        ap (take used) (a.rows_are ∙ x.rows (length rows)) ∙ first_rows (rows_of_all declared_rows (declared_in (text_of text limits))) used (length rows - length (rows_of_all declared_rows (declared_in (text_of text limits)))) x.long,
        x.number,
        all_inside text (capped_of limits).text (lex_of (capped_of limits).text text) refl,
      )

  pub rows_asked : (limit : ℕ) (ts' : Rows) → limit ≡ (capped_of limits).nodes → length ts' ≡ length ts → length rows' ≡ length rows
      → RowsAsked text limit n used ts' rows' calls sorts symbols rules words evals
  rows_asked limit ts' q lt lr =
      let t = lent.tokens_lent in
      let r = lent.rows_lent in
      let k = lent.calls_lent in
      let w = lent.words_lent in
      let v = lent.evals_lent in
      let f : used ≤ (capped_of limits).text = a.fits in
      let s : (capped_of limits).text ≤ 65536 = (capped_small limits).0 in
      let o : (capped_of limits).nodes ≤ 32768 = (capped_small limits).1 in
      record {
        declared = (let z = declared limit in (declared_in (text_of text limits), z.0, z.1, z.2));
        within = omega arith;
        limited = rw q o;
        short = omega arith;
        sorts_lent = lent.sorts_lent;
        symbols_lent = lent.symbols_lent;
        rules_lent = lent.rules_lent;
        words_lent = rw q w;
        evals_lent = halves used (capped_of limits).text (length evals) f v;
        tokens_lent = omega arith;
        calls_lent = omega arith;
      }
    where
      halves : (u t e : ℕ) → u ≤ t → t / 2 ≤ e → u ≤ 2 * e + 1
      halves u t e x y = omega arith

  -- What is left of an accepted text.
  pub accepted_left : (limit : ℕ) → limit ≡ (capped_of limits).nodes → (b c d : Buffers) → SameLengths b c → b.rows ≡ rows → c.rows ≡ rows' → length rows' ≡ length rows → (r : Loading)
      → RowsLeft text limit n c (declared_in (text_of text limits)) (load_of limit text (declared_in (text_of text limits))) r d
      → Left text limits b (declared_in (text_of text limits)) (load_text text limits) r d
  accepted_left limit q b c d same br cr lr r h =
      let x = accepted limit in
      let w : load_text text limits ≡ load_of limit text (declared_in (text_of text limits)) = ap (λ (k : ℕ). of_parsed text k (text_of text limits)) (sym q) ∙ x.whole in
      let e : c.rows ≡ rows_after (length b.rows) (text_of text limits) = cr ∙ a.rows_are ∙ ap (λ (l : Rows). rows_after (length l) (text_of text limits)) (sym br) in
      let l : length c.rows ≡ length b.rows = ap length cr ∙ lr ∙ sym (ap length br) in
      subst (λ (y : Loaded). Left text limits b (declared_in (text_of text limits)) y r d) (sym w)
      (rows_left text limits b c d same l limit q n used r (declared_in (text_of text limits)) (load_of limit text (declared_in (text_of text limits))) x.number e h)
