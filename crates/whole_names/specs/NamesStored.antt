-- Names are stored whole. For every text that `load` loads, into whatever storage: each stored row keeps the place of the whole word by which
-- its declaration names it, and so all bytes of that word and no other; and no two sorts or symbols have the same bytes.
--
-- The theorem is `names_stored_whole`, at the end; the record `NamesStoredWhole` says what it gives. It rests on two notions:
-- a whole word (`WholeWord` in whole_words/specs/Words.antt) is a run of 1 to 64 bytes that make words, which goes on neither before nor
-- behind, and is in no comment; the titles of declarations (loader/specs/Stored.antt) are the places of the words by which they name sorts, symbols and
-- rules, in text order.
use Rattle.std.specs.Prelude.{ℕ, ◌<◌, ◌≡◌, refl, ◌↔◌, Ok, List, length}
use Rattle.std.proofs.Common.{arith, sym, ap, subst}
use Rattle.terms.specs.Numbers.{by_bool}
use Rattle.words.specs.declared.Limits.{Limits}
use Rattle.term_parser.specs.Source.{Place, place}
use Rattle.term_parser.specs.ListLaws.{each_at}
use Rattle.parser.specs.Declarations.{Declared}
use Rattle.parser.specs.Parser.{text_of}
use Rattle.names.specs.Symbols.{row_at, sort_of as name_in, sorts_of, symbols_of}
use Rattle.rules.specs.declared.Title.{Title}
use Rattle.loader.specs.Signature.{Signature, Loaded, refused, loaded}
use Rattle.signature.specs.declared.Counts.{Counts}
use Rattle.load.specs.Load.{Loading, RejectedBy, declared_in, load_text, evals_from}
use Rattle.load_storage.specs.Storage.{Buffers, too_short, zero_pair, zero_symbol, zero_rule}
use Rattle.load.specs.Loading.{stored_of, Left, LoadingText}
use Rattle.load.specs.declared.Loaded.{Loaded as AllLoaded}
use Rattle.whole_words.specs.Words.{NameAt}
use Rattle.loader.specs.Stored.{Titles, title_at, titles_of, words_from}
use Rattle.whole_names.specs.Titles.{row_place, row_title, place_number, title_number}
use Rattle.whole_names.specs.Uses.{WholeName}
use Rattle.whole_names.specs.NamesWhole.{NamesWhole, names_whole}
use Rattle.whole_names.specs.RowLaws.{sort_count_lem, symbol_count_lem, rule_count_lem, one_sort_lem, one_symbol_lem, sort_symbol}
use Rattle.whole_names.specs.PlacedLaws.{sort_placed, symbol_placed, rule_placed}

-- The row of a sort or a symbol keeps the name that is declared at this place: there stands a whole word of the text, which is a name, and
-- the row's start and length are those of the word.
pub record KeepsName (text row : List ℕ) (p : Place) : Type 0 where
  pub word : WholeName text p
  pub is : row_place row ≡ p

-- A rule's row keeps this title: at its place stands a whole word, which is the name of the rule or that of the clause's function, and the
-- row's start, length and number are the title's. (The number is 0 for a written rule and n + 1 for the clause `f.n`.)
pub record KeepsTitle (text row : List ℕ) (t : Title) : Type 0 where
  pub word : NameAt text t.word.start t.word.size
  pub is : row_title row ≡ t

-- Storage keeps the names of the declarations ds whole, in as many rows of each kind as are counted.
pub record NamesStoredWhole (text : List ℕ) (ds : List Declared) (b : Buffers) (n : Counts) : Type 0 where
  -- There are as many rows as names are declared: none is left out, and there is no other.
  pub sort_count : n.sorts ≡ length (titles_of ds).sorts
  pub symbol_count : n.symbols ≡ length (titles_of ds).symbols
  pub rule_count : n.rules ≡ length (titles_of ds).rules
  -- Each row keeps the name of its declaration, whole.
  pub sorts : (i : ℕ) → i < n.sorts → KeepsName text (row_at b.sorts i) (place_number (titles_of ds).sorts i)
  pub symbols : (i : ℕ) → i < n.symbols → KeepsName text (row_at b.symbols i) (place_number (titles_of ds).symbols i)
  pub rules : (i : ℕ) → i < n.rules → KeepsTitle text (row_at b.rules i) (title_number (titles_of ds).rules i)
  -- Two rows have the same bytes as their names exactly if they are the same row: so of sorts, of symbols,
  pub one_sort : (i j : ℕ) → i < n.sorts → j < n.sorts → (name_in text (row_at b.sorts i) ≡ name_in text (row_at b.sorts j)) ↔ (i ≡ j)
  pub one_symbol : (i j : ℕ) → i < n.symbols → j < n.symbols
      → (name_in text (row_at b.symbols i) ≡ name_in text (row_at b.symbols j)) ↔ (i ≡ j)
  -- and no sort has the name of a symbol.
  pub apart : (i j : ℕ) → i < n.sorts → j < n.symbols → name_in text (row_at b.sorts i) ≡ name_in text (row_at b.symbols j) → ⊥

-- The theorem

-- For the stored signature of a text, whose names are whole.
module _ (text : List ℕ) (limits : Limits) (ds : List Declared) (s : Signature) (names : NamesWhole text ds s) (b₀ b : Buffers)
    (e : b ≡ stored_of text limits ds s b₀)
    (x : sorts_of text b.sorts (length s.sorts) ≡ s.sorts)
    (y : symbols_of text b.symbols (length s.symbols) ≡ s.symbols) where
  abbrev counts_with : ℕ → Counts
  counts_with used = record { sorts = length s.sorts; symbols = length s.symbols; rules = length s.rules; words = used }

  rows_whole : (used : ℕ) → NamesStoredWhole text ds b (counts_with used)
  rows_whole used =
      let n = sort_count_lem text ds s names b x y in
      let m = symbol_count_lem text ds s names b x y in
      let k = rule_count_lem text ds s names b x y in
      let t : Titles = titles_of ds in
      record {
        sort_count = n;
        symbol_count = m;
        rule_count = k;
        sorts = λ i l. record {
          word = each_at (WholeName text) t.sorts (place 0 0) names.whole.sorts i (omega arith);
          is = sort_placed zero_pair (length b₀.sorts) t.sorts b.sorts (ap (λ (c : Buffers). c.sorts) e) i (omega arith);
        };
        symbols = λ i l. record {
          word = each_at (WholeName text) t.symbols (place 0 0) names.whole.symbols i (omega arith);
          is = symbol_placed zero_symbol (length b₀.symbols) t.symbols s.symbols b.symbols (sym m) (ap (λ (c : Buffers). c.symbols) e) i (omega arith);
        };
        rules = λ i l. record {
          word = each_at (λ (r : Title). NameAt text r.word.start r.word.size) t.rules (title_at (place 0 0) 0) names.whole.rules i (omega arith);
          is = rule_placed zero_rule (length b₀.rules) t.rules s.rules b.rules (sym k) (ap (λ (c : Buffers). c.rules) e) i (omega arith);
        };
        one_sort = one_sort_lem text ds s names b x y;
        one_symbol = one_symbol_lem text ds s names b x y;
        apart = sort_symbol text ds s names b x y;
      }

-- Where `load` loads a text, the names of its declarations are stored whole.
pub names_stored_whole : (text : List ℕ) (limits : Limits) (b : Buffers) (r : Loading) (b' : Buffers) → LoadingText text limits b r b'
    → (declarations evals : ℕ) (counts : Counts) → r ≡ Ok (record { declarations = declarations; evals = evals; counts = counts })
    → NamesStoredWhole text (declared_in (text_of text limits)) b' counts
names_stored_whole text limits b r b' h n m counts e =
    by_bool (too_short limits b) (λ t. absurd (never 1 0 (h.short t).0)) (λ t. go (load_text text limits) refl (h.enough t))
  where
    never : (k line : ℕ) → RejectedBy k line r → ⊥
    never k line q = subst (RejectedBy k line) e q

    go : (o : Loaded) → load_text text limits ≡ o → Left text limits b (declared_in (text_of text limits)) o r b'
        → NamesStoredWhole text (declared_in (text_of text limits)) b' counts
    go (refused k line) q l = absurd (never k line l.0)
    go (loaded s) q l =
        let ds : List Declared = declared_in (text_of text limits) in
        let names : NamesWhole text ds s = names_whole text limits s q in
        let f = l.answer in
        let same : ◌≡◌ {A = AllLoaded} (record { declarations = length ds; evals = length (evals_from 0 ds); counts = record { sorts = length s.sorts; symbols = length s.symbols; rules = length s.rules; words = length (words_from s.rules 0) } }) (record { declarations = n; evals = m; counts = counts }) = cc in
        let c : counts_with text limits ds s names b b' l.stored l.sorts_are l.symbols_are (length (words_from s.rules 0)) ≡ counts = ap (λ (a : AllLoaded). a.counts) same in
        subst (λ (k : Counts). NamesStoredWhole text ds b' k) c
        (rows_whole text limits ds s names b b' l.stored l.sorts_are l.symbols_are (length (words_from s.rules 0)))
