-- The names of every signature that is loaded are whole words of the text.
use Rattle.std.specs.Prelude.{ℕ, ◌+◌, ◌<◌, ◌≡◌, refl, ◌↔◌, length, get_or}
use Rattle.std.proofs.Common.{arith, sym, ap}
use mathlib.Core.List.{List, [], ◌∷◌, ◌++◌, map}
use Rattle.terms.specs.Numbers.{by_less}
use Rattle.words.specs.Tokens.{Reading}
use Rattle.words.specs.Tokens.Reading.{tokens, refused as unread}
use Rattle.words.specs.Lexer.{capped_of, lex_of}
use Rattle.words.specs.declared.Limits.{Limits}
use Rattle.term_parser.specs.Source.{Place, place}
use Rattle.term_parser.specs.Standing.{bytes_at}
use Rattle.term_parser.specs.Parsing.{Tokens, Parsed, parsed, absent, refused as barred}
use Rattle.term_parser.specs.ReaderLaws.{Each, each_append}
use Rattle.parser.specs.Source.{Clause, Declaration, sort, ctor, pred, rule, def, theorem, eval, check}
use Rattle.parser.specs.Declarations.{Declared, parse_of}
use Rattle.parser.specs.Parser.{parsed_text, text_of}
use Rattle.names.specs.Names.{Name, Distinct}
use Rattle.rules.specs.declared.Title.{Title}
use Rattle.loader.specs.Signature.{Signature, loaded, load_of}
use Rattle.loader.specs.Legal.{names_of, Legal}
use Rattle.loader.specs.LegalLaws.{load_legal}
use Rattle.load.specs.Load.{declared_in, of_parsed, load_text}
use Rattle.whole_words.specs.Words.{NameAt}
use Rattle.loader.specs.Stored.{Titles, untitled, title_at, with_clauses, entitled, titles_from, titles_of}
use Rattle.whole_names.specs.Titles.{spelling}
use Rattle.whole_names.specs.Uses.{WholeName, DeclarationWhole, DeclaredWhole}
use Rattle.whole_names.specs.UsesWhole.{uses_whole}
use Rattle.whole_names.specs.EntryLaws.{load_names}
use Rattle.whole_names.specs.Variables.{VariablesWhole}
use Rattle.whole_names.specs.VariablesWhole.{variables_whole}

-- At each of these places and titles stands a whole word of the text, and it is a name.
pub record TitlesWhole (text : List ℕ) (t : Titles) : Type 0 where
  pub sorts : Each (WholeName text) t.sorts
  pub symbols : Each (WholeName text) t.symbols
  pub rules : Each (λ r. NameAt text r.word.start r.word.size) t.rules

-- The names of the signature s of the declarations ds are whole.
pub record NamesWhole (text : List ℕ) (ds : List Declared) (s : Signature) : Type 0 where
  -- The names of sorts, symbols and rules are those of the declarations, all bytes of each, in text order; none is left out.
  pub sorts : s.sorts ≡ map (bytes_at text) (titles_of ds).sorts
  pub symbols : map (λ f. f.name) s.symbols ≡ map (bytes_at text) (titles_of ds).symbols
  pub rules : map (λ r. r.name) s.rules ≡ map (spelling text) (titles_of ds).rules
  -- Each of these is a whole word.
  pub whole : TitlesWhole text (titles_of ds)
  -- The name of each variable, while its rule is compiled, is a whole word of its declaration too.
  pub variables : Each (λ d. VariablesWhole text d.declaration) ds
  -- Two of the sorts and symbols, counted on from the sorts to the symbols, are one exactly if all bytes of their names are equal.
  pub once : (i j : ℕ) → i < length (names_of s.sorts s.symbols) → j < length (names_of s.sorts s.symbols)
      → (get_or (names_of s.sorts s.symbols) i [] ≡ get_or (names_of s.sorts s.symbols) j []) ↔ (i ≡ j)

-- Titles

module _ (text : List ℕ) where
  abbrev RuleWhole : Title → Type 0
  RuleWhole r = NameAt text r.word.start r.word.size

  clauses_whole : (cs : List Clause) (ts : List Title) (p : Place) (n : ℕ) → WholeName text p → Each RuleWhole ts
      → Each RuleWhole (with_clauses ts p n cs)
  unfolding with_clauses
  clauses_whole [] ts p n w h = h
  clauses_whole (c ∷ cs) ts (place a b) n w h =
      clauses_whole cs (ts ++ (title_at (place a b) (n + 1) ∷ [])) (place a b) (n + 1) w
      (each_append RuleWhole ts (title_at (place a b) (n + 1) ∷ []) h (w, tt))

  -- With those of a declaration whose words are whole.
  entitled_whole : (t : Titles) (d : Declaration) → DeclarationWhole text d → TitlesWhole text t → TitlesWhole text (entitled t d)
  entitled_whole t (sort p) w h =
      record { sorts = each_append (WholeName text) t.sorts (p ∷ []) h.sorts (w, tt); symbols = h.symbols; rules = h.rules }
  entitled_whole t (ctor p ss) w h =
      record { sorts = h.sorts; symbols = each_append (WholeName text) t.symbols (p ∷ []) h.symbols (w.0, tt); rules = h.rules }
  entitled_whole t (pred p ss) w h =
      record { sorts = h.sorts; symbols = each_append (WholeName text) t.symbols (p ∷ []) h.symbols (w.0, tt); rules = h.rules }
  entitled_whole t (rule (place a b) js) w h =
      record { sorts = h.sorts; symbols = h.symbols; rules = each_append RuleWhole t.rules (title_at (place a b) 0 ∷ []) h.rules (w.0, tt) }
  entitled_whole t (def p ss cs) w h =
      record {
        sorts = h.sorts;
        symbols = each_append (WholeName text) t.symbols (p ∷ []) h.symbols (w.0, tt);
        rules = clauses_whole cs t.rules p 0 w.0 h.rules;
      }
  entitled_whole t (theorem p bs js x) w h = h
  entitled_whole t (eval x) w h = h
  entitled_whole t (check x) w h = h

  titles_whole : (ds : List Declared) (t : Titles) → Each (DeclaredWhole text) ds → TitlesWhole text t → TitlesWhole text (titles_from t ds)
  unfolding titles_from
  titles_whole [] t w h = h
  titles_whole (d ∷ ds) t w h = titles_whole ds (entitled t d.declaration) w.1 (entitled_whole t d.declaration w.0 h)

-- One name, one item.
pub distinct_once : (names : List Name) → Distinct names → (i j : ℕ) → i < length names → j < length names
    → (get_or names i [] ≡ get_or names j []) ↔ (i ≡ j)
distinct_once names d i j l m = (
  λ e. by_less i j (λ k _. absurd (d i j k m e)) (λ k _. by_less j i (λ q _. absurd (d j i q l (sym e))) (λ q _. omega arith)),
  λ e. ap (λ (k : ℕ). get_or names k []) e,
)

-- The theorem, for declarations whose words are whole.
declared_whole : (limit : ℕ) (text : List ℕ) (ds : List Declared) (s : Signature) → Each (DeclaredWhole text) ds
    → load_of limit text ds ≡ loaded s → NamesWhole text ds s
declared_whole limit text ds s h e =
    let n = load_names limit text ds s e in
    let legal : Legal s = load_legal limit text ds s e in
    record {
      sorts = n.0;
      symbols = n.1;
      rules = n.2;
      whole = titles_whole text ds untitled h (record { sorts = tt; symbols = tt; rules = tt });
      variables = variables_whole text ds h;
      once = distinct_once (names_of s.sorts s.symbols) legal.distinct;
    }

-- The names of every signature that is loaded are whole.
pub names_whole : (text : List ℕ) (limits : Limits) (s : Signature) → load_text text limits ≡ loaded s
    → NamesWhole text (declared_in (text_of text limits)) s
names_whole text limits s e = read (lex_of (capped_of limits).text text) refl e
  where
    parse : (ts : Tokens) → lex_of (capped_of limits).text text ≡ tokens ts → (o : Parsed (List Declared)) → parse_of text ts ≡ o
        → of_parsed text (capped_of limits).nodes o ≡ loaded s → NamesWhole text (declared_in o) s
    parse ts l (parsed ds n) p e = declared_whole (capped_of limits).nodes text ds s (uses_whole (capped_of limits).text text ts ds n l p) e
    parse ts l absent p e = declared_whole (capped_of limits).nodes text [] s tt e
    parse ts l (barred r line) p e = absurd (let z : ◌≡◌ {A = ℕ} 0 1 = cc in omega arith)

    read : (r : Reading) → lex_of (capped_of limits).text text ≡ r → of_parsed text (capped_of limits).nodes (parsed_text text r) ≡ loaded s
        → NamesWhole text (declared_in (parsed_text text r)) s
    read (tokens ts) l e = parse ts l (parse_of text ts) refl e
    read (unread r line) l e = absurd (let z : ◌≡◌ {A = ℕ} 0 1 = cc in omega arith)
