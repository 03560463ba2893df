-- Laws of storage that holds a signature: its rows and words denote the signature's rules, it is in the listed form, and what stands past its counts may be
-- cleared.
use Prim.Native.Nat.{ℕ, suc, ◌+◌, ◌-◌, ◌≤◌, ◌<◌}
use native.Mathlib.Omega.{arith}
use mathlib.Core.Path.{◌≡◌, refl, sym, ap, ap₂, ◌∙◌, subst}
use mathlib.Core.List.{List, [], ◌∷◌, ◌++◌, map}
use lib.ListN.{length, get_or, take, drop, replicate, length-append, length-replicate, get_or-append}
use lib.Seq.{length-take-le, drop-cons, take_at, get_or-take}
use Rattle.arena.specs.Cells.{Same, cells}
use Rattle.arena.specs.Copies.{pattern_room}
use Rattle.arena.specs.NodeLaws.{formed_same}
use Rattle.resolution.specs.Rules.{Rule}
use Rattle.names.specs.NamePlaces.{NamePlace}
use Rattle.names.specs.Symbols.{Rows, Symbol, column, columns, row_at, sort_of, symbol_of, sorts_of, symbols_of, symbol_at}
use Rattle.names.specs.SearchLaws.{columns_length, columns_at, sorts_length}
use Rattle.patterns.proofs.Terms.{symbol_at_lem, symbols_length}
use Rattle.rules.specs.StoredRows.{Kept}
use Rattle.rules.specs.PatternLaws.{arities_of}
use Rattle.rules.specs.declared.Title.{Title}
use Rattle.rule_checks.specs.RuleForm.{rule_in, RuleNamed, RuleFormed}
use Rattle.rule_checks.specs.RuleLaws.{kept_is}
use Rattle.loader.specs.Signature.{Signature}
use Rattle.loader.specs.Stored.{Titles}
use Rattle.loader.specs.Legal.{SymbolLegal, RuleLegal, ClauseFormed, no_rule}
use Rattle.loader.specs.Holding.{RulesKept, rules_same}
use Rattle.loader.specs.SymbolRows.{SymbolShaped}
use Rattle.signature.specs.Form.{rules_of, SymbolFormed, Listed}
use Rattle.signature.specs.StoreLaws.{rules_at, kept_at}
use Rattle.declarations.specs.Held.{NamesHeld, RulesHeld, Held}
use Rattle.declarations.specs.declared.State.{State}

-- Each kept rule is the one that its row denotes.
rules_are_lem : (text arities words : List ℕ) (rows : Rows) (i : ℕ) (Rs : List Rule) (u u' : ℕ) → i + length Rs ≤ length rows → RulesKept text arities words rows i Rs u u'
    → map (rule_in text words) (take (length Rs) (drop i rows)) ≡ Rs
unfolding RulesKept
rules_are_lem text arities words rows i [] u u' l h = refl
rules_are_lem text arities words rows i (R ∷ Rs) u u' l h =
    ap (λ (x : Rows). map (rule_in text words) (take (suc (length Rs)) x)) (drop-cons rows i [] (omega arith))
    ∙ ap₂ (λ (x : Rule) (xs : List Rule). x ∷ xs) (sym (kept_is h.1)) (rules_are_lem text arities words rows (suc i) Rs h.0 u' (omega arith) h.2)

pub held_rules : {text : List ℕ} {limit : ℕ} {ts : Titles} {s : Signature} {sorts symbols rules : Rows} {words : List ℕ} {st : State} → Held text limit ts s sorts symbols rules words st
    → rules_of text words rules st.rules ≡ s.rules
unfolding rules_of
held_rules {text} {limit} {ts} {s} {sorts} {symbols} {rules} {words} {st} h =
    let k = h.kept in
    let a = k.rules_lent in
    let b = k.few_rules in
    let n = k.number in
    ap (λ (x : ℕ). map (rule_in text words) (take x rules)) n
    ∙ rules_are_lem text (arities_of s.symbols) words rules 0 s.rules 0 st.used (omega arith) k.rules_are

-- The row of a legal symbol is in form.
symbol_formed : {text row : List ℕ} {sorts rules : ℕ} → NamePlace text (column row 0) (column row 1) → SymbolShaped row → SymbolLegal sorts rules (symbol_of text row)
    → SymbolFormed text sorts rules row
unfolding symbol_of
symbol_formed {text} {row} {sorts} {rules} i h g =
    let n : length (columns row 8 (column row 6)) ≡ column row 6 = columns_length row 8 (column row 6) in
    record {
      named = i;
      output = g.output;
      few = h.few;
      inputs = λ j l. let e = columns_at row 8 (column row 6) j l in
          let p = g.inputs j (omega arith) in (omega arith, omega arith);
      clear = h.clear;
      free = h.free;
      mark = g.mark;
      predicate = g.predicate;
      result = λ e. let p = g.result e in omega arith;
      clauses = g.clauses;
      none = g.none;
      others = g.others;
    }

-- The row of a legal rule that is kept is in form.
rule_formed : {text arities words row : List ℕ} {symbols : List Symbol} {sorts u u' : ℕ} {R : Rule} → RuleNamed text row → RuleLegal symbols sorts R
    → Kept text arities words row R u u' → RuleFormed text words sorts row
rule_formed {text} {arities} {words} {row} {symbols} {sorts} {u} {u'} {R} i g k =
    let e = kept_is k in
    let f : RuleLegal symbols sorts (rule_in text words row) = subst (RuleLegal symbols sorts) e g in
    let n : length (columns row 26 (column row 3)) ≡ column row 3 = columns_length row 26 (column row 3) in
    let a = k.lying.premises.used in
    let b = k.lying.conclusion.used in
    let t = k.to in
    let w = g.small in
    record {
      named = i;
      sorted = λ j l. let d = columns_at row 26 (column row 3) j l in
          let p = f.sorted j (omega arith) in (omega arith, omega arith);
      order = rw n at f.order;
      small = omega arith;
    }

-- The clauses of a symbol that is held are in form in their rows.
clauses_held : (text words : List ℕ) (symbols : List Symbol) (Rs : List Rule) (rules : Rows) (row : List ℕ) (k i : ℕ) → k ≤ length rules → rules_of text words rules k ≡ Rs
    → column row 4 + column row 5 ≤ k → ((j : ℕ) → j < (symbol_of text row).clauses → ClauseFormed symbols i (get_or Rs ((symbol_of text row).first + j) no_rule))
    → (j : ℕ) → j < column row 5 → ClauseFormed symbols i (rule_in text words (row_at rules (column row 4 + j)))
unfolding symbol_of
clauses_held text words symbols Rs rules row k i lent e within h j b =
    let q : get_or Rs (column row 4 + j) no_rule ≡ rule_in text words (row_at rules (column row 4 + j)) =
    ap (λ (x : List Rule). get_or x (column row 4 + j) no_rule) (sym e) ∙ rules_at text words rules k lent (column row 4 + j) (omega arith) in
    subst (ClauseFormed symbols i) q (h j b)

pub held_listed : {text : List ℕ} {limit : ℕ} {ts : Titles} {s : Signature} {sorts symbols rules : Rows} {words : List ℕ} {st : State}
    → Held text limit ts s sorts symbols rules words st → Listed text sorts symbols rules words st.sorts st.symbols st.rules st.used
held_listed {text} {limit} {ts} {s} {sorts} {symbols} {rules} {words} {st} h =
    let a = h.names in
    let k = h.kept in
    let g = h.legal in
    let a₁ = a.sorts_lent in
    let a₂ = a.few_sorts in
    let a₃ = a.symbols_lent in
    let a₄ = a.few_symbols in
    let k₁ = k.words_lent in
    let k₂ = k.fits in
    let k₃ = k.limited in
    let ns : length s.sorts ≡ st.sorts = ap length (sym a.sorts_are) ∙ sorts_length text sorts st.sorts (omega arith) in
    let nf : length s.symbols ≡ st.symbols = ap length (sym a.symbols_are) ∙ symbols_length text symbols st.symbols (omega arith) in
    let nr : length s.rules ≡ st.rules = sym k.number in
    let at : (i : ℕ) → i < st.symbols → symbol_at s.symbols i ≡ symbol_of text (row_at symbols i) =
    λ i l. ap (λ (x : List Symbol). symbol_at x i) (sym a.symbols_are) ∙ symbol_at_lem text symbols st.symbols (omega arith) i l in
    let formed : (i : ℕ) → i < st.symbols → SymbolFormed text st.sorts st.rules (row_at symbols i) =
    λ i l. symbol_formed (a.symbols_inside i l) (a.shaped i l) (rw (ns, nr, at i l) at (g.symbols i (omega arith))) in
    let k₄ = k.rules_lent in
    let k₅ = k.few_rules in
    record {
      sorts_lent = a₁;
      symbols_lent = a₃;
      rules_lent = k.rules_lent;
      few_sorts = a₂;
      few_symbols = a₄;
      few_rules = k.few_rules;
      few_words = omega arith;
      words_lent = omega arith;
      sorts_named = a.sorts_inside;
      distinct = rw (a.sorts_are, a.symbols_are) g.distinct;
      symbols_formed = formed;
      rules_kept = rw (a.symbols_are, held_rules h) k.rules_are;
      rules_formed = λ i l. let c = kept_at text (arities_of s.symbols) words rules 0 s.rules 0 st.used i k.rules_are (omega arith) in
          let z : 0 + i ≡ i = omega arith in
          rule_formed (k.rules_inside i l) (rw ns at (g.rules i (omega arith))) (rw z at c.2);
      clauses_formed = λ i l. rw a.symbols_are (clauses_held text words s.symbols s.rules rules (row_at symbols i) st.rules i (omega arith) (held_rules h) (formed i l).clauses
          (rw (at i l) at (g.clauses i (omega arith))));
    }

-- A list whose first n entries stay, and whose others are all the same.
module _ {A : Type 0} (n : ℕ) (l : List A) (a : A) (h : n ≤ length l) where
  cleared_length : length (take n l ++ replicate (length l - n) a) ≡ length l
  cleared_length =
      let p = length-append (take n l) (replicate (length l - n) a) in
      let q = length-take-le n l h in
      let r = length-replicate (length l - n) a in
      omega arith

  cleared_take : take n (take n l ++ replicate (length l - n) a) ≡ take n l
  cleared_take = take_at (take n l) (replicate (length l - n) a) n (length-take-le n l h)

  cleared_at : (i : ℕ) (d : A) → i < n → get_or (take n l ++ replicate (length l - n) a) i d ≡ get_or l i d
  cleared_at i d b =
      let q = length-take-le n l h in
      get_or-append (take n l) (replicate (length l - n) a) d i (omega arith) ∙ get_or-take n l i d b

-- The names and rules, with rows and words past the counts cleared.
names_cleared : {text : List ℕ} {ts : Titles} {s : Signature} {sorts symbols : Rows} {st : State} → NamesHeld text ts s sorts symbols st → (a b : List ℕ)
    → NamesHeld text ts s (take st.sorts sorts ++ replicate (length sorts - st.sorts) a) (take st.symbols symbols ++ replicate (length symbols - st.symbols) b) st
unfolding sorts_of symbols_of
names_cleared {text} {ts} {s} {sorts} {symbols} {st} h a b =
    let h₁ = h.sorts_lent in
    let h₂ = h.few_sorts in
    let h₃ = h.symbols_lent in
    let h₄ = h.few_symbols in
    let m : st.sorts ≤ length sorts = omega arith in
    let n : st.symbols ≤ length symbols = omega arith in
    let p = cleared_length st.sorts sorts a m in
    let q = cleared_length st.symbols symbols b n in
    record {
      sorts_lent = omega arith;
      symbols_lent = omega arith;
      few_sorts = h₂;
      few_symbols = h₄;
      sorts_are = ap (map (sort_of text)) (cleared_take st.sorts sorts a m) ∙ h.sorts_are;
      symbols_are = ap (map (symbol_of text)) (cleared_take st.symbols symbols b n) ∙ h.symbols_are;
      sorts_inside = λ i l. rw (cleared_at st.sorts sorts a m i [] l) (h.sorts_inside i l);
      symbols_inside = λ i l. rw (cleared_at st.symbols symbols b n i [] l) (h.symbols_inside i l);
      shaped = λ i l. rw (cleared_at st.symbols symbols b n i [] l) (h.shaped i l);
      exact = record {
        sorts_are_lem = cleared_take st.sorts sorts a m ∙ h.exact.sorts_are_lem;
        symbols_are_lem = cleared_take st.symbols symbols b n ∙ h.exact.symbols_are_lem;
        number = h.exact.number;
      };
    }

rules_cleared : {text : List ℕ} {limit : ℕ} {ts : List Title} {s : Signature} {rules : Rows} {words : List ℕ} {st : State} → RulesHeld text limit ts s rules words st → (c : List ℕ)
    → RulesHeld text limit ts s (take st.rules rules ++ replicate (length rules - st.rules) c) (take st.used words ++ replicate (length words - st.used) 0) st
rules_cleared {text} {limit} {ts} {s} {rules} {words} {st} h c =
    let h₁ = h.rules_lent in
    let h₂ = h.few_rules in
    let h₃ = h.words_lent in
    let h₄ = h.fits in
    let h₅ = h.number in
    let m : st.rules ≤ length rules = omega arith in
    let n : st.used ≤ length words = omega arith in
    let p = cleared_length st.rules rules c m in
    let q = cleared_length st.used words 0 n in
    let same : Same pattern_room (cells words) (cells (take st.used words ++ replicate (length words - st.used) 0)) st.used =
    λ i l. sym (cleared_at st.used words 0 n i 0 l) in
    record {
      rules_lent = omega arith;
      words_lent = omega arith;
      limited = h.limited;
      rules_are = rules_same text (arities_of s.symbols) words (take st.used words ++ replicate (length words - st.used) 0) rules
          (take st.rules rules ++ replicate (length rules - st.rules) c) 0 s.rules 0 st.used same (omega arith)
          (λ i l. cleared_at st.rules rules c m i [] (omega arith)) h.rules_are;
      number = h₅;
      few_rules = h₂;
      left = h.left;
      fits = h₄;
      formed = formed_same pattern_room same h.formed;
      rules_inside = λ i l. rw (cleared_at st.rules rules c m i [] l) (h.rules_inside i l);
      exact = record {
        rows_are = cleared_take st.rules rules c m ∙ h.exact.rows_are;
        words_are = cleared_take st.used words 0 n ∙ h.exact.words_are;
        number = h.exact.number;
      };
    }

pub held_cleared : {text : List ℕ} {limit : ℕ} {ts : Titles} {s : Signature} {sorts symbols rules : Rows} {words : List ℕ} {st : State} → Held text limit ts s sorts symbols rules words st
    → (a b c : List ℕ)
    → Held text limit ts s (take st.sorts sorts ++ replicate (length sorts - st.sorts) a) (take st.symbols symbols ++ replicate (length symbols - st.symbols) b)
    (take st.rules rules ++ replicate (length rules - st.rules) c) (take st.used words ++ replicate (length words - st.used) 0) st
held_cleared h a b c = record { names = names_cleared h.names a b; kept = rules_cleared h.kept c; legal = h.legal }
