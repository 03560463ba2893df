-- What `evaluate_listed` leaves: what the expression came to, once the rest of the buffers is cleared, is what the definition says.
use Prim.Native.Nat.{ℕ, zero, suc, ◌+◌, ◌-◌, ◌≤◌, ◌<◌}
use native.Mathlib.Omega.{arith}
use mathlib.Core.Path.{◌≡◌, refl, sym, ap, ap₂, ◌∙◌, subst}
use mathlib.Core.Bool.{true, false}
use mathlib.Core.List.{List, [], ◌∷◌, ◌++◌}
use lib.ListN.{length, get_or, take, replicate, length-replicate}
use borrow.Author.Tests.{lt-ltb, le-ltb}
use Rattle.terms.specs.Numbers.{by_less, true_false}
use Rattle.terms.specs.Term.{Term}
use Rattle.terms.specs.Term.Kind.{many as several}
use Rattle.arena.specs.Cells.{cells, Same, frame_denote}
use Rattle.arena.specs.NodeLaws.{reference_same}
use Rattle.arena.specs.Form.{in_form}
use Rattle.arena.specs.FormKept.{form_same}
use Rattle.term_parser.specs.Source.{one}
use Rattle.words.specs.declared.Limits.{Limits}
use Rattle.names.specs.Symbols.{Rows}
use Rattle.names.specs.SearchLaws.{zero_at}
use Rattle.resolution.specs.Rules.{Tree}
use Rattle.rules.specs.PatternLaws.{arities_of}
use Rattle.load_storage.specs.Storage.{cleared_from}
use Rattle.signature.specs.Storage.{SignatureStore, symbols_in, rules_in, signature_of}
use Rattle.term_check.specs.TermLaws.{term_stands}
use Rattle.tree_rows.specs.Trees.{Lists, zero_tree}
use Rattle.tree_rows.proofs.TreeLaws.{lists_grown, lists_same}
use Rattle.evaluation.specs.Expressions.{Evaluated, failed, evaluated, evaluate_of}
use Rattle.clause_matching.specs.Building.{Stands as Built}
use Rattle.function_calls.specs.Calls.{outcome, tree_rows, Working}
use Rattle.expressions.specs.Terms.{expressed, ExpressionAsked, Evaluates, ExpressionAnswered}
use Rattle.expressions.specs.declared.written.Expressed.{Expressed}
use Rattle.std.specs.Prelude.{Result, Err}
use Rattle.refusals.specs.declared.Refusal.{Refusal}
use Rattle.refusals.specs.Refusals.{number_of}
use Rattle.expressions.proofs.Forming.{value_answer, made_answer, used_answer}
use Rattle.evaluator.specs.Storage.{Results, most_words, is_short, wiped}
use Rattle.evaluator.specs.Evaluating.{written_in, Ready, Valued, Left, EvaluationLeft}
use Rattle.evaluator.specs.ProgramLaws.{pattern, listed_headed, listed_tables}

-- Clearing

module _ {A : Type 0} (z : A) where
  cleared_step : (n : ℕ) (x : A) (xs : List A) → cleared_from z (suc n) (x ∷ xs) ≡ x ∷ cleared_from z n xs
  cleared_step n x xs = let e : suc (length xs) - suc n ≡ length xs - n = omega arith in ap (λ (k : ℕ). x ∷ (take n xs ++ replicate k z)) e

  pub cleared_length : (n : ℕ) (xs : List A) → length (cleared_from z n xs) ≡ length xs
  cleared_length zero xs = let e : length xs - 0 ≡ length xs = omega arith in ap (λ (k : ℕ). length (replicate k z)) e ∙ length-replicate (length xs) z
  cleared_length (suc n) [] = let e : 0 - suc n ≡ 0 = omega arith in ap (λ (k : ℕ). length (replicate k z)) e
  cleared_length (suc n) (x ∷ xs) = ap length (cleared_step n x xs) ∙ ap suc (cleared_length n xs)

  -- What is cleared stays so.
  pub cleared_twice : (n : ℕ) (xs : List A) → cleared_from z n xs ≡ cleared_from z n (cleared_from z n xs)
  cleared_twice zero xs =
      let e : length xs - 0 ≡ length xs = omega arith in
      let m : length (cleared_from z zero xs) ≡ length xs = cleared_length zero xs in
      let f : length (cleared_from z zero xs) - 0 ≡ length xs - 0 = omega arith in
      ap (λ (k : ℕ). replicate k z) (sym f)
  cleared_twice (suc n) [] = let e : 0 - suc n ≡ 0 = omega arith in ap (λ (k : ℕ). replicate k z) e ∙ sym (ap (λ (k : ℕ). cleared_from z (suc n) (replicate k z)) e ∙ ap (λ (k : ℕ). replicate k z) e)
  cleared_twice (suc n) (x ∷ xs) =
      cleared_step n x xs ∙ ap (λ (ys : List A). x ∷ ys) (cleared_twice n xs)
      ∙ sym (ap (cleared_from z (suc n)) (cleared_step n x xs) ∙ cleared_step n x (cleared_from z n xs))

  -- Below the place nothing changes.
  pub cleared_below : (d : A) (n : ℕ) (xs : List A) (i : ℕ) → i < n → i < length xs → get_or (cleared_from z n xs) i d ≡ get_or xs i d
  cleared_below d zero xs i l m = absurd (let y : ⊥ = omega arith in y)
  cleared_below d (suc n) [] i l m = absurd (let y : ⊥ = omega arith in y)
  cleared_below d (suc n) (x ∷ xs) zero l m = ap (λ (ys : List A). get_or ys 0 d) (cleared_step n x xs)
  cleared_below d (suc n) (x ∷ xs) (suc i) l m = ap (λ (ys : List A). get_or ys (suc i) d) (cleared_step n x xs) ∙ cleared_below d n xs i (omega arith) (omega arith)

-- Buffers that were lent on hold what the store holds that they were lent in.
pub given_wiped : {b : Results} {words words' links links' : List ℕ} {trees trees' : Rows} → b ≡ wiped (record { words = words; links = links; trees = trees })
    → words ≡ words' → links ≡ links' → trees ≡ trees' → b ≡ wiped (record { words = words'; links = links'; trees = trees' })
given_wiped h e f g = rw (← e, ← f, ← g) h

-- Sizes

pub record Enough (most words links trees : ℕ) : Type 0 where
  pub words_enough : most + 2049 ≤ words
  pub links_enough : most ≤ links
  pub trees_enough : tree_rows most ≤ trees

pub enough : (most words links trees : ℕ) → is_short most words links trees ≡ false → Enough most words links trees
enough most words links trees e =
    by_less words (most + 2049) (λ l q. true_false (rw (lt-ltb words (most + 2049) l)) e) (λ l q.
    by_less links most (λ m p. true_false (rw (le-ltb words (most + 2049) l, lt-ltb links most m)) e) (λ m p.
    by_less trees (tree_rows most)
    (λ n o. true_false (rw (le-ltb words (most + 2049) l, le-ltb links most m, lt-ltb trees (tree_rows most) n)) e) (λ n o.
    record { words_enough = l; links_enough = m; trees_enough = n })))

-- What the expression is asked

module _ {text : List ℕ} {limits : Limits} {sg : SignatureStore} {rows : Rows} {at : ℕ} {b : Results} (h : Ready text limits sg rows at b) where
  abbrev most : ℕ
  most = most_words limits

  abbrev sizes : Enough most (length b.words) (length b.links) (length b.trees)
  sizes = enough most (length b.words) (length b.links) (length b.trees) h.lent

  pub words_used : sg.counts.words ≤ length sg.words
  words_used = h.readable.signature.words_lent

  working : (links : List ℕ) (stack : Rows) → links ≡ replicate (length b.links) 0 → length stack ≡ 2049 → Working b.words 0 most links b.trees stack
  working links stack e n =
      let z = sizes in let a = z.words_enough in let c = z.links_enough in
      let k : length links ≡ length b.links = ap length e ∙ length-replicate (length b.links) 0 in
      record {
        stored = record {
          formed = record { fits = λ i l. let y : ⊥ = omega arith in absurd y; arguments = λ i j l. let y : ⊥ = omega arith in absurd y };
          within = omega arith;
          low = omega arith;
        };
        fits = omega arith;
        low = omega arith;
        scratch = omega arith;
        linked = record { long = omega arith; clear = λ i. ap (λ (l : List ℕ). get_or l i 0) e ∙ zero_at (length b.links) i };
        rows = omega arith;
        listed = z.trees_enough;
      }

  pub expression_asked : (m : ℕ) → m ≡ most → (links : List ℕ) (stack : Rows) → links ≡ replicate (length b.links) 0 → length stack ≡ 2049
      → ExpressionAsked text rows at sg.symbols sg.counts.symbols sg.rules (pattern text sg h.readable.signature) 0 0 0 m
      b.words links b.trees stack
  expression_asked m q links stack e n =
      subst (λ (k : ℕ). ExpressionAsked text rows at sg.symbols sg.counts.symbols sg.rules (pattern text sg h.readable.signature) 0 0 0 k
      b.words links b.trees stack) (sym q) (record {
        wide = sg.counts.words;
        rules = rules_in text sg;
        tables = listed_tables text sg h.readable.signature;
        term = written_in h.readable;
        next = h.readable.next;
        stands = term_stands h.readable.term;
        working = working links stack e n;
        deep = omega arith;
        spent = omega arith;
      })

-- What is left

-- What an answer says of the expression.
pub missed : (o : Evaluated one) (q : ℕ) (refusal : Refusal) (words : List ℕ) (trees : Rows) (words' : List ℕ) (trees' : Rows) (limit : ℕ)
    → Evaluates o q (Err refusal) words trees words' trees' 0 limit 0 → o ≡ failed (number_of refusal)
missed (failed e) q refusal words trees words' trees' limit h = ap failed (sym h)
missed (evaluated v ps c) q refusal words trees words' trees' limit h = let e = h.1 in absurd (let z : ⊥ = cc in z)

record FoundAs (o : Evaluated one) (words : List ℕ) (trees : Rows) (words' : List ℕ) (trees' : Rows) (limit value calls used : ℕ) : Type 0 where
  pub result : Term
  pub made : Tree several
  pub comes : o ≡ evaluated result made (record { calls = calls; words = used })
  pub stands : Built words 0 limit words' result value used
  pub listed : Lists 0 0 words' used trees' 0 1 made calls

found : (o : Evaluated one) (q value next calls used : ℕ) (words : List ℕ) (trees : Rows) (words' : List ℕ) (trees' : Rows) (limit : ℕ)
    → Evaluates o q (expressed value next calls used) words trees words' trees' 0 limit 0 → FoundAs o words trees words' trees' limit value calls used
found (failed e) q value next calls used words trees words' trees' limit h = absurd h
found (evaluated v ps c) q value next calls used words trees words' trees' limit (x, e, s, t) =
    let a : x ≡ value = value_answer e in
    let d : c.calls ≡ calls = made_answer e in
    let f : c.words ≡ used = used_answer e in
    record {
      result = v;
      made = ps;
      comes = ap₂ (λ (m n : ℕ). evaluated v ps (record { calls = m; words = n })) d f;
      stands = subst (λ (n : ℕ). Built words 0 limit words' v value n) f (subst (λ (y : ℕ). Built words 0 limit words' v y c.words) a s);
      listed = subst (λ (n : ℕ). Lists 0 0 words' n trees' 0 1 ps calls) f (subst (λ (n : ℕ). Lists 0 0 words' c.words trees' 0 1 ps n) d t.lists);
    }

nothing_formed : (words arities : List ℕ) → in_form words 0 0 0 0 arities ≡ true
unfolding in_form
nothing_formed words arities = refl

module _ {text : List ℕ} {limits : Limits} {sg : SignatureStore} {rows : Rows} {at : ℕ} {b : Results} (h₀ : Ready text limits sg rows at b)
    {links : List ℕ} {answer : Result Expressed Refusal} {words' links' : List ℕ} {trees' : Rows}
    (most : ℕ) (is : most ≡ most_words limits) (cleared : links ≡ replicate (length b.links) 0)
    (answered : ExpressionAnswered text rows at sg.symbols sg.counts.symbols sg.rules (pattern text sg h₀.readable.signature) 0 0 0 most
    b.words links b.trees answer words' links' trees') where
  abbrev x : ExpressionAnswered text rows at sg.symbols sg.counts.symbols sg.rules (pattern text sg h₀.readable.signature) 0 0 0 (most_words limits)
      b.words links b.trees answer words' links' trees'
  x = subst (λ (k : ℕ). ExpressionAnswered text rows at sg.symbols sg.counts.symbols sg.rules (pattern text sg h₀.readable.signature) 0 0 0 k
      b.words links b.trees answer words' links' trees') is answered

  -- For each reading of the rows.
  evaluates : (h : Ready text limits sg rows at b)
      → Evaluates (evaluate_of (most_words limits) (signature_of text sg) (written_in h.readable)) h.readable.next answer b.words b.trees words' trees' 0 (most_words limits) 0
  unfolding signature_of
  evaluates h = x.says sg.counts.words (rules_in text sg) (listed_tables text sg h₀.readable.signature) (written_in h.readable) h.readable.next (term_stands h.readable.term) []

  links_length : length links ≡ length b.links
  links_length = ap length cleared ∙ length-replicate (length b.links) 0

  pub left_refused : (refusal : Refusal) → answer ≡ Err refusal → length trees' ≡ length b.trees → (b' : Results)
      → b' ≡ wiped (record { words = words'; links = links'; trees = trees' }) → EvaluationLeft text limits sg rows at b (Err refusal) b'
  left_refused refusal q n b' e h =
      let o = missed (evaluate_of (most_words limits) (signature_of text sg) (written_in h.readable)) h.readable.next refusal b.words b.trees words' trees' (most_words limits)
      (subst (λ (r : Result Expressed Refusal). Evaluates (evaluate_of (most_words limits) (signature_of text sg) (written_in h.readable)) h.readable.next r b.words b.trees words' trees' 0 (most_words limits) 0)
      q (evaluates h)) in
      let k = x.kept in
      let m : length links' ≡ length b.links = ap length x.restored ∙ links_length in
      subst (λ (y : Evaluated one). Left text sg b y (Err refusal) b') (sym o) (record {
        answer = refl;
        told = refl;
        left = e ∙ same_wiped k m n;
      })
    where
      same_wiped : length words' ≡ length b.words → length links' ≡ length b.links → length trees' ≡ length b.trees
          → wiped (record { words = words'; links = links'; trees = trees' }) ≡ wiped b
      same_wiped k m n = rw (k, m, n)

  -- The value is found.
  module _ (value next calls used : ℕ) (q : answer ≡ expressed value next calls used) (n : length trees' ≡ length b.trees) where
    abbrev ending : Results
    ending = record { words = cleared_from 0 used words'; links = links'; trees = cleared_from zero_tree calls trees' }

    ways : (h : Ready text limits sg rows at b)
        → FoundAs (evaluate_of (most_words limits) (signature_of text sg) (written_in h.readable)) b.words b.trees words' trees' (most_words limits) value calls used
    ways h =
        found (evaluate_of (most_words limits) (signature_of text sg) (written_in h.readable)) h.readable.next value next calls used b.words b.trees words' trees' (most_words limits)
        (subst (λ (r : Result Expressed Refusal). Evaluates (evaluate_of (most_words limits) (signature_of text sg) (written_in h.readable)) h.readable.next r b.words b.trees words' trees' 0 (most_words limits) 0)
        q (evaluates h))

    pub left_valued : {words'' links'' given_words : List ℕ} {trees'' given_trees : Rows}
        → words'' ≡ cleared_from 0 used given_words → trees'' ≡ cleared_from zero_tree calls given_trees
        → given_words ≡ words' → links'' ≡ links' → given_trees ≡ trees'
        → EvaluationLeft text limits sg rows at b (outcome value calls used) (record { words = words''; links = links''; trees = trees'' })
    left_valued {words''} {links''} {given_words} {trees''} {given_trees} e₁ e₃ f₁ e₂ f₃ h =
        let b' : Results = record { words = words''; links = links''; trees = trees'' } in
        let e : b' ≡ ending = together (e₁ ∙ ap (cleared_from 0 used) f₁) e₂ (e₃ ∙ ap (cleared_from zero_tree calls) f₃) in
        let f = ways h in
        let k = x.kept in
        let s = f.stands.stored in
        let w = s.within in
        let m : length (cleared_from 0 used words') ≡ length words' = cleared_length 0 used words' in
        let g : length (cleared_from zero_tree calls trees') ≡ length trees' = cleared_length zero_tree calls trees' in
        let same : Same 0 (cells words') (cells (cleared_from 0 used words')) used = λ i l. sym (cleared_below 0 0 used words' i l (omega arith)) in
        let t = n in
        subst (λ (y : Evaluated one). Left text sg b y (outcome value calls used) b') (sym f.comes)
        (subst (λ (z : Results). Valued text sg b f.result f.made (record { calls = calls; words = used }) (outcome value calls used) z) (sym e) (record {
          value = value;
          answer = refl;
          told = refl;
          formed = form_same words' (cleared_from 0 used words') 0 used 0 0 0 (arities_of (symbols_in text sg)) (omega arith) w (omega arith) (omega arith) same
              (x.forms (listed_headed text sg h₀.readable.signature) (nothing_formed b.words (arities_of (symbols_in text sg))) value next calls used q);
          root = reference_same 0 same f.stands.root;
          denotes = sym (frame_denote 0 (cells words') 0 used s.formed (cells (cleared_from 0 used words')) same value f.stands.root) ∙ f.stands.is;
          cleared = cleared_twice 0 used words';
          listed = lists_same 0 0 (cleared_from 0 used words') used trees' (cleared_from zero_tree calls trees') 0 1 f.made calls
              (λ j a c. cleared_row j c)
              (lists_grown 0 0 words' (cleared_from 0 used words') used used s.formed same (omega arith) trees' 0 1 f.made calls f.listed);
          trees_cleared = cleared_twice zero_tree calls trees';
          words_kept = m ∙ k;
          trees_kept = g ∙ n;
          links_zero = x.restored ∙ cleared;
        }))
      where
        together : {u u' l l' : List ℕ} {t t' : Rows} → u' ≡ u → l' ≡ l → t' ≡ t
            → ◌≡◌ {A = Results} (record { words = u'; links = l'; trees = t' }) (record { words = u; links = l; trees = t })
        together f g k = rw (f, g, k)

        -- Rows past the end are empty, cleared or not.
        cleared_row : (j : ℕ) → j < calls → get_or (cleared_from zero_tree calls trees') j [] ≡ get_or trees' j []
        cleared_row j c =
            by_less j (length trees') (λ l p. cleared_below zero_tree [] calls trees' j c l)
            (λ l p. let m : length (cleared_from zero_tree calls trees') ≡ length trees' = cleared_length zero_tree calls trees' in
            past (cleared_from zero_tree calls trees') j (omega arith) ∙ sym (past trees' j l))
          where
            past : (xs : Rows) (i : ℕ) → length xs ≤ i → get_or xs i [] ≡ []
            past [] i l = refl
            past (y ∷ ys) zero l = absurd (let z : ⊥ = omega arith in z)
            past (y ∷ ys) (suc i) l = past ys i (omega arith)
