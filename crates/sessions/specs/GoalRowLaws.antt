-- The goals of a text (document 01, "Terms and declarations": `#eval` terms wait until everything is loaded): in the rows that `parse_text`
-- and `load` leave, the rows of each `#eval` are those of a goal, and of no other than the one that is written.
use Rattle.std.specs.Prelude.{ℕ, ◌+◌, ◌-◌, ◌≤◌, ◌≡◌, refl, drop}
use Rattle.std.proofs.Common.{arith, sym, ◌∙◌, length-append, drop_at}
use Rattle.std.proofs.Math.Path.{ap}
use mathlib.Core.List.{List, [], ◌∷◌, ◌++◌, append_assoc}
use Rattle.std.proofs.Math.ListN.{length, replicate}
use Rattle.words.specs.Tokens.{Reading}
use Rattle.words.specs.Tokens.Reading.{tokens, refused as unread}
use Rattle.words.specs.Lexer.{capped_of, lex_of, zero_row}
use Rattle.words.specs.declared.Limits.{Limits}
use Rattle.term_parser.specs.Source.{Source, one}
use Rattle.term_parser.specs.Parsing.{Tokens, Parsed, parsed}
use Rattle.term_parser.specs.Rows.{Rows, rows_of, rows_of_all}
use Rattle.term_parser.specs.ReaderLaws.{Each}
use Rattle.term_parser.specs.ListLaws.{each_here, all_append}
use Rattle.term_parser.specs.Depth.{depth}
use Rattle.term_parser.specs.Standing.{spelled}
use Rattle.parser.specs.Source.{eval}
use Rattle.parser.specs.Declarations.{Declared, parse_of}
use Rattle.parser.specs.Rows.{declared_rows}
use Rattle.parser.specs.Parser.{rows_after, parsed_text, text_of}
use Rattle.parser.specs.Depth.{ShallowDeclared, parse_shallow}
use Rattle.whole_words.specs.Words.{TokenWhole}
use Rattle.whole_words.proofs.TokensWhole.{tokens_whole}
use Rattle.term_check.specs.TermRows.{Worded, TermAt}
use Rattle.term_check.specs.TermLaws.{term_one}
use Rattle.term_check.specs.ParsedTerms.{Evaluable, parsed_evaluable}
use Rattle.sessions.specs.Goals.{goal_in}

-- The rows of a term, behind other rows, are that term's.
placed : (text : List ℕ) (before after : Rows) (t : Source one) {p : ℕ} → length before ≡ p → Worded text t → depth t ≤ 131
    → (h : TermAt text (before ++ (rows_of t ++ after)) p (p + length (rows_of t))) × (h.term ≡ t)
placed text before after t {p} e w d =
    let l = length-append before (rows_of t) in
    let behind : drop (p + length (rows_of t)) (before ++ (rows_of t ++ after)) ≡ after =
    ap (drop (p + length (rows_of t))) (sym (append_assoc before (rows_of t) after))
    ∙ drop_at (before ++ rows_of t) after (p + length (rows_of t)) (omega arith) in (
      record {
        term = t;
        lies = record {
          are = drop_at before (rows_of t ++ after) p e ∙ ap (λ (r : Rows). rows_of t ++ r) (sym behind);
          ends = refl;
        };
        worded = w;
        shallow = d;
      },
      refl,
    )

-- The declarations `before` take the first rows, then comes the row of the `#eval`, and then its term.
module _ (text : List ℕ) (before after : List Declared) (line : ℕ) (t : Source one) (n m : ℕ) where
  abbrev evaluation : Declared
  evaluation = record { line = line; declaration = eval t }

  abbrev first : Rows
  first = rows_of_all declared_rows before

  rows_there : (ts : Tokens) → Each (TokenWhole text) ts → (o : Parsed (List Declared)) → parse_of text ts ≡ o
      → o ≡ parsed (before ++ (evaluation ∷ after)) n
      → (h : TermAt text (rows_after m o) (length first + 1) (length first + 1 + length (rows_of t))) × (h.term ≡ t)
  unfolding rows_of_all
  rows_there ts w o e f =
      let ds : List Declared = before ++ (evaluation ∷ after) in
      let good : Worded text t =
      each_here (λ d. Evaluable text d.declaration) before evaluation after (parsed_evaluable text ts ds n w (e ∙ f)) in
      let flat : depth t ≤ 131 = each_here ShallowDeclared before evaluation after (parse_shallow text ts ds n (e ∙ f)) in
      let top : Rows = (10 ∷ line ∷ 0 ∷ 0 ∷ []) ∷ [] in
      let padding : Rows = replicate (m - length (rows_of_all declared_rows ds)) zero_row in
      let rest : Rows = rows_of_all declared_rows after ++ padding in
      let a : rows_of_all declared_rows ds ≡ first ++ (top ++ (rows_of t ++ rows_of_all declared_rows after)) =
      all_append declared_rows before (evaluation ∷ after) in
      let b : rows_after m o ≡ (first ++ top) ++ (rows_of t ++ rest) =
      ap (rows_after m) f ∙ ap (λ (r : Rows). r ++ padding) a ∙ simp append_assoc in
      rw b (placed text (first ++ top) rest t (length-append first top) good flat)

  there : (limits : Limits) → text_of text limits ≡ parsed (before ++ (evaluation ∷ after)) n
      → (h : TermAt text (rows_after m (text_of text limits)) (length first + 1) (length first + 1 + length (rows_of t))) × (h.term ≡ t)
  there limits e = go (lex_of (capped_of limits).text text) refl e
    where
      go : (x : Reading) → lex_of (capped_of limits).text text ≡ x → parsed_text text x ≡ parsed (before ++ (evaluation ∷ after)) n
          → (h : TermAt text (rows_after m (parsed_text text x)) (length first + 1) (length first + 1 + length (rows_of t))) × (h.term ≡ t)
      go (tokens ts) l f = rows_there ts (tokens_whole (capped_of limits).text text ts l).whole (parse_of text ts) refl f
      go (unread r k) l f = absurd (let z : ◌≡◌ {A = ℕ} 0 1 = cc in omega arith)

  -- Of the m rows that are left, those from the row behind the `#eval`'s own on are those of a goal,
  pub goal_rows : (limits : Limits) → text_of text limits ≡ parsed (before ++ (evaluation ∷ after)) n
      → TermAt text (rows_after m (text_of text limits)) (length first + 1) (length first + 1 + length (rows_of t))
  goal_rows limits e = (there limits e).0

  -- and whoever reads a goal there reads the one that is written.
  pub goal_written : (limits : Limits) → text_of text limits ≡ parsed (before ++ (evaluation ∷ after)) n → (next : ℕ)
      (g : TermAt text (rows_after m (text_of text limits)) (length first + 1) next) → goal_in g ≡ spelled text t
  goal_written limits e next g = let h = there limits e in ap (spelled text) ((term_one g h.0).0 ∙ h.1)
