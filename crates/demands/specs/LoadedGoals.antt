-- The goals of a loaded text (document 01, "Terms and declarations": `#eval` terms wait until everything is loaded): each row of `evals`
-- that
-- `load` leaves has the line and the row of one `#eval`, and from that row on there are the rows of a goal, which is the one written there.
use Rattle.std.specs.Prelude.{ℕ, zero, suc, ◌+◌, ◌<◌, ◌≡◌, refl, Ok, List, [], ◌∷◌, ◌++◌, length, get_or}
use Rattle.std.proofs.Common.{arith, ap, subst, ◌∙◌, length-append}
use Rattle.std.proofs.Math.ListN.{get_or-append}
use Rattle.words.specs.declared.Limits.{Limits}
use Rattle.terms.specs.Numbers.{by_bool}
use Rattle.term_parser.specs.Source.{Source, one}
use Rattle.term_parser.specs.Parsing.{Parsed, parsed, absent, refused as barred}
use Rattle.term_parser.specs.Rows.{rows_of_all}
use Rattle.term_parser.specs.Standing.{spelled}
use Rattle.parser.specs.Source.{Declaration, sort, ctor, pred, rule, def, theorem, eval, check}
use Rattle.parser.specs.Declarations.{Declared}
use Rattle.parser.specs.Rows.{declared_rows}
use Rattle.parser.specs.Parser.{text_of, rows_after}
use Rattle.names.specs.Symbols.{Rows, row_at}
use Rattle.loader.specs.Signature.{Loaded, refused, loaded}
use Rattle.loader.specs.Stored.{words_from}
use Rattle.signature.specs.declared.Counts.{Counts}
use Rattle.load_storage.specs.Storage.{Buffers, too_short}
use Rattle.load.specs.Load.{Loading, RejectedBy, declared_in, load_text, eval_of, evals_from}
use Rattle.load.specs.Loading.{Left, LoadingText}
use Rattle.load.specs.LoadedLaws.{rows_are, evals_are}
use Rattle.load.specs.declared.Loaded.{Loaded as AllLoaded}
use Rattle.term_check.specs.TermRows.{TermAt}
use Rattle.sessions.specs.Goals.{goal_in}
use Rattle.sessions.specs.GoalRowLaws.{goal_rows, goal_written}

-- The row of an `#eval` of the declarations ds: its line, and a row from which on there are the rows of its term.
pub record GoalLoaded (text : List ℕ) (ds : List Declared) (rows : Rows) (row : List ℕ) : Type 0 where
  pub line : ℕ
  pub term : Source one
  pub before : List Declared
  pub after : List Declared
  pub among : ds ≡ before ++ (record { line = line; declaration = eval term } ∷ after)
  pub at : ℕ
  pub next : ℕ
  pub is : row ≡ line ∷ at ∷ []
  pub goal : TermAt text rows at next
  -- and whoever reads a goal there reads this term.
  pub reads : (q : ℕ) (g : TermAt text rows at q) → goal_in g ≡ spelled text term

-- Where an `#eval` stands among declarations whose rows start at p.
record Waiting (p : ℕ) (ds : List Declared) (row : List ℕ) : Type 0 where
  line : ℕ
  term : Source one
  before : List Declared
  after : List Declared
  among : ds ≡ before ++ (record { line = line; declaration = eval term } ∷ after)
  is : row ≡ line ∷ (p + length (rows_of_all declared_rows before) + 1) ∷ []

-- Behind one declaration more.
waiting_behind : (p : ℕ) (d : Declared) (ds : List Declared) (row : List ℕ) → Waiting (p + length (declared_rows d)) ds row
    → Waiting p (d ∷ ds) row
unfolding rows_of_all
waiting_behind p d ds row w =
    let n = length-append (declared_rows d) (rows_of_all declared_rows w.before) in
    let e : p + length (declared_rows d) + length (rows_of_all declared_rows w.before) + 1
    ≡ p + length (rows_of_all declared_rows (d ∷ w.before)) + 1 = omega arith in
    record {
      line = w.line;
      term = w.term;
      before = d ∷ w.before;
      after = w.after;
      among = ap (λ (l : List Declared). d ∷ l) w.among;
      is = w.is ∙ ap (λ (i : ℕ). w.line ∷ i ∷ []) e;
    }

waiting_at : (p : ℕ) (ds : List Declared) (i : ℕ) → i < length (evals_from p ds) → Waiting p ds (get_or (evals_from p ds) i [])
unfolding evals_from rows_of_all
waiting_at p [] i l = absurd (omega arith)
waiting_at p (d ∷ ds) i l = go d.line d.declaration (λ j m. waiting_at (p + length (declared_rows d)) ds j m) i l
  where
    Rest : Declared → Type 0
    Rest d = (j : ℕ) → j < length (evals_from (p + length (declared_rows d)) ds)
        → Waiting (p + length (declared_rows d)) ds (get_or (evals_from (p + length (declared_rows d)) ds) j [])

    past : (d : Declared) → Rest d → (i : ℕ) → i < length (evals_from (p + length (declared_rows d)) ds)
        → Waiting p (d ∷ ds) (get_or (evals_from (p + length (declared_rows d)) ds) i [])
    past d rest i l = waiting_behind p d ds (get_or (evals_from (p + length (declared_rows d)) ds) i []) (rest i l)

    go : (line : ℕ) (e : Declaration) → Rest (record { line = line; declaration = e }) → (i : ℕ)
        → i < length (eval_of p line e ++ evals_from (p + length (declared_rows (record { line = line; declaration = e }))) ds)
        → Waiting p (record { line = line; declaration = e } ∷ ds)
        (get_or (eval_of p line e ++ evals_from (p + length (declared_rows (record { line = line; declaration = e }))) ds) i [])
    go line (sort n) rest i l = past (record { line = line; declaration = sort n }) rest i l
    go line (ctor n ss) rest i l = past (record { line = line; declaration = ctor n ss }) rest i l
    go line (pred n ss) rest i l = past (record { line = line; declaration = pred n ss }) rest i l
    go line (rule n js) rest i l = past (record { line = line; declaration = rule n js }) rest i l
    go line (def n ss cs) rest i l = past (record { line = line; declaration = def n ss cs }) rest i l
    go line (theorem n bs js t) rest i l = past (record { line = line; declaration = theorem n bs js t }) rest i l
    go line (check t) rest i l = past (record { line = line; declaration = check t }) rest i l
    go line (eval t) rest zero l =
        let e : p + 1 ≡ p + 0 + 1 = omega arith in
        record {
          line = line;
          term = t;
          before = [];
          after = ds;
          among = refl;
          is = ap (λ (i : ℕ). line ∷ i ∷ []) e;
        }
    go line (eval t) rest (suc i) l = past (record { line = line; declaration = eval t }) rest i (omega arith)

-- A row of the waiting `#eval` of a parsed text.
parsed_goal : (text : List ℕ) (limits : Limits) (m : ℕ) (o : Parsed (List Declared)) → text_of text limits ≡ o → (i : ℕ)
    → i < length (evals_from 0 (declared_in o))
    → GoalLoaded text (declared_in o) (rows_after m (text_of text limits)) (get_or (evals_from 0 (declared_in o)) i [])
unfolding evals_from
parsed_goal text limits m (parsed ds n) e i l =
    let w = waiting_at 0 ds i l in
    let q : text_of text limits ≡ parsed (w.before ++ (record { line = w.line; declaration = eval w.term } ∷ w.after)) n =
    e ∙ ap (λ (x : List Declared). parsed x n) w.among in
    let z : 0 + length (rows_of_all declared_rows w.before) + 1 ≡ length (rows_of_all declared_rows w.before) + 1 = omega arith in
    record {
      line = w.line;
      term = w.term;
      before = w.before;
      after = w.after;
      among = w.among;
      at = length (rows_of_all declared_rows w.before) + 1;
      next = _;
      is = w.is ∙ ap (λ (x : ℕ). w.line ∷ x ∷ []) z;
      goal = goal_rows text w.before w.after w.line w.term n m limits q;
      reads = goal_written text w.before w.after w.line w.term n m limits q;
    }
parsed_goal text limits m absent e i l = absurd (omega arith)
parsed_goal text limits m (barred r line) e i l = absurd (omega arith)

-- Each of the rows of `#eval` that `load` counts.
pub loaded_goal : (text : List ℕ) (limits : Limits) (b b' : Buffers) (r : Loading) → LoadingText text limits b r b'
    → (l : AllLoaded) → r ≡ Ok l → (i : ℕ) → i < l.evals
    → GoalLoaded text (declared_in (text_of text limits)) b'.rows (row_at b'.evals i)
loaded_goal text limits b b' r done l q i below = by_bool (too_short limits b)
    (λ e. absurd (subst (λ (x : Loading). RejectedBy 1 0 x) q (done.short e).0))
    (λ e. go (load_text text limits) (done.enough e))
  where
    ds : List Declared
    ds = declared_in (text_of text limits)

    go : (o : Loaded) → Left text limits b ds o r b' → GoalLoaded text ds b'.rows (row_at b'.evals i)
    go (refused e line) h = absurd (subst (λ (x : Loading). RejectedBy e line x) q h.0)
    go (loaded s) h =
        let counts : Counts = record {
          sorts = length s.sorts;
          symbols = length s.symbols;
          rules = length s.rules;
          words = length (words_from s.rules 0);
        } in
        let stored : AllLoaded = record { declarations = length ds; evals = length (evals_from 0 ds); counts = counts } in
        let a = h.answer in
        let same : stored ≡ l = cc in
        let count : length (evals_from 0 ds) ≡ l.evals = ap (λ (x : AllLoaded). x.evals) same in
        let short : i < length (evals_from 0 ds) = omega arith in
        let row : row_at b'.evals i ≡ get_or (evals_from 0 ds) i [] =
        ap (λ (x : Rows). row_at x i) (evals_are h) ∙ get_or-append (evals_from 0 ds) _ [] i short in
        rw (row, rows_are h) (parsed_goal text limits (length b.rows) (text_of text limits) refl i short)
