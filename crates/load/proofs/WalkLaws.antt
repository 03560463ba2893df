-- Laws of entering declarations in text order: the declarations before a row are entered, and the others are left.
use Prim.Native.Nat.{ℕ, suc, ◌+◌, ◌*◌, ◌≤◌, ◌<◌}
use native.Mathlib.Omega.{arith}
use mathlib.Core.Path.{◌≡◌, refl, sym, ap, ap₂, ◌∙◌, subst}
use mathlib.Core.Bool.{Bool, true, false, cond}
use mathlib.Core.List.{List, [], ◌∷◌, ◌++◌, append_assoc, append-nil}
use lib.Dec.{eqb}
use lib.ListN.{length, take, set, length-append, length-set}
use lib.Seq.{take-suc-set, length-take-le}
use Rattle.term_parser.specs.Source.{Source, one, numeral, metavariable, name, application}
use Rattle.term_parser.specs.Rows.{rows_of, rows_of_all}
use Rattle.parser.specs.Source.{Declaration, sort, ctor, pred, rule, def, theorem, eval, check}
use Rattle.parser.specs.Declarations.{Declared}
use Rattle.parser.specs.Rows.{declared_rows}
use Rattle.names.specs.Symbols.{Rows, column, row_at, sorts_of, symbols_of}
use Rattle.loader.specs.Signature.{Signature, empty, Step, no, on, Loaded, refused, go_on, declare, load_from, load_of}
use Rattle.loader.specs.LegalLaws.{empty_legal}
use Rattle.loader.specs.Holding.{RulesKept}
use Rattle.loader.specs.PlaceLaws.{TitlesInside}
use Rattle.loader.specs.Stored.{Titles, untitled, entitled, titles_from, titles_of, symbol_rows, rule_rows, words_from}
use Rattle.declarations.specs.Held.{Held}
use Rattle.declarations.specs.Steps.{Stepped, DeclarationAt, DeclareDone}
use Rattle.declarations.specs.declared.State.{State}
use Rattle.std.specs.Prelude.{Result, Ok, Err}
use Rattle.refusals.specs.Refusals.{number_of}
use Rattle.refusals.specs.declared.Refusal.{Refusal}
use Rattle.declarations.specs.declared.Progress.{Progress}
use Rattle.declarations.proofs.DeclarationLaws.{first_row, kind_of}
use Rattle.load.specs.Load.{eval_of, evals_from, noted, Came}

-- Storage with nothing entered holds the empty signature.
pub held_none : (text : List ℕ) (limit : ℕ) (sorts symbols rules : Rows) (words : List ℕ) → 256 ≤ length sorts → 1024 ≤ length symbols → 1024 ≤ length rules → 2 * limit ≤ length words
    → limit ≤ 32768 → Held text limit untitled empty sorts symbols rules words (record { sorts = 0; symbols = 0; rules = 0; used = 0; left = limit })
unfolding sorts_of symbols_of RulesKept symbol_rows rule_rows words_from
held_none text limit sorts symbols rules words a b c d e =
    record {
      names = record {
        sorts_lent = a;
        symbols_lent = b;
        few_sorts = omega arith;
        few_symbols = omega arith;
        sorts_are = refl;
        symbols_are = refl;
        sorts_inside = λ i l. absurd (omega arith);
        symbols_inside = λ i l. absurd (omega arith);
        shaped = λ i l. absurd (omega arith);
        exact = record { sorts_are_lem = refl; symbols_are_lem = refl; number = refl };
      };
      kept = record {
        rules_lent = c;
        words_lent = d;
        limited = e;
        rules_are = refl;
        number = refl;
        few_rules = omega arith;
        left = omega arith;
        fits = omega arith;
        formed = record { fits = λ x l. absurd (omega arith); arguments = λ x i l. absurd (omega arith) };
        rules_inside = λ i l. absurd (omega arith);
        exact = record { rows_are = refl; words_are = refl; number = refl };
      };
      legal = empty_legal;
    }

-- The declarations before the number i are entered; those from the row p on are left.
pub record Sofar (text : List ℕ) (limit : ℕ) (rows : Rows) (n : ℕ) (sorts symbols rules : Rows) (words : List ℕ) (evals : Rows) (st : State) (count p i : ℕ) (all : Titles) (waiting : Rows) (whole : Loaded) : Type 0 where
  pub titles : Titles
  pub signature : Signature
  pub before : Rows
  pub rest : List Declared
  pub split : rows ≡ before ++ rows_of_all declared_rows rest
  pub from : length before ≡ p
  pub inside : TitlesInside text rest
  pub number : i + length rest ≡ n
  pub titled : all ≡ titles_from titles rest
  pub held : Held text limit titles signature sorts symbols rules words st
  pub same : whole ≡ load_from limit text signature rest
  pub waits : waiting ≡ take count evals ++ evals_from p rest
  pub few : 2 * count ≤ p
  pub lent : length rows ≤ 2 * length evals + 1

abbrev pub Everywhere : List ℕ → ℕ → Rows → ℕ → Rows → Rows → Rows → List ℕ → Rows → State → ℕ → ℕ → ℕ → Type 0
Everywhere text limit rows n sorts symbols rules words evals st count p i =
    (ds : List Declared) → rows ≡ rows_of_all declared_rows ds → n ≡ length ds → TitlesInside text ds
    → Sofar text limit rows n sorts symbols rules words evals st count p i (titles_of ds) (evals_from 0 ds) (load_of limit text ds)

pub sofar_start : {text : List ℕ} {limit : ℕ} {rows : Rows} {n : ℕ} {sorts symbols rules : Rows} {words : List ℕ} {evals : Rows} → length rows ≤ 2 * length evals + 1
    → Held text limit untitled empty sorts symbols rules words (record { sorts = 0; symbols = 0; rules = 0; used = 0; left = limit })
    → Everywhere text limit rows n sorts symbols rules words evals (record { sorts = 0; symbols = 0; rules = 0; used = 0; left = limit }) 0 0 0
sofar_start l h ds e m t =
    record {
      titles = untitled;
      signature = empty;
      before = [];
      rest = ds;
      split = e;
      from = refl;
      inside = t;
      number = omega arith;
      titled = refl;
      held = h;
      same = refl;
      waits = refl;
      few = omega arith;
      lent = l;
    }

-- A term takes a row at least.
term_row : (t : Source one) → 1 ≤ length (rows_of t)
unfolding rows_of
term_row (numeral p v) = omega arith
term_row (metavariable p) = omega arith
term_row (name p) = omega arith
term_row (application p ts) = omega arith

-- The `#eval` that is kept is the declaration's, if it is one.
noted_is : (e : Declaration) (line p count : ℕ) (evals : Rows) → (kind_of e ≡ 10 → count < length evals)
    → take (cond (eqb (kind_of e) 10) (count + 1) count) (noted evals count (kind_of e) line p) ≡ take count evals ++ eval_of p line e
noted_is (sort n) line p count evals h = sym (append-nil (take count evals))
noted_is (ctor n ss) line p count evals h = sym (append-nil (take count evals))
noted_is (pred n ss) line p count evals h = sym (append-nil (take count evals))
noted_is (rule n js) line p count evals h = sym (append-nil (take count evals))
noted_is (def n ss cs) line p count evals h = sym (append-nil (take count evals))
noted_is (theorem n bs js t) line p count evals h = sym (append-nil (take count evals))
noted_is (eval t) line p count evals h =
    let o : count + 1 ≡ suc count = omega arith in
    ap (λ (k : ℕ). take k (set evals count (line ∷ (p + 1) ∷ []))) o ∙ take-suc-set evals count (line ∷ (p + 1) ∷ []) (h refl)
noted_is (check t) line p count evals h = sym (append-nil (take count evals))

noted_few : (e : Declaration) (line p count : ℕ) → 2 * count ≤ p → 2 * cond (eqb (kind_of e) 10) (count + 1) count ≤ p + length (declared_rows (record { line = line; declaration = e }))
noted_few (sort n) line p count l = omega arith
noted_few (ctor n ss) line p count l = omega arith
noted_few (pred n ss) line p count l = omega arith
noted_few (rule n js) line p count l = omega arith
noted_few (def n ss cs) line p count l = omega arith
noted_few (theorem n bs js t) line p count l = omega arith
noted_few (eval t) line p count l = let r = term_row t in omega arith
noted_few (check t) line p count l = omega arith

-- An `#eval` takes two rows at least.
eval_rows : (e : Declaration) (line : ℕ) → kind_of e ≡ 10 → 2 ≤ length (declared_rows (record { line = line; declaration = e }))
eval_rows (sort n) line k = absurd (omega arith)
eval_rows (ctor n ss) line k = absurd (omega arith)
eval_rows (pred n ss) line k = absurd (omega arith)
eval_rows (rule n js) line k = absurd (omega arith)
eval_rows (def n ss cs) line k = absurd (omega arith)
eval_rows (theorem n bs js t) line k = absurd (omega arith)
eval_rows (eval t) line k = let r = term_row t in omega arith
eval_rows (check t) line k = absurd (omega arith)

noted_length : (b : Bool) (evals : Rows) (count : ℕ) (x : List ℕ) → length (cond b (set evals count x) evals) ≡ length evals
noted_length true evals count x = length-set evals count x
noted_length false evals count x = refl

-- A declaration stands at the row p, and others behind it.
at_row : {text : List ℕ} {rows : Rows} {p : ℕ} (before : Rows) (d : Declared) (ds : List Declared) → rows ≡ before ++ rows_of_all declared_rows (d ∷ ds) → length before ≡ p → TitlesInside text (d ∷ ds)
    → DeclarationAt text rows p d (p + length (declared_rows d))
unfolding rows_of_all
at_row before d ds e f t = record { before = before; after = rows_of_all declared_rows ds; split = e; from = f; to = refl; inside = t.0 }

module _ {text : List ℕ} {limit : ℕ} {rows : Rows} {n : ℕ} {sorts symbols rules : Rows} {words : List ℕ} {evals : Rows} {st : State} {count p i : ℕ} {all : Titles} {waiting : Rows} {whole : Loaded} where
  pub sofar_declaration : Sofar text limit rows n sorts symbols rules words evals st count p i all waiting whole → i < n → (d : Declared) × (q : ℕ) × DeclarationAt text rows p d q
  sofar_declaration g l = go g.rest g.split g.inside g.number
    where
      go : (ds : List Declared) → rows ≡ g.before ++ rows_of_all declared_rows ds → TitlesInside text ds → i + length ds ≡ n → (d : Declared) × (q : ℕ) × DeclarationAt text rows p d q
      go [] e t m = absurd (omega arith)
      go (d ∷ ds) e t m = (d, p + length (declared_rows d), at_row g.before d ds e g.from t)

  module _ {r : Result Progress Refusal} {sorts' symbols' rules' : Rows} {words' : List ℕ} (done : DeclareDone text rows p sorts symbols rules words st r sorts' symbols' rules' words') where
    -- It is refused, at its line, and so is the text.
    sofar_refused : {e : Refusal} → Sofar text limit rows n sorts symbols rules words evals st count p i all waiting whole → i < n → r ≡ Err e → whole ≡ refused (number_of e) (column (row_at rows p) 1)
    unfolding load_from
    sofar_refused {e} g l z = go g.rest g.split g.inside g.number g.same
      where
        step : (ts : Titles) (x : Step) (q : ℕ) → Stepped text limit ts x q sorts' symbols' rules' words' r → x ≡ no (number_of e)
        step ts (no f) q h = let g : number_of e ≡ f = rw z at h in ap no (sym g)
        step ts (on t) q h = absurd (let d = h.1 in let w : ◌≡◌ {A = ℕ} 0 1 = cc in omega arith)

        go : (ds : List Declared) → rows ≡ g.before ++ rows_of_all declared_rows ds → TitlesInside text ds → i + length ds ≡ n → whole ≡ load_from limit text g.signature ds
            → whole ≡ refused (number_of e) (column (row_at rows p) 1)
        go [] e t m w = absurd (omega arith)
        go (d ∷ ds) s t m w =
            let a = at_row g.before d ds s g.from t in
            let h = step (entitled g.titles d.declaration) (declare limit text g.signature d.declaration) (p + length (declared_rows d)) (done.same limit g.titles g.signature g.held d _ a) in
            w ∙ ap (λ (x : Step). go_on x d.line (λ (u : Signature). load_from limit text u ds)) h ∙ ap (refused (number_of e)) (sym (first_row a).line)

    pub sofar_stops : {e : Refusal} → Sofar text limit rows n sorts symbols rules words evals st count p i all waiting whole → i < n → r ≡ Err e
        → (sorts₁ symbols₁ rules₁ : Rows) (words₁ : List ℕ) (evals₁ : Rows) → Came text limit all waiting whole (Err (record { refusal = e; line = column (row_at rows p) 1 })) sorts₁ symbols₁ rules₁ words₁ evals₁
    sofar_stops {e} g l z sorts₁ symbols₁ rules₁ words₁ evals₁ =
        subst (λ (x : Loaded). Came text limit all waiting x (Err (record { refusal = e; line = column (row_at rows p) 1 })) sorts₁ symbols₁ rules₁ words₁ evals₁) (sym (sofar_refused g l z)) (refl, refl)

    -- It is entered, and the others are left.
    pub sofar_on : {next : ℕ} {st' : State} → Sofar text limit rows n sorts symbols rules words evals st count p i all waiting whole → i < n → r ≡ Ok (record { next = next; state = st' })
        → Sofar text limit rows n sorts' symbols' rules' words' (noted evals count (column (row_at rows p) 0) (column (row_at rows p) 1) p) st' (cond (eqb (column (row_at rows p) 0) 10) (count + 1) count) next (i + 1) all waiting whole
    unfolding load_from titles_from evals_from rows_of_all
    sofar_on {next} {st'} g l z = go g.rest g.split g.inside g.number g.titled g.same g.waits
      where
        step : (ts : Titles) (x : Step) (q : ℕ) → Stepped text limit ts x q sorts' symbols' rules' words' r → (t : Signature) × (x ≡ on t) × (next ≡ q) × Held text limit ts t sorts' symbols' rules' words' st'
        step ts (no f) q h = absurd (rw z at h)
        step ts (on t) q h =
            let d : ◌≡◌ {A = Result Progress Refusal} (Ok (record { next = q; state = h.0 })) (Ok (record { next = next; state = st' })) = sym h.1 ∙ z in
            let y : ◌≡◌ {A = Progress} (record { next = q; state = h.0 }) (record { next = next; state = st' }) = cc in
            let a : h.0 ≡ st' = ap (λ (x : Progress). x.state) y in
            let b : next ≡ q = sym (ap (λ (x : Progress). x.next) y) in
            (t, refl, b, rw (← a) h.2)

        turn : (d : Declared) (ds : List Declared) → rows ≡ g.before ++ (declared_rows d ++ rows_of_all declared_rows ds) → DeclarationAt text rows p d (p + length (declared_rows d)) → TitlesInside text ds
            → i + suc (length ds) ≡ n → all ≡ titles_from (entitled g.titles d.declaration) ds → whole ≡ go_on (declare limit text g.signature d.declaration) d.line (λ t. load_from limit text t ds)
            → waiting ≡ take count evals ++ (eval_of p d.line d.declaration ++ evals_from (p + length (declared_rows d)) ds)
            → (t : Signature) → declare limit text g.signature d.declaration ≡ on t → next ≡ p + length (declared_rows d)
            → Held text limit (entitled g.titles d.declaration) t sorts' symbols' rules' words' st'
            → Sofar text limit rows n sorts' symbols' rules' words' (noted evals count (column (row_at rows p) 0) (column (row_at rows p) 1) p) st' (cond (eqb (column (row_at rows p) 0) 10) (count + 1) count) next (i + 1) all waiting whole
        turn d ds s a t m ti w v u e x held =
            let f = first_row a in
            let here : Rows = declared_rows d in
            let lh : length (g.before ++ here) ≡ length g.before + length here = length-append g.before here in
            let gf = g.from in
            let fits : p + length here ≤ length rows = (let y = ap length s ∙ length-append g.before (here ++ rows_of_all declared_rows ds) in let y₁ = length-append here (rows_of_all declared_rows ds) in omega arith) in
            let room : kind_of d.declaration ≡ 10 → count < length evals = λ k. (let b = eval_rows d.declaration d.line k in let c = g.few in let o = g.lent in omega arith) in
            let nt = noted_is d.declaration d.line p count evals room in
            let fw = noted_few d.declaration d.line p count g.few in
            let ln = noted_length (eqb (kind_of d.declaration) 10) evals count (d.line ∷ (p + 1) ∷ []) in
            let gl = g.lent in
            rw (f.kind, f.line) (record {
              titles = entitled g.titles d.declaration;
              signature = u;
              before = g.before ++ here;
              rest = ds;
              split = s ∙ sym (append_assoc g.before here (rows_of_all declared_rows ds));
              from = omega arith;
              inside = t;
              number = omega arith;
              titled = ti;
              held = held;
              same = w ∙ ap (λ (y : Step). go_on y d.line (λ (o : Signature). load_from limit text o ds)) e;
              waits = v ∙ sym (append_assoc (take count evals) (eval_of p d.line d.declaration) (evals_from (p + length here) ds))
                  ∙ ap₂ (λ (y : Rows) (k : ℕ). y ++ evals_from k ds) (sym nt) (sym x);
              few = omega arith;
              lent = omega arith;
            })

        go : (ds : List Declared) → rows ≡ g.before ++ rows_of_all declared_rows ds → TitlesInside text ds → i + length ds ≡ n → all ≡ titles_from g.titles ds
            → whole ≡ load_from limit text g.signature ds → waiting ≡ take count evals ++ evals_from p ds
            → Sofar text limit rows n sorts' symbols' rules' words' (noted evals count (column (row_at rows p) 0) (column (row_at rows p) 1) p) st' (cond (eqb (column (row_at rows p) 0) 10) (count + 1) count) next (i + 1) all waiting whole
        go [] s t m ti w v = absurd (omega arith)
        go (d ∷ ds) s t m ti w v =
            let a = at_row g.before d ds s g.from t in
            let h = step (entitled g.titles d.declaration) (declare limit text g.signature d.declaration) (p + length (declared_rows d)) (done.same limit g.titles g.signature g.held d _ a) in
            turn d ds s a t.1 m ti w v h.0 h.1 h.2 h.3

  -- No declaration is left.
  pub sofar_end : Sofar text limit rows n sorts symbols rules words evals st count p i all waiting whole → n ≤ i → Came text limit all waiting whole (Ok (record { state = st; evals = count })) sorts symbols rules words evals
  unfolding load_from titles_from evals_from
  sofar_end g l = go g.rest g.split g.number g.titled g.same g.waits
    where
      go : (ds : List Declared) → rows ≡ g.before ++ rows_of_all declared_rows ds → i + length ds ≡ n → all ≡ titles_from g.titles ds → whole ≡ load_from limit text g.signature ds
          → waiting ≡ take count evals ++ evals_from p ds → Came text limit all waiting whole (Ok (record { state = st; evals = count })) sorts symbols rules words evals
      go [] s m ti w v =
          let e : waiting ≡ take count evals = v ∙ append-nil (take count evals) in
          let a = ap length s ∙ length-append g.before (rows_of_all declared_rows []) in
          let b = g.from in
          let c = g.few in
          let o = g.lent in
          let k : count ≤ length evals = omega arith in
          let m : length waiting ≡ count = ap length e ∙ length-take-le count evals k in
          subst (λ (x : Loaded). Came text limit all waiting x (Ok (record { state = st; evals = count })) sorts symbols rules words evals) (sym w)
          (record { state = st; is = ap (λ (k : ℕ). Ok (record { state = st; evals = k })) (sym m); held = rw ti g.held; lent = omega arith; waits = ap (λ (x : ℕ). take x evals) m ∙ sym e })
      go (d ∷ ds) s m ti w v = absurd (omega arith)

-- Each `#eval` takes two rows at least.
eval_few : (e : Declaration) (line p : ℕ) → 2 * length (eval_of p line e) ≤ length (declared_rows (record { line = line; declaration = e }))
eval_few (sort n) line p = omega arith
eval_few (ctor n ss) line p = omega arith
eval_few (pred n ss) line p = omega arith
eval_few (rule n js) line p = omega arith
eval_few (def n ss cs) line p = omega arith
eval_few (theorem n bs js t) line p = omega arith
eval_few (eval t) line p = let r = term_row t in omega arith
eval_few (check t) line p = omega arith

pub evals_few : (ds : List Declared) (p : ℕ) → 2 * length (evals_from p ds) ≤ length (rows_of_all declared_rows ds)
unfolding evals_from rows_of_all
evals_few [] p = omega arith
evals_few (d ∷ ds) p =
    let a = eval_few d.declaration d.line p in
    let b = evals_few ds (p + length (declared_rows d)) in
    let c = length-append (eval_of p d.line d.declaration) (evals_from (p + length (declared_rows d)) ds) in
    let e = length-append (declared_rows d) (rows_of_all declared_rows ds) in
    omega arith
