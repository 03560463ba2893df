-- Laws of declarations in rows: what stands in the first two rows and behind them, by kind.
use Prim.Native.Nat.{ℕ, suc, ◌+◌, ◌≤◌}
use native.Mathlib.Omega.{arith}
use mathlib.Core.Path.{◌≡◌, refl, sym, ap, ap₂, ◌∙◌, subst}
use mathlib.Core.List.{List, [], ◌∷◌, ◌++◌, map, append_assoc}
use lib.ListN.{length, length-append}
use lib.Seq.{get_or-append_seam}
use Rattle.words.specs.Names.{name_kind}
use Rattle.source_text.specs.Parts.{part_of}
use Rattle.term_parser.specs.Source.{Place, place, Source, one}
use Rattle.term_parser.specs.Rows.{row, rows_of, rows_of_all, name_rows}
use Rattle.term_parser.specs.Standing.{bytes_at, spelled, Stands, stands}
use Rattle.parser.specs.Source.{Clause, Declaration, sort, ctor, pred, rule, def, theorem, eval, check}
use Rattle.parser.specs.Declarations.{Declared}
use Rattle.parser.specs.Rows.{clause_rows, declared_rows}
use Rattle.names.specs.Symbols.{Rows, column, row_at}
use Rattle.loader.specs.Arrows.{names_at}
use Rattle.loader.specs.NameRows.{names_at_lem}
use Rattle.loader.specs.TermRows.{JudgmentsStand, judgments_stand, ClauseStands, clause_stands}
use Rattle.loader.specs.TokenPlaceLaws.{Named}
use Rattle.declarations.specs.Steps.{name_at, place_at, NameInside, ClausesStand, DeclarationAt}

-- The number of a declaration's keyword, which is the kind of its row.
abbrev pub kind_of : Declaration → ℕ
kind_of (sort n) = 1
kind_of (ctor n ss) = 2
kind_of (pred n ss) = 3
kind_of (rule n js) = 4
kind_of (def n ss cs) = 5
kind_of (theorem n bs js t) = 6
kind_of (eval t) = 10
kind_of (check t) = 11

-- A row behind some others.
module _ (rows before : Rows) (p : ℕ) (from : length before ≡ p) where
  pub row_here : (r : List ℕ) (rest : Rows) → rows ≡ before ++ (r ∷ rest) → (row_at rows p ≡ r) × (p + 1 + length rest ≡ length rows)
  row_here r rest e =
      let l : length rows ≡ length before + suc (length rest) = ap length e ∙ length-append before (r ∷ rest) in
      let a : row_at (before ++ (r ∷ rest)) (length before) ≡ r = get_or-append_seam before r rest [] in
      (ap₂ row_at e (sym from) ∙ a, omega arith)

  -- Two rows, and what is behind them.
  pub behind : (r o : List ℕ) (rest : Rows) → rows ≡ before ++ (r ∷ (o ∷ rest)) → rows ≡ (before ++ (r ∷ o ∷ [])) ++ rest
  behind r o rest e = e ∙ sym (append_assoc before (r ∷ o ∷ []) rest)

  pub behind_length : (r o : List ℕ) → length (before ++ (r ∷ o ∷ [])) ≡ p + 2
  behind_length r o = let l = length-append before (r ∷ o ∷ []) in omega arith

  pub second : (r o : List ℕ) (rest : Rows) → rows ≡ before ++ (r ∷ (o ∷ rest)) → row_at rows (p + 1) ≡ o
  second r o rest e =
      let q : rows ≡ (before ++ (r ∷ [])) ++ (o ∷ rest) = e ∙ sym (append_assoc before (r ∷ []) (o ∷ rest)) in
      let l : length (before ++ (r ∷ [])) ≡ p + 1 = (let a = length-append before (r ∷ []) in omega arith) in
      ap₂ row_at q (sym l) ∙ get_or-append_seam (before ++ (r ∷ [])) o rest []

-- As many rows as names.
names_length : (ps : List Place) → length (rows_of_all name_rows ps) ≡ length ps
unfolding rows_of_all
names_length [] = refl
names_length (p ∷ ps) = ap suc (names_length ps)

-- Clauses stand in their rows.
clauses_stand : (text : List ℕ) (before after : Rows) (cs : List Clause)
    → ClausesStand text (before ++ (rows_of_all clause_rows cs ++ after)) (length before) cs (length before + length (rows_of_all clause_rows cs))
unfolding rows_of_all ClausesStand
clauses_stand text before after [] = let e : length before ≡ length before + 0 = omega arith in e
clauses_stand text before after (c ∷ cs) =
    let here : Rows = clause_rows c in
    let rest : Rows = rows_of_all clause_rows cs in
    let a : here ++ (rest ++ after) ≡ (here ++ rest) ++ after = sym (append_assoc here rest after) in
    let w : before ++ (here ++ (rest ++ after)) ≡ before ++ ((here ++ rest) ++ after) = ap (λ (x : Rows). before ++ x) a in
    let v : (before ++ here) ++ (rest ++ after) ≡ before ++ (here ++ (rest ++ after)) = append_assoc before here (rest ++ after) in
    let l : length (before ++ here) ≡ length before + length here = length-append before here in
    let m : length (here ++ rest) ≡ length here + length rest = length-append here rest in
    let n : length before + length here + length rest ≡ length before + length (here ++ rest) = omega arith in
    let s : ClauseStands text (before ++ (here ++ (rest ++ after))) (length before) c (length before + length here) = clause_stands text before (rest ++ after) c in
    let t : ClausesStand text ((before ++ here) ++ (rest ++ after)) (length (before ++ here)) cs (length (before ++ here) + length rest) = clauses_stand text (before ++ here) after cs in
    let t₁ = subst (λ (x : Rows). ClausesStand text x (length (before ++ here)) cs (length (before ++ here) + length rest)) (v ∙ w) t in
    let t₂ = subst (λ (x : ℕ). ClausesStand text (before ++ ((here ++ rest) ++ after)) x cs (x + length rest)) l t₁ in
    let t₃ = subst (λ (x : ℕ). ClausesStand text (before ++ ((here ++ rest) ++ after)) (length before + length here) cs x) n t₂ in
    (length before + length here, subst (λ (x : Rows). ClauseStands text x (length before) c (length before + length here)) w s, t₃)

-- The kind and the line of any declaration.
pub record FirstRow (rows : Rows) (p : ℕ) (d : Declared) : Type 0 where
  pub within : p + 1 ≤ length rows
  pub kind : column (row_at rows p) 0 ≡ kind_of d.declaration
  pub line : column (row_at rows p) 1 ≡ d.line

pub first_row : {text : List ℕ} {rows : Rows} {p : ℕ} {d : Declared} {q : ℕ} → DeclarationAt text rows p d q → FirstRow rows p d
first_row {text} {rows} {p} {d} {q} h = go d.line d.declaration h.split
  where
    all : (k line a b : ℕ) (rest : Rows) → rows ≡ h.before ++ ((k ∷ line ∷ a ∷ b ∷ []) ∷ rest) → (p + 1 ≤ length rows) × (column (row_at rows p) 0 ≡ k) × (column (row_at rows p) 1 ≡ line)
    all k line a b rest e = let r = row_here rows h.before p h.from (k ∷ line ∷ a ∷ b ∷ []) rest e in let l = r.1 in (omega arith, ap (λ (x : List ℕ). column x 0) r.0, ap (λ (x : List ℕ). column x 1) r.0)

    go : (line : ℕ) (e : Declaration) → rows ≡ h.before ++ (declared_rows (record { line = line; declaration = e }) ++ h.after) → FirstRow rows p (record { line = line; declaration = e })
    go line (sort n) e = let r = all _ _ _ _ _ e in record { within = r.0; kind = r.1; line = r.2 }
    go line (ctor n ss) e = let r = all _ _ _ _ _ e in record { within = r.0; kind = r.1; line = r.2 }
    go line (pred n ss) e = let r = all _ _ _ _ _ e in record { within = r.0; kind = r.1; line = r.2 }
    go line (rule n js) e = let r = all _ _ _ _ _ e in record { within = r.0; kind = r.1; line = r.2 }
    go line (def n ss cs) e = let r = all _ _ _ _ _ e in record { within = r.0; kind = r.1; line = r.2 }
    go line (theorem n bs js t) e = let r = all _ _ _ _ _ e in record { within = r.0; kind = r.1; line = r.2 }
    go line (eval t) e = let r = all _ _ _ _ _ e in record { within = r.0; kind = r.1; line = r.2 }
    go line (check t) e = let r = all _ _ _ _ _ e in record { within = r.0; kind = r.1; line = r.2 }

-- The name of a declaration, in its second row.
pub record Titled (text : List ℕ) (rows : Rows) (p : ℕ) (n : Place) : Type 0 where
  pub named : name_at text rows (p + 1) ≡ bytes_at text n
  pub placed : place_at rows (p + 1) ≡ n
  pub inside : NameInside text rows (p + 1)

titled : (text : List ℕ) (rows : Rows) (p k : ℕ) (n : Place) → row_at rows (p + 1) ≡ row name_kind n k → Named text n → Titled text rows p n
titled text rows p k (place s m) e i =
    let a : column (row_at rows (p + 1)) 1 ≡ s = ap (λ (x : List ℕ). column x 1) e in
    let b : column (row_at rows (p + 1)) 2 ≡ m = ap (λ (x : List ℕ). column x 2) e in
    record { named = ap₂ (part_of text) a b; placed = ap₂ place a b; inside = rw (a, b) i }

-- Each clause takes a row at least.
clauses_length : (cs : List Clause) → length cs ≤ length (rows_of_all clause_rows cs)
unfolding rows_of_all
clauses_length [] = omega arith
clauses_length (c ∷ cs) =
    let h = clauses_length cs in
    let l = length-append (rows_of_all rows_of c.patterns ++ rows_of c.body) (rows_of_all clause_rows cs) in
    omega arith

-- The parts of a declaration, by kind

module _ (text : List ℕ) (rows : Rows) (p line : ℕ) where
  pub sort_parts : {n : Place} {q : ℕ} → DeclarationAt text rows p (record { line = line; declaration = sort n }) q → (p + 2 ≤ length rows) × Titled text rows p n × (q ≡ p + 2)
  sort_parts {n} {q} h =
      let e : rows ≡ h.before ++ ((1 ∷ line ∷ 0 ∷ 0 ∷ []) ∷ (row name_kind n 0 ∷ h.after)) = h.split in
      let l = (row_here rows h.before p h.from _ _ e).1 in
      (omega arith, titled text rows p 0 n (second rows h.before p h.from _ _ _ e) h.inside, h.to)

  -- A name, and the names of k sorts.
  pub record Arrow (n : Place) (ss : List Place) : Type 0 where
    pub title : Titled text rows p n
    pub number : column (row_at rows p) 2 ≡ length ss
    pub names : names_at text rows (p + 2) (length ss) ≡ map (bytes_at text) ss
    pub there : p + 2 + length ss ≤ length rows

  arrow : (before : Rows) → length before ≡ p → (k b : ℕ) (n : Place) (ss : List Place) (after : Rows) → rows ≡ before ++ ((k ∷ line ∷ length ss ∷ b ∷ []) ∷ (row name_kind n 0 ∷ (rows_of_all name_rows ss ++ after)))
      → Named text n → Arrow n ss
  arrow before from k b n ss after e inside =
      let r : List ℕ = k ∷ line ∷ length ss ∷ b ∷ [] in
      let here = row_here rows before p from r (row name_kind n 0 ∷ (rows_of_all name_rows ss ++ after)) e in
      let two : Rows = before ++ (r ∷ row name_kind n 0 ∷ []) in
      let w : rows ≡ two ++ (rows_of_all name_rows ss ++ after) = behind rows before p from r (row name_kind n 0) (rows_of_all name_rows ss ++ after) e in
      let l : length two ≡ p + 2 = behind_length rows before p from r (row name_kind n 0) in
      let a : length rows ≡ length two + length (rows_of_all name_rows ss ++ after) = ap length w ∙ length-append two (rows_of_all name_rows ss ++ after) in
      let m : length (rows_of_all name_rows ss ++ after) ≡ length (rows_of_all name_rows ss) + length after = length-append (rows_of_all name_rows ss) after in
      let o : length (rows_of_all name_rows ss) ≡ length ss = names_length ss in
      record {
        title = titled text rows p 0 n (second rows before p from r (row name_kind n 0) (rows_of_all name_rows ss ++ after) e) inside;
        number = ap (λ (x : List ℕ). column x 2) here.0;
        names = ap₂ (λ (x : Rows) (y : ℕ). names_at text x y (length ss)) w (sym l) ∙ names_at_lem text two after ss;
        there = omega arith;
      }

  pub ctor_parts : {n : Place} {ss : List Place} {q : ℕ} → DeclarationAt text rows p (record { line = line; declaration = ctor n ss }) q → Arrow n ss × (q ≡ p + 2 + length ss)
  ctor_parts {n} {ss} {q} h =
      let o = names_length ss in
      let t : q ≡ p + suc (suc (length (rows_of_all name_rows ss))) = h.to in
      (arrow h.before h.from 2 0 n ss h.after h.split h.inside, omega arith)

  pub pred_parts : {n : Place} {ss : List Place} {q : ℕ} → DeclarationAt text rows p (record { line = line; declaration = pred n ss }) q → Arrow n ss × (q ≡ p + 2 + length ss)
  pred_parts {n} {ss} {q} h =
      let o = names_length ss in
      let t : q ≡ p + suc (suc (length (rows_of_all name_rows ss))) = h.to in
      (arrow h.before h.from 3 0 n ss h.after h.split h.inside, omega arith)

  pub record RuleParts (n : Place) (js : List (Source one)) (q : ℕ) : Type 0 where
    pub title : Titled text rows p n
    pub number : column (row_at rows p) 2 ≡ length js
    pub here : p + 2 ≤ length rows
    pub stand : (j : Source one) (ks : List (Source one)) → js ≡ j ∷ ks → JudgmentsStand text rows (p + 2) j ks q

  pub rule_parts : {n : Place} {js : List (Source one)} {q : ℕ} → DeclarationAt text rows p (record { line = line; declaration = rule n js }) q → RuleParts n js q
  rule_parts {n} {js} {q} h =
      let r : List ℕ = 4 ∷ line ∷ length js ∷ 0 ∷ [] in
      let rest : Rows = rows_of_all rows_of js ++ h.after in
      let e : rows ≡ h.before ++ (r ∷ (row name_kind n 0 ∷ rest)) = h.split in
      let here = row_here rows h.before p h.from r (row name_kind n 0 ∷ rest) e in
      let m = here.1 in
      let two : Rows = h.before ++ (r ∷ row name_kind n 0 ∷ []) in
      let w : rows ≡ two ++ rest = behind rows h.before p h.from r (row name_kind n 0) rest e in
      let l : length two ≡ p + 2 = behind_length rows h.before p h.from r (row name_kind n 0) in
      let t : q ≡ p + suc (suc (length (rows_of_all rows_of js))) = h.to in
      record {
        title = titled text rows p 0 n (second rows h.before p h.from r (row name_kind n 0) rest e) h.inside;
        number = ap (λ (x : List ℕ). column x 2) here.0;
        here = omega arith;
        stand = λ j ks d. let x : q ≡ length two + length (rows_of_all rows_of (j ∷ ks)) = (let y : length (rows_of_all rows_of js) ≡ length (rows_of_all rows_of (j ∷ ks)) = ap (λ (z : List (Source one)). length (rows_of_all rows_of z)) d in omega arith) in
            let v : rows ≡ two ++ (rows_of_all rows_of (j ∷ ks) ++ h.after) = w ∙ ap (λ (z : List (Source one)). two ++ (rows_of_all rows_of z ++ h.after)) d in
            subst (λ (z : Rows). JudgmentsStand text z (p + 2) j ks q) (sym v)
            (subst (λ (z : ℕ). JudgmentsStand text (two ++ (rows_of_all rows_of (j ∷ ks) ++ h.after)) z j ks q) l
            (subst (λ (z : ℕ). JudgmentsStand text (two ++ (rows_of_all rows_of (j ∷ ks) ++ h.after)) (length two) j ks z) (sym x) (judgments_stand text two h.after j ks)));
      }

  pub record DefParts (n : Place) (ss : List Place) (cs : List Clause) (q : ℕ) : Type 0 where
    pub arrowed : Arrow n ss
    pub clauses : column (row_at rows p) 3 ≡ length cs
    pub few : length cs ≤ length rows
    pub stand : ClausesStand text rows (p + 2 + length ss) cs q

  pub def_parts : {n : Place} {ss : List Place} {cs : List Clause} {q : ℕ} → DeclarationAt text rows p (record { line = line; declaration = def n ss cs }) q → DefParts n ss cs q
  def_parts {n} {ss} {cs} {q} h =
      let r : List ℕ = 5 ∷ line ∷ length ss ∷ length cs ∷ [] in
      let names : Rows = rows_of_all name_rows ss in
      let bodies : Rows = rows_of_all clause_rows cs in
      let e₀ : rows ≡ h.before ++ (r ∷ (row name_kind n 0 ∷ ((names ++ bodies) ++ h.after))) = h.split in
      let e : rows ≡ h.before ++ (r ∷ (row name_kind n 0 ∷ (names ++ (bodies ++ h.after)))) = e₀ ∙ ap (λ (x : Rows). h.before ++ (r ∷ (row name_kind n 0 ∷ x))) (append_assoc names bodies h.after) in
      let here = row_here rows h.before p h.from r (row name_kind n 0 ∷ (names ++ (bodies ++ h.after))) e in
      let two : Rows = h.before ++ (r ∷ row name_kind n 0 ∷ []) in
      let w : rows ≡ two ++ (names ++ (bodies ++ h.after)) = behind rows h.before p h.from r (row name_kind n 0) (names ++ (bodies ++ h.after)) e in
      let l : length two ≡ p + 2 = behind_length rows h.before p h.from r (row name_kind n 0) in
      let v : rows ≡ (two ++ names) ++ (bodies ++ h.after) = w ∙ sym (append_assoc two names (bodies ++ h.after)) in
      let o : length names ≡ length ss = names_length ss in
      let m : length (two ++ names) ≡ length two + length names = length-append two names in
      let k : length (two ++ names) ≡ p + 2 + length ss = omega arith in
      let t : q ≡ p + suc (suc (length (names ++ bodies))) = h.to in
      let u : length (names ++ bodies) ≡ length names + length bodies = length-append names bodies in
      let x : length (two ++ names) + length bodies ≡ q = omega arith in
      let a : length rows ≡ length (two ++ names) + length (bodies ++ h.after) = ap length v ∙ length-append (two ++ names) (bodies ++ h.after) in
      let b : length (bodies ++ h.after) ≡ length bodies + length h.after = length-append bodies h.after in
      let c = clauses_length cs in
      let s : ClausesStand text ((two ++ names) ++ (bodies ++ h.after)) (length (two ++ names)) cs (length (two ++ names) + length bodies) = clauses_stand text (two ++ names) h.after cs in
      record {
        arrowed = arrow h.before h.from 5 (length cs) n ss (bodies ++ h.after) e h.inside;
        clauses = ap (λ (y : List ℕ). column y 3) here.0;
        few = omega arith;
        stand = subst (λ (z : Rows). ClausesStand text z (p + 2 + length ss) cs q) (sym v)
            (subst (λ (z : ℕ). ClausesStand text ((two ++ names) ++ (bodies ++ h.after)) z cs q) k
            (subst (λ (z : ℕ). ClausesStand text ((two ++ names) ++ (bodies ++ h.after)) (length (two ++ names)) cs z) x s));
      }

  pub eval_parts : {t : Source one} {q : ℕ} → DeclarationAt text rows p (record { line = line; declaration = eval t }) q → Stands text rows (p + 1) (spelled text t) q
  eval_parts {t} {q} h =
      let r : List ℕ = 10 ∷ line ∷ 0 ∷ 0 ∷ [] in
      let one : Rows = h.before ++ (r ∷ []) in
      let e : rows ≡ h.before ++ (r ∷ (rows_of t ++ h.after)) = h.split in
      let w : rows ≡ one ++ (rows_of t ++ h.after) = e ∙ sym (append_assoc h.before (r ∷ []) (rows_of t ++ h.after)) in
      let f = h.from in
      let m : length one ≡ length h.before + 1 = length-append h.before (r ∷ []) in
      let l : length one ≡ p + 1 = omega arith in
      let g : q ≡ p + suc (length (rows_of t)) = h.to in
      let x : length one + length (rows_of t) ≡ q = omega arith in
      let s : Stands text (one ++ (rows_of t ++ h.after)) (length one) (spelled text t) (length one + length (rows_of t)) = stands text one h.after t in
      subst (λ (z : Rows). Stands text z (p + 1) (spelled text t) q) (sym w)
      (subst (λ (z : ℕ). Stands text (one ++ (rows_of t ++ h.after)) z (spelled text t) q) l
      (subst (λ (z : ℕ). Stands text (one ++ (rows_of t ++ h.after)) (length one) (spelled text t) z) x s))
