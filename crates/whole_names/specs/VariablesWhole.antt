-- The name of every variable, while its rule is compiled, is a whole word of its declaration.
use Prim.Native.Nat.{ℕ, zero, suc, ◌+◌, ◌-◌, ◌≤◌, ◌<◌}
use Rattle.std.proofs.Common.{arith, length-append, get_or-append-add, ltb-true}
use Rattle.std.specs.Prelude.{◌≡◌, refl, Bool, ◌&&◌, eqb, ltb, length, get_or}
use Rattle.std.proofs.Math.Bool.{true, false}
use mathlib.Core.List.{List, [], ◌∷◌, ◌++◌}
use Rattle.std.proofs.Math.ListN.{get_or-append}
use Rattle.terms.specs.Numbers.{by_bool}
use Rattle.term_parser.specs.Source.{Place, place, Arity, Source, one, many, numeral, metavariable, name, application, none, more, all_of}
use Rattle.term_parser.specs.Standing.{Written, number, meta, called, applied, nil, cons, size, spelled, bytes_at}
use Rattle.term_parser.specs.ReaderLaws.{Each, each_append}
use Rattle.term_parser.specs.ListLaws.{each_at}
use Rattle.parser.specs.Source.{Clause, Declaration, sort, ctor, pred, rule, def, theorem, eval, check}
use Rattle.parser.specs.Declarations.{Declared}
use Rattle.names.specs.Names.{Name, result_name}
use Rattle.names.specs.Symbols.{Symbol, Variable, variable_number, symbol_number, symbol_at}
use Rattle.flattening.specs.Flattening.{Flat, flat, snoc, is_function, resulted, calling, paired, and_flat, flatten_of}
use Rattle.patterns.specs.Patterns.{no_variable, Entry, refused, entered, known, enter, kind_of, Out, bad, good, bind, counted, misfit, spent, unless, is_ctor, zero_name, succ_name, chain, when, pattern_of, first, rest}
use Rattle.terms.specs.Term.{Syn}
use Rattle.loader.specs.Signature.{front_of, last_judgment}
use Rattle.whole_names.specs.Titles.{place_number}
use Rattle.whole_names.specs.Uses.{Whole, TermWhole, ClauseWhole, DeclarationWhole, DeclaredWhole}
use Rattle.whole_names.specs.ListLaws.{each_map, each_set, each_take}
use Rattle.whole_names.specs.Variables.{words_in, WordAmong, ClauseWord, written, result, VariablesNamed, JudgmentsNamed, ClauseNamed, VariablesWhole}

-- Words that may become variables

-- P holds of each name and metavariable of a term, but for the names that are applied.
unfoldable Words : {n : Arity} → (Name → Type 0) → Written n → Type 0
Words P (number v) = Unit {0}
Words P (meta w) = P w
Words P (called w) = P w
Words P (applied w ts) = Words P ts
Words P nil = Unit {0}
Words P (cons t ts) = Words P t × Words P ts

words_map : {n : Arity} (P Q : Name → Type 0) → ((w : Name) → P w → Q w) → (t : Written n) → Words P t → Words Q t
unfolding Words
words_map P Q f (number v) h = tt
words_map P Q f (meta w) h = f w h
words_map P Q f (called w) h = f w h
words_map P Q f (applied w ts) h = words_map P Q f ts h
words_map P Q f nil h = tt
words_map P Q f (cons t ts) h = (words_map P Q f t h.0, words_map P Q f ts h.1)

snoc_words : (P : Name → Type 0) (ts : Written many) (t : Written one) → Words P ts → Words P t → Words P (snoc ts t)
unfolding Words
snoc_words P nil t h g = (g, tt)
snoc_words P (cons u us) t h g = (h.0, snoc_words P us t h.1 g)

module _ (text : List ℕ) where
  all_words : (P : Name → Type 0) (l : List (Source one)) → Each (λ t. Words P (spelled text t)) l → Words P (spelled text (all_of l))
  unfolding Words spelled all_of
  all_words P [] h = tt
  all_words P (t ∷ l) h = (h.0, all_words P l h.1)

  among_left : (ps qs : List Place) (w : Name) → WordAmong text ps w → WordAmong text (ps ++ qs) w
  among_left ps qs w h =
      let e : place_number (ps ++ qs) h.number ≡ place_number ps h.number = get_or-append ps qs (place 0 0) h.number h.there in
      let l = length-append ps qs in
      let t = h.there in
      record { number = h.number; there = omega arith; kind = h.kind; low = h.low; high = h.high; whole = rw e h.whole; is = rw e h.is }

  among_right : (ps qs : List Place) (w : Name) → WordAmong text qs w → WordAmong text (ps ++ qs) w
  among_right ps qs w h =
      let e : place_number (ps ++ qs) (length ps + h.number) ≡ place_number qs h.number = get_or-append-add ps qs h.number (place 0 0) in
      let l = length-append ps qs in
      let t = h.there in
      record { number = length ps + h.number; there = omega arith; kind = h.kind; low = h.low; high = h.high; whole = rw e h.whole; is = rw e h.is }

  among_one : (p : Place) (kind : ℕ) → 12 ≤ kind → kind ≤ 13 → Whole text kind p → WordAmong text (p ∷ []) (bytes_at text p)
  among_one p kind l m h = record { number = 0; there = omega arith; kind = kind; low = l; high = m; whole = h; is = refl }

  -- The words of a term are among its own.
  own_words : {n : Arity} (t : Source n) → TermWhole text t → Words (WordAmong text (words_in t)) (spelled text t)
  unfolding Words spelled words_in TermWhole
  own_words (numeral p v) h = tt
  own_words (metavariable p) h = among_one p 13 (omega arith) (omega arith) h
  own_words (name p) h = among_one p 12 (omega arith) (omega arith) h
  own_words (application p ts) h = own_words ts h.1
  own_words none h = tt
  own_words (more t ts) h = (
    words_map (WordAmong text (words_in t)) (WordAmong text (words_in t ++ words_in ts)) (among_left (words_in t) (words_in ts))
        (spelled text t) (own_words t h.0),
    words_map (WordAmong text (words_in ts)) (WordAmong text (words_in t ++ words_in ts)) (among_right (words_in t) (words_in ts))
        (spelled text ts) (own_words ts h.1),
  )

  each_own : (l : List (Source one)) → Each (TermWhole text) l → Each (λ t. Words (WordAmong text (words_in (all_of l))) (spelled text t)) l
  unfolding words_in all_of
  each_own [] h = tt
  each_own (t ∷ l) h = (
    words_map (WordAmong text (words_in t)) (WordAmong text (words_in (all_of (t ∷ l)))) (among_left (words_in t) (words_in (all_of l)))
        (spelled text t) (own_words t h.0),
    each_map (λ u. Words (WordAmong text (words_in (all_of l))) (spelled text u))
        (λ u. Words (WordAmong text (words_in (all_of (t ∷ l)))) (spelled text u)) l
        (λ u. words_map (WordAmong text (words_in (all_of l))) (WordAmong text (words_in (all_of (t ∷ l)))) (among_right (words_in t) (words_in (all_of l))) (spelled text u))
        (each_own l h.1),
  )

last_each : (P : Source one → Type 0) (j : Source one) (js : List (Source one)) → Each P (j ∷ js) → P (last_judgment j js)
last_each P j [] h = h.0
last_each P j (k ∷ ks) h = last_each P k ks h.1

-- Compiling

module _ (P : Name → Type 0) where
  abbrev Named : List Variable → Type 0
  Named vs = Each (λ v. P v.name) vs

  -- P holds of the name of each variable then standing.
  abbrev Enters : Entry → Type 0
  Enters (refused e) = Unit {0}
  Enters (entered i vs) = Named vs

  abbrev Compiles : {n : Arity} → Out n → Type 0
  Compiles (bad e) = Unit {0}
  Compiles (good t vs room) = Named vs

  known_names : (vs : List Variable) (i s : ℕ) → i < length vs → Named vs → Enters (known vs i (get_or vs i no_variable) s)
  known_names vs i s l h =
      by_bool (eqb (get_or vs i no_variable).sort 0)
      (λ e. rw e (each_set (λ (v : Variable). P v.name) vs i (record { name = (get_or vs i no_variable).name; sort = s }) (each_at (λ (v : Variable). P v.name) vs no_variable h i l) h))
      (λ e. rw e (by_bool (eqb s 0) (λ f. rw f h) (λ f. rw f (by_bool (eqb (get_or vs i no_variable).sort s) (λ g. rw g h) (λ g. rw g tt)))))

  enter_names : (vs : List Variable) (w : Name) (s : ℕ) → P w → Named vs → Enters (enter vs w s)
  unfolding enter
  enter_names vs w s p h =
      by_bool (ltb (variable_number vs w) (length vs))
      (λ e. rw e (known_names vs (variable_number vs w) s (ltb-true (variable_number vs w) (length vs) e) h))
      (λ e. rw e (by_bool (ltb (length vs) 64)
      (λ f. rw f (each_append (λ (v : Variable). P v.name) vs (record { name = w; sort = s } ∷ []) h (p, tt)))
      (λ f. rw f tt)))

  counted_names : (e : Entry) (room : ℕ) → Enters e → Compiles (counted e room)
  counted_names (refused e) room h = tt
  counted_names (entered i vs) zero h = tt
  counted_names (entered i vs) (suc room) h = h

  spent_names : (room : ℕ) (f : ℕ → Out one) → ((r : ℕ) → Compiles (f r)) → Compiles (spent room f)
  spent_names zero f h = tt
  spent_names (suc room) f h = h room

  unless_names : (e : ℕ) (f : ℕ → Out one) → Compiles (f 0) → Compiles (unless e f)
  unless_names zero f h = h
  unless_names (suc e) f h = tt

  when_names : {n : Arity} (b : Bool) (f g : ℕ → Out n) → Compiles (f 0) → Compiles (g 0) → Compiles (when b f g)
  when_names true f g h k = h
  when_names false f g h k = k

  bind_names : {m n : Arity} (o : Out m) (f : Syn (kind_of m) → List Variable → ℕ → Out n) → Compiles o
      → ((t : Syn (kind_of m)) (vs : List Variable) (q : ℕ) → Named vs → Compiles (f t vs q)) → Compiles (bind o f)
  bind_names (bad e) f h g = tt
  bind_names (good t vs q) f h g = g t vs q h

  chain_names : (symbols : List Symbol) (y z n s : ℕ) (vs : List Variable) (room : ℕ) → Named vs → Compiles (chain symbols y z n s vs room)
  unfolding chain
  chain_names symbols y z zero s vs room h = unless_names (misfit (symbol_at symbols z) s 0) _ (spent_names room _ (λ r. h))
  chain_names symbols y z (suc n) s vs room h =
      unless_names (misfit (symbol_at symbols y) s 1) _
      (spent_names room _ (λ r. bind_names (chain symbols y z n (first (symbol_at symbols y).inputs) vs r) _ (chain_names symbols y z n (first (symbol_at symbols y).inputs) vs r h) (λ t us q g. g)))

  pattern_names : {n : Arity} (symbols : List Symbol) (t : Written n) (sorts : List ℕ) (vs : List Variable) (room : ℕ) → Words P t
      → Named vs → Compiles (pattern_of symbols t sorts vs room)
  unfolding pattern_of Words
  pattern_names symbols (number n) sorts vs room w h =
      when_names (is_ctor symbols zero_name && is_ctor symbols succ_name) _ _
      (chain_names symbols (symbol_number symbols succ_name) (symbol_number symbols zero_name) n (first sorts) vs room h) tt
  pattern_names symbols (meta x) sorts vs room w h = counted_names (enter vs x (first sorts)) room (enter_names vs x (first sorts) w h)
  pattern_names symbols (called x) sorts vs room w h =
      when_names (ltb (symbol_number symbols x) (length symbols)) _ _
      (unless_names (misfit (symbol_at symbols (symbol_number symbols x)) (first sorts) 0) _ (spent_names room _ (λ r. h)))
      (when_names (eqb (first sorts) 0) _ _ tt (counted_names (enter vs x (first sorts)) room (enter_names vs x (first sorts) w h)))
  pattern_names symbols (applied x ts) sorts vs room w h =
      when_names (ltb (symbol_number symbols x) (length symbols)) _ _
      (unless_names (misfit (symbol_at symbols (symbol_number symbols x)) (first sorts) (size ts)) _
      (spent_names room _ (λ r. bind_names (pattern_of symbols ts (symbol_at symbols (symbol_number symbols x)).inputs vs r) _
      (pattern_names symbols ts (symbol_at symbols (symbol_number symbols x)).inputs vs r w h) (λ us ws q g. g))))
      tt
  pattern_names symbols nil sorts vs room w h = h
  pattern_names symbols (cons t ts) sorts vs room w h =
      bind_names (pattern_of symbols t (first sorts ∷ []) vs room) _ (pattern_names symbols t (first sorts ∷ []) vs room w.0 h)
      (λ u ws q g. bind_names (pattern_of symbols ts (rest sorts) ws q) _ (pattern_names symbols ts (rest sorts) ws q w.1 g) (λ us xs p k. k))

  -- A rule of words of which P holds.
  rule_names : (symbols : List Symbol) (ps : Written many) (c : Written one) (room : ℕ) → Words P ps → Words P c
      → VariablesNamed P symbols ps c room
  rule_names symbols ps c room h g =
      let first-ones : (us : Syn _) (vs : List Variable) (left : ℕ) → pattern_of symbols ps [] [] room ≡ good us vs left → Named vs
      = λ us vs left e. (let k = pattern_names symbols ps [] [] room h tt in rw e at k) in
      record {
        premises = first-ones;
        conclusion = λ us vs left e t ws q f. (let k = pattern_names symbols c (0 ∷ []) vs left g (first-ones us vs left e) in rw f at k);
      }

  -- Flattening

  abbrev Flattens : {n : Arity} → Flat n → Type 0
  Flattens (flat t ps) = Words P t × Words P ps

  module _ (results : (n : ℕ) → P (result_name n)) where
    resulted_words : (w : Name) (us ps : Written many) → Words P us → Words P ps → Flattens (resulted w us ps)
    unfolding Words
    resulted_words w us ps h g = (
      results (suc (size ps)),
      snoc_words P ps (applied w (snoc us (called (result_name (suc (size ps)))))) g
          (snoc_words P us (called (result_name (suc (size ps)))) h (results (suc (size ps)))),
    )

    calling_words : (b : Bool) (w : Name) (o : Flat many) → Flattens o → Flattens (calling b w o)
    unfolding Words
    calling_words true w (flat us ps) h = resulted_words w us ps h.0 h.1
    calling_words false w (flat us ps) h = h

    paired_words : (t : Written one) (o : Flat many) → Words P t → Flattens o → Flattens (paired t o)
    unfolding Words
    paired_words t (flat ts ps) h g = ((h, g.0), g.1)

    and_words : (o : Flat one) (f : Written one → Written many → Flat many) → Flattens o
        → ((t : Written one) (ps : Written many) → Words P t → Words P ps → Flattens (f t ps))
        → Flattens (and_flat o f)
    and_words (flat t ps) f h g = g t ps h.0 h.1

    flatten_words : {n : Arity} (symbols : List Symbol) (t : Written n) (ps : Written many) → Words P t → Words P ps
        → Flattens (flatten_of symbols t ps)
    unfolding flatten_of Words
    flatten_words symbols (number v) ps w h = (tt, h)
    flatten_words symbols (meta x) ps w h = (w, h)
    flatten_words symbols (called x) ps w h = by_bool (is_function symbols x) (λ e. rw e (resulted_words x nil ps tt h)) (λ e. rw e (w, h))
    flatten_words symbols (applied x ts) ps w h =
        calling_words (is_function symbols x) x (flatten_of symbols ts ps) (flatten_words symbols ts ps w h)
    flatten_words symbols nil ps w h = (tt, h)
    flatten_words symbols (cons t ts) ps w h =
        and_words (flatten_of symbols t ps) (λ u qs. paired u (flatten_of symbols ts qs)) (flatten_words symbols t ps w.0 h)
        (λ u qs v k. paired_words u (flatten_of symbols ts qs) v (flatten_words symbols ts qs w.1 k))

-- Declarations

module _ (text : List ℕ) where
  judgments_named : (js : List (Source one)) → Each (TermWhole text) js → JudgmentsNamed text js
  judgments_named [] h = tt
  judgments_named (j ∷ js) h = λ symbols room. (
      let own = each_own text (j ∷ js) h in
      let P : Name → Type 0 = WordAmong text (words_in (all_of (j ∷ js))) in
      rule_names P symbols (spelled text (all_of (front_of (j ∷ js)))) (spelled text (last_judgment j js)) room
      (all_words text P (front_of (j ∷ js)) (each_take (λ t. Words P (spelled text t)) (length (j ∷ js) - 1) (j ∷ js) own))
      (last_each (λ t. Words P (spelled text t)) j js own)
      )

  clause_named : (f : Place) (c : Clause) → ClauseWhole text c → ClauseNamed text f c
  unfolding Words
  clause_named f c h symbols room r ps e =
      let P : Name → Type 0 = ClauseWord text c in
      let qs : List Place = words_in (all_of c.patterns) in
      let own = each_own text c.patterns h.patterns in
      let patterns : Words P (spelled text (all_of c.patterns)) = words_map (WordAmong text qs) P (λ w k. written (among_left text qs (words_in c.body) w k)) (spelled text (all_of c.patterns))
      (all_words text (WordAmong text qs) c.patterns own) in
      let body : Words P (spelled text c.body) = words_map (WordAmong text (words_in c.body)) P (λ w k. written (among_right text qs (words_in c.body) w k)) (spelled text c.body)
      (own_words text c.body h.body) in
      let k = flatten_words P (λ n. result n refl) symbols (spelled text c.body) nil body tt in
      let g : Flattens P (flat r ps) = rw e at k in
      rule_names P symbols ps (applied (bytes_at text f) (snoc (spelled text (all_of c.patterns)) r)) room g.1
      (snoc_words P (spelled text (all_of c.patterns)) r patterns g.0)

  declared_variables : (d : Declaration) → DeclarationWhole text d → VariablesWhole text d
  declared_variables (sort p) h = tt
  declared_variables (ctor p ss) h = tt
  declared_variables (pred p ss) h = tt
  declared_variables (rule p js) h = judgments_named js h.1
  declared_variables (def p ss cs) h = each_map (ClauseWhole text) (ClauseNamed text p) cs (clause_named p) h.2
  declared_variables (theorem p bs js t) h = tt
  declared_variables (eval t) h = tt
  declared_variables (check t) h = tt

-- So of all declarations whose words are whole.
pub variables_whole : (text : List ℕ) (ds : List Declared) → Each (DeclaredWhole text) ds
    → Each (λ d. VariablesWhole text d.declaration) ds
variables_whole text [] h = tt
variables_whole text (d ∷ ds) h = (declared_variables text d.declaration h.0, variables_whole text ds h.1)
