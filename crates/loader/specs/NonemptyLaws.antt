-- A declaration that is parsed has a sort or a judgment wherever `declare` asks for one; so what it refuses has a number of the table (document 01, the
-- table by place), which is never 0.
use Prim.Native.Nat.{ℕ, zero, suc, ◌+◌, ◌-◌, ◌≤◌, ◌<◌}
use native.Mathlib.Omega.{arith}
use Rattle.std.specs.Prelude.{◌≡◌, refl, Bool, true, false, cond, ◌&&◌, eqb, ltb, length, get_or}
use mathlib.Core.List.{List, [], ◌∷◌, ◌++◌, map}
use Rattle.std.proofs.lemmas.List.{length-map}
use Rattle.terms.specs.Term.{Syn}
use Rattle.term_parser.specs.Source.{Source, Arity, one, many, all_of}
use Rattle.term_parser.specs.Standing.{Written, number, meta, called, applied, nil as none, cons as more, size, spelled, bytes_at}
use Rattle.term_parser.specs.Parsing.{Tokens, last_line, Parsed, parsed, follow, sign_of, behind, repeat}
use Rattle.term_parser.specs.Lists.{separated, name, title_of, arrows_of, term, judgments_of}
use Rattle.parser.specs.Source.{Clause, Declaration, sort, ctor, pred, rule, def, theorem, eval, check}
use Rattle.parser.specs.Declarations.{ends_in_prop, Declared, binders_of, tactic_of, sort_of, ctor_of, clause_of as readClause, pred_of, rule_of as readRule, def_of, theorem_of, eval_of, check_of, body_of, declaration_of, parse_of}
use Rattle.names.specs.Names.{Name}
use Rattle.names.specs.Symbols.{Symbol, Variable, sort_number, symbol_number, variable_number, symbol_at}
use Rattle.flattening.specs.Flattening.{Flat, flat, flatten_of}
use Rattle.patterns.specs.Patterns.{no_variable, Entry, refused as unentered, entered, known, enter, kind_of, Out, bad, good, bind, counted, misfit, spent, unless as fitting, is_ctor, zero_name, succ_name, first, rest, chain, when, pattern_of}
use Rattle.rules.specs.Rules.{Ruled, barred, ruled, all_known, closed, concluded, rule_of, entering}
use Rattle.clauses.specs.Clauses.{flat_rule, clause_of}
use Rattle.loader.specs.Signature.{Signature, empty, Step, no, on, and_then, unless, is_taken, sort_refusal, enter_sort, symbol_refusal, enter_symbol, Numbers, unknown, numbers, prepend, numbers_of, with_sorts, with_some, last_of, front_of, first_of, room_in, with_rule, last_judgment, Loaded, refused, loaded, go_on, enter_rule, enter_clause, enter_clauses, enter_judgments, declare, load_from, load_of}
use Rattle.term_parser.specs.ReaderLaws.{Each, Comes, Any, any_comes, plus_comes, follow_comes, past_comes, when_comes, continued_comes, repeat_comes}

-- A constructor and a function have a sort, and a rule has a judgment.
abbrev pub Nonempty : Declaration → Type 0
Nonempty (sort p) = Unit {0}
Nonempty (ctor p ss) = 0 < length ss
Nonempty (pred p ss) = Unit {0}
Nonempty (rule p js) = 0 < length js
Nonempty (def p ss cs) = 0 < length ss
Nonempty (theorem p bs js t) = Unit {0}
Nonempty (eval t) = Unit {0}
Nonempty (check t) = Unit {0}

-- Readers

abbrev Some : {A : Type 0} → List A → Type 0
Some l = 0 < length l

append_some : {A : Type 0} (l m : List A) → Some l → Some (l ++ m)
append_some [] m h = absurd (omega arith)
append_some (a ∷ l) m h = omega arith

repeat_some : {A : Type 0} (item : Tokens → Parsed A) (ts : Tokens) (k n : ℕ) (done : List A) → Some done → Comes Some (repeat item ts k n done)
unfolding repeat
repeat_some item [] k n done d = continued_comes Any Some (item []) (λ a m. parsed done n) (parsed done n) (any_comes (item [])) (λ a m _. d) d
repeat_some item (t ∷ ts) (suc k) n done d = repeat_some item ts k n done d
repeat_some item (t ∷ ts) zero n done d =
    continued_comes Any Some (item (t ∷ ts)) (λ a m. repeat item ts (m - 1) (n + m) (done ++ (a ∷ []))) (parsed done n) (any_comes (item (t ∷ ts)))
    (λ a m _. repeat_some item ts (m - 1) (n + m) (done ++ (a ∷ [])) (append_some done (a ∷ []) d))
    d

-- Items with a sign between them are at least one.
separated_some : {A : Type 0} (kind : ℕ) (item : Tokens → Parsed A) (ts : Tokens) → Comes Some (separated kind item ts)
separated_some kind item ts = past_comes Some (item ts) ts _ (λ a us. repeat_some (behind kind item) us 0 0 (a ∷ []) (omega arith))

module _ (text : List ℕ) (last : ℕ) (ts : Tokens) where
  sort_comes : Comes Nonempty (sort_of last ts)
  sort_comes = past_comes Nonempty (name last ts) ts _ (λ n us. tt)

  ctor_comes : Comes Nonempty (ctor_of last ts)
  ctor_comes =
      past_comes Nonempty (title_of last ts) ts _
      (λ n us. follow_comes Some Nonempty (arrows_of last us) us _ (separated_some 15 (name last) us) (λ ss vs h. h))

  pred_comes : Comes Nonempty (pred_of text last ts)
  pred_comes =
      past_comes Nonempty (title_of last ts) ts _
      (λ n us. past_comes Nonempty (arrows_of last us) us _ (λ ss vs. when_comes Nonempty (ends_in_prop text ss) _ _ tt tt))

  rule_comes : Comes Nonempty (readRule text last ts)
  rule_comes =
      past_comes Nonempty (title_of last ts) ts _
      (λ n us. follow_comes Some Nonempty (judgments_of text last us) us _ (separated_some 15 (term text last) us) (λ js vs h. h))

  def_comes : Comes Nonempty (def_of text last ts)
  def_comes =
      past_comes Nonempty (title_of last ts) ts _
      (λ n us. follow_comes Some Nonempty (arrows_of last us) us _ (separated_some 15 (name last) us)
      (λ ss vs h. past_comes Nonempty (repeat (readClause text last) vs 0 0 []) vs _ (λ cs ws. h)))

  theorem_comes : Comes Nonempty (theorem_of text last ts)
  theorem_comes =
      past_comes Nonempty (name last ts) ts _
      (λ n us. past_comes Nonempty (repeat (binders_of last) us 0 0 []) us _
      (λ bs vs. past_comes Nonempty (sign_of last 20 vs) vs _
      (λ _ ws. past_comes Nonempty (judgments_of text last ws) ws _
      (λ js xs. past_comes Nonempty (tactic_of last xs) xs _ (λ t ys. tt)))))

  eval_comes : Comes Nonempty (eval_of text last ts)
  eval_comes = past_comes Nonempty (term text last ts) ts _ (λ t us. tt)

  check_comes : Comes Nonempty (check_of text last ts)
  check_comes = past_comes Nonempty (term text last ts) ts _ (λ t us. tt)

  body_comes : (k : ℕ) (all : Tokens) → Comes Nonempty (body_of text last k all ts)
  unfolding body_of
  body_comes k all =
      when_comes Nonempty (eqb k 1) _ _ sort_comes
      (when_comes Nonempty (eqb k 2) _ _ ctor_comes
      (when_comes Nonempty (eqb k 3) _ _ pred_comes
      (when_comes Nonempty (eqb k 4) _ _ rule_comes
      (when_comes Nonempty (eqb k 5) _ _ def_comes
      (when_comes Nonempty (eqb k 6) _ _ theorem_comes
      (when_comes Nonempty (eqb k 7) _ _ tt
      (when_comes Nonempty (eqb k 8) _ _ tt
      (when_comes Nonempty (eqb k 9) _ _ tt
      (when_comes Nonempty (eqb k 10) _ _ eval_comes
      (when_comes Nonempty (eqb k 11) _ _ check_comes tt))))))))))

abbrev Full : Declared → Type 0
Full d = Nonempty d.declaration

declared_comes : (text : List ℕ) (last : ℕ) (ts : Tokens) → Comes Full (declaration_of text last ts)
unfolding declaration_of
declared_comes text last [] = tt
declared_comes text last (t ∷ ts) =
    let body : Parsed Declaration = body_of text last (get_or t 0 0) (t ∷ ts) ts in
    let next : Declaration → Tokens → Parsed Declared = λ d us. parsed (record { line = get_or t 3 0; declaration = d }) 0 in
    plus_comes Full 1 (follow body ts next)
    (follow_comes Nonempty Full body ts next (body_comes text last ts (get_or t 0 0) (t ∷ ts)) (λ d us h. h))

-- Each declaration that is parsed has what `declare` asks for.
pub parsed_nonempty : (text : List ℕ) (ts : Tokens) (ds : List Declared) (n : ℕ) → parse_of text ts ≡ parsed ds n → Each (λ d. Nonempty d.declaration) ds
unfolding parse_of
parsed_nonempty text ts ds n e =
    let g : Comes (Each Full) (repeat (declaration_of text (last_line ts)) ts 0 0 [])
    = repeat_comes Full (declaration_of text (last_line ts)) (declared_comes text (last_line ts)) ts 0 0 [] tt in
    rw e at g

-- Numbers

-- A number of the table.
abbrev pub Numbered : ℕ → Type 0
Numbered e = (0 < e) × (e ≤ 28)

cond_case : {A : Type 0} (P : A → Type 0) (b : Bool) (x y : A) → P x → P y → P (cond b x y)
cond_case P true x y h g = h
cond_case P false x y h g = g

when_case : {A : Type 0} (P : A → Type 0) (b : Bool) (f g : ℕ → A) → P (f 0) → P (g 0) → P (when b f g)
when_case P true f g h k = h
when_case P false f g h k = k

-- Patterns

abbrev EntryNumbered : Entry → Type 0
EntryNumbered (unentered e) = Numbered e
EntryNumbered (entered i vs) = Unit {0}

abbrev OutNumbered : {n : Arity} → Out n → Type 0
OutNumbered (bad e) = Numbered e
OutNumbered (good p vs room) = Unit {0}

enter_numbered : (vs : List Variable) (w : Name) (s : ℕ) → EntryNumbered (enter vs w s)
unfolding enter
enter_numbered vs w s =
    cond_case EntryNumbered (ltb (variable_number vs w) (length vs)) _ _ (go (variable_number vs w) (get_or vs (variable_number vs w) no_variable))
    (cond_case EntryNumbered (ltb (length vs) 64) _ _ tt (omega arith, omega arith))
  where
    go : (i : ℕ) (v : Variable) → EntryNumbered (known vs i v s)
    go i v =
        cond_case EntryNumbered (eqb v.sort 0) _ _ tt
        (cond_case EntryNumbered (eqb s 0) _ _ tt (cond_case EntryNumbered (eqb v.sort s) _ _ tt (omega arith, omega arith)))

counted_numbered : (e : Entry) (room : ℕ) → EntryNumbered e → OutNumbered (counted e room)
counted_numbered (unentered e) room h = h
counted_numbered (entered i vs) zero h = (omega arith, omega arith)
counted_numbered (entered i vs) (suc room) h = tt

bind_numbered : {m n : Arity} (o : Out m) (f : Syn (kind_of m) → List Variable → ℕ → Out n) → OutNumbered o
    → ((t : Syn (kind_of m)) (vs : List Variable) (room : ℕ) → OutNumbered (f t vs room)) → OutNumbered (bind o f)
bind_numbered (bad e) f h g = h
bind_numbered (good t vs room) f h g = g t vs room

misfit_small : (f : Symbol) (s k : ℕ) → misfit f s k ≤ 28
misfit_small f s k =
    cond_case (λ n. n ≤ 28) (eqb f.function 1 && ltb 0 s) 22 _ (omega arith)
    (cond_case (λ n. n ≤ 28) (eqb f.output s) _ 23 (cond_case (λ n. n ≤ 28) (eqb (length f.inputs) k) 0 21 (omega arith) (omega arith)) (omega arith))

-- A node of the symbol f with k arguments.
node_numbered : (f : Symbol) (s k room : ℕ) (make : ℕ → Out one) → ((r : ℕ) → OutNumbered (make r)) → OutNumbered (fitting (misfit f s k) (λ _. spent room make))
node_numbered f s k room make h = go (misfit f s k) room (misfit_small f s k)
  where
    go : (e room : ℕ) → e ≤ 28 → OutNumbered (fitting e (λ _. spent room make))
    go (suc e) room l = (omega arith, l)
    go zero zero l = (omega arith, omega arith)
    go zero (suc room) l = h room

module _ (symbols : List Symbol) where
  chain_numbered : (y z n s : ℕ) (vs : List Variable) (room : ℕ) → OutNumbered (chain symbols y z n s vs room)
  unfolding chain
  chain_numbered y z zero s vs room = node_numbered (symbol_at symbols z) s 0 room _ (λ r. tt)
  chain_numbered y z (suc n) s vs room =
      node_numbered (symbol_at symbols y) s 1 room _
      (λ r. bind_numbered (chain symbols y z n (first (symbol_at symbols y).inputs) vs r) _ (chain_numbered y z n (first (symbol_at symbols y).inputs) vs r) (λ t us q. tt))

  pattern_numbered : {n : Arity} (t : Written n) (sorts : List ℕ) (vs : List Variable) (room : ℕ) → OutNumbered (pattern_of symbols t sorts vs room)
  unfolding pattern_of
  pattern_numbered (number n) sorts vs room =
      when_case OutNumbered (is_ctor symbols zero_name && is_ctor symbols succ_name) _ _
      (chain_numbered (symbol_number symbols succ_name) (symbol_number symbols zero_name) n (first sorts) vs room)
      (omega arith, omega arith)
  pattern_numbered (meta w) sorts vs room = counted_numbered (enter vs w (first sorts)) room (enter_numbered vs w (first sorts))
  pattern_numbered (called w) sorts vs room =
      when_case OutNumbered (ltb (symbol_number symbols w) (length symbols)) _ _
      (node_numbered (symbol_at symbols (symbol_number symbols w)) (first sorts) 0 room _ (λ r. tt))
      (when_case OutNumbered (eqb (first sorts) 0) _ _ (omega arith, omega arith)
      (counted_numbered (enter vs w (first sorts)) room (enter_numbered vs w (first sorts))))
  pattern_numbered (applied w ts) sorts vs room =
      when_case OutNumbered (ltb (symbol_number symbols w) (length symbols)) _ _
      (node_numbered (symbol_at symbols (symbol_number symbols w)) (first sorts) (size ts) room _
      (λ r. bind_numbered (pattern_of symbols ts (symbol_at symbols (symbol_number symbols w)).inputs vs r) _
      (pattern_numbered ts (symbol_at symbols (symbol_number symbols w)).inputs vs r)
      (λ us ws q. tt)))
      (omega arith, omega arith)
  pattern_numbered none sorts vs room = tt
  pattern_numbered (more t ts) sorts vs room =
      bind_numbered (pattern_of symbols t (first sorts ∷ []) vs room) _ (pattern_numbered t (first sorts ∷ []) vs room)
      (λ u ws q. bind_numbered (pattern_of symbols ts (rest sorts) ws q) _ (pattern_numbered ts (rest sorts) ws q) (λ us xs p. tt))

-- Rules

abbrev RuledNumbered : Ruled → Type 0
RuledNumbered (barred e) = Numbered e
RuledNumbered (ruled R room) = Unit {0}

rule_numbered : (symbols : List Symbol) (name : Name) (ps : Written many) (c : Written one) (room : ℕ) → RuledNumbered (rule_of symbols name ps c room)
unfolding rule_of
rule_numbered symbols name ps c room =
    when_case RuledNumbered (ltb 16 (size ps)) _ _ (omega arith, omega arith) (premises (pattern_of symbols ps [] [] room) (pattern_numbered symbols ps [] [] room))
  where
    last : (us : Syn (kind_of many)) (o : Out one) → OutNumbered o → RuledNumbered (closed name us o)
    last us (bad e) h = h
    last us (good t vs room) h = cond_case RuledNumbered (all_known vs) _ _ tt (omega arith, omega arith)

    premises : (o : Out many) → OutNumbered o → RuledNumbered (concluded symbols name c o)
    premises (bad e) h = h
    premises (good us vs room) h = last us (pattern_of symbols c (0 ∷ []) vs room) (pattern_numbered symbols c (0 ∷ []) vs room)

clause_numbered : (symbols : List Symbol) (f : Name) (n : ℕ) (patterns : Written many) (right : Written one) (room : ℕ)
    → RuledNumbered (clause_of symbols f n patterns right room)
unfolding clause_of
clause_numbered symbols f n patterns right room = go (flatten_of symbols right none)
  where
    go : (o : Flat one) → RuledNumbered (flat_rule symbols f n patterns o room)
    go (flat r ps) = rule_numbered symbols _ ps _ room

entering_numbered : (n : ℕ) (r : Ruled) → RuledNumbered r → RuledNumbered (entering n r)
entering_numbered n (barred e) h = h
entering_numbered n (ruled R room) h = cond_case RuledNumbered (ltb n 1024) _ _ tt (omega arith, omega arith)

-- Declarations

abbrev pub StepNumbered : Step → Type 0
StepNumbered (no e) = Numbered e
StepNumbered (on s) = Unit {0}

abbrev LoadedNumbered : Loaded → Type 0
LoadedNumbered (refused e line) = Numbered e
LoadedNumbered (loaded s) = Unit {0}

with_rule_numbered : (s : Signature) (room n : ℕ) (r : Ruled) → RuledNumbered r → StepNumbered (with_rule s room (entering n r))
with_rule_numbered s room n r h = go (entering n r) (entering_numbered n r h)
  where
    go : (r : Ruled) → RuledNumbered r → StepNumbered (with_rule s room r)
    go (barred e) h = h
    go (ruled R left) h = tt

unless_numbered : (e : ℕ) (s : Signature) → e ≤ 28 → StepNumbered (unless e s)
unless_numbered zero s l = tt
unless_numbered (suc e) s l = (omega arith, l)

then_numbered : (o : Step) (next : Signature → Step) → StepNumbered o → ((s : Signature) → StepNumbered (next s)) → StepNumbered (and_then o next)
then_numbered (no e) next h g = h
then_numbered (on s) next h g = g s

sort_numbered : (s : Signature) (w : Name) → StepNumbered (enter_sort s w)
sort_numbered s w =
    unless_numbered (sort_refusal s.sorts s.symbols w) _
    (cond_case (λ n. n ≤ 28) (is_taken s.sorts s.symbols w) 17 _ (omega arith)
    (cond_case (λ n. n ≤ 28) (ltb (length s.sorts) 256) 0 28 (omega arith) (omega arith)))

symbol_numbered : (s : Signature) (f : Symbol) → StepNumbered (enter_symbol s f)
symbol_numbered s f =
    unless_numbered (symbol_refusal s.sorts s.symbols f.name (length f.inputs)) _
    (cond_case (λ n. n ≤ 28) (is_taken s.sorts s.symbols f.name) 17 _ (omega arith)
    (cond_case (λ n. n ≤ 28) (ltb 16 (length f.inputs)) 28 _ (omega arith)
    (cond_case (λ n. n ≤ 28) (ltb (length s.symbols) 1024) 0 28 (omega arith) (omega arith))))

-- Sorts that are known are as many as their names.
abbrev Numbering : List Name → Numbers → Type 0
Numbering ws unknown = Unit {0}
Numbering ws (numbers ns) = length ns ≡ length ws

numbers_count : (sorts ws : List Name) → Numbering ws (numbers_of sorts ws)
unfolding numbers_of
numbers_count sorts [] = refl
numbers_count sorts (w ∷ ws) = when_case (Numbering (w ∷ ws)) (ltb (sort_number sorts w) (length sorts)) _ _ (go (numbers_of sorts ws) (numbers_count sorts ws)) tt
  where
    go : (o : Numbers) → Numbering ws o → Numbering (w ∷ ws) (prepend (suc (sort_number sorts w)) o)
    go unknown h = tt
    go (numbers ns) h = omega arith

sorts_numbered : (o : Numbers) (next : List ℕ → Step) → ((ns : List ℕ) → StepNumbered (next ns)) → StepNumbered (with_sorts o next)
sorts_numbered unknown next h = (omega arith, omega arith)
sorts_numbered (numbers ns) next h = h ns

some_numbered : (ws : List Name) (o : Numbers) (next : List ℕ → Step) → Some ws → Numbering ws o → ((ns : List ℕ) → StepNumbered (next ns))
    → StepNumbered (with_sorts o (λ ns. with_some ns (next ns)))
some_numbered ws unknown next l h g = (omega arith, omega arith)
some_numbered ws (numbers []) next l h g = absurd (omega arith)
some_numbered ws (numbers (n ∷ ns)) next l h g = g (n ∷ ns)

module _ (limit : ℕ) (text : List ℕ) where
  rule_entered : (s : Signature) (name : Name) (ps : Written many) (c : Written one) → StepNumbered (enter_rule limit text s name ps c)
  rule_entered s name ps c =
      with_rule_numbered s (room_in limit s) (length s.rules) (rule_of s.symbols name ps c (room_in limit s)) (rule_numbered s.symbols name ps c (room_in limit s))

  clause_entered : (s : Signature) (f : Name) (n : ℕ) (c : Clause) → StepNumbered (enter_clause limit text s f n c)
  clause_entered s f n c =
      let ps : Written many = spelled text (all_of c.patterns) in
      let right : Written one = spelled text c.body in
      with_rule_numbered s (room_in limit s) (length s.rules) (clause_of s.symbols f n ps right (room_in limit s))
      (clause_numbered s.symbols f n ps right (room_in limit s))

  clauses_numbered : (s : Signature) (f : Name) (n : ℕ) (cs : List Clause) → StepNumbered (enter_clauses limit text s f n cs)
  unfolding enter_clauses
  clauses_numbered s f n [] = tt
  clauses_numbered s f n (c ∷ cs) =
      then_numbered (enter_clause limit text s f n c) (λ t. enter_clauses limit text t f (suc n) cs) (clause_entered s f n c) (λ t. clauses_numbered t f (suc n) cs)

  judgments_numbered : (s : Signature) (name : Name) (js : List (Source one)) → Some js → StepNumbered (enter_judgments limit text s name js)
  judgments_numbered s name [] l = absurd (omega arith)
  judgments_numbered s name (j ∷ js) l = rule_entered s name (spelled text (all_of (front_of (j ∷ js)))) (spelled text (last_judgment j js))

  -- A declaration is refused by a number of the table.
  pub declare_numbered : (s : Signature) (d : Declaration) → Nonempty d → StepNumbered (declare limit text s d)
  declare_numbered s (sort p) h = sort_numbered s (bytes_at text p)
  declare_numbered s (ctor p ss) h =
      let f : List ℕ → Symbol = λ ns. record { name = bytes_at text p; inputs = front_of ns; output = last_of ns; function = 0; first = 0; clauses = 0 } in
      some_numbered (map (bytes_at text) ss) (numbers_of s.sorts (map (bytes_at text) ss)) (λ ns. enter_symbol s (f ns)) (rw length-map h)
      (numbers_count s.sorts (map (bytes_at text) ss))
      (λ ns. symbol_numbered s (f ns))
  declare_numbered s (pred p ss) h =
      let f : List ℕ → Symbol = λ ns. record { name = bytes_at text p; inputs = ns; output = 0; function = 0; first = 0; clauses = 0 } in
      sorts_numbered (numbers_of s.sorts (map (bytes_at text) ss)) (λ ns. enter_symbol s (f ns)) (λ ns. symbol_numbered s (f ns))
  declare_numbered s (rule p js) h = judgments_numbered s (bytes_at text p) js h
  declare_numbered s (def p ss cs) h =
      let f : List ℕ → Symbol = λ ns. record { name = bytes_at text p; inputs = ns; output = 0; function = 1; first = first_of s cs; clauses = length cs } in
      let next : Signature → Step = λ t. enter_clauses limit text t (bytes_at text p) 0 cs in
      some_numbered (map (bytes_at text) ss) (numbers_of s.sorts (map (bytes_at text) ss)) (λ ns. and_then (enter_symbol s (f ns)) next) (rw length-map h)
      (numbers_count s.sorts (map (bytes_at text) ss))
      (λ ns. then_numbered (enter_symbol s (f ns)) next (symbol_numbered s (f ns)) (λ t. clauses_numbered t (bytes_at text p) 0 cs))
  declare_numbered s (theorem p bs js t) h = (omega arith, omega arith)
  declare_numbered s (eval t) h = tt
  declare_numbered s (check t) h = (omega arith, omega arith)

  from_numbered : (s : Signature) (ds : List Declared) → Each Full ds → LoadedNumbered (load_from limit text s ds)
  unfolding load_from
  from_numbered s [] h = tt
  from_numbered s (d ∷ ds) h = go (declare limit text s d.declaration) (declare_numbered s d.declaration h.0) (λ t. from_numbered t ds h.1)
    where
      go : (o : Step) → StepNumbered o → ((t : Signature) → LoadedNumbered (load_from limit text t ds)) → LoadedNumbered (go_on o d.line (λ t. load_from limit text t ds))
      go (no e) h g = h
      go (on t) h g = g t

  -- So are declarations.
  pub loaded_numbered : (ds : List Declared) (e line : ℕ) → Each (λ d. Nonempty d.declaration) ds → load_of limit text ds ≡ refused e line → (0 < e) × (e ≤ 28)
  loaded_numbered ds e line h q = let g = from_numbered empty ds h in rw q at g
