-- Declarations become a signature (document 01, "Terms and declarations", "Rules" and the table by place): in text order, each refused by 17 to 28 at the line
-- on which it starts. Limits of 28 are tested as the item is entered.
use Rattle.std.specs.Prelude.{ℕ, zero, suc, ◌+◌, ◌-◌, min, Bool, cond, ◌||◌, List, [], ◌∷◌, ◌++◌, map, ltb, length, take}
use Rattle.term_parser.specs.Source.{Source, one, many, all_of}
use Rattle.term_parser.specs.Standing.{Written, spelled, bytes_at}
use Rattle.parser.specs.Source.{Clause, Declaration, sort, ctor, pred, rule, def, theorem, eval, check}
use Rattle.parser.specs.Declarations.{Declared}
use Rattle.names.specs.Names.{Name}
use Rattle.names.specs.Symbols.{Symbol, sort_number, symbol_number}
use Rattle.patterns.specs.Patterns.{when}
use Rattle.resolution.specs.Rules.{Rule}
use Rattle.rules.specs.Rules.{Ruled, barred, ruled, rule_of, entering}
use Rattle.clauses.specs.Clauses.{clause_of}

-- Sorts, symbols and rules in entry order, and how many nodes the rules have.
pub record Signature : Type 0 where
  pub sorts : List Name
  pub symbols : List Symbol
  pub rules : List Rule
  pub nodes : ℕ

abbrev pub empty : Signature
empty = record { sorts = []; symbols = []; rules = []; nodes = 0 }

-- The signature after a declaration, or its refusal.
pub data Step : Type 0 where
  no : ℕ → Step
  on : Signature → Step

abbrev pub and_then : Step → (Signature → Step) → Step
and_then (no e) next = no e
and_then (on s) next = next s

-- With nothing to refuse it for (0), the signature; else the number.
abbrev pub unless : ℕ → Signature → Step
unless zero s = on s
unless (suc e) s = no (suc e)

-- A name serves once among sorts and symbols together.
abbrev pub is_taken : List Name → List Symbol → Name → Bool
is_taken sorts symbols w = ltb (sort_number sorts w) (length sorts) || ltb (symbol_number symbols w) (length symbols)

-- What a sort is refused for: 17, then a 257th sort; 0: nothing.
abbrev pub sort_refusal : List Name → List Symbol → Name → ℕ
sort_refusal sorts symbols w = cond (is_taken sorts symbols w) 17 (cond (ltb (length sorts) 256) 0 28)

abbrev pub enter_sort : Signature → Name → Step
enter_sort s w =
    unless (sort_refusal s.sorts s.symbols w) (record { sorts = s.sorts ++ (w ∷ []); symbols = s.symbols; rules = s.rules; nodes = s.nodes })

-- What a symbol with k inputs is refused for: 17, then a 17th input, then a 1,025th symbol; 0: nothing.
abbrev pub symbol_refusal : List Name → List Symbol → Name → ℕ → ℕ
symbol_refusal sorts symbols w k = cond (is_taken sorts symbols w) 17 (cond (ltb 16 k) 28 (cond (ltb (length symbols) 1024) 0 28))

abbrev pub enter_symbol : Signature → Symbol → Step
enter_symbol s f =
    unless (symbol_refusal s.sorts s.symbols f.name (length f.inputs))
    (record { sorts = s.sorts; symbols = s.symbols ++ (f ∷ []); rules = s.rules; nodes = s.nodes })

-- The numbers of sorts, counted from 1; a name that is no sort gives 18.
pub data Numbers : Type 0 where
  unknown : Numbers
  numbers : List ℕ → Numbers

abbrev pub prepend : ℕ → Numbers → Numbers
prepend n unknown = unknown
prepend n (numbers ns) = numbers (n ∷ ns)

unfoldable pub numbers_of : List Name → List Name → Numbers
numbers_of sorts [] = numbers []
numbers_of sorts (w ∷ ws) = when (ltb (sort_number sorts w) (length sorts)) (λ _. prepend (suc (sort_number sorts w)) (numbers_of sorts ws)) (λ _. unknown)

-- In arrows, sorts are looked up before the name is tested.
abbrev pub with_sorts : Numbers → (List ℕ → Step) → Step
with_sorts unknown next = no 18
with_sorts (numbers ns) next = next ns

-- The arrow of a constructor or a function has at least one sort. (The parser reads none without.)
abbrev pub with_some : List ℕ → Step → Step
with_some [] next = no 0
with_some (n ∷ ns) next = next

-- The last of a list, and what stands before it.
abbrev pub last_of : List ℕ → ℕ
last_of [] = 0
last_of (n ∷ []) = n
last_of (n ∷ m ∷ ns) = last_of (m ∷ ns)

abbrev pub front_of : {A : Type 0} → List A → List A
front_of ns = take (length ns - 1) ns

-- The room for nodes: 1,024 in a rule, and so many in all.
abbrev pub room_in : ℕ → Signature → ℕ
room_in limit s = min 1024 (limit - s.nodes)

abbrev pub with_rule : Signature → ℕ → Ruled → Step
with_rule s room (barred e) = no e
with_rule s room (ruled R left) = on (record { sorts = s.sorts; symbols = s.symbols; rules = s.rules ++ (R ∷ []); nodes = s.nodes + (room - left) })

-- The last of one judgment and more.
abbrev pub last_judgment : Source one → List (Source one) → Source one
last_judgment j [] = j
last_judgment j (k ∷ ks) = last_judgment k ks

-- The first of a function's clauses is the next rule; 0 where there is none.
abbrev pub first_of : Signature → List Clause → ℕ
first_of s [] = 0
first_of s (c ∷ cs) = length s.rules

-- What loading comes to: the signature, or a refusal and its line.
pub data Loaded : Type 0 where
  refused : ℕ → ℕ → Loaded
  loaded : Signature → Loaded

abbrev pub go_on : Step → ℕ → (Signature → Loaded) → Loaded
go_on (no e) line next = refused e line
go_on (on s) line next = next s

module _ (limit : ℕ) (text : List ℕ) where
  abbrev pub enter_rule : Signature → Name → Written many → Written one → Step
  enter_rule s name ps c = with_rule s (room_in limit s) (entering (length s.rules) (rule_of s.symbols name ps c (room_in limit s)))

  abbrev pub enter_clause : Signature → Name → ℕ → Clause → Step
  enter_clause s f n c =
      with_rule s (room_in limit s)
      (entering (length s.rules) (clause_of s.symbols f n (spelled text (all_of c.patterns)) (spelled text c.body) (room_in limit s)))

  -- The clauses of f from number n on.
  unfoldable pub enter_clauses : Signature → Name → ℕ → List Clause → Step
  enter_clauses s f n [] = on s
  enter_clauses s f n (c ∷ cs) = and_then (enter_clause s f n c) (λ t. enter_clauses t f (suc n) cs)

  -- A rule of these judgments, the last of which is its conclusion. (The parser reads at least one.)
  abbrev pub enter_judgments : Signature → Name → List (Source one) → Step
  enter_judgments s name [] = no 0
  enter_judgments s name (j ∷ js) = enter_rule s name (spelled text (all_of (front_of (j ∷ js)))) (spelled text (last_judgment j js))

  -- One declaration.
  abbrev pub declare : Signature → Declaration → Step
  declare s (sort p) = enter_sort s (bytes_at text p)
  declare s (ctor p ss) = with_sorts (numbers_of s.sorts (map (bytes_at text) ss)) (λ ns. with_some ns (enter_symbol s (record
      { name = bytes_at text p; inputs = front_of ns; output = last_of ns; function = 0; first = 0; clauses = 0 })))
  declare s (pred p ss) = with_sorts (numbers_of s.sorts (map (bytes_at text) ss)) (λ ns. enter_symbol s (record
      { name = bytes_at text p; inputs = ns; output = 0; function = 0; first = 0; clauses = 0 }))
  declare s (rule p js) = enter_judgments s (bytes_at text p) js
  declare s (def p ss cs) = with_sorts (numbers_of s.sorts (map (bytes_at text) ss)) (λ ns. with_some ns (and_then (enter_symbol s (record
      { name = bytes_at text p; inputs = ns; output = 0; function = 1; first = first_of s cs; clauses = length cs }))
      (λ t. enter_clauses t (bytes_at text p) 0 cs)))
  declare s (theorem p bs js t) = no 27
  declare s (eval t) = on s
  declare s (check t) = no 27

  -- The declarations from here on.
  unfoldable pub load_from : Signature → List Declared → Loaded
  load_from s [] = loaded s
  load_from s (d ∷ ds) = go_on (declare s d.declaration) d.line (λ t. load_from t ds)

  -- All declarations of a text.
  abbrev pub load_of : List Declared → Loaded
  load_of ds = load_from empty ds
