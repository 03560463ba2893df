-- Source terms become patterns (document 01, "Rules"; the Rust's `Vars::get`, `Sig::numeral` and `Sig::pattern`): symbols by their whole names, all other
-- names and the metavariables variables, numbered by first appearance. Limits are those of refusal 28, each tested where its item is entered.
use Rattle.std.specs.Prelude.{ℕ, zero, suc, Bool, true, false, cond, ◌&&◌, List, [], ◌∷◌, ◌++◌, eqb, ltb, length, get_or, set}
use Rattle.terms.specs.Term.{Kind, Syn, var, app, nil, cons}
use Rattle.terms.specs.Term.Kind.{one as single, many as several}
use Rattle.term_parser.specs.Source.{Arity, one, many}
use Rattle.term_parser.specs.Standing.{Written, number, meta, called, applied, nil as none, cons as more, size}
use Rattle.names.specs.Names.{Name}
use Rattle.names.specs.Symbols.{Symbol, Variable, symbol_number, variable_number, symbol_at}

abbrev pub no_variable : Variable
no_variable = record { name = []; sort = 0 }

-- A variable's number with the variables then standing, or a refusal.
pub data Entry : Type 0 where
  refused : ℕ → Entry
  entered : ℕ → List Variable → Entry

-- A variable at a place of a sort (0: of a judgment): its sort is set where it was not known, and has to be the same where it was.
abbrev pub known : List Variable → ℕ → Variable → ℕ → Entry
known vs i v s =
    cond (eqb v.sort 0) (entered i (set vs i (record { name = v.name; sort = s })))
    (cond (eqb s 0) (entered i vs) (cond (eqb v.sort s) (entered i vs) (refused 24)))

-- `Vars::get`, with room for 64 variables.
unfoldable pub enter : List Variable → Name → ℕ → Entry
enter vs w s =
    cond (ltb (variable_number vs w) (length vs)) (known vs (variable_number vs w) (get_or vs (variable_number vs w) no_variable) s)
    (cond (ltb (length vs) 64) (entered (length vs) (vs ++ (record { name = w; sort = s } ∷ []))) (refused 28))

-- Patterns are terms: one for one source term, several for several.
abbrev pub kind_of : Arity → Kind
kind_of one = single
kind_of many = several

-- A pattern, with the variables and the room for nodes then left; or the first refusal.
pub data Out (n : Arity) : Type 0 where
  bad : ℕ → Out n
  good : Syn (kind_of n) → List Variable → ℕ → Out n

abbrev pub bind : {m n : Arity} → Out m → (Syn (kind_of m) → List Variable → ℕ → Out n) → Out n
bind (bad e) f = bad e
bind (good t vs room) f = f t vs room

-- A variable is a node too: it is entered, then counted.
abbrev pub counted : Entry → ℕ → Out one
counted (refused e) room = bad e
counted (entered i vs) zero = bad 28
counted (entered i vs) (suc room) = good (var i) vs room

-- What a symbol is refused for at a place of the sort s (0: a judgment) with k arguments; 0: nothing.
abbrev pub misfit : Symbol → ℕ → ℕ → ℕ
misfit f s k = cond (eqb f.function 1 && ltb 0 s) 22 (cond (eqb f.output s) (cond (eqb (length f.inputs) k) 0 21) 23)

-- A node is counted after its own checks and before its arguments.
abbrev pub spent : ℕ → (ℕ → Out one) → Out one
spent zero f = bad 28
spent (suc room) f = f room

abbrev pub unless : ℕ → (ℕ → Out one) → Out one
unless zero f = f 0
unless (suc e) f = bad (suc e)

-- Is a symbol so named, and has it an output?
abbrev pub is_ctor : List Symbol → Name → Bool
is_ctor symbols w = ltb (symbol_number symbols w) (length symbols) && ltb 0 (symbol_at symbols (symbol_number symbols w)).output

abbrev pub zero_name : Name
zero_name = 122 ∷ 101 ∷ 114 ∷ 111 ∷ []

abbrev pub succ_name : Name
succ_name = 115 ∷ 117 ∷ 99 ∷ 99 ∷ []

abbrev pub first : List ℕ → ℕ
first sorts = get_or sorts 0 0

abbrev pub rest : List ℕ → List ℕ
rest [] = []
rest (s ∷ ss) = ss

-- n times `succ` on `zero`: y and z are their numbers.
unfoldable pub chain : List Symbol → ℕ → ℕ → ℕ → ℕ → List Variable → ℕ → Out one
chain symbols y z zero s vs room = unless (misfit (symbol_at symbols z) s 0) (λ _. spent room (λ r. good (app z nil) vs r))
chain symbols y z (suc n) s vs room =
    unless (misfit (symbol_at symbols y) s 1) (λ _. spent room (λ r.
    bind (chain symbols y z n (first (symbol_at symbols y).inputs) vs r) (λ t us q. good (app y (cons t nil)) us q)))

-- One of two, of which only that one is computed.
abbrev pub when : {A : Type 0} → Bool → (ℕ → A) → (ℕ → A) → A
when true f g = f 0
when false f g = g 0

-- `Sig::pattern`, at places of these sorts (0 or none: a judgment), with these variables and room for so many nodes. One function serves a term, whose
-- sort is the first, and several terms.
unfoldable pub pattern_of : {n : Arity} → List Symbol → Written n → List ℕ → List Variable → ℕ → Out n
pattern_of symbols (number n) sorts vs room =
    when (is_ctor symbols zero_name && is_ctor symbols succ_name)
    (λ _. chain symbols (symbol_number symbols succ_name) (symbol_number symbols zero_name) n (first sorts) vs room) (λ _. bad 26)
pattern_of symbols (meta w) sorts vs room = counted (enter vs w (first sorts)) room
pattern_of symbols (called w) sorts vs room =
    when (ltb (symbol_number symbols w) (length symbols))
    (λ _. unless (misfit (symbol_at symbols (symbol_number symbols w)) (first sorts) 0) (λ _. spent room (λ r. good (app (symbol_number symbols w) nil) vs r)))
    (λ _. when (eqb (first sorts) 0) (λ _. bad 19) (λ _. counted (enter vs w (first sorts)) room))
pattern_of symbols (applied w ts) sorts vs room =
    when (ltb (symbol_number symbols w) (length symbols))
    (λ _. unless (misfit (symbol_at symbols (symbol_number symbols w)) (first sorts) (size ts)) (λ _. spent room (λ r.
    bind (pattern_of symbols ts (symbol_at symbols (symbol_number symbols w)).inputs vs r) (λ us ws q. good (app (symbol_number symbols w) us) ws q))))
    (λ _. bad 20)
pattern_of symbols none sorts vs room = good nil vs room
pattern_of symbols (more t ts) sorts vs room =
    bind (pattern_of symbols t (first sorts ∷ []) vs room) (λ u ws q. bind (pattern_of symbols ts (rest sorts) ws q) (λ us xs p. good (cons u us) xs p))
