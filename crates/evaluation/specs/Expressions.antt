-- Evaluated terms (document 01, "Evaluated terms"; the Rust's `is_forward_call` and `Evaluator::expression`): which `#eval` is evaluated, and its value with
-- the trees of the calls written in it, innermost first.
use Rattle.std.specs.Prelude.{ℕ, zero, suc, ◌+◌, ◌-◌, Bool, true, false, cond, not, ◌&&◌, List, [], eqb, ltb, length}
use Rattle.terms.specs.Term.{Syn, var, app, nil, cons, Term}
use Rattle.terms.specs.Term.Kind.{one as single, many as several}
use Rattle.term_parser.specs.Source.{Arity, one, many}
use Rattle.term_parser.specs.Standing.{Written, number, meta, called, applied, nil as none, cons as more, size}
use Rattle.names.specs.Names.{Name}
use Rattle.names.specs.Symbols.{Symbol, symbol_number, symbol_at}
use Rattle.patterns.specs.Patterns.{when, kind_of, is_ctor, zero_name, succ_name, first, rest}
use Rattle.resolution.specs.Rules.{Rule, Tree, leaf, ◌◂◌, joined}
use Rattle.loader.specs.Signature.{Signature}
use Rattle.evaluation.specs.Matching.{Built, barred, built, build_node, if_built}
use Rattle.evaluation.specs.Calls.{Spent, Called, refused, returned, call_of}

abbrev pub max_depth : ℕ
max_depth = 128

-- Has the term no metavariable?
unfoldable pub is_ground : {n : Arity} → Written n → Bool
is_ground (number v) = true
is_ground (meta w) = false
is_ground (called w) = true
is_ground (applied w ts) = is_ground ts
is_ground none = true
is_ground (more t ts) = is_ground t && is_ground ts

-- Is the name a function's that lacks only its result?
abbrev pub is_called_with : List Symbol → Name → ℕ → Bool
is_called_with symbols w k =
    ltb (symbol_number symbols w) (length symbols)
    && (eqb (symbol_at symbols (symbol_number symbols w)).function 1 && eqb (suc k) (length (symbol_at symbols (symbol_number symbols w)).inputs))

-- `is_forward_call`: is this `#eval` evaluated? Every other one is a goal.
unfoldable pub is_forward_call : List Symbol → Written one → Bool
is_forward_call symbols (number v) = false
is_forward_call symbols (meta w) = false
is_forward_call symbols (called w) = is_called_with symbols w 0
is_forward_call symbols (applied w ts) = is_called_with symbols w (size ts) && is_ground ts

-- A value, or several, with the trees of the calls written in it and what is spent then; or a refusal.
pub data Evaluated (n : Arity) : Type 0 where
  failed : ℕ → Evaluated n
  evaluated : Syn (kind_of n) → Tree several → Spent → Evaluated n

abbrev pub if_evaluated : {m n : Arity} → Evaluated m → (Syn (kind_of m) → Tree several → Spent → Evaluated n) → Evaluated n
if_evaluated (failed e) next = failed e
if_evaluated (evaluated v ps c) next = next v ps c

-- The output sort of a value's head, 0 for a predicate's.
abbrev pub sort_in : List Symbol → Term → ℕ
sort_in symbols (var x) = 0
sort_in symbols (app f ts) = (symbol_at symbols f).output

-- How many arguments an expression of the symbol has: a function's last input is its result.
abbrev pub arguments_of : Symbol → ℕ
arguments_of f = length f.inputs - f.function

-- What a symbol applied to k arguments is refused for: a predicate that is no function, then the count; 0: nothing.
abbrev pub misuse : Symbol → ℕ → ℕ
misuse f k = cond (eqb f.function 0 && eqb f.output 0) 32 (cond (eqb k (arguments_of f)) 0 21)

abbrev pub unless : ℕ → (ℕ → Evaluated one) → Evaluated one
unless zero f = f 0
unless (suc e) f = failed (suc e)

-- The tree of a call behind those of its arguments.
abbrev pub behind : Tree several → Called → Evaluated one
behind ps (refused e) = failed e
behind ps (returned v p c) = evaluated v (joined ps (p ◂ leaf)) c

-- A node that is built, with the trees of its arguments.
abbrev pub around : Tree several → ℕ → Built single → Evaluated one
around ps calls (barred e) = failed e
around ps calls (built t used) = evaluated t ps (record { calls = calls; words = used })

-- No expression is deeper than 128: 29.
abbrev pub within : ℕ → (ℕ → Evaluated one) → Evaluated one
within depth next = when (ltb max_depth depth) (λ _. failed 29) next

module _ (limit : ℕ) (symbols : List Symbol) (rules : List Rule) where
  -- n times y on z, upwards: the sort of each is tested before the next is built around it.
  unfoldable pub tower_of : ℕ → ℕ → ℕ → ℕ → Built single
  tower_of y z zero used = build_node limit z nil used
  tower_of y z (suc n) used =
      if_built (tower_of y z n used) (λ t u.
      when (eqb (sort_in symbols t) (first (symbol_at symbols y).inputs)) (λ _. build_node limit y (cons t nil) u) (λ _. barred 33))

  -- What n times y on z is refused for at a depth, before anything is built; 0: nothing.
  abbrev pub numeral_misuse : ℕ → ℕ → ℕ → ℕ → ℕ
  numeral_misuse y z n depth =
      cond (ltb 0 n && not (eqb (length (symbol_at symbols y).inputs) 1)) 21
      (cond (ltb max_depth (depth + n)) 29 (cond (eqb (length (symbol_at symbols z).inputs) 0) 0 21))

  -- A numeral: n times `succ` on `zero`, the outermost at this depth.
  unfoldable pub numeral_of : ℕ → ℕ → Spent → Evaluated one
  numeral_of n depth c =
      when (is_ctor symbols zero_name && is_ctor symbols succ_name)
      (λ _. unless (numeral_misuse (symbol_number symbols succ_name) (symbol_number symbols zero_name) n depth)
      (λ _. around leaf c.calls (tower_of (symbol_number symbols succ_name) (symbol_number symbols zero_name) n c.words)))
      (λ _. failed 26)

  -- A symbol on the values of its arguments, at a depth: a constructor is built, a function called at the next depth.
  abbrev pub apply_of : ℕ → ℕ → Evaluated many → Evaluated one
  apply_of i depth (failed e) = failed e
  apply_of i depth (evaluated vs ps c) =
      when (eqb (symbol_at symbols i).function 1)
      (λ _. behind ps (call_of limit symbols rules (max_depth - depth) i vs c))
      (λ _. around ps c.calls (build_node limit i vs c.words))

  -- The name of an expression with k arguments, looked up: 20, then what a symbol is refused for.
  abbrev pub with_symbol : Name → ℕ → (ℕ → Evaluated one) → Evaluated one
  with_symbol w k next =
      when (ltb (symbol_number symbols w) (length symbols))
      (λ _. unless (misuse (symbol_at symbols (symbol_number symbols w)) k) (λ _. next (symbol_number symbols w))) (λ _. failed 20)

  -- `expression` of a term at a depth, or of the arguments of a symbol, each at this depth; the sorts are those of the arguments.
  unfoldable pub expression_of : {n : Arity} → Written n → List ℕ → ℕ → Spent → Evaluated n
  expression_of (number v) sorts depth c = within depth (λ _. numeral_of v depth c)
  expression_of (meta w) sorts depth c = within depth (λ _. failed 31)
  expression_of (called w) sorts depth c = within depth (λ _. with_symbol w 0 (λ i. apply_of i depth (evaluated nil leaf c)))
  expression_of (applied w ts) sorts depth c =
      within depth (λ _. with_symbol w (size ts) (λ i. apply_of i depth (expression_of ts (symbol_at symbols i).inputs (suc depth) c)))
  expression_of none sorts depth c = evaluated nil leaf c
  expression_of (more t ts) sorts depth c =
      if_evaluated (expression_of t [] depth c) (λ v ps d.
      when (eqb (sort_in symbols v) (first sorts))
      (λ _. if_evaluated (expression_of ts (rest sorts) depth d) (λ vs qs e. evaluated (cons v vs) (joined ps qs) e)) (λ _. failed 33))

-- An evaluation: from depth 0, with nothing spent.
abbrev pub nothing_spent : Spent
nothing_spent = record { calls = 0; words = 0 }

abbrev pub evaluate_of : ℕ → Signature → Written one → Evaluated one
evaluate_of limit S t = expression_of limit S.symbols S.rules t [] 0 nothing_spent
