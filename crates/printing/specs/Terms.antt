-- What a term prints (document 01, "One text in full"; the Rust's `pat_text`), and how many nodes that is (document 01, refusal 39). The bindings are put
-- in before: a variable of the term is an unbound one.
use Rattle.std.specs.Prelude.{ℕ, suc, ◌+◌, Bool, cond, List, [], ◌∷◌, ◌++◌, eqb, ltb}
use Rattle.terms.specs.Term.{Kind, Syn, var, app, nil, cons, Term}
use Rattle.names.specs.Symbols.{Symbol, symbol_at}
use Rattle.byte_output.specs.Output.{numeral}

-- A space, two parentheses, and `?v`.
abbrev pub space : ℕ
space = 32

abbrev pub opening : ℕ
opening = 40

abbrev pub closing : ℕ
closing = 41

abbrev pub variable_sign : List ℕ
variable_sign = 63 ∷ 118 ∷ []

-- An unbound variable.
abbrev pub variable_bytes : ℕ → List ℕ
variable_bytes x = variable_sign ++ numeral x

-- A symbol in front of its arguments,
abbrev pub head_bytes : Symbol → List ℕ
head_bytes f = opening ∷ f.name

-- and one that has none: a constructor is its name alone, a predicate, whose output is 0, has parentheses.
abbrev pub constant_bytes : Symbol → List ℕ
constant_bytes f = cond (eqb f.output 0) (head_bytes f ++ (closing ∷ [])) f.name

-- The bytes of a term; those of arguments, each behind a space.
abbrev pub term_bytes : {s : Kind} → List Symbol → Syn s → List ℕ
term_bytes symbols (var x) = variable_bytes x
term_bytes symbols (app f nil) = constant_bytes (symbol_at symbols f)
term_bytes symbols (app f (cons t ts)) = head_bytes (symbol_at symbols f) ++ (term_bytes symbols (cons t ts) ++ (closing ∷ []))
term_bytes symbols nil = []
term_bytes symbols (cons t ts) = space ∷ (term_bytes symbols t ++ term_bytes symbols ts)

-- How many names and `?v` are printed.
abbrev pub printed_nodes : {s : Kind} → Syn s → ℕ
printed_nodes (var x) = 1
printed_nodes (app f ts) = suc (printed_nodes ts)
printed_nodes nil = 0
printed_nodes (cons t ts) = printed_nodes t + printed_nodes ts

-- The most nodes that a printed term has.
abbrev pub most_nodes : ℕ
most_nodes = 4096

-- Does a term print more? It is refused by 39 then.
abbrev pub is_too_large : Term → Bool
is_too_large t = ltb most_nodes (printed_nodes t)
