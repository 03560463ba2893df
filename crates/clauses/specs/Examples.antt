-- `add` of document 01, "One text in full", by running the definitions.
use Rattle.std.specs.Prelude.{◌≡◌, refl, List, [], ◌∷◌, ◌++◌}
use Rattle.source_text.specs.Bytes.{same_bytes}
use Rattle.terms.specs.Term.{var, app, nil, cons}
use Rattle.term_parser.specs.Standing.{number, called, applied, nil as none, cons as more, size}
use Rattle.names.specs.Names.{Name, find, digits, result_name}
use Rattle.names.specs.Symbols.{Symbol}
use Rattle.patterns.specs.Patterns.{zero_name, succ_name, pattern_of, chain, enter, bad, good}
use Rattle.flattening.specs.Flattening.{flatten_of}
use Rattle.rules.specs.Rules.{ruled, rule_of, all_known}
use Rattle.clauses.specs.Clauses.{clause_of}

unfoldable add : Name
add = 97 ∷ 100 ∷ 100 ∷ []

unfoldable m : Name
m = 109 ∷ []

unfoldable n : Name
n = 110 ∷ []

-- zero : Nat, succ : Nat → Nat, add : Nat → Nat → Nat
unfoldable symbols : List Symbol
symbols =
    record { name = zero_name; inputs = []; output = 1; function = 0; first = 0; clauses = 0 }
    ∷ record { name = succ_name; inputs = 1 ∷ []; output = 1; function = 0; first = 0; clauses = 0 }
    ∷ record { name = add; inputs = 1 ∷ 1 ∷ 1 ∷ []; output = 0; function = 1; first = 0; clauses = 2 }
    ∷ []

-- | zero, n => n
first_clause : clause_of symbols add 0 (more (called zero_name) (more (called n) none)) (called n) 100
    ≡ ruled (record {
      name = add ++ (46 ∷ 48 ∷ []);
      sorts = 1 ∷ [];
      premises = nil;
      conclusion = app 2 (cons (app 0 nil) (cons (var 0) (cons (var 0) nil)));
    }) 96
unfolding clause_of symbols add n flatten_of rule_of pattern_of enter find same_bytes all_known size digits
first_clause = refl

-- | succ m, n => succ (add m n)
second_clause : clause_of symbols add 1 (more (applied succ_name (more (called m) none)) (more (called n) none)) (applied succ_name (more (applied add (more (called m) (more (called n) none))) none)) 100
    ≡ ruled (record {
      name = add ++ (46 ∷ 49 ∷ []);
      sorts = 1 ∷ 1 ∷ 1 ∷ [];
      premises = cons (app 2 (cons (var 0) (cons (var 1) (cons (var 2) nil)))) nil;
      conclusion = app 2 (cons (app 1 (cons (var 0) nil)) (cons (var 1) (cons (app 1 (cons (var 2) nil)) nil)));
    }) 90
unfolding clause_of symbols add m n flatten_of rule_of pattern_of enter find same_bytes all_known size digits result_name
second_clause = refl

-- A numeral stands for so many `succ`; as a judgment it cannot stand (23); one that the room cannot hold is refused at once (28).
two : pattern_of symbols (number 2) (1 ∷ []) [] 100 ≡ good (app 1 (cons (app 1 (cons (app 0 nil) nil)) nil)) [] 97
unfolding symbols pattern_of chain find same_bytes
two = refl

judged : pattern_of symbols (number 2) (0 ∷ []) [] 100 ≡ bad 23
unfolding symbols pattern_of chain find same_bytes
judged = refl

full : pattern_of symbols (number 18446744073709551615) (1 ∷ []) [] 100 ≡ bad 28
unfolding symbols pattern_of chain find same_bytes
full = refl
