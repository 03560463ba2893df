-- The name of a variable, while its rule is compiled, is a whole word of the rule's declaration. A rule's row keeps no names of variables.
use Rattle.std.specs.Prelude.{ℕ, ◌≤◌, ◌<◌, ◌≡◌, List, [], ◌∷◌, ◌++◌, length}
use Rattle.terms.specs.Term.{Term, Terms}
use Rattle.term_parser.specs.Source.{Place, Arity, Source, one, many, numeral, metavariable, name, application, none, more, all_of}
use Rattle.term_parser.specs.Standing.{Written, applied, spelled, bytes_at, nil as empty}
use Rattle.term_parser.specs.ReaderLaws.{Each}
use Rattle.parser.specs.Source.{Clause, Declaration, sort, ctor, pred, rule, def, theorem, eval, check}
use Rattle.names.specs.Names.{Name, result_name}
use Rattle.names.specs.Symbols.{Symbol, Variable}
use Rattle.flattening.specs.Flattening.{flat, snoc, flatten_of}
use Rattle.patterns.specs.Patterns.{good, pattern_of}
use Rattle.loader.specs.Signature.{front_of, last_judgment}
use Rattle.whole_names.specs.Titles.{place_number}
use Rattle.whole_names.specs.Uses.{Whole}

-- The places of the names and metavariables of a term, or of several terms: of the words that may become variables.
unfoldable pub words_in : {n : Arity} → Source n → List Place
words_in (numeral p v) = []
words_in (metavariable p) = p ∷ []
words_in (name p) = p ∷ []
words_in (application p ts) = words_in ts
words_in none = []
words_in (more t ts) = words_in t ++ words_in ts

-- The name w is the word at one of these places, all bytes of it: a whole word that is read as a name (12) or as a metavariable (13).
pub record WordAmong (text : List ℕ) (ps : List Place) (w : Name) : Type 0 where
  pub number : ℕ
  pub there : number < length ps
  pub kind : ℕ
  pub low : 12 ≤ kind
  pub high : kind ≤ 13
  pub whole : Whole text kind (place_number ps number)
  pub is : w ≡ bytes_at text (place_number ps number)

-- So in a clause, where a call that is taken out of the right side leaves the variable `result.n`.
pub data ClauseWord (text : List ℕ) (c : Clause) (w : Name) : Type 0 where
  written : WordAmong text (words_in (all_of c.patterns) ++ words_in c.body) w → ClauseWord text c w
  result : (n : ℕ) → w ≡ result_name n → ClauseWord text c w

-- P holds of the name of each variable that there is when the premises ps of a rule are compiled, and when its conclusion c is.
pub record VariablesNamed (P : Name → Type 0) (symbols : List Symbol) (ps : Written many) (c : Written one) (room : ℕ) : Type 0 where
  pub premises : (us : Terms) (vs : List Variable) (left : ℕ) → pattern_of symbols ps [] [] room ≡ good us vs left
      → Each (λ v. P v.name) vs
  pub conclusion : (us : Terms) (vs : List Variable) (left : ℕ) → pattern_of symbols ps [] [] room ≡ good us vs left
      → (t : Term) (ws : List Variable) (rest : ℕ) → pattern_of symbols c (0 ∷ []) vs left ≡ good t ws rest → Each (λ v. P v.name) ws

-- The variables of a rule of these judgments.
abbrev pub JudgmentsNamed : List ℕ → List (Source one) → Type 0
JudgmentsNamed text [] = Unit {0}
JudgmentsNamed text (j ∷ js) = (symbols : List Symbol) (room : ℕ)
    → VariablesNamed (WordAmong text (words_in (all_of (j ∷ js)))) symbols
    (spelled text (all_of (front_of (j ∷ js)))) (spelled text (last_judgment j js)) room

-- The variables of a clause of the function named at f.
abbrev pub ClauseNamed : List ℕ → Place → Clause → Type 0
ClauseNamed text f c = (symbols : List Symbol) (room : ℕ) (r : Written one) (ps : Written many)
    → flatten_of symbols (spelled text c.body) empty ≡ flat r ps
    → VariablesNamed (ClauseWord text c) symbols ps (applied (bytes_at text f) (snoc (spelled text (all_of c.patterns)) r)) room

-- The variables of a declaration: only rules and clauses have some.
abbrev pub VariablesWhole : List ℕ → Declaration → Type 0
VariablesWhole text (sort p) = Unit {0}
VariablesWhole text (ctor p ss) = Unit {0}
VariablesWhole text (pred p ss) = Unit {0}
VariablesWhole text (rule p js) = JudgmentsNamed text js
VariablesWhole text (def p ss cs) = Each (ClauseNamed text p) cs
VariablesWhole text (theorem p bs js t) = Unit {0}
VariablesWhole text (eval t) = Unit {0}
VariablesWhole text (check t) = Unit {0}
