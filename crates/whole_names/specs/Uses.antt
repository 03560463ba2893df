-- What it means that every word of a declaration is taken whole: its own name, and each name, metavariable and numeral that it uses.
use Rattle.std.specs.Prelude.{ℕ, Some, ◌≡◌, List}
use Rattle.source_text.specs.Numerals.{numeral_of}
use Rattle.term_parser.specs.Source.{Place, place, Arity, Source, numeral, metavariable, name, application, none, more}
use Rattle.term_parser.specs.Standing.{bytes_at}
use Rattle.term_parser.specs.ReaderLaws.{Each}
use Rattle.parser.specs.Source.{Clause, Binders, Tactic, auto, induction, Declaration, sort, ctor, pred, rule, def, theorem, eval, check}
use Rattle.parser.specs.Declarations.{Declared}
use Rattle.whole_words.specs.Words.{WordAt}

-- At a place of a text stands a whole word that is read as this kind; a name is kind 12, a metavariable 13, a numeral 14.
abbrev pub Whole : List ℕ → ℕ → Place → Type 0
Whole text kind (place start n) = WordAt text kind start n

abbrev pub WholeName : List ℕ → Place → Type 0
WholeName text p = Whole text 12 p

-- So of each word of a term, or of several terms; and the number that stands for a numeral is the value of its digits.
unfoldable pub TermWhole : {n : Arity} → List ℕ → Source n → Type 0
TermWhole text (numeral p v) = Whole text 14 p × (numeral_of (bytes_at text p) ≡ Some v)
TermWhole text (metavariable p) = Whole text 13 p
TermWhole text (name p) = WholeName text p
TermWhole text (application p ts) = WholeName text p × TermWhole text ts
TermWhole text none = Unit {0}
TermWhole text (more t ts) = TermWhole text t × TermWhole text ts

pub record ClauseWhole (text : List ℕ) (c : Clause) : Type 0 where
  pub patterns : Each (TermWhole text) c.patterns
  pub body : TermWhole text c.body

pub record BindersWhole (text : List ℕ) (b : Binders) : Type 0 where
  pub names : Each (WholeName text) b.names
  pub sort : WholeName text b.sort

abbrev pub TacticWhole : List ℕ → Tactic → Type 0
TacticWhole text auto = Unit {0}
TacticWhole text (induction p) = WholeName text p

-- So of each word of a declaration.
abbrev pub DeclarationWhole : List ℕ → Declaration → Type 0
DeclarationWhole text (sort p) = WholeName text p
DeclarationWhole text (ctor p ss) = WholeName text p × Each (WholeName text) ss
DeclarationWhole text (pred p ss) = WholeName text p × Each (WholeName text) ss
DeclarationWhole text (rule p js) = WholeName text p × Each (TermWhole text) js
DeclarationWhole text (def p ss cs) = WholeName text p × Each (WholeName text) ss × Each (ClauseWhole text) cs
DeclarationWhole text (theorem p bs js t) = WholeName text p × Each (BindersWhole text) bs × Each (TermWhole text) js × TacticWhole text t
DeclarationWhole text (eval t) = TermWhole text t
DeclarationWhole text (check t) = TermWhole text t

abbrev pub DeclaredWhole : List ℕ → Declared → Type 0
DeclaredWhole text d = DeclarationWhole text d.declaration
