-- Source declarations: the Rust's `Decl`, where a name is its whole place in the text. Their terms are those of `term_parser`.
use Rattle.std.specs.Prelude.{List}
use Rattle.term_parser.specs.Source.{Place, Source, one}

-- A clause: its patterns, and its right side.
pub record Clause : Type 0 where
  pub patterns : List (Source one)
  pub body : Source one

-- Binders `(x y : S)`: the names, and their sort.
pub record Binders : Type 0 where
  pub names : List Place
  pub sort : Place

pub data Tactic : Type 0 where
  auto : Tactic
  induction : Place → Tactic

-- What a title and a list behind it declare.
pub record Titled (A : Type 0) : Type 0 where
  pub title : Place
  pub items : List A

-- A declaration. Of a constructor's and a function's sorts the last is the result, of a rule's and a theorem's judgments the last is the conclusion.
pub data Declaration : Type 0 where
  sort : Place → Declaration
  ctor : Place → List Place → Declaration
  pred : Place → List Place → Declaration
  rule : Place → List (Source one) → Declaration
  def : Place → List Place → List Clause → Declaration
  theorem : Place → List Binders → List (Source one) → Tactic → Declaration
  eval : Source one → Declaration
  check : Source one → Declaration
