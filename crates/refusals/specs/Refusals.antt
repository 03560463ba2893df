-- The numbers of the refusals, as docs/REFUSALS.md lists them.
use Rattle.std.specs.Prelude.{ℕ}
use Rattle.refusals.specs.declared.Refusal.{Refusal}
use Rattle.refusals.specs.declared.Refusal.TheVariants.{NoDeclaration, Storage, TextLength, NotUtf8, OutsideDomain, UnexpectedCharacter, NumeralTooLarge, WordTooLong, ParenthesisLimit, SignExpected, NameExpected, TermExpected, OnlyNames, LeftOfEquals, DeclarationExpected, NoProp, ByForm, OtherKeyword, AlreadyDeclared, UnknownSort, UnknownPredicate, UnknownSymbol, ArgumentCount, FunctionInTerm, CannotStand, TwoSorts, SortNotKnown, NoNumerals, NotLoaded, Full, TooDeep, TooManyCalls, NotGround, NoExpression, WrongSort, NoClause, Inconsistent, Unbound, OverLimit, TooMuch}

abbrev pub number_of : Refusal → ℕ
number_of NoDeclaration = 0
number_of Storage = 1
number_of TextLength = 2
number_of NotUtf8 = 3
number_of OutsideDomain = 3
number_of UnexpectedCharacter = 4
number_of NumeralTooLarge = 5
number_of WordTooLong = 6
number_of ParenthesisLimit = 7
number_of SignExpected = 8
number_of NameExpected = 9
number_of TermExpected = 10
number_of OnlyNames = 11
number_of LeftOfEquals = 12
number_of DeclarationExpected = 13
number_of NoProp = 14
number_of ByForm = 15
number_of OtherKeyword = 16
number_of AlreadyDeclared = 17
number_of UnknownSort = 18
number_of UnknownPredicate = 19
number_of UnknownSymbol = 20
number_of ArgumentCount = 21
number_of FunctionInTerm = 22
number_of CannotStand = 23
number_of TwoSorts = 24
number_of SortNotKnown = 25
number_of NoNumerals = 26
number_of NotLoaded = 27
number_of Full = 28
number_of TooDeep = 29
number_of TooManyCalls = 30
number_of NotGround = 31
number_of NoExpression = 32
number_of WrongSort = 33
number_of NoClause = 34
number_of Inconsistent = 35
number_of Unbound = 36
number_of OverLimit = 37
number_of TooMuch = 38
