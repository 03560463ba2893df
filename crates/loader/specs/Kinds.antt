-- What a symbol is, as the columns of its row have it.
use Rattle.std.specs.Prelude.{ℕ, Bool, true, false}
use Rattle.loader.specs.declared.Kind.{Kind}
use Rattle.loader.specs.declared.Kind.TheVariants.{Constructor, Predicate, Function}
use Rattle.loader.specs.declared.SymbolMarks.{SymbolMarks}

abbrev pub is_constructor : Kind → Bool
is_constructor Constructor = true
is_constructor Predicate = false
is_constructor (Function first clauses) = false

abbrev pub mark_in : Kind → ℕ
mark_in Constructor = 0
mark_in Predicate = 0
mark_in (Function first clauses) = 1

abbrev pub first_in : Kind → ℕ
first_in Constructor = 0
first_in Predicate = 0
first_in (Function first clauses) = first

abbrev pub clauses_in : Kind → ℕ
clauses_in Constructor = 0
clauses_in Predicate = 0
clauses_in (Function first clauses) = clauses

abbrev pub marks_of : Kind → SymbolMarks
marks_of kind = record { constructor = is_constructor kind; function = mark_in kind; first = first_in kind; clauses = clauses_in kind }
