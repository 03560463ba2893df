-- By which numbers an evaluation is refused (document 01, "Evaluated terms"): where the clauses are in form, only by those that document
-- 01 lists for calls and for written terms, and never by 1, which is for what is not in form.
-- Here are the definitions; the theorems about them are in proofs/NumberLaws.
use Prim.Native.Nat.{ℕ, ◌+◌, ◌≤◌}
use Rattle.std.specs.Prelude.{◌≡◌, true}
use mathlib.Core.List.{List, [], ◌∷◌}
use Rattle.std.proofs.Math.ListN.{length}
use Rattle.names.specs.Symbols.{Symbol, symbol_at}
use Rattle.resolution.specs.Rules.{Rule}
use Rattle.resolution.specs.Fresh.{elem}

-- The numbers by which a call may be refused, and those for a written term.
abbrev pub call_refusals : List ℕ
call_refusals = 29 ∷ 30 ∷ 34 ∷ 35 ∷ 36 ∷ 37 ∷ []

abbrev pub evaluation_refusals : List ℕ
evaluation_refusals = 20 ∷ 21 ∷ 26 ∷ 29 ∷ 30 ∷ 31 ∷ 32 ∷ 33 ∷ 34 ∷ 35 ∷ 36 ∷ 37 ∷ []

-- The number is one of these.
abbrev pub OneOf : List ℕ → ℕ → Type 0
OneOf numbers e = elem e numbers ≡ true

-- The clauses of each function are among the rules.
abbrev pub ClausesThere : List Symbol → List Rule → Type 0
ClausesThere symbols rules = (f : ℕ) → (symbol_at symbols f).first + (symbol_at symbols f).clauses ≤ length rules
