-- What `horn_check_signature` answers on storage of any contents.
use Rattle.std.specs.Prelude.{ℕ, ◌*◌, ◌^◌, ◌≤◌, ◌≡◌, List, length, get_or}
use Rattle.names.specs.Symbols.{Rows}
use Rattle.signature.specs.Form.{Listed}

-- Four counts are lent, and the storage is in the listed form with them: sorts, symbols, rules and words.
pub record StoredForm (text : List ℕ) (sorts symbols rules : Rows) (words counts : List ℕ) : Type 0 where
  pub lent : 4 ≤ length counts
  pub listed : Listed text sorts symbols rules words (get_or counts 0 0) (get_or counts 1 0) (get_or counts 2 0) (get_or counts 3 0)

-- 0 exactly for such storage, and refusal 1 for any other.
pub record CheckedAs (text : List ℕ) (sorts symbols rules : Rows) (words counts : List ℕ) (answer : ℕ) : Type 0 where
  pub taken : StoredForm text sorts symbols rules words counts → answer ≡ 0
  pub refused : (StoredForm text sorts symbols rules words counts → ⊥) → answer ≡ 1 * 2 ^ 32
