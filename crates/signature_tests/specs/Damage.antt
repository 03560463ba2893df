-- Storage with a single number changed.
use Rattle.std.specs.Prelude.{ℕ, ◌<◌, List, [], length, slice_index_or, slice_set}
use Rattle.load_storage.specs.Storage.{Buffers}
use Rattle.signature.specs.Storage.{SignatureStore}
use Rattle.signature.specs.declared.Counts.{Counts}
use Rattle.signature_tests.specs.declared.damage.LoadedSignature.{LoadedSignature}
use Rattle.signature_tests.specs.declared.damage.Spot.{Spot}
use Rattle.signature_tests.specs.declared.damage.Spot.TheVariants.{Sort, Symbol, Rule, Word}

-- Rows with another number in a column of the row i.
abbrev pub in_rows : List (List ℕ) → ℕ → ℕ → ℕ → List (List ℕ)
in_rows rows i column value = slice_set rows i (slice_set (slice_index_or rows i []) column value)

-- A place stands in the storage.
abbrev pub Stands : Spot → LoadedSignature → Type 0
Stands (Sort i column) l = (i < length l.sorts.now) × (column < 2)
Stands (Symbol i column) l = (i < length l.symbols.now) × (column < 24)
Stands (Rule i column) l = (i < length l.rules.now) × (column < 154)
Stands (Word i) l = i < length l.words.now

-- The number at a place.
abbrev pub number_at : Spot → LoadedSignature → ℕ
number_at (Sort i column) l = slice_index_or (slice_index_or l.sorts.now i []) column 0
number_at (Symbol i column) l = slice_index_or (slice_index_or l.symbols.now i []) column 0
number_at (Rule i column) l = slice_index_or (slice_index_or l.rules.now i []) column 0
number_at (Word i) l = slice_index_or l.words.now i 0

-- The storage with another number at a place.
abbrev pub changed : Spot → LoadedSignature → ℕ → LoadedSignature
changed (Sort i column) l value = record l { sorts = record l.sorts { now = in_rows l.sorts.now i column value } }
changed (Symbol i column) l value = record l { symbols = record l.symbols { now = in_rows l.symbols.now i column value } }
changed (Rule i column) l value = record l { rules = record l.rules { now = in_rows l.rules.now i column value } }
changed (Word i) l value = record l { words = record l.words { now = slice_set l.words.now i value } }

-- The signature that stands in what a load is lent.
abbrev pub stored_in : Buffers → Counts → SignatureStore
stored_in b counts = record { sorts = b.sorts; symbols = b.symbols; rules = b.rules; words = b.words; counts = counts }

-- The signature that stands in the storage.
abbrev pub loaded_in : LoadedSignature → SignatureStore
loaded_in l = record { sorts = l.sorts.now; symbols = l.symbols.now; rules = l.rules.now; words = l.words.now; counts = l.counts }
