-- Rows of any width whose numbers are all one value.
use Rattle.std.specs.Prelude.{ℕ, Bool, List, ◌==◌}
use Rattle.std.specs.List.{list_all}
use Rattle.load_storage.specs.Storage.{Buffers, AllFilled as AllFilledWith}

-- Is each of the numbers v?
abbrev pub is_all : ℕ → List ℕ → Bool
is_all v l = list_all (λ n. n == v) l

-- Is each number of the rows v?
abbrev pub are_all : ℕ → List (List ℕ) → Bool
are_all v rows = list_all (is_all v) rows

-- What each number is before a call: 0xA5A5A5A5.
abbrev pub junk : ℕ
junk = 2779096485

-- All that a load is lent holds this number in each place.
abbrev pub AllFilled : Buffers → Buffers → Type 0
AllFilled b b' = AllFilledWith junk b b'
