-- Names are lists of bytes, and two names are the same if all their bytes are (document 01, "Rules"; the Rust's `String`). The name of a row: the word at
-- its place in the text, or the name that flattening gives a variable.
use Rattle.std.specs.Prelude.{ℕ, zero, suc, ◌+◌, ◌*◌, ◌/◌, ◌%◌, ◌<◌, ◌≡◌, refl, Bool, true, cond, ◌&&◌, Option, Some, None, List, [], ◌∷◌, ◌++◌, eqb, ltb, length, get_or}
use Rattle.std.proofs.Common.{arith, below_more}
use Rattle.source_text.specs.Bytes.{same_bytes}
use Rattle.source_text.specs.ByteLaws.{and_left, and_right, same_is}
use Rattle.source_text.specs.Parts.{part_of}

abbrev pub Name : Type 0
Name = List ℕ

-- No name stands twice in a list.
abbrev pub Distinct : List Name → Type 0
Distinct names = (i j : ℕ) → i < j → j < length names → get_or names i [] ≡ get_or names j [] → ⊥

-- A number's decimal digits, of which there are at most k + 1.
unfoldable pub digits : ℕ → ℕ → Name
digits zero n = (48 + n % 10) ∷ []
digits (suc k) n = cond (ltb n 10) ((48 + n) ∷ []) (digits k (n / 10) ++ ((48 + n % 10) ∷ []))

-- A number below 100,000,000 in decimal.
abbrev pub decimal : ℕ → Name
decimal n = digits 7 n

-- `result.n`, the variable that flattening makes for the call with number n.
unfoldable pub result_name : ℕ → Name
result_name n = (114 ∷ 101 ∷ 115 ∷ 117 ∷ 108 ∷ 116 ∷ 46 ∷ []) ++ decimal n

-- `f.n`, the clause with number n of the function f.
abbrev pub clause_name : Name → ℕ → Name
clause_name f n = f ++ (46 ∷ decimal n)

-- The names `result.1` to `result.16`, 16 bytes each.
unfoldable pub result_names : List ℕ
result_names =
    114 ∷ 101 ∷ 115 ∷ 117 ∷ 108 ∷ 116 ∷ 46 ∷ 49 ∷ 0 ∷ 0 ∷ 0 ∷ 0 ∷ 0 ∷ 0 ∷ 0 ∷ 0
    ∷ 114 ∷ 101 ∷ 115 ∷ 117 ∷ 108 ∷ 116 ∷ 46 ∷ 50 ∷ 0 ∷ 0 ∷ 0 ∷ 0 ∷ 0 ∷ 0 ∷ 0 ∷ 0
    ∷ 114 ∷ 101 ∷ 115 ∷ 117 ∷ 108 ∷ 116 ∷ 46 ∷ 51 ∷ 0 ∷ 0 ∷ 0 ∷ 0 ∷ 0 ∷ 0 ∷ 0 ∷ 0
    ∷ 114 ∷ 101 ∷ 115 ∷ 117 ∷ 108 ∷ 116 ∷ 46 ∷ 52 ∷ 0 ∷ 0 ∷ 0 ∷ 0 ∷ 0 ∷ 0 ∷ 0 ∷ 0
    ∷ 114 ∷ 101 ∷ 115 ∷ 117 ∷ 108 ∷ 116 ∷ 46 ∷ 53 ∷ 0 ∷ 0 ∷ 0 ∷ 0 ∷ 0 ∷ 0 ∷ 0 ∷ 0
    ∷ 114 ∷ 101 ∷ 115 ∷ 117 ∷ 108 ∷ 116 ∷ 46 ∷ 54 ∷ 0 ∷ 0 ∷ 0 ∷ 0 ∷ 0 ∷ 0 ∷ 0 ∷ 0
    ∷ 114 ∷ 101 ∷ 115 ∷ 117 ∷ 108 ∷ 116 ∷ 46 ∷ 55 ∷ 0 ∷ 0 ∷ 0 ∷ 0 ∷ 0 ∷ 0 ∷ 0 ∷ 0
    ∷ 114 ∷ 101 ∷ 115 ∷ 117 ∷ 108 ∷ 116 ∷ 46 ∷ 56 ∷ 0 ∷ 0 ∷ 0 ∷ 0 ∷ 0 ∷ 0 ∷ 0 ∷ 0
    ∷ 114 ∷ 101 ∷ 115 ∷ 117 ∷ 108 ∷ 116 ∷ 46 ∷ 57 ∷ 0 ∷ 0 ∷ 0 ∷ 0 ∷ 0 ∷ 0 ∷ 0 ∷ 0
    ∷ 114 ∷ 101 ∷ 115 ∷ 117 ∷ 108 ∷ 116 ∷ 46 ∷ 49 ∷ 48 ∷ 0 ∷ 0 ∷ 0 ∷ 0 ∷ 0 ∷ 0 ∷ 0
    ∷ 114 ∷ 101 ∷ 115 ∷ 117 ∷ 108 ∷ 116 ∷ 46 ∷ 49 ∷ 49 ∷ 0 ∷ 0 ∷ 0 ∷ 0 ∷ 0 ∷ 0 ∷ 0
    ∷ 114 ∷ 101 ∷ 115 ∷ 117 ∷ 108 ∷ 116 ∷ 46 ∷ 49 ∷ 50 ∷ 0 ∷ 0 ∷ 0 ∷ 0 ∷ 0 ∷ 0 ∷ 0
    ∷ 114 ∷ 101 ∷ 115 ∷ 117 ∷ 108 ∷ 116 ∷ 46 ∷ 49 ∷ 51 ∷ 0 ∷ 0 ∷ 0 ∷ 0 ∷ 0 ∷ 0 ∷ 0
    ∷ 114 ∷ 101 ∷ 115 ∷ 117 ∷ 108 ∷ 116 ∷ 46 ∷ 49 ∷ 52 ∷ 0 ∷ 0 ∷ 0 ∷ 0 ∷ 0 ∷ 0 ∷ 0
    ∷ 114 ∷ 101 ∷ 115 ∷ 117 ∷ 108 ∷ 116 ∷ 46 ∷ 49 ∷ 53 ∷ 0 ∷ 0 ∷ 0 ∷ 0 ∷ 0 ∷ 0 ∷ 0
    ∷ 114 ∷ 101 ∷ 115 ∷ 117 ∷ 108 ∷ 116 ∷ 46 ∷ 49 ∷ 54 ∷ 0 ∷ 0 ∷ 0 ∷ 0 ∷ 0 ∷ 0 ∷ 0
    ∷ []

-- How many bytes `result.j + 1` has.
abbrev pub result_length : ℕ → ℕ
result_length j = cond (ltb j 9) 8 9

-- The kind of a row that stands for a variable of flattening: its place is in the names above.
abbrev pub result_kind : ℕ
result_kind = 27

-- The name at a place.
abbrev pub name_of : List ℕ → ℕ → ℕ → ℕ → Name
name_of text kind start n = cond (eqb kind result_kind) (part_of result_names start n) (part_of text start n)

-- The name of a row: kind, start and length come first.
unfoldable pub name_in : List ℕ → List ℕ → Name
name_in text row = name_of text (get_or row 0 0) (get_or row 1 0) (get_or row 2 0)

-- The number of the first that is called w, or the number of all.
unfoldable pub find : {A : Type 0} → (A → Name) → List A → Name → ℕ
find name [] w = 0
find name (a ∷ l) w = cond (same_bytes (name a) w) 0 (suc (find name l w))

-- A number that is found among n, or that of all.
abbrev pub found : ℕ → ℕ → Option ℕ
found n i = cond (ltb i n) (Some i) None

-- Has the place j of the table its name, and has each of the first n?
abbrev agrees : ℕ → Bool
agrees j = same_bytes (part_of result_names (16 * j) (result_length j)) (result_name (suc j))

unfoldable agree : ℕ → Bool
agree zero = true
agree (suc j) = agrees j && agree j

all_agree : agree 16 ≡ true
unfolding agree same_bytes result_names result_name digits
all_agree = refl

first_agree : (n : ℕ) → agree n ≡ true → (j : ℕ) → j < n → part_of result_names (16 * j) (result_length j) ≡ result_name (suc j)
unfolding agree
first_agree zero e j l = absurd (omega arith)
first_agree (suc n) e j l =
    below_more (λ i. part_of result_names (16 * i) (result_length i) ≡ result_name (suc i)) n
    (λ i m. first_agree n (and_right (agrees n) (agree n) e) i m)
    (same_is _ _ (and_left (agrees n) (agree n) e))
    j
    (omega arith)

-- The row of a variable of flattening names it.
pub result_name_lem : (text : List ℕ) (j : ℕ) → j < 16 → name_in text (result_kind ∷ (16 * j) ∷ result_length j ∷ 0 ∷ []) ≡ result_name (suc j)
unfolding name_in
result_name_lem text j l = first_agree 16 all_agree j l
