-- Goals share variables by name (document 01, "Search"): what it is for names only to grow, and for two lists of names to agree on
-- variables.
use Rattle.std.specs.Prelude.{ℕ, ◌<◌, ◌≡◌, List, [], ◌++◌, length, get_or}
use Rattle.resolution.specs.Session.{Named}

-- The second list of names is the first with others behind it.
abbrev pub Grown : List Named → List Named → Type 0
Grown ns ms = (more : List Named) × (ms ≡ ns ++ more)

-- The name at a place, and what stands past the last.
abbrev pub no_name : Named
no_name = record { name = record { text = []; sort = 0 }; variable = 0 }

abbrev pub name_at : List Named → ℕ → Named
name_at ns i = get_or ns i no_name

-- Of two lists of names: the same name is one variable, and different names are two.
abbrev pub OneVariable : List Named → List Named → Type 0
OneVariable ns ms = (i j : ℕ) → i < length ns → j < length ms
    → ((name_at ns i).name.text ≡ (name_at ms j).name.text → (name_at ns i).variable ≡ (name_at ms j).variable)
    × ((name_at ns i).variable ≡ (name_at ms j).variable → (name_at ns i).name.text ≡ (name_at ms j).name.text)
