-- Reading tokens from the left: what a reader comes to, and readers one after the other.
use Rattle.std.specs.Prelude.{ℕ, zero, suc, ◌+◌, ◌-◌, Bool, true, false, List, [], ◌∷◌, ◌++◌, eqb, length, drop, get_or}
use Rattle.term_parser.specs.Source.{Place, place}
use Rattle.refusals.specs.declared.Refusal.{Refusal}
use Rattle.refusals.specs.declared.Refusal.TheVariants.{SignExpected}
use Rattle.term_parser.specs.declared.Token.{Token}

-- Token rows: kind, start, length, line.
abbrev pub Tokens : Type 0
Tokens = List (List ℕ)

-- The first token; past the end all its numbers are 0.
abbrev pub token_of : Tokens → Token
token_of [] = record { kind = 0; start = 0; length = 0; line = 0 }
token_of (t ∷ ts) = record { kind = get_or t 0 0; start = get_or t 1 0; length = get_or t 2 0; line = get_or t 3 0 }

abbrev pub kind_of : Tokens → ℕ
kind_of ts = (token_of ts).kind

abbrev pub place_of : Tokens → Place
place_of ts = place (token_of ts).start (token_of ts).length

-- The line of the first token; past the end that of the last of all.
abbrev pub line_of : ℕ → Tokens → ℕ
line_of last [] = last
line_of last (t ∷ ts) = get_or t 3 0

abbrev pub last_line : Tokens → ℕ
last_line ts = (token_of (drop (length ts - 1) ts)).line

-- One of two, of which only that one is computed.
abbrev pub when : {A : Type 0} → Bool → (Unit {0} → A) → (Unit {0} → A) → A
when true a b = a tt
when false a b = b tt

-- What a reader comes to: an item, with the number of tokens taken; no such item starts here; or a refusal, with its line.
pub data Parsed (A : Type 0) : Type 0 where
  parsed : A → ℕ → Parsed A
  absent : Parsed A
  refused : Refusal → ℕ → Parsed A

-- With n tokens taken before.
abbrev pub plus : {A : Type 0} → ℕ → Parsed A → Parsed A
plus n (parsed a m) = parsed a (n + m)
plus n absent = absent
plus n (refused r l) = refused r l

-- One reader after another that read the first tokens of ts.
abbrev pub follow : {A B : Type 0} → Parsed A → Tokens → (A → Tokens → Parsed B) → Parsed B
follow (parsed a n) ts next = plus n (next a (drop n ts))
follow absent ts next = absent
follow (refused r l) ts next = refused r l

-- An item that must be there.
abbrev pub required : {A : Type 0} → Refusal → ℕ → Parsed A → Parsed A
required r l (parsed a n) = parsed a n
required r l absent = refused r l
required r l (refused q m) = refused q m

-- A sign that must be there.
abbrev pub sign_of : ℕ → ℕ → Tokens → Parsed (Unit {0})
sign_of last kind ts = when (eqb (kind_of ts) kind) (λ _. parsed tt 1) (λ _. refused SignExpected (line_of last ts))

-- An item behind a sign; without the sign there is none.
abbrev pub behind : {A : Type 0} → ℕ → (Tokens → Parsed A) → Tokens → Parsed A
behind kind item ts = when (eqb (kind_of ts) kind) (λ _. plus 1 (item (drop 1 ts))) (λ _. absent)

-- Items as long as there are some: after one item more of them, without one the end, and a refusal stays.
abbrev pub continued : {A B : Type 0} → Parsed A → (A → ℕ → Parsed B) → Parsed B → Parsed B
continued (parsed a n) next end = next a n
continued absent next end = end
continued (refused r l) next end = refused r l

-- The items from here on, after those in `done` and the first k tokens, the rest of the last one; n tokens were taken.
unfoldable pub repeat : {A : Type 0} → (Tokens → Parsed A) → Tokens → ℕ → ℕ → List A → Parsed (List A)
repeat item [] k n done = continued (item []) (λ a m. parsed done n) (parsed done n)
repeat item (t ∷ ts) (suc k) n done = repeat item ts k n done
repeat item (t ∷ ts) zero n done = continued (item (t ∷ ts)) (λ a m. repeat item ts (m - 1) (n + m) (done ++ (a ∷ []))) (parsed done n)
