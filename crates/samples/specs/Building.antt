-- What the builders of words leave.
use Rattle.std.specs.Prelude.{ℕ, zero, suc, ◌+◌, ◌*◌, ◌≤◌, ◌<◌, ◌≡◌, List, [], ◌∷◌, length, replicate, Option, unwrap_or}
use Rattle.std.specs.Option.{MatchOption}
use Rattle.std.proofs.lemmas.List.Edits.{sets}
use Rattle.arena.specs.Cells.{headers}
use Rattle.arena.specs.Form.{inputs}
use Rattle.samples.specs.declared.build.Built.{Built}
use Rattle.samples.specs.declared.build.Tower.{Tower}

-- The most words, and the greatest address.
abbrev pub most : ℕ
most = 262144

-- A node of the symbol whose number is its number of arguments.
abbrev pub node_words : List ℕ → ℕ → List ℕ → List ℕ
node_words words at arguments = sets words at ((headers + 33 * length arguments) ∷ arguments)

-- A node was put; or it has too many arguments, or there was no room.
abbrev pub NodePut : List ℕ → List ℕ → ℕ → List ℕ → Option ℕ → Type 0
NodePut words words' at arguments put =
    MatchOption put ((words' ≡ words) × (length arguments ≤ inputs → at ≤ most → length words < at + 1 + length arguments))
    (λ next. (at ≤ most) × (next ≤ length words) × (next ≡ at + 1 + length arguments) × (words' ≡ node_words words at arguments))

-- A node of two arguments was put, or nothing was, and the address told is the one given.
abbrev pub PairPut : List ℕ → List ℕ → ℕ → ℕ → ℕ → ℕ → Type 0
PairPut words words' at left right next = (put : Option ℕ) × NodePut words words' at (left ∷ right ∷ []) put × (next ≡ unwrap_or put at)

-- Words, the next address and the reference of what stands below it.
pub record Level : Type 0 where
  pub words : List ℕ
  pub next : ℕ
  pub root : ℕ

-- One node more, and so many.
abbrev pub raised : ℕ → ℕ → Level → Level
raised room arity l = record {
  words = sets l.words l.next ((headers + 33 * arity) ∷ replicate arity l.root);
  next = l.next + (1 + arity);
  root = room + l.next;
}

abbrev pub raised_by : ℕ → ℕ → ℕ → Level → Level
raised_by zero room arity l = l
raised_by (suc n) room arity l = raised_by n room arity (raised room arity l)

-- A tower was put; or its nodes have too many arguments, or there was no room.
abbrev pub TowerPut : List ℕ → List ℕ → ℕ → ℕ → Tower → Option Built → Type 0
TowerPut words words' room at tower put =
    MatchOption put
    ((words' ≡ words)
    × (tower.arity ≤ inputs → room ≤ most → at ≤ most → tower.height ≤ most → length words < at + tower.height * (1 + tower.arity)))
    (λ built. record { words = words'; next = built.next; root = built.root }
    ≡ raised_by tower.height room tower.arity (record { words = words; next = at; root = tower.leaf }))

-- A tower was put, or nothing was, and what is told is the address given and the leaf.
abbrev pub TowerOrLeaf : List ℕ → List ℕ → ℕ → ℕ → Tower → Built → Type 0
TowerOrLeaf words words' room at tower told =
    (put : Option Built) × TowerPut words words' room at tower put × (told ≡ unwrap_or put (record { next = at; root = tower.leaf }))

-- What a tower leaves, from an address on; and what another behind it does.
abbrev pub built_on : List ℕ → ℕ → ℕ → Tower → Level
built_on words room at tower = raised_by tower.height room tower.arity (record { words = words; next = at; root = tower.leaf })

abbrev pub built_behind : ℕ → Level → Tower → Level
built_behind room l tower = built_on l.words room l.next tower

-- What is told of it.
abbrev pub built : Level → Built
built l = record { next = l.next; root = l.root }

-- Two towers were put; or nodes of one have too many arguments, or there was no room for both.
abbrev pub TwoPut : List ℕ → List ℕ → ℕ → ℕ → Tower → Tower → Option (List Built) → Type 0
TwoPut words words' room at lower upper put =
    MatchOption put
    (lower.arity ≤ inputs → upper.arity ≤ inputs → room ≤ most → lower.height ≤ most → upper.height ≤ most → at + lower.height * (1 + lower.arity) ≤ most
    → length words < at + lower.height * (1 + lower.arity) + upper.height * (1 + upper.arity))
    (λ both.
    (words' ≡ (built_behind room (built_on words room at lower) upper).words)
    × (both ≡ built (built_on words room at lower) ∷ built (built_behind room (built_on words room at lower) upper) ∷ []))
