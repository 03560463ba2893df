-- Laws of what is compiled: nothing put in front of what is laid leaves it as it is, and no refusal is a pattern.
use Rattle.std.specs.Prelude.{ℕ, ◌≡◌, refl, List, []}
use Rattle.std.proofs.Common.{arith}
use Rattle.names.specs.Symbols.{Variable}
use Rattle.patterns.specs.Laying.{Laid, laid, after}
use Rattle.patterns.specs.Promises.{no, yes}

pub after_none : (l : Laid) → after [] l ≡ l
after_none (laid rs w u) = refl

pub no_yes : {P : Type 0} {e : ℕ} {l : Laid} {vs : List Variable} {n : ℕ} → no e ≡ yes l vs n → P
no_yes q = absurd (let w : ◌≡◌ {A = ℕ} 0 1 = cc in omega arith)
