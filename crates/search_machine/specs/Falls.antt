-- The measure falls: a step is used, a rule is passed, or a frame goes.
use Rattle.std.specs.Prelude.{ℕ, zero, suc, ◌+◌, ◌-◌, ◌*◌, ◌≤◌, ◌<◌, ◌≡◌, refl}
use Rattle.std.proofs.Common.{arith, ap, ap₂}
use Rattle.arena.specs.Rows.{Rows}
use Rattle.search_machine.specs.State.{frame_at}
use Rattle.search_machine.specs.Moves.{weights, load, current, measure}
use Rattle.search_machine.specs.Carry.{SameFrames}
use Rattle.search_machine.specs.declared.Machine.{Machine}
use Rattle.search_machine.specs.declared.Mode.{Mode}
use Rattle.search_machine.specs.declared.Mode.TheVariants.{Enter}
use Rattle.search_machine.specs.declared.frames.Frame.{Frame}

spend : (k b : ℕ) → 0 < b → load k b ≡ k + load k (b - 1)
spend k b h = ap (load k) (let e : b ≡ suc (b - 1) = omega arith in e)

pub weights_same : (rules : ℕ) (F F' : Rows) (n : ℕ) → SameFrames n F F' → weights rules F' n ≡ weights rules F n
weights_same rules F F' zero s = refl
weights_same rules F F' (suc n) s =
    ap₂ (λ (w : ℕ) (x : Frame). w + (3 * (rules - suc x.rule) + 2)) (weights_same rules F F' n (λ j h. s j (omega arith)))
    (s n (omega arith))

pub weights_top : (rules : ℕ) (F : Rows) (n : ℕ) (x : Frame) → frame_at F n ≡ x
    → weights rules F (suc n) ≡ weights rules F n + (3 * (rules - suc x.rule) + 2)
weights_top rules F n x e = ap (λ (x : Frame). weights rules F n + (3 * (rules - suc x.rule) + 2)) e

-- A step is used.
pub falls_step : (rules : ℕ) (F : Rows) (m m' : Machine) → m.mode ≡ Enter → 0 < m.steps → m'.steps ≡ m.steps - 1
    → m'.frames ≡ m.frames
    → current rules m'.mode m'.rule ≤ 3 * rules + 2 → measure rules F m' < measure rules F m
unfolding measure
falls_step rules F m m' e h es en l =
    let s = spend (3 * rules + 1) m.steps h in
    let a = ap (λ (k : Mode). current rules k m.rule) e in
    let b = ap (load (3 * rules + 1)) es in
    let w = ap (weights rules F) en in
    omega arith

-- The mode or the rule goes on.
pub falls_mode : (rules : ℕ) (F : Rows) (m m' : Machine) → m'.steps ≡ m.steps → m'.frames ≡ m.frames
    → current rules m'.mode m'.rule < current rules m.mode m.rule → measure rules F m' < measure rules F m
unfolding measure
falls_mode rules F m m' es en l =
    let b = ap (load (3 * rules + 1)) es in
    let w = ap (weights rules F) en in
    omega arith

-- The rule goes on or stays.
pub falls_not : (rules : ℕ) (F : Rows) (m m' : Machine) → m'.steps ≡ m.steps → m'.frames ≡ m.frames
    → current rules m'.mode m'.rule ≤ current rules m.mode m.rule → measure rules F m' ≤ measure rules F m
unfolding measure
falls_not rules F m m' es en l =
    let b = ap (load (3 * rules + 1)) es in
    let w = ap (weights rules F) en in
    omega arith
