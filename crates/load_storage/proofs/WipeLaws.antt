-- Laws of buffers that are cleared: from the beginning on everything is zero.
use Prim.Native.Nat.{ℕ, ◌-◌}
use native.Mathlib.Omega.{arith}
use mathlib.Core.Path.{◌≡◌, refl, ap}
use mathlib.Core.List.{List}
use lib.ListN.{length, replicate}
use Rattle.words.specs.Lexer.{zero_row}
use Rattle.names.specs.Symbols.{Rows}
use Rattle.load_storage.specs.Storage.{Buffers, zero_pair, zero_symbol, zero_rule, cleared_from, wiped}

-- Cleared from the beginning, and from a place on.
pub wipe : {A : Type 0} (z : A) (l l₀ : List A) → length l ≡ length l₀ → cleared_from z 0 l ≡ replicate (length l₀) z
wipe z l l₀ e = let d : length l - 0 ≡ length l₀ = omega arith in ap (λ (n : ℕ). replicate n z) d

-- Buffers are the same if each is.
pub buffers : {a a' b b' c c' d d' e e' f f' : Rows} {g g' : List ℕ} {h h' : Rows} → a ≡ a' → b ≡ b' → c ≡ c' → d ≡ d' → e ≡ e' → f ≡ f' → g ≡ g' → h ≡ h'
    → ◌≡◌ {A = Buffers} (record { tokens = a; rows = b; calls = c; sorts = d; symbols = e; rules = f; words = g; evals = h })
    (record { tokens = a'; rows = b'; calls = c'; sorts = d'; symbols = e'; rules = f'; words = g'; evals = h' })
buffers p q r s t u v w = rw (p, q, r, s, t, u, v, w) refl

-- Buffers of the same lengths, as they are after `enter_all`.
pub record SameLengths (b c : Buffers) : Type 0 where
  pub tokens : length c.tokens ≡ length b.tokens
  pub calls : length c.calls ≡ length b.calls
  pub sorts : length c.sorts ≡ length b.sorts
  pub symbols : length c.symbols ≡ length b.symbols
  pub rules : length c.rules ≡ length b.rules
  pub words : length c.words ≡ length b.words
  pub evals : length c.evals ≡ length b.evals

pub wiped_same : (b c : Buffers) → SameLengths b c → length c.rows ≡ length b.rows → wiped c ≡ wiped b
wiped_same b c same rows =
    buffers (ap (λ (n : ℕ). replicate n zero_row) same.tokens) (ap (λ (n : ℕ). replicate n zero_row) rows) (ap (λ (n : ℕ). replicate n zero_row) same.calls)
    (ap (λ (n : ℕ). replicate n zero_pair) same.sorts) (ap (λ (n : ℕ). replicate n zero_symbol) same.symbols) (ap (λ (n : ℕ). replicate n zero_rule) same.rules)
    (ap (λ (n : ℕ). replicate n 0) same.words) (ap (λ (n : ℕ). replicate n zero_pair) same.evals)
