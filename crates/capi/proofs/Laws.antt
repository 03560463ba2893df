-- Numbers put before others, and what is lent to `load` in one struct.
use Rattle.std.specs.Prelude.{◌≤◌, ◌≡◌, ◌+◌, ℕ, List, length}
use Rattle.std.proofs.Common.{arith, sym, ap, ◌∙◌, ◌++◌, drop}
use Rattle.std.proofs.lemmas.List.Edits.{sets, sets-eq}
use Rattle.words.specs.declared.Limits.{Limits}
use Rattle.names.specs.Symbols.{Rows}
use Rattle.load_storage.specs.Storage.{Buffers}
use Rattle.load_storage.specs.Lent.{buffers_of}
use Rattle.load_storage.specs.declared.LentBuffers.{LentBuffers}
use Rattle.load.specs.Load.{Loading}
use Rattle.load.specs.Loading.{LoadingText}

pub sets_front : (w vs : List ℕ) → length vs ≤ length w → vs ++ drop (length vs) w ≡ sets w 0 vs
sets_front w vs l =
    let z : 0 + length vs ≡ length vs = omega arith in sym (sets-eq vs w 0 (omega arith) ∙ ap (λ (k : ℕ). vs ++ drop k w) z)

-- The buffers are those of the struct.
pub loading_lent : {text : List ℕ} {limits : Limits} {b : Buffers} {given : Loading} {T R C S Y U E : Rows} {W : List ℕ} (l : LentBuffers)
    → T ≡ l.tokens.now → R ≡ l.rows.now → C ≡ l.calls.now → S ≡ l.sorts.now → Y ≡ l.symbols.now → U ≡ l.rules.now → W ≡ l.words.now
    → E ≡ l.evals.now → LoadingText text limits b given (buffers_of l)
    → LoadingText text limits b given (record { tokens = T; rows = R; calls = C; sorts = S; symbols = Y; rules = U; words = W; evals = E })
loading_lent l t r c s y u w e h = rw (t, r, c, s, y, u, w, e) h
