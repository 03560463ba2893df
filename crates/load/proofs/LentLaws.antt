-- Laws of buffers that a store had on loan: what is said of the one list is said of the other, which is the same.
use Rattle.std.specs.Prelude.{ℕ, ◌≡◌, List}
use Rattle.names.specs.Symbols.{Rows}
use Rattle.load_storage.specs.Storage.{SignatureCleared, ScratchCleared}

pub scratch_as : {tokens tokens₀ calls calls₀ evals : Rows} {n : ℕ} {tokens' calls' evals' : Rows} → tokens ≡ tokens₀ → calls ≡ calls₀
    → ScratchCleared tokens calls evals n tokens' calls' evals' → ScratchCleared tokens₀ calls₀ evals n tokens' calls' evals'
scratch_as p q h = rw (p, q) at h

pub signature_as : {sorts symbols rules rules₀ : Rows} {words words₀ : List ℕ} {n m k u : ℕ} {sorts' symbols' rules' : Rows} {words' : List ℕ} → rules ≡ rules₀ → words ≡ words₀
    → SignatureCleared sorts symbols rules words n m k u sorts' symbols' rules' words' → SignatureCleared sorts symbols rules₀ words₀ n m k u sorts' symbols' rules' words'
signature_as p q h = rw (p, q) at h
