-- The contract of `load` from its two cases: the answer by the paper's numbers follows from the answer itself.
use mathlib.Core.Path.{◌≡◌, ap, ap₂, sym, ◌∙◌}
use mathlib.Core.Bool.{true, false, cond}
use mathlib.Core.List.{List}
use Prim.Native.Nat.{ℕ}
use Rattle.terms.specs.Numbers.{by_bool}
use Rattle.source_text.specs.Answers.{Told, refuses}
use Rattle.words.specs.declared.Limits.{Limits}
use Rattle.parser.specs.Declarations.{Declared}
use Rattle.parser.specs.Parser.{text_of}
use Rattle.loader.specs.Signature.{Loaded, refused, loaded}
use Rattle.load.specs.Load.{Loading, RejectedBy, declared_in, load_text}
use Rattle.load_storage.specs.Storage.{Buffers, too_short}
use Rattle.load.specs.Loading.{Left, loading_told, loaded_told, LoadingText}
use Rattle.std.specs.Prelude.{Ok, Err}

rejected_told : (e line : ℕ) (r : Loading) → RejectedBy e line r → loading_told r ≡ refuses e line
rejected_told e line (Ok x) h = absurd h
rejected_told e line (Err j) h = ap₂ refuses h.0 h.1

left_told : (text : List ℕ) (limits : Limits) (b : Buffers) (ds : List Declared) (o : Loaded) (r : Loading) (b' : Buffers) → Left text limits b ds o r b'
    → loading_told r ≡ loaded_told ds o
left_told text limits b ds (refused e line) r b' h = rejected_told e line r h.0
left_told text limits b ds (loaded s) r b' h = ap loading_told h.answer

module _ (text : List ℕ) (limits : Limits) (b : Buffers) (r : Loading) (b' : Buffers) where
  -- What the definitions come to, by numbers.
  abbrev full : Told
  full = loaded_told (declared_in (text_of text limits)) (load_text text limits)

  pub as_loading : (too_short limits b ≡ true → RejectedBy 1 0 r × (b' ≡ b))
      → (too_short limits b ≡ false → Left text limits b (declared_in (text_of text limits)) (load_text text limits) r b') → LoadingText text limits b r b'
  as_loading short enough =
      record {
        told = by_bool (too_short limits b) (λ z. rejected_told 1 0 r (short z).0 ∙ sym (ap (λ t. cond t (refuses 1 0) full) z))
            (λ z. left_told text limits b (declared_in (text_of text limits)) (load_text text limits) r b' (enough z) ∙ sym (ap (λ t. cond t (refuses 1 0) full) z));
        short = short;
        enough = enough;
      }
