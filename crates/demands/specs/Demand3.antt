-- Demand 3 from loading on (document 01, "Search"): the theorem over what `load`, `open` and `prove` ensure. A text is loaded, a session is
-- opened, and goals are asked one after another; all that `StoredClaims` says holds of the whole list.
use Rattle.std.specs.Prelude.{ℕ, ◌≡◌, Ok, List, length}
use Rattle.std.proofs.Common.{subst}
use Rattle.words.specs.declared.Limits.{Limits}
use Rattle.terms.specs.Numbers.{by_bool}
use Rattle.parser.specs.Declarations.{Declared}
use Rattle.parser.specs.Parser.{text_of}
use Rattle.loader.specs.Signature.{Loaded, refused, loaded}
use Rattle.loader.specs.Stored.{words_from}
use Rattle.signature.specs.Storage.{SignatureStore, SignatureListed}
use Rattle.signature.specs.declared.Counts.{Counts}
use Rattle.load_storage.specs.Storage.{Buffers}
use Rattle.load_storage.specs.Storage as storage
use Rattle.load.specs.Load.{Loading, RejectedBy, declared_in, load_text, evals_from}
use Rattle.load.specs.Loading.{Left, LoadingText}
use Rattle.load.specs.declared.Loaded.{Loaded as AllLoaded}
use Rattle.sessions.specs.Storage.{SessionStore, Workspace, no_counts}
use Rattle.sessions.specs.Promises.{Opening}
use Rattle.sessions.specs.Demand3.{Call, Calls, StoredClaims}
use Rattle.sessions.proofs.Demand3.{demand_3_opened}

-- The signature that `load` left, with the counts that it answered.
abbrev pub signature_left : Buffers → Counts → SignatureStore
signature_left b c = record { sorts = b.sorts; symbols = b.symbols; rules = b.rules; words = b.words; counts = c }

-- It is in the listed form.
pub loaded_listed : (text : List ℕ) (limits : Limits) (b b' : Buffers) (r : Loading) → LoadingText text limits b r b'
    → (l : AllLoaded) → r ≡ Ok l → SignatureListed text (signature_left b' l.counts)
loaded_listed text limits b b' r done l q = by_bool (storage.too_short limits b)
    (λ e. absurd (subst (λ (x : Loading). RejectedBy 1 0 x) q (done.short e).0))
    (λ e. go (load_text text limits) (done.enough e))
  where
    ds : List Declared
    ds = declared_in (text_of text limits)

    go : (o : Loaded) → Left text limits b ds o r b' → SignatureListed text (signature_left b' l.counts)
    go (refused e line) h = absurd (subst (λ (x : Loading). RejectedBy e line x) q h.0)
    go (loaded s) h =
        let a = h.answer in
        let stored : AllLoaded = record {
          declarations = length ds;
          evals = length (evals_from 0 ds);
          counts = record {
            sorts = length s.sorts;
            symbols = length s.symbols;
            rules = length s.rules;
            words = length (words_from s.rules 0);
          };
        } in
        let same : stored ≡ l = cc in
        subst (λ (x : AllLoaded). SignatureListed text (signature_left b' x.counts)) same h.listed

-- The theorem: load a text, open a session, and ask goals; each text that a call is given has the loaded one in front.
pub demand_3 : (text : List ℕ) (limits : Limits) (b b' : Buffers) (r : Loading) → LoadingText text limits b r b'
    → (l : AllLoaded) → r ≡ Ok l
    → (limits' : Limits) (store store' : SessionStore) (space space' : Workspace) → Opening limits' store space (Ok tt) store' space'
    → (cs : List Call) → Calls (signature_left b' l.counts) text store' no_counts cs → StoredClaims (signature_left b' l.counts) text store' no_counts cs
demand_3 text limits b b' r done l q limits' store store' space space' opened cs calls =
    demand_3_opened (signature_left b' l.counts) text limits' store store' space space' cs
    (loaded_listed text limits b b' r done l q) opened calls
