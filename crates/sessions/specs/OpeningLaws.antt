-- What `open` leaves is what `prove` asks: zero throughout is a new session, in form over any signature, with its scratch empty.
use Rattle.std.specs.Prelude.{ℕ, zero, suc, ◌+◌, ◌≤◌, ◌≡◌, refl, false, List, ltb, length, replicate}
use Rattle.std.proofs.Common.{arith, sym, ◌∙◌, subst, ltb-false}
use Rattle.std.proofs.lemmas.List.{length-replicate}
use Rattle.words.specs.Lexer.{capped_of}
use Rattle.words.specs.declared.Limits.{Limits}
use Rattle.terms.specs.Numbers.{by_bool, or_false}
use Rattle.arena.specs.Copies.{term_room}
use Rattle.arena.specs.Form.{in_form}
use Rattle.bindings.specs.Tables.{Empty}
use Rattle.unifier.specs.Promises.{Scratch}
use Rattle.resolution.specs.Session.{new_session}
use Rattle.names.specs.SearchLaws.{zero_at}
use Rattle.rules.specs.PatternLaws.{arities_of}
use Rattle.signature.specs.Storage.{SignatureStore, symbols_in, SignatureListed}
use Rattle.load_storage.specs.Storage.{zero_pair}
use Rattle.term_check.specs.TermRows.{TermAt}
use Rattle.sessions.specs.Storage.{SessionStore, Workspace, names_in, session_of, SessionListed, SessionIn, too_short}
use Rattle.sessions.specs.Storage.{zero_name, zero_triple, zero_store, zero_space, no_counts}
use Rattle.sessions.specs.Promises.{Opening, Asked, ProveReady}
use Rattle.std.specs.Prelude.{Ok}

-- A new session

-- Rows of zeros are empty.
zero_empty : (k n : ℕ) → Empty (replicate n (replicate k 0))
zero_empty k zero c j = refl
zero_empty k (suc n) c zero = zero_at k c
zero_empty k (suc n) c (suc j) = zero_empty k n c j

-- Zero throughout denotes a new session,
pub opened_session : (text : List ℕ) (b : SessionStore) → session_of text (zero_store b) no_counts ≡ new_session
unfolding new_session names_in
opened_session text b = refl

-- which is in form over any signature.
pub opened_listed : (text arities : List ℕ) (sorts : ℕ) (b : SessionStore) → SessionListed text arities sorts (zero_store b) no_counts
unfolding in_form
opened_listed text arities sorts b = record {
  few_names = omega arith;
  few_variables = omega arith;
  few_bound = omega arith;
  few_words = omega arith;
  names_lent = omega arith;
  named = λ i l. absurd (let z : ⊥ = omega arith in z);
  distinct = λ i j l m e. omega arith;
  rising = λ i j l m. absurd (let z : ⊥ = omega arith in z);
  words = refl;
  form = record {
    words = record { fits = λ a l. absurd (let z : ⊥ = omega arith in z); arguments = λ a i l. absurd (let z : ⊥ = omega arith in z) };
    few = omega arith;
    low = omega arith;
    lent_words = omega arith;
    lent_rows = omega arith;
    references = λ v r l. absurd (let z : ⊥ = omega arith in z);
    lookups = λ v l. absurd (let z : ⊥ = omega arith in z);
    acyclic = tt;
    below = tt;
    unbound = λ v l. zero_empty 2 (length b.bindings) 0 v;
    rest = λ i l. zero_empty 2 (length b.bindings) 1 i;
  };
}

-- What is lent

-- As many rows and words are lent as the limits of a call ask.
pub record Lent (limits : Limits) (b : SessionStore) (s : Workspace) : Type 0 where
  pub names : 64 ≤ length b.names
  pub words : (capped_of limits).words ≤ length b.words
  pub bindings : (capped_of limits).variables ≤ length b.bindings
  pub links : term_room + (capped_of limits).words ≤ length s.links
  pub marks : term_room + (capped_of limits).words ≤ length s.marks
  pub stack : (capped_of limits).words ≤ length s.stack

-- That is to say that nothing is too short.
pub enough_lent : (limits : Limits) (b : SessionStore) (s : Workspace) → too_short limits b s ≡ false → Lent limits b s
enough_lent limits b s e =
    let most : ℕ = (capped_of limits).words in
    let variables : ℕ = (capped_of limits).variables in
    let a = or_false (ltb (length b.names) 64) _ e in
    let c = or_false (ltb (length b.words) most) _ a.1 in
    let d = or_false (ltb (length b.bindings) variables) _ c.1 in
    let f = or_false (ltb (length s.links) (term_room + most)) _ d.1 in
    let g = or_false (ltb (length s.marks) (term_room + most)) _ f.1 in
    record {
      names = ltb-false _ _ a.0;
      words = ltb-false _ _ c.0;
      bindings = ltb-false _ _ d.0;
      links = ltb-false _ _ f.0;
      marks = ltb-false _ _ g.0;
      stack = ltb-false _ _ g.1;
    }

-- Zero of the same sizes is as long.
zero_lent : (limits : Limits) (b : SessionStore) (s : Workspace) → too_short limits (zero_store b) (zero_space s) ≡ too_short limits b s
zero_lent limits b s =
    rw (
      length-replicate (length b.names) zero_name,
      length-replicate {A = ℕ} (length b.words) 0,
      length-replicate (length b.bindings) zero_pair,
      length-replicate (length s.links) zero_pair,
      length-replicate (length s.marks) zero_pair,
      length-replicate (length s.stack) zero_triple,
    )

-- Zero scratch is what a call from a new session asks.
zero_scratch : (limits : Limits) (b : SessionStore) (s : Workspace) → Lent limits b (zero_space s)
    → Scratch term_room 0 (zero_space s).links (zero_space s).marks (zero_space s).stack
zero_scratch limits b s h = record {
  links_free = record { lent = let l = h.links in omega arith; empty = zero_empty 2 (length s.links) };
  marks_free = record { lent = let l = h.marks in omega arith; empty = zero_empty 2 (length s.marks) };
  stack_lent = omega arith;
  stack_empty = zero_empty 3 (length s.stack);
}

-- What `open` leaves

-- A session was opened, so nothing was too short, and zero is left.
opened_zero : (limits : Limits) (b b' : SessionStore) (s s' : Workspace) → Opening limits b s (Ok tt) b' s'
    → (too_short limits b s ≡ false) × (b' ≡ zero_store b) × (s' ≡ zero_space s)
opened_zero limits b b' s s' o = by_bool (too_short limits b s)
    (λ e. absurd (let q = (o.short e).0 in let z : ◌≡◌ {A = ℕ} 0 1 = cc in omega arith))
    (λ e. (e, (o.enough e).1, (o.enough e).2))

-- It is as long as the limits ask,
pub opened_lent : (limits : Limits) (b b' : SessionStore) (s s' : Workspace) → Opening limits b s (Ok tt) b' s' → too_short limits b' s' ≡ false
opened_lent limits b b' s s' o =
    let z = opened_zero limits b b' s s' o in
    subst (λ (x : SessionStore). too_short limits x s' ≡ false) (sym z.1)
    (subst (λ (x : Workspace). too_short limits (zero_store b) x ≡ false) (sym z.2) (zero_lent limits b s ∙ z.0))

-- it is a session in form over any signature,
pub opened_in : (limits : Limits) (b b' : SessionStore) (s s' : Workspace) → Opening limits b s (Ok tt) b' s'
    → (text : List ℕ) (sg : SignatureStore)
    → SessionIn text sg b' no_counts
opened_in limits b b' s s' o text sg =
    subst (λ (x : SessionStore). SessionIn text sg x no_counts) (sym (opened_zero limits b b' s s' o).1)
    (opened_listed text (arities_of (symbols_in text sg)) sg.counts.sorts b)

-- and a goal in form can be asked first thing, with any limits that the buffers are long enough for.
pub opened_ready : (sg : SignatureStore) (k : Asked) (limits : Limits) (b b' : SessionStore) (s : Workspace) (next : ℕ)
    → SignatureListed k.text sg → Opening limits b s (Ok tt) b' k.space → too_short k.limits b' k.space ≡ false
    → (capped_of k.limits).steps ≤ length k.proof → TermAt k.text k.rows k.at next → ProveReady sg k b' no_counts
opened_ready sg k limits b b' s next signature o enough steps goal =
    let space : k.space ≡ zero_space s = (opened_zero limits b b' s k.space o).2 in
    let lent : Lent k.limits b' (zero_space s) = subst (Lent k.limits b') space (enough_lent k.limits b' k.space enough) in
    record {
      lent = enough;
      proof_lent = steps;
      signature = signature;
      session = opened_in limits b b' s k.space o k.text sg;
      scratch = subst (λ (x : Workspace). Scratch term_room 0 x.links x.marks x.stack) (sym space)
          (zero_scratch k.limits b' s lent);
      next = next;
      goal = goal;
    }
