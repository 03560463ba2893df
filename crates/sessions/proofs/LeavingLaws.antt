-- How the contract is met, for each outcome: a refused goal's session with zero past it, an unproved goal's session with its new names
-- entered, and a proved goal's session extended are what `prove` has to leave. Code ends by one of these laws.
use Rattle.std.specs.Prelude.{ℕ, ◌+◌, ◌-◌, ◌≤◌, ◌≡◌, refl, List, [], length, take, replicate}
use Rattle.std.proofs.Common.{arith, sym, ap, ap₂, ◌∙◌, subst, append-nil, length-append, length-take-le, take_at, drop_at}
use Rattle.std.proofs.lemmas.List.{length-replicate}
use Rattle.terms.specs.Term.{many}
use Rattle.terms.specs.Bindings.{Bindings}
use Rattle.bindings.specs.Stored.{held}
use Rattle.attempts.specs.Promises.{Added}
use Rattle.resolution.specs.Rules.{Tree}
use Rattle.resolution.specs.Preorder.{flat}
use Rattle.resolution.specs.Search.{refusal, proved, nothing, undecided}
use Rattle.resolution.specs.Session.{Named, Session, enter, left}
use Rattle.resolution.specs.Session as theory
use Rattle.names.specs.Names.{Name, Distinct}
use Rattle.names.specs.Symbols.{Rows}
use Rattle.rules.specs.PatternLaws.{arities_of}
use Rattle.arena.specs.Copies.{term_room}
use Rattle.signature.specs.Storage.{SignatureStore, symbols_in}
use Rattle.load_storage.specs.Storage.{cleared_from}
use Rattle.tree_rows.specs.Trees.{zero_tree}
use Rattle.sessions.specs.Storage.{SessionStore, session_of, SessionIn, zero_name}
use Rattle.sessions.specs.Promises.{Asked, Given, bound_in, answer_told, Continued, ProofListed, ProveLeaves}
use Rattle.sessions.specs.Leaving.{texts_of, NamesFit, NewRows, NamesKept, SessionMade, PartUnproved, grown_counts, cleared}
use Rattle.sessions.specs.StoreLaws.{names_length}
use Rattle.sessions.proofs.KeepingLaws.{bound_count, listed_distinct, made_listed, made_names, unproved_made, unproved_bindings}
use Rattle.sessions.specs.declared.SessionCounts.{SessionCounts}
use Rattle.sessions.specs.Answers.{Answer, Refused, Proved, Nothing, Undecided}

pub continued_cleared : {A : Type 0} (z : A) (u : ℕ) (l : List A) → u ≤ length l → Continued z u u l (cleared_from z u l)
continued_cleared {A} z u l h =
    let a : length (take u l) ≡ u = length-take-le u l h in
    let b : length (replicate (length l - u) z) ≡ length l - u = length-replicate (length l - u) z in
    let c = length-append (take u l) (replicate (length l - u) z) in
    record {
      long = omega arith;
      same = take_at (take u l) (replicate (length l - u) z) u a;
      clear = drop_at (take u l) (replicate (length l - u) z) u a;
    }

-- No new names.
no_rows : (text : List ℕ) (rows : Rows) (n c : ℕ) → NewRows text rows n c []
no_rows text rows n c = record {
  kind = λ i l. absurd (let z : ⊥ = omega arith in z);
  place = λ i l. absurd (let z : ⊥ = omega arith in z);
  named = λ i l. absurd (let z : ⊥ = omega arith in z);
  sorted = λ i l. absurd (let z : ⊥ = omega arith in z);
  numbered = λ i l. absurd (let z : ⊥ = omega arith in z);
}

module _ (sg : SignatureStore) (k : Asked) (b : SessionStore) (n : SessionCounts) (h : SessionIn k.text sg b n) where
  abbrev S : Session
  S = session_of k.text b n

  abbrev arities : List ℕ
  arities = arities_of (symbols_in k.text sg)

  -- What is left without a proof, for an answer.
  abbrev leaving : Answer → SessionStore → Given
  leaving a b' = record { answer = a; store = b'; proof = replicate (length k.proof) zero_tree; space = k.space }

  -- Refused

  same_counts : grown_counts n 0 n.variables ≡ n
  same_counts = let e : n.names + 0 ≡ n.names = omega arith in
      ap (λ (i : ℕ). record { names = i; variables = n.variables; bound = n.bound; words = n.words }) e

  no_names : NamesFit sg.counts.sorts S.names []
  no_names =
      let q : length S.names ≡ n.names = names_length h in
      let few = h.few_names in
      record {
        few = omega arith;
        sorted = λ i l. absurd (let z : ⊥ = omega arith in z);
        distinct = subst (λ (l : List Name). Distinct l) (sym (append-nil (texts_of S.names))) (listed_distinct h);
      }

  names_continued : Continued zero_name n.names n.names b.names (cleared_from zero_name n.names b.names)
  names_continued = continued_cleared zero_name n.names b.names h.names_lent

  words_continued : Continued 0 n.words n.words b.words (cleared_from 0 n.words b.words)
  words_continued = continued_cleared 0 n.words b.words h.form.lent_words

  same_part : PartUnproved b n (cleared b n) n.variables
  same_part =
      let l = words_continued.long in
      let f = h.form.lent_words in
      record {
        words = words_continued.same;
        words_lent = omega arith;
        bindings = refl;
        later = omega arith;
        few = h.few_variables;
        lent = h.form.lent_rows;
      }

  same_names : NamesKept k.text b n (cleared b n).names n.variables []
  same_names =
      let l = names_continued.long in
      let d = h.names_lent in
      record {
        front = names_continued.same;
        lent = omega arith;
        behind = no_rows k.text (cleared b n).names n.names n.variables;
        later = omega arith;
      }

  -- The session as it was, and zero past it.
  pub refused_leaves : (A : theory.Answer) (e : ℕ) → A ≡ record { verdict = refusal e; session = S }
      → ProveLeaves sg k b n A (leaving (Refused e) (cleared b n))
  refused_leaves A e p =
      let m = unproved_made h same_part same_names in
      subst (λ (X : theory.Answer). ProveLeaves sg k b n X (leaving (Refused e) (cleared b n))) (sym p) (record {
        answer = refl;
        told = refl;
        session = subst (λ (c : SessionCounts). session_of k.text (cleared b n) c ≡ S) same_counts
            (ap₂ (λ (ns : List Named) (β : Bindings). record { names = ns; variables = n.variables; bindings = β; words = n.words })
            (made_names h m no_names) (unproved_bindings h same_part));
        listed = subst (λ (c : SessionCounts). SessionIn k.text sg (cleared b n) c) same_counts (made_listed h m no_names);
        names = names_continued;
        words = words_continued;
        longer = omega arith;
        bindings = refl;
        proof = refl;
        scratch = refl;
      })

  -- None and undecided

  module _ {b' : SessionStore} {c : ℕ} {new : List theory.Name} (u : PartUnproved b n b' c)
      (entered : NamesKept k.text b n b'.names c new) (good : NamesFit sg.counts.sorts S.names new)
      (names : Continued zero_name n.names (n.names + length new) b.names b'.names)
      (words : Continued 0 n.words n.words b.words b'.words) where
    abbrev made : SessionMade k.text arities b n b' (grown_counts n (length new) c) new
    made = unproved_made h u entered

    number : n.names + length new ≡ length (enter S.names n.variables new)
    number = sym (names_length (made_listed h made good)) ∙ ap length (made_names h made good)

    session_is : session_of k.text b' (grown_counts n (length new) c) ≡ left S new (nothing 0 c)
    session_is = ap₂ (λ (ns : List Named) (β : Bindings). record { names = ns; variables = c; bindings = β; words = n.words })
        (made_names h made good) (unproved_bindings h u)

    -- The new names entered, the counter, the bindings as at entry, and zero past it all.
    pub nothing_leaves : (A : theory.Answer) (s : ℕ) → A ≡ record { verdict = nothing s c; session = left S new (nothing s c) }
        → ProveLeaves sg k b n A (leaving (Nothing s (grown_counts n (length new) c)) b')
    nothing_leaves A s p = subst (λ (X : theory.Answer). ProveLeaves sg k b n X (leaving (Nothing s (grown_counts n (length new) c)) b'))
        (sym p) (record {
          answer = ap (λ (i : ℕ). Nothing s (record { names = i; variables = c; bound = n.bound; words = n.words })) number;
          told = ap (λ (i : ℕ). answer_told (Nothing s (record { names = i; variables = c; bound = n.bound; words = n.words }))) number;
          session = session_is;
          listed = made_listed h made good;
          names = names;
          words = words;
          longer = omega arith;
          bindings = u.bindings;
          proof = refl;
          scratch = refl;
        })

    pub undecided_leaves : (A : theory.Answer) (s : ℕ) → A ≡ record { verdict = undecided s c; session = left S new (undecided s c) }
        → ProveLeaves sg k b n A (leaving (Undecided s (grown_counts n (length new) c)) b')
    undecided_leaves A s p =
        subst (λ (X : theory.Answer). ProveLeaves sg k b n X (leaving (Undecided s (grown_counts n (length new) c)) b')) (sym p) (record {
          answer = ap (λ (i : ℕ). Undecided s (record { names = i; variables = c; bound = n.bound; words = n.words })) number;
          told = ap (λ (i : ℕ). answer_told (Undecided s (record { names = i; variables = c; bound = n.bound; words = n.words }))) number;
          session = session_is;
          listed = made_listed h made good;
          names = names;
          words = words;
          longer = omega arith;
          bindings = u.bindings;
          proof = refl;
          scratch = refl;
        })

  -- Proved

  module _ {b' : SessionStore} {n' : SessionCounts} {new : List theory.Name} (made : SessionMade k.text arities b n b' n' new)
      (good : NamesFit sg.counts.sorts S.names new)
      (names : Continued zero_name n.names n'.names b.names b'.names)
      (words : Continued 0 n.words n'.words b.words b'.words) (longer : n.words ≤ n'.words)
      (long : length b'.bindings ≡ length b.bindings) (added : Added b.bindings b'.bindings n.bound n'.bound) where
    -- The session extended, with the bindings that then stand, and the tree in the rows of the proof.
    pub proved_leaves : (A : theory.Answer) (β : Bindings) (st : Tree many) (s : ℕ) (proof' : Rows)
        → held term_room b'.words b'.bindings n'.bound ≡ β
        → ProofListed st k.proof proof' b'.words n'.variables n'.words
        → A ≡ record {
          verdict = proved β st s n'.variables n'.words;
          session = left S new (proved β st s n'.variables n'.words);
        }
        → ProveLeaves sg k b n A (record { answer = Proved s (length (flat st)) n'; store = b'; proof = proof'; space = k.space })
    proved_leaves A β st s proof' is laid p =
        let number : n'.names ≡ length (enter S.names n.variables new) = sym (names_length (made_listed h made good))
        ∙ ap length (made_names h made good) in
        let bound : n'.bound ≡ bound_in β = sym (bound_count b'.words b'.bindings n'.bound) ∙ ap bound_in is in
        subst (λ (X : theory.Answer). ProveLeaves sg k b n X
        (record { answer = Proved s (length (flat st)) n'; store = b'; proof = proof'; space = k.space })) (sym p) (record {
          answer = ap₂ (λ (i j : ℕ). Proved s (length (flat st))
              (record { names = i; variables = n'.variables; bound = j; words = n'.words })) number bound;
          told = ap₂ (λ (i j : ℕ). answer_told
              (Proved s (length (flat st)) (record { names = i; variables = n'.variables; bound = j; words = n'.words }))) number bound;
          session = ap₂ (λ (ns : List Named) (γ : Bindings). record {
            names = ns;
            variables = n'.variables;
            bindings = γ;
            words = n'.words;
          }) (made_names h made good) is;
          listed = made_listed h made good;
          names = names;
          words = words;
          longer = longer;
          bindings = (long, added);
          proof = laid;
          scratch = refl;
        })
