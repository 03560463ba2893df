-- What the contract of `prove` fixes: of two programs that meet it, answers, scratch and the session denoted are the same; without a proof
-- all that is written is the same but for the places of new names; refused, everything is; and of a proof the listing is the same.
-- The definitions that it speaks of are in specs/ContractLaws.
use Rattle.std.specs.Prelude.{ℕ, ◌≡◌, refl, ◌⊎◌, List, ◌++◌, length, drop}
use Rattle.std.proofs.Common.{arith, sym, ap, ap₂, ◌∙◌, subst, inl, inr, take-append-drop}
use Rattle.terms.specs.Term.{one, many}
use Rattle.resolution.specs.Rules.{Tree, leaf, ◌◂◌}
use Rattle.resolution.specs.Search.{Verdict, refusal, proved, nothing, undecided}
use Rattle.resolution.specs.Session as theory
use Rattle.resolution.specs.Preorder.{preorder, flat}
use Rattle.names.specs.Symbols.{Rows}
use Rattle.arena.specs.Copies.{term_room}
use Rattle.tree_rows.specs.Trees.{entries_from}
use Rattle.signature.specs.Storage.{SignatureStore}
use Rattle.sessions.specs.Storage.{SessionStore, session_of, zero_name}
use Rattle.sessions.specs.Goals.{goal_in}
use Rattle.sessions.specs.Promises.{Asked, Given, ProveReady, answer_to, answer_of, counts_after, Continued, BindingsLeft, ProofLeft}
use Rattle.sessions.specs.Promises.{ProveLeaves, Unwritten, Proving, IsRefused, IsProved}
use Rattle.sessions.proofs.RefusalLaws.{one_or_not, answer_not_one}
use Rattle.sessions.proofs.AnswerLaws.{listing_is}
use Rattle.sessions.specs.declared.SessionCounts.{SessionCounts}
use Rattle.sessions.specs.Answers.{Answer, Refused, Proved}
use Rattle.sessions.specs.ContractLaws.{Alike}

-- What is the same in front and zero behind is one list.
over_one : {A : Type 0} (z : A) (u v : ℕ) (l l' l'' : List A) → u ≡ v → Continued z u v l l' → Continued z u v l l'' → l' ≡ l''
over_one {A} z u v l l' l'' e h k =
    sym (take-append-drop u l')
    ∙ ap₂ (λ (a b : List A). a ++ b) (h.same ∙ sym k.same) (ap (λ (i : ℕ). drop i l') e ∙ h.clear ∙ sym k.clear
    ∙ ap (λ (i : ℕ). drop i l'') (sym e))
    ∙ take-append-drop u l''

module _ (n : SessionCounts) (names : ℕ) where
  words_kept_lem : (v : Verdict) → (IsProved (answer_of n names v) → ⊥) → n.words ≡ (counts_after n (answer_of n names v)).words
  words_kept_lem (refusal e) h = refl
  words_kept_lem (proved β st u c m) h = absurd (h tt)
  words_kept_lem (nothing u c) h = refl
  words_kept_lem (undecided u c) h = refl

  names_kept : (v : Verdict) → IsRefused (answer_of n names v) → n.names ≡ (counts_after n (answer_of n names v)).names
  names_kept (refusal e) h = refl
  names_kept (proved β st u c m) h = absurd h
  names_kept (nothing u c) h = absurd h
  names_kept (undecided u c) h = absurd h

  bindings_one : (v : Verdict) (rows rows' rows'' : Rows) (bound b' b'' : ℕ) → (IsProved (answer_of n names v) → ⊥)
      → BindingsLeft v rows rows' bound b' → BindingsLeft v rows rows'' bound b'' → rows' ≡ rows''
  bindings_one (refusal e) rows rows' rows'' bound b' b'' h l k = l ∙ sym k
  bindings_one (proved β st u c m) rows rows' rows'' bound b' b'' h l k = absurd (h tt)
  bindings_one (nothing u c) rows rows' rows'' bound b' b'' h l k = l ∙ sym k
  bindings_one (undecided u c) rows rows' rows'' bound b' b'' h l k = l ∙ sym k

  module _ (proof p p' : Rows) (w w' : List ℕ) (vars vars' used used' : ℕ) where
    proof_one : (v : Verdict) → (IsProved (answer_of n names v) → ⊥) → ProofLeft v proof p w vars used → ProofLeft v proof p' w' vars' used'
        → p ≡ p'
    proof_one (refusal e) h l k = l ∙ sym k
    proof_one (proved β st u c m) h l k = absurd (h tt)
    proof_one (nothing u c) h l k = l ∙ sym k
    proof_one (undecided u c) h l k = l ∙ sym k

    tree_one : (v : Verdict) (u nodes : ℕ) (m : SessionCounts) → answer_of n names v ≡ Proved u nodes m → ProofLeft v proof p w vars used
        → ProofLeft v proof p' w' vars' used'
        → entries_from term_room w p 0 nodes ≡ entries_from term_room w' p' 0 nodes
    tree_one (refusal e) u nodes m q l k = absurd (let z : ◌≡◌ {A = ℕ} 0 1 = cc in omega arith)
    tree_one (proved β st u' c m') u nodes m q l k =
        let same : l.tree ◂ leaf ≡ k.tree ◂ leaf = sym l.only ∙ k.only in
        let tree : l.tree ≡ k.tree = cc in
        let counted : length (flat st) ≡ nodes = cc in
        let mine : length (preorder 1 l.tree) ≡ nodes = sym (ap (λ (t : Tree many). length (flat t)) l.only) ∙ counted in
        let other : length (preorder 1 k.tree) ≡ nodes = sym (ap (λ (t : Tree many). length (flat t)) k.only) ∙ counted in
        ap (λ (i : ℕ). entries_from term_room w p 0 i) (sym mine)
        ∙ listing_is p w vars used l.tree (length (preorder 1 l.tree)) l.listed
        ∙ ap (λ (t : Tree one). preorder 1 t) tree
        ∙ sym (listing_is p' w' vars' used' k.tree (length (preorder 1 k.tree)) k.listed)
        ∙ ap (λ (i : ℕ). entries_from term_room w' p' 0 i) other
    tree_one (nothing u' c) u nodes m q l k = absurd (let z : ◌≡◌ {A = ℕ} 0 1 = cc in omega arith)
    tree_one (undecided u' c) u nodes m q l k = absurd (let z : ◌≡◌ {A = ℕ} 0 1 = cc in omega arith)

module _ (sg : SignatureStore) (k : Asked) (b : SessionStore) (n : SessionCounts) (g g' : Given) where
  leaves_alike : (A : theory.Answer) → ProveLeaves sg k b n A g → ProveLeaves sg k b n A g' → Alike k.text n g g'
  leaves_alike A l l' =
      let v : Verdict = A.verdict in
      let m : ℕ = length A.session.names in
      let same : g.answer ≡ g'.answer = l.answer ∙ sym l'.answer in
      let after : counts_after n g'.answer ≡ counts_after n g.answer = ap (counts_after n) (sym same) in
      let unproved : (IsProved g.answer → ⊥) → IsProved (answer_of n m v) → ⊥ = λ h z. h (subst IsProved (sym l.answer) z) in
      record {
        answer = same;
        space = l.scratch ∙ sym l'.scratch;
        session = l.session ∙ sym l'.session;
        words = λ h. over_one 0 n.words (counts_after n g.answer).words b.words g.store.words g'.store.words
            (subst (λ (a : Answer). n.words ≡ (counts_after n a).words) (sym l.answer) (words_kept_lem n m v (unproved h)))
            l.words (subst (λ (c : SessionCounts). Continued 0 n.words c.words b.words g'.store.words) after l'.words);
        bindings = λ h. bindings_one n m v b.bindings g.store.bindings g'.store.bindings n.bound
            (counts_after n g.answer).bound (counts_after n g'.answer).bound (unproved h) l.bindings l'.bindings;
        proof = λ h. proof_one n m k.proof g.proof g'.proof g.store.words g'.store.words
            (counts_after n g.answer).variables (counts_after n g'.answer).variables
            (counts_after n g.answer).words (counts_after n g'.answer).words v (unproved h) l.proof l'.proof;
        names = λ h. over_one zero_name n.names (counts_after n g.answer).names b.names g.store.names g'.store.names
            (subst (λ (a : Answer). n.names ≡ (counts_after n a).names) (sym l.answer) (names_kept n m v (subst IsRefused l.answer h)))
            l.names (subst (λ (c : SessionCounts). Continued zero_name n.names c.names b.names g'.store.names) after
            l'.names);
        tree = λ u nodes c e. tree_one n m k.proof g.proof g'.proof g.store.words g'.store.words
            (counts_after n g.answer).variables (counts_after n g'.answer).variables
            (counts_after n g.answer).words (counts_after n g'.answer).words v u nodes c (sym l.answer ∙ e) l.proof l'.proof;
      }

  unwritten_alike : Unwritten k b g → Unwritten k b g' → Alike k.text n g g'
  unwritten_alike u u' =
      let same : g.answer ≡ g'.answer = u.answer ∙ sym u'.answer in
      let store : g.store ≡ g'.store = u.store ∙ sym u'.store in
      record {
        answer = same;
        space = u.space ∙ sym u'.space;
        session = ap₂ (λ (x : SessionStore) (a : Answer). session_of k.text x (counts_after n a)) store same;
        words = λ h. ap (λ (x : SessionStore). x.words) store;
        bindings = λ h. ap (λ (x : SessionStore). x.bindings) store;
        proof = λ h. u.proof ∙ sym u'.proof;
        names = λ h. ap (λ (x : SessionStore). x.names) store;
        tree = λ i nodes m e. absurd (let q : Refused 1 ≡ Proved i nodes m = sym u.answer ∙ e in let z : ◌≡◌ {A = ℕ} 0 1 = cc in
            omega arith);
      }

  -- The contract fixes all this.
  pub proving_fixes : Proving sg k b n g → Proving sg k b n g' → Alike k.text n g g'
  proving_fixes p p' = go (one_or_not g.answer)
    where
      go : (g.answer ≡ Refused 1) ⊎ (g.answer ≡ Refused 1 → ⊥) → Alike k.text n g g'
      go (inl e) =
          let unready : ProveReady sg k b n
          → ⊥ = λ r. answer_not_one sg k b n (goal_in r.goal) (length (answer_to sg k b n (goal_in r.goal)).session.names)
          (sym (p.ready r).answer ∙ e) in
          unwritten_alike (p.unready unready) (p'.unready unready)
      go (inr x) = let r = p.tells x in leaves_alike (answer_to sg k b n (goal_in r.goal)) (p.ready r) (p'.ready r)
