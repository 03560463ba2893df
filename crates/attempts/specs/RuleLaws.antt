-- Laws of stored rules: an attempt looks only at a rule's terms, a renamed term takes as many words, and the table of places carries out the theory's
-- fresh instances.
use Rattle.std.specs.Prelude.{ℕ, suc, ◌+◌, ◌≤◌, ◌<◌, ◌≡◌, refl, true, List, [], ◌∷◌, map, get_or, length}
use Rattle.std.proofs.Common.{arith, sym, ap, ap₂, ◌∙◌}
use Rattle.terms.specs.Term.{Kind, Syn, var, app, nil, cons, Term, Terms, Subst, sub}
use Rattle.terms.specs.TermLaws.{count_sub}
use Rattle.terms.specs.Bindings.{Bindings}
use Rattle.arena.specs.Cells.{terms_of}
use Rattle.arena.specs.Copies.{numbered}
use Rattle.resolution.specs.Rules.{Rule}
use Rattle.resolution.specs.Fresh.{elem, place, fresh, head_vars, all_vars, head, body}
use Rattle.resolution.specs.FreshLaws.{Covers}
use Rattle.resolution.proofs.FreshLaws.{covers_grows, met_covers, met_back_covers, met_back_grows, vars_le, head_all}
use Rattle.resolution.specs.Search.{Limits, words, attempt}
use Rattle.attempts.specs.StoredRules.{pattern_of, rule_of, StoredRule}
use Rattle.attempts.specs.Promises.{instance}
use Rattle.attempts.specs.declared.Stored.{Stored}

-- A rule of these terms, with no name and no sorts.
abbrev bare : Terms → Term → Rule
bare premises conclusion = record { name = []; sorts = []; premises = premises; conclusion = conclusion }

-- An attempt looks at nothing but a rule's premises and conclusion.
pub attempt_looks : (l : Limits) (β : Bindings) (g : Term) (m c : ℕ) (R S : Rule) → R.premises ≡ S.premises → R.conclusion ≡ S.conclusion
    → attempt l β g m c R ≡ attempt l β g m c S
unfolding attempt
attempt_looks l β g m c R S p q = ap₂ (λ (ts : Terms) (t : Term). attempt l β g m c (bare ts t)) p q

-- And so do its instances.
pub body_looks : (c : ℕ) (R S : Rule) → R.premises ≡ S.premises → R.conclusion ≡ S.conclusion → body c R ≡ body c S
body_looks c R S p q = ap₂ (λ (ts : Terms) (t : Term). body c (bare ts t)) p q

-- Variables take no words, so a renamed term takes as many as the term.
pub words_renamed : {s : Kind} (c : ℕ) (e : List ℕ) (t : Syn s) → words (sub (fresh c e) t) ≡ words t
words_renamed c e (var x) = refl
words_renamed c e (app f ts) = ap₂ (λ (m n : ℕ). suc (m + n)) (count_sub (fresh c e) ts) (words_renamed c e ts)
words_renamed c e nil = refl
words_renamed c e (cons t ts) = ap₂ ◌+◌ (words_renamed c e t) (words_renamed c e ts)

-- Where the table agrees with the places among e, it numbers what e covers as the theory does.
pub numbered_fresh : {s : Kind} (places : List ℕ) (c : ℕ) (e : List ℕ) → ((x : ℕ) → elem x e ≡ true → get_or places x 0 ≡ place e x)
    → (t : Syn s) → Covers e t → sub (numbered places c) t ≡ sub (fresh c e) t
numbered_fresh places c e h (var x) k = ap (λ (n : ℕ). var (c + n)) (h x k)
numbered_fresh places c e h (app f ts) k = ap (app f) (numbered_fresh places c e h ts k)
numbered_fresh places c e h nil k = refl
numbered_fresh places c e h (cons t ts) k = ap₂ cons (numbered_fresh places c e h t k.0) (numbered_fresh places c e h ts k.1)

-- Moved references that denote instances, in order.
pub terms_moved : (σ : Subst) (f : ℕ → ℕ) (g h : ℕ → Term) (rs : List ℕ) → ((i : ℕ) → i < length rs → h (f (get_or rs i 0)) ≡ sub σ (g (get_or rs i 0)))
    → terms_of h (map f rs) ≡ sub σ (terms_of g rs)
terms_moved σ f g h [] k = refl
terms_moved σ f g h (r ∷ rs) k = ap₂ cons (k 0 (omega arith)) (terms_moved σ f g h rs (λ i l. k (suc i) (omega arith)))

module _ (pattern premises places : List ℕ) (stored : Stored) (rule : StoredRule pattern premises places stored) (c : ℕ) where
  abbrev R : Rule
  R = rule_of pattern premises stored

  -- The copied conclusion is the fresh one, and the copied premises are the fresh ones.
  pub instance_head : instance pattern places stored c ≡ head c (rule_of pattern premises stored)
  unfolding rule_of
  instance_head =
      numbered_fresh places c (all_vars R) rule.placed R.conclusion
      (covers_grows R.conclusion (head_vars R) (all_vars R) (met_back_grows R.premises (head_vars R)) (met_covers R.conclusion []))
      ∙ head_all c R

  pub instance_body : sub (numbered places c) (terms_of (pattern_of pattern) premises) ≡ body c (rule_of pattern premises stored)
  unfolding rule_of
  instance_body = numbered_fresh places c (all_vars R) rule.placed R.premises (met_back_covers R.premises (head_vars R))

  -- The stored counts are those of the fresh instances.
  pub head_words_lem : words (head c (rule_of pattern premises stored)) ≡ stored.head
  head_words_lem = words_renamed c (head_vars R) R.conclusion ∙ sym rule.head_words

  pub body_words_lem : words (body c (rule_of pattern premises stored)) ≡ stored.body
  body_words_lem = words_renamed c (all_vars R) R.premises ∙ sym rule.body_words

  pub variables_le : stored.met ≤ stored.variables
  variables_le = let l = vars_le 0 R in let a = rule.head_variables in let b = rule.all_variables in omega arith
