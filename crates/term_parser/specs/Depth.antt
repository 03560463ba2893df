-- How deep a term is. Each of the 64 parentheses that may be open together adds at most two levels, so no term that is read is deeper than 131.
use Prim.Native.Nat.{ℕ, zero, suc, ◌+◌, ◌*◌, ◌≤◌, ◌<◌, max}
use Rattle.std.proofs.Common.{arith}
use Rattle.std.specs.Prelude.{◌≡◌, eqb, drop}
use mathlib.Core.List.{List, [], ◌∷◌}
use Rattle.words.specs.Names.{name_kind, metavariable_kind, numeral_kind}
use Rattle.term_parser.specs.Source.{Arity, one, many, Source, numeral, metavariable, name, application, none, more, all_of, extend}
use Rattle.term_parser.specs.Parsing.{Tokens, kind_of, line_of, Parsed, parsed, plus, follow, required, sign_of, repeat}
use Rattle.term_parser.specs.Grammar.{applied, equated, atom_of, app_of, term_of, parenthesis}
use Rattle.term_parser.specs.Lists.{term, app}
use Rattle.term_parser.specs.ReaderLaws.{Each, Comes, comes_parsed, plus_comes, follow_comes, past_comes, required_comes, when_comes, repeat_comes}
use Rattle.refusals.specs.declared.Refusal.TheVariants.{TermExpected}

-- A numeral, a metavariable and a name are 1 deep; an application is one deeper than the deepest of its terms. Several terms are as deep as the deepest of
-- them, and none is 0.
unfoldable pub depth : {n : Arity} → Source n → ℕ
depth (numeral p v) = 1
depth (metavariable p) = 1
depth (name p) = 1
depth (application f ts) = 1 + depth ts
depth none = 0
depth (more t ts) = max (depth t) (depth ts)

-- A term is at most d deep.
abbrev pub AtMost : ℕ → Source one → Type 0
AtMost d t = depth t ≤ d

-- Laws

all_depth : (d : ℕ) (l : List (Source one)) → Each (AtMost d) l → depth (all_of l) ≤ d
unfolding depth all_of
all_depth d [] h = omega arith
all_depth d (t ∷ l) h = let a = h.0 in let b = all_depth d l h.1 in omega arith

extend_depth : (d : ℕ) (ts : Source many) (t : Source one) → depth ts ≤ d → depth t ≤ d → depth (extend ts t) ≤ d
unfolding depth extend
extend_depth d none t h g = omega arith
extend_depth d (more u us) t h g = let r = extend_depth d us t (omega arith) g in omega arith

-- A term applied to terms is at most one deeper than they are.
applied_comes : (d e line : ℕ) (t : Source one) (l : List (Source one)) → d < e → depth t ≤ d → Each (AtMost d) l → Comes (AtMost e) (applied line t l)
unfolding depth all_of
applied_comes d e line t [] b h g = omega arith
applied_comes d e line (name f) (a ∷ l) b h g = let r : depth (all_of (a ∷ l)) ≤ d = all_depth d (a ∷ l) g in omega arith
applied_comes d e line (numeral p v) (a ∷ l) b h g = tt
applied_comes d e line (metavariable p) (a ∷ l) b h g = tt
applied_comes d e line (application f ts) (a ∷ l) b h g = tt

-- So is `t = r`.
equated_comes : (d e line : ℕ) (t r : Source one) → d < e → depth t ≤ d → depth r ≤ d → Comes (AtMost e) (equated line t r)
unfolding depth
equated_comes d e line (application f ts) r b h g = let x = extend_depth d ts r (omega arith) g in omega arith
equated_comes d e line (name f) r b h g = omega arith
equated_comes d e line (numeral p v) r b h g = tt
equated_comes d e line (metavariable p) r b h g = tt

module _ (text : List ℕ) (last : ℕ) where
  -- Readers, where what is read from a parenthesis on is at most 1 + d deep.
  module _ (inner : Tokens → Parsed (Source one)) (d : ℕ) (comes : (ts : Tokens) → Comes (AtMost (1 + d)) (inner ts)) where
    atom_comes : (ts : Tokens) → Comes (AtMost (1 + d)) (atom_of text last inner ts)
    unfolding atom_of depth
    atom_comes ts =
        when_comes (AtMost (1 + d)) (eqb (kind_of ts) name_kind) _ _ (omega arith)
        (when_comes (AtMost (1 + d)) (eqb (kind_of ts) metavariable_kind) _ _ (omega arith)
        (when_comes (AtMost (1 + d)) (eqb (kind_of ts) numeral_kind) _ _ (omega arith)
        (when_comes (AtMost (1 + d)) (eqb (kind_of ts) 18) _ _ (comes ts) tt)))

    app_comes : (ts : Tokens) → Comes (AtMost (2 + d)) (app_of text last inner ts)
    unfolding app_of
    app_comes ts =
        follow_comes (AtMost (1 + d)) (AtMost (2 + d)) (required TermExpected (line_of last ts) (atom_of text last inner ts)) ts _
        (required_comes (AtMost (1 + d)) TermExpected (line_of last ts) (atom_of text last inner ts) (atom_comes ts))
        (λ t us h. follow_comes (Each (AtMost (1 + d))) (AtMost (2 + d)) (repeat (atom_of text last inner) us 0 0 []) us _
        (repeat_comes (AtMost (1 + d)) (atom_of text last inner) atom_comes us 0 0 [] tt)
        (λ args vs g. applied_comes (1 + d) (2 + d) (line_of last vs) t args (omega arith) h g))

    -- `= r`, behind t
    equals_comes : (t : Source one) (us : Tokens) → depth t ≤ 2 + d
        → Comes (AtMost (3 + d)) (plus 1 (follow (app_of text last inner (drop 1 us)) (drop 1 us) (λ r vs. equated (line_of last vs) t r)))
    equals_comes t us h =
        let next : Source one → Tokens → Parsed (Source one) = λ r vs. equated (line_of last vs) t r in
        plus_comes (AtMost (3 + d)) 1 (follow (app_of text last inner (drop 1 us)) (drop 1 us) next)
        (follow_comes (AtMost (2 + d)) (AtMost (3 + d)) (app_of text last inner (drop 1 us)) (drop 1 us) next (app_comes (drop 1 us))
        (λ r vs g. equated_comes (2 + d) (3 + d) (line_of last vs) t r (omega arith) h g))

    term_comes : (ts : Tokens) → Comes (AtMost (3 + d)) (term_of text last inner ts)
    unfolding term_of
    term_comes ts =
        follow_comes (AtMost (2 + d)) (AtMost (3 + d)) (app_of text last inner ts) ts _ (app_comes ts)
        (λ t us h. when_comes (AtMost (3 + d)) (eqb (kind_of us) 23) _ _ (equals_comes t us h) (omega arith))

  parenthesis_comes : (left : ℕ) (ts : Tokens) → Comes (AtMost (1 + 2 * left)) (parenthesis text last left ts)
  unfolding parenthesis
  parenthesis_comes zero ts = tt
  parenthesis_comes (suc left) ts =
      let inside : Parsed (Source one) = term_of text last (parenthesis text last left) (drop 1 ts) in
      let closing : Source one → Tokens → Parsed (Source one) = λ t us. follow (sign_of last 19 us) us (λ _ vs. parsed t 0) in
      plus_comes (AtMost (1 + 2 * suc left)) 1 (follow inside (drop 1 ts) closing)
      (follow_comes (AtMost (3 + 2 * left)) (AtMost (1 + 2 * suc left)) inside (drop 1 ts) closing (term_comes (parenthesis text last left) (2 * left) (parenthesis_comes left) (drop 1 ts))
      (λ t us h. past_comes (AtMost (1 + 2 * suc left)) (sign_of last 19 us) us (λ _ vs. parsed t 0) (λ _ vs. omega arith)))

  -- What is read where `left` more parentheses may be open.
  module _ (left : ℕ) (ts : Tokens) {t : Source one} {n : ℕ} where
    pub atom_bound : atom_of text last (parenthesis text last left) ts ≡ parsed t n → depth t ≤ 1 + 2 * left
    atom_bound e = comes_parsed (AtMost (1 + 2 * left)) (atom_comes (parenthesis text last left) (2 * left) (parenthesis_comes left) ts) e

    pub app_bound : app_of text last (parenthesis text last left) ts ≡ parsed t n → depth t ≤ 2 + 2 * left
    app_bound e = comes_parsed (AtMost (2 + 2 * left)) (app_comes (parenthesis text last left) (2 * left) (parenthesis_comes left) ts) e

    pub term_bound : term_of text last (parenthesis text last left) ts ≡ parsed t n → depth t ≤ 3 + 2 * left
    term_bound e = comes_parsed (AtMost (3 + 2 * left)) (term_comes (parenthesis text last left) (2 * left) (parenthesis_comes left) ts) e

  -- With 64 parentheses.
  pub apps_shallow : (ts : Tokens) → Comes (AtMost 130) (app text last ts)
  apps_shallow = app_comes (parenthesis text last 64) 128 (parenthesis_comes 64)

  pub terms_shallow : (ts : Tokens) → Comes (AtMost 131) (term text last ts)
  terms_shallow = term_comes (parenthesis text last 64) 128 (parenthesis_comes 64)

  module _ (ts : Tokens) {t : Source one} {n : ℕ} where
    pub app_depth : app text last ts ≡ parsed t n → depth t ≤ 130
    app_depth e = comes_parsed (AtMost 130) (apps_shallow ts) e

    pub term_depth : term text last ts ≡ parsed t n → depth t ≤ 131
    term_depth e = comes_parsed (AtMost 131) (terms_shallow ts) e
