-- Laws of a rule's layout: `lay` gives exactly these references and words, and they are as many as document 01 counts.
use Rattle.std.specs.Prelude.{ℕ, suc, ◌+◌, ◌≡◌, refl, List, [], ◌∷◌, ◌++◌, length, set}
use Rattle.std.proofs.Common.{arith, sym, ap, ap₂, ◌∙◌, length-append}
use Rattle.std.proofs.lemmas.List.Edits.{sets}
use Rattle.terms.specs.Term.{Kind, Syn, var, app, nil, cons, count}
use Rattle.arena.specs.Copies.{pattern_room}
use Rattle.resolution.specs.Rules.{Rule}
use Rattle.resolution.specs.Search.{words}
use Rattle.patterns.specs.Laying.{Laid, laid, header, pushed, and_then, lay}
use Rattle.rules.specs.LayingLaws.{each}
use Rattle.rules.specs.Layout.{references, laid_words, rule_words}

-- A reference for each term,
pub references_length : {k : Kind} (t : Syn k) (u : ℕ) → length (references t u) ≡ count (each t)
unfolding references
references_length (var i) u = refl
references_length (app f ts) u = refl
references_length nil u = refl
references_length (cons t ts) u =
    let a : length (references t u) ≡ count (each t) = references_length t u in
    let b : length (references ts (u + words t)) ≡ count (each ts) = references_length ts (u + words t) in
    let c = length-append (references t u) (references ts (u + words t)) in
    omega arith

-- and as many words as document 01 counts.
pub words_length : {k : Kind} (t : Syn k) (u : ℕ) → length (laid_words t u) ≡ words t
unfolding laid_words
words_length (var i) u = refl
words_length (app f ts) u =
    let a : length (laid_words ts u) ≡ words ts = words_length ts u in
    let b : length (references ts u) ≡ count ts = references_length ts u in
    let c = length-append (laid_words ts u) (header f (count ts) ∷ references ts u) in
    omega arith
words_length nil u = refl
words_length (cons t ts) u =
    let a : length (laid_words t u) ≡ words t = words_length t u in
    let b : length (laid_words ts (u + words t)) ≡ words ts = words_length ts (u + words t) in
    let c = length-append (laid_words t u) (laid_words ts (u + words t)) in
    omega arith

pub rule_words_length : (u : ℕ) (R : Rule) → length (rule_words u R) ≡ words R.premises + words R.conclusion
unfolding rule_words
rule_words_length u R =
    let a : length (laid_words R.premises u) ≡ words R.premises = words_length R.premises u in
    let b : length (laid_words R.conclusion (u + words R.premises)) ≡ words R.conclusion = words_length R.conclusion (u + words R.premises) in
    let c = length-append (laid_words R.premises u) (laid_words R.conclusion (u + words R.premises)) in
    omega arith

-- Two runs of stores, the second where the first ends, are one.
sets_append : (xs ys w : List ℕ) (u n : ℕ) → length xs ≡ n → sets (sets w u xs) (u + n) ys ≡ sets w u (xs ++ ys)
sets_append [] ys w u n e = let z : u + n ≡ u = omega arith in rw z refl
sets_append (x ∷ xs) ys w u n e =
    let z : u + n ≡ suc u + length xs = omega arith in
    rw z (sets_append xs ys (set w u x) (suc u) (length xs) refl)

-- Where a term's words go, and its references.
pub lay_is : {k : Kind} (t : Syn k) (w : List ℕ) (u : ℕ) → lay t w u ≡ laid (references t u) (sets w u (laid_words t u)) (u + words t)
unfolding lay references laid_words
lay_is (var i) w u = let z : u ≡ u + 0 = omega arith in ap (laid (i ∷ []) w) z
lay_is (app f ts) w u =
    let rs : List ℕ = references ts u in
    let a : length (laid_words ts u) ≡ words ts = words_length ts u in
    let b : length rs ≡ count ts = references_length ts u in
    let n : u + words ts + 1 + length rs ≡ u + suc (count ts + words ts) = omega arith in
    let h : header f (length rs) ≡ header f (count ts) = ap (header f) b in
    let s : sets (sets w u (laid_words ts u)) (u + words ts) (header f (length rs) ∷ rs) ≡ sets w u (laid_words ts u ++ (header f (count ts) ∷ rs)) =
    sets_append (laid_words ts u) (header f (length rs) ∷ rs) w u (words ts) a ∙ ap (λ (x : ℕ). sets w u (laid_words ts u ++ (x ∷ rs))) h in
    ap (pushed f) (lay_is ts w u) ∙ ap₂ (λ (x : List ℕ) (y : ℕ). laid ((pattern_room + (u + words ts)) ∷ []) x y) s n
lay_is nil w u = let z : u ≡ u + 0 = omega arith in ap (laid [] w) z
lay_is (cons t ts) w u =
    let a : length (laid_words t u) ≡ words t = words_length t u in
    let n : u + words t + words ts ≡ u + (words t + words ts) = omega arith in
    ap (λ (x : Laid). and_then x (λ v m. lay ts v m)) (lay_is t w u)
    ∙ ap (λ (x : Laid). and_then (laid (references t u) (sets w u (laid_words t u)) (u + words t)) (λ v m. x)) (lay_is ts (sets w u (laid_words t u)) (u + words t))
    ∙ ap₂ (λ (x : List ℕ) (y : ℕ). laid (references t u ++ references ts (u + words t)) x y) (sets_append (laid_words t u) (laid_words ts (u + words t)) w u (words t) a) n

-- What laying a rule gives: the references of its terms and the rule's words, and nothing else.
pub record RuleExact (R : Rule) (w : List ℕ) (u : ℕ) (rs : List ℕ) (u₁ r : ℕ) (w₂ : List ℕ) : Type 0 where
  pub premises : rs ≡ references R.premises u
  pub conclusion : r ∷ [] ≡ references R.conclusion u₁
  pub written : w₂ ≡ sets w u (rule_words u R)

pub rule_exact : (R : Rule) (w : List ℕ) (u : ℕ) (rs w₁ : List ℕ) (u₁ r : ℕ) (w₂ : List ℕ) (u₂ : ℕ)
    → lay R.premises w u ≡ laid rs w₁ u₁ → lay R.conclusion w₁ u₁ ≡ laid (r ∷ []) w₂ u₂ → RuleExact R w u rs u₁ r w₂
unfolding rule_words
rule_exact R w u rs w₁ u₁ r w₂ u₂ e d =
    let a : laid rs w₁ u₁ ≡ laid (references R.premises u) (sets w u (laid_words R.premises u)) (u + words R.premises) = sym e ∙ lay_is R.premises w u in
    let b : laid (r ∷ []) w₂ u₂ ≡ laid (references R.conclusion u₁) (sets w₁ u₁ (laid_words R.conclusion u₁)) (u₁ + words R.conclusion) =
    sym d ∙ lay_is R.conclusion w₁ u₁ in
    let p : rs ≡ references R.premises u = cc in
    let v : w₁ ≡ sets w u (laid_words R.premises u) = cc in
    let n : u₁ ≡ u + words R.premises = cc in
    let c : r ∷ [] ≡ references R.conclusion u₁ = cc in
    let y : w₂ ≡ sets w₁ u₁ (laid_words R.conclusion u₁) = cc in
    record {
      premises = p;
      conclusion = c;
      written = y ∙ ap₂ (λ (x : List ℕ) (m : ℕ). sets x m (laid_words R.conclusion m)) v n
          ∙ sets_append (laid_words R.premises u) (laid_words R.conclusion (u + words R.premises)) w u (words R.premises) (words_length R.premises u);
    }
