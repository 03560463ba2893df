-- Laws of the stored signature: one row, one rule or one clause more.
use Rattle.std.specs.Prelude.{ℕ, suc, ◌+◌, ◌-◌, ◌≤◌, ◌<◌, ◌≡◌, refl, List, [], ◌∷◌, ◌++◌, length, take, drop, set, replicate}
use Rattle.std.proofs.Common.{arith, sym, ap, ap₂, ◌∙◌, append_assoc, append-nil, length-append, take-append-drop, take_at, take-suc-set, length-take-le}
use Rattle.std.proofs.lemmas.List.Edits.{sets, sets-eq}
use Rattle.term_parser.specs.Source.{Place}
use Rattle.names.specs.Symbols.{Rows, Symbol}
use Rattle.resolution.specs.Rules.{Rule}
use Rattle.rules.specs.Layout.{rule_words, row_of}
use Rattle.rules.specs.declared.Title.{Title}
use Rattle.loader.specs.Stored.{sort_row, sort_rows, symbol_row_of, symbol_rows, rule_rows, words_from, padded}

-- One sort more,
pub sort_rows_more : (ps : List Place) (p : Place) → sort_rows (ps ++ (p ∷ [])) ≡ sort_rows ps ++ (sort_row p ∷ [])
sort_rows_more [] p = refl
sort_rows_more (q ∷ ps) p = ap (λ (r : Rows). sort_row q ∷ r) (sort_rows_more ps p)

-- one symbol more,
pub symbol_rows_more : (ps : List Place) (fs : List Symbol) (p : Place) (f : Symbol) → length ps ≡ length fs
    → symbol_rows (ps ++ (p ∷ [])) (fs ++ (f ∷ [])) ≡ symbol_rows ps fs ++ (symbol_row_of p f ∷ [])
unfolding symbol_rows
symbol_rows_more [] [] p f e = refl
symbol_rows_more [] (g ∷ fs) p f e = absurd (omega arith)
symbol_rows_more (q ∷ ps) [] p f e = absurd (omega arith)
symbol_rows_more (q ∷ ps) (g ∷ fs) p f e = ap (λ (r : Rows). symbol_row_of q g ∷ r) (symbol_rows_more ps fs p f (omega arith))

pub symbol_rows_length : (ps : List Place) (fs : List Symbol) → length ps ≡ length fs → length (symbol_rows ps fs) ≡ length fs
unfolding symbol_rows
symbol_rows_length [] fs e = e
symbol_rows_length (p ∷ ps) [] e = absurd (omega arith)
symbol_rows_length (p ∷ ps) (f ∷ fs) e = ap suc (symbol_rows_length ps fs (omega arith))

-- one rule more:
pub words_more : (Rs : List Rule) (R : Rule) (u : ℕ) → words_from (Rs ++ (R ∷ [])) u ≡ words_from Rs u ++ rule_words (u + length (words_from Rs u)) R
unfolding words_from
words_more [] R u = let z : u + 0 ≡ u = omega arith in rw z (append-nil (rule_words u R))
words_more (Q ∷ Rs) R u =
    let m : ℕ = u + length (rule_words u Q) in
    let l : length (rule_words u Q ++ words_from Rs m) ≡ length (rule_words u Q) + length (words_from Rs m) = length-append (rule_words u Q) (words_from Rs m) in
    let z : m + length (words_from Rs m) ≡ u + length (rule_words u Q ++ words_from Rs m) = omega arith in
    ap (λ (x : List ℕ). rule_words u Q ++ x) (words_more Rs R m) ∙ sym (append_assoc (rule_words u Q) (words_from Rs m) (rule_words (m + length (words_from Rs m)) R))
    ∙ ap (λ (k : ℕ). (rule_words u Q ++ words_from Rs m) ++ rule_words k R) z

pub rule_rows_more : (ts : List Title) (Rs : List Rule) (t : Title) (R : Rule) (u : ℕ) → length ts ≡ length Rs
    → rule_rows (ts ++ (t ∷ [])) (Rs ++ (R ∷ [])) u ≡ rule_rows ts Rs u ++ (row_of t (u + length (words_from Rs u)) R ∷ [])
unfolding rule_rows words_from
rule_rows_more [] [] t R u e = let z : u ≡ u + 0 = omega arith in ap (λ (k : ℕ). row_of t k R ∷ []) z
rule_rows_more [] (Q ∷ Rs) t R u e = absurd (omega arith)
rule_rows_more (s ∷ ts) [] t R u e = absurd (omega arith)
rule_rows_more (s ∷ ts) (Q ∷ Rs) t R u e =
    let m : ℕ = u + length (rule_words u Q) in
    let l : length (rule_words u Q ++ words_from Rs m) ≡ length (rule_words u Q) + length (words_from Rs m) = length-append (rule_words u Q) (words_from Rs m) in
    let z : m + length (words_from Rs m) ≡ u + length (rule_words u Q ++ words_from Rs m) = omega arith in
    ap (λ (x : Rows). row_of s u Q ∷ x) (rule_rows_more ts Rs t R m (omega arith))
    ∙ ap (λ (k : ℕ). row_of s u Q ∷ (rule_rows ts Rs m ++ (row_of t k R ∷ []))) z

pub rule_rows_length : (ts : List Title) (Rs : List Rule) (u : ℕ) → length ts ≡ length Rs → length (rule_rows ts Rs u) ≡ length Rs
unfolding rule_rows
rule_rows_length [] Rs u e = e
rule_rows_length (t ∷ ts) [] u e = absurd (omega arith)
rule_rows_length (t ∷ ts) (R ∷ Rs) u e = ap suc (rule_rows_length ts Rs (u + length (rule_words u R)) (omega arith))

-- One item more in storage.
pub take_more : {A : Type 0} (l m : List A) (n : ℕ) (a : A) → n < length l → take n l ≡ m → take (n + 1) (set l n a) ≡ m ++ (a ∷ [])
take_more l m n a h e =
    let o : n + 1 ≡ suc n = omega arith in
    ap (λ (k : ℕ). take k (set l n a)) o ∙ take-suc-set l n a h ∙ ap (λ x. x ++ (a ∷ [])) e

-- A run of items more.
pub take_run : (l m vs : List ℕ) (n : ℕ) → n + length vs ≤ length l → take n l ≡ m → take (n + length vs) (sets l n vs) ≡ m ++ vs
take_run l m vs n h e =
    let a : length (take n l) ≡ n = length-take-le n l (omega arith) in
    let b : length (take n l ++ vs) ≡ length (take n l) + length vs = length-append (take n l) vs in
    ap (take (n + length vs)) (sets-eq vs l n h) ∙ take_at (take n l ++ vs) (drop (n + length vs) l) (n + length vs) (omega arith) ∙ ap (λ (x : List ℕ). x ++ vs) e

-- Storage that is known up to a count, and the same past it, is known.
pub padded_is : {A : Type 0} (z : A) (k n : ℕ) (l m : List A) → n ≤ length l → take n l ≡ m → drop n l ≡ replicate (k - n) z → l ≡ padded z k m
padded_is z k n l m h e d =
    let a : length m ≡ n = ap length (sym e) ∙ length-take-le n l h in
    sym (take-append-drop n l) ∙ ap₂ (λ x y. x ++ y) e d ∙ ap (λ (i : ℕ). m ++ replicate (k - i) z) (sym a)
