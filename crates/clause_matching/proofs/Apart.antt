-- A first pattern and a first value of different symbols: the patterns do not fit the values.
use Prim.Native.Nat.{ℕ, suc, ◌-◌, ◌≤◌, ◌<◌}
use native.Mathlib.Omega.{arith}
use mathlib.Core.Path.{◌≡◌, ap, ap₂, ◌∙◌}
use mathlib.Core.Logic.{◌≢◌}
use mathlib.Core.List.{List, [], ◌∷◌}
use lib.ListN.{get_or, length}
use Rattle.std.specs.Prelude.{Some, slice_get}
use Rattle.terms.specs.Numbers.{by_same}
use Rattle.terms.specs.Term.{app, Term, Terms}
use Rattle.terms.specs.Bindings.{start}
use Rattle.arena.specs.Cells.{headers, cells, arity_of, symbol_of, args, denote, denote_node}
use Rattle.arena.specs.ArgumentLaws.{count_args}
use Rattle.arena.specs.Copies.{pattern_room}
use Rattle.evaluation.specs.Matching.{Fitted, misfit, if_fitted, bind_of}
use Rattle.clause_matching.specs.Stored.{pattern_at, value_at}
use Rattle.clause_matching.specs.Choice.{patterns_from, values_of, ApartAsked}
use Rattle.clause_matching.proofs.Open.{bind_uneven}

-- The first of a list, where there is one.
pub first_is : (xs : List ℕ) (x : ℕ) → Some x ≡ slice_get xs 0 → x ≡ get_or xs 0 0
first_is [] x e = absurd (cc)
first_is (y ∷ ys) x e = cc

module _ {pattern : List ℕ} {base : ℕ} {words values : List ℕ} (h : ApartAsked pattern base words values) (some : 0 < length values) where
  abbrev reference : ℕ
  reference = cells pattern base

  abbrev value : ℕ
  value = cells values 0

  pub value_inside : (value < length words) × (value < headers)
  value_inside = let r = (h.root some).node (omega arith) in let w = h.stored.within in let l = h.stored.low in (omega arith, omega arith)

  module _ (v : pattern_room ≤ reference) where
    abbrev address : ℕ
    address = reference - pattern_room

    abbrev inner : Terms
    inner = args (denote pattern_room (cells pattern)) (cells pattern) (suc address) (arity_of (cells pattern address))

    abbrev other : Terms
    other = args (denote 0 (cells words)) (cells words) (suc value) (arity_of (cells words value))

    pub node_inside : (address < length pattern) × (reference < headers)
    node_inside =
        let p = h.patterned some in let n = p.root.node v in let w = p.within in let l = p.low in (omega arith, omega arith)

    is_node : pattern_at pattern reference ≡ app (symbol_of (cells pattern address)) inner
    is_node = let p = h.patterned some in denote_node pattern_room (cells pattern) pattern_room h.size p.formed reference p.root v

    is_value_lem : value_at words value ≡ app (symbol_of (cells words value)) other
    is_value_lem =
        let z : value - 0 ≡ value = omega arith in
        rw z at (denote_node 0 (cells words) 0 h.used h.stored.formed value (h.root some) (omega arith))

    headers_apart : cells pattern address ≢ cells words value → bind_of (app (symbol_of (cells pattern address)) inner) (app (symbol_of (cells words value)) other) start ≡ misfit
    unfolding bind_of
    headers_apart n = by_same (symbol_of (cells pattern address)) (symbol_of (cells words value))
        (λ p e. rw e (bind_uneven inner other start (λ c.
        let a = count_args (denote pattern_room (cells pattern)) (cells pattern) (suc address) (arity_of (cells pattern address)) in
        let b = count_args (denote 0 (cells words)) (cells words) (suc value) (arity_of (cells words value)) in
        let z : value - 0 ≡ value = omega arith in
        let x : headers ≤ cells pattern address = (h.patterned some).root.header v in
        let y : headers ≤ cells words value = rw z at ((h.root some).header (omega arith)) in
        n (omega arith))))
        (λ p e. rw e)

    first_apart : (n : ℕ) → length values ≡ suc n → bind_of (pattern_at pattern reference) (value_at words value) start ≡ misfit
        → bind_of (patterns_from pattern base (suc n)) (args (denote 0 (cells words)) (cells values) 0 (suc n)) start ≡ misfit
    unfolding bind_of
    first_apart n e m = ap (λ (o : Fitted). if_fitted o (λ δ. bind_of (patterns_from pattern (suc base) n) (args (denote 0 (cells words)) (cells values) 1 n) δ)) m

    pub apart : cells pattern address ≢ cells words value → bind_of (patterns_from pattern base (length values)) (values_of words values) start ≡ misfit
    apart n =
        let l : length values ≡ suc (length values - 1) = omega arith in
        ap (λ (k : ℕ). bind_of (patterns_from pattern base k) (args (denote 0 (cells words)) (cells values) 0 k) start) l
        ∙ first_apart (length values - 1) l (ap₂ (λ (p t : Term). bind_of p t start) is_node is_value_lem ∙ headers_apart n)
