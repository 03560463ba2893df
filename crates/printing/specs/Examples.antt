-- The example of document 01, "One text in full", and one of goals: what came of each `#eval`, given as data, is listed by running the definitions.
use Rattle.std.specs.Prelude.{◌≡◌, refl, [], ◌∷◌}
use Rattle.terms.specs.Term.{Term, var, app, nil, cons}
use Rattle.names.specs.Names.{digits}
use Rattle.resolution.specs.Rules.{node, leaf, ◌◂◌}
use Rattle.loader.specs.Signature.{Signature}
use Rattle.printing.specs.Listing.{Item, value, proved, nothing, undecided, refused, stopped, answered, listing_of}

-- `sort Nat`, `ctor zero : Nat`, `ctor succ : Nat → Nat` and `def add : Nat → Nat → Nat` with its two clauses, as they are loaded (`the_text` of `loader`).
abbrev zero_term : Term
zero_term = app 0 nil

abbrev succ_term : Term → Term
succ_term t = app 1 (cons t nil)

abbrev add_goal : Term → Term → Term → Term
add_goal a b r = app 2 (cons a (cons b (cons r nil)))

abbrev adding : Signature
adding =
    record {
      sorts = (78 ∷ 97 ∷ 116 ∷ []) ∷ [];
      symbols =
          record { name = 122 ∷ 101 ∷ 114 ∷ 111 ∷ []; inputs = []; output = 1; function = 0; first = 0; clauses = 0 }
          ∷ record { name = 115 ∷ 117 ∷ 99 ∷ 99 ∷ []; inputs = 1 ∷ []; output = 1; function = 0; first = 0; clauses = 0 }
          ∷ record { name = 97 ∷ 100 ∷ 100 ∷ []; inputs = 1 ∷ 1 ∷ 1 ∷ []; output = 0; function = 1; first = 0; clauses = 2 }
          ∷ [];
      rules =
          record { name = 97 ∷ 100 ∷ 100 ∷ 46 ∷ 48 ∷ []; sorts = 1 ∷ []; premises = nil; conclusion = add_goal zero_term (var 0) (var 0) }
          ∷ record { name = 97 ∷ 100 ∷ 100 ∷ 46 ∷ 49 ∷ []; sorts = 1 ∷ 1 ∷ 1 ∷ []; premises = cons (add_goal (var 0) (var 1) (var 2)) nil; conclusion = add_goal (succ_term (var 0)) (var 1) (succ_term (var 2)) }
          ∷ [];
      nodes = 14;
    }

-- `#eval add 1 1` on line 7, and `#eval add ?x 2 = 1` on line 8.
abbrev one_and_one : Item
one_and_one =
    record {
      line = 7;
      answer = value (succ_term (succ_term zero_term))
          (node 1 (add_goal (succ_term zero_term) (succ_term zero_term) (succ_term (succ_term zero_term)))
          (node 0 (add_goal zero_term (succ_term zero_term) (succ_term zero_term)) leaf ◂ leaf) ◂ leaf);
    }

adding_listed : listing_of adding (answered (one_and_one ∷ record { line = 8; answer = nothing } ∷ [])) ≡
    108 ∷ 105 ∷ 110 ∷ 101 ∷ 32 ∷ 55 ∷ 32 ∷ 118 ∷ 97 ∷ 108 ∷ 117 ∷ 101 ∷ 32 ∷ 40 ∷ 115 ∷ 117 ∷ 99 ∷ 99 ∷ 32 ∷ 40 ∷ 115 ∷ 117 ∷ 99 ∷ 99 ∷ 32 ∷ 122 ∷ 101 ∷ 114 ∷ 111 ∷ 41 ∷ 41 ∷ 10
    ∷ 49 ∷ 32 ∷ 97 ∷ 100 ∷ 100 ∷ 46 ∷ 49 ∷ 32 ∷ 40 ∷ 97 ∷ 100 ∷ 100 ∷ 32 ∷ 40 ∷ 115 ∷ 117 ∷ 99 ∷ 99 ∷ 32 ∷ 122 ∷ 101 ∷ 114 ∷ 111 ∷ 41 ∷ 32 ∷ 40 ∷ 115 ∷ 117 ∷ 99 ∷ 99 ∷ 32 ∷ 122 ∷ 101 ∷ 114 ∷ 111 ∷ 41 ∷ 32 ∷ 40 ∷ 115 ∷ 117 ∷ 99 ∷ 99 ∷ 32 ∷ 40 ∷ 115 ∷ 117 ∷ 99 ∷ 99 ∷ 32 ∷ 122 ∷ 101 ∷ 114 ∷ 111 ∷ 41 ∷ 41 ∷ 41 ∷ 10
    ∷ 50 ∷ 32 ∷ 97 ∷ 100 ∷ 100 ∷ 46 ∷ 48 ∷ 32 ∷ 40 ∷ 97 ∷ 100 ∷ 100 ∷ 32 ∷ 122 ∷ 101 ∷ 114 ∷ 111 ∷ 32 ∷ 40 ∷ 115 ∷ 117 ∷ 99 ∷ 99 ∷ 32 ∷ 122 ∷ 101 ∷ 114 ∷ 111 ∷ 41 ∷ 32 ∷ 40 ∷ 115 ∷ 117 ∷ 99 ∷ 99 ∷ 32 ∷ 122 ∷ 101 ∷ 114 ∷ 111 ∷ 41 ∷ 41 ∷ 10
    ∷ 108 ∷ 105 ∷ 110 ∷ 101 ∷ 32 ∷ 56 ∷ 32 ∷ 110 ∷ 111 ∷ 110 ∷ 101 ∷ 10 ∷ []
unfolding digits
adding_listed = refl

-- `sort A`, `pred p : A → Prop`, `pred q : Prop`, `rule r : q` and `rule t : q → p x`.
abbrev q_goal : Term
q_goal = app 1 nil

abbrev p_goal : Term → Term
p_goal t = app 0 (cons t nil)

abbrev proving : Signature
proving =
    record {
      sorts = (65 ∷ []) ∷ [];
      symbols =
          record { name = 112 ∷ []; inputs = 1 ∷ []; output = 0; function = 0; first = 0; clauses = 0 }
          ∷ record { name = 113 ∷ []; inputs = []; output = 0; function = 0; first = 0; clauses = 0 }
          ∷ [];
      rules =
          record { name = 114 ∷ []; sorts = []; premises = nil; conclusion = q_goal }
          ∷ record { name = 116 ∷ []; sorts = 1 ∷ []; premises = cons q_goal nil; conclusion = p_goal (var 0) }
          ∷ [];
      nodes = 4;
    }

-- `#eval q` and `#eval p ?y` on line 3, and `#eval u` on line 4.
proving_listed : listing_of proving
    (answered
    (record { line = 3; answer = proved (node 0 q_goal leaf) }
    ∷ record { line = 3; answer = proved (node 1 (p_goal (var 1)) (node 0 q_goal leaf ◂ leaf)) }
    ∷ record { line = 4; answer = refused 19 }
    ∷ [])) ≡
    108 ∷ 105 ∷ 110 ∷ 101 ∷ 32 ∷ 51 ∷ 32 ∷ 112 ∷ 114 ∷ 111 ∷ 118 ∷ 101 ∷ 100 ∷ 10
    ∷ 49 ∷ 32 ∷ 114 ∷ 32 ∷ 40 ∷ 113 ∷ 41 ∷ 10
    ∷ 108 ∷ 105 ∷ 110 ∷ 101 ∷ 32 ∷ 51 ∷ 32 ∷ 112 ∷ 114 ∷ 111 ∷ 118 ∷ 101 ∷ 100 ∷ 10
    ∷ 49 ∷ 32 ∷ 116 ∷ 32 ∷ 40 ∷ 112 ∷ 32 ∷ 63 ∷ 118 ∷ 49 ∷ 41 ∷ 10
    ∷ 50 ∷ 32 ∷ 114 ∷ 32 ∷ 40 ∷ 113 ∷ 41 ∷ 10
    ∷ 108 ∷ 105 ∷ 110 ∷ 101 ∷ 32 ∷ 52 ∷ 32 ∷ 114 ∷ 101 ∷ 102 ∷ 117 ∷ 115 ∷ 101 ∷ 100 ∷ 32 ∷ 49 ∷ 57 ∷ 10 ∷ []
unfolding digits
proving_listed = refl

-- What is not decided, and a refused text.
undecided_listed : listing_of proving (answered (record { line = 12; answer = undecided } ∷ [])) ≡ 108 ∷ 105 ∷ 110 ∷ 101 ∷ 32 ∷ 49 ∷ 50 ∷ 32 ∷ 117 ∷ 110 ∷ 100 ∷ 101 ∷ 99 ∷ 105 ∷ 100 ∷ 101 ∷ 100 ∷ 10 ∷ []
unfolding digits
undecided_listed = refl

stopped_listed : listing_of proving (stopped 19 2) ≡ 114 ∷ 101 ∷ 102 ∷ 117 ∷ 115 ∷ 101 ∷ 100 ∷ 32 ∷ 49 ∷ 57 ∷ 32 ∷ 108 ∷ 105 ∷ 110 ∷ 101 ∷ 32 ∷ 50 ∷ 10 ∷ []
unfolding digits
stopped_listed = refl
