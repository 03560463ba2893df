-- Random sessions with the answers of the Rust's `Prover`, computed with the definitions.
-- Here are the definitions; the theorems about them are in proofs/Recorded.
use Rattle.std.specs.Prelude.{List, [], ◌∷◌}
use Rattle.terms.specs.Term.{var, app, nil, cons}
use Rattle.terms.specs.Bindings.{start, bind}
use Rattle.resolution.specs.Cases.{Case}

unfoldable pub cases : List Case
cases =
    -- The last step was also the last allowed one; then one step more.
    record {
      rules = record { name = []; sorts = []; premises = nil; conclusion = app 6 (cons (app 0 nil) (cons (var 0) (cons (var 0) nil))) } ∷ record { name = []; sorts = []; premises = (cons (app 6 (cons (var 0) (cons (var 1) (cons (var 2) nil)))) nil); conclusion = app 6 (cons (app 1 (cons (var 0) nil)) (cons (var 1) (cons (app 1 (cons (var 2) nil)) nil))) } ∷ [];
      session = record { names = []; variables = 0; bindings = start; words = 0 };
      goals = record { goal = app 6 (cons (var 0) (cons (app 1 (cons (app 1 (cons (app 0 nil) nil)) nil)) (cons (app 1 (cons (app 0 nil) nil)) nil))); steps = 2; depth = 32; limits = record { steps = 65535; variables = 65536; words = 262144 } } ∷ record { goal = app 6 (cons (var 0) (cons (app 1 (cons (app 1 (cons (app 0 nil) nil)) nil)) (cons (app 1 (cons (app 0 nil) nil)) nil))); steps = 3; depth = 32; limits = record { steps = 65535; variables = 65536; words = 262144 } } ∷ [];
      expected = 9 ∷ 2 ∷ 1 ∷ 33 ∷ 0 ∷ 4 ∷ 8 ∷ 2 ∷ 1 ∷ 41 ∷ 0 ∷ 4 ∷ [];
    }
    -- Cut off at bound 4, none at bound 8.
    ∷ record {
      rules = record { name = []; sorts = []; premises = nil; conclusion = app 6 (cons (app 0 nil) (cons (var 0) (cons (var 0) nil))) } ∷ record { name = []; sorts = []; premises = (cons (app 6 (cons (var 0) (cons (var 1) (cons (var 2) nil)))) nil); conclusion = app 6 (cons (app 1 (cons (var 0) nil)) (cons (var 1) (cons (app 1 (cons (var 2) nil)) nil))) } ∷ [];
      session = record { names = []; variables = 0; bindings = start; words = 0 };
      goals = record { goal = app 6 (cons (app 1 (cons (app 1 (cons (app 1 (cons (app 1 (cons (app 1 (cons (app 1 (cons (app 0 nil) nil)) nil)) nil)) nil)) nil)) nil)) (cons (var 0) (cons (app 1 (cons (app 1 (cons (app 1 (cons (app 1 (cons (app 1 (cons (app 0 nil) nil)) nil)) nil)) nil)) nil)) nil))); steps = 40; depth = 32; limits = record { steps = 65535; variables = 65536; words = 262144 } } ∷ [];
      expected = 8 ∷ 6 ∷ 1 ∷ 41 ∷ 0 ∷ 4 ∷ [];
    }
    -- The occurs check: no term is its own successor.
    ∷ record {
      rules = record { name = []; sorts = []; premises = nil; conclusion = app 5 (cons (var 0) (cons (app 1 (cons (var 0) nil)) nil)) } ∷ [];
      session = record { names = []; variables = 0; bindings = start; words = 0 };
      goals = record { goal = app 5 (cons (var 0) (cons (var 0) nil)); steps = 10; depth = 8; limits = record { steps = 65535; variables = 65536; words = 262144 } } ∷ [];
      expected = 8 ∷ 1 ∷ 1 ∷ 2 ∷ 0 ∷ 4 ∷ [];
    }
    -- Premises are instantiated from the last to the first.
    ∷ record {
      rules = record { name = []; sorts = []; premises = (cons (app 4 (cons (var 2) nil)) (cons (app 4 (cons (var 3) nil)) nil)); conclusion = app 5 (cons (var 0) (cons (var 1) nil)) } ∷ record { name = []; sorts = []; premises = nil; conclusion = app 4 (cons (app 1 (cons (app 0 nil) nil)) nil) } ∷ [];
      session = record { names = []; variables = 0; bindings = start; words = 0 };
      goals = record { goal = app 5 (cons (var 0) (cons (var 1) nil)); steps = 20; depth = 8; limits = record { steps = 65535; variables = 65536; words = 262144 } } ∷ [];
      expected = 7 ∷ 7 ∷ 2 ∷ 0 ∷ 1 ∷ 5 ∷ 2 ∷ 0 ∷ 0 ∷ 0 ∷ 1 ∷ 2 ∷ 1 ∷ 1 ∷ 4 ∷ 1 ∷ 0 ∷ 5 ∷ 3 ∷ 2 ∷ 1 ∷ 1 ∷ 4 ∷ 1 ∷ 0 ∷ 4 ∷ 3 ∷ 3 ∷ 3 ∷ 2 ∷ 10 ∷ 20 ∷ 5 ∷ 4 ∷ 1 ∷ 1 ∷ 1 ∷ 1 ∷ 0 ∷ 0 ∷ 5 ∷ 5 ∷ 1 ∷ 1 ∷ 1 ∷ 1 ∷ 0 ∷ 0 ∷ 5 ∷ 1 ∷ 0 ∷ 3 ∷ 5 ∷ 0 ∷ 0 ∷ 2 ∷ 4 ∷ [];
    }
    -- A branch fails after binding: its variables stay counted, and later goals share the session.
    ∷ record {
      rules = record { name = []; sorts = []; premises = (cons (app 4 (cons (var 1) nil)) (cons (app 4 (cons (app 1 (cons (app 1 (cons (app 1 (cons (app 0 nil) nil)) nil)) nil)) nil)) nil)); conclusion = app 5 (cons (var 0) (cons (app 0 nil) nil)) } ∷ record { name = []; sorts = []; premises = nil; conclusion = app 5 (cons (app 1 (cons (app 1 (cons (app 0 nil) nil)) nil)) (cons (var 0) nil)) } ∷ record { name = []; sorts = []; premises = nil; conclusion = app 4 (cons (app 0 nil) nil) } ∷ [];
      session = record { names = []; variables = 0; bindings = start; words = 0 };
      goals = record { goal = app 5 (cons (var 0) (cons (var 1) nil)); steps = 30; depth = 8; limits = record { steps = 65535; variables = 65536; words = 262144 } } ∷ record { goal = app 5 (cons (var 1) (cons (var 2) nil)); steps = 30; depth = 8; limits = record { steps = 65535; variables = 65536; words = 262144 } } ∷ record { goal = app 4 (cons (var 0) nil); steps = 30; depth = 8; limits = record { steps = 65535; variables = 65536; words = 262144 } } ∷ [];
      expected = 7 ∷ 6 ∷ 2 ∷ 1 ∷ 1 ∷ 5 ∷ 2 ∷ 0 ∷ 0 ∷ 0 ∷ 1 ∷ 3 ∷ 3 ∷ 2 ∷ 9 ∷ 11 ∷ 5 ∷ 1 ∷ 0 ∷ 8 ∷ 5 ∷ 0 ∷ 1 ∷ 1 ∷ 1 ∷ 1 ∷ 1 ∷ 1 ∷ 1 ∷ 0 ∷ 0 ∷ 4 ∷ 7 ∷ 6 ∷ 2 ∷ 1 ∷ 1 ∷ 5 ∷ 2 ∷ 0 ∷ 1 ∷ 0 ∷ 9 ∷ 3 ∷ 3 ∷ 3 ∷ 17 ∷ 22 ∷ 5 ∷ 9 ∷ 0 ∷ 16 ∷ 5 ∷ 8 ∷ 1 ∷ 1 ∷ 1 ∷ 1 ∷ 1 ∷ 1 ∷ 1 ∷ 0 ∷ 0 ∷ 5 ∷ 1 ∷ 0 ∷ 8 ∷ 5 ∷ 0 ∷ 1 ∷ 1 ∷ 1 ∷ 1 ∷ 1 ∷ 1 ∷ 1 ∷ 0 ∷ 0 ∷ 4 ∷ 8 ∷ 1 ∷ 3 ∷ 19 ∷ 22 ∷ 5 ∷ 9 ∷ 0 ∷ 16 ∷ 5 ∷ 8 ∷ 1 ∷ 1 ∷ 1 ∷ 1 ∷ 1 ∷ 1 ∷ 1 ∷ 0 ∷ 0 ∷ 5 ∷ 1 ∷ 0 ∷ 8 ∷ 5 ∷ 0 ∷ 1 ∷ 1 ∷ 1 ∷ 1 ∷ 1 ∷ 1 ∷ 1 ∷ 0 ∷ 0 ∷ 4 ∷ [];
    }
    ∷ record {
      rules = record { name = []; sorts = []; premises = nil; conclusion = app 6 (cons (app 3 nil) (cons (app 3 nil) (cons (app 1 (cons (app 0 nil) nil)) nil))) } ∷ record { name = []; sorts = []; premises = nil; conclusion = app 5 (cons (var 0) (cons (var 1) nil)) } ∷ record { name = []; sorts = []; premises = nil; conclusion = app 5 (cons (app 1 (cons (app 3 nil) nil)) (cons (app 1 (cons (app 2 (cons (app 3 nil) (cons (app 0 nil) nil))) nil)) nil)) } ∷ [];
      session = record { names = record { name = record { text = 0 ∷ []; sort = 1 }; variable = 0 } ∷ []; variables = 2; bindings = bind 1 (app 3 nil) (start); words = 6 };
      goals = record { goal = app 6 (cons (app 2 (cons (var 3) (cons (var 2) nil))) (cons (app 1 (cons (app 1 (cons (app 1 (cons (app 1 (cons (app 1 (cons (app 1 (cons (app 1 (cons (app 0 nil) nil)) nil)) nil)) nil)) nil)) nil)) nil)) (cons (var 4) nil))); steps = 60; depth = 16; limits = record { steps = 65535; variables = 65536; words = 262144 } } ∷ record { goal = app 5 (cons (var 0) (cons (app 3 nil) nil)); steps = 2; depth = 7; limits = record { steps = 65535; variables = 65536; words = 156 } } ∷ record { goal = app 5 (cons (app 1 (cons (app 3 nil) nil)) (cons (app 1 (cons (app 3 nil) nil)) nil)); steps = 30; depth = 4; limits = record { steps = 65535; variables = 65536; words = 46 } } ∷ [];
      expected = 8 ∷ 1 ∷ 4 ∷ 7 ∷ 6 ∷ 5 ∷ 1 ∷ 1 ∷ 3 ∷ 0 ∷ 4 ∷ 9 ∷ 2 ∷ 4 ∷ 9 ∷ 6 ∷ 5 ∷ 1 ∷ 1 ∷ 3 ∷ 0 ∷ 4 ∷ 7 ∷ 3 ∷ 2 ∷ 1 ∷ 1 ∷ 5 ∷ 2 ∷ 1 ∷ 1 ∷ 1 ∷ 1 ∷ 3 ∷ 0 ∷ 1 ∷ 1 ∷ 1 ∷ 1 ∷ 3 ∷ 0 ∷ 3 ∷ 3 ∷ 4 ∷ 11 ∷ 18 ∷ 5 ∷ 10 ∷ 1 ∷ 1 ∷ 1 ∷ 1 ∷ 3 ∷ 0 ∷ 5 ∷ 9 ∷ 1 ∷ 1 ∷ 1 ∷ 1 ∷ 3 ∷ 0 ∷ 5 ∷ 1 ∷ 1 ∷ 3 ∷ 0 ∷ 4 ∷ [];
    }
    ∷ record {
      rules = record { name = []; sorts = []; premises = (cons (app 6 (cons (app 2 (cons (app 1 (cons (app 0 nil) nil)) (cons (var 1) nil))) (cons (var 2) (cons (app 0 nil) nil)))) nil); conclusion = app 6 (cons (app 1 (cons (var 2) nil)) (cons (app 2 (cons (app 1 (cons (var 1) nil)) (cons (app 2 (cons (var 2) (cons (var 0) nil))) nil))) (cons (app 2 (cons (app 1 (cons (app 3 nil) nil)) (cons (app 2 (cons (app 3 nil) (cons (var 2) nil))) nil))) nil))) } ∷ record { name = []; sorts = []; premises = nil; conclusion = app 6 (cons (app 0 nil) (cons (var 0) (cons (var 0) nil))) } ∷ record { name = []; sorts = []; premises = (cons (app 6 (cons (var 0) (cons (var 1) (cons (var 2) nil)))) nil); conclusion = app 6 (cons (app 1 (cons (var 0) nil)) (cons (var 1) (cons (app 1 (cons (var 2) nil)) nil))) } ∷ [];
      session = record { names = []; variables = 0; bindings = start; words = 5 };
      goals = record { goal = app 6 (cons (app 1 (cons (app 3 nil) nil)) (cons (app 1 (cons (var 0) nil)) (cons (app 1 (cons (var 2) nil)) nil))); steps = 10; depth = 5; limits = record { steps = 65535; variables = 65536; words = 262144 } } ∷ record { goal = app 6 (cons (var 2) (cons (var 1) (cons (app 1 (cons (var 4) nil)) nil))); steps = 4; depth = 12; limits = record { steps = 65535; variables = 65536; words = 262144 } } ∷ record { goal = app 6 (cons (app 1 (cons (var 3) nil)) (cons (app 2 (cons (app 0 nil) (cons (app 2 (cons (app 3 nil) (cons (app 2 (cons (var 2) (cons (app 3 nil) nil))) nil))) nil))) (cons (app 2 (cons (app 1 (cons (app 3 nil) nil)) (cons (app 2 (cons (app 3 nil) (cons (app 1 (cons (app 3 nil) nil)) nil))) nil))) nil))); steps = 3; depth = 4; limits = record { steps = 65535; variables = 65536; words = 262144 } } ∷ [];
      expected = 8 ∷ 2 ∷ 2 ∷ 16 ∷ 5 ∷ 4 ∷ 7 ∷ 3 ∷ 2 ∷ 1 ∷ 1 ∷ 6 ∷ 3 ∷ 0 ∷ 1 ∷ 0 ∷ 16 ∷ 1 ∷ 1 ∷ 1 ∷ 0 ∷ 17 ∷ 3 ∷ 3 ∷ 4 ∷ 22 ∷ 16 ∷ 5 ∷ 21 ∷ 1 ∷ 1 ∷ 1 ∷ 0 ∷ 17 ∷ 5 ∷ 16 ∷ 0 ∷ 21 ∷ 5 ∷ 1 ∷ 1 ∷ 0 ∷ 0 ∷ 4 ∷ 8 ∷ 1 ∷ 5 ∷ 30 ∷ 16 ∷ 5 ∷ 21 ∷ 1 ∷ 1 ∷ 1 ∷ 0 ∷ 17 ∷ 5 ∷ 16 ∷ 0 ∷ 21 ∷ 5 ∷ 1 ∷ 1 ∷ 0 ∷ 0 ∷ 4 ∷ [];
    }
    ∷ record {
      rules = record { name = []; sorts = []; premises = nil; conclusion = app 5 (cons (var 0) (cons (var 0) nil)) } ∷ record { name = []; sorts = []; premises = (cons (app 5 (cons (var 0) (cons (var 1) nil))) (cons (app 5 (cons (var 1) (cons (var 2) nil))) nil)); conclusion = app 5 (cons (var 0) (cons (var 2) nil)) } ∷ record { name = []; sorts = []; premises = nil; conclusion = app 5 (cons (app 0 nil) (cons (app 1 (cons (app 0 nil) nil)) nil)) } ∷ [];
      session = record { names = []; variables = 0; bindings = start; words = 1 };
      goals = record { goal = app 4 (cons (app 2 (cons (app 1 (cons (var 4) nil)) (cons (var 0) nil))) nil); steps = 25; depth = 16; limits = record { steps = 65535; variables = 65536; words = 262144 } } ∷ [];
      expected = 8 ∷ 1 ∷ 2 ∷ 5 ∷ 1 ∷ 4 ∷ [];
    }
    ∷ record {
      rules = record { name = []; sorts = []; premises = (cons (app 6 (cons (var 1) (cons (app 2 (cons (app 0 nil) (cons (app 0 nil) nil))) (cons (app 2 (cons (var 0) (cons (app 0 nil) nil))) nil)))) (cons (app 4 (cons (app 3 nil) nil)) nil)); conclusion = app 4 (cons (app 0 nil) nil) } ∷ record { name = []; sorts = []; premises = nil; conclusion = app 4 (cons (app 3 nil) nil) } ∷ record { name = []; sorts = []; premises = (cons (app 5 (cons (app 0 nil) (cons (var 0) nil))) (cons (app 6 (cons (app 1 (cons (app 1 (cons (app 1 (cons (app 1 (cons (app 1 (cons (app 1 (cons (app 1 (cons (app 1 (cons (app 1 (cons (app 0 nil) nil)) nil)) nil)) nil)) nil)) nil)) nil)) nil)) nil)) (cons (app 1 (cons (app 1 (cons (app 1 (cons (app 1 (cons (app 0 nil) nil)) nil)) nil)) nil)) (cons (var 0) nil)))) (cons (app 4 (cons (app 3 nil) nil)) nil))); conclusion = app 4 (cons (var 1) nil) } ∷ record { name = []; sorts = []; premises = (cons (app 4 (cons (app 0 nil) nil)) (cons (app 4 (cons (app 3 nil) nil)) nil)); conclusion = app 4 (cons (app 3 nil) nil) } ∷ [];
      session = record { names = record { name = record { text = 0 ∷ []; sort = 1 }; variable = 1 } ∷ record { name = record { text = 1 ∷ []; sort = 1 }; variable = 2 } ∷ []; variables = 6; bindings = bind 3 (app 3 nil) (bind 2 (var 5) (bind 1 (app 3 nil) (start))); words = 13 };
      goals = record { goal = app 4 (cons (var 4) nil); steps = 8; depth = 32; limits = record { steps = 65535; variables = 18; words = 262144 } } ∷ record { goal = app 4 (cons (app 0 nil) nil); steps = 5; depth = 4; limits = record { steps = 65535; variables = 65536; words = 167 } } ∷ record { goal = app 4 (cons (app 1 (cons (var 1) nil)) nil); steps = 3; depth = 32; limits = record { steps = 65535; variables = 65536; words = 22 } } ∷ record { goal = app 4 (cons (var 4) nil); steps = 40; depth = 0; limits = record { steps = 14; variables = 65536; words = 262144 } } ∷ [];
      expected = 7 ∷ 4 ∷ 2 ∷ 1 ∷ 1 ∷ 4 ∷ 1 ∷ 0 ∷ 6 ∷ 3 ∷ 3 ∷ 3 ∷ 10 ∷ 18 ∷ 5 ∷ 6 ∷ 1 ∷ 3 ∷ 0 ∷ 5 ∷ 3 ∷ 1 ∷ 3 ∷ 0 ∷ 5 ∷ 2 ∷ 0 ∷ 5 ∷ 5 ∷ 1 ∷ 1 ∷ 3 ∷ 0 ∷ 4 ∷ 8 ∷ 3 ∷ 3 ∷ 16 ∷ 18 ∷ 5 ∷ 6 ∷ 1 ∷ 3 ∷ 0 ∷ 5 ∷ 3 ∷ 1 ∷ 3 ∷ 0 ∷ 5 ∷ 2 ∷ 0 ∷ 5 ∷ 5 ∷ 1 ∷ 1 ∷ 3 ∷ 0 ∷ 4 ∷ 6 ∷ 37 ∷ 3 ∷ 16 ∷ 18 ∷ 5 ∷ 6 ∷ 1 ∷ 3 ∷ 0 ∷ 5 ∷ 3 ∷ 1 ∷ 3 ∷ 0 ∷ 5 ∷ 2 ∷ 0 ∷ 5 ∷ 5 ∷ 1 ∷ 1 ∷ 3 ∷ 0 ∷ 4 ∷ 6 ∷ 38 ∷ 3 ∷ 16 ∷ 18 ∷ 5 ∷ 6 ∷ 1 ∷ 3 ∷ 0 ∷ 5 ∷ 3 ∷ 1 ∷ 3 ∷ 0 ∷ 5 ∷ 2 ∷ 0 ∷ 5 ∷ 5 ∷ 1 ∷ 1 ∷ 3 ∷ 0 ∷ 4 ∷ [];
    }
    ∷ record {
      rules = record { name = []; sorts = []; premises = (cons (app 4 (cons (var 1) nil)) nil); conclusion = app 4 (cons (app 1 (cons (app 1 (cons (app 1 (cons (app 1 (cons (app 0 nil) nil)) nil)) nil)) nil)) nil) } ∷ record { name = []; sorts = []; premises = (cons (app 4 (cons (var 1) nil)) (cons (app 5 (cons (var 0) (cons (app 3 nil) nil))) (cons (app 4 (cons (var 0) nil)) nil))); conclusion = app 4 (cons (var 1) nil) } ∷ record { name = []; sorts = []; premises = (cons (app 6 (cons (var 1) (cons (app 2 (cons (app 3 nil) (cons (app 0 nil) nil))) (cons (app 3 nil) nil)))) (cons (app 5 (cons (var 1) (cons (app 3 nil) nil))) (cons (app 5 (cons (app 3 nil) (cons (app 1 (cons (app 1 (cons (app 1 (cons (app 1 (cons (app 0 nil) nil)) nil)) nil)) nil)) nil))) nil))); conclusion = app 6 (cons (app 2 (cons (var 0) (cons (app 1 (cons (app 1 (cons (app 1 (cons (app 1 (cons (app 0 nil) nil)) nil)) nil)) nil)) nil))) (cons (app 1 (cons (app 1 (cons (app 1 (cons (app 0 nil) nil)) nil)) nil)) (cons (var 1) nil))) } ∷ record { name = []; sorts = []; premises = nil; conclusion = app 4 (cons (app 3 nil) nil) } ∷ [];
      session = record { names = []; variables = 0; bindings = start; words = 4 };
      goals = record { goal = app 4 (cons (app 1 (cons (app 1 (cons (app 1 (cons (app 1 (cons (app 0 nil) nil)) nil)) nil)) nil)) nil); steps = 30; depth = 129; limits = record { steps = 65535; variables = 65536; words = 4 } } ∷ record { goal = app 6 (cons (app 2 (cons (var 3) (cons (app 1 (cons (app 0 nil) nil)) nil))) (cons (app 1 (cons (var 3) nil)) (cons (app 0 nil) nil))); steps = 10; depth = 8; limits = record { steps = 65535; variables = 65536; words = 235 } } ∷ record { goal = app 6 (cons (app 2 (cons (app 0 nil) (cons (app 1 (cons (app 1 (cons (app 2 (cons (var 1) (cons (app 0 nil) nil))) nil)) nil)) nil))) (cons (app 1 (cons (app 1 (cons (app 1 (cons (app 0 nil) nil)) nil)) nil)) (cons (app 2 (cons (var 0) (cons (app 1 (cons (app 3 nil) nil)) nil))) nil))); steps = 5; depth = 16; limits = record { steps = 65535; variables = 65536; words = 262144 } } ∷ record { goal = app 6 (cons (app 2 (cons (app 1 (cons (app 1 (cons (var 2) nil)) nil)) (cons (app 1 (cons (app 1 (cons (app 1 (cons (app 1 (cons (app 0 nil) nil)) nil)) nil)) nil)) nil))) (cons (app 1 (cons (app 1 (cons (app 1 (cons (app 0 nil) nil)) nil)) nil)) (cons (app 0 nil) nil))); steps = 1; depth = 32; limits = record { steps = 65535; variables = 65536; words = 243 } } ∷ [];
      expected = 6 ∷ 38 ∷ 0 ∷ 0 ∷ 4 ∷ 4 ∷ 8 ∷ 1 ∷ 1 ∷ 4 ∷ 4 ∷ 4 ∷ 8 ∷ 1 ∷ 3 ∷ 9 ∷ 4 ∷ 4 ∷ 9 ∷ 1 ∷ 4 ∷ 22 ∷ 4 ∷ 4 ∷ [];
    }
    ∷ record {
      rules = record { name = []; sorts = []; premises = (cons (app 6 (cons (app 0 nil) (cons (app 2 (cons (app 0 nil) (cons (app 0 nil) nil))) (cons (app 3 nil) nil)))) nil); conclusion = app 4 (cons (app 3 nil) nil) } ∷ record { name = []; sorts = []; premises = nil; conclusion = app 6 (cons (app 2 (cons (app 1 (cons (var 2) nil)) (cons (var 1) nil))) (cons (var 2) (cons (var 2) nil))) } ∷ record { name = []; sorts = []; premises = nil; conclusion = app 6 (cons (app 0 nil) (cons (app 3 nil) (cons (app 3 nil) nil))) } ∷ record { name = []; sorts = []; premises = (cons (app 5 (cons (app 1 (cons (app 0 nil) nil)) (cons (app 0 nil) nil))) (cons (app 6 (cons (app 1 (cons (app 1 (cons (app 1 (cons (app 1 (cons (app 1 (cons (app 1 (cons (app 1 (cons (app 0 nil) nil)) nil)) nil)) nil)) nil)) nil)) nil)) (cons (app 0 nil) (cons (app 2 (cons (app 0 nil) (cons (app 3 nil) nil))) nil)))) (cons (app 5 (cons (app 0 nil) (cons (app 3 nil) nil))) nil))); conclusion = app 5 (cons (app 0 nil) (cons (app 0 nil) nil)) } ∷ record { name = []; sorts = []; premises = nil; conclusion = app 4 (cons (app 2 (cons (app 0 nil) (cons (app 2 (cons (var 2) (cons (var 0) nil))) nil))) nil) } ∷ [];
      session = record { names = record { name = record { text = 0 ∷ []; sort = 1 }; variable = 0 } ∷ record { name = record { text = 1 ∷ []; sort = 1 }; variable = 1 } ∷ []; variables = 2; bindings = bind 0 (app 0 nil) (start); words = 12 };
      goals = record { goal = app 6 (cons (app 2 (cons (var 4) (cons (var 1) nil))) (cons (var 2) (cons (var 2) nil))); steps = 3; depth = 3; limits = record { steps = 65535; variables = 12; words = 262144 } } ∷ record { goal = app 5 (cons (app 0 nil) (cons (app 0 nil) nil)); steps = 2; depth = 7; limits = record { steps = 65535; variables = 65536; words = 262144 } } ∷ record { goal = app 4 (cons (app 3 nil) nil); steps = 8; depth = 12; limits = record { steps = 65535; variables = 65536; words = 262144 } } ∷ [];
      expected = 9 ∷ 0 ∷ 4 ∷ 4 ∷ 12 ∷ 5 ∷ 0 ∷ 1 ∷ 0 ∷ 0 ∷ 4 ∷ 9 ∷ 2 ∷ 4 ∷ 12 ∷ 12 ∷ 5 ∷ 0 ∷ 1 ∷ 0 ∷ 0 ∷ 4 ∷ 8 ∷ 2 ∷ 4 ∷ 20 ∷ 12 ∷ 5 ∷ 0 ∷ 1 ∷ 0 ∷ 0 ∷ 4 ∷ [];
    }
    ∷ record {
      rules = record { name = []; sorts = []; premises = nil; conclusion = app 6 (cons (app 0 nil) (cons (var 0) (cons (var 0) nil))) } ∷ record { name = []; sorts = []; premises = (cons (app 6 (cons (var 1) (cons (var 2) (cons (var 3) nil)))) nil); conclusion = app 6 (cons (app 2 (cons (var 0) (cons (var 1) nil))) (cons (var 2) (cons (app 2 (cons (var 0) (cons (var 3) nil))) nil))) } ∷ record { name = []; sorts = []; premises = nil; conclusion = app 5 (cons (app 0 nil) (cons (app 0 nil) nil)) } ∷ record { name = []; sorts = []; premises = (cons (app 5 (cons (var 1) (cons (var 3) nil))) (cons (app 6 (cons (var 3) (cons (app 2 (cons (var 0) (cons (app 0 nil) nil))) (cons (var 2) nil)))) nil)); conclusion = app 5 (cons (app 2 (cons (var 0) (cons (var 1) nil))) (cons (var 2) nil)) } ∷ record { name = []; sorts = []; premises = nil; conclusion = app 5 (cons (var 0) (cons (app 0 nil) nil)) } ∷ [];
      session = record { names = []; variables = 1; bindings = bind 0 (app 3 nil) (start); words = 19 };
      goals = record { goal = app 6 (cons (app 2 (cons (app 3 nil) (cons (app 2 (cons (app 3 nil) (cons (app 2 (cons (var 1) (cons (var 0) nil))) nil))) nil))) (cons (var 4) (cons (app 2 (cons (var 4) (cons (var 1) nil))) nil))); steps = 3; depth = 7; limits = record { steps = 65535; variables = 65536; words = 262144 } } ∷ record { goal = app 6 (cons (app 1 (cons (app 2 (cons (app 3 nil) (cons (var 3) nil))) nil)) (cons (app 2 (cons (app 3 nil) (cons (app 1 (cons (app 0 nil) nil)) nil))) (cons (app 0 nil) nil))); steps = 4; depth = 4; limits = record { steps = 65535; variables = 46; words = 179 } } ∷ record { goal = app 6 (cons (app 2 (cons (app 3 nil) (cons (app 2 (cons (app 0 nil) (cons (app 0 nil) nil))) nil))) (cons (app 2 (cons (app 3 nil) (cons (app 3 nil) nil))) (cons (app 2 (cons (var 2) (cons (var 1) nil))) nil))); steps = 12; depth = 4; limits = record { steps = 65535; variables = 65536; words = 262144 } } ∷ record { goal = app 6 (cons (app 2 (cons (app 3 nil) (cons (app 3 nil) nil))) (cons (app 1 (cons (var 1) nil)) (cons (app 2 (cons (var 1) (cons (app 2 (cons (app 0 nil) (cons (app 3 nil) nil))) nil))) nil))); steps = 6; depth = 12; limits = record { steps = 65535; variables = 65536; words = 145 } } ∷ [];
      expected = 9 ∷ 3 ∷ 3 ∷ 31 ∷ 19 ∷ 5 ∷ 0 ∷ 1 ∷ 3 ∷ 0 ∷ 4 ∷ 8 ∷ 1 ∷ 4 ∷ 41 ∷ 19 ∷ 5 ∷ 0 ∷ 1 ∷ 3 ∷ 0 ∷ 4 ∷ 7 ∷ 7 ∷ 2 ∷ 1 ∷ 1 ∷ 6 ∷ 3 ∷ 1 ∷ 2 ∷ 2 ∷ 1 ∷ 3 ∷ 0 ∷ 1 ∷ 2 ∷ 2 ∷ 1 ∷ 0 ∷ 0 ∷ 1 ∷ 0 ∷ 0 ∷ 1 ∷ 2 ∷ 2 ∷ 1 ∷ 3 ∷ 0 ∷ 1 ∷ 3 ∷ 0 ∷ 1 ∷ 2 ∷ 2 ∷ 0 ∷ 41 ∷ 0 ∷ 1 ∷ 2 ∷ 1 ∷ 1 ∷ 6 ∷ 3 ∷ 0 ∷ 44 ∷ 0 ∷ 45 ∷ 0 ∷ 46 ∷ 2 ∷ 0 ∷ 1 ∷ 6 ∷ 3 ∷ 0 ∷ 49 ∷ 0 ∷ 50 ∷ 0 ∷ 51 ∷ 3 ∷ 3 ∷ 3 ∷ 3 ∷ 5 ∷ 53 ∷ 73 ∷ 5 ∷ 51 ∷ 1 ∷ 2 ∷ 2 ∷ 1 ∷ 3 ∷ 0 ∷ 1 ∷ 3 ∷ 0 ∷ 5 ∷ 52 ∷ 1 ∷ 2 ∷ 2 ∷ 1 ∷ 3 ∷ 0 ∷ 1 ∷ 3 ∷ 0 ∷ 5 ∷ 46 ∷ 1 ∷ 2 ∷ 2 ∷ 0 ∷ 48 ∷ 0 ∷ 51 ∷ 5 ∷ 50 ∷ 1 ∷ 2 ∷ 2 ∷ 1 ∷ 3 ∷ 0 ∷ 1 ∷ 3 ∷ 0 ∷ 5 ∷ 49 ∷ 1 ∷ 0 ∷ 0 ∷ 5 ∷ 48 ∷ 1 ∷ 0 ∷ 0 ∷ 5 ∷ 1 ∷ 0 ∷ 46 ∷ 5 ∷ 41 ∷ 1 ∷ 3 ∷ 0 ∷ 5 ∷ 45 ∷ 1 ∷ 2 ∷ 2 ∷ 1 ∷ 3 ∷ 0 ∷ 1 ∷ 3 ∷ 0 ∷ 5 ∷ 44 ∷ 1 ∷ 2 ∷ 2 ∷ 1 ∷ 0 ∷ 0 ∷ 1 ∷ 0 ∷ 0 ∷ 5 ∷ 43 ∷ 1 ∷ 3 ∷ 0 ∷ 5 ∷ 0 ∷ 1 ∷ 3 ∷ 0 ∷ 4 ∷ 8 ∷ 1 ∷ 5 ∷ 62 ∷ 73 ∷ 5 ∷ 51 ∷ 1 ∷ 2 ∷ 2 ∷ 1 ∷ 3 ∷ 0 ∷ 1 ∷ 3 ∷ 0 ∷ 5 ∷ 52 ∷ 1 ∷ 2 ∷ 2 ∷ 1 ∷ 3 ∷ 0 ∷ 1 ∷ 3 ∷ 0 ∷ 5 ∷ 46 ∷ 1 ∷ 2 ∷ 2 ∷ 0 ∷ 48 ∷ 0 ∷ 51 ∷ 5 ∷ 50 ∷ 1 ∷ 2 ∷ 2 ∷ 1 ∷ 3 ∷ 0 ∷ 1 ∷ 3 ∷ 0 ∷ 5 ∷ 49 ∷ 1 ∷ 0 ∷ 0 ∷ 5 ∷ 48 ∷ 1 ∷ 0 ∷ 0 ∷ 5 ∷ 1 ∷ 0 ∷ 46 ∷ 5 ∷ 41 ∷ 1 ∷ 3 ∷ 0 ∷ 5 ∷ 45 ∷ 1 ∷ 2 ∷ 2 ∷ 1 ∷ 3 ∷ 0 ∷ 1 ∷ 3 ∷ 0 ∷ 5 ∷ 44 ∷ 1 ∷ 2 ∷ 2 ∷ 1 ∷ 0 ∷ 0 ∷ 1 ∷ 0 ∷ 0 ∷ 5 ∷ 43 ∷ 1 ∷ 3 ∷ 0 ∷ 5 ∷ 0 ∷ 1 ∷ 3 ∷ 0 ∷ 4 ∷ [];
    }
    ∷ record {
      rules = record { name = []; sorts = []; premises = nil; conclusion = app 6 (cons (app 0 nil) (cons (var 0) (cons (var 0) nil))) } ∷ record { name = []; sorts = []; premises = (cons (app 6 (cons (var 0) (cons (var 1) (cons (var 2) nil)))) nil); conclusion = app 6 (cons (app 1 (cons (var 0) nil)) (cons (var 1) (cons (app 1 (cons (var 2) nil)) nil))) } ∷ [];
      session = record { names = record { name = record { text = 0 ∷ []; sort = 1 }; variable = 0 } ∷ record { name = record { text = 1 ∷ []; sort = 1 }; variable = 1 } ∷ record { name = record { text = 2 ∷ []; sort = 1 }; variable = 2 } ∷ []; variables = 3; bindings = start; words = 15 };
      goals = record { goal = app 6 (cons (app 0 nil) (cons (app 0 nil) (cons (app 0 nil) nil))); steps = 30; depth = 32; limits = record { steps = 65535; variables = 65536; words = 215 } } ∷ record { goal = app 6 (cons (app 1 (cons (var 4) nil)) (cons (var 1) (cons (app 1 (cons (app 3 nil) nil)) nil))); steps = 12; depth = 4; limits = record { steps = 65535; variables = 58; words = 262144 } } ∷ record { goal = app 6 (cons (var 3) (cons (var 4) (cons (app 3 nil) nil))); steps = 4; depth = 0; limits = record { steps = 65535; variables = 45; words = 262144 } } ∷ record { goal = app 6 (cons (app 1 (cons (app 1 (cons (var 0) nil)) nil)) (cons (app 2 (cons (app 1 (cons (var 4) nil)) (cons (app 2 (cons (var 0) (cons (app 3 nil) nil))) nil))) (cons (app 1 (cons (var 1) nil)) nil))); steps = 3; depth = 8; limits = record { steps = 65535; variables = 17; words = 262144 } } ∷ [];
      expected = 7 ∷ 3 ∷ 2 ∷ 0 ∷ 1 ∷ 6 ∷ 3 ∷ 1 ∷ 0 ∷ 0 ∷ 1 ∷ 0 ∷ 0 ∷ 1 ∷ 0 ∷ 0 ∷ 3 ∷ 3 ∷ 3 ∷ 4 ∷ 27 ∷ 5 ∷ 3 ∷ 1 ∷ 0 ∷ 0 ∷ 4 ∷ 7 ∷ 5 ∷ 2 ∷ 1 ∷ 1 ∷ 6 ∷ 3 ∷ 1 ∷ 1 ∷ 1 ∷ 0 ∷ 4 ∷ 0 ∷ 1 ∷ 1 ∷ 1 ∷ 1 ∷ 1 ∷ 3 ∷ 0 ∷ 2 ∷ 0 ∷ 1 ∷ 6 ∷ 3 ∷ 0 ∷ 6 ∷ 0 ∷ 7 ∷ 0 ∷ 8 ∷ 3 ∷ 3 ∷ 3 ∷ 4 ∷ 10 ∷ 53 ∷ 5 ∷ 9 ∷ 1 ∷ 3 ∷ 0 ∷ 5 ∷ 7 ∷ 0 ∷ 9 ∷ 5 ∷ 6 ∷ 1 ∷ 0 ∷ 0 ∷ 5 ∷ 8 ∷ 1 ∷ 3 ∷ 0 ∷ 5 ∷ 1 ∷ 0 ∷ 7 ∷ 5 ∷ 4 ∷ 0 ∷ 6 ∷ 5 ∷ 3 ∷ 1 ∷ 0 ∷ 0 ∷ 4 ∷ 9 ∷ 0 ∷ 5 ∷ 11 ∷ 53 ∷ 5 ∷ 9 ∷ 1 ∷ 3 ∷ 0 ∷ 5 ∷ 7 ∷ 0 ∷ 9 ∷ 5 ∷ 6 ∷ 1 ∷ 0 ∷ 0 ∷ 5 ∷ 8 ∷ 1 ∷ 3 ∷ 0 ∷ 5 ∷ 1 ∷ 0 ∷ 7 ∷ 5 ∷ 4 ∷ 0 ∷ 6 ∷ 5 ∷ 3 ∷ 1 ∷ 0 ∷ 0 ∷ 4 ∷ 6 ∷ 37 ∷ 5 ∷ 11 ∷ 53 ∷ 5 ∷ 9 ∷ 1 ∷ 3 ∷ 0 ∷ 5 ∷ 7 ∷ 0 ∷ 9 ∷ 5 ∷ 6 ∷ 1 ∷ 0 ∷ 0 ∷ 5 ∷ 8 ∷ 1 ∷ 3 ∷ 0 ∷ 5 ∷ 1 ∷ 0 ∷ 7 ∷ 5 ∷ 4 ∷ 0 ∷ 6 ∷ 5 ∷ 3 ∷ 1 ∷ 0 ∷ 0 ∷ 4 ∷ [];
    }
    ∷ record {
      rules = record { name = []; sorts = []; premises = (cons (app 6 (cons (app 2 (cons (var 0) (cons (app 0 nil) nil))) (cons (var 1) (cons (app 1 (cons (app 1 (cons (app 1 (cons (app 1 (cons (app 1 (cons (app 0 nil) nil)) nil)) nil)) nil)) nil)) nil)))) (cons (app 6 (cons (var 1) (cons (var 0) (cons (app 2 (cons (var 1) (cons (app 3 nil) nil))) nil)))) nil)); conclusion = app 6 (cons (app 2 (cons (app 0 nil) (cons (app 0 nil) nil))) (cons (var 1) (cons (var 0) nil))) } ∷ record { name = []; sorts = []; premises = (cons (app 4 (cons (var 1) nil)) nil); conclusion = app 5 (cons (app 3 nil) (cons (app 3 nil) nil)) } ∷ record { name = []; sorts = []; premises = nil; conclusion = app 7 nil } ∷ record { name = []; sorts = []; premises = (cons (app 5 (cons (var 1) (cons (app 0 nil) nil))) (cons (app 4 (cons (var 0) nil)) (cons (app 7 nil) nil))); conclusion = app 5 (cons (app 3 nil) (cons (app 2 (cons (var 0) (cons (var 0) nil))) nil)) } ∷ [];
      session = record { names = record { name = record { text = 0 ∷ []; sort = 1 }; variable = 0 } ∷ record { name = record { text = 1 ∷ []; sort = 1 }; variable = 1 } ∷ []; variables = 4; bindings = bind 0 (app 3 nil) (bind 2 (app 0 nil) (bind 1 (var 0) (start))); words = 5 };
      goals = record { goal = app 5 (cons (app 3 nil) (cons (app 2 (cons (app 0 nil) (cons (var 1) nil))) nil)); steps = 30; depth = 4; limits = record { steps = 2; variables = 65536; words = 262144 } } ∷ record { goal = app 5 (cons (app 2 (cons (app 0 nil) (cons (app 3 nil) nil))) (cons (app 0 nil) nil)); steps = 30; depth = 0; limits = record { steps = 65535; variables = 65536; words = 262144 } } ∷ record { goal = app 5 (cons (app 2 (cons (app 3 nil) (cons (app 3 nil) nil))) (cons (app 2 (cons (var 0) (cons (var 1) nil))) nil)); steps = 16; depth = 3; limits = record { steps = 65535; variables = 65536; words = 262144 } } ∷ [];
      expected = 6 ∷ 38 ∷ 2 ∷ 4 ∷ 5 ∷ 5 ∷ 0 ∷ 1 ∷ 3 ∷ 0 ∷ 5 ∷ 2 ∷ 1 ∷ 0 ∷ 0 ∷ 5 ∷ 1 ∷ 0 ∷ 0 ∷ 4 ∷ 9 ∷ 0 ∷ 2 ∷ 4 ∷ 5 ∷ 5 ∷ 0 ∷ 1 ∷ 3 ∷ 0 ∷ 5 ∷ 2 ∷ 1 ∷ 0 ∷ 0 ∷ 5 ∷ 1 ∷ 0 ∷ 0 ∷ 4 ∷ 9 ∷ 0 ∷ 2 ∷ 4 ∷ 5 ∷ 5 ∷ 0 ∷ 1 ∷ 3 ∷ 0 ∷ 5 ∷ 2 ∷ 1 ∷ 0 ∷ 0 ∷ 5 ∷ 1 ∷ 0 ∷ 0 ∷ 4 ∷ [];
    }
    ∷ record {
      rules = record { name = []; sorts = []; premises = nil; conclusion = app 4 (cons (app 0 nil) nil) } ∷ record { name = []; sorts = []; premises = (cons (app 5 (cons (var 0) (cons (var 1) nil))) (cons (app 4 (cons (var 1) nil)) nil)); conclusion = app 4 (cons (app 1 (cons (var 0) nil)) nil) } ∷ record { name = []; sorts = []; premises = (cons (app 7 nil) nil); conclusion = app 5 (cons (var 0) (cons (var 0) nil)) } ∷ record { name = []; sorts = []; premises = nil; conclusion = app 5 (cons (app 1 (cons (var 0) nil)) (cons (var 0) nil)) } ∷ record { name = []; sorts = []; premises = nil; conclusion = app 7 nil } ∷ [];
      session = record { names = record { name = record { text = 0 ∷ []; sort = 1 }; variable = 0 } ∷ record { name = record { text = 1 ∷ []; sort = 1 }; variable = 1 } ∷ record { name = record { text = 2 ∷ []; sort = 1 }; variable = 2 } ∷ record { name = record { text = 3 ∷ []; sort = 1 }; variable = 3 } ∷ []; variables = 4; bindings = bind 1 (app 0 nil) (bind 2 (app 0 nil) (bind 3 (var 1) (start))); words = 19 };
      goals = record { goal = app 5 (cons (app 1 (cons (var 1) nil)) (cons (app 2 (cons (var 3) (cons (app 2 (cons (var 4) (cons (var 3) nil))) nil))) nil)); steps = 30; depth = 16; limits = record { steps = 65535; variables = 65536; words = 262144 } } ∷ record { goal = app 4 (cons (app 1 (cons (app 3 nil) nil)) nil); steps = 30; depth = 5; limits = record { steps = 65535; variables = 65536; words = 262144 } } ∷ [];
      expected = 8 ∷ 1 ∷ 5 ∷ 8 ∷ 19 ∷ 5 ∷ 1 ∷ 1 ∷ 0 ∷ 0 ∷ 5 ∷ 2 ∷ 1 ∷ 0 ∷ 0 ∷ 5 ∷ 3 ∷ 0 ∷ 1 ∷ 4 ∷ 8 ∷ 6 ∷ 5 ∷ 21 ∷ 19 ∷ 5 ∷ 1 ∷ 1 ∷ 0 ∷ 0 ∷ 5 ∷ 2 ∷ 1 ∷ 0 ∷ 0 ∷ 5 ∷ 3 ∷ 0 ∷ 1 ∷ 4 ∷ [];
    }
    ∷ record {
      rules = record { name = []; sorts = []; premises = nil; conclusion = app 5 (cons (var 0) (cons (var 0) nil)) } ∷ record { name = []; sorts = []; premises = (cons (app 5 (cons (var 0) (cons (var 1) nil))) (cons (app 5 (cons (var 1) (cons (var 2) nil))) nil)); conclusion = app 5 (cons (var 0) (cons (var 2) nil)) } ∷ record { name = []; sorts = []; premises = nil; conclusion = app 5 (cons (app 0 nil) (cons (app 1 (cons (app 0 nil) nil)) nil)) } ∷ [];
      session = record { names = record { name = record { text = 0 ∷ []; sort = 1 }; variable = 0 } ∷ record { name = record { text = 1 ∷ []; sort = 1 }; variable = 1 } ∷ record { name = record { text = 2 ∷ []; sort = 1 }; variable = 3 } ∷ []; variables = 4; bindings = bind 3 (app 3 nil) (bind 2 (var 1) (bind 0 (app 0 nil) (start))); words = 3 };
      goals = record { goal = app 5 (cons (app 0 nil) (cons (app 1 (cons (app 0 nil) nil)) nil)); steps = 6; depth = 8; limits = record { steps = 65535; variables = 65536; words = 189 } } ∷ record { goal = app 5 (cons (app 0 nil) (cons (var 3) nil)); steps = 0; depth = 3; limits = record { steps = 65535; variables = 65536; words = 238 } } ∷ [];
      expected = 9 ∷ 6 ∷ 3 ∷ 36 ∷ 3 ∷ 5 ∷ 3 ∷ 1 ∷ 3 ∷ 0 ∷ 5 ∷ 2 ∷ 0 ∷ 1 ∷ 5 ∷ 0 ∷ 1 ∷ 0 ∷ 0 ∷ 4 ∷ 9 ∷ 0 ∷ 4 ∷ 37 ∷ 3 ∷ 5 ∷ 3 ∷ 1 ∷ 3 ∷ 0 ∷ 5 ∷ 2 ∷ 0 ∷ 1 ∷ 5 ∷ 0 ∷ 1 ∷ 0 ∷ 0 ∷ 4 ∷ [];
    }
    ∷ record {
      rules = record { name = []; sorts = []; premises = nil; conclusion = app 5 (cons (var 0) (cons (var 0) nil)) } ∷ record { name = []; sorts = []; premises = (cons (app 5 (cons (var 0) (cons (var 1) nil))) (cons (app 5 (cons (var 1) (cons (var 2) nil))) nil)); conclusion = app 5 (cons (var 0) (cons (var 2) nil)) } ∷ record { name = []; sorts = []; premises = nil; conclusion = app 5 (cons (app 0 nil) (cons (app 1 (cons (app 0 nil) nil)) nil)) } ∷ [];
      session = record { names = record { name = record { text = 0 ∷ []; sort = 1 }; variable = 0 } ∷ record { name = record { text = 1 ∷ []; sort = 1 }; variable = 4 } ∷ []; variables = 5; bindings = bind 1 (app 2 (cons (var 0) (cons (var 2) nil))) (bind 4 (app 0 nil) (bind 0 (var 4) (start))); words = 19 };
      goals = record { goal = app 5 (cons (app 0 nil) (cons (app 1 (cons (app 0 nil) nil)) nil)); steps = 8; depth = 12; limits = record { steps = 65535; variables = 65536; words = 262144 } } ∷ record { goal = app 5 (cons (var 2) (cons (app 1 (cons (app 0 nil) nil)) nil)); steps = 12; depth = 7; limits = record { steps = 65535; variables = 65536; words = 262144 } } ∷ [];
      expected = 9 ∷ 8 ∷ 2 ∷ 53 ∷ 19 ∷ 5 ∷ 1 ∷ 1 ∷ 2 ∷ 2 ∷ 0 ∷ 0 ∷ 0 ∷ 2 ∷ 5 ∷ 4 ∷ 1 ∷ 0 ∷ 0 ∷ 5 ∷ 0 ∷ 0 ∷ 4 ∷ 4 ∷ 7 ∷ 3 ∷ 2 ∷ 0 ∷ 1 ∷ 5 ∷ 2 ∷ 0 ∷ 53 ∷ 1 ∷ 1 ∷ 1 ∷ 1 ∷ 0 ∷ 0 ∷ 3 ∷ 3 ∷ 3 ∷ 55 ∷ 28 ∷ 5 ∷ 54 ∷ 1 ∷ 1 ∷ 1 ∷ 1 ∷ 0 ∷ 0 ∷ 5 ∷ 53 ∷ 0 ∷ 54 ∷ 5 ∷ 1 ∷ 1 ∷ 2 ∷ 2 ∷ 0 ∷ 0 ∷ 0 ∷ 2 ∷ 5 ∷ 4 ∷ 1 ∷ 0 ∷ 0 ∷ 5 ∷ 0 ∷ 0 ∷ 4 ∷ 4 ∷ [];
    }
    ∷ record {
      rules = record { name = []; sorts = []; premises = nil; conclusion = app 6 (cons (app 0 nil) (cons (var 0) (cons (var 0) nil))) } ∷ record { name = []; sorts = []; premises = (cons (app 6 (cons (var 0) (cons (var 1) (cons (var 2) nil)))) nil); conclusion = app 6 (cons (app 1 (cons (var 0) nil)) (cons (var 1) (cons (app 1 (cons (var 2) nil)) nil))) } ∷ [];
      session = record { names = record { name = record { text = 0 ∷ []; sort = 1 }; variable = 0 } ∷ record { name = record { text = 1 ∷ []; sort = 1 }; variable = 1 } ∷ record { name = record { text = 2 ∷ []; sort = 1 }; variable = 2 } ∷ []; variables = 3; bindings = bind 0 (var 1) (start); words = 19 };
      goals = record { goal = app 6 (cons (app 0 nil) (cons (app 2 (cons (var 0) (cons (app 3 nil) nil))) (cons (app 3 nil) nil))); steps = 60; depth = 7; limits = record { steps = 65535; variables = 65536; words = 262144 } } ∷ record { goal = app 6 (cons (app 1 (cons (app 0 nil) nil)) (cons (var 0) (cons (app 1 (cons (app 1 (cons (app 1 (cons (app 1 (cons (app 1 (cons (app 0 nil) nil)) nil)) nil)) nil)) nil)) nil))); steps = 4; depth = 12; limits = record { steps = 65535; variables = 10; words = 262144 } } ∷ record { goal = app 4 (cons (var 0) nil); steps = 40; depth = 0; limits = record { steps = 65535; variables = 8; words = 262144 } } ∷ [];
      expected = 8 ∷ 1 ∷ 3 ∷ 7 ∷ 19 ∷ 5 ∷ 0 ∷ 0 ∷ 1 ∷ 4 ∷ 6 ∷ 37 ∷ 3 ∷ 7 ∷ 19 ∷ 5 ∷ 0 ∷ 0 ∷ 1 ∷ 4 ∷ 9 ∷ 0 ∷ 3 ∷ 7 ∷ 19 ∷ 5 ∷ 0 ∷ 0 ∷ 1 ∷ 4 ∷ [];
    }
    ∷ record {
      rules = record { name = []; sorts = []; premises = nil; conclusion = app 5 (cons (app 0 nil) (cons (var 1) nil)) } ∷ record { name = []; sorts = []; premises = nil; conclusion = app 6 (cons (app 0 nil) (cons (var 0) (cons (var 0) nil))) } ∷ record { name = []; sorts = []; premises = (cons (app 6 (cons (var 1) (cons (var 2) (cons (var 3) nil)))) nil); conclusion = app 6 (cons (app 2 (cons (var 0) (cons (var 1) nil))) (cons (var 2) (cons (app 2 (cons (var 0) (cons (var 3) nil))) nil))) } ∷ record { name = []; sorts = []; premises = nil; conclusion = app 5 (cons (app 0 nil) (cons (app 0 nil) nil)) } ∷ record { name = []; sorts = []; premises = (cons (app 5 (cons (var 1) (cons (var 3) nil))) (cons (app 6 (cons (var 3) (cons (app 2 (cons (var 0) (cons (app 0 nil) nil))) (cons (var 2) nil)))) nil)); conclusion = app 5 (cons (app 2 (cons (var 0) (cons (var 1) nil))) (cons (var 2) nil)) } ∷ [];
      session = record { names = []; variables = 1; bindings = start; words = 10 };
      goals = record { goal = app 6 (cons (app 0 nil) (cons (app 3 nil) (cons (app 3 nil) nil))); steps = 5; depth = 3; limits = record { steps = 65535; variables = 65536; words = 262144 } } ∷ record { goal = app 5 (cons (app 2 (cons (app 1 (cons (app 0 nil) nil)) (cons (app 1 (cons (var 3) nil)) nil))) (cons (app 3 nil) nil)); steps = 10; depth = 0; limits = record { steps = 65535; variables = 65536; words = 52 } } ∷ [];
      expected = 9 ∷ 0 ∷ 0 ∷ 1 ∷ 10 ∷ 4 ∷ 9 ∷ 0 ∷ 1 ∷ 2 ∷ 10 ∷ 4 ∷ [];
    }
    ∷ record {
      rules = record { name = []; sorts = []; premises = nil; conclusion = app 5 (cons (app 0 nil) (cons (app 0 nil) nil)) } ∷ record { name = []; sorts = []; premises = nil; conclusion = app 6 (cons (app 0 nil) (cons (var 0) (cons (var 0) nil))) } ∷ record { name = []; sorts = []; premises = (cons (app 4 (cons (app 1 (cons (app 0 nil) nil)) nil)) (cons (app 4 (cons (app 1 (cons (app 1 (cons (app 1 (cons (app 1 (cons (app 1 (cons (app 1 (cons (app 1 (cons (app 1 (cons (app 0 nil) nil)) nil)) nil)) nil)) nil)) nil)) nil)) nil)) nil)) nil)); conclusion = app 6 (cons (app 0 nil) (cons (app 2 (cons (app 3 nil) (cons (app 3 nil) nil))) (cons (app 0 nil) nil))) } ∷ record { name = []; sorts = []; premises = nil; conclusion = app 4 (cons (var 0) nil) } ∷ record { name = []; sorts = []; premises = nil; conclusion = app 6 (cons (app 1 (cons (var 0) nil)) (cons (var 0) (cons (var 2) nil))) } ∷ [];
      session = record { names = record { name = record { text = 0 ∷ []; sort = 1 }; variable = 0 } ∷ []; variables = 1; bindings = start; words = 14 };
      goals = record { goal = app 4 (cons (var 2) nil); steps = 2; depth = 8; limits = record { steps = 65535; variables = 52; words = 262144 } } ∷ record { goal = app 6 (cons (app 1 (cons (app 2 (cons (var 3) (cons (app 2 (cons (app 3 nil) (cons (app 1 (cons (app 1 (cons (app 0 nil) nil)) nil)) nil))) nil))) nil)) (cons (var 1) (cons (var 4) nil))); steps = 1; depth = 7; limits = record { steps = 65535; variables = 2; words = 183 } } ∷ record { goal = app 6 (cons (app 0 nil) (cons (app 3 nil) (cons (app 3 nil) nil))); steps = 6; depth = 16; limits = record { steps = 65535; variables = 65536; words = 262144 } } ∷ record { goal = app 6 (cons (app 0 nil) (cons (app 2 (cons (app 3 nil) (cons (app 3 nil) nil))) (cons (var 3) nil))); steps = 60; depth = 32; limits = record { steps = 65535; variables = 65536; words = 262144 } } ∷ [];
      expected = 9 ∷ 2 ∷ 2 ∷ 10 ∷ 14 ∷ 4 ∷ 6 ∷ 37 ∷ 2 ∷ 10 ∷ 14 ∷ 4 ∷ 7 ∷ 3 ∷ 2 ∷ 1 ∷ 1 ∷ 6 ∷ 3 ∷ 1 ∷ 0 ∷ 0 ∷ 1 ∷ 3 ∷ 0 ∷ 1 ∷ 3 ∷ 0 ∷ 3 ∷ 3 ∷ 2 ∷ 11 ∷ 26 ∷ 5 ∷ 10 ∷ 1 ∷ 3 ∷ 0 ∷ 4 ∷ 7 ∷ 3 ∷ 2 ∷ 1 ∷ 1 ∷ 6 ∷ 3 ∷ 1 ∷ 0 ∷ 0 ∷ 1 ∷ 2 ∷ 2 ∷ 1 ∷ 3 ∷ 0 ∷ 1 ∷ 3 ∷ 0 ∷ 0 ∷ 11 ∷ 3 ∷ 3 ∷ 3 ∷ 13 ∷ 41 ∷ 5 ∷ 11 ∷ 1 ∷ 2 ∷ 2 ∷ 1 ∷ 3 ∷ 0 ∷ 1 ∷ 3 ∷ 0 ∷ 5 ∷ 12 ∷ 1 ∷ 2 ∷ 2 ∷ 1 ∷ 3 ∷ 0 ∷ 1 ∷ 3 ∷ 0 ∷ 5 ∷ 10 ∷ 1 ∷ 3 ∷ 0 ∷ 4 ∷ [];
    }
    ∷ record {
      rules = record { name = []; sorts = []; premises = nil; conclusion = app 6 (cons (app 0 nil) (cons (var 0) (cons (var 0) nil))) } ∷ record { name = []; sorts = []; premises = (cons (app 6 (cons (var 0) (cons (var 1) (cons (var 2) nil)))) nil); conclusion = app 6 (cons (app 1 (cons (var 0) nil)) (cons (var 1) (cons (app 1 (cons (var 2) nil)) nil))) } ∷ [];
      session = record { names = []; variables = 0; bindings = start; words = 4 };
      goals = record { goal = app 6 (cons (app 1 (cons (var 1) nil)) (cons (var 4) (cons (app 1 (cons (var 3) nil)) nil))); steps = 10; depth = 5; limits = record { steps = 65535; variables = 65536; words = 262144 } } ∷ [];
      expected = 7 ∷ 5 ∷ 2 ∷ 1 ∷ 1 ∷ 6 ∷ 3 ∷ 1 ∷ 1 ∷ 1 ∷ 0 ∷ 0 ∷ 0 ∷ 1 ∷ 1 ∷ 1 ∷ 1 ∷ 0 ∷ 2 ∷ 2 ∷ 0 ∷ 1 ∷ 6 ∷ 3 ∷ 0 ∷ 4 ∷ 0 ∷ 5 ∷ 0 ∷ 6 ∷ 3 ∷ 3 ∷ 3 ∷ 3 ∷ 8 ∷ 29 ∷ 5 ∷ 6 ∷ 0 ∷ 7 ∷ 5 ∷ 5 ∷ 0 ∷ 7 ∷ 5 ∷ 4 ∷ 1 ∷ 0 ∷ 0 ∷ 5 ∷ 2 ∷ 0 ∷ 6 ∷ 5 ∷ 1 ∷ 0 ∷ 5 ∷ 5 ∷ 0 ∷ 0 ∷ 4 ∷ 4 ∷ [];
    }
    ∷ record {
      rules = record { name = []; sorts = []; premises = nil; conclusion = app 5 (cons (var 0) (cons (app 0 nil) nil)) } ∷ record { name = []; sorts = []; premises = (cons (app 5 (cons (var 0) (cons (app 3 nil) nil))) (cons (app 6 (cons (app 1 (cons (var 0) nil)) (cons (app 2 (cons (app 0 nil) (cons (app 3 nil) nil))) (cons (app 3 nil) nil)))) nil)); conclusion = app 4 (cons (app 1 (cons (app 1 (cons (app 3 nil) nil)) nil)) nil) } ∷ record { name = []; sorts = []; premises = (cons (app 4 (cons (app 3 nil) nil)) nil); conclusion = app 4 (cons (app 2 (cons (app 3 nil) (cons (var 0) nil))) nil) } ∷ record { name = []; sorts = []; premises = (cons (app 5 (cons (app 2 (cons (app 3 nil) (cons (app 0 nil) nil))) (cons (app 1 (cons (app 0 nil) nil)) nil))) (cons (app 5 (cons (app 1 (cons (app 1 (cons (app 1 (cons (app 1 (cons (app 1 (cons (app 1 (cons (app 1 (cons (app 0 nil) nil)) nil)) nil)) nil)) nil)) nil)) nil)) (cons (app 3 nil) nil))) (cons (app 6 (cons (app 1 (cons (app 1 (cons (app 0 nil) nil)) nil)) (cons (app 2 (cons (app 0 nil) (cons (app 3 nil) nil))) (cons (app 3 nil) nil)))) nil))); conclusion = app 6 (cons (app 1 (cons (app 1 (cons (app 1 (cons (app 1 (cons (app 1 (cons (app 1 (cons (app 1 (cons (app 1 (cons (app 0 nil) nil)) nil)) nil)) nil)) nil)) nil)) nil)) nil)) (cons (app 3 nil) (cons (app 1 (cons (app 1 (cons (app 1 (cons (app 1 (cons (app 1 (cons (app 1 (cons (app 0 nil) nil)) nil)) nil)) nil)) nil)) nil)) nil))) } ∷ [];
      session = record { names = []; variables = 0; bindings = start; words = 10 };
      goals = record { goal = app 5 (cons (app 1 (cons (var 1) nil)) (cons (app 0 nil) nil)); steps = 30; depth = 8; limits = record { steps = 65535; variables = 65536; words = 262144 } } ∷ record { goal = app 4 (cons (app 1 (cons (app 1 (cons (app 3 nil) nil)) nil)) nil); steps = 8; depth = 7; limits = record { steps = 65535; variables = 65536; words = 262144 } } ∷ record { goal = app 5 (cons (app 0 nil) (cons (app 0 nil) nil)); steps = 0; depth = 7; limits = record { steps = 65535; variables = 65536; words = 262144 } } ∷ record { goal = app 4 (cons (app 1 (cons (app 2 (cons (app 2 (cons (app 0 nil) (cons (app 0 nil) nil))) (cons (app 1 (cons (app 1 (cons (app 1 (cons (app 1 (cons (app 0 nil) nil)) nil)) nil)) nil)) nil))) nil)) nil); steps = 1; depth = 12; limits = record { steps = 65535; variables = 65536; words = 262144 } } ∷ [];
      expected = 7 ∷ 3 ∷ 2 ∷ 0 ∷ 1 ∷ 5 ∷ 2 ∷ 1 ∷ 1 ∷ 1 ∷ 0 ∷ 0 ∷ 1 ∷ 0 ∷ 0 ∷ 3 ∷ 3 ∷ 1 ∷ 2 ∷ 20 ∷ 5 ∷ 1 ∷ 1 ∷ 1 ∷ 1 ∷ 0 ∷ 0 ∷ 4 ∷ 8 ∷ 2 ∷ 1 ∷ 7 ∷ 20 ∷ 5 ∷ 1 ∷ 1 ∷ 1 ∷ 1 ∷ 0 ∷ 0 ∷ 4 ∷ 9 ∷ 0 ∷ 1 ∷ 7 ∷ 20 ∷ 5 ∷ 1 ∷ 1 ∷ 1 ∷ 1 ∷ 0 ∷ 0 ∷ 4 ∷ 9 ∷ 1 ∷ 1 ∷ 11 ∷ 20 ∷ 5 ∷ 1 ∷ 1 ∷ 1 ∷ 1 ∷ 0 ∷ 0 ∷ 4 ∷ [];
    }
    ∷ record {
      rules = record { name = []; sorts = []; premises = (cons (app 6 (cons (app 2 (cons (var 0) (cons (app 0 nil) nil))) (cons (app 0 nil) (cons (app 1 (cons (app 0 nil) nil)) nil)))) (cons (app 4 (cons (app 0 nil) nil)) (cons (app 4 (cons (var 0) nil)) nil))); conclusion = app 5 (cons (var 0) (cons (app 0 nil) nil)) } ∷ record { name = []; sorts = []; premises = (cons (app 6 (cons (var 0) (cons (app 0 nil) (cons (var 0) nil)))) (cons (app 5 (cons (app 1 (cons (app 0 nil) nil)) (cons (var 0) nil))) nil)); conclusion = app 6 (cons (app 2 (cons (app 3 nil) (cons (app 3 nil) nil))) (cons (var 0) (cons (app 0 nil) nil))) } ∷ [];
      session = record { names = []; variables = 0; bindings = start; words = 11 };
      goals = record { goal = app 4 (cons (var 3) nil); steps = 6; depth = 3; limits = record { steps = 65535; variables = 65536; words = 262144 } } ∷ record { goal = app 5 (cons (app 0 nil) (cons (app 0 nil) nil)); steps = 10; depth = 16; limits = record { steps = 65535; variables = 65536; words = 142 } } ∷ record { goal = app 5 (cons (var 2) (cons (app 0 nil) nil)); steps = 30; depth = 8; limits = record { steps = 65535; variables = 9; words = 262144 } } ∷ [];
      expected = 9 ∷ 0 ∷ 1 ∷ 1 ∷ 11 ∷ 4 ∷ 8 ∷ 2 ∷ 1 ∷ 5 ∷ 11 ∷ 4 ∷ 6 ∷ 37 ∷ 1 ∷ 5 ∷ 11 ∷ 4 ∷ [];
    }
    ∷ record {
      rules = record { name = []; sorts = []; premises = (cons (app 5 (cons (app 3 nil) (cons (var 1) nil))) nil); conclusion = app 4 (cons (var 0) nil) } ∷ record { name = []; sorts = []; premises = nil; conclusion = app 6 (cons (var 0) (cons (app 1 (cons (app 1 (cons (var 0) nil)) nil)) (cons (app 0 nil) nil))) } ∷ record { name = []; sorts = []; premises = nil; conclusion = app 6 (cons (app 1 (cons (var 1) nil)) (cons (var 1) (cons (app 1 (cons (var 1) nil)) nil))) } ∷ record { name = []; sorts = []; premises = (cons (app 4 (cons (var 0) nil)) (cons (app 5 (cons (app 1 (cons (app 1 (cons (app 1 (cons (app 1 (cons (app 1 (cons (app 1 (cons (app 1 (cons (app 1 (cons (app 1 (cons (app 0 nil) nil)) nil)) nil)) nil)) nil)) nil)) nil)) nil)) nil)) (cons (app 0 nil) nil))) nil)); conclusion = app 5 (cons (app 0 nil) (cons (app 2 (cons (app 0 nil) (cons (var 0) nil))) nil)) } ∷ record { name = []; sorts = []; premises = (cons (app 6 (cons (app 2 (cons (app 0 nil) (cons (var 1) nil))) (cons (app 1 (cons (app 3 nil) nil)) (cons (app 1 (cons (var 1) nil)) nil)))) (cons (app 6 (cons (app 1 (cons (app 1 (cons (app 1 (cons (app 1 (cons (app 1 (cons (app 1 (cons (app 1 (cons (app 0 nil) nil)) nil)) nil)) nil)) nil)) nil)) nil)) (cons (app 3 nil) (cons (var 1) nil)))) (cons (app 5 (cons (app 1 (cons (var 1) nil)) (cons (var 0) nil))) nil))); conclusion = app 6 (cons (var 0) (cons (app 1 (cons (app 0 nil) nil)) (cons (app 3 nil) nil))) } ∷ [];
      session = record { names = record { name = record { text = 0 ∷ []; sort = 1 }; variable = 0 } ∷ record { name = record { text = 1 ∷ []; sort = 1 }; variable = 1 } ∷ []; variables = 3; bindings = bind 0 (app 2 (cons (app 0 nil) (cons (app 0 nil) nil))) (bind 2 (app 2 (cons (var 0) (cons (app 3 nil) nil))) (bind 1 (var 0) (start))); words = 12 };
      goals = record { goal = app 6 (cons (var 0) (cons (app 1 (cons (app 0 nil) nil)) (cons (app 3 nil) nil))); steps = 12; depth = 8; limits = record { steps = 65535; variables = 65536; words = 262144 } } ∷ record { goal = app 4 (cons (var 1) nil); steps = 25; depth = 8; limits = record { steps = 65535; variables = 65536; words = 262144 } } ∷ record { goal = app 6 (cons (app 1 (cons (app 2 (cons (app 2 (cons (app 3 nil) (cons (app 3 nil) nil))) (cons (app 3 nil) nil))) nil)) (cons (app 2 (cons (app 1 (cons (app 0 nil) nil)) (cons (var 1) nil))) (cons (app 1 (cons (app 1 (cons (app 1 (cons (app 1 (cons (app 1 (cons (app 1 (cons (app 0 nil) nil)) nil)) nil)) nil)) nil)) nil)) nil))); steps = 10; depth = 4; limits = record { steps = 65535; variables = 65536; words = 262144 } } ∷ record { goal = app 6 (cons (app 1 (cons (app 1 (cons (app 1 (cons (app 1 (cons (app 1 (cons (app 0 nil) nil)) nil)) nil)) nil)) nil)) (cons (app 0 nil) (cons (app 0 nil) nil))); steps = 16; depth = 32; limits = record { steps = 65535; variables = 65536; words = 207 } } ∷ [];
      expected = 8 ∷ 2 ∷ 2 ∷ 14 ∷ 12 ∷ 5 ∷ 0 ∷ 1 ∷ 2 ∷ 2 ∷ 1 ∷ 0 ∷ 0 ∷ 1 ∷ 0 ∷ 0 ∷ 5 ∷ 2 ∷ 1 ∷ 2 ∷ 2 ∷ 0 ∷ 0 ∷ 1 ∷ 3 ∷ 0 ∷ 5 ∷ 1 ∷ 0 ∷ 0 ∷ 4 ∷ 8 ∷ 2 ∷ 2 ∷ 25 ∷ 12 ∷ 5 ∷ 0 ∷ 1 ∷ 2 ∷ 2 ∷ 1 ∷ 0 ∷ 0 ∷ 1 ∷ 0 ∷ 0 ∷ 5 ∷ 2 ∷ 1 ∷ 2 ∷ 2 ∷ 0 ∷ 0 ∷ 1 ∷ 3 ∷ 0 ∷ 5 ∷ 1 ∷ 0 ∷ 0 ∷ 4 ∷ 8 ∷ 1 ∷ 2 ∷ 30 ∷ 12 ∷ 5 ∷ 0 ∷ 1 ∷ 2 ∷ 2 ∷ 1 ∷ 0 ∷ 0 ∷ 1 ∷ 0 ∷ 0 ∷ 5 ∷ 2 ∷ 1 ∷ 2 ∷ 2 ∷ 0 ∷ 0 ∷ 1 ∷ 3 ∷ 0 ∷ 5 ∷ 1 ∷ 0 ∷ 0 ∷ 4 ∷ 8 ∷ 1 ∷ 2 ∷ 35 ∷ 12 ∷ 5 ∷ 0 ∷ 1 ∷ 2 ∷ 2 ∷ 1 ∷ 0 ∷ 0 ∷ 1 ∷ 0 ∷ 0 ∷ 5 ∷ 2 ∷ 1 ∷ 2 ∷ 2 ∷ 0 ∷ 0 ∷ 1 ∷ 3 ∷ 0 ∷ 5 ∷ 1 ∷ 0 ∷ 0 ∷ 4 ∷ [];
    }
    ∷ record {
      rules = record { name = []; sorts = []; premises = (cons (app 4 (cons (app 3 nil) nil)) (cons (app 4 (cons (app 1 (cons (var 1) nil)) nil)) nil)); conclusion = app 5 (cons (app 3 nil) (cons (app 0 nil) nil)) } ∷ record { name = []; sorts = []; premises = nil; conclusion = app 6 (cons (app 3 nil) (cons (app 2 (cons (app 1 (cons (app 3 nil) nil)) (cons (app 0 nil) nil))) (cons (app 3 nil) nil))) } ∷ [];
      session = record { names = record { name = record { text = 0 ∷ []; sort = 1 }; variable = 1 } ∷ []; variables = 6; bindings = bind 3 (var 5) (bind 1 (var 0) (start)); words = 7 };
      goals = record { goal = app 6 (cons (app 3 nil) (cons (app 2 (cons (app 1 (cons (var 0) nil)) (cons (app 3 nil) nil))) (cons (app 3 nil) nil))); steps = 2; depth = 7; limits = record { steps = 65535; variables = 65536; words = 262144 } } ∷ record { goal = app 5 (cons (app 3 nil) (cons (app 3 nil) nil)); steps = 10; depth = 4; limits = record { steps = 65535; variables = 65536; words = 262144 } } ∷ record { goal = app 5 (cons (app 3 nil) (cons (app 0 nil) nil)); steps = 5; depth = 8; limits = record { steps = 65535; variables = 65536; words = 262144 } } ∷ record { goal = app 5 (cons (app 3 nil) (cons (app 0 nil) nil)); steps = 0; depth = 8; limits = record { steps = 65535; variables = 65536; words = 150 } } ∷ [];
      expected = 8 ∷ 1 ∷ 1 ∷ 6 ∷ 7 ∷ 5 ∷ 3 ∷ 0 ∷ 5 ∷ 5 ∷ 1 ∷ 0 ∷ 0 ∷ 4 ∷ 8 ∷ 1 ∷ 1 ∷ 6 ∷ 7 ∷ 5 ∷ 3 ∷ 0 ∷ 5 ∷ 5 ∷ 1 ∷ 0 ∷ 0 ∷ 4 ∷ 8 ∷ 2 ∷ 1 ∷ 7 ∷ 7 ∷ 5 ∷ 3 ∷ 0 ∷ 5 ∷ 5 ∷ 1 ∷ 0 ∷ 0 ∷ 4 ∷ 9 ∷ 0 ∷ 1 ∷ 7 ∷ 7 ∷ 5 ∷ 3 ∷ 0 ∷ 5 ∷ 5 ∷ 1 ∷ 0 ∷ 0 ∷ 4 ∷ [];
    }
    ∷ record {
      rules = record { name = []; sorts = []; premises = nil; conclusion = app 6 (cons (app 0 nil) (cons (var 0) (cons (var 0) nil))) } ∷ record { name = []; sorts = []; premises = (cons (app 6 (cons (var 0) (cons (var 1) (cons (var 2) nil)))) nil); conclusion = app 6 (cons (app 1 (cons (var 0) nil)) (cons (var 1) (cons (app 1 (cons (var 2) nil)) nil))) } ∷ [];
      session = record { names = record { name = record { text = 0 ∷ []; sort = 1 }; variable = 0 } ∷ record { name = record { text = 1 ∷ []; sort = 1 }; variable = 1 } ∷ record { name = record { text = 2 ∷ []; sort = 1 }; variable = 2 } ∷ []; variables = 4; bindings = bind 1 (app 3 nil) (start); words = 10 };
      goals = record { goal = app 6 (cons (var 4) (cons (app 3 nil) (cons (app 1 (cons (app 1 (cons (var 2) nil)) nil)) nil))); steps = 10; depth = 8; limits = record { steps = 65535; variables = 65536; words = 54 } } ∷ [];
      expected = 7 ∷ 7 ∷ 2 ∷ 1 ∷ 1 ∷ 6 ∷ 3 ∷ 0 ∷ 4 ∷ 1 ∷ 3 ∷ 0 ∷ 1 ∷ 1 ∷ 1 ∷ 1 ∷ 1 ∷ 1 ∷ 0 ∷ 2 ∷ 2 ∷ 1 ∷ 1 ∷ 6 ∷ 3 ∷ 0 ∷ 6 ∷ 0 ∷ 7 ∷ 0 ∷ 8 ∷ 2 ∷ 0 ∷ 1 ∷ 6 ∷ 3 ∷ 0 ∷ 10 ∷ 0 ∷ 11 ∷ 0 ∷ 12 ∷ 3 ∷ 3 ∷ 3 ∷ 3 ∷ 4 ∷ 14 ∷ 48 ∷ 5 ∷ 12 ∷ 1 ∷ 3 ∷ 0 ∷ 5 ∷ 13 ∷ 1 ∷ 3 ∷ 0 ∷ 5 ∷ 10 ∷ 1 ∷ 0 ∷ 0 ∷ 5 ∷ 2 ∷ 0 ∷ 12 ∷ 5 ∷ 11 ∷ 1 ∷ 3 ∷ 0 ∷ 5 ∷ 6 ∷ 1 ∷ 1 ∷ 1 ∷ 0 ∷ 10 ∷ 5 ∷ 8 ∷ 1 ∷ 1 ∷ 1 ∷ 0 ∷ 2 ∷ 5 ∷ 7 ∷ 1 ∷ 3 ∷ 0 ∷ 5 ∷ 4 ∷ 1 ∷ 1 ∷ 1 ∷ 0 ∷ 6 ∷ 5 ∷ 1 ∷ 1 ∷ 3 ∷ 0 ∷ 4 ∷ [];
    }
    ∷ record {
      rules = record { name = []; sorts = []; premises = (cons (app 4 (cons (app 2 (cons (var 2) (cons (var 2) nil))) nil)) nil); conclusion = app 5 (cons (var 0) (cons (app 0 nil) nil)) } ∷ record { name = []; sorts = []; premises = (cons (app 5 (cons (var 0) (cons (var 0) nil))) (cons (app 6 (cons (app 2 (cons (var 0) (cons (var 0) nil))) (cons (var 0) (cons (var 0) nil)))) nil)); conclusion = app 6 (cons (var 0) (cons (app 3 nil) (cons (app 1 (cons (var 0) nil)) nil))) } ∷ [];
      session = record { names = []; variables = 0; bindings = start; words = 9 };
      goals = record { goal = app 6 (cons (app 1 (cons (app 3 nil) nil)) (cons (app 3 nil) (cons (app 1 (cons (var 0) nil)) nil))); steps = 60; depth = 32; limits = record { steps = 65535; variables = 65536; words = 262144 } } ∷ [];
      expected = 8 ∷ 2 ∷ 1 ∷ 5 ∷ 9 ∷ 4 ∷ [];
    }
    ∷ record {
      rules = record { name = []; sorts = []; premises = nil; conclusion = app 6 (cons (app 0 nil) (cons (var 0) (cons (var 0) nil))) } ∷ record { name = []; sorts = []; premises = (cons (app 6 (cons (var 1) (cons (var 2) (cons (var 3) nil)))) nil); conclusion = app 6 (cons (app 2 (cons (var 0) (cons (var 1) nil))) (cons (var 2) (cons (app 2 (cons (var 0) (cons (var 3) nil))) nil))) } ∷ record { name = []; sorts = []; premises = nil; conclusion = app 5 (cons (app 0 nil) (cons (app 0 nil) nil)) } ∷ record { name = []; sorts = []; premises = (cons (app 5 (cons (var 1) (cons (var 3) nil))) (cons (app 6 (cons (var 3) (cons (app 2 (cons (var 0) (cons (app 0 nil) nil))) (cons (var 2) nil)))) nil)); conclusion = app 5 (cons (app 2 (cons (var 0) (cons (var 1) nil))) (cons (var 2) nil)) } ∷ [];
      session = record { names = []; variables = 0; bindings = start; words = 16 };
      goals = record { goal = app 6 (cons (app 0 nil) (cons (app 0 nil) (cons (var 4) nil))); steps = 30; depth = 8; limits = record { steps = 65535; variables = 65536; words = 262144 } } ∷ record { goal = app 5 (cons (app 2 (cons (var 1) (cons (app 0 nil) nil))) (cons (app 0 nil) nil)); steps = 20; depth = 3; limits = record { steps = 65535; variables = 65536; words = 133 } } ∷ record { goal = app 5 (cons (app 0 nil) (cons (app 0 nil) nil)); steps = 3; depth = 12; limits = record { steps = 65535; variables = 65536; words = 262144 } } ∷ record { goal = app 6 (cons (app 2 (cons (app 2 (cons (var 3) (cons (app 1 (cons (app 0 nil) nil)) nil))) (cons (var 0) nil))) (cons (var 0) (cons (app 2 (cons (app 3 nil) (cons (var 0) nil))) nil))); steps = 12; depth = 5; limits = record { steps = 65535; variables = 65536; words = 262144 } } ∷ [];
      expected = 7 ∷ 3 ∷ 2 ∷ 0 ∷ 1 ∷ 6 ∷ 3 ∷ 1 ∷ 0 ∷ 0 ∷ 1 ∷ 0 ∷ 0 ∷ 0 ∷ 0 ∷ 3 ∷ 3 ∷ 1 ∷ 2 ∷ 27 ∷ 5 ∷ 0 ∷ 1 ∷ 0 ∷ 0 ∷ 5 ∷ 1 ∷ 1 ∷ 0 ∷ 0 ∷ 4 ∷ 9 ∷ 0 ∷ 2 ∷ 3 ∷ 27 ∷ 5 ∷ 0 ∷ 1 ∷ 0 ∷ 0 ∷ 5 ∷ 1 ∷ 1 ∷ 0 ∷ 0 ∷ 4 ∷ 7 ∷ 3 ∷ 2 ∷ 2 ∷ 1 ∷ 5 ∷ 2 ∷ 1 ∷ 0 ∷ 0 ∷ 1 ∷ 0 ∷ 0 ∷ 3 ∷ 3 ∷ 2 ∷ 8 ∷ 37 ∷ 5 ∷ 0 ∷ 1 ∷ 0 ∷ 0 ∷ 5 ∷ 1 ∷ 1 ∷ 0 ∷ 0 ∷ 4 ∷ 8 ∷ 1 ∷ 4 ∷ 18 ∷ 37 ∷ 5 ∷ 0 ∷ 1 ∷ 0 ∷ 0 ∷ 5 ∷ 1 ∷ 1 ∷ 0 ∷ 0 ∷ 4 ∷ [];
    }
    ∷ record {
      rules = record { name = []; sorts = []; premises = (cons (app 4 (cons (var 0) nil)) (cons (app 4 (cons (app 3 nil) nil)) nil)); conclusion = app 5 (cons (var 1) (cons (app 2 (cons (app 3 nil) (cons (app 1 (cons (app 1 (cons (app 0 nil) nil)) nil)) nil))) nil)) } ∷ [];
      session = record { names = record { name = record { text = 0 ∷ []; sort = 1 }; variable = 0 } ∷ []; variables = 1; bindings = bind 0 (app 0 nil) (start); words = 18 };
      goals = record { goal = app 7 nil; steps = 12; depth = 8; limits = record { steps = 65535; variables = 39; words = 59 } } ∷ record { goal = app 5 (cons (app 1 (cons (var 1) nil)) (cons (app 2 (cons (app 3 nil) (cons (app 1 (cons (app 1 (cons (app 0 nil) nil)) nil)) nil))) nil)); steps = 3; depth = 4; limits = record { steps = 65535; variables = 65536; words = 262144 } } ∷ record { goal = app 5 (cons (var 1) (cons (app 2 (cons (app 3 nil) (cons (app 1 (cons (app 1 (cons (app 0 nil) nil)) nil)) nil))) nil)); steps = 16; depth = 8; limits = record { steps = 65535; variables = 65536; words = 262144 } } ∷ record { goal = app 5 (cons (app 3 nil) (cons (app 2 (cons (var 0) (cons (app 1 (cons (app 1 (cons (app 0 nil) nil)) nil)) nil))) nil)); steps = 6; depth = 12; limits = record { steps = 65535; variables = 2; words = 262144 } } ∷ [];
      expected = 8 ∷ 1 ∷ 1 ∷ 2 ∷ 18 ∷ 5 ∷ 0 ∷ 1 ∷ 0 ∷ 0 ∷ 4 ∷ 8 ∷ 2 ∷ 2 ∷ 6 ∷ 18 ∷ 5 ∷ 0 ∷ 1 ∷ 0 ∷ 0 ∷ 4 ∷ 8 ∷ 2 ∷ 2 ∷ 9 ∷ 18 ∷ 5 ∷ 0 ∷ 1 ∷ 0 ∷ 0 ∷ 4 ∷ 6 ∷ 37 ∷ 2 ∷ 9 ∷ 18 ∷ 5 ∷ 0 ∷ 1 ∷ 0 ∷ 0 ∷ 4 ∷ [];
    }
    ∷ record {
      rules = record { name = []; sorts = []; premises = (cons (app 4 (cons (app 0 nil) nil)) nil); conclusion = app 6 (cons (var 2) (cons (var 2) (cons (app 2 (cons (app 2 (cons (var 2) (cons (var 2) nil))) (cons (app 2 (cons (app 3 nil) (cons (app 0 nil) nil))) nil))) nil))) } ∷ [];
      session = record { names = record { name = record { text = 0 ∷ []; sort = 1 }; variable = 2 } ∷ record { name = record { text = 1 ∷ []; sort = 1 }; variable = 3 } ∷ record { name = record { text = 2 ∷ []; sort = 1 }; variable = 4 } ∷ []; variables = 5; bindings = bind 0 (app 3 nil) (bind 3 (app 0 nil) (start)); words = 14 };
      goals = record { goal = app 6 (cons (var 3) (cons (app 3 nil) (cons (var 0) nil))); steps = 3; depth = 5; limits = record { steps = 65535; variables = 65536; words = 262144 } } ∷ record { goal = app 6 (cons (var 0) (cons (app 1 (cons (app 1 (cons (app 1 (cons (app 1 (cons (app 0 nil) nil)) nil)) nil)) nil)) (cons (app 2 (cons (app 2 (cons (app 2 (cons (app 1 (cons (var 1) nil)) (cons (var 4) nil))) (cons (var 0) nil))) (cons (app 2 (cons (app 3 nil) (cons (app 3 nil) nil))) nil))) nil))); steps = 20; depth = 5; limits = record { steps = 65535; variables = 65536; words = 262144 } } ∷ record { goal = app 6 (cons (app 1 (cons (var 1) nil)) (cons (var 4) (cons (app 2 (cons (app 3 nil) (cons (app 2 (cons (app 3 nil) (cons (app 0 nil) nil))) nil))) nil))); steps = 30; depth = 7; limits = record { steps = 65535; variables = 65536; words = 262144 } } ∷ record { goal = app 6 (cons (var 3) (cons (app 0 nil) (cons (var 2) nil))); steps = 6; depth = 16; limits = record { steps = 65535; variables = 65536; words = 262144 } } ∷ [];
      expected = 8 ∷ 2 ∷ 4 ∷ 8 ∷ 14 ∷ 5 ∷ 0 ∷ 1 ∷ 3 ∷ 0 ∷ 5 ∷ 3 ∷ 1 ∷ 0 ∷ 0 ∷ 4 ∷ 8 ∷ 1 ∷ 5 ∷ 10 ∷ 14 ∷ 5 ∷ 0 ∷ 1 ∷ 3 ∷ 0 ∷ 5 ∷ 3 ∷ 1 ∷ 0 ∷ 0 ∷ 4 ∷ 8 ∷ 1 ∷ 5 ∷ 11 ∷ 14 ∷ 5 ∷ 0 ∷ 1 ∷ 3 ∷ 0 ∷ 5 ∷ 3 ∷ 1 ∷ 0 ∷ 0 ∷ 4 ∷ 8 ∷ 2 ∷ 5 ∷ 13 ∷ 14 ∷ 5 ∷ 0 ∷ 1 ∷ 3 ∷ 0 ∷ 5 ∷ 3 ∷ 1 ∷ 0 ∷ 0 ∷ 4 ∷ [];
    }
    ∷ record {
      rules = record { name = []; sorts = []; premises = nil; conclusion = app 5 (cons (var 0) (cons (var 0) nil)) } ∷ record { name = []; sorts = []; premises = nil; conclusion = app 4 (cons (var 1) nil) } ∷ record { name = []; sorts = []; premises = (cons (app 5 (cons (var 0) (cons (var 1) nil))) (cons (app 5 (cons (var 1) (cons (var 2) nil))) nil)); conclusion = app 5 (cons (var 0) (cons (var 2) nil)) } ∷ record { name = []; sorts = []; premises = nil; conclusion = app 5 (cons (app 0 nil) (cons (app 1 (cons (app 0 nil) nil)) nil)) } ∷ [];
      session = record { names = []; variables = 0; bindings = start; words = 17 };
      goals = record { goal = app 4 (cons (app 3 nil) nil); steps = 25; depth = 12; limits = record { steps = 65535; variables = 65536; words = 262144 } } ∷ record { goal = app 4 (cons (app 3 nil) nil); steps = 40; depth = 3; limits = record { steps = 65535; variables = 65536; words = 262144 } } ∷ [];
      expected = 7 ∷ 3 ∷ 2 ∷ 1 ∷ 1 ∷ 4 ∷ 1 ∷ 1 ∷ 3 ∷ 0 ∷ 3 ∷ 3 ∷ 0 ∷ 2 ∷ 22 ∷ 5 ∷ 1 ∷ 1 ∷ 3 ∷ 0 ∷ 4 ∷ 9 ∷ 0 ∷ 0 ∷ 2 ∷ 22 ∷ 5 ∷ 1 ∷ 1 ∷ 3 ∷ 0 ∷ 4 ∷ [];
    }
    ∷ record {
      rules = record { name = []; sorts = []; premises = nil; conclusion = app 6 (cons (app 0 nil) (cons (var 0) (cons (var 0) nil))) } ∷ record { name = []; sorts = []; premises = (cons (app 6 (cons (var 1) (cons (var 2) (cons (var 3) nil)))) nil); conclusion = app 6 (cons (app 2 (cons (var 0) (cons (var 1) nil))) (cons (var 2) (cons (app 2 (cons (var 0) (cons (var 3) nil))) nil))) } ∷ record { name = []; sorts = []; premises = (cons (app 4 (cons (app 2 (cons (var 0) (cons (app 0 nil) nil))) nil)) (cons (app 5 (cons (app 3 nil) (cons (app 3 nil) nil))) (cons (app 4 (cons (app 2 (cons (app 3 nil) (cons (var 0) nil))) nil)) nil))); conclusion = app 5 (cons (var 0) (cons (app 1 (cons (app 3 nil) nil)) nil)) } ∷ record { name = []; sorts = []; premises = nil; conclusion = app 5 (cons (app 0 nil) (cons (app 0 nil) nil)) } ∷ record { name = []; sorts = []; premises = (cons (app 5 (cons (var 1) (cons (var 3) nil))) (cons (app 6 (cons (var 3) (cons (app 2 (cons (var 0) (cons (app 0 nil) nil))) (cons (var 2) nil)))) nil)); conclusion = app 5 (cons (app 2 (cons (var 0) (cons (var 1) nil))) (cons (var 2) nil)) } ∷ [];
      session = record { names = []; variables = 0; bindings = start; words = 8 };
      goals = record { goal = app 6 (cons (app 0 nil) (cons (var 3) (cons (app 3 nil) nil))); steps = 20; depth = 4; limits = record { steps = 65535; variables = 48; words = 262144 } } ∷ [];
      expected = 7 ∷ 3 ∷ 2 ∷ 0 ∷ 1 ∷ 6 ∷ 3 ∷ 1 ∷ 0 ∷ 0 ∷ 0 ∷ 0 ∷ 1 ∷ 3 ∷ 0 ∷ 3 ∷ 3 ∷ 1 ∷ 2 ∷ 19 ∷ 5 ∷ 1 ∷ 1 ∷ 3 ∷ 0 ∷ 5 ∷ 0 ∷ 0 ∷ 1 ∷ 4 ∷ [];
    }
    ∷ record {
      rules = record { name = []; sorts = []; premises = (cons (app 5 (cons (app 1 (cons (var 0) nil)) (cons (app 3 nil) nil))) nil); conclusion = app 6 (cons (app 2 (cons (var 0) (cons (app 1 (cons (app 0 nil) nil)) nil))) (cons (app 3 nil) (cons (app 1 (cons (app 3 nil) nil)) nil))) } ∷ record { name = []; sorts = []; premises = nil; conclusion = app 5 (cons (var 0) (cons (var 0) nil)) } ∷ record { name = []; sorts = []; premises = (cons (app 5 (cons (var 0) (cons (var 1) nil))) (cons (app 5 (cons (var 1) (cons (var 2) nil))) nil)); conclusion = app 5 (cons (var 0) (cons (var 2) nil)) } ∷ record { name = []; sorts = []; premises = nil; conclusion = app 5 (cons (app 0 nil) (cons (app 1 (cons (app 0 nil) nil)) nil)) } ∷ [];
      session = record { names = []; variables = 0; bindings = start; words = 14 };
      goals = record { goal = app 5 (cons (app 0 nil) (cons (app 1 (cons (app 0 nil) nil)) nil)); steps = 1; depth = 12; limits = record { steps = 65535; variables = 65536; words = 262144 } } ∷ record { goal = app 5 (cons (var 4) (cons (var 1) nil)); steps = 4; depth = 16; limits = record { steps = 65535; variables = 55; words = 262144 } } ∷ record { goal = app 5 (cons (app 0 nil) (cons (var 3) nil)); steps = 2; depth = 0; limits = record { steps = 65535; variables = 44; words = 262144 } } ∷ [];
      expected = 9 ∷ 1 ∷ 0 ∷ 10 ∷ 14 ∷ 4 ∷ 7 ∷ 3 ∷ 2 ∷ 1 ∷ 1 ∷ 5 ∷ 2 ∷ 0 ∷ 10 ∷ 0 ∷ 11 ∷ 3 ∷ 3 ∷ 2 ∷ 14 ∷ 20 ∷ 5 ∷ 11 ∷ 0 ∷ 13 ∷ 5 ∷ 10 ∷ 0 ∷ 13 ∷ 4 ∷ 9 ∷ 0 ∷ 3 ∷ 15 ∷ 20 ∷ 5 ∷ 11 ∷ 0 ∷ 13 ∷ 5 ∷ 10 ∷ 0 ∷ 13 ∷ 4 ∷ [];
    }
    ∷ record {
      rules = record { name = []; sorts = []; premises = nil; conclusion = app 4 (cons (app 0 nil) nil) } ∷ record { name = []; sorts = []; premises = (cons (app 5 (cons (var 0) (cons (var 1) nil))) (cons (app 4 (cons (var 1) nil)) nil)); conclusion = app 4 (cons (app 1 (cons (var 0) nil)) nil) } ∷ record { name = []; sorts = []; premises = (cons (app 7 nil) nil); conclusion = app 5 (cons (var 0) (cons (var 0) nil)) } ∷ record { name = []; sorts = []; premises = nil; conclusion = app 5 (cons (app 1 (cons (var 0) nil)) (cons (var 0) nil)) } ∷ record { name = []; sorts = []; premises = nil; conclusion = app 7 nil } ∷ record { name = []; sorts = []; premises = nil; conclusion = app 6 (cons (app 1 (cons (var 0) nil)) (cons (var 0) (cons (app 1 (cons (var 0) nil)) nil))) } ∷ [];
      session = record { names = record { name = record { text = 0 ∷ []; sort = 1 }; variable = 0 } ∷ []; variables = 1; bindings = start; words = 10 };
      goals = record { goal = app 7 nil; steps = 4; depth = 0; limits = record { steps = 65535; variables = 65536; words = 118 } } ∷ [];
      expected = 9 ∷ 0 ∷ 1 ∷ 1 ∷ 10 ∷ 4 ∷ [];
    }
    ∷ record {
      rules = record { name = []; sorts = []; premises = (cons (app 6 (cons (var 0) (cons (var 2) (cons (app 1 (cons (app 0 nil) nil)) nil)))) nil); conclusion = app 5 (cons (app 3 nil) (cons (var 2) nil)) } ∷ record { name = []; sorts = []; premises = (cons (app 6 (cons (app 0 nil) (cons (app 1 (cons (app 0 nil) nil)) (cons (var 0) nil)))) (cons (app 6 (cons (app 1 (cons (app 1 (cons (app 1 (cons (app 1 (cons (app 1 (cons (app 1 (cons (app 1 (cons (app 0 nil) nil)) nil)) nil)) nil)) nil)) nil)) nil)) (cons (app 2 (cons (var 2) (cons (app 3 nil) nil))) (cons (var 2) nil)))) nil)); conclusion = app 5 (cons (var 2) (cons (var 0) nil)) } ∷ record { name = []; sorts = []; premises = (cons (app 6 (cons (var 0) (cons (app 3 nil) (cons (var 0) nil)))) (cons (app 6 (cons (app 3 nil) (cons (var 0) (cons (var 0) nil)))) nil)); conclusion = app 5 (cons (app 0 nil) (cons (var 0) nil)) } ∷ record { name = []; sorts = []; premises = (cons (app 4 (cons (var 0) nil)) (cons (app 4 (cons (app 1 (cons (var 0) nil)) nil)) (cons (app 5 (cons (var 0) (cons (app 0 nil) nil))) nil))); conclusion = app 6 (cons (app 1 (cons (app 0 nil) nil)) (cons (var 0) (cons (var 0) nil))) } ∷ record { name = []; sorts = []; premises = (cons (app 4 (cons (var 0) nil)) (cons (app 6 (cons (var 0) (cons (var 0) (cons (app 2 (cons (var 0) (cons (app 0 nil) nil))) nil)))) nil)); conclusion = app 5 (cons (var 0) (cons (app 1 (cons (app 1 (cons (app 0 nil) nil)) nil)) nil)) } ∷ [];
      session = record { names = record { name = record { text = 0 ∷ []; sort = 1 }; variable = 1 } ∷ []; variables = 2; bindings = bind 0 (app 0 nil) (start); words = 3 };
      goals = record { goal = app 5 (cons (var 3) (cons (app 0 nil) nil)); steps = 30; depth = 8; limits = record { steps = 65535; variables = 65536; words = 262144 } } ∷ record { goal = app 5 (cons (var 1) (cons (app 3 nil) nil)); steps = 5; depth = 8; limits = record { steps = 65535; variables = 65536; words = 262144 } } ∷ record { goal = app 5 (cons (app 3 nil) (cons (var 1) nil)); steps = 0; depth = 4; limits = record { steps = 65535; variables = 65536; words = 262144 } } ∷ record { goal = app 5 (cons (app 3 nil) (cons (var 1) nil)); steps = 6; depth = 3; limits = record { steps = 65535; variables = 65536; words = 262144 } } ∷ [];
      expected = 8 ∷ 4 ∷ 2 ∷ 28 ∷ 3 ∷ 5 ∷ 0 ∷ 1 ∷ 0 ∷ 0 ∷ 4 ∷ 8 ∷ 4 ∷ 3 ∷ 54 ∷ 3 ∷ 5 ∷ 0 ∷ 1 ∷ 0 ∷ 0 ∷ 4 ∷ 9 ∷ 0 ∷ 3 ∷ 54 ∷ 3 ∷ 5 ∷ 0 ∷ 1 ∷ 0 ∷ 0 ∷ 4 ∷ 9 ∷ 0 ∷ 3 ∷ 54 ∷ 3 ∷ 5 ∷ 0 ∷ 1 ∷ 0 ∷ 0 ∷ 4 ∷ [];
    }
    ∷ record {
      rules = record { name = []; sorts = []; premises = (cons (app 5 (cons (app 0 nil) (cons (app 1 (cons (app 0 nil) nil)) nil))) nil); conclusion = app 6 (cons (app 3 nil) (cons (app 2 (cons (app 0 nil) (cons (app 0 nil) nil))) (cons (app 1 (cons (app 2 (cons (app 3 nil) (cons (app 0 nil) nil))) nil)) nil))) } ∷ record { name = []; sorts = []; premises = (cons (app 6 (cons (var 1) (cons (var 1) (cons (app 2 (cons (var 0) (cons (var 0) nil))) nil)))) (cons (app 5 (cons (var 2) (cons (app 1 (cons (var 1) nil)) nil))) (cons (app 4 (cons (app 1 (cons (var 0) nil)) nil)) nil))); conclusion = app 4 (cons (app 2 (cons (app 0 nil) (cons (app 1 (cons (var 0) nil)) nil))) nil) } ∷ [];
      session = record { names = []; variables = 0; bindings = start; words = 2 };
      goals = record { goal = app 4 (cons (var 3) nil); steps = 10; depth = 0; limits = record { steps = 65535; variables = 65536; words = 262144 } } ∷ record { goal = app 6 (cons (app 3 nil) (cons (app 1 (cons (app 0 nil) nil)) (cons (app 1 (cons (app 2 (cons (app 3 nil) (cons (app 0 nil) nil))) nil)) nil))); steps = 20; depth = 4; limits = record { steps = 65535; variables = 21; words = 262144 } } ∷ record { goal = app 6 (cons (app 3 nil) (cons (app 2 (cons (app 0 nil) (cons (app 0 nil) nil))) (cons (app 1 (cons (app 2 (cons (app 3 nil) (cons (app 2 (cons (app 0 nil) (cons (app 2 (cons (var 2) (cons (app 0 nil) nil))) nil))) nil))) nil)) nil))); steps = 40; depth = 8; limits = record { steps = 65535; variables = 65536; words = 262144 } } ∷ [];
      expected = 9 ∷ 0 ∷ 1 ∷ 1 ∷ 2 ∷ 4 ∷ 8 ∷ 1 ∷ 1 ∷ 2 ∷ 2 ∷ 4 ∷ 8 ∷ 1 ∷ 2 ∷ 4 ∷ 2 ∷ 4 ∷ [];
    }
    ∷ record {
      rules = record { name = []; sorts = []; premises = nil; conclusion = app 5 (cons (var 0) (cons (var 0) nil)) } ∷ record { name = []; sorts = []; premises = (cons (app 5 (cons (var 0) (cons (var 1) nil))) (cons (app 5 (cons (var 1) (cons (var 2) nil))) nil)); conclusion = app 5 (cons (var 0) (cons (var 2) nil)) } ∷ record { name = []; sorts = []; premises = nil; conclusion = app 5 (cons (app 0 nil) (cons (app 1 (cons (app 0 nil) nil)) nil)) } ∷ [];
      session = record { names = []; variables = 0; bindings = start; words = 11 };
      goals = record { goal = app 5 (cons (var 2) (cons (var 0) nil)); steps = 16; depth = 12; limits = record { steps = 65535; variables = 65536; words = 122 } } ∷ record { goal = app 4 (cons (app 3 nil) nil); steps = 2; depth = 0; limits = record { steps = 65535; variables = 48; words = 262144 } } ∷ record { goal = app 5 (cons (app 2 (cons (var 0) (cons (app 2 (cons (var 4) (cons (var 1) nil))) nil))) (cons (app 0 nil) nil)); steps = 12; depth = 8; limits = record { steps = 65535; variables = 41; words = 262144 } } ∷ record { goal = app 5 (cons (app 2 (cons (app 0 nil) (cons (app 1 (cons (app 0 nil) nil)) nil))) (cons (app 1 (cons (var 3) nil)) nil)); steps = 40; depth = 5; limits = record { steps = 65535; variables = 65536; words = 262144 } } ∷ [];
      expected = 7 ∷ 3 ∷ 2 ∷ 0 ∷ 1 ∷ 5 ∷ 2 ∷ 0 ∷ 0 ∷ 0 ∷ 1 ∷ 3 ∷ 3 ∷ 2 ∷ 3 ∷ 17 ∷ 5 ∷ 1 ∷ 0 ∷ 2 ∷ 5 ∷ 0 ∷ 0 ∷ 2 ∷ 4 ∷ 9 ∷ 0 ∷ 2 ∷ 3 ∷ 17 ∷ 5 ∷ 1 ∷ 0 ∷ 2 ∷ 5 ∷ 0 ∷ 0 ∷ 2 ∷ 4 ∷ 6 ∷ 37 ∷ 2 ∷ 3 ∷ 17 ∷ 5 ∷ 1 ∷ 0 ∷ 2 ∷ 5 ∷ 0 ∷ 0 ∷ 2 ∷ 4 ∷ 9 ∷ 40 ∷ 3 ∷ 84 ∷ 17 ∷ 5 ∷ 1 ∷ 0 ∷ 2 ∷ 5 ∷ 0 ∷ 0 ∷ 2 ∷ 4 ∷ [];
    }
    ∷ record {
      rules = record { name = []; sorts = []; premises = nil; conclusion = app 6 (cons (app 0 nil) (cons (var 0) (cons (var 0) nil))) } ∷ record { name = []; sorts = []; premises = (cons (app 5 (cons (app 3 nil) (cons (app 0 nil) nil))) nil); conclusion = app 5 (cons (app 1 (cons (var 1) nil)) (cons (app 1 (cons (app 1 (cons (app 3 nil) nil)) nil)) nil)) } ∷ record { name = []; sorts = []; premises = (cons (app 6 (cons (var 0) (cons (var 1) (cons (var 2) nil)))) nil); conclusion = app 6 (cons (app 1 (cons (var 0) nil)) (cons (var 1) (cons (app 1 (cons (var 2) nil)) nil))) } ∷ [];
      session = record { names = []; variables = 0; bindings = start; words = 0 };
      goals = record { goal = app 5 (cons (app 1 (cons (app 1 (cons (app 1 (cons (app 0 nil) nil)) nil)) nil)) (cons (app 3 nil) nil)); steps = 3; depth = 5; limits = record { steps = 65535; variables = 65536; words = 262144 } } ∷ [];
      expected = 8 ∷ 1 ∷ 0 ∷ 5 ∷ 0 ∷ 4 ∷ [];
    }
    ∷ record {
      rules = record { name = []; sorts = []; premises = nil; conclusion = app 5 (cons (var 0) (cons (var 0) nil)) } ∷ record { name = []; sorts = []; premises = (cons (app 5 (cons (var 0) (cons (var 1) nil))) (cons (app 5 (cons (var 1) (cons (var 2) nil))) nil)); conclusion = app 5 (cons (var 0) (cons (var 2) nil)) } ∷ record { name = []; sorts = []; premises = nil; conclusion = app 6 (cons (var 1) (cons (app 1 (cons (var 1) nil)) (cons (app 0 nil) nil))) } ∷ record { name = []; sorts = []; premises = nil; conclusion = app 5 (cons (app 0 nil) (cons (app 1 (cons (app 0 nil) nil)) nil)) } ∷ [];
      session = record { names = record { name = record { text = 0 ∷ []; sort = 1 }; variable = 1 } ∷ []; variables = 3; bindings = bind 0 (app 1 (cons (app 2 (cons (var 2) (cons (var 1) nil))) nil)) (start); words = 10 };
      goals = record { goal = app 4 (cons (app 0 nil) nil); steps = 12; depth = 7; limits = record { steps = 65535; variables = 65536; words = 68 } } ∷ [];
      expected = 8 ∷ 1 ∷ 1 ∷ 7 ∷ 10 ∷ 5 ∷ 0 ∷ 1 ∷ 1 ∷ 1 ∷ 1 ∷ 2 ∷ 2 ∷ 0 ∷ 2 ∷ 0 ∷ 1 ∷ 4 ∷ [];
    }
    ∷ record {
      rules = record { name = []; sorts = []; premises = nil; conclusion = app 6 (cons (app 2 (cons (app 3 nil) (cons (app 1 (cons (app 0 nil) nil)) nil))) (cons (var 1) (cons (var 0) nil))) } ∷ record { name = []; sorts = []; premises = (cons (app 4 (cons (app 0 nil) nil)) nil); conclusion = app 5 (cons (app 1 (cons (app 3 nil) nil)) (cons (app 0 nil) nil)) } ∷ record { name = []; sorts = []; premises = nil; conclusion = app 4 (cons (app 2 (cons (app 1 (cons (app 1 (cons (app 1 (cons (app 1 (cons (app 1 (cons (app 1 (cons (app 1 (cons (app 1 (cons (app 0 nil) nil)) nil)) nil)) nil)) nil)) nil)) nil)) nil)) (cons (var 0) nil))) nil) } ∷ record { name = []; sorts = []; premises = nil; conclusion = app 6 (cons (var 0) (cons (app 3 nil) (cons (var 0) nil))) } ∷ record { name = []; sorts = []; premises = nil; conclusion = app 4 (cons (app 1 (cons (app 0 nil) nil)) nil) } ∷ [];
      session = record { names = record { name = record { text = 0 ∷ []; sort = 1 }; variable = 3 } ∷ record { name = record { text = 1 ∷ []; sort = 1 }; variable = 4 } ∷ record { name = record { text = 2 ∷ []; sort = 1 }; variable = 5 } ∷ []; variables = 6; bindings = bind 3 (app 0 nil) (start); words = 2 };
      goals = record { goal = app 6 (cons (app 1 (cons (app 3 nil) nil)) (cons (app 1 (cons (app 1 (cons (app 1 (cons (app 0 nil) nil)) nil)) nil)) (cons (var 2) nil))); steps = 16; depth = 12; limits = record { steps = 65535; variables = 65536; words = 262144 } } ∷ record { goal = app 4 (cons (app 2 (cons (app 3 nil) (cons (app 0 nil) nil))) nil); steps = 1; depth = 3; limits = record { steps = 65535; variables = 65536; words = 262144 } } ∷ [];
      expected = 8 ∷ 1 ∷ 3 ∷ 10 ∷ 2 ∷ 5 ∷ 3 ∷ 1 ∷ 0 ∷ 0 ∷ 4 ∷ 9 ∷ 0 ∷ 3 ∷ 10 ∷ 2 ∷ 5 ∷ 3 ∷ 1 ∷ 0 ∷ 0 ∷ 4 ∷ [];
    }
    ∷ []
