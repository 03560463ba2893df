-- Laws of a signature that grows: a rule that is kept stays kept when symbols are added.
use Rattle.std.specs.Prelude.{ℕ, ◌≡◌, refl, List, [], ◌∷◌, ◌++◌, length}
use Rattle.std.proofs.Common.{arith, ap, length-append}
use Rattle.std.proofs.Math.ListN.{get_or-append}
use Rattle.terms.specs.Term.{Kind, Syn}
use Rattle.arena.specs.Cells.{Cells, symbol_of}
use Rattle.arena.specs.FormLaws.{Header}
use Rattle.resolution.specs.Rules.{Rule}
use Rattle.names.specs.Symbols.{Symbol}
use Rattle.rules.specs.LayingLaws.{Nodes, none, next, Lying}
use Rattle.rules.specs.PatternLaws.{arities_of}
use Rattle.rules.specs.StoredRows.{Kept}

module _ (arities others : List ℕ) where
  header_more : {h : ℕ} → Header arities h → Header (arities ++ others) h
  header_more {h} k =
      let l = length-append arities others in
      let n = k.known in
      record { high = k.high; known = omega arith; own = (let e = get_or-append arities others 0 (symbol_of h) n in let o = k.own in omega arith); few = k.few }

  nodes_more : {w : Cells} {a b : ℕ} → Nodes arities w a b → Nodes (arities ++ others) w a b
  nodes_more none = none
  nodes_more (next h n) = next (header_more h) (nodes_more n)

  lying_more : {k : Kind} {t : Syn k} {w : List ℕ} {u : ℕ} {rs : List ℕ} {u' : ℕ} → Lying arities t w u rs u' → Lying (arities ++ others) t w u rs u'
  lying_more h =
      record {
        below = h.below;
        number = h.number;
        used = h.used;
        there = h.there;
        small = h.small;
        formed = h.formed;
        reference = h.reference;
        occurs = h.occurs;
        new = h.new;
        denotes = h.denotes;
        variable = h.variable;
        from_on = h.from_on;
        earlier = h.earlier;
        chain = nodes_more h.chain;
      }

  -- With more symbols the rule is still kept.
  pub kept_more : {text words row : List ℕ} {R : Rule} {u u' : ℕ} → Kept text arities words row R u u' → Kept text (arities ++ others) words row R u u'
  kept_more h =
      record {
        named = h.named;
        sorted = h.sorted;
        lying = record { premises = lying_more h.lying.premises; conclusion = lying_more h.lying.conclusion };
        from = h.from;
        to = h.to;
        meets = h.meets;
        variables = h.variables;
        few = h.few;
        placed = h.placed;
        premises = h.premises;
        heads_clear = h.heads_clear;
        sorts_clear_lem = h.sorts_clear_lem;
        places_clear = h.places_clear;
      }

-- The arities of more symbols are those of the first, and then those of the others.
pub arities_append : (symbols others : List Symbol) → arities_of (symbols ++ others) ≡ arities_of symbols ++ arities_of others
arities_append [] others = refl
arities_append (f ∷ symbols) others = ap (λ (l : List ℕ). length f.inputs ∷ l) (arities_append symbols others)
