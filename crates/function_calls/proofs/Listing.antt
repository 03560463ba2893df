-- The rows of trees as calls go on: those of a clause's premises stand one behind another, and in front of them the row of its conclusion.
use Prim.Native.Nat.{ℕ, suc, ◌+◌, ◌≤◌, ◌<◌}
use native.Mathlib.Omega.{arith}
use native.Mathlib.Numerals.{add-one}
use mathlib.Core.Path.{◌≡◌, refl, ◌∙◌}
use mathlib.Core.List.{List, []}
use lib.ListN.{length, set}
use lib.Seq.{get_or-set_other}
use Rattle.terms.specs.Term.{Term}
use Rattle.terms.specs.Term.Kind.{one as single, many as several}
use Rattle.arena.specs.Cells.{cells, Same}
use Rattle.resolution.specs.Rules.{Tree, node, leaf, ◌◂◌, joined}
use Rattle.arena.specs.Rows.{Rows}
use Rattle.tree_rows.specs.Trees.{tree_row, Lists}
use Rattle.tree_rows.proofs.TreeLaws.{lists_up, lists_grown, lists_same, lists_node, lists_joined, lists_one}
use Rattle.evaluation.specs.Calls.{Spent}
use Rattle.clause_matching.specs.Stored.{Value, Values, value_at}
use Rattle.function_calls.specs.Calls.{TreesListed}

-- No premise is done.
pub listed_none : (trees : Rows) (calls height : ℕ) (words : List ℕ) (used : ℕ)
    → TreesListed trees (suc calls) height words trees leaf (record { calls = calls + 1; words = used })
unfolding Lists
listed_none trees calls height words used = record { lists = add-one calls; before = λ j l. refl }

-- The tree of a premise's call.
pub listed_one : {trees trees' : Rows} {calls height : ℕ} {words' : List ℕ} {t : Tree single} {c : Spent}
    → TreesListed trees calls height words' trees' t c → TreesListed trees calls height words' trees' (t ◂ leaf) c
listed_one {trees' = trees'} {calls = calls} {height = height} {words' = words'} {t = t} {c = c} h =
    record { lists = lists_one 0 0 words' c.words trees' calls height t c.calls h.lists; before = h.before }

module _ {trees₀ trees : Rows} {calls height : ℕ} {words : List ℕ} {made spent : ℕ} {ts : Tree several} {words' : List ℕ} {then : ℕ}
    (stored : Values words spent) (same : Same 0 (cells words) (cells words') spent) (grows : spent ≤ then) where
  -- One premise more, behind those that are done.
  pub listed_more : {trees' : Rows} {us : Tree several} {after : ℕ}
      → TreesListed trees₀ calls height words trees ts (record { calls = made; words = spent })
      → TreesListed trees made height words' trees' us (record { calls = after; words = then })
      → TreesListed trees₀ calls height words' trees' (joined ts us) (record { calls = after; words = then })
  listed_more {trees'} {us} {after} h k =
      let up : calls ≤ made = lists_up 0 0 words spent trees calls height ts made h.lists in
      record {
        lists = lists_joined 0 0 words' then trees' calls height ts made us after
            (lists_same 0 0 words' then trees trees' calls height ts made (λ j a b. k.before j b)
            (lists_grown 0 0 words words' spent then stored.formed same grows trees calls height ts made h.lists)) k.lists;
        before = λ j l. k.before j (omega arith) ∙ h.before j l;
      }

  -- The premises are done, and the conclusion is built: its row.
  pub listed_node : (rule value : ℕ) (g : Term)
      → TreesListed trees₀ (suc calls) (suc height) words trees ts (record { calls = made; words = spent })
      → calls < length trees → Value words' then value → value_at words' value ≡ g
      → TreesListed trees₀ calls height words' (set trees calls (tree_row height rule value)) (node rule g (joined ts leaf))
      (record { calls = made; words = then })
  unfolding Lists
  listed_node rule value g h l r e =
      record {
        lists = lists_node 0 0 words' then trees calls height rule value g (joined ts leaf) made l r e
            (lists_joined 0 0 words' then trees (suc calls) (suc height) ts made leaf made
            (lists_grown 0 0 words words' spent then stored.formed same grows trees (suc calls) (suc height) ts made h.lists) refl);
        before = λ j m. get_or-set_other trees calls j (tree_row height rule value) [] (λ q. omega arith) ∙ h.before j (omega arith);
      }
