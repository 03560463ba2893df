-- Words stay in form where something is built behind them: each node that is written has a header of the pattern, and values as arguments.
use Prim.Native.Nat.{ℕ, zero, suc, ◌+◌, ◌-◌, ◌≤◌, ◌<◌}
use native.Mathlib.Omega.{arith}
use mathlib.Core.Path.{◌≡◌, sym, ap, ◌∙◌, subst}
use mathlib.Core.Bool.{true}
use mathlib.Core.List.{List, ◌∷◌}
use lib.ListN.{get_or, length, take}
use lib.Seq.{sets, slice, length-sets, length-slice, get_or-take, get_or-drop}
use Rattle.terms.specs.Numbers.{by_less}
use Rattle.arena.specs.Cells.{cells, arity_of, Same}
use Rattle.arena.specs.NodeLaws.{sets_below, sets_within}
use Rattle.arena.specs.Form.{is_header, is_argument, in_form}
use Rattle.arena.specs.FormLaws.{reference_accepted}
use Rattle.arena.specs.FormKept.{place, form_same, push_form}
use Rattle.clause_matching.specs.Stored.{Value, Headed, Formed}
use Rattle.std.specs.Prelude.{Result, Ok, Err}
use Rattle.refusals.specs.declared.Refusal.{Refusal}
use Rattle.clause_matching.specs.declared.building.Built.{Built as Answer}
use Rattle.clause_matching.specs.Building.{Pushed, BuiltFormed, ArgumentsFormed, built_at}

-- Words in form over a pattern's symbols are so later, too.
abbrev pub FormsKept : List ℕ → List ℕ → ℕ → List ℕ → ℕ → Type 0
FormsKept pattern values used values' used' =
    (arities : List ℕ) → Headed arities pattern → Formed arities values used → Formed arities values' used'

pub forms_same : (pattern values values' : List ℕ) (used : ℕ) → used ≤ length values → used ≤ length values'
    → Same 0 (cells values) (cells values') used → FormsKept pattern values used values' used
forms_same pattern values values' used l m s arities d f = form_same values values' 0 used 0 0 0 arities (omega arith) l m (omega arith) s f

-- A node written by `push_values`.
module _ {values : List ℕ} {used header from count : ℕ} {values' : List ℕ} (p : Pushed values used header from count values')
    (source : from + count ≤ length values) (space : used + suc count ≤ length values) where
  abbrev given : List ℕ
  given = slice from (from + count) values

  given_length : length given ≡ count
  given_length = let m = length-slice from (from + count) values source in omega arith

  given_at : (i : ℕ) → i < count → get_or given i 0 ≡ cells values (from + i)
  given_at i l = get_or-drop from (take (from + count) values) i 0 ∙ get_or-take (from + count) values (from + i) 0 (omega arith)

  -- The same node, as a list written over the words.
  abbrev written : List ℕ
  written = sets values used (header ∷ given)

  node_same : (k : ℕ) → k < suc count → cells written (used + k) ≡ cells values' (used + k)
  node_same zero l =
      let n = given_length in
      let e : used + 0 ≡ used = omega arith in
      sets_within (header ∷ given) values used 0 (omega arith) (omega arith) ∙ sym (ap (cells values') e ∙ p.head)
  node_same (suc k) l =
      let n = given_length in
      sets_within (header ∷ given) values used (suc k) (omega arith) (omega arith) ∙ given_at k (omega arith)
      ∙ sym (p.arguments k (omega arith))

  written_same : Same 0 (cells written) (cells values') (used + suc count)
  written_same i l = by_less i used
      (λ b q. sets_below (header ∷ given) values used i b ∙ sym (p.below i b))
      (λ b q. let e : used + (i - used) ≡ i = omega arith in
      let h : cells written (used + (i - used)) ≡ cells values' (used + (i - used)) = node_same (i - used) (omega arith) in rw e at h)

  pub pushed_form : (arities : List ℕ) → is_header arities header ≡ true → arity_of header ≡ count
      → ((i : ℕ) → i < count → Value values used (cells values (from + i))) → Formed arities values used
      → Formed arities values' (used + suc count)
  pushed_form arities known arity good form =
      let n = given_length in
      let m = length-sets values used (header ∷ given) in
      let k = p.kept in
      let f : in_form written 0 (used + suc (length given)) 0 0 arities ≡ true =
      push_form values 0 used 0 0 header given arities (omega arith) (omega arith) form known (arity ∙ sym n)
      (λ i l. subst (λ (r : ℕ). is_argument (place values 0 0 0) used r ≡ true) (sym (given_at i (omega arith)))
      (reference_accepted (place values 0 0 0) used (cells values (from + i)) (good i (omega arith)) (λ v. omega arith))) in
      form_same written values' 0 (used + suc count) 0 0 0 arities (omega arith) (omega arith) (omega arith) (omega arith) written_same
      (rw n at f)

pub ok_is : {A : Type 0} {a b : A} → ◌≡◌ {A = Result A Refusal} (Ok a) (Ok b) → a ≡ b
ok_is e = cc

-- What an answer says of the form: a refusal nothing, any other that it is kept.
pub unbuilt_forms : (pattern : List ℕ) (refusal : Refusal) (values values' : List ℕ) (used : ℕ)
    → BuiltFormed pattern (Err refusal) values values' used
unbuilt_forms pattern refusal values values' used arities d f value u e = absurd (let z : ⊥ = cc in z)

pub built_forms : (pattern : List ℕ) (value spent : ℕ) (values values' : List ℕ) (used : ℕ) → FormsKept pattern values used values' spent
    → BuiltFormed pattern (built_at value spent) values values' used
built_forms pattern value spent values values' used k arities d f v u e =
    subst (λ (n : ℕ). Formed arities values' n) (ap (λ (b : Answer). b.used) (ok_is e)) (k arities d f)

pub unbuilt_arguments : (pattern : List ℕ) (refusal : Refusal) (values values' : List ℕ) (used : ℕ)
    → ArgumentsFormed pattern (Err refusal) values values' used
unbuilt_arguments pattern refusal values values' used arities d f u e = absurd (let z : ⊥ = cc in z)

pub built_arguments : (pattern : List ℕ) (spent : ℕ) (values values' : List ℕ) (used : ℕ) → FormsKept pattern values used values' spent
    → ArgumentsFormed pattern (Ok spent) values values' used
built_arguments pattern spent values values' used k arities d f u e =
    subst (λ (n : ℕ). Formed arities values' n) (let x : spent ≡ u = cc in x) (k arities d f)
