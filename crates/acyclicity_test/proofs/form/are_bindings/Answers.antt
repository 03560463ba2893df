-- `are_bindings` meets its contract: where the chain says so, each of its rows passed the test.
use Rattle.std.proofs.Common.{ℕ, ◌≡◌, ◌∙◌, ap, Bool, true, false, List, [], take, get_or, length, arith, rules}
use Rattle.std.proofs.lemmas.List.{get_or-take}
use lib.Seq.{length-take-le}
use Rattle.std.specs.Bool.{MatchBool}
use Rattle.std.specs.List.{AllWithin}
use Rattle.std.proofs.lemmas.Iterator.{YieldsList-from_slice, cases_from_all}
use Rattle.arena.specs.Cells.{cells}
use Rattle.acyclicity_test.specs.Form.{BindingInForm}
use Rattle.acyclicity_test.proofs.form.are_bindings.Goals as goal

-- The case of the answer yes.
passed : {A : Type 0} (B : Type 0) (r : Bool) → MatchBool r A B → r ≡ true → A
passed B true h e = h
passed B false h e = absurd (let w : false ≡ true = e in cc)

pub returns : goal.returns
returns c = λ e.
    let t = c.args.terms in
    let rows = take t.variables c.args.bindings.now in
    let P : List ℕ → Type 0 = λ row. BindingInForm t.room (cells t.words.now) t.variables t.used (get_or row 0 0) in
    let all : AllWithin P rows 0 (length rows) = passed _ c.all.result
    (cases_from_all _ _ c.all.result P (λ _. Unit {0}) c.all.ensures.ran (YieldsList-from_slice rows cc) (λ x q k. (search rules, search rules)) (λ x q k. tt)) e in
    record {
      rows = c.if-bindings-end.false;
      bound = λ v l r is.
          all v [] (omega arith) (rw (length-take-le t.variables c.args.bindings.now c.if-bindings-end.false) l) r (ap (λ row. get_or row 0 0) (get_or-take t.variables c.args.bindings.now v [] l) ∙ is);
    }
