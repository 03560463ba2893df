-- `decide` meets its contract: each way out is one case of it.
use mathlib.Core.Path.{refl, sym, ◌∙◌}
use Rattle.unifier.specs.Promises.{of_first, of_second, in_first, in_second, heads}
use Rattle.unifier.specs.Deciding.{ways, alike_met, alike_constants, alike_linked, opened}
use borrow.Author.Rules.{rules}
use Rattle.unifier.proofs.equations.decide.Goals as goal

pub returns-then-p-q : goal.returns-then-p-q
returns-then-p-q c = record { says = alike_met c.walk-p.ensures c.walk-q.ensures c.if-p-q.true; marks = refl }

pub returns-then-occurs : goal.returns-then-occurs
returns-then-occurs c =
    let walk = c.walk-p in
    let walk2 = c.walk-q in
    let if2 = c.if-p-terms in
    let if1 = c.if-p-q in
    let occurs = c.occurs in
    let if3 = c.if-occurs in
    record {
      says = in_second _ _ (ways walk.ensures walk2.ensures) if2.true if1.false (sym occurs.ensures.is ∙ if3.true);
      marks = occurs.ensures.marks;
    }

pub returns-then-p-terms : goal.returns-then-p-terms
returns-then-p-terms c =
    let walk = c.walk-p in
    let walk2 = c.walk-q in
    let if2 = c.if-p-terms in
    let if1 = c.if-p-q in
    let occurs = c.occurs in
    let if3 = c.if-occurs in
    record {
      says = of_first (ways walk.ensures walk2.ensures) if2.true if1.false (sym occurs.ensures.is ∙ if3.false);
      marks = occurs.ensures.marks;
    }

pub returns-then-occurs-2 : goal.returns-then-occurs-2
returns-then-occurs-2 c =
    let walk = c.walk-p in
    let walk2 = c.walk-q in
    let if4 = c.if-q-terms in
    let occurs2 = c.occurs-then-q-terms in
    let if5 = c.if-occurs-2 in
    record {
      says = in_first _ _ (ways walk.ensures walk2.ensures) (search rules) if4.true (sym occurs2.ensures.is ∙ if5.true);
      marks = occurs2.ensures.marks;
    }

pub returns-then-q-terms : goal.returns-then-q-terms
returns-then-q-terms c =
    let walk = c.walk-p in
    let walk2 = c.walk-q in
    let if4 = c.if-q-terms in
    let occurs2 = c.occurs-then-q-terms in
    let if5 = c.if-occurs-2 in
    record {
      says = of_second (ways walk.ensures walk2.ensures) (search rules) if4.true (sym occurs2.ensures.is ∙ if5.false);
      marks = occurs2.ensures.marks;
    }

pub returns-then-header : goal.returns-then-header
returns-then-header c =
    let walk = c.walk-p in
    let walk2 = c.walk-q in
    let if6 = c.if-header in
    record {
      says = heads _ _ (ways walk.ensures walk2.ensures) (search rules) (search rules) (rw (c.header-header.ensures, c.header.ensures) at if6.true);
      marks = refl;
    }

pub returns-then-arity_of-eq0 : goal.returns-then-arity_of-eq0
returns-then-arity_of-eq0 c =
    let walk = c.walk-p in
    let walk2 = c.walk-q in
    let if6 = c.if-header in
    let if7 = c.if-arity_of-eq0 in
    record {
      says = alike_constants walk.ensures walk2.ensures (search rules) (search rules) (rw (c.header-header.ensures, c.header.ensures) at if6.false) (rw (c.arity_of.ensures, c.header-header.ensures) at if7.true);
      marks = refl;
    }

pub returns-then-find : goal.returns-then-find
returns-then-find c =
    let walk = c.walk-p in
    let walk2 = c.walk-q in
    let find = c.find in
    let find2 = c.find-2 in
    let if8 = c.if-find in
    record {
      says = alike_linked walk.ensures walk2.ensures find.ensures.0 find2.ensures.0 if8.true;
      marks = refl;
    }

pub returns : goal.returns
returns c =
    let walk = c.walk-p in
    let walk2 = c.walk-q in
    let if6 = c.if-header in
    let find = c.find in
    let find2 = c.find-2 in
    let if8 = c.if-find in
    record {
      says = opened walk.ensures walk2.ensures (search rules) (search rules) (rw (c.header-header.ensures, c.header.ensures) at if6.false) find.ensures.0 find2.ensures.0 if8.false;
      marks = refl;
    }
