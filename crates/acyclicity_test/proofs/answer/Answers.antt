-- `answer` is safe: the tests before the call are what the check requires.
use Rattle.acyclicity_test.proofs.answer.Goals as goal

pub is_acyclic-acyclic-requires : goal.is_acyclic-acyclic-requires
is_acyclic-acyclic-requires c =
    let u = c.is_unmarked.ensures.yes c.if-not-is_unmarked.false in
    let s = u.stored in
    let z = u.zeros in
    let b = c.are_bindings.ensures c.if-not-are_bindings.false in
    record {
      stored = record { low = s.low; few = s.few; rows = b.rows; within = s.lent; formed = s.formed; bound = λ v r l e. b.bound v l r e };
      long = z.lent;
      zeros = z.empty;
    }
