-- `horn_prove_cleared` meets its contract: what it asks is what `prove_cleared` asks, and the answer is told in numbers.
use native.Mathlib.Omega.{arith}
use borrow.Author.Rules.{rules}
use Rattle.std.specs.Prelude.{ℕ, Result, Ok, Err, IsErrAnd, MatchResult}
use Rattle.std.proofs.Common.{◌≡◌, ap, subst}
use Rattle.refusals.specs.Refusals.{number_of}
use Rattle.refusals.specs.declared.Refusal.{Refusal}
use Rattle.signature.specs.Storage.{SignatureStore}
use Rattle.sessions.specs.Answers.{Answer, Refused, answer_in}
use Rattle.sessions.specs.Promises.{Asked, Given}
use Rattle.sessions.specs.Storage.{SessionStore}
use Rattle.sessions.specs.declared.SessionCounts.{SessionCounts}
use Rattle.sessions.specs.declared.Verdict.{Verdict}
use Rattle.sessions.specs.declared.Verdict.TheVariants.{Proved, Nothing, Undecided}
use Rattle.capi.specs.Sessions.{answer_of}
use Rattle.prover.specs.Proving.{ProveLeft}
use Rattle.prover.specs.ProvingLaws.{left_given}
use Rattle.prover_capi.proofs.horn_prove_cleared.Goals as goal

-- A signature is the one that is lent.
left_with : {sg sg' : SignatureStore} {k : Asked} {b : SessionStore} {n : SessionCounts} {g : Given} → sg ≡ sg' → ProveLeft sg k b n g
    → ProveLeft sg' k b n g
left_with {k = k} {b = b} {n = n} {g = g} e h = subst (λ (sg : SignatureStore). ProveLeft sg k b n g) e h

-- A refusal told by its number is the answer that it was.
numbered : (r : Result Verdict Refusal) (m : Result Verdict ℕ) → MatchResult r (λ v. m ≡ Ok v) (λ e. IsErrAnd m (λ n. n ≡ number_of e))
    → answer_of m ≡ answer_in r
numbered (Ok (Proved u nodes n)) m h = ap answer_of h
numbered (Ok (Nothing u n)) m h = ap answer_of h
numbered (Ok (Undecided u n)) m h = ap answer_of h
numbered (Err e) (Ok v) h = elim h [ ]
numbered (Err e) (Err k) h = ap Refused h

pub prove_cleared-answer-requires : goal.prove_cleared-answer-requires
prove_cleared-answer-requires c =
    rw (c.stored_signature.ensures, c.limits_of.ensures, c.session_counts-used.ensures) c.requires.fact_2

pub tell_answer-requires : goal.tell_answer-requires
tell_answer-requires c =
    let asked = c.requires.fact_1.2 in
    omega arith

pub returns : goal.returns
returns c =
    let l = c.prove_cleared-answer.ensures.lent in
    let told = numbered c.prove_cleared-answer.result c.map_err.result c.map_err.ensures.cases in
    record {
      given = answer_in c.prove_cleared-answer.result;
      is = rw told at c.tell_answer.ensures.number;
      left = left_given c.prove_cleared-answer.new.store (search (rules, l.words)) (search (rules, l.bindings))
          (search (rules, l.frames)) (search (rules, l.links)) (search (rules, l.marks)) (search (rules, l.stack))
          (rw (c.limits_of.ensures, c.session_counts-used.ensures)
          at (left_with c.stored_signature.ensures c.prove_cleared-answer.ensures.left));
      written = rw told at c.tell_answer.ensures.results;
    }
