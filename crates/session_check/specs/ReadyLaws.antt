-- What `check_session` decides is the part of `ProveReady` that speaks of the session: with what the other tests tell it makes
-- `ProveReady`,
-- and `ProveReady` has it. What it asks of its caller holds where the signature is in form.
use Rattle.std.specs.Prelude.{ℕ, ◌≤◌, List, length}
use Rattle.std.proofs.Common.{arith}
use Rattle.words.specs.Lexer.{capped_of}
use Rattle.term_check.specs.TermRows.{TermAt}
use Rattle.signature.specs.Storage.{SignatureStore, SignatureListed}
use Rattle.sessions.specs.Storage.{SessionStore}
use Rattle.sessions.specs.Promises.{Asked, ProveReady}
use Rattle.sessions.specs.declared.SessionCounts.{SessionCounts}
use Rattle.session_check.specs.Parts.{SessionReady}

-- The session part of a call.
abbrev pub SessionPart : SignatureStore → Asked → SessionStore → SessionCounts → Type 0
SessionPart sg k b n = SessionReady k.text k.limits sg.counts.sorts sg.symbols sg.counts.symbols b k.space n

module _ {sg : SignatureStore} {k : Asked} {b : SessionStore} {n : SessionCounts} where
  pub ready_part : ProveReady sg k b n → SessionPart sg k b n
  ready_part h = record { lent = h.lent; session = h.session; scratch = h.scratch }

  pub part_ready : (next : ℕ) → (capped_of k.limits).steps ≤ length k.proof → SignatureListed k.text sg
      → TermAt k.text k.rows k.at next → SessionPart sg k b n → ProveReady sg k b n
  part_ready next p g t h =
      record {
        lent = h.lent;
        proof_lent = p;
        signature = g;
        session = h.session;
        scratch = h.scratch;
        next = next;
        goal = t;
      }

-- The symbols are there.
pub symbols_there_lem : (text : List ℕ) (sg : SignatureStore) → SignatureListed text sg
    → (sg.counts.symbols ≤ 1024) × (sg.counts.symbols ≤ length sg.symbols)
symbols_there_lem text sg h = let l = h.symbols_lent in let f = h.few_symbols in (f, omega arith)
