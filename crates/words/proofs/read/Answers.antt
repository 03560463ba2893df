-- `read` meets its contract.
use mathlib.Core.Path.{◌≡◌, refl, sym, ap, ◌∙◌}
use borrow.Author.Tests.{lt-ltb, le-ltb}
use Rattle.words.specs.Lexer.{lex_of, in_domain}
use Rattle.words.specs.Tokens.{Reading, read_lines, outside_line}
use Rattle.words.specs.Tokens.Reading.{refused}
use Rattle.words.specs.Rows.{Read, outcome}
use Rattle.std.specs.Prelude.{Option, Some, None, Ok, Err, MatchOption}
use Rattle.refusals.specs.declared.Rejection.{Rejection}
use Rattle.refusals.specs.declared.Refusal.TheVariants.{OutsideDomain}
use Rattle.source_text.specs.Utf8.{positive}
use Prim.Native.Nat.{ℕ}
use lib.ListN.{length}
use borrow.Author.Rules.{rules}
use Rattle.source_text.specs.Lines.{lines}
use Rattle.source_text.proofs.Encodings.{positive_none, positive_some}
use Rattle.words.proofs.Readings.{then_nil}
use Rattle.words.proofs.Domains.{accepted, lines_inside, in_domain_lem, out_of_domain}
use native.Mathlib.Omega.{arith}
use Rattle.words.proofs.read.Goals as goal

pub returns-then-limit-text : goal.returns-then-limit-text
unfolding lex_of
returns-then-limit-text c = record { reads = sym (then_nil _ ∙ simp (lt-ltb _ _ c.if-limit-text.true, c.from.ensures)); fits = omega arith; long = refl }

pub returns-then-not-is_utf8 : goal.returns-then-not-is_utf8
unfolding lex_of
returns-then-not-is_utf8 c =
    record {
      reads = sym (then_nil _ ∙ simp (le-ltb _ _ c.if-limit-text.false, ← c.is_utf8.ensures, c.if-not-is_utf8.true, c.from-then-not-is_utf8.ensures));
      fits = omega arith;
      long = refl;
    }

pub returns-in-Ok : goal.returns-in-Ok
unfolding lex_of
returns-in-Ok c =
    let text = c.args.text.now in
    let new = c.new.ensures in
    let r : Read (read_lines (lines text) 0 1) (length text) 0 c.args.rows.now (Ok c.in-Ok.count) c.read_lines.new.rows = rw (new.0, new.1, new.2) at c.in-Ok.ensures in
    let reads : outcome (Ok c.in-Ok.count) c.read_lines.new.rows ≡ read_lines (lines text) 0 1 = r.reads ∙ then_nil _ in
    record {
      reads = reads
          ∙ sym (then_nil _ ∙ simp (le-ltb _ _ c.if-limit-text.false, ← c.is_utf8.ensures, c.if-not-is_utf8.false) (in_domain_lem _ _ (lines_inside (lines text) 0 1 1 (ap accepted (sym reads)))));
      fits = omega (arith, r.fits);
      long = r.long;
    }

-- What is refused for a character outside the domain, which is looked for in a text whose reading b is refused.
refused_by : (o : Option ℕ) (e r : Rejection) (P : ℕ → Type 0) → MatchOption o (r ≡ e) P → ((i : ℕ) → P i → r ≡ record { refusal = OutsideDomain; line = i })
    → (n : ℕ) (b : Reading) → o ≡ positive n → refused e.refusal e.line ≡ b → refused r.refusal r.line ≡ in_domain n b
refused_by None e r P h f n b q w = ap (λ x. refused x.refusal x.line) h ∙ w ∙ sym (in_domain_lem n b (positive_none n (sym q)))
refused_by (Some i) e r P h f n b q w =
    let p = positive_some n i (sym q) in
    ap (λ x. refused x.refusal x.line) (f i h) ∙ sym (ap (λ k. in_domain k b) (sym p.0) ∙ out_of_domain i b (λ z. omega (arith, p.1)))

pub returns-in-Err : goal.returns-in-Err
unfolding lex_of
returns-in-Err c =
    let text = c.args.text.now in
    let new = c.new.ensures in
    let again = c.new-in-Err.ensures in
    let r : Read (read_lines (lines text) 0 1) (length text) 0 c.args.rows.now (Err c.in-Err.rejection) c.read_lines.new.rows = rw (new.0, new.1, new.2) at c.in-Err.ensures in
    record {
      reads = refused_by c.outside_line.result c.in-Err.rejection c.map_or.result _ c.map_or.ensures (λ i q. search rules) (outside_line (lines text) 1) _ (rw (again.0, again.1, again.2) at c.outside_line.ensures) (r.reads ∙ then_nil _)
          ∙ sym (then_nil _ ∙ simp (le-ltb _ _ c.if-limit-text.false, ← c.is_utf8.ensures, c.if-not-is_utf8.false));
      fits = omega arith;
      long = r.long;
    }
