-- The tests of `prove`: what fails one is not ready, and what passes all is.
use Rattle.std.specs.Prelude.{ℕ, ◌≤◌, ◌<◌, ◌≡◌, refl, Bool, true, false, not, List, length, Option, Some, None}
use Rattle.std.specs.Option.{is_some}
use Rattle.std.proofs.Common.{arith, sym, ap, subst}
use Rattle.std.proofs.lemmas.Bool.{not-true, not-false}
use Rattle.words.specs.Lexer.{capped_of}
use Rattle.words.specs.declared.Limits.{Limits}
use Rattle.terms.specs.Numbers.{true_false}
use Rattle.names.specs.Symbols.{Rows}
use Rattle.term_check.specs.TermRows.{Checking}
use Rattle.signature.specs.Form.{Checked}
use Rattle.signature.specs.Storage.{SignatureStore}
use Rattle.session_check.specs.Parts.{SessionChecked}
use Rattle.session_check.specs.ReadyLaws.{ready_part, part_ready, symbols_there_lem}
use Rattle.sessions.specs.Storage.{SessionStore, Workspace}
use Rattle.sessions.specs.Promises.{Asked, Given, ProveReady, Proving}
use Rattle.sessions.specs.declared.SessionCounts.{SessionCounts}
use Rattle.sessions.specs.Answers.{Refused}
use Rattle.prover.specs.Proving.{ProveLeft, call_of, ReadyTold}

abbrev SignatureTold : List ℕ → SignatureStore → Bool → Type 0
SignatureTold text sg r =
    Checked text sg.sorts sg.symbols sg.rules sg.words sg.counts.sorts sg.counts.symbols sg.counts.rules
    sg.counts.words r

-- The symbols are there where the signature passed.
pub symbols_known : (text : List ℕ) (sg : SignatureStore) {r : Bool} → SignatureTold text sg r → not r ≡ false
    → (sg.counts.symbols ≤ 1024) × (sg.counts.symbols ≤ length sg.symbols)
symbols_known text sg {r} k e = symbols_there_lem text sg (k.sound (not-false r e))

-- What the test for none tells of a row.
no_row : (t : Option ℕ) {none : Bool} → is_some t ≡ not none → none ≡ true → t ≡ None
no_row None told e = refl
no_row (Some q) told e = absurd (true_false (sym told) (ap not e))

a_row : (t : Option ℕ) {none : Bool} → is_some t ≡ not none → none ≡ false → (q : ℕ) × (t ≡ Some q)
a_row (Some q) told e = (q, refl)
a_row None told e = absurd (true_false (ap not e) (sym told))

module _ {sg : SignatureStore} {text : List ℕ} {limits : Limits} {rows : Rows} {at : ℕ} {proof : Rows} {space : Workspace}
    {b : SessionStore} {n : SessionCounts} where
  not_ready : ((steps depth : ℕ) → ProveReady sg (call_of text limits rows at steps depth proof space) b n → ⊥)
      → ReadyTold sg text limits rows at proof space b n space.marks false
  not_ready never = record {
    tells = λ steps depth. record { yes = λ e. true_false e refl; back = λ h. absurd (never steps depth h) };
    kept = refl;
  }

  pub few_rows : {c : Limits} → c ≡ capped_of limits → length proof < c.steps
      → ReadyTold sg text limits rows at proof space b n space.marks false
  few_rows {c} e l = not_ready (λ steps depth h.
      let d : c.steps ≡ (capped_of limits).steps = ap (λ (x : Limits). x.steps) e in
      let p = h.proof_lent in
      omega arith)

  pub no_signature : {r : Bool} → SignatureTold text sg r → not r ≡ true
      → ReadyTold sg text limits rows at proof space b n space.marks false
  no_signature {r} k e = not_ready (λ steps depth h. true_false (k.complete h.signature) (not-true r e))

  pub no_term : {r : Option ℕ} {none : Bool} → Checking text rows at r → is_some r ≡ not none → none ≡ true
      → ReadyTold sg text limits rows at proof space b n space.marks false
  no_term {r} k told e = not_ready (λ steps depth h.
      let absent = no_row r told e in
      let f = k.complete h.next h.goal in
      let z : ◌≡◌ {A = ℕ} 0 1 = cc in
      let y : ⊥ = omega arith in
      y)

  -- The session's test decides the rest.
  pub session_told : {c : Limits} → c ≡ capped_of limits → c.steps ≤ length proof → {s : Bool} → SignatureTold text sg s → not s ≡ false
      → {t : Option ℕ} {none : Bool} → Checking text rows at t → is_some t ≡ not none → none ≡ false → {marks' : Rows} {r : Bool}
      → SessionChecked text limits sg.counts.sorts sg.symbols sg.counts.symbols b space n marks' r
      → ReadyTold sg text limits rows at proof space b n marks' r
  session_told {c} e l {s} k f {t} g there some told = record {
    tells = λ steps depth.
        let d : c.steps ≡ (capped_of limits).steps = ap (λ (x : Limits). x.steps) e in
        let row = a_row t there some in
        record {
          yes = λ y. part_ready row.0 (omega arith) (k.sound (not-false s f)) (g.sound row.0 row.1) (told.tells.yes y);
          back = λ h. told.tells.back (ready_part h);
        };
    kept = told.kept;
  }

-- `prove`

module _ {sg : SignatureStore} {text : List ℕ} {limits : Limits} {rows : Rows} {at : ℕ} (steps depth : ℕ) {proof : Rows}
    {links marks stack : Rows} {b : SessionStore} {n : SessionCounts} {marks' : Rows} {r : Bool}
    (told : ReadyTold sg text limits rows at proof (record { links = links; marks = marks; stack = stack }) b n marks' r) where
  abbrev call : Rows → Asked
  call m = call_of text limits rows at steps depth proof (record { links = links; marks = m; stack = stack })

  pub prove_unready : not r ≡ true
      → Proving sg (call marks) b n
      (record { answer = Refused 1; store = b; proof = proof; space = record { links = links; marks = marks'; stack = stack } })
  prove_unready e =
      let never : ProveReady sg (call marks) b n → ⊥ = λ h. true_false ((told.tells steps depth).back h) (not-true r e) in
      record {
        unready = λ u. record {
          answer = refl;
          told = refl;
          store = refl;
          proof = refl;
          space = ap (λ (m : Rows). record { links = links; marks = m; stack = stack }) told.kept;
        };
        ready = λ h. absurd (never h);
        tells = λ u. absurd (u refl);
      }

  is_ready : not r ≡ false → ProveReady sg (call marks) b n
  is_ready e = (told.tells steps depth).yes (not-false r e)

  pub listed_ready : not r ≡ false → ProveReady sg (call marks') b n
  listed_ready e = subst (λ (m : Rows). ProveReady sg (call m) b n) (sym told.kept) (is_ready e)

  pub prove_ready : not r ≡ false → {g : Given} → ProveLeft sg (call marks') b n g → Proving sg (call marks) b n g
  prove_ready e {g} f =
      let left = subst (λ (m : Rows). ProveLeft sg (call m) b n g) told.kept f in
      record { unready = λ u. absurd (u (is_ready e)); ready = left; tells = λ u. is_ready e }
