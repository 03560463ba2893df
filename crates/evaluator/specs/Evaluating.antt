-- The contracts of `evaluate` and `is_forward_call` (document 01, "Evaluated terms"): the answer and every lent buffer, on all inputs.
use Rattle.std.specs.Prelude.{ℕ, ◌≡◌, Bool, true, false, cond, List, [], ◌∷◌, length, replicate, Result, Ok, Err}
use Rattle.words.specs.declared.Limits.{Limits}
use Rattle.source_text.specs.Answers.{Told, answers, refuses}
use Rattle.terms.specs.Term.{Term}
use Rattle.terms.specs.Term.Kind.{many as several}
use Rattle.arena.specs.Cells.{cells, denote, Reference}
use Rattle.arena.specs.Form.{in_form}
use Rattle.term_parser.specs.Source.{one}
use Rattle.term_parser.specs.Standing.{Written, spelled}
use Rattle.names.specs.Symbols.{Rows}
use Rattle.resolution.specs.Rules.{Tree}
use Rattle.rules.specs.PatternLaws.{arities_of}
use Rattle.signature.specs.Storage.{SignatureStore, symbols_in, signature_of, SignatureListed}
use Rattle.term_check.specs.TermRows.{TermAt}
use Rattle.tree_rows.specs.Trees.{Lists, zero_tree}
use Rattle.evaluation.specs.Calls.{Spent}
use Rattle.evaluation.specs.Expressions.{is_forward_call, Evaluated, failed, evaluated, evaluate_of}
use Rattle.load_storage.specs.Storage.{cleared_from}
use Rattle.evaluator.specs.Storage.{Results, most_words, too_short, wiped}
use Rattle.refusals.specs.declared.Refusal.{Refusal}
use Rattle.refusals.specs.declared.Refusal.TheVariants.{Storage}
use Rattle.refusals.specs.Refusals.{number_of}
use Rattle.refusals.specs.Refused.{Refuses}
use Rattle.function_calls.specs.Calls.{outcome}
use Rattle.function_calls.specs.declared.calls.Outcome.{Outcome}

-- What is read is in the listed form: the signature, and from the row `at` on the rows of a term as the parser leaves one.
pub record Readable (text : List ℕ) (sg : SignatureStore) (rows : Rows) (at : ℕ) : Type 0 where
  pub signature : SignatureListed text sg
  pub next : ℕ
  pub term : TermAt text rows at next

-- The term that is written there.
abbrev pub written_in : {text : List ℕ} {sg : SignatureStore} {rows : Rows} {at : ℕ} → Readable text sg rows at → Written one
written_in {text} h = spelled text h.term.term

-- What a test for that answers: what is not so is refused by 1.
abbrev pub Tested : {T : Type 0} → Type 0 → Result T Refusal → Type 0
Tested P (Ok x) = P
Tested P (Err refusal) = (refusal ≡ Storage) × (P → ⊥)

-- Besides, the buffers are as long as the limits ask.
pub record Ready (text : List ℕ) (limits : Limits) (sg : SignatureStore) (rows : Rows) (at : ℕ) (b : Results) : Type 0 where
  pub lent : too_short limits b ≡ false
  pub readable : Readable text sg rows at

-- The answer by the paper's numbers: the value's reference, the number of calls and that of words; or the refusal, which has no line of its own.
abbrev pub evaluation_told : Result Outcome Refusal → Told
evaluation_told (Ok e) = answers (e.value ∷ e.spent.calls ∷ e.spent.used ∷ [])
evaluation_told (Err refusal) = refuses (number_of refusal) 0

-- The value v and the trees ps are left in storage. At which address a node lies may differ from one correct program to another, and whether equal terms are
-- stored once; common are the terms, the number of words, and that the words are in form.
pub record Valued (text : List ℕ) (sg : SignatureStore) (b : Results) (v : Term) (ps : Tree several) (c : Spent) (r : Result Outcome Refusal) (b' : Results) : Type 0 where
  pub value : ℕ
  pub answer : r ≡ outcome value c.calls c.words
  pub told : evaluation_told r ≡ answers (value ∷ c.calls ∷ c.words ∷ [])
  -- the words in use are in form over the signature's symbols, and zero past them; the answer refers to the value;
  pub formed : in_form b'.words 0 c.words 0 0 (arities_of (symbols_in text sg)) ≡ true
  pub root : Reference 0 (cells b'.words) 0 c.words value
  pub denotes : denote 0 (cells b'.words) value ≡ v
  pub cleared : b'.words ≡ cleared_from 0 c.words b'.words
  -- the trees stand in preorder, one behind another at height 1, a row for each call, and zero past them;
  pub listed : Lists 0 0 b'.words c.words b'.trees 0 1 ps c.calls
  pub trees_cleared : b'.trees ≡ cleared_from zero_tree c.calls b'.trees
  -- no buffer has changed its length, and the links are zero.
  pub words_kept : length b'.words ≡ length b.words
  pub trees_kept : length b'.trees ≡ length b.trees
  pub links_zero : b'.links ≡ replicate (length b.links) 0

-- What is left of an evaluation that comes to this: a refusal leaves nothing.
pub record Denied (b : Results) (e : ℕ) (r : Result Outcome Refusal) (b' : Results) : Type 0 where
  pub answer : Refuses r e
  pub told : evaluation_told r ≡ refuses e 0
  pub left : b' ≡ wiped b

abbrev pub Left : List ℕ → SignatureStore → Results → Evaluated one → Result Outcome Refusal → Results → Type 0
Left text sg b (failed e) r b' = Denied b e r b'
Left text sg b (evaluated v ps c) r b' = Valued text sg b v ps c r b'

-- Whatever is ready is left as the definition says.
abbrev pub EvaluationLeft : List ℕ → Limits → SignatureStore → Rows → ℕ → Results → Result Outcome Refusal → Results → Type 0
EvaluationLeft text limits sg rows at b r b' =
    (h : Ready text limits sg rows at b) → Left text sg b (evaluate_of (most_words limits) (signature_of text sg) (written_in h.readable)) r b'

-- What is not in form, or too short, is refused by 1, and nothing is written; all else comes to what the definition says.
pub record Evaluating (text : List ℕ) (limits : Limits) (sg : SignatureStore) (rows : Rows) (at : ℕ) (b : Results) (r : Result Outcome Refusal) (b' : Results) : Type 0 where
  pub unready : (Ready text limits sg rows at b → ⊥) → (r ≡ Err Storage) × (evaluation_told r ≡ refuses 1 0) × (b' ≡ b)
  pub ready : EvaluationLeft text limits sg rows at b r b'

-- Forward calls

-- The answer by the paper's numbers: 1 for a forward call, 0 for a goal; or the refusal.
abbrev pub forward_told : Result Bool Refusal → Told
forward_told (Ok is_call) = answers (cond is_call 1 0 ∷ [])
forward_told (Err refusal) = refuses (number_of refusal) 0

pub record Forwarding (text : List ℕ) (sg : SignatureStore) (rows : Rows) (at : ℕ) (r : Result Bool Refusal) : Type 0 where
  pub unready : (Readable text sg rows at → ⊥) → (r ≡ Err Storage) × (forward_told r ≡ refuses 1 0)
  pub ready : (h : Readable text sg rows at)
      → (r ≡ Ok (is_forward_call (symbols_in text sg) (written_in h))) × (forward_told r ≡ answers (cond (is_forward_call (symbols_in text sg) (written_in h)) 1 0 ∷ []))
