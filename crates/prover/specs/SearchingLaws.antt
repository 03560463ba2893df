-- How `search_goal` meets its contract: one law for each answer of the depth bounds.
use Rattle.std.specs.Prelude.{ℕ, ◌≡◌, refl, List, Result, Ok, Err}
use Rattle.std.proofs.Common.{ap, ◌∙◌, subst}
use Rattle.names.specs.Symbols.{Rows}
use Rattle.refusals.specs.Refusals.{number_of}
use Rattle.refusals.specs.declared.Refusal.{Refusal}
use Rattle.load_storage.specs.Storage.{cleared_from}
use Rattle.search_machine.specs.Allowed.{Allowed}
use Rattle.deepening.specs.Bounds.{Answers, Deepened, prove_of}
use Rattle.deepening.specs.declared.Answer.{Answer}
use Rattle.deepening.specs.declared.Answer.TheVariants.{Proved as Shown, Nothing as Absent, Undecided as Open}
use Rattle.sessions.specs.Storage.{zero_name}
use Rattle.sessions.specs.declared.SessionCounts.{SessionCounts}
use Rattle.sessions.specs.Answers.{Refused, Proved, Nothing, Undecided}
use Rattle.prover.specs.Searching.{counts_then, SearchLeft}
use Rattle.prover.specs.declared.preparing.StoredGoal.{StoredGoal}

module _ {a : Allowed} {P : List ℕ} {R F F' : Rows} {W W' : List ℕ} {T T' L L' M M' S S' : Rows} (N : Rows) (g : StoredGoal)
    (n : SessionCounts) {s d : ℕ} {r : Result Answer Refusal}
    (done : Deepened a P R F F' W W' T T' L L' M M' S S' g.node d s g.variables n.bound g.words r) where
  known : (q : Result Answer Refusal) → r ≡ q → (text : List ℕ)
      → Answers a P R F F' W W' T T' g.variables n.bound g.words
      (prove_of a text P R W T g.node d s g.variables n.bound g.words) q
  known q e text =
      subst (λ (q : Result Answer Refusal). Answers a P R F F' W W' T T' g.variables n.bound g.words
      (prove_of a text P R W T g.node d s g.variables n.bound g.words) q) e (done.answers text)

  pub left_refused : (o : Refusal) → r ≡ Err o → {N'' : Rows} {W'' : List ℕ} → N'' ≡ cleared_from zero_name n.names N
      → W'' ≡ cleared_from 0 n.words W'
      → SearchLeft a P R F F' W W'' T T' L L' M M' S S' N N'' g n s d (Refused (number_of o))
  left_refused o e names ws = record {
    says = λ text.
        let k = known (Err o) e text in (
          k.0,
          k.1,
          names,
          record { words_are = ws ∙ ap (cleared_from 0 n.words) k.2.words; rows_are = k.2.rows; proof_is = k.2.frames },
        );
    links = done.links;
    marks = done.marks;
    stack = done.stack;
  }

  pub left_nothing : (i c : ℕ) → r ≡ Ok (Absent i c) → {W'' : List ℕ} → W'' ≡ cleared_from 0 n.words W'
      → SearchLeft a P R F F' W W'' T T' L L' M M' S S' N N g n s d (Nothing i (counts_then n g c))
  left_nothing i c e ws = record {
    says = λ text.
        let k = known (Ok (Absent i c)) e text in (
          k.0,
          record {
            counts = refl;
            counted = k.1;
            names_are = refl;
            unproved = record {
              words_are = ws ∙ ap (cleared_from 0 n.words) k.2.words;
              rows_are = k.2.rows;
              proof_is = k.2.frames;
            };
          },
        );
    links = done.links;
    marks = done.marks;
    stack = done.stack;
  }

  pub left_undecided : (i c : ℕ) → r ≡ Ok (Open i c) → {W'' : List ℕ} → W'' ≡ cleared_from 0 n.words W'
      → SearchLeft a P R F F' W W'' T T' L L' M M' S S' N N g n s d (Undecided i (counts_then n g c))
  left_undecided i c e ws = record {
    says = λ text.
        let k = known (Ok (Open i c)) e text in (
          k.0,
          record {
            counts = refl;
            counted = k.1;
            names_are = refl;
            unproved = record {
              words_are = ws ∙ ap (cleared_from 0 n.words) k.2.words;
              rows_are = k.2.rows;
              proof_is = k.2.frames;
            };
          },
        );
    links = done.links;
    marks = done.marks;
    stack = done.stack;
  }

  pub left_proved : (k i c t u : ℕ) → r ≡ Ok (Shown k i (record { variables = c; bound = t; used = u }))
      → SearchLeft a P R F F' W W' T T' L L' M M' S S' N N g n s d
      (Proved i k (record { names = g.names; variables = c; bound = t; words = u }))
  left_proved k i c t u e = record {
    says = λ text. record { counts = refl; names_are = refl; proven = known (Ok (Shown k i (record { variables = c; bound = t; used = u }))) e text };
    links = done.links;
    marks = done.marks;
    stack = done.stack;
  }
