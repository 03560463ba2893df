-- Cases for evaluation as a reader would type them: a text, and `#eval`s behind it with what each is expected to come to. The text is
-- read from its bytes, parsed and loaded, and each term is read, parsed and evaluated, all by the definitions.
use Rattle.std.specs.Prelude.{ℕ, ◌+◌, ◌/◌, ◌%◌, Bool, true, false, cond, ◌&&◌, List, [], ◌∷◌, ◌++◌, eqb, ltb}
use Prim.Native.Char.{code}
use Prim.Native.String.{String, [] as ends, ◌∷◌ as ◌then◌}
use Rattle.words.specs.Tokens.{Reading}
use Rattle.words.specs.Tokens.Reading.{tokens, refused as unread}
use Rattle.words.specs.Lexer.{lex_of}
use Rattle.terms.specs.Term.{Term}
use Rattle.arena.specs.Equality.{alike}
use Rattle.term_parser.specs.Source.{one}
use Rattle.term_parser.specs.Parsing.{Parsed, parsed, absent, refused as unparsed}
use Rattle.term_parser.specs.Standing.{Written, spelled}
use Rattle.parser.specs.Source.{Declaration, sort, ctor, pred, rule, def, theorem, eval, check}
use Rattle.parser.specs.Declarations.{Declared, parse_of}
use Rattle.patterns.specs.Patterns.{when}
use Rattle.loader.specs.Signature.{Signature, Loaded, refused, loaded, load_of}
use Rattle.evaluation.specs.Expressions.{is_forward_call, Evaluated, failed, evaluated, expression_of, evaluate_of}

-- Reading

-- The bytes of a character, which is ASCII or takes three bytes, in front of others; of a text of such characters; and of lines.
abbrev pub encoded : ℕ → List ℕ → List ℕ
encoded n bytes = cond (ltb n 128) (n ∷ bytes) ((224 + n / 4096) ∷ (128 + n / 64 % 64) ∷ (128 + n % 64) ∷ bytes)

abbrev pub bytes_of : String → List ℕ
bytes_of ends = []
bytes_of (c then s) = encoded (code c) (bytes_of s)

abbrev pub lines_of : List String → List ℕ
lines_of [] = []
lines_of (s ∷ ss) = bytes_of s ++ (10 ∷ lines_of ss)

-- A text's declarations: none if it cannot be read.
abbrev pub of_parsed : Parsed (List Declared) → List Declared
of_parsed (parsed ds n) = ds
of_parsed absent = []
of_parsed (unparsed r line) = []

abbrev pub of_reading : List ℕ → Reading → List Declared
of_reading text (tokens ts) = of_parsed (parse_of text ts)
of_reading text (unread r line) = []

abbrev pub declarations_of : List ℕ → List Declared
declarations_of text = of_reading text (lex_of 65536 text)

-- The terms of the `#eval`s among them.
abbrev pub eval_or : List ℕ → Declaration → List (Written one) → List (Written one)
eval_or text (eval t) ts = spelled text t ∷ ts
eval_or text (sort p) ts = ts
eval_or text (ctor p ss) ts = ts
eval_or text (pred p ss) ts = ts
eval_or text (rule p js) ts = ts
eval_or text (def p ss cs) ts = ts
eval_or text (theorem p bs js t) ts = ts
eval_or text (check t) ts = ts

abbrev pub evals_of : List ℕ → List Declared → List (Written one)
evals_of text [] = []
evals_of text (d ∷ ds) = eval_or text d.declaration (evals_of text ds)

-- The signature of a text, with the limits of document 01.
abbrev pub signature_of : List ℕ → Loaded
signature_of text = load_of 32768 text (declarations_of text)

-- The term behind one `#eval`.
abbrev pub terms_of : String → List (Written one)
terms_of s = let line = bytes_of "#eval " ++ (bytes_of s ++ (10 ∷ [])) in evals_of line (declarations_of line)

-- Answers

-- An `#eval` is a goal, or it is evaluated.
pub data Answer : Type 0 where
  goal : Answer
  answer : Evaluated one → Answer

abbrev pub answer_by : (Written one → Evaluated one) → Signature → Written one → Answer
answer_by evaluation S t = when (is_forward_call S.symbols t) (λ _. answer (evaluation t)) (λ _. goal)

-- The answers to the `#eval`s of a text, in order, with so many words.
abbrev pub answers_of : ℕ → Signature → List (Written one) → List Answer
answers_of limit S [] = []
answers_of limit S (t ∷ ts) = answer_by (evaluate_of limit S) S t ∷ answers_of limit S ts

abbrev pub loaded_answers : ℕ → Loaded → List (Written one) → List Answer
loaded_answers limit (refused e line) ts = []
loaded_answers limit (loaded S) ts = answers_of limit S ts

abbrev pub text_answers : ℕ → List ℕ → List Answer
text_answers limit text = loaded_answers limit (signature_of text) (evals_of text (declarations_of text))

-- Cases

-- What is expected: that it is no forward call, a value, which is written, or a refusal.
pub data Expected : Type 0 where
  is_goal : Expected
  is_value : String → Expected
  is_refused : ℕ → Expected

pub record Case : Type 0 where
  pub term : String
  pub words : ℕ
  pub depth : ℕ
  pub calls : ℕ
  pub expected : Expected

-- An `#eval` with all words; with so many words; and within another term: at a depth, after so many calls.
abbrev pub gives : String → Expected → Case
gives t e = record { term = t; words = 262144; depth = 0; calls = 0; expected = e }

abbrev pub gives_with : ℕ → String → Expected → Case
gives_with n t e = record { term = t; words = n; depth = 0; calls = 0; expected = e }

abbrev pub gives_from : ℕ → ℕ → String → Expected → Case
gives_from n k t e = record { term = t; words = 262144; depth = n; calls = k; expected = e }

-- Is a value the one that is written? (A term of constructors is its own value.)
abbrev pub is_evaluated : Term → Evaluated one → Bool
is_evaluated v (failed e) = false
is_evaluated v (evaluated u ps c) = alike v u

abbrev pub is_written : Signature → Term → List (Written one) → Bool
is_written S v [] = false
is_written S v (t ∷ ts) = is_evaluated v (evaluate_of 262144 S t)

abbrev pub meets : Signature → Answer → Expected → Bool
meets S goal is_goal = true
meets S goal (is_value s) = false
meets S goal (is_refused n) = false
meets S (answer o) is_goal = false
meets S (answer (failed e)) (is_value s) = false
meets S (answer (failed e)) (is_refused n) = eqb e n
meets S (answer (evaluated v ps c)) (is_value s) = is_written S v (terms_of s)
meets S (answer (evaluated v ps c)) (is_refused n) = false

abbrev pub evaluation_from : Case → Signature → Written one → Evaluated one
evaluation_from k S t = expression_of k.words S.symbols S.rules t [] k.depth (record { calls = k.calls; words = 0 })

abbrev pub term_meets : Signature → Case → List (Written one) → Bool
term_meets S k [] = false
term_meets S k (t ∷ ts) = meets S (answer_by (evaluation_from k S) S t) k.expected

abbrev pub all_meet : Signature → List Case → Bool
all_meet S [] = true
all_meet S (k ∷ ks) = term_meets S k (terms_of k.term) && all_meet S ks

-- Do the cases behind a text all come out?
abbrev pub loaded_meets : Loaded → List Case → Bool
loaded_meets (refused e line) ks = false
loaded_meets (loaded S) ks = all_meet S ks

pub record TextCases : Type 0 where
  pub text : List String
  pub cases : List Case

abbrev pub all_expected : List TextCases → Bool
all_expected [] = true
all_expected (k ∷ ks) = loaded_meets (signature_of (lines_of k.text)) k.cases && all_expected ks
