-- What one attempt asks and leaves (document 01, "Search" and refusal 37), each contract a record with named parts.
use Rattle.std.specs.Prelude.{ℕ, ◌+◌, ◌-◌, ◌≤◌, ◌<◌, ◌≡◌, Bool, true, false, ◌≢◌, Option, Some, None, Result, Ok, Err, IfErr, List, map, get_or, length}
use Rattle.terms.specs.Term.{Term, sub}
use Rattle.terms.specs.Unification.{Outcome, fails, unified, unify}
use Rattle.arena.specs.Cells.{headers, denote, Reference, Same, cells, terms_of}
use Rattle.arena.specs.Copies.{pattern_room, term_room, numbered, moved}
use Rattle.arena.specs.Form.{in_form}
use Rattle.arena.specs.Rows.{Rows, column}
use Rattle.bindings.specs.Tables.{undone}
use Rattle.bindings.specs.Stored.{held, Form}
use Rattle.unifier.specs.Promises.{Scratch}
use Rattle.resolution.specs.Rules.{Rule}
use Rattle.resolution.specs.Fresh.{body}
use Rattle.resolution.specs.Search.{within, over, Attempt, exceeded, missed, entered, attempt}
use Rattle.attempts.specs.StoredRules.{pattern_of, rule_of, Part, Root, StoredRule, RuleInForm}
use Rattle.attempts.specs.declared.Stored.{Stored}
use Rattle.attempts.specs.declared.Tried.{Tried}
use Rattle.attempts.specs.declared.Tried.TheVariants.{Missed, Entered}
use Rattle.refusals.specs.declared.Refusal.{Refusal}
use Rattle.refusals.specs.declared.Refusal.TheVariants.{OverLimit}

-- The state of a search, lent and in form: `counter` variables, `used` words and `bound` bindings; and there is room for what the
-- limits allow, `most` variables and `limit` words. The encoding's room is a number of its own, the same for a whole session whatever
-- limits its goals have.
pub record State (most limit : ℕ) (words : List ℕ) (rows links marks stack : Rows) (counter used bound : ℕ) : Type 0 where
  pub form : Form term_room words rows counter used bound
  pub scratch : Scratch term_room limit links marks stack
  pub lent_words : limit ≤ length words
  pub lent_rows : most ≤ length rows
  pub enough : most ≤ term_room
  pub low : term_room + limit ≤ headers

-- What an attempt asks: a rule in form, a state, and a goal that refers to it.
pub record Asked (most limit : ℕ) (pattern premises places : List ℕ) (stored : Stored) (words : List ℕ) (rows links marks stack : Rows)
    (counter used bound goal : ℕ) : Type 0 where
  pub rule : StoredRule pattern premises places stored
  pub state : State most limit words rows links marks stack counter used bound
  pub refers : Reference term_room (cells words) counter used goal

-- The theory's attempt for an answer, and the bindings that then stand.
abbrev pub attempt_of : List ℕ → Rows → Result Tried Refusal → Attempt
attempt_of words rows (Err e) = exceeded
attempt_of words rows (Ok (Missed counter)) = missed counter
attempt_of words rows (Ok (Entered i)) = entered (held term_room words rows i.bound) i.variables i.used

-- What a pattern's reference becomes, when the part from `from` on was copied to the address `used` with new variables from the counter on.
abbrev pub copied_at : List ℕ → ℕ → ℕ → ℕ → ℕ → ℕ
copied_at places counter from used r = moved places counter (pattern_room + from) (term_room + used) r

-- What a premise's reference becomes by an attempt from `used` words on: the premises are copied behind the conclusion.
abbrev pub premise_at : List ℕ → ℕ → Stored → ℕ → ℕ → ℕ
premise_at places counter stored used r = copied_at places counter stored.from (used + stored.head) r

-- Words that are in form over a signature's arities are so again with a part of the pattern copied behind them, if that part is in form.
abbrev pub GrownInForm : List ℕ → ℕ → ℕ → List ℕ → List ℕ → ℕ → ℕ → ℕ → Type 0
GrownInForm pattern from count words words' used counter counter' =
    (arities : List ℕ) → in_form pattern from (from + count) pattern_room pattern_room arities ≡ true
    → in_form words 0 used term_room counter arities ≡ true → in_form words' 0 (used + count) term_room counter' arities ≡ true

-- Nothing stays but the counter's advance: the rows are those at entry, and the state is in form with as many words and bindings as at
-- entry.
pub record Back (words' : List ℕ) (rows rows' : Rows) (counter used bound : ℕ) : Type 0 where
  pub same : rows' ≡ rows
  pub form : Form term_room words' rows' counter used bound

-- Bindings were only added, and undoing them gives the very rows at entry.
pub record Added (rows rows' : Rows) (bound bound' : ℕ) : Type 0 where
  pub more : bound ≤ bound'
  pub kept : (i : ℕ) → i < bound → column 1 rows' i ≡ column 1 rows i
  pub still : (v : ℕ) → column 0 rows v ≢ 0 → column 0 rows' v ≡ column 0 rows v
  pub back : undone rows' bound (bound' - bound) ≡ rows

-- The rule was entered: the state is in form with the counts of the answer, and the premises stand in it.
pub record Inside (premises places : List ℕ) (stored : Stored) (R : Rule) (words' : List ℕ) (rows rows' : Rows)
    (counter used bound counter' used' bound' : ℕ) : Type 0 where
  pub form : Form term_room words' rows' counter' used' bound'
  pub later : counter ≤ counter'
  pub longer : used ≤ used'
  pub added : Added rows rows' bound bound'
  -- each premise's reference is in form, and in order they denote the instances of the premises
  pub references : (i : ℕ) → i < length premises
      → Reference term_room (cells words') counter' used' (premise_at places counter stored used (get_or premises i 0))
  pub denoted : terms_of (denote term_room (cells words')) (map (premise_at places counter stored used) premises) ≡ body counter R

-- What an answer leaves.
abbrev pub Left : List ℕ → List ℕ → Stored → Rule → List ℕ → Rows → Rows → ℕ → ℕ → ℕ → Result Tried Refusal → Type 0
Left premises places stored R words' rows rows' counter used bound (Err e) = Back words' rows rows' counter used bound
Left premises places stored R words' rows rows' counter used bound (Ok (Missed counter')) =
    (counter ≤ counter') × Back words' rows rows' counter' used bound
Left premises places stored R words' rows rows' counter used bound (Ok (Entered i)) =
    Inside premises places stored R words' rows rows' counter used bound i.variables i.used i.bound

-- Are the words in form over a signature's arities, with the counts that an answer leaves?
abbrev pub left_in_form : List ℕ → ℕ → ℕ → List ℕ → Result Tried Refusal → Bool
left_in_form words counter used arities (Err e) = in_form words 0 used term_room counter arities
left_in_form words counter used arities (Ok (Missed counter')) = in_form words 0 used term_room counter' arities
left_in_form words counter used arities (Ok (Entered i)) = in_form words 0 i.used term_room i.variables arities

-- `try_rule` tried a rule with a goal.
pub record Attempted (most limit : ℕ) (pattern premises places : List ℕ) (stored : Stored) (words words' : List ℕ)
    (rows rows' links links' marks marks' stack stack' : Rows) (counter used bound goal : ℕ) (answer : Result Tried Refusal) : Type 0 where
  -- the limits are the only refusal
  pub limits : IfErr answer (λ e. e ≡ OverLimit)
  -- the answer is the theory's
  pub is : attempt_of words' rows' answer
      ≡ attempt (within most limit) (held term_room words rows bound) (denote term_room (cells words) goal) used counter
      (rule_of pattern premises stored)
  -- the words that were in use stand, and so do those past the rule's; there are as many
  pub kept : Same term_room (cells words) (cells words') used
  pub past : (i : ℕ) → used + stored.head + stored.body ≤ i → cells words' i ≡ cells words i
  pub long : length words' ≡ length words
  -- what the answer leaves
  pub left : Left premises places stored (rule_of pattern premises stored) words' rows rows' counter used bound answer
  -- words in form over a signature's arities stay so, if the rule's are
  pub stays_in_form : (arities : List ℕ) → RuleInForm pattern stored arities → in_form words 0 used term_room counter arities ≡ true
      → left_in_form words' counter used arities answer ≡ true
  -- the scratch is as it was
  pub links_kept : links' ≡ links
  pub marks_kept : marks' ≡ marks
  pub stack_kept : stack' ≡ stack

-- The conclusion

-- What copying the conclusion and unifying it asks: its words and its reference in form, a state, and a goal.
pub record HeadAsked (most limit : ℕ) (pattern places : List ℕ) (stored : Stored) (words : List ℕ) (rows links marks stack : Rows)
    (counter used bound goal : ℕ) : Type 0 where
  pub part : Part pattern places (stored.from + stored.body) stored.head stored.met
  pub root : Root pattern places (stored.from + stored.body) stored.head stored.met stored.conclusion
  pub few : stored.met ≤ pattern_room
  pub state : State most limit words rows links marks stack counter used bound
  pub refers : Reference term_room (cells words) counter used goal

-- The conclusion's instance by the table of places.
abbrev pub instance : List ℕ → List ℕ → Stored → ℕ → Term
instance pattern places stored counter = sub (numbered places counter) (pattern_of pattern stored.conclusion)

-- The conclusion was unified with the goal: so many bindings stand, and the state is in form with the conclusion in it.
pub record Joined (pattern : List ℕ) (stored : Stored) (words words' : List ℕ) (rows rows' : Rows)
    (counter used bound bound' : ℕ) : Type 0 where
  pub form : Form term_room words' rows' (counter + stored.met) (used + stored.head) bound'
  pub added : Added rows rows' bound bound'
  pub grown : GrownInForm pattern (stored.from + stored.body) stored.head words words' used counter (counter + stored.met)

-- The theory's unification of the goal with the conclusion's instance, by what is stored.
abbrev pub meeting : List ℕ → List ℕ → Stored → List ℕ → Rows → ℕ → ℕ → ℕ → Outcome
meeting pattern places stored words rows counter bound goal =
    unify (counter + stored.met) (held term_room words rows bound) (denote term_room (cells words) goal)
    (instance pattern places stored counter)

-- What came of the goal and the conclusion: the limits refuse the conclusion; or it does not unify, and the rows are those at entry; or it
-- does.
abbrev pub Met : ℕ → ℕ → List ℕ → List ℕ → Stored → List ℕ → List ℕ → Rows → Rows → ℕ → ℕ → ℕ → ℕ → Result (Option ℕ) Refusal → Type 0
Met most limit pattern places stored words words' rows rows' counter used bound goal (Err e) =
    (over (within most limit) (counter + stored.met) (used + stored.head) ≡ true) × (rows' ≡ rows)
Met most limit pattern places stored words words' rows rows' counter used bound goal (Ok None) =
    (over (within most limit) (counter + stored.met) (used + stored.head) ≡ false)
    × (meeting pattern places stored words rows counter bound goal ≡ fails)
    × (rows' ≡ rows)
Met most limit pattern places stored words words' rows rows' counter used bound goal (Ok (Some bound')) =
    (over (within most limit) (counter + stored.met) (used + stored.head) ≡ false)
    × (meeting pattern places stored words rows counter bound goal ≡ unified (held term_room words' rows' bound'))
    × Joined pattern stored words words' rows rows' counter used bound bound'

-- `try_head` copied the conclusion and unified the goal with it.
pub record HeadTried (most limit : ℕ) (pattern places : List ℕ) (stored : Stored) (words words' : List ℕ)
    (rows rows' links links' marks marks' stack stack' : Rows) (counter used bound goal : ℕ) (answer : Result (Option ℕ) Refusal) : Type 0 where
  pub limits : IfErr answer (λ e. e ≡ OverLimit)
  pub came : Met most limit pattern places stored words words' rows rows' counter used bound goal answer
  -- the words that were in use stand, and so do those past the conclusion's; there are as many
  pub kept : Same term_room (cells words) (cells words') used
  pub past : (i : ℕ) → used + stored.head ≤ i → cells words' i ≡ cells words i
  pub long : length words' ≡ length words
  -- the scratch is as it was
  pub links_kept : links' ≡ links
  pub marks_kept : marks' ≡ marks
  pub stack_kept : stack' ≡ stack

-- The premises

-- What copying the premises asks: their words in form, and a state in form with the conclusion in it; `mark` bindings stood at entry.
pub record BodyAsked (most limit : ℕ) (pattern places : List ℕ) (stored : Stored) (words : List ℕ) (rows : Rows)
    (counter used mark bound : ℕ) : Type 0 where
  pub part : Part pattern places stored.from stored.body stored.variables
  pub few : stored.variables ≤ pattern_room
  pub grows : stored.met ≤ stored.variables
  pub form : Form term_room words rows (counter + stored.met) (used + stored.head) bound
  pub marked : mark ≤ bound
  pub lent_words : limit ≤ length words
  pub lent_rows : most ≤ length rows
  pub enough : most ≤ term_room
  pub low : term_room + limit ≤ headers

-- The premises were copied: the bindings are the same, the state is in form, and each reference among the premises' words denotes its
-- instance.
pub record Copied (pattern places : List ℕ) (stored : Stored) (words words' : List ℕ) (rows rows' : Rows)
    (counter used bound : ℕ) : Type 0 where
  pub same : rows' ≡ rows
  pub form : Form term_room words' rows' (counter + stored.variables) (used + stored.head + stored.body) bound
  pub bindings : held term_room words' rows' bound ≡ held term_room words rows bound
  pub references : (r : ℕ) → Root pattern places stored.from stored.body stored.variables r
      → Reference term_room (cells words') (counter + stored.variables) (used + stored.head + stored.body)
      (premise_at places counter stored used r)
  pub denotes : (r : ℕ) → Root pattern places stored.from stored.body stored.variables r
      → denote term_room (cells words') (premise_at places counter stored used r) ≡ sub (numbered places counter) (pattern_of pattern r)
  pub grown : GrownInForm pattern stored.from stored.body words words' (used + stored.head)
      (counter + stored.met) (counter + stored.variables)

-- What came of the premises: they were copied, or the limits refuse them and the bindings are undone to the mark.
abbrev pub Done : ℕ → ℕ → List ℕ → List ℕ → Stored → List ℕ → List ℕ → Rows → Rows → ℕ → ℕ → ℕ → ℕ → Result (Unit {0}) Refusal → Type 0
Done most limit pattern places stored words words' rows rows' counter used mark bound (Err e) =
    (over (within most limit) (counter + stored.variables) (used + stored.head + stored.body) ≡ true)
    × (rows' ≡ undone rows mark (bound - mark))
Done most limit pattern places stored words words' rows rows' counter used mark bound (Ok u) =
    (over (within most limit) (counter + stored.variables) (used + stored.head + stored.body) ≡ false)
    × Copied pattern places stored words words' rows rows' counter used bound

-- `try_body` copied the premises behind the conclusion, or refused them.
pub record BodyTried (most limit : ℕ) (pattern places : List ℕ) (stored : Stored) (words words' : List ℕ) (rows rows' : Rows)
    (counter used mark bound : ℕ) (answer : Result (Unit {0}) Refusal) : Type 0 where
  pub limits : IfErr answer (λ e. e ≡ OverLimit)
  pub done : Done most limit pattern places stored words words' rows rows' counter used mark bound answer
  -- the words that were in use stand, and so do those past the premises'; there are as many
  pub kept : Same term_room (cells words) (cells words') (used + stored.head)
  pub past : (i : ℕ) → used + stored.head + stored.body ≤ i → cells words' i ≡ cells words i
  pub long : length words' ≡ length words
