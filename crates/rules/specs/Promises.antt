-- What the functions of `rules` ask of and owe to each other.
use Rattle.std.specs.Prelude.{ℕ, ◌+◌, ◌*◌, ◌≤◌, ◌<◌, ◌≡◌, Option, Result, Ok, Err, List, [], ◌∷◌, map, length, take, get_or, set}
use Rattle.std.proofs.lemmas.List.Edits.{sets}
use Rattle.arena.specs.Cells.{headers, Reference, WellFormed, Same, cells, terms_of}
use Rattle.arena.specs.Copies.{pattern_room}
use Rattle.resolution.specs.Fresh.{met, met_back}
use Rattle.resolution.specs.Rules.{Rule}
use Rattle.resolution.specs.Search.{words}
use Rattle.meeting.specs.Places.{Records, numbers_below}
use Rattle.meeting.specs.Contract.{term_of}
use Rattle.term_parser.specs.Source.{one, many}
use Rattle.term_parser.specs.Standing.{Written, size}
use Rattle.names.specs.Symbols.{Rows, Symbol, Variable, column, row_at, symbols_of, variables_of}
use Rattle.names.specs.Standing.{Stands}
use Rattle.patterns.specs.Patterns.{Out, bad, good, pattern_of}
use Rattle.patterns.specs.Laying.{Laid, laid, lay}
use Rattle.rules.specs.LayingLaws.{RuleLying}
use Rattle.rules.specs.Rules.{Ruled, barred, ruled, rule_of, entering}
use Rattle.rules.specs.PatternLaws.{arities_of, InputsUpto}
use Rattle.rules.specs.StoredRows.{titled, Kept}
use Rattle.rules.specs.Layout.{references, rule_words, row_of}
use Rattle.refusals.specs.declared.Refusal.{Refusal}
use Rattle.refusals.specs.Refusals.{number_of}
use Rattle.refusals.specs.Refused.{Refuses}
use Rattle.rules.specs.declared.Space.{Space}
use Rattle.rules.specs.declared.Title.{Title}
use Rattle.rules.specs.declared.Body.{Body}

-- What the judgments of a rule come to: a refusal; or the premises' references, the words used then, the conclusion laid behind them, the variables and the room.
pub data Twofold : Type 0 where
  no : ℕ → Twofold
  yes : List ℕ → ℕ → Laid → List Variable → ℕ → Twofold

abbrev pub onward : Laid → Out one → Twofold
onward (laid rs w u) (bad e) = no e
onward (laid rs w u) (good t vs room) = yes rs u (lay t w u) vs room

abbrev pub both : List Symbol → Written one → Out many → List ℕ → ℕ → Twofold
both symbols c (bad e) w u = no e
both symbols c (good ps vs room) w u = onward (lay ps w u) (pattern_of symbols c (0 ∷ []) vs room)

-- The same of the code's answer, with the variables' rows, the words and the premises' references at exit.
abbrev pub told : List ℕ → ℕ → Result Body Refusal → Rows → List ℕ → List ℕ → Twofold
told text n (Err e) vx wx heads = no (number_of e)
told text n (Ok b) vx wx heads = yes (take n heads) b.middle (laid (b.conclusion ∷ []) wx b.space.used) (variables_of text vx b.variables) b.space.room

abbrev pub Bounded : ℕ → ℕ → Result Body Refusal → Type 0
Bounded u room (Err e) = Unit {0}
Bounded u room (Ok b) = (b.variables ≤ 64) × (u ≤ b.middle) × (b.middle ≤ b.space.used) × (b.space.used + 2 * b.space.room ≤ u + 2 * room)

-- `judgments`: n premises from the row p on, and a conclusion at a row of its own.
pub record Judging (text : List ℕ) (premises : Rows) (p n : ℕ) (conclusions : Rows) (here : ℕ) (symbols : List Symbol) (vs : Rows) (w : List ℕ) (u room : ℕ)
    (r : Result Body Refusal) (vx : Rows) (wx heads : List ℕ) : Type 0 where
  pub bounded : Bounded u room r
  pub same : (ps : Written many) (q : ℕ) → Stands text premises p ps q → size ps ≡ n → (c : Written one) (q' : ℕ) → Stands text conclusions here c q'
      → told text n r vx wx heads ≡ both symbols c (pattern_of symbols ps [] (variables_of text vs 0) room) w u

-- What a walk asks beside the stack: a reference to a term of at most `most` words.
pub record RootAsked (pattern : List ℕ) (used r most : ℕ) : Type 0 where
  pub root : Reference pattern_room (cells pattern) pattern_room used r
  pub small : words (term_of pattern r) ≤ most

-- What `order` asks of a rule's terms: words in use that are in form, and among them the conclusion and the premises, terms of at most `most` words each.
pub record OrderAsked (pattern : List ℕ) (used : ℕ) (heads : List ℕ) (conclusion : ℕ) (most : ℕ) : Type 0 where
  pub within : used ≤ length pattern
  pub low : pattern_room + used ≤ headers
  pub formed : WellFormed pattern_room (cells pattern) pattern_room used
  pub head : RootAsked pattern used conclusion most
  pub body : (i : ℕ) → i < length heads → RootAsked pattern used (get_or heads i 0) most

-- What it owes: the variables of the conclusion counted, and the places of all in the table.
pub record Ordered (pattern heads : List ℕ) (conclusion : ℕ) (r : ℕ) (table : List (Option ℕ)) (count : ℕ) : Type 0 where
  pub counted : r ≡ length (met (term_of pattern conclusion) [])
  pub recorded : Records (met_back (terms_of (term_of pattern) heads) (met (term_of pattern conclusion) [])) table count

-- What `keep` asks: a rule whose premises lie in the words from `from` up to `middle` and whose conclusion lies from there up to `used`.
pub record KeepAsked (pattern : List ℕ) (from middle used : ℕ) (heads : List ℕ) (conclusion : ℕ) (variables : Rows) : Type 0 where
  pub rule : (arities : List ℕ) × (R : Rule) × RuleLying arities R pattern from heads middle conclusion used
  pub rising : (from ≤ middle) × (middle ≤ used)
  -- 2 words for each of 1,024 nodes
  pub small : used ≤ from + 2048
  pub low : used ≤ 65536
  pub few : length heads ≤ 16
  pub vars : length variables ≤ 64

-- What it owes: a row that keeps that rule, where the variables are those of the rule and the title is its name.
pub record Keeping (pattern : List ℕ) (from middle used : ℕ) (heads : List ℕ) (conclusion : ℕ) (variables : Rows) (title : Title) (row : List ℕ) : Type 0 where
  pub placed : (column row 0 ≡ title.word.start) × (column row 1 ≡ title.word.size) × (column row 2 ≡ title.clause)
  pub kept : (text arities : List ℕ) (R : Rule) → RuleLying arities R pattern from heads middle conclusion used
      → titled text title.word.start title.word.size title.clause ≡ R.name → map (λ x. x.sort) (variables_of text variables (length variables)) ≡ R.sorts
      → met R.conclusion (met R.premises []) ≡ numbers_below (length R.sorts)
      → Kept text arities pattern row R from used
  -- It is the row of that rule, where the references are those of its terms.
  pub exact : (text arities : List ℕ) (R : Rule) → RuleLying arities R pattern from heads middle conclusion used
      → map (λ x. x.sort) (variables_of text variables (length variables)) ≡ R.sorts
      → met R.conclusion (met R.premises []) ≡ numbers_below (length R.sorts)
      → heads ≡ references R.premises from → conclusion ∷ [] ≡ references R.conclusion middle → row ≡ row_of title from R

-- What stands in the rows: n premises from the row p on, and a conclusion at a row of its own.
pub record Source (text : List ℕ) (premises : Rows) (p n : ℕ) (conclusions : Rows) (here : ℕ) : Type 0 where
  pub judgments : Written many
  pub behind : ℕ
  pub stand : Stands text premises p judgments behind
  pub number : size judgments ≡ n
  pub conclusion : Written one
  pub end : ℕ
  pub stands : Stands text conclusions here conclusion end

-- What `rule` asks: a source; symbols with at most 16 inputs; well formed words, with 2 words for each of at most 1,024 nodes; and rows for all rules.
pub record RuleAsked (text : List ℕ) (premises : Rows) (p n : ℕ) (conclusions : Rows) (here : ℕ) (symbols : Rows) (count : ℕ) (w : List ℕ) (u room : ℕ) (rules : Rows) : Type 0 where
  pub source : Source text premises p n conclusions here
  pub lent : count ≤ length symbols
  pub few : count ≤ 1024
  pub inputs : (i : ℕ) → i < count → column (row_at symbols i) 6 ≤ 16
  pub upto : (ns : ℕ) × InputsUpto ns (symbols_of text symbols count)
  pub formed : WellFormed pattern_room (cells w) pattern_room u
  pub words : u + 2 * room ≤ length w
  pub low : u + 2 * room ≤ 65536
  pub small : room ≤ 1024
  pub rows : 1024 ≤ length rules

-- A rule was entered: its row and its words keep it, its name stands at the title's place, with the title's clause number, and no earlier word changed.
pub record RuleDone (text arities : List ℕ) (title : Title) (w : List ℕ) (u room : ℕ) (rules : Rows) (number : ℕ) (w' : List ℕ) (rules' : Rows) (R : Rule) (room' : ℕ) (r : Result Space Refusal) : Type 0 where
  pub used : ℕ
  pub is : r ≡ Ok (record { used = used; room = room' })
  pub row : List ℕ
  pub written : rules' ≡ set rules number row
  pub placed : (column row 0 ≡ title.word.start) × (column row 1 ≡ title.word.size) × (column row 2 ≡ title.clause)
  pub kept : Kept text arities w' row R u used
  -- Row and words are the rule's, and no other word changed.
  pub exact : row ≡ row_of title u R
  pub laid : w' ≡ sets w u (rule_words u R)
  pub same : Same pattern_room (cells w) (cells w') u
  pub fits : used + 2 * room' ≤ u + 2 * room

-- What the definition says, and what the code answers and leaves.
abbrev pub Entering : List ℕ → List ℕ → Title → List ℕ → ℕ → ℕ → Rows → ℕ → List ℕ → Rows → Ruled → Result Space Refusal → Type 0
Entering text arities title w u room rules number w' rules' (barred e) r = Refuses r e
Entering text arities title w u room rules number w' rules' (ruled R room') r = RuleDone text arities title w u room rules number w' rules' R room' r

-- What `rule` owes.
pub record RuleEntered (text : List ℕ) (premises : Rows) (p n : ℕ) (conclusions : Rows) (here : ℕ) (symbols : List Symbol) (title : Title) (w : List ℕ) (u room : ℕ)
    (rules : Rows) (number : ℕ) (r : Result Space Refusal) (w' : List ℕ) (rules' : Rows) : Type 0 where
  pub same : (ps : Written many) (q : ℕ) → Stands text premises p ps q → size ps ≡ n → (c : Written one) (q' : ℕ) → Stands text conclusions here c q'
      → Entering text (arities_of symbols) title w u room rules number w' rules' (entering number (rule_of symbols (titled text title.word.start title.word.size title.clause) ps c room)) r
