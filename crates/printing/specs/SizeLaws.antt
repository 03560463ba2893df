-- How many bytes a line has, at most: a term prints 67 for each node, so a buffer of one size is enough for each line.
use Rattle.std.specs.Prelude.{ℕ, ◌+◌, ◌-◌, ◌*◌, ◌≤◌, ◌<◌, Bool, true, false, cond, List, [], ◌∷◌, ◌++◌, map, eqb, leb, get_or, length, take, drop, Result, Ok, Err}
use Rattle.std.proofs.Common.{arith, length-append}
use Rattle.std.proofs.lemmas.List.{get_or-map, get_or_past, length-take, length-map}
use Rattle.terms.specs.Numbers.{by_less}
use Rattle.terms.specs.Term.{Kind, one, many, Syn, var, app, nil, cons, Term}
use Rattle.source_text.specs.Parts.{part_of}
use Rattle.arena.specs.Rows.{Rows}
use Rattle.names.specs.Names.{Name, decimal, clause_name}
use Rattle.names.specs.Symbols.{Symbol, symbol_of, symbol_at, no_symbol, column}
use Rattle.refusals.specs.Refusals.{number_of}
use Rattle.refusals.specs.declared.Refusal.{Refusal}
use Rattle.resolution.specs.Preorder.{entry}
use Rattle.byte_output.specs.Output.{numeral}
use Rattle.byte_output.specs.NumeralLaws.{digits_short, numeral_short}
use Rattle.listing.specs.Listing.{line_end}
use Rattle.sessions.specs.declared.Verdict.{Verdict}
use Rattle.sessions.specs.declared.Verdict.TheVariants.{Proved, Nothing, Undecided}
use Rattle.printing.specs.Terms.{space, closing, head_bytes, constant_bytes, term_bytes, printed_nodes, most_nodes}
use Rattle.printing.specs.Listing.{value_word, entry_line}
use Rattle.printing.specs.Lines.{rule_name, rule_names, verdict_word, verdict_line, value_line}

-- The bytes of a printed term, 67 for each of 4,096 nodes, and of a line, at most.
abbrev pub term_size : ℕ
term_size = 274432

abbrev pub line_size : ℕ
line_size = 274560

-- The names of symbols are at most as long as a word, and those of rules as a word, a dot and eight digits.
abbrev pub SymbolsShort : List Symbol → Type 0
SymbolsShort symbols = (i : ℕ) → i < length symbols → length (symbol_at symbols i).name ≤ 64

abbrev pub RulesShort : List Name → Type 0
RulesShort rules = (i : ℕ) → i < length rules → length (get_or rules i []) ≤ 73

-- One of two lists.
either_short : (b : Bool) (xs ys : List ℕ) (n : ℕ) → length xs ≤ n → length ys ≤ n → length (cond b xs ys) ≤ n
either_short true xs ys n l m = l
either_short false xs ys n l m = m

part_short : (text : List ℕ) (start n : ℕ) → length (part_of text start n) ≤ n
part_short text start n =
    either_short (leb (start + n) (length text)) (take n (drop start text)) [] n (let e = length-take n (drop start text) in omega arith) (omega arith)

-- So they are where the rows say that the words are short.
module _ (text : List ℕ) (rows : Rows) (short : (i : ℕ) → i < length rows → column (get_or rows i []) 1 ≤ 64) where
  pub symbols_short : SymbolsShort (map (symbol_of text) rows)
  unfolding symbol_of
  symbols_short i l =
      let m : i < length rows = let e = length-map rows (symbol_of text) in omega arith in
      rw (get_or-map (symbol_of text) rows i [] no_symbol m)
      (let s = short i m in let p = part_short text (column (get_or rows i []) 0) (column (get_or rows i []) 1) in omega arith)

  pub rules_short : RulesShort (rule_names text rows)
  rules_short i l =
      let m : i < length rows = let e = length-map rows (rule_name text) in omega arith in
      let row = get_or rows i [] in
      let word = part_of text (column row 0) (column row 1) in
      let s = short i m in
      let p = part_short text (column row 0) (column row 1) in
      let d = digits_short 7 (column row 2 - 1) in
      let a = length-append word (46 ∷ decimal (column row 2 - 1)) in
      rw (get_or-map (rule_name text) rows i [] [] m)
      (either_short (eqb (column row 2) 0) word (clause_name word (column row 2 - 1)) 73 (omega arith) (omega arith))

module _ (symbols : List Symbol) (short : SymbolsShort symbols) where
  name_short : (f : ℕ) → length (symbol_at symbols f).name ≤ 64
  name_short f = by_less f (length symbols) (λ l _. short f l) (λ l _. rw (get_or_past symbols f no_symbol l) (omega arith))

  constant_short : (f : ℕ) → length (constant_bytes (symbol_at symbols f)) ≤ 66
  constant_short f =
      let n = name_short f in
      let a = length-append (head_bytes (symbol_at symbols f)) (closing ∷ []) in
      either_short (eqb (symbol_at symbols f).output 0) (head_bytes (symbol_at symbols f) ++ (closing ∷ [])) (symbol_at symbols f).name 66 (omega arith) (omega arith)

  -- A term has one byte less: that of the space that stands in front of an argument.
  spare : Kind → ℕ
  spare one = 1
  spare many = 0

  term_short : {s : Kind} (t : Syn s) → spare s + length (term_bytes symbols t) ≤ 67 * printed_nodes t
  unfolding spare
  term_short (var x) = let n = numeral_short x in omega arith
  term_short (app f nil) = let n = constant_short f in omega arith
  term_short (app f (cons t ts)) =
      let n = name_short f in
      let a = length-append (head_bytes (symbol_at symbols f)) (term_bytes symbols (cons t ts) ++ (closing ∷ [])) in
      let b = length-append (term_bytes symbols (cons t ts)) (closing ∷ []) in
      let i = term_short (cons t ts) in
      omega arith
  term_short nil = omega arith
  term_short (cons t ts) =
      let a = length-append (term_bytes symbols t) (term_bytes symbols ts) in
      let i = term_short t in
      let j = term_short ts in
      omega arith

  module _ (t : Term) (l : printed_nodes t ≤ most_nodes) where
    pub term_fits : length (term_bytes symbols t) ≤ term_size
    unfolding spare
    term_fits = let i = term_short t in omega arith

    -- The line of a value,
    pub value_line_fits : (line : ℕ) → length (value_line symbols line t) ≤ line_size
    value_line_fits line =
        let i = term_fits in
        let n = numeral_short line in
        let a = length-append (numeral line ++ (space ∷ [])) (value_word ++ (term_bytes symbols t ++ line_end)) in
        let b = length-append (numeral line) (space ∷ []) in
        let d = length-append (term_bytes symbols t) line_end in
        omega arith

    -- and that of a node.
    pub entry_line_fits : (rules : List Name) → RulesShort rules → (height rule : ℕ) → length (entry_line symbols rules (entry height rule t)) ≤ line_size
    entry_line_fits rules named height rule =
        let i = term_fits in
        let n = numeral_short height in
        let name = get_or rules rule [] in
        let m : length name ≤ 73 = by_less rule (length rules) (λ l _. named rule l) (λ l _. rw (get_or_past rules rule [] l) (omega arith)) in
        let a = length-append (numeral height) (space ∷ (name ++ (space ∷ (term_bytes symbols t ++ line_end)))) in
        let b = length-append name (space ∷ (term_bytes symbols t ++ line_end)) in
        let d = length-append (term_bytes symbols t) line_end in
        omega arith

-- The line of a verdict that has no term.
word_short : (v : Result Verdict Refusal) → length (verdict_word v) ≤ 18
word_short (Ok (Proved steps nodes counts)) = omega arith
word_short (Ok (Nothing steps counts)) = omega arith
word_short (Ok (Undecided steps counts)) = omega arith
word_short (Err e) = let n = numeral_short (number_of e) in omega arith

pub verdict_line_fits : (line : ℕ) (v : Result Verdict Refusal) → length (verdict_line line v) ≤ line_size
verdict_line_fits line v =
    let n = numeral_short line in
    let w = word_short v in
    let a = length-append (numeral line ++ (space ∷ [])) (verdict_word v ++ line_end) in
    let b = length-append (numeral line) (space ∷ []) in
    let d = length-append (verdict_word v) line_end in
    omega arith
