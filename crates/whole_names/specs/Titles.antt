-- The titles of declarations (loader/specs/Stored.antt): what they spell, those that rows keep, and the one with a number.
use Rattle.std.specs.Prelude.{ℕ, List, get_or}
use Rattle.term_parser.specs.Source.{Place, place}
use Rattle.names.specs.Names.{Name}
use Rattle.names.specs.Symbols.{column}
use Rattle.rules.specs.StoredRows.{titled}
use Rattle.rules.specs.declared.Title.{Title}
use Rattle.loader.specs.Stored.{title_at}

-- What a title spells: the bytes at its place, and `.n` behind them for the clause with number n.
abbrev pub spelling : List ℕ → Title → Name
spelling text t = titled text t.word.start t.word.size t.clause

-- The place that the row of a sort or a symbol keeps: its columns 0 and 1 are start and length of the name.
abbrev pub row_place : List ℕ → Place
row_place row = place (column row 0) (column row 1)

-- The title that a rule's row keeps: its columns are start and length of the name, and 0 or a clause's number + 1.
abbrev pub row_title : List ℕ → Title
row_title row = record { word = record { start = column row 0; size = column row 1 }; clause = column row 2 }

-- The place and the title with number i.
abbrev pub place_number : List Place → ℕ → Place
place_number ps i = get_or ps i (place 0 0)

abbrev pub title_number : List Title → ℕ → Title
title_number ts i = get_or ts i (title_at (place 0 0) 0)
