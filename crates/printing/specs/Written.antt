-- What is written of printed terms.
use Rattle.std.specs.Prelude.{List, map}
use Rattle.names.specs.Symbols.{Symbol, symbol_of}
use Rattle.printing.specs.declared.printed.PrintedTerms.{PrintedTerms}

-- The symbols, by the text in which their names stand.
abbrev pub symbols_in : PrintedTerms → List Symbol
symbols_in p = map (symbol_of p.text.now) p.symbols.now
