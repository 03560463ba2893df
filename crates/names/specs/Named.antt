-- The symbols that source terms may name: those of their rows, in the terms' text.
use Rattle.std.specs.Prelude.{List, length}
use Rattle.names.specs.Symbols.{Symbol, symbols_of}
use Rattle.names.specs.declared.SourceTerms.{SourceTerms}

abbrev pub symbols_named : SourceTerms → List Symbol
symbols_named t = symbols_of t.text.now t.symbols.now (length t.symbols.now)
