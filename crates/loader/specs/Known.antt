-- The names that there are, by the rows in use.
use Rattle.std.specs.Prelude.{List, length}
use Rattle.names.specs.Names.{Name}
use Rattle.names.specs.Symbols.{Symbol, sorts_of, symbols_of}
use Rattle.loader.specs.declared.Known.{Known}

abbrev pub sorts_known : Known → List Name
sorts_known k = sorts_of k.text.now k.sorts.now (length k.sorts.now)

abbrev pub symbols_known : Known → List Symbol
symbols_known k = symbols_of k.text.now k.symbols.now (length k.symbols.now)
