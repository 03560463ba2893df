-- Where a printer of terms and its output stand, and what is written.
use Rattle.std.specs.Prelude.{◌≡◌, ◌≤◌, length}
use Rattle.byte_output.specs.declared.Output.{Output}
use Rattle.evaluation_listing_kit.specs.declared.printer.Printer.{Printer}

-- It is written on, and the buffer is as long as it was.
abbrev pub Moved : Output → Output → Type 0
Moved o o' = (o.at ≤ o'.at) × (length o'.bytes.now ≡ length o.bytes.now)

-- Nothing is written.
abbrev pub Unmoved : Output → Output → Type 0
Unmoved o o' = (o'.at ≡ o.at) × (o'.bytes.now ≡ o.bytes.now)

-- It has opened and closed nodes, and the stack is as long as it was.
abbrev pub Stepped : Printer → Printer → Type 0
Stepped p p' = length p'.stack.now ≡ length p.stack.now
