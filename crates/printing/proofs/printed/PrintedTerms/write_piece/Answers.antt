use Rattle.printing.proofs.printed.PrintedTerms.write_piece.Goals as goal

pub returns-in-Space : goal.returns-in-Space
returns-in-Space c = rw c.in-Space.is c.write_byte.ensures
