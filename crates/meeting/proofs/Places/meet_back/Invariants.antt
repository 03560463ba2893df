-- `meet_back` meets its contract. The loop's invariant: as many terms as the loop has read, from the last back, are met.
use Prim.Native.Nat.{◌-◌}
use lib.ListN.{length}
use Rattle.meeting.specs.Contract.{term_of}
use Rattle.meeting.proofs.Back.{Back}
use Rattle.meeting.proofs.Places.meet_back.Given as goal

abbrev pub invariant-loop-reference : goal.invariant-loop-reference
invariant-loop-reference l = Back (term_of l.words) l.references l.initial.self.places l.initial.self.count (length l.references - length l.yielded) l.self.places l.self.count
