-- `salvage::any_mark` meets its contract. The loop's invariant: if none is found, the places up to here have no mark.
use Rattle.salvage.specs.Inner.{Unmarked}
use Rattle.salvage.proofs.any_mark.Given as goal

abbrev pub invariant-loop-i : goal.invariant-loop-i
invariant-loop-i l = Unmarked l.here l.next l.found l.i
