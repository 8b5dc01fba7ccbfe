-- `salvage::pass` meets its contract. The loop's invariant: the places up to here have no mark.
use Rattle.salvage.specs.Inner.{Passed}
use Rattle.salvage.proofs.pass.Given as goal

abbrev pub invariant-loop-at : goal.invariant-loop-at
invariant-loop-at l = Passed l.file l.from l.end l.at
