-- `salvage::pass_blocks` meets its contract. The loop's invariant: the places up to here have no mark.
use Prim.Native.Nat.{◌-◌}
use Rattle.salvage.specs.Inner.{Passed}
use Rattle.salvage.proofs.pass_blocks.Given as goal

abbrev pub invariant-loop-at : goal.invariant-loop-at
invariant-loop-at l = Passed l.file l.from l.end l.at

abbrev pub decreases-loop-at : goal.decreases-loop-at
decreases-loop-at l = l.end - l.at
