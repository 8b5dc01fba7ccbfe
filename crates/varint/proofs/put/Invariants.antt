-- `varint::put` meets its contract. The loop's invariant, `Putting`: what is left to write, laid over what is there, is the whole.
use Rattle.varint.proofs.Putting.{Putting}
use Rattle.varint.proofs.put.Given as goal

abbrev pub invariant-loop-x : goal.invariant-loop-x
invariant-loop-x l = Putting l.initial.out l.at l.v l.out l.i l.x

abbrev pub decreases-loop-x : goal.decreases-loop-x
decreases-loop-x l = l.x
