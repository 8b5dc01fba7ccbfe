-- `laying::put_parts` meets its contract. The loop's invariant, `Parts`: what is laid and what is left are all the pieces, and there is room for them.
use Rattle.laying.proofs.Pieces.{Parts}
use Rattle.laying.proofs.put_parts.Given as goal

abbrev pub invariant-loop-length : goal.invariant-loop-length
invariant-loop-length l = Parts l.s l.initial.out l.at l.x l.lengths l.out l.next l.from l.length-index
