-- `cells::distinct_by` meets its contract. The loop's invariant: whether the cells passed are apart, and that they are on their chains.
use lib.ListN.{length}
use Rattle.cells.proofs.Ordering.{Ordering}
use Rattle.cells.proofs.distinct_by.Given as goal

abbrev pub invariant-loop-i : goal.invariant-loop-i
invariant-loop-i l = Ordering l.s (length l.zero) l.store l.n l.chains l.apart l.i
