-- `cells::find_on` meets its contract. The loop's invariant: the best so far is the lowest of the cells that the walk has passed.
use lib.ListN.{length}
use Rattle.cells.proofs.Finding.{Finding}
use Rattle.cells.proofs.Walking.{above}
use Rattle.cells.proofs.find_on.Given as goal

abbrev pub invariant-loop-cur : goal.invariant-loop-cur
invariant-loop-cur l = Finding l.s l.store (length l.zero) l.q l.c.0 l.n l.b l.cur l.best

abbrev pub decreases-loop-cur : goal.decreases-loop-cur
decreases-loop-cur l = above l.cur
