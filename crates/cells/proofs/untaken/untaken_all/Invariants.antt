-- `untaken::untaken_all` meets its contract. The loop's invariant: no segment of the cells passed lies in a range.
use lib.ListN.{length}
use Rattle.cells.proofs.Passing.{Passing}
use Rattle.cells.specs.Order.{cell_at, untaken_in}
use Rattle.cells.proofs.untaken.untaken_all.Given as goal

abbrev pub invariant-loop-i : goal.invariant-loop-i
invariant-loop-i l = Passing (λ k. untaken_in l.s (length l.zero) l.store l.n (cell_at l.s (length l.zero) l.store k)) l.n l.i
