-- `tally::segments` meets its contract. The loop's invariant: how many of the cells passed are held.
use lib.ListN.{length}
use Rattle.cells.specs.Order.{cell_at}
use Rattle.tally.specs.Counting.{is_held}
use Rattle.tally.proofs.Passing.{Counted}
use Rattle.tally.proofs.segments.Given as goal

abbrev pub invariant-loop-i : goal.invariant-loop-i
invariant-loop-i l = Counted (λ k. is_held (cell_at l.s (length l.zero) l.store k)) l.n l.count l.i
