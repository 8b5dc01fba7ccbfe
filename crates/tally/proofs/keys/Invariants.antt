-- `tally::keys` meets its contract. The loop's invariant: how many of the cells passed are the first of their key.
use lib.ListN.{length}
use Rattle.cells.specs.Order.{cell_at}
use Rattle.tally.specs.Counting.{new_key_in}
use Rattle.tally.proofs.Passing.{Counted}
use Rattle.tally.proofs.keys.Given as goal

abbrev pub invariant-loop-i : goal.invariant-loop-i
invariant-loop-i l = Counted (λ k. new_key_in l.s (length l.zero) l.store k (cell_at l.s (length l.zero) l.store k)) l.n l.count l.i
