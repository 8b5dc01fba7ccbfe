-- `tally::records_to` meets its contract. The loop's invariant: how many of the cells passed have a record.
use lib.ListN.{length}
use Rattle.cells.specs.Order.{cell_at}
use Rattle.taking.specs.Forgetting.{is_record}
use Rattle.tally.proofs.Passing.{Counted}
use Rattle.tally.proofs.records_to.Given as goal

abbrev pub invariant-loop-i : goal.invariant-loop-i
invariant-loop-i l = Counted (λ k. is_record (cell_at l.s (length l.zero) l.store k)) l.n l.count l.i
