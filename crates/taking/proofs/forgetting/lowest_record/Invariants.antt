-- `forgetting::lowest_record` meets its contract. The loop's invariant: none of the cells passed has a record.
use lib.ListN.{length}
use Rattle.cells.specs.Order.{cell_at}
use Rattle.cells.proofs.Scans.{Seeking}
use Rattle.taking.specs.Forgetting.{is_record}
use Rattle.taking.proofs.forgetting.lowest_record.Given as goal

abbrev pub invariant-loop-i : goal.invariant-loop-i
invariant-loop-i l = Seeking (λ j. is_record (cell_at l.s (length l.zero) l.store j)) l.n l.i
