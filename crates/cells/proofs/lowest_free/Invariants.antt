-- `cells::lowest_free` meets its contract. The loop's invariant: none of the cells passed is free.
use lib.ListN.{length}
use Rattle.cells.proofs.Scans.{Seeking}
use Rattle.cells.specs.Rows.{row_at}
use Rattle.octets.specs.Octets.{alike}
use Rattle.cells.proofs.lowest_free.Given as goal

abbrev pub invariant-loop-i : goal.invariant-loop-i
invariant-loop-i l = Seeking (λ j. alike (row_at (length l.zero) l.store j) l.zero) l.n l.i
