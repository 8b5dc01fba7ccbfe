-- `moving::put_rows` meets its contract. The loop's invariant: the target begins with the rows passed.
use lib.ListN.{length}
use Rattle.moving.proofs.Passing.{Filling}
use Rattle.moving.proofs.put_rows.Given as goal

abbrev pub invariant-loop-i : goal.invariant-loop-i
invariant-loop-i l = Filling l.y (length l.zero) l.store l.n l.target l.i
