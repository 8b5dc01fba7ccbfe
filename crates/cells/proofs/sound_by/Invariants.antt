-- `cells::sound_by` meets its contract. The loop's invariant: whether the cells passed are all free, held or records, and their table.
use lib.ListN.{length}
use Rattle.cells.proofs.Soundness.{Sounding}
use Rattle.cells.proofs.sound_by.Given as goal

abbrev pub invariant-loop-i : goal.invariant-loop-i
invariant-loop-i l = Sounding l.s (length l.zero) l.store l.n l.initial.bodies l.bodies l.all l.i
