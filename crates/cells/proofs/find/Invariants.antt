-- `cells::find` meets its contract. The loop's invariant: none of the cells passed carries them.
use lib.ListN.{length}
use Rattle.cells.proofs.Scans.{Seeking}
use Rattle.cells.specs.Order.{carries_in, cell_at}
use Rattle.packet.specs.Key.{key_of}
use Rattle.packet.specs.Reading.{read_packet}
use Rattle.cells.proofs.find.Given as goal

abbrev pub invariant-loop-j : goal.invariant-loop-j
invariant-loop-j l = Seeking (λ k. carries_in (key_of l.q (read_packet l.s l.q)) l.c.0 (cell_at l.s (length l.zero) l.store k)) l.n l.j
