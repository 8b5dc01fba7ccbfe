-- `cells::is_untaken` meets its contract. The loop's invariant: none of the cells passed covers them.
use lib.ListN.{length}
use mathlib.Core.Bool.{not}
use Rattle.cells.proofs.Passing.{Passing}
use Rattle.cells.specs.Order.{covers_in, cell_at}
use Rattle.packet.specs.Key.{key_of}
use Rattle.packet.specs.Reading.{read_packet}
use Rattle.cells.proofs.is_untaken.Given as goal

abbrev pub invariant-loop-j : goal.invariant-loop-j
invariant-loop-j l = Passing (λ k. not (covers_in (key_of l.q (read_packet l.s l.q)) l.c.0 (cell_at l.s (length l.zero) l.store k))) l.n l.j
