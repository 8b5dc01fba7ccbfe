-- `tally::new_key` meets its contract. The loop's invariant: none of the cells passed has the key.
use lib.ListN.{length}
use mathlib.Core.Bool.{not}
use Rattle.packet.specs.Reading.{read_packet}
use Rattle.packet.specs.Key.{key_of}
use Rattle.cells.specs.Order.{cell_at}
use Rattle.cells.proofs.Passing.{Passing}
use Rattle.tally.specs.Counting.{keyed}
use Rattle.tally.proofs.new_key.Given as goal

abbrev pub invariant-loop-j : goal.invariant-loop-j
invariant-loop-j l = Passing (λ k. not (keyed (key_of l.q (read_packet l.s l.q)) (cell_at l.s (length l.zero) l.store k))) l.n l.j
