-- `untaken::clear_on` meets its contract. The loop's invariant: none of the cells that the walk has passed covers them.
use lib.ListN.{length}
use Rattle.packet.specs.Key.{key_of}
use Rattle.packet.specs.Reading.{read_packet}
use Rattle.cells.proofs.Walking.{Walked, above}
use Rattle.cells.specs.Blocks.{taken_at, hits}
use Rattle.cells.proofs.untaken.clear_on.Given as goal

abbrev pub invariant-loop-cur : goal.invariant-loop-cur
invariant-loop-cur l = Walked (taken_at l.s (length l.zero) l.store) (hits l.s (length l.zero) l.store (key_of l.q (read_packet l.s l.q)) l.c.0 l.b) l.n l.b (above l.cur) l.n

abbrev pub decreases-loop-cur : goal.decreases-loop-cur
decreases-loop-cur l = above l.cur
