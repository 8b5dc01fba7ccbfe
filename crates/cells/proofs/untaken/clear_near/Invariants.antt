-- `untaken::clear_near` meets its contract. The loop's invariant: the chains of the levels passed are clear.
use lib.ListN.{length}
use Rattle.packet.specs.Key.{key_of}
use Rattle.packet.specs.Reading.{read_packet}
use Rattle.cells.proofs.Nearby.{Nearing}
use Rattle.cells.proofs.untaken.clear_near.Given as goal

abbrev pub invariant-loop-level : goal.invariant-loop-level
invariant-loop-level l = Nearing l.s (length l.zero) l.store l.n (key_of l.q (read_packet l.s l.q)) l.c.0 l.m l.x l.top l.level
