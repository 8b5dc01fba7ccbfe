-- `taking::follow` meets its contract. The loop's invariant: what is left of the run and the octets so far come to the whole.
use Prim.Native.Nat.{◌-◌}
use lib.ListN.{length}
use Rattle.packet.specs.Key.{key_of}
use Rattle.packet.specs.Reading.{read_packet}
use Rattle.packet.specs.Numbers.{next_counter, steps_most}
use Rattle.taking.proofs.Counting.{Counted}
use Rattle.taking.proofs.follow.Given as goal

abbrev pub invariant-loop : goal.invariant-loop
invariant-loop l =
    Counted next_counter steps_most l.s (length l.zero) l.store l.n (key_of l.q (read_packet l.s l.q)) l.b l.initial.c.0 l.c.0 (steps_most - l.counter) l.sum
