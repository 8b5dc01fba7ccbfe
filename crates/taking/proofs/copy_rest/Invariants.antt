-- `taking::copy_rest` meets its contract. The loop's invariant: what is left of the run, laid after what is laid, is the whole.
use Prim.Native.Nat.{◌+◌, ◌-◌}
use lib.ListN.{length}
use Rattle.packet.specs.Key.{key_of}
use Rattle.packet.specs.Reading.{read_packet}
use Rattle.packet.specs.Numbers.{next_counter, steps_most}
use Rattle.taking.specs.Follow.{places_from}
use Rattle.taking.proofs.Bodies.{Copying}
use Rattle.taking.proofs.copy_rest.Given as goal

abbrev pub invariant-loop-steps : goal.invariant-loop-steps
invariant-loop-steps l = Copying next_counter steps_most l.s (length l.zero) l.store l.n (key_of l.q (read_packet l.s l.q))
    (places_from next_counter steps_most l.s (length l.zero) l.store l.n (key_of l.q (read_packet l.s l.q)) (next_counter l.initial.c.0)) l.place l.initial.out
    l.out l.c.0 (steps_most + 1 - l.steps) l.steps l.at
