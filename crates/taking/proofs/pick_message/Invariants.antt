-- `taking::pick_message` meets its contract. The loop's invariant: the cells passed open no complete message.
use lib.ListN.{length}
use Rattle.packet.specs.Numbers.{next_counter, steps_most}
use Rattle.taking.proofs.Picks.{Picking}
use Rattle.taking.proofs.pick_message.Given as goal

abbrev pub invariant-loop-cell : goal.invariant-loop-cell
invariant-loop-cell l = Picking next_counter steps_most l.s (length l.zero) l.store l.n l.cell
