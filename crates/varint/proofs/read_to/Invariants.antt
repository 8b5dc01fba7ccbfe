-- `varint::read_to` meets its contract. The loop's invariant, `Going`: what is left to read, joined to what was, is the whole.
use Prim.Native.Nat.{◌-◌}
use lib.ListN.{length}
use Rattle.varint.proofs.Turns.{Going}
use Rattle.varint.proofs.read_to.Given as goal

abbrev pub invariant-loop-i : goal.invariant-loop-i
invariant-loop-i l = Going l.s l.at l.max l.i l.room l.unit l.sum

abbrev pub decreases-loop-i : goal.decreases-loop-i
decreases-loop-i l = length l.s - l.i
