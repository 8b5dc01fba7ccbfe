-- `fields::put_parts` meets its contract. The loop's invariant, `Parting`: what is written and what is left are all the pieces.
use Prim.Native.Nat.{◌-◌}
use Prim.Native.Nat.{◌-◌}
use lib.ListN.{length}
use lib.ListN.{length}
use Rattle.fields.proofs.Written.{Parting}
use Rattle.fields.proofs.put_parts.Given as goal

abbrev pub invariant-loop-k : goal.invariant-loop-k
invariant-loop-k l = Parting l.s l.initial.out l.at l.x l.lengths l.out l.next l.from l.k

abbrev pub decreases-loop-k : goal.decreases-loop-k
decreases-loop-k l = length l.lengths - l.k
