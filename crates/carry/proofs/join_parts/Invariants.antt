-- `carry::join_parts` meets its contract. The loop's invariant, `Joining`: k parts are joined.
use Prim.Native.Nat.{◌-◌}
use Rattle.carry.proofs.Joined.{Joining}
use Rattle.carry.proofs.join_parts.Given as goal

abbrev pub invariant-loop-k : goal.invariant-loop-k
invariant-loop-k l = Joining l.p l.parts l.n l.initial.text l.initial.lengths l.text l.lengths l.total l.k

abbrev pub decreases-loop-k : goal.decreases-loop-k
decreases-loop-k l = l.n - l.k
