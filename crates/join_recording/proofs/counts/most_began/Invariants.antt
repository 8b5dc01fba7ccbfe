-- `join_recording::counts::most_began` is safe and ends. The measure is what is left of the places.
use Prim.Native.Nat.{◌-◌}
use Rattle.join_recording.proofs.counts.most_began.Given as goal

abbrev pub invariant-loop-k : goal.invariant-loop-k
invariant-loop-k l = Unit {0}

abbrev pub decreases-loop-k : goal.decreases-loop-k
decreases-loop-k l = 256 - l.k
