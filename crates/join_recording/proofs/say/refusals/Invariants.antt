-- `join_recording::say::refusals` is safe and ends. The measure is what is left of the numbers.
use Prim.Native.Nat.{◌-◌}
use Rattle.join_recording.proofs.say.refusals.Given as goal

abbrev pub invariant-loop-k : goal.invariant-loop-k
invariant-loop-k l = Unit {0}

abbrev pub decreases-loop-k : goal.decreases-loop-k
decreases-loop-k l = 64 - l.k
