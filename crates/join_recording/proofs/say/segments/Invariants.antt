-- `join_recording::say::segments` is safe and ends. The measure is what is left of the cells.
use Prim.Native.Nat.{◌-◌}
use Rattle.join_recording.proofs.say.segments.Given as goal

abbrev pub invariant-loop-i : goal.invariant-loop-i
invariant-loop-i l = Unit {0}

abbrev pub decreases-loop-i : goal.decreases-loop-i
decreases-loop-i l = l.n - l.i
