-- `vectors::case::repeated` is safe and ends. The loop's invariant: the place is inside, and the buffer keeps its length.
use Prim.Native.Nat.{◌≤◌, ◌-◌}
use lib.ListN.{length}
use mathlib.Core.Path.{◌≡◌}
use Rattle.vectors.proofs.case.repeated.Given as goal

abbrev pub invariant-loop-end : goal.invariant-loop-end
invariant-loop-end l = (l.end ≤ length l.initial.to) × (length l.to ≡ length l.initial.to)

abbrev pub decreases-loop-end : goal.decreases-loop-end
decreases-loop-end l = length l.initial.to - l.end
