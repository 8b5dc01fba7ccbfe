-- `vectors::case::listed` is safe and ends. The loop's invariant: the place is inside, and the list keeps its length.
use Prim.Native.Nat.{◌≤◌, ◌-◌}
use lib.ListN.{length}
use mathlib.Core.Path.{◌≡◌}
use Rattle.vectors.proofs.case.listed.Given as goal

abbrev pub invariant-loop-i : goal.invariant-loop-i
invariant-loop-i l = (l.i ≤ length l.initial.to) × (length l.to ≡ length l.initial.to)

abbrev pub decreases-loop-i : goal.decreases-loop-i
decreases-loop-i l = length l.initial.to - l.i
