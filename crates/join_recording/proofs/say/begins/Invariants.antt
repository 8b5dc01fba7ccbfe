-- `join_recording::say::begins` meets its contract. The loop's invariant: the place is inside.
use Prim.Native.Nat.{◌≤◌}
use lib.ListN.{length}
use Rattle.join_recording.proofs.say.begins.Given as goal

abbrev pub invariant-loop-left : goal.invariant-loop-left
invariant-loop-left l = l.from ≤ length l.table

abbrev pub decreases-loop-left : goal.decreases-loop-left
decreases-loop-left l = l.left
