-- `files::write` is safe and ends. The measure is what is left to be written.
use Rattle.std.proofs.Common.{◌-◌, ◌≤◌, length}
use Rattle.files.proofs.write.Given as goal

abbrev pub invariant-loop-done : goal.invariant-loop-done
invariant-loop-done l = l.done ≤ length l.x

abbrev pub decreases-loop-done : goal.decreases-loop-done
decreases-loop-done l = length l.x - l.done
