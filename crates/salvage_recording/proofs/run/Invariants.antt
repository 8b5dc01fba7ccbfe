-- `salvage_recording::run` is safe and ends. The measure is the number of turns that are left.
use Rattle.std.proofs.Common.{◌≡◌, ◌≤◌, length}
use Rattle.salvage_recording.proofs.run.Given as goal

abbrev pub invariant-loop-turns : goal.invariant-loop-turns
invariant-loop-turns l = (l.from ≤ l.till) × ((l.till ≤ length l.buf) × (length l.buf ≡ length l.initial.buf))

abbrev pub decreases-loop-turns : goal.decreases-loop-turns
decreases-loop-turns l = l.turns
