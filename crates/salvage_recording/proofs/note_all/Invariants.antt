-- `salvage_recording::note_all` is safe and ends. The measure is what is left of the entries.
use Rattle.std.proofs.Common.{◌-◌, ◌≤◌}
use Rattle.salvage_recording.proofs.note_all.Given as goal

abbrev pub invariant-loop-i : goal.invariant-loop-i
invariant-loop-i l = l.i ≤ l.n

abbrev pub decreases-loop-i : goal.decreases-loop-i
decreases-loop-i l = l.n - l.i
