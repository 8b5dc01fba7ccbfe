-- `salvage_recording::write_lines` is safe and ends. The measure is what is left of the entries.
use Rattle.std.proofs.Common.{◌≡◌, ◌-◌, ◌≤◌, length}
use Rattle.salvage_recording.proofs.write_lines.Given as goal

abbrev pub invariant-loop-i : goal.invariant-loop-i
invariant-loop-i l = (l.at ≤ length l.lines) × ((length l.lines ≡ length l.initial.lines) × (l.i ≤ l.n))

abbrev pub decreases-loop-i : goal.decreases-loop-i
decreases-loop-i l = l.n - l.i
