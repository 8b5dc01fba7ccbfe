-- `salvage_recording::write_packets` is safe and ends. The measure is what is left of the entries.
use Rattle.std.proofs.Common.{◌≡◌, ◌-◌, ◌≤◌, length}
use Rattle.salvage_recording.proofs.write_packets.Given as goal

abbrev pub invariant-loop-i : goal.invariant-loop-i
invariant-loop-i l = (l.at ≤ length l.packets) × ((length l.packets ≡ length l.initial.packets) × (l.i ≤ l.n))

abbrev pub decreases-loop-i : goal.decreases-loop-i
decreases-loop-i l = l.n - l.i
