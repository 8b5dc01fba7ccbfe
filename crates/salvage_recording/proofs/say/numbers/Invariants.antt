-- `salvage_recording::say::numbers` is safe and ends. The measure is what is left of the numbers.
use Rattle.std.proofs.Common.{◌-◌}
use Rattle.salvage_recording.proofs.say.numbers.Given as goal

abbrev pub decreases-loop-k : goal.decreases-loop-k
decreases-loop-k l = 7 - l.k
