-- `carry_messages::say::numbers` is safe and ends. The measure is the numbers that are left.
use Rattle.std.proofs.Common.{◌-◌}
use Rattle.carry_messages.proofs.say.numbers.Given as goal

abbrev pub decreases-loop-k : goal.decreases-loop-k
decreases-loop-k l = 197 - l.k
