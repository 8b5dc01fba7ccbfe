-- `write::adds_up` meets its contract: its sum is the library's.
use Rattle.std.proofs.Common.{arith}
use Rattle.std.proofs.lemmas.Grind.{common_steps}
use Rattle.write.proofs.Sums.{sum_is}
use Rattle.write.proofs.adds_up.Goals as goal

pub returns-then-left-part : goal.returns-then-left-part
returns-then-left-part c = rw (sum_is c.args.lengths.now) (grind (arith, common_steps))

pub returns : goal.returns
returns c = rw (sum_is c.args.lengths.now) (grind (arith, common_steps))
