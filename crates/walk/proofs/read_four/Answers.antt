-- `walk::read_four` meets its contract: four octets and the number that they write.
use Rattle.walk.specs.Walk.{wide_field}
use Rattle.walk.proofs.read_four.Goals as goal

pub returns : goal.returns
unfolding wide_field
returns c =
    cc
