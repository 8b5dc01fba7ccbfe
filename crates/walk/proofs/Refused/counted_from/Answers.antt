-- `walk::Refused::counted_from` meets its contract: a place is told beside 6 alone.
use Rattle.walk.proofs.Places.{counted_same}
use Rattle.walk.proofs.Refused.counted_from.Goals as goal

pub returns-in_default : goal.returns-in_default
returns-in_default c =
    counted_same _ c.in_default.not-HeaderEnds _
