-- `walk::Refused::began` meets its contract: a place is told beside 6 alone.
use Rattle.walk.proofs.Places.{began_same}
use Rattle.walk.proofs.Refused.began.Goals as goal

pub returns-in_default : goal.returns-in_default
returns-in_default c =
    began_same _ c.in_default.not-HeaderEnds _
