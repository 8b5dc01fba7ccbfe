-- `join::view` meets its contract, case by case.
use Rattle.join.proofs.Parts.{nothing}
use Rattle.join.specs.Viewing.{viewed}
use Rattle.join.proofs.view.Goals as goal

pub returns-in-Packet : goal.returns-in-Packet
unfolding viewed
returns-in-Packet c =
    rw c.in-Packet.is c.part_inside.ensures

pub returns-in-Joined : goal.returns-in-Joined
unfolding viewed
returns-in-Joined c =
    rw c.in-Joined.is c.part_inside-in-Joined.ensures

pub returns-in-Nothing : goal.returns-in-Nothing
returns-in-Nothing c =
    rw c.in-Nothing.is (nothing _ _ _ _)
