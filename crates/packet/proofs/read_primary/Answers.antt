-- `packet::read_primary` meets its contract: its values are the definition's.
use Rattle.packet.specs.Reading.{primary_of}
use Rattle.packet.proofs.read_primary.Goals as goal

pub returns : goal.returns
unfolding primary_of
returns c =
    simp (c.read-2.ensures, c.read.ensures, c.octet-third.ensures, c.octet-first.ensures)
