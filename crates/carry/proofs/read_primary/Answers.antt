-- `carry::read_primary` meets its contract: the fields are at their places.
use Rattle.carry.specs.Message.{primary_of}
use Rattle.carry.proofs.read_primary.Goals as goal

pub returns : goal.returns
unfolding primary_of
returns c =
    simp (c.read.ensures, c.octet-first.ensures)
