-- `write::put_primary` meets its contract: three numbers, one after another.
use Rattle.octets.proofs.Laying.{lays_both}
use Rattle.write.specs.Inner.{primary_pieces}
use Rattle.write.proofs.put_primary.Goals as goal

pub returns : goal.returns
unfolding primary_pieces
returns c =
    lays_both
    (lays_both
    c.lay_number-a.ensures
    c.lay_number-b.ensures)
    c.lay_number.ensures
