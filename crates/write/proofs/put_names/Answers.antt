-- `write::put_names` meets its contract: five numbers, one after another.
use Rattle.octets.proofs.Laying.{lays_both}
use Rattle.write.specs.Inner.{name_pieces}
use Rattle.write.proofs.put_names.Goals as goal

pub returns : goal.returns
unfolding name_pieces
returns c =
    lays_both
    c.lay_number-a.ensures
    (lays_both
    c.lay_number-b.ensures
    (lays_both
    c.lay_number-c.ensures
    (lays_both
    c.lay_number-d.ensures
    c.lay_number.ensures)))
