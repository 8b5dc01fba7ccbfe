-- `laying::put_plain` meets its contract.
use Rattle.octets.proofs.Laying.{lays_both}
use Rattle.write.specs.Inner.{primary_pieces}
use Rattle.laying.proofs.put_plain.Goals as goal

pub returns : goal.returns
unfolding primary_pieces
returns c =
    lays_both c.put_fixed.ensures (lays_both c.four_if-a.ensures c.block.ensures)
