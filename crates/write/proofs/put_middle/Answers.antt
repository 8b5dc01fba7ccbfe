-- `write::put_middle` meets its contract: three fields, one after another.
use Rattle.octets.proofs.Laying.{lays_both}
use Rattle.write.specs.Inner.{middle_pieces}
use Rattle.write.proofs.put_middle.Goals as goal

pub returns : goal.returns
unfolding middle_pieces
returns c =
    lays_both c.uinteger_if-a.ensures
    (lays_both c.block_if-b.ensures c.text_if.ensures)
