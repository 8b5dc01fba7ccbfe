-- `write::put_end` meets its contract: three fields, one after another.
use Rattle.octets.proofs.Laying.{lays_both}
use Rattle.write.specs.Inner.{end_pieces}
use Rattle.write.proofs.put_end.Goals as goal

pub returns : goal.returns
unfolding end_pieces
returns c =
    lays_both c.text_if-a.ensures
    (lays_both c.domain_if-b.ensures c.blob_if.ensures)
