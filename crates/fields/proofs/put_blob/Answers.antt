-- `fields::put_blob` meets its contract: a length, and then the octets.
use Rattle.fields.specs.Inner.{blob_pieces}
use Rattle.octets.proofs.Laying.{lays_both}
use Rattle.fields.proofs.put_blob.Goals as goal

pub returns : goal.returns
unfolding blob_pieces
returns c =
    lays_both c.put_uinteger-start.ensures c.lay.ensures
