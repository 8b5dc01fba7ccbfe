-- `write::put_front` meets its contract: three fields, one after another.
use Rattle.octets.proofs.Laying.{lays_both}
use Rattle.write.specs.Inner.{front_pieces}
use Rattle.write.proofs.put_front.Goals as goal

pub returns : goal.returns
unfolding front_pieces
returns c =
    lays_both
    c.wide_if-a.ensures
    (lays_both c.wide_if-b.ensures (rw (← c.segmented.ensures) c.wide_if.ensures))
