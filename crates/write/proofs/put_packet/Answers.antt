-- `write::put_packet` meets its contract: its groups, one after another.
use Rattle.octets.proofs.Laying.{lays_both}
use Rattle.write.specs.Inner.{packet_pieces}
use Rattle.write.proofs.put_packet.Goals as goal

pub returns : goal.returns
unfolding packet_pieces
returns c =
    lays_both c.put_primary-a.ensures
    (lays_both c.put_names-b.ensures
    (lays_both c.put_routing-c.ensures (lays_both c.put_front-d.ensures
    (lays_both c.put_middle-e.ensures
    (lays_both c.put_end-f.ensures c.lay.ensures)))))
