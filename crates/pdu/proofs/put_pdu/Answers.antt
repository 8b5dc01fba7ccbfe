-- `pdu::put_pdu` meets its contract: its groups, one after another.
use Rattle.octets.proofs.Laying.{lays_both}
use Rattle.pdu.specs.Inner.{pdu_pieces}
use Rattle.pdu.proofs.put_pdu.Goals as goal

pub returns : goal.returns
unfolding pdu_pieces
returns c =
    rw (← c.pdu_settings-s.ensures)
    (lays_both c.put_names-a.ensures
    (lays_both c.put_flags-b.ensures
    (lays_both c.put_ids-c.ensures
    (lays_both c.put_middle-d.ensures (lays_both c.put_end-e.ensures c.lay.ensures)))))
