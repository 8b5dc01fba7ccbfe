-- `pdu::put_ids` meets its contract: two texts, one after another.
use Rattle.octets.proofs.Laying.{lays_both}
use Rattle.pdu.specs.Inner.{id_pieces}
use Rattle.pdu.proofs.put_ids.Goals as goal

pub returns : goal.returns
unfolding id_pieces
returns c =
    rw (← c.pdu_settings-s.ensures) (lays_both c.text_if-a.ensures c.text_if.ensures)
