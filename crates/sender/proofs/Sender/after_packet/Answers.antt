-- `sender::Sender::after_packet` meets its contract.
use Rattle.sender.specs.Sending.{after_packet}
use Rattle.sender.proofs.Sender.after_packet.Goals as goal

pub returns : goal.returns
unfolding after_packet
returns c =
    simp c.next_sequence_count-later.ensures
