-- Two outcomes that a contract allows for the same arguments have the same answer (M-7).
-- Assumes nothing.
use mathlib.Core.Path.{◌≡◌, sym, ◌∙◌}
use contract.Lifetimes as L
use Rattle.sender.proofs.Sender.after_packet.Reads as packeted
use Rattle.sender.proofs.Sender.after_segment.Reads as segmented
use Rattle.sender.proofs.Sender.after_message.Reads as sent
use Rattle.sender.proofs.counter_after.Reads as moved

pub after_packet_same_answer :
    (κs : L.Lfts 0) (a : _) (r q : _) (s t : _) → packeted.Post κs a r s → packeted.Post κs a q t → r ≡ q
after_packet_same_answer κs a r q s t k j = k ∙ sym j

pub after_segment_same_answer :
    (κs : L.Lfts 0) (a : _) (r q : _) (s t : _) → segmented.Post κs a r s → segmented.Post κs a q t → r ≡ q
after_segment_same_answer κs a r q s t k j = k ∙ sym j

pub after_message_same_answer : (κs : L.Lfts 0) (a : _) (r q : _) (s t : _) → sent.Post κs a r s → sent.Post κs a q t → r ≡ q
after_message_same_answer κs a r q s t k j = k ∙ sym j

pub counter_after_same_answer : (κs : L.Lfts 0) (a : _) (r q : _) (s t : _) → moved.Post κs a r s → moved.Post κs a q t → r ≡ q
counter_after_same_answer κs a r q s t k j = k ∙ sym j
