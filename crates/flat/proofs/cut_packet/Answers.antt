-- `flat::cut_packet` meets its contract: numbers that fit go to the call, any other is 15 or 22.
use Rattle.flat.proofs.Choosing.{packet_refused, packet_kept, packet_told, packet_laid, header_uncut, sender_uncut}
use Rattle.flat.proofs.cut_packet.Goals as goal

pub returns-in_default : goal.returns-in_default
returns-in_default c =
    let f = header_uncut _ _ c.in_default.ensures in
    (packet_refused _ _ _ _ _ f _ (rw c.settings-s.ensures at c.cut_too_wide.ensures) _ _ _, packet_kept _ _ _ _ _ f _ _ _)

pub returns-in_default-sender_of : goal.returns-in_default-sender_of
returns-in_default-sender_of c =
    let f = sender_uncut _ _ c.in-Ok.ensures.0 c.in_default-sender_of.ensures in
    let r = rw c.settings-s.ensures at c.cut_too_wide-in_default-sender_of.ensures in
    (packet_refused _ _ _ _ _ f _ r _ _ _, packet_kept _ _ _ _ _ f _ _ _)

pub returns : goal.returns
returns c =
    let h = c.in-Ok.ensures in
    let d = c.in-Ok-sender_of.ensures in
    let w = rw c.settings-s.ensures at c.packet.ensures in (
      packet_told _ _ _ _ _ h.0 d.0 _ _ h.1 d.1 _ _ _ _ _ w.0 c.cut_numbers.ensures,
      packet_laid _ _ _ _ _ h.0 d.0 _ _ h.1 d.1 _ _ _ _ w.1,
    )
