-- `flat::write` meets its contract: numbers that fit go to the call, any other is 15 or 22.
use Rattle.flat.proofs.Choosing.{write_refused_lem, write_kept, write_told, write_laid, header_unfit, packet_unfit}
use Rattle.flat.proofs.write.Goals as goal

pub returns-in_default : goal.returns-in_default
returns-in_default c =
    let f = header_unfit _ _ _ _ c.in_default.ensures in
    (write_refused_lem _ _ _ _ _ _ _ f _ _ (rw c.settings-s.ensures at c.write_too_wide.ensures), write_kept _ _ _ _ _ _ _ f _)

pub returns-in_default-packet_of : goal.returns-in_default-packet_of
returns-in_default-packet_of c =
    let f = packet_unfit _ _ _ _ c.in-Ok.ensures.0 c.in_default-packet_of.ensures in
    let r = rw c.settings-s.ensures at c.write_too_wide-in_default-packet_of.ensures in
    (write_refused_lem _ _ _ _ _ _ _ f _ _ r, write_kept _ _ _ _ _ _ _ f _)

pub returns : goal.returns
returns c =
    let h = c.in-Ok.ensures in
    let o = c.in-Ok-packet_of.ensures in
    let w = rw c.settings-s.ensures at c.write.ensures in (
      write_told _ _ _ _ _ _ _ h.0 o.0 _ _ h.1 o.1 _ _ _ w.0 c.written_numbers.ensures,
      write_laid _ _ _ _ _ _ _ h.0 o.0 _ _ h.1 o.1 _ _ w.1,
    )
