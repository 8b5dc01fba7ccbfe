-- `pdu::refused_header` meets its contract: zeros.
use Rattle.packet.specs.FixedPart.{flags_of}
use Rattle.pdu.specs.Reading.{refused_header}
use Rattle.pdu.proofs.refused_header.Goals as goal

pub returns : goal.returns
unfolding refused_header flags_of
returns c =
    simp (c.flags_of.ensures, c.no_fixed.ensures)
