-- `cells::packet_in` meets its contract: the length field tells its size.
use Rattle.cells.proofs.packet_in.Goals as goal

pub returns : goal.returns
returns c =
    simp (c.span.ensures, c.read.ensures)
