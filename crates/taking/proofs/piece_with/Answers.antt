-- `taking::piece_with` meets its contract: it tells what stands in the row.
use Rattle.taking.proofs.Pieces.{piece_read}
use Rattle.taking.proofs.piece_with.Goals as goal

pub returns : goal.returns
returns c =
    piece_read _ _ c.packet_in-p.ensures c.span-body.ensures c.flags_in.ensures
