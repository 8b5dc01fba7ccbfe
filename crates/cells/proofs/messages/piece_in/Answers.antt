-- `messages::piece_in` meets its contract: a header's parts, or the zeros of a refusal.
use Rattle.std.proofs.Common.{ap, ◌∙◌}
use Rattle.packet.specs.Reading.{read_packet, refused_header}
use Rattle.cells.specs.Pieces.{piece_of}
use Rattle.cells.proofs.messages.piece_in.Goals as goal

pub returns-in-Ok : goal.returns-in-Ok
unfolding piece_of
returns-in-Ok c = ap piece_of (c.in-Ok.ensures.answer ∙ ap (read_packet c.args.s) c.packet_in.ensures)

pub returns-in-Err : goal.returns-in-Err
unfolding piece_of refused_header
returns-in-Err c = ap piece_of (c.in-Err.ensures.answer ∙ ap (read_packet c.args.s) c.packet_in.ensures)
