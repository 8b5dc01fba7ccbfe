-- `cells::read_record` meets its contract: what is read are the octets laid.
use Rattle.cells.proofs.Firsts.{from_first}
use mathlib.Core.Path.{ap, ◌∙◌}
use Rattle.packet.specs.Reading.{read_packet}
use Rattle.cells.proofs.read_record.Goals as goal

pub returns : goal.returns
returns c =
    c.read.ensures.answer ∙ ap (read_packet _) (from_first c.first_in-n.result _ c.first_in-n.ensures.out_after)
