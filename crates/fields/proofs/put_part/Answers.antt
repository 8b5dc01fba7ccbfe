-- `fields::put_part` meets its contract: an octet of 1, and then a text.
use Rattle.fields.specs.Inner.{part_pieces}
use Rattle.octets.proofs.Laying.{lays_both}
use Rattle.octets.specs.Octets.{wide}
use Rattle.fields.proofs.put_part.Goals as goal

pub returns : goal.returns
unfolding part_pieces wide
returns c =
    lays_both c.lay_number-start.ensures c.put_text.ensures
