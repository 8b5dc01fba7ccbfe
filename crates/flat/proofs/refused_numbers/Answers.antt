-- `flat::refused_numbers` meets its contract.
use Rattle.packet.specs.Reading.{refused_header}
use Rattle.flat.specs.Told.{places_to, read_numbers}
use Rattle.flat.proofs.refused_numbers.Goals as goal

pub returns : goal.returns
unfolding read_numbers places_to refused_header
returns c =
    simp (c.number.ensures, c.octets.ensures, c.place.ensures)
