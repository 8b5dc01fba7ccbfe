-- `flat_office::route_of` meets its contract: each number, or the widest.
use Rattle.flat_office.specs.Numbers.{route_of}
use Rattle.flat_office.proofs.route_of.Goals as goal

pub returns : goal.returns
unfolding route_of
returns c =
    simp (c.within-qualifier.ensures, c.within-2.ensures, c.within.ensures, c.within-packet_type.ensures)
