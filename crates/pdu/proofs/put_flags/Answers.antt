-- `pdu::put_flags` meets its contract: five numbers, one after another.
use mathlib.Core.Path.{ap}
use Rattle.octets.specs.Octets.{wide}
use Rattle.octets.proofs.Laying.{lays_both, lays_as}
use Rattle.pdu.specs.Inner.{flag_pieces}
use Rattle.pdu.proofs.put_flags.Goals as goal

pub returns : goal.returns
unfolding flag_pieces
returns c =
    let d = lays_as (ap (wide 1) c.present_octet.ensures) c.lay_number-c.ensures in
    lays_both c.lay_number-a.ensures
    (lays_both c.lay_number-b.ensures (lays_both d (lays_both c.lay_number-d.ensures c.lay_number.ensures)))
