-- `write::put_routing` meets its contract: four numbers, one after another.
use mathlib.Core.Path.{ap}
use Rattle.octets.proofs.Laying.{lays_both, lays_as}
use Rattle.octets.specs.Octets.{wide}
use Rattle.write.proofs.Pieces.{routing_word}
use Rattle.write.specs.Inner.{routing_pieces}
use Rattle.write.proofs.put_routing.Goals as goal

pub returns : goal.returns
unfolding routing_pieces
returns c =
    let v = c.args.v in let a = lays_as (routing_word _ v.qos _ _) c.lay_number-a.ensures in
    let d = lays_as (ap (wide 1) c.present_octet.ensures) c.lay_number.ensures in
    lays_both a (lays_both c.lay_number-b.ensures (lays_both c.lay_number-c.ensures d))
