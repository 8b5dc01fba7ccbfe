-- `pdu::put_names` meets its contract: five numbers, one after another.
use borrow.Author.Rules.{rules}
use Rattle.octets.proofs.Laying.{lays_both}
use Rattle.pdu.specs.Inner.{name_pieces}
use Rattle.pdu.proofs.put_names.Goals as goal

pub shape_of-out : goal.shape_of-out
shape_of-out c =
    search (rules, c.out-5-1.given, c.out-4-1.given, c.out-3-1.given, c.out-2-1.given, c.out-1.given)

pub returns : goal.returns
unfolding name_pieces
returns c =
    lays_both c.lay_number-a.ensures
    (lays_both c.lay_number-b.ensures
    (lays_both c.lay_number-c.ensures (lays_both c.lay_number-d.ensures c.lay_number.ensures)))
