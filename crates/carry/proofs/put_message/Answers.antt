-- `carry::put_message` meets its contract: its groups, one after another.
use native.Mathlib.Omega.{arith}
use Rattle.octets.proofs.Laying.{lays_both}
use Rattle.carry.specs.Inner.{message_pieces}
use Rattle.carry.proofs.put_message.Goals as goal

pub shape_of-out : goal.shape_of-out
shape_of-out c =
    omega (
      arith,
      c.lay.auto.out,
      c.put_end-f.auto.out,
      c.put_middle-e.auto.out,
      c.put_front-d.auto.out,
      c.put_routing-c.auto.out,
      c.put_names-b.auto.out,
      c.lay_number-a.auto.out,
    )

pub returns : goal.returns
unfolding message_pieces
returns c =
    rw (← c.whole_packet.ensures)
    (lays_both c.lay_number-a.ensures
    (lays_both c.put_names-b.ensures
    (lays_both c.put_routing-c.ensures
    (lays_both c.put_front-d.ensures
    (lays_both c.put_middle-e.ensures
    (lays_both c.put_end-f.ensures c.lay.ensures))))))
