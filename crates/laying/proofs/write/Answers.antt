-- `laying::write` meets its contract: what is not written the short way goes the long way.
use Rattle.laying.proofs.Whole.{told, put}
use native.Mathlib.Omega.{arith}
use Rattle.laying.proofs.write.Goals as goal

pub returns-then-size-eq0 : goal.returns-then-size-eq0
returns-then-size-eq0 c =
    c.write.ensures

pub overflow_sub-n : goal.overflow_sub-n
overflow_sub-n c =
    let w = c.packet_size-size.ensures (omega (arith, c.if-size-eq0.false)) in omega (arith, w.least)

pub put_packet-requires : goal.put_packet-requires
put_packet-requires c =
    let w = c.packet_size-size.ensures (omega (arith, c.if-size-eq0.false)) in record { in_bounds = omega (arith, w.least, w.size_room); ready = w.ready; own = w.own }

pub returns : goal.returns
returns c =
    let w = c.packet_size-size.ensures (omega (arith, c.if-size-eq0.false)) in
    rw (← c.settings-s.ensures) (told w, put w c.put_packet.ensures)
