-- `salvage_recording::add_packet` meets its contract: no packet goes past the end.
use native.Mathlib.Omega.{arith}
use Rattle.entries.proofs.Room.{lays_inside}
use Rattle.salvage_recording.proofs.add_packet.Goals as goal

pub returns-then-packets-at : goal.returns-then-packets-at
returns-then-packets-at c = omega (arith, c.gathered_to.ensures, lays_inside c.lay.ensures (omega arith), c.lay.auto.out)

pub returns : goal.returns
returns c = omega (arith, c.gathered_to-2.ensures, lays_inside c.lay-2.ensures c.requires, c.lay-2.auto.out)
