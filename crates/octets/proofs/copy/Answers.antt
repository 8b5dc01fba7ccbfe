-- `octets::copy` meets its contract. The loop's invariant: the octets that are left, laid over what is there now, give the whole.
use native.Mathlib.Omega.{arith}
use Rattle.octets.proofs.Writing.{copy_first, copy_turn, copy_done}
use Rattle.octets.proofs.copy.Goals as goal

pub loop-i-init : goal.loop-i-init
loop-i-init c =
    copy_first _ _ _ _ c.room-n.ensures

pub loop-i-preserved : goal.loop-i-preserved
loop-i-preserved c =
    copy_turn c.loop-i.invariant c.loop-i-test.true

pub returns : goal.returns
returns c =
    copy_done c.loop-i.invariant (omega arith)
