-- `files::front` meets its contract, by the lemmas on octets that go to the front.
use native.Mathlib.Omega.{arith}
use Rattle.files.proofs.Moving.{moving_first, moving_turn, moving_done}
use Rattle.files.proofs.front.Goals as goal

pub loop-i-init : goal.loop-i-init
loop-i-init c = moving_first _ _ _ (omega arith)

pub loop-i-preserved : goal.loop-i-preserved
loop-i-preserved c = moving_turn c.loop-i.invariant c.loop-i-test.true

pub returns : goal.returns
returns c = moving_done c.loop-i.invariant c.loop-i-test.false
