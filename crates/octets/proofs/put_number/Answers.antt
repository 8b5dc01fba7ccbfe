-- `octets::put_number` meets its contract. The loop's invariant: the octets that are left, laid over what is there now, give the whole.
use mathlib.Core.Path.{◌∙◌}
use Rattle.octets.proofs.Writing.{put_turn, put_done}
use Rattle.octets.proofs.put_number.Goals as goal

pub loop-k-preserved : goal.loop-k-preserved
loop-k-preserved c =
    rw c.put_after.ensures (put_turn _ _ _ _ c.loop-k-test.true ∙ c.loop-k.invariant)

pub returns : goal.returns
returns c =
    put_done _ _ _ _ c.loop-k-test.false ∙ c.loop-k.invariant
