-- `flat::put` meets its contract.
use native.Mathlib.Omega.{arith}
use Rattle.flat.proofs.Placing.{put_is}
use Rattle.flat.proofs.put.Goals as goal

pub returns : goal.returns
returns g c =
    put_is _ _ _ _ _ c.copy_from_slice.ensures.after (omega arith) c.requires
