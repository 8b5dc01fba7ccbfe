-- `laying::two` meets its contract.
use Rattle.laying.proofs.Pieces.{wide_two}
use lib.ListN.{length-set}
use native.Mathlib.Omega.{arith}
use Rattle.laying.proofs.two.Goals as goal

pub bounds-out-at-2 : goal.bounds-out-at-2
bounds-out-at-2 c =
    simp length-set (omega arith)

pub returns : goal.returns
returns c =
    wide_two _ _ _
