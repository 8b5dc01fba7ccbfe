-- `laying::four` meets its contract.
use Rattle.laying.proofs.Pieces.{wide_four}
use lib.ListN.{length-set}
use native.Mathlib.Omega.{arith}
use Rattle.laying.proofs.four.Goals as goal

pub bounds-out-at-2 : goal.bounds-out-at-2
bounds-out-at-2 c =
    simp length-set (omega arith)

pub bounds-out-at-3 : goal.bounds-out-at-3
bounds-out-at-3 c =
    simp length-set (omega arith)

pub bounds-out-at-4 : goal.bounds-out-at-4
bounds-out-at-4 c =
    simp length-set (omega arith)

pub returns : goal.returns
returns c =
    wide_four _ _ _
