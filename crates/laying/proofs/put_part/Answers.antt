-- `laying::put_part` meets its contract.
use Rattle.laying.proofs.Pieces.{part_laid}
use lib.ListN.{length-set}
use mathlib.Core.Path.{refl}
use native.Mathlib.Omega.{arith}
use Rattle.laying.proofs.put_part.Goals as goal

pub bounds-out-at-2 : goal.bounds-out-at-2
bounds-out-at-2 c =
    simp length-set (omega arith)

pub shape_of-out : goal.shape_of-out
shape_of-out c =
    simp length-set at c.copy.auto.out

pub returns : goal.returns
returns c =
    record { lays = rw c.copy.ensures (part_laid c.args.s _ _ _ c.requires.profile_value c.requires.x_len_bound c.requires.x_in_bounds); place = refl }
