-- `laying::put_routing` meets its contract.
use Rattle.laying.proofs.Pieces.{routing_laid}
use lib.ListN.{length-set}
use mathlib.Core.Path.{refl}
use native.Mathlib.Omega.{arith}
use Rattle.laying.proofs.put_routing.Goals as goal

pub shape_of-out : goal.shape_of-out
shape_of-out c =
    simp length-set (omega arith)

pub returns : goal.returns
returns c =
    rw (c.four-3.ensures, c.four-2.ensures, c.four.ensures)
    (routing_laid c.args.h.now _ c.requires.in_limits.qualifier refl c.requires.present_value)
