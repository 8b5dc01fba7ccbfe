-- `laying::put_names` meets its contract.
use Rattle.laying.proofs.Pieces.{names_laid}
use lib.ListN.{length-set}
use native.Mathlib.Omega.{arith}
use Rattle.laying.proofs.put_names.Goals as goal

pub four-requires : goal.four-requires
four-requires c =
    simp length-set (omega arith)

pub two-requires : goal.two-requires
two-requires c =
    let k = simp length-set at c.four.auto.out in omega (arith, k, c.requires.in_bounds)

pub bounds-out-13 : goal.bounds-out-13
bounds-out-13 c =
    let k = simp length-set at c.four.auto.out in omega (arith, k, c.two.auto.out, c.requires.in_bounds)

pub shape_of-out : goal.shape_of-out
shape_of-out c =
    let k = simp length-set at c.four.auto.out in simp length-set (omega (arith, k, c.two.auto.out))

pub returns : goal.returns
returns c =
    rw (c.two.ensures, c.four.ensures) (names_laid c.args.h.now _ c.requires.in_limits.service)
