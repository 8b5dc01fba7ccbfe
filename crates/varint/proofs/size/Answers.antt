-- `varint::size` meets its contract. The loop's invariant: the octets counted and those left are all of them and one.
use native.Mathlib.Omega.{arith}
use Rattle.varint.proofs.Forms.{size_small, size_more, size_most_lem}
use Rattle.varint.proofs.size.Goals as goal

pub loop-x-init : goal.loop-x-init
loop-x-init c =
    omega arith

pub overflow_add-n : goal.overflow_add-n
overflow_add-n c =
    omega (arith, size_more _ c.loop-x-test.true, size_most_lem 9 c.args.v (omega arith))

pub loop-x-smaller : goal.loop-x-smaller
loop-x-smaller c =
    omega arith

pub loop-x-preserved : goal.loop-x-preserved
loop-x-preserved c =
    omega (arith, size_more _ c.loop-x-test.true)

pub returns : goal.returns
returns c =
    omega (arith, size_small c.loop-x.x (omega arith))
