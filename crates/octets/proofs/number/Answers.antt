-- `octets::number` meets its contract. The loop's invariant: the value is the number of the octets passed.
use Rattle.std.proofs.Common.{rules}
use native.Mathlib.Numerals.{add-one}
use native.Mathlib.Omega.{arith}
use Rattle.octets.specs.Octets.{number}
use Rattle.octets.proofs.Numbers.{number_fits_lem}
use Rattle.octets.proofs.number.Goals as goal

pub loop-k-init : goal.loop-k-init
unfolding number
loop-k-init c =
    search rules

pub overflow_mul-v : goal.overflow_mul-v
overflow_mul-v c =
    omega (arith, number_fits_lem c.loop-k.k c.args.s.now c.args.at (λ i. (c.type_inv.s i).fits))

pub overflow_add-v : goal.overflow_add-v
overflow_add-v c =
    omega (arith, number_fits_lem c.loop-k.k c.args.s.now c.args.at (λ i. (c.type_inv.s i).fits))

pub loop-k-preserved : goal.loop-k-preserved
unfolding number
loop-k-preserved c =
    rw (add-one c.loop-k.k, c.from.ensures, c.octet_after.ensures, c.loop-k.invariant)
