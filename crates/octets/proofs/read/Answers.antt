-- `octets::read` meets its contract: a number of so many octets fits its type.
use native.Mathlib.Omega.{arith}
use Rattle.octets.proofs.Numbers.{number_top}
use Rattle.octets.proofs.read.Goals as goal

pub narrow-requires : goal.narrow-requires
narrow-requires g c =
    let e = rw c.OCTETS.ensures at c.number.ensures in
    omega (arith, e, number_top g.T.Wide.OCTETS c.args.s.now c.args.at (λ i. (c.type_inv.s i).fits))
