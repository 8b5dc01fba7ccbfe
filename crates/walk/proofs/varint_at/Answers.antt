-- `walk::varint_at` meets its contract: a value of 32 bits fits.
use native.Mathlib.Omega.{arith}
use Rattle.varint.proofs.Told.{told}
use Rattle.varint.proofs.Laws.{within}
use Rattle.walk.proofs.varint_at.Goals as goal

pub overflow_cast-result : goal.overflow_cast-result
overflow_cast-result c =
    omega (arith, within 32 c.args.octets.now c.args.at _ _ (λ i. (c.type_inv.octets i).fits) (told _ c.read32.ensures c.in_ok-value.was))
