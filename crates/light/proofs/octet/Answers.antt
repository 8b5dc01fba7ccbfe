-- `light::octet` meets its contract.
use borrow.Author.Rules.{rules}
use native.Mathlib.Omega.{arith}
use Rattle.light.proofs.octet.Goals as goal

pub overflow_cast-result : goal.overflow_cast-result
overflow_cast-result c =
    omega (arith, c.type_inv.p c.args.at)

pub returns : goal.returns
returns c =
    record { value = search rules; small = omega (arith, c.type_inv.p c.args.at) }
