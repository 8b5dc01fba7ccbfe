-- `laying::octet_if` meets its contract.
use Rattle.laying.proofs.Pieces.{octet_laid, lays_not}
use Rattle.octets.proofs.Laying.{lays_none}
use Rattle.octets.specs.Octets.{wide}
use native.Mathlib.Omega.{arith}
use Rattle.laying.proofs.octet_if.Goals as goal

pub returns-then-at-out : goal.returns-then-at-out
returns-then-at-out c =
    rw c.if-there.true (octet_laid _ _ _ c.if-at-out.true)

pub returns-else-at-out : goal.returns-else-at-out
unfolding wide
returns-else-at-out c =
    rw c.if-there.true (lays_not (wide 1 c.args.v) _ _ (omega (arith, c.if-at-out.false)))

pub returns-else-there : goal.returns-else-there
returns-else-there c =
    rw c.if-there.false (lays_none _ _)
