-- `filling::single_to` meets its contract.
use Prim.Native.Nat.{◌-◌}
use Rattle.filling.specs.Filling.{Single}
use Rattle.filling.proofs.single_to.Given as goal

abbrev pub invariant-loop-to : goal.invariant-loop-to
invariant-loop-to l = Single l.p l.lim l.from l.to

abbrev pub decreases-loop-to : goal.decreases-loop-to
decreases-loop-to l = l.lim - l.to
