-- `fields::domain_size_to` meets its contract. The loop's invariant, `Sizing`: what is counted and what is left are the whole.
use Prim.Native.Nat.{◌-◌}
use lib.ListN.{length}
use Rattle.fields.proofs.Sized.{Sizing}
use Rattle.fields.proofs.domain_size_to.Given as goal

abbrev pub invariant-loop-k : goal.invariant-loop-k
invariant-loop-k l = Sizing l.most l.s l.x l.lengths l.size l.from l.k

abbrev pub decreases-loop-k : goal.decreases-loop-k
decreases-loop-k l = length l.lengths - l.k
