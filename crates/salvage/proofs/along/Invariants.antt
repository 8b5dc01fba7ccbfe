-- `salvage::along` meets its contract. The loop's invariant: what is tested and listed so far, before what is left of the call, is the
-- whole call, and the place lies in the part.
use Prim.Native.Nat.{◌+◌, ◌-◌}
use mathlib.Core.Path.{◌≡◌}
use lib.ListN.{length}
use Rattle.salvage.proofs.Holding.{Held}
use Rattle.salvage.proofs.along.Given as goal

abbrev pub invariant-loop-at : goal.invariant-loop-at
invariant-loop-at l = Held l.s l.part.octets.now l.part.off l.part.ends l.n l.till l.grant l.initial.list l.fn.first l.list l.from l.at l.tested l.entries × (length l.list ≡ length l.initial.list)

abbrev pub decreases-loop-at : goal.decreases-loop-at
decreases-loop-at l = l.part.off + length l.part.octets.now - l.at
