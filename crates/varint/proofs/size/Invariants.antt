-- `varint::size` meets its contract. The loop's invariant: the octets counted and those left are all of them and one.
use Prim.Native.Nat.{◌+◌, ◌≤◌}
use lib.ListN.{length}
use mathlib.Core.Path.{◌≡◌}
use Rattle.varint.specs.Varint.{write}
use Rattle.varint.proofs.size.Given as goal

abbrev pub invariant-loop-x : goal.invariant-loop-x
invariant-loop-x l = (l.x ≤ l.v) × (l.n + length (write l.x) ≡ 1 + length (write l.v))

abbrev pub decreases-loop-x : goal.decreases-loop-x
decreases-loop-x l = l.x
