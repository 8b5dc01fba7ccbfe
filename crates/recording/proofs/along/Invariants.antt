-- `recording::along` meets its contract. The loop's invariant: so many octets are used up and so many written, and the rest comes to
-- the rest.
use Prim.Native.Nat.{◌-◌}
use lib.ListN.{length}
use mathlib.Core.Path.{◌≡◌}
use Rattle.recording.proofs.Reaching.{Going}
use Rattle.recording.proofs.along.Given as goal

abbrev pub invariant-loop-s : goal.invariant-loop-s
invariant-loop-s l = Going l.s l.x l.initial.out (length l.zero) l.store l.out l.place l.written ×
    ((length l.store ≡ length l.initial.store) × ((length l.spare ≡ length l.initial.spare) × (length l.out ≡ length l.initial.out)))

abbrev pub decreases-loop-s : goal.decreases-loop-s
decreases-loop-s l = length l.x - l.place
