-- `utf8::is_text` meets its contract. The loop's invariant: one flag tells whether the octets passed may stand where they do, the other
-- whether no character is unfinished after them.
use Prim.Native.Nat.{◌-◌}
use lib.ListN.{length}
use Rattle.utf8.proofs.Judging.{Judging}
use Rattle.utf8.proofs.is_text.Given as goal

abbrev pub invariant-loop-at : goal.invariant-loop-at
invariant-loop-at l = Judging l.x l.so_far l.ended l.at

abbrev pub decreases-loop-at : goal.decreases-loop-at
decreases-loop-at l = length l.x - l.at
