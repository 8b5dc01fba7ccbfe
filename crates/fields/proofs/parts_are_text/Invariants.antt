-- `fields::parts_are_text` meets its contract: parts of single octets are text. Else the loop's invariant, `Judged`: what is tested and
-- what is left are all the parts.
use Prim.Native.Nat.{◌-◌}
use lib.ListN.{length}
use Rattle.fields.proofs.Judged.{Judged}
use Rattle.fields.proofs.parts_are_text.Given as goal

abbrev pub invariant-loop-k : goal.invariant-loop-k
invariant-loop-k l = Judged l.x l.lengths l.so_far l.from l.k

abbrev pub decreases-loop-k : goal.decreases-loop-k
decreases-loop-k l = length l.lengths - l.k
