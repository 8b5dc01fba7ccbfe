-- `utf8::later_follow` meets its contract. The loop's invariant: the flag tells whether the octets passed do.
use Prim.Native.Nat.{◌+◌}
use mathlib.Core.Path.{◌≡◌}
use Rattle.utf8.specs.Places.{follows_at, all}
use Rattle.utf8.proofs.later_follow.Given as goal

abbrev pub invariant-loop-i : goal.invariant-loop-i
invariant-loop-i l = l.so_far ≡ all (follows_at l.x) (l.at + 3) l.i
