-- `utf8::singles` meets its contract. The loop's invariant: the flag tells whether the octets passed do.
use mathlib.Core.Path.{◌≡◌}
use Rattle.utf8.specs.Places.{single_at, all}
use Rattle.utf8.proofs.singles.Given as goal

abbrev pub invariant-loop-i : goal.invariant-loop-i
invariant-loop-i l = l.so_far ≡ all (single_at l.x) l.at l.i
