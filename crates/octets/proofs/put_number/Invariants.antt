-- `octets::put_number` meets its contract. The loop's invariant: the octets that are left, laid over what is there now, give the whole.
use mathlib.Core.Path.{◌≡◌}
use lib.Seq.{sets}
use Rattle.octets.specs.Octets.{wide}
use Rattle.octets.proofs.put_number.Given as goal

abbrev pub invariant-loop-k : goal.invariant-loop-k
invariant-loop-k l = sets l.out l.at (wide l.k l.x) ≡ sets l.initial.out l.at (wide l.n l.v)
