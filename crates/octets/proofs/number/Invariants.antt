-- `octets::number` meets its contract. The loop's invariant: the value is the number of the octets passed.
use mathlib.Core.Path.{◌≡◌}
use Rattle.octets.specs.Octets.{number as number_of}
use Rattle.octets.proofs.number.Given as goal

abbrev pub invariant-loop-k : goal.invariant-loop-k
invariant-loop-k l = l.v ≡ number_of l.k l.s l.at
