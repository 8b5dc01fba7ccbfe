-- `octets::copy` meets its contract. The loop's invariant: the octets that are left, laid over what is there now, give the whole.
use Rattle.octets.proofs.Writing.{Copying}
use Rattle.octets.proofs.copy.Given as goal

abbrev pub invariant-loop-i : goal.invariant-loop-i
invariant-loop-i l = Copying l.initial.out l.at l.from l.n l.out l.i
