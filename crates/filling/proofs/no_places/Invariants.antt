-- `filling::no_places` meets its contract.
use Rattle.filling.proofs.Parts.{Emptied}
use Rattle.filling.proofs.no_places.Given as goal

abbrev pub invariant-loop-k : goal.invariant-loop-k
invariant-loop-k l = Emptied l.from l.initial.answer l.answer l.k
