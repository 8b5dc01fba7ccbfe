-- `filling::parts_into` meets its contract.
use Rattle.filling.proofs.Parts.{Parted}
use Rattle.filling.proofs.parts_into.Given as goal

abbrev pub invariant-loop-k : goal.invariant-loop-k
invariant-loop-k l = Parted l.s l.p l.n l.start l.lim l.initial.answer l.answer l.at l.k
