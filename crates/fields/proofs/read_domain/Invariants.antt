-- `fields::read_domain` meets its contract. The loop's invariant: k parts are read, each in its place.
use Rattle.fields.proofs.Steps.{Came}
use Rattle.fields.proofs.read_domain.Given as goal

abbrev pub invariant-loop-k : goal.invariant-loop-k
invariant-loop-k l = Came l.initial.reader l.reader l.count l.k l.parts
