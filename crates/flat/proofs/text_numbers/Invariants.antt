-- `flat::text_numbers` meets its contract: at each turn k places lie in the answer.
use Rattle.flat.proofs.Placing.{Placed}
use Rattle.flat.proofs.text_numbers.Given as goal

abbrev pub invariant-loop-k : goal.invariant-loop-k
invariant-loop-k l = Placed l.initial.numbers 7 l.fn.texts.parts l.numbers l.k
