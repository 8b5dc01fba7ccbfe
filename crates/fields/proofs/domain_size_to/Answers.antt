-- `fields::domain_size_to` meets its contract. The loop's invariant, `Sizing`: what is counted and what is left are the whole.
use native.Mathlib.Omega.{arith}
use Rattle.fields.proofs.Sized.{sizing_first, sizing_turn, sizing_done}
use Rattle.fields.proofs.domain_size_to.Goals as goal

pub loop-k-init : goal.loop-k-init
loop-k-init c =
    sizing_first _ _ _ _ c.uinteger_size.ensures c.plus_to-size.ensures

pub overflow_sub-end : goal.overflow_sub-end
overflow_sub-end c =
    omega (arith, c.within-end.ensures)

pub loop-k-preserved : goal.loop-k-preserved
loop-k-preserved c =
    sizing_turn c.loop-k.invariant
    c.loop-k-test.true c.within-end.ensures c.text_size_to.ensures
    c.plus_to.ensures c.plus_to-size-in-loop-k.ensures

pub returns : goal.returns
returns c =
    sizing_done c.loop-k.invariant c.loop-k-test.false
