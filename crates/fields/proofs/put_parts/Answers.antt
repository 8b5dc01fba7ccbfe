-- `fields::put_parts` meets its contract. The loop's invariant, `Parting`: what is written and what is left are all the pieces.
use Prim.Native.Nat.{◌≤◌}
use borrow.Author.Rules.{rules}
use lib.ListN.{length, get_or}
use lib.ListN.{length}
use native.Mathlib.Omega.{arith}
use Rattle.fields.proofs.Written.{parting_first, parting_inside, parting_turn, parting_done}
use Rattle.fields.proofs.put_parts.Goals as goal

pub loop-k-init : goal.loop-k-init
loop-k-init c =
    parting_first _ _ _ _ _

pub slice_bounds-put_part-count : goal.slice_bounds-put_part-count
slice_bounds-put_part-count c =
    omega (arith, c.within-end.ensures)

pub slice_bounds-put_part-end : goal.slice_bounds-put_part-end
slice_bounds-put_part-end c =
    let h = parting_inside c.loop-k.invariant
    (get_or c.args.lengths.now c.loop-k.k 0) in
    let i : c.within-end.result ≤ length c.args.x.now =
    omega (arith, c.within-end.ensures) in
    search rules

pub loop-k-preserved : goal.loop-k-preserved
loop-k-preserved c =
    parting_turn c.loop-k.invariant
    c.loop-k-test.true c.within-end.ensures
    c.put_part-next.auto.out c.put_part-next.ensures

pub shape_of-out : goal.shape_of-out
shape_of-out c =
    c.loop-k.invariant.long

pub returns : goal.returns
returns c =
    parting_done c.loop-k.invariant c.loop-k-test.false
