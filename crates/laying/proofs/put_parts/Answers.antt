-- `laying::put_parts` meets its contract. The loop's invariant, `Parts`: what is laid and what is left are all the pieces, and there is room for them.
use Prim.Native.Nat.{◌≤◌, ◌<◌}
use Rattle.fields.proofs.Written.{parting_inside, parting_done}
use Rattle.laying.proofs.Pieces.{parts_first, part_brief, part_room, parts_turn}
use borrow.Author.Rules.{rules}
use lib.ListN.{length, get_or}
use native.Mathlib.Omega.{arith}
use Rattle.laying.proofs.put_parts.Goals as goal

pub loop-length-init : goal.loop-length-init
loop-length-init c =
    parts_first _ _ _ _ _ c.requires.x_in_bounds

pub slice_bounds-put_part-count : goal.slice_bounds-put_part-count
slice_bounds-put_part-count c =
    omega (arith, c.within-end.ensures)

pub slice_bounds-put_part-end : goal.slice_bounds-put_part-end
slice_bounds-put_part-end c =
    let h = parting_inside c.loop-length.invariant.parting (get_or c.args.lengths.now c.loop-length.length-index 0) in
    let i : c.within-end.result ≤ length c.args.x.now = omega (arith, c.within-end.ensures) in
    search rules

pub put_part-next-requires : goal.put_part-next-requires
put_part-next-requires c =
    let p = c.loop-length.invariant in
    let t : c.loop-length.length-index < length c.args.lengths.now = omega arith in
    let e = c.within-end.ensures in
    record { profile_value = c.requires.profile_value; x_len_bound = part_brief p t e c.requires.x_len_bound; x_in_bounds = part_room p t e }

pub loop-length-preserved : goal.loop-length-preserved
loop-length-preserved c =
    parts_turn c.loop-length.invariant (omega arith) c.within-end.ensures c.put_part-next.auto.out
    c.put_part-next.ensures.lays c.put_part-next.ensures.place

pub shape_of-out : goal.shape_of-out
shape_of-out c =
    c.loop-length.invariant.parting.long

pub returns : goal.returns
returns c =
    parting_done c.loop-length.invariant.parting (omega arith)
