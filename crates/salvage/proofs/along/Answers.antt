-- `salvage::along` meets its contract. The loop's invariant: what is tested and listed so far, before what is left of the call, is the
-- whole call, and the place lies in the part.
use mathlib.Core.Path.{refl}
use native.Mathlib.Omega.{arith}
use Rattle.salvage.proofs.Testing.{is_wide}
use Rattle.salvage.proofs.Going.{going_long, going_room, going_space}
use Rattle.salvage.proofs.Holding.{held_first, held_end, held_passed, held_kept, held_done}
use Rattle.salvage.proofs.along.Goals as goal

-- a pair with the names of the clauses
named : {A B : Type 0} → A × B → record { value : A; list_after : B }
named p = record { value = p.0; list_after = p.1 }

pub length-n-requires : goal.length-n-requires
length-n-requires c =
    c.requires.most

pub till-till-requires : goal.till-till-requires
till-till-requires c =
    c.requires.most

pub loop-at-init : goal.loop-at-init
loop-at-init c =
    (held_first _ _ _ _ _ _ c.length-n.ensures.are_octets c.requires c.length-n.ensures.value c.till-till.ensures, refl)

pub overflow_sub-grant : goal.overflow_sub-grant
overflow_sub-grant c =
    c.loop-at.invariant.0.going.spent

pub overflow_sub-free : goal.overflow_sub-free
overflow_sub-free c =
    c.loop-at.invariant.0.going.room

pub finish-requires : goal.finish-requires
finish-requires c =
    record { begin_le_place = c.loop-at.invariant.0.going.order; entries_in_bounds = going_room c.loop-at.invariant.0.going }

pub returns-then-end-at : goal.returns-then-end-at
returns-then-end-at c =
    named (held_done c.loop-at.invariant.0 c.end_at-end.ensures c.if-end-at.true c.finish.ensures.value c.finish.ensures.list_after)

pub overflow_sub-at : goal.overflow_sub-at
overflow_sub-at c =
    c.loop-at.invariant.0.low

pub width-requires : goal.width-requires
width-requires c =
    omega (arith, c.loop-at.invariant.0.low, c.loop-at.invariant.0.top)

pub overflow_add-at : goal.overflow_add-at
overflow_add-at c =
    omega (arith, held_end c.loop-at.invariant.0 c.end_at-end.ensures c.if-end-at.false, c.loop-at.invariant.0.most)

pub overflow_sub-at-in-None : goal.overflow_sub-at-in-None
overflow_sub-at-in-None c =
    omega (arith, c.loop-at.invariant.0.low)

pub overflow_sub-end : goal.overflow_sub-end
overflow_sub-end c =
    omega (arith, c.loop-at.invariant.0.low, c.if-end-at.false)

pub pass-requires : goal.pass-requires
pass-requires c =
    record { from_le_end = omega (arith, c.if-end-at.false); end_in_bounds = omega (arith, held_end c.loop-at.invariant.0 c.end_at-end.ensures c.if-end-at.false) }

pub overflow_add-next : goal.overflow_add-next
overflow_add-next c =
    omega (arith, c.pass.ensures.top, held_end c.loop-at.invariant.0 c.end_at-end.ensures c.if-end-at.false, c.loop-at.invariant.0.most)

pub overflow_sub-tested : goal.overflow_sub-tested
overflow_sub-tested c =
    omega (arith, c.pass.ensures.low)

pub overflow_add-tested : goal.overflow_add-tested
overflow_add-tested c =
    let k = held_passed c.loop-at.invariant.0 c.end_at-end.ensures c.if-end-at.false c.in-None.ensures refl c.pass.ensures in
    omega (arith, k.going.spent)

pub loop-at-smaller-in-None : goal.loop-at-smaller-in-None
loop-at-smaller-in-None c =
    let k = held_passed c.loop-at.invariant.0 c.end_at-end.ensures c.if-end-at.false c.in-None.ensures refl c.pass.ensures in
    omega (arith, k.top, c.pass.ensures.low)

pub loop-at-preserved-in-None : goal.loop-at-preserved-in-None
loop-at-preserved-in-None c = (
  held_passed c.loop-at.invariant.0 c.end_at-end.ensures c.if-end-at.false c.in-None.ensures refl c.pass.ensures,
  c.loop-at.invariant.1,
)

pub put_kept-entries-requires : goal.put_kept-entries-requires
put_kept-entries-requires c =
    going_space c.loop-at.invariant.0.going c.end_at-end.ensures c.if-end-at.false

pub overflow_add-tested-in-Some : goal.overflow_add-tested-in-Some
overflow_add-tested-in-Some c =
    let k = held_kept c.loop-at.invariant.0 c.end_at-end.ensures c.if-end-at.false c.in-Some.ensures refl c.put_kept-entries.ensures in
    omega (arith, k.going.spent)

pub overflow_add-at-in-Some : goal.overflow_add-at-in-Some
overflow_add-at-in-Some c =
    let k = held_kept c.loop-at.invariant.0 c.end_at-end.ensures c.if-end-at.false c.in-Some.ensures refl c.put_kept-entries.ensures in
    omega (arith, k.top, k.most)

pub loop-at-smaller : goal.loop-at-smaller
loop-at-smaller c =
    let k = held_kept c.loop-at.invariant.0 c.end_at-end.ensures c.if-end-at.false c.in-Some.ensures refl c.put_kept-entries.ensures in
    omega (arith, k.top, is_wide _ _ _ c.in-Some.ensures)

pub loop-at-preserved : goal.loop-at-preserved
loop-at-preserved c =
    let k = held_kept c.loop-at.invariant.0 c.end_at-end.ensures c.if-end-at.false c.in-Some.ensures refl c.put_kept-entries.ensures in
    (k, going_long k.going)
