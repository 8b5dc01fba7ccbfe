-- `varint::read_to` meets its contract. The loop's invariant, `Going`: what is left to read, joined to what was, is the whole.
use mathlib.Core.Path.{ap, sym}
use native.Mathlib.Omega.{arith}
use Rattle.varint.proofs.Turns.{going_first, ended, sum_fits, over, wide, found_first, found_later, not_shortest, more}
use Rattle.varint.specs.Answer.{found}
use Rattle.varint.proofs.read_to.Goals as goal

pub loop-i-init : goal.loop-i-init
loop-i-init c =
    going_first _ _ _ c.requires c.ranges.max.fits

pub bounds-s-i : goal.bounds-s-i
bounds-s-i c =
    omega arith

pub overflow_cast-b : goal.overflow_cast-b
overflow_cast-b c =
    omega (arith, c.type_inv.s c.loop-i.i)

pub returns-then-room-b : goal.returns-then-room-b
returns-then-room-b c =
    ap found (sym (over c.loop-i.invariant c.loop-i-test.true c.if-b-lt128.true c.if-room-b.true))

pub overflow_mul-v : goal.overflow_mul-v
overflow_mul-v c =
    omega (arith, sum_fits c.loop-i.invariant c.loop-i-test.true c.if-room-b.false)

pub overflow_add-v : goal.overflow_add-v
overflow_add-v c =
    omega (arith, sum_fits c.loop-i.invariant c.loop-i-test.true c.if-room-b.false)

pub overflow_add-next : goal.overflow_add-next
overflow_add-next c =
    omega arith

pub returns-then-b-eq0 : goal.returns-then-b-eq0
returns-then-b-eq0 c =
    ap found (sym (not_shortest c.loop-i.invariant c.loop-i-test.true c.if-b-lt128.true c.if-room-b.false
    c.if-at-i.true c.if-b-eq0.true))

pub returns-else-b-eq0 : goal.returns-else-b-eq0
returns-else-b-eq0 c =
    ap found (sym (found_later c.loop-i.invariant c.loop-i-test.true c.if-b-lt128.true c.if-room-b.false
    c.if-at-i.true c.if-b-eq0.false))

pub returns-else-at-i : goal.returns-else-at-i
returns-else-at-i c =
    ap found (sym (found_first c.loop-i.invariant c.loop-i-test.true c.if-b-lt128.true c.if-room-b.false
    c.if-at-i.false))

pub returns-then-room-lt128 : goal.returns-then-room-lt128
returns-then-room-lt128 c =
    ap found (sym (wide c.loop-i.invariant c.loop-i-test.true c.if-b-lt128.false c.if-room-lt128.true))

pub loop-i-preserved : goal.loop-i-preserved
loop-i-preserved c =
    more c.loop-i.invariant c.loop-i-test.true c.if-b-lt128.false (c.type_inv.s _).fits c.if-room-lt128.false

pub overflow_mul-sum : goal.overflow_mul-sum
overflow_mul-sum c =
    omega (arith, (loop-i-preserved c).part, (loop-i-preserved c).small)

pub overflow_add-sum : goal.overflow_add-sum
overflow_add-sum c =
    omega (arith, (loop-i-preserved c).part, (loop-i-preserved c).small)

pub overflow_mul-unit : goal.overflow_mul-unit
overflow_mul-unit c =
    omega (arith, (loop-i-preserved c).small)

pub overflow_add-i : goal.overflow_add-i
overflow_add-i c =
    omega arith

pub loop-i-smaller : goal.loop-i-smaller
loop-i-smaller c =
    omega arith

pub returns : goal.returns
returns c =
    ap found (sym (ended c.loop-i.invariant c.loop-i-test.false))
