-- `walk::read_varint` meets its contract: each case of the Varint's reading is the definition's, and a place within the limit and a
-- value of 32 bits fit.
use borrow.Author.Tests.{ne_eqb}
use mathlib.Core.Path.{sym, ap, ◌∙◌}
use native.Mathlib.Omega.{arith}
use Rattle.std.specs.Prelude.{Err}
use Rattle.walk.proofs.Steps.{number_refused, number_got, number_told, number_small}
use Rattle.walk.specs.Inner.{of_walk, as_uinteger}
use Rattle.walk.specs.Walk.{varint_step}
use Rattle.walk.proofs.read_varint.Goals as goal

pub returns-then-w-ne0 : goal.returns-then-w-ne0
returns-then-w-ne0 c =
    ap as_uinteger (sym (number_refused _ _ _ (ne_eqb _ _ c.if-w-ne0.true)))

pub overflow_cast-result : goal.overflow_cast-result
overflow_cast-result c =
    let g = number_got c.args.b _ (of_walk c.args.w) c.before_bound-end.ensures.limit
    c.read32.ensures c.in-Ok.is in
    omega (arith, (number_small c.args.b.end c.args.p.now c.args.w.at _ _ (λ i. (c.type_inv.p i).fits) g).value_top)

pub returns-in-Ok : goal.returns-in-Ok
unfolding varint_step
returns-in-Ok c =
    let t = number_told c.args.b _ _ c.before_bound-end.ensures.limit
    c.read32.ensures c.in-Ok.is c.if-w-ne0.false in
    simp (c.goes-walk.ensures, t)

pub returns-in-Err-Ends : goal.returns-in-Err-Ends
unfolding varint_step
returns-in-Err-Ends c =
    let t = number_told c.args.b _ _ c.before_bound-end.ensures.limit
    c.read32.ensures (c.in-Err-Ends.is ∙ ap Err c.in-Err-Ends.field-0-is) c.if-w-ne0.false in
    simp (c.stopped-walk.ensures, c.end_refusal-ended.ensures, t)

pub returns-in-Err-Bad : goal.returns-in-Err-Bad
unfolding varint_step
returns-in-Err-Bad c =
    let t = number_told c.args.b _ _ c.before_bound-end.ensures.limit
    c.read32.ensures (c.in-Err-Bad.is ∙ ap Err c.in-Err-Bad.field-0-is) c.if-w-ne0.false in
    simp (c.stopped-walk-in-Err-Bad.ensures, t)
