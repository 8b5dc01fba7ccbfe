-- `filling::single_to` meets its contract.
use Rattle.filling.proofs.Singles.{single_none, single_more}
use mathlib.Core.Path.{sym, ◌∙◌}
use native.Mathlib.Omega.{arith}
use Rattle.filling.proofs.single_to.Goals as goal

pub loop-to-init : goal.loop-to-init
loop-to-init c =
    single_none c.args.p.now c.requires.here (omega arith)

pub overflow_sub-lim : goal.overflow_sub-lim
overflow_sub-lim c =
    c.loop-to.invariant.top

pub overflow_add-to : goal.overflow_add-to
overflow_add-to c =
    omega (arith, c.loop-to.invariant.top, c.requires.limit)

pub slice_bounds-all_single-count : goal.slice_bounds-all_single-count
slice_bounds-all_single-count c =
    omega arith

pub slice_bounds-all_single-start : goal.slice_bounds-all_single-start
slice_bounds-all_single-start c =
    omega arith

pub slice_bounds-all_single-end : goal.slice_bounds-all_single-end
slice_bounds-all_single-end c =
    omega (arith, c.loop-to.invariant.top, c.loop-to-test.true, c.requires.inside)

pub overflow_add-to-then-all_single : goal.overflow_add-to-then-all_single
overflow_add-to-then-all_single c =
    omega (arith, c.loop-to.invariant.top, c.requires.limit)

pub loop-to-smaller : goal.loop-to-smaller
loop-to-smaller c =
    omega (arith, c.loop-to.invariant.top, c.loop-to-test.true)

pub loop-to-preserved : goal.loop-to-preserved
loop-to-preserved c =
    let i = c.loop-to.invariant in single_more c.args.p.now i (omega arith) (omega (arith, i.top, c.loop-to-test.true)) c.requires.inside
    (sym c.all_single.ensures ∙ c.if-all_single.true)

pub returns-else-all_single : goal.returns-else-all_single
returns-else-all_single c =
    c.loop-to.invariant

pub returns : goal.returns
returns c =
    c.loop-to.invariant
