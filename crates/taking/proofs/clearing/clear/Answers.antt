-- `clearing::clear` meets its contract. The loop's invariant: in the cells passed stands what is left there, and the others are as they were.
use Prim.Native.Nat.{ℕ}
use mathlib.Core.List.{List}
use mathlib.Core.Path.{ap, ◌∙◌}
use lib.ListN.{length}
use Rattle.packet.specs.declared.SegmentCounter.{SegmentCounter}
use Rattle.cells.specs.Rows.{cell_of}
use Rattle.cells.specs.Order.{cell_at}
use Rattle.taking.specs.Cleared.{laid_at, left_within}
use Rattle.taking.proofs.Clears.{clearing_first, clearing_row, clearing_on}
use Rattle.taking.proofs.Leaves.{left_long}
use Rattle.taking.proofs.clearing.clear.Goals as goal

pub loop-i-init : goal.loop-i-init
loop-i-init c =
    clearing_first _ _ _ _

pub leave-requires : goal.leave-requires
leave-requires c =
    record { zero_value = c.requires.zero_value; counter_width_in_bounds = c.requires.counter_width_in_bounds; last_value = ap (λ (x : SegmentCounter). x.0) c.counter_after-last.ensures }

pub loop-i-preserved : goal.loop-i-preserved
loop-i-preserved c =
    let k = c.loop-i.invariant in let a = c.args in let Z = length a.zero.now in
    let w = left_long Z a.key.now a.first.0 a.steps c.requires.counter_width_in_bounds (λ (j : ℕ). cell_at a.s Z a.store.now j) in
    clearing_on k c.loop-i-test.true
    (c.leave.ensures
    ∙ ap (λ (r : List ℕ). laid_at Z c.loop-i.i (left_within Z a.key.now a.first.0 a.steps (cell_of a.s Z r)) c.loop-i.store) (clearing_row w k))
