-- `tally::records_to` meets its contract. The loop's invariant: how many of the cells passed have a record.
use Prim.Native.Nat.{ℕ}
use lib.ListN.{length}
use mathlib.Core.List.{List}
use mathlib.Core.Path.{ap, ◌∙◌}
use native.Mathlib.Omega.{arith}
use Rattle.cells.specs.Rows.{cell_of}
use Rattle.taking.specs.Forgetting.{is_record}
use Rattle.tally.specs.Counting.{records_to}
use Rattle.tally.proofs.Passing.{byte_top, byte_more, counted_first, counted_low, counted_turn, counted_done}
use Rattle.tally.proofs.records_to.Goals as goal

pub loop-i-init : goal.loop-i-init
loop-i-init c =
    counted_first _ _

pub overflow_add-count : goal.overflow_add-count
overflow_add-count c =
    omega (arith, counted_low {k = c.args.n} c.loop-i.invariant c.loop-i-test.true (omega arith), byte_top _ c.from-count.ensures, c.ranges.n.fits)

pub loop-i-preserved : goal.loop-i-preserved
loop-i-preserved c =
    let a = c.args in counted_turn c.loop-i.invariant c.loop-i-test.true
    (c.taken.ensures ∙ ap (λ (r : List ℕ). is_record (cell_of a.s (length a.zero.now) r)) c.row.ensures) (byte_more _ _ c.from-count.ensures)

pub returns : goal.returns
unfolding records_to
returns c =
    counted_done c.loop-i.invariant c.loop-i-test.false
