-- `untaken::untaken_by` meets its contract: without records no segment lies in a range, and else all are looked for.
use Rattle.cells.proofs.Ranges.{markless_untaken}
use Rattle.cells.proofs.untaken.untaken_by.Goals as goal

pub returns-then-no_marks : goal.returns-then-no_marks
returns-then-no_marks c =
    markless_untaken _ _ _ _ c.no_marks.ensures c.if-no_marks.true

pub untaken_chained-requires : goal.untaken_chained-requires
untaken_chained-requires c =
    record { zero_value = c.requires.zero_value; n_le_cells_most = c.requires.n_le_cells_most; bodies = c.requires.bodies }

pub returns : goal.returns
returns c =
    c.untaken_chained.ensures
