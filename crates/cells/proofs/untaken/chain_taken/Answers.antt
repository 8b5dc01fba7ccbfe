-- `untaken::chain_taken` meets its contract. The loop's invariant: the cells passed are on their chains.
use native.Mathlib.Omega.{arith}
use Rattle.cells.proofs.Ranges.{linking_first, linking_done}
use Rattle.cells.proofs.untaken.chain_taken.Goals as goal

pub loop-i-init : goal.loop-i-init
loop-i-init c =
    linking_first c.requires.chained

pub enter_taken-requires : goal.enter_taken-requires
enter_taken-requires c =
    record { zero_value = c.requires.zero_value; i_lt_cells_most = omega (arith, c.loop-i-test.true, c.requires.n_le_cells_most); chained = c.loop-i.invariant.chained }

pub loop-i-preserved : goal.loop-i-preserved
loop-i-preserved c =
    record { most = omega (arith, c.loop-i-test.true); chained = c.enter_taken.ensures }

pub returns : goal.returns
returns c =
    linking_done c.loop-i.invariant c.loop-i-test.false
