-- `opening::check` meets its contract: at first no cell is on a chain.
use Rattle.cells.proofs.opening.check.Goals as goal

pub check_by-requires-clause-chained : goal.check_by-requires-clause-chained
check_by-requires-clause-chained c = c.new-chains.ensures _
