-- `untaken::untaken_chained` meets its contract: at first no cell is on a chain, then all records are.
use Rattle.cells.proofs.untaken.untaken_chained.Goals as goal

pub chain_taken-requires-clause-chained : goal.chain_taken-requires-clause-chained
chain_taken-requires-clause-chained c = c.new-chains.ensures _
