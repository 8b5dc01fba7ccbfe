-- `taking::take_chained` meets its contract: at first no cell is on a chain, and after the pass each held one is.
use Rattle.taking.proofs.take_chained.Goals as goal

pub order_by-requires-clause-chained : goal.order_by-requires-clause-chained
order_by-requires-clause-chained c = c.new-chains.ensures _

pub take_lowest-requires : goal.take_lowest-requires
take_lowest-requires c = (c.order_by.ensures.chained_2, c.requires.zero_value)
