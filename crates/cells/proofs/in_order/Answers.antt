-- `cells::in_order` meets its contract: at first no cell is on a chain.
use Rattle.cells.proofs.in_order.Goals as goal

pub in_order_by-requires-clause-chained : goal.in_order_by-requires-clause-chained
in_order_by-requires-clause-chained c = c.new-chains.ensures _
