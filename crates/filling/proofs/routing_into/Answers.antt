-- `filling::routing_into` meets its contract.
use Rattle.filling.proofs.routing_into.Goals as goal

pub returns : goal.returns
returns c =
    simp (c.octet-high.ensures.value, c.octet-low.ensures.value, c.word-qualifier.ensures.value, c.transaction-id.ensures)
