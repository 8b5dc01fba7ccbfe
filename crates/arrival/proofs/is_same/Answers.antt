-- `arrival::is_same` meets its contract.
use Rattle.arrival.proofs.Arrivals.{rest_same}
use Rattle.arrival.proofs.is_same.Goals as goal

pub returns : goal.returns
returns c =
    rest_same _ _ _ _ _ _ c.packet_in-q.ensures c.piece_in-t.ensures c.same_rest.ensures
