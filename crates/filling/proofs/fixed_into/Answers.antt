-- `filling::fixed_into` meets its contract.
use Rattle.filling.proofs.fixed_into.Goals as goal

pub returns : goal.returns
returns c =
    rw (
      c.flags_into.ensures,
      c.routing_into.ensures,
      c.names_into.ensures,
      c.primary_into.ensures,
    )
