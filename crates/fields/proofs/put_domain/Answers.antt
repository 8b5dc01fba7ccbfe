-- `fields::put_domain` meets its contract: a count, and then the parts.
use Rattle.fields.proofs.Written.{length_split}
use Rattle.fields.specs.Inner.{domain_pieces}
use Rattle.octets.proofs.Laying.{lays_both}
use Rattle.fields.proofs.put_domain.Goals as goal

pub returns : goal.returns
unfolding domain_pieces
returns c =
    rw (length_split _
    _)
    (lays_both c.put_uinteger-start.ensures c.put_parts.ensures)
