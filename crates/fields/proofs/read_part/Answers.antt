-- `fields::read_part` meets its contract: what was refused in any of its steps began at its octet of 1.
use Rattle.std.proofs.Common.{arith}
use Rattle.walk.proofs.Steps.{field_goes}
use Rattle.walk.proofs.Keeps.{field_stops}
use Rattle.fields.specs.Fields.{part}
use Rattle.fields.proofs.read_part.Goals as goal

pub returns-in-Ok : goal.returns-in-Ok
unfolding part
returns-in-Ok c = grind (arith, field_goes)

pub returns-in-Err : goal.returns-in-Err
unfolding part
returns-in-Err c = field_stops _ c.in-Err.ensures c.began.ensures
