-- `salvage::width` meets its contract: answer by answer, the place is kept or it is not.
use mathlib.Core.Path.{refl}
use Rattle.walk.proofs.Refuses.{has_number}
use Rattle.packet.specs.Reading.{refused_header}
use Rattle.salvage.proofs.Testing.{width_short, width_unmarked, width_outside, width_refused, width_kept}
use Rattle.salvage.proofs.width.Goals as goal

pub returns-then-rest-lt-SHORTEST : goal.returns-then-rest-lt-SHORTEST
returns-then-rest-lt-SHORTEST c =
    width_short _ _ _ c.if-rest-lt-SHORTEST.true

pub returns-then-not-marked : goal.returns-then-not-marked
returns-then-not-marked c =
    width_unmarked _ _ _ c.marked.ensures c.if-not-marked.true

pub returns-then-rest-size : goal.returns-then-rest-size
returns-then-rest-size c =
    width_outside _ _ _ c.read.ensures c.if-rest-size.true

pub returns-in-Err : goal.returns-in-Err
unfolding refused_header
returns-in-Err c =
    width_refused _ _ _ c.read.ensures c.in-Err.ensures.answer (has_number c.in-Err.field-0)

pub returns-in-Ok : goal.returns-in-Ok
returns-in-Ok c =
    width_kept _ _ _ c.read.ensures c.in-Ok.ensures.answer c.marked.ensures c.if-not-marked.false c.if-rest-size.false refl
