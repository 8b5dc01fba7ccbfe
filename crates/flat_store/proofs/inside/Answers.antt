-- `flat_store::inside` meets its contract, by the two tests.
use Rattle.flat_store.proofs.Telling.{inside_behind, inside_short, inside_there}
use Rattle.flat_store.proofs.inside.Goals as goal

pub returns-then-most-place : goal.returns-then-most-place
returns-then-most-place c =
    inside_behind _ _ _ c.if-most-place.true

pub returns-then-most-place-2 : goal.returns-then-most-place-2
returns-then-most-place-2 c =
    inside_short _ _ _ c.if-most-place.false c.if-most-place-2.true

pub returns : goal.returns
returns c =
    inside_there _ _ _ c.if-most-place.false c.if-most-place-2.false
