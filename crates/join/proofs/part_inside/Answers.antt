-- `join::part_inside` meets its contract: two tests without a sum.
use Rattle.join.proofs.Parts.{past_place, past_length, within}
use Rattle.join.proofs.part_inside.Goals as goal

pub returns-then-x-place : goal.returns-then-x-place
returns-then-x-place c =
    past_place _ _ _ c.if-x-place.true

pub returns-then-x-place-2 : goal.returns-then-x-place-2
returns-then-x-place-2 c =
    past_length _ _ _ c.if-x-place.false c.if-x-place-2.true

pub returns : goal.returns
returns c =
    within _ _ _ c.if-x-place.false c.if-x-place-2.false
