-- `carry::id_value` meets its contract: what the text says, and 0 if it is absent.
use Rattle.carry.specs.Digits.{id_value}
use Rattle.carry.proofs.id_value.Goals as goal

pub returns-then-there : goal.returns-then-there
unfolding id_value
returns-then-there c =
    simp (c.if-there.true, c.value_of.ensures.value)

pub returns : goal.returns
unfolding id_value
returns c =
    simp c.if-there.false
