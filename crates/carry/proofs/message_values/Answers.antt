-- `carry::message_values` meets its contract: the fields are copied, and ids are what their texts say.
use Rattle.carry.specs.Back.{message_values}
use Rattle.carry.proofs.message_values.Goals as goal

pub returns : goal.returns
unfolding message_values
returns c =
    simp (
      c.id_value-destination.ensures,
      c.content-2.ensures,
      c.id_value-source.ensures,
      c.content.ensures,
    )
