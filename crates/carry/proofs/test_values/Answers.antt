-- `carry::test_values` meets its contract: its tests are the definition's, in its order.
use Rattle.carry.specs.Back.{value_test}
use Rattle.carry.proofs.test_values.Goals as goal

pub returns : goal.returns
unfolding value_test
returns c =
    simp (
      c.unless.ensures,
      c.unless-e.ensures,
      c.timestamp_fits.ensures,
      c.unless-d.ensures,
      c.id_fits-destination.ensures,
      c.content-2.ensures,
      c.unless-c.ensures,
      c.id_fits-source.ensures,
      c.content.ensures,
      c.unless-b.ensures,
      c.unless-a.ensures,
    )
