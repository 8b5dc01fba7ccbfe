-- `carry::test_route` meets its contract: its tests are the definition's, in its order.
use Rattle.write.specs.Given.{unless_all}
use Rattle.carry.specs.Back.{route_test, route_checks}
use Rattle.carry.proofs.test_route.Goals as goal

pub returns : goal.returns
unfolding route_test route_checks unless_all
returns c =
    simp (
      c.unless.ensures,
      c.unless-c.ensures,
      c.unless-b.ensures,
      c.unless-a.ensures,
      c.test_settings-r.ensures,
    )
