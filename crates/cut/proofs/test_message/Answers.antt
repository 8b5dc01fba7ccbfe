-- `cut::test_message` meets its contract: its tests are the definition's, in its order.
use native.Mathlib.Omega.{arith}
use Rattle.cut.proofs.Plans.{values_tested}
use Rattle.cut.proofs.test_message.Goals as goal

pub returns : goal.returns
returns c =
    let d = c.well_formed.1.1.1.1.1.0 in values_tested _ _ _ _ _ _ (omega (arith, d.1.1.1.0.1.1.0.1)) c.zone_fits-zone_fits.ensures
    c.test_limit-a.ensures c.test_header-b.ensures c.unless-c.ensures
    c.unless-d.ensures c.test_parts-e.ensures c.test_utf8.ensures
