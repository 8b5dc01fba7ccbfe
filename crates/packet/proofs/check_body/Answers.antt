-- `packet::check_body` meets its contract: the test of the branch is the definition's.
use mathlib.Core.Path.{sym, ◌∙◌}
use Rattle.packet.specs.Reading.{body_test}
use Rattle.packet.proofs.Keeping.{body_tests}
use Rattle.packet.proofs.check_body.Goals as goal

pub returns-then-segmented : goal.returns-then-segmented
returns-then-segmented c =
    body_tests _ _ _ (sym c.segmented.ensures ∙ c.if-segmented.true) c.ensure.ensures

pub returns : goal.returns
unfolding body_test
returns c =
    simp (sym c.segmented.ensures ∙ c.if-segmented.false)
