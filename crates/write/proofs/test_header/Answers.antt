-- `write::test_header` meets its contract: its tests are one.
use mathlib.Core.Path.{sym, ◌∙◌}
use Rattle.walk.specs.Walk.{unless}
use Rattle.write.proofs.Steps.{any_as_one}
use Rattle.write.proofs.test_header.Goals as goal

pub returns : goal.returns
returns c = c.unless.ensures ∙ rw c.header_fits.ensures (sym (any_as_one _ 21 _))
