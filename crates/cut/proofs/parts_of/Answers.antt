-- `cut::parts_of` meets its contract: rounding up.
use Rattle.cut.proofs.Counting.{rounded_nothing, rounded_some}
use mathlib.Core.Path.{◌∙◌}
use Rattle.cut.proofs.parts_of.Goals as goal

pub returns-then-c-eq0 : goal.returns-then-c-eq0
returns-then-c-eq0 c =
    rounded_nothing _ _ c.if-c-eq0.true

pub returns-else-c-eq0 : goal.returns-else-c-eq0
returns-else-c-eq0 c = c.div_ceil.ensures ∙ rounded_some _ _ c.if-c-eq0.false
