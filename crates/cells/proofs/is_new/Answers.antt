-- `cells::is_new` meets its contract: it is new where the search finds none below.
use Rattle.cells.proofs.Entering.{new_found, new_not}
use Rattle.cells.proofs.is_new.Goals as goal

pub find_on-requires : goal.find_on-requires
find_on-requires c =
    record { zero_value = c.requires.zero_value; asked = c.requires.asked; chained = c.requires.chained; b_value = c.requires.b_value }

pub returns-then-apart : goal.returns-then-apart
returns-then-apart c =
    new_found _ _ _ _ _ _ c.if-apart.true c.find_on.ensures

pub returns : goal.returns
returns c =
    new_not _ _ _ _ _ _ c.if-apart.false
