-- `cells::is_marked` meets its contract: its tests are the definition's.
use Rattle.cells.specs.Inner.{marked_test}
use Rattle.cells.proofs.is_marked.Goals as goal

pub returns : goal.returns
unfolding marked_test
returns c =
    simp (
      c.both-3.ensures,
      c.both-2.ensures,
      c.both.ensures,
      c.same-rest.ensures,
      c.tail-2.ensures,
      c.tail.ensures,
      c.octet.ensures,
      c.octet-first.ensures,
    )
