-- `cells::same_rest` meets its contract.
use Rattle.cells.proofs.same_rest.Goals as goal

pub returns : goal.returns
returns c =
    simp (c.both.ensures, c.same.ensures, c.span-2.ensures, c.span.ensures)
