-- `cells::is_free_lem` meets its contract: rows that differ in the first octet differ.
use Rattle.cells.proofs.Scans.{first_differs}
use Rattle.cells.proofs.is_free.Goals as goal

pub returns-then-octet : goal.returns-then-octet
returns-then-octet c =
    first_differs _ _ c.octet.ensures c.octet-2.ensures c.if-octet.true
