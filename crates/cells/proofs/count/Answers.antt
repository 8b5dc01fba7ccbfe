-- `cells::count` meets its contract, test by test.
use Rattle.cells.proofs.Scans.{fits_nothing, fits_all, fits_ragged, fits_none, fits_many}
use Rattle.cells.proofs.count.Goals as goal

pub returns-then-z-eq0 : goal.returns-then-z-eq0
returns-then-z-eq0 c =
    fits_nothing _ _ c.if-z-eq0.true

pub returns-then-len-z-ne0 : goal.returns-then-len-z-ne0
returns-then-len-z-ne0 c =
    simp (fits_ragged _ _ c.if-len-z-ne0.true)

pub returns-then-n-lt1 : goal.returns-then-n-lt1
returns-then-n-lt1 c =
    simp (fits_none _ _ c.if-len-z-ne0.false c.if-n-lt1.true)

pub returns-then-n-gt-CELLS_MOST : goal.returns-then-n-gt-CELLS_MOST
returns-then-n-gt-CELLS_MOST c =
    simp (fits_many _ _ c.if-len-z-ne0.false c.if-n-lt1.false c.if-n-gt-CELLS_MOST.true)

pub returns : goal.returns
returns c =
    simp (fits_all _ _ c.if-len-z-ne0.false c.if-n-lt1.false c.if-n-gt-CELLS_MOST.false)
